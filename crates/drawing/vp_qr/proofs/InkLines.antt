-- A line of modules as dots, by words.
use Rattle.std.proofs.Common.{◌≡◌, ℕ, ◌+◌, ◌-◌, ◌*◌, ◌/◌, ◌%◌, ◌^◌, eqb, ◌<◌, ◌≤◌, ◌&&◌, ◌||◌, Bool, true, false, cond, ltb, leb, List, length, replicate, get_or, ℤ, bit_or, refl, sym, ap, ◌∙◌, inl, inr, arith, mul-le-mul_right}
use Rattle.std.proofs.lemmas.Nat.{div-mul-add}
use Rattle.std.specs.Int.{bit_at}
use Rattle.std.proofs.lemmas.Nat.Bits.{bit_at-zero}
use Rattle.std.proofs.Math.Nat.{mul_comm, mul-add-div_right, le-div_iff_mul-le, div-lt_iff_lt-mul}
use Rattle.std.proofs.lemmas.Bool.{cases_lt, lt-ltb, le-ltb, lt-leb, le-leb}
use Rattle.vp_dots.specs.Dots.{bit, dot, shifted}
use Rattle.vp_dots.specs.Painting.{Painted}
use Rattle.vp_dots.specs.Words.{word_dot}
use Rattle.vp_dots.specs.declared.Op.{Op}
use Rattle.vp_dots.specs.declared.Op.TheVariants.{Black}
use Rattle.vp_dots.proofs.Bits.{bit_of_or}
use Rattle.vp_dots.proofs.Moves.{moved_same}
use Rattle.vp_dots.proofs.Paints.{painted_none, painted_then}
use Rattle.vp_dots.proofs.Rows.{dot_past}
use Rattle.vp_dots.proofs.Words.{word_shr, bit_shr}
use Rattle.vp_qr.specs.Walk.{dark}
use Rattle.vp_qr.specs.Penalty.{is_set}
use Rattle.vp_qr.proofs.FreeModules.{zero_row}
use Rattle.vp_qr.specs.Inks.{ScaledSymbol, side, ink_of, line_ink}

and_nothing : (b : Bool) → (b && false) ≡ false
and_nothing true = refl
and_nothing false = refl

or_nothing : (b : Bool) → b ≡ (b || false)
or_nothing true = refl
or_nothing false = refl

black_alone : (b : Bool) → cond b true false ≡ b
black_alone true = refl
black_alone false = refl

module_behind : (line column j : ℕ) → is_set (line / 2 ^ column) j ≡ is_set line (column + j)
unfolding bit
module_behind line column j = bit_shr line column j

-- no modules, no dots
pub no_modules : (line scale x : ℕ) → word_dot 0 x ≡ line_ink line 0 scale x
unfolding bit
no_modules line scale x = grind arith

-- one module more
module_joins : (line column scale x : ℕ) → 0 < scale
    → cond (is_set line column && (leb (column * scale) x && ltb (x - column * scale) scale)) true (line_ink line column scale x) ≡ line_ink line (column + 1) scale x
module_joins line column scale x some =
    let turn : scale * column ≡ column * scale = mul_comm scale column in
    let next : scale * (column + 1) ≡ column * scale + scale = omega (arith, turn) in
    let ink : Bool = is_set line (x / scale) in
    rw (turn, next) (elim (cases_lt x (column * scale)) [
      | inl lt ↦
          ap (λ b. cond (is_set line column && (b && ltb (x - column * scale) scale)) true (ltb x (column * scale) && ink)) (lt-leb (column * scale) x lt)
          ∙ ap (λ b. cond b true (ltb x (column * scale) && ink)) (and_nothing (is_set line column))
          ∙ ap (λ b. b && ink) (lt-ltb x (column * scale) lt ∙ sym (lt-ltb x (column * scale + scale) (omega arith)))
      | inr le ↦
          ap (λ b. cond (is_set line column && (leb (column * scale) x && ltb (x - column * scale) scale)) true (b && ink)) (le-ltb x (column * scale) le)
          ∙ ap (λ b. cond (is_set line column && (b && ltb (x - column * scale) scale)) true false) (le-leb (column * scale) x le)
          ∙ black_alone (is_set line column && ltb (x - column * scale) scale)
          ∙ elim (cases_lt x (column * scale + scale)) as (λ _. (is_set line column && ltb (x - column * scale) scale) ≡ (ltb x (column * scale + scale) && ink)) [
            | inl lt ↦
                let whole : x ≡ column * scale + (x - column * scale) = omega arith in
                let e : x / scale ≡ column = ap (λ n. n / scale) whole ∙ div-mul-add column scale (x - column * scale) (omega arith) in
                ap (λ b. is_set line column && b) (lt-ltb (x - column * scale) scale (omega arith))
                ∙ whole_and (is_set line column)
                ∙ sym (ap (λ b. b && ink) (lt-ltb x (column * scale + scale) lt) ∙ ap (is_set line) e)
            | inr past ↦
                ap (λ b. is_set line column && b) (le-ltb (x - column * scale) scale (omega arith))
                ∙ and_nothing (is_set line column)
                ∙ sym (ap (λ b. b && ink) (le-ltb x (column * scale + scale) past))
          ]
    ])
  where
    whole_and : (b : Bool) → (b && true) ≡ b
    whole_and true = refl
    whole_and false = refl

pub module_more : (line column scale word module_dots one : ℕ) (has : Bool) → 0 < scale → (column + 1) * scale ≤ 64 → module_dots < 2 ^ 64
    → ((x : ℕ) → word_dot module_dots x ≡ ltb x scale) → has ≡ is_set line column
    → ((j : ℕ) → is_set one j ≡ (has && is_set (module_dots / 2 ^ (column * scale)) j))
    → ((x : ℕ) → word_dot word x ≡ line_ink line column scale x)
    → (x : ℕ) → word_dot (bit_or word one) x ≡ line_ink line (column + 1) scale x
unfolding bit
module_more line column scale word module_dots one has some room fits first is joined before x =
    let m : ℕ = column * scale in
    let turn : scale * (column + 1) ≡ (column + 1) * scale = mul_comm scale (column + 1) in
    elim (cases_lt x 64) [
      | inr past ↦
          ap (λ b. b && bit (bit_or word one) (63 - x)) (le-ltb x 64 past)
          ∙ sym (ap (λ b. b && is_set line (x / scale)) (le-ltb x (scale * (column + 1)) (omega arith)))
      | inl lt ↦
          let here : ltb x 64 ≡ true = lt-ltb x 64 lt in
          let near : ltb (x - m) 64 ≡ true = lt-ltb (x - m) 64 (omega arith) in
          let old : bit word (63 - x) ≡ line_ink line column scale x = sym (ap (λ b. b && bit word (63 - x)) here) ∙ before x in
          let of_module : bit module_dots (63 - (x - m)) ≡ ltb (x - m) scale = sym (ap (λ b. b && bit module_dots (63 - (x - m))) near) ∙ first (x - m) in
          let new : bit one (63 - x) ≡ (is_set line column && (leb m x && ltb (x - m) scale)) =
          joined (63 - x)
          ∙ ap (λ b. b && bit (module_dots / 2 ^ m) (63 - x)) is
          ∙ ap (λ b. is_set line column && b) (word_shr module_dots m x fits lt)
          ∙ ap (λ b. is_set line column && (leb m x && b)) of_module in
          ap (λ b. b && bit (bit_or word one) (63 - x)) here
          ∙ bit_of_or word one (63 - x)
          ∙ ap (λ b. cond b true (bit word (63 - x))) new
          ∙ ap (λ b. cond (is_set line column && (leb m x && ltb (x - m) scale)) true b) old
          ∙ module_joins line column scale x some
    ]

-- the ink of a line left of a column of modules
abbrev pub left_ink : ℕ → ℕ → ℕ → ℕ → ℕ → Bool
left_ink line size scale column x = ltb x (column * scale) && line_ink line size scale x

-- white bytes
white_row : (x : ℕ) → dot (replicate 120 0) x ≡ false
unfolding dot bit
white_row x = ap (λ n. eqb (bit_at n (7 - x % 8)) 1) (zero_row 120 (x / 8)) ∙ ap (λ n. eqb n 1) (bit_at-zero (7 - x % 8))

module _ (line size scale : ℕ) (some : 0 < scale) where
  -- the modules of a word are the next ones of the line
  word_joins : (column modules x : ℕ) → column + modules ≤ size
      → left_ink line size scale (column + modules) x ≡ (left_ink line size scale column x || (leb (column * scale) x && line_ink (line / 2 ^ column) modules scale (x - column * scale)))
  word_joins column modules x within =
      let at : ℕ = column * scale in
      let turn : scale * modules ≡ modules * scale = mul_comm scale modules in
      let turned : scale * size ≡ size * scale = mul_comm scale size in
      let next : (column + modules) * scale ≡ at + modules * scale = omega arith in
      let inside : (column + modules) * scale ≤ size * scale = mul-le-mul_right scale within in
      let ink : Bool = line_ink line size scale x in
      let more : Bool = line_ink (line / 2 ^ column) modules scale (x - at) in
      elim (cases_lt x at) [
        | inl lt ↦
            ap (λ b. b && ink) (lt-ltb x ((column + modules) * scale) (omega arith))
            ∙ or_nothing ink
            ∙ sym (ap (λ b. (b && ink) || (leb at x && more)) (lt-ltb x at lt) ∙ ap (λ b. ink || (b && more)) (lt-leb at x lt))
        | inr le ↦
            let place : x ≡ at + (x - at) = omega arith in
            let e : x / scale ≡ column + (x - at) / scale = ap (λ n. n / scale) place ∙ mul-add-div_right some column (x - at) in
            let same : is_set (line / 2 ^ column) ((x - at) / scale) ≡ is_set line (x / scale) = module_behind line column ((x - at) / scale) ∙ ap (is_set line) (sym e) in
            elim (cases_lt x ((column + modules) * scale)) as (λ _. left_ink line size scale (column + modules) x ≡ (left_ink line size scale column x || (leb at x && more))) [
              | inl lt ↦
                  ap (λ b. b && ink) (lt-ltb x ((column + modules) * scale) lt)
                  ∙ ap (λ b. b && is_set line (x / scale)) (lt-ltb x (scale * size) (omega arith))
                  ∙ sym (right_part x at le ink more ∙ ap (λ b. b && is_set (line / 2 ^ column) ((x - at) / scale)) (lt-ltb (x - at) (scale * modules) (omega arith)) ∙ same)
              | inr past ↦
                  ap (λ b. b && ink) (le-ltb x ((column + modules) * scale) past)
                  ∙ sym (right_part x at le ink more ∙ ap (λ b. b && is_set (line / 2 ^ column) ((x - at) / scale)) (le-ltb (x - at) (scale * modules) (omega arith)))
            ]
      ]
    where
      right_part : (x at : ℕ) → at ≤ x → (ink more : Bool) → ((ltb x at && ink) || (leb at x && more)) ≡ more
      right_part x at le ink more = ap (λ b. (b && ink) || (leb at x && more)) (le-ltb x at le) ∙ ap (λ b. b && more) (le-leb at x le)

  word_apart : (column x : ℕ) (more : Bool) → (left_ink line size scale column x && (leb (column * scale) x && more)) ≡ false
  word_apart column x more =
      let ink : Bool = line_ink line size scale x in
      elim (cases_lt x (column * scale)) [
        | inl lt ↦ ap (λ b. (ltb x (column * scale) && ink) && (b && more)) (lt-leb (column * scale) x lt) ∙ and_nothing (ltb x (column * scale) && ink)
        | inr le ↦ ap (λ b. (b && ink) && (leb (column * scale) x && more)) (le-ltb x (column * scale) le)
      ]

  pub word_more : (column modules word : ℕ) (a b c : List ℕ) → column + modules ≤ size
      → ((x : ℕ) → word_dot word x ≡ line_ink (line / 2 ^ column) modules scale x)
      → Painted Black (left_ink line size scale column) a b
      → Painted Black (λ d. leb (column * scale) d && word_dot word (d - column * scale)) b c
      → Painted Black (left_ink line size scale (column + modules)) a c
  word_more column modules word a b c within is p q =
      painted_then Black (left_ink line size scale column) (λ d. leb (column * scale) d && word_dot word (d - column * scale)) (left_ink line size scale (column + modules)) a b c p q
      (λ d l. word_joins column modules d within ∙ ap (λ b. left_ink line size scale column d || (leb (column * scale) d && b)) (sym (is (d - column * scale))))
      (λ d l. word_apart column d (word_dot word (d - column * scale)))

  pub no_words : (a : List ℕ) → Painted Black (left_ink line size scale 0) a a
  no_words a =
      let e : 0 * scale ≡ 0 = omega arith in
      painted_none Black (left_ink line size scale 0) a (λ x l. ap (λ m. ltb x m && line_ink line size scale x) e ∙ ap (λ b. b && line_ink line size scale x) (le-ltb x 0 (omega arith)))

  all_left : (column x : ℕ) → size ≤ column → left_ink line size scale column x ≡ line_ink line size scale x
  all_left column x past =
      let turn : scale * size ≡ size * scale = mul_comm scale size in
      elim (cases_lt x (scale * size)) [
        | inl lt ↦ ap (λ b. b && line_ink line size scale x) (lt-ltb x (column * scale) (omega (arith, mul-le-mul_right scale past)))
        | inr le ↦
            let none : line_ink line size scale x ≡ false = ap (λ b. b && is_set line (x / scale)) (le-ltb x (scale * size) le) in
            ap (λ b. ltb x (column * scale) && b) none ∙ and_nothing (ltb x (column * scale)) ∙ sym none
      ]

  pub line_whole : (column : ℕ) (dots : List ℕ) → size ≤ column → size ≤ 57 → scale ≤ 16
      → Painted Black (left_ink line size scale column) (replicate 120 0) dots → (x : ℕ) → dot dots x ≡ line_ink line size scale x
  line_whole column dots past high most p x =
      let all : length dots ≡ 120 = p.length_is in
      elim (cases_lt x 960) [
        | inl lt ↦
            p.dots_are x (omega (arith, all))
            ∙ ap (λ b. cond (left_ink line size scale column x) true b) (white_row x)
            ∙ black_alone (left_ink line size scale column x)
            ∙ all_left column x past
        | inr le ↦
            let short : scale * size ≤ 16 * size = mul-le-mul_right size most in
            dot_past dots x (omega (arith, all)) ∙ sym (ap (λ b. b && is_set line (x / scale)) (le-ltb x (scale * size) (omega arith)))
      ]

line_is : (s : ScaledSymbol) (y : ℕ) → y < side s → (x : ℕ) → line_ink (get_or s.rows (y / s.scale) 0) s.size s.scale x ≡ ink_of s x y
unfolding dark
line_is s y hy x = grind arith

pub line_painted : (op : Op) (at : ℤ) (s : ScaledSymbol) (y : ℕ) (a b : List ℕ) → y < side s
    → Painted op (shifted at (line_ink (get_or s.rows (y / s.scale) 0) s.size s.scale)) a b → Painted op (shifted at (λ x. ink_of s x y)) a b
line_painted op at s y a b hy p = moved_same op at (line_ink (get_or s.rows (y / s.scale) 0) s.size s.scale) (λ x. ink_of s x y) a b (line_is s y hy) p

-- lines of the modules that line y shows
pub ink_alike : (s : ScaledSymbol) (x y v : ℕ) → 0 < s.scale → y < side s → (y / s.scale) * s.scale ≤ v → v < (y / s.scale) * s.scale + s.scale → ink_of s x v ≡ ink_of s x y
ink_alike s x y v h inside low high =
    let q : v / s.scale ≡ y / s.scale = quotient v s.scale (y / s.scale) h low (omega (arith, high)) in
    let below : v < side s = rows_below s.scale s.size (y / s.scale) v ((div-lt_iff_lt-mul {k = s.scale} {x = y} {y = s.size} h).1 (let t : s.scale * s.size ≡ s.size * s.scale = mul_comm s.scale s.size in omega (arith, t, inside))) high in
    rw (q, lt-ltb v (side s) below, lt-ltb y (side s) inside) refl
  where
    quotient : (a w q : ℕ) → 0 < w → q * w ≤ a → a < q * w + w → a / w ≡ q
    quotient a w q p l h =
        let least : q ≤ a / w = (le-div_iff_mul-le {k = w} {x = q} {y = a} p).1 l in
        let most : a / w < q + 1 = (div-lt_iff_lt-mul {k = w} {x = a} {y = q + 1} p).1 (omega (arith, h)) in
        omega arith

    rows_below : (w n q v : ℕ) → q < n → v < q * w + w → v < w * n
    rows_below w n q v l h =
        let m : (q + 1) * w ≤ n * w = mul-le-mul_right w (let o : q + 1 ≤ n = omega arith in o) in
        let t : w * n ≡ n * w = mul_comm w n in
        omega arith
