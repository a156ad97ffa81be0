-- The dark modules of the shapes of a row, as words.
use Rattle.std.proofs.Common.{◌≡◌, ℕ, zero, suc, ◌+◌, ◌-◌, ◌*◌, ◌/◌, ◌%◌, ◌^◌, ◌<◌, ◌≤◌, max, ◌&&◌, ◌||◌, not, Bool, true, false, eqb, ltb, leb, cond, refl, sym, ap, ◌∙◌, ◌⊎◌, inl, inr, arith, bit_or, bit_and}
use mathlib.Core.Bool.{beq}
use Rattle.std.specs.Int.{bit_at}
use Rattle.std.proofs.lemmas.Bool.{cases_lt, or_cases, and_parts, lt-ltb, le-ltb, lt-leb, le-leb, ltb-true, leb-true, ne_eqb}
use Rattle.std.proofs.lemmas.Nat.Bits.{bit_at-zero}
use Rattle.vp_dots.specs.Dots.{bit}
use Rattle.vp_dots.proofs.Cuts.{bit_low64}
use Rattle.vp_dots.proofs.Words.{bit_shl}
use Rattle.vp_qr.specs.Penalty.{is_set}
use Rattle.vp_qr.specs.Places.{size, last_centre, middle_centre, near, corner, alignment, version_area, reserved}
use Rattle.vp_qr.specs.Symbol.{apart, ring, finder, finder_centre, finder_dark, alignment_centre, alignment_dark, version_bit, format_bit, module_at, differ, formula, pattern_dark}
use Rattle.vp_qr.proofs.FieldLaws.{passes_below, passes_at}
use Rattle.vp_qr.proofs.FreeModules.{finder_corner, dark_corner}
use Rattle.vp_qr.proofs.Modules.{beq_same, either, is_set_and, is_set_or, is_set_shr}

-- a bit of a word that is moved up
pub is_set_shl : (a k j : ℕ) → j < 64 → is_set (a * 2 ^ k % 2 ^ 64) j ≡ (leb k j && is_set a (j - k))
unfolding bit
is_set_shl a k j h = bit_low64 (a * 2 ^ k) j h ∙ bit_shl a k j

-- where a shape stands, and elsewhere
pub chosen_is : (s i o : Bool) → ((i && s) || (o && not s)) ≡ cond s i o
chosen_is true true true = refl
chosen_is true true false = refl
chosen_is true false true = refl
chosen_is true false false = refl
chosen_is false true true = refl
chosen_is false true false = refl
chosen_is false false true = refl
chosen_is false false false = refl

-- the square and the ring of a finder
abbrev pub in_finder : ℕ → ℕ → Bool
in_finder away j = ltb (max away (apart 3 j)) 2 || eqb (max away (apart 3 j)) 3

pub finder_row_is : (away word : ℕ) → passes_below 64 (λ j. beq (is_set word j) (in_finder away j)) ≡ true → (j : ℕ) → j < 64 → is_set word j ≡ in_finder away j
finder_row_is away word all j h = beq_same _ _ (passes_at 64 (λ k. beq (is_set word k) (in_finder away k)) all j h)

far_ring : (ring : ℕ) → 4 ≤ ring → (ltb ring 2 || eqb ring 3) ≡ false
far_ring ring h = ap (λ b. b || eqb ring 3) (le-ltb ring 2 (omega arith)) ∙ ne_eqb ring 3 (λ e. omega arith)

or_none : (b : Bool) → (b || false) ≡ b
or_none true = refl
or_none false = refl

and_none : (b : Bool) → (b && false) ≡ false
and_none true = refl
and_none false = refl

right_side : (s i j : ℕ) → 8 ≤ j → finder s i j ≡ true → s - 8 ≤ j
right_side s i j right h = grind arith

pub finder_line_is : (s i one j : ℕ) → 21 ≤ s → s ≤ 57 → j < s
    → ((k : ℕ) → k < 64 → is_set one k ≡ in_finder (apart (finder_centre s i) i) k)
    → finder s i j ≡ true → is_set (bit_or one (one * 2 ^ (s - 7) % 2 ^ 64)) j ≡ finder_dark s i j
unfolding finder_dark
finder_line_is s i one j low high hj row here =
    let away : ℕ = apart (finder_centre s i) i in
    let dark : ℕ → Bool = λ centre. ltb (max away (apart centre j)) 2 || eqb (max away (apart centre j)) 3 in
    is_set_or one (one * 2 ^ (s - 7) % 2 ^ 64) j
    ∙ ap (λ b. is_set one j || b) (is_set_shl one (s - 7) j (omega arith))
    ∙ elim (cases_lt j 8) as (λ _. (is_set one j || (leb (s - 7) j && is_set one (j - (s - 7)))) ≡ dark (finder_centre s j)) [
      | inl lt ↦
          let centre : finder_centre s j ≡ 3 = ap (λ b. cond b 3 (s - 4)) (lt-ltb j 8 lt) in
          ap (λ b. is_set one j || (b && is_set one (j - (s - 7)))) (lt-leb (s - 7) j (omega arith))
          ∙ or_none (is_set one j)
          ∙ row j (omega arith)
          ∙ ap dark (sym centre)
      | inr right ↦
          let centre : finder_centre s j ≡ s - 4 = ap (λ b. cond b 3 (s - 4)) (le-ltb j 8 right) in
          let near_end : s - 8 ≤ j = right_side s i j right here in
          let left : is_set one j ≡ false = row j (omega arith) ∙ far_ring (max away (apart 3 j)) (omega arith) in
          ap (λ b. b || (leb (s - 7) j && is_set one (j - (s - 7)))) left
          ∙ elim (cases_lt j (s - 7)) as (λ _. (leb (s - 7) j && is_set one (j - (s - 7))) ≡ dark (finder_centre s j)) [
            | inl lt ↦
                ap (λ b. b && is_set one (j - (s - 7))) (lt-leb (s - 7) j lt)
                ∙ sym (ap dark centre ∙ far_ring (max away (apart (s - 4) j)) (omega arith))
            | inr le ↦
                let same : apart 3 (j - (s - 7)) ≡ apart (s - 4) j = omega arith in
                ap (λ b. b && is_set one (j - (s - 7))) (le-leb (s - 7) j le)
                ∙ row (j - (s - 7)) (omega arith)
                ∙ ap (λ n. ltb (max away n) 2 || eqb (max away n) 3) same
                ∙ ap dark (sym centre)
          ]
    ]

-- all but the first ring of an alignment pattern
abbrev pub in_alignment : ℕ → ℕ → Bool
in_alignment away j = ltb j 5 && not (eqb (max away (apart 2 j)) 1)

pub alignment_row_is : (away word : ℕ) → passes_below 64 (λ j. beq (is_set word j) (in_alignment away j)) ≡ true → (j : ℕ) → j < 64 → is_set word j ≡ in_alignment away j
alignment_row_is away word all j h = beq_same _ _ (passes_at 64 (λ k. beq (is_set word k) (in_alignment away k)) all j h)

five : passes_below 64 (λ j. beq (is_set 0x1f j) (ltb j 5)) ≡ true
five = refl

pub alignment_row_far : (away j : ℕ) → 2 ≤ away → j < 64 → is_set 0x1f j ≡ in_alignment away j
alignment_row_far away j h lt =
    let dark : not (eqb (max away (apart 2 j)) 1) ≡ true = ap not (ne_eqb (max away (apart 2 j)) 1 (λ e. omega arith)) in
    beq_same _ _ (passes_at 64 (λ k. beq (is_set 0x1f k) (ltb k 5)) five j lt) ∙ sym (ap (λ b. ltb j 5 && b) dark ∙ and_whole (ltb j 5))
  where
    and_whole : (b : Bool) → (b && true) ≡ b
    and_whole true = refl
    and_whole false = refl

near_low : (c j : ℕ) → near c j ≡ true → c ≤ j + 2
near_low c j h = leb-true c (j + 2) (and_parts _ _ h).0

near_high : (c j : ℕ) → near c j ≡ true → j ≤ c + 2
near_high c j h = leb-true j (c + 2) (and_parts _ _ h).1

above_none : (c j : ℕ) → c + 2 < j → near c j ≡ false
above_none c j h = ap (λ b. leb c (j + 2) && b) (lt-leb j (c + 2) h) ∙ and_none (leb c (j + 2))

-- an alignment pattern stands in the last column of them, or from version 7 on in any
alignment_parts : (two ai aj seven mi mj si sj : Bool) → ((two && ai && aj) || (seven && ((mi && ((sj || mj) || aj)) || (mj && (si || ai))))) ≡ true
    → ((two ≡ true) × (aj ≡ true)) ⊎ ((seven ≡ true) × (((sj || mj) || aj) ≡ true))
alignment_parts two ai aj seven mi mj si sj h = grind arith

-- a pattern of five columns moved to its place
module _ (away one j : ℕ) (hj : j < 57) (row : (k : ℕ) → k < 64 → is_set one k ≡ in_alignment away k) where
  before : (k : ℕ) → j < k → is_set (one * 2 ^ k % 2 ^ 64) j ≡ false
  before k h = is_set_shl one k j (omega arith) ∙ ap (λ b. b && is_set one (j - k)) (lt-leb k j h)

  behind : (k : ℕ) → k + 5 ≤ j → is_set (one * 2 ^ k % 2 ^ 64) j ≡ false
  behind k h =
      is_set_shl one k j (omega arith)
      ∙ ap (λ b. leb k j && b) (row (j - k) (omega arith) ∙ ap (λ b. b && not (eqb (max away (apart 2 (j - k))) 1)) (le-ltb (j - k) 5 (omega arith)))
      ∙ and_none (leb k j)

  there : (k : ℕ) → k ≤ j → j < k + 5 → is_set (one * 2 ^ k % 2 ^ 64) j ≡ not (eqb (max away (apart (k + 2) j)) 1)
  there k low high =
      let same : apart 2 (j - k) ≡ apart (k + 2) j = omega arith in
      is_set_shl one k j (omega arith)
      ∙ ap (λ b. b && is_set one (j - k)) (le-leb k j low)
      ∙ row (j - k) (omega arith)
      ∙ ap (λ b. b && not (eqb (max away (apart 2 (j - k))) 1)) (lt-ltb (j - k) 5 (omega arith))
      ∙ ap (λ n. not (eqb (max away n) 1)) same

  three : (a b c : ℕ) (p q r : Bool) → is_set a j ≡ p → is_set b j ≡ q → is_set c j ≡ r → is_set (bit_or (bit_or a b) c) j ≡ ((p || q) || r)
  three a b c p q r ha hb hc = is_set_or (bit_or a b) c j ∙ ap (λ t. t || is_set c j) (is_set_or a b j ∙ ap (λ t. t || is_set b j) ha ∙ ap (λ t. p || t) hb) ∙ ap (λ t. (p || q) || t) hc

  abbrev words : ℕ → ℕ
  words v = bit_or (bit_or (one * 2 ^ 4 % 2 ^ 64) (one * 2 ^ (6 + 2 * v) % 2 ^ 64)) (one * 2 ^ (8 + 4 * v) % 2 ^ 64)

  at_six : (v : ℕ) → 7 ≤ v → near 6 j ≡ true → is_set (words v) j ≡ not (eqb (max away (apart (alignment_centre v j) j)) 1)
  at_six v seven h =
      let low = near_low 6 j h in
      let high = near_high 6 j h in
      three _ _ _ _ _ _ (there 4 (omega arith) (omega arith)) (before (6 + 2 * v) (omega arith)) (before (8 + 4 * v) (omega arith))
      ∙ or_none _ ∙ or_none _
      ∙ ap (λ n. not (eqb (max away (apart n j)) 1)) (sym (ap (λ b. cond b 6 (cond (near (middle_centre v) j && leb 7 v) (middle_centre v) (last_centre v))) h))

  at_middle : (v : ℕ) → 7 ≤ v → near (middle_centre v) j ≡ true → is_set (words v) j ≡ not (eqb (max away (apart (alignment_centre v j) j)) 1)
  at_middle v seven h =
      let low = near_low (middle_centre v) j h in
      let high = near_high (middle_centre v) j h in
      let place : 6 + 2 * v + 2 ≡ middle_centre v = omega arith in
      let centre : alignment_centre v j ≡ middle_centre v =
      ap (λ b. cond b 6 (cond (near (middle_centre v) j && leb 7 v) (middle_centre v) (last_centre v))) (above_none 6 j (omega arith))
      ∙ ap (λ b. cond (b && leb 7 v) (middle_centre v) (last_centre v)) h
      ∙ ap (λ b. cond b (middle_centre v) (last_centre v)) (le-leb 7 v seven) in
      three _ _ _ _ _ _ (behind 4 (omega arith)) (there (6 + 2 * v) (omega arith) (omega arith)) (before (8 + 4 * v) (omega arith))
      ∙ or_none _
      ∙ ap (λ n. not (eqb (max away (apart n j)) 1)) (place ∙ sym centre)

  not_middle : (v : ℕ) → last_centre v ≤ j + 2 → (near (middle_centre v) j && leb 7 v) ≡ false
  not_middle v low = elim (cases_lt v 7) [
    | inl lt ↦ ap (λ b. near (middle_centre v) j && b) (lt-leb 7 v lt) ∙ and_none (near (middle_centre v) j)
    | inr seven ↦ ap (λ b. b && leb 7 v) (above_none (middle_centre v) j (omega arith))
  ]

  at_last : (v : ℕ) → 2 ≤ v → near (last_centre v) j ≡ true → is_set (words v) j ≡ not (eqb (max away (apart (alignment_centre v j) j)) 1)
  at_last v two h =
      let low = near_low (last_centre v) j h in
      let high = near_high (last_centre v) j h in
      let place : 8 + 4 * v + 2 ≡ last_centre v = omega arith in
      let centre : alignment_centre v j ≡ last_centre v =
      ap (λ b. cond b 6 (cond (near (middle_centre v) j && leb 7 v) (middle_centre v) (last_centre v))) (above_none 6 j (omega arith))
      ∙ ap (λ b. cond b (middle_centre v) (last_centre v)) (not_middle v low) in
      three _ _ _ _ _ _ (behind 4 (omega arith)) (behind (6 + 2 * v) (omega arith)) (there (8 + 4 * v) (omega arith) (omega arith))
      ∙ ap (λ n. not (eqb (max away (apart n j)) 1)) (place ∙ sym centre)

  at_any : (v : ℕ) → 7 ≤ v → ((near 6 j || near (middle_centre v) j) || near (last_centre v) j) ≡ true → is_set (words v) j ≡ not (eqb (max away (apart (alignment_centre v j) j)) 1)
  at_any v seven h = elim (or_cases _ _ h) [
    | inr last ↦ at_last v (omega arith) last
    | inl first ↦ elim (or_cases _ _ first) [ inl six ↦ at_six v seven six | inr middle ↦ at_middle v seven middle ]
  ]

  pub alignment_words : (v i : ℕ) → away ≡ apart (alignment_centre v i) i → alignment v i j ≡ true → is_set (words v) j ≡ alignment_dark v i j
  unfolding alignment_dark
  alignment_words v i e h =
      elim (alignment_parts (leb 2 v) (near (last_centre v) i) (near (last_centre v) j) (leb 7 v) (near (middle_centre v) i) (near (middle_centre v) j) (near 6 i) (near 6 j) h) as (λ _. is_set (words v) j ≡ not (eqb (max away (apart (alignment_centre v j) j)) 1)) [
        | inl last ↦ at_last v (leb-true 2 v last.0) last.1
        | inr any ↦ at_any v (leb-true 7 v any.0) any.1
      ]
      ∙ ap (λ n. not (eqb (max n (apart (alignment_centre v j) j)) 1)) e

-- every third bit
module _ (bits j : ℕ) where
  masked : (m k : ℕ) → is_set (bit_and m (bits / 2 ^ k)) j ≡ (is_set m j && is_set bits (j + k))
  masked m k = is_set_and m (bits / 2 ^ k) j ∙ ap (λ b. is_set m j && b) (is_set_shr bits k j)

two_left : (b : Bool) → ((b || false) || false) ≡ b
two_left true = refl
two_left false = refl

three_left : (b : Bool) → (((b || false) || false) || false) ≡ b
three_left true = refl
three_left false = refl

four_left : (b : Bool) → ((((b || false) || false) || false) || false) ≡ b
four_left true = refl
four_left false = refl

five_left : (b : Bool) → (((((b || false) || false) || false) || false) || false) ≡ b
five_left true = refl
five_left false = refl

third : (f : ℕ → Bool) (j : ℕ) → j < 6
    → ((((((is_set 1 j && f j) || (is_set 2 j && f (j + 2))) || (is_set 4 j && f (j + 4))) || (is_set 8 j && f (j + 6))) || (is_set 16 j && f (j + 8))) || (is_set 32 j && f (j + 10))) ≡ f (3 * j)
third f zero h = five_left (f 0)
third f (suc zero) h = four_left (f 3)
third f (suc (suc zero)) h = three_left (f 6)
third f (suc (suc (suc zero))) h = two_left (f 9)
third f (suc (suc (suc (suc zero)))) h = or_none (f 12)
third f (suc (suc (suc (suc (suc zero))))) h = refl
third f (suc (suc (suc (suc (suc (suc n)))))) h = absurd (omega arith)

pub thirds_are : (bits j : ℕ) → j < 6
    → is_set (bit_or (bit_or (bit_or (bit_or (bit_or (bit_and 1 bits) (bit_and 2 (bits / 2 ^ 2))) (bit_and 4 (bits / 2 ^ 4))) (bit_and 8 (bits / 2 ^ 6))) (bit_and 16 (bits / 2 ^ 8))) (bit_and 32 (bits / 2 ^ 10))) j ≡ is_set bits (3 * j)
thirds_are bits j h =
    let l : j < 64 = omega arith in
    either j l _ _ _ _ (either j l _ _ _ _ (either j l _ _ _ _ (either j l _ _ _ _ (either j l _ _ _ _ (is_set_and 1 bits j) (masked bits j 2 2)) (masked bits j 4 4)) (masked bits j 8 6)) (masked bits j 16 8)) (masked bits j 32 10)
    ∙ third (is_set bits) j h

-- the version stands in three columns above, or in six beside
two_areas : (seven a b c d e f : Bool) → (seven && ((a && b && c) || (d && e && f))) ≡ true → ((a ≡ true) × (b ≡ true)) ⊎ ((d ≡ true) × (e ≡ true))
two_areas seven a b c d e f h = grind arith

-- the version above and beside the finders
module _ (v code i j : ℕ) (low : 1 ≤ v) (high : v ≤ 10) (hj : j < size v) (here : version_area v i j ≡ true) where
  pub version_above : i < 6 → is_set (code / 2 ^ (3 * i) * 2 ^ (size v - 11) % 2 ^ 64) j ≡ eqb (bit_at code (version_bit (size v) i j)) 1
  version_above top =
      let s : ℕ = size v in
      let start : s - 11 ≤ j = elim (two_areas (leb 7 v) (ltb i 6) (leb (s - 11) j) (ltb j (s - 8)) (ltb j 6) (leb (s - 11) i) (ltb i (s - 8)) here) [
        | inl above ↦ leb-true (s - 11) j above.1
        | inr down ↦ let le : s - 11 ≤ i = leb-true (s - 11) i down.1 in absurd (omega arith)
      ] in
      let place : j - (s - 11) + 3 * i ≡ 3 * i + (j - (s - 11)) = omega arith in
      is_set_shl (code / 2 ^ (3 * i)) (s - 11) j (omega arith)
      ∙ ap (λ b. b && is_set (code / 2 ^ (3 * i)) (j - (s - 11))) (le-leb (s - 11) j start)
      ∙ is_set_shr code (3 * i) (j - (s - 11))
      ∙ ap (is_set code) (place ∙ sym (ap (λ b. cond b (3 * i + (j - (s - 11))) (3 * j + (i - (s - 11)))) (lt-ltb i 6 top)))

  pub version_beside : (word : ℕ) → 6 ≤ i → ((k : ℕ) → k < 6 → is_set word k ≡ is_set (code / 2 ^ (i - (size v - 11))) (3 * k)) → is_set word j ≡ eqb (bit_at code (version_bit (size v) i j)) 1
  version_beside word past bits =
      let s : ℕ = size v in
      let left : j < 6 = elim (two_areas (leb 7 v) (ltb i 6) (leb (s - 11) j) (ltb j (s - 8)) (ltb j 6) (leb (s - 11) i) (ltb i (s - 8)) here) [
        | inl above ↦ let lt : i < 6 = ltb-true i 6 above.0 in absurd (omega arith)
        | inr down ↦ ltb-true j 6 down.0
      ] in
      bits j left
      ∙ is_set_shr code (i - (s - 11)) (3 * j)
      ∙ ap (is_set code) (sym (ap (λ b. cond b (3 * i + (j - (s - 11))) (3 * j + (i - (s - 11)))) (le-ltb i 6 past)))

-- every second column of row 6
evens : passes_below 64 (λ j. beq (is_set 0x5555_5555_5555_5555 j) (eqb (j % 2) 0)) ≡ true
evens = refl

pub even_columns : (j : ℕ) → j < 64 → is_set 0x5555_5555_5555_5555 j ≡ eqb (j % 2) 0
even_columns j h = beq_same _ _ (passes_at 64 (λ k. beq (is_set 0x5555_5555_5555_5555 k) (eqb (k % 2) 0)) evens j h)

clash : {A : Type 0} → true ≡ false → A
clash e = cc

-- the shape that is tested first holds
chain : (fi r c al ve dk co : Bool) (p p2 q t t2 a a2 v v2 x z : Bool) → (co ≡ false → fi ≡ false) → (co ≡ false → dk ≡ false) → z ≡ false
    → (fi ≡ true → p2 ≡ p) → (c ≡ true → t2 ≡ t) → (al ≡ true → a2 ≡ a) → (ve ≡ true → v2 ≡ v)
    → cond fi p2 (cond r q (cond c t2 (cond al a2 (cond ve v2 dk))))
    ≡ ((co || r || c || al || ve) && cond fi p (cond r q (cond c t (cond al a (cond ve v (cond dk true (cond co z x)))))))
chain true r c al ve dk true p p2 q t t2 a a2 v v2 x z f d e hp ht ha hv = hp refl
chain true r c al ve dk false p p2 q t t2 a a2 v v2 x z f d e hp ht ha hv = clash (f refl)
chain false true c al ve dk true p p2 q t t2 a a2 v v2 x z f d e hp ht ha hv = refl
chain false true c al ve dk false p p2 q t t2 a a2 v v2 x z f d e hp ht ha hv = refl
chain false false true al ve dk true p p2 q t t2 a a2 v v2 x z f d e hp ht ha hv = ht refl
chain false false true al ve dk false p p2 q t t2 a a2 v v2 x z f d e hp ht ha hv = ht refl
chain false false false true ve dk true p p2 q t t2 a a2 v v2 x z f d e hp ht ha hv = ha refl
chain false false false true ve dk false p p2 q t t2 a a2 v v2 x z f d e hp ht ha hv = ha refl
chain false false false false true dk true p p2 q t t2 a a2 v v2 x z f d e hp ht ha hv = hv refl
chain false false false false true dk false p p2 q t t2 a a2 v v2 x z f d e hp ht ha hv = hv refl
chain false false false false false true true p p2 q t t2 a a2 v v2 x z f d e hp ht ha hv = refl
chain false false false false false true false p p2 q t t2 a a2 v v2 x z f d e hp ht ha hv = clash (d refl)
chain false false false false false false true p p2 q t t2 a a2 v v2 x z f d e hp ht ha hv = sym e
chain false false false false false false false p p2 q t t2 a a2 v v2 x z f d e hp ht ha hv = refl

pub pattern_is : (v code i j : ℕ) (p t a b : Bool)
    → (finder (size v) i j ≡ true → p ≡ finder_dark (size v) i j) → (eqb j 6 ≡ true → t ≡ eqb (i % 2) 0)
    → (alignment v i j ≡ true → a ≡ alignment_dark v i j) → (version_area v i j ≡ true → b ≡ eqb (bit_at code (version_bit (size v) i j)) 1)
    → cond (finder (size v) i j) p (cond (eqb i 6) (eqb (j % 2) 0) (cond (eqb j 6) t (cond (alignment v i j) a (cond (version_area v i j) b (eqb i (size v - 8) && eqb j 8)))))
    ≡ pattern_dark v code i j
unfolding pattern_dark reserved module_at
pattern_is v code i j p t a b hp ht ha hb =
    let s : ℕ = size v in
    chain (finder s i j) (eqb i 6) (eqb j 6) (alignment v i j) (version_area v i j) (eqb i (s - 8) && eqb j 8) (corner s i j)
    (finder_dark s i j) p (eqb (j % 2) 0) (eqb (i % 2) 0) t (alignment_dark v i j) a (eqb (bit_at code (version_bit s i j)) 1) b
    (differ false (eqb (formula 0 i j) 0)) (eqb (bit_at 0 (format_bit s i j)) 1)
    (finder_corner s i j) (dark_corner s i j) (ap (λ n. eqb n 1) (bit_at-zero (format_bit s i j))) hp ht ha hb
