-- Columns that are painted as they are handed out.
use Rattle.std.proofs.Common.{inl, inr, ◌⊎◌, ◌≡◌, ℕ, ◌+◌, ◌-◌, ◌*◌, ◌<◌, ◌≤◌, Bool, false, ltb, leb, ◌&&◌, arith, get_or, List, [], ◌++◌, refl, sym, ap, ◌∙◌, length, length-append, length-drop, take, drop, Option, None, Some}
use Rattle.std.specs.Prelude.{MatchOption}
use Rattle.std.proofs.Math.Seq.{drop-append_seam}
use Rattle.std.proofs.lemmas.Bool.{cases_lt, lt-ltb, le-ltb, lt-leb, le-leb}
use Rattle.std.proofs.lemmas.List.{get_or_append_left, get_or-append_right, get_or-drop, get_or-take, get_or_past, drop-drop, length-take}
use Rattle.vp_dots.specs.Dots.{dot, span}
use Rattle.vp_glyph.specs.Halves.{half_dot}
use Rattle.vp_field.proofs.AsWhole.{front_span}
use Rattle.vp_field.proofs.Columns.{white_half}
use Rattle.vp_field.proofs.Windowed.{read_within}
use Rattle.vp_field.specs.Axes.{read_at}
use Rattle.vp_field.specs.declared.axis.Axis.{Axis}
use Rattle.vp_field.specs.declared.counted_columns.CountedColumns.{CountedColumns}
use Rattle.vp_field.specs.declared.counted_columns.Handed.{Handed}
use Rattle.vp_label_size.specs.declared.TheConstants.{BAND_ROWS}

pub handed_many : (all now rest : List ℕ) → all ≡ now ++ rest → length all ≡ length now + length rest
handed_many all now rest e = ap length e ∙ length-append now rest

pub handed_rest : (n : ℕ) (all now rest : List ℕ) → length now ≡ n → all ≡ now ++ rest → drop n all ≡ rest
handed_rest n all now rest l e = rw (sym l, e) (drop-append_seam now rest)

-- columns from place x on, and those behind them
pub get_front : (now rest : List ℕ) (x i : ℕ) → length now ≡ 64 → i < 64 → get_or (now ++ rest) (x + i - x) 0 ≡ get_or now i 0
get_front now rest x i l h = let e : x + i - x ≡ i = omega arith in rw e (get_or_append_left now rest 0 i (omega (arith, l, h)))

pub get_behind : (now rest : List ℕ) (x i : ℕ) → length now ≡ 64 → get_or (now ++ rest) (x + 64 + i - x) 0 ≡ get_or rest i 0
get_behind now rest x i l = get_or-append_right now rest 64 (x + 64 + i - x) 0 l (omega arith) ∙ ap (λ n. get_or rest n 0) (omega arith)

-- the dots of columns that stand from a place on
abbrev pub columns_dot : ℕ → List ℕ → Axis → ℕ → ℕ → Bool
columns_dot from all rows d k = leb from d && half_dot (get_or all (d - from) 0) (read_at rows BAND_ROWS k)

-- words of columns that are each black or white as a whole, as a row
pub plain_dots : (x words : ℕ) (all row : List ℕ) (rows : Axis) → ((i k : ℕ) → i < 64 * words → k < BAND_ROWS → dot row i ≡ half_dot (get_or all i 0) k)
    → (d k : ℕ) → k < BAND_ROWS → (leb x d && dot (take (8 * words) row) (d - x)) ≡ (ltb d (x + 64 * words) && columns_dot x all rows d k)
plain_dots x words all row rows same d k h = front_span words row x d ∙ elim (cases_lt d x) [
  | inl o ↦ (let none : leb x d ≡ false = lt-leb x d o in grind (arith, none))
  | inr g ↦ elim (cases_lt d (x + 64 * words)) [
    | inl i ↦ rw (le-leb x d g, lt-ltb d (x + 64 * words) i) (same (d - x) (read_at rows 32 k) (omega (arith, g, i)) (read_within rows 32 k h))
    | inr o ↦ (let none : ltb d (x + 64 * words) ≡ false = le-ltb d (x + 64 * words) o in grind (arith, none))
  ]
]

pub span_dots : (x : ℕ) (all : List ℕ) (rows : Axis) (d k : ℕ)
    → (ltb d (x + length all) && columns_dot x all rows d k) ≡ (span x (x + length all) d && half_dot (get_or all (d - x) 0) (read_at rows BAND_ROWS k))
span_dots x all rows d k = turned (ltb d (x + length all)) (leb x d) (half_dot (get_or all (d - x) 0) (read_at rows BAND_ROWS k))
  where
    turned : (a b c : Bool) → (a && (b && c)) ≡ ((b && a) && c)
    turned a b c = grind arith

-- columns from a place on, some of which were handed out last, if any were: what is left behind these
abbrev pub AreLeft : ℕ → List ℕ → Option Handed → List ℕ → ℕ → Type 0
AreLeft from all last left x =
    MatchOption last (left ≡ []) (λ m. (from ≤ m.x) × (x ≡ m.x + 64) × (length m.columns.now ≡ 64) × (drop (m.x - from) all ≡ m.columns.now ++ left))

-- the place of those that were handed out last, or behind all
abbrev pub behind : ℕ → List ℕ → Option Handed → ℕ
behind from all None = from + length all
behind from all (Some m) = m.x

-- so many columns are left at most
abbrev pub many_left : Option Handed → List ℕ → ℕ
many_left None left = length left
many_left (Some m) left = length left + 64

-- so many columns at the front are plain
abbrev pub IsBehindPlain : ℕ → ℕ → List ℕ → Option Handed → List ℕ → ℕ → Type 0
IsBehindPlain from plain all last left x =
    MatchOption last ((left ≡ []) × (length all ≡ plain)) (λ m. (m.x ≡ from + plain) × (length m.columns.now ≡ 64) × (drop plain all ≡ m.columns.now ++ left) × (x ≡ m.x + 64))

pub left_init : (from plain : ℕ) (all : List ℕ) (last : Option Handed) (left : List ℕ) (x : ℕ) → IsBehindPlain from plain all last left x → AreLeft from all last left x
left_init from plain all None left x p = p.0
left_init from plain all (Some m) left x p = (omega (arith, p.0), p.3, p.1, ap (λ n. drop n all) (let e = p.0 in omega (arith, e)) ∙ p.2)

pub behind_init : (from plain : ℕ) (all : List ℕ) (last : Option Handed) (left : List ℕ) (x : ℕ) → IsBehindPlain from plain all last left x → behind from all last ≡ from + plain
behind_init from plain all None left x p = ap (λ n. from + n) p.1
behind_init from plain all (Some m) left x p = p.0

module _ (from : ℕ) (all : List ℕ) (m : Handed) (old : CountedColumns) (left : AreLeft from all (Some m) old.left.now old.x) where
  -- the columns that were handed out last, and those that are left, are some of all
  pub last_dot : (rows : Axis) (d k : ℕ) → m.x ≤ d → half_dot (get_or (m.columns.now ++ old.left.now) (d - m.x) 0) (read_at rows BAND_ROWS k) ≡ columns_dot from all rows d k
  last_dot rows d k l =
      rw (le-leb from d (omega (arith, l, left.0))) (ap (λ xs. half_dot (get_or xs (d - m.x) 0) (read_at rows BAND_ROWS k)) (sym left.3)
      ∙ ap (λ n. half_dot n (read_at rows BAND_ROWS k)) (get_or-drop (m.x - from) all (d - m.x) 0 ∙ ap (λ n. get_or all n 0) (omega (arith, l, left.0))))

  module _ (mid new : CountedColumns)
      (took : ((mid ≡ old) × (old.left.now ≡ [])) ⊎ ((mid.x ≡ old.x + 64) × (64 ≤ length old.left.now) × (mid.left.now ≡ drop 64 old.left.now))) where
    -- what is handed out next
    abbrev pub IsNext : Option Handed → Type 0
    IsNext next = MatchOption next ((new ≡ mid) × (mid.left.now ≡ [])) (λ r. (r.x ≡ mid.x) × (length r.columns.now ≡ 64) × (mid.left.now ≡ r.columns.now ++ new.left.now) × (new.x ≡ mid.x + 64))

    some_next : (r : Handed) → IsNext (Some r) → (r.x ≡ m.x + 128) × (mid.left.now ≡ drop 64 old.left.now)
    some_next r h = elim took [
      | inl t ↦ absurd (let many = handed_many mid.left.now r.columns.now new.left.now h.2 in let none = ap (λ s. length s.left.now) t.0 ∙ ap length t.1 in omega (arith, many, none, h.1))
      | inr t ↦ (omega (arith, h.0, t.0, left.1), t.2)
    ]

    few_next : mid.left.now ≡ [] → from + length all ≤ m.x + 128
    few_next e =
        let many = sym (length-drop (m.x - from) all) ∙ handed_many (drop (m.x - from) all) m.columns.now old.left.now left.3 in
        elim took [
          | inl t ↦ let none = ap length t.1 in omega (arith, many, none, left.0, left.2)
          | inr t ↦ let none = sym (length-drop 64 old.left.now) ∙ ap length (sym t.2 ∙ e) in omega (arith, many, none, left.0, left.2)
        ]

    pub left_next : (next : Option Handed) → IsNext next → AreLeft from all next new.left.now new.x
    left_next None h = ap (λ s. s.left.now) h.0 ∙ h.1
    left_next (Some r) h =
        let s = some_next r h in
        let behind = handed_rest 64 (drop (m.x - from) all) m.columns.now old.left.now left.2 left.3 in (
          omega (arith, s.0, left.0),
          omega (arith, h.0, h.3),
          h.1,
          ap (λ n. drop n all) (omega (arith, s.0, left.0)) ∙ sym (drop-drop 64 (m.x - from + 64) all) ∙ ap (drop 64) (sym (drop-drop 64 (m.x - from) all) ∙ behind) ∙ sym s.1 ∙ h.2,
        )

    pub fewer_next : (next : Option Handed) → IsNext next → many_left next new.left.now < length old.left.now + 64
    fewer_next None h = let none = ap (λ s. length s.left.now) h.0 ∙ ap length h.1 in omega (arith, none)
    fewer_next (Some r) h =
        let many = handed_many mid.left.now r.columns.now new.left.now h.2 in
        elim took [
          | inl t ↦ let same = ap (λ s. length s.left.now) t.0 in omega (arith, many, same, h.1)
          | inr t ↦ let less = ap length t.2 ∙ length-drop 64 old.left.now in omega (arith, many, less, h.1)
        ]

    -- two words of columns are painted, or all
    pub behind_next : (next : Option Handed) → IsNext next → (rows : Axis) (d k : ℕ)
        → (ltb d (m.x + 128) && columns_dot from all rows d k) ≡ (ltb d (behind from all next) && columns_dot from all rows d k)
    behind_next (Some r) h rows d k = ap (λ n. ltb d n && columns_dot from all rows d k) (sym (some_next r h).0)
    behind_next None h rows d k = elim (cases_lt d (from + length all)) [
      | inl y ↦ rw (lt-ltb d (from + length all) y, lt-ltb d (m.x + 128) (let few = few_next h.1 in omega (arith, few, y))) refl
      | inr y ↦ rw (le-ltb d (from + length all) y, le-leb from d (omega (arith, y)), get_or_past all (d - from) 0 (omega (arith, y)), white_half (read_at rows 32 k)) (none (ltb d (m.x + 128)))
    ]
      where
        none : (b : Bool) → (b && false) ≡ false
        none b = grind arith

-- columns as far as they are handed out, behind which all are white
pub cut_dots : (from n many : ℕ) (all : List ℕ) (rows : Axis) → many ≤ n → many ≤ length all → ((i : ℕ) → many ≤ i → get_or all i 0 ≡ 0) → (d k : ℕ)
    → (span from (from + length (take n all)) d && half_dot (get_or (take n all) (d - from) 0) (read_at rows BAND_ROWS k)) ≡ columns_dot from all rows d k
cut_dots from n many all rows l h white d k = elim (cases_lt d from) [
  | inl o ↦ (let none : leb from d ≡ false = lt-leb from d o in grind (arith, none))
  | inr g ↦ elim (cases_lt d (from + length (take n all))) [
    | inl i ↦ (let long = length-take n all in rw (le-leb from d g, lt-ltb d (from + length (take n all)) i) (ap (λ m. half_dot m (read_at rows 32 k)) (get_or-take n all (d - from) 0 (omega (arith, g, i, long)))))
    | inr o ↦ (let long = length-take n all in rw (le-leb from d g, le-ltb d (from + length (take n all)) o, white (d - from) (omega (arith, g, o, l, h, long)), white_half (read_at rows 32 k)) refl)
  ]
]
