-- Characters that are written are read back.
use Rattle.std.proofs.Common.{◌≡◌, ℕ, ◌+◌, ◌-◌, ◌/◌, ◌%◌, ◌<◌, ◌≤◌, ◌⊎◌, inl, inr, ◌&&◌, ◌||◌, Bool, true, false, if◌then◌else◌, List, [], ◌∷◌, ◌++◌, length, refl, sym, ap, ◌∙◌, arith}
use Rattle.std.specs.List.{list_all}
use Rattle.std.specs.Prelude.{nat_le}
use Rattle.vp_code_tables.specs.declared.encoding.Encoding.TheVariants.{Utf8, Utf16}
use Rattle.vp_code_tables.specs.declared.unit.Decoded.{Decoded}
use Rattle.vp_code_tables.specs.declared.utf16.ByteOrder.{ByteOrder}
use Rattle.vp_code_tables.specs.declared.utf16.ByteOrder.TheVariants.{HighFirst, LowFirst}
use Rattle.vp_code_tables.specs.Laws.{text, written}
use Rattle.vp_code_tables.specs.Units.{units, units_behind}
use Rattle.vp_code_tables.specs.Utf8.{Whole, part_of, value_of, within, is_scalar, utf8, second_fits, later_fits}
use Rattle.vp_code_tables.specs.Utf16.{code_unit, is_high, is_low, pair_value, unit_bytes, utf16}
use Rattle.vp_code_tables.proofs.Steps.{written as unit}
use Rattle.vp_code_tables.proofs.Units.{units-first}
use Rattle.vp_code_tables.proofs.Utf16Steps.{second_alone, fourth_ends}
use Rattle.vp_code_tables.proofs.Utf8Parts.{both, most_four, part-begins, whole-fits, whole-long}
use Rattle.vp_code_tables.proofs.Utf8Steps.{len-1, len-2, len-3, len-4, unit-whole}
use Rattle.vp_code_tables.proofs.Utf8Values.{le-false, true-le, false-le, true-within, within-true}
use Rattle.vp_code_tables.proofs.Utf8Written.{whole, value}

-- a well-formed sequence is the first unit
whole-first : (bytes more : List ℕ) → part_of bytes ≡ Whole
    → units Utf8 (bytes ++ more) ≡ unit (value_of bytes) (length bytes) ∷ units Utf8 more
unfolding units_behind
whole-first [] more e = cc
whole-first (a ∷ []) more e =
    units-first Utf8 0 a more (len-1 a more Whole e)
    ∙ ap (λ (u : Decoded). u ∷ units Utf8 more) (unit-whole (a ∷ []) e)
whole-first (a ∷ b ∷ []) more e =
    let long = whole-long a (b ∷ []) e in
    let one = part-begins a [] refl (omega arith) in
    units-first Utf8 1 a (b ∷ more) (len-2 a b more Whole one e)
    ∙ ap (λ (u : Decoded). u ∷ units Utf8 more) (unit-whole (a ∷ b ∷ []) e)
whole-first (a ∷ b ∷ c ∷ []) more e =
    let long = whole-long a (b ∷ c ∷ []) e in
    let fits = both (second_fits a b) (later_fits c && true) (whole-fits a (b ∷ c ∷ []) e) in
    let one = part-begins a [] refl (omega arith) in
    let two = part-begins a (b ∷ []) (ap (λ (x : Bool). x && true) fits.0) (omega arith) in
    units-first Utf8 2 a (b ∷ c ∷ more) (len-3 a b c more Whole one two e)
    ∙ ap (λ (u : Decoded). u ∷ units Utf8 more) (unit-whole (a ∷ b ∷ c ∷ []) e)
whole-first (a ∷ b ∷ c ∷ d ∷ []) more e =
    let long = whole-long a (b ∷ c ∷ d ∷ []) e in
    let fits = both (second_fits a b) (later_fits c && (later_fits d && true)) (whole-fits a (b ∷ c ∷ d ∷ []) e) in
    let later = (both (later_fits c) (later_fits d && true) fits.1).0 in
    let one = part-begins a [] refl (omega arith) in
    let two = part-begins a (b ∷ []) (ap (λ (x : Bool). x && true) fits.0) (omega arith) in
    let three = part-begins a (b ∷ c ∷ [])
    (ap (λ (x : Bool). x && (later_fits c && true)) fits.0 ∙ ap (λ (x : Bool). x && true) later) (omega arith) in
    units-first Utf8 3 a (b ∷ c ∷ d ∷ more) (len-4 a b c d more Whole one two three e)
    ∙ ap (λ (u : Decoded). u ∷ units Utf8 more) (unit-whole (a ∷ b ∷ c ∷ d ∷ []) e)
whole-first (a ∷ b ∷ c ∷ d ∷ f ∷ rest) more e =
    let long = whole-long a (b ∷ c ∷ d ∷ f ∷ rest) e in
    let most = most_four a in
    absurd (omega arith)

pub utf8_read_back : (values : List ℕ) → list_all is_scalar values ≡ true
    → units Utf8 (text utf8 values) ≡ written utf8 values
unfolding text written units_behind
utf8_read_back [] e = refl
utf8_read_back (v ∷ values) e =
    let all = both (is_scalar v) (list_all is_scalar values) e in
    whole-first (utf8 v) (text utf8 values) (whole v all.0)
    ∙ ap (λ (code : ℕ). unit code (length (utf8 v)) ∷ units Utf8 (text utf8 values)) (value v all.0)
    ∙ ap (λ (us : List Decoded). unit v (length (utf8 v)) ∷ us) (utf8_read_back values all.1)

-- two bytes of a code unit
abbrev front : ByteOrder → ℕ → ℕ
front HighFirst unit = unit / 256
front LowFirst unit = unit % 256

abbrev back : ByteOrder → ℕ → ℕ
back HighFirst unit = unit % 256
back LowFirst unit = unit / 256

bytes-are : (order : ByteOrder) (unit : ℕ) → unit_bytes order unit ≡ front order unit ∷ back order unit ∷ []
bytes-are HighFirst unit = refl
bytes-are LowFirst unit = refl

unit-is : (order : ByteOrder) (unit : ℕ) → unit ≡ code_unit order (front order unit) (back order unit)
unit-is HighFirst unit = omega arith
unit-is LowFirst unit = omega arith

-- no surrogate
not-within : (first last b : ℕ) → (b < first) ⊎ (last < b) → within first last b ≡ false
not-within first last b (inl lt) = ap (λ (x : Bool). x && nat_le b last) (le-false first b lt)
not-within first last b (inr lt) =
    by_test (nat_le first b) ∙ le-false b last lt
  where
    by_test : (so : Bool) → (so && nat_le b last) ≡ nat_le b last
    by_test true = refl
    by_test false = sym (le-false b last lt)

scalar-or : (v : ℕ) → is_scalar v ≡ true → (v ≤ 0xd7ff) ⊎ ((0xe000 ≤ v) × (v ≤ 0x10ffff))
scalar-or v e = by_test (nat_le v 0xd7ff) refl e
  where
    by_test : (so : Bool) → nat_le v 0xd7ff ≡ so → (so || within 0xe000 0x10ffff v) ≡ true
        → (v ≤ 0xd7ff) ⊎ ((0xe000 ≤ v) × (v ≤ 0x10ffff))
    by_test true f h = inl (true-le v 0xd7ff f)
    by_test false f h = inr (true-within 0xe000 0x10ffff v h)

not-high : (v : ℕ) → (v ≤ 0xd7ff) ⊎ ((0xe000 ≤ v) × (v ≤ 0x10ffff)) → is_high v ≡ false
unfolding is_high
not-high v (inl h) = not-within 0xd800 0xdbff v (inl (omega arith))
not-high v (inr h) = let l = h.0 in not-within 0xd800 0xdbff v (inr (omega arith))

not-low : (v : ℕ) → (v ≤ 0xd7ff) ⊎ ((0xe000 ≤ v) × (v ≤ 0x10ffff)) → is_low v ≡ false
unfolding is_low
not-low v (inl h) = not-within 0xdc00 0xdfff v (inl (omega arith))
not-low v (inr h) = let l = h.0 in not-within 0xdc00 0xdfff v (inr (omega arith))

high : (n : ℕ) → n < 1024 → is_high (0xd800 + n) ≡ true
unfolding is_high
high n lt = within-true 0xd800 0xdbff (0xd800 + n) (omega arith) (omega arith)

low : (n : ℕ) → n < 1024 → is_low (0xdc00 + n) ≡ true
unfolding is_low
low n lt = within-true 0xdc00 0xdfff (0xdc00 + n) (omega arith) (omega arith)

-- a character is the first unit
one-first : (order : ByteOrder) (v : ℕ) (more : List ℕ) → is_scalar v ≡ true
    → units (Utf16 order) (unit_bytes order v ++ more) ≡ unit v 2 ∷ units (Utf16 order) more
one-first order v more e =
    ap (λ (xs : List ℕ). units (Utf16 order) (xs ++ more)) (bytes-are order v)
    ∙ (second_alone order (front order v) (back order v) v (unit-is order v) (not-high v (scalar-or v e))
    (not-low v (scalar-or v e))).same more

pair-first : (order : ByteOrder) (h l v : ℕ) (more : List ℕ) → is_high h ≡ true → is_low l ≡ true → v ≡ pair_value h l
    → units (Utf16 order) ((unit_bytes order h ++ unit_bytes order l) ++ more) ≡ unit v 4 ∷ units (Utf16 order) more
pair-first order h l v more high low value =
    ap (λ (xs : List ℕ). units (Utf16 order) ((xs ++ unit_bytes order l) ++ more)) (bytes-are order h)
    ∙ ap (λ (xs : List ℕ). units (Utf16 order) (front order h ∷ back order h ∷ (xs ++ more))) (bytes-are order l)
    ∙ (fourth_ends order (front order h) (back order h) (front order l) (back order l) l v
    (ap is_high (sym (unit-is order h)) ∙ high) (unit-is order l) low
    (value ∙ ap (λ (x : ℕ). pair_value x l) (unit-is order h))).same more

length-one : (order : ByteOrder) (v : ℕ) → length (unit_bytes order v) ≡ 2
length-one HighFirst v = refl
length-one LowFirst v = refl

length-pair : (order : ByteOrder) (h l : ℕ) → length (unit_bytes order h ++ unit_bytes order l) ≡ 4
length-pair HighFirst h l = refl
length-pair LowFirst h l = refl

abbrev pair : ByteOrder → ℕ → List ℕ
pair order v = unit_bytes order (0xd800 + (v - 0x10000) / 1024) ++ unit_bytes order (0xdc00 + (v - 0x10000) % 1024)

utf16-first : (order : ByteOrder) (v : ℕ) (more : List ℕ) → is_scalar v ≡ true
    → units (Utf16 order) (utf16 order v ++ more) ≡ unit v (length (utf16 order v)) ∷ units (Utf16 order) more
unfolding utf16
utf16-first order v more e = by_test (nat_le v 0xffff) refl
  where
    past_most : (v ≤ 0xd7ff) ⊎ ((0xe000 ≤ v) × (v ≤ 0x10ffff)) → 0xffff < v → v ≤ 0x10ffff
    past_most (inl h) lt = absurd (omega arith)
    past_most (inr h) lt = h.1

    by_test : (so : Bool) → nat_le v 0xffff ≡ so
        → units (Utf16 order) ((if so then unit_bytes order v else pair order v) ++ more)
        ≡ unit v (length (if so then unit_bytes order v else pair order v)) ∷ units (Utf16 order) more
    by_test true f =
        one-first order v more e
        ∙ ap (λ (len : ℕ). unit v len ∷ units (Utf16 order) more) (sym (length-one order v))
    by_test false f =
        let past = false-le v 0xffff f in
        let most = past_most (scalar-or v e) past in
        pair-first order (0xd800 + (v - 0x10000) / 1024) (0xdc00 + (v - 0x10000) % 1024) v more
        (high ((v - 0x10000) / 1024) (omega arith)) (low ((v - 0x10000) % 1024) (omega arith)) (omega arith)
        ∙ ap (λ (len : ℕ). unit v len ∷ units (Utf16 order) more)
        (sym (length-pair order (0xd800 + (v - 0x10000) / 1024) (0xdc00 + (v - 0x10000) % 1024)))

pub utf16_read_back : (order : ByteOrder) (values : List ℕ) → list_all is_scalar values ≡ true
    → units (Utf16 order) (text (utf16 order) values) ≡ written (utf16 order) values
unfolding text written units_behind
utf16_read_back order [] e = refl
utf16_read_back order (v ∷ values) e =
    let all = both (is_scalar v) (list_all is_scalar values) e in
    utf16-first order v (text (utf16 order) values) all.0
    ∙ ap (λ (us : List Decoded). unit v (length (utf16 order v)) ∷ us) (utf16_read_back order values all.1)
