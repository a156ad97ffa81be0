-- One byte more in UTF-16.
use Rattle.std.proofs.Common.{◌≡◌, ℕ, ◌&&◌, ◌||◌, Bool, true, false, if◌then◌else◌, None, Some, List, [], ◌∷◌, refl, sym, ap, subst, ◌∙◌}
use Rattle.vp_code_tables.specs.declared.begun.Begun.{Begun}
use Rattle.vp_code_tables.specs.declared.begun.Begun.TheVariants.{Nothing, One, Two, Three}
use Rattle.vp_code_tables.specs.declared.encoding.Encoding.TheVariants.{Utf16}
use Rattle.vp_code_tables.specs.declared.unit.Decoded.{Decoded}
use Rattle.vp_code_tables.specs.declared.unit.Given.{Given}
use Rattle.vp_code_tables.specs.declared.utf16.ByteOrder.{ByteOrder}
use Rattle.vp_code_tables.specs.Begun.{Steps, IsBegun}
use Rattle.vp_code_tables.specs.Units.{units, units_behind, unit_of, unit_len, character_of}
use Rattle.vp_code_tables.specs.Utf16.{code_unit, is_high, is_low, low_follows, pair_value}
use Rattle.vp_code_tables.proofs.Steps.{wrong, written, one, ended, cut_before}
use Rattle.vp_code_tables.proofs.Units.{units-first}

-- how long the unit is that begins with these bytes
len-not_high : (order : ByteOrder) (a b : ℕ) (more : List ℕ) → is_high (code_unit order a b) ≡ false
    → unit_len (Utf16 order) (a ∷ b ∷ more) ≡ 2
unfolding unit_len
len-not_high order a b more e = ap (λ (high : Bool). if high && low_follows order more then 4 else 2) e

len-high : (order : ByteOrder) (a b : ℕ) (more : List ℕ) (follows : Bool) → is_high (code_unit order a b) ≡ true
    → low_follows order more ≡ follows → unit_len (Utf16 order) (a ∷ b ∷ more) ≡ (if follows then 4 else 2)
unfolding unit_len
len-high order a b more follows e f =
    ap (λ (high : Bool). if high && low_follows order more then 4 else 2) e
    ∙ ap (λ (low : Bool). if low then 4 else 2) f

-- the unit of a code unit
abbrev by_surrogate : Bool → ℕ → Decoded
by_surrogate so unit = record { character = if so then None else Some unit; len = 2 }

unit-two : (order : ByteOrder) (a b : ℕ) (high low : Bool) → is_high (code_unit order a b) ≡ high
    → is_low (code_unit order a b) ≡ low
    → unit_of (Utf16 order) (a ∷ b ∷ []) ≡ by_surrogate (high || low) (code_unit order a b)
unfolding character_of
unit-two order a b high low h l =
    ap (λ (x : Bool). by_surrogate (x || is_low (code_unit order a b)) (code_unit order a b)) h
    ∙ ap (λ (x : Bool). by_surrogate (high || x) (code_unit order a b)) l

unit-high : (order : ByteOrder) (a b : ℕ) → is_high (code_unit order a b) ≡ true
    → unit_of (Utf16 order) (a ∷ b ∷ []) ≡ wrong 2
unfolding character_of
unit-high order a b h = ap (λ (x : Bool). by_surrogate (x || is_low (code_unit order a b)) (code_unit order a b)) h

-- a code unit that is no high surrogate
two : (order : ByteOrder) (a b : ℕ) (low : Bool) → is_high (code_unit order a b) ≡ false
    → is_low (code_unit order a b) ≡ low
    → Steps (Utf16 order) (One a) b Nothing (one (by_surrogate low (code_unit order a b)))
unfolding units_behind
two order a b low h l = ended (Utf16 order) (One a) b (by_surrogate low (code_unit order a b)) refl (λ more.
    units-first (Utf16 order) 1 a (b ∷ more) (len-not_high order a b more h)
    ∙ ap (λ (u : Decoded). u ∷ units (Utf16 order) more) (unit-two order a b false low h l))

pub second_low : (order : ByteOrder) (a b unit : ℕ) → unit ≡ code_unit order a b → is_high unit ≡ false
    → is_low unit ≡ true → Steps (Utf16 order) (One a) b Nothing (one (wrong 2))
second_low order a b unit u h l = two order a b true (ap is_high (sym u) ∙ h) (ap is_low (sym u) ∙ l)

pub second_alone : (order : ByteOrder) (a b unit : ℕ) → unit ≡ code_unit order a b → is_high unit ≡ false
    → is_low unit ≡ false → Steps (Utf16 order) (One a) b Nothing (one (written unit 2))
second_alone order a b unit u h l =
    subst (λ (x : ℕ). Steps (Utf16 order) (One a) b Nothing (one (written x 2))) (sym u)
    (two order a b false (ap is_high (sym u) ∙ h) (ap is_low (sym u) ∙ l))

-- a high surrogate without a low one behind it
pub fourth_cut : (order : ByteOrder) (a b c d unit : ℕ) (new : Begun) (given : Given)
    → IsBegun (Utf16 order) (Three a b c) → unit ≡ code_unit order c d → is_low unit ≡ false
    → Steps (Utf16 order) (One c) d new given → given.cut ≡ None
    → Steps (Utf16 order) (Three a b c) d new (record { cut = Some (wrong 2); unit = given.unit })
unfolding units_behind
fourth_cut order a b c d unit new given h u l steps none =
    cut_before (Utf16 order) (Three a b c) (One c) new d 2 given steps none (λ more.
    units-first (Utf16 order) 1 a (b ∷ c ∷ d ∷ more)
    (len-high order a b (c ∷ d ∷ more) false h (ap is_low (sym u) ∙ l))
    ∙ ap (λ (x : Decoded). x ∷ units (Utf16 order) (c ∷ d ∷ more)) (unit-high order a b h))

-- a surrogate pair
pub fourth_ends : (order : ByteOrder) (a b c d low code : ℕ) → IsBegun (Utf16 order) (Three a b c)
    → low ≡ code_unit order c d → is_low low ≡ true → code ≡ pair_value (code_unit order a b) low
    → Steps (Utf16 order) (Three a b c) d Nothing (one (written code 4))
unfolding units_behind character_of
fourth_ends order a b c d low code h u l value = ended (Utf16 order) (Three a b c) d (written code 4) refl (λ more.
    units-first (Utf16 order) 3 a (b ∷ c ∷ d ∷ more)
    (len-high order a b (c ∷ d ∷ more) true h (ap is_low (sym u) ∙ l))
    ∙ ap (λ (x : ℕ). written x 4 ∷ units (Utf16 order) more)
    (sym (value ∙ ap (λ (x : ℕ). pair_value (code_unit order a b) x) u)))

-- what is begun at the end
pub left_one : (order : ByteOrder) (a : ℕ) → wrong 1 ∷ [] ≡ units (Utf16 order) (a ∷ [])
unfolding units_behind unit_len character_of
left_one order a = refl

pub left_two : (order : ByteOrder) (a b : ℕ) → IsBegun (Utf16 order) (Two a b)
    → wrong 2 ∷ [] ≡ units (Utf16 order) (a ∷ b ∷ [])
unfolding units_behind
left_two order a b h =
    sym (units-first (Utf16 order) 1 a (b ∷ []) (len-high order a b [] false h refl)
    ∙ ap (λ (x : Decoded). x ∷ []) (unit-high order a b h))

pub left_three : (order : ByteOrder) (a b c : ℕ) → IsBegun (Utf16 order) (Three a b c)
    → wrong 2 ∷ wrong 1 ∷ [] ≡ units (Utf16 order) (a ∷ b ∷ c ∷ [])
unfolding units_behind
left_three order a b c h =
    sym (units-first (Utf16 order) 1 a (b ∷ c ∷ []) (len-high order a b (c ∷ []) false h refl)
    ∙ ap (λ (x : Decoded). x ∷ units (Utf16 order) (c ∷ [])) (unit-high order a b h)
    ∙ ap (λ (xs : List Decoded). wrong 2 ∷ xs) (sym (left_one order c)))
