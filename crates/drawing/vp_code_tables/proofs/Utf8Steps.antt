-- One byte more in UTF-8.
use Rattle.std.proofs.Common.{◌≡◌, ℕ, ◌&&◌, Bool, true, false, None, Some, List, [], ◌∷◌, length, refl, sym, ap, ◌∙◌, arith}
use Rattle.vp_code_tables.specs.declared.begun.Begun.{Begun}
use Rattle.vp_code_tables.specs.declared.begun.Begun.TheVariants.{Nothing, One, Two, Three}
use Rattle.vp_code_tables.specs.declared.encoding.Encoding.TheVariants.{Utf8}
use Rattle.vp_code_tables.specs.declared.unit.Decoded.{Decoded}
use Rattle.vp_code_tables.specs.declared.unit.Given.{Given}
use Rattle.vp_code_tables.specs.Begun.{Steps, IsBegun}
use Rattle.vp_code_tables.specs.Units.{units, units_behind, unit_of, unit_len, character_of}
use Rattle.vp_code_tables.specs.Utf8.{Part, Whole, Begins, Neither, part_of, value_of, character_if, len_by, len_behind, sequence_len, second_fits, later_fits}
use Rattle.vp_code_tables.proofs.Steps.{wrong, written, one, ended, cut_before}
use Rattle.vp_code_tables.proofs.Units.{units-first}
use Rattle.vp_code_tables.proofs.Utf8Parts.{begins_is, both, begins-fits, begins-less, part-begins, part-whole, part-neither, part-none, most_four}

-- the unit of a well-formed sequence, and of bytes that are none
pub unit-whole : (bytes : List ℕ) → part_of bytes ≡ Whole → unit_of Utf8 bytes ≡ written (value_of bytes) (length bytes)
unfolding character_of
unit-whole bytes e = ap (λ (part : Part). record { character = character_if part (value_of bytes); len = length bytes }) e

unit-begins : (bytes : List ℕ) → part_of bytes ≡ Begins → unit_of Utf8 bytes ≡ wrong (length bytes)
unfolding character_of
unit-begins bytes e = ap (λ (part : Part). record { character = character_if part (value_of bytes); len = length bytes }) e

unit-neither : (bytes : List ℕ) → part_of bytes ≡ Neither → unit_of Utf8 bytes ≡ wrong (length bytes)
unfolding character_of
unit-neither bytes e = ap (λ (part : Part). record { character = character_if part (value_of bytes); len = length bytes }) e

-- how long the unit is that begins with these bytes
pub len-1 : (a : ℕ) (more : List ℕ) (part : Part) → part_of (a ∷ []) ≡ part
    → unit_len Utf8 (a ∷ more) ≡ len_by part 0 (len_behind (a ∷ []) more)
unfolding unit_len len_behind
len-1 a more part e = ap (λ (p : Part). len_by p 0 (len_behind (a ∷ []) more)) e

pub len-2 : (a b : ℕ) (more : List ℕ) (part : Part) → part_of (a ∷ []) ≡ Begins → part_of (a ∷ b ∷ []) ≡ part
    → unit_len Utf8 (a ∷ b ∷ more) ≡ len_by part 1 (len_behind (a ∷ b ∷ []) more)
unfolding len_behind
len-2 a b more part one e =
    len-1 a (b ∷ more) Begins one ∙ ap (λ (p : Part). len_by p 1 (len_behind (a ∷ b ∷ []) more)) e

pub len-3 : (a b c : ℕ) (more : List ℕ) (part : Part) → part_of (a ∷ []) ≡ Begins → part_of (a ∷ b ∷ []) ≡ Begins
    → part_of (a ∷ b ∷ c ∷ []) ≡ part
    → unit_len Utf8 (a ∷ b ∷ c ∷ more) ≡ len_by part 2 (len_behind (a ∷ b ∷ c ∷ []) more)
unfolding len_behind
len-3 a b c more part one two e =
    len-2 a b (c ∷ more) Begins one two ∙ ap (λ (p : Part). len_by p 2 (len_behind (a ∷ b ∷ c ∷ []) more)) e

pub len-4 : (a b c d : ℕ) (more : List ℕ) (part : Part) → part_of (a ∷ []) ≡ Begins → part_of (a ∷ b ∷ []) ≡ Begins
    → part_of (a ∷ b ∷ c ∷ []) ≡ Begins → part_of (a ∷ b ∷ c ∷ d ∷ []) ≡ part
    → unit_len Utf8 (a ∷ b ∷ c ∷ d ∷ more) ≡ len_by part 3 (len_behind (a ∷ b ∷ c ∷ d ∷ []) more)
unfolding len_behind
len-4 a b c d more part one two three e =
    len-3 a b c (d ∷ more) Begins one two three
    ∙ ap (λ (p : Part). len_by p 3 (len_behind (a ∷ b ∷ c ∷ d ∷ []) more)) e

-- what is begun began with fewer bytes
began : (a : ℕ) (more : List ℕ) → part_of (a ∷ more) ≡ Begins → part_of (a ∷ []) ≡ Begins
began a more e = let lt = begins-less a more e in part-begins a [] refl (omega arith)

began-2 : (a b c : ℕ) → part_of (a ∷ b ∷ c ∷ []) ≡ Begins → part_of (a ∷ b ∷ []) ≡ Begins
began-2 a b c e =
    let lt = begins-less a (b ∷ c ∷ []) e in
    let fits = both (second_fits a b) (later_fits c && true) (begins-fits a (b ∷ c ∷ []) e) in
    part-begins a (b ∷ []) (ap (λ (x : Bool). x && true) fits.0) (omega arith)

fits-2 : (a b : ℕ) → part_of (a ∷ b ∷ []) ≡ Begins → second_fits a b ≡ true
fits-2 a b e = (both (second_fits a b) true (begins-fits a (b ∷ []) e)).0

-- a byte with nothing begun
pub first_wrong : (b : ℕ) → sequence_len b ≡ 0 → Steps Utf8 Nothing b Nothing (one (wrong 1))
unfolding units_behind
first_wrong b e =
    let part = part-none b e in
    ended Utf8 Nothing b (wrong 1) refl (λ more.
    units-first Utf8 0 b more (len-1 b more Neither part)
    ∙ ap (λ (u : Decoded). u ∷ units Utf8 more) (unit-neither (b ∷ []) part))

pub first_written : (b : ℕ) → sequence_len b ≡ 1 → Steps Utf8 Nothing b Nothing (one (written b 1))
unfolding units_behind
first_written b e =
    let part = part-whole b [] refl (sym e) in
    ended Utf8 Nothing b (written b 1) refl (λ more.
    units-first Utf8 0 b more (len-1 b more Whole part)
    ∙ ap (λ (u : Decoded). u ∷ units Utf8 more) (unit-whole (b ∷ []) part))

-- a byte that doesn't fit
pub second_cut : (a b : ℕ) (new : Begun) (given : Given) → IsBegun Utf8 (One a) → second_fits a b ≡ false
    → Steps Utf8 Nothing b new given → given.cut ≡ None
    → Steps Utf8 (One a) b new (record { cut = Some (wrong 1); unit = given.unit })
unfolding units_behind
second_cut a b new given h fit steps none =
    let begun = begins_is (part_of (a ∷ [])) h in
    let part = part-neither a (b ∷ []) (ap (λ (x : Bool). x && true) fit) in
    cut_before Utf8 (One a) Nothing new b 1 given steps none (λ more.
    units-first Utf8 0 a (b ∷ more) (len-2 a b more Neither begun part)
    ∙ ap (λ (u : Decoded). u ∷ units Utf8 (b ∷ more)) (unit-begins (a ∷ []) begun))

pub third_cut : (a b c : ℕ) (new : Begun) (given : Given) → IsBegun Utf8 (Two a b) → later_fits c ≡ false
    → Steps Utf8 Nothing c new given → given.cut ≡ None
    → Steps Utf8 (Two a b) c new (record { cut = Some (wrong 2); unit = given.unit })
unfolding units_behind
third_cut a b c new given h fit steps none =
    let begun = begins_is (part_of (a ∷ b ∷ [])) h in
    let unfit = ap (λ (x : Bool). x && (later_fits c && true)) (fits-2 a b begun) ∙ ap (λ (x : Bool). x && true) fit in
    let part = part-neither a (b ∷ c ∷ []) unfit in
    cut_before Utf8 (Two a b) Nothing new c 2 given steps none (λ more.
    units-first Utf8 1 a (b ∷ c ∷ more) (len-3 a b c more Neither (began a (b ∷ []) begun) begun part)
    ∙ ap (λ (u : Decoded). u ∷ units Utf8 (c ∷ more)) (unit-begins (a ∷ b ∷ []) begun))

pub fourth_cut : (a b c d : ℕ) (new : Begun) (given : Given) → IsBegun Utf8 (Three a b c) → later_fits d ≡ false
    → Steps Utf8 Nothing d new given → given.cut ≡ None
    → Steps Utf8 (Three a b c) d new (record { cut = Some (wrong 3); unit = given.unit })
unfolding units_behind
fourth_cut a b c d new given h fit steps none =
    let begun = begins_is (part_of (a ∷ b ∷ c ∷ [])) h in
    let two = began-2 a b c begun in
    let fits = both (second_fits a b) (later_fits c && true) (begins-fits a (b ∷ c ∷ []) begun) in
    let unfit = ap (λ (x : Bool). x && (later_fits c && (later_fits d && true))) fits.0
    ∙ ap (λ (x : Bool). x && (later_fits d && true)) ((both (later_fits c) true fits.1).0)
    ∙ ap (λ (x : Bool). x && true) fit in
    let part = part-neither a (b ∷ c ∷ d ∷ []) unfit in
    cut_before Utf8 (Three a b c) Nothing new d 3 given steps none (λ more.
    units-first Utf8 2 a (b ∷ c ∷ d ∷ more)
    (len-4 a b c d more Neither (began a (b ∷ []) two) two begun part)
    ∙ ap (λ (u : Decoded). u ∷ units Utf8 (d ∷ more)) (unit-begins (a ∷ b ∷ c ∷ []) begun))

-- a byte that ends a sequence
pub second_ends : (a b code : ℕ) → IsBegun Utf8 (One a) → second_fits a b ≡ true → sequence_len a ≡ 2
    → code ≡ value_of (a ∷ b ∷ []) → Steps Utf8 (One a) b Nothing (one (written code 2))
unfolding units_behind
second_ends a b code h fit long value =
    let begun = begins_is (part_of (a ∷ [])) h in
    let part = part-whole a (b ∷ []) (ap (λ (x : Bool). x && true) fit) (sym long) in
    ended Utf8 (One a) b (written code 2) refl (λ more.
    units-first Utf8 1 a (b ∷ more) (len-2 a b more Whole begun part)
    ∙ ap (λ (u : Decoded). u ∷ units Utf8 more) (unit-whole (a ∷ b ∷ []) part)
    ∙ ap (λ (v : ℕ). written v 2 ∷ units Utf8 more) (sym value))

pub third_ends : (a b c code : ℕ) → IsBegun Utf8 (Two a b) → later_fits c ≡ true → sequence_len a ≡ 3
    → code ≡ value_of (a ∷ b ∷ c ∷ []) → Steps Utf8 (Two a b) c Nothing (one (written code 3))
unfolding units_behind
third_ends a b c code h fit long value =
    let begun = begins_is (part_of (a ∷ b ∷ [])) h in
    let fits = ap (λ (x : Bool). x && (later_fits c && true)) (fits-2 a b begun) ∙ ap (λ (x : Bool). x && true) fit in
    let part = part-whole a (b ∷ c ∷ []) fits (sym long) in
    ended Utf8 (Two a b) c (written code 3) refl (λ more.
    units-first Utf8 2 a (b ∷ c ∷ more) (len-3 a b c more Whole (began a (b ∷ []) begun) begun part)
    ∙ ap (λ (u : Decoded). u ∷ units Utf8 more) (unit-whole (a ∷ b ∷ c ∷ []) part)
    ∙ ap (λ (v : ℕ). written v 3 ∷ units Utf8 more) (sym value))

pub fourth_ends : (a b c d code : ℕ) → IsBegun Utf8 (Three a b c) → later_fits d ≡ true
    → code ≡ value_of (a ∷ b ∷ c ∷ d ∷ []) → Steps Utf8 (Three a b c) d Nothing (one (written code 4))
unfolding units_behind
fourth_ends a b c d code h fit value =
    let begun = begins_is (part_of (a ∷ b ∷ c ∷ [])) h in
    let two = began-2 a b c begun in
    let lt = begins-less a (b ∷ c ∷ []) begun in
    let most = most_four a in
    let fits = both (second_fits a b) (later_fits c && true) (begins-fits a (b ∷ c ∷ []) begun) in
    let fit_all = ap (λ (x : Bool). x && (later_fits c && (later_fits d && true))) fits.0
    ∙ ap (λ (x : Bool). x && (later_fits d && true)) ((both (later_fits c) true fits.1).0)
    ∙ ap (λ (x : Bool). x && true) fit in
    let part = part-whole a (b ∷ c ∷ d ∷ []) fit_all (omega arith) in
    ended Utf8 (Three a b c) d (written code 4) refl (λ more.
    units-first Utf8 3 a (b ∷ c ∷ d ∷ more)
    (len-4 a b c d more Whole (began a (b ∷ []) two) two begun part)
    ∙ ap (λ (u : Decoded). u ∷ units Utf8 more) (unit-whole (a ∷ b ∷ c ∷ d ∷ []) part)
    ∙ ap (λ (v : ℕ). written v 4 ∷ units Utf8 more) (sym value))

-- what is begun at the end is one ill-formed part
pub left_one : (a : ℕ) → IsBegun Utf8 (One a) → wrong 1 ∷ [] ≡ units Utf8 (a ∷ [])
unfolding units_behind len_behind
left_one a h =
    let begun = begins_is (part_of (a ∷ [])) h in
    sym (units-first Utf8 0 a [] (len-1 a [] Begins begun)
    ∙ ap (λ (u : Decoded). u ∷ []) (unit-begins (a ∷ []) begun))

pub left_two : (a b : ℕ) → IsBegun Utf8 (Two a b) → wrong 2 ∷ [] ≡ units Utf8 (a ∷ b ∷ [])
unfolding units_behind len_behind
left_two a b h =
    let begun = begins_is (part_of (a ∷ b ∷ [])) h in
    sym (units-first Utf8 1 a (b ∷ []) (len-2 a b [] Begins (began a (b ∷ []) begun) begun)
    ∙ ap (λ (u : Decoded). u ∷ []) (unit-begins (a ∷ b ∷ []) begun))

pub left_three : (a b c : ℕ) → IsBegun Utf8 (Three a b c) → wrong 3 ∷ [] ≡ units Utf8 (a ∷ b ∷ c ∷ [])
unfolding units_behind len_behind
left_three a b c h =
    let begun = begins_is (part_of (a ∷ b ∷ c ∷ [])) h in
    let two = began-2 a b c begun in
    sym (units-first Utf8 2 a (b ∷ c ∷ []) (len-3 a b c [] Begins (began a (b ∷ []) two) two begun)
    ∙ ap (λ (u : Decoded). u ∷ []) (unit-begins (a ∷ b ∷ c ∷ []) begun))
