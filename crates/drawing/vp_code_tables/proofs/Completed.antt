-- What begins a sequence in UTF-8.
use Rattle.std.proofs.Common.{◌≡◌, ℕ, zero, suc, ◌-◌, ◌==◌, ◌&&◌, Bool, true, false, List, [], ◌∷◌, ◌++◌, length, refl, sym, ap, ◌∙◌, arith}
use Rattle.std.proofs.lemmas.Bool.Decides.{nat_tests}
use Rattle.std.proofs.lemmas.List.{length-append}
use Rattle.std.proofs.lemmas.List.Folds.{list_all-append}
use Rattle.std.specs.List.{list_all}
use Rattle.vp_code_tables.specs.Utf8.{Whole, Begins, part_of, follows, sequence_len, second_fits, later_fits}
use Rattle.vp_code_tables.proofs.Utf8Parts.{both, begins-fits, begins-less, part-begins, part-whole, whole-fits, whole-long}
use Rattle.vp_code_tables.proofs.Utf8Values.{second-true, later-true, whole-1}

follows-front : (a : ℕ) (more rest : List ℕ) → follows a (more ++ rest) ≡ true → follows a more ≡ true
follows-front a [] rest f = refl
follows-front a (b ∷ more) rest f =
    let two = both (second_fits a b) (list_all later_fits (more ++ rest)) f in
    let later = both (list_all later_fits more) (list_all later_fits rest)
    (sym (list_all-append later_fits more rest) ∙ two.1) in
    ap (λ (x : Bool). x && list_all later_fits more) two.0 ∙ later.0

pub front : (bytes : List ℕ) (b : ℕ) (rest : List ℕ) → part_of (bytes ++ b ∷ rest) ≡ Whole → part_of bytes ≡ Begins
front [] b rest e = refl
front (a ∷ more) b rest e =
    let long = whole-long a (more ++ b ∷ rest) e in
    let both_long = length-append more (b ∷ rest) in
    part-begins a more (follows-front a more (b ∷ rest) (whole-fits a (more ++ b ∷ rest) e)) (omega arith)

-- what may come behind a first byte
second_of : (a : ℕ) → (b : ℕ) × (second_fits a b ≡ true)
second_of a = by_test (a == 0xe0) (a == 0xf0) refl refl
  where
    by_test : (e0 f0 : Bool) → (a == 0xe0) ≡ e0 → (a == 0xf0) ≡ f0 → (b : ℕ) × (second_fits a b ≡ true)
    by_test true f0 e f =
        let is : a ≡ 0xe0 = grind (arith, nat_tests, e) in (
          0xa0,
          second-true a 0xa0 (record {
            low = omega arith;
            high = omega arith;
            three = λ x. omega arith;
            surrogate = λ x. omega arith;
            four = λ x. omega arith;
            last = λ x. omega arith;
          }),
        )
    by_test false true e f =
        let is : a ≡ 0xf0 = grind (arith, nat_tests, f) in (
          0x90,
          second-true a 0x90 (record {
            low = omega arith;
            high = omega arith;
            three = λ x. omega arith;
            surrogate = λ x. omega arith;
            four = λ x. omega arith;
            last = λ x. omega arith;
          }),
        )
    by_test false false e f =
        let not_three : a ≡ 0xe0 → ⊥ = λ x. grind (arith, nat_tests, e, x) in
        let not_four : a ≡ 0xf0 → ⊥ = λ x. grind (arith, nat_tests, f, x) in (
          0x80,
          second-true a 0x80 (record {
            low = omega arith;
            high = omega arith;
            three = λ x. absurd (not_three x);
            surrogate = λ x. omega arith;
            four = λ x. absurd (not_four x);
            last = λ x. omega arith;
          }),
        )

fits-80 : later_fits 0x80 ≡ true
fits-80 = later-true 0x80 (omega arith) (omega arith)

-- so many of the bytes that may always be later ones
abbrev filled : ℕ → List ℕ
filled zero = []
filled (suc n) = 0x80 ∷ filled n

all-filled : (n : ℕ) → list_all later_fits (filled n) ≡ true
all-filled zero = refl
all-filled (suc n) = ap (λ (x : Bool). x && list_all later_fits (filled n)) fits-80 ∙ all-filled n

length-filled : (n : ℕ) → length (filled n) ≡ n
length-filled zero = refl
length-filled (suc n) = omega (arith, length-filled n)

-- what is begun can be completed
pub completed : (bytes : List ℕ) → part_of bytes ≡ Begins → (rest : List ℕ) × (part_of (bytes ++ rest) ≡ Whole)
completed [] e = (0 ∷ [], whole-1 0 (omega arith))
completed (a ∷ []) e =
    let lt = begins-less a [] e in
    let second = second_of a in
    let n = sequence_len a - 2 in
    let long = length-filled n in
    let rest = second.0 ∷ filled n in (
      rest,
      part-whole a rest
          (ap (λ (x : Bool). x && list_all later_fits (filled n)) second.1 ∙ all-filled n) (omega arith),
    )
completed (a ∷ b ∷ more) e =
    let lt = begins-less a (b ∷ more) e in
    let fits = both (second_fits a b) (list_all later_fits more) (begins-fits a (b ∷ more) e) in
    let n = sequence_len a - suc (suc (length more)) in
    let rest = filled n in
    let long = length-filled n in
    let all_long = length-append more rest in (
      rest,
      part-whole a (b ∷ (more ++ rest))
          (ap (λ (x : Bool). x && list_all later_fits (more ++ rest)) fits.0
          ∙ list_all-append later_fits more rest
          ∙ ap (λ (x : Bool). x && list_all later_fits rest) fits.1
          ∙ all-filled n) (omega arith),
    )
