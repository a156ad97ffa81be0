-- What bytes are together in UTF-8.
use Rattle.std.proofs.Common.{◌≡◌, ℕ, suc, ◌<◌, ◌≤◌, ◌==◌, ◌&&◌, Bool, true, false, if◌then◌else◌, List, [], ◌∷◌, length, refl, sym, ap, ◌∙◌, arith}
use Rattle.std.proofs.lemmas.Bool.Decides.{nat_tests}
use Rattle.std.specs.Prelude.{nat_lt}
use Rattle.vp_code_tables.specs.Begun.{begins}
use Rattle.vp_code_tables.specs.Utf8.{Part, Whole, Begins, Neither, part_by, part_of, follows, sequence_len}

pub begins_is : (part : Part) → begins part ≡ true → part ≡ Begins
begins_is Whole e = cc
begins_is Begins e = refl
begins_is Neither e = cc

pub both : (x y : Bool) → (x && y) ≡ true → (x ≡ true) × (y ≡ true)
both true true e = (refl, refl)
both true false e = cc
both false y e = cc

-- the beginning of a sequence is shorter than the sequence
pub part_by-less : (len n : ℕ) → part_by len n ≡ Begins → n < len
part_by-less len n e = by_tests (n == len) (nat_lt n len) refl refl e
  where
    by_tests : (same less : Bool) → (n == len) ≡ same → nat_lt n len ≡ less
        → (if same then Whole else if less then Begins else Neither) ≡ Begins → n < len
    by_tests true less s l h = cc
    by_tests false true s l h = grind (arith, nat_tests, l)
    by_tests false false s l h = cc

pub part_by-begins : (len n : ℕ) → n < len → part_by len n ≡ Begins
part_by-begins len n lt = grind (arith, nat_tests, lt)

pub part_by-whole : (len n : ℕ) → n ≡ len → part_by len n ≡ Whole
part_by-whole len n e = grind (arith, nat_tests, e)

-- so what follows the first byte of a beginning fits, and the sequence has more bytes
pub begins-fits : (a : ℕ) (more : List ℕ) → part_of (a ∷ more) ≡ Begins → follows a more ≡ true
begins-fits a more e = by_fit (follows a more) refl e
  where
    by_fit : (fit : Bool) → follows a more ≡ fit
        → (if fit then part_by (sequence_len a) (suc (length more)) else Neither) ≡ Begins → follows a more ≡ true
    by_fit true f h = f
    by_fit false f h = cc

pub begins-less : (a : ℕ) (more : List ℕ) → part_of (a ∷ more) ≡ Begins → suc (length more) < sequence_len a
begins-less a more e =
    part_by-less (sequence_len a) (suc (length more))
    (sym (ap (λ (fit : Bool). if fit then part_by (sequence_len a) (suc (length more)) else Neither) (begins-fits a more e)) ∙ e)

pub part-begins : (a : ℕ) (more : List ℕ) → follows a more ≡ true → suc (length more) < sequence_len a → part_of (a ∷ more) ≡ Begins
part-begins a more f lt =
    ap (λ (fit : Bool). if fit then part_by (sequence_len a) (suc (length more)) else Neither) f
    ∙ part_by-begins (sequence_len a) (suc (length more)) lt

pub part-whole : (a : ℕ) (more : List ℕ) → follows a more ≡ true → suc (length more) ≡ sequence_len a → part_of (a ∷ more) ≡ Whole
part-whole a more f e =
    ap (λ (fit : Bool). if fit then part_by (sequence_len a) (suc (length more)) else Neither) f
    ∙ part_by-whole (sequence_len a) (suc (length more)) e

pub part-neither : (a : ℕ) (more : List ℕ) → follows a more ≡ false → part_of (a ∷ more) ≡ Neither
part-neither a more f =
    ap (λ (fit : Bool). if fit then part_by (sequence_len a) (suc (length more)) else Neither) f

-- no sequence begins with a byte of length 0
pub part-none : (a : ℕ) → sequence_len a ≡ 0 → part_of (a ∷ []) ≡ Neither
part-none a e = ap (λ (len : ℕ). part_by len 1) e

pub most_four : (a : ℕ) → sequence_len a ≤ 4
unfolding sequence_len
most_four a = grind arith

-- and so does what follows the first byte of a whole one
whole-both : (a : ℕ) (more : List ℕ) (fit same less : Bool) → follows a more ≡ fit
    → (suc (length more) == sequence_len a) ≡ same
    → (if fit then (if same then Whole else if less then Begins else Neither) else Neither) ≡ Whole
    → (follows a more ≡ true) × (suc (length more) ≡ sequence_len a)
whole-both a more true true less f s e = (f, grind (arith, nat_tests, s))
whole-both a more true false true f s e = cc
whole-both a more true false false f s e = cc
whole-both a more false same less f s e = cc

pub whole-fits : (a : ℕ) (more : List ℕ) → part_of (a ∷ more) ≡ Whole → follows a more ≡ true
whole-fits a more e = (whole-both a more (follows a more) (suc (length more) == sequence_len a)
    (nat_lt (suc (length more)) (sequence_len a)) refl refl e).0

pub whole-long : (a : ℕ) (more : List ℕ) → part_of (a ∷ more) ≡ Whole → suc (length more) ≡ sequence_len a
whole-long a more e = (whole-both a more (follows a more) (suc (length more) == sequence_len a)
    (nat_lt (suc (length more)) (sequence_len a)) refl refl e).1
