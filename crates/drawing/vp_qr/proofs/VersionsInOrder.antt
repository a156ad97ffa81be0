-- The smallest version that passes a test.
use Rattle.std.proofs.Common.{◌≡◌, ℕ, zero, suc, ◌+◌, ◌<◌, ◌≤◌, Bool, true, false, List, [], ◌∷◌, refl, ap, ◌∙◌, arith, Some, None}
use Rattle.std.specs.Prelude.{find}
use Rattle.std.proofs.lemmas.Bool.{leb-true}
use Rattle.vp_qr.specs.declared.level.Level.{Level}
use Rattle.vp_qr.specs.declared.segment.Kind.{Kind}
use Rattle.vp_qr.specs.Versions.{versions, fits, smallest, Holds}

-- the n numbers from one on
from : ℕ → ℕ → List ℕ
from at zero = []
from at (suc n) = at ∷ from (at + 1) n

find_none : (p : ℕ → Bool) (at n : ℕ) → ((k : ℕ) → at ≤ k → k < at + n → p k ≡ false) → find p (from at n) ≡ None
unfolding from
find_none p at zero none = refl
find_none p at (suc n) none = grind (arith, find_none p (at + 1) n)

all_versions : versions ≡ from 1 10
unfolding from
all_versions = refl

pub no_version : (p : ℕ → Bool) → ((k : ℕ) → 1 ≤ k → k < 11 → p k ≡ false) → find p versions ≡ None
no_version p none = ap (find p) all_versions ∙ find_none p 1 10 none

-- a version that fits has room
pub has_room : (level : Level) (kind : Kind) (src : List ℕ) (v : ℕ) → 1 ≤ v → v < 11 → fits level kind src v ≡ true → Holds level kind src v
unfolding fits
has_room level kind src v low high h = record { low = low; high = omega arith; room = leb-true _ _ h }

-- the version that is found holds the message
pub smallest_holds : (level : Level) (kind : Kind) (src : List ℕ) (v : ℕ) → Some v ≡ smallest level kind src → Holds level kind src v
unfolding smallest
smallest_holds level kind src v e = grind (arith, has_room)
