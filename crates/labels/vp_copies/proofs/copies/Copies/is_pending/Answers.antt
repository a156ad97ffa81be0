use Rattle.std.proofs.Common.{◌<◌, length, subst, sym}
use Rattle.std.proofs.lemmas.Bool.{lt-ltb, ltb-true}
use Rattle.vp_copies.specs.Copies.{pending}
use Rattle.vp_copies.specs.Progress.{Progress, image_of}
use Rattle.vp_copies.specs.Standing.{progress_of}
use Rattle.vp_copies.proofs.Places.{some_pending, none_pending}
use Rattle.vp_copies.proofs.copies.Copies.is_pending.Goals as goal

pub returns-clause-bytes : goal.returns-clause-bytes
returns-clause-bytes c = λ dots.
    let j = c.self.inside in
    let i = image_of (progress_of j) dots in
    let P : Progress → Type 0 = λ p. 0 < length (pending (image_of p dots) p.place) in
    let v = c.self.invariant in (
      λ t. subst P c.self.view_is (some_pending i v.high j.copies j.place (ltb-true 0 j.copies t) (record { line = v.place.line; byte = v.place.byte })),
      λ h. lt-ltb 0 j.copies (none_pending i v.high j.copies j.place (subst P (sym c.self.view_is) h)),
    )
