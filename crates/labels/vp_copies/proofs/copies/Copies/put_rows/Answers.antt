use Rattle.std.proofs.Common.{◌≡◌, ◌*◌, ◌<◌, ◌≤◌, ◌++◌, ap, sym, subst, ◌∙◌, arith, take, drop, length, refl}
use Rattle.std.proofs.lemmas.Grind.{common_steps}
use Rattle.vp_dots.specs.Images.{row_bytes}
use Rattle.vp_copies.specs.Copies.{pending}
use Rattle.vp_copies.specs.Progress.{Progress, image_of, IsPainted}
use Rattle.vp_copies.specs.Standing.{progress_of}
use Rattle.vp_copies.proofs.ManyRows.{rows_front, rows_within}
use Rattle.vp_copies.proofs.copies.Copies.put_rows.Goals as goal

pub returns-clause-within : goal.returns-clause-within
returns-clause-within g c = λ dots.
    let j = c.self.inside in
    let i = image_of (progress_of j) dots in
    let n = c.min-rows.result in
    let v = c.self.invariant in
    let some : 0 < j.copies = subst (λ (p : Progress). 0 < p.place.copies) (sym c.self.view_is) c.requires in
    let byte : j.place.byte ≡ 0 = (let e = c.if-self-gt0.false in omega arith) in
    let below = c.rows_before_last.ensures.below in
    let P : Progress → Type 0 = λ p. n * c.bytes_of_row-bytes.result ≤ length (pending (image_of p dots) p.place) in
    subst P c.self.view_is (rw (c.bytes_of_row-bytes.ensures, c.in-Row.is, byte) (rows_within i v.high j.copies c.in-Row.y n some v.wide (omega arith) (omega (arith, below, c.min-rows.ensures))))

pub returns-clause-bytes : goal.returns-clause-bytes
returns-clause-bytes g c = λ dots painted.
    let j = c.self.inside in
    let i = image_of (progress_of j) dots in
    let n = c.min-rows.result in
    let r = n * c.bytes_of_row-bytes.result in
    let out = c.args.out.now in
    let v = c.self.invariant in
    let some : 0 < j.copies = subst (λ (p : Progress). 0 < p.place.copies) (sym c.self.view_is) c.requires in
    let byte : j.place.byte ≡ 0 = (let e = c.if-self-gt0.false in omega arith) in
    let below = c.rows_before_last.ensures.below in
    let shown : IsPainted i j.place.line c.args.band.now =
    subst (λ (p : Progress). IsPainted (image_of p dots) p.place.line c.args.band.now) (sym c.self.view_is) painted in
    let P : Progress → Type 0 = λ p. c.copy_rows.new.room ≡ take r (pending (image_of p dots) p.place) ++ drop r out in
    subst P c.self.view_is (rw (c.bytes_of_row-bytes.ensures, c.in-Row.is, byte)
    (c.copy_rows.ensures i refl (omega (arith, below, c.min-rows.ensures)) (rw c.in-Row.is at shown)
    ∙ ap (λ t. t ++ drop (n * row_bytes j.width) out) (rows_front i v.high j.copies c.in-Row.y n some v.wide (omega arith) (omega (arith, below, c.min-rows.ensures)))))

pub returns-clause-rest : goal.returns-clause-rest
returns-clause-rest g c = grind (arith, common_steps)
