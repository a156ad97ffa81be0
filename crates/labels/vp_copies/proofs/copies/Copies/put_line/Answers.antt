use Rattle.std.proofs.Common.{◌≡◌, ◌<◌, ◌≤◌, ◌++◌, ℕ, Option, ap, sym, subst, ◌∙◌, take, drop, length}
use Rattle.vp_output.specs.declared.place.Place.{Place as InImage}
use Rattle.vp_output.specs.Lines.{line_text}
use Rattle.vp_output.specs.Places.{advanced as advanced_in}
use Rattle.vp_copies.specs.Copies.{at, line_bytes, lines_of, pending}
use Rattle.vp_copies.specs.Progress.{Progress, image_of}
use Rattle.vp_copies.specs.Standing.{progress_of}
use Rattle.vp_copies.proofs.Places.{next_is, pending_front, pending_longer, pending_on, IsNext, IsPlaceIn}
use Rattle.vp_copies.proofs.Texts.{length-line}
use Rattle.vp_copies.proofs.copies.Copies.put_line.Goals as goal

pub returns-clause-within : goal.returns-clause-within
returns-clause-within g c = λ dots.
    let j = c.self.inside in
    let i = image_of (progress_of j) dots in
    let n = c.put_part-output.result.count in
    let v = c.self.invariant in
    let some : 0 < j.copies = subst (λ (p : Progress). 0 < p.place.copies) (sym c.self.view_is) c.requires in
    let len : length c.line-line.result.now ≡ line_bytes j.width j.height j.place.line =
    subst (λ (p : Progress). length c.line-line.result.now ≡ line_bytes p.width p.height p.place.line) (sym c.self.view_is) c.line-line.ensures.count in
    let P : Progress → Type 0 = λ p. n ≤ length (pending (image_of p dots) p.place) in
    subst P c.self.view_is (pending_longer i v.high j.copies j.place n some (record { line = v.place.line; byte = v.place.byte })
    (c.put_part-output.ensures.within (lines_of i) (len ∙ sym (length-line i j.place.line))))

pub returns-clause-bytes : goal.returns-clause-bytes
returns-clause-bytes g c = λ dots painted.
    let j = c.self.inside in
    let i = image_of (progress_of j) dots in
    let n = c.put_part-output.result.count in
    let out = c.args.out.now in
    let v = c.self.invariant in
    let some : 0 < j.copies = subst (λ (p : Progress). 0 < p.place.copies) (sym c.self.view_is) c.requires in
    let text : c.line-line.result.now ≡ line_text (lines_of i) j.place.line =
    subst (λ (p : Progress). c.line-line.result.now ≡ line_text (lines_of (image_of p dots)) p.place.line) (sym c.self.view_is) (c.line-line.ensures.text dots painted) in
    let P : Progress → Type 0 = λ p. c.put_part-output.new.out ≡ take n (pending (image_of p dots) p.place) ++ drop n out in
    subst P c.self.view_is (c.put_part-output.ensures.bytes (lines_of i) text
    ∙ ap (λ t. t ++ drop n out) (pending_front i v.high j.copies j.place n some (record { line = v.place.line; byte = v.place.byte })
    (c.put_part-output.ensures.within (lines_of i) (ap length text))))

pub returns-clause-rest : goal.returns-clause-rest
returns-clause-rest g c = λ dots.
    let j = c.self.inside in
    let i = image_of (progress_of j) dots in
    let n = c.put_part-output.result.count in
    let next = c.put_part-output.result.next in
    let v = c.self.invariant in
    let is : IsPlaceIn i v.high j.place = record { line = v.place.line; byte = v.place.byte } in
    let some : 0 < j.copies = subst (λ (p : Progress). 0 < p.place.copies) (sym c.self.view_is) c.requires in
    let len : length c.line-line.result.now ≡ line_bytes j.width j.height j.place.line =
    subst (λ (p : Progress). length c.line-line.result.now ≡ line_bytes p.width p.height p.place.line) (sym c.self.view_is) c.line-line.ensures.count in
    let long = len ∙ sym (length-line i j.place.line) in
    let to : next ≡ advanced_in j.height (line_bytes j.width j.height j.place.line) n j.place =
    c.put_part-output.ensures.next ∙ ap (λ (rows : ℕ). advanced_in rows (length c.line-line.result.now) n j.place) c.from.ensures ∙ ap (λ (l : ℕ). advanced_in j.height l n j.place) len in
    let valid : IsNext i v.high next = subst (λ (q : Option InImage). IsNext i v.high q) (sym to) (next_is i v.high v.wide n j.place is) in
    let P : Progress → Type 0 = λ p. pending i (at c.behind.result.0 c.behind.result.1) ≡ drop n (pending (image_of p dots) p.place) in
    subst P c.self.view_is (ap (pending i) c.behind.ensures
    ∙ pending_on i v.high j.copies j.place next n some is valid (c.put_part-output.ensures.within (lines_of i) long) (c.put_part-output.ensures.rest (lines_of i) (sym c.from.ensures) long))
