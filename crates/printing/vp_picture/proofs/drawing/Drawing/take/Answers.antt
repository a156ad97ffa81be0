use Rattle.std.proofs.Common.{◌≡◌, ◌≤◌, ◌∷◌, ◌++◌, [], length, take, ap, ◌∙◌, arith}
use Rattle.std.proofs.lemmas.List.{length-take}
use Rattle.vp_dots.specs.Headers.{header_of}
use Rattle.vp_picture.proofs.Draws.{is_taken, not_refused, row_more, extended}
use Rattle.vp_picture.proofs.drawing.Drawing.take.Goals as goal

pub returns-then-len-self-clause-shows : goal.returns-then-len-self-clause-shows
returns-then-len-self-clause-shows c = λ text out h.
    let p = c.args.self.now.png in
    let line = c.as_slice.result.now in
    let piece = take c.min-n.result c.args.bytes.now in
    let long : length piece ≤ c.min-n.result = omega (arith, length-take c.min-n.result c.args.bytes.now) in
    let is : line ≡ c.args.self.now.part.items ++ piece = c.as_slice.ensures.value ∙ extended c.try_extend_from_slice.result _ _ c.try_extend_from_slice.ensures.variant (omega (arith, long, c.min-n.ensures, c.len.ensures.value, c.args.self.now.cut, c.args.self.now.few)) c.try_extend_from_slice.ensures.ok in
    let none = is_taken p line c.requires.left (omega (arith, c.len-2.ensures.value, c.if-len-self.true, c.args.self.now.wide, ap length c.as_slice.ensures.value)) c.requires.idle in
    let k = c.row.ensures in
    record {
      rows = h.rows ++ line ∷ [];
      text_is = rw (k.size.0, k.size.1) (row_more (header_of p.width p.height) text c.args.self.now.part.items (take c.min-n.result c.args.bytes.now) line c.clear.new.self.items h.rows h.text_is is c.clear.ensures);
      stands = not_refused c.row.result _ _ none k.err k.stands h.rows out h.stands;
    }
