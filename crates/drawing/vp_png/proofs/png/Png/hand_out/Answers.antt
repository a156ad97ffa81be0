use Rattle.std.proofs.Common.{◌≡◌, ◌+◌, ◌-◌, ap, ◌∙◌, length, length-drop, arith}
use Rattle.vp_png.proofs.Files.{hand_file}
use Rattle.vp_png.proofs.png.Png.hand_out.Goals as goal

pub returns-clause-stands : goal.returns-clause-stands
returns-clause-stands c = λ rows out h.
    let p = c.args.self.now in
    let waits = ap length c.waiting.ensures in
    let next : c.len.result - (length c.waiting.result.now - c.args.n) ≡ p.taken + c.args.n = omega (arith, c.len.ensures, waits, length-drop p.taken p.waiting.items, p.handed, c.requires) in
    let file = hand_file out p.waiting.items p.taken c.args.n _ next in
    record {
      going = λ some. let g = h.going some in record { parts = g.parts; file = file ∙ g.file; packed = g.packed; sums = g.sums; count = g.count; across = g.across };
      ended = λ none. let e = h.ended none in record { parts = e.parts; chunks = file ∙ e.chunks; packed = e.packed; all = e.all; across = e.across };
    }
