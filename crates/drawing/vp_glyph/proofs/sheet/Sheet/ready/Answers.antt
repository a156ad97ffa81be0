use Rattle.std.proofs.Common.{◌≡◌, ◌<◌, ◌+◌, ◌-◌, ◌*◌, arith, ap, ◌∙◌, sym, get_or, take, drop}
use Rattle.std.proofs.lemmas.Grind.{common_steps}
use Rattle.std.proofs.lemmas.List.{get_or_default}
use Rattle.vp_glyph.specs.Inked.{IsInked}
use Rattle.vp_glyph.proofs.Cuts.{ready_of}
use Rattle.vp_glyph.proofs.sheet.Sheet.ready.Goals as goal

pub returns : goal.returns
returns g c =
    let high = c.self.inside.high in
    let cells = c.self.inside.inked.items in
    let inside : c.args.c < 256 = omega arith in
    let here : get_or cells c.args.c (record { first = 0; below = 0 }) ≡ c.index.result.now =
    get_or_default cells c.args.c _ _ (omega (arith, c.self.invariant.inked.count)) ∙ ap (λ i. get_or cells i c.index.result.now) (sym c.from-2.ensures) ∙ sym c.index.ensures in
    let all : high * c.args.c + high - high * c.args.c ≡ high = omega arith in
    let is : IsInked (take (high * c.args.c + high - high * c.args.c) (drop (high * c.args.c) c.self.inside.rows.items)) c.index.result.now =
    rw all (rw here at (c.self.invariant.inked.each c.args.c inside)) in
    rw (c.deref.ensures.value, c.from.ensures, sym c.self.view_is)
    (ready_of _ c.self.inside.rows.items c.args.c c.args.w c.args.h _ _ c.index.result.now c.self.invariant.cut inside (omega arith) all (omega arith) (omega arith) is)

pub offset_bounds-rows-first : goal.offset_bounds-rows-first
offset_bounds-rows-first g c = grind (arith, common_steps)

pub slice_bounds-result-start : goal.slice_bounds-result-start
slice_bounds-result-start g c = grind (arith, common_steps)

pub slice_bounds-result-end : goal.slice_bounds-result-end
slice_bounds-result-end g c = grind (arith, common_steps)

pub slice_bounds-result-count : goal.slice_bounds-result-count
slice_bounds-result-count g c = grind (arith, common_steps)
