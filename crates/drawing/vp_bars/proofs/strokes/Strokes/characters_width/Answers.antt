use Rattle.std.proofs.lemmas.Grind.{common_steps}
use Rattle.std.proofs.Common.{◌*◌, ap, arith, length}
use Rattle.vp_bars.proofs.Regular.{Parts, parts_of}
use Rattle.vp_bars.proofs.strokes.Strokes.characters_width.Goals as goal
use Rattle.vp_bars.proofs.strokes.Strokes.characters_width.Goals.{After-split_at}

-- the first character, the regular ones behind it, and the last ones
parts : (c : After-split_at) → let s = c.args.self.now in
    Parts s.symbology s.narrow s.wide s.values.now c.in-Some.first.now c.split_at.result.0.now c.split_at.result.1.now
parts c = grind (arith, common_steps, parts_of)

pub character_width-requires : goal.character_width-requires
character_width-requires c =
    let p = parts (goal.at.character_width-requires c).After-split_at in
    omega (arith, p.total_is, c.requires)

pub overflow_cast-result : goal.overflow_cast-result
overflow_cast-result c = grind arith

pub overflow_mul-result : goal.overflow_mul-result
overflow_mul-result c = grind (arith, parts)

pub overflow_add-result : goal.overflow_add-result
overflow_add-result c =
    let p = parts (goal.at.overflow_add-result c).After-split_at in
    let step = ap (λ k. k * length c.split_at.result.0.now) c.step.ensures.step in
    omega (arith, p.total_is, step, c.character_width.ensures, c.requires)

pub next_width-requires : goal.next_width-requires
next_width-requires c =
    let p = parts (goal.at.next_width-requires c).After-split_at in
    let step = ap (λ k. k * length c.split_at.result.0.now) c.step.ensures.step in
    omega (arith, p.total_is, step, c.requires)

pub overflow_add-result-2 : goal.overflow_add-result-2
overflow_add-result-2 c =
    let p = parts (goal.at.overflow_add-result-2 c).After-split_at in
    let step = ap (λ k. k * length c.split_at.result.0.now) c.step.ensures.step in
    omega (arith, p.total_is, step, c.character_width.ensures, c.next_width.ensures, c.requires)

pub returns : goal.returns
returns c =
    let p = parts (goal.at.returns c).After-split_at in
    let step = ap (λ k. k * length c.split_at.result.0.now) c.step.ensures.step in
    omega (arith, p.total_is, step, c.character_width.ensures, c.next_width.ensures)
