use Rattle.std.proofs.Common.{rules}
use Rattle.vp_dots.specs.Dots.{dot}
use Rattle.vp_glyph.proofs.Passed.{runs_down, runs_up, runs_alone}
use Rattle.vp_glyph.proofs.runs.Runs.blacken.Goals as goal

pub returns-then-to-eq-ROWS : goal.returns-then-to-eq-ROWS
returns-then-to-eq-ROWS c = λ k x l h.
    let s = c.args.self.now in
    runs_down s.alone s.down s.up 32 k x l c.args.from c.args.to _ (dot c.args.ink.now x) c.if-to-eq-ROWS.true (search rules) (c.blacken.ensures x h)

pub returns-then-from-eq0 : goal.returns-then-from-eq0
returns-then-from-eq0 c = λ k x l h.
    let s = c.args.self.now in
    runs_up s.alone s.down s.up 32 k x l c.args.from c.args.to _ (dot c.args.ink.now x) c.if-from-eq0.true c.requires.some c.requires.to (search rules) (c.blacken-then-from-eq0.ensures x h)

pub returns : goal.returns
returns c = λ k x l h.
    let s = c.args.self.now in
    runs_alone s.alone s.down s.up 32 k x l c.args.from c.args.to _ (dot c.args.ink.now x) (c.blacken_rows.ensures k x l h)
