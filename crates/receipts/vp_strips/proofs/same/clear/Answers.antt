use Rattle.std.proofs.Common.{refl, arith}
use Rattle.std.proofs.lemmas.Bool.Decides.{nat_tests}
use Rattle.std.proofs.lemmas.List.{length-replicate}
use Rattle.vp_page.specs.declared.line.TheConstants.{LINE_BYTES}
use Rattle.vp_strips.proofs.Bitmaps.{cleared, dot_white}
use Rattle.vp_strips.proofs.same.clear.Goals as goal
use Rattle.vp_strips.proofs.same.clear.Goals.{then-not-same-y, else-not-same-y}

pub returns-then-not-told : goal.returns-then-not-told
returns-then-not-told g c = cleared c.args.used _ c.args.same.now c.args.band.now _ refl c.requires c.clear_rows.ensures.white

pub loop-y-init : goal.loop-y-init
loop-y-init g c = grind (arith, c.requires.rows_are, c.requires.above)

pub loop-y-preserved : goal.loop-y-preserved
loop-y-preserved g c = elim c.if-not-same-y.branch [
  | then-not-same-y w ↦ rw w.band-is record {
    rows = λ z h. grind (arith, nat_tests, length-replicate, w.clear_rows-then-not-same-y.ensures.white z, c.loop-y.invariant.rows z);
    white = λ x z h l. grind (arith, nat_tests, dot_white LINE_BYTES x, h, w.clear_rows-then-not-same-y.ensures.white z, c.loop-y.invariant.white x z);
    rest = λ z h. grind (arith, nat_tests, w.clear_rows-then-not-same-y.ensures.white z, c.loop-y.invariant.rest z);
  }
  | else-not-same-y w ↦ rw w.band-is record {
    rows = c.loop-y.invariant.rows;
    white = λ x z h l. grind (arith, c.loop-y.invariant.white x z, c.loop-y.invariant.rest z, c.requires.told x z, w.if-not-same-y.false, c.loop-y-test.true);
    rest = λ z h. c.loop-y.invariant.rest z (omega (arith, h));
  }
]

pub returns : goal.returns
returns g c = grind (arith, c.loop-y.invariant.rows, c.loop-y.invariant.white, c.loop-y-test.false)
