use Rattle.std.proofs.Common.{arith, refl}
use Rattle.std.proofs.lemmas.Int.{to_z-of_z}
use Rattle.vp_glyph.proofs.Handed.{less_left}
use Rattle.vp_glyph.proofs.Joining.{joined_none, joined_more, joined_all, rows_none, same_added}
use Rattle.vp_glyph.proofs.block.Block.joined.Goals as goal

pub loop-left-init : goal.loop-left-init
loop-left-init g c =
    let b = c.args.self.now in
    record {
      joined = λ s x l m. joined_none b.sheet.now b.w b.h b.wide b.rows b.pitch b.alignment s x _;
      last = λ s x l m. same_added _ _ (rows_none b.sheet.now b.w b.h b.wide b.rows b.pitch b.alignment _ _ refl s x l m);
      counted = omega arith;
      some = λ e. absurd (let f = e in cc);
    }

pub loop-left-preserved : goal.loop-left-preserved
loop-left-preserved g c =
    let b = c.args.self.now in
    record {
      joined = λ s x l m. grind (arith, joined_more, c.loop-left.invariant.joined, c.hand_line.ensures.text);
      last = c.join-last.ensures.last;
      counted = grind (arith, less_left, c.hand_line.ensures.less, c.in-Some.is, c.hand_line.ensures.counted);
      some = λ e. omega (arith, c.hand_line.ensures.counted, c.join-last.ensures.counted);
    }

pub returns : goal.returns
returns g c = grind (arith, to_z-of_z, joined_all, c.in_default.is)
