use Rattle.std.proofs.Common.{ap, ◌∙◌, arith, refl, ◌&&◌}
use Rattle.vp_dots.specs.Words.{word_dot}
use Rattle.vp_glyph.proofs.Looks.{white_dot}
use Rattle.vp_glyph.proofs.Masks.{stretch_none, stretch_more, stretch_all}
use Rattle.vp_glyph.proofs.stretch.Stretch.of.Goals as goal

pub loop-s-init : goal.loop-s-init
loop-s-init c x = white_dot x ∙ stretch_none (word_dot c.args.word) c.args.self.now.width x

pub loop-s-preserved : goal.loop-s-preserved
loop-s-preserved c x =
    stretch_more (word_dot c.args.word) c.args.self.now.width c.loop-s.wide c.picked-wide.result _ c.loop-s.s x (c.loop-s.invariant x)
    (c.picked-wide.ensures x ∙ ap (λ b. word_dot c.args.word c.loop-s.s && b) (c.args.self.now.masks_are c.requires c.loop-s.s x (omega arith))) refl

pub returns : goal.returns
returns c x = stretch_all (word_dot c.args.word) c.args.self.now.width c.loop-s.wide c.loop-s.s x (omega arith) (c.loop-s.invariant x)
