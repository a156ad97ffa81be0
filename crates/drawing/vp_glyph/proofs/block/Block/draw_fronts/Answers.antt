use Rattle.std.proofs.Common.{arith, ◌+◌, ◌∙◌, ap}
use Rattle.std.proofs.lemmas.Int.{to_z-of_z}
use Rattle.vp_glyph.specs.Halves.{half_dot}
use Rattle.vp_glyph.proofs.Handed.{seen_some, lines_fit}
use Rattle.vp_glyph.proofs.Halves.{white_half}
use Rattle.vp_glyph.proofs.Sheeted.{drawn_narrow}
use Rattle.vp_glyph.proofs.Gathered.{no_front}
use Rattle.vp_glyph.proofs.block.Block.draw_fronts.Goals as goal

pub returns-then-self : goal.returns-then-self
returns-then-self g c =
    let b = c.args.self.now in
    record {
      drawn = λ i x l m k. drawn_narrow b.sheet.now b.w b.h b.wide b.rows b.pitch b.alignment (c.args.top + i) c.args.at 4 b.text.now _ x c.if-self.true (ap (λ v. half_dot v x) (c.requires.white i) ∙ white_half x);
      most = omega arith;
      some = λ i x l m t. seen_some _ _ (λ e. ap (λ v. half_dot v x) (c.requires.white i) ∙ white_half x) t;
    }

pub add_lines-counter-requires : goal.add_lines-counter-requires
add_lines-counter-requires g c = (omega (arith, c.requires.few), (omega arith, (c.requires.few, (c.requires.seen, λ i x. no_front 80 _ i x (c.requires.white i)))))

pub returns : goal.returns
returns g c = grind (arith, to_z-of_z, lines_fit, seen_some, c.settle.ensures, c.add_lines-counter.ensures.added)
