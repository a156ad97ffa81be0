use Rattle.std.proofs.Common.{sym, w64}
use Rattle.std.proofs.lemmas.Int.{to_z-of_z}
use Rattle.vp_glyph.proofs.Handed.{flip_unseen, seen_some}
use Rattle.vp_glyph.proofs.Overlaid.{flipped}
use Rattle.vp_glyph.proofs.block.Block.flip_lines.Goals as goal

pub returns : goal.returns
returns g c =
    let b = c.args.self.now in
    rw (sym (to_z-of_z w64 c.args.at c.ranges.at)) (record {
      painted = flipped _ g.row.N _ _ _ _ _ _ _ _ _ _ _ _ c.requires.wide c.requires.room c.paint_lines-counter.ensures.painted c.xor_into.ensures;
      most = c.paint_lines-counter.ensures.most;
      some = λ d l t. seen_some _ _ (λ e. flip_unseen _ g.row.N b.sheet.now b.w b.h b.wide b.rows b.pitch b.alignment b.text.now c.args.y d c.paint_lines-counter.result c.requires.wide c.requires.room e c.paint_lines-counter.ensures.some) t;
    })
