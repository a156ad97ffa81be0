use Rattle.std.proofs.Common.{sym, ◌∙◌}
use Rattle.vp_esc.proofs.Columns.{tall_part, tall_whole}
use Rattle.vp_esc.proofs.Kept.{advances_giving}
use Rattle.vp_esc.proofs.reader.EscReader.tall_column.Goals as goal

pub returns-then-len-ne2 : goal.returns-then-len-ne2
returns-then-len-ne2 c rest hand =
    rw (c.tall_phase-self.ensures, c.saturating_sub.ensures)
    (tall_part c.args.self.now c.args.left c.args.byte rest c.keep.new.kept hand (λ e. c.if-len-ne2.true (c.len.ensures.value ∙ e)) c.keep.ensures)

pub returns : goal.returns
returns c rest hand =
    rw (c.tall_phase-self.ensures, c.saturating_sub.ensures, c.as_slice-above.ensures.value)
    (advances_giving _ _ (tall_whole c.args.self.now c.args.left c.args.byte rest c.clear.new.self hand (sym c.len.ensures.value ∙ c.if-len-ne2.false) c.clear.ensures))
