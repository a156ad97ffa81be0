use Rattle.vp_esc.proofs.QrData.{qr_step}
use Rattle.vp_esc.proofs.Kept.{advances_giving}
use Rattle.vp_esc.proofs.reader.EscReader.qr_byte.Goals as goal

pub returns : goal.returns
returns c rest hand =
    rw (c.phase_behind-self.ensures, c.saturating_sub.ensures, c.as_slice-2.ensures.value)
    (advances_giving _ _
    (qr_step c.args.self.now c.args.count c.args.left c.args.byte rest _ c.keep.new.kept hand
    (rw c.as_slice.ensures.value at c.qr_given-event.ensures) c.keep.ensures))
