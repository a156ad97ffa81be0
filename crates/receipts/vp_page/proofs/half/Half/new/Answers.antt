use Rattle.std.proofs.Common.{arith}
use Rattle.vp_page.proofs.Whites.{all_white}
use Rattle.vp_page.proofs.half.Half.new.Goals as goal

pub invariant_of-result : goal.invariant_of-result
invariant_of-result g c = record {
  words = c.requires.words;
  few = c.requires.few;
  white = all_white g.row.B g.row.H _ _ _ (omega (arith, c.none.ensures.within)) c.in_ok-band.ensures;
}
