use Rattle.std.proofs.Common.{◌≡◌, ◌-◌, eqb, get_or, length}
use Rattle.vp_pdf417.specs.Text.{first_from}
use Rattle.vp_pdf417.proofs.submode.place_in.Given as goal

abbrev pub invariant-loop-k : goal.invariant-loop-k
invariant-loop-k l = first_from (λ k. eqb (get_or l.characters k 0) l.byte) l.k (length l.characters - l.k) ≡ first_from (λ k. eqb (get_or l.characters k 0) l.byte) 0 (length l.characters)
