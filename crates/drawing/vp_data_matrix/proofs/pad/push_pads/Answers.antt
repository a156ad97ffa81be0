use Rattle.std.proofs.Common.{arith, ℕ, ◌+◌, ◌++◌, [], ◌∷◌, ◌∙◌, ap}
use Rattle.vp_data_matrix.specs.Pads.{pad}
use Rattle.vp_data_matrix.proofs.Words.{padded_full, padded_first, pads_more, pads_none, part_written, written_all}
use Rattle.vp_data_matrix.proofs.pad.push_pads.Goals as goal

pub returns-then-len-capacity-clause-pads : goal.returns-then-len-capacity-clause-pads
returns-then-len-capacity-clause-pads c = padded_full c.args.capacity c.args.words.now.items (omega arith)

pub loop-position-preserved : goal.loop-position-preserved
loop-position-preserved c = record {
  written = part_written c.loop-position.words.items _ _ _ (pad c.loop-position.position ∷ []) _
      (c.push-in-loop-position.ensures.items ∙ ap (λ (n : ℕ). c.loop-position.words.items ++ n ∷ []) c.pad.ensures)
      (pads_more c.loop-position.position (c.args.capacity + 1) (omega arith)) c.loop-position.invariant.written;
  count = omega (arith, c.push-in-loop-position.ensures.len);
}

pub returns-clause-pads : goal.returns-clause-pads
returns-clause-pads c =
    let more = written_all c.loop-position.words.items _ _ (pads_none c.loop-position.position (c.args.capacity + 1) (omega arith)) c.loop-position.invariant.written in
    padded_first c.args.capacity c.args.words.now.items c.push.new.self.items c.loop-position.words.items (omega arith) c.push.ensures.items more
