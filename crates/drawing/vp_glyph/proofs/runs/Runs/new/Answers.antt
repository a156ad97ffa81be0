use Rattle.vp_glyph.proofs.Passed.{white_runs}
use Rattle.vp_glyph.proofs.runs.Runs.new.Goals as goal

pub returns : goal.returns
returns c = λ k x. white_runs 32 160 k x
