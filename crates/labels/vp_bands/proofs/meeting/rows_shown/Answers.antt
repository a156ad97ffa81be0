use Rattle.std.proofs.Common.{rules}
use Rattle.std.proofs.lemmas.Int.{to_z-of_z}
use Rattle.vp_bands.proofs.Spans.{clamped_rows}
use Rattle.vp_bands.proofs.meeting.rows_shown.Goals as goal

pub returns-clause-rows : goal.returns-clause-rows
returns-clause-rows c = search (rules, clamped_rows, to_z-of_z)
