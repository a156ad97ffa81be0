use Rattle.std.proofs.Common.{w64, sym, ap, ◌∙◌}
use Rattle.std.proofs.lemmas.Int.{to_z-of_z}
use Rattle.vp_bands.specs.Meeting.{shows_row, box_meets}
use Rattle.vp_bands.proofs.Spans.{bands_met, no_band_met}
use Rattle.vp_bands.proofs.meeting.span.Goals as goal

pub returns-then-from-to-clause-bands : goal.returns-then-from-to-clause-bands
unfolding box_meets
returns-then-from-to-clause-bands c = λ b.
    bands_met (shows_row c.args.view c.args.top c.args.rows) c.rows_shown-from.result.0 c.rows_shown-from.result.1 b
    (λ y. ap (λ t. shows_row c.args.view t c.args.rows y) (sym (to_z-of_z w64 c.args.top c.ranges.top)) ∙ c.rows_shown-from.ensures.rows y) c.if-from-to.true

pub returns-else-from-to-clause-bands : goal.returns-else-from-to-clause-bands
unfolding box_meets
returns-else-from-to-clause-bands c = λ b.
    no_band_met (shows_row c.args.view c.args.top c.args.rows) c.rows_shown-from.result.0 c.rows_shown-from.result.1 b
    (λ y. ap (λ t. shows_row c.args.view t c.args.rows y) (sym (to_z-of_z w64 c.args.top c.ranges.top)) ∙ c.rows_shown-from.ensures.rows y) c.if-from-to.false
