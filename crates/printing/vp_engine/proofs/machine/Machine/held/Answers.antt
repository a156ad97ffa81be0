use Rattle.std.proofs.Common.{refl, sym, ap, ◌∙◌}
use Rattle.vp_receipt.specs.Strips.{line_rows_after, page_rows_after}
use Rattle.vp_label.specs.Held.{band_rows_after, stored_after}
use Rattle.vp_engine.specs.Machines.{machine_of, pending_of}
use Rattle.vp_engine.specs.Paper.{nothing_held}
use Rattle.vp_engine.specs.Setups.{Labels, rules_of}
use Rattle.vp_engine.proofs.Arms.{at_receipt, at_lines, at_label, at_label_lines}
use Rattle.vp_engine.proofs.machine.Machine.held.Goals as goal

pub returns-in-Receipt-clause-value : goal.returns-in-Receipt-clause-value
returns-in-Receipt-clause-value g c = at_receipt _ _ _ _ c.in-Receipt.is (λ by s t before at.
    ap (λ n. record nothing_held { line_rows = n; page_rows = c.page_rows.result }) (c.line_rows.ensures.value s before at.1 ∙ ap (λ m. line_rows_after s before (pending_of (machine_of m))) (sym c.in-Receipt.is))
    ∙ ap (λ n. record nothing_held { line_rows = line_rows_after s before (pending_of (machine_of c.args.self.now)); page_rows = n }) (c.page_rows.ensures.value s before at.1 ∙ ap (λ m. page_rows_after s before (pending_of (machine_of m))) (sym c.in-Receipt.is)))

pub returns-in-Label-clause-value : goal.returns-in-Label-clause-value
returns-in-Label-clause-value g c = at_label _ _ _ _ c.in-Label.is (λ by s t before at.
    let pending = c.in-Label.label.pending in
    ap (λ n. record nothing_held { band_rows = n; stored = c.stored.result; fields = c.fields.result }) (c.band_rows.ensures.value s before at.1)
    ∙ ap (λ n. record nothing_held { band_rows = band_rows_after s before pending; stored = n; fields = c.fields.result }) (c.stored.ensures.value s before at.1)
    ∙ ap (λ n. record nothing_held { band_rows = band_rows_after s before pending; stored = stored_after before pending; fields = n }) (c.fields.ensures.value s before at.1)
    ∙ ap (λ m. (rules_of (Labels by s)).held before (pending_of (machine_of m))) (sym c.in-Label.is))

pub returns-in-ReceiptLines-clause-value : goal.returns-in-ReceiptLines-clause-value
returns-in-ReceiptLines-clause-value g c = at_lines _ _ _ _ c.in-ReceiptLines.is (λ by w t before at. refl)

pub returns-in-LabelLines-clause-value : goal.returns-in-LabelLines-clause-value
returns-in-LabelLines-clause-value g c = at_label_lines _ _ _ _ c.in-LabelLines.is (λ by w t before at. refl)
