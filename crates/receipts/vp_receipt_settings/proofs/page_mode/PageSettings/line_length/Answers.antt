use Rattle.vp_receipt_settings.proofs.page_mode.PageSettings.line_length.Goals as goal

pub returns-clause-value : goal.returns-clause-value
returns-clause-value c = c.line_length.ensures
