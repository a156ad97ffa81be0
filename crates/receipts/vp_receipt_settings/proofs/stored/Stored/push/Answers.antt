use Rattle.std.proofs.Common.{◌<◌, ◌≤◌, ◌∙◌, length, arith}
use Rattle.vp_receipt_settings.specs.declared.stored.TheConstants.{STORED_BYTES}
use Rattle.vp_receipt_settings.proofs.Storing.{kept_one, no_more, kept_none, one_more}
use Rattle.vp_receipt_settings.proofs.stored.Stored.push.Goals as goal

pub returns-then-len-lt-STORED_BYTES : goal.returns-then-len-lt-STORED_BYTES
returns-then-len-lt-STORED_BYTES c = λ bytes h.
    let kept = c.args.self.now.bytes.items in
    let short : length kept < STORED_BYTES = omega (arith, c.len.ensures.value) in
    record { kept = c.push.ensures.items ∙ kept_one STORED_BYTES kept bytes c.args.byte h.kept short; more = h.more ∙ no_more STORED_BYTES kept bytes c.args.byte h.kept short }

pub returns : goal.returns
returns c = λ bytes h.
    let kept = c.args.self.now.bytes.items in
    let long : STORED_BYTES ≤ length kept = omega (arith, c.len.ensures.value) in
    record { kept = kept_none STORED_BYTES kept bytes c.args.byte h.kept long; more = one_more STORED_BYTES kept bytes c.args.byte h.kept long }
