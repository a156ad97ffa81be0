use Rattle.std.proofs.Common.{◌≡◌, ℕ, ◌-◌, List, nat_lt, length, take, min, sym, ap, ◌∙◌, arith}
use Rattle.vp_receipt_settings.specs.Symbols.{qr_data}
use Rattle.vp_receipt_settings.proofs.Storing.{data_after, kept_run, all_fit, some_left}
use Rattle.vp_receipt_settings.proofs.stored.Stored.take_all.Goals as goal
use Rattle.vp_receipt_settings.specs.declared.stored.TheConstants.{STORED_BYTES}

pub returns-then-n-bytes : goal.returns-then-n-bytes
returns-then-n-bytes c = λ before h.
    let kept = c.args.self.now.bytes.items in
    let bytes = c.args.bytes.now in
    let n = c.min-n.result in
    let room : n ≡ min (STORED_BYTES - length kept) (length bytes) = omega (arith, c.min-n.ensures, c.remaining_capacity.ensures) in
    record {
      kept = c.append.ensures ∙ kept_run kept (qr_data before) bytes h.kept n room ∙ sym (ap (take STORED_BYTES) (data_after bytes before));
      more = all_fit kept (qr_data before) bytes h.kept n c.args.self.now.more room c.if-n-bytes.true h.more ∙ sym (ap (λ (xs : List ℕ). nat_lt STORED_BYTES (length xs)) (data_after bytes before));
    }

pub returns : goal.returns
returns c = λ before h.
    let kept = c.args.self.now.bytes.items in
    let bytes = c.args.bytes.now in
    let n = c.min-n.result in
    let room : n ≡ min (STORED_BYTES - length kept) (length bytes) = omega (arith, c.min-n.ensures, c.remaining_capacity.ensures) in
    record {
      kept = c.append.ensures ∙ kept_run kept (qr_data before) bytes h.kept n room ∙ sym (ap (take STORED_BYTES) (data_after bytes before));
      more = some_left kept (qr_data before) bytes h.kept n room (omega (arith, room, c.if-n-bytes.false)) ∙ sym (ap (λ (xs : List ℕ). nat_lt STORED_BYTES (length xs)) (data_after bytes before));
    }
