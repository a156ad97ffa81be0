use Rattle.std.proofs.Common.{ap, ◌∙◌, Err, lit≤}
use Rattle.std.proofs.lemmas.Result.{err_from_is_err_and}
use Rattle.vp_inflate.specs.declared.fault.Stop.{Stop}
use Rattle.vp_inflate.specs.Bits.{number_at}
use Rattle.vp_inflate.proofs.Readings.{reads_number}
use Rattle.vp_inflate.proofs.ElementReadings.{room_of}
use Rattle.vp_inflate.proofs.reader.Reader.put_stored.Goals as goal

pub returns-in_err-byte-clause-short : goal.returns-in_err-byte-clause-short
returns-in_err-byte-clause-short c =
    let p = err_from_is_err_and c.from_residual.result c.from_residual.ensures.1 in
    room_of 8 (number_at 8) (reads_number 8) (lit≤ tt) c.args.self.now.held c.from_residual.result c.in_err-byte.field-0.0 c.in_err-byte.ensures.value
    (p.1 ∙ ap (λ (e : Stop). Err e) p.2)
