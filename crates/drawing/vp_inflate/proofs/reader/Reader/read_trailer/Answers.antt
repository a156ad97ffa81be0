use Rattle.std.proofs.Common.{ap, ◌∙◌, Err, lit≤}
use Rattle.std.proofs.lemmas.Result.{err_from_is_err_and}
use Rattle.vp_inflate.specs.declared.fault.Stop.{Stop}
use Rattle.vp_inflate.specs.Headers.{checksum_at}
use Rattle.vp_inflate.proofs.ElementReadings.{reads_checksum, room_of}
use Rattle.vp_inflate.proofs.reader.Reader.read_trailer.Goals as goal

pub returns-in_err-said-clause-short : goal.returns-in_err-said-clause-short
returns-in_err-said-clause-short c =
    let p = err_from_is_err_and c.from_residual.result c.from_residual.ensures.1 in
    room_of 39 checksum_at reads_checksum (lit≤ tt) c.args.self.now.held c.from_residual.result c.in_err-said.field-0.0 c.in_err-said.ensures.value
    (p.1 ∙ ap (λ (e : Stop). Err e) p.2)
