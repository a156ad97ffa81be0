use Rattle.std.proofs.Common.{◌≡◌, ◌∙◌, Result, Ok, ap, sym, arith, length, drop}
use Rattle.std.proofs.lemmas.List.{length-take}
use Rattle.vp_field.specs.Contents.{bytes_of}
use Rattle.vp_qr_field.specs.Fronts.{front_of}
use Rattle.vp_closing.specs.Contents.{sized_if}
use Rattle.vp_closing.specs.Symbols.{qr_of}
use Rattle.vp_dots.specs.declared.fault.Fault.{Fault}
use Rattle.vp_qr_field.specs.declared.front.QrFront.{QrFront}
use Rattle.vp_closing.proofs.symbol.qr_content.Goals as goal

pub overflow_add-behind : goal.overflow_add-behind
overflow_add-behind c =
    omega (
      arith,
      ap length c.bytes_of.ensures,
      length-take c.args.bytes.len (drop c.args.bytes.start c.args.stored.now),
      c.in_ok-front.ensures.within,
      c.requires.among,
      c.requires.few,
    )

pub returns-clause-value : goal.returns-clause-value
returns-clause-value c = λ sheets.
    let a = c.args in
    let front : front_of a.model (bytes_of a.stored.now a.bytes) ≡ Ok c.in_ok-front.front =
    sym (c.qr_front.ensures.value ∙ ap (front_of a.model) c.bytes_of.ensures) ∙ c.in_ok-front.was in
    c.qr_behind.ensures.value sheets ∙ sym (ap (λ (r : Result QrFront Fault). sized_if sheets a.stored.now (qr_of a.stored.now a.dots a.bytes r)) front)
