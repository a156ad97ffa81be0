use Rattle.std.proofs.Common.{ap, sym, ◌∙◌, arith, subst}
use Rattle.vp_qr.specs.declared.level.Level.{Level}
use Rattle.vp_qr.specs.declared.segment.Mode.TheVariants.{Auto}
use Rattle.vp_qr.specs.Encoding.{Encodes, refusal}
use Rattle.vp_receipt_settings.specs.Symbols.{level_of, qr_side}
use Rattle.vp_strips.proofs.QrImages.{is_image, side_is, room_left, wide_refused}
use Rattle.vp_strips.proofs.qr.encoded.Goals as goal

pub returns-clause-image : goal.returns-clause-image
returns-clause-image c =
    is_image c.args.style c.args.bytes.now c.in-Ok.qr c.scaled-ink.result (subst (λ (l : Level). Encodes l Auto c.args.bytes.now c.in-Ok.qr) c.level_named.ensures c.in-Ok.ensures.symbol)
    c.scaled-ink.ensures.size (c.scaled-ink.ensures.scale ∙ c.from.ensures) c.scaled-ink.ensures.rows c.requires.module_some

pub returns-clause-accepted : goal.returns-clause-accepted
returns-clause-accepted c =
    let wide = side_is c.args.style c.args.bytes.now c.in-Ok.qr c.scaled-ink.result (subst (λ (l : Level). Encodes l Auto c.args.bytes.now c.in-Ok.qr) c.level_named.ensures c.in-Ok.ensures.symbol)
    c.scaled-ink.ensures.size (c.scaled-ink.ensures.scale ∙ c.from.ensures) c.scaled-ink.ensures.rows c.requires.module_some in
    room_left (qr_side c.args.style c.args.bytes.now) c.args.length (refusal (level_of c.args.style.level) Auto c.args.bytes.now)
    (ap (λ (l : Level). refusal l Auto c.args.bytes.now) (sym c.level_named.ensures) ∙ c.in-Ok.ensures.accepted)
    (let w = c.size-wide.ensures.width ∙ wide in omega (arith, w, c.if-wide-from.false, c.from-2.ensures))

pub returns-then-wide-from-clause-refused : goal.returns-then-wide-from-clause-refused
returns-then-wide-from-clause-refused c =
    let wide = side_is c.args.style c.args.bytes.now c.in-Ok.qr c.scaled-ink.result (subst (λ (l : Level). Encodes l Auto c.args.bytes.now c.in-Ok.qr) c.level_named.ensures c.in-Ok.ensures.symbol)
    c.scaled-ink.ensures.size (c.scaled-ink.ensures.scale ∙ c.from.ensures) c.scaled-ink.ensures.rows c.requires.module_some in
    wide_refused (qr_side c.args.style c.args.bytes.now) c.args.length (refusal (level_of c.args.style.level) Auto c.args.bytes.now)
    (ap (λ (l : Level). refusal l Auto c.args.bytes.now) (sym c.level_named.ensures) ∙ c.in-Ok.ensures.accepted)
    (let w = c.size-wide.ensures.width ∙ wide in omega (arith, w, c.if-wide-from.true, c.from-2.ensures))
