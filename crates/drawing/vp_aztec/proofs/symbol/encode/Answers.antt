use Rattle.std.proofs.Common.{◌≡◌, arith, sym, ◌∙◌}
use Rattle.vp_aztec.specs.Encoding.{bits}
use Rattle.vp_aztec.proofs.Codes.{bits_all, bits_many}
use Rattle.vp_aztec.proofs.SizeWords.{fits_room, fits_compact}
use Rattle.vp_aztec.proofs.symbol.encode.Goals as goal

pub returns-in_default-clause-refused : goal.returns-in_default-clause-refused
returns-in_default-clause-refused c = grind (arith, bits_many c.args.src.now (sym c.message-bits.ensures ∙ c.in_default.ensures.none))

pub returns-in_default-smallest-clause-refused : goal.returns-in_default-smallest-clause-refused
returns-in_default-smallest-clause-refused c =
    let e : c.in-Some.all.now ≡ bits c.args.src.now = bits_all c.args.src.now c.in-Some.all.now (sym c.message-bits.ensures ∙ c.in-Some.ensures.all) in
    grind (arith, e)

pub symbol_in-requires-clause-room : goal.symbol_in-requires-clause-room
symbol_in-requires-clause-room c = fits_room c.args.asked c.in-Some.all.now c.in-Some-smallest.k c.at.result c.at.ensures.size c.in-Some-smallest.ensures.fits.1

pub symbol_in-requires-clause-compact : goal.symbol_in-requires-clause-compact
symbol_in-requires-clause-compact c = fits_compact c.args.asked c.in-Some.all.now c.in-Some-smallest.k c.at.result c.at.ensures.size c.in-Some-smallest.ensures.fits.1

pub returns-clause-accepted : goal.returns-clause-accepted
returns-clause-accepted c =
    let e : c.in-Some.all.now ≡ bits c.args.src.now = bits_all c.args.src.now c.in-Some.all.now (sym c.message-bits.ensures ∙ c.in-Some.ensures.all) in
    grind (arith, e)

pub returns-clause-symbol : goal.returns-clause-symbol
returns-clause-symbol c =
    let e : c.in-Some.all.now ≡ bits c.args.src.now = bits_all c.args.src.now c.in-Some.all.now (sym c.message-bits.ensures ∙ c.in-Some.ensures.all) in
    grind (arith, e)
