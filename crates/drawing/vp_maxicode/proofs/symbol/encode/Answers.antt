use Rattle.std.proofs.Common.{◌≡◌, ℕ, ◌∙◌, length, arith, sym, ap}
use Rattle.vp_maxicode.specs.Encoding.{message, symbol_in}
use Rattle.vp_maxicode.specs.Codewords.{padded}
use Rattle.vp_maxicode.specs.Primaries.{room}
use Rattle.vp_maxicode.specs.Messages.{text}
use Rattle.vp_maxicode.specs.declared.set.CodeSet.{CodeSet}
use Rattle.vp_maxicode.proofs.Held.{held_all, held_none}
use Rattle.vp_maxicode.proofs.EncodeWords.{message_written, refused_long, accepted, room_most}
use Rattle.vp_maxicode.proofs.symbol.encode.Goals as goal

pub returns-in_default-all-clause-refused : goal.returns-in_default-all-clause-refused
returns-in_default-all-clause-refused c =
    let w = message_written c.args.part c.args.src.now c.new-words.result _ _ c.new-words.ensures c.push_part.ensures c.push_text-set.ensures.written in
    let n = held_none (message c.args.part c.args.src.now) (w ∙ c.in_default-all.ensures.none) in
    refused_long c.args.mode c.args.part c.args.src.now (sym c.mode_refusal.ensures.refusal ∙ c.in_default.is) (sym c.part_refusal.ensures.refusal ∙ c.in_default-part_refusal.is)
    (omega (arith, n, room_most c.args.mode))

pub returns-then-all-room-clause-refused : goal.returns-then-all-room-clause-refused
returns-then-all-room-clause-refused c =
    let src = c.args.src.now in
    let w = message_written c.args.part src c.new-words.result _ _ c.new-words.ensures c.push_part.ensures c.push_text-set.ensures.written in
    let e : c.in-Some-all.all.now ≡ message c.args.part src = held_all (message c.args.part src) c.in-Some-all.all.now (w ∙ c.in-Some-all.ensures.all) in
    refused_long c.args.mode c.args.part src (sym c.mode_refusal.ensures.refusal ∙ c.in_default.is) (sym c.part_refusal.ensures.refusal ∙ c.in_default-part_refusal.is)
    (omega (arith, ap length e, c.room-room.ensures.room))

pub returns-clause-accepted : goal.returns-clause-accepted
returns-clause-accepted c =
    let src = c.args.src.now in
    let w = message_written c.args.part src c.new-words.result _ _ c.new-words.ensures c.push_part.ensures c.push_text-set.ensures.written in
    let e : c.in-Some-all.all.now ≡ message c.args.part src = held_all (message c.args.part src) c.in-Some-all.all.now (w ∙ c.in-Some-all.ensures.all) in
    accepted c.args.mode c.args.part src (sym c.mode_refusal.ensures.refusal ∙ c.in_default.is) (sym c.part_refusal.ensures.refusal ∙ c.in_default-part_refusal.is)
    (omega (arith, ap length e, c.room-room.ensures.room))

pub returns-clause-symbol : goal.returns-clause-symbol
returns-clause-symbol c =
    let src = c.args.src.now in
    let all = c.in-Some-all.all.now in
    let w = message_written c.args.part src c.new-words.result _ _ c.new-words.ensures c.push_part.ensures c.push_text-set.ensures.written in
    let e : all ≡ message c.args.part src = held_all (message c.args.part src) all (w ∙ c.in-Some-all.ensures.all) in
    c.symbol_in.ensures
    ∙ ap (symbol_in c.args.mode) (c.as_slice.ensures.value ∙ c.padded.ensures.words
    ∙ ap (λ (n : ℕ). padded n c.push_text-set.result all) c.room-room.ensures.room
    ∙ ap (λ (set : CodeSet). padded (room c.args.mode) set all) c.push_text-set.ensures.set
    ∙ ap (padded (room c.args.mode) (text src).set) e)
