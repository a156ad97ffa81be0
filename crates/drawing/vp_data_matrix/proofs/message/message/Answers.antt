use Rattle.std.proofs.Common.{◌≡◌, ◌+◌, ◌==◌, ◌∙◌, true, ap, length, length-append, arith}
use Rattle.vp_data_matrix.specs.declared.message.Scheme.{Scheme}
use Rattle.vp_data_matrix.specs.Messages.{encoded, message}
use Rattle.vp_data_matrix.proofs.SchemeWords.{length-message, message_room, message_is}
use Rattle.vp_data_matrix.proofs.message.message.Goals as goal

pub push-requires : goal.push-requires
push-requires c =
    let src = c.args.src.now in
    let words = c.words-words.result.items in
    let n : c.length.result + c.of-choice.result.length ≡ length (message true c.args.lead src) =
    omega (arith, length-message c.args.lead src, ap (λ (s : Scheme). length (encoded true s 0 src)) c.of-choice.ensures.scheme) in
    omega (
      arith,
      ap length (message_is c.args.capacity (c.length.result + c.of-choice.result.length) c.args.lead src words c.of-choice.result.scheme c.words-words.ensures c.of-choice.ensures.scheme n),
      length-append words (encoded (c.length.result + c.of-choice.result.length == c.args.capacity) c.of-choice.result.scheme (length words) src),
      message_room c.args.capacity c.args.lead src c.requires.room,
    )

pub returns-clause-words : goal.returns-clause-words
returns-clause-words c =
    let src = c.args.src.now in
    let n : c.length.result + c.of-choice.result.length ≡ length (message true c.args.lead src) =
    omega (arith, length-message c.args.lead src, ap (λ (s : Scheme). length (encoded true s 0 src)) c.of-choice.ensures.scheme) in
    c.push.ensures ∙ message_is c.args.capacity (c.length.result + c.of-choice.result.length) c.args.lead src c.words-words.result.items c.of-choice.result.scheme c.words-words.ensures c.of-choice.ensures.scheme n

pub returns-clause-room : goal.returns-clause-room
returns-clause-room c =
    let src = c.args.src.now in
    let n : c.length.result + c.of-choice.result.length ≡ length (message true c.args.lead src) =
    omega (arith, length-message c.args.lead src, ap (λ (s : Scheme). length (encoded true s 0 src)) c.of-choice.ensures.scheme) in
    let whole = c.push.ensures ∙ message_is c.args.capacity (c.length.result + c.of-choice.result.length) c.args.lead src c.words-words.result.items c.of-choice.result.scheme c.words-words.ensures c.of-choice.ensures.scheme n in
    omega (arith, ap length whole, message_room c.args.capacity c.args.lead src c.requires.room)
