-- A whole message, and why it has no symbol.
use Rattle.std.proofs.Common.{◌≡◌, ℕ, ◌<◌, ◌≤◌, List, [], length, refl, sym, ap, ◌∙◌, Option, Some, None, arith}
use Rattle.std.proofs.lemmas.Bool.{le-leb, lt-leb}
use Rattle.vp_maxicode.specs.declared.mode.Mode.{Mode}
use Rattle.vp_maxicode.specs.declared.mode.Mode.TheVariants.{Structured, Standard, Enhanced, Program}
use Rattle.vp_maxicode.specs.declared.mode.Part.{Part}
use Rattle.vp_maxicode.specs.declared.symbol.Refusal.TheVariants.{TooLong}
use Rattle.vp_maxicode.specs.Messages.{text}
use Rattle.vp_maxicode.specs.Primaries.{part_words, room}
use Rattle.vp_maxicode.specs.Encoding.{message, mode_refusal, part_refusal, refusal}
use Rattle.vp_maxicode.specs.Written.{written}
use Rattle.vp_maxicode.proofs.Held.{written_append}

pub message_written : (part : Option Part) (src : List ℕ) (start front all : Option (List ℕ)) → start ≡ Some [] → front ≡ written start (part_words part)
    → all ≡ written front (text src).words → written (Some []) (message part src) ≡ all
unfolding message
message_written part src start front all en ef ea =
    written_append (Some []) (part_words part) (text src).words ∙ ap (λ (v : Option (List ℕ)). written (written v (part_words part)) (text src).words) (sym en)
    ∙ ap (λ (v : Option (List ℕ)). written v (text src).words) (sym ef) ∙ sym ea

pub refused_long : (mode : Mode) (part : Option Part) (src : List ℕ) → mode_refusal mode src ≡ None → part_refusal part ≡ None
    → room mode < length (message part src) → refusal mode part src ≡ Some TooLong
refused_long mode part src em ep lt = rw (em, ep, lt-leb (length (message part src)) (room mode) lt) refl

pub accepted : (mode : Mode) (part : Option Part) (src : List ℕ) → mode_refusal mode src ≡ None → part_refusal part ≡ None
    → length (message part src) ≤ room mode → refusal mode part src ≡ None
accepted mode part src em ep le = rw (em, ep, le-leb (length (message part src)) (room mode) le) refl

pub room_most : (mode : Mode) → room mode ≤ 93
room_most (Structured carrier) = omega arith
room_most Standard = omega arith
room_most Enhanced = omega arith
room_most Program = omega arith
