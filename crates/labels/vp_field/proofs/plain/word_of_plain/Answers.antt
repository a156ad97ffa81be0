use Rattle.std.proofs.Common.{inl, inr, ◌<◌, ◌≡◌, ◌+◌, ◌-◌, ℕ, sym, ap, ◌∙◌, arith}
use Rattle.std.specs.Prelude.{slice_index}
use Rattle.std.proofs.lemmas.Bool.{cases_lt}
use Rattle.vp_dots.specs.Words.{word_dot}
use Rattle.vp_glyph.specs.Halves.{half_dot}
use Rattle.vp_field.proofs.plain.word_of_plain.Goals as goal

pub returns : goal.returns
returns c = λ i x l h.
    let dot = λ (n : ℕ). half_dot (slice_index c.args.halves.now n) x in
    elim (cases_lt i 32) [
      | inl a ↦
          let first : 0 + i ≡ i = omega arith in
          c.of_halves.ensures.left i a ∙ c.half_of_plain.ensures i x a h ∙ ap dot first
      | inr b ↦
          let behind : 32 + (i - 32) ≡ i = omega (arith, b) in
          let few : i - 32 < 32 = omega (arith, l) in
          sym (ap (word_dot c.of_halves.result) behind) ∙ c.of_halves.ensures.right (i - 32) few ∙ c.half_of_plain-2.ensures (i - 32) x few h ∙ ap dot behind
    ]
