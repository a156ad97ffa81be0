use Rattle.std.proofs.Common.{inl, inr, ◌≡◌, ℕ, ◌+◌, ◌-◌, ◌<◌, ◌≤◌, ℤ, pos, ◌-ℤ◌, ◌+ℤ◌, ◌<ℤ◌, ◌≤ℤ◌, ◌∙◌, rules, arith, w64}
use Rattle.std.proofs.lemmas.Int.{ints, to_z-of_z}
use Rattle.std.proofs.lemmas.Bool.{cases_lt}
use Rattle.vp_field.proofs.axis.Axis.window.Goals as goal

-- of a line that is counted back, the dot on the first of these places
last_dot : (at from_at first_at : ℤ) (size places from to first : ℕ) → from_at ≡ at -ℤ pos 0 -ℤ pos size +ℤ pos 1 → first_at ≡ at -ℤ pos 0 -ℤ pos places +ℤ pos 1 → from < to → to ≤ places → first ≤ size → from_at ≤ℤ pos from
    → pos (to - 1) <ℤ (from_at +ℤ pos size) → (to < places → (from_at +ℤ pos size) ≤ℤ pos to) → (0 < first → pos (first - 1) <ℤ first_at) → (first < size → first_at ≤ℤ pos first) → at ≡ pos (first + (to - 1))
last_dot at from_at first_at size places from to first e f l m n low high behind above below =
    elim (cases_lt to places) [
      | inl s ↦ elim (cases_lt 0 first) [ inl t ↦ omega (arith, ints, behind s, above t) | inr t ↦ omega (arith, ints, behind s) ]
      | inr s ↦ elim (cases_lt first size) [
        | inl t ↦ elim (cases_lt 0 first) [ inl u ↦ omega (arith, ints, below t, above u) | inr u ↦ omega (arith, ints, below t) ]
        | inr t ↦ omega (arith, ints, above (omega (arith, ints)))
      ]
    ]

pub returns-in-Forward-clause-inside : goal.returns-in-Forward-clause-inside
returns-in-Forward-clause-inside c = grind (arith, ints, to_z-of_z)

pub returns-in-Forward-clause-outside : goal.returns-in-Forward-clause-outside
returns-in-Forward-clause-outside c = grind (arith, ints, to_z-of_z)

pub returns-in-Back-clause-inside : goal.returns-in-Back-clause-inside
returns-in-Back-clause-inside c = λ p l h.
    let w = c.window_of-in-Back.ensures in
    let is = to_z-of_z w64 c.in-Back.at (search rules) in
    let from = to_z-of_z w64 c.last_before.result (search rules) ∙ rw is at c.last_before.ensures in
    let low = w.from (omega arith) in
    let at = last_dot c.in-Back.at _ _ c.args.size c.args.places c.window_of-in-Back.result.from c.window_of-in-Back.result.to c.window_of-in-Back.result.first from (to_z-of_z w64 c.last_before-in-Back.result (search rules) ∙ rw is at c.last_before-in-Back.ensures)
    (omega arith) w.places w.size low (w.to (omega arith)) w.behind w.above w.first in
    rw c.in-Back.is (omega (arith, ints, at, from, low), omega (arith, ints, at))

pub returns-in-Back-clause-outside : goal.returns-in-Back-clause-outside
returns-in-Back-clause-outside c = λ p v l h on.
    let w = c.window_of-in-Back.ensures in
    let is = to_z-of_z w64 c.in-Back.at (search rules) in
    let from = to_z-of_z w64 c.last_before.result (search rules) ∙ rw is at c.last_before.ensures in
    let here = rw c.in-Back.is at on in (
      elim (cases_lt 0 c.window_of-in-Back.result.from) [ inl s ↦ omega (arith, ints, from, here, w.before s) | inr s ↦ omega arith ],
      elim (cases_lt c.window_of-in-Back.result.to c.args.places) [ inl s ↦ omega (arith, ints, from, here, w.behind s) | inr s ↦ omega arith ],
    )
