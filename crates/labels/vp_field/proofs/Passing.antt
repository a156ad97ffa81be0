-- Where ink that lies on a band is seen.
use Rattle.std.proofs.Common.{inl, inr, ◌≡◌, ℕ, ◌+◌, ◌-◌, ◌^◌, ◌<◌, ◌≤◌, Bool, true, sym, ◌∙◌, ℤ, pos, List, min, arith}
use Rattle.std.proofs.lemmas.Bool.{cases_lt, true≢false, and_parts, ltb-true, leb-true}
use Rattle.vp_glyph.specs.Above.{pieces_above}
use Rattle.vp_glyph.specs.Blocks.{BlockLayout, block_dot}
use Rattle.vp_glyph.proofs.Ended.{pieces_above_less}
use Rattle.vp_glyph.proofs.Stacks.{block_narrow}
use Rattle.vp_field.specs.Drawn.{part}
use Rattle.vp_field.specs.Places.{at_place}
use Rattle.vp_field.proofs.Places.{at_true}

-- a dot of some lines that lies on two places
pub record Seen (from to : ℕ) (ink : ℕ → ℕ → Bool) (i j : ℤ) : Type 0 where
  pub u : ℕ
  pub v : ℕ
  pub low : from ≤ v
  pub high : v < to
  pub dot : ink u v ≡ true
  pub place : j ≡ pos v
  pub whole : at_place (λ v. at_place (λ u. ink u v) i) j ≡ true

pub seen_part : (from to : ℕ) (ink : ℕ → ℕ → Bool) (i j : ℤ) → at_place (λ v. at_place (λ u. part from to ink u v) i) j ≡ true → Seen from to ink i j
seen_part from to ink i j e = grind (arith, at_true, and_parts, leb-true, ltb-true)

-- a block with a dot is as wide as a cell
pub block_wide : (b : BlockLayout) (text : List ℕ) (u v : ℕ) → block_dot b text u v ≡ true → b.w ≤ b.wide
block_wide b text u v e = elim (cases_lt b.wide b.w) [
  | inl l ↦ absurd (true≢false (sym e ∙ sym (block_narrow b.sheet text b.w b.h b.wide b.rows b.pitch b.alignment u v l)))
  | inr n ↦ n
]

-- where a block shows a dot of a line so far below row y, and passed and counted the lines that end above row `row`, those above row y
-- are counted beside what is painted
pub passed_beside : (b : BlockLayout) (text : List ℕ) (y row most high least walked painted : ℕ) (i j : ℤ)
    → at_place (λ v. at_place (λ u. part (y + most) high (block_dot b text) u v) i) j ≡ true
    → ((v : ℕ) → v < high → j ≡ pos v → v < row + most)
    → (b.w ≤ b.wide → walked ≡ min (0 + pieces_above b text row) (2 ^ 64 - 1)) → walked < 2 ^ 64 - 1
    → (at_place (λ v. at_place (λ u. block_dot b text u v) i) j ≡ true → least ≤ painted)
    → pieces_above b text y + least ≤ walked + painted
passed_beside b text y row most high least walked painted i j e near counted few some = grind (arith, seen_part, pieces_above_less, block_wide)
