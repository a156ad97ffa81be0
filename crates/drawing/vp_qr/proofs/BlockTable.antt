-- The table of blocks, checked row by row.
use Rattle.std.proofs.Common.{◌≡◌, ℕ, ◌+◌, ◌≤◌, ◌&&◌, ◌||◌, Bool, true, eqb, ltb, refl, arith}
use Rattle.std.proofs.lemmas.Bool.{and_parts, eqb-true, ltb-true}
use Rattle.vp_qr.specs.declared.level.Level.{Level}
use Rattle.vp_qr.specs.declared.level.Level.TheVariants.{L, M, Q, H}
use Rattle.vp_qr.specs.declared.level.Blocks.{Blocks}
use Rattle.vp_qr.specs.Blocks.{blocks_of, words_of, codewords_of, total, IsSound}
use Rattle.vp_qr.proofs.FieldLaws.{passes_below}
use Rattle.vp_qr.proofs.WalkOrder.{for_version}

-- a record of tests
abbrev codewords_add_up : ℕ → Blocks → Bool
codewords_add_up v b = eqb (codewords_of b) (total v)

abbrev sizes_hold : Blocks → Bool
sizes_hold b = ltb 0 b.check && ltb b.check 31 && ltb 0 b.words && ltb b.words 117 && ltb (b.words + b.long) 120 && ltb 0 b.short && ltb (b.short + b.long) 9 && ltb (words_of b) 275 && ltb (codewords_of b) 347

abbrev long_holds : Blocks → Bool
long_holds b = eqb b.long 0 || ltb b.words 116

abbrev holds : Level → ℕ → Bool
holds level v = codewords_add_up v (blocks_of level v) && sizes_hold (blocks_of level v) && long_holds (blocks_of level v)

every_version : (level : Level) → passes_below 10 (λ k. holds level (k + 1)) ≡ true
unfolding blocks_of
every_version L = refl
every_version M = refl
every_version Q = refl
every_version H = refl

pub codewords_add : (level : Level) (v : ℕ) → 1 ≤ v → v ≤ 10 → codewords_of (blocks_of level v) ≡ total v
codewords_add level v low high = eqb-true _ _ (and_parts _ _ (and_parts _ _ (for_version (holds level) (every_version level) v low high)).0).0

pub sound : (level : Level) (v : ℕ) → 1 ≤ v → v ≤ 10 → IsSound (blocks_of level v)
sound level v low high = of_tests (blocks_of level v) (for_version (holds level) (every_version level) v low high)
  where
    of_tests : (b : Blocks) → (codewords_add_up v b && sizes_hold b && long_holds b) ≡ true → IsSound b
    of_tests b h = grind (arith, ltb-true)
