-- Lines that were handed out, and pieces of them.
use Rattle.std.proofs.Common.{◌≡◌, ℕ, ◌+◌, ◌*◌, ◌≤◌, arith}
use Rattle.std.proofs.lemmas.Nat.{mul-le}
use Rattle.vp_field.specs.Contents.{lines_cost, block_cost}
use Rattle.vp_field.specs.Counts.{ArePieces}
use Rattle.vp_field.specs.declared.axis.Lines.{Lines}
use Rattle.vp_field.specs.declared.axis.Lines.TheVariants.{Along, Across}

-- so many lines have no more pieces
pub few_pieces : (most lines pieces n : ℕ) → ArePieces most lines pieces → lines ≤ n → pieces ≤ n * most
few_pieces most lines pieces n are h = let times = mul-le lines most n most h (omega arith) in omega (arith, times, are.within)

-- lines of fewer pieces cost no more
pub fewer_cost : (lines : Lines) (few most : ℕ → ℕ) → ((d : ℕ) → few d ≤ most d) → lines_cost lines few ≤ lines_cost lines most
fewer_cost lines few most h1 = grind arith

-- what a block costs, of whose text so many bytes are kept
pub along_cost : (lines : Lines) (n bytes walked took : ℕ) → lines ≡ Along → n ≤ bytes → walked ≤ 2 * n + 1 → took ≤ 66 * (2 * n + 1) + lines_cost lines (λ d. 2 * (2 * n + 1))
    → walked + took ≤ block_cost lines (2 * bytes + 1)
along_cost lines n bytes walked took e few w t = let least = rw e at t in rw e (omega (arith, few, w, least))

pub across_cost : (lines : Lines) (n bytes walked took : ℕ) → lines ≡ Across → n ≤ bytes → walked ≤ 2 * n + 1 → took ≤ 2 * (2 * n + 1) + 2504
    → walked + took ≤ block_cost lines (2 * bytes + 1)
across_cost lines n bytes walked took e few w t = rw e (omega (arith, few, w, t))
