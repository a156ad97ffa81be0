use Rattle.std.proofs.Common.{◌≡◌, ◌*◌, ◌++◌, drop, length}
use Rattle.std.specs.List.{flat_map}
use Rattle.vp_qr.specs.Polynomial.{check_of}
use Rattle.vp_qr.specs.Blocks.{data_blocks}
use Rattle.vp_qr.proofs.interleave.check_words.Given as goal

abbrev pub invariant-loop-block : goal.invariant-loop-block
invariant-loop-block l =
    (l.checks.items ++ flat_map (λ block. check_of block l.blocks.check) (drop l.block (data_blocks l.blocks l.words)) ≡ flat_map (λ block. check_of block l.blocks.check) (data_blocks l.blocks l.words))
    × (length l.checks.items ≡ l.block * l.blocks.check)
