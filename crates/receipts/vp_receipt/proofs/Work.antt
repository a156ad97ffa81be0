-- What items add to the work of a page.
use Rattle.std.proofs.Common.{ℕ, ◌+◌, List, arith}
use Rattle.vp_page.specs.Layers.{Layer}
use Rattle.vp_page.specs.Work.{laid_rows, most_wiped}
use Rattle.vp_receipt.specs.Work.{AddsAtMost}

abbrev work : List Layer → ℕ
work l = laid_rows l + most_wiped l

pub adds_at_most : AddsAtMost
adds_at_most setup before item m = grind arith
