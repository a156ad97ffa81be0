-- The widths of paper: all that proofs ask of each.
use Rattle.std.proofs.Common.{◌≡◌, ◌*◌, ◌<◌, ◌≤◌, arith, lit≤}
use Rattle.vp_page.specs.declared.page.TheConstants.{PAPER_DOTS, PAPER_BYTES}
use Rattle.vp_receipt_settings.specs.declared.width.Width.{Width}
use Rattle.vp_receipt_settings.specs.Setup.{across, row_bytes}

-- a row's bytes are whole
pub dots_across : (paper : Width) → across paper ≡ 8 * row_bytes paper
dots_across paper = grind arith

pub some_bytes : (paper : Width) → 0 < row_bytes paper
some_bytes paper = grind (arith, lit≤)

-- no paper is wider than the page
pub few_bytes : (paper : Width) → row_bytes paper ≤ PAPER_BYTES
few_bytes paper = grind (arith, lit≤)

pub few_dots : (paper : Width) → across paper ≤ PAPER_DOTS
few_dots paper = omega (arith, dots_across paper, few_bytes paper)
