use Rattle.std.proofs.Common.{ℕ, ◌<◌, not, ap, ◌∙◌, arith, get_or}
use Rattle.vp_qr.specs.Places.{size}
use Rattle.vp_qr.specs.Codes.{version_code}
use Rattle.vp_qr.specs.Penalty.{is_set, same}
use Rattle.vp_qr.specs.Walk.{dark}
use Rattle.vp_qr.proofs.FreeModules.{line_module}
use Rattle.vp_qr.proofs.Modules.{both, either, is_set_xor}
use Rattle.vp_qr.proofs.symbol.Grid.line.Goals as goal

pub returns : goal.returns
unfolding dark
returns c =
    λ (j : ℕ) (h : j < size c.args.self.now.version).
    let row : ℕ = get_or c.args.self.now.unmasked c.args.row 0 in
    either j (omega arith) _ _ _ _
    (either j (omega arith) _ _ _ _
    (both j (omega arith) _ _ _ _ (is_set_xor row c.flips.result j ∙ ap (λ b. not (same (is_set row j) b)) (c.flips.ensures j (omega arith)))
    (c.requires.grid.free_is c.args.row j c.requires.row h))
    (c.requires.grid.patterns_are c.args.row j c.requires.row h))
    (c.format_bits.ensures j h)
    ∙ line_module c.args.self.now.version c.args.format (version_code c.args.self.now.version) c.args.mask c.args.row j (dark c.args.self.now.unmasked)
