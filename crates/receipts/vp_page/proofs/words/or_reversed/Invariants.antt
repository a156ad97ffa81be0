use Rattle.std.proofs.Common.{◌+◌, ◌-◌, ◌*◌, ◌&&◌, leb, ltb, length}
use Rattle.vp_dots.specs.Dots.{dot}
use Rattle.vp_dots.specs.Painting.{Painted}
use Rattle.vp_dots.specs.declared.Op.TheVariants.{Black}
use Rattle.vp_page.proofs.words.or_reversed.Given as goal

-- the bytes before these are laid
abbrev pub invariant-loop-k : goal.invariant-loop-k
invariant-loop-k l = Painted Black (λ d. ltb d (8 * l.q + 8 * (16 * l.k)) && (leb (8 * l.q) d && (ltb (d - 8 * l.q) (8 * length l.line) && dot l.line (8 * length l.line - 1 - (d - 8 * l.q))))) l.fn.row l.row
