use Rattle.std.proofs.Common.{◌≡◌, ◌-◌, ◌+◌, ◌*◌, ℕ, ltb, ◌&&◌, length}
use Rattle.vp_dots.specs.Painting.{Painted}
use Rattle.vp_dots.specs.declared.Op.TheVariants.{White}
use Rattle.vp_join.specs.Strips.{is_padding}
use Rattle.vp_join.proofs.padding.clear_padding.Given as goal

-- the rows' last bytes before this one are done
abbrev pub invariant-rows : goal.invariant-rows
invariant-rows l = record {
  at : (p : ℕ) × (l.given + l.last + 1 ≡ p * l.bytes + l.bytes);
  painted : Painted White (λ d. ltb d (8 * l.last) && is_padding l.width (8 * l.given + d)) l.fn.rows l.rows;
}

abbrev pub decreases-rows : goal.decreases-rows
decreases-rows l = length l.fn.rows - l.last
