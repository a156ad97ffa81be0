-- Where dots fall.
use Rattle.std.proofs.Common.{◌≡◌, ℕ, ◌+◌, ◌<◌, ◌≤◌, true, arith}
use Rattle.std.proofs.lemmas.Bool.{and_parts, leb-true, le-leb}
use Rattle.vp_page.specs.declared.area.Area.{Area}
use Rattle.vp_page.specs.declared.area.Direction.{Direction}
use Rattle.vp_page.specs.Areas.{holds, line_length, depth, falls_x, falls_y, along, down}
use Rattle.vp_page.specs.Layers.{Mark, mark_dot}
use Rattle.vp_page.specs.Laws.{DotsFall, FallsOn}

pub record IsWithin (a : Area) (x y : ℕ) : Type 0 where
  pub left : a.x ≤ x
  pub right : x < a.x + a.dx
  pub above : a.y ≤ y
  pub below : y < a.y + a.dy

pub within : (a : Area) (x y : ℕ) → holds a x y ≡ true → IsWithin a x y
within a x y e = grind arith

pub held : (a : Area) (x y : ℕ) → IsWithin a x y → holds a x y ≡ true
held a x y w = grind arith

-- the place of an area, by the line
pub record Lies (a : Area) (d : Direction) (u w x y : ℕ) : Type 0 where
  pub in_line : u < line_length a d
  pub in_depth : w < depth a d
  pub column : x ≡ falls_x a d u w
  pub row : y ≡ falls_y a d u w

pub lies : (a : Area) (d : Direction) (x y : ℕ) → IsWithin a x y → Lies a d (along a d x y) (down a d x y) x y
lies a d x y h = grind arith

falls : (m : Mark) (x y : ℕ) → mark_dot m x y ≡ true → (u : ℕ) × (w : ℕ) × FallsOn m u w x y × (m.dot u w ≡ true)
falls m x y e = grind (arith, and_parts, leb-true, lies, within)

blackens : (m : Mark) (u w x y : ℕ) → FallsOn m u w x y → m.dot u w ≡ true → mark_dot m x y ≡ true
blackens m u w x y f e = grind (arith, held, le-leb)

pub dots_fall : DotsFall
dots_fall m x y = (falls m x y, λ h. blackens m h.0 h.1 x y h.2 h.3)
