-- A line of an image.
use Rattle.std.proofs.Common.{◌≡◌, ℕ, ◌*◌, ◌<◌, ◌≤◌, Bool, true, arith, List, replicate, pos}
use Rattle.std.proofs.lemmas.List.{length-replicate}
use Rattle.std.proofs.lemmas.Bool.{false_from_ne_true, le-leb}
use Rattle.vp_dots.specs.Dots.{dot, shifted}
use Rattle.vp_dots.specs.Painting.{Painted}
use Rattle.vp_dots.specs.declared.Op.TheVariants.{Black}
use Rattle.vp_page.proofs.Blank.{dot_white}
use Rattle.vp_page.proofs.Rows.{dot_past}

-- a line painted on white
pub drawn : (n width : ℕ) (f : ℕ → Bool) (old new : List ℕ) → old ≡ replicate n 0 → width ≤ 8 * n → ((x : ℕ) → f x ≡ true → x < width)
    → Painted Black (shifted (pos 0) f) old new → (x : ℕ) → dot new x ≡ f x
drawn n width f old new e w o p x = grind (arith, length-replicate, dot_white, le-leb, dot_past, false_from_ne_true)
