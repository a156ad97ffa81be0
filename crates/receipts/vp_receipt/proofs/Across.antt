-- All images that are printed are as wide as the paper.
use Rattle.std.proofs.Common.{ℕ, Bool, cond, List, [], ◌∷◌, ◌++◌, Option, arith}
use Rattle.vp_dots.specs.Images.{Image}
use Rattle.vp_esc.specs.declared.item.EscItem.{EscItem}
use Rattle.vp_receipt_settings.specs.Setup.{Setup, across}
use Rattle.vp_receipt.specs.Images.{AreAcross, strip, symbol_strip, own_images, completed, images}

module _ (setup : Setup) where
  abbrev Across : List Image → Type 0
  Across xs = AreAcross (across setup.width) xs

  either : (b : Bool) (xs ys : List Image) → Across xs → Across ys → Across (cond b xs ys)
  either b xs ys h1 h2 = grind arith

  both : (xs ys : List Image) → Across xs → Across ys → Across (xs ++ ys)
  both [] ys p q = q
  both (x ∷ xs) ys p q = (p.0, both xs ys p.1 q)

  strip_across : (rows : ℕ) (f : ℕ → ℕ → Bool) → Across (strip setup.width rows f)
  strip_across rows f = grind arith

  symbol_across : (before : List EscItem) (image : Option Image) → Across (symbol_strip setup before image)
  symbol_across before image = grind arith

  own_across : (before : List EscItem) (item : EscItem) → Across (own_images setup before item)
  own_across before item = grind (arith, strip_across, both, either, symbol_across)

  completed_across : (before : List EscItem) (item : EscItem) → Across (completed setup before item)
  completed_across before item = grind (arith, either, strip_across, both, own_across)

  pub all_across : (before : List EscItem) → Across (images setup before)
  all_across [] = tt
  all_across (item ∷ before) = both (images setup before) (completed setup before item) (all_across before) (completed_across before item)
