-- The ink of contents on a label.
use Rattle.std.proofs.Common.{◌≡◌, ℕ, ◌*◌, ◌/◌, ◌<◌, Bool, false, ltb, ◌&&◌, ap, ◌∙◌, arith, List, [], get_or, None, ℤ}
use Rattle.std.proofs.Math.Nat.{div-lt_iff_lt-mul}
use Rattle.std.proofs.lemmas.Bool.{cases_lt, le-ltb, lt-ltb}
use Rattle.vp_dots.specs.Places.{RowsPainted}
use Rattle.vp_dots.specs.declared.Op.{Op}
use Rattle.vp_dots.proofs.Paints.{painted_none}
use Rattle.vp_qr.specs.declared.level.Level.{Level}
use Rattle.vp_qr.specs.declared.segment.Mode.{Mode}
use Rattle.vp_qr.specs.Inks.{ScaledSymbol, side, ink_of}
use Rattle.vp_qr.specs.Places.{size}
use Rattle.vp_qr.specs.Encoding.{refusal, QrSymbol, Encodes}
use Rattle.vp_zpl.specs.declared.item.Orientation.{Orientation}
use Rattle.vp_label_size.specs.declared.TheConstants.{BAND_ROWS}
use Rattle.vp_field.specs.Standing.{standing}
use Rattle.vp_field.specs.Contents.{qr_side, qr_dot}
use Rattle.vp_field.proofs.Places.{at_same, at_none}

-- no ink
pub rows_none : (op : Op) (f : ℕ → ℕ → Bool) (a : List (List ℕ)) → ((x k : ℕ) → f x k ≡ false) → RowsPainted BAND_ROWS op f a a
rows_none op f a e = record { rows_are = λ k h. painted_none op (λ d. f d k) (get_or a k []) (λ d l. e d k) }

pub standing_same : (left top : ℤ) (o : Orientation) (w h : ℕ) (f g : ℕ → ℕ → Bool) → ((u v : ℕ) → f u v ≡ g u v) → (x y : ℤ) → standing left top o w h f x y ≡ standing left top o w h g x y
standing_same left top o w h f g e x y = grind (arith, at_same)

pub standing_none : (left top : ℤ) (o : Orientation) (w h : ℕ) (f : ℕ → ℕ → Bool) → ((u v : ℕ) → f u v ≡ false) → (x y : ℤ) → standing left top o w h f x y ≡ false
standing_none left top o w h f e x y = grind (arith, at_none)

below_scaled : (k n a : ℕ) → 0 < k → a < k * n → a / k < n
below_scaled k n a p l = (div-lt_iff_lt-mul {k = k} {x = a} {y = n} p).1 (let c : n * k ≡ k * n = omega arith in omega arith)

modules_same : (scale n x y : ℕ) (f g : ℕ → ℕ → Bool) → 0 < scale → ((i j : ℕ) → i < n → j < n → f i j ≡ g i j)
    → (ltb x (scale * n) && ltb y (scale * n) && f (y / scale) (x / scale)) ≡ (ltb x (scale * n) && ltb y (scale * n) && g (y / scale) (x / scale))
modules_same scale n x y f g p e = grind (arith, cases_lt, le-ltb, lt-ltb, below_scaled)

-- the dots of a symbol drawn by its modules
pub qr_same : (level : Level) (mode : Mode) (bytes : List ℕ) (scale : ℕ) (qr : QrSymbol) (s : ScaledSymbol) → 0 < scale → refusal level mode bytes ≡ None → Encodes level mode bytes qr
    → s.scale ≡ scale → s.size ≡ size qr.version → s.rows ≡ qr.rows → (side s ≡ qr_side level mode bytes scale) × ((x y : ℕ) → ink_of s x y ≡ qr_dot level mode bytes scale x y)
qr_same level mode bytes scale qr s some none e a b c = grind (arith, modules_same)

pub qr_standing : (left top : ℤ) (o : Orientation) (n m : ℕ) (f g : ℕ → ℕ → Bool) → n ≡ m → ((u v : ℕ) → f u v ≡ g u v) → (x y : ℤ) → standing left top o n n f x y ≡ standing left top o m m g x y
qr_standing left top o n m f g e h x y = standing_same left top o n n f g h x y ∙ ap (λ k. standing left top o k k g x y) e
