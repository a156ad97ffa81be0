-- What is told of a text has the images so far: no less height, and no other width.
use Rattle.std.proofs.Common.{◌≡◌, ◌<◌, ◌≤◌, ◌+◌, ◌-◌, ◌*◌, ℕ, zero, suc, Bool, true, false, not, cond, eqb, ltb, ◌&&◌, ◌||◌, List, [], ◌∷◌, ◌++◌, Some, None, refl, sym, ap, ◌∙◌, arith}
use Rattle.std.proofs.Math.Nat.{mul-le-mul_right}
use Rattle.std.proofs.lemmas.Bool.Decides.{nat_tests}
use Rattle.vp_dots.specs.Images.{row_bytes}
use Rattle.vp_join.specs.Strips.{greatest}
use Rattle.vp_join.specs.Told.{Seen, Told, told, whole, stops, images, width, height, rows, with_byte, with_digit, with_header, continues, is_other}
use Rattle.vp_join.specs.Standing.{from_phase, Stands, is_beyond}
use Rattle.vp_join.specs.Passes.{Tells}
use Rattle.vp_join.specs.declared.fault.Offence.{Offence}
use Rattle.vp_join.specs.declared.fault.Offence.TheVariants.{Header, Width, TooTall, Short}
use Rattle.vp_join.specs.declared.reading.Phase.{Phase}
use Rattle.vp_join.specs.declared.reading.Phase.TheVariants.{Between, AfterP, After4, InWidth, InHeight, InRows, Stopped}
use Rattle.vp_join.specs.declared.reading.Reading.{Reading}
use Rattle.vp_join.specs.declared.reading.Size.{Size}

pub record Grows (so : Seen) (t : Told) : Type 0 where
  pub taller : so.height ≤ t.so.height
  pub same : 0 < so.width → t.so.width ≡ so.width

still : (so : Seen) (t : Told) → t.so ≡ so → Grows so t
still so t e = record { taller = let h = ap (λ (s : Seen). s.height) e in omega (arith, h); same = λ h. ap (λ (s : Seen). s.width) e }

either : (so : Seen) (b : Bool) (x y : Told) → (b ≡ true → Grows so x) → (b ≡ false → Grows so y) → Grows so (cond b x y)
either so b x y f g = grind arith

same_width : (w v : ℕ) → is_other w v ≡ false → 0 < w → v ≡ w
same_width w v e h = grind (arith, nat_tests)

-- what follows a header
abbrev pub fitting : Seen → ℕ → ℕ → List ℕ → Told
fitting so w n text = cond (ltb greatest (so.height + n)) (stops so TooTall) (rows (with_header so w n) (row_bytes w * n - 1) text)

abbrev pub begun : Seen → ℕ → ℕ → List ℕ → Told
begun so w n text = cond (is_other so.width w) (stops so Width) (fitting so w n text)

mutual
  pub grows_images : (so : Seen) (text : List ℕ) → Grows so (images so text)
  grows_images so [] = still so (whole so) refl
  grows_images so (a ∷ []) = still so (stops so Header) refl
  grows_images so (a ∷ b ∷ []) = still so (stops so Header) refl
  grows_images so (a ∷ b ∷ c ∷ text) = either so (eqb a 80 && eqb b 52 && eqb c 10) (width so 0 text) (stops so Header) (λ e. grows_width so 0 text) (λ e. still so (stops so Header) refl)

  pub grows_width : (so : Seen) (n : ℕ) (text : List ℕ) → Grows so (width so n text)
  grows_width so n [] = still so (stops so Header) refl
  grows_width so n (b ∷ text) = either so (continues n b) (width so (with_digit n b) text) (cond (ltb 0 n && eqb b 32) (height so n 0 text) (stops so Header))
      (λ e. grows_width so (with_digit n b) text)
      (λ e. either so (ltb 0 n && eqb b 32) (height so n 0 text) (stops so Header) (λ f. grows_height so n 0 text) (λ f. still so (stops so Header) refl))

  pub grows_height : (so : Seen) (w n : ℕ) (text : List ℕ) → Grows so (height so w n text)
  grows_height so w n [] = still so (stops so Header) refl
  grows_height so w n (b ∷ text) = either so (continues n b) (height so w (with_digit n b) text) (cond (ltb 0 n && eqb b 10) (begun so w n text) (stops so Header))
      (λ e. grows_height so w (with_digit n b) text)
      (λ e. either so (ltb 0 n && eqb b 10) (begun so w n text) (stops so Header)
      (λ f. either so (is_other so.width w) (stops so Width) (fitting so w n text) (λ g. still so (stops so Width) refl)
      (λ g. either so (ltb greatest (so.height + n)) (stops so TooTall) (rows (with_header so w n) (row_bytes w * n - 1) text) (λ h. still so (stops so TooTall) refl)
      (λ h. let k = grows_rows (with_header so w n) (row_bytes w * n - 1) text in record {
        taller = omega (arith, k.taller);
        same = λ p. let v : w ≡ so.width = same_width so.width w g p in k.same (omega (arith, v, p)) ∙ v;
      })))
      (λ f. still so (stops so Header) refl))

  pub grows_rows : (so : Seen) (n : ℕ) (text : List ℕ) → Grows so (rows so n text)
  grows_rows so n [] = still so (stops so Short) refl
  grows_rows so zero (b ∷ text) = let k = grows_images (with_byte so b) text in record { taller = k.taller; same = k.same }
  grows_rows so (suc n) (b ∷ text) = let k = grows_rows (with_byte so b) n text in record { taller = k.taller; same = k.same }

pub grows_phase : (p : Phase) (so : Seen) (text : List ℕ) → Grows so (from_phase p so text)
grows_phase Between so text = grows_images so text
grows_phase AfterP so text = grows_images so (80 ∷ text)
grows_phase After4 so text = grows_images so (80 ∷ 52 ∷ text)
grows_phase (InWidth n) so text = grows_width so n text
grows_phase (InHeight w n) so text = grows_height so w n text
grows_phase (InRows n) so text = grows_rows so n text
grows_phase (Stopped f) so text = still so (stops so f) refl

-- what is beyond a size stays beyond it
pub stays_beyond : (s : Reading) (b r more : List ℕ) (size : Size) → Stands s b r → (s.width ≡ 0 → s.height ≡ 0) → is_beyond s size ≡ true → Tells (b ++ more) size → ⊥
stays_beyond s b r more size h none e t = grind (arith, grows_phase, not, nat_tests)

-- an offence stays one
pub stays_offence : (text : List ℕ) (size : Size) (so : Seen) (o : Offence) → told text ≡ stops so o → Tells text size → ⊥
stays_offence text size so o e t = let k : Some o ≡ None = ap (λ (x : Told). x.offence) (sym e ∙ t.whole_is) in cc

-- what is not beyond a size has no more bytes of rows than its image
pub not_taller : (w h v k : ℕ) → (ltb k h || (ltb 0 h && not (eqb w v))) ≡ false → h ≤ k
not_taller w h v k e = grind (arith, nat_tests)

pub not_wider : (w h v k : ℕ) → (ltb k h || (ltb 0 h && not (eqb w v))) ≡ false → 0 < h → w ≡ v
not_wider w h v k e p = grind (arith, nat_tests)

pub within_size : (w h v k n left : ℕ) → n + left ≡ h * row_bytes w → h ≤ k → (0 < h → w ≡ v) → n ≤ k * row_bytes v
within_size w zero v k n left e l f = omega (arith, e)
within_size w (suc h) v k n left e l f = grind (arith, mul-le-mul_right)
