-- Lines of dots, drawn on white.
use Rattle.std.proofs.Common.{◌≡◌, ℕ, ◌-◌, ◌*◌, ◌/◌, ◌%◌, ◌<◌, Bool, true, false, cond, eqb, ltb, ◌&&◌, ap, ◌∙◌, arith, List, length, replicate, ℤ}
use Rattle.std.proofs.lemmas.List.{get_or-replicate, length-replicate}
use Rattle.std.proofs.lemmas.Nat.Bits.{bit_at-zero}
use Rattle.std.proofs.lemmas.Bool.{lt-ltb}
use Rattle.vp_dots.specs.Dots.{bit, dot, shifted}
use Rattle.vp_dots.specs.Painting.{Painted}
use Rattle.vp_dots.specs.declared.Op.TheVariants.{Black}

pub dot_white : (n x : ℕ) → x / 8 < n → dot (replicate n 0) x ≡ false
unfolding dot bit
dot_white n x h = rw (get_or-replicate {A = ℕ} n (x / 8) 0 0 h) (ap (λ k. eqb k 1) (bit_at-zero (7 - x % 8)))

black_alone : (b : Bool) → cond b true false ≡ b
black_alone b = grind arith

-- a line painted on white
pub on_white : (n : ℕ) (at : ℤ) (f : ℕ → Bool) (old new : List ℕ) → length old ≡ n → ((p : ℕ) → p < 8 * n → dot old p ≡ false) → Painted Black (shifted at f) old new
    → (p : ℕ) → p < 8 * n → dot new p ≡ shifted at f p
on_white n at f old new long white q p h = q.dots_are p (omega (arith, long, h)) ∙ rw (white p h) (black_alone (shifted at f p))

-- and on zeros
pub on_zeros : (n : ℕ) (at : ℤ) (f : ℕ → Bool) (new : List ℕ) → Painted Black (shifted at f) (replicate n 0) new → (p : ℕ) → p < 8 * n → dot new p ≡ shifted at f p
on_zeros n at f new q = on_white n at f (replicate n 0) new (length-replicate {A = ℕ} n 0) (λ p h. dot_white n p (omega (arith, h))) q

-- and read from its end
pub turned : (n : ℕ) (old line new : List ℕ) → length line ≡ length old → length old ≡ n → ((d : ℕ) → dot new d ≡ (ltb d (8 * length line) && dot line (8 * length line - 1 - d)))
    → (p : ℕ) → p < 8 * n → dot new p ≡ dot line (8 * n - 1 - p)
turned n old line new e k t p h = grind (arith, lt-ltb)
