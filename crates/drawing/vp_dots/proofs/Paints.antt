-- Paintings one after the other.
use Rattle.std.proofs.Common.{◌≡◌, ℕ, ◌+◌, ◌-◌, ◌*◌, ◌/◌, ◌%◌, ◌^◌, ◌<◌, ◌≤◌, Bool, false, eqb, ltb, ◌&&◌, ◌||◌, refl, ap, ◌∙◌, arith, List, min, length, get_or, set, eq-eqb}
use Rattle.std.proofs.lemmas.List.{length-set}
use Rattle.std.proofs.lemmas.Bool.{cases_eq, cases_lt, ne_eqb, le-ltb, lt-ltb}
use Rattle.std.proofs.lemmas.Bool.Decides.{nat_tests}
use Rattle.vp_dots.specs.Dots.{bit, dot, dots}
use Rattle.vp_dots.specs.Painting.{paint, Painted}
use Rattle.vp_dots.specs.declared.Op.{Op}
use Rattle.vp_dots.proofs.Rows.{dot-set, dot_past}
use Rattle.vp_dots.proofs.Bits.{bit_of_top}

module _ (op : Op) where
  -- with no ink in the row nothing changes
  pub painted_none : (ink : ℕ → Bool) (row : List ℕ) → ((d : ℕ) → d < dots row → ink d ≡ false) → Painted op ink row row
  painted_none ink row h = record { length_is = refl; dots_are = λ d l. rw (h d l) refl }

  -- the same ink in other words
  pub painted_same : (f g : ℕ → Bool) (a b : List ℕ) → ((d : ℕ) → d < dots a → f d ≡ g d) → Painted op f a b → Painted op g a b
  painted_same f g a b h p = record { length_is = p.length_is; dots_are = λ d l. p.dots_are d l ∙ ap (λ i. paint op i (dot a d)) (h d l) }

  twice : (i j k old : Bool) → k ≡ (i || j) → (i && j) ≡ false → paint op j (paint op i old) ≡ paint op k old
  twice i j k old e n = grind arith

  -- one painting after another that it does not meet
  pub painted_then : (f g h : ℕ → Bool) (a b c : List ℕ) → Painted op f a b → Painted op g b c
      → ((d : ℕ) → d < dots a → h d ≡ (f d || g d)) → ((d : ℕ) → d < dots a → (f d && g d) ≡ false) → Painted op h a c
  painted_then f g h a b c p q u n = grind arith

  -- one byte painted by the mask of one dot
  pub painted_dot : (at v : ℕ) (row : List ℕ) → at / 8 < length row
      → ((k : ℕ) → k < 8 → bit v k ≡ paint op (bit (128 / 2 ^ (at % 8)) k) (bit (get_or row (at / 8) 0) k)) → Painted op (λ d. eqb d at) row (set row (at / 8) v)
  unfolding dot
  painted_dot h v row k w = grind (arith, length-set, dot-set, cases_eq, eq-eqb, bit_of_top, ne_eqb, nat_tests)

  -- one byte painted, with the ink of its eight dots
  pub painted_byte_at : (f : ℕ → Bool) (i v : ℕ) (row : List ℕ) → i < length row
      → ((k : ℕ) → k < 8 → bit v k ≡ paint op (f (8 * i + (7 - k))) (bit (get_or row i 0) k)) → Painted op (λ d. eqb (d / 8) i && f d) row (set row i v)
  unfolding dot
  painted_byte_at f i v row h w = grind (arith, length-set, dot-set, cases_eq, eq-eqb, ne_eqb)

  -- a loop over the bytes
  module _ (f : ℕ → Bool) where
    pub bytes_init : (a : List ℕ) → Painted op (λ d. ltb (d / 8) 0 && f d) a a
    bytes_init a = painted_none (λ d. ltb (d / 8) 0 && f d) a (λ d l. grind (arith, nat_tests))

    pub bytes_more : (i v : ℕ) (a b : List ℕ) → i < length b → Painted op (λ d. ltb (d / 8) i && f d) a b
        → ((k : ℕ) → k < 8 → bit v k ≡ paint op (f (8 * i + (7 - k))) (bit (get_or b i 0) k)) → Painted op (λ d. ltb (d / 8) (i + 1) && f d) a (set b i v)
    bytes_more i v a b h p w = painted_then (λ d. ltb (d / 8) i && f d) (λ d. eqb (d / 8) i && f d) (λ d. ltb (d / 8) (i + 1) && f d) a b (set b i v) p (painted_byte_at f i v b h w)
        (λ d l. grind (arith, nat_tests)) (λ d l. grind (arith, nat_tests))

    pub bytes_all : (n : ℕ) (a b : List ℕ) → length a ≤ n → Painted op (λ d. ltb (d / 8) n && f d) a b → Painted op f a b
    bytes_all n a b h p = painted_same (λ d. ltb (d / 8) n && f d) f a b (λ d l. grind (arith, nat_tests)) p

    -- the last byte with ink, after a loop over those left of it
    pub bytes_last : (i n : ℕ) (a b c : List ℕ) → i ≡ n → Painted op (λ d. ltb (d / 8) i && f d) a b → Painted op (λ d. eqb (d / 8) n && f d) b c
        → ((d : ℕ) → d < dots a → n < d / 8 → f d ≡ false) → Painted op f a c
    bytes_last i n a b c e p q h = grind arith

  -- a loop that ends where the shorter of two rows does
  pub bytes_short : (source : List ℕ) (n : ℕ) (a b : List ℕ) → min (length source) (length a) ≤ n → Painted op (λ d. ltb (d / 8) n && dot source d) a b → Painted op (dot source) a b
  bytes_short source n a b h p = grind (arith, painted_same, cases_lt, lt-ltb, dot_past, le-ltb)
