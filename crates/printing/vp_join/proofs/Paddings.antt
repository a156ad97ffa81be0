-- Where the padding is, row by row.
use Rattle.std.proofs.Common.{inl, inr, ◌≡◌, ℕ, ◌+◌, ◌-◌, ◌*◌, ◌/◌, ◌%◌, ◌<◌, ◌≤◌, Bool, false, eqb, ltb, leb, ◌&&◌, ◌||◌, List, length, get_or, set, sym, ap, ◌∙◌, arith}
use Rattle.std.proofs.lemmas.Nat.{mod-mul-add, mod_below}
use Rattle.std.proofs.Math.Nat.{div-add-mod}
use Rattle.std.proofs.lemmas.Bool.{cases_lt, lt-leb, le-ltb}
use Rattle.std.proofs.lemmas.Bool.Decides.{nat_tests}
use Rattle.vp_dots.specs.Dots.{bit}
use Rattle.vp_dots.specs.Images.{row_bytes}
use Rattle.vp_dots.specs.Painting.{paint, Painted}
use Rattle.vp_dots.specs.declared.Op.TheVariants.{White}
use Rattle.vp_dots.proofs.Paints.{painted_none, painted_then, painted_byte_at}
use Rattle.vp_join.specs.Strips.{is_padding}

-- dot e of a row, p rows below
pub in_row : (w x p e : ℕ) → x ≡ p * (8 * row_bytes w) + e → e < 8 * row_bytes w → is_padding w x ≡ leb w e
in_row w x p e h l = ap (leb w) (ap (λ y. y % (8 * row_bytes w)) h ∙ mod-mul-add p (8 * row_bytes w) e l)

-- before the last byte of a row
pub no_padding : (w x p e : ℕ) → 0 < w → x ≡ p * (8 * row_bytes w) + e → e < 8 * row_bytes w - 8 → is_padding w x ≡ false
no_padding w x p e s h l = in_row w x p e h (omega arith) ∙ lt-leb w e (omega arith)

module _ (w given : ℕ) (some : 0 < w) where
  -- before the last byte of the row that is begun
  pub first_row : (d : ℕ) → d < 8 * (row_bytes w - 1 - given % row_bytes w) → is_padding w (8 * given + d) ≡ false
  first_row d l = no_padding w (8 * given + d) (given / row_bytes w) (8 * (given % row_bytes w) + d) some (omega (arith, div-add-mod given (row_bytes w))) (omega arith)

  module _ (p last : ℕ) (at : given + last + 1 ≡ p * row_bytes w + row_bytes w) where
    -- between the last bytes of two rows
    pub next_row : (d : ℕ) → 8 * (last + 1) ≤ d → d < 8 * (last + row_bytes w) → is_padding w (8 * given + d) ≡ false
    next_row d l m = no_padding w (8 * given + d) (p + 1) (d - 8 * (last + 1)) some (omega (arith, at)) (omega arith)

    -- in the last byte of a row
    pub last_byte : (k : ℕ) → k < 8 → is_padding w (8 * given + (8 * last + (7 - k))) ≡ leb w (8 * row_bytes w - 8 + (7 - k))
    last_byte k l = in_row w (8 * given + (8 * last + (7 - k))) p (8 * row_bytes w - 8 + (7 - k)) (omega (arith, at)) (omega arith)

and_false : (b : Bool) → (b && false) ≡ false
and_false b = grind arith

no_ink : (b c : Bool) → (b && false || c && false) ≡ false
no_ink b c = grind arith

up_to_last : (d last n : ℕ) (f : Bool) → d < 8 * (last + 1) → 0 < n → (ltb d (8 * (last + n)) && f) ≡ (ltb d (8 * last) && f || eqb (d / 8) last && f)
up_to_last d last n f l h = grind (arith, nat_tests, and_false, no_ink)

past_last : (d last n : ℕ) (f : Bool) → 8 * (last + 1) ≤ d → 8 * (last + n) ≤ d → (ltb d (8 * (last + n)) && f) ≡ (ltb d (8 * last) && f || eqb (d / 8) last && f)
past_last d last n f l h = grind (arith, nat_tests, and_false, no_ink)

before_last : (d last : ℕ) (f : Bool) → (ltb d (8 * last) && f && (eqb (d / 8) last && f)) ≡ false
before_last d last f = grind (arith, nat_tests, and_false)

module _ (w given : ℕ) where
  abbrev pub done : ℕ → ℕ → Bool
  done to d = ltb d (8 * to) && is_padding w (8 * given + d)

  -- nothing is to be done before the first row's last byte
  pub none_done : (n : ℕ) (row : List ℕ) → 0 < w → n ≡ row_bytes w → Painted White (done (n - 1 - given % n)) row row
  none_done n row some e = grind (arith, painted_none, first_row, and_false, le-ltb)

  -- one more row's last byte is done
  module _ (p last n mask v : ℕ) (a b : List ℕ) (some : 0 < w) (e : n ≡ row_bytes w) (at : given + last + 1 ≡ p * n + n) where
    byte_ink : ((k : ℕ) → k < 8 → bit mask k ≡ leb (w % 8) (7 - k)) → 0 < w % 8 → (k : ℕ) → k < 8 → bit mask k ≡ is_padding w (8 * given + (8 * last + (7 - k)))
    byte_ink m r k l = m k l ∙ sym (last_byte w given some p last (rw e at at) k l ∙ grind (arith, nat_tests))

    more_ink : (d : ℕ) → done (last + n) d ≡ (done last d || (eqb (d / 8) last && is_padding w (8 * given + d)))
    more_ink d = elim (cases_lt d (8 * (last + 1))) [
      | inl l ↦ up_to_last d last n (is_padding w (8 * given + d)) l (omega (arith, e))
      | inr g ↦ elim (cases_lt d (8 * (last + n))) [
        | inl m ↦ rw (next_row w given some p last (rw e at at) d g (rw e at m)) (and_false (ltb d (8 * (last + n))) ∙ sym (no_ink (ltb d (8 * last)) (eqb (d / 8) last)))
        | inr o ↦ past_last d last n (is_padding w (8 * given + d)) g o
      ]
    ]

    apart : (d : ℕ) → (done last d && (eqb (d / 8) last && is_padding w (8 * given + d))) ≡ false
    apart d = before_last d last (is_padding w (8 * given + d))

    pub one_done : last < length b → ((k : ℕ) → k < 8 → bit mask k ≡ leb (w % 8) (7 - k)) → 0 < w % 8
        → ((k : ℕ) → k < 8 → bit v k ≡ paint White (bit mask k) (bit (get_or b last 0) k)) → Painted White (done last) a b → Painted White (done (last + n)) a (set b last v)
    one_done h m r q done_so_far = painted_then White (done last) (λ d. eqb (d / 8) last && is_padding w (8 * given + d)) (done (last + n)) a b (set b last v) done_so_far
        (painted_byte_at White (λ d. is_padding w (8 * given + d)) last v b h (λ k l. q k l ∙ ap (λ i. paint White i (bit (get_or b last 0) k)) (byte_ink m r k l)))
        (λ d l. more_ink d) (λ d l. apart d)

-- the last byte of the row that is begun, and that of the next row
pub first_at : (given n : ℕ) → 0 < n → (p : ℕ) × (given + (n - 1 - given % n) + 1 ≡ p * n + n)
first_at given n h = (given / n, omega (arith, div-add-mod given n, mod_below given n h))

pub next_at : (given last n : ℕ) → ((p : ℕ) × (given + last + 1 ≡ p * n + n)) → (p : ℕ) × (given + (last + n) + 1 ≡ p * n + n)
next_at given last n at = let p = at.0 in (p + 1, omega (arith, at.1))
