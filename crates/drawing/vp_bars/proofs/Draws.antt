-- Drawing one list of widths after another.
use Rattle.std.proofs.Common.{◌≡◌, ℕ, zero, suc, ◌+◌, ◌<◌, ◌≤◌, refl, sym, ap, ◌∙◌, subst, arith, List, [], ◌∷◌, ◌++◌, append_assoc, ℤ, length, get_or, take, map}
use Rattle.std.specs.List.{flat_map}
use Rattle.std.proofs.lemmas.List.{take_more, append-nil}
use Rattle.vp_dots.specs.declared.Op.{Op}
use Rattle.vp_bars.specs.declared.pen.Pen.{Pen}
use Rattle.vp_bars.specs.Drawing.{Draws}
use Rattle.vp_bars.specs.Widths.{total}

pub total-append : (us vs : List ℕ) → total (us ++ vs) ≡ total us + total vs
total-append [] vs = omega arith
total-append (u ∷ us) vs = omega (arith, total-append us vs)

module _ (op : Op) (at : ℤ) where
  pub draws_none : (row : List ℕ) (pen : Pen) → Draws op at row row pen pen []
  draws_none row pen = record { ends = omega arith; drawn = λ f old rest d. d }

  pub draws_same : (a b : List ℕ) (p q : Pen) (us vs : List ℕ) → us ≡ vs → Draws op at a b p q us → Draws op at a b p q vs
  draws_same a b p q us vs e d = subst (λ ws. Draws op at a b p q ws) e d

  pub draws_then : (a b c : List ℕ) (p q r : Pen) (us vs : List ℕ) → Draws op at a b p q us → Draws op at b c q r vs → Draws op at a c p r (us ++ vs)
  draws_then a b c p q r us vs d e = record {
    ends = omega (arith, total-append us vs, d.ends, e.ends);
    drawn = λ f old rest z. e.drawn f old rest (d.drawn f old (vs ++ rest) (rw append_assoc at z));
  }

-- the widths of the elements up to one, and with it
module _ (s : ℕ → ℕ) where
  pub map_append : (us vs : List ℕ) → map s (us ++ vs) ≡ map s us ++ map s vs
  map_append [] vs = refl
  map_append (u ∷ us) vs = ap (λ ws. s u ∷ ws) (map_append us vs)

  pub map_more : (xs : List ℕ) (i : ℕ) → i < length xs → map s (take i xs) ++ s (get_or xs i 0) ∷ [] ≡ map s (take (i + 1) xs)
  map_more xs i h = sym (ap (map s) (take_more xs i 0 h) ∙ map_append (take i xs) (get_or xs i 0 ∷ []))

  pub map_room : (xs : List ℕ) (i : ℕ) → i < length xs → total (map s (take i xs)) + s (get_or xs i 0) ≤ total (map s xs)
  map_room [] i h = absurd (omega arith)
  map_room (x ∷ xs) zero h = omega arith
  map_room (x ∷ xs) (suc i) h = omega (arith, map_room xs i (omega arith))

-- the same where an element has a list of widths
module _ (g : ℕ → List ℕ) where
  pub flat_append : (us vs : List ℕ) → flat_map g (us ++ vs) ≡ flat_map g us ++ flat_map g vs
  flat_append [] vs = refl
  flat_append (u ∷ us) vs = ap (λ ws. g u ++ ws) (flat_append us vs) ∙ sym (append_assoc (g u) (flat_map g us) (flat_map g vs))

  pub flat_more : (xs : List ℕ) (i : ℕ) → i < length xs → flat_map g (take i xs) ++ g (get_or xs i 0) ≡ flat_map g (take (i + 1) xs)
  flat_more xs i h = sym (ap (flat_map g) (take_more xs i 0 h) ∙ flat_append (take i xs) (get_or xs i 0 ∷ []) ∙ ap (λ ws. flat_map g (take i xs) ++ ws) (append-nil (g (get_or xs i 0))))

  pub flat_room : (xs : List ℕ) (i : ℕ) → i < length xs → total (flat_map g (take i xs)) + total (g (get_or xs i 0)) ≤ total (flat_map g xs)
  flat_room [] i h = absurd (omega arith)
  flat_room (x ∷ xs) zero h = omega (arith, total-append (g x) (flat_map g xs))
  flat_room (x ∷ xs) (suc i) h = omega (arith, total-append (g x) (flat_map g xs), total-append (g x) (flat_map g (take i xs)), flat_room xs i (omega arith))
