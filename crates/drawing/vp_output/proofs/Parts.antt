-- What is left some bytes further on.
use Rattle.std.proofs.Common.{◌≡◌, ℕ, suc, ◌+◌, ◌-◌, ◌<◌, ◌≤◌, [], ◌++◌, length, drop, ap, sym, arith, length-append, length-drop, flat_map}
use Rattle.std.specs.List.{range_with_len}
use Rattle.std.proofs.lemmas.List.{drop_at, drop-drop, drop-append-le}
use Rattle.vp_output.specs.declared.place.Place.{Place}
use Rattle.vp_output.specs.Lines.{Lined, line_text, row_after, rows_from}
use Rattle.vp_output.specs.Places.{advanced, pending, pending_if}

module _ (t : Lined) (p : Place) where
  -- no more than the rest of the line goes out
  pub pending_long : (n : ℕ) → n ≤ length (line_text t p.line) - p.byte → n ≤ length (pending t p)
  pending_long n m = omega (arith, length-append (drop p.byte (line_text t p.line)) (rows_from t (row_after p.line)), length-drop p.byte (line_text t p.line))

  -- row y, and those after it
  pub rows_begin : (y : ℕ) → y < t.rows → t.row y ++ rows_from t (y + 1) ≡ rows_from t y
  rows_begin y h = sym (ap (λ n. flat_map t.row (range_with_len y n)) (let e : t.rows - y ≡ suc (t.rows - (y + 1)) = omega arith in e))

  no_rows : (y : ℕ) → t.rows ≤ y → [] ≡ rows_from t y
  no_rows y h = sym (ap (λ n. flat_map t.row (range_with_len y n)) (let e : t.rows - y ≡ 0 = omega arith in e))

  -- so many bytes further on
  pub pending_on : (len n : ℕ) → len ≡ length (line_text t p.line) → p.byte + n ≤ len → pending_if t (advanced t.rows len n p) ≡ drop n (pending t p)
  pending_on len n long within = grind (arith, drop-append-le, length-drop, drop-drop, rows_begin, no_rows, drop_at)
