-- Letters, and where they are.
use Rattle.std.proofs.Common.{◌≡◌, ◌≢◌, ◌<◌, ◌≤◌, ℕ, ◌+◌, List, length, arith, ap, inl, inr}
use Rattle.std.proofs.lemmas.Bool.{cases_eq}
use Rattle.std.proofs.lemmas.List.{get_or_default}
use Rattle.vp_font.specs.declared.letter.Entry.{Entry}
use Rattle.vp_font.specs.Glyphs.{code_of, Rising}

-- where letters rise, those before one that is too low are too low, and those behind one that is too high too high
module _ (letters : List Entry) (code m : ℕ) (rising : Rising letters) (inside : m < length letters) (e : Entry) where
  here : (d : Entry) → code_of letters m d ≡ code_of letters m e
  here d = ap (λ (x : Entry). x.letter.code) (get_or_default letters m d e inside)

  pub low_before : code_of letters m e < code → (i : ℕ) (d : Entry) → i < m + 1 → code_of letters i d < code
  low_before l i d h = elim (cases_eq i m) [
    | inl q ↦ rw q (omega (arith, here d, l))
    | inr n ↦ omega (arith, here d, l, rising i m d (omega arith) inside)
  ]

  pub high_behind : code_of letters m e ≢ code → code ≤ code_of letters m e → (i : ℕ) (d : Entry) → m ≤ i → i < length letters → code < code_of letters i d
  high_behind u l i d h k = elim (cases_eq i m) [
    | inl q ↦ rw q (omega (arith, here d, u, l))
    | inr n ↦ omega (arith, here d, u, l, rising m i d (omega arith) k)
  ]
