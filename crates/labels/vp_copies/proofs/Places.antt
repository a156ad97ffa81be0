-- What is pending at a place.
use Rattle.std.proofs.Common.{◌≡◌, ℕ, zero, suc, ◌-◌, ◌<◌, ◌≤◌, Option, Some, None, ap, sym, ◌∙◌, arith, ◌++◌, length, take, drop, append_assoc, length-append, length-drop}
use Rattle.std.proofs.lemmas.Grind.{common_steps}
use Rattle.std.proofs.lemmas.List.{drop-drop, drop-append-le, take-append-le}
use Rattle.vp_dots.specs.Images.{Image, pbm}
use Rattle.vp_output.specs.declared.place.Place.{Place as InImage}
use Rattle.vp_output.specs.Lines.{line_text, IsLineOf}
use Rattle.vp_output.specs.Places.{advanced as advanced_in, pending as pending_in, pending_if}
use Rattle.vp_copies.specs.Copies.{at, place_after, bytes_above, line_bytes, lines_of, copies_text, pending}
use Rattle.vp_copies.proofs.Texts.{rows_behind, text_from, length-line}

module _ (i : Image) (some : 0 < i.height) where
  -- a byte of the line is left
  pub record IsPlaceIn (p : InImage) : Type 0 where
    pub line : IsLineOf i.height p.line
    pub byte : p.byte < line_bytes i.width i.height p.line

  -- what comes next is the rest of the image, and then the other copies
  pub pending_is : (copies : ℕ) (p : InImage) → 0 < copies → IsPlaceIn p → pending i (at copies p) ≡ pending_in (lines_of i) p ++ copies_text i (copies - 1)
  pending_is zero p c b = absurd (omega arith)
  pending_is (suc q) p c b =
      let above = bytes_above i.width i.height p.line in
      let rest = copies_text i q in
      let line = line_text (lines_of i) p.line in
      let one : q ≡ suc q - 1 = omega arith in
      let here = text_from i p.line some b.line in
      let short : above ≤ length (pbm i) =
      omega (arith, b.byte, ap length here, length-drop above (pbm i), length-append line (rows_behind i p.line), length-line i p.line) in
      sym (drop-drop p.byte above (pbm i ++ rest))
      ∙ ap (drop p.byte) (drop-append-le above (pbm i) rest short ∙ ap (λ t. t ++ rest) here ∙ append_assoc line (rows_behind i p.line) rest)
      ∙ drop-append-le p.byte line (rows_behind i p.line ++ rest) (omega (arith, b.byte, length-line i p.line))
      ∙ sym (append_assoc (drop p.byte line) (rows_behind i p.line) rest)
      ∙ ap (λ k. pending_in (lines_of i) p ++ copies_text i k) one

  -- the place behind bytes of a copy is one of its bytes too, unless it is none
  abbrev pub IsNext : Option InImage → Type 0
  IsNext None = Unit {0}
  IsNext (Some p) = IsPlaceIn p

  pub next_is : 0 < i.width → (n : ℕ) (p : InImage) → IsPlaceIn p → IsNext (advanced_in i.height (line_bytes i.width i.height p.line) n p)
  next_is wide n p b = grind arith

  -- bytes are pending while copies are
  pub some_pending : (copies : ℕ) (p : InImage) → 0 < copies → IsPlaceIn p → 0 < length (pending i (at copies p))
  some_pending copies p c b = grind (arith, common_steps, length-line, pending_is, length-append)

  pub none_pending : (copies : ℕ) (p : InImage) → 0 < length (pending i (at copies p)) → 0 < copies
  none_pending copies p h = grind arith

  -- bytes of one copy are the next ones, and what is left is left of the copies
  pub pending_longer : (copies : ℕ) (p : InImage) (n : ℕ) → 0 < copies → IsPlaceIn p → n ≤ length (pending_in (lines_of i) p) → n ≤ length (pending i (at copies p))
  pending_longer copies p n c b h = omega (arith, h, ap length (pending_is copies p c b), length-append (pending_in (lines_of i) p) (copies_text i (copies - 1)))

  pub pending_front : (copies : ℕ) (p : InImage) (n : ℕ) → 0 < copies → IsPlaceIn p → n ≤ length (pending_in (lines_of i) p) → take n (pending_in (lines_of i) p) ≡ take n (pending i (at copies p))
  pending_front copies p n c b h = sym (ap (take n) (pending_is copies p c b) ∙ take-append-le n (pending_in (lines_of i) p) (copies_text i (copies - 1)) h)

  pub pending_on : (copies : ℕ) (p : InImage) (q : Option InImage) (n : ℕ) → 0 < copies → IsPlaceIn p → IsNext q → n ≤ length (pending_in (lines_of i) p) → pending_if (lines_of i) q ≡ drop n (pending_in (lines_of i) p) →
      pending i (place_after copies q) ≡ drop n (pending i (at copies p))
  pending_on copies p q n c b d h e = grind (arith, drop-append-le, pending_is)
