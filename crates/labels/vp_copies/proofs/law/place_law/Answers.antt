use Rattle.std.proofs.Common.{◌≡◌, ℕ, ◌+◌, ◌-◌, ◌*◌, ◌%◌, ◌<◌, ◌≤◌, inl, inr, ap, ◌∙◌, arith, length, length-append, length-drop}
use Rattle.std.proofs.Math.Nat.{add-mul, mul-le-mul_right}
use Rattle.std.proofs.lemmas.Bool.{cases_lt}
use Rattle.std.proofs.lemmas.Nat.{mod-mul-add}
use Rattle.vp_dots.specs.Images.{Image, pbm}
use Rattle.vp_output.specs.declared.place.Line.{Line}
use Rattle.vp_output.specs.Lines.{line_text, IsLineOf}
use Rattle.vp_copies.specs.Copies.{bytes_above, copies_text, line_bytes, lines_of, pending}
use Rattle.vp_copies.proofs.Texts.{length-copies, length-line, rows_behind, text_from}
use Rattle.vp_copies.proofs.law.place_law.Goals as goal

-- a place of a copy is one of its bytes
within : (i : Image) (l : Line) (byte : ℕ) → 0 < i.height → IsLineOf i.height l → byte < line_bytes i.width i.height l → bytes_above i.width i.height l + byte < length (pbm i)
within i l byte some b h =
    omega (arith, ap length (text_from i l some b), length-drop (bytes_above i.width i.height l) (pbm i), length-append (line_text (lines_of i) l) (rows_behind i l), length-line i l)

-- of so many copies of so many bytes, the others are those of a copy's front and of whole copies
whole_others : (all left n m : ℕ) → m < n → 0 < left → left * n - m ≤ all * n → all * n - (left * n - m) ≡ (all - left) * n + m
whole_others all left n m few some fits = elim (cases_lt all left) [
  | inl less ↦
      let steps : (all + 1) * n ≤ left * n = mul-le-mul_right n (omega arith) in
      absurd (omega (arith, add-mul all 1 n))
  | inr more ↦
      let e : all ≡ all - left + left = omega arith in
      let once : 1 * n ≤ left * n = mul-le-mul_right n (omega arith) in
      omega (arith, ap (λ k. k * n) e, add-mul (all - left) left n)
]

pub returns : goal.returns
returns c = λ i p copies some is left fits.
    let m = bytes_above i.width i.height p.line + p.byte in
    let n = length (pbm i) in
    let few : m < n = within i p.line p.byte some is.line is.byte in
    let rest : length (pending i p) ≡ p.copies * n - m = length-drop m (copies_text i p.copies) ∙ ap (λ k. k - m) (length-copies i p.copies) in
    let all = length-copies i copies in
    let sent : length (copies_text i copies) - length (pending i p) ≡ (copies - p.copies) * n + m =
    ap (λ k. k - length (pending i p)) all ∙ ap (λ k. copies * n - k) rest ∙ whole_others copies p.copies n m few left (omega (arith, fits, rest, all)) in
    ap (λ k. k % n) sent ∙ mod-mul-add (copies - p.copies) n m few
