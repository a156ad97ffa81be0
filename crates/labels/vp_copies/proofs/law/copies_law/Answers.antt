use Rattle.std.proofs.Common.{◌≡◌, ℕ, zero, suc, ◌+◌, ◌++◌, ap, sym, ◌∙◌, arith, append_assoc}
use Rattle.std.proofs.lemmas.List.{append-nil}
use Rattle.vp_dots.specs.Images.{Image, pbm}
use Rattle.vp_copies.specs.Copies.{copies_text}
use Rattle.vp_copies.proofs.Texts.{length-copies}
use Rattle.vp_copies.proofs.law.copies_law.Goals as goal

more : (i : Image) (first others : ℕ) → copies_text i (first + others) ≡ copies_text i first ++ copies_text i others
more i zero others = let e : zero + others ≡ others = omega arith in ap (copies_text i) e
more i (suc q) others =
    let e : suc q + others ≡ suc (q + others) = omega arith in
    ap (copies_text i) e ∙ ap (λ t. pbm i ++ t) (more i q others) ∙ sym (append_assoc (pbm i) (copies_text i q) (copies_text i others))

pub returns : goal.returns
returns c = grind (arith, append-nil, length-copies, more)
