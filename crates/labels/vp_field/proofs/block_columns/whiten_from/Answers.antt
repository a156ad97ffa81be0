use Rattle.std.proofs.Common.{inl, inr, ◌≡◌, ℕ, ◌-◌, arith, List, length, take, ◌++◌, ◌∙◌, ap, get_or, replicate}
use borrow.Rule.Slice.PartMut.{post_of, mid_len}
use Rattle.std.proofs.lemmas.Bool.{cases_lt}
use Rattle.std.proofs.lemmas.List.{get_or_append_left, get_or-append_right, get_or-replicate, get_or_past, length-replicate, length-take-le, length-drop}
use Rattle.vp_field.proofs.block_columns.whiten_from.Goals as goal

white_end : (n i : ℕ) (rest : List ℕ) → length rest ≡ 0 → get_or (replicate n 0 ++ rest) i 0 ≡ 0
white_end n i rest none = elim (cases_lt i n) [
  | inl y ↦ get_or_append_left (replicate n 0) rest 0 i (let all = length-replicate {A = ℕ} n 0 in omega (arith, all, y)) ∙ get_or-replicate n i 0 0 y
  | inr y ↦ get_or-append_right (replicate n 0) rest n i 0 (length-replicate {A = ℕ} n 0) y ∙ get_or_past rest (i - n) 0 (omega (arith, none))
]

pub returns-clause-behind : goal.returns-clause-behind
returns-clause-behind c = λ i l.
    let old = c.args.fronts.now in
    let n = 1280 - c.args.from in
    let front = length-take-le c.args.from old (omega (arith, c.told-fronts, c.requires)) in
    let white = c.fill.ensures.after (λ y e. e) ∙ ap (λ k. replicate k 0) (mid_len c.args.from 1280 old (omega (arith, c.told-fronts))) in
    ap (λ xs. get_or (take c.args.from old ++ (xs ++ post_of c.args.from n old)) i 0) white
    ∙ get_or-append_right (take c.args.from old) _ c.args.from i 0 front l
    ∙ white_end n (i - c.args.from) (post_of c.args.from n old) (grind (arith, length-drop, c.told-fronts))
