use Rattle.std.proofs.Common.{inl, inr, ◌≡◌, ℕ, ◌+◌, ◌-◌, ◌*◌, ◌<◌, refl, sym, ap, ◌∙◌, arith, drop, length, length-drop, get_or}
use Rattle.std.proofs.lemmas.Bool.{cases_lt}
use Rattle.std.proofs.lemmas.List.{get_or-drop, get_or_append_left, drop-drop}
use Rattle.vp_dots.proofs.Rows.{dot_past}
use Rattle.vp_glyph.specs.Halves.{half_dot}
use Rattle.vp_field.proofs.AsWhole.{word_before, word_there, word_behind}
use Rattle.vp_field.proofs.Handing.{handed_many, handed_rest}
use Rattle.vp_field.proofs.block_columns.plain_row.Goals as goal

pub loop-next-init : goal.loop-next-init
loop-next-init c = record {
  left = refl;
  enough = omega arith;
  x = omega arith;
  from = refl;
  end = refl;
  count = c.told-row;
  drawn = λ i k l. absurd (omega (arith, l));
  white = λ i l. c.requires.white i;
}

pub loop-next-smaller : goal.loop-next-smaller
loop-next-smaller c = let many = handed_many c.loop-next.columns.left.now c.in-Some.next.columns.now c.next.new.self.left.now c.in-Some.ensures.handed.2 in omega (arith, many, c.in-Some.ensures.handed.1)

pub loop-next-preserved : goal.loop-next-preserved
loop-next-preserved c =
    let old = c.loop-next.invariant in
    let at = 64 * c.loop-next.words in
    let now = c.in-Some.ensures.handed in
    let all = c.args.columns.now.left.now in
    let many = handed_many c.loop-next.columns.left.now c.in-Some.next.columns.now c.next.new.self.left.now now.2 in
    let left = ap length old.left ∙ length-drop at all in
    let front : (i : ℕ) → i < 64 → get_or c.in-Some.next.columns.now i 0 ≡ get_or all (at + i) 0 =
    λ i l. sym (get_or_append_left _ c.next.new.self.left.now 0 i (omega (arith, l, now.1))) ∙ ap (λ xs. get_or xs i 0) (sym now.2 ∙ old.left) ∙ get_or-drop at all i 0 in
    record {
      left = sym (handed_rest 64 _ _ _ now.1 now.2) ∙ ap (drop 64) old.left ∙ drop-drop 64 at all ∙ ap (λ n. drop n all) (omega arith);
      enough = omega (arith, many, left, old.enough, now.1);
      x = omega (arith, old.x, now.3);
      from = c.in-Some.ensures.from ∙ old.from;
      end = c.in-Some.ensures.end ∙ old.end;
      count = c.add_word.ensures.length_is ∙ old.count;
      drawn = λ i k l h. elim (cases_lt i at) [
        | inl y ↦ c.add_word.ensures.dots_are i (omega (arith, l, old.count, many, left, now.1, c.args.columns.now.few)) ∙ word_before at i c.word_of_plain.result _ y ∙ old.drawn i k y h
        | inr y ↦
            let there : at + (i - at) ≡ i = omega (arith, y) in
            c.add_word.ensures.dots_are i (omega (arith, l, old.count, many, left, now.1, c.args.columns.now.few)) ∙ word_there at i c.word_of_plain.result _ y (old.white i y)
            ∙ c.word_of_plain.ensures (i - at) k (omega (arith, l)) h ∙ ap (λ n. half_dot n k) (front (i - at) (omega (arith, l)) ∙ ap (λ n. get_or all n 0) there)
      ];
      white = λ i l. elim (cases_lt i 1280) [
        | inl y ↦ c.add_word.ensures.dots_are i (omega (arith, y, old.count)) ∙ word_behind at i c.word_of_plain.result _ (omega (arith, l)) (old.white i (omega (arith, l)))
        | inr y ↦ dot_past _ i (omega (arith, y, old.count, c.add_word.ensures.length_is))
      ];
    }

pub returns-then-mixed_halves-gt0-clause-mixed : goal.returns-then-mixed_halves-gt0-clause-mixed
returns-then-mixed_halves-gt0-clause-mixed c =
    let old = c.loop-next.invariant in
    let now = c.in-Some.ensures.handed in
    (omega (arith, old.x, now.0), now.1, sym old.left ∙ now.2, omega (arith, now.0, now.3))

pub returns-clause-mixed : goal.returns-clause-mixed
returns-clause-mixed c =
    let old = c.loop-next.invariant in
    let now = c.in_default.ensures.handed in
    let all = c.args.columns.now.left.now in
    let left = sym (length-drop (64 * c.loop-next.words) all) ∙ sym (ap length old.left) ∙ ap length now.1 in
    (ap (λ s. s.left.now) now.0 ∙ now.1, omega (arith, left, old.enough))
