use Rattle.std.proofs.Common.{inl, inr, ◌≡◌, ℕ, ◌+◌, ◌-◌, refl, sym, ap, ◌∙◌, arith, pos}
use Rattle.std.proofs.lemmas.Bool.{cases_lt}
use Rattle.vp_glyph.specs.Halves.{half_dot}
use Rattle.vp_glyph.proofs.Overlaid.{zero_at}
use Rattle.vp_field.specs.Axes.{dot_on, laid}
use Rattle.vp_field.specs.declared.axis.Lines.TheVariants.{Across}
use Rattle.vp_field.proofs.Columns.{white_half, before_end, from_end}
use Rattle.vp_field.proofs.OnWhite.{dot_white}
use Rattle.vp_field.proofs.across.halves_of.Goals as goal

pub loop-i-init : goal.loop-i-init
loop-i-init g c = record {
  count = refl;
  within = omega arith;
  ink = refl;
  lines = omega arith;
  counted = c.requires.within;
  more = omega arith;
  some = λ h. absurd (omega arith);
  drawn = λ j k h. absurd (omega arith);
  white = λ j h. zero_at 64 j;
}

pub draw_on-requires : goal.draw_on-requires
draw_on-requires g c =
    let old = c.loop-i.invariant in
    (omega arith, (omega arith, (c.requires.near, (omega arith, ((λ p h. dot_white 4 p (omega (arith, h))), (omega (arith, c.requires.count, old.lines, old.within, c.min-many.ensures), old.counted))))))

pub loop-i-preserved : goal.loop-i-preserved
loop-i-preserved g c =
    let i = c.loop-i.i in
    let old = c.loop-i.invariant in
    let counted : c.draw_on.new.self.lines ≡ c.loop-i.pen.lines + 1 = c.draw_on.ensures.counted in
    let drawn = rw old.ink at c.draw_on.ensures.dots in
    let ink = λ (u v : ℕ). g.I.Ink.ink_at c.args.pen.now.ink.now u v in
    let dots = λ (d k : ℕ). laid Across c.args.columns c.args.rows ink (pos d) (pos (c.args.first + k)) in
    record {
      count = c.set_run.array_long;
      within = omega (arith, c.shown-shown.ensures.within);
      ink = c.draw_on.ensures.ink ∙ old.ink;
      lines = omega (arith, old.lines, c.shown-shown.ensures.some, counted);
      counted = c.draw_on.ensures.within;
      more = omega (arith, old.more, counted);
      some = λ h. omega (arith, old.more, counted);
      drawn = λ j k h l. elim (cases_lt j i) [
        | inl b ↦ ap (λ n. half_dot n k) (c.set_run.ensures.before j b) ∙ old.drawn j k b l
        | inr m ↦
            let there : c.args.x + i + (j - i) ≡ c.args.x + j = omega arith in
            ap (λ n. half_dot n k) (c.set_run.ensures.inside j m (omega (arith, h))) ∙ c.half_of.ensures k l ∙ drawn k (omega arith)
            ∙ sym ((rw old.ink at c.shown-shown.ensures.line) (j - i) (omega (arith, h)) (dot_on c.args.rows (pos (c.args.first + k)))) ∙ ap (λ n. dots n k) there
      ];
      white = λ j h. c.set_run.ensures.behind j (omega (arith, h)) ∙ old.white j (omega (arith, h));
    }

pub returns-clause-dots : goal.returns-clause-dots
returns-clause-dots g c = grind (arith, cases_lt, before_end, white_half, from_end)

pub returns-clause-few : goal.returns-clause-few
returns-clause-few g c = omega (arith, c.loop-i.invariant.lines, c.loop-i.invariant.within, c.min-many.ensures)

pub returns-clause-lines : goal.returns-clause-lines
returns-clause-lines g c = omega (arith, c.loop-i.invariant.lines, c.loop-i.invariant.within, c.saturating_sub.ensures, c.min-many.ensures)

pub returns-clause-some : goal.returns-clause-some
returns-clause-some g c = λ h. c.loop-i.invariant.some (omega (arith, c.saturating_sub.ensures, c.min-many.ensures))

pub returns-clause-within : goal.returns-clause-within
returns-clause-within g c = c.loop-i.invariant.counted
