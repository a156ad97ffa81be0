use Rattle.std.proofs.Common.{◌≡◌, ℕ, ◌+◌, arith, ap, ◌∙◌, pos}
use Rattle.std.specs.Prelude.{option_map, unwrap_or, false}
use Rattle.vp_field.specs.Places.{at_place}
use Rattle.vp_field.specs.Axes.{dot_on}
use Rattle.vp_field.proofs.Alike.{line_shown}
use Rattle.vp_field.proofs.Places.{line_inside, on_dot}
use Rattle.vp_field.proofs.pen.Pen.shown.Goals as goal

pub returns-in_default-clause-line : goal.returns-in_default-clause-line
returns-in_default-clause-line g c = λ j h z.
    let ink = λ (u v : ℕ). g.I.Ink.ink_at c.args.self.now.ink.now u v in
    let line = λ (v : ℕ). at_place (λ u. ink u v) z in
    let here : c.args.from + j ≡ c.args.from = omega arith in
    ap (λ n. at_place line (dot_on c.args.lines (pos n))) here
    ∙ c.dot_on.ensures line (λ v e. let l = line_inside ink (g.I.Ink.height c.args.self.now.ink.now) (λ u v i. (g.met.I.Ink.outside c.args.self.now.ink.now u v i).1) z v e in omega (arith, c.requires.low))
    ∙ ap (λ o. unwrap_or (option_map line o) false) c.in_default.is

pub returns-then-first-last-clause-line : goal.returns-then-first-last-clause-line
returns-then-first-last-clause-line g c = λ j h z.
    let ink = λ (u v : ℕ). g.I.Ink.ink_at c.args.self.now.ink.now u v in
    let here : c.args.from + j ≡ c.args.from = omega arith in
    let on = on_dot _ _ (λ line i. c.dot_on.ensures line i ∙ ap (λ o. unwrap_or (option_map line o) false) c.in-Some.is) (omega arith) in
    line_shown ink (dot_on c.args.lines (pos (c.args.from + j))) c.in-Some.v
    (λ u. ap (λ n. at_place (λ v. ink u v) (dot_on c.args.lines (pos n))) here ∙ ap (at_place (λ v. ink u v)) on) z

pub returns-clause-line : goal.returns-clause-line
returns-clause-line g c = λ j h z.
    let ink = λ (u v : ℕ). g.I.Ink.ink_at c.args.self.now.ink.now u v in
    let on = on_dot _ _ (λ line i. c.dot_on.ensures line i ∙ ap (λ o. unwrap_or (option_map line o) false) c.in-Some.is) (omega arith) in
    line_shown ink (dot_on c.args.lines (pos (c.args.from + j))) c.in-Some.v
    (λ u. c.run.ensures.alike (λ v. ink u v) c.args.from on (λ w m n. c.alike-first.ensures.same u w m n) j (omega arith) ∙ ap (at_place (λ v. ink u v)) on) z
