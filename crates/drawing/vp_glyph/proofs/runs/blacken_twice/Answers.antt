use Rattle.std.proofs.Common.{Bool, true, false, ◌≡◌, ◌||◌, ◌∙◌, ap, refl}
use Rattle.vp_dots.specs.Dots.{dot}
use Rattle.vp_glyph.proofs.runs.blacken_twice.Goals as goal

or_both : (a b c : Bool) → ((a || b) || c) ≡ (a || (b || c))
or_both true b c = refl
or_both false b c = refl

pub returns : goal.returns
returns g c = λ x h. c.blacken-2.ensures x h ∙ ap (λ t. t || dot c.args.other.now x) (c.blacken.ensures x h) ∙ or_both (dot c.args.row.now x) (dot c.args.one.now x) (dot c.args.other.now x)
