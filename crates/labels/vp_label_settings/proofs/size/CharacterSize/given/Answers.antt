use Rattle.std.proofs.Common.{◌≡◌, ◌∙◌, ap, subst, sym}
use Rattle.vp_label_settings.specs.Laws.{IsSize}
use Rattle.vp_label_settings.specs.Ranges.{side_given, size_given, size_of}
use Rattle.vp_label_settings.proofs.InRange.{size_given-fits}
use Rattle.vp_label_settings.proofs.size.CharacterSize.given.Goals as goal

pub returns-clause-fits : goal.returns-clause-fits
returns-clause-fits c = λ fits.
    let is : c.size_of.result ≡ size_given c.args.height c.args.width c.args.default =
    c.size_of.ensures ∙ ap (λ h. size_of h c.counted-2.result c.args.default) c.counted.ensures
    ∙ ap (λ w. size_of (side_given c.args.height) w c.args.default) c.counted-2.ensures in
    subst IsSize (sym is) (size_given-fits c.args.height c.args.width c.args.default fits)
