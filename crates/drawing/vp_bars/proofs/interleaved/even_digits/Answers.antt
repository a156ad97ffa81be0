use Rattle.std.proofs.Common.{◌<◌}
use Rattle.std.proofs.lemmas.List.Elements.{All-append, All-push}
use Rattle.vp_bars.proofs.interleaved.even_digits.Goals as goal

pub returns-then-check-clause-digits : goal.returns-then-check-clause-digits
returns-then-check-clause-digits c = rw (c.push.ensures.items, c.extend.ensures.items)
    (All-push (λ d. d < 10) _ _ (All-append (λ d. d < 10) _ _ c.zero_before-all.ensures.digits c.requires.digits) c.mod10_check.ensures.digit)
