use Rattle.std.proofs.Common.{◌+◌, ◌-◌, ◌/◌, ◌%◌, ◌∙◌, ◌∷◌, [], length, arith, ap, sym}
use Rattle.vp_pdf417.specs.Places.{cut, base_900}
use Rattle.vp_pdf417.specs.Numeric.{number, group}
use Rattle.vp_pdf417.specs.Written.{pushed, written}
use Rattle.vp_pdf417.proofs.NumberWords.{base_more, base_none}
use Rattle.vp_pdf417.proofs.Held.{front_written}
use Rattle.vp_pdf417.proofs.numeric.push_group.Goals as goal

pub loop-k-preserved : goal.loop-k-preserved
loop-k-preserved c =
    let t = number 1 c.args.digits.now in
    let n = length c.args.digits.now / 3 + 1 in
    let k = c.loop-k.k in
    front_written c.loop-k.words c.push.new.self _ (cut t (n - 1 - k) % 900 ∷ []) (base_900 (n - (k + 1)) t) (base_900 (n - k) t)
    (c.push.ensures ∙ ap (pushed c.loop-k.words) (c.number-places.ensures.number (n - 1 - k) (omega arith))) (base_more n k t (omega arith)) c.loop-k.invariant

pub returns : goal.returns
unfolding group
returns c =
    let n = length c.args.digits.now / 3 + 1 in
    ap (written c.loop-k.words) (sym (base_none n c.loop-k.k (number 1 c.args.digits.now) (omega arith))) ∙ c.loop-k.invariant
