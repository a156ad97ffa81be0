use Rattle.std.proofs.Common.{◌≡◌, ℕ, ◌+◌, ◌*◌, ◌%◌, ◌∙◌, take, get_or, arith, ap, sym, subst}
use Rattle.vp_pdf417.specs.Places.{cut}
use Rattle.vp_pdf417.specs.Numeric.{number}
use Rattle.vp_pdf417.proofs.NumberWords.{zero_places, number_more}
use Rattle.vp_pdf417.proofs.numeric.number.Goals as goal

pub loop-digit-init : goal.loop-digit-init
loop-digit-init c = record { number = c.push_digit.ensures.number 0 (λ (k : ℕ) lt. zero_places 15 k); small = c.push_digit.ensures.small }

pub loop-digit-preserved : goal.loop-digit-preserved
loop-digit-preserved c =
    let digits = c.args.digits.now in
    let i = c.loop-digit.digit-index in
    let e : 10 * number 1 (take i digits) + c.from.result ≡ number 1 (take (i + 1) digits) =
    ap (λ (x : ℕ). 10 * number 1 (take i digits) + x) c.from.ensures ∙ sym (number_more digits i (omega arith)) in
    record {
      number = λ (k : ℕ) lt. subst (λ (t : ℕ). get_or c.push_digit-in-loop-digit.new.places k 0 ≡ cut t k % 900) e
          (c.push_digit-in-loop-digit.ensures.number (number 1 (take i digits)) c.loop-digit.invariant.number k lt);
      small = c.push_digit-in-loop-digit.ensures.small;
    }
