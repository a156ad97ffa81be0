use Rattle.std.proofs.Common.{◌≡◌, ℕ, ◌+◌, ◌&&◌, Bool, true, false, not, is_some, drop, get_or, ap, sym, ◌∙◌, arith}
use Rattle.vp_packed.specs.Base64.{value_of, are_signs}
use Rattle.vp_packed.proofs.Signs.{signs_break, signs_padding, signs_valued, signs_none}
use Rattle.vp_packed.proofs.text.are_signs.Goals as goal

pub loop-sign-preserved-then-is_break : goal.loop-sign-preserved-then-is_break
loop-sign-preserved-then-is_break c =
    let l = c.loop-sign in
    sym (signs_break l.padded c.args.signs.now l.sign-index (omega arith) (sym c.is_break.ensures ∙ c.if-is_break.true)) ∙ l.invariant

pub loop-sign-preserved-then-sign-eq61 : goal.loop-sign-preserved-then-sign-eq61
loop-sign-preserved-then-sign-eq61 c =
    let l = c.loop-sign in
    sym (signs_padding l.padded c.args.signs.now l.sign-index (omega arith) (sym c.is_break.ensures ∙ c.if-is_break.false) (omega arith)) ∙ l.invariant

pub returns-then-padded : goal.returns-then-padded
returns-then-padded c =
    let l = c.loop-sign in
    let signs = c.args.signs.now in
    let i = l.sign-index in
    sym (sym l.invariant ∙ signs_valued l.padded signs i (omega arith) (sym c.is_break.ensures ∙ c.if-is_break.false) (grind arith)
    ∙ ap (λ (b : Bool). not b && is_some (value_of (get_or signs i 0)) && are_signs l.padded (drop (i + 1) signs)) c.if-padded.true)

pub returns-then-not-has_bits : goal.returns-then-not-has_bits
returns-then-not-has_bits c =
    let l = c.loop-sign in
    let signs = c.args.signs.now in
    let i = l.sign-index in
    sym (sym l.invariant ∙ signs_valued l.padded signs i (omega arith) (sym c.is_break.ensures ∙ c.if-is_break.false) (grind arith)
    ∙ ap (λ (b : Bool). not b && is_some (value_of (get_or signs i 0)) && are_signs l.padded (drop (i + 1) signs)) c.if-padded.false
    ∙ ap (λ (b : Bool). b && are_signs l.padded (drop (i + 1) signs)) (sym c.has_bits.ensures ∙ c.if-not-has_bits.true))

pub loop-sign-preserved : goal.loop-sign-preserved
loop-sign-preserved c =
    let l = c.loop-sign in
    let signs = c.args.signs.now in
    let i = l.sign-index in
    sym (sym l.invariant ∙ signs_valued l.padded signs i (omega arith) (sym c.is_break.ensures ∙ c.if-is_break.false) (grind arith)
    ∙ ap (λ (b : Bool). not b && is_some (value_of (get_or signs i 0)) && are_signs l.padded (drop (i + 1) signs)) c.if-padded.false
    ∙ ap (λ (b : Bool). b && are_signs l.padded (drop (i + 1) signs)) (sym c.has_bits.ensures ∙ c.if-not-has_bits.false))

pub returns : goal.returns
returns c = sym (signs_none c.loop-sign.padded c.args.signs.now c.loop-sign.sign-index (omega arith)) ∙ c.loop-sign.invariant
