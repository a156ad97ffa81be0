use Rattle.std.proofs.Common.{◌≡◌, ℕ, ◌+◌, ◌++◌, ◌∷◌, [], List, Option, None, Some, length, take, drop, get_or, sym, ap, ◌∙◌, arith, append_assoc, length-set}
use Rattle.std.proofs.lemmas.List.{take_more_set}
use Rattle.vp_packed.specs.Base64.{value_of, values}
use Rattle.vp_packed.specs.Kept.{spelled, behind, listed}
use Rattle.vp_packed.proofs.Signs.{values_padding, values_other, spelled_none, behind_nothing}
use Rattle.vp_packed.proofs.spelling.spell.Goals as goal

pub returns-then-sign-eq61-clause-bytes : goal.returns-then-sign-eq61-clause-bytes
returns-then-sign-eq61-clause-bytes c =
    let l = c.loop-at in
    let signs = c.args.signs.now in
    let nothing : spelled l.group (drop l.at signs) ≡ [] = ap (behind l.group) (values_padding signs l.at (omega arith) (omega arith)) ∙ behind_nothing l.group in
    l.invariant.bytes ∙ ap (λ (b : List ℕ). take l.n l.out ++ b) (nothing ∙ sym (spelled_none l.group signs (length signs) (omega arith)))

pub returns-then-sign-eq61-clause-all : goal.returns-then-sign-eq61-clause-all
returns-then-sign-eq61-clause-all c = λ h. spelled_none c.loop-at.group c.args.signs.now (length c.args.signs.now) (omega arith)

pub loop-at-preserved-in-Some : goal.loop-at-preserved-in-Some
loop-at-preserved-in-Some c =
    let l = c.loop-at in
    let signs = c.args.signs.now in
    let byte = c.in-Some.byte in
    let rest = spelled c.read.new.self (drop (l.at + 1) signs) in
    let next : spelled l.group (drop l.at signs) ≡ byte ∷ rest =
    ap (behind l.group) (values_other signs l.at (omega arith) (grind arith)) ∙ c.read.ensures (values (drop (l.at + 1) signs))
    ∙ ap (λ (b : Option ℕ). listed b ++ rest) c.in-Some.is in
    record {
      bytes = l.invariant.bytes ∙ ap (λ (b : List ℕ). take l.n l.out ++ b) next ∙ sym (append_assoc (take l.n l.out) (byte ∷ []) rest)
          ∙ ap (λ (b : List ℕ). b ++ rest) (sym (take_more_set l.out l.n byte (omega (arith, l.invariant.len))));
      len = length-set l.out l.n byte ∙ l.invariant.len;
      within = omega (arith, length-set l.out l.n byte, l.invariant.len);
      on = omega (arith, l.invariant.on);
      place = omega arith;
    }

pub loop-at-preserved : goal.loop-at-preserved
loop-at-preserved c =
    let l = c.loop-at in
    let signs = c.args.signs.now in
    let rest = spelled c.read.new.self (drop (l.at + 1) signs) in
    let next : spelled l.group (drop l.at signs) ≡ rest =
    ap (behind l.group) (values_other signs l.at (omega arith) (grind arith)) ∙ c.read.ensures (values (drop (l.at + 1) signs))
    ∙ ap (λ (b : Option ℕ). listed b ++ rest) c.in_default.is in
    record {
      bytes = l.invariant.bytes ∙ ap (λ (b : List ℕ). take l.n l.out ++ b) next;
      len = l.invariant.len;
      within = l.invariant.within;
      on = omega (arith, l.invariant.on);
      place = omega arith;
    }

pub returns-after-loop-at-clause-all : goal.returns-after-loop-at-clause-all
returns-after-loop-at-clause-all c = λ h. spelled_none c.loop-at.group c.args.signs.now c.loop-at.at (omega (arith, c.loop-at.invariant.place))
