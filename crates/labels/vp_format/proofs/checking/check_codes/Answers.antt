use Rattle.std.proofs.Common.{◌≡◌, ℕ, ◌*◌, List, ◌∷◌, drop, rules, sym, arith}
use Rattle.vp_format.specs.declared.codes.Symbol.{Symbol}
use Rattle.vp_format.specs.declared.codes.Symbol.TheVariants.{Digits, ToEnd, Again, Refused}
use Rattle.vp_format.specs.declared.rows.Coding.TheVariants.{RunLength}
use Rattle.vp_format.specs.Codes.{spelled, joined, code_of, symbols, symbols_behind}
use Rattle.vp_format.specs.Pictures.{Picture}
use Rattle.vp_format.specs.Cursors.{Passed, symbols_from}
use Rattle.vp_format.proofs.Passed.{hand_passed, digits_passed, end_passed, codes_passed, other_passed, inside_passed}
use Rattle.vp_format.proofs.checking.check_codes.Goals as goal
use Rattle.vp_format.proofs.checking.check_codes.Goals.{After-pass_runs-from, After-symbol_of}

abbrev picture : List ℕ → ℕ → ℕ → Picture
picture codes row_bytes rows = record { coding = RunLength; codes = codes; row_bytes = row_bytes; rows = rows }

-- the digits and runs that come are passed
here : (c : After-pass_runs-from) → Passed (2 * c.args.row_bytes) (symbols RunLength c.args.codes.now) c.pass_runs-from.result (symbols_from c.args.codes.now c.pass_runs-from.new.self.at)
here c = grind arith

-- and behind them a symbol
next : (c : After-symbol_of) (s : Symbol) (k : ℕ)
    → joined (code_of c.in-Some.b) 0 0 (symbols_behind (drop c.next.new.self.at c.next.new.self.bytes.now)) ≡ spelled s k ∷ symbols_from c.symbol_of.new.codes.bytes.now c.symbol_of.new.codes.at
    → Passed (2 * c.args.row_bytes) (symbols RunLength c.args.codes.now) c.pass_runs-from.result (spelled s k ∷ symbols_from c.args.codes.now c.symbol_of.new.codes.at)
next c s k symbol = grind (arith, hand_passed)

pub returns-then-from-end : goal.returns-then-from-end
returns-then-from-end c =
    sym (end_passed (picture c.args.codes.now c.args.row_bytes c.args.rows) c.pass_runs-from.result _ (omega arith) (rw (sym c.from.ensures) c.if-from-end.true) (here (goal.at.returns-then-from-end c).After-pass_runs-from))

pub returns-in_default : goal.returns-in_default
returns-in_default c =
    sym (codes_passed (picture c.args.codes.now c.args.row_bytes c.args.rows) c.pass_runs-from.result c.pass_runs-from.new.self.at (omega arith) (search rules) (here (goal.at.returns-in_default c).After-pass_runs-from))

pub returns-then-n-end : goal.returns-then-n-end
returns-then-n-end c =
    let next = next (goal.at.returns-then-n-end c).After-symbol_of (Digits c.in-Digits.n c.in-Digits.field-1) _ c.in-Digits.ensures.symbol in
    sym (end_passed (picture c.args.codes.now c.args.row_bytes c.args.rows) _ _ (omega arith) (rw (sym c.from.ensures) (omega arith)) (digits_passed (2 * c.args.row_bytes) _ c.pass_runs-from.result c.in-Digits.n c.in-Digits.field-1 _ _ next))

pub returns-in-Again-2 : goal.returns-in-Again-2
returns-in-Again-2 c =
    let next = next (goal.at.returns-in-Again-2 c).After-symbol_of Again _ c.in-Again.ensures.symbol in
    sym (inside_passed (picture c.args.codes.now c.args.row_bytes c.args.rows) c.pass_runs-from.result _ _ (omega arith) (rw (sym c.from.ensures) (omega arith)) (omega arith) next)

pub returns-in-Again-2-2 : goal.returns-in-Again-2-2
returns-in-Again-2-2 c =
    let next = next (goal.at.returns-in-Again-2-2 c).After-symbol_of Refused _ c.in-Again-2.ensures.symbol in
    sym (other_passed (picture c.args.codes.now c.args.row_bytes c.args.rows) c.pass_runs-from.result _ _ (omega arith) (rw (sym c.from.ensures) (omega arith)) next)

pub loop-codes-preserved : goal.loop-codes-preserved
loop-codes-preserved c =
    let next = next (goal.at.loop-codes-preserved c).After-symbol_of Again _ c.in-Again.ensures.symbol in
    record { bytes = search rules; reading = search rules; passed = grind (arith, next) }

pub loop-codes-preserved-in-ToEnd-1 : goal.loop-codes-preserved-in-ToEnd-1
loop-codes-preserved-in-ToEnd-1 c =
    let next = next (goal.at.loop-codes-preserved-in-ToEnd-1 c).After-symbol_of (ToEnd c.in-ToEnd.field-0) _ c.in-ToEnd.ensures.symbol in
    record { bytes = search rules; reading = search rules; passed = grind (arith, next) }

pub loop-codes-preserved-in-Digits-1 : goal.loop-codes-preserved-in-Digits-1
loop-codes-preserved-in-Digits-1 c =
    let next = next (goal.at.loop-codes-preserved-in-Digits-1 c).After-symbol_of (Digits c.in-Digits.n c.in-Digits.field-1) _ c.in-Digits.ensures.symbol in
    record { bytes = search rules; reading = search rules; passed = digits_passed (2 * c.args.row_bytes) _ c.pass_runs-from.result c.in-Digits.n c.in-Digits.field-1 _ _ next }
