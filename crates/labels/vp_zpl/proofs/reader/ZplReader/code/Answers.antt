use Rattle.std.proofs.Common.{◌≡◌, ap, refl, [], ◌∷◌, cond, true, false, arith}
use Rattle.std.proofs.lemmas.Bool.Decides.{nat_tests}
use Rattle.vp_zpl.specs.Items.{is_code}
use Rattle.vp_zpl.specs.declared.item.DataBytes.TheVariants as known
use Rattle.vp_zpl.proofs.Phases.{data_shows}
use Rattle.vp_zpl.proofs.Pictures.{code_goes}
use Rattle.vp_zpl.proofs.reader.ZplReader.code.Goals as goal

pub returns-then-byte-eq32 : goal.returns-then-byte-eq32
returns-then-byte-eq32 c reading before command stands p =
    let k : is_code c.args.byte ≡ false = grind (arith, nat_tests) in
    code_goes c.args.self.now c.args.self.now before command [] c.args.byte stands p (ap (λ z. cond z (c.args.byte ∷ []) []) k) refl refl refl refl refl

pub returns : goal.returns
returns c reading before command stands p =
    let k : is_code c.args.byte ≡ true = grind (arith, nat_tests) in
    data_shows _ c.args.self.now c.data.new.self (known.One (c.args.byte ∷ [])) before command c.args.byte c.data.ensures.event c.data.ensures.state
    (code_goes c.args.self.now (record c.args.self.now { known = known.One (c.args.byte ∷ []) }) before command (c.args.byte ∷ []) c.args.byte stands p (ap (λ z. cond z (c.args.byte ∷ []) []) k) refl refl refl refl refl)
