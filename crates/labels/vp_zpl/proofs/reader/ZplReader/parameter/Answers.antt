use Rattle.std.proofs.Common.{[], sym, refl, arith, subst}
use Rattle.std.proofs.lemmas.Bool.Decides.{nat_tests}
use Rattle.vp_zpl.specs.Reader.{Goes}
use Rattle.vp_zpl.proofs.Inside.{blank_goes, part_goes}
use Rattle.vp_zpl.proofs.reader.ZplReader.parameter.Goals as goal

pub returns-then-byte-eq32 : goal.returns-then-byte-eq32
returns-then-byte-eq32 c reading before command stands p =
    subst (λ b. Goes reading [] c.args.self.now before command b) (sym c.if-byte-eq32.true) (blank_goes c.args.self.now before command c.args.kind stands p)

pub returns-then-byte-ne44 : goal.returns-then-byte-ne44
returns-then-byte-ne44 c reading before command stands p =
    part_goes c.args.self.now (record c.args.self.now { part = c.push.new.self }) before command c.args.kind c.args.byte stands p refl (grind (arith, nat_tests)) (grind (arith, nat_tests)) c.push.ensures
