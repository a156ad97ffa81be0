-- Names are those of the table.
use Rattle.std.proofs.lemmas.Grind.{common_steps}
use Rattle.std.proofs.Common.{◌≡◌, ℕ, ◌==◌, if◌then◌else◌, arith}
use Rattle.vp_zpl.specs.declared.reading.Reading.{Reading}
use Rattle.vp_zpl.specs.declared.reading.Reading.TheVariants.{Profile, Whole}
use Rattle.vp_zpl.specs.declared.name.Kind.{Kind}
use Rattle.vp_zpl.specs.declared.name.Kind.TheVariants as kinds
use Rattle.vp_zpl.specs.declared.name.Plain.TheVariants as plain
use Rattle.vp_zpl.specs.Spelling.{capital}
use Rattle.vp_zpl.specs.Commands.{kind_of, kind_named}
use Rattle.vp_zpl.specs.Laws.{rows, kind_in}

abbrev pub listed : Reading → ℕ → ℕ → Kind
listed reading a b = if a == 0x41 then kinds.Plain plain.Font else kind_in (rows reading) a b

by_first : (reading : Reading) (a b : ℕ) → kind_of reading 0x5E a b ≡ listed reading a b
unfolding kind_of
by_first Profile a b = grind (arith, common_steps)
by_first Whole a b = grind (arith, common_steps)

pub named_is : (reading : Reading) (a b : ℕ) → kind_named reading 0x5E a b ≡ listed reading (capital a) (capital b)
named_is reading a b = by_first reading (capital a) (capital b)
