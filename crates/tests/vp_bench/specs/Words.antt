-- The words that name the benches.
use Rattle.std.specs.Prelude.{ℕ, List, codes}
use Rattle.vp_bench.specs.declared.bench.Bench.{Bench}
use Rattle.vp_bench.specs.declared.bench.Bench.TheVariants.{Dots, Glyph, Esc, Page, Qr}

abbrev pub word_of : Bench → List ℕ
word_of Dots = codes "dots"
word_of Glyph = codes "glyph"
word_of Esc = codes "esc"
word_of Page = codes "page"
word_of Qr = codes "qr"
