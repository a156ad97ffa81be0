use Rattle.std.proofs.lemmas.Grind.{common_steps}
use Rattle.std.proofs.Common.{◌≡◌, ℕ, List, arith}
use Rattle.vp_format.specs.declared.field.QrSymbol.{QrSymbol}
use Rattle.vp_qr.specs.Encoding.{Encodes, QrSymbol as Symbol}
use Rattle.vp_qr.specs.Inks.{ScaledSymbol}
use Rattle.vp_qr.specs.Places.{size}
use Rattle.vp_field.specs.Contents.{bytes_of, IsSymbol}
use Rattle.vp_field.specs.Fields.{IsDrawn}
use Rattle.vp_field.proofs.Shown.{qr_same}
use Rattle.vp_field.proofs.field.drawn_symbol.Goals as goal

-- the symbol of the data, scaled
is_drawn : (stored : List ℕ) (q : QrSymbol) (read : List ℕ) (qr : Symbol) (s : ScaledSymbol) → IsSymbol stored q → read ≡ bytes_of stored q.bytes → Encodes q.level q.mode read qr
    → s.scale ≡ q.module → s.size ≡ size qr.version → s.rows ≡ qr.rows → IsDrawn stored q s
is_drawn stored q read qr s kept is e scale wide rows = grind (arith, common_steps, qr_same)

pub returns-clause-drawn : goal.returns-clause-drawn
returns-clause-drawn c = grind (arith, common_steps, is_drawn)

pub returns-clause-marks : goal.returns-clause-marks
returns-clause-marks c = grind (arith, common_steps, is_drawn)
