use Rattle.std.proofs.Common.{◌≡◌, ◌≤◌, ℕ, List, arith}
use Rattle.vp_dots.specs.Images.{Image}
use Rattle.vp_join.specs.Strips.{IsNumber, IsJoined, greatest, height_together}
use Rattle.vp_esc.specs.declared.reading.Reading.{Reading as EscReading}
use Rattle.vp_receipt_settings.specs.declared.width.Width.{Width}
use Rattle.vp_receipt_settings.specs.declared.width.Width.TheVariants.{W576, W384}
use Rattle.vp_receipt_settings.specs.Setup.{Setup as ReceiptSetup, across}
use Rattle.vp_engine.specs.Images.{receipts, IsPrinted, images_of}
use Rattle.vp_engine.specs.Paper.{paper}
use Rattle.vp_engine.proofs.laws.a_receipt_is_joined.Goals as goal

fits : (paper : Width) → IsNumber (across paper)
fits W576 = record { least = omega arith; most = omega arith }
fits W384 = record { least = omega arith; most = omega arith }

joins : (c : goal.After-images_are_not_refused) (by : EscReading) (setup : ReceiptSetup) (bytes : List ℕ) → IsPrinted by setup bytes → height_together (images_of by setup bytes) ≤ greatest →
    (image : Image) × IsJoined (paper (receipts by setup) bytes) image × (image.width ≡ across setup.width) × (image.height ≡ height_together (images_of by setup bytes))
joins c by setup bytes e most = grind (arith, fits)

pub returns-clause-joined : goal.returns-clause-joined
returns-clause-joined c = joins c

pub returns-clause-not_refused : goal.returns-clause-not_refused
returns-clause-not_refused c = λ by setup bytes held holds fault e most refused.
    let one = joins c by setup bytes e most in
    c.images_are_not_refused.ensures (paper (receipts by setup) bytes) one.0 held holds fault one.1 refused
