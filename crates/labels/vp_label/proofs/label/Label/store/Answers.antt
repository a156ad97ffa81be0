use Rattle.std.proofs.Common.{arith}
use Rattle.std.proofs.Common.{List, subst}
use Rattle.std.specs.Result.{OnOk}
use Rattle.vp_glyph.specs.Sheets.{Sheets}
use Rattle.vp_zpl.specs.Items.{Item, data_items}
use Rattle.vp_label_settings.specs.Formats.{followed_by}
use Rattle.vp_label.specs.Gathered.{Gathers}
use Rattle.vp_label.specs.Standing.{Printing}
use Rattle.vp_label.proofs.label.Label.store.Goals as goal

pub returns-clause-stands : goal.returns-clause-stands
returns-clause-stands g c =
    let P : Printing _ → Type 0 = λ p. OnOk c.store.result ((sheets : Sheets) (before : List Item) → Gathers sheets p.gathered before →
    Gathers sheets c.store.new.self (followed_by before (data_items c.args.bytes.now))) in
    subst P c.self.view_is c.store.ensures.stands

pub returns-clause-room : goal.returns-clause-room
returns-clause-room g c = λ fits. c.store.ensures.room c.self.inside.sheets c.self.invariant.gathered (grind arith)
