use Rattle.std.proofs.Common.{◌≤◌, ◌*◌, List, reverse}
use Rattle.vp_zpl.specs.Items.{Item, items}
use Rattle.vp_label_settings.specs.Settings.{settings_of}
use Rattle.vp_bands.specs.Meeting.{bands_of}
use Rattle.vp_glyph.specs.Sheets.{Sheets}
use Rattle.vp_label.specs.Bytes.{format_bytes}
use Rattle.vp_label.specs.Entries.{printed_bytes, printed_entries}
use Rattle.vp_label.specs.Prints.{view_of}
use Rattle.vp_label.specs.Work.{label_work}
use Rattle.vp_label.proofs.ByBytes.{bytes_read, copy_few, fields_few, last_few}
use Rattle.vp_label.proofs.laws.bytes_cost_at_most.Goals as goal

pub returns : goal.returns
returns c = record {
  read = λ reading bytes. bytes_read (items reading bytes) _ (c.items_take_bytes.ensures reading bytes);
  fields = λ sheets before. fields_few sheets before;
  copy = copy;
  last = λ sheets reading bytes. last_few sheets (copy sheets) c.in_range.ensures.settings (items reading bytes) _ (c.items_take_bytes.ensures reading bytes);
} where
  copy : (sheets : Sheets) (before : List Item) → label_work sheets before ≤ 7327 * (bands_of (view_of (settings_of before)) * format_bytes before)
  copy sheets before =
      let view = view_of (settings_of before) in
      copy_few sheets before view (bands_of view) (c.a_field_costs_at_most.ensures.copy sheets (printed_bytes before) view (printed_entries sheets before) (bands_of view))
