use Rattle.std.proofs.Common.{flat_map, sym, ap, ◌∙◌}
use Rattle.vp_esc.specs.declared.item.EscItem.TheVariants.{RasterByte}
use Rattle.vp_esc.specs.Lines.{line_of}
use Rattle.vp_zpl.specs.declared.item.ZplItem.{ZplItem}
use Rattle.vp_zpl.specs.Lines.{line_of as label_line_of}
use Rattle.vp_zpl.specs.Shown.{data_bytes, shown_item}
use Rattle.vp_engine.specs.Lines.{listed_line}
use Rattle.vp_engine.proofs.Labels.{data_lines}
use Rattle.vp_engine.proofs.machine.begin_label_lines.Goals as goal

pub returns-in-Data-clause-pending : goal.returns-in-Data-clause-pending
returns-in-Data-clause-pending c =
    let place = c.args.lines.now.taken in
    c.begin_bytes.ensures.pending ∙ ap (flat_map (λ b. listed_line place (line_of (RasterByte b)))) c.as_slice-in-Data.ensures.value
    ∙ data_lines place (data_bytes c.in-Data.bytes.now)
    ∙ ap (λ (i : ZplItem). flat_map (λ i. listed_line place (label_line_of i)) (shown_item i)) (sym c.in-Data.is)
