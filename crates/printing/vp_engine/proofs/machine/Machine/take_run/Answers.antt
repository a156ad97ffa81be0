use Rattle.std.proofs.Common.{◌≡◌, ◌≤◌, ◌++◌, take, length, false, refl, sym, ap, subst, ◌∙◌, arith}
use Rattle.std.proofs.lemmas.List.{take-take, length-take-le}
use Rattle.vp_esc.specs.declared.item.EscItem.TheVariants.{RasterByte}
use Rattle.vp_esc.specs.Reader.{Stands as EscStands}
use Rattle.vp_esc.specs.Lines.{line_of}
use Rattle.vp_zpl.specs.Items.{data_items}
use Rattle.vp_zpl.specs.Items.Item.{Data}
use Rattle.vp_zpl.specs.Reader.{Stands as ZplStands}
use Rattle.vp_zpl.specs.Items as zpl
use Rattle.vp_zpl.specs.Lines as zpl_lines
use Rattle.vp_label.specs.Standing.{Stands as LabelStands}
use Rattle.vp_engine.specs.Paper.{printed}
use Rattle.vp_engine.specs.Setups.{EscPos, Zpl, Labels, ListingIn, rules_of, esc_reading, zpl_reading}
use Rattle.vp_engine.proofs.Arms.{at_receipt, at_lines, at_label, at_label_lines}
use Rattle.vp_engine.proofs.Cuts.{drop_written, take_written}
use Rattle.vp_engine.proofs.Labels.{all_accepted, all_printed}
use Rattle.vp_engine.proofs.Lists.{lists_run}
use Rattle.vp_engine.proofs.Plain.{to_plain}
use Rattle.vp_engine.proofs.Rasters.{known_run}
use Rattle.vp_engine.proofs.machine.Machine.take_run.Goals as goal

pub returns-in-Receipt-clause-takes : goal.returns-in-Receipt-clause-takes
returns-in-Receipt-clause-takes g c = at_receipt _ _ _ _ c.in-Receipt.is (λ by s t before at known. c.receipt_run.ensures.takes by s t before at.0 at.1 known)

pub returns-in-ReceiptLines-clause-rest : goal.returns-in-ReceiptLines-clause-rest
returns-in-ReceiptLines-clause-rest g c = drop_written _ _ _ _ c.put_bytes-put.ensures.put c.put_bytes-put.ensures.bytes

pub returns-in-ReceiptLines-clause-takes : goal.returns-in-ReceiptLines-clause-takes
returns-in-ReceiptLines-clause-takes g c = at_lines _ _ _ _ c.in-ReceiptLines.is (λ by w t before at known.
    let e = c.take_raster-n.ensures in let p = c.put_bytes-put.ensures in
    let run = take c.min-room.result c.args.input.now in
    lists_run (esc_reading by) line_of (c.items_grow.ensures (ListingIn false (EscPos by))).grows RasterByte (λ b. refl) w (EscStands by c.take_raster-n.new.self)
    c.in-ReceiptLines.lines c.put_bytes-put.new.self t c.args.input.now c.min-room.result c.take_raster-n.result (take c.put_bytes-put.result c.put_bytes-put.new.output) before at.1
    (omega (arith, c.min-room.ensures)) e.fits (λ k l. e.gives by t k at.0 l)
    (known_run by t run (take c.take_raster-n.result run) c.take_raster-n.result refl known (λ some. e.known by t c.take_raster-n.result at.0 some (omega arith))) (e.stands by t at.0)
    (take_written _ _ _ _ p.put p.bytes) p.count p.taken)

pub returns-in-Label-clause-takes : goal.returns-in-Label-clause-takes
returns-in-Label-clause-takes g c = at_label _ _ _ _ c.in-Label.is (λ by s t before at known.
    let e = c.take_data-n.ensures in let n = c.take_data-n.result in let room = c.min-room-in-Label.result in
    let input = c.args.input.now in
    let within : room ≤ length input = omega (arith, c.min-room-in-Label.ensures) in
    let long : length (take room input) ≡ room = length-take-le room input within in
    let less : n ≤ room = omega (arith, e.fits, long) in
    let front : take n (take room input) ≡ take n input = take-take n room input less in
    let short : length (take n input) ≡ n = length-take-le n input (omega arith) in
    let fits : length (take n input) ≤ c.data_room.result = omega (arith, c.min-room-in-Label.ensures, short) in
    let items = data_items (take n input) in
    record {
      added = items;
      gives = ap (λ x. zpl.items by (t ++ x)) (sym front) ∙ e.gives by t n at.0 (omega arith) ∙ ap (λ x. zpl.items by t ++ data_items x) front;
      known = known;
      accepted = all_accepted by s items before (c.data_room.ensures.room s before at.1 (take n input) fits);
      prints = all_printed by s items before ∙ ap (λ x. printed (rules_of (Labels by s)) before ++ x) (c.data_in_turn.ensures.silent s before (take n input));
      stands = (subst (λ x. ZplStands by c.take_data-n.new.self (t ++ x)) front (e.stands by t at.0), to_plain s _ _ (subst (LabelStands s c.apply_data.new.self) (c.in_turn.ensures.order before items) (c.apply_data.ensures.stands s before at.1)));
    })

pub returns-in-LabelLines-clause-rest : goal.returns-in-LabelLines-clause-rest
returns-in-LabelLines-clause-rest g c = drop_written _ _ _ _ c.put_bytes-put-in-LabelLines.ensures.put c.put_bytes-put-in-LabelLines.ensures.bytes

pub returns-in-LabelLines-clause-takes : goal.returns-in-LabelLines-clause-takes
returns-in-LabelLines-clause-takes g c = at_label_lines _ _ _ _ c.in-LabelLines.is (λ by w t before at known.
    let e = c.take_data-n-in-LabelLines.ensures in let p = c.put_bytes-put-in-LabelLines.ensures in
    lists_run (zpl_reading by) zpl_lines.line_of (c.items_grow-in-LabelLines.ensures (ListingIn false (Zpl by))).grows Data (λ b. refl) w (ZplStands by c.take_data-n-in-LabelLines.new.self)
    c.in-LabelLines.lines c.put_bytes-put-in-LabelLines.new.self t c.args.input.now c.min-room-in-LabelLines.result c.take_data-n-in-LabelLines.result
    (take c.put_bytes-put-in-LabelLines.result c.put_bytes-put-in-LabelLines.new.output) before at.1
    (omega (arith, c.min-room-in-LabelLines.ensures)) e.fits (λ k l. e.gives by t k at.0 l) known (e.stands by t at.0)
    (take_written _ _ _ _ p.put p.bytes) p.count p.taken)
