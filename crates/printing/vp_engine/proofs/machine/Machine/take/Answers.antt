use Rattle.std.proofs.Common.{flat_map, refl, sym, ap, subst, ◌∙◌, ◌++◌, length, Ok, Err, [], ◌∷◌, false}
use Rattle.std.proofs.lemmas.List.{append-nil}
use Rattle.vp_esc.specs.Lines.{line_of}
use Rattle.vp_esc.specs.Reader.{Stands as EscStands}
use Rattle.vp_receipt.specs.Standing.{Printing, Stands as ReceiptStands}
use Rattle.vp_zpl.specs.Lines.{line_of as label_line_of}
use Rattle.vp_zpl.specs.Reader.{Stands as ZplStands}
use Rattle.vp_zpl.specs.Shown.{shown_item}
use Rattle.vp_streams.specs.Count.{grown}
use Rattle.vp_engine.specs.Lines.{Listed, listed_line}
use Rattle.vp_engine.specs.Machines.{machine_of, pending_of}
use Rattle.vp_engine.specs.Setups.{EscPos, Zpl, Receipts, Labels, ListingIn, rules_of, esc_reading, zpl_reading}
use Rattle.vp_engine.proofs.Arms.{at_receipt, at_lines, at_label, at_label_lines}
use Rattle.vp_engine.proofs.Comes.{comes, none_printed, on_ok, on_err}
use Rattle.vp_engine.proofs.Labels.{items_come}
use Rattle.vp_engine.proofs.Lists.{lists, lists_none, lists_fault}
use Rattle.vp_engine.proofs.Plain.{to_plain}
use Rattle.vp_engine.proofs.machine.Machine.take.Goals as goal

pub returns-in-Ok-Some : goal.returns-in-Ok-Some
returns-in-Ok-Some g c = at_receipt _ _ _ _ c.in-Receipt.is (λ by s t before at. record {
  given = Ok (c.in-Ok-Some.item.now ∷ []);
  gives = (rw c.in-Ok-Some.field-0-is at c.in-Ok-Some.ensures).gives by t at.0;
  comes =
      let a = c.apply.ensures in
      let idle = sym (ap (λ m. pending_of (machine_of m)) c.in-Receipt.is) ∙ c.requires in
      comes (rules_of (Receipts by s)) (EscStands by c.take.follows.lender-at-none) (ReceiptStands s c.apply.new.self) _ _ before c.in-Ok-Some.item.now c.apply.result
      (c.take.follows.holds-at-none by t at.0) (a.refusal s before at.1) (on_ok c.apply.result a.stands (λ f. f s before at.1)) (on_ok c.apply.result a.pending (λ f. f s before at.1))
      (on_err c.apply.result a.err (λ e. (subst (λ (p : Printing). ReceiptStands s p before) (sym e) at.1, ap (λ (p : Printing). p.pending) e ∙ idle)));
})

pub returns-in-Ok-None : goal.returns-in-Ok-None
returns-in-Ok-None g c = at_receipt _ _ _ _ c.in-Receipt.is (λ by s t before at. record {
  given = Ok [];
  gives = (rw c.in-Ok-None.field-0-is at c.in-Ok-None.ensures).gives by t at.0;
  comes = (tt, (c.take.follows.holds-at-none by t at.0, at.1), none_printed (rules_of (Receipts by s)) _ before (sym (ap (λ m. pending_of (machine_of m)) c.in-Receipt.is) ∙ c.requires));
})

pub returns-in-Err : goal.returns-in-Err
returns-in-Err g c = at_receipt _ _ _ _ c.in-Receipt.is (λ by s t before at. record {
  given = Err c.in-Err.fault;
  gives = c.in-Err.ensures.gives by t at.0;
  comes = (refl, (c.take.follows.holds-at-none by t at.0, at.1), sym (ap (λ m. pending_of (machine_of m)) c.in-Receipt.is) ∙ c.requires);
})

pub returns-in-Ok-Some-take : goal.returns-in-Ok-Some-take
returns-in-Ok-Some-take g c = at_lines _ _ _ _ c.in-ReceiptLines.is (λ by w t before at.
    let gives = (rw c.in-Ok-Some-take.field-0-is at c.in-Ok-Some-take.ensures).gives by t at.0 in
    let b = c.begin_line.ensures in let counted_one = c.advance.ensures in
    lists (esc_reading by) line_of (c.items_grow.ensures (ListingIn false (EscPos by))).grows w (EscStands by c.take-in-ReceiptLines.follows.lender-at-none) c.in-ReceiptLines.lines c.begin_line.new.lines
    t c.args.byte (c.in-Ok-Some-take.item.now ∷ []) before at.1 gives.0 gives.1 (c.take-in-ReceiptLines.follows.holds-at-none by t at.0)
    (b.pending ∙ sym (append-nil _) ∙ ap (λ o. listed_line o (line_of c.in-Ok-Some-take.item.now) ++ []) (sym b.taken))
    (b.count ∙ ap (λ (l : Listed). grown l.count 1) counted_one) (b.taken ∙ ap (λ (l : Listed). l.taken) counted_one))

pub returns-in-Ok-None-take : goal.returns-in-Ok-None-take
returns-in-Ok-None-take g c = at_lines _ _ _ _ c.in-ReceiptLines.is (λ by w t before at.
    let gives = (rw c.in-Ok-None-take.field-0-is at c.in-Ok-None-take.ensures).gives by t at.0 in
    lists_none (esc_reading by) line_of (c.items_grow.ensures (ListingIn false (EscPos by))).grows w (EscStands by c.take-in-ReceiptLines.follows.lender-at-none) c.in-ReceiptLines.lines c.advance.new.self
    t c.args.byte before at.1 gives.0 gives.1 (c.take-in-ReceiptLines.follows.holds-at-none by t at.0)
    (ap (λ (l : Listed). l.pending) c.advance.ensures ∙ sym (ap (λ m. pending_of (machine_of m)) c.in-ReceiptLines.is) ∙ c.requires)
    (ap (λ (l : Listed). l.count) c.advance.ensures) (ap (λ (l : Listed). l.taken) c.advance.ensures))

pub returns-in-Err-take : goal.returns-in-Err-take
returns-in-Err-take g c = at_lines _ _ _ _ c.in-ReceiptLines.is (λ by w t before at.
    lists_fault (esc_reading by) line_of (c.items_grow.ensures (ListingIn false (EscPos by))).grows w (EscStands by c.take-in-ReceiptLines.follows.lender-at-none) c.in-ReceiptLines.lines c.advance.new.self
    t c.args.byte before c.in-Err-take.fault at.1 (c.in-Err-take.ensures.gives by t at.0) (c.take-in-ReceiptLines.follows.holds-at-none by t at.0)
    (ap (λ (l : Listed). l.pending) c.advance.ensures ∙ sym (ap (λ m. pending_of (machine_of m)) c.in-ReceiptLines.is) ∙ c.requires)
    (ap (λ (l : Listed). l.count) c.advance.ensures) (ap (λ (l : Listed). l.taken) c.advance.ensures))

pub returns-in-Some : goal.returns-in-Some
returns-in-Some g c = at_label _ _ _ _ c.in-Label.is (λ by s t before at.
    let a = c.apply-in-Some.ensures in
    record {
      given = Ok (shown_item c.in-Some.item);
      gives = (refl, c.in-Some.ensures.gives by t at.0);
      comes = items_come by s c.in_turn.ensures.order (c.data_in_turn.ensures.full s) (ZplStands by c.take-in-Label.follows.lender-at-none) c.in-Label.label c.apply-in-Some.new.self _ before c.in-Some.item c.apply-in-Some.result
          (c.take-in-Label.follows.holds-at-none by t at.0) at.1 (sym (ap (λ m. pending_of (machine_of m)) c.in-Label.is) ∙ c.requires) (a.refusal s before at.1) a.stands a.pending a.err;
    })

pub returns-in-None : goal.returns-in-None
returns-in-None g c = at_label _ _ _ _ c.in-Label.is (λ by s t before at. record {
  given = Ok [];
  gives = (refl, c.in-None.ensures.gives by t at.0);
  comes = (tt, (c.take-in-Label.follows.holds-at-none by t at.0, to_plain s _ before at.1), none_printed (rules_of (Labels by s)) _ before (sym (ap (λ m. pending_of (machine_of m)) c.in-Label.is) ∙ c.requires));
})

pub returns-in-Some-take : goal.returns-in-Some-take
returns-in-Some-take g c = at_label_lines _ _ _ _ c.in-LabelLines.is (λ by w t before at.
    let b = c.begin_label_lines.ensures in let counted_one = c.advance-in-LabelLines.ensures in
    lists (zpl_reading by) label_line_of (c.items_grow-in-LabelLines.ensures (ListingIn false (Zpl by))).grows w (ZplStands by c.take-in-LabelLines.follows.lender-at-none) c.in-LabelLines.lines c.begin_label_lines.new.lines
    t c.args.byte (shown_item c.in-Some-take.item) before at.1 refl (c.in-Some-take.ensures.gives by t at.0) (c.take-in-LabelLines.follows.holds-at-none by t at.0)
    (b.pending ∙ ap (λ o. flat_map (λ i. listed_line o (label_line_of i)) (shown_item c.in-Some-take.item)) (sym b.taken))
    (b.count ∙ ap (λ (l : Listed). grown l.count (length (shown_item c.in-Some-take.item))) counted_one) (b.taken ∙ ap (λ (l : Listed). l.taken) counted_one))

pub returns-in_default : goal.returns-in_default
returns-in_default g c = at_label_lines _ _ _ _ c.in-LabelLines.is (λ by w t before at.
    lists_none (zpl_reading by) label_line_of (c.items_grow-in-LabelLines.ensures (ListingIn false (Zpl by))).grows w (ZplStands by c.take-in-LabelLines.follows.lender-at-none) c.in-LabelLines.lines c.advance-in-LabelLines.new.self
    t c.args.byte before at.1 refl (c.in_default.ensures.gives by t at.0) (c.take-in-LabelLines.follows.holds-at-none by t at.0)
    (ap (λ (l : Listed). l.pending) c.advance-in-LabelLines.ensures ∙ sym (ap (λ m. pending_of (machine_of m)) c.in-LabelLines.is) ∙ c.requires)
    (ap (λ (l : Listed). l.count) c.advance-in-LabelLines.ensures) (ap (λ (l : Listed). l.taken) c.advance-in-LabelLines.ensures))
