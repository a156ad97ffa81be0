use Rattle.std.proofs.Common.{◌≡◌, ◌<◌, ◌≤◌, ◌∷◌, ap, sym, subst, ◌∙◌, arith, length, List, [], ℕ, Option, Some, None}
use Rattle.std.specs.Result.{MatchResult}
use Rattle.std.proofs.lemmas.Result.{on_ok_weaker}
use Rattle.vp_dots.specs.declared.fault.Fault.{Fault}
use Rattle.vp_glyph.specs.Sheets.{Sheets}
use Rattle.vp_zpl.specs.declared.item.ZplItem.{ZplItem}
use Rattle.vp_zpl.specs.Items.{Item, data_items}
use Rattle.vp_zpl.specs.Items.Item.{Given}
use Rattle.vp_zpl.specs.Shown.{data_bytes, shown_item, shown_parts}
use Rattle.vp_label_settings.specs.Formats.{followed_by}
use Rattle.vp_label.specs.Gathered.{Gathers, IsPrinted}
use Rattle.vp_label.specs.Prints.{all_print, prints}
use Rattle.vp_label.specs.Refusals.{first_refusal, refusal}
use Rattle.vp_label.specs.Standing.{IsPrinting, Printing, Stands}
use Rattle.vp_label.specs.Work.{label_work, label_shown, most_work, least_work}
use Rattle.vp_label.specs.declared.press.Press.{Press}
use Rattle.vp_label.proofs.Idle.{data_print, one_prints, one_refusal}
use Rattle.vp_label.proofs.Pending.{none_printing, on_ok_both, on_ok_four}
use Rattle.vp_label.proofs.Work.{data_work, newest_most, newest_least}
use Rattle.vp_label.proofs.label.Label.apply.Goals as goal

here : {A : Type 0} (sheets : Sheets) (p : Printing A) (before : List Item) → Stands sheets p before → Gathers p.sheets p.gathered before
here sheets p before st = subst (λ (s : Sheets). Gathers s p.gathered before) (sym st.sheets_are) st.gathered

-- what painting took before an item, and behind it
abbrev Takes : List ℕ → ℕ → ℕ → Type 0
Takes pending old new = (0 < length pending → new ≡ 0) × (pending ≡ [] → new ≡ old)

pub returns-in-Command-clause-refusal : goal.returns-in-Command-clause-refusal
returns-in-Command-clause-refusal g c = λ sheets before st.
    let sent = c.in-Command.sent.now in
    let item = Given sent.command sent.name (shown_parts sent.parameters.items) in
    let e : refusal c.args.self.now.sheets before item ≡ first_refusal sheets before (shown_item c.args.item) =
    ap (λ (s : Sheets). refusal s before item) st.sheets_are ∙ sym (one_refusal sheets before item) ∙ ap (λ (i : ZplItem). first_refusal sheets before (shown_item i)) (sym c.in-Command.is) in
    subst (λ (o : Option Fault). MatchResult c.obey.result (λ _. o ≡ None) (λ f. o ≡ Some f)) e
    (c.obey.ensures.refusal before sent.name (shown_parts sent.parameters.items) (here sheets c.args.self.now before st))

pub returns-in-Command-clause-stands : goal.returns-in-Command-clause-stands
returns-in-Command-clause-stands g c =
    let sent = c.in-Command.sent.now in
    let parts = shown_parts sent.parameters.items in
    on_ok_four c.obey.result (λ k printed pending (work : Takes c.obey.new.self.pending c.args.self.now.press.painter.work c.obey.new.self.press.painter.work) sheets before st. record {
      sheets_are = c.obey.ensures.sheets ∙ st.sheets_are;
      gathered = subst (λ (i : ZplItem). Gathers sheets c.obey.new.self.gathered (followed_by before (shown_item i))) (sym c.in-Command.is)
          (subst (λ (s : Sheets). Gathers s c.obey.new.self.gathered (Given sent.command sent.name parts ∷ before)) (c.obey.ensures.sheets ∙ st.sheets_are) (k before sent.name parts (here sheets c.args.self.now before st)));
      printing = λ some. subst (λ (i : ZplItem). IsPrinting sheets c.obey.new.self.gathered c.obey.new.self.pending (followed_by before (shown_item i))) (sym c.in-Command.is) (record {
        printed = subst (λ (s : Sheets). IsPrinted s c.obey.new.self.gathered before) st.sheets_are (printed before (here sheets c.args.self.now before st) some);
        rest = (0, pending before sent.name parts (here sheets c.args.self.now before st) ∙ ap (λ (s : Sheets). prints s before (Given sent.command sent.name parts)) st.sheets_are);
      });
      at_most = subst (λ (i : ZplItem). c.obey.new.self.press.painter.work ≤ most_work sheets (followed_by before (shown_item i))) (sym c.in-Command.is)
          (newest_most sheets before (Given sent.command sent.name parts) c.obey.new.self.pending c.args.self.now.press.painter.work c.obey.new.self.press.painter.work
          (pending before sent.name parts (here sheets c.args.self.now before st) ∙ ap (λ (s : Sheets). prints s before (Given sent.command sent.name parts)) st.sheets_are) work.0 work.1 st.at_most);
      at_least = subst (λ (i : ZplItem). c.obey.new.self.pending ≡ [] → least_work sheets (followed_by before (shown_item i)) ≤ c.obey.new.self.press.painter.work) (sym c.in-Command.is)
          (newest_least sheets before (Given sent.command sent.name parts) c.obey.new.self.pending c.args.self.now.press.painter.work c.obey.new.self.press.painter.work
          (pending before sent.name parts (here sheets c.args.self.now before st) ∙ ap (λ (s : Sheets). prints s before (Given sent.command sent.name parts)) st.sheets_are) work.1 (st.at_least c.requires));
    }) c.obey.ensures.stands c.obey.ensures.printed c.obey.ensures.pending (on_ok_both c.obey.result (λ begun idle. (begun, idle)) c.obey.ensures.work c.obey.ensures.idle_work)

pub returns-in-Command-clause-pending : goal.returns-in-Command-clause-pending
returns-in-Command-clause-pending g c =
    let sent = c.in-Command.sent.now in
    let parts = shown_parts sent.parameters.items in
    let item = Given sent.command sent.name parts in
    on_ok_weaker c.obey.result (λ k sheets before st. k before sent.name parts (here sheets c.args.self.now before st)
    ∙ ap (λ (s : Sheets). prints s before item) st.sheets_are ∙ sym (one_prints sheets before item) ∙ ap (λ (i : ZplItem). all_print sheets before (shown_item i)) (sym c.in-Command.is)) c.obey.ensures.pending

pub returns-in-Data-clause-pending : goal.returns-in-Data-clause-pending
returns-in-Data-clause-pending g c = grind (arith, on_ok_weaker, data_print)

pub returns-in-Data-clause-stands : goal.returns-in-Data-clause-stands
returns-in-Data-clause-stands g c =
    on_ok_four c.store.result (λ k none idle done sheets before st. record {
      sheets_are = c.store.ensures.sheets ∙ st.sheets_are;
      gathered = subst (λ (i : ZplItem). Gathers sheets c.store.new.self.gathered (followed_by before (shown_item i))) (sym c.in-Data.is)
          (subst (λ (bytes : List ℕ). Gathers sheets c.store.new.self.gathered (followed_by before (data_items bytes))) c.as_slice.ensures.value (k sheets before st.gathered));
      printing = none_printing sheets c.store.new.self.gathered (followed_by before (shown_item c.args.item)) c.store.new.self.pending none;
      at_most = subst (λ (i : ZplItem). c.store.new.self.press.painter.work ≤ most_work sheets (followed_by before (shown_item i))) (sym c.in-Data.is)
          (omega (arith, ap (λ (p : Press _). p.painter.work) idle, data_work label_work sheets before (data_bytes c.in-Data.bytes.now), st.at_most));
      at_least = λ _. subst (λ (i : ZplItem). least_work sheets (followed_by before (shown_item i)) ≤ c.store.new.self.press.painter.work) (sym c.in-Data.is)
          (omega (arith, ap (λ (p : Press _). p.painter.work) idle, data_work label_shown sheets before (data_bytes c.in-Data.bytes.now), st.at_least c.requires));
    }) c.store.ensures.stands c.store.ensures.pending c.store.ensures.idle c.store.ensures.idle
