use Rattle.std.proofs.Common.{◌≡◌, ◌∙◌, ◌∷◌, [], sym, ap, refl, subst}
use Rattle.vp_zpl.specs.declared.reader.ZplReader.{ZplReader}
use Rattle.vp_zpl.specs.declared.reader.Event.TheVariants as events
use Rattle.vp_zpl.specs.Items.{item_of}
use Rattle.vp_zpl.specs.Shown.{shown_part, shown_parts}
use Rattle.vp_zpl.specs.Reader.{Ends, at_sign, shown_event, indicator_with}
use Rattle.vp_zpl.proofs.Ends.{parameters_end}
use Rattle.vp_zpl.proofs.reader.ZplReader.end_parameters.Goals as goal

pub returns : goal.returns
returns c reading before command sign stands p =
    let r = c.args.self.now in let e = c.end_parameter.ensures.rest in let g = c.give.ensures.state in
    let new : ZplReader = at_sign c.give.new.self sign in
    let ps = shown_parts c.end_parameter.new.self.sent.parameters.items in
    let kept_is : shown_parts new.sent.parameters.items ≡ ps = ap (λ (s : ZplReader). shown_parts s.sent.parameters.items) g in
    let opened : new.in_format ≡ c.end_parameter.new.self.in_format = ap (λ (s : ZplReader). s.in_format) g in
    let shows : shown_event c.give.result new ≡ item_of c.args.kind r.sent.name ps ∷ [] =
    ap (λ x. shown_event x new) c.give.ensures.event ∙ ap (λ s. shown_event events.Given (at_sign s sign)) g ∙ ap (λ (s : ZplReader). item_of c.args.kind s.sent.name ps ∷ []) e in
    subst (λ i. Ends reading i new before command sign) (sym shows)
    (subst (λ x. Ends reading (item_of c.args.kind r.sent.name x ∷ []) new before command sign) kept_is
    (parameters_end r new before command c.args.kind sign stands p
    (record { kept = kept_is ∙ c.end_parameter.ensures.kept; part = ap (λ (s : ZplReader). shown_part s.part) g ∙ c.end_parameter.ensures.part })
    (ap (λ (s : ZplReader). s.reading) g ∙ ap (λ (s : ZplReader). s.reading) e)
    (opened ∙ ap (λ (s : ZplReader). s.in_format) e) refl
    (ap (λ (s : ZplReader). s.indicator) g ∙ c.indicator_set-self.ensures
    ∙ ap (indicator_with c.args.kind ps c.end_parameter.new.self.in_format) (ap (λ (s : ZplReader). s.indicator) e)
    ∙ ap (λ x. indicator_with c.args.kind x c.end_parameter.new.self.in_format r.indicator) (sym kept_is)
    ∙ ap (λ x. indicator_with c.args.kind (shown_parts new.sent.parameters.items) x r.indicator) (sym opened))))
