use Rattle.std.proofs.Common.{◌≡◌, ◌∙◌, ◌≤◌, length, [], ◌∷◌, sym, ap, arith, subst}
use Rattle.std.proofs.lemmas.List.{length-map}
use Rattle.std.proofs.lemmas.Bool.Decides.{nat_tests}
use Rattle.vp_zpl.specs.declared.reader.ZplReader.{ZplReader}
use Rattle.vp_zpl.specs.Shown.{shown_part, shown_parts}
use Rattle.vp_zpl.specs.declared.name.Kind.TheVariants as kinds
use Rattle.vp_zpl.specs.declared.reader.Event.TheVariants as events
use Rattle.vp_zpl.specs.declared.reader.Phase.TheVariants as phases
use Rattle.vp_zpl.specs.Items.{item_of}
use Rattle.vp_zpl.specs.Reader.{Goes, shown_event, behind_head}
use Rattle.vp_zpl.proofs.Inside.{comma_goes, head_goes}
use Rattle.vp_zpl.proofs.reader.ZplReader.comma.Goals as goal

pub returns-in_default : goal.returns-in_default
returns-in_default c reading before command stands p =
    comma_goes c.args.self.now c.end_parameter.new.self before command c.args.kind stands p c.end_parameter.ensures.rest
    (record { kept = c.end_parameter.ensures.kept; part = c.end_parameter.ensures.part }) (λ e. absurd (c.in_default.not-Graphic e))

pub returns-then-len-lt4 : goal.returns-then-len-lt4
returns-then-len-lt4 c reading before command stands p =
    comma_goes c.args.self.now c.end_parameter.new.self before command c.args.kind stands p c.end_parameter.ensures.rest
    (record { kept = c.end_parameter.ensures.kept; part = c.end_parameter.ensures.part })
    (λ e. grind (arith, nat_tests, length-map c.end_parameter.new.self.sent.parameters.items shown_part))

pub returns : goal.returns
returns c reading before command stands p =
    let r = c.args.self.now in let e = c.end_parameter.ensures.rest in let g = c.give.ensures.state in
    let l = length-map c.end_parameter.new.self.sent.parameters.items shown_part in
    let ps = shown_parts c.end_parameter.new.self.sent.parameters.items in
    let four : 4 ≤ length ps = grind (arith, nat_tests, l) in let new : ZplReader = c.give.new.self in
    let kept_is : shown_parts new.sent.parameters.items ≡ ps = ap (λ (s : ZplReader). shown_parts s.sent.parameters.items) g in
    let shows : shown_event c.give.result new ≡ item_of kinds.Graphic r.sent.name ps ∷ [] =
    ap (λ x. shown_event x new) c.give.ensures.event ∙ ap (λ s. shown_event events.Given s) g ∙ ap (λ (s : ZplReader). item_of c.args.kind s.sent.name ps ∷ []) e
    ∙ ap (λ k. item_of k r.sent.name ps ∷ []) c.in-Graphic.is in
    subst (λ i. Goes reading i new before command 0x2C) (sym shows)
    (head_goes r new before command ps stands (p ∙ ap phases.Parameters c.in-Graphic.is)
    (ap (λ (s : ZplReader). s.reading) g ∙ ap (λ (s : ZplReader). s.reading) e)
    (ap (λ (s : ZplReader). s.sent.name) g ∙ ap (λ (s : ZplReader). s.sent.name) e) (ap (λ (s : ZplReader). s.in_format) g ∙ ap (λ (s : ZplReader). s.in_format) e)
    (ap (λ (s : ZplReader). s.indicator) g ∙ ap (λ (s : ZplReader). s.indicator) e)
    (record { kept = kept_is ∙ c.end_parameter.ensures.kept; part = ap (λ (s : ZplReader). shown_part s.part) g ∙ c.end_parameter.ensures.part }) kept_is
    (ap (λ (s : ZplReader). s.phase) g ∙ c.graphic_phase-self.ensures ∙ ap (λ x. behind_head (shown_parts x)) c.as_slice.ensures.value) four)
