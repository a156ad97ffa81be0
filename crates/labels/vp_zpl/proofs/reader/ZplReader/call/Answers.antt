use Rattle.std.proofs.Common.{◌≡◌, ◌∙◌, ◌∷◌, [], Some, sym, ap, subst}
use Rattle.vp_zpl.specs.declared.reader.ZplReader.{ZplReader}
use Rattle.vp_zpl.specs.Shown.{shown_part, shown_parts}
use Rattle.vp_zpl.specs.Commands.{kind_named, in_format_by}
use Rattle.vp_zpl.specs.Items.{name_of}
use Rattle.vp_zpl.specs.Reader.{Goes, StandsIn, shown_event, at_name, phase_behind, indicator_behind}
use Rattle.vp_zpl.proofs.Phases.{named_first}
use Rattle.vp_zpl.proofs.Calls.{call_goes}
use Rattle.vp_zpl.proofs.reader.ZplReader.call.Goals as goal

pub returns : goal.returns
returns c reading before command stands p =
    let n = name_of c.args.sign c.args.first c.args.second in let new : ZplReader = c.called.new.self in let rest = c.called.ensures.rest in
    let k = kind_named reading c.args.sign c.args.first c.args.second in
    let kind : c.kind_named-kind.result ≡ k = c.kind_named-kind.ensures ∙ ap (λ x. kind_named x c.args.sign c.args.first c.args.second) stands.reads in
    let e = named_first c.args.self.now before command c.args.sign c.args.first stands p in
    let goes : Goes reading (at_name k n) new before (c.args.sign ∷ c.args.first ∷ []) c.args.second = call_goes c.args.self.now new before c.args.sign c.args.first c.args.second
    (subst (λ x. StandsIn reading c.args.self.now before x) e stands) p (ap (λ (s : ZplReader). s.reading) rest) (ap (λ (s : ZplReader). s.sent.name) rest ∙ c.new-self.ensures)
    (ap (λ (s : ZplReader). shown_parts s.sent.parameters.items) rest ∙ ap shown_parts c.clear.ensures) (ap (λ (s : ZplReader). shown_part s.part) rest ∙ c.new-self-2.ensures)
    (ap (λ (s : ZplReader). s.in_format) rest ∙ c.in_format-self.ensures ∙ ap (λ x. in_format_by (Some x) c.args.self.now.in_format) kind)
    (ap (λ (s : ZplReader). s.indicator) rest ∙ c.indicator-self.ensures ∙ ap (λ x. indicator_behind x c.args.self.now.indicator) kind)
    (ap (λ (s : ZplReader). s.phase) rest ∙ c.phase_behind-self.ensures ∙ ap phase_behind kind) in
    let shows = ap (λ x. at_name x n) (sym kind) ∙ ap (at_name c.kind_named-kind.result) (sym c.new-self.ensures) ∙ sym c.called.ensures.shows in
    subst (λ x. Goes reading (shown_event c.called.result new) new before x c.args.second) (sym e)
    (subst (λ i. Goes reading i new before (c.args.sign ∷ c.args.first ∷ []) c.args.second) shows goes)
