use Rattle.std.proofs.Common.{ap, ap₂, ◌≡◌, ◌∙◌, codes}
use Rattle.std.proofs.lemmas.Result.{IfOk-weaker}
use Rattle.clap.specs.Words.{App, Rule, app_of, new_app, with_rule}
use Rattle.clap.specs.Simple.{app_of_fields}
use Rattle.vp_command_line.specs.Words.{by_default, choice, flag, option}
use Rattle.vp_command_line.proofs.grammar.receipt.Goals as goal

pub returns : goal.returns
returns c =
    let width : Rule = by_default (codes "576") (choice (codes "width") c.width.ensures.of) in
    let a0 : App = new_app (codes "receipt") in
    let a1 : App = with_rule a0 width in
    let a2 : App = with_rule a1 (flag (codes "whole")) in
    let a3 : App = with_rule a2 (option (codes "font-a")) in
    let a4 : App = with_rule a3 (option (codes "font-b")) in
    let start : app_of c.about.result ≡ a0 = ap app_of_fields c.about.ensures ∙ c.new.ensures.app in
    let of_width : app_of c.in_ok-arg.field-0 ≡ a1 = c.in_ok-arg.ensures.shape c.width.ensures.is.1 ∙ ap₂ with_rule start c.width.ensures.is.0 in
    let of_whole : app_of c.in_ok-arg-2.field-0 ≡ a2 = c.in_ok-arg-2.ensures.shape c.whole_receipt.ensures.1 ∙ ap₂ with_rule of_width c.whole_receipt.ensures.0 in
    let of_a : app_of c.in_ok-arg-3.field-0 ≡ a3 = c.in_ok-arg-3.ensures.shape c.font_a.ensures.1 ∙ ap₂ with_rule of_whole c.font_a.ensures.0 in
    let of_b : app_of c.in_ok-arg-4.field-0 ≡ a4 = c.in_ok-arg-4.ensures.shape c.font_b.ensures.1 ∙ ap₂ with_rule of_a c.font_b.ensures.0 in
    IfOk-weaker c.arg-5.result _ _ (λ r h. record {
      of = c.width.ensures.of;
      values_are = c.width.ensures.values_are;
      is = h.shape c.file.ensures.1 ∙ ap₂ with_rule of_b c.file.ensures.0;
    }) c.arg-5.ensures
