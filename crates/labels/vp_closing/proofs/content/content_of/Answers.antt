use Rattle.std.proofs.Common.{Ok, ap, sym, subst, ◌∙◌}
use Rattle.vp_field.specs.declared.sized.SizedContent.{SizedContent}
use Rattle.vp_label_settings.specs.declared.parts.OpenContent.{OpenContent}
use Rattle.vp_closing.specs.Contents.{content_of, made_of, sized_if, IsShown}
use Rattle.vp_closing.proofs.content.content_of.Goals as goal

pub returns-in-Frame-clause-value : goal.returns-in-Frame-clause-value
returns-in-Frame-clause-value g c =
    let sheets = c.args.sheets.now in
    let stored = c.args.stored.now in
    ap (λ (s : SizedContent). Ok s) (c.graphic_box.ensures sheets stored)
    ∙ sym (ap (λ (o : OpenContent). sized_if sheets stored (content_of stored c.args.settings.now c.args.parts.now o)) c.in-Frame.is)

pub returns-in-Frame-clause-shown : goal.returns-in-Frame-clause-shown
returns-in-Frame-clause-shown g c =
    subst (λ (s : SizedContent). IsShown c.args.stored.now (made_of c.args.stored.now c.args.parts.now.symbol c.args.content) s.content) (sym (c.graphic_box.ensures c.args.sheets.now c.args.stored.now)) tt

pub returns-in-Ring-clause-value : goal.returns-in-Ring-clause-value
returns-in-Ring-clause-value g c =
    let sheets = c.args.sheets.now in
    let stored = c.args.stored.now in
    ap (λ (s : SizedContent). Ok s) (c.ring.ensures sheets stored)
    ∙ sym (ap (λ (o : OpenContent). sized_if sheets stored (content_of stored c.args.settings.now c.args.parts.now o)) c.in-Ring.is)

pub returns-in-Ring-clause-shown : goal.returns-in-Ring-clause-shown
returns-in-Ring-clause-shown g c =
    subst (λ (s : SizedContent). IsShown c.args.stored.now (made_of c.args.stored.now c.args.parts.now.symbol c.args.content) s.content) (sym (c.ring.ensures c.args.sheets.now c.args.stored.now)) tt

pub returns-in-Diagonal-clause-value : goal.returns-in-Diagonal-clause-value
returns-in-Diagonal-clause-value g c =
    let sheets = c.args.sheets.now in
    let stored = c.args.stored.now in
    ap (λ (s : SizedContent). Ok s) (c.diagonal.ensures sheets stored)
    ∙ sym (ap (λ (o : OpenContent). sized_if sheets stored (content_of stored c.args.settings.now c.args.parts.now o)) c.in-Diagonal.is)

pub returns-in-Diagonal-clause-shown : goal.returns-in-Diagonal-clause-shown
returns-in-Diagonal-clause-shown g c =
    subst (λ (s : SizedContent). IsShown c.args.stored.now (made_of c.args.stored.now c.args.parts.now.symbol c.args.content) s.content) (sym (c.diagonal.ensures c.args.sheets.now c.args.stored.now)) tt
