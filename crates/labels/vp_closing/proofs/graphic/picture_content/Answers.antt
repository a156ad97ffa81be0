use Rattle.std.proofs.Common.{◌≡◌, false, Ok, ap, sym, subst, ◌∙◌}
use Rattle.vp_format.specs.declared.field.Picture.{Picture}
use Rattle.vp_format.specs.declared.field.Content.TheVariants as contents
use Rattle.vp_field.specs.Contents.{picture_of, IsPicture, IsStored}
use Rattle.vp_field.specs.Sizes.{sized}
use Rattle.vp_field.specs.declared.sized.SizedContent.{SizedContent}
use Rattle.vp_closing.specs.Contents.{sized_if}
use Rattle.vp_closing.specs.Graphics.{has_refused, picture_unless, picture_with}
use Rattle.vp_closing.proofs.Graphics.{picture_stored}
use Rattle.vp_closing.proofs.Stored.{no_sheets}
use Rattle.vp_closing.proofs.graphic.picture_content.Goals as goal

pub returns-clause-value : goal.returns-clause-value
returns-clause-value c = λ sheets.
    let stored = c.args.stored.now in
    let picture = picture_with c.args.head c.args.codes in
    let same = c.headed-picture.ensures in
    let none : has_refused (picture_of stored picture) ≡ false = ap (λ (p : Picture). has_refused (picture_of stored p)) (sym same) ∙ c.in_ok-read.ensures in
    ap (λ (s : SizedContent). Ok s) (c.picture.ensures sheets stored ∙ ap (λ (p : Picture). sized sheets stored (contents.Picture p)) same)
    ∙ sym (ap (λ b. sized_if sheets stored (picture_unless b picture)) none)

pub returns-clause-stored : goal.returns-clause-stored
returns-clause-stored c =
    let stored = c.args.stored.now in
    let same = c.headed-picture.ensures in
    subst (λ (s : SizedContent). IsStored stored s.content) (sym (c.picture.ensures no_sheets stored))
    (subst (λ (p : Picture). IsPicture stored p) (sym same)
    (picture_stored stored c.args.head c.args.codes c.requires.picture c.requires.among c.requires.few
    (ap (λ (p : Picture). has_refused (picture_of stored p)) (sym same) ∙ c.in_ok-read.ensures)))
