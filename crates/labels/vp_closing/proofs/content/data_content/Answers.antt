use Rattle.std.proofs.Common.{subst, sym}
use Rattle.vp_format.specs.declared.field.Text.{Text}
use Rattle.vp_field.specs.Contents.{IsStored}
use Rattle.vp_field.specs.declared.sized.SizedContent.{SizedContent}
use Rattle.vp_closing.specs.Contents.{made_with}
use Rattle.vp_closing.specs.Texts.{text_content}
use Rattle.vp_closing.proofs.Kept.{shown}
use Rattle.vp_closing.proofs.Stored.{text_stored}
use Rattle.vp_closing.proofs.content.data_content.Goals as goal

pub returns-in-None-clause-shown : goal.returns-in-None-clause-shown
returns-in-None-clause-shown g c =
    let stored = c.args.stored.now in
    let block = c.args.parts.now.block in
    shown stored (made_with stored c.args.bytes c.args.parts.now.symbol) c.text_content.result.content (subst (λ (s : SizedContent). IsStored stored s.content) (sym c.text_content.ensures)
    (subst (λ (t : Text). IsStored stored (text_content t block)) (sym c.text_of-text.ensures)
    (text_stored stored c.text_size.result c.args.bytes block c.text_size.ensures.fits c.requires.block c.requires.among c.requires.few)))
