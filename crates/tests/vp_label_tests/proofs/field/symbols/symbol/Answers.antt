use Rattle.std.proofs.Common.{◌≡◌, arith, None, refl, subst, sym}
use Rattle.std.proofs.lemmas.Int.{ints}
use Rattle.vp_zpl.specs.declared.item.Orientation.TheVariants.{Rotated}
use Rattle.vp_format.specs.declared.field.Content.TheVariants as contents
use Rattle.vp_glyph.specs.Sheets.{Sheets}
use Rattle.vp_field.specs.Contents.{content_width, content_height, orientation_of, IsStored}
use Rattle.vp_field.specs.Sizes.{sized}
use Rattle.vp_field.specs.Turning.{turned_height}
use Rattle.vp_field.specs.declared.sized.SizedContent.{SizedContent}
use Rattle.vp_label_tests.proofs.field.symbols.symbol.Goals as goal

pub returns : goal.returns
returns c =
    let stored = c.args.stored.now in
    let symbol = c.in_ok-modules_of.field-0 in
    let kept = c.in_ok-modules_of.ensures in
    let is : (sheets : Sheets) → c.qr-shown.result ≡ sized sheets stored (contents.Qr symbol) =
    λ sheets. c.qr-shown.ensures sheets stored kept in
    record {
      near = record {
        left_low = omega (arith, ints);
        left_high = omega (arith, ints);
        top_low = omega (arith, ints);
        top_high = omega (arith, ints);
      };
      content = subst (λ (s : SizedContent). IsStored stored s.content) (sym (is (record { a = None; b = None }))) kept;
      rows = λ sheets. subst (λ (s : SizedContent). s.height ≡ turned_height (orientation_of Rotated s.content)
          (content_width sheets stored s.content) (content_height sheets stored s.content)) (sym (is sheets)) refl;
    }
