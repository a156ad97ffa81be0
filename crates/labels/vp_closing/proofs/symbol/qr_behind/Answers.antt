use Rattle.std.proofs.Common.{◌≡◌, ◌<◌, ◌≤◌, ℕ, List, None, Ok, ap, sym, subst, ◌∙◌, arith}
use Rattle.vp_format.specs.declared.field.Content.TheVariants as contents
use Rattle.vp_format.specs.declared.field.QrSymbol.{QrSymbol}
use Rattle.vp_format.specs.declared.field.Span.{Span}
use Rattle.vp_qr.specs.Encoding.{refusal, version_of, mask_of, Encodes, QrSymbol as Symbol}
use Rattle.vp_qr_field.specs.declared.front.QrFront.{QrFront}
use Rattle.vp_field.specs.Contents.{bytes_of, IsStored, IsSymbol, LiesIn}
use Rattle.vp_field.specs.Sizes.{sized}
use Rattle.vp_field.specs.declared.sized.SizedContent.{SizedContent}
use Rattle.vp_closing.specs.Contents.{sized_if}
use Rattle.vp_closing.specs.Symbols.{qr_symbol, qr_unless}
use Rattle.vp_closing.proofs.Masks.{mask_of-small}
use Rattle.vp_closing.proofs.Stored.{no_sheets}
use Rattle.vp_closing.proofs.symbol.qr_behind.Goals as goal

abbrev symbol : ℕ → QrFront → Span → ℕ → ℕ → QrSymbol
symbol dots front bytes version mask =
    record { bytes = bytes; level = front.level; mode = front.mode; «module» = dots; version = version; mask = mask }

-- a symbol that keeps the version and the mask of its bytes
is_symbol : (stored : List ℕ) (dots version mask : ℕ) (front : QrFront) (bytes : Span) (read : List ℕ) (qr : Symbol) → LiesIn stored bytes → 0 < dots → dots ≤ 10 → read ≡ bytes_of stored bytes
    → refusal front.level front.mode read ≡ None → Encodes front.level front.mode read qr → version ≡ qr.version → mask ≡ qr.mask → IsSymbol stored (symbol dots front bytes version mask)
is_symbol stored dots version mask front bytes read qr lies some most is none e v m = record {
  bytes = lies;
  some = some;
  most = omega (arith, most);
  accepted = rw is at none;
  version = v ∙ e.version_is ∙ ap (version_of front.level front.mode) is;
  mask = m ∙ e.mask_is ∙ ap (mask_of front.level front.mode) is;
}

pub overflow_cast-mask : goal.overflow_cast-mask
overflow_cast-mask c =
    let small = mask_of-small c.args.front.level c.args.front.mode c.bytes_of.result.now in
    omega (arith, small, c.mask.ensures, c.in_ok-qr.ensures.symbol.mask_is)

pub returns-clause-value : goal.returns-clause-value
returns-clause-value c = λ sheets.
    let a = c.args in
    let stored = a.stored.now in
    let e = c.in_ok-qr.ensures in
    let kept = is_symbol stored a.dots c.version.result c.mask.result a.front a.bytes c.bytes_of.result.now _ c.requires.bytes c.requires.some c.requires.most c.bytes_of.ensures e.accepted e.symbol c.version.ensures.version c.mask.ensures in
    let full : c.qr.result ≡ sized sheets stored (contents.Qr (qr_symbol stored a.dots a.front a.bytes)) = rw (kept.version, kept.mask) at (c.qr.ensures sheets stored kept) in
    ap (λ (s : SizedContent). Ok s) full ∙ sym (ap (λ r. sized_if sheets stored (qr_unless r (qr_symbol stored a.dots a.front a.bytes))) kept.accepted)

pub returns-clause-stored : goal.returns-clause-stored
returns-clause-stored c =
    let a = c.args in
    let stored = a.stored.now in
    let e = c.in_ok-qr.ensures in
    let kept = is_symbol stored a.dots c.version.result c.mask.result a.front a.bytes c.bytes_of.result.now _ c.requires.bytes c.requires.some c.requires.most c.bytes_of.ensures e.accepted e.symbol c.version.ensures.version c.mask.ensures in
    subst (λ (s : SizedContent). IsStored stored s.content) (sym (c.qr.ensures no_sheets stored kept)) kept
