use Rattle.std.proofs.Common.{◌≡◌, ℕ, ◌<◌, List, refl, ap, ◌∙◌, subst}
use Rattle.vp_qr.specs.Segments.{message}
use Rattle.vp_qr.specs.Strings.{padded}
use Rattle.vp_qr.specs.Blocks.{capacity}
use Rattle.vp_qr.specs.Places.{size}
use Rattle.vp_qr.specs.Walk.{dark}
use Rattle.vp_qr.specs.Encoding.{best_mask, masked, mask_of}
use Rattle.vp_qr.specs.Grids.{IsGridOf}
use Rattle.vp_qr.proofs.Encodings.{encodes, same_mask}
use Rattle.vp_qr.proofs.qr.encode.Goals as goal

pub returns-clause-symbol : goal.returns-clause-symbol
returns-clause-symbol c =
    let v : ℕ = c.in-Some.version in
    let words : List ℕ = padded (capacity c.args.level v) (message c.kind-kind.result v c.args.src.now) in
    let items : List ℕ = c.codewords_in-codewords.result.items in
    let of : IsGridOf items c.of-grid.result = subst (λ l. IsGridOf l c.of-grid.result) c.as_slice.ensures.value c.of-grid.ensures.grid in
    let chosen : c.best_mask-mask.result ≡ mask_of c.args.level c.args.mode c.args.src.now =
    c.best_mask-mask.ensures.mask items of ∙ ap (λ n. best_mask c.args.level n items) c.of-grid.ensures.version
    ∙ same_mask c.args.level c.args.mode c.args.src.now c.kind-kind.result v words items
    c.kind-kind.ensures c.in-Some.ensures.version refl c.codewords_in-codewords.ensures.codewords in
    encodes c.args.level c.args.mode c.args.src.now c.kind-kind.result v words items
    c.kind-kind.ensures c.in-Some.ensures.version refl c.codewords_in-codewords.ensures.codewords
    c.best_mask-mask.result chosen c.finished.result (c.finished.ensures.version ∙ c.of-grid.ensures.version) c.finished.ensures.codewords c.finished.ensures.mask
    (subst (λ n. (i j : ℕ) → i < size n → j < size n → dark c.finished.result.rows i j ≡ masked c.args.level n items c.best_mask-mask.result i j) c.of-grid.ensures.version c.finished.ensures.modules)
