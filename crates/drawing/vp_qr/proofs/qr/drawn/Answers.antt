use Rattle.std.proofs.Common.{arith}
use Rattle.std.proofs.Common.{◌≡◌, ℕ, ◌<◌, Some, refl, sym, ap, ◌∙◌, subst}
use Rattle.vp_qr.specs.Segments.{message}
use Rattle.vp_qr.specs.Strings.{padded}
use Rattle.vp_qr.specs.Versions.{smallest}
use Rattle.vp_qr.specs.Blocks.{capacity}
use Rattle.vp_qr.specs.Places.{size}
use Rattle.vp_qr.specs.Walk.{dark}
use Rattle.vp_qr.specs.Encoding.{masked}
use Rattle.vp_qr.proofs.Encodings.{accepted_version, version_holds, encodes}
use Rattle.vp_qr.proofs.qr.drawn.Goals as goal

pub codewords_in-codewords-requires : goal.codewords_in-codewords-requires
codewords_in-codewords-requires c = grind (arith, version_holds)

pub of-grid-requires-clause-low : goal.of-grid-requires-clause-low
of-grid-requires-clause-low c = grind (arith, version_holds)

pub of-grid-requires-clause-high : goal.of-grid-requires-clause-high
of-grid-requires-clause-high c = grind (arith, version_holds)

pub returns : goal.returns
returns c =
    let found : Some c.args.version ≡ smallest c.args.level c.kind-kind.result c.args.src.now =
    ap (λ n. Some n) c.requires.version
    ∙ accepted_version c.args.level c.args.mode c.args.src.now c.requires.accepted
    ∙ ap (λ k. smallest c.args.level k c.args.src.now) (sym c.kind-kind.ensures) in
    encodes c.args.level c.args.mode c.args.src.now c.kind-kind.result c.args.version
    (padded (capacity c.args.level c.args.version) (message c.kind-kind.result c.args.version c.args.src.now))
    c.codewords_in-codewords.result.items
    c.kind-kind.ensures found refl c.codewords_in-codewords.ensures.codewords
    c.args.mask c.requires.mask c.finished.result (c.finished.ensures.version ∙ c.of-grid.ensures.version) c.finished.ensures.codewords c.finished.ensures.mask
    (subst (λ n. (i j : ℕ) → i < size n → j < size n → dark c.finished.result.rows i j ≡ masked c.args.level n c.codewords_in-codewords.result.items c.args.mask i j) c.of-grid.ensures.version c.finished.ensures.modules)
