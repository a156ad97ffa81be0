use Rattle.std.proofs.Common.{◌∙◌, ℕ, List, [], ◌∷◌, sym, arith, subst, length-append}
use Rattle.vp_png.specs.Bits.{bits_of}
use Rattle.vp_png.specs.File.{joined, scanlines}
use Rattle.vp_png.specs.Kept.{AreSums, HasPacked}
use Rattle.vp_png.proofs.Files.{scanlines_more, across_more}
use Rattle.vp_png.proofs.png.Png.pack.Goals as goal

pub returns-clause-going : goal.returns-clause-going
returns-clause-going c = λ rows out h.
    let p = c.args.self.now in
    let row = c.args.row.now in
    let more = sym (scanlines_more rows row) in
    record {
      parts = h.parts;
      file = h.file;
      packed = subst (λ (l : List ℕ). HasPacked c.take-2.new.self (bits_of (joined h.parts)) l) more (c.take-2.ensures.packed (bits_of (joined h.parts)) (scanlines rows) h.packed);
      sums = subst (λ (l : List ℕ). AreSums c.take.new.self l) more (c.take.ensures (scanlines rows) h.sums);
      count = omega (arith, h.count, c.requires.left, length-append rows (row ∷ []));
      across = across_more p.width rows row h.across (c.requires.across ∙ p.across);
    }
