use Rattle.std.proofs.Common.{ℕ, List, [], ◌∷◌, ◌++◌, length, ap, sym, ◌∙◌, arith, subst}
use Rattle.vp_png.specs.Zlib.{IsZlib}
use Rattle.vp_png.specs.File.{head, chunk, idat, iend, joined, scanlines}
use Rattle.vp_png.proofs.LowBits.{long_in}
use Rattle.vp_png.proofs.Files.{end_file, joined_more}
use Rattle.vp_png.proofs.png.Png.end.Goals as goal

pub push_chunk-requires : goal.push_chunk-requires
push_chunk-requires c = omega (arith, c.requires.waiting, c.finish.ensures.room, long_in c.finish.new.self.bits, ap length c.as_slice.ensures.value)

pub push_chunk-requires-2 : goal.push_chunk-requires-2
push_chunk-requires-2 c = omega (arith, c.requires.waiting, c.finish.ensures.room, long_in c.finish.new.self.bits, ap length c.as_slice.ensures.value, c.push_chunk.ensures.count)

pub returns-clause-ended : goal.returns-clause-ended
returns-clause-ended c = λ rows out h.
    let p = c.args.self.now in
    let bytes = c.finish.new.self.bits.bytes.items in
    record {
      parts = h.parts ++ bytes ∷ [];
      chunks = end_file out (head p.width p.height) p.waiting.items bytes c.push_chunk.new.waiting.items c.push_chunk-2.new.waiting.items (chunk iend []) h.parts p.taken
          h.file p.handed (c.push_chunk.ensures.items ∙ ap (λ (l : List ℕ). p.waiting.items ++ chunk idat l) c.as_slice.ensures.value) c.push_chunk-2.ensures.items;
      packed = subst (λ (l : List ℕ). IsZlib l (scanlines rows)) (sym (joined_more h.parts bytes))
          (c.finish.ensures.packed (joined h.parts) (scanlines rows) h.packed (c.check.ensures (scanlines rows) h.sums));
      all = omega (arith, h.count, c.requires.left);
      across = h.across;
    }
