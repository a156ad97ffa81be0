use Rattle.std.proofs.Common.{◌≡◌, ℕ, List, [], ◌∷◌, ◌++◌, length, drop, ap, sym, ◌∙◌, arith}
use Rattle.std.proofs.lemmas.List.{drop_all}
use Rattle.vp_png.specs.File.{head, chunk, idat}
use Rattle.vp_png.proofs.Files.{room_in, chunk_file, chunk_packs}
use Rattle.vp_png.proofs.png.Png.make_room.Goals as goal

pub returns-then-len-le-FULL-clause-room : goal.returns-then-len-le-FULL-clause-room
returns-then-len-le-FULL-clause-room c =
    let s = c.args.self.now.packer.bits in
    omega (arith, room_in s.bytes.items s.count s.held, s.few, c.len.ensures.value)

pub returns-then-len-le-FULL-clause-waiting : goal.returns-then-len-le-FULL-clause-waiting
returns-then-len-le-FULL-clause-waiting c =
    let s = c.args.self.now.packer.bits in
    omega (arith, room_in s.bytes.items s.count s.held, s.few, c.len.ensures.value, ap length c.clear.ensures)

pub returns-clause-going : goal.returns-clause-going
returns-clause-going c = λ rows out h.
    let p = c.args.self.now in
    let s = p.packer.bits in
    let bytes = c.as_slice.result.now in
    let none : drop p.taken p.waiting.items ≡ [] = drop_all p.taken p.waiting.items c.requires in
    let waits : c.push_chunk.new.waiting.items ≡ [] ++ chunk idat s.bytes.items =
    c.push_chunk.ensures.items ∙ ap (λ (l : List ℕ). l ++ chunk idat c.as_slice.result.now) c.clear.ensures ∙ ap (λ (l : List ℕ). [] ++ chunk idat l) c.as_slice.ensures.value in
    record {
      parts = h.parts ++ s.bytes.items ∷ [];
      file = ap (λ (l : List ℕ). out ++ l) waits
          ∙ chunk_file out (head p.width p.height) [] s.bytes.items h.parts (ap (λ (l : List ℕ). out ++ l) (sym none) ∙ h.file);
      packed = record {
        packs = chunk_packs h.parts s.bytes.items c.clear-2.new.self.items s.count s.held _ _ _ c.clear-2.ensures h.packed.packs;
        front = h.packed.front;
        last = h.packed.last;
      };
      sums = h.sums;
      count = h.count;
      across = h.across;
    }

pub returns-clause-room : goal.returns-clause-room
returns-clause-room c =
    let s = c.args.self.now.packer.bits in
    omega (arith, room_in c.clear-2.new.self.items s.count s.held, s.few, ap length c.clear-2.ensures)

pub returns-clause-waiting : goal.returns-clause-waiting
returns-clause-waiting c =
    let s = c.args.self.now.packer.bits in
    omega (arith, room_in c.clear-2.new.self.items s.count s.held, s.few, ap length c.clear-2.ensures, ap length c.clear.ensures, c.push_chunk.ensures.count, c.as_slice.ensures)
