use Rattle.std.proofs.Common.{ℕ, ◌%◌, ◌++◌, List, [], ◌∷◌, length, ap, sym, ◌∙◌, arith, append_assoc, length-append}
use Rattle.vp_png.specs.Bits.{low_bits, bits_of}
use Rattle.vp_png.proofs.LowBits.{length_low, length_bits_of, low_joined, byte_more, byte_less, written}
use Rattle.vp_png.proofs.bits.Bits.push.Goals as goal

pub loop-count-init : goal.loop-count-init
loop-count-init c =
    let s = c.args.self.now in
    let w = written s.count c.args.n s.held c.args.value s.few c.requires.few s.within c.requires.value in
    record {
      few = omega arith;
      within = rw w.0 w.1;
      bits = rw w.0 (ap (λ (l : List ℕ). bits_of s.bytes.items ++ l) (low_joined s.count c.args.n s.held c.args.value s.within) ∙ sym (append_assoc (bits_of s.bytes.items) (low_bits s.count s.held) (low_bits c.args.n c.args.value)));
      room = omega (arith, c.requires.room, length-append (bits_of s.bytes.items) (low_bits s.count s.held), length_low s.count s.held, length_bits_of s.bytes.items);
    }

pub loop-count-preserved : goal.loop-count-preserved
loop-count-preserved c =
    let l = c.loop-count in
    record {
      few = omega arith;
      within = byte_less l.count l.held c.loop-count-test.true l.invariant.within;
      bits = rw c.push.ensures.items (byte_more l.self.bytes.items l.count l.held c.loop-count-test.true ∙ l.invariant.bits);
      room = rw c.push.ensures.items (omega (arith, length-append l.self.bytes.items (l.held % 256 ∷ []), l.invariant.room));
    }

pub returns-clause-room : goal.returns-clause-room
returns-clause-room c =
    let s = c.args.self.now in
    let l = c.loop-count in
    omega (
      arith,
      ap length l.invariant.bits,
      length-append (bits_of s.bytes.items ++ low_bits s.count s.held) (low_bits c.args.n c.args.value),
      length-append (bits_of l.self.bytes.items) (low_bits l.count l.held),
      length_low c.args.n c.args.value,
    )
