use Rattle.std.proofs.Common.{◌≡◌, ℕ, ◌+◌, ◌-◌, List, ◌++◌, length, take, get_or, ap, sym, ◌∙◌, arith, subst}
use Rattle.vp_png.specs.declared.token.Token.TheVariants.{Literal, Match}
use Rattle.vp_png.specs.Codes.{symbol_bits}
use Rattle.vp_png.specs.Tokens.{copied}
use Rattle.vp_png.specs.Kept.{bits_in, shown, Packs}
use Rattle.vp_png.proofs.Packing.{token_written, packs_begun}
use Rattle.vp_png.proofs.LineCopies.{copy_shown, one_shown, length_before}
use Rattle.vp_png.proofs.packer.Packer.put_next.Goals as goal

pub returns-then-copy-lt3-clause-packs : goal.returns-then-copy-lt3-clause-packs
returns-then-copy-lt3-clause-packs c = λ gone before h.
    let s = c.args.self.now in
    let line = s.lines.line.items in
    let stride = length line in
    let new = gone ++ bits_in c.put_token.new.bits in
    let all = before ++ shown s.lines.above.items ++ shown (take c.args.at line) in
    let byte = 255 - get_or line c.args.at 0 in
    let h0 = subst (λ (r : ℕ). Packs (gone ++ bits_in s.bits) stride r all) c.requires.running h in
    let done = token_written gone (bits_in s.bits) (bits_in c.put_token.new.bits) stride all (Literal byte)
    (c.put_token.ensures.bits ∙ ap (λ (l : List ℕ). bits_in s.bits ++ symbol_bits (255 - get_or l c.args.at 0)) c.as_slice.ensures.value) h0 (omega arith) in
    subst (λ (r : ℕ). Packs new stride r (before ++ shown s.lines.above.items ++ shown (take (c.args.at + 1) line))) (sym c.requires.running)
    (subst (λ (l : List ℕ). Packs new stride 0 l) (one_shown before s.lines.above.items line c.args.at c.requires.at) done)

pub returns-then-end-stride-clause-packs : goal.returns-then-end-stride-clause-packs
returns-then-end-stride-clause-packs c = λ gone before h.
    let s = c.args.self.now in
    let line = s.lines.line.items in
    let above = s.lines.above.items in
    let stride = length line in
    let copy = c.copy-copy.result in
    let all = before ++ shown above ++ shown (take c.args.at line) in
    let h0 = subst (λ (r : ℕ). Packs (gone ++ bits_in s.bits) stride r all) c.requires.running h in
    let same : copy.distance ≡ stride = omega arith in
    let begun = packs_begun (gone ++ bits_in s.bits) stride copy.long all h0 (omega arith) (omega arith) (omega arith)
    (omega (arith, same, length_before before above line c.args.at (omega arith), c.copy-copy.ensures.copy.reach (omega arith))) in
    subst (λ (l : List ℕ). Packs (gone ++ bits_in s.bits) stride copy.long l)
    (ap (λ (d : ℕ). copied copy.long d all) (sym same) ∙ copy_shown before above line c.args.at copy.distance copy.long c.copy-copy.ensures.copy) begun

pub returns-clause-packs : goal.returns-clause-packs
returns-clause-packs c = λ gone before h.
    let s = c.args.self.now in
    let line = s.lines.line.items in
    let above = s.lines.above.items in
    let stride = length line in
    let copy = c.copy-copy.result in
    let new = gone ++ bits_in c.put_token-2.new.bits in
    let all = before ++ shown above ++ shown (take c.args.at line) in
    let h0 = subst (λ (r : ℕ). Packs (gone ++ bits_in s.bits) stride r all) c.requires.running h in
    let held = c.copy-copy.ensures.copy in
    let done = token_written gone (bits_in s.bits) (bits_in c.put_token-2.new.bits) stride all (Match copy.distance copy.long) c.put_token-2.ensures.bits h0
    (held.back (omega arith), omega (arith, length_before before above line c.args.at (omega arith), held.reach (omega arith)), omega (arith, c.copy-copy.ensures.near), omega arith, omega (arith, held.within)) in
    subst (λ (r : ℕ). Packs new stride r (before ++ shown above ++ shown (take (c.args.at + copy.long) line))) (sym c.requires.running)
    (subst (λ (l : List ℕ). Packs new stride 0 l) (copy_shown before above line c.args.at copy.distance copy.long held) done)
