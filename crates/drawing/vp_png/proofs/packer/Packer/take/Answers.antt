use Rattle.std.proofs.Common.{ℕ, ◌<◌, List, ◌++◌, length, ap, sym, ◌∙◌, arith}
use Rattle.vp_png.specs.declared.lines.Lines.{Lines}
use Rattle.vp_png.specs.Kept.{bits_in, shown}
use Rattle.vp_png.proofs.LineCopies.{next_packed, line_packed}
use Rattle.vp_png.proofs.packer.Packer.take.Goals as goal

pub loop-at-init : goal.loop-at-init
loop-at-init c =
    let s = c.args.self.now in
    let mid = c.next.new.self in
    let lines = c.resume-at.ensures.lines in
    let long = ap (λ (l : Lines). length l.line.items) lines in
    record {
      packs = λ gone before front h e. c.resume-at.ensures.packs gone front (next_packed (gone ++ bits_in s.bits) s.running before front s.lines mid c.next.ensures.above
          (λ (some : 0 < length s.lines.line.items). c.requires.alike some ∙ sym (ap length c.next.ensures.line)) e h.packs);
      above = ap (λ (l : Lines). l.above.items) lines ∙ c.next.ensures.above;
      line = ap (λ (l : Lines). l.line.items) lines ∙ c.next.ensures.line;
      within = omega (arith, long, c.resume-at.ensures.within);
      running = λ less. c.resume-at.ensures.running (omega (arith, long, less));
      room = omega (arith, c.resume-at.ensures.room);
    }

pub returns-clause-packed : goal.returns-clause-packed
returns-clause-packed c = λ gone before h.
    let s = c.loop-at.self in
    let i = c.loop-at.invariant in
    record {
      packs = line_packed (gone ++ bits_in s.bits) s.running c.loop-at.at before h.front c.args.row.now c.args.self.now.lines.line.items s.lines i.above i.line
          (omega (arith, c.len.ensures.value)) h.last (i.packs gone before h.front h h.last);
      front = before;
      last = ap (λ (l : List ℕ). before ++ shown l) (sym i.line);
    }
