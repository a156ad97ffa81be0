use Rattle.std.proofs.Common.{ℕ, ◌+◌, ◌-◌, ◌%◌, List, [], ◌∷◌, ◌++◌, sum, take, ap, sym, ◌∙◌, arith}
use Rattle.std.proofs.lemmas.List.{take_all}
use Rattle.vp_png.specs.Zlib.{sums_after}
use Rattle.vp_png.specs.File.{scanline}
use Rattle.vp_png.specs.Kept.{shown}
use Rattle.vp_png.proofs.AdlerSums.{sum_next, sums_more, shown_more, sums_behind}
use Rattle.vp_png.proofs.sums.Sums.take.Goals as goal

pub loop-byte-init : goal.loop-byte-init
unfolding sums_after
loop-byte-init c = record {
  first = omega arith;
  second = omega arith;
  few = omega arith;
  room = omega (arith, c.args.self.now.within);
}

pub loop-byte-preserved : goal.loop-byte-preserved
loop-byte-preserved c =
    let l = c.loop-byte in
    let row = c.args.row.now in
    let s = c.args.self.now in
    let more = shown_more row l.byte-index (omega arith) in
    let w = sums_more s.first (shown (take l.byte-index row)) (255 - c.from.result) in
    let at = ap (λ (n : ℕ). shown (take l.byte-index row) ++ (255 - n) ∷ []) (sym c.from.ensures) in
    record {
      first = omega (arith, l.invariant.first, w.0, ap sum (more ∙ at));
      second = omega (arith, l.invariant.first, l.invariant.second, w.1, ap (λ (xs : List ℕ). sums_after s.first (0 ∷ xs)) (more ∙ at));
      few = omega arith;
      room = omega (arith, s.within, l.invariant.few, l.invariant.room, c.requires);
    }

pub returns : goal.returns
returns c = λ before h.
    let l = c.loop-byte in
    let row = c.args.row.now in
    let all = take_all l.byte-index row (omega arith) in
    let w = sums_behind c.args.self.now before (scanline row) h in
    record {
      first = omega (arith, w.0, l.invariant.first, ap (λ (xs : List ℕ). sum (shown xs)) all, sum_next 0 (shown row));
      second = ap (λ (n : ℕ). n % 65521) (l.invariant.second ∙ ap (λ (xs : List ℕ). c.args.self.now.second + sums_after c.args.self.now.first (0 ∷ shown xs)) all) ∙ w.1;
    }
