use Rattle.std.proofs.Common.{◌≡◌, ℕ, ◌-◌, ◌<◌, ◌≤◌, List, length, slice_index_or, ap, sym, ◌+◌, ◌∙◌, None, Some, arith, length-set}
use Rattle.std.proofs.lemmas.List.{get_or_default}
use Rattle.vp_fields_by_band.specs.declared.table.Entry.{Entry}
use Rattle.vp_fields_by_band.specs.Threads.{no_entry, entry_at, link_at, IsPlaced, KeepsSpans}
use Rattle.vp_fields_by_band.proofs.Building.{threaded_at, spans_at}
use Rattle.vp_fields_by_band.proofs.table.thread_all.Goals as goal

-- the entry read begins in one of the bands
inside : (old entries : List Entry) (k bands : ℕ) → ((j : ℕ) → j < length old → IsPlaced (entry_at old j) bands) → k < length entries → length entries ≡ length old → KeepsSpans old entries →
    let e = slice_index_or entries k (record { first = 0; last = 0; next = None }) in e.first ≤ e.last → e.first < bands
inside old entries k bands placed lt len same meets =
    let is = sym (get_or_default entries k no_entry (record { first = 0; last = 0; next = None }) lt) in
    omega (arith, placed k (omega arith), ap (λ (x : Entry). x.first) is ∙ (same k).0, ap (λ (x : Entry). x.last) is ∙ (same k).1)

pub bounds-heads-entry : goal.bounds-heads-entry
bounds-heads-entry c = omega (arith, inside c.args.entries.now c.loop-k.entries (c.loop-k.k - 1) (length c.args.heads.now) c.requires.placed (omega arith) c.loop-k.auto.entries c.loop-k.invariant.spans c.if-entry.true)

pub offset_bounds-heads-entry : goal.offset_bounds-heads-entry
offset_bounds-heads-entry c = omega (arith, inside c.args.entries.now c.loop-k.entries (c.loop-k.k - 1) (length c.args.heads.now) c.requires.placed (omega arith) c.loop-k.auto.entries c.loop-k.invariant.spans c.if-entry.true)

pub offset_bounds-heads-entry-then-entry : goal.offset_bounds-heads-entry-then-entry
offset_bounds-heads-entry-then-entry c = omega (arith, inside c.args.entries.now c.loop-k.entries (c.loop-k.k - 1) (length c.args.heads.now) c.requires.placed (omega arith) c.loop-k.auto.entries c.loop-k.invariant.spans c.if-entry.true)

pub loop-k-preserved-then-entry : goal.loop-k-preserved-then-entry
loop-k-preserved-then-entry c =
    let entries = c.loop-k.entries in
    let heads = c.loop-k.heads in
    let k = c.loop-k.k - 1 in
    let done = c.loop-k.invariant in
    let e = slice_index_or entries k (record { first = 0; last = 0; next = None }) in
    let lt : k < length entries = omega (arith, c.loop-k-test.true, done.within) in
    let is : entry_at entries k ≡ e = get_or_default entries k no_entry (record { first = 0; last = 0; next = None }) lt in
    let placed : e.first < length heads = omega (arith, inside c.args.entries.now entries k (length c.args.heads.now) c.requires.placed lt done.lengths.0 done.spans c.if-entry.true) in
    let next : k + 1 ≡ c.loop-k.k = omega (arith, c.loop-k-test.true) in
    record {
      within = omega (arith, lt, length-set entries k (record e { next = link_at heads e.first }));
      lengths = (length-set entries k (record e { next = link_at heads e.first }) ∙ done.lengths.0, length-set heads e.first (Some k) ∙ done.lengths.1);
      spans = spans_at c.args.entries.now entries k e (link_at heads e.first) lt is done.spans;
      table = threaded_at entries heads k e lt is placed c.if-entry.true (rw next done.table);
    }
