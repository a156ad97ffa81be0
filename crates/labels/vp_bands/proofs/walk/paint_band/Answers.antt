use Rattle.std.specs.Prelude.{slice_get, Some}
use Rattle.std.proofs.Common.{◌≡◌, ℕ, ◌+◌, [], ◌∷◌, length, map, ap, sym, ◌∙◌, refl, arith}
use Rattle.std.proofs.lemmas.List.{length-set, length-append, map-append}
use Rattle.std.proofs.lemmas.List.Sums.{length-filter}
use Rattle.std.proofs.lemmas.Option.{get_or_from_slice_get, slice_get_within}
use Rattle.vp_format.specs.Formats.{held, Closed}
use Rattle.vp_field.specs.Fields.{stroke_of}
use Rattle.vp_fields_by_band.specs.Threads.{entry_at}
use Rattle.vp_fields_by_band.proofs.Next.{walk_started, walk_ended}
use Rattle.vp_bands.specs.Meeting.{field_meets, field_shows, meeting}
use Rattle.vp_bands.specs.Standing.{met}
use Rattle.vp_bands.proofs.Painted.{NoneOf, met_before, met_image, passes_next, all_passed, few_passed}
use Rattle.vp_bands.proofs.Entries.{next_field, none_met}
use Rattle.vp_bands.proofs.Seen.{none_seen, seen_more, seen_took}
use Rattle.vp_bands.proofs.Work.{work_more}
use Rattle.vp_bands.proofs.Marked.{carried_here, marked_ahead, marked_behind, marked_all}
use Rattle.vp_bands.proofs.walk.paint_band.Given.{Over}
use Rattle.vp_bands.proofs.walk.paint_band.Goals as goal

closed_is : (a b : Closed) (n : ℕ) → a.items ≡ b.items → a.read ≡ n → a ≡ record b { read = n }
closed_is a b n same count = rw (← same, ← count) refl

-- no field behind those seen meets the band
none : (g : Over) (c : goal.After-close g) → NoneOf (field_meets c.args.sheets.now c.args.stored.now c.args.view c.args.b) c.args.fields.now.items c.loop-n.walk.seen (length c.args.fields.now.items)
none g c = rw c.requires.label.spanned.each at (none_met c.args.sheets.now (held c.args.fields.now c.args.stored.now) c.args.view c.args.threads.now.entries c.args.b _ _ c.requires.label.spanned (omega arith)
    (c.in_default.ensures c.args.threads.now.entries c.args.b _ (length c.args.threads.now.entries) c.loop-n.invariant.walk.carried c.loop-n.invariant.walk.begins))

-- so those that meet it are among the seen
all : (g : Over) (c : goal.After-close g) → met_before c.args.sheets.now (held c.args.fields.now c.args.stored.now) c.args.view c.args.b c.loop-n.walk.seen
    ≡ met c.args.sheets.now c.args.stored.now c.args.view c.args.b c.args.fields.now.items
all g c = all_passed _ _ _ (omega (arith, c.requires.label.spanned.each)) (none g c)

pub after-begins-requires-clause-within : goal.after-begins-requires-clause-within
after-begins-requires-clause-within g c = rw c.loop-n.invariant.stays.entries (c.in-Some.ensures c.args.threads.now.entries c.args.b _ _ c.loop-n.invariant.walk.carried c.loop-n.invariant.walk.begins).1

pub field-field-requires : goal.field-field-requires
field-field-requires g c = omega (arith, ap length c.loop-n.invariant.fields, (c.in-Some.ensures c.args.threads.now.entries c.args.b _ _ c.loop-n.invariant.walk.carried c.loop-n.invariant.walk.begins).1, c.requires.label.spanned.each)

pub of-requires : goal.of-requires
of-requires g c = omega (arith, (c.in-Some.ensures c.args.threads.now.entries c.args.b _ _ c.loop-n.invariant.walk.carried c.loop-n.invariant.walk.begins).1)

pub paint_met-work-requires-clause-kept : goal.paint_met-work-requires-clause-kept
paint_met-work-requires-clause-kept g c =
    let f = c.field-field.result.now in
    let fields = c.args.fields.now.items in
    let n = c.in-Some.n in
    let value : slice_get fields n ≡ Some f = rw c.loop-n.invariant.fields at c.field-field.ensures.value in
    rw (get_or_from_slice_get fields n f f value) at (c.requires.label.kept n f (slice_get_within fields n f value))

pub paint_met-work-requires-clause-marked : goal.paint_met-work-requires-clause-marked
paint_met-work-requires-clause-marked g c = λ before.
    let entries = c.args.threads.now.entries in
    let n = c.in-Some.n in
    let f = c.field-field.result.now in
    let next = c.in-Some.ensures entries c.args.b _ _ c.loop-n.invariant.walk.carried c.loop-n.invariant.walk.begins in
    let late = rw c.loop-n.invariant.stays.entries at (sym c.after-begins.ensures.begins ∙ before) in
    let value : slice_get c.args.fields.now.items n ≡ Some f = rw c.loop-n.invariant.fields at c.field-field.ensures.value in
    rw c.of.ensures.value (rw (get_or_from_slice_get c.args.fields.now.items n f f value)
    at (c.loop-n.invariant.ahead n f next.0 next.1 (carried_here (entry_at entries n) c.args.b next.2 late)))

pub loop-n-init : goal.loop-n-init
loop-n-init g c =
    let is = c.start-walk.ensures.walk in
    let look = c.start-walk.ensures.look in
    record {
      walk = rw (is, look) (walk_started _ _ _ _ _ c.requires.carried (c.requires.label.begins c.args.b));
      stays = rw look (record { entries = refl; heads = refl; links = refl; begun = refl });
      lengths = refl;
      shows = rw is c.clear.ensures;
      ahead = rw is c.requires.marked;
      behind = grind arith;
      at_least = grind arith;
      at_most = grind arith;
      fields = refl;
      read = grind arith;
      read_marks = grind arith;
      work = omega arith;
      shown = grind arith;
      countable = omega arith;
    }

pub loop-n-smaller : goal.loop-n-smaller
loop-n-smaller g c =
    let next = c.in-Some.ensures c.args.threads.now.entries c.args.b _ _ c.loop-n.invariant.walk.carried c.loop-n.invariant.walk.begins in
    omega (arith, next.0, next.1)

pub loop-n-preserved : goal.loop-n-preserved
loop-n-preserved g c =
    let entries = c.args.threads.now.entries in
    let sheets = c.args.sheets.now in
    let format = held c.args.fields.now c.args.stored.now in
    let view = c.args.view in
    let b = c.args.b in
    let n = c.in-Some.n in
    let w = c.loop-n.walk in
    let f = c.field-field.result.now in
    let after = c.after-begins.ensures in
    let done = c.loop-n.invariant in
    let next = c.in-Some.ensures entries b w.seen (length entries) done.walk.carried done.walk.begins in
    let value : slice_get format.fields n ≡ Some f = rw done.fields at c.field-field.ensures.value in
    let met_next = next_field sheets format view entries b w.seen n f c.requires.label.spanned next value in
    let meets = field_meets sheets format.stored view b in
    let more = passes_next meets format.fields w.seen n f met_next.from met_next.within met_next.none met_next.is met_next.meets in
    let count = ap length more ∙ length-append (met_before sheets format view b w.seen) (f ∷ []) in
    let new = c.paint_met-work.new.marks in
    record {
      walk = (rw done.stays.entries at after.walk) c.requires.label.table done.walk next;
      stays = record { entries = after.stays.entries ∙ done.stays.entries; heads = after.stays.heads ∙ done.stays.heads; links = after.stays.links ∙ done.stays.links; begun = after.stays.begun ∙ done.stays.begun };
      lengths = length-set _ _ _ ∙ done.lengths;
      shows = grind (arith, map-append, more);
      ahead = rw after.seen (marked_ahead format entries c.loop-n.marks.items b w.seen n new next.0 done.ahead);
      behind = rw after.seen (marked_behind format entries c.loop-n.marks.items b w.seen n new (omega arith) next
          (λ d. rw (get_or_from_slice_get format.fields n f d value) c.paint_met-work.ensures.marked) done.behind);
      at_least = grind (arith, count);
      at_most = grind (arith, count);
      fields = rw c.field-field.follows.holds-at-none done.fields;
      read = grind (arith, count);
      read_marks = grind (arith, count);
      work = grind (arith, work_more meets format.fields w.seen n f met_next.from met_next.within met_next.none met_next.is met_next.meets);
      shown = rw after.seen (omega (
        arith,
        seen_more sheets format.stored view b w.seen n c.paint_met-work.result format.fields f met_next.from met_next.within met_next.none met_next.is
            (seen_took sheets format.stored view b c.paint_met-work.result f c.paint_met-work.ensures.counted),
      ));
      countable = grind (arith, count);
    }

pub returns-clause-dots : goal.returns-clause-dots
returns-clause-dots g c = λ x k across low high.
    let format = held c.args.fields.now c.args.stored.now in
    c.cut.ensures (map (stroke_of c.args.sheets.now format.stored) (met c.args.sheets.now format.stored c.args.view c.args.b format.fields))
    (rw (← all g c) c.loop-n.invariant.shows) x k across low high
    ∙ met_image c.args.sheets.now format.stored c.args.view c.args.b format.fields x k low

pub returns-clause-carried : goal.returns-clause-carried
returns-clause-carried g c =
    rw (c.close.ensures.first, c.close.ensures.links) (walk_ended _ _ _ c.loop-n.walk c.loop-n.invariant.walk (omega arith)
    (c.in_default.ensures c.args.threads.now.entries c.args.b _ _ c.loop-n.invariant.walk.carried c.loop-n.invariant.walk.begins))

pub returns-clause-marked : goal.returns-clause-marked
returns-clause-marked g c = marked_all _ _ _ _ _ (c.in_default.ensures c.args.threads.now.entries c.args.b _ _ c.loop-n.invariant.walk.carried c.loop-n.invariant.walk.begins) c.loop-n.invariant.behind

pub returns-clause-at_least : goal.returns-clause-at_least
returns-clause-at_least g c = grind (arith, length-filter, all g c)

pub returns-clause-at_most : goal.returns-clause-at_most
returns-clause-at_most g c = grind (arith, length-filter, all g c)

pub returns-clause-work : goal.returns-clause-work
returns-clause-work g c = grind (arith, all g c)

pub returns-clause-shown : goal.returns-clause-shown
returns-clause-shown g c =
    let format = held c.args.fields.now c.args.stored.now in
    let shows = field_shows c.args.sheets.now format.stored c.args.view c.args.b in
    let none = none_seen _ _ _ _ _ _ format.fields (none g c) in
    omega (arith, ap length (all_passed shows format.fields c.loop-n.walk.seen (omega arith) none), length-filter shows format.fields)

pub overflow_add-work : goal.overflow_add-work
overflow_add-work g c = omega (arith, few_passed (field_meets c.args.sheets.now c.args.stored.now c.args.view c.args.b) c.args.fields.now.items c.loop-n.walk.seen (omega (arith, c.requires.label.spanned.each)))

pub returns-clause-countable : goal.returns-clause-countable
returns-clause-countable g c = omega (arith, few_passed (field_meets c.args.sheets.now c.args.stored.now c.args.view c.args.b) c.args.fields.now.items c.loop-n.walk.seen (omega (arith, c.requires.label.spanned.each)))

pub returns-clause-read : goal.returns-clause-read
returns-clause-read g c =
    let count : c.loop-n.fields.read ≡ c.args.fields.now.read + meeting c.args.sheets.now c.args.stored.now c.args.view c.args.fields.now.items c.args.b = grind (arith, length-filter, all g c) in
    closed_is c.loop-n.fields c.args.fields.now _ c.loop-n.invariant.fields count

pub returns-clause-read_marks : goal.returns-clause-read_marks
returns-clause-read_marks g c = grind (arith, length-filter, all g c)
