use Rattle.std.proofs.Common.{◌<◌, ◌≤◌, ap, subst}
use Rattle.vp_fields_by_band.specs.declared.table.Entry.{Entry}
use Rattle.vp_fields_by_band.specs.Threads.{entry_at}
use Rattle.vp_fields_by_band.proofs.Next.{walk_passed, walk_kept, kept_here, ended_here}
use Rattle.vp_fields_by_band.proofs.walk.Walk.after.Goals as goal

pub returns-then-last-b-clause-walk : goal.returns-then-last-b-clause-walk
returns-then-last-b-clause-walk g c = λ table walk next.
    let entries = c.args.threads.now.entries in
    let b = c.args.b in
    let n = c.args.n in
    let w = c.args.self in
    let v = c.passed-passed.result in
    let is = c.entry-entry.ensures.value in
    let long : b < (entry_at entries n).last = subst (λ (e : Entry). b < e.last) is c.if-last-b.true in
    let passed = c.passed-passed.ensures in
    let heads = passed.heads entries b table (rw c.entry-entry.follows.holds-at-none walk) next (ap (λ (e : Entry). e.next) is) in
    let kept = walk_kept entries c.args.threads.now.links b n w v walk next (kept_here (entry_at entries n) b next.2 long) c.requires.tail passed.seen passed.kept heads in
    rw (c.keep.ensures.walk, c.keep.ensures.links, passed.stays, passed.kept.0, passed.kept.1, c.entry-entry.follows.holds-at-none) kept

pub returns-else-last-b-clause-walk : goal.returns-else-last-b-clause-walk
returns-else-last-b-clause-walk g c = λ table walk next.
    let entries = c.args.threads.now.entries in
    let b = c.args.b in
    let n = c.args.n in
    let is = c.entry-entry.ensures.value in
    let short : (entry_at entries n).last ≤ b = subst (λ (e : Entry). e.last ≤ b) is c.if-last-b.false in
    let passed = c.passed-passed.ensures in
    let heads = passed.heads entries b table (rw c.entry-entry.follows.holds-at-none walk) next (ap (λ (e : Entry). e.next) is) in
    rw (passed.stays, c.entry-entry.follows.holds-at-none) (walk_passed entries c.args.threads.now.links b n c.args.self c.passed-passed.result walk next (ended_here (entry_at entries n) b short) passed.seen passed.kept heads)
