-- The next number that passes a test, as a walk goes on.
use Rattle.std.proofs.Common.{◌≡◌, ◌≢◌, ℕ, ◌+◌, ◌<◌, ◌≤◌, Bool, true, false, List, length, Option, None, Some, ap, sym, ◌∙◌, arith, inl, inr, get_or-set_same, get_or-set_other}
use Rattle.std.specs.Option.{ForSome}
use Rattle.std.proofs.lemmas.Bool.{cases_lt, both_ways}
use Rattle.std.proofs.lemmas.Bool.Decides.{nat_tests}
use Rattle.vp_fields_by_band.specs.declared.table.Entry.{Entry}
use Rattle.vp_fields_by_band.specs.declared.walk.Walk.{Walk}
use Rattle.vp_fields_by_band.specs.Threads.{entry_at, begins_at, carried_at, meets_at, begins_in, is_carried, meets, IsNext, IsLast, IsTable, IsWalk, link_at, linked, ended, first_kept, IsThreaded}

begun : (e : Entry) (b : ℕ) → meets b e ≡ true → is_carried b e ≡ false → begins_in b e ≡ true
begun e b h g = grind (arith, nat_tests)

-- what is next after n, where n is not, and nothing is before it
pub next_past : (P : ℕ → Bool) (from to n : ℕ) (o : Option ℕ) → IsNext P from to o → ((k : ℕ) → from ≤ k → k < n → P k ≡ false) → (o ≡ Some n → ⊥) → from ≤ n → IsNext P (n + 1) to o
next_past P from to n o h gap ne le = grind arith

-- then n doesn't pass
pub not_next : (P : ℕ → Bool) (from to n : ℕ) (o : Option ℕ) → IsNext P from to o → ((k : ℕ) → from ≤ k → k < n → P k ≡ false) → (o ≡ Some n → ⊥) → from ≤ n → n < to → P n ≡ false
not_next P from to n o h gap ne le lt = grind arith

-- nothing more up to n + 1
pub next_wider : (P : ℕ → Bool) (from seen n : ℕ) (o : Option ℕ) → IsNext P from seen o → ((k : ℕ) → seen ≤ k → k < n → P k ≡ false) → P n ≡ false → seen ≤ n → IsNext P from (n + 1) o
next_wider P from seen n o h gap out le = grind arith

-- what a gap of the band means for the lists
pub gap_carried : (entries : List Entry) (b from n : ℕ) → ((k : ℕ) → from ≤ k → k < n → meets_at entries b k ≡ false) → (k : ℕ) → from ≤ k → k < n → carried_at entries b k ≡ false
gap_carried entries b from n gap k ge lt = grind arith

pub gap_kept : (entries : List Entry) (b from n : ℕ) → ((k : ℕ) → from ≤ k → k < n → meets_at entries b k ≡ false) → (k : ℕ) → from ≤ k → k < n → carried_at entries (b + 1) k ≡ false
gap_kept entries b from n gap k ge lt = grind arith

-- the heads after a field that was carried here
pub heads_carried : (entries : List Entry) (links : List (Option ℕ)) (b n : ℕ) (w : Walk) → IsWalk entries links b w → IsNext (meets_at entries b) w.seen (length entries) (Some n) → w.carried ≡ Some n →
    IsNext (carried_at entries b) (n + 1) (length entries) (link_at links n) × IsNext (begins_at entries b) (n + 1) (length entries) w.begins
heads_carried entries links b n w walk next is = grind arith

-- the heads after a field that begins here
pub heads_begun : (entries : List Entry) (links : List (Option ℕ)) (b n : ℕ) (w : Walk) → IsTable entries → IsWalk entries links b w → IsNext (meets_at entries b) w.seen (length entries) (Some n) → (w.carried ≡ Some n → ⊥) →
    IsNext (carried_at entries b) (n + 1) (length entries) w.carried × IsNext (begins_at entries b) (n + 1) (length entries) (entry_at entries n).next
heads_begun entries links b n w table walk next other =
    let gap = gap_carried entries b w.seen n next.3 in (
      next_past (carried_at entries b) w.seen (length entries) n w.carried walk.carried gap other next.0,
      table.begins b n next.1 (begun (entry_at entries n) b next.2 (not_next (carried_at entries b) w.seen (length entries) n w.carried walk.carried gap other next.0 next.1)),
    )

-- so one that passes is below `seen`
seen_before : (P : ℕ → Bool) (seen n k : ℕ) → ((j : ℕ) → seen ≤ j → j < n → P j ≡ false) → (k ≡ n → ⊥) → k < n + 1 → P k ≡ true → k < seen
seen_before P seen n k gap ne lt now = grind arith

last_wider : (P : ℕ → Bool) (seen n : ℕ) (o : Option ℕ) → IsLast P seen o → ((k : ℕ) → seen ≤ k → k < n → P k ≡ false) → P n ≡ false → seen ≤ n → IsLast P (n + 1) o
last_wider P seen n o h gap out le = grind arith

-- the last one is below `seen`
tail_below : (P : ℕ → Bool) (seen k : ℕ) (o : Option ℕ) → IsLast P seen o → seen ≤ k → o ≡ Some k → ⊥
tail_below P seen k o h le e = grind arith

linked_other : (links : List (Option ℕ)) (o : Option ℕ) (n k : ℕ) → (o ≡ Some k → ⊥) → link_at (linked links o n) k ≡ link_at links k
linked_other links o n k ne = grind (arith, get_or-set_other)

kept_next : (P : ℕ → Bool) (seen n : ℕ) (o : Option ℕ) → IsNext P 0 seen o → ((k : ℕ) → seen ≤ k → k < n → P k ≡ false) → P n ≡ true → seen ≤ n → IsNext P 0 (n + 1) (first_kept o n)
kept_next P seen n o h gap now le = grind arith

behind_kept : (P : ℕ → Bool) (links : List (Option ℕ)) (seen n k : ℕ) (o : Option ℕ) → IsLast P seen o → ForSome o (λ t. t < length links) → (Some k ≢ o → IsNext P (k + 1) seen (link_at links k)) → ((j : ℕ) → seen ≤ j → j < n → P j ≡ false) → P n ≡ true → seen ≤ n → k < seen → P k ≡ true →
    IsNext P (k + 1) (n + 1) (link_at (linked links o n) k)
behind_kept P links seen n k o last room h gap now le lt here = grind (arith, get_or-set_same, get_or-set_other)

-- the walk past a field that the next band doesn't need
pub walk_passed : (entries : List Entry) (links : List (Option ℕ)) (b n : ℕ) (w v : Walk) → IsWalk entries links b w → IsNext (meets_at entries b) w.seen (length entries) (Some n) → carried_at entries (b + 1) n ≡ false →
    v.seen ≡ n + 1 → (v.kept ≡ w.kept) × (v.tail ≡ w.tail) → IsNext (carried_at entries b) (n + 1) (length entries) v.carried × IsNext (begins_at entries b) (n + 1) (length entries) v.begins →
    IsWalk entries links b v
walk_passed entries links b n w v walk next out seen same heads =
    let gap = gap_kept entries b w.seen n next.3 in
    record {
      within = omega (arith, next.1);
      carried = rw seen heads.0;
      begins = rw seen heads.1;
      ahead = λ k ge lt now. walk.ahead k (omega (arith, next.0)) lt now;
      kept = rw (seen, same.0) (next_wider (carried_at entries (b + 1)) 0 w.seen n w.kept walk.kept gap out next.0);
      tail = rw (seen, same.1) (last_wider (carried_at entries (b + 1)) w.seen n w.tail walk.tail gap out next.0);
      behind = λ k lt now other.
          let below : k < n + 1 = omega arith in
          let before : k < w.seen = seen_before (carried_at entries (b + 1)) w.seen n k gap (λ e. both_ways (carried_at entries (b + 1) k) (ap (carried_at entries (b + 1)) e ∙ out) now) below now in
          rw seen (next_wider (carried_at entries (b + 1)) (k + 1) w.seen n (link_at links k) (walk.behind k before now (λ e. other (e ∙ sym same.1))) gap out next.0);
    }

-- the walk past a field that the next band carries on
pub walk_kept : (entries : List Entry) (links : List (Option ℕ)) (b n : ℕ) (w v : Walk) → IsWalk entries links b w → IsNext (meets_at entries b) w.seen (length entries) (Some n) → carried_at entries (b + 1) n ≡ true →
    ForSome w.tail (λ t. t < length links) → v.seen ≡ n + 1 → (v.kept ≡ w.kept) × (v.tail ≡ w.tail) → IsNext (carried_at entries b) (n + 1) (length entries) v.carried × IsNext (begins_at entries b) (n + 1) (length entries) v.begins →
    IsWalk entries (linked links w.tail n) b (record v { kept = first_kept w.kept n; tail = Some n })
walk_kept entries links b n w v walk next here room seen same heads =
    let gap = gap_kept entries b w.seen n next.3 in
    record {
      within = omega (arith, next.1);
      carried = rw seen heads.0;
      begins = rw seen heads.1;
      ahead = λ k ge lt now. rw (linked_other links w.tail n k (tail_below (carried_at entries (b + 1)) w.seen k w.tail walk.tail (omega (arith, next.0)))) (walk.ahead k (omega (arith, next.0)) lt now);
      kept = rw seen (kept_next (carried_at entries (b + 1)) w.seen n w.kept walk.kept gap here next.0);
      tail = (omega arith, here, λ k gt lt. absurd (omega arith));
      behind = λ k lt now other.
          let before : k < w.seen = seen_before (carried_at entries (b + 1)) w.seen n k gap (λ e. other (ap Some e)) (omega arith) now in
          rw seen (behind_kept (carried_at entries (b + 1)) links w.seen n k w.tail walk.tail room (walk.behind k before now) gap here next.0 before now);
    }

pub kept_here : (e : Entry) (b : ℕ) → meets b e ≡ true → b < e.last → is_carried (b + 1) e ≡ true
kept_here e b h lt = grind (arith, nat_tests)

pub ended_here : (e : Entry) (b : ℕ) → e.last ≤ b → is_carried (b + 1) e ≡ false
ended_here e b le = grind (arith, nat_tests)

-- up to the table's end
next_to : (P : ℕ → Bool) (from seen to : ℕ) (o : Option ℕ) → IsNext P from seen o → ((k : ℕ) → seen ≤ k → k < to → P k ≡ false) → seen ≤ to → IsNext P from to o
next_to P from seen to o h gap le = grind arith

-- the last field seen, a number in the table
pub tail_in : (entries : List Entry) (links : List (Option ℕ)) (b : ℕ) (w : Walk) → IsWalk entries links b w → length entries ≤ length links → ForSome w.tail (λ t. t < length links)
tail_in entries links b w walk room = grind arith

behind_ended : (P : ℕ → Bool) (links : List (Option ℕ)) (seen to k : ℕ) (o : Option ℕ) → IsLast P seen o → ForSome o (λ t. t < length links) → (Some k ≢ o → IsNext P (k + 1) seen (link_at links k)) → ((j : ℕ) → seen ≤ j → j < to → P j ≡ false) → seen ≤ to → k < seen → P k ≡ true →
    IsNext P (k + 1) to (link_at (ended links o) k)
behind_ended P links seen to k o last room h gap le lt here = grind (arith, get_or-set_same, get_or-set_other)

-- at the walk's end the next band's fields are threaded
pub walk_ended : (entries : List Entry) (links : List (Option ℕ)) (b : ℕ) (w : Walk) → IsWalk entries links b w → length entries ≤ length links → IsNext (meets_at entries b) w.seen (length entries) None → IsThreaded entries (ended links w.tail) (b + 1) w.kept
walk_ended entries links b w walk room none =
    let gap = gap_kept entries b w.seen (length entries) none in
    record {
      head = next_to (carried_at entries (b + 1)) 0 w.seen (length entries) w.kept walk.kept gap walk.within;
      rest = λ k lt now.
          let before : k < w.seen = elim (cases_lt k w.seen) [ inl below ↦ below | inr past ↦ absurd (both_ways (carried_at entries (b + 1) k) (gap k past lt) now) ] in
          behind_ended (carried_at entries (b + 1)) links w.seen (length entries) k w.tail walk.tail (tail_in entries links b w walk room) (walk.behind k before now) gap walk.within before now;
    }

-- at the walk's start
pub walk_started : (entries : List Entry) (links : List (Option ℕ)) (b : ℕ) (carried begins : Option ℕ) → IsThreaded entries links b carried → IsNext (begins_at entries b) 0 (length entries) begins →
    IsWalk entries links b (record { carried = carried; begins = begins; seen = 0; kept = None; tail = None })
walk_started entries links b carried begins threaded start = grind arith
