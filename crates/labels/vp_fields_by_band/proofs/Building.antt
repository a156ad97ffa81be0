-- One more field is threaded, before those that stand after it.
use Rattle.std.proofs.Common.{◌≡◌, ℕ, ◌+◌, ◌<◌, ◌≤◌, Bool, true, false, List, length, set, Option, None, Some, ap, sym, subst, ◌∙◌, arith, inl, inr, get_or-set_same, get_or-set_other, length-set}
use Rattle.std.proofs.lemmas.Bool.{cases_eq}
use Rattle.std.proofs.lemmas.Bool.Decides.{nat_tests}
use Rattle.vp_fields_by_band.specs.declared.table.Entry.{Entry}
use Rattle.vp_fields_by_band.specs.Threads.{no_entry, entry_at, begins_in, begins_at, link_at, IsNext, KeepsSpans, ThreadedFrom}

-- a test that answers alike has the same next
next_same : (P Q : ℕ → Bool) (from to : ℕ) (o : Option ℕ) → ((j : ℕ) → Q j ≡ P j) → IsNext P from to o → IsNext Q from to o
next_same P Q from to o same h = grind arith

-- from one place earlier, where it fails
next_before : (P : ℕ → Bool) (k to : ℕ) (o : Option ℕ) → P k ≡ false → IsNext P (k + 1) to o → IsNext P k to o
next_before P k to o out h = grind arith

begun_at : (e : Entry) (b : ℕ) → begins_in b e ≡ true → b ≡ e.first
begun_at e b h = grind (arith, nat_tests)

begun_now : (e : Entry) → e.first ≤ e.last → begins_in e.first e ≡ true
begun_now e h = grind (arith, nat_tests)

not_begun_at : (e : Entry) (b : ℕ) → (b ≡ e.first → ⊥) → begins_in b e ≡ false
not_begun_at e b h = grind (arith, nat_tests)

same_begins : (entries : List Entry) (k : ℕ) (next : Option ℕ) (b j : ℕ) → k < length entries → begins_at (set entries k (record (entry_at entries k) { next = next })) b j ≡ begins_at entries b j
same_begins entries k next b j lt = grind (arith, get_or-set_same, get_or-set_other)

pub threaded_one : (entries : List Entry) (tops : List (Option ℕ)) (k : ℕ) → k < length entries → (entry_at entries k).first < length tops → (entry_at entries k).first ≤ (entry_at entries k).last → ThreadedFrom entries tops (k + 1) →
    ThreadedFrom (set entries k (record (entry_at entries k) { next = link_at tops (entry_at entries k).first })) (set tops (entry_at entries k).first (Some k)) k
threaded_one entries tops k lt placed spans done =
    let e = entry_at entries k in
    let changed = record e { next = link_at tops e.first } in
    let new = set entries k changed in
    let len : length new ≡ length entries = length-set entries k changed in
    let same : (b j : ℕ) → begins_at new b j ≡ begins_at entries b j = λ b j. same_begins entries k (link_at tops e.first) b j lt in
    record {
      heads = λ b. rw len (next_same (begins_at entries b) (begins_at new b) k (length entries) (link_at (set tops e.first (Some k)) b) (same b)
          (elim (cases_eq b e.first) [
            | inl eq ↦ rw (eq, get_or-set_same tops e.first (Some k) None placed) (omega arith, lt, begun_now e spans, λ j ge below. absurd (omega arith))
            | inr ne ↦ rw (get_or-set_other tops e.first b (Some k) None ne) (next_before (begins_at entries b) k (length entries) (link_at tops b) (not_begun_at e b ne) (done.heads b))
          ]));
      rest = λ b j ge below now.
          let was : begins_at entries b j ≡ true = sym (same b j) ∙ now in
          rw len (next_same (begins_at entries b) (begins_at new b) (j + 1) (length entries) (entry_at new j).next (same b)
          (elim (cases_eq j k) [
            | inl eq ↦ rw (eq, get_or-set_same entries k changed no_entry lt)
                (subst (λ t. IsNext (begins_at entries b) (k + 1) (length entries) (link_at tops t)) (begun_at e b (ap (begins_at entries b) (sym eq) ∙ was)) (done.heads b))
            | inr ne ↦ rw (get_or-set_other entries k j changed no_entry ne) (done.rest b j (omega arith) (omega arith) was)
          ]));
    }

-- the entry is read as `e`
pub threaded_at : (entries : List Entry) (tops : List (Option ℕ)) (k : ℕ) (e : Entry) → k < length entries → entry_at entries k ≡ e → e.first < length tops → e.first ≤ e.last → ThreadedFrom entries tops (k + 1) →
    ThreadedFrom (set entries k (record e { next = link_at tops e.first })) (set tops e.first (Some k)) k
threaded_at entries tops k e lt is placed spans done = grind (arith, threaded_one)

-- and its bands stay
pub spans_at : (old entries : List Entry) (k : ℕ) (e : Entry) (next : Option ℕ) → k < length entries → entry_at entries k ≡ e → KeepsSpans old entries → KeepsSpans old (set entries k (record e { next = next }))
spans_at old entries k e next lt is same j = grind (arith, get_or-set_same, get_or-set_other)
