-- The head of a command, and the data that it counts.
use Rattle.std.proofs.Common.{◌≡◌, ℕ, ◌+◌, ◌-◌, ◌<◌, ◌≤◌, true, false, ltb, List, [], ◌∷◌, ◌++◌, length, refl, ◌∙◌, arith}
use Rattle.std.proofs.lemmas.Grind.{common_steps}
use Rattle.std.proofs.lemmas.Bool.Decides.{nat_tests}
use Rattle.std.proofs.lemmas.List.{length_push}
use Rattle.vp_esc.specs.declared.reading.Reading.{Reading}
use Rattle.vp_esc.specs.declared.item.Lead.{Lead}
use Rattle.vp_esc.specs.declared.command.Command.{Command}
use Rattle.vp_esc.specs.Command.{head_len, is_listed}
use Rattle.vp_esc.specs.Units.{needs_more, is_counted, is_short, data_len, given_by, given_behind, prints_rows, is_skipped}
use Rattle.vp_esc.specs.Reader.{HasLeft}

pub head_small : (k : Command) (args : List ℕ) → head_len k args ≤ 8
head_small k args = grind arith

-- one more argument is still in the head
pub head_push : (k : Command) (args : List ℕ) (c : ℕ) → length args < head_len k args → length args + 1 ≤ head_len k (args ++ c ∷ [])
head_push k args c h = grind (arith, common_steps)

-- Behind the head, what it says stays.
pub record IsSame (k : Command) (front more : List ℕ) : Type 0 where
  pub head : head_len k (front ++ more) ≡ head_len k front
  pub count : data_len k (front ++ more) ≡ data_len k front
  pub counted : is_counted k (front ++ more) ≡ true
  pub rows : prints_rows k (front ++ more) ≡ prints_rows k front
  pub skipped : is_skipped k (front ++ more) ≡ is_skipped k front

pub same : (k : Command) (front more : List ℕ) → is_counted k front ≡ true → head_len k front ≤ length front → IsSame k front more
same k front more e h = grind (arith, common_steps)

pub needs_counted : (k : Command) (args : List ℕ) → is_counted k args ≡ true → needs_more k args ≡ is_short k args
unfolding needs_more
needs_counted k args e = grind arith

-- Among the arguments before any data, more are needed, and nothing is given.
pub record IsHead (reading : Reading) (lead : Lead) (name : ℕ) (k : Command) (args : List ℕ) : Type 0 where
  pub needs : needs_more k args ≡ true
  pub gives : given_by reading lead name k args ≡ []

pub heads : (reading : Reading) (lead : Lead) (name : ℕ) (k : Command) (args : List ℕ) → length args < head_len k args → IsHead reading lead name k args
unfolding given_by needs_more
heads reading lead name k args h = grind (arith, nat_tests)

-- behind the head
pub given_is : (reading : Reading) (lead : Lead) (name : ℕ) (k : Command) (args : List ℕ) → head_len k args ≤ length args
    → given_by reading lead name k args ≡ given_behind reading lead name k args
unfolding given_by
given_is reading lead name k args h = let m : ltb (length args) (head_len k args) ≡ false = grind (arith, nat_tests) in rw m refl

-- One more byte of counted data.
pub record IsPushed (reading : Reading) (k : Command) (args : List ℕ) (left c : ℕ) : Type 0 where
  pub listed : is_listed reading k (args ++ c ∷ []) ≡ true
  pub counted : is_counted k (args ++ c ∷ []) ≡ true
  pub needs : needs_more k (args ++ c ∷ []) ≡ ltb 0 (left - 1)
  pub rows : prints_rows k (args ++ c ∷ []) ≡ prints_rows k args
  pub skipped : is_skipped k (args ++ c ∷ []) ≡ is_skipped k args
  pub left_is : 1 < left → HasLeft k (args ++ c ∷ []) (left - 1)

-- without arguments before the data there are none
none_left : (k : Command) → head_len k [] ≤ 0 → is_counted k [] ≡ true → data_len k [] ≡ 0
none_left k h e = grind arith

listed_push : (reading : Reading) (k : Command) (args : List ℕ) (left c : ℕ) → is_listed reading k args ≡ true → is_counted k args ≡ true → HasLeft k args left
    → is_listed reading k (args ++ c ∷ []) ≡ true
listed_push reading k [] left c l e h = absurd (omega (arith, h.head, h.some_left, h.count, none_left k h.head e))
listed_push reading k (a ∷ args) left c l e h = l

short_push : (n m left : ℕ) → n + left ≡ m → 0 < left → ltb (n + 1) m ≡ ltb 0 (left - 1)
short_push n m left e h = grind (arith, nat_tests)

pub pushed : {reading : Reading} (k : Command) (args : List ℕ) (left c : ℕ) → is_listed reading k args ≡ true → is_counted k args ≡ true → HasLeft k args left
    → IsPushed reading k args left c
pushed {reading} k args left c l e h =
    let s : IsSame k args (c ∷ []) = same k args (c ∷ []) e h.head in
    record {
      listed = listed_push reading k args left c l e h;
      counted = s.counted;
      needs = needs_counted k (args ++ c ∷ []) s.counted ∙ rw (s.head, s.count, length_push args c) (short_push (length args) _ left h.count h.some_left);
      rows = s.rows;
      skipped = s.skipped;
      left_is = λ some. record {
        head = rw (s.head, length_push args c) (omega (arith, h.head));
        some_left = omega arith;
        count = rw (s.head, s.count, length_push args c) (omega (arith, h.count));
      };
    }
