-- What every reading of bits has in common.
use Rattle.std.proofs.Common.{◌≡◌, ℕ, ◌+◌, ◌%◌, ◌<◌, ◌≤◌, Bool, true, false, cond, ltb, List, ◌++◌, length, take, drop, Ok, Err, refl, sym, ap, ◌∙◌, arith, length-drop, length-append}
use Rattle.std.proofs.lemmas.List.{take-append-le, drop-append-le}
use Rattle.std.proofs.lemmas.Bool.{le-ltb, ltb-true, ltb-false}
use Rattle.vp_inflate.specs.declared.fault.Stop.{Stop}
use Rattle.vp_inflate.specs.declared.fault.Stop.TheVariants.{Short, Broken, Ended}
use Rattle.vp_inflate.specs.declared.fault.Fault.{Fault}
use Rattle.vp_inflate.specs.Bits.{Read, ◌>>=◌, number, number_at, aligned}

-- whole bytes behind the bits change nothing that was read, and no fault; where bits are missing there are
-- fewer than k, and no more than k are read; what is read leaves the bytes behind it alone; and it is no end
pub record Reads {A : Type 0} (k : ℕ) (r : List ℕ → Read A) : Type 0 where
  pub read : (from more : List ℕ) (x : A) (rest : List ℕ) → length more % 8 ≡ 0 → r from ≡ Ok (x, rest) → r (from ++ more) ≡ Ok (x, rest ++ more)
  pub broken : (from more : List ℕ) (f : Fault) → length more % 8 ≡ 0 → r from ≡ Err (Broken f) → r (from ++ more) ≡ Err (Broken f)
  pub short : (from : List ℕ) → r from ≡ Err Short → length from < k
  pub used : (from : List ℕ) (x : A) (rest : List ℕ) → r from ≡ Ok (x, rest) → length from ≤ k + length rest
  pub less : (from : List ℕ) (x : A) (rest : List ℕ) → r from ≡ Ok (x, rest) → length rest ≤ length from
  pub exact : (from more : List ℕ) (x : A) (rest : List ℕ) → length more % 8 ≡ 0 → r (from ++ more) ≡ Ok (x, rest) → length more ≤ length rest
      → (kept : List ℕ) × (r from ≡ Ok (x, kept))
  pub going : (from : List ℕ) → r from ≡ Err Ended → ⊥

-- more may be needed
pub reads_within : {A : Type 0} (j k : ℕ) (r : List ℕ → Read A) → j ≤ k → Reads j r → Reads k r
reads_within j k r le h = record {
  read = h.read;
  broken = h.broken;
  short = λ from e. omega (arith, h.short from e);
  used = λ from x rest e. omega (arith, h.used from x rest e);
  less = h.less;
  exact = h.exact;
  going = h.going;
}

abbrev read_or : {A : Type 0} → A × List ℕ → Read A → A × List ℕ
read_or d (Ok p) = p
read_or d (Err s) = d

same_rest : {A : Type 0} (x y : A) (from rest : List ℕ) → ◌≡◌ {A = Read A} (Ok (x, from)) (Ok (y, rest)) → from ≡ rest
same_rest {A = A} x y from rest e = ap (λ (v : Read A). (read_or (x, from) v).1) e

same_value : {A : Type 0} (x y : A) (from rest : List ℕ) → ◌≡◌ {A = Read A} (Ok (x, from)) (Ok (y, rest)) → x ≡ y
same_value {A = A} x y from rest e = ap (λ (v : Read A). (read_or (x, from) v).0) e

-- nothing is read
pub reads_nothing : {A : Type 0} (x : A) → Reads 0 (λ from. Ok (x, from))
reads_nothing {A = A} x = record {
  read = λ from more y rest m e. ap (λ (v : Read A). v >>= λ p. Ok (p.0, p.1 ++ more)) e;
  broken = λ from more f m e. cc;
  short = λ from e. cc;
  used = λ from y rest e. omega (arith, ap {A = List ℕ} length (same_rest x y from rest e));
  less = λ from y rest e. omega (arith, ap {A = List ℕ} length (same_rest x y from rest e));
  exact = λ from more y rest m e le. (from, ap (λ (z : A). Ok (z, from)) (same_value x y (from ++ more) rest e));
  going = λ from e. cc;
}

pub reads_fault : {A : Type 0} (f : Fault) → Reads {A = A} 0 (λ from. Err (Broken f))
reads_fault f = record {
  read = λ from more y rest m e. cc;
  broken = λ from more g m e. e;
  short = λ from e. cc;
  used = λ from y rest e. cc;
  less = λ from y rest e. cc;
  exact = λ from more y rest m e le. cc;
  going = λ from e. cc;
}

pub reads_either : {A : Type 0} (k : ℕ) (b : Bool) (r q : List ℕ → Read A) → Reads k r → Reads k q → Reads k (λ from. cond b (r from) (q from))
reads_either k true r q h g = h
reads_either k false r q h g = g

-- a reading and then another
err_over : {A B : Type 0} (s t : Stop) (q : A × List ℕ → Read B) → Err s >>= q ≡ Err t → ◌≡◌ {A = Read A} (Err s) (Err t)
err_over s t q w = cc

no_ok : {A B C : Type 0} (s : Stop) (q : A × List ℕ → Read B) (y : B × List ℕ) → Err s >>= q ≡ Ok y → C
no_ok s q y w = absurd cc

read_then : {A B : Type 0} (j k : ℕ) (r : List ℕ → Read A) (q : A × List ℕ → Read B) → Reads j r → ((x : A) → Reads k (λ from. q (x, from)))
    → (from more : List ℕ) (x : B) (rest : List ℕ) → length more % 8 ≡ 0 → (v : Read A) → r from ≡ v → v >>= q ≡ Ok (x, rest) → r (from ++ more) >>= q ≡ Ok (x, rest ++ more)
read_then {A = A} j k r q h g from more x rest m (Ok p) e u = ap (λ (w : Read A). w >>= q) (h.read from more p.0 p.1 m e) ∙ (g p.0).read p.1 more x rest m u
read_then j k r q h g from more x rest m (Err s) e u = no_ok s q (x, rest) u

broken_then : {A B : Type 0} (j k : ℕ) (r : List ℕ → Read A) (q : A × List ℕ → Read B) → Reads j r → ((x : A) → Reads k (λ from. q (x, from)))
    → (from more : List ℕ) (f : Fault) → length more % 8 ≡ 0 → (v : Read A) → r from ≡ v → v >>= q ≡ Err (Broken f) → r (from ++ more) >>= q ≡ Err (Broken f)
broken_then {A = A} j k r q h g from more f m (Ok p) e u = ap (λ (w : Read A). w >>= q) (h.read from more p.0 p.1 m e) ∙ (g p.0).broken p.1 more f m u
broken_then {A = A} j k r q h g from more f m (Err s) e u = ap (λ (w : Read A). w >>= q) (h.broken from more f m (e ∙ err_over s (Broken f) q u))

short_then : {A B : Type 0} (j k : ℕ) (r : List ℕ → Read A) (q : A × List ℕ → Read B) → Reads j r → ((x : A) → Reads k (λ from. q (x, from)))
    → (from : List ℕ) (v : Read A) → r from ≡ v → v >>= q ≡ Err Short → length from < j + k
short_then j k r q h g from (Ok p) e u = omega (arith, h.used from p.0 p.1 e, (g p.0).short p.1 u)
short_then j k r q h g from (Err s) e u = omega (arith, h.short from (e ∙ err_over s Short q u))

used_then : {A B : Type 0} (j k : ℕ) (r : List ℕ → Read A) (q : A × List ℕ → Read B) → Reads j r → ((x : A) → Reads k (λ from. q (x, from)))
    → (from : List ℕ) (x : B) (rest : List ℕ) (v : Read A) → r from ≡ v → v >>= q ≡ Ok (x, rest) → (length from ≤ j + k + length rest) × (length rest ≤ length from)
used_then j k r q h g from x rest (Ok p) e u =
    (omega (arith, h.used from p.0 p.1 e, (g p.0).used p.1 x rest u), omega (arith, h.less from p.0 p.1 e, (g p.0).less p.1 x rest u))
used_then j k r q h g from x rest (Err s) e u = no_ok s q (x, rest) u

exact_then : {A B : Type 0} (j k : ℕ) (r : List ℕ → Read A) (q : A × List ℕ → Read B) → Reads j r → ((x : A) → Reads k (λ from. q (x, from)))
    → (from more : List ℕ) (x : B) (rest : List ℕ) → length more % 8 ≡ 0 → (v : Read A) → r (from ++ more) ≡ v → v >>= q ≡ Ok (x, rest) → length more ≤ length rest
    → (kept : List ℕ) × (r from >>= q ≡ Ok (x, kept))
exact_then {A = A} {B = B} j k r q h g from more x rest m (Ok p) e u le =
    let first = h.exact from more p.0 p.1 m e (omega (arith, (g p.0).less p.1 x rest u)) in
    let there : p.1 ≡ first.0 ++ more = same_rest p.0 p.0 p.1 (first.0 ++ more) (sym e ∙ h.read from more p.0 first.0 m first.1) in
    let then = (g p.0).exact first.0 more x rest m (ap (λ (l : List ℕ). q (p.0, l)) (sym there) ∙ u) le in
    (then.0, ap (λ (w : Read A). w >>= q) first.1 ∙ then.1)
exact_then j k r q h g from more x rest m (Err s) e u le = no_ok s q (x, rest) u

going_then : {A B : Type 0} (j k : ℕ) (r : List ℕ → Read A) (q : A × List ℕ → Read B) → Reads j r → ((x : A) → Reads k (λ from. q (x, from)))
    → (from : List ℕ) (v : Read A) → r from ≡ v → v >>= q ≡ Err Ended → ⊥
going_then j k r q h g from (Ok p) e u = (g p.0).going p.1 u
going_then j k r q h g from (Err s) e u = h.going from (e ∙ err_over s Ended q u)

pub reads_then : {A B : Type 0} (j k : ℕ) (r : List ℕ → Read A) (q : A × List ℕ → Read B) → Reads j r → ((x : A) → Reads k (λ from. q (x, from))) → Reads (j + k) (λ from. r from >>= q)
reads_then j k r q h g = record {
  read = λ from more x rest m. read_then j k r q h g from more x rest m (r from) refl;
  broken = λ from more f m. broken_then j k r q h g from more f m (r from) refl;
  short = λ from. short_then j k r q h g from (r from) refl;
  used = λ from x rest u. (used_then j k r q h g from x rest (r from) refl u).0;
  less = λ from x rest u. (used_then j k r q h g from x rest (r from) refl u).1;
  exact = λ from more x rest m. exact_then j k r q h g from more x rest m (r (from ++ more)) refl;
  going = λ from. going_then j k r q h g from (r from) refl;
}

-- a number
fits : (n : ℕ) (from : List ℕ) (x : ℕ) (rest : List ℕ) → number_at n from ≡ Ok (x, rest) → n ≤ length from
unfolding number_at
fits n from x rest = by_test (ltb (length from) n) refl
  where
    by_test : (b : Bool) → ltb (length from) n ≡ b → cond {A = Read ℕ} b (Err Short) (Ok (number (take n from), drop n from)) ≡ Ok (x, rest) → n ≤ length from
    by_test true e u = absurd cc
    by_test false e u = ltb-false (length from) n e

pub number_ok : (n : ℕ) (from : List ℕ) → n ≤ length from → number_at n from ≡ Ok (number (take n from), drop n from)
unfolding number_at
number_ok n from h = rw (le-ltb (length from) n h) refl

lacks : (n : ℕ) (from : List ℕ) (s : Stop) → number_at n from ≡ Err s → (length from < n) × (s ≡ Short)
unfolding number_at
lacks n from s = by_test (ltb (length from) n) refl
  where
    by_test : (b : Bool) → ltb (length from) n ≡ b → cond {A = Read ℕ} b (Err Short) (Ok (number (take n from), drop n from)) ≡ Err s → (length from < n) × (s ≡ Short)
    by_test true e u = (ltb-true (length from) n e, cc)
    by_test false e u = absurd cc

pub reads_number : (n : ℕ) → Reads n (number_at n)
reads_number n = record {
  read = λ from more x rest m e.
      let le = fits n from x rest e in
      let one = number_ok n from le in
      let all = number_ok n (from ++ more) (omega (arith, length-append from more)) in
      let t = take-append-le n from more le in
      let d = drop-append-le n from more le in
      all ∙ ap (λ (l : List ℕ). Ok (number l, drop n (from ++ more))) t ∙ ap (λ (l : List ℕ). Ok (number (take n from), l)) d
      ∙ ap (λ (v : Read ℕ). v >>= λ p. Ok (p.0, p.1 ++ more)) (sym one ∙ e);
  broken = λ from more f m e. absurd (not_broken f (lacks n from (Broken f) e).1);
  short = λ from e. (lacks n from Short e).0;
  used = λ from x rest e. let le = fits n from x rest e in let r = left_is n from x rest e in omega (arith, ap {A = List ℕ} length r, length-drop n from);
  less = λ from x rest e. let r = left_is n from x rest e in omega (arith, ap {A = List ℕ} length r, length-drop n from);
  exact = λ from more x rest m e le.
      let r = left_is n (from ++ more) x rest e in
      let there = fits n (from ++ more) x rest e in
      let enough : n ≤ length from = omega (arith, ap {A = List ℕ} length r, length-drop n (from ++ more), length-append from more) in
      let v = value_is n (from ++ more) x rest e in
      (drop n from, number_ok n from enough ∙ ap (λ (k : ℕ). Ok (k, drop n from)) (ap number (sym (take-append-le n from more enough)) ∙ v));
  going = λ from e. not_ended (lacks n from Ended e).1;
}
  where
    not_broken : (f : Fault) → Broken f ≡ Short → ⊥
    not_broken f e = cc

    not_ended : Ended ≡ Short → ⊥
    not_ended e = cc

    left_is : (n : ℕ) (from : List ℕ) (x : ℕ) (rest : List ℕ) → number_at n from ≡ Ok (x, rest) → drop n from ≡ rest
    left_is n from x rest e = same_rest (number (take n from)) x (drop n from) rest (sym (number_ok n from (fits n from x rest e)) ∙ e)

    value_is : (n : ℕ) (from : List ℕ) (x : ℕ) (rest : List ℕ) → number_at n from ≡ Ok (x, rest) → number (take n from) ≡ x
    value_is n from x rest e = same_value (number (take n from)) x (drop n from) rest (sym (number_ok n from (fits n from x rest e)) ∙ e)

-- behind the rest of a byte
aligned_more : (from more : List ℕ) → length more % 8 ≡ 0 → aligned (from ++ more) ≡ aligned from ++ more
unfolding aligned
aligned_more from more m =
    let n : length (from ++ more) % 8 ≡ length from % 8 = omega (arith, length-append from more, m) in
    ap (λ (k : ℕ). drop k (from ++ more)) n ∙ drop-append-le (length from % 8) from more (omega arith)

length_aligned : (from : List ℕ) → (length (aligned from) ≤ length from) × (length from ≤ 7 + length (aligned from))
unfolding aligned
length_aligned from = (omega (arith, length-drop (length from % 8) from), omega (arith, length-drop (length from % 8) from))

pub reads_aligned : {A : Type 0} (k : ℕ) (r : List ℕ → Read A) → Reads k r → Reads (7 + k) (λ from. r (aligned from))
reads_aligned {A = A} k r h = record {
  read = λ from more x rest m e. ap r (aligned_more from more m) ∙ h.read (aligned from) more x rest m e;
  broken = λ from more f m e. ap r (aligned_more from more m) ∙ h.broken (aligned from) more f m e;
  short = λ from e. omega (arith, h.short (aligned from) e, (length_aligned from).1);
  used = λ from x rest e. omega (arith, h.used (aligned from) x rest e, (length_aligned from).1);
  less = λ from x rest e. omega (arith, h.less (aligned from) x rest e, (length_aligned from).0);
  exact = λ from more x rest m e le. h.exact (aligned from) more x rest m (ap r (sym (aligned_more from more m)) ∙ e) le;
  going = λ from e. h.going (aligned from) e;
}
