-- Units, byte by byte.
use Rattle.std.proofs.Common.{◌≡◌, ◌≢◌, ℕ, ◌-◌, ◌≤◌, zero, suc, Bool, true, false, if◌then◌else◌, Option, None, Some, List, [], ◌∷◌, ◌++◌, length, take, nat_lt, refl, sym, ap, subst, ◌∙◌, length-append, arith}
use Rattle.std.proofs.lemmas.List.{take_all, length-take-le}
use Rattle.vp_streams.specs.Count.{counted}
use Rattle.vp_esc.specs.declared.reader.EscReader.{EscReader}
use Rattle.vp_esc.specs.declared.reading.Reading.TheVariants.{Whole}
use Rattle.vp_esc.specs.Units.{is_unfinished}
use Rattle.vp_esc.specs.Split.{Split, split, split_on, with_byte}
use Rattle.vp_esc.specs.Reader.{Stands as EscStands}
use Rattle.vp_requests.specs.declared.request.Ask.{Ask}
use Rattle.vp_requests.specs.declared.units.Units.{Units}
use Rattle.vp_requests.specs.Units.{ask_of, unit_request}
use Rattle.vp_requests.specs.Standing.{UnitsStand, InUnit, unit_by, waiting_unit, ended_unit, ended_by}
use Rattle.vp_requests.proofs.FirstBytes.{again}

on-push : (s : Split) (bytes : List ℕ) (c : ℕ) → split_on Whole s (bytes ++ c ∷ []) ≡ with_byte Whole (split_on Whole s bytes) c
unfolding split_on
on-push s [] c = refl
on-push s (b ∷ bytes) c = on-push (with_byte Whole s b) bytes c

pub split-push : (bytes : List ℕ) (c : ℕ) → split Whole (bytes ++ c ∷ []) ≡ with_byte Whole (split Whole bytes) c
unfolding split
split-push bytes c = on-push (record { units = []; rest = [] }) bytes c

pub split_nil : split Whole [] ≡ record { units = []; rest = [] }
unfolding split split_on
split_nil = refl

abbrev rest : List ℕ → List ℕ
rest bytes = (split Whole bytes).rest

rest-push : (bytes : List ℕ) (c : ℕ) → rest (bytes ++ c ∷ []) ≡ (if is_unfinished Whole (rest bytes ++ c ∷ []) then rest bytes ++ c ∷ [] else [])
unfolding split
rest-push bytes c = grind (arith, on-push)

not_empty : (xs : List ℕ) (c : ℕ) → (xs ++ c ∷ []) ≢ []
not_empty xs c h = omega (arith, ap {A = List ℕ} length h, length-append xs (c ∷ []))

-- of a longer unit enough is kept to tell it
ask_kept : (unit : List ℕ) → ask_of (take 22 unit) ≡ ask_of unit
unfolding ask_of
ask_kept unit = by_test (nat_lt 21 (length unit)) refl
  where
    by_test : (long : Bool) → nat_lt 21 (length unit) ≡ long → ask_of (take 22 unit) ≡ ask_of unit
    by_test true e =
        let le : 22 ≤ length unit = grind (arith, e) in
        rw (e, length-take-le 22 unit le) refl
    by_test false e = ap ask_of (take_all 22 unit (grind (arith, e)))

-- one that asks is kept whole
asks_short : (unit : List ℕ) (ask : Ask) → ask_of unit ≡ Some ask → length unit ≤ 21
unfolding ask_of
asks_short unit ask e = grind arith

module _ (u : Units) (before : List ℕ) (c : ℕ) (s : UnitsStand u before) (none : u.ask ≡ None) (reader : EscReader)
    (reads : EscStands Whole reader (before ++ c ∷ [])) (kept : List ℕ) (k : kept ≡ take 22 (u.bytes.items ++ c ∷ [])) where
  in_unit : InUnit u (rest before) (length before)
  in_unit = subst (λ (ask : Option Ask). unit_by ask u (rest before) (length before)) none s.unit

  kept_is : kept ≡ take 22 (rest before ++ c ∷ [])
  kept_is = k ∙ ap (λ (xs : List ℕ). take 22 (xs ++ c ∷ [])) in_unit.kept ∙ again 22 (rest before) c

  start_is : u.start ≡ counted (suc (length before) - length (rest before ++ c ∷ []))
  start_is = in_unit.start ∙ ap counted (omega (arith, length-append (rest before) (c ∷ [])))

  abbrev Comes : Units → Type 0
  Comes new = UnitsStand new (before ++ c ∷ []) × (waiting_unit new (counted (suc (length before))) ≡ unit_request before c)

  abbrev one : Units
  one = record { reader = reader; bytes = record { items = kept }; start = u.start; ask = u.ask }

  pub goes_on : (rest (before ++ c ∷ []) ≢ []) → Comes one
  goes_on some = by_test (is_unfinished Whole (rest before ++ c ∷ [])) refl
    where
      by_test : (so : Bool) → is_unfinished Whole (rest before ++ c ∷ []) ≡ so → Comes one
      by_test true q =
          let r = rest-push before c ∙ rw q refl in
          let long : length (before ++ c ∷ []) ≡ suc (length before) = omega (arith, length-append before (c ∷ [])) in
          rw (none, q) (
            record {
              reads = reads;
              unit = record { kept = rw r kept_is; start = rw r (start_is ∙ ap (λ (n : ℕ). counted (n - length (rest before ++ c ∷ []))) (sym long)) };
            },
            refl,
          )
      by_test false q = absurd (some (rest-push before c ∙ rw q refl))

  pub ends : (rest (before ++ c ∷ []) ≡ []) → (taken : ℕ) → taken ≡ counted (length before) → (new : Units)
      → new ≡ ended_unit one taken → Comes new
  ends empty taken t new e = by_test (is_unfinished Whole (rest before ++ c ∷ [])) refl
    where
      unit : List ℕ
      unit = rest before ++ c ∷ []

      by_ask : (ask : Option Ask) → ask_of unit ≡ ask → is_unfinished Whole unit ≡ false → Comes (ended_by ask one taken)
      by_ask None a q = rw (q, a) (
        record {
          reads = reads;
          unit = record { kept = rw empty refl; start = rw empty (omega (arith, t, length-append before (c ∷ []))) };
        },
        refl,
      )
      by_ask (Some ask) a q =
          let whole : kept ≡ unit = kept_is ∙ take_all 22 unit (omega (arith, asks_short unit ask a)) in
          rw (q, a, whole, start_is) (record { reads = reads; unit = empty }, refl)

      by_test : (so : Bool) → is_unfinished Whole unit ≡ so → Comes new
      by_test true q = absurd (not_empty (rest before) c (sym (rest-push before c ∙ rw q refl) ∙ empty))
      by_test false q =
          let same : ask_of kept ≡ ask_of unit = ap ask_of kept_is ∙ ask_kept unit in
          subst (λ (n : Units). Comes n) (sym (e ∙ ap (λ (ask : Option Ask). ended_by ask one taken) same)) (by_ask (ask_of unit) refl q)

pub stand_first : (u : Units) → EscStands Whole u.reader [] → u.bytes.items ≡ [] → u.start ≡ 0 → u.ask ≡ None → UnitsStand u []
unfolding split split_on
stand_first u reads k s none = record { reads = reads; unit = rw none (record { kept = k; start = s }) }
