-- Real-time requests, byte by byte.
use Rattle.std.proofs.Common.{◌≡◌, ℕ, ◌+◌, ◌-◌, suc, ◌==◌, Bool, true, false, List, [], ◌∷◌, ◌++◌, length, take, refl, ap, ◌∙◌, length-append, arith}
use Rattle.std.proofs.lemmas.List.{take_all}
use Rattle.vp_streams.specs.Count.{counted}
use Rattle.vp_requests.specs.declared.arrivals.Arrivals.{Arrivals}
use Rattle.vp_requests.specs.declared.real_time.Part.TheVariants.{Whole, Begun, Neither}
use Rattle.vp_requests.specs.RealTime.{part_of, begun, begun_on, begun_by, real_time_request}
use Rattle.vp_requests.specs.Standing.{ArrivalsStand, waiting_arrival, begun_anew}
use Rattle.vp_requests.proofs.Rows.{few}

on-push : (r bytes : List ℕ) (c : ℕ) → begun_on r (bytes ++ c ∷ []) ≡ begun_by (part_of (begun_on r bytes ++ c ∷ [])) (begun_on r bytes) c
unfolding begun_on
on-push r [] c = refl
on-push r (b ∷ bytes) c = on-push (begun_by (part_of (r ++ b ∷ [])) r b) bytes c

pub begun-push : (bytes : List ℕ) (c : ℕ) → begun (bytes ++ c ∷ []) ≡ begun_by (part_of (begun bytes ++ c ∷ [])) (begun bytes) c
unfolding begun
begun-push bytes c = on-push [] bytes c

pub part_nil : part_of [] ≡ Begun
unfolding part_of
part_nil = refl

pub part_dle : (c : ℕ) → (c == 0x10) ≡ true → part_of (c ∷ []) ≡ Begun
unfolding part_of
part_dle c e = rw e refl

-- no byte of it is lost
pub kept_all : (items : List ℕ) (c : ℕ) → part_of items ≡ Begun → take 10 (items ++ c ∷ []) ≡ items ++ c ∷ []
kept_all items c e = let h = few items e in take_all 10 (items ++ c ∷ []) (omega (arith, length-append items (c ∷ [])))

module _ (a : Arrivals) (before : List ℕ) (c : ℕ) (s : ArrivalsStand a before) (none : a.is_whole ≡ false) where
  begun_is : begun before ≡ a.bytes.items
  begun_is = grind (arith, s.begun_is, none)

  part_is : part_of a.bytes.items ≡ Begun
  part_is = grind (arith, s.part, none)

  pub request_is : (kept : List ℕ) → kept ≡ take 10 (a.bytes.items ++ c ∷ []) → begun before ++ c ∷ [] ≡ kept
  request_is kept e = grind (arith, begun_is, part_is, kept_all, e)

  pub goes_on : (kept : List ℕ) → kept ≡ take 10 (a.bytes.items ++ c ∷ []) → part_of kept ≡ Begun → (new : Arrivals)
      → new ≡ record a { bytes = record { items = kept } }
      → ArrivalsStand new (before ++ c ∷ []) × (waiting_arrival new (counted (suc (length before))) ≡ real_time_request before c)
  goes_on kept k p new e =
      let r = request_is kept k in
      let h : part_of (begun before ++ c ∷ []) ≡ Begun = ap part_of r ∙ p in
      let long : length kept ≡ length a.bytes.items + 1 = ap length (k ∙ kept_all a.bytes.items c part_is) ∙ length-append a.bytes.items (c ∷ []) in
      rw (e, none, h) (
        record {
          part = p;
          begun_is = rw (begun-push before c, h) r;
          start = s.start ∙ ap counted (omega (arith, long, length-append before (c ∷ [])));
        },
        refl,
      )

  pub is_whole : (kept : List ℕ) → kept ≡ take 10 (a.bytes.items ++ c ∷ []) → part_of kept ≡ Whole → (new : Arrivals)
      → new ≡ record a { bytes = record { items = kept }; is_whole = true }
      → ArrivalsStand new (before ++ c ∷ []) × (waiting_arrival new (counted (suc (length before))) ≡ real_time_request before c)
  is_whole kept k p new e =
      let r = request_is kept k in
      let h : part_of (begun before ++ c ∷ []) ≡ Whole = ap part_of r ∙ p in
      let long : length kept ≡ length a.bytes.items + 1 = ap length (k ∙ kept_all a.bytes.items c part_is) ∙ length-append a.bytes.items (c ∷ []) in
      let begins : a.start ≡ counted (suc (length before) - length kept) = s.start ∙ ap counted (omega (arith, long)) in
      rw (e, h) (
        record {
          part = p;
          begun_is = rw (begun-push before c, h) refl;
          start = s.start ∙ ap counted (omega (arith, long, length-append before (c ∷ [])));
        },
        rw (r, begins) refl,
      )

  pub begins : (kept : List ℕ) → kept ≡ take 10 (a.bytes.items ++ c ∷ []) → part_of kept ≡ Neither → (taken : ℕ)
      → taken ≡ counted (length before) → (new : Arrivals) → new ≡ begun_anew (record a { bytes = record { items = kept } }) c taken
      → ArrivalsStand new (before ++ c ∷ []) × (waiting_arrival new (counted (suc (length before))) ≡ real_time_request before c)
  begins kept k p taken t new e =
      by_test (c == 0x10) refl
    where
      h : part_of (begun before ++ c ∷ []) ≡ Neither
      h = ap part_of (request_is kept k) ∙ p

      by_test : (so : Bool) → (c == 0x10) ≡ so → ArrivalsStand new (before ++ c ∷ []) × (waiting_arrival new (counted (suc (length before))) ≡ real_time_request before c)
      by_test true q = rw (e, q, none, h) (
        record {
          part = part_dle c q;
          begun_is = rw (begun-push before c, h, q) refl;
          start = t ∙ ap counted (omega (arith, length-append before (c ∷ [])));
        },
        refl,
      )
      by_test false q = rw (e, q, none, h) (
        record {
          part = part_nil;
          begun_is = rw (begun-push before c, h, q) refl;
          start = omega (arith, t, length-append before (c ∷ []));
        },
        refl,
      )

pub stand_first : (a : Arrivals) → a.bytes.items ≡ [] → a.start ≡ 0 → a.is_whole ≡ false → ArrivalsStand a []
unfolding begun begun_on
stand_first a i t w = rw (i, t, w) (record { part = part_nil; begun_is = refl; start = refl })

pub told : (a new : Arrivals) (bytes : List ℕ) → ArrivalsStand a bytes → a.is_whole ≡ true → new.bytes.items ≡ [] → new.is_whole ≡ false
    → new.start ≡ counted (length bytes) → ArrivalsStand new bytes
told a new bytes s w i n t =
    record { part = rw (i, n) part_nil; begun_is = rw (n, i) (s.begun_is ∙ rw w refl); start = t ∙ ap counted (omega (arith, ap {A = List ℕ} length i)) }
