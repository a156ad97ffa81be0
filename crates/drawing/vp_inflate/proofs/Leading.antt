-- Where bytes lead, element by element.
use Rattle.std.proofs.Common.{◌≡◌, ℕ, zero, suc, ◌+◌, ◌-◌, ◌*◌, ◌%◌, ◌<◌, ◌≤◌, List, [], ◌∷◌, ◌++◌, length, take, reverse, Option, Some, None, Result, Ok, Err, refl, sym, ap, ◌∙◌, arith, append_assoc, length-append}
use Rattle.std.proofs.lemmas.Bool.{le-leb, lt-leb}
use Rattle.std.proofs.lemmas.List.{append-nil, reverse-append, reverse-reverse, length-reverse, take_all}
use Rattle.vp_inflate.specs.declared.fault.Stop.{Stop}
use Rattle.vp_inflate.specs.declared.fault.Stop.TheVariants.{Short, Ended, Broken}
use Rattle.vp_inflate.specs.declared.fault.Fault.{Fault}
use Rattle.vp_inflate.specs.declared.inflate.Inflate.{Inflate}
use Rattle.vp_inflate.specs.Bits.{Read, ◌>>=◌, bits, bits_of}
use Rattle.vp_inflate.specs.Unpacking.{Stand, start, element, after}
use Rattle.vp_inflate.specs.Fronts.{stopped, goes_on, run, front}
use Rattle.vp_inflate.specs.Standing.{stand}
use Rattle.vp_inflate.specs.Reaching.{Leads, Unpacks, Ends, IsNeeded, Stands, with, one}
use Rattle.vp_inflate.proofs.BitWords.{length_bits}
use Rattle.vp_inflate.proofs.ElementReadings.{reads_element, ended_more}

whole_bytes : (bytes : List ℕ) → length (bits_of bytes) ≡ 8 * length bytes
whole_bytes [] = refl
whole_bytes (b ∷ bytes) = omega (arith, length-append (bits 8 b) (bits_of bytes), length_bits 8 b, whole_bytes bytes)

pub whole : (bytes : List ℕ) → length (bits_of bytes) % 8 ≡ 0
whole bytes = omega (arith, whole_bytes bytes)

pub whole_byte : (b : ℕ) → length (bits 8 b) % 8 ≡ 0
whole_byte b = omega (arith, length_bits 8 b)

-- one element further
after_more : (n : ℕ) (s : Stand) (from : List ℕ) (p q : Stand × List ℕ) → after n s from ≡ Ok p → element p.0 p.1 ≡ Ok q → after (suc n) s from ≡ Ok q
unfolding after
after_more zero s from p q e u =
    ap (λ (v : Read Stand). v >>= λ a. element a.0 a.1 >>= λ r. Ok (r.0, r.1)) e ∙ ap (λ (v : Read Stand). v >>= λ r. Ok (r.0, r.1)) u
after_more (suc n) s from p q e u = by_first (element s from) refl e (λ r w. after_more n r.0 r.1 p q w u)
  where
    by_first : (v : Read Stand) → element s from ≡ v → v >>= (λ r. after n r.0 r.1) ≡ Ok p → ((r : Stand × List ℕ) → after n r.0 r.1 ≡ Ok p → after (suc n) r.0 r.1 ≡ Ok q)
        → element s from >>= (λ r. after (suc n) r.0 r.1) ≡ Ok q
    by_first (Ok r) i w more = ap (λ (x : Read Stand). x >>= λ a. after (suc n) a.0 a.1) i ∙ more r w
    by_first (Err t) i w more = absurd cc

-- where there is room no more, where there is, and where reading stops
run_full : (n room : ℕ) (s : Stand) (from : List ℕ) → room ≤ length s.out → run n room s from ≡ Ok s.out
unfolding run
run_full zero room s from h = refl
run_full (suc n) room s from h = rw (le-leb room (length s.out) h) refl

run_on : (n room : ℕ) (s : Stand) (from : List ℕ) (t : Stand) (rest : List ℕ) → length s.out < room → element s from ≡ Ok (t, rest) → run (suc n) room s from ≡ run n room t rest
unfolding run
run_on n room s from t rest h e = rw (lt-leb room (length s.out) h) (ap (λ (r : Read Stand). goes_on r s.out (λ u l. run n room u l)) e)

run_stops : (n room : ℕ) (s : Stand) (from : List ℕ) (stop : Stop) → length s.out < room → element s from ≡ Err stop → run (suc n) room s from ≡ stopped stop s.out
unfolding run
run_stops n room s from stop h e = rw (lt-leb room (length s.out) h) (ap (λ (r : Read Stand). goes_on r s.out (λ u l. run n room u l)) e)

nothing_more : (n : ℕ) → 0 + n ≡ n
nothing_more n = omega arith

-- nothing was taken yet
pub stands_first : (m : Inflate) → stand m.reader [] ≡ start → m.reader.held ≡ [] → Stands m [] []
unfolding after
stands_first m s h = record {
  steps = 0;
  few = omega (arith, ap {A = List ℕ} length h);
  leads = λ more. ap (λ (a : Stand). Ok (a, bits_of more)) (sym s) ∙ ap (λ (l : List ℕ). Ok (stand m.reader [], l ++ bits_of more)) (sym h);
  needed = λ long. absurd (omega (arith, ap {A = List ℕ} length h));
  runs = λ more n room lt. ap (λ (k : ℕ). run k room start (bits_of more)) (nothing_more n) ∙ ap (λ (a : Stand). run n room a (bits_of more)) (sym s) ∙ ap (λ (l : List ℕ). run n room (stand m.reader []) (l ++ bits_of more)) (sym h);
  fills = λ more n. ap (λ (k : ℕ). run k 0 start (bits_of more)) (nothing_more n) ∙ run_full n 0 start (bits_of more) (omega arith);
}

-- a byte or none more
abbrev pub listed : Option ℕ → List ℕ
listed None = []
listed (Some byte) = byte ∷ []

reverse_with : (byte : Option ℕ) (put : List ℕ) → reverse (put ++ listed byte) ≡ with byte (reverse put)
reverse_with None put = ap reverse (append-nil put)
reverse_with (Some b) put = reverse-append put (b ∷ [])

-- what is left is no whole byte: the last one was needed
needed_on : (s t : Stand) (from rest : List ℕ) → IsNeeded s from → element s from ≡ Ok (t, rest) → IsNeeded t rest
needed_on s t from rest h e = λ long.
    let reads = reads_element s from (Ok (t, rest)) e (λ w. cc) in
    let less = reads.less from t rest e in
    let last = h (omega (arith, less)) in
    let there : element s (last.0 ++ bits 8 last.1) ≡ Ok (t, rest) = ap (element s) (sym last.2) ∙ e in
    let early = reads.exact last.0 (bits 8 last.1) t rest (whole_byte last.1) there (omega (arith, length_bits 8 last.1)) in
    absurd (apart (t, early.0) (sym last.3 ∙ early.1))
  where
    apart : (p : Stand × List ℕ) → ◌≡◌ {A = Read Stand} (Err Short) (Ok p) → ⊥
    apart p w = cc

length_listed : (byte : Option ℕ) (put : List ℕ) → length (put ++ listed byte) ≡ length put + one byte
length_listed None put = length-append put []
length_listed (Some b) put = length-append put (b ∷ [])

-- where a byte came, there are as many as one more than before
fills_on : (old new : Inflate) (t put : List ℕ) (byte : Option ℕ) (h : Stands old t put)
    → ((more : List ℕ) → element (stand old.reader (reverse put)) (old.reader.held ++ bits_of more)
    ≡ Ok (stand new.reader (reverse (put ++ listed byte)), new.reader.held ++ bits_of more))
    → (more : List ℕ) (n : ℕ) → run (suc h.steps + n) (length (put ++ listed byte)) start (bits_of (t ++ more)) ≡ Ok (reverse (put ++ listed byte))
fills_on old new t put None h e more n =
    ap (λ (l : List ℕ). run (suc h.steps + n) (length l) start (bits_of (t ++ more))) (append-nil put)
    ∙ ap (λ (k : ℕ). run k (length put) start (bits_of (t ++ more))) (omega arith)
    ∙ h.fills more (suc n) ∙ ap (λ (l : List ℕ). Ok (reverse l)) (sym (append-nil put))
fills_on old new t put (Some b) h e more n =
    let room = length (put ++ b ∷ []) in
    let s = stand old.reader (reverse put) in
    let u = stand new.reader (reverse (put ++ b ∷ [])) in
    ap (λ (k : ℕ). run k room start (bits_of (t ++ more))) (omega arith)
    ∙ h.runs more (suc n) room (omega (arith, length-append put (b ∷ [])))
    ∙ run_on n room s (old.reader.held ++ bits_of more) u (new.reader.held ++ bits_of more)
    (omega (arith, length-reverse put, length-append put (b ∷ []))) (e more)
    ∙ run_full n room u (new.reader.held ++ bits_of more) (omega (arith, length-reverse (put ++ b ∷ [])))

pub stands_on : (old new : Inflate) (t put : List ℕ) (byte : Option ℕ) → Stands old t put
    → element (stand old.reader (reverse put)) old.reader.held ≡ Ok (stand new.reader (with byte (reverse put)), new.reader.held)
    → length new.reader.held < length old.reader.held + one byte
    → Stands new t (put ++ listed byte)
stands_on old new t put byte h e less =
    let out = reverse put in
    let s = stand old.reader out in
    let u : element s old.reader.held ≡ Ok (stand new.reader (reverse (put ++ listed byte)), new.reader.held) =
    e ∙ ap (λ (l : List ℕ). Ok (stand new.reader l, new.reader.held)) (sym (reverse_with byte put)) in
    let new_stand = stand new.reader (reverse (put ++ listed byte)) in
    let on : (more : List ℕ) → element s (old.reader.held ++ bits_of more) ≡ Ok (new_stand, new.reader.held ++ bits_of more) =
    λ more. (reads_element s old.reader.held (Ok (new_stand, new.reader.held)) u (λ w. cc)).read old.reader.held (bits_of more) new_stand new.reader.held (whole more) u in
    record {
      steps = suc h.steps;
      few = omega (arith, h.few, less, length_listed byte put);
      leads = λ more. after_more h.steps start (bits_of (t ++ more)) (s, old.reader.held ++ bits_of more) (new_stand, new.reader.held ++ bits_of more) (h.leads more) (on more);
      needed = needed_on s new_stand old.reader.held new.reader.held h.needed u;
      runs = λ more n room lt.
          let few : length put < room = omega (arith, length_listed byte put) in
          ap (λ (k : ℕ). run k room start (bits_of (t ++ more))) (omega arith) ∙ h.runs more (suc n) room few
          ∙ run_on n room s (old.reader.held ++ bits_of more) new_stand (new.reader.held ++ bits_of more) (omega (arith, length-reverse put)) (on more);
      fills = fills_on old new t put byte h on;
    }

-- a byte more is taken, where it is needed
pub stands_taken : (old new : Inflate) (t put : List ℕ) (byte : ℕ) → Stands old t put → stand new.reader (reverse put) ≡ stand old.reader (reverse put)
    → new.reader.held ≡ old.reader.held ++ bits 8 byte → element (stand old.reader (reverse put)) old.reader.held ≡ Err Short → Stands new (t ++ byte ∷ []) put
stands_taken old new t put byte h s held short =
    let more_is : (more : List ℕ) → old.reader.held ++ (bits 8 byte ++ bits_of more) ≡ new.reader.held ++ bits_of more = λ more.
    sym (append_assoc old.reader.held (bits 8 byte) (bits_of more)) ∙ ap (λ (l : List ℕ). l ++ bits_of more) (sym held) in
    record {
      steps = h.steps;
      few = omega (arith, h.few, ap {A = List ℕ} length held, length-append old.reader.held (bits 8 byte), length_bits 8 byte, length-append t (byte ∷ []));
      leads = λ more.
          ap (λ (l : List ℕ). after h.steps start (bits_of l)) (append_assoc t (byte ∷ []) more) ∙ h.leads (byte ∷ more)
          ∙ ap (λ (a : Stand). Ok (a, old.reader.held ++ (bits 8 byte ++ bits_of more))) (sym s)
          ∙ ap (λ (l : List ℕ). Ok (stand new.reader (reverse put), l)) (more_is more);
      needed = λ long. (old.reader.held, byte, held, ap (λ (a : Stand). element a old.reader.held) s ∙ short);
      runs = λ more n room lt.
          ap (λ (l : List ℕ). run (h.steps + n) room start (bits_of l)) (append_assoc t (byte ∷ []) more) ∙ h.runs (byte ∷ more) n room lt
          ∙ ap (λ (a : Stand). run n room a (old.reader.held ++ (bits 8 byte ++ bits_of more))) (sym s)
          ∙ ap (λ (l : List ℕ). run n room (stand new.reader (reverse put)) l) (more_is more);
      fills = λ more n. ap (λ (l : List ℕ). run (h.steps + n) (length put) start (bits_of l)) (append_assoc t (byte ∷ []) more) ∙ h.fills (byte ∷ more) n;
    }

-- what the bytes that were taken say, where reading stops
pub unpacks : (m : Inflate) (t put : List ℕ) (stop : Stop) → Stands m t put → element (stand m.reader (reverse put)) m.reader.held ≡ Err stop → Unpacks t put stop
unpacks m t put stop h e = record {
  place = stand m.reader (reverse put);
  rest = m.reader.held;
  out_is = reverse-reverse put;
  leads = (
    h.steps,
    ap (λ (l : List ℕ). after h.steps start (bits_of l)) (sym (append-nil t)) ∙ h.leads []
        ∙ ap (λ (l : List ℕ). Ok (stand m.reader (reverse put), l)) (append-nil m.reader.held),
  );
  stops = e;
}

pub unpacks_broken : (m : Inflate) (t put more : List ℕ) (f : Fault) → Stands m t put → element (stand m.reader (reverse put)) m.reader.held ≡ Err (Broken f)
    → Unpacks (t ++ more) put (Broken f)
unpacks_broken m t put more f h e = record {
  place = stand m.reader (reverse put);
  rest = m.reader.held ++ bits_of more;
  out_is = reverse-reverse put;
  leads = (h.steps, h.leads more);
  stops = (reads_element (stand m.reader (reverse put)) m.reader.held (Err (Broken f)) e (λ w. cc)).broken m.reader.held (bits_of more) f (whole more) e;
}

pub ends : (m : Inflate) (t put : List ℕ) → Stands m t put → element (stand m.reader (reverse put)) m.reader.held ≡ Err Ended → Ends t put
unfolding unpacks
ends m t put h e = record {
  unpacks = unpacks m t put Ended h e;
  none_left = few (length m.reader.held) (λ long.
      let last = h.needed long in
      (reads_element (stand m.reader (reverse put)) last.0 (Err Short) last.3 (λ w. cc)).going m.reader.held e);
}
  where
    few : (n : ℕ) → (8 ≤ n → ⊥) → n < 8
    few n h = grind arith

-- what the bytes that were taken begin with
pub front_full : (m : Inflate) (t put more : List ℕ) → Stands m t put → front (length put) (t ++ more) ≡ Ok put
front_full m t put more h =
    let n = 8 * length (t ++ more) + length put + 1 in
    let k : n ≡ h.steps + (n - h.steps) = omega (arith, h.few, length-append t more) in
    ap (λ (j : ℕ). run j (length put) start (bits_of (t ++ more)) >>= λ out. Ok (reverse out)) k
    ∙ ap (λ (r : Result (List ℕ) Stop). r >>= λ out. Ok (reverse out)) (h.fills more (n - h.steps))
    ∙ ap (λ (l : List ℕ). Ok l) (reverse-reverse put)

pub front_stops : (m : Inflate) (t put more : List ℕ) (room : ℕ) (stop : Stop) → Stands m t put → length put < room
    → element (stand m.reader (reverse put)) (m.reader.held ++ bits_of more) ≡ Err stop → front room (t ++ more) ≡ stopped stop put
front_stops m t put more room stop h lt e =
    let n = 8 * length (t ++ more) + room + 1 in
    let j = n - h.steps - 1 in
    let k : n ≡ h.steps + suc j = omega (arith, h.few, length-append t more) in
    let s = stand m.reader (reverse put) in
    ap (λ (i : ℕ). run i room start (bits_of (t ++ more)) >>= λ out. Ok (reverse out)) k
    ∙ ap (λ (r : Result (List ℕ) Stop). r >>= λ out. Ok (reverse out))
    (h.runs more (suc j) room lt ∙ run_stops j room s (m.reader.held ++ bits_of more) stop (omega (arith, length-reverse put)) e)
    ∙ turned stop
  where
    turned : (stop : Stop) → stopped stop (reverse put) >>= (λ out. Ok (reverse out)) ≡ stopped stop put
    turned Ended = ap (λ (l : List ℕ). Ok l) (reverse-reverse put)
    turned Short = refl
    turned (Broken f) = refl

pub front_broken : (m : Inflate) (t put more : List ℕ) (room : ℕ) (f : Fault) → Stands m t put → length put < room
    → element (stand m.reader (reverse put)) m.reader.held ≡ Err (Broken f) → front room (t ++ more) ≡ Err (Broken f)
front_broken m t put more room f h lt e = front_stops m t put more room (Broken f) h lt
    ((reads_element (stand m.reader (reverse put)) m.reader.held (Err (Broken f)) e (λ w. cc)).broken m.reader.held (bits_of more) f (whole more) e)

pub front_ended : (m : Inflate) (t put more : List ℕ) (room : ℕ) → Stands m t put → length put < room
    → element (stand m.reader (reverse put)) m.reader.held ≡ Err Ended → front room (t ++ more) ≡ Ok put
front_ended m t put more room h lt e =
    let s = stand m.reader (reverse put) in
    front_stops m t put more room Ended h lt (ended_more s.phase s m.reader.held (bits_of more) e)

pub front_short : (m : Inflate) (t put : List ℕ) (room : ℕ) → Stands m t put → length put < room
    → element (stand m.reader (reverse put)) m.reader.held ≡ Err Short → front room t ≡ Err Short
front_short m t put room h lt e =
    let s = stand m.reader (reverse put) in
    ap (λ (l : List ℕ). front room l) (sym (append-nil t))
    ∙ front_stops m t put [] room Short h lt (ap (element s) (append-nil m.reader.held) ∙ e)

pub front_filled : (m : Inflate) (t output more : List ℕ) (n : ℕ) → Stands m t (take n output) → n ≡ length output → front n (t ++ more) ≡ Ok output
front_filled m t output more n h e =
    let all : take n output ≡ output = take_all n output (omega arith) in
    ap (λ (k : ℕ). front k (t ++ more)) (e ∙ ap {A = List ℕ} length (sym all)) ∙ front_full m t (take n output) more h ∙ ap (λ (l : List ℕ). Ok l) all

-- where reading stops, it stops in one way
first_stops : (s : Stand) (from : List ℕ) (k : Stand → List ℕ → Read Stand) (p q : Stand × List ℕ) (a : Stop) → ◌≡◌ {A = Read Stand} (Ok (s, from)) (Ok p) → element p.0 p.1 ≡ Err a
    → element s from >>= (λ r. k r.0 r.1) ≡ Ok q → ◌≡◌ {A = Read Stand} (Ok p) (Ok q)
first_stops s from k p q a e u f =
    let stop : element s from ≡ Err a = ap (λ (w : Read Stand). w >>= λ x. element x.0 x.1) e ∙ u in
    absurd (no_more a (sym (ap (λ (w : Read Stand). w >>= (λ r. k r.0 r.1)) stop) ∙ f))
  where
    no_more : (a : Stop) → ◌≡◌ {A = Read Stand} (Err a) (Ok q) → ⊥
    no_more a w = cc

abbrev place_of : Stand → Read Stand → Stand
place_of d (Ok p) = p.0
place_of d (Err a) = d

same_place : (n m : ℕ) (s : Stand) (from : List ℕ) (p q : Stand × List ℕ) (a b : Stop) → after n s from ≡ Ok p → after m s from ≡ Ok q
    → element p.0 p.1 ≡ Err a → element q.0 q.1 ≡ Err b → ◌≡◌ {A = Read Stand} (Ok p) (Ok q)
unfolding after
same_place zero zero s from p q a b e f u v = sym e ∙ f
same_place zero (suc m) s from p q a b e f u v = first_stops s from (after m) p q a e u f
same_place (suc n) zero s from p q a b e f u v = sym (first_stops s from (after n) q p b f v e)
same_place (suc n) (suc m) s from p q a b e f u v = by_first (element s from) e f (λ r. same_place n m r.0 r.1 p q a b)
  where
    by_first : (w : Read Stand) → w >>= (λ r. after n r.0 r.1) ≡ Ok p → w >>= (λ r. after m r.0 r.1) ≡ Ok q
        → ((r : Stand × List ℕ) → after n r.0 r.1 ≡ Ok p → after m r.0 r.1 ≡ Ok q → element p.0 p.1 ≡ Err a → element q.0 q.1 ≡ Err b → ◌≡◌ {A = Read Stand} (Ok p) (Ok q))
        → ◌≡◌ {A = Read Stand} (Ok p) (Ok q)
    by_first (Ok r) i j more = more r i j u v
    by_first (Err x) i j more = absurd cc

pub one_way : (bytes o r : List ℕ) (a b : Stop) → Unpacks bytes o a → Unpacks bytes r b → (o ≡ r) × (a ≡ b)
one_way bytes o r a b u v =
    let same = same_place u.leads.0 v.leads.0 start (bits_of bytes) (u.place, u.rest) (v.place, v.rest) a b u.leads.1 v.leads.1 u.stops v.stops in
    let outs : reverse u.place.out ≡ reverse v.place.out = ap (λ (w : Read Stand). reverse (place_of u.place w).out) same in
    let stops : ◌≡◌ {A = Read Stand} (Err a) (Err b) = sym u.stops ∙ ap (λ (w : Read Stand). w >>= λ x. element x.0 x.1) same ∙ v.stops in
    (sym u.out_is ∙ outs ∙ v.out_is, cc)
