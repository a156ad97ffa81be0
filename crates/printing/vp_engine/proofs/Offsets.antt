-- The places of items: they stay, they don't go down, and each is that of the byte that gives its item.
use Rattle.std.proofs.Common.{◌≡◌, Bool, true, false, ℕ, suc, ◌+◌, ◌<◌, ◌≤◌, List, [], ◌∷◌, ◌++◌, length, take, map, flat_map, decimal, nat_lt, cond, append_assoc, refl, sym, ap, ◌∙◌, arith, length-append, subst}
use Rattle.std.proofs.lemmas.Bool.{lt-ltb, le-ltb, ltb-true, eqb-true, eqb-false}
use Rattle.std.proofs.lemmas.List.{append-nil, take_at}
use Rattle.vp_streams.specs.Count.{counted}
use Rattle.vp_engine.specs.Bytes.{IsPrefix}
use Rattle.vp_engine.specs.Offsets.{Placed, offset_from, offset_of, placed_from, listed_items, listed_by, offset_line, placed_line}
use Rattle.vp_engine.specs.Paper.{Reading, Reads}

-- an item at a place
abbrev pub at_place : {Item : Type 0} → ℕ → Item → Placed Item
at_place n item = record { offset = n; item = item }

module _ {Item : Type 0} (reading : Reading Item) where
  one_more : (k : ℕ) (front : List ℕ) (b : ℕ) (rest : List ℕ) →
      offset_from reading k front (b ∷ rest) ≡ cond (nat_lt k (length (reading.items front))) (length front) (offset_from reading k (front ++ b ∷ []) rest)
  unfolding offset_from
  one_more k front b rest = refl

  none_more : (k : ℕ) (front : List ℕ) → offset_from reading k front [] ≡ length front
  unfolding offset_from
  none_more k front = refl

  there : (k : ℕ) (front : List ℕ) (b : ℕ) (rest : List ℕ) → k < length (reading.items front) → offset_from reading k front (b ∷ rest) ≡ length front
  there k front b rest l = one_more k front b rest ∙ ap (λ t. cond t (length front) (offset_from reading k (front ++ b ∷ []) rest)) (lt-ltb k (length (reading.items front)) l)

  later : (k : ℕ) (front : List ℕ) (b : ℕ) (rest : List ℕ) → length (reading.items front) ≤ k → offset_from reading k front (b ∷ rest) ≡ offset_from reading k (front ++ b ∷ []) rest
  later k front b rest l = one_more k front b rest ∙ ap (λ t. cond t (length front) (offset_from reading k (front ++ b ∷ []) rest)) (le-ltb k (length (reading.items front)) l)

  at_front : (k : ℕ) (front rest : List ℕ) → k < length (reading.items front) → offset_from reading k front rest ≡ length front
  at_front k front [] l = none_more k front
  at_front k front (b ∷ rest) l = there k front b rest l

  shift : (front : List ℕ) (b : ℕ) (rest : List ℕ) → (front ++ b ∷ []) ++ rest ≡ front ++ b ∷ rest
  shift front b rest = append_assoc front (b ∷ []) rest

  -- what is given keeps its place
  stays_by : (k : ℕ) (front rest more : List ℕ) → k < length (reading.items (front ++ rest)) → offset_from reading k front (rest ++ more) ≡ offset_from reading k front rest
  stays_by k front [] more l = grind (arith, at_front, append-nil)
  stays_by k front (b ∷ rest) more l = grind (arith, one_more, nat_lt, shift, stays_by k (front ++ b ∷ []) rest more (subst (λ x. k < length (reading.items x)) (sym (shift front b rest)) l))

  least_by : (k : ℕ) (front rest : List ℕ) → length front ≤ offset_from reading k front rest
  least_by k front [] = omega (arith, none_more k front)
  least_by k front (b ∷ rest) = grind (arith, least_by k (front ++ b ∷ []) rest, there, ltb-true, later, length-append)

  within_by : (k : ℕ) (front rest : List ℕ) → offset_from reading k front rest ≤ length (front ++ rest)
  within_by k front [] = omega (arith, none_more k front, length-append front [])
  within_by k front (b ∷ rest) = grind (arith, within_by k (front ++ b ∷ []) rest, there, ltb-true, length-append, later, shift)

  pub place_within : (bytes : List ℕ) (k : ℕ) → offset_of reading bytes k ≤ length bytes
  place_within bytes k = within_by k [] bytes

  -- so many bytes give the item
  gives_at : (k : ℕ) (front : List ℕ) (b : ℕ) (rest : List ℕ) → k < length (reading.items (take (offset_from reading k (front ++ b ∷ []) rest) ((front ++ b ∷ []) ++ rest))) →
      (t : Bool) → nat_lt k (length (reading.items front)) ≡ t → k < length (reading.items (take (offset_from reading k front (b ∷ rest)) (front ++ b ∷ rest)))
  gives_at k front b rest next t e = grind (arith, ltb-true, take_at, there, later, shift)

  gives_by : (k : ℕ) (front rest : List ℕ) → k < length (reading.items (front ++ rest)) → k < length (reading.items (take (offset_from reading k front rest) (front ++ rest)))
  gives_by k front [] l = grind (arith, take_at, none_more, append-nil)
  gives_by k front (b ∷ rest) l = grind (arith, gives_at, shift, nat_lt, gives_by k (front ++ b ∷ []) rest (subst (λ x. k < length (reading.items x)) (sym (shift front b rest)) l))

  pub place_gives : (bytes : List ℕ) (k : ℕ) → k < length (reading.items bytes) → k < length (reading.items (take (offset_of reading bytes k) bytes))
  place_gives bytes k l = gives_by k [] bytes l

  shortest_by : (k n : ℕ) (front rest : List ℕ) → length front ≤ n → n < offset_from reading k front rest → length (reading.items (take n (front ++ rest))) ≤ k
  shortest_by k n front [] from l = omega (arith, from, l, none_more k front)
  shortest_by k n front (b ∷ rest) from l = grind (arith, there, ltb-true, take_at, eqb-true, eqb-false, length-append, later, shift, shortest_by k n (front ++ b ∷ []) rest)

  pub place_shortest : (bytes : List ℕ) (k n : ℕ) → n < offset_of reading bytes k → length (reading.items (take n bytes)) ≤ k
  place_shortest bytes k n l = shortest_by k n [] bytes (omega arith) l

  rises_by : (j k : ℕ) (front rest : List ℕ) → j ≤ k → offset_from reading j front rest ≤ offset_from reading k front rest
  rises_by j k front [] l = omega (arith, none_more j front, none_more k front)
  rises_by j k front (b ∷ rest) l = grind (arith, rises_by j k (front ++ b ∷ []) rest l, there, ltb-true, least_by, later)

  pub place_rises : (bytes : List ℕ) (j k : ℕ) → j ≤ k → offset_of reading bytes j ≤ offset_of reading bytes k
  place_rises bytes j k l = rises_by j k [] bytes l

  pub place_stays : (bytes more : List ℕ) (k : ℕ) → k < length (reading.items bytes) → offset_of reading (bytes ++ more) k ≡ offset_of reading bytes k
  place_stays bytes more k l = stays_by k [] bytes more l

  placed_stays : (bytes more : List ℕ) (k : ℕ) (items : List Item) → k + length items ≤ length (reading.items bytes) → placed_from reading (bytes ++ more) k items ≡ placed_from reading bytes k items
  placed_stays bytes more k [] l = refl
  placed_stays bytes more k (i ∷ items) l = grind (arith, place_stays, placed_stays bytes more (suc k) items (omega (arith, l)))

  placed_append : (bytes : List ℕ) (k : ℕ) (xs ys : List Item) → placed_from reading bytes k (xs ++ ys) ≡ placed_from reading bytes k xs ++ placed_from reading bytes (k + length xs) ys
  placed_append bytes k [] ys = ap (λ n. placed_from reading bytes n ys) (omega arith)
  placed_append bytes k (i ∷ xs) ys = grind (arith, placed_append bytes (suc k) xs ys)

  -- more bytes give more items behind those that there are
  places_read : Reads reading → Reads (listed_by true reading)
  places_read reads = record {
    nothing = ap (placed_from reading [] 0) reads.nothing;
    no_fault = reads.no_fault;
    grows = λ bytes more. let p = reads.grows bytes more in (
      placed_from reading (bytes ++ more) (length (reading.items bytes)) p.0,
      sym (grind (arith, placed_append, placed_stays)),
    );
    stays = reads.stays;
  }

  -- with places or without
  pub listed_reads : (w : Bool) → Reads reading → Reads (listed_by w reading)
  listed_reads false reads = record { nothing = reads.nothing; no_fault = reads.no_fault; grows = reads.grows; stays = reads.stays }
  listed_reads true reads = places_read reads

  module _ (grows : (bytes more : List ℕ) → IsPrefix (reading.items bytes) (reading.items (bytes ++ more))) where
    no_fewer : (bytes more : List ℕ) → length (reading.items bytes) ≤ length (reading.items (bytes ++ more))
    no_fewer bytes more = let p = grows bytes more in omega (arith, length-append (reading.items bytes) p.0, ap length p.1)

    last_by : (k : ℕ) (front rest : List ℕ) (b : ℕ) → length (reading.items (front ++ rest)) ≤ k → offset_from reading k front (rest ++ b ∷ []) ≡ suc (length (front ++ rest))
    last_by k front [] b l = grind (arith, later, append-nil, none_more, length-append)
    last_by k front (c ∷ rest) b l =
        let fewer = no_fewer front (c ∷ rest) in
        later k front c (rest ++ b ∷ []) (omega (arith, fewer, l)) ∙ last_by k (front ++ c ∷ []) rest b (subst (λ x. length (reading.items x) ≤ k) (sym (shift front c rest)) l)
        ∙ ap (λ x. suc (length x)) (shift front c rest)

    placed_last : (t : List ℕ) (b k : ℕ) (added : List Item) → length (reading.items t) ≤ k → placed_from reading (t ++ b ∷ []) k added ≡ map (at_place (suc (length t))) added
    placed_last t b k [] l = refl
    placed_last t b k (i ∷ added) l = grind (arith, last_by, placed_last t b (suc k) added (omega (arith, l)))

    -- the items that a byte gives have its place
    pub placed_byte : (t : List ℕ) (b : ℕ) (added : List Item) → reading.items (t ++ b ∷ []) ≡ reading.items t ++ added →
        listed_items true reading (t ++ b ∷ []) ≡ listed_items true reading t ++ map (at_place (suc (length t))) added
    placed_byte t b added e =
        (grind (arith, placed_append, placed_stays))
        ∙ ap (λ x. listed_items true reading t ++ x)
        (placed_last t b (length (reading.items t)) added (omega arith))

-- the line at a place that a count gives
pub line_at : (n taken : ℕ) (line : List ℕ) → counted taken ≡ counted n → offset_line taken line ≡ offset_line n line
line_at n taken line e = ap (λ x. decimal x ++ 0x20 ∷ line) e

pub lines_at : {Item : Type 0} (line : Item → List ℕ) (n taken : ℕ) (items : List Item) → counted taken ≡ counted n →
    flat_map (λ i. offset_line taken (line i)) items ≡ flat_map (placed_line line) (map (at_place n) items)
lines_at line n taken [] e = refl
lines_at line n taken (i ∷ items) e = ap (λ x. x ++ flat_map (λ i. offset_line taken (line i)) items) (line_at n taken (line i) e) ∙ ap (λ x. offset_line n (line i) ++ x) (lines_at line n taken items e)

pub placed_count : {Item : Type 0} (n : ℕ) (items : List Item) → length (map (at_place n) items) ≡ length items
placed_count n [] = refl
placed_count n (i ∷ items) = ap suc (placed_count n items)
