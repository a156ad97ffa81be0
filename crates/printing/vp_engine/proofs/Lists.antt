-- What a listing does with a byte, and with a run of bytes of data, with places or without.
use Rattle.std.proofs.Common.{◌≡◌, ℕ, Bool, true, false, suc, ◌≤◌, List, [], ◌∷◌, ◌++◌, length, take, map, flat_map, append_assoc, Option, Some, None, Ok, Err, refl, sym, ap, ◌∙◌, arith, length-append}
use Rattle.std.proofs.lemmas.List.{append-nil, take-take, length-take-le}
use Rattle.std.proofs.Math.Seq.{take-length}
use Rattle.vp_dots.specs.declared.fault.Fault.{Fault}
use Rattle.vp_esc.specs.declared.item.EscItem.TheVariants.{RasterByte}
use Rattle.vp_esc.specs.Lines.{line_of}
use Rattle.vp_streams.specs.Count.{counted, grown}
use Rattle.vp_engine.specs.Bytes.{IsPrefix}
use Rattle.vp_engine.specs.Lines.{Listed, taken_of, more_taken, listed_line, byte_lines, byte_lines_after, listed_bytes}
use Rattle.vp_engine.specs.Machines.{AreLines}
use Rattle.vp_engine.specs.Offsets.{Placed, ListedItem, listed_items, listed_by, line_by, placed_line}
use Rattle.vp_engine.specs.Paper.{Reading, listing, printed}
use Rattle.vp_engine.specs.Takes.{Takes, TakesRun}
use Rattle.vp_engine.proofs.Listings.{lines_more}
use Rattle.vp_engine.proofs.Offsets.{at_place, placed_byte, placed_count, lines_at}
use Rattle.vp_engine.proofs.Rasters.{all_listed, printed_lines}

-- as many bytes more are taken
pub all_taken : (w : Bool) (old new : Option ℕ) (t more : List ℕ) → old ≡ taken_of w t → new ≡ more_taken old (length more) → new ≡ taken_of w (t ++ more)
all_taken w old new t more e f = grind (arith, length-append)

module _ {Item : Type 0} (reading : Reading Item) (line : Item → List ℕ)
    (grows : (bytes more : List ℕ) → IsPrefix (reading.items bytes) (reading.items (bytes ++ more))) where
  -- items that a byte gives, at their place or without
  abbrev listed_at : (w : Bool) → ℕ → List Item → List (ListedItem w Item)
  listed_at false n items = items
  listed_at true n items = map (at_place n) items

  listed_more : (w : Bool) (t : List ℕ) (b : ℕ) (items : List Item) → reading.items (t ++ b ∷ []) ≡ reading.items t ++ items →
      listed_items w reading (t ++ b ∷ []) ≡ listed_items w reading t ++ listed_at w (suc (length t)) items
  listed_more false t b items e = e
  listed_more true t b items e = placed_byte reading grows t b items e

  listed_count : (w : Bool) (n : ℕ) (items : List Item) → length (listed_at w n items) ≡ length items
  listed_count false n items = refl
  listed_count true n items = placed_count n items

  listed_lines : (w : Bool) (old new : Option ℕ) (t : List ℕ) (items : List Item) → old ≡ taken_of w t → new ≡ more_taken old 1 →
      flat_map (λ i. listed_line new (line i)) items ≡ flat_map (line_by w line) (listed_at w (suc (length t)) items)
  listed_lines false old new t items e f = ap (λ p. flat_map (λ i. listed_line p (line i)) items) (f ∙ ap (λ o. more_taken o 1) e)
  listed_lines true old new t items e f =
      ap (λ p. flat_map (λ i. listed_line p (line i)) items) (f ∙ ap (λ o. more_taken o 1) e)
      ∙ lines_at line (suc (length t)) (grown (counted (length t)) 1) items (omega arith)

  -- a byte gives items, whose lines are begun
  pub lists : (w : Bool) (Reads : List ℕ → Type 0) (old new : Listed) (t : List ℕ) (b : ℕ) (items : List Item) (before : List (ListedItem w Item)) →
      AreLines w old t before → reading.fault_of (t ++ b ∷ []) ≡ None → reading.items (t ++ b ∷ []) ≡ reading.items t ++ items → Reads (t ++ b ∷ []) →
      new.pending ≡ flat_map (λ i. listed_line new.taken (line i)) items → new.count ≡ grown old.count (length items) → new.taken ≡ more_taken old.taken 1 →
      Takes (listing (listed_by w reading) (line_by w line)) (λ t before. Reads t × AreLines w new t before) new.pending t before b (Ok tt)
  lists w Reads old new t b items before at known gives reads pending count taken =
      let added = listed_at w (suc (length t)) items in let rules = listing (listed_by w reading) (line_by w line) in
      record {
        given = Ok added;
        gives = (known, listed_more w t b items gives);
        comes = (
          all_listed (listed_by w reading) (line_by w line) added before,
          (
            reads,
            record {
              count = lines_more old.count new.count (length items) before added at.count count (listed_count w (suc (length t)) items);
              taken = all_taken w old.taken new.taken t (b ∷ []) at.taken taken;
            },
          ),
          printed_lines (listed_by w reading) (line_by w line) added before
              ∙ ap (λ x. printed rules before ++ x) (sym (pending ∙ listed_lines w old.taken new.taken t items at.taken taken)),
        );
      }

  -- a byte gives none
  pub lists_none : (w : Bool) (Reads : List ℕ → Type 0) (old new : Listed) (t : List ℕ) (b : ℕ) (before : List (ListedItem w Item)) →
      AreLines w old t before → reading.fault_of (t ++ b ∷ []) ≡ None → reading.items (t ++ b ∷ []) ≡ reading.items t ++ [] → Reads (t ++ b ∷ []) →
      new.pending ≡ [] → new.count ≡ old.count → new.taken ≡ more_taken old.taken 1 →
      Takes (listing (listed_by w reading) (line_by w line)) (λ t before. Reads t × AreLines w new t before) new.pending t before b (Ok tt)
  lists_none w Reads old new t b before at known gives reads pending count taken =
      lists w Reads old new t b [] before at known gives reads pending (omega (arith, count, at.count)) taken

  -- a byte makes a fault
  pub lists_fault : (w : Bool) (Reads : List ℕ → Type 0) (old new : Listed) (t : List ℕ) (b : ℕ) (before : List (ListedItem w Item)) (f : Fault) →
      AreLines w old t before → reading.fault_of (t ++ b ∷ []) ≡ Some f → Reads (t ++ b ∷ []) → new.pending ≡ [] → new.count ≡ old.count → new.taken ≡ more_taken old.taken 1 →
      Takes (listing (listed_by w reading) (line_by w line)) (λ t before. Reads t × AreLines w new t before) new.pending t before b (Err f)
  lists_fault w Reads old new t b before f at fault reads pending count taken = record {
    given = Err f;
    gives = fault;
    comes = (refl, (reads, record { count = count ∙ at.count; taken = all_taken w old.taken new.taken t (b ∷ []) at.taken taken }), pending);
  }

  -- an item for each byte, whose line is that of a byte of data
  module _ (of : ℕ → Item) (same : (b : ℕ) → line (of b) ≡ line_of (RasterByte b)) where
    -- each at its place, where so many bytes are taken before them
    abbrev placed_after : ℕ → List ℕ → List (Placed Item)
    placed_after n [] = []
    placed_after n (b ∷ run) = at_place (suc n) (of b) ∷ placed_after (suc n) run

    after_length : (n : ℕ) (run : List ℕ) → length (placed_after n run) ≡ length run
    after_length n [] = refl
    after_length n (b ∷ run) = ap suc (after_length (suc n) run)

    -- their lines
    after_lines : (n taken : ℕ) (run : List ℕ) → counted taken ≡ counted n → flat_map (placed_line line) (placed_after n run) ≡ byte_lines_after taken run
    after_lines n taken [] e = refl
    after_lines n taken (b ∷ run) e = grind (arith, after_lines (suc n) (suc taken) run (omega (arith, e)))

    -- a run whose bytes each give their item
    after_run : (t run : List ℕ) → ((n : ℕ) → n ≤ length run → reading.items (t ++ take n run) ≡ reading.items t ++ map of (take n run)) →
        listed_items true reading (t ++ run) ≡ listed_items true reading t ++ placed_after (length t) run
    after_run t [] gives = ap (listed_items true reading) (append-nil t) ∙ sym (append-nil (listed_items true reading t))
    after_run t (b ∷ run) gives =
        let one : reading.items (t ++ b ∷ []) ≡ reading.items t ++ of b ∷ [] = gives 1 (omega arith) in
        let next : (n : ℕ) → n ≤ length run → reading.items ((t ++ b ∷ []) ++ take n run) ≡ reading.items (t ++ b ∷ []) ++ map of (take n run) =
        λ n l. ap reading.items (append_assoc t (b ∷ []) (take n run)) ∙ gives (suc n) (omega (arith, l))
        ∙ sym (append_assoc (reading.items t) (of b ∷ []) (map of (take n run))) ∙ ap (λ x. x ++ map of (take n run)) (sym one) in
        let placed : List ℕ → List (Placed Item) = listed_items true reading in
        ap placed (sym (append_assoc t (b ∷ []) run)) ∙ after_run (t ++ b ∷ []) run next
        ∙ ap (λ x. x ++ placed_after (length (t ++ b ∷ [])) run) (placed_byte reading grows t b (of b ∷ []) one)
        ∙ ap (λ n. (placed t ++ at_place (suc (length t)) (of b) ∷ []) ++ placed_after n run) (omega (arith, length-append t (b ∷ [])))
        ∙ append_assoc (placed t) (at_place (suc (length t)) (of b) ∷ []) (placed_after (suc (length t)) run)

    plain_lines : (run : List ℕ) → flat_map line (map of run) ≡ byte_lines run
    plain_lines [] = refl
    plain_lines (b ∷ run) = ap (λ x. x ++ flat_map line (map of run)) (same b) ∙ ap (λ x. line_of (RasterByte b) ++ x) (plain_lines run)

    plain_length : (run : List ℕ) → length (map of run) ≡ length run
    plain_length [] = refl
    plain_length (b ∷ run) = ap suc (plain_length run)

    -- the items of a run, each at its place or without
    abbrev run_items : (w : Bool) → ℕ → List ℕ → List (ListedItem w Item)
    run_items false n run = map of run
    run_items true n run = placed_after n run

    run_count : (w : Bool) (n : ℕ) (run : List ℕ) → length (run_items w n run) ≡ length run
    run_count false n run = plain_length run
    run_count true n run = after_length n run

    run_lines : (w : Bool) (taken : Option ℕ) (t run : List ℕ) → taken ≡ taken_of w t → flat_map (line_by w line) (run_items w (length t) run) ≡ listed_bytes taken run
    run_lines false taken t run e = plain_lines run ∙ sym (ap (λ o. listed_bytes o run) e)
    run_lines true taken t run e = after_lines (length t) (counted (length t)) run (omega arith) ∙ sym (ap (λ o. listed_bytes o run) e)

    run_given : (w : Bool) (t run : List ℕ) → ((n : ℕ) → n ≤ length run → reading.items (t ++ take n run) ≡ reading.items t ++ map of (take n run)) →
        listed_items w reading (t ++ run) ≡ listed_items w reading t ++ run_items w (length t) run
    run_given false t run gives =
        ap (λ x. reading.items (t ++ x)) (sym (take-length run)) ∙ gives (length run) (omega arith) ∙ ap (λ x. reading.items t ++ map of x) (take-length run)
    run_given true t run gives = after_run t run gives

    -- a run is taken, and all its lines are put out
    lists_all : (w : Bool) (Reads : List ℕ → Type 0) (old new : Listed) (t run text : List ℕ) (before : List (ListedItem w Item)) → AreLines w old t before →
        ((n : ℕ) → n ≤ length run → reading.items (t ++ take n run) ≡ reading.items t ++ map of (take n run)) → reading.fault_of (t ++ run) ≡ None → Reads (t ++ run) →
        text ≡ listed_bytes old.taken run → new.count ≡ grown old.count (length run) → new.taken ≡ more_taken old.taken (length run) →
        TakesRun (listing (listed_by w reading) (line_by w line)) (λ t before. Reads t × AreLines w new t before) t before run text
    lists_all w Reads old new t run text before at gives known reads text_is count taken =
        let added = run_items w (length t) run in
        record {
          added = added;
          gives = run_given w t run gives;
          known = known;
          accepted = all_listed (listed_by w reading) (line_by w line) added before;
          prints = printed_lines (listed_by w reading) (line_by w line) added before
              ∙ ap (λ x. printed (listing (listed_by w reading) (line_by w line)) before ++ x) (run_lines w old.taken t run at.taken ∙ sym text_is);
          stands = (
            reads,
            record {
              count = lines_more old.count new.count (length run) before added at.count count (run_count w (length t) run);
              taken = all_taken w old.taken new.taken t run at.taken taken;
            },
          );
        }

    -- so many bytes of those that there is room for
    pub lists_run : (w : Bool) (Reads : List ℕ → Type 0) (old new : Listed) (t input : List ℕ) (room n : ℕ) (text : List ℕ) (before : List (ListedItem w Item)) → AreLines w old t before →
        room ≤ length input → n ≤ length (take room input) →
        ((k : ℕ) → k ≤ n → reading.items (t ++ take k (take room input)) ≡ reading.items t ++ map of (take k (take room input))) →
        reading.fault_of (t ++ take n (take room input)) ≡ None → Reads (t ++ take n (take room input)) →
        text ≡ listed_bytes old.taken (take n input) → new.count ≡ grown old.count (length (take n input)) → new.taken ≡ more_taken old.taken (length (take n input)) →
        TakesRun (listing (listed_by w reading) (line_by w line)) (λ t before. Reads t × AreLines w new t before) t before (take n input) text
    lists_run w Reads old new t input room n text before h within fits gives known reads text_is count taken = grind (arith, length-take-le, take-take, lists_all)
