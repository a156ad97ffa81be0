-- The scheme of the fewest codewords.
use Rattle.std.proofs.Common.{◌≡◌, ℕ, Bool, true, false, ◌+◌, ◌-◌, ◌≤◌, ◌==◌, ◌&&◌, nat_lt, List, ◌++◌, length, take, drop, refl, arith, length-append}
use Rattle.std.proofs.lemmas.Bool.{ltb-true, ltb-false, eqb-false, and_parts}
use Rattle.vp_data_matrix.specs.declared.message.Lead.{Lead}
use Rattle.vp_data_matrix.specs.declared.message.Scheme.{Scheme}
use Rattle.vp_data_matrix.specs.declared.message.Scheme.TheVariants.{Ascii, Triples, Edifact, Base256}
use Rattle.vp_data_matrix.specs.declared.triple.Charset.TheVariants.{C40, Text, X12}
use Rattle.vp_data_matrix.specs.Messages.{lead_words, takes, encoded, better, scheme_of, message, message_in}
use Rattle.vp_data_matrix.specs.Ascii.{ascii}
use Rattle.vp_data_matrix.specs.Triples.{front}
use Rattle.vp_data_matrix.proofs.Words.{length-base_256}
use Rattle.vp_data_matrix.proofs.TripleWords.{length-triples, unlatch_spare}

-- how many codewords there are, wherever they stand
encoded_length : (s : Scheme) (before : ℕ) (src : List ℕ) → length (encoded true s before src) ≡ length (encoded true s 0 src)
encoded_length Ascii before src = refl
encoded_length (Triples set) before src = refl
encoded_length Edifact before src = refl
encoded_length Base256 before src = omega (arith, length-base_256 before src, length-base_256 0 src)

pub length-message : (lead : Lead) (src : List ℕ) → length (message true lead src) ≡ length (lead_words lead) + length (encoded true (scheme_of src) 0 src)
unfolding message
length-message lead src =
    let before : ℕ = length (lead_words lead) in
    omega (arith, length-append (lead_words lead) (encoded true (scheme_of src) before src), encoded_length (scheme_of src) before src)

-- where they don't fill a symbol there may be one more
encoded_spare : (s : Scheme) (before : ℕ) (src : List ℕ) → length (encoded false s before src) ≤ length (encoded true s before src) + 1
encoded_spare Ascii before src = omega arith
encoded_spare (Triples set) before src =
    omega (
      arith,
      length-triples false set src (front set src) refl,
      length-triples true set src (front set src) refl,
      unlatch_spare (length (ascii (take (length src - front set src) (drop (front set src) src)))),
    )
encoded_spare Edifact before src = omega arith
encoded_spare Base256 before src = omega arith

pub message_room : (capacity : ℕ) (lead : Lead) (src : List ℕ) → length (message true lead src) ≤ capacity → length (message_in capacity lead src) ≤ capacity
unfolding message message_in
message_room capacity lead src h = by_test (length (message true lead src) == capacity) refl
  where
    by_test : (b : Bool) → (length (message true lead src) == capacity) ≡ b → length (message_in capacity lead src) ≤ capacity
    by_test true e = rw e h
    by_test false e =
        let before : ℕ = length (lead_words lead) in
        let less : length (message true lead src) + 1 ≤ capacity = omega (arith, eqb-false (length (message true lead src)) capacity e) in
        rw e (omega (arith, encoded_spare (scheme_of src) before src, length-append (lead_words lead) (encoded false (scheme_of src) before src), length-append (lead_words lead) (encoded true (scheme_of src) before src)))

-- what is written
pub message_is : (capacity n : ℕ) (lead : Lead) (src words : List ℕ) (s : Scheme) → words ≡ lead_words lead → s ≡ scheme_of src → n ≡ length (message true lead src)
    → words ++ encoded (n == capacity) s (length words) src ≡ message_in capacity lead src
unfolding message message_in
message_is capacity n lead src words s w e h = rw (w, e, h) refl

-- the better one of two takes no more than each of them
better_one : (src : List ℕ) (one other : Scheme) → length (encoded true (better src one other) 0 src) ≤ length (encoded true one 0 src)
unfolding better
better_one src one other = by_test (takes other src && nat_lt (length (encoded true other 0 src)) (length (encoded true one 0 src))) refl
  where
    by_test : (b : Bool) → takes other src && nat_lt (length (encoded true other 0 src)) (length (encoded true one 0 src)) ≡ b → length (encoded true (better src one other) 0 src) ≤ length (encoded true one 0 src)
    by_test true e = rw e (omega (arith, ltb-true (length (encoded true other 0 src)) (length (encoded true one 0 src)) (and_parts (takes other src) (nat_lt (length (encoded true other 0 src)) (length (encoded true one 0 src))) e).1))
    by_test false e = rw e (omega arith)

better_other : (src : List ℕ) (one other : Scheme) → takes other src ≡ true → length (encoded true (better src one other) 0 src) ≤ length (encoded true other 0 src)
unfolding better
better_other src one other h = by_test (nat_lt (length (encoded true other 0 src)) (length (encoded true one 0 src))) refl
  where
    by_test : (b : Bool) → nat_lt (length (encoded true other 0 src)) (length (encoded true one 0 src)) ≡ b → length (encoded true (better src one other) 0 src) ≤ length (encoded true other 0 src)
    by_test true e = rw (h, e) (omega arith)
    by_test false e = rw (h, e) (omega (arith, ltb-false (length (encoded true other 0 src)) (length (encoded true one 0 src)) e))

-- the better one of the first two, three, four and five schemes
abbrev of_two : List ℕ → Scheme
of_two src = better src Ascii (Triples C40)

abbrev of_three : List ℕ → Scheme
of_three src = better src (of_two src) (Triples Text)

abbrev of_four : List ℕ → Scheme
of_four src = better src (of_three src) (Triples X12)

abbrev of_five : List ℕ → Scheme
of_five src = better src (of_four src) Edifact

-- no scheme that has the bytes takes fewer codewords
pub fewest : (src : List ℕ) (s : Scheme) → takes s src ≡ true → length (encoded true (scheme_of src) 0 src) ≤ length (encoded true s 0 src)
fewest src s h = by_scheme s h
  where
    third : length (encoded true (scheme_of src) 0 src) ≤ length (encoded true (of_three src) 0 src)
    third = omega (arith, better_one src (of_three src) (Triples X12), better_one src (of_four src) Edifact, better_one src (of_five src) Base256)

    by_scheme : (s : Scheme) → takes s src ≡ true → length (encoded true (scheme_of src) 0 src) ≤ length (encoded true s 0 src)
    by_scheme Ascii h = omega (arith, third, better_one src Ascii (Triples C40), better_one src (of_two src) (Triples Text))
    by_scheme (Triples C40) h = omega (arith, third, better_other src Ascii (Triples C40) h, better_one src (of_two src) (Triples Text))
    by_scheme (Triples Text) h = omega (arith, third, better_other src (of_two src) (Triples Text) h)
    by_scheme (Triples X12) h = omega (arith, better_other src (of_three src) (Triples X12) h, better_one src (of_four src) Edifact, better_one src (of_five src) Base256)
    by_scheme Edifact h = omega (arith, better_other src (of_four src) Edifact h, better_one src (of_five src) Base256)
    by_scheme Base256 h = better_other src (of_five src) Base256 h
