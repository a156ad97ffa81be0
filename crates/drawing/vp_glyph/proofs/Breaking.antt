-- Lines, one after the other.
use Rattle.std.proofs.Common.{◌≡◌, ℕ, zero, suc, ◌+◌, ◌<◌, ◌≤◌, List, [], ◌∷◌, ◌++◌, false, length, take, drop, ◌⊎◌, get_or, eqb, cond, refl, sym, ap, ◌∙◌, arith, length-drop, inl, inr, eq-eqb, Bor, Option, MatchOption}
use Rattle.std.proofs.lemmas.List.{take_all, length-take-le, drop_more, take-append-drop, append-nil}
use Rattle.std.proofs.lemmas.List.Elements.{All-nil}
use Rattle.std.proofs.lemmas.Bool.{cases_eq, cases_lt, lt-leb, ne_eqb}
use Rattle.std.specs.Prelude.{flat_map}
use Rattle.std.specs.List.{All}
use Rattle.vp_glyph.specs.Blocks.{pieces, first, others, last_blank, line_length, behind_line, lines_upto, lines, StandIn, block_lines}

pub last_blank_within : (n : ℕ) (cells : List ℕ) → last_blank n cells ≤ n
last_blank_within zero cells = omega arith
last_blank_within (suc n) cells = grind (arith, last_blank_within n cells)

-- at least one cell stands in a line
pub behind_shorter : (n : ℕ) (cells : List ℕ) → 0 < n → n < length cells → length (behind_line n cells) < length cells
behind_shorter n cells p l = grind (arith, length-drop)

pub upto_short : (k n : ℕ) (cells : List ℕ) → length cells ≤ n → lines_upto k n cells ≡ cells ∷ []
upto_short k n cells h1 = grind arith

-- as many lines as there are cells are enough
pub upto_same : (m k n : ℕ) (cells : List ℕ) → 0 < n → length cells ≤ m → length cells ≤ k → lines_upto m n cells ≡ lines_upto k n cells
upto_same zero k n cells p a b = sym (upto_short k n cells (omega arith))
upto_same (suc m) zero n cells p a b = upto_short (suc m) n cells (omega arith)
upto_same (suc m) (suc k) n cells p a b = elim (cases_lt n (length cells)) [
  | inl l ↦ (let s = behind_shorter n cells p l in rw (upto_same m k n (behind_line n cells) p (omega arith) (omega arith)) refl)
  | inr g ↦ upto_short (suc m) n cells g ∙ sym (upto_short (suc k) n cells g)
]

-- a paragraph that fits is a line
pub block_short : (n k : ℕ) (text : List ℕ) → length (first (pieces text)) ≤ n → k ≡ length (first (pieces text))
    → block_lines n text ≡ take k (first (pieces text)) ∷ flat_map (lines n) (others (pieces text))
unfolding block_lines
block_short n k text l e = grind (arith, take_all, upto_short)

-- of a longer one the first line stands before the others
pub block_long : (n : ℕ) (text : List ℕ) → 0 < n → n < length (first (pieces text))
    → block_lines n text ≡ take (line_length n (first (pieces text))) (first (pieces text)) ∷ (cond (eqb (length (behind_line n (first (pieces text)))) 0) [] (lines n (behind_line n (first (pieces text)))) ++ flat_map (lines n) (others (pieces text)))
unfolding block_lines
block_long n text p l = grind (arith, behind_shorter, upto_same)

-- what is left of a paragraph is the front of the rest
rest_is : (n : ℕ) (b : List ℕ) (o : List (List ℕ)) (rest : List ℕ) → first (pieces rest) ≡ b → others (pieces rest) ≡ o → 0 < length b → cond (eqb (length b) 0) [] (lines n b) ++ flat_map (lines n) o ≡ block_lines n rest
unfolding block_lines
rest_is n b o rest e w l = rw (ne_eqb (length b) 0 (omega arith)) (rw (← e, ← w) refl)

-- where nothing is left of it, the next one follows
rest_none : (n : ℕ) (b : List ℕ) (o : List (List ℕ)) → b ≡ [] → cond (eqb (length b) 0) [] (lines n b) ++ flat_map (lines n) o ≡ flat_map (lines n) o
rest_none n b o e = rw e refl

module _ (n : ℕ) (text rest : List ℕ) (p : 0 < n) (l : n < length (first (pieces text))) where
  -- a line of n cells
  pub cut_hard : last_blank n (first (pieces text)) ≡ 0 → first (pieces rest) ≡ drop n (first (pieces text)) → others (pieces rest) ≡ others (pieces text)
      → block_lines n text ≡ take n (first (pieces text)) ∷ block_lines n rest
  cut_hard z e o = grind (arith, block_long, length-drop, rest_is)

  module _ (q : ℕ) (z : last_blank n (first (pieces text)) ≡ q) (s : 0 < q) where
    at_blank : block_lines n text ≡ take q (first (pieces text)) ∷ (cond (eqb (length (drop (q + 1) (first (pieces text)))) 0) [] (lines n (drop (q + 1) (first (pieces text)))) ++ flat_map (lines n) (others (pieces text)))
    at_blank = let h = block_long n text p l in rw (ne_eqb (last_blank n (first (pieces text))) 0 (omega arith), z) at h

    -- a line before a blank
    pub cut_blank : first (pieces rest) ≡ drop (q + 1) (first (pieces text)) → others (pieces rest) ≡ others (pieces text) → 0 < length (first (pieces rest))
        → block_lines n text ≡ take q (first (pieces text)) ∷ block_lines n rest
    cut_blank e o m = at_blank ∙ ap (λ (ls : List (List ℕ)). take q (first (pieces text)) ∷ ls) (rest_is n (drop (q + 1) (first (pieces text))) (others (pieces text)) rest e o (rw (← e) m))

    -- and the last one of its paragraph
    pub cut_last : first (pieces rest) ≡ drop (q + 1) (first (pieces text)) → first (pieces rest) ≡ []
        → block_lines n text ≡ take q (first (pieces text)) ∷ flat_map (lines n) (others (pieces text))
    cut_last e m = at_blank ∙ ap (λ (ls : List (List ℕ)). take q (first (pieces text)) ∷ ls) (rest_none n (drop (q + 1) (first (pieces text))) (others (pieces text)) (sym e ∙ m))

-- the paragraphs behind a line
pub paragraph_next : (n : ℕ) (text line : List ℕ) (o w : List (List ℕ)) (next : Option (Bor (List ℕ))) → block_lines n text ≡ line ∷ flat_map (lines n) o → w ≡ o
    → MatchOption next (w ≡ []) (λ r. w ≡ first (pieces r.now) ∷ others (pieces r.now)) → MatchOption next (block_lines n text ≡ line ∷ []) (λ r. block_lines n text ≡ line ∷ block_lines n r.now)
unfolding block_lines
paragraph_next n text line o w next h1 h2 h3 = grind arith

-- the blank before which a line ends
last_blank_is : (n : ℕ) (cells : List ℕ) → 0 < last_blank n cells → get_or cells (last_blank n cells) 0 ≡ 32
last_blank_is zero cells h = absurd (omega arith)
last_blank_is (suc n) cells h = elim (cases_eq (get_or cells (suc n) 0) 32) [
  | inl y ↦ rw (eq-eqb (get_or cells (suc n) 0) 32 y) y
  | inr x ↦ (let same = ne_eqb (get_or cells (suc n) 0) 32 x in rw same (last_blank_is n cells (rw same at h)))
]

-- at most n cells stand in a line
line_within : (n : ℕ) (cells : List ℕ) → line_length n cells ≤ n
line_within n cells = grind (arith, last_blank_within)

-- a line and what is behind it are the cells, but for the blank
line_stands : (n : ℕ) (cells : List ℕ) → n < length cells
    → (cells ≡ take (line_length n cells) cells ++ behind_line n cells) ⊎ (cells ≡ take (line_length n cells) cells ++ 32 ∷ behind_line n cells)
line_stands n cells l = elim (cases_eq (last_blank n cells) 0) [
  | inl y ↦ inl (rw (eq-eqb (last_blank n cells) 0 y) (sym (take-append-drop n cells)))
  | inr x ↦ inr (rw (ne_eqb (last_blank n cells) 0 x) (at_blank (last_blank n cells) (omega (arith, last_blank_within n cells)) (last_blank_is n cells (omega arith))))
]
  where
    at_blank : (q : ℕ) → q < length cells → get_or cells q 0 ≡ 32 → cells ≡ take q cells ++ 32 ∷ drop (q + 1) cells
    at_blank q m e = sym (take-append-drop q cells) ∙ ap (λ (ls : List ℕ). take q cells ++ ls) (drop_more cells q 0 m ∙ ap (λ b. b ∷ drop (q + 1) cells) e)

all_cons : (P : List ℕ → Type 0) (x : List ℕ) (xs : List (List ℕ)) → P x → All P xs → All P (x ∷ xs)
all_cons P x xs h1 h2 = grind arith

-- the lines of a paragraph
record IsBroken (n : ℕ) (cells : List ℕ) (ls : List (List ℕ)) : Type 0 where
  few : All (λ line. length line ≤ n) ls
  whole : StandIn cells ls

one_line : (n : ℕ) (cells : List ℕ) → length cells ≤ n → IsBroken n cells (cells ∷ [])
one_line n cells l = record { few = all_cons (λ line. length line ≤ n) cells [] l (All-nil (λ line. length line ≤ n)); whole = ([], inl (sym (append-nil cells)), refl) }

upto_broken : (m n : ℕ) (cells : List ℕ) → 0 < n → length cells ≤ m → IsBroken n cells (lines_upto m n cells)
upto_broken zero n cells p l = one_line n cells (omega arith)
upto_broken (suc m) n cells p l = elim (cases_lt n (length cells)) [
  | inr g ↦ rw (upto_short (suc m) n cells g) (one_line n cells g)
  | inl g ↦ rw (lt-leb (length cells) n g) (longer m n cells p l g (λ o. upto_broken m n (behind_line n cells) p o))
]
  where
    rest_broken : (m n : ℕ) (b : List ℕ) → IsBroken n b (lines_upto m n b) → IsBroken n b (cond (eqb (length b) 0) [] (lines_upto m n b))
    rest_broken m n [] h = record { few = All-nil (λ line. length line ≤ n); whole = refl }
    rest_broken m n (x ∷ b) h = let some : eqb (length (x ∷ b)) 0 ≡ false = ne_eqb (length (x ∷ b)) 0 (omega arith) in rw some h

    longer : (m n : ℕ) (cells : List ℕ) → 0 < n → length cells ≤ suc m → n < length cells → (length (behind_line n cells) ≤ m → IsBroken n (behind_line n cells) (lines_upto m n (behind_line n cells)))
        → IsBroken n cells (take (line_length n cells) cells ∷ cond (eqb (length (behind_line n cells)) 0) [] (lines_upto m n (behind_line n cells)))
    longer m n cells p l g h =
        let shorter = behind_shorter n cells p g in
        let rest = rest_broken m n (behind_line n cells) (h (omega arith)) in
        let long : length (take (line_length n cells) cells) ≤ n = omega (arith, line_within n cells, length-take-le (line_length n cells) cells (omega (arith, line_within n cells))) in
        record { few = all_cons (λ line. length line ≤ n) (take (line_length n cells) cells) _ long rest.few; whole = (behind_line n cells, line_stands n cells g, rest.whole) }

pub lines_few : (n : ℕ) (cells : List ℕ) → 0 < n → All (λ line. length line ≤ n) (lines n cells)
lines_few n cells p = (upto_broken (length cells) n cells p (omega arith)).few

pub lines_whole : (n : ℕ) (cells : List ℕ) → 0 < n → StandIn cells (lines n cells)
lines_whole n cells p = (upto_broken (length cells) n cells p (omega arith)).whole

-- at most n cells stand in a line of a text
pub block_few : (n : ℕ) (text : List ℕ) → 0 < n → All (λ line. length line ≤ n) (block_lines n text)
unfolding block_lines
block_few n text p = all_few (first (pieces text) ∷ others (pieces text))
  where
    all_join : (xs ys : List (List ℕ)) → All (λ line. length line ≤ n) xs → All (λ line. length line ≤ n) ys → All (λ line. length line ≤ n) (xs ++ ys)
    all_join [] ys f g = g
    all_join (x ∷ xs) ys f g = all_cons (λ line. length line ≤ n) x (xs ++ ys) (f 0 [] (omega arith)) (all_join xs ys (λ k d l. f (suc k) d (omega arith)) g)

    all_few : (all : List (List ℕ)) → All (λ line. length line ≤ n) (flat_map (lines n) all)
    all_few [] = All-nil (λ line. length line ≤ n)
    all_few (cells ∷ rest) = all_join (lines n cells) (flat_map (lines n) rest) (lines_few n cells p) (all_few rest)
