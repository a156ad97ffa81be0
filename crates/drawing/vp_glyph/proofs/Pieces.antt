-- Paragraphs, piece by piece.
use Rattle.std.proofs.Common.{◌≡◌, ℕ, zero, suc, ◌+◌, ◌-◌, ◌<◌, ◌≤◌, List, [], ◌∷◌, length, take, drop, get_or, eqb, false, cond, refl, sym, ap, ◌∙◌, arith, length-drop}
use Rattle.std.proofs.lemmas.List.{drop_more}
use Rattle.vp_glyph.specs.Blocks.{pieces, first, others, last_blank}
use Rattle.vp_glyph.specs.declared.lines.Piece.{Piece}
use Rattle.vp_glyph.specs.declared.lines.Piece.TheVariants.{Cell}

-- a text, so many cells behind the front of another
pub record Behind (k : ℕ) (text at : List Piece) : Type 0 where
  pub first_is : first at ≡ drop k (first text)
  pub others_are : others at ≡ others text
  pub within : k ≤ length (first text)

-- one cell more
module _ (k b : ℕ) (text at rest : List Piece) (p : Behind k text at) (e : at ≡ Cell b ∷ rest) where
  split : drop k (first text) ≡ b ∷ first rest
  split = sym p.first_is ∙ ap first e

  pub cell_within : k < length (first text)
  cell_within = let n = length-drop k (first text) in let m = ap length split in omega (arith, n, m)

  pub cell_is : get_or (first text) k 0 ≡ b
  cell_is = let h : drop k (first text) ≡ get_or (first text) k 0 ∷ drop (k + 1) (first text) = drop_more (first text) k 0 cell_within in let w = split in cc

  pub behind_more : Behind (k + 1) text rest
  behind_more = record {
    first_is = let h : drop k (first text) ≡ get_or (first text) k 0 ∷ drop (k + 1) (first text) = drop_more (first text) k 0 cell_within in let w = split in cc;
    others_are = sym (ap others e) ∙ p.others_are;
    within = let l = cell_within in omega arith;
  }

-- where no cell comes, the paragraph ends
pub behind_all : (k : ℕ) (text at : List Piece) → Behind k text at → first at ≡ [] → length (first text) ≡ k
behind_all k text at p e = let n = length-drop k (first text) in let m = ap length (sym p.first_is ∙ e) in let w = p.within in omega (arith, n, m)

-- the last blank, one cell further
pub blank_more : (i b blank v : ℕ) (cells : List ℕ) → get_or cells i 0 ≡ b → blank ≡ last_blank (i - 1) cells → v ≡ cond (eqb b 32) i blank → v ≡ last_blank i cells
blank_more i b blank v cells h1 h2 h3 = grind arith

-- what the scan of a paragraph keeps: the last blank of the cells that it has passed
pub record Scanned (i : ℕ) (text at : List Piece) (blank : ℕ) : Type 0 where
  pub behind : Behind i text at
  pub blank_is : blank ≡ last_blank (i - 1) (first text)

pub scan_more : (i b blank v : ℕ) (text at rest : List Piece) → Scanned i text at blank → at ≡ Cell b ∷ rest → v ≡ cond (eqb b 32) i blank → Scanned (i + 1) text rest v
scan_more i b blank v text at rest s e w = record {
  behind = behind_more i b text at rest s.behind e;
  blank_is = blank_more i b blank v (first text) (cell_is i b text at rest s.behind e) s.blank_is w ∙ ap (λ k. last_blank k (first text)) (omega arith);
}

pub some_cell : (text rest : List Piece) (b : ℕ) → text ≡ Cell b ∷ rest → 0 < length (first text)
some_cell text rest b e = rw e (omega arith)

-- the cell at the front of what stands behind so many
pub front_is : (k b : ℕ) (cells : List ℕ) (text rest : List Piece) → first text ≡ drop k cells → text ≡ Cell b ∷ rest → get_or cells k 0 ≡ b
front_is k b cells text rest e w =
    let split : drop k cells ≡ b ∷ first rest = sym e ∙ ap first w in
    let n = length-drop k cells in
    let m = ap length split in
    let l : k < length cells = omega (arith, n, m) in
    let h : drop k cells ≡ get_or cells k 0 ∷ drop (k + 1) cells = drop_more cells k 0 l in
    cc

-- a byte that isn't a backslash is a cell
pub plain_piece : (b : ℕ) (text : List ℕ) → eqb b 92 ≡ false → pieces (b ∷ text) ≡ Cell b ∷ pieces text
plain_piece b text h1 = grind arith

-- texts that begin with the same bytes, none of them a backslash, begin with the same cells
pub same_front : (n : ℕ) (one other : List ℕ) → n ≤ length one → n ≤ length other → ((j : ℕ) → j < n → get_or one j 0 ≡ get_or other j 0) → ((j : ℕ) → j < n → eqb (get_or one j 0) 92 ≡ false)
    → take n (first (pieces one)) ≡ take n (first (pieces other))
same_front zero one other l m e p = refl
same_front (suc n) [] other l m e p = absurd (omega arith)
same_front (suc n) (b ∷ one) [] l m e p = absurd (omega arith)
same_front (suc n) (b ∷ one) (c ∷ other) l m e p =
    let same : b ≡ c = e 0 (omega arith) in
    let plain : eqb b 92 ≡ false = p 0 (omega arith) in
    ap (λ (t : List Piece). take (suc n) (first t)) (plain_piece b one plain)
    ∙ ap (λ (t : List ℕ). b ∷ t) (same_front n one other (omega arith) (omega arith) (λ j i. e (suc j) (omega arith)) (λ j i. p (suc j) (omega arith)))
    ∙ ap (λ (v : ℕ). v ∷ take n (first (pieces other))) same
    ∙ sym (ap (λ (t : List Piece). take (suc n) (first t)) (plain_piece c other (ap (λ v. eqb v 92) (sym same) ∙ plain)))
