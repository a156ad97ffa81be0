-- Lines over each other, as rows of the sheet.
use Rattle.std.proofs.Common.{inl, inr, ◌≡◌, ℕ, suc, ◌+◌, ◌-◌, ◌*◌, ◌/◌, ◌<◌, ◌≤◌, min, Bool, true, false, ltb, leb, ◌&&◌, ◌||◌, ◌⊎◌, get_or, length, take, replicate, refl, sym, ap, ◌∙◌, arith, List, [], ◌∷◌, Option, None, Some, MatchOption, Bor, ℤ}
use Rattle.std.specs.List.{All}
use Rattle.std.proofs.Math.Nat.{div-lt_iff_lt-mul, le-div_iff_mul-le}
use Rattle.std.proofs.Math.Seq.{take-length}
use Rattle.std.proofs.lemmas.List.{length-take-le}
use Rattle.std.proofs.lemmas.Bool.{cases_lt, le-ltb, false_from_ne_true}
use Rattle.vp_dots.specs.Dots.{shifted}
use Rattle.vp_dots.specs.Words.{word_dot}
use Rattle.vp_dots.proofs.Shifts.{shifted_none, shifted_same}
use Rattle.vp_glyph.specs.Halves.{half_dot}
use Rattle.vp_glyph.specs.Sheets.{Glyphs, sheet_dot}
use Rattle.vp_glyph.specs.Texts.{sampled_dot, text_dot}
use Rattle.vp_glyph.specs.Blocks.{pieces, first, indent, line_dot, lines_dot, block_lines, block_height, block_dot}
use Rattle.vp_glyph.specs.Layouts.{AreRowsOf}
use Rattle.vp_glyph.specs.declared.block.Alignment.{Alignment}
use Rattle.vp_glyph.proofs.Breaking.{block_few}
use Rattle.vp_glyph.proofs.Gathered.{shown}
use Rattle.vp_glyph.proofs.Halves.{white_half}
use Rattle.vp_glyph.proofs.Layouts.{layout}
use Rattle.vp_glyph.proofs.Overlaid.{line_inside, zero_at}
use Rattle.vp_glyph.proofs.Stacks.{lines_left, block_within, block_past}

and_false : (b : Bool) → (b && false) ≡ false
and_false b = grind arith

shared_or : (a b c : Bool) → ((a && b) || (a && c)) ≡ (a && (b || c))
shared_or a b c = grind arith

-- a dot that falls only on some rows
shifted_if : (at : ℤ) (a : Bool) (f : ℕ → Bool) (d : ℕ) → shifted at (λ x. a && f x) d ≡ (a && shifted at f d)
shifted_if at a f d = grind arith

module _ (sheet : Option Glyphs) (w h a b s : ℕ) (d : Alignment) where
  -- a row of a text shows one of the sheet
  text_rows : (cells : List ℕ) (u v : ℕ) → text_dot sheet cells w h u v ≡ (ltb v h && text_dot sheet cells w 24 u (v * 24 / h))
  unfolding text_dot sampled_dot
  text_rows cells u v = grind arith

  -- and so does a row of a line
  pub line_rows : (place : ℕ) (line : List ℕ) (x y : ℕ) → line_dot (layout sheet w h a b s d) place line x y
      ≡ (leb (place * s) y && ltb (y - place * s) h && line_dot (layout sheet w 24 a 1 0 d) 0 line x ((y - place * s) * 24 / h))
  line_rows place line x y = grind (arith, text_rows)

  line_top : (place t : ℕ) (line : List ℕ) (x y : ℕ) → place * s ≡ t → line_dot (layout sheet w h a b s d) place line x y
      ≡ (leb t y && ltb (y - t) h && line_dot (layout sheet w 24 a 1 0 d) 0 line x ((y - t) * 24 / h))
  line_top place t line x y e = rw (← e) (line_rows place line x y)

  -- and of lines with one top
  pub lines_rows : (place t : ℕ) (all : List (List ℕ)) (x y : ℕ) → (s ≡ 0) ⊎ (place ≡ b - 1) → place * s ≡ t → lines_dot (layout sheet w h a b s d) place all x y
      ≡ (leb t y && ltb (y - t) h && lines_dot (layout sheet w 24 a 1 0 d) 0 all x ((y - t) * 24 / h))
  lines_rows place t [] x y o e = sym (and_false _)
  lines_rows place t (line ∷ rest) x y o e =
      let next : ((s ≡ 0) ⊎ (min (place + 1) (b - 1) ≡ b - 1)) × (min (place + 1) (b - 1) * s ≡ t) = elim o [
        | inl z ↦ (inl z, ap (λ n. min (place + 1) (b - 1) * n) z ∙ omega arith ∙ sym (ap (λ n. place * n) z) ∙ e)
        | inr z ↦ (let m : min (place + 1) (b - 1) ≡ place = omega arith in (inr (m ∙ z), ap (λ n. n * s) m ∙ e))
      ] in
      ap (λ v. v || lines_dot (layout sheet w h a b s d) (min (place + 1) (b - 1)) rest x y) (line_top place t line x y e)
      ∙ ap (λ v. (leb t y && ltb (y - t) h && line_dot (layout sheet w 24 a 1 0 d) 0 line x ((y - t) * 24 / h)) || v) (lines_rows (min (place + 1) (b - 1)) t rest x y next.0 next.1)
      ∙ shared_or (leb t y && ltb (y - t) h) (line_dot (layout sheet w 24 a 1 0 d) 0 line x ((y - t) * 24 / h)) (lines_dot (layout sheet w 24 a 1 0 d) 0 rest x ((y - t) * 24 / h))

  -- the fronts of rows on which words are spread that have the rows of the sheet
  shown_as : (at : ℤ) (rows : List ℕ) (t y x : ℕ) (f : ℕ → ℕ → Bool) → x < 32 → ((r x : ℕ) → r < 24 → x < 32 → half_dot (get_or rows r 0) x ≡ shifted at (λ v. f v r) x)
      → shown rows t h y x ≡ shifted at (λ v. leb t y && ltb (y - t) h && f v ((y - t) * 24 / h)) x
  shown_as at rows t y x f l e = elim (cases_lt (y - t) h) [
    | inl k ↦
        let q : (y - t) * 24 / h < 24 = (div-lt_iff_lt-mul {k = h} {x = (y - t) * 24} {y = 24} (omega arith)).1 (omega arith) in
        ap (λ v. leb t y && ltb (y - t) h && v) (e ((y - t) * 24 / h) x q l) ∙ sym (shifted_if at (leb t y && ltb (y - t) h) (λ v. f v ((y - t) * 24 / h)) x)
    | inr g ↦
        let none : (leb t y && ltb (y - t) h) ≡ false = ap (λ v. leb t y && v) (le-ltb (y - t) h g) ∙ and_false (leb t y) in
        ap (λ v. v && half_dot (get_or rows ((y - t) * 24 / h) 0) x) none ∙ sym (shifted_none at (λ v. leb t y && ltb (y - t) h && f v ((y - t) * 24 / h)) x (λ v. ap (λ u. u && f v ((y - t) * 24 / h)) none))
  ]

  module _ (at : ℤ) (x y : ℕ) where
    -- the front of a row that a line is added to
    pub line_added : (place : ℕ) (old new : Bool) (line rows : List ℕ) → x < 32 → new ≡ (old || shown rows (place * s) h y x)
        → ((r x : ℕ) → r < 24 → x < 32 → half_dot (get_or rows r 0) x ≡ shifted at (λ v. line_dot (layout sheet w 24 a 1 0 d) 0 line v r) x)
        → new ≡ (old || shifted at (λ v. line_dot (layout sheet w h a b s d) place line v y) x)
    line_added place old new line rows l e f = e ∙ ap (λ t. old || t) (shown_as at rows (place * s) y x (line_dot (layout sheet w 24 a 1 0 d) 0 line) l f
        ∙ shifted_same at (λ v. leb (place * s) y && ltb (y - place * s) h && line_dot (layout sheet w 24 a 1 0 d) 0 line v ((y - place * s) * 24 / h)) (λ v. line_dot (layout sheet w h a b s d) place line v y) x
        (λ v _. sym (line_rows place line v y)))

    -- and of one that lines with one top are added to
    pub lines_added : (place : ℕ) (old new : Bool) (all : List (List ℕ)) (rows : List ℕ) → x < 32 → (s ≡ 0) ⊎ (place ≡ b - 1) → new ≡ (old || shown rows (place * s) h y x)
        → ((r x : ℕ) → r < 24 → x < 32 → half_dot (get_or rows r 0) x ≡ shifted at (λ v. lines_dot (layout sheet w 24 a 1 0 d) 0 all v r) x)
        → new ≡ (old || shifted at (λ v. lines_dot (layout sheet w h a b s d) place all v y) x)
    lines_added place old new all rows l c e f = e ∙ ap (λ t. old || t) (shown_as at rows (place * s) y x (lines_dot (layout sheet w 24 a 1 0 d) 0 all) l f
        ∙ shifted_same at (λ v. leb (place * s) y && ltb (y - place * s) h && lines_dot (layout sheet w 24 a 1 0 d) 0 all v ((y - place * s) * 24 / h)) (λ v. lines_dot (layout sheet w h a b s d) place all v y) x
        (λ v _. sym (lines_rows place (place * s) all v y c refl)))

  -- the cells of a line are its rows
  pub line_sheet : (k left width r v : ℕ) (cells : List ℕ) → k ≤ length cells → left ≡ indent d (a - w * k) → width ≡ w
      → (leb left v && text_dot sheet (take k cells) width 24 (v - left) r) ≡ line_dot (layout sheet w 24 a 1 0 d) 0 (take k cells) v r
  line_sheet k left width r v cells l e f = grind (arith, length-take-le)

  pub line_first : (at : ℤ) (k left width r x : ℕ) (cells : List ℕ) (old new : Bool) → k ≤ length cells → left ≡ indent d (a - w * k) → width ≡ w
      → new ≡ (old || shifted at (λ v. leb left v && text_dot sheet (take k cells) width 24 (v - left) r) x) → new ≡ (old || shifted at (λ v. line_dot (layout sheet w 24 a 1 0 d) 0 (take k cells) v r) x)
  line_first at k left width r x cells old new l e f p = grind (arith, line_sheet)

  -- one without cells has none
  no_cells : (x r : ℕ) → line_dot (layout sheet w 24 a 1 0 d) 0 [] x r ≡ false
  unfolding text_dot
  no_cells x r = grind arith

  pub rows_none : (at : ℤ) (rows : List ℕ) → rows ≡ replicate {A = ℕ} 24 0 → AreRowsOf (layout sheet w h a b s d) at [] rows
  rows_none at rows e r x l m =
      ap (λ (all : List ℕ). half_dot (get_or all r 0) x) e ∙ ap (λ v. half_dot v x) (zero_at 24 r) ∙ white_half x
      ∙ sym (shifted_none at (λ v. line_dot (layout sheet w 24 a 1 0 d) 0 [] v r) x (λ v. no_cells v r))

  -- one line more
  pub joined_more : (at : ℤ) (n k r x : ℕ) (old new : Bool) (left next : Option (Bor (List ℕ))) (text : Bor (List ℕ)) (lent : List ℕ) (all : Bool)
      → all ≡ (old || shifted at (λ v. lines_dot (layout sheet w 24 a 1 0 d) 0 (lines_left n left) v r) x) → left ≡ Some text → lent ≡ text.now
      → MatchOption next (block_lines n text.now ≡ take k (first (pieces text.now)) ∷ []) (λ q. block_lines n text.now ≡ take k (first (pieces text.now)) ∷ block_lines n q.now)
      → new ≡ (old || shifted at (λ v. line_dot (layout sheet w 24 a 1 0 d) 0 (take k (first (pieces lent))) v r) x)
      → all ≡ (new || shifted at (λ v. lines_dot (layout sheet w 24 a 1 0 d) 0 (lines_left n next) v r) x)
  joined_more at n k r x old new left next text lent all p e m o q = grind arith

  -- no line yet
  pub joined_none : (r x : ℕ) (all : Bool) → all ≡ (half_dot (get_or (replicate {A = ℕ} 24 0) r 0) x || all)
  joined_none r x all = sym (ap (λ t. t || all) (ap (λ v. half_dot v x) (zero_at 24 r) ∙ white_half x))

  -- all lines
  pub joined_all : (at : ℤ) (n r x : ℕ) (new : Bool) (left : Option (Bor (List ℕ))) (all : Bool) → all ≡ (new || shifted at (λ v. lines_dot (layout sheet w 24 a 1 0 d) 0 (lines_left n left) v r) x)
      → left ≡ None → new ≡ all
  joined_all at n r x new left all p e = grind arith

  -- all lines stand in the block
  lines_inside : (x y place : ℕ) (all : List (List ℕ)) → All (λ line. length line ≤ a / w) all → lines_dot (layout sheet w h a b s d) place all x y ≡ true → x < a
  lines_inside x y place [] m e = absurd (cc)
  lines_inside x y place (line ∷ rest) m e = elim (or_true (line_dot (layout sheet w h a b s d) place line x y) (lines_dot (layout sheet w h a b s d) (min (place + 1) (b - 1)) rest x y) e) [
    | inl v ↦
        let t : take (length line) line ≡ line = take-length line in
        line_inside sheet w h a b s d y place (length line) x line (omega arith) (m 0 [] (omega arith)) (rw t v)
    | inr v ↦ lines_inside x y (min (place + 1) (b - 1)) rest (λ k z l. m (suc k) z (omega arith)) v
  ]
    where
      or_true : (p q : Bool) → (p || q) ≡ true → (p ≡ true) ⊎ (q ≡ true)
      or_true true q i = inl refl
      or_true false q i = inr i

  -- the lines of a block are its dots
  pub lines_block : (text : List ℕ) (y v : ℕ) → 0 < w → w ≤ a → y < block_height h b s → lines_dot (layout sheet w h a b s d) 0 (block_lines (a / w) text) v y ≡ block_dot (layout sheet w h a b s d) text v y
  lines_block text y v p m k = grind (arith, block_within, le-div_iff_mul-le, false_from_ne_true, lines_inside, block_few, block_past)

-- a row of a cell as high as the sheet's
pub cell_row : (sheet : Option Glyphs) (c w place s : ℕ) (at : ℤ) (d : ℕ) (row : ℕ) → s < 24 → ((u : ℕ) → word_dot row u ≡ sheet_dot sheet c u s)
    → shifted at (λ x. leb place x && ltb (x - place) w && word_dot row ((x - place) * 12 / w)) d ≡ shifted at (λ x. leb place x && sampled_dot sheet c w 24 (x - place) s) d
unfolding sampled_dot
cell_row sheet c w place s at d row l h = grind arith

-- dots that were added are there
pub again_added : (old f new : Bool) → new ≡ (old || f) → new ≡ (new || f)
again_added old f new e = grind arith

pub same_added : (old f : Bool) → old ≡ f → old ≡ (old || f)
same_added old f e = grind arith

-- rows that were white
pub rows_white : (r x : ℕ) (f new : Bool) → new ≡ (half_dot (get_or (replicate {A = ℕ} 24 0) r 0) x || f) → new ≡ f
rows_white r x f new e = e ∙ ap (λ t. t || f) (ap (λ v. half_dot v x) (zero_at 24 r) ∙ white_half x)
