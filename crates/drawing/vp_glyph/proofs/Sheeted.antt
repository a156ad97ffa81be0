-- Rows of a band that show the rows of a sheet.
use Rattle.std.proofs.Common.{inl, inr, ◌≡◌, ℕ, ◌+◌, ◌-◌, ◌*◌, ◌/◌, ◌<◌, ◌≤◌, min, Bool, false, ltb, leb, ◌&&◌, ◌||◌, length, take, replicate, refl, sym, ap, ◌∙◌, arith, List, [], ◌∷◌, Option, Some, MatchOption, Bor, ℤ}
use Rattle.std.proofs.lemmas.Bool.{cases_lt, lt-ltb, le-ltb, le-leb, lt-leb}
use Rattle.std.proofs.lemmas.List.{length-replicate}
use Rattle.vp_dots.specs.Dots.{dot, shifted, span}
use Rattle.vp_dots.specs.Painting.{Painted}
use Rattle.vp_dots.specs.declared.Op.TheVariants.{Black}
use Rattle.vp_dots.proofs.Shifts.{shifted_none, shifted_same, shifted_or}
use Rattle.vp_glyph.specs.Sheets.{Glyphs}
use Rattle.vp_glyph.specs.Blocks.{pieces, first, line_dot, lines_dot, block_lines, block_height, block_dot}
use Rattle.vp_glyph.specs.declared.block.Alignment.{Alignment}
use Rattle.vp_glyph.proofs.Gathered.{row_alike, row_shown}
use Rattle.vp_glyph.proofs.Joining.{lines_block}
use Rattle.vp_glyph.proofs.Layouts.{layout}
use Rattle.vp_glyph.proofs.Overlaid.{zero_dots}
use Rattle.vp_glyph.proofs.Passed.{black_or, or_false}
use Rattle.vp_glyph.proofs.Spread.{edge_at}
use Rattle.vp_glyph.proofs.Stacks.{lines_left, lines_are, block_narrow}

-- a row painted on white
pub on_white : (n : ℕ) (at : ℤ) (f : ℕ → Bool) (row : List ℕ) (x : ℕ) → x < 8 * n → Painted Black (shifted at f) (replicate {A = ℕ} n 0) row → dot row x ≡ shifted at f x
on_white n at f row x l p = p.dots_are x (let m = length-replicate {A = ℕ} n 0 in omega (arith, m)) ∙ black_or (shifted at f x) (dot (replicate {A = ℕ} n 0) x) ∙ ap (λ b. b || shifted at f x) (zero_dots n x)

-- a row that is blackened
pub blackened : (at : ℤ) (f : ℕ → Bool) (row new : List ℕ) (x : ℕ) → x < 8 * length row → Painted Black (shifted at f) row new → dot new x ≡ (dot row x || shifted at f x)
blackened at f row new x l p = p.dots_are x l ∙ black_or (shifted at f x) (dot row x)

pub white_or : (n x : ℕ) (all : Bool) → all ≡ (dot (replicate {A = ℕ} n 0) x || all)
white_or n x all = sym (ap (λ t. t || all) (zero_dots n x))

-- there are rows that show the same row of the sheet as row r
pub rows_more : (n top t h r s to : ℕ) → r < n → t ≤ top + r → top + r - t < h → s ≡ (top + r - t) * 24 / h → to ≡ min (t + edge_at 24 h (s + 1) - top) n → r < to
rows_more n top t h r s to l a i z m = grind arith

-- the rows before row r have ink f
abbrev pub Shown : ℕ → ℕ → ℕ → ℤ → (ℕ → ℕ → Bool) → ℕ → (ℕ → ℕ → Bool) → (ℕ → ℕ → Bool) → Type 0
Shown n b top at f r old new = (k x : ℕ) → k < n → x < 8 * b → new k x ≡ (old k x || ltb k r && shifted at (λ v. f v (top + k)) x)

-- ink from row t on, h rows high, each of which shows a row of the sheet, whose ink is g
module _ (n b top t h : ℕ) (at : ℤ) (f g : ℕ → ℕ → Bool) (e : (x y : ℕ) → f x y ≡ (leb t y && ltb (y - t) h && g x ((y - t) * 24 / h))) where
  pub shown_none : (r : ℕ) (old : ℕ → ℕ → Bool) → r ≡ min (t - top) n → Shown n b top at f r old old
  shown_none r old z k x l h = grind arith

  pub shown_more : (r to s : ℕ) (old mid new : ℕ → ℕ → Bool) (row : ℕ → Bool) → Shown n b top at f r old mid → t ≤ top + r → top + r - t < h → s ≡ (top + r - t) * 24 / h → to ≡ min (t + edge_at 24 h (s + 1) - top) n
      → ((k x : ℕ) → k < n → x < 8 * b → new k x ≡ (mid k x || span r to k && row x)) → ((x : ℕ) → x < 8 * b → row x ≡ shifted at (λ v. g v s) x) → Shown n b top at f to old new
  shown_more r to s old mid new row o a i z m p q k x l c =
      let u = row_alike h (top + r - t) i in
      let few : s < 24 = rw z u.0 in
      let begun : edge_at 24 h s ≤ top + r - t = rw z u.1 in
      let ends : top + r - t < edge_at 24 h (s + 1) = rw z u.2 in
      p k x l c ∙ ap (λ v. v || span r to k && row x) (o k x l c) ∙ elim (cases_lt k r) [
        | inl y ↦ rw (lt-leb r k y, lt-ltb k r y, lt-ltb k to (omega arith)) (sym (or_false (old k x || shifted at (λ v. f v (top + k)) x)))
        | inr y ↦ elim (cases_lt k to) [
          | inl j ↦
              let here = row_shown h s (top + k - t) few (omega arith) (omega arith) in
              let ink : row x ≡ shifted at (λ v. f v (top + k)) x =
              q x c ∙ shifted_same at (λ v. g v s) (λ v. f v (top + k)) x (λ v _. sym (e v (top + k) ∙ rw (le-leb t (top + k) (omega arith), lt-ltb (top + k - t) h here.0, here.1) refl)) in
              rw (le-leb r k y, le-ltb k r y, lt-ltb k to j) (ap (λ v. (old k x || false) || v) ink ∙ ap (λ v. v || shifted at (λ v. f v (top + k)) x) (sym (or_false (old k x))))
          | inr j ↦ rw (le-leb r k y, le-ltb k r y, le-ltb k to j) (sym (or_false (old k x || false)))
        ]
      ]

  pub shown_all : (r : ℕ) (old new : ℕ → ℕ → Bool) → min (t + h - top) n ≤ r → Shown n b top at f r old new → (k x : ℕ) → k < n → x < 8 * b → new k x ≡ (old k x || shifted at (λ v. f v (top + k)) x)
  shown_all r old new z o k x l c = grind arith

or_assoc : (p q r : Bool) → (p || (q || r)) ≡ ((p || q) || r)
or_assoc p q r = grind arith

-- the dots of a row to which the lines so far were added
module _ (sheet : Option Glyphs) (w h a b s : ℕ) (d : Alignment) (y : ℕ) (at : ℤ) (bytes : ℕ) where
  pub record Drawn (n : ℕ) (all : List (List ℕ)) (place : ℕ) (left : Option (Bor (List ℕ))) (row : ℕ → Bool) : Type 0 where
    pub done : ℕ → Bool
    pub dots_are : (x : ℕ) → x < 8 * bytes → row x ≡ shifted at done x
    pub rest_is : (x : ℕ) → lines_dot (layout sheet w h a b s d) 0 all x y ≡ (done x || lines_dot (layout sheet w h a b s d) place (lines_left n left) x y)

  pub drawn_none : (n : ℕ) (all : List (List ℕ)) (place : ℕ) (text : Bor (List ℕ)) (row : ℕ → Bool) → ((x : ℕ) → row x ≡ false)
      → ((x : ℕ) → lines_dot (layout sheet w h a b s d) 0 all x y ≡ lines_dot (layout sheet w h a b s d) place (block_lines n text.now) x y) → Drawn n all place (Some text) row
  drawn_none n all place text row z e = record {
    done = λ x. false;
    dots_are = λ x l. z x ∙ sym (shifted_none at (λ v. false) x (λ v. refl));
    rest_is = λ x. e x;
  }

  pub drawn_more : (n : ℕ) (all : List (List ℕ)) (place k to : ℕ) (left next : Option (Bor (List ℕ))) (text : Bor (List ℕ)) (lent : List ℕ) (old new : ℕ → Bool)
      → Drawn n all place left old → left ≡ Some text → lent ≡ text.now
      → MatchOption next (block_lines n text.now ≡ take k (first (pieces text.now)) ∷ []) (λ q. block_lines n text.now ≡ take k (first (pieces text.now)) ∷ block_lines n q.now)
      → ((x : ℕ) → x < 8 * bytes → new x ≡ (old x || shifted at (λ v. line_dot (layout sheet w h a b s d) place (take k (first (pieces lent))) v y) x)) → to ≡ min (place + 1) (b - 1)
      → Drawn n all to next new
  drawn_more n all place k to left next text lent old new o e m r p t =
      let cells : List ℕ = take k (first (pieces text.now)) in
      let line = λ (v : ℕ). line_dot (layout sheet w h a b s d) place cells v y in
      let front : lines_left n left ≡ cells ∷ lines_left n next = ap (lines_left n) e ∙ lines_are n text.now cells next r in
      record {
        done = λ v. o.done v || line v;
        dots_are = λ x c. (let now : new x ≡ (old x || shifted at line x) = rw m at (p x c) in now) ∙ ap (λ v. v || shifted at line x) (o.dots_are x c)
            ∙ sym (shifted_or at o.done line (λ v. o.done v || line v) x (λ v. refl));
        rest_is = λ x. o.rest_is x ∙ ap (λ (ls : List (List ℕ)). o.done x || lines_dot (layout sheet w h a b s d) place ls x y) front
            ∙ or_assoc (o.done x) (line x) (lines_dot (layout sheet w h a b s d) (min (place + 1) (b - 1)) (lines_left n next) x y)
            ∙ ap (λ j. (o.done x || line x) || lines_dot (layout sheet w h a b s d) j (lines_left n next) x y) (sym t);
      }

  -- what is left has no dot in the row
  pub drawn_all : (text : List ℕ) (place : ℕ) (left : Option (Bor (List ℕ))) (row : ℕ → Bool) → 0 < w → w ≤ a → y < block_height h b s
      → ((x : ℕ) → lines_dot (layout sheet w h a b s d) place (lines_left (a / w) left) x y ≡ false) → Drawn (a / w) (block_lines (a / w) text) place left row
      → (x : ℕ) → x < 8 * bytes → row x ≡ shifted at (λ v. block_dot (layout sheet w h a b s d) text v y) x
  drawn_all text place left row p m k z o x c = grind (arith, lines_block)

  -- all that is left was added
  pub drawn_joined : (text : List ℕ) (place : ℕ) (left : Option (Bor (List ℕ))) (lent : Bor (List ℕ)) (old new : ℕ → Bool) → 0 < w → w ≤ a → y < block_height h b s → left ≡ Some lent
      → ((x : ℕ) → x < 8 * bytes → new x ≡ (old x || shifted at (λ v. lines_dot (layout sheet w h a b s d) place (block_lines (a / w) lent.now) v y) x)) → Drawn (a / w) (block_lines (a / w) text) place left old
      → (x : ℕ) → x < 8 * bytes → new x ≡ shifted at (λ v. block_dot (layout sheet w h a b s d) text v y) x
  drawn_joined text place left lent old new p m k e z o x c = grind (arith, lines_block)

  -- a block less wide than a cell has none
  pub drawn_narrow : (text : List ℕ) (row : Bool) (x : ℕ) → a < w → row ≡ false → row ≡ shifted at (λ v. block_dot (layout sheet w h a b s d) text v y) x
  drawn_narrow text row x l z = z ∙ sym (shifted_none at (λ v. block_dot (layout sheet w h a b s d) text v y) x (λ v. sym (block_narrow sheet text w h a b s d v y l)))
