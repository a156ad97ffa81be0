-- Lines of text cell by cell.
use Rattle.std.proofs.Common.{inl, inr, ◌≡◌, ℕ, zero, suc, subst, pos, ◌+ℤ◌, ◌+◌, ◌-◌, ◌*◌, ◌/◌, ◌%◌, ◌<◌, ◌≤◌, Bool, true, false, ltb, leb, ◌&&◌, ℤ, List, ◌∷◌, length, get_or, drop, refl, sym, ap, ◌∙◌, arith}
use Rattle.std.proofs.Math.Nat.{mul-le-mul_left}
use Rattle.std.proofs.lemmas.Bool.{cases_lt, and_parts, leb-true, lt-ltb, le-ltb, lt-leb, le-leb, false_from_ne_true}
use Rattle.std.proofs.lemmas.List.{drop_more}
use Rattle.vp_glyph.specs.Sheets.{Sheets}
use Rattle.vp_glyph.specs.declared.cell.Font.{Font}
use Rattle.vp_glyph.specs.declared.cell.Style.{Style}
use Rattle.vp_glyph.specs.Cells.{font_width, cell_width, cell_dot, cell_inside}
use Rattle.vp_dots.specs.Dots.{shifted}
use Rattle.vp_dots.specs.Painting.{Painted}
use Rattle.vp_dots.specs.declared.Op.{Op}
use Rattle.vp_dots.proofs.Paints.{painted_none, painted_same}
use Rattle.vp_dots.proofs.Shifts.{met, shifted_none, shifted_same}
use Rattle.vp_bars.specs.Drawing.{Drawn}
use Rattle.vp_bars.specs.Boxes.{plain_style, line_dot}
use Rattle.vp_bars.proofs.Paints.{drawn_more}

-- right of a cell there is no ink
pub cell_past : (sheets : Sheets) (font : Font) (style : Style) (c x y : ℕ) → cell_width font style ≤ x → cell_dot sheets font style c x y ≡ false
cell_past sheets font style c x y h = false_from_ne_true (cell_dot sheets font style c x y) (λ e. absurd (let k = (cell_inside sheets font style c x y e).0 in omega arith))

place_here : (f : Font) (j : ℕ) → j < font_width f → (j / font_width f ≡ 0) × (j % font_width f ≡ j)
place_here f j h1 = grind arith

place_after : (f : Font) (j : ℕ) → ((font_width f + j) / font_width f ≡ suc (j / font_width f)) × ((font_width f + j) % font_width f ≡ j % font_width f)
place_after f j = grind arith

room : (f : Font) (n j : ℕ) → ltb (font_width f + j) (font_width f * suc n) ≡ ltb j (font_width f * n)
room f n j = grind (arith, cases_lt, lt-ltb, le-ltb)

wide : (f : Font) (n j : ℕ) → j < font_width f → ltb j (font_width f * suc n) ≡ true
wide f n j h1 = grind (arith, lt-ltb)

module _ (sheets : Sheets) (font : Font) (y : ℕ) where
  cons_here : (c : ℕ) (rest : List ℕ) (j : ℕ) → j < font_width font → line_dot sheets font (c ∷ rest) j y ≡ cell_dot sheets font plain_style c j y
  unfolding line_dot
  cons_here c rest j h = let p = place_here font j h in rw (wide font (length rest) j h, p.0, p.1) refl

  cons_after : (c : ℕ) (rest : List ℕ) (j : ℕ) → line_dot sheets font (c ∷ rest) (font_width font + j) y ≡ line_dot sheets font rest j y
  unfolding line_dot
  cons_after c rest j = let p = place_after font j in rw (room font (length rest) j, p.0, p.1) refl

  -- the first cell of those from i on
  pub line_here : (text : List ℕ) (i j : ℕ) → i < length text → j < font_width font → line_dot sheets font (drop i text) j y ≡ cell_dot sheets font plain_style (get_or text i 0) j y
  line_here text i j h k = ap (λ cs. line_dot sheets font cs j y) (drop_more text i 0 h) ∙ cons_here (get_or text i 0) (drop (i + 1) text) j k

  -- and those behind it
  pub line_after : (text : List ℕ) (i j : ℕ) → i < length text → line_dot sheets font (drop i text) (font_width font + j) y ≡ line_dot sheets font (drop (i + 1) text) j y
  line_after text i j h = ap (λ cs. line_dot sheets font cs (font_width font + j) y) (drop_more text i 0 h) ∙ cons_after (get_or text i 0) (drop (i + 1) text) j

  -- the cells from i on
  pub line_from : (text : List ℕ) (i j : ℕ) → i ≤ length text → line_dot sheets font text (font_width font * i + j) y ≡ line_dot sheets font (drop i text) j y
  line_from text zero j h = ap (λ n. line_dot sheets font text n y) (let e : font_width font * 0 + j ≡ j = omega arith in e)
  line_from text (suc i) j h = grind (arith, line_from text i (font_width font + j), line_after)

  pub line_past : (text : List ℕ) (j : ℕ) → font_width font * length text ≤ j → line_dot sheets font text j y ≡ false
  unfolding line_dot
  line_past text j h = rw (le-ltb j (font_width font * length text) h) refl

-- one more cell is painted
pub line_more : (op : Op) (at : ℤ) (f : ℕ → Bool) (old row new : List ℕ) (sheets cs : Sheets) (font cf : Font) (ct : Style) (text : List ℕ) (c y i x w : ℕ)
    → i < length text → w ≡ font_width font → cs ≡ sheets → cf ≡ font → ct ≡ plain_style → c ≡ get_or text i 0
    → Drawn op at f old row x (λ j. line_dot sheets font (drop i text) j y) → Painted op (shifted at (λ k. leb x k && cell_dot cs cf ct c (k - x) y)) row new
    → Drawn op at f old new (x + w) (λ j. line_dot sheets font (drop (i + 1) text) j y)
line_more op at f old row new sheets cs font cf ct text c y i x w h v s e t k d p =
    let same : (u : ℕ) → cell_dot cs cf ct c u y ≡ cell_dot sheets font plain_style (get_or text i 0) u y = λ u.
    ap (λ z. cell_dot z cf ct c u y) s ∙ ap (λ z. cell_dot sheets z ct c u y) e ∙ ap (λ z. cell_dot sheets font z c u y) t ∙ ap (λ z. cell_dot sheets font plain_style z u y) k in
    drawn_more op at f old row new x w (λ j. line_dot sheets font (drop i text) j y) (λ j. cell_dot cs cf ct c j y) (λ j. line_dot sheets font (drop (i + 1) text) j y) d p
    (λ j l. line_here sheets font y text i j h (omega arith) ∙ sym (same j))
    (λ j l. same j ∙ cell_past sheets font plain_style (get_or text i 0) j y (omega arith))
    (λ j. ap (λ n. line_dot sheets font (drop i text) (n + j) y) v ∙ line_after sheets font y text i j h)

module _ (op : Op) (at : ℤ) (sheets : Sheets) (font : Font) (text : List ℕ) (y left : ℕ) where
  -- a line that stands so many dots to the right
  abbrev pub placed : ℕ → Bool
  placed i = leb left i && line_dot sheets font text (i - left) y

  -- the line's cells from i on are left, and those before are painted
  abbrev pub LeftFrom : List ℕ → List ℕ → ℕ → Type 0
  LeftFrom old row i = Drawn op at placed old row (left + font_width font * i) (λ j. line_dot sheets font (drop i text) j y)

  and_false : (b : Bool) → (b && false) ≡ false
  and_false b = grind arith

  -- the first cells can't be seen
  pub line_begun : (i : ℕ) (row : List ℕ) → i ≤ length text → ((x d : ℕ) → left ≤ x → x < left + font_width font * i → pos d ≡ at +ℤ pos x → d < 0)
      → LeftFrom row row i
  line_begun i row h none = record {
    done = painted_none op (shifted at (λ u. ltb u (left + font_width font * i) && placed u)) row
        (λ d l. shifted_same at (λ u. ltb u (left + font_width font * i) && placed u) (λ u. false) d (λ x q. elim (cases_lt x left) [
          | inl m ↦ rw (lt-leb left x m) (and_false (ltb x (left + font_width font * i)))
          | inr g ↦ elim (cases_lt x (left + font_width font * i)) [
            | inl m ↦ absurd (let z = none x d g m q in omega arith)
            | inr k ↦ rw (le-ltb x (left + font_width font * i) k) refl
          ]
        ]) ∙ shifted_none at (λ u. false) d (λ u. refl));
    left = λ u k. let e : u - left ≡ font_width font * i + (u - (left + font_width font * i)) = omega arith in
        rw (le-leb left u (omega arith)) (ap (λ n. line_dot sheets font text n y) e ∙ line_from sheets font y text i (u - (left + font_width font * i)) h);
  }

  -- one more cell
  pub line_next : (old row new : List ℕ) (cs : Sheets) (cf : Font) (ct : Style) (c i place : ℕ)
      → i < length text → place ≡ left + font_width font * i → cs ≡ sheets → cf ≡ font → ct ≡ plain_style → c ≡ get_or text i 0
      → LeftFrom old row i → Painted op (shifted at (λ k. leb place k && cell_dot cs cf ct c (k - place) y)) row new → LeftFrom old new (i + 1)
  line_next old row new cs cf ct c i place h p s e t k d q =
      let here : left + font_width font * i + font_width font ≡ left + font_width font * (i + 1) = omega arith in
      subst (λ n. Drawn op at placed old new n (λ j. line_dot sheets font (drop (i + 1) text) j y)) here
      (line_more op at placed old row new sheets cs font cf ct text c y i (left + font_width font * i) (font_width font) h refl s e t k d
      (subst (λ n. Painted op (shifted at (λ u. leb n u && cell_dot cs cf ct c (u - n) y)) row new) p q))

  -- nor can those behind
  pub line_ended : (i to : ℕ) (old row : List ℕ) → to ≤ i
      → ((x d : ℕ) → left + font_width font * to ≤ x → x < left + font_width font * length text → pos d ≡ at +ℤ pos x → 8 * length old ≤ d)
      → LeftFrom old row i → Painted op (shifted at placed) old row
  line_ended i to old row h none d =
      let more = mul-le-mul_left {m = to} {n = i} (font_width font) h in
      painted_same op (shifted at (λ u. ltb u (left + font_width font * i) && placed u)) (shifted at placed) old row
      (λ e l. shifted_same at (λ u. ltb u (left + font_width font * i) && placed u) placed e (λ x q. elim (cases_lt x (left + font_width font * i)) [
        | inl m ↦ rw (lt-ltb x (left + font_width font * i) m) refl
        | inr g ↦ rw (le-ltb x (left + font_width font * i) g) (elim (cases_lt x (left + font_width font * length text)) [
          | inl m ↦ absurd (let z = none x e (omega arith) m q in omega arith)
          | inr k ↦ sym (rw (line_past sheets font y text (x - left) (omega arith)) (and_false (leb left x)))
        ])
      ])) d.done

module _ (at : ℤ) (sheets : Sheets) (font : Font) (text : List ℕ) (y left : ℕ) where
  -- where a dot is seen there is a cell among those that can be seen
  pub line_seen : (from to d n : ℕ) → ((x e : ℕ) → left ≤ x → x < left + font_width font * from → pos e ≡ at +ℤ pos x → e < 0)
      → ((x e : ℕ) → left + font_width font * to ≤ x → x < left + font_width font * length text → pos e ≡ at +ℤ pos x → n ≤ e)
      → d < n → shifted at (λ i. leb left i && line_dot sheets font text (i - left) y) d ≡ true → from < to
  line_seen from to d n before behind l e = elim (met at d) [
    | inl p ↦ (
        let q : (leb left p.0 ≡ true) × (line_dot sheets font text (p.0 - left) y ≡ true) = and_parts _ _ (sym (p.2 (λ i. leb left i && line_dot sheets font text (i - left) y)) ∙ e) in
        let on = leb-true left p.0 q.0 in
        elim (cases_lt from to) [
          | inl m ↦ m
          | inr g ↦ elim (cases_lt p.0 (left + font_width font * from)) [
            | inl b ↦ absurd (let z = before p.0 d on b p.1 in omega arith)
            | inr b ↦ elim (cases_lt p.0 (left + font_width font * length text)) [
              | inl k ↦ absurd (let more = mul-le-mul_left {m = to} {n = from} (font_width font) g in let z = behind p.0 d (omega (arith, more)) k p.1 in omega arith)
              | inr k ↦ (let z : false ≡ true = sym (line_past sheets font y text (p.0 - left) (omega arith)) ∙ q.1 in cc)
            ]
          ]
        ])
    | inr n ↦ (let z : false ≡ true = sym (n.1 (λ i. leb left i && line_dot sheets font text (i - left) y)) ∙ e in cc)
  ]
