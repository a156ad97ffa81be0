-- White bands, and bands cut at the label's edge.
use Rattle.std.proofs.Common.{inl, inr, ◌≡◌, ℕ, ◌+◌, ◌*◌, ◌<◌, ◌≤◌, Bool, false, cond, refl, sym, ap, ◌∙◌, arith, List, [], ◌∷◌, ◌++◌, length, get_or, replicate, drop, length-append, length-drop, pos}
use Rattle.std.proofs.lemmas.List.{get_or_append_left, length-replicate}
use Rattle.std.proofs.lemmas.Bool.{cases_lt, lt-ltb, le-ltb}
use Rattle.vp_dots.specs.Dots.{dot, span}
use Rattle.vp_dots.specs.Images.{row_bytes}
use Rattle.vp_dots.specs.Painting.{Painted}
use Rattle.vp_dots.specs.declared.Op.TheVariants.{White}
use Rattle.vp_label_size.specs.declared.TheConstants.{BAND_BYTES, BAND_ROWS, WIDEST}
use Rattle.vp_field.specs.Strokes.{Stroke, image_dot}
use Rattle.vp_field.specs.Views.{seen_x, seen_y, columns_of}
use Rattle.vp_field.specs.Bands.{Shows, ShownPainted}
use Rattle.vp_field.specs.declared.view.View.{View}
use Rattle.vp_field.proofs.OnWhite.{dot_white}
use Rattle.vp_field.proofs.Folds.{label_dot-none, label_dot-push, moved_dot}

white_front : (n x : ℕ) (rest : List ℕ) → x < 8 * n → dot (replicate n 0 ++ rest) x ≡ false
unfolding dot
white_front n x rest h = grind (arith, get_or_append_left, length-replicate, dot_white)

-- a band whose rows are white as far as the label reaches shows a label without strokes
pub shows_none : (view : View) (first n bytes : ℕ) (a b : List (List ℕ)) → bytes ≤ BAND_BYTES
    → ((k : ℕ) → k < BAND_ROWS → length (get_or a k []) ≡ BAND_BYTES)
    → ((k : ℕ) → k < n → get_or b k [] ≡ replicate bytes 0 ++ drop bytes (get_or a k []))
    → ((k : ℕ) → n ≤ k → get_or b k [] ≡ get_or a k []) → ((k : ℕ) → k < BAND_ROWS → first + k < view.height → k < n)
    → ((x : ℕ) → x < WIDEST → x < view.width → x < 8 * bytes) → Shows view first [] b
shows_none view first n bytes a b few long done rest on across = record {
  rows_are = λ k h. elim (cases_lt k n) [
    | inl l ↦ ap length (done k l) ∙ length-append (replicate bytes 0) (drop bytes (get_or a k []))
        ∙ (let e = long k h in omega (arith, length-replicate {A = ℕ} bytes 0, length-drop bytes (get_or a k [])))
    | inr g ↦ ap length (rest k g) ∙ long k h
  ];
  dots_are = λ x k l wide h high.
      ap (λ row. dot row x) (done k (on k h high)) ∙ white_front bytes x (drop bytes (get_or a k [])) (across x l wide)
      ∙ sym (label_dot-none (pos x) (pos (first + k)));
}

-- one more stroke painted
pub shows_more : (view : View) (first : ℕ) (s : Stroke) (a b : List (List ℕ))
    → ShownPainted (columns_of view) s.op (λ x k. s.ink (seen_x view (pos x)) (seen_y view (pos (first + k)))) a b
    → (strokes : List Stroke) → Shows view first strokes a → Shows view first (strokes ++ s ∷ []) b
shows_more view first s a b p strokes q = grind (arith, moved_dot, label_dot-push)

kept_dot : (from to d : ℕ) (b : Bool) → d < from → cond (span from to d) false b ≡ b
kept_dot from to d b h1 = grind arith

cut_dot : (from to d : ℕ) (b : Bool) → from ≤ d → d < to → cond (span from to d) false b ≡ false
cut_dot from to d b h1 h2 = grind arith

-- the bytes of the label's rows, cut at its edge
pub shows_cut : (view : View) (first n to : ℕ) (a b : List (List ℕ)) → view.width ≤ WIDEST → to ≡ 8 * row_bytes view.width
    → ((k : ℕ) → k < n → Painted White (span view.width to) (get_or a k []) (get_or b k []))
    → ((k : ℕ) → k < BAND_ROWS → first + k < view.height → k < n)
    → (strokes : List Stroke) → Shows view first strokes a → (x k : ℕ) → x < 8 * row_bytes view.width → k < BAND_ROWS → first + k < view.height
    → dot (get_or b k []) x ≡ image_dot view strokes x (first + k)
shows_cut view first n to a b w e done on strokes q x k l h high =
    let long = q.rows_are k h in
    (done k (on k h high)).dots_are x (omega arith) ∙ elim (cases_lt x view.width) [
      | inl near ↦ kept_dot view.width to x (dot (get_or a k []) x) near ∙ q.dots_are x k (omega arith) near h high
          ∙ rw (lt-ltb x view.width near, lt-ltb (first + k) view.height high) refl
      | inr far ↦ cut_dot view.width to x (dot (get_or a k []) x) far (omega arith) ∙ rw (le-ltb x view.width far) refl
    ]
