-- The fields that meet a band, one after the other, and those that don't.
use Rattle.std.proofs.Common.{◌≡◌, ℕ, zero, suc, ◌+◌, ◌-◌, ◌*◌, ◌<◌, ◌≤◌, Bool, true, false, ◌&&◌, nat_lt, List, [], ◌∷◌, ◌++◌, length, map, take, get_or, subst, refl, ap, sym, ◌∙◌, arith, inl, inr, filter, ℤ, pos, ◌+ℤ◌, ◌≤ℤ◌, ◌<ℤ◌, int_le, int_lt, add-zero}
use Rattle.std.proofs.lemmas.Grind.{common_steps}
use Rattle.std.specs.List.{range_with_len, sum_by}
use Rattle.std.proofs.lemmas.Int.{ints}
use Rattle.std.proofs.lemmas.Bool.{cases_Bool, lt-ltb}
use Rattle.std.proofs.lemmas.List.{map-id, map-append, take_all, take_more, append-nil, length-take}
use Rattle.std.proofs.lemmas.List.Elements.{filter_more}
use Rattle.std.proofs.lemmas.List.FromFn.{sum_by-map-range_with_len_more}
use Rattle.std.proofs.lemmas.List.Sums.{length-filter, count_by-le-length}
use Rattle.vp_dots.specs.Painting.{paint}
use Rattle.vp_glyph.specs.Sheets.{Sheets}
use Rattle.vp_format.specs.Formats.{Held}
use Rattle.vp_format.specs.declared.field.Field.{Field}
use Rattle.vp_field.specs.declared.view.View.{View}
use Rattle.vp_field.specs.Views.{seen_y}
use Rattle.vp_field.specs.Fields.{field_ink, stroke_of, box_rows}
use Rattle.vp_field.specs.Strokes.{label_dot, image_dot}
use Rattle.vp_field.proofs.Folds.{label_dot-push, moved_dot}
use Rattle.vp_field.proofs.Boxed.{in_the_box}
use Rattle.vp_bands.specs.Meeting.{shows_row, box_meets, field_meets, meeting, pairs}
use Rattle.vp_bands.specs.Standing.{met}
use Rattle.vp_bands.proofs.Spans.{row_any}

-- what no step changes is the same at the end
constant : {X : Type 0} (F : ℕ → X) (from d : ℕ) → ((k : ℕ) → from ≤ k → k < from + d → F (k + 1) ≡ F k) → F (from + d) ≡ F from
constant F from zero step = ap F (omega arith)
constant F from (suc d) step = ap F (omega arith) ∙ step (from + d) (omega arith) (omega arith) ∙ constant F from d (λ k ge lt. step k ge (omega arith))

same_over : {X : Type 0} (F : ℕ → X) (from n : ℕ) → from ≤ n → ((k : ℕ) → from ≤ k → k < n → F (k + 1) ≡ F k) → F n ≡ F from
same_over F from n le step = let e : n ≡ from + (n - from) = omega arith in ap F e ∙ constant F from (n - from) (λ k ge lt. step k ge (omega arith))

-- some field, where there is one at a place
any_of : (fields : List Field) (k : ℕ) → k < length fields → Field
any_of [] k lt = absurd (omega arith)
any_of (f ∷ fields) k lt = f

-- none of the fields from one to another passes a test
abbrev pub NoneOf : (Field → Bool) → List Field → ℕ → ℕ → Type 0
NoneOf p fields from to = (k : ℕ) (f : Field) → from ≤ k → k < to → p (get_or fields k f) ≡ false

-- of the first fields those that meet band b
abbrev pub met_before : Sheets → Held → View → ℕ → ℕ → List Field
met_before sheets held view b seen = met sheets held.stored view b (take seen held.fields)

-- such fields are passed by
pub passed_by : (p : Field → Bool) (fields : List Field) (seen n : ℕ) → seen ≤ n → n ≤ length fields → NoneOf p fields seen n → filter p (take n fields) ≡ filter p (take seen fields)
passed_by p fields seen n le within none = same_over (λ m. filter p (take m fields)) seen n le (λ k ge lt.
    let f = any_of fields k (omega arith) in
    filter_more p fields k f (omega arith) ∙ rw (none k f ge lt) (append-nil (filter p (take k fields))))

-- and the next one that passes it comes behind those before
pub passes_next : (p : Field → Bool) (fields : List Field) (seen n : ℕ) (f : Field) → seen ≤ n → n < length fields → NoneOf p fields seen n → get_or fields n f ≡ f → p f ≡ true
    → filter p (take (n + 1) fields) ≡ filter p (take seen fields) ++ f ∷ []
passes_next p fields seen n f le lt none is now = grind (arith, common_steps, passed_by)

-- behind the last one that passes it are all
pub all_passed : (p : Field → Bool) (fields : List Field) (seen : ℕ) → seen ≤ length fields → NoneOf p fields seen (length fields) → filter p (take seen fields) ≡ filter p fields
all_passed p fields seen within none =
    sym (passed_by p fields seen (length fields) within (omega arith) none) ∙ ap (filter p) (take_all (length fields) fields (omega arith))

pub few_passed : (p : Field → Bool) (fields : List Field) (m : ℕ) → length fields ≤ 1024 → length (filter p (take m fields)) ≤ 1024
few_passed p fields m few = omega (arith, length-filter p (take m fields), count_by-le-length p (take m fields), length-take m fields)

-- a row of the label that shows one of a box
pub shown : (y height : ℕ) (top s : ℤ) (rows : ℕ) → y < height → top ≤ℤ s → s <ℤ (top +ℤ pos rows) → (nat_lt y height && (int_le top s && int_lt s (top +ℤ pos rows))) ≡ true
shown y height top s rows l lo hi = rw (lt-ltb y height l) (grind (arith, ints))

-- a field that doesn't meet the band has no ink there
pub no_ink : (sheets : Sheets) (stored : List ℕ) (view : View) (f : Field) (b y : ℕ) (x : ℤ) → field_meets sheets stored view b f ≡ false → y < view.height → 32 * b ≤ y → y < 32 * b + 32
    → field_ink sheets stored f x (seen_y view (pos y)) ≡ false
unfolding field_meets box_meets
no_ink sheets stored view f b y x out low from to = elim (cases_Bool (field_ink sheets stored f x (seen_y view (pos y)))) [
  | inr none ↦ none
  | inl ink ↦ let r = in_the_box.rows sheets stored f x (seen_y view (pos y)) ink in
      grind (arith, row_any (shows_row view f.top (box_rows sheets stored f)) (32 * b) 32 y from to (shown y view.height f.top (seen_y view (pos y)) (box_rows sheets stored f) low r.0 r.1))
]

-- a place where the fields that don't meet the band have no ink
module _ (sheets : Sheets) (stored : List ℕ) (p : Field → Bool) (fields : List Field) (x y : ℤ)
    (none : (f : Field) → p f ≡ false → field_ink sheets stored f x y ≡ false) where
  abbrev dot_of : List Field → Bool
  dot_of fs = label_dot (map (stroke_of sheets stored) fs) x y

  pushed : (fs : List Field) (f : Field) → dot_of (fs ++ f ∷ []) ≡ paint f.op (field_ink sheets stored f x y) (dot_of fs)
  pushed fs f = grind (arith, map-append, label_dot-push)

  at_field : (m : ℕ) → m < length fields → dot_of (filter p (take m fields)) ≡ dot_of (take m fields) → dot_of (filter p (take (m + 1) fields)) ≡ dot_of (take (m + 1) fields)
  at_field m lt same =
      let d = any_of fields m lt in
      let f = get_or fields m d in
      let all = ap dot_of (take_more fields m d lt) ∙ pushed (take m fields) f in
      elim (cases_Bool (p f)) [
        | inl now ↦ ap dot_of (filter_more p fields m d lt ∙ rw now refl) ∙ pushed (filter p (take m fields)) f ∙ ap (paint f.op (field_ink sheets stored f x y)) same ∙ sym all
        | inr out ↦ ap dot_of (filter_more p fields m d lt ∙ rw out (append-nil (filter p (take m fields)))) ∙ same
            ∙ sym (all ∙ ap (λ i. paint f.op i (dot_of (take m fields))) (none f out))
      ]

  up_to : (m : ℕ) → m ≤ length fields → dot_of (filter p (take m fields)) ≡ dot_of (take m fields)
  up_to zero le = refl
  up_to (suc m) le = let e : suc m ≡ m + 1 = omega arith in rw e (at_field m (omega arith) (up_to m (omega arith)))

  pub met_dot : label_dot (map (stroke_of sheets stored) (filter p fields)) x y ≡ label_dot (map (stroke_of sheets stored) fields) x y
  met_dot = subst (λ fs. dot_of (filter p fs) ≡ dot_of fs) (take_all (length fields) fields (omega arith)) (up_to (length fields) (omega arith))

-- what the band shows of the fields that meet it is the label
pub met_image : (sheets : Sheets) (stored : List ℕ) (view : View) (b : ℕ) (fields : List Field) (x k : ℕ) → k < 32
    → image_dot view (map (stroke_of sheets stored) (met sheets stored view b fields)) x (32 * b + k) ≡ image_dot view (map (stroke_of sheets stored) fields) x (32 * b + k)
met_image sheets stored view b fields x k low = grind (arith, common_steps, moved_dot, met_dot, no_ink)

-- a sum over one more number
pub sum_more : (F : ℕ → ℕ) (n : ℕ) → sum_by F (range_with_len 0 (n + 1)) ≡ sum_by F (range_with_len 0 n) + F n
sum_more F n = rw (map-id, map-id) at (sum_by-map-range_with_len_more F (λ c. c) 0 n n (omega arith))

-- the pairs of one more band
pub pairs_more : (sheets : Sheets) (stored : List ℕ) (view : View) (fields : List Field) (n : ℕ) → pairs sheets stored view fields (n + 1) ≡ pairs sheets stored view fields n + meeting sheets stored view fields n
unfolding pairs
pairs_more sheets stored view fields n = sum_more (meeting sheets stored view fields) n

pub no_pairs : (sheets : Sheets) (stored : List ℕ) (view : View) (fields : List Field) → pairs sheets stored view fields 0 ≡ 0
unfolding pairs
no_pairs sheets stored view fields = refl

pub few_pairs : (sheets : Sheets) (stored : List ℕ) (view : View) (fields : List Field) (n : ℕ) → length fields ≤ 1024 → pairs sheets stored view fields n ≤ 1024 * n
few_pairs sheets stored view fields zero few = omega (arith, no_pairs sheets stored view fields)
few_pairs sheets stored view fields (suc n) few =
    let next : suc n ≡ n + 1 = omega arith in
    rw next (omega (arith, pairs_more sheets stored view fields n, few_pairs sheets stored view fields n few, count_by-le-length (field_meets sheets stored view n) fields))

-- what never falls
pub grows : (F : ℕ → ℕ) → ((k : ℕ) → F k ≤ F (k + 1)) → (b d : ℕ) → F b ≤ F (b + d)
grows F step b zero = simp add-zero (omega arith)
grows F step b (suc d) = let e : b + suc d ≡ b + d + 1 = omega arith in rw e (omega (arith, step (b + d), grows F step b d))
