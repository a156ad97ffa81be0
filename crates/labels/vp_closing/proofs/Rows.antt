-- Rows of modules, drawn on white bytes one after the other.
use Rattle.std.proofs.Common.{◌≡◌, ◌<◌, ◌≤◌, ◌+◌, ◌-◌, ◌*◌, ◌/◌, ◌∙◌, ℕ, Bool, false, List, [], ◌∷◌, ◌++◌, length, length-append, inl, inr, ap, sym, refl, arith, pos, append_assoc, ltb, ◌&&◌, replicate, take, Option, Some}
use Rattle.std.specs.List.{flat_map, range_with_len}
use Rattle.std.proofs.Math.Nat.{mul-le-mul_right}
use Rattle.std.proofs.lemmas.Bool.{cases_lt, le-leb}
use Rattle.std.proofs.lemmas.Grind.{flat_map-append}
use Rattle.std.proofs.lemmas.List.{append-nil, length-replicate, map-id, take-replicate}
use Rattle.std.proofs.lemmas.List.FromFn.{map-range_with_len_more}
use Rattle.vp_dots.specs.Dots.{dot, shifted}
use Rattle.vp_dots.specs.Images.{image_row, image_rows, row_bytes}
use Rattle.vp_dots.proofs.ImageRows.{row_of_same}
use Rattle.vp_dots.specs.Painting.{Painted}
use Rattle.vp_dots.specs.declared.Op.TheVariants.{Black}
use Rattle.vp_dots.proofs.ImageLaws.{length-image_rows}
use Rattle.vp_dots.proofs.Rows.{dot_past}
use Rattle.vp_matrix.proofs.DarkRuns.{none_behind}
use Rattle.vp_field.proofs.OnWhite.{dot_white, on_white}
use Rattle.vp_matrix.specs.declared.matrix.Matrix.{Matrix as InHand}
use Rattle.vp_matrix.specs.Inks.{ink_of}
use Rattle.vp_matrix.specs.Symbols.{columns, rows, is_dark}
use Rattle.vp_matrix.specs.declared.code.MatrixCode.{MatrixCode}
use Rattle.vp_matrix.specs.Encoding.{columns_of, rows_of, IsMatrix}
use Rattle.vp_format.specs.declared.field.Span.{Span}
use Rattle.vp_field.specs.Contents.{bytes_of}
use Rattle.vp_label_settings.specs.declared.choice.MatrixAsked.{MatrixAsked}
use Rattle.vp_label_settings.specs.declared.choice.MatrixChoice.{MatrixChoice}
use Rattle.vp_label_settings.specs.declared.choice.SymbolChoice.{SymbolChoice}
use Rattle.vp_label_settings.specs.declared.choice.SymbolChoice.TheVariants.{Matrix}
use Rattle.vp_label_settings.specs.declared.parts.OpenContent.{OpenContent}
use Rattle.vp_label_settings.specs.declared.parts.OpenContent.TheVariants.{Data}
use Rattle.vp_closing.specs.Contents.{bytes_from, made_if}
use Rattle.vp_closing.specs.Matrices.{code_of, escape_of, matrix_made, modules_of, plain_data}
use Rattle.vp_closing.specs.Rows.{image}

-- a dot for a module
module_dot : (m : InHand) (x y : ℕ) → ink_of m 1 1 x y ≡ is_dark m y x
module_dot m x y =
    let a : x / 1 ≡ x = omega arith in
    let b : y / 1 ≡ y = omega arith in
    rw (a, b) refl

unmoved : (f : ℕ → Bool) (p : ℕ) → shifted (pos 0) f p ≡ f p
unmoved f p = rw (le-leb 0 p (omega arith)) (ap f (let e : p - 0 ≡ p = omega arith in e))

pub drawn : (m s : InHand) (wide high y : ℕ) (old new : List ℕ) → s ≡ m → wide ≡ 1 → high ≡ 1 → ((d : ℕ) → d < 8 * length old → dot old d ≡ false)
    → Painted Black (shifted (pos 0) (λ x. ink_of s wide high x y)) old new → (x : ℕ) → x < 8 * length old → dot new x ≡ is_dark m y x
drawn m s wide high y old new a b c white q x l =
    on_white (length old) (pos 0) (λ x. ink_of s wide high x y) old new refl white q x l ∙ unmoved (λ x. ink_of s wide high x y) x ∙ rw (a, b, c) (module_dot m x y)

-- and no dot behind the last column
pub white_behind : (m : InHand) (y : ℕ) (old new : List ℕ) → length new ≡ length old → ((x : ℕ) → x < 8 * length old → dot new x ≡ is_dark m y x)
    → (x : ℕ) → columns m ≤ x → dot new x ≡ false
white_behind m y old new long dots x l = elim (cases_lt x (8 * length old)) [
  | inl h ↦ dots x h ∙ none_behind m y x l
  | inr h ↦ dot_past new x (omega (arith, long, h))
]

-- nor any on white bytes
pub white : (n d : ℕ) → n ≤ 73 → d < 8 * length {A = ℕ} (take {A = ℕ} n (replicate 73 0)) → dot (take {A = ℕ} n (replicate 73 0)) d ≡ false
white n d few h =
    let same : take {A = ℕ} n (replicate 73 0) ≡ replicate n 0 = take-replicate n 73 0 few in
    rw same (dot_white n d (omega (arith, h, ap length same, length-replicate {A = ℕ} n 0)))

-- one row more
rows_more : (f : ℕ → List ℕ) (n : ℕ) → flat_map f (range_with_len 0 (n + 1)) ≡ flat_map f (range_with_len 0 n) ++ f n
rows_more f n =
    let more = rw (map-id, map-id) at (map-range_with_len_more (λ (x : ℕ). x) 0 n n (omega arith)) in
    ap (flat_map f) more ∙ flat_map-append f (range_with_len 0 n) (n ∷ []) ∙ ap (λ xs. flat_map f (range_with_len 0 n) ++ xs) (append-nil (f n))

abbrev pub first_rows : InHand → ℕ → List ℕ
first_rows m n = flat_map (image_row (image m)) (range_with_len 0 n)

pub next_row : (m : InHand) (n : ℕ) (old now new row : List ℕ) → now ≡ old ++ first_rows m n → row ≡ image_row (image m) n → new ≡ now ++ row → new ≡ old ++ first_rows m (n + 1)
next_row m n old now new row a b c =
    c ∙ ap (λ xs. xs ++ row) a ∙ ap (λ xs. (old ++ first_rows m n) ++ xs) b ∙ append_assoc old (first_rows m n) (image_row (image m) n) ∙ ap (λ xs. old ++ xs) (sym (rows_more (image_row (image m)) n))

-- which has room
pub has_room : (m : InHand) (n most : ℕ) (old now row : List ℕ) → n < rows m → now ≡ old ++ first_rows m n → length row ≡ row_bytes (columns m)
    → length old + rows m * row_bytes (columns m) ≤ most → length now + length row ≤ most
has_room m n most old now row l a b h =
    let len : length (first_rows m n) ≡ n * row_bytes (columns m) = length-image_rows (record { width = columns m; height = n; is_black = λ x y. is_dark m y x }) in
    let more : (n + 1) * row_bytes (columns m) ≤ rows m * row_bytes (columns m) = mul-le-mul_right (row_bytes (columns m)) (omega (arith, l)) in
    omega (arith, len, more, b, h, ap length a, length-append old (first_rows m n))

flat_same : (f g : ℕ → List ℕ) → ((k : ℕ) → f k ≡ g k) → (xs : List ℕ) → flat_map f xs ≡ flat_map g xs
flat_same f g e [] = refl
flat_same f g e (x ∷ xs) = ap (λ ys. ys ++ flat_map f xs) (e x) ∙ ap (λ ys. g x ++ ys) (flat_same f g e xs)

-- the rows of a symbol are those of its bytes
modules_are : (m : InHand) (code : MatrixCode) (src : List ℕ) → IsMatrix code src m → image_rows (image m) ≡ modules_of code src
unfolding modules_of
modules_are m code src is = rw (is.columns_are, is.rows_are)
    (flat_same _ _ (λ y. row_of_same (row_bytes (columns_of code src)) _ _ (λ x l. ap (λ b. ltb x (columns_of code src) && b) (is.modules_are y x))) (range_with_len 0 (rows_of code src)))

pub made_is : (old stored src : List ℕ) (start : ℕ) (span : Span) (asked : MatrixAsked) (code : MatrixCode) (escape : Option ℕ) (m : InHand) → stored ≡ old → span ≡ bytes_from stored start → src ≡ bytes_of stored span
    → code ≡ code_of asked src → escape ≡ escape_of asked → IsMatrix code (plain_data escape src) m → image_rows (image m) ≡ matrix_made old asked (bytes_from old start)
made_is old stored src start span asked code escape m st sp sr c e is =
    modules_are m code (plain_data escape src) is ∙ rw (c, e, sr, sp, st) refl

-- and they are what closing the field makes
pub made_if_is : (stored : List ℕ) (symbol : Option SymbolChoice) (content : Option OpenContent) (s : SymbolChoice) (o : OpenContent) (choice : MatrixChoice) (start : ℕ) → symbol ≡ Some s → s ≡ Matrix choice → content ≡ Some o → o ≡ Data start
    → matrix_made stored choice.asked (bytes_from stored start) ≡ made_if stored symbol content
made_if_is stored symbol content s o choice start a b c d = rw (a, b, c, d) refl
