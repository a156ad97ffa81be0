-- Files, line by line.
use Rattle.std.proofs.Common.{◌≡◌, ℕ, ◌+◌, ◌≤◌, true, false, arith, ap, sym, ◌∙◌, refl, List, [], ◌∷◌, length, Result, Ok, Err, IsOk, if◌then◌else◌}
use Rattle.std.proofs.lemmas.List.{length-append}
use Rattle.vp_font.specs.declared.fault.Fault.{Fault}
use Rattle.vp_font.specs.declared.fault.Fault.TheVariants.{Ends}
use Rattle.vp_font.specs.declared.font.Counts.{Counts}
use Rattle.vp_font.specs.declared.letter.Entry.{Entry}
use Rattle.vp_font.specs.declared.font.FontError.{FontError}
use Rattle.vp_font.specs.declared.font.FontError.TheVariants.{At}
use Rattle.vp_font.specs.declared.state.Given.{Given}
use Rattle.vp_font.specs.declared.state.Given.TheVariants.{Nothing, Letter, Row, End}
use Rattle.vp_font.specs.declared.state.State.{State}
use Rattle.vp_font.specs.Words.{lines}
use Rattle.vp_font.specs.Rows.{row_of}
use Rattle.vp_font.specs.Steps.{start, step, row_fits}
use Rattle.vp_font.specs.Fonts.{Face, font_of, letters_with, raster_with, ends, told, read_from, more_letters, more_bytes, count_from}
use Rattle.vp_font.proofs.RowBytes.{row_within, length-row_of}

-- the step of a line, where the first of a text's lines is that
module _ (n : ℕ) (s : State) (text line behind : List ℕ) (is : lines text ≡ line ∷ lines behind) where
  pub count_err : (l b : ℕ) (why : Fault) → step s line ≡ Err why → count_from n s l b (lines text) ≡ Err (At n why)
  unfolding count_from
  count_err l b why e = rw (is, e) refl

  pub count_end : (l b : ℕ) (t : State) (given : Given) → step s line ≡ Ok (t, given) → ends given ≡ true → count_from n s l b (lines text) ≡ Ok (record { letters = l; bytes = b })
  unfolding count_from
  count_end l b t given e d = rw (is, e, d) refl

  pub count_more : (l b : ℕ) (t : State) (given : Given) → step s line ≡ Ok (t, given) → ends given ≡ false
      → count_from n s l b (lines text) ≡ count_from (n + 1) t (more_letters given l) (more_bytes given b) (lines behind)
  unfolding count_from
  count_more l b t given e d = rw (is, e, d) refl

  pub read_err : (l : List Entry) (r : List ℕ) (why : Fault) → step s line ≡ Err why → read_from n s l r (lines text) ≡ Err (At n why)
  unfolding read_from
  read_err l r why e = rw (is, e) refl

  pub read_end : (l : List Entry) (r : List ℕ) (t : State) (given : Given) → step s line ≡ Ok (t, given) → ends given ≡ true
      → read_from n s l r (lines text) ≡ Ok (record { metrics = t.metrics; letters = l; raster = r })
  unfolding read_from
  read_end l r t given e d = rw (is, e, d) refl

  pub read_more : (l : List Entry) (r : List ℕ) (t : State) (given : Given) → step s line ≡ Ok (t, given) → ends given ≡ false
      → read_from n s l r (lines text) ≡ read_from (n + 1) t (letters_with given l r) (raster_with given line r) (lines behind)
  unfolding read_from
  read_more l r t given e d = rw (is, e, d) refl

-- no line is left
pub count_none : (n : ℕ) (s : State) (l b : ℕ) (text : List ℕ) → lines text ≡ [] → count_from n s l b (lines text) ≡ Err (At n Ends)
unfolding count_from
count_none n s l b text e = rw e refl

pub read_none : (n : ℕ) (s : State) (l : List Entry) (r text : List ℕ) → lines text ≡ [] → read_from n s l r (lines text) ≡ Err (At n Ends)
unfolding read_from
read_none n s l r text e = rw e refl

-- a line gives a letter at most, and no more bytes than it has
pub letters_few : (given : Given) (n : ℕ) → more_letters given n ≤ n + 1
letters_few Nothing n = omega arith
letters_few (Letter x) n = omega arith
letters_few (Row b) n = omega arith
letters_few End n = omega arith

pub bytes_few : (given : Given) (line : List ℕ) (n : ℕ) → row_fits given line ≡ true → more_bytes given n ≤ n + length line
bytes_few Nothing line n e = omega arith
bytes_few (Letter x) line n e = omega arith
bytes_few (Row b) line n e = let w = row_within b line e in omega (arith, w)
bytes_few End line n e = omega arith

-- what is given is what is counted
pub letters_counted : (given : Given) (l : List Entry) (r : List ℕ) → length (letters_with given l r) ≡ more_letters given (length l)
letters_counted Nothing l r = refl
letters_counted (Letter x) l r = length-append l (record { letter = x; from = length r } ∷ [])
letters_counted (Row b) l r = refl
letters_counted End l r = refl

pub bytes_counted : (given : Given) (line r : List ℕ) → length (raster_with given line r) ≡ more_bytes given (length r)
bytes_counted Nothing line r = refl
bytes_counted (Letter x) line r = refl
bytes_counted (Row b) line r = length-append r (row_of b line) ∙ ap (λ k. length r + k) (length-row_of b line)
bytes_counted End line r = refl

-- what a font has
abbrev pub counts_of : Result Face FontError → Result Counts FontError
counts_of (Err why) = Err why
counts_of (Ok face) = Ok (record { letters = length face.letters; bytes = length face.raster })

abbrev pub Counted : List (List ℕ) → Type 0
Counted ls = (n : ℕ) (s : State) (l : List Entry) (r : List ℕ) → count_from n s (length l) (length r) ls ≡ counts_of (read_from n s l r ls)

counted_line : (line : List ℕ) (ls : List (List ℕ)) → Counted ls → (x : Result (State × Given) Fault) (n : ℕ) (l : List Entry) (r : List ℕ)
    → told n x (λ t. if ends t.1 then Ok (record { letters = length l; bytes = length r })
    else count_from (n + 1) t.0 (more_letters t.1 (length l)) (more_bytes t.1 (length r)) ls)
    ≡ counts_of (told n x (λ t. if ends t.1 then Ok (record { metrics = t.0.metrics; letters = l; raster = r })
    else read_from (n + 1) t.0 (letters_with t.1 l r) (raster_with t.1 line r) ls))
counted_line line ls h (Err why) n l r = refl
counted_line line ls h (Ok (t, Nothing)) n l r = h (n + 1) t l r
counted_line line ls h (Ok (t, Letter x)) n l r =
    ap (λ k. count_from (n + 1) t k (length r) ls) (sym (letters_counted (Letter x) l r)) ∙ h (n + 1) t (letters_with (Letter x) l r) r
counted_line line ls h (Ok (t, Row b)) n l r =
    ap (λ k. count_from (n + 1) t (length l) k ls) (sym (bytes_counted (Row b) line r)) ∙ h (n + 1) t l (raster_with (Row b) line r)
counted_line line ls h (Ok (t, End)) n l r = refl

-- what is counted is what the font has
pub counted : (ls : List (List ℕ)) → Counted ls
unfolding count_from read_from
counted [] n s l r = refl
counted (line ∷ ls) n s l r = counted_line line ls (counted ls) (step s line) n l r

-- there are never fewer
abbrev pub Grows : List (List ℕ) → Type 0
Grows ls = (n : ℕ) (s : State) (l b : ℕ) (c : Counts) → count_from n s l b ls ≡ Ok c → (l ≤ c.letters) × (b ≤ c.bytes)

grows_line : (ls : List (List ℕ)) → Grows ls → (x : Result (State × Given) Fault) (n l b : ℕ) (c : Counts)
    → told n x (λ t. if ends t.1 then Ok (record { letters = l; bytes = b })
    else count_from (n + 1) t.0 (more_letters t.1 l) (more_bytes t.1 b) ls) ≡ Ok c → (l ≤ c.letters) × (b ≤ c.bytes)
grows_line ls h (Err why) n l b c e = grind arith
grows_line ls h (Ok (t, Nothing)) n l b c e = h (n + 1) t l b c e
grows_line ls h (Ok (t, Letter x)) n l b c e = let p = h (n + 1) t (l + 1) b c e in (omega (arith, p.0), p.1)
grows_line ls h (Ok (t, Row k)) n l b c e = let p = h (n + 1) t l (b + k) c e in (p.0, omega (arith, p.1))
grows_line ls h (Ok (t, End)) n l b c e = grind arith

pub grows : (ls : List (List ℕ)) → Grows ls
unfolding count_from
grows [] n s l b c e = grind arith
grows (line ∷ ls) n s l b c e = grows_line ls (grows ls) (step s line) n l b c e

-- there is room for what a line gives, if there is for all
pub room_for : (n : ℕ) (s : State) (text line behind : List ℕ) → lines text ≡ line ∷ lines behind → (l b : ℕ) (t : State) (given : Given)
    → step s line ≡ Ok (t, given) → ends given ≡ false → (c : Counts) → count_from n s l b (lines text) ≡ Ok c
    → (more_letters given l ≤ c.letters) × (more_bytes given b ≤ c.bytes)
room_for n s text line behind is l b t given e d c h =
    grows (lines behind) (n + 1) t (more_letters given l) (more_bytes given b) c (sym (count_more n s text line behind is l b t given e d) ∙ h)

-- what refuses the counts refuses the font, and what counts has a font
refused_by : (x : Result Face FontError) (why : FontError) → ◌≡◌ {A = Result Counts FontError} (Err why) (counts_of x) → ◌≡◌ {A = Result Face FontError} (Err why) x
refused_by (Err w) why e = grind arith
refused_by (Ok face) why e = grind arith

pub refused : (file : List ℕ) (why : FontError) → Err why ≡ count_from 1 start 0 0 (lines file) → ◌≡◌ {A = Result Face FontError} (Err why) (font_of file)
refused file why e = refused_by (font_of file) why (e ∙ counted (lines file) 1 start [] [])

taken_by : (x : Result Face FontError) (c : Counts) → ◌≡◌ {A = Result Counts FontError} (Ok c) (counts_of x) → IsOk x
taken_by (Err w) c e = grind arith
taken_by (Ok face) c e = grind arith

pub taken : (file : List ℕ) (c : Counts) → Ok c ≡ count_from 1 start 0 0 (lines file) → IsOk (font_of file)
taken file c e = taken_by (font_of file) c (e ∙ counted (lines file) 1 start [] [])

rooms_by : (x : Result Face FontError) (c : Counts) (face : Face) → ◌≡◌ {A = Result Counts FontError} (Ok c) (counts_of x) → x ≡ Ok face
    → (c.letters ≡ length face.letters) × (c.bytes ≡ length face.raster)
rooms_by (Err w) c face e f = grind arith
rooms_by (Ok x) c face e f = grind arith

pub rooms : (file : List ℕ) (c : Counts) (face : Face) → Ok c ≡ count_from 1 start 0 0 (lines file) → font_of file ≡ Ok face
    → (c.letters ≡ length face.letters) × (c.bytes ≡ length face.raster)
rooms file c face e f = rooms_by (font_of file) c face (e ∙ counted (lines file) 1 start [] []) f
