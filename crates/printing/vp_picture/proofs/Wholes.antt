-- A writer that took all of an image holds its file.
use Rattle.std.proofs.Common.{inl, inr, ◌⊎◌, eq-eqb, add-mul, ◌≡◌, ◌<◌, ◌+◌, ◌*◌, ℕ, zero, suc, Bool, List, [], ◌∷◌, ◌++◌, length, Option, None, Some, Ok, Err, refl, sym, ap, ◌∙◌, length-append, arith, subst}
use Rattle.std.specs.Prelude.{Result, ⊤, OnOk}
use Rattle.std.proofs.lemmas.List.{append-nil}
use Rattle.std.proofs.lemmas.Bool.{ne_eqb}
use Rattle.std.proofs.KnownBytes.{Appends-trans}
use Rattle.std.specs.Io.KnownBytes.{Appends}
use Rattle.vp_dots.specs.Headers.{header_of}
use Rattle.vp_dots.specs.Images.{Image, row_bytes, image_rows, pbm}
use Rattle.vp_dots.proofs.ImageLaws.{length-image_rows}
use Rattle.vp_png.specs.File.{IsPng, AreAcross, joined}
use Rattle.vp_png.specs.Kept.{waiting_bytes}
use Rattle.vp_join.specs.Strips.{Strip, IsNumber, IsJoined, BeginsWith}
use Rattle.vp_join.specs.Told.{Told}
use Rattle.vp_join.specs.Passes.{Joins, IsExactly, IsWritten}
use Rattle.vp_join.specs.declared.fault.JoinFault.{JoinFault}
use Rattle.vp_join.specs.declared.fault.JoinFault.TheVariants.{Header, Width, TooTall, Short, TooWide, Differ, Read, Write, TooManyTurns}
use Rattle.vp_png.proofs.Fronts.{goes_on}
use Rattle.vp_join.proofs.Agree.{told_images}
use Rattle.vp_join.proofs.JoinedLaws.{wide_fits}
use Rattle.vp_picture.specs.declared.drawing.Drawing.{Drawing}
use Rattle.vp_picture.specs.Kept.{Shows, ShowsAny, Draws, Drawn, Waits, IsAnswered, to_come}
use Rattle.vp_picture.specs.Pictures.{IsFile, IsPicture, IsPictured, Begins, HoldsFront, too_wide}

-- what is drawn follows what was
pub follows_drawn : (a b c : Option (List ℕ)) (d e : Drawing) (before bytes : List ℕ) → Drawn a b (Some d) before → Draws b c d e bytes → Drawn a c (Some e) (before ++ bytes)
follows_drawn a b c d e before bytes h k = record {
  out = h.out ++ k.out;
  appended = Appends-trans a b c h.out k.out h.appended k.appended;
  shows = k.shows before h.out h.shows;
}

-- an image that is begun
pub begun : (b c : Option (List ℕ)) (d e : Drawing) (text : List ℕ) → Shows d text [] → Draws b c d e [] → Drawn b c (Some e) text
begun b c d e text s k = record {
  out = k.out;
  appended = k.appended;
  shows = subst (λ x. Shows e x k.out) (append-nil text) (k.shows text [] s);
}

pub answered : (r : Result ⊤ JoinFault) → IsAnswered r → IsWritten r []
answered (Ok done) a = refl
answered (Err f) a = a

pub both_ok : (r : Result ⊤ JoinFault) (P Q : Type 0) → OnOk r P → OnOk r Q → OnOk r (P × Q)
both_ok (Ok done) P Q p q = (p, q)
both_ok (Err f) P Q p q = tt

length_across : (width : ℕ) (rows : List (List ℕ)) → AreAcross width rows → length (joined rows) ≡ length rows * row_bytes width
unfolding AreAcross
length_across width [] are = omega arith
length_across width (row ∷ rows) are = omega (arith, length-append row (joined rows), are.0, length_across width rows are.1)

-- an image with these bytes of rows, alone in a text
strip : ℕ → ℕ → List ℕ → Strip
strip width height rows = record { width = width; height = height; rows = rows }

alone : (w h : ℕ) (rows text : List ℕ) → IsNumber w → IsNumber h → length rows ≡ h * row_bytes w → text ≡ header_of w h ++ rows → BeginsWith w (strip w h rows ∷ []) [] text
unfolding strip
alone w h rows text wide high long e = record {
  are = (record { width_is = refl; width_fits = wide; height_fits = high; length_is = long }, tt);
  height_fits = omega (arith, high.most);
  text_is = e ∙ sym (append-nil ((header_of w h ++ rows) ++ []) ∙ append-nil (header_of w h ++ rows));
}

-- a text has one header
record Same (w h v k : ℕ) (rows others : List ℕ) : Type 0 where
  wide : w ≡ v
  high : h ≡ k
  rows_are : rows ≡ others

same : (text : List ℕ) (w h v k : ℕ) (rows others : List ℕ) → BeginsWith w (strip w h rows ∷ []) [] text → BeginsWith v (strip v k others ∷ []) [] text → Same w h v k rows others
unfolding strip
same text w h v k rows others one other =
    let e = sym (told_images text w (strip w h rows ∷ []) one) ∙ told_images text v (strip v k others ∷ []) other in
    record {
      wide = ap (λ (t : Told). t.so.width) e;
      high = omega (arith, ap (λ (t : Told). t.so.height) e);
      rows_are = ap (λ (t : Told). t.so.rows) e;
    }

left_none : (left across part : ℕ) → part < across → part ≡ left * across → left ≡ 0
left_none zero across part l e = refl
left_none (suc n) across part l e = absurd (let k : (n + 1) * across ≡ n * across + 1 * across = add-mul n 1 across in omega (arith, l, e, k))

-- a drawing to which all rows came holds the file of the image
file_of : (d : Drawing) (i : Image) (out : List ℕ) → Shows d (header_of i.width i.height ++ image_rows i) out → IsNumber i.width → IsNumber i.height → length d.part.items ≡ to_come d → waiting_bytes d.png ≡ [] → IsFile i out
file_of d i out s wide high all idle =
    let text = header_of i.width i.height ++ image_rows i in
    let left = left_none d.png.left d.across (length d.part.items) d.cut all in
    let part : d.part.items ≡ [] = none_in d.part.items (omega (arith, all, rows_none d.png.left d.across left)) in
    let png : IsPng d.png.width d.png.height s.rows out = subst (λ x. IsPng d.png.width d.png.height s.rows x) (ap (λ x. out ++ x) idle ∙ append-nil out) (s.stands.ended left) in
    let is : text ≡ header_of d.png.width d.png.height ++ joined s.rows = s.text_is ∙ ap (λ x. header_of d.png.width d.png.height ++ (joined s.rows ++ x)) part ∙ ap (λ x. header_of d.png.width d.png.height ++ x) (append-nil (joined s.rows)) in
    let one = alone i.width i.height (image_rows i) text wide high (length-image_rows i) refl in
    let other = alone d.png.width d.png.height (joined s.rows) text (record { least = omega (arith, d.wide, d.cut); most = omega (arith, d.wide, d.few) }) (record { least = d.tall.0; most = d.tall.1 })
    (length_across d.png.width s.rows png.across ∙ ap (λ n. n * row_bytes d.png.width) png.all) is in
    let k = same text i.width i.height d.png.width d.png.height (image_rows i) (joined s.rows) one other in
    record { rows = s.rows; rows_are = sym k.rows_are; png = rw (k.wide, k.high) png }
  where
    none_in : (xs : List ℕ) → length xs ≡ 0 → xs ≡ []
    none_in [] h = refl
    none_in (x ∷ xs) h = absurd (omega arith)

    rows_none : (left across : ℕ) → left ≡ 0 → left * across ≡ 0
    rows_none left across e = rw e (omega arith)

-- no text, and so nothing is put out
nothing_shown : (image : Option Drawing) (text out : List ℕ) → ShowsAny image text out → text ≡ [] → out ≡ []
nothing_shown None text out s e = s.1
nothing_shown (Some d) text out s e = absurd (let k : [] ≡ header_of d.png.width d.png.height ++ (joined s.rows ++ d.part.items) = sym e ∙ s.text_is in cc)

any_file : (image : Option Drawing) (i : Image) (out : List ℕ) → ShowsAny image (header_of i.width i.height ++ image_rows i) out → IsNumber i.width → IsNumber i.height → Waits image 0 → IsFile i out
any_file None i out s wide high w = absurd (let k : header_of i.width i.height ++ image_rows i ≡ [] = s.0 in cc)
any_file (Some d) i out s wide high w = file_of d i out s wide high (omega (arith, w.0)) w.1

picture_of : (a b : Option (List ℕ)) (image : Option Drawing) (text : List ℕ) (i : Image) → IsJoined text i → Drawn a b image (pbm i) → Waits image 0 → IsPicture a b i
picture_of a b image text i j d w = record {
  out = d.out;
  appended = d.appended;
  none = λ z. nothing_shown image (pbm i) d.out d.shows (no_text z);
  file = λ some. any_file image i d.out (rw (ne_eqb i.height 0 (λ e. omega (arith, some, e))) at d.shows)
      (wide_fits i.width j.strips j.begins.are (λ z. omega (arith, z, some, j.height_is))) (record { least = some; most = omega (arith, j.height_is, j.begins.height_fits) }) w;
}
  where
    no_text : i.height ≡ 0 → pbm i ≡ []
    no_text z = rw (eq-eqb i.height 0 z) refl

-- what the call comes to
module _ (text : List ℕ) (a b : Option (List ℕ)) (image : Option Drawing) (Has : List ℕ → Type 0) (drawn : (t : List ℕ) → Has t → Drawn a b image t) where
  none_more : Has [] → Appends a b []
  none_more h = let d = drawn [] h in subst (λ x. Appends a b x) (nothing_shown image [] d.out d.shows refl) d.appended

  pub pictured : (result : Result ℕ JoinFault) → IsExactly text Has too_wide result → OnOk result (Waits image 0) → IsPictured text a b result
  pictured (Ok height) k w = (k.0, k.1, k.2, k.3, picture_of a b image text k.0 k.1 (drawn (pbm k.0) k.4) w)
  pictured (Err Header) k w = (k.0, none_more k.1)
  pictured (Err Width) k w = (k.0, none_more k.1)
  pictured (Err TooTall) k w = (k.0, none_more k.1)
  pictured (Err Short) k w = (k.0, none_more k.1)
  pictured (Err TooWide) k w = (k.0, k.1, k.2, none_more k.3)
  pictured (Err Differ) k w = k
  pictured (Err Read) k w = tt
  pictured (Err Write) k w = tt
  pictured (Err TooManyTurns) k w = tt

-- what is drawn is a front of a file
any_front : (image : Option Drawing) (text out : List ℕ) → ShowsAny image text out → ((text ≡ []) × (out ≡ [])) ⊎ Begins text out
any_front None text out s = inl s
any_front (Some d) text out s = inr (record {
  width = d.png.width;
  height = d.png.height;
  rows = s.rows;
  part = d.part.items;
  text_is = s.text_is;
  less = omega (arith, d.cut, d.wide);
  front = goes_on d.png s.rows out s.stands;
})

pub fronts : (a b : Option (List ℕ)) (image : Option Drawing) (text : List ℕ) → Drawn a b image text → HoldsFront a b text
fronts a b image text d = record { out = d.out; appended = d.appended; front = any_front image text d.out d.shows }

pub joins_by : (a c b d : Option (List ℕ)) (Has Holds : List ℕ → Type 0) (wide : ℕ → Bool) (result : Result ℕ JoinFault) → ((t : List ℕ) → Has t → Holds t) → Joins a c b d Has wide result → Joins a c b d Holds wide result
joins_by a c b d Has Holds wide result f j = record {
  size = j.size;
  first = j.first;
  second = j.second;
  written = j.written;
  rest = j.rest;
  consumed_first = j.consumed_first;
  consumed_second = j.consumed_second;
  has = f j.written j.has;
  front = j.front;
  fits = j.fits;
  measured = j.measured;
  narrow = j.narrow;
  ending = j.ending;
}
