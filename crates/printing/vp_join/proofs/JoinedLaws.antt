-- The laws of joined images.
use Rattle.std.proofs.Common.{Err, Option, inl, inr, ◌≡◌, ◌≢◌, ◌+◌, ◌*◌, ℕ, cond, eqb, eq-eqb, List, [], ◌∷◌, ◌++◌, length, Some, None, true, false, refl, sym, ap, ◌∙◌, arith}
use Rattle.std.proofs.lemmas.Bool.{cases_eq, ne_eqb, lt-ltb}
use Rattle.std.proofs.lemmas.List.{append-nil}
use Rattle.vp_dots.specs.Dots.{dot}
use Rattle.vp_dots.specs.Headers.{header_of}
use Rattle.vp_dots.specs.Images.{Image, row_bytes, image_rows, pbm}
use Rattle.vp_dots.proofs.ImageLaws.{length-image_rows}
use Rattle.vp_join.specs.Strips.{Strip, IsNumber, AreStrips, IsJoined, IsOffence, IsDecided, height_of, strips_rows, without_padding}
use Rattle.vp_join.specs.Told.{Told, told, nothing}
use Rattle.vp_join.specs.Passes.{IsExact, IsOfCalls}
use Rattle.vp_join.specs.declared.fault.JoinFault.{JoinFault}
use Rattle.vp_join.specs.declared.fault.JoinFault.TheVariants.{TooWide, Differ, Read, Write, TooManyTurns}
use Rattle.vp_join.specs.declared.fault.Offence.{Offence}
use Rattle.vp_join.proofs.Agree.{after, after-height, after-rows, after-width, told_images, told_offence, images_told, each_text, never_both, length-rows_of, Images}
use Rattle.vp_join.proofs.Pictures.{pbm_is, dot_in_row}

pub one_offence : (text : List ℕ) (o p : Offence) → IsOffence text o → IsOffence text p → o ≡ p
one_offence text o p h k = let e : Some o ≡ Some p = sym (told_offence text o h) ∙ told_offence text p k in cc

pub not_both : (text : List ℕ) (image : Image) (o : Offence) → IsJoined text image → IsOffence text o → ⊥
not_both text image o j h = never_both text image.width j.strips o j.begins h

pub joined_told : (text : List ℕ) (image : Image) → IsJoined text image → (told text).offence ≡ None
joined_told text image j = ap (λ (t : Told). t.offence) (told_images text image.width j.strips j.begins)

-- the text of the joined image
joined_text : (text : List ℕ) (image : Image) → (j : IsJoined text image) → pbm image ≡ cond (eqb image.height 0) [] (header_of image.width image.height) ++ without_padding image.width (strips_rows j.strips)
joined_text text image j = pbm_is image (strips_rows j.strips) (length-rows_of image.width j.strips j.begins.are ∙ ap (λ h. h * row_bytes image.width) (sym j.height_is)) j.dots_are

-- images with these strips
of_images : (text : List ℕ) → Images text → (image : Image) × IsJoined text image
of_images text i =
    let raw = strips_rows i.strips in
    let image : Image = record { width = i.width; height = height_of i.strips; is_black = λ x y. dot raw (8 * (y * row_bytes i.width) + x) } in
    (image, record { strips = i.strips; begins = i.begins; height_is = refl; dots_are = λ x y l k. refl })

pub told_joined : (text : List ℕ) → (told text).offence ≡ None → (image : Image) × IsJoined text image
told_joined text e = of_images text (images_told text e)

pub decided : (text : List ℕ) → IsDecided text
decided text = elim (each_text text) [ inl i ↦ inl (of_images text i) | inr p ↦ inr p ]

no_text : (image : Image) → image.height ≡ 0 → pbm image ≡ []
no_text image z = rw (eq-eqb image.height 0 z) refl

same_wide : (v w : ℕ) (xs ys : List Strip) → AreStrips v xs → AreStrips w ys → (after nothing xs).width ≡ (after nothing ys).width → height_of xs ≢ 0 → height_of xs ≡ height_of ys → v ≡ w
same_wide v w [] ys p q e n h = absurd (n refl)
same_wide v w (x ∷ xs) [] p q e n h = absurd (n h)
same_wide v w (x ∷ xs) (y ∷ ys) p q e n h = sym (after-width v nothing x xs p) ∙ e ∙ after-width w nothing y ys q

text_of_size : ℕ → ℕ → List ℕ → List ℕ
text_of_size w h raw = cond (eqb h 0) [] (header_of w h) ++ without_padding w raw

-- a text makes one image
pub same_pbm : (text : List ℕ) (one other : Image) → IsJoined text one → IsJoined text other → pbm one ≡ pbm other
unfolding text_of_size
same_pbm text one other j k =
    let e = sym (told_images text one.width j.strips j.begins) ∙ told_images text other.width k.strips k.begins in
    let hs : height_of j.strips ≡ height_of k.strips = omega (arith, ap (λ (t : Told). t.so.height) e, after-height nothing j.strips, after-height nothing k.strips) in
    let h : one.height ≡ other.height = j.height_is ∙ hs ∙ sym k.height_is in
    let r : strips_rows j.strips ≡ strips_rows k.strips = sym (after-rows nothing j.strips) ∙ ap (λ (t : Told). t.so.rows) e ∙ after-rows nothing k.strips in
    elim (cases_eq one.height 0) [
      | inl z ↦ no_text one z ∙ sym (no_text other (sym h ∙ z))
      | inr n ↦
          let w : one.width ≡ other.width = same_wide one.width other.width j.strips k.strips j.begins.are k.begins.are (ap (λ (t : Told). t.so.width) e) (λ z. n (j.height_is ∙ z)) hs in
          joined_text text one j ∙ ap (λ v. text_of_size v one.height (strips_rows j.strips)) w ∙ ap (λ v. text_of_size other.width v (strips_rows j.strips)) h
          ∙ ap (text_of_size other.width other.height) r ∙ sym (joined_text text other k)
    ]

pub wide_fits : (width : ℕ) (strips : List Strip) → AreStrips width strips → height_of strips ≢ 0 → IsNumber width
wide_fits width [] are n = absurd (n refl)
wide_fits width (s ∷ strips) are n = rw are.0.width_is at are.0.width_fits

-- the text of a joined image makes that image
pub twice : (text : List ℕ) (image : Image) → IsJoined text image → IsJoined (pbm image) image
twice text image j = elim (cases_eq image.height 0) [
  | inl z ↦ record {
    strips = [];
    begins = record { are = tt; height_fits = omega arith; text_is = no_text image z };
    height_is = z;
    dots_are = λ x y l k. absurd (omega (arith, k, z));
  }
  | inr n ↦
      let s : Strip = record { width = image.width; height = image.height; rows = image_rows image } in
      let raw = strips_rows j.strips in
      let long : length raw ≡ image.height * row_bytes image.width = length-rows_of image.width j.strips j.begins.are ∙ ap (λ h. h * row_bytes image.width) (sym j.height_is) in
      record {
        strips = s ∷ [];
        begins = record {
          are = (
            record {
              width_is = refl;
              width_fits = wide_fits image.width j.strips j.begins.are (λ z. n (j.height_is ∙ z));
              height_fits = record { least = omega (arith, n); most = omega (arith, j.height_is, j.begins.height_fits) };
              length_is = length-image_rows image;
            },
            tt,
          );
          height_fits = omega (arith, j.height_is, j.begins.height_fits);
          text_is = rw (ne_eqb image.height 0 n) (sym (append-nil ((header_of image.width image.height ++ image_rows image) ++ []) ∙ append-nil (header_of image.width image.height ++ image_rows image)));
        };
        height_is = omega arith;
        dots_are = λ x y l k.
            sym (ap (λ r. dot r (8 * (y * row_bytes image.width) + x)) (append-nil (image_rows image))
            ∙ dot_in_row image raw long j.dots_are (8 * (y * row_bytes image.width) + x) x y refl (omega (arith, l)) k ∙ rw (lt-ltb x image.width l) refl);
      }
]

-- images are not refused
pub only_calls : (text : List ℕ) (image : Image) (held holds : Option (List ℕ)) (fault : JoinFault) → IsJoined text image → IsExact text held holds (Err fault) → IsOfCalls fault
only_calls text image held holds TooWide j e = absurd (let k : false ≡ true = e.2 in cc)
only_calls text image held holds Differ j e = e
only_calls text image held holds Read j e = tt
only_calls text image held holds Write j e = tt
only_calls text image held holds TooManyTurns j e = tt
only_calls text image held holds _ j e = not_both text image _ j e.0
