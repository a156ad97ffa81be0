-- What is told of a size is the size of images.
use Rattle.std.proofs.Common.{◌≡◌, ◌+◌, ◌*◌, ℕ, List, [], ◌∷◌, ◌++◌, length, ◌≤◌, refl, sym, ap, ◌∙◌, arith}
use Rattle.vp_dots.specs.Dots.{dot}
use Rattle.vp_dots.specs.Images.{Image, row_bytes, pbm}
use Rattle.vp_join.specs.Strips.{Strip, AreStrips, BeginsWith, IsJoined, greatest, height_of, strips_rows, without_padding}
use Rattle.vp_join.specs.Told.{Told, told, whole, nothing, rows_told}
use Rattle.vp_join.specs.Passes.{Tells, HasSize, head_of}
use Rattle.vp_join.specs.declared.reading.Size.{Size}
use Rattle.vp_join.proofs.Agree.{after, after-height, after-rows, after-width, told_images, images_told, length-rows_of, Images}
use Rattle.vp_join.proofs.Pictures.{pbm_is}

-- the strips of a text that tells a size
pub record Measured (text : List ℕ) (size : Size) : Type 0 where
  pub strips : List Strip
  pub begins : BeginsWith size.width strips [] text
  pub height_is : size.height ≡ height_of strips
  pub rows_is : rows_told text ≡ strips_rows strips

told_whole : (text : List ℕ) (size : Size) → Tells text size → (i : Images text) → whole (after nothing i.strips) ≡ told text
told_whole text size t i = sym (told_images text i.width i.strips i.begins)

with_width : (text : List ℕ) (width v : ℕ) (strips : List Strip) → (after nothing strips).width ≡ v → BeginsWith width strips [] text → BeginsWith v strips [] text
with_width text width v [] e k = record { are = tt; height_fits = k.height_fits; text_is = k.text_is }
with_width text width v (s ∷ strips) e k = let f : width ≡ v = sym (after-width width nothing s strips k.are) ∙ e in rw f at k

pub measured : (text : List ℕ) (size : Size) → Tells text size → Measured text size
measured text size t =
    let i = images_told text (ap (λ (x : Told). x.offence) t.whole_is) in
    let e = told_whole text size t i in
    let w : (after nothing i.strips).width ≡ size.width = ap (λ (x : Told). x.so.width) (e ∙ t.whole_is) in
    let h : (after nothing i.strips).height ≡ size.height = ap (λ (x : Told). x.so.height) (e ∙ t.whole_is) in
    record {
      strips = i.strips;
      begins = with_width text i.width size.width i.strips w i.begins;
      height_is = sym h ∙ after-height nothing i.strips ∙ omega arith;
      rows_is = sym (ap (λ (x : Told). x.so.rows) e) ∙ after-rows nothing i.strips;
    }

-- the image of a size with these rows
abbrev pub image_of : Size → List ℕ → Image
image_of size raw = record { width = size.width; height = size.height; is_black = λ x y. dot raw (8 * (y * row_bytes size.width) + x) }

pub joined_of : (text : List ℕ) (size : Size) → (m : Measured text size) → IsJoined text (image_of size (strips_rows m.strips))
joined_of text size m = record { strips = m.strips; begins = m.begins; height_is = m.height_is; dots_are = λ x y l k. refl }

pub has_size : (text : List ℕ) (size : Size) → Tells text size → HasSize text size
has_size text size t = let m = measured text size t in record { image = image_of size (strips_rows m.strips); joined = joined_of text size m; width_is = refl; height_is = refl }

-- the text of the joined image
pub pbm_told : (text : List ℕ) (size : Size) → (m : Measured text size) → pbm (image_of size (strips_rows m.strips)) ≡ head_of size ++ without_padding size.width (rows_told text)
pbm_told text size m = grind (arith, pbm_is (image_of size (strips_rows m.strips)) (strips_rows m.strips), length-rows_of size.width m.strips m.begins.are)

-- there is no width where there is no image
no_strips : (width height : ℕ) (strips : List Strip) → AreStrips width strips → height ≡ height_of strips → height ≡ 0 → strips ≡ []
no_strips width height [] are e z = refl
no_strips width height (s ∷ strips) are e z = absurd (omega (arith, e, z, are.0.height_fits.least))

pub no_height : (text : List ℕ) (size : Size) → Tells text size → size.width ≡ 0 → size.height ≡ 0
no_height text size t e = let m = measured text size t in go m.strips m.begins.are m.height_is
  where
    go : (strips : List Strip) → AreStrips size.width strips → size.height ≡ height_of strips → size.height ≡ 0
    go [] are h = h
    go (s ∷ strips) are h = absurd (omega (arith, e, are.0.width_is, are.0.width_fits.least))

pub no_width : (text : List ℕ) (size : Size) → Tells text size → size.height ≡ 0 → size.width ≡ 0
no_width text size t z =
    let i = images_told text (ap (λ (x : Told). x.offence) t.whole_is) in
    let e = told_whole text size t i ∙ t.whole_is in
    let h : size.height ≡ height_of i.strips = sym (ap (λ (x : Told). x.so.height) e) ∙ after-height nothing i.strips ∙ omega arith in
    sym (ap (λ (x : Told). x.so.width) e) ∙ ap (λ strips. (after nothing strips).width) (no_strips i.width size.height i.strips i.begins.are h z)

-- what images are is told
pub tells : (text : List ℕ) (size : Size) → (size.height ≡ 0 → size.width ≡ 0) → HasSize text size → Tells text size
tells text size none k =
    let j = k.joined in
    let so = after nothing j.strips in
    let h : so.height ≡ size.height = after-height nothing j.strips ∙ omega (arith, j.height_is, k.height_is) in
    let w : so.width ≡ size.width = wide j.strips j.begins.are (omega (arith, h, after-height nothing j.strips)) in
    record {
      rows = so.rows;
      whole_is = told_images text k.image.width j.strips j.begins ∙ ap (λ x. whole (record { width = x; height = so.height; rows = so.rows })) w
          ∙ ap (λ x. whole (record { width = size.width; height = x; rows = so.rows })) h;
    }
  where
    wide : (strips : List Strip) → AreStrips k.image.width strips → size.height ≡ height_of strips → (after nothing strips).width ≡ size.width
    wide [] are e = sym (none e)
    wide (s ∷ strips) are e = after-width k.image.width nothing s strips are ∙ k.width_is

-- all rows are told
pub length_told : (text : List ℕ) (size : Size) → Tells text size → length (rows_told text) ≡ size.height * row_bytes size.width
length_told text size t =
    let m = measured text size t in
    ap length m.rows_is ∙ length-rows_of size.width m.strips m.begins.are ∙ ap (λ h. h * row_bytes size.width) (sym m.height_is)

pub low : (text : List ℕ) (size : Size) → Tells text size → size.height ≤ greatest
low text size t = let m = measured text size t in omega (arith, m.height_is, m.begins.height_fits)
