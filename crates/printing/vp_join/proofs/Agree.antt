-- What a text tells, byte by byte, is what it is.
use Rattle.std.proofs.Common.{inl, inr, ◌≡◌, ◌≢◌, ◌<◌, ◌≤◌, ◌+◌, ◌-◌, ◌*◌, ◌⊎◌, ℕ, zero, suc, true, false, List, [], ◌∷◌, ◌++◌, length, take, drop, Option, Some, None, refl, sym, ap, ◌∙◌, arith, append_assoc}
use Rattle.std.proofs.lemmas.List.{append-nil, length-append, length-take-le, length-drop, take-append-drop}
use Rattle.std.proofs.lemmas.Bool.{cases_lt, cases_eq, lt-ltb, le-ltb}
use Rattle.std.proofs.lemmas.Bool.Decides.{nat_tests}
use Rattle.std.proofs.Math.Nat.{mul_comm}
use Rattle.vp_dots.specs.Headers.{header_of}
use Rattle.vp_dots.specs.Images.{row_bytes}
use Rattle.vp_join.specs.Strips.{greatest, Strip, AreStrips, height_of, strips_rows, strips_text, BeginsWith, HasHeader, IsNoHeader, IsTooTall, IsShort, IsCause, IsOffence}
use Rattle.vp_join.specs.Told.{Seen, Told, told, whole, stops, images, rows, nothing, is_other, with_header}
use Rattle.vp_join.specs.declared.fault.Offence.{Offence}
use Rattle.vp_join.specs.declared.fault.Offence.TheVariants.{Header, Width, TooTall, Short}
use Rattle.vp_join.proofs.Ends.{seen, rows_end}
use Rattle.vp_join.proofs.Grows.{begun}
use Rattle.vp_join.proofs.Digits.{read_header, not_unread, parse, Begun, header_is}

-- the images so far, and then strips
abbrev pub after : Seen → List Strip → Seen
after so [] = so
after so (s ∷ strips) = after (seen s.width (so.height + s.height) (so.rows ++ s.rows)) strips

-- the images so far have no width, or this one
abbrev pub Before : Seen → ℕ → Type 0
Before so width = (so.width ≡ 0) ⊎ (so.width ≡ width)

same_width : (w v : ℕ) → (w ≡ 0) ⊎ (w ≡ v) → is_other w v ≡ false
same_width w v h3 = grind (arith, nat_tests)

other_width : (w v : ℕ) → 0 < w → v ≢ w → is_other w v ≡ true
other_width w v h n = grind (arith, nat_tests, n)

wide_rows : (w : ℕ) → 0 < w → 0 < row_bytes w
wide_rows w h = omega arith

-- a header with which the images fit
begun_fits : (so : Seen) (w h : ℕ) (rest : List ℕ) → Before so w → so.height + h ≤ greatest → begun so w h rest ≡ rows (with_header so w h) (row_bytes w * h - 1) rest
begun_fits so w h rest b l = rw (same_width so.width w b, le-ltb greatest (so.height + h) l) refl

begun_other : (so : Seen) (w h : ℕ) (rest : List ℕ) → is_other so.width w ≡ true → begun so w h rest ≡ stops so Width
begun_other so w h rest e = rw e refl

begun_tall : (so : Seen) (w h : ℕ) (rest : List ℕ) → Before so w → greatest < so.height + h → begun so w h rest ≡ stops so TooTall
begun_tall so w h rest b l = rw (same_width so.width w b, lt-ltb greatest (so.height + h) l) refl

some_rows : (w h : ℕ) → 0 < w → 0 < h → 0 < row_bytes w * h
some_rows w h p q = grind (arith, wide_rows, mul_comm)

-- strips are read
pub read_strips : (width : ℕ) (strips : List Strip) (so : Seen) (rest : List ℕ) → AreStrips width strips → Before so width → so.height + height_of strips ≤ greatest
    → images so (strips_text strips ++ rest) ≡ images (after so strips) rest
read_strips width [] so rest are b l = refl
read_strips width (s ∷ strips) so rest are b l =
    let k = are.0 in
    let n = row_bytes s.width * s.height in
    let some : 0 < n = some_rows s.width s.height k.width_fits.least k.height_fits.least in
    let long : suc (n - 1) ≡ length s.rows = omega (arith, some, k.length_is, mul_comm (row_bytes s.width) s.height) in
    ap (images so) (append_assoc (header_of s.width s.height ++ s.rows) (strips_text strips) rest ∙ append_assoc (header_of s.width s.height) s.rows (strips_text strips ++ rest))
    ∙ read_header so s.width s.height (s.rows ++ (strips_text strips ++ rest)) _ (record { width_fits = k.width_fits; height_fits = k.height_fits; text_is = refl })
    ∙ begun_fits so s.width s.height (s.rows ++ (strips_text strips ++ rest)) (rw k.width_is b) (omega (arith, l))
    ∙ rows_end s.width (so.height + s.height) so.rows s.rows (strips_text strips ++ rest) (n - 1) long
    ∙ read_strips width strips (seen s.width (so.height + s.height) (so.rows ++ s.rows)) rest are.1 (inr k.width_is) (omega (arith, l))

pub after-height : (so : Seen) (strips : List Strip) → (after so strips).height ≡ so.height + height_of strips
after-height so [] = omega arith
after-height so (s ∷ strips) = after-height (seen s.width (so.height + s.height) (so.rows ++ s.rows)) strips ∙ omega arith

pub after-rows : (so : Seen) (strips : List Strip) → (after so strips).rows ≡ so.rows ++ strips_rows strips
after-rows so [] = sym (append-nil so.rows)
after-rows so (s ∷ strips) = after-rows (seen s.width (so.height + s.height) (so.rows ++ s.rows)) strips ∙ append_assoc so.rows s.rows (strips_rows strips)

after-same : (width : ℕ) (so : Seen) (strips : List Strip) → AreStrips width strips → so.width ≡ width → (after so strips).width ≡ width
after-same width so [] are e = e
after-same width so (s ∷ strips) are e = after-same width (seen s.width (so.height + s.height) (so.rows ++ s.rows)) strips are.1 are.0.width_is

pub after-width : (width : ℕ) (so : Seen) (s : Strip) (strips : List Strip) → AreStrips width (s ∷ strips) → (after so (s ∷ strips)).width ≡ width
after-width width so s strips are = after-same width (seen s.width (so.height + s.height) (so.rows ++ s.rows)) strips are.1 are.0.width_is

before_after : (width : ℕ) (strips : List Strip) → AreStrips width strips → Before (after nothing strips) width
before_after width [] are = inl refl
before_after width (s ∷ strips) are = inr (after-width width nothing s strips are)

-- rows that the end cuts
pub rows_short : (so : Seen) (n : ℕ) (text : List ℕ) → length text ≤ n → (rows so n text).offence ≡ Some Short
rows_short so n [] l = refl
rows_short so zero (b ∷ text) l = absurd (omega (arith, l))
rows_short so (suc n) (b ∷ text) l = rows_short (record { width = so.width; height = so.height; rows = so.rows ++ b ∷ [] }) n text (omega (arith, l))

-- each cause is told
pub told_cause : (o : Offence) (width : ℕ) (strips : List Strip) (rest : List ℕ) → AreStrips width strips → height_of strips ≤ greatest → IsCause o width strips rest
    → (images (after nothing strips) rest).offence ≡ Some o
told_cause Header width strips rest are l c = elim (parse rest) [
  | inl e ↦ absurd (c.some e)
  | inr p ↦ elim p [
    | inl u ↦ ap (λ (t : Told). t.offence) (u.refused (after nothing strips))
    | inr b ↦ absurd (c.none b.width b.height b.rest b.header)
  ]
]
told_cause Width width [] rest are l c = absurd (c.before refl)
told_cause Width width (s ∷ strips) rest are l c =
    let so = after nothing (s ∷ strips) in
    let w = after-width width nothing s strips are in
    let some : 0 < so.width = omega (arith, w, are.0.width_is, are.0.width_fits.least) in
    ap (λ (t : Told). t.offence) (read_header so c.wide c.high c.rest rest c.header ∙ begun_other so c.wide c.high c.rest (other_width so.width c.wide some (λ e. c.other (e ∙ w))))
told_cause TooTall width strips rest are l c =
    let so = after nothing strips in
    let tall : greatest < so.height + c.high = omega (arith, c.taller, after-height nothing strips) in
    ap (λ (t : Told). t.offence) (read_header so width c.high c.rest rest c.header ∙ begun_tall so width c.high c.rest (before_after width strips are) tall)
told_cause Short width strips rest are l c =
    let so = after nothing strips in
    ap (λ (t : Told). t.offence) (read_header so width c.high c.rest rest c.header ∙ begun_fits so width c.high c.rest (before_after width strips are) (omega (arith, c.fits, after-height nothing strips)))
    ∙ rows_short (with_header so width c.high) (row_bytes width * c.high - 1) c.rest (omega (arith, c.shorter, mul_comm (row_bytes width) c.high))

-- an offence is told
pub told_offence : (text : List ℕ) (o : Offence) → IsOffence text o → (told text).offence ≡ Some o
told_offence text o k = grind (arith, read_strips, told_cause)

-- images are told
pub told_images : (text : List ℕ) (width : ℕ) (strips : List Strip) → BeginsWith width strips [] text → told text ≡ whole (after nothing strips)
told_images text width strips k = ap told k.text_is ∙ read_strips width strips nothing [] k.are (inl refl) (omega (arith, k.height_fits))

-- behind images so far a text is strips and a rest, with which it ends or which is no strip
abbrev pub IsRest : Option Offence → Seen → ℕ → List Strip → List ℕ → Type 0
IsRest None so width strips rest = rest ≡ []
IsRest (Some Header) so width strips rest = IsNoHeader rest
IsRest (Some Width) so width strips rest = (wide : ℕ) × (high : ℕ) × (tail : List ℕ) × HasHeader wide high tail rest × (wide ≢ width) × ((0 < so.width) ⊎ (strips ≢ []))
IsRest (Some TooTall) so width strips rest = IsTooTall width (so.height + height_of strips) rest
IsRest (Some Short) so width strips rest = IsShort width (so.height + height_of strips) rest

pub record Decided (so : Seen) (text : List ℕ) : Type 0 where
  pub width : ℕ
  pub strips : List Strip
  pub rest : List ℕ
  pub end : Option Offence
  pub are : AreStrips width strips
  pub before : Before so width
  pub fits : so.height + height_of strips ≤ greatest
  pub text_is : text ≡ strips_text strips ++ rest
  pub rest_is : IsRest end so width strips rest

-- it ends here, or stops
decided_here : (so : Seen) (text : List ℕ) (end : Option Offence) (width : ℕ) → so.height ≤ greatest → Before so width → IsRest end so width [] text → Decided so text
decided_here so text end width l b r = record { width = width; strips = []; rest = text; end = end; are = tt; before = b; fits = omega (arith, l); text_is = refl; rest_is = r }

-- one strip more in front
rest_more : (end : Option Offence) (so : Seen) (s : Strip) (width : ℕ) (strips : List Strip) (rest : List ℕ) → IsRest end (seen s.width (so.height + s.height) []) width strips rest
    → IsRest end so width (s ∷ strips) rest
rest_more end so s width strips rest h = grind arith

width_of_before : (w v : ℕ) → 0 < w → (w ≡ 0) ⊎ (w ≡ v) → w ≡ v
width_of_before w v h h4 = grind arith

decided_more : (so : Seen) (text rest : List ℕ) (w h : ℕ) → HasHeader w h rest text → Before so w → h * row_bytes w ≤ length rest
    → Decided (seen w (so.height + h) []) (drop (h * row_bytes w) rest) → Decided so text
decided_more so text rest w h k b l d =
    let n = h * row_bytes w in
    let s : Strip = record { width = w; height = h; rows = take n rest } in
    let v : w ≡ d.width = width_of_before w d.width k.width_fits.least d.before in
    record {
      width = d.width;
      strips = s ∷ d.strips;
      rest = d.rest;
      end = d.end;
      are = (record { width_is = v; width_fits = k.width_fits; height_fits = k.height_fits; length_is = length-take-le n rest l }, d.are);
      before = rw v at b;
      fits = omega (arith, d.fits);
      text_is = k.text_is ∙ ap (λ x. header_of w h ++ x) (sym (take-append-drop n rest) ∙ ap (λ x. take n rest ++ x) d.text_is)
          ∙ sym (append_assoc (header_of w h ++ take n rest) (strips_text d.strips) d.rest ∙ append_assoc (header_of w h) (take n rest) (strips_text d.strips ++ d.rest));
      rest_is = rest_more d.end so s d.width d.strips d.rest d.rest_is;
    }

is_before : (w v : ℕ) → is_other w v ≡ false → (w ≡ 0) ⊎ (w ≡ v)
is_before w v e = elim (cases_eq w 0) [ inl z ↦ inl z | inr n ↦ inr (grind (arith, nat_tests, n)) ]

is_other_than : (w v : ℕ) → is_other w v ≡ true → (0 < w) × (v ≢ w)
is_other_than w v e = (grind (arith, nat_tests), λ f. let k : is_other w v ≡ false = same_width w v (inr (sym f)) in cc)

header_longer : (w h : ℕ) (rest text : List ℕ) → text ≡ header_of w h ++ rest → length rest < length text
header_longer w h rest text e = omega (arith, ap length e, length-append (header_of w h) rest, ap length (header_is w h []), length-append (header_of w h) [])

-- what any shorter text is decides what this one is
module _ (so : Seen) (text : List ℕ) (g : so.height ≤ greatest) (next : (s : Seen) (t : List ℕ) → length t < length text → s.height ≤ greatest → Decided s t) where
  decide_rows : (b : Begun text) → Before so b.width → so.height + b.height ≤ greatest → Decided so text
  decide_rows b e l = elim (cases_lt (length b.rest) (b.height * row_bytes b.width)) [
    | inl s ↦ decided_here so text (Some Short) b.width g e (record { high = b.height; rest = b.rest; header = b.header; fits = omega (arith, l); shorter = s })
    | inr w ↦ decided_more so text b.rest b.width b.height b.header e w
        (next (seen b.width (so.height + b.height) []) (drop (b.height * row_bytes b.width) b.rest)
        (omega (arith, header_longer b.width b.height b.rest text b.header.text_is, length-drop (b.height * row_bytes b.width) b.rest)) l)
  ]

  decide_header : (b : Begun text) → Decided so text
  decide_header b = grind (arith, is_other_than so.width b.width, decided_here so text (Some Width) so.width g, is_before so.width b.width, decided_here so text (Some TooTall) b.width g, decide_rows b)

  decide_from : Decided so text
  decide_from = elim (parse text) [
    | inl e ↦ decided_here so text None so.width g (inr refl) e
    | inr p ↦ elim p [
      | inl u ↦ decided_here so text (Some Header) so.width g (inr refl) (record { some = u.some; none = λ w h r k. not_unread text w h r k u.refused })
      | inr b ↦ decide_header b
    ]
  ]

decide : (fuel : ℕ) (so : Seen) (text : List ℕ) → length text ≤ fuel → so.height ≤ greatest → Decided so text
decide zero so text l g = decide_from so text g (λ s t m k. absurd (omega (arith, l, m)))
decide (suc fuel) so text l g = decide_from so text g (λ s t m k. decide fuel s t (omega (arith, l, m)) k)

-- every text is images, or has an offence
pub record Images (text : List ℕ) : Type 0 where
  pub width : ℕ
  pub strips : List Strip
  pub begins : BeginsWith width strips [] text

pub each_text : (text : List ℕ) → Images text ⊎ ((o : Offence) × IsOffence text o)
each_text text = let d = decide (length text) nothing text (omega arith) (omega arith) in from d d.end refl
  where
    some_strips : (strips : List Strip) → (0 < 0) ⊎ (strips ≢ []) → strips ≢ []
    some_strips strips (inl h) = absurd (omega (arith, h))
    some_strips strips (inr h) = h

    begins : (d : Decided nothing text) → BeginsWith d.width d.strips d.rest text
    begins d = record { are = d.are; height_fits = omega (arith, d.fits); text_is = d.text_is }

    from : (d : Decided nothing text) (end : Option Offence) → d.end ≡ end → Images text ⊎ ((o : Offence) × IsOffence text o)
    from d None e = let r : d.rest ≡ [] = rw e at d.rest_is in inl (record { width = d.width; strips = d.strips; begins = rw r at (begins d) })
    from d (Some Header) e = inr (Header, record { width = d.width; strips = d.strips; rest = d.rest; begins = begins d; cause = rw e at d.rest_is })
    from d (Some Width) e =
        let r = rw e at d.rest_is in
        inr (Width, record { width = d.width; strips = d.strips; rest = d.rest; begins = begins d; cause = record { wide = r.0; high = r.1; rest = r.2; header = r.3; before = some_strips d.strips r.5; other = r.4 } })
    from d (Some TooTall) e = let r = rw e at d.rest_is in inr (TooTall, record { width = d.width; strips = d.strips; rest = d.rest; begins = begins d; cause = record { high = r.high; rest = r.rest; header = r.header; taller = omega (arith, r.taller) } })
    from d (Some Short) e = let r = rw e at d.rest_is in inr (Short, record { width = d.width; strips = d.strips; rest = d.rest; begins = begins d; cause = record { high = r.high; rest = r.rest; header = r.header; fits = omega (arith, r.fits); shorter = r.shorter } })

-- the bytes of the rows of strips
pub length-rows_of : (width : ℕ) (strips : List Strip) → AreStrips width strips → length (strips_rows strips) ≡ height_of strips * row_bytes width
length-rows_of width [] are = omega arith
length-rows_of width (s ∷ strips) are = grind (arith, length-append, length-rows_of width strips are.1)

-- a text with an offence is no images
pub never_both : (text : List ℕ) (width : ℕ) (strips : List Strip) (o : Offence) → BeginsWith width strips [] text → IsOffence text o → ⊥
never_both text width strips o k h = let e : Some o ≡ None = sym (told_offence text o h) ∙ ap (λ (t : Told). t.offence) (told_images text width strips k) in cc

-- what is told with an offence has it
pub offence_told : (text : List ℕ) (o : Offence) → (told text).offence ≡ Some o → IsOffence text o
offence_told text o e = elim (each_text text) [
  | inl i ↦ absurd (let k : None ≡ Some o = sym (ap (λ (t : Told). t.offence) (told_images text i.width i.strips i.begins)) ∙ e in cc)
  | inr p ↦ let k : p.0 ≡ o = (let f : Some p.0 ≡ Some o = sym (told_offence text p.0 p.1) ∙ e in cc) in rw k at p.1
]

-- what is told without is images
pub images_told : (text : List ℕ) → (told text).offence ≡ None → Images text
images_told text e = elim (each_text text) [
  | inl i ↦ i
  | inr p ↦ absurd (let k : Some p.0 ≡ None = sym (told_offence text p.0 p.1) ∙ e in cc)
]
