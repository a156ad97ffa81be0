-- What the two passes come to.
use Rattle.std.proofs.Common.{inl, inr, ◌⊎◌, ◌≡◌, ℕ, Bool, true, false, ◌&&◌, List, [], ◌++◌, length, Option, Some, Ok, Err, refl, sym, ap, subst, ◌∙◌, arith, append_assoc}
use Rattle.std.specs.Prelude.{Result, ⊤, ◌||◌}
use Rattle.std.proofs.lemmas.List.{append-nil, length-append}
use Rattle.std.proofs.KnownBytes.{Consumes-nil}
use Rattle.std.specs.Io.KnownBytes.{Consumes, IsAtEnd}
use Rattle.vp_dots.specs.Images.{Image}
use Rattle.vp_join.specs.Strips.{IsJoined, IsOffence, without_padding, strips_rows}
use Rattle.vp_join.specs.Told.{rows_told}
use Rattle.vp_join.specs.Passes.{Tells, HasSize, IsMeasure, IsFound, IsCopy, Copies, Joins, IsEnding, IsRefused, IsWhole, IsExactly, IsMeasured, Follows, MayFollow, head_of, is_late, is_read_fault, is_write_fault}
use Rattle.vp_join.specs.declared.fault.JoinFault.{JoinFault}
use Rattle.vp_join.specs.declared.fault.JoinFault.TheVariants.{Header, Width, TooTall, Short, TooWide, Differ, Read, Write, TooManyTurns}
use Rattle.vp_join.specs.declared.fault.Offence.{Offence}
use Rattle.vp_join.specs.declared.passes.Measured.{Measured}
use Rattle.vp_join.specs.declared.reading.Size.{Size}
use Rattle.vp_join.proofs.Agree.{offence_told}
use Rattle.vp_join.proofs.Sizes.{measured, joined_of, image_of, has_size, pbm_told, no_width, tells}

-- the first pass stopped
refused : (o : Offence) (first : List ℕ) (end : Type 0) → IsFound o first end → IsRefused o first [] [] end
refused o first end h = record { offence_of = λ more f. offence_told (first ++ more) o (h more f); unread = refl; unwritten = refl }

first_ending : (too_wide : ℕ → Bool) (f : JoinFault) (first : List ℕ) (size : Size) (end_first end_second : Type 0) → IsMeasure (Err f) first end_first → IsEnding too_wide (Err f) size first [] [] end_first end_second
first_ending too_wide f first size e d m = grind (arith, refused)

early : (f : JoinFault) (first : List ℕ) (end : Type 0) → IsMeasure (Err f) first end → is_late (Err f) ≡ false
early f first e m = grind arith

pub first_writes : (f : JoinFault) (first : List ℕ) (end : Type 0) → IsMeasure (Err f) first end → is_write_fault {A = ℕ} (Err f) ≡ false
first_writes f first e m = grind arith

-- the same fault of a pass and of the call
pub same_read : (f : JoinFault) → is_read_fault {A = ℕ} (Err f) ≡ (is_read_fault {A = Measured} (Err f) || false)
same_read f = grind arith

pub copy_read : (f : JoinFault) → is_read_fault {A = ℕ} (Err f) ≡ is_read_fault {A = ⊤} (Err f)
copy_read f = grind arith

pub copy_write : (f : JoinFault) → is_write_fault {A = ⊤} (Err f) ≡ is_write_fault {A = ℕ} (Err f)
copy_write f = grind arith

pub not_both : (b : Bool) → (b && false) ≡ false
not_both b = grind arith

-- what was taken of an image
module _ (Has : List ℕ → Type 0) (too_wide : ℕ → Bool) where
  pub after_measure : (f : JoinFault) (a b c : Option (List ℕ)) (first : List ℕ) → Consumes a c first → Has [] → IsMeasure (Err f) first (IsAtEnd c) → Joins a c b b Has too_wide (Err f)
  after_measure f a b c first cf none m = record {
    size = record { width = 0; height = 0 };
    first = first;
    second = [];
    written = [];
    rest = [];
    consumed_first = cf;
    consumed_second = Consumes-nil b;
    has = none;
    front = refl;
    fits = omega arith;
    measured = inl (refl, early f first (IsAtEnd c) m);
    narrow = inl (refl, refl);
    ending = first_ending too_wide f first (record { width = 0; height = 0 }) (IsAtEnd c) (IsAtEnd b) m;
  }

  -- the image is too wide
  pub after_width : (a b c : Option (List ℕ)) (first : List ℕ) (size : Size) → Consumes a c first → Has [] → Tells first size → IsAtEnd c → too_wide size.width ≡ true → Joins a c b b Has too_wide (Err TooWide)
  after_width a b c first size cf none t e wide = record {
    size = size;
    first = first;
    second = [];
    written = [];
    rest = head_of size;
    consumed_first = cf;
    consumed_second = Consumes-nil b;
    has = none;
    front = sym (append-nil (head_of size));
    fits = omega arith;
    measured = inr (record { size_is = has_size first size t; at_end = e });
    narrow = inl (refl, refl);
    ending = record { wide = wide; unread = refl; unwritten = refl };
  }

  -- the header wasn't written whole
  pub after_head : (a b c : Option (List ℕ)) (first taken rest : List ℕ) (size : Size) → Consumes a c first → Tells first size → IsAtEnd c → too_wide size.width ≡ false → Has taken
      → taken ++ rest ≡ head_of size → Joins a c b b Has too_wide (Err Write)
  after_head a b c first taken rest size cf t e narrow ap0 s = record {
    size = size;
    first = first;
    second = [];
    written = taken;
    rest = rest;
    consumed_first = cf;
    consumed_second = Consumes-nil b;
    has = ap0;
    front = s ∙ sym (append-nil (head_of size));
    fits = omega (arith, ap length s, length-append taken rest);
    measured = inr (record { size_is = has_size first size t; at_end = e });
    narrow = inr narrow;
    ending = tt;
  }

all_of : (taken rest bytes : List ℕ) → taken ++ rest ≡ bytes → rest ≡ [] → taken ≡ bytes
all_of taken rest bytes s e = sym (append-nil taken) ∙ ap (λ z. taken ++ z) (sym e) ∙ s

-- the second pass came to an end
whole : (too_wide : ℕ → Bool) (second taken rest : List ℕ) (size : Size) (end : Type 0) → too_wide size.width ≡ false → Tells second size → taken ++ rest ≡ without_padding size.width (rows_told second) → rest ≡ [] → end
    → IsWhole too_wide size.height size second (head_of size ++ taken) end
whole too_wide second taken rest size end narrow t s z e =
    let m = measured second size t in
    record {
      height_is = refl;
      image = image_of size (strips_rows m.strips);
      joined = joined_of second size m;
      width_is = refl;
      narrow = narrow;
      image_height_is = refl;
      written_is = ap (λ x. head_of size ++ x) (all_of taken rest (without_padding size.width (rows_told second)) s z) ∙ sym (pbm_told second size m);
      at_end = e;
    }

second_ending : (too_wide : ℕ → Bool) (f : JoinFault) (first second rest written : List ℕ) (size : Size) (e d : Type 0) → Tells first size → IsCopy (Err f) size second rest d → IsEnding too_wide (Err f) size first second written e d
second_ending too_wide Differ first second rest written size e d t k = λ more f h. k more f (tells (second ++ more) size (no_width first size t) h)
second_ending too_wide Read first second rest written size e d t k = tt
second_ending too_wide Write first second rest written size e d t k = tt
second_ending too_wide TooManyTurns first second rest written size e d t k = tt
second_ending too_wide _ first second rest written size e d t k = absurd k

module _ {A : Type 0} (has : A → List ℕ → A → Type 0) (too_wide : ℕ → Bool) (k0 k1 k2 : A) (a b c d : Option (List ℕ)) (first head rest : List ℕ) (size : Size) (cf : Consumes a c first) (t : Tells first size)
    (e : IsAtEnd c) (narrow : too_wide size.width ≡ false) (has_head : has k0 head k1) (s : head ++ rest ≡ head_of size) (z : rest ≡ []) where
  joins : (result : Result ℕ JoinFault) (r : Result ⊤ JoinFault) (k : Copies b d (λ bytes. Follows has k1 bytes k2) size r) → IsEnding too_wide result size first k.bytes (head_of size ++ k.taken) (IsAtEnd c) (IsAtEnd d)
      → Joins a c b d (λ bytes. has k0 bytes k2) too_wide result
  joins result r k en = record {
    size = size;
    first = first;
    second = k.bytes;
    written = head_of size ++ k.taken;
    rest = k.rest;
    consumed_first = cf;
    consumed_second = k.consumed;
    has = k.has k0 (head_of size) (subst (λ x. has k0 x k1) (all_of head rest (head_of size) s z) has_head);
    front = append_assoc (head_of size) k.taken k.rest ∙ ap (λ x. head_of size ++ x) k.front;
    fits = omega (arith, length-append (head_of size) k.taken, k.fits);
    measured = inr (record { size_is = has_size first size t; at_end = e });
    narrow = inr narrow;
    ending = en;
  }

  pub after_copy : (f : JoinFault) → Copies b d (λ bytes. Follows has k1 bytes k2) size (Err f) → Joins a c b d (λ bytes. has k0 bytes k2) too_wide (Err f)
  after_copy f k = joins (Err f) (Err f) k (second_ending too_wide f first k.bytes k.rest (head_of size ++ k.taken) size (IsAtEnd c) (IsAtEnd d) t k.answer)

  pub after_all : (done : ⊤) → Copies b d (λ bytes. Follows has k1 bytes k2) size (Ok done) → Joins a c b d (λ bytes. has k0 bytes k2) too_wide (Ok size.height)
  after_all done k = joins (Ok size.height) (Ok done) k (whole too_wide k.bytes k.taken k.rest size (IsAtEnd d) narrow k.answer.0 k.front k.answer.1 k.answer.2)

-- what is left of a text
all_read : (text read : List ℕ) (c : Option (List ℕ)) → Consumes (Some text) c read → IsAtEnd c → text ≡ read
all_read text read c h e = grind (arith, append-nil)

exact_offence : (Has : List ℕ → Type 0) (o : Offence) (text first second written : List ℕ) (c : Option (List ℕ)) → Consumes (Some text) c first → Has written → IsRefused o first second written (IsAtEnd c)
    → IsOffence text o × Has []
exact_offence Has o text first second written c h p r = (exact_of_offence o text first second written c h r, rw r.unwritten at p)
  where
    exact_of_offence : (o : Offence) (text first second written : List ℕ) (c : Option (List ℕ)) → Consumes (Some text) c first → IsRefused o first second written (IsAtEnd c) → IsOffence text o
    exact_of_offence o text first second written c h r = grind arith

differs_not : (text second : List ℕ) (size : Size) (d : Option (List ℕ)) → Consumes (Some text) d second → ((more : List ℕ) → MayFollow (IsAtEnd d) more → HasSize (second ++ more) size → ⊥) → HasSize text size → ⊥
differs_not text second size d h f s = grind arith

of_size : (too_wide : ℕ → Bool) (text : List ℕ) (size : Size) → HasSize text size → too_wide size.width ≡ true → (image : Image) × IsJoined text image × (too_wide image.width ≡ true)
of_size too_wide text size h w = (h.image, h.joined, ap too_wide h.width_is ∙ w)

-- the first reader was read to its end
to_end : (text first written : List ℕ) (size : Size) (c : Option (List ℕ)) (late : Bool) → Consumes (Some text) c first → ((written ≡ []) × (late ≡ false)) ⊎ IsMeasured first size (IsAtEnd c) → late ≡ true → HasSize text size
to_end text first written size c late h (inl n) e = absurd (let k : true ≡ false = sym e ∙ n.1 in cc)
to_end text first written size c late h (inr m) e = rw (all_read text first c h m.at_end) m.size_is

module _ (text : List ℕ) (c d : Option (List ℕ)) (Has : List ℕ → Type 0) (too_wide : ℕ → Bool) where
  -- where both readers tell the same text
  pub exact : (result : Result ℕ JoinFault) → Joins (Some text) c (Some text) d Has too_wide result → IsExactly text Has too_wide result
  exact (Ok height) j =
      let k = j.ending in
      (k.image, rw (all_read text j.second d j.consumed_second k.at_end) k.joined, k.narrow, k.height_is ∙ sym k.image_height_is, rw k.written_is at j.has)
  exact (Err Header) j = exact_offence Has _ text j.first j.second j.written c j.consumed_first j.has j.ending
  exact (Err Width) j = exact_offence Has _ text j.first j.second j.written c j.consumed_first j.has j.ending
  exact (Err TooTall) j = exact_offence Has _ text j.first j.second j.written c j.consumed_first j.has j.ending
  exact (Err Short) j = exact_offence Has _ text j.first j.second j.written c j.consumed_first j.has j.ending
  exact (Err TooWide) j =
      let k = of_size too_wide text j.size (to_end text j.first j.written j.size c true j.consumed_first j.measured refl) j.ending.wide in
      (k.0, k.1, k.2, rw j.ending.unwritten at j.has)
  exact (Err Differ) j = differs_not text j.second j.size d j.consumed_second j.ending (to_end text j.first j.written j.size c true j.consumed_first j.measured refl)
  exact (Err Read) j = tt
  exact (Err Write) j = tt
  exact (Err TooManyTurns) j = tt

  pub exact_of : (a b : Option (List ℕ)) (result : Result ℕ JoinFault) → Joins a c b d Has too_wide result → a ≡ Some text → b ≡ Some text → IsExactly text Has too_wide result
  exact_of a b result j e f = exact result (rw (e, f) at j)
