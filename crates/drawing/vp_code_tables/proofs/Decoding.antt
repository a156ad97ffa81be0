-- One byte more in any encoding, and the end.
use Rattle.std.proofs.Common.{◌≡◌, ℕ, Option, List, [], ◌∷◌, ◌++◌, refl, sym, ap, subst, ◌∙◌, append_assoc, ◌+◌, ◌≤◌, length, arith}
use Rattle.std.proofs.lemmas.List.{append-nil}
use Rattle.vp_code_tables.specs.declared.begun.Begun.{Begun}
use Rattle.vp_code_tables.specs.declared.begun.Begun.TheVariants.{Nothing, One, Two, Three}
use Rattle.vp_code_tables.specs.declared.decoder.Decoder.{Decoder}
use Rattle.vp_code_tables.specs.declared.encoding.Encoding.{Encoding}
use Rattle.vp_code_tables.specs.declared.encoding.Encoding.TheVariants.{Bytes, Utf8, Utf16}
use Rattle.vp_code_tables.specs.declared.national.NationalSet.{NationalSet}
use Rattle.vp_code_tables.specs.declared.table.CodeTable.{CodeTable}
use Rattle.vp_code_tables.specs.declared.unit.Decoded.{Decoded}
use Rattle.vp_code_tables.specs.declared.unit.Given.{Given}
use Rattle.vp_code_tables.specs.declared.utf16.ByteOrder.{ByteOrder}
use Rattle.vp_code_tables.specs.Begun.{Steps, IsBegun, begun_bytes, given_units}
use Rattle.vp_code_tables.specs.Standing.{Stands}
use Rattle.vp_code_tables.specs.Units.{units, units_behind, unit_len, character_of, byte_character, total}
use Rattle.vp_code_tables.proofs.EachByte.{each_byte}
use Rattle.vp_code_tables.proofs.Steps.{wrong, one, ended}
use Rattle.vp_code_tables.proofs.Utf8Steps as utf8
use Rattle.vp_code_tables.proofs.Utf16Steps as utf16

abbrev pub by_character : Option ℕ → Decoded
by_character character = record { character = character; len = 1 }

-- a byte of a code table
first_byte : (table : CodeTable) (set : NationalSet) (begun : Begun) (byte : ℕ) (character : Option ℕ)
    → IsBegun (Bytes table set) begun → character ≡ byte_character table set byte
    → Steps (Bytes table set) begun byte Nothing (one (by_character character))
unfolding units_behind unit_len character_of
first_byte table set Nothing byte character h e =
    ended (Bytes table set) Nothing byte (by_character character) refl
    (λ more. ap (λ (x : Option ℕ). by_character x ∷ units (Bytes table set) more) (sym e))
first_byte table set (One a) byte character h e = cc
first_byte table set (Two a b) byte character h e = cc
first_byte table set (Three a b c) byte character h e = cc

pub byte_steps : (encoding : Encoding) (table : CodeTable) (set : NationalSet) (begun : Begun) (byte : ℕ)
    (character : Option ℕ) → encoding ≡ Bytes table set → IsBegun encoding begun
    → character ≡ byte_character table set byte → Steps encoding begun byte Nothing (one (by_character character))
byte_steps encoding table set begun byte character is h e =
    subst (λ (x : Encoding). Steps x begun byte Nothing (one (by_character character))) (sym is)
    (first_byte table set begun byte character (subst (λ (x : Encoding). IsBegun x begun) is h) e)

-- what is begun at the end
pub left_nothing : (encoding : Encoding) → [] ≡ units encoding []
unfolding units_behind
left_nothing encoding = refl

pub left_one : (encoding : Encoding) (a : ℕ) → IsBegun encoding (One a) → wrong 1 ∷ [] ≡ units encoding (a ∷ [])
left_one (Bytes table set) a h = cc
left_one Utf8 a h = utf8.left_one a h
left_one (Utf16 order) a h = utf16.left_one order a

pub left_two : (encoding : Encoding) (a b : ℕ) → IsBegun encoding (Two a b)
    → wrong 2 ∷ [] ≡ units encoding (a ∷ b ∷ [])
left_two (Bytes table set) a b h = cc
left_two Utf8 a b h = utf8.left_two a b h
left_two (Utf16 order) a b h = utf16.left_two order a b h

pub left_as : (encoding : Encoding) (begun known : Begun) (given : List Decoded) → begun ≡ known
    → IsBegun encoding begun → (IsBegun encoding known → given ≡ units encoding (begun_bytes known))
    → given ≡ units encoding (begun_bytes begun)
left_as encoding begun known given is h known_is =
    subst (λ (x : Begun). given ≡ units encoding (begun_bytes x)) (sym is)
    (known_is (subst (λ (x : Begun). IsBegun encoding x) is h))

-- the decoder took one more
pub takes : (old new : Decoder) (byte : ℕ) (given : Given) → new.encoding ≡ old.encoding
    → Steps old.encoding old.begun byte new.begun given → (bytes : List ℕ) (before : List Decoded)
    → Stands old bytes before → Stands new (bytes ++ byte ∷ []) (before ++ given_units given)
takes old new byte given same steps bytes before s = record {
  same = λ more. subst (λ (e : Encoding). units e ((bytes ++ byte ∷ []) ++ more)
      ≡ (before ++ given_units given) ++ units e (begun_bytes new.begun ++ more)) (sym same)
      (ap (λ (xs : List ℕ). units old.encoding xs) (append_assoc bytes (byte ∷ []) more)
      ∙ s.same (byte ∷ more)
      ∙ ap (λ (xs : List Decoded). before ++ xs) (steps.same more)
      ∙ sym (append_assoc before (given_units given) (units old.encoding (begun_bytes new.begun ++ more))));
}

-- and nothing more comes
pub ends : (decoder : Decoder) (given : Given)
    → given_units given ≡ units decoder.encoding (begun_bytes decoder.begun)
    → (bytes : List ℕ) (before : List Decoded) → Stands decoder bytes before
    → units decoder.encoding bytes ≡ before ++ given_units given
ends decoder given left bytes before s =
    ap (λ (xs : List ℕ). units decoder.encoding xs) (sym (append-nil bytes))
    ∙ s.same []
    ∙ ap (λ (xs : List ℕ). before ++ units decoder.encoding xs) (append-nil (begun_bytes decoder.begun))
    ∙ ap (λ (xs : List Decoded). before ++ xs) (sym left)

pub left_three_utf16 : (encoding : Encoding) (order : ByteOrder) (a b c : ℕ) → encoding ≡ Utf16 order
    → IsBegun encoding (Three a b c) → wrong 2 ∷ wrong 1 ∷ [] ≡ units encoding (a ∷ b ∷ c ∷ [])
left_three_utf16 encoding order a b c is h =
    subst (λ (x : Encoding). wrong 2 ∷ wrong 1 ∷ [] ≡ units x (a ∷ b ∷ c ∷ [])) (sym is)
    (utf16.left_three order a b c (subst (λ (x : Encoding). IsBegun x (Three a b c)) is h))

pub left_three : (encoding : Encoding) (a b c : ℕ) → ((order : ByteOrder) → encoding ≡ Utf16 order → ⊥)
    → IsBegun encoding (Three a b c) → wrong 3 ∷ [] ≡ units encoding (a ∷ b ∷ c ∷ [])
left_three (Bytes table set) a b c not h = cc
left_three Utf8 a b c not h = utf8.left_three a b c h
left_three (Utf16 order) a b c not h = absurd (not order refl)

-- at most three bytes are begun
total-append : (xs ys : List Decoded) → total (xs ++ ys) ≡ total xs + total ys
unfolding total
total-append [] ys = omega arith
total-append (x ∷ xs) ys = omega (arith, total-append xs ys)

begun-most : (begun : Begun) → length (begun_bytes begun) ≤ 3
begun-most Nothing = omega arith
begun-most (One a) = omega arith
begun-most (Two a b) = omega arith
begun-most (Three a b c) = omega arith

pub soon : (decoder : Decoder) (bytes : List ℕ) (given : List Decoded) → Stands decoder bytes given
    → length bytes ≤ total given + 3
soon decoder bytes given s =
    let begun = begun_bytes decoder.begun in
    let all = each_byte decoder.encoding (bytes ++ []) in
    let left = each_byte decoder.encoding (begun ++ []) in
    let same = ap total (s.same []) in
    let parts = total-append given (units decoder.encoding (begun ++ [])) in
    let most = begun-most decoder.begun in
    let long = ap length (append-nil bytes) in
    let short = ap length (append-nil begun) in
    omega (arith, all, left, same, parts, most, long, short)
