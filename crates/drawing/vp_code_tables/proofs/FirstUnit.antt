-- The unit at the front of bytes in UTF-8.
use Rattle.std.proofs.Common.{◌≡◌, ℕ, suc, ◌+◌, inl, inr, List, [], ◌∷◌, ◌++◌, length, take, refl, sym, ap, subst, ◌∙◌, append_assoc, arith}
use Rattle.std.proofs.lemmas.List.{append-nil}
use Rattle.std.proofs.Math.Seq.{take-append_seam, take-append-add, take-length}
use Rattle.vp_code_tables.specs.Laws.{IsUnit, IsWhole, IsCut, IsNone}
use Rattle.vp_code_tables.specs.Utf8.{Part, Whole, Begins, Neither, part_of, len_by, len_behind, utf8_len}

-- what was read, and one byte more
take-more : (read : List ℕ) (b : ℕ) (bytes : List ℕ) → take (suc (length read)) (read ++ b ∷ bytes) ≡ read ++ b ∷ []
take-more read b bytes =
    let one : suc (length read) ≡ length read + 1 = omega arith in
    ap (λ (n : ℕ). take n (read ++ b ∷ bytes)) one ∙ take-append-add read (b ∷ bytes) 1

-- a byte that doesn't go on
cut : (read : List ℕ) (b : ℕ) (bytes : List ℕ) (behind : ℕ) → part_of read ≡ Begins → part_of (read ++ b ∷ []) ≡ Neither
    → IsUnit (read ++ b ∷ bytes) (len_by Neither (length read) behind)
cut [] b bytes behind begun none = IsNone refl none
cut (a ∷ read) b bytes behind begun none =
    let all = a ∷ read in
    let now : part_of (take (length all) (all ++ b ∷ bytes)) ≡ Begins = ap part_of (take-append_seam all (b ∷ bytes)) ∙ begun in
    let next : part_of (take (suc (length all)) (all ++ b ∷ bytes)) ≡ Neither = ap part_of (take-more all b bytes) ∙ none in
    let unit : IsUnit (all ++ b ∷ bytes) (length all) = IsCut now (inr next) in
    let long : length all ≡ len_by Neither (length all) behind = omega arith in
    subst (λ (n : ℕ). IsUnit (all ++ b ∷ bytes) n) long unit

whole_end : (read : List ℕ) → part_of read ≡ Begins → IsUnit read (length read)
whole_end read begun = IsCut (ap part_of (take-length read) ∙ begun) (inl refl)

by_part : (read bytes : List ℕ) (b behind : ℕ) (part : Part) → part_of (read ++ b ∷ []) ≡ part → part_of read ≡ Begins
    → (part_of (read ++ b ∷ []) ≡ Begins → IsUnit (read ++ b ∷ bytes) behind)
    → IsUnit (read ++ b ∷ bytes) (len_by part (length read) behind)
by_part read bytes b behind Whole e begun on = IsWhole (ap part_of (take-more read b bytes) ∙ e)
by_part read bytes b behind Begins e begun on = on e
by_part read bytes b behind Neither e begun on = cut read b bytes behind begun e

goes : (bytes read : List ℕ) → part_of read ≡ Begins → IsUnit (read ++ bytes) (len_behind read bytes)
unfolding len_behind
goes [] read begun = subst (λ (xs : List ℕ). IsUnit xs (length read)) (sym (append-nil read)) (whole_end read begun)
goes (b ∷ bytes) read begun =
    by_part read bytes b (len_behind (read ++ b ∷ []) bytes) (part_of (read ++ b ∷ [])) refl begun
    (λ e. subst (λ (xs : List ℕ). IsUnit xs (len_behind (read ++ b ∷ []) bytes)) (append_assoc read (b ∷ []) bytes)
    (goes bytes (read ++ b ∷ []) e))

pub first_unit : (byte : ℕ) (bytes : List ℕ) → IsUnit (byte ∷ bytes) (utf8_len (byte ∷ bytes))
first_unit byte bytes = goes (byte ∷ bytes) [] refl
