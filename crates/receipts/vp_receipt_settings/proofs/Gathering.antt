-- The bytes of a raster's row that are kept.
use Rattle.std.proofs.lemmas.Grind.{common_steps}
use Rattle.std.proofs.Common.{◌≡◌, ℕ, ◌+◌, ◌<◌, ◌≤◌, ◌-◌, List, [], ◌∷◌, ◌++◌, length, take, min, set, ap, sym, ◌∙◌, ⊎_elim, arith, length-append}
use Rattle.std.proofs.Math.Seq.{take-append-add}
use Rattle.std.proofs.lemmas.Bool.{cases_lt}
use Rattle.std.proofs.lemmas.Slice.{take-put_mid}
use borrow.Rule.Slice.PartMut.{put_mid}
use Rattle.std.proofs.lemmas.List.{take_more_set, take-append-le, take_all, take_min, length-take-le, append-nil}
use Rattle.vp_page.specs.declared.line.TheConstants.{LINE_BYTES}

pub kept_more : (row came : List ℕ) (got byte : ℕ) → length row ≡ LINE_BYTES → got < LINE_BYTES → got ≡ length came → take (min got LINE_BYTES) row ≡ take LINE_BYTES came → take (min (got + 1) LINE_BYTES) (set row got byte) ≡ take LINE_BYTES (came ++ byte ∷ [])
kept_more row came got byte l h e k =
    let a : min (got + 1) LINE_BYTES ≡ got + 1 = omega arith in
    let b : min got LINE_BYTES ≡ got = omega arith in
    let now : take got row ≡ came = ap (λ n. take n row) (sym b) ∙ k ∙ take_all LINE_BYTES came (omega arith) in
    ap (λ n. take n (set row got byte)) a ∙ take_more_set row got byte (omega arith) ∙ ap (λ (xs : List ℕ). xs ++ byte ∷ []) now
    ∙ sym (take_all LINE_BYTES (came ++ byte ∷ []) (omega (arith, length-append came (byte ∷ []))))

pub kept_all : (row came : List ℕ) (got byte : ℕ) → LINE_BYTES ≤ got → got ≡ length came → take (min got LINE_BYTES) row ≡ take LINE_BYTES came → take (min (got + 1) LINE_BYTES) row ≡ take LINE_BYTES (came ++ byte ∷ [])
kept_all row came got byte h e k =
    let a : min (got + 1) LINE_BYTES ≡ min got LINE_BYTES = omega arith in
    ap (λ n. take n row) a ∙ k ∙ sym (take-append-le LINE_BYTES came (byte ∷ []) (omega arith))

none_of : (xs : List ℕ) → length xs ≡ 0 → xs ≡ []
none_of xs h1 = grind (arith, common_steps)

-- the front of what came and comes
fronts : (came bytes new : List ℕ) (got a n : ℕ) → a ≡ min got LINE_BYTES → n ≡ min (length bytes) (LINE_BYTES - a) → got ≡ length came → new ≡ take n bytes → length new ≡ n → take LINE_BYTES came ++ new ≡ take LINE_BYTES (came ++ bytes)
fronts came bytes new got a n from many e now size =
    ⊎_elim
    (λ (h : LINE_BYTES < got).
    ap (λ x. take LINE_BYTES came ++ x) (none_of new (omega arith)) ∙ append-nil (take LINE_BYTES came) ∙ sym (take-append-le LINE_BYTES came bytes (omega arith)))
    (λ (h : got ≤ LINE_BYTES).
    let k : n ≡ min (LINE_BYTES - length came) (length bytes) = omega arith in
    let rest : new ≡ take (LINE_BYTES - length came) bytes = now ∙ ap (λ m. take m bytes) k ∙ take_min (LINE_BYTES - length came) bytes in
    let whole : length came + (LINE_BYTES - length came) ≡ LINE_BYTES = omega arith in
    ap (λ x. x ++ new) (take_all LINE_BYTES came (omega arith)) ∙ ap (λ x. came ++ x) rest
    ∙ sym (take-append-add came bytes (LINE_BYTES - length came)) ∙ ap (λ m. take m (came ++ bytes)) whole)
    (cases_lt LINE_BYTES got)

pub kept_run : (row came bytes new : List ℕ) (got a n j : ℕ) → length row ≡ LINE_BYTES → a ≡ min got LINE_BYTES → n ≡ min (length bytes) (LINE_BYTES - a) → new ≡ take n bytes → got ≡ length came → take (min got LINE_BYTES) row ≡ take LINE_BYTES came
    → take (min (got + length bytes) LINE_BYTES) (put_mid a j row new) ≡ take LINE_BYTES (came ++ bytes)
kept_run row came bytes new got a n j l from many now e k = grind (arith, length-take-le, take-put_mid, fronts)
