-- Shares of codes, and tables of numbers.
use Rattle.std.proofs.Common.{◌≡◌, ℕ, zero, suc, ◌+◌, ◌/◌, ◌^◌, ◌<◌, ◌≤◌, Bool, true, leb, List, [], ◌∷◌, length, drop, get_or, arith, lit<, ap, ◌∙◌, refl, cond, eqb, false}
use Rattle.std.specs.List.{list_all}
use Rattle.std.proofs.Math.Nat.{pow-le-pow_right, div-eq_of_lt}
use Rattle.std.proofs.lemmas.List.{at_drop_more, at_drop_all}
use Rattle.std.proofs.lemmas.Bool.{and_parts, leb-true}
use Rattle.vp_inflate.specs.Tables.{share, shares}

pub shares_more : (ls : List ℕ) (i : ℕ) → i < length ls → shares (drop i ls) ≡ share (get_or ls i 0) + shares (drop (i + 1) ls)
unfolding shares
shares_more ls i h = at_drop_more shares ls i 0 h

pub shares_none : (ls : List ℕ) (i : ℕ) → length ls ≤ i → shares (drop i ls) ≡ 0
unfolding shares
shares_none ls i h = at_drop_all shares ls i h

pub no_share : (l : ℕ) → 15 < l → 32768 / 2 ^ l ≡ 0
no_share l h =
    let p : 2 ^ 16 ≤ 2 ^ l = pow-le-pow_right (lit< tt) h in
    div-eq_of_lt (omega (arith, p))

pub all_within : (m : ℕ) (xs : List ℕ) → list_all (λ x. leb x m) xs ≡ true → (k : ℕ) → get_or xs k 0 ≤ m
all_within m [] h k = omega arith
all_within m (x ∷ xs) h zero = leb-true x m (and_parts (leb x m) (list_all (λ x. leb x m) xs) h).0
all_within m (x ∷ xs) h (suc k) = all_within m xs (and_parts (leb x m) (list_all (λ x. leb x m) xs) h).1 k

pub share_none : (l : ℕ) → 15 < l → share l ≡ 0
share_none l h = ap (cond (eqb l 0) 0) (no_share l h) ∙ either (eqb l 0)
  where
    either : (b : Bool) → ◌≡◌ {A = ℕ} (cond b 0 0) 0
    either true = refl
    either false = refl
