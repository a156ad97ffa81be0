-- Bytes that are read and written in pieces.
use Rattle.std.proofs.Common.{◌≡◌, ℕ, ◌+◌, List, [], ◌++◌, take, drop, Option, arith, sym, append_assoc}
use Rattle.std.proofs.lemmas.List.{append-nil}
use Rattle.std.proofs.Math.Seq.{take-add}
use Rattle.std.proofs.KnownBytes.{Appends-trans}
use Rattle.std.specs.Io.KnownBytes.{Appends, Consumes}
use Rattle.vp_join.specs.Passes.{Follows}

-- a read of no bytes
pub ends_at : (a b c : Option (List ℕ)) (x buf : List ℕ) (n : ℕ) → n ≡ 0 → Consumes a b x → Consumes b c (take n buf) → Consumes a c x
ends_at a b c x buf n e h k = grind (arith, append-nil)

-- a writer took nothing
pub took_none : (a b c : Option (List ℕ)) (x buf : List ℕ) (n : ℕ) → n ≡ 0 → Appends a b x → Appends b c (take n buf) → Appends a c x
took_none a b c x buf n e h k = grind (arith, append-nil)

pub took_more : (a b c : Option (List ℕ)) (bytes : List ℕ) (k n : ℕ) → Appends a b (take k bytes) → Appends b c (take n (drop k bytes)) → Appends a c (take (k + n) bytes)
took_more a b c bytes k n h j = rw (take-add k n bytes) (Appends-trans a b c (take k bytes) (take n (drop k bytes)) h j)

-- what follows in pieces
module _ {A : Type 0} (has : A → List ℕ → A → Type 0) where
  pub follows_nil : (a : A) → Follows has a [] a
  follows_nil a = λ start before h. rw (append-nil before) h

  pub follows_more : (a b c : A) (xs ys : List ℕ) → Follows has a xs b → Follows has b ys c → Follows has a (xs ++ ys) c
  follows_more a b c xs ys f g = λ start before h. rw (sym (append_assoc before xs ys)) (g start (before ++ xs) (f start before h))

  -- all of a piece was taken
  pub follows_all : (a b c : A) (xs taken rest piece : List ℕ) → Follows has a xs b → Follows has b taken c → taken ++ rest ≡ piece → rest ≡ [] → Follows has a (xs ++ piece) c
  follows_all a b c xs taken rest piece f g s e = rw (sym s, e, append-nil taken) (follows_more a b c xs taken f g)
