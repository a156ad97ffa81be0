-- A byte gives at most one item.
use Rattle.std.proofs.Common.{◌≡◌, ℕ, ◌+◌, ◌≤◌, Bool, cond, List, [], ◌∷◌, ◌++◌, length, map, append_assoc, arith, lit≤, length-append}
use Rattle.std.proofs.lemmas.List.{append-nil, map_push, length_push}
use Rattle.vp_esc.specs.declared.reading.Reading.{Reading}
use Rattle.vp_esc.specs.declared.item.EscItem.{EscItem}
use Rattle.vp_esc.specs.declared.item.Lead.{Lead}
use Rattle.vp_esc.specs.declared.command.Command.{Command}
use Rattle.vp_esc.specs.declared.command.Command.TheVariants.{Columns}
use Rattle.vp_esc.specs.Qr.{qr_items, value_items}
use Rattle.vp_esc.specs.Units.{given, given_by, given_behind, tall_columns}
use Rattle.vp_esc.specs.Split.{items as items_of}
use Rattle.vp_esc.proofs.Heads.{given_is}
use Rattle.vp_esc.proofs.Splits.{items-push, items-is}

-- one more than these at most
abbrev Few : List EscItem → List EscItem → Type 0
Few xs ys = length ys ≤ length xs + 1

one_more : (xs : List EscItem) (x : EscItem) → Few xs (xs ++ x ∷ [])
one_more xs x = omega (arith, length_push xs x)

-- no more than one, whatever there was
one : (xs ys : List EscItem) → length ys ≤ 1 → Few xs ys
one xs ys h = omega arith

-- a choice that stays: in both ways more, or in one
same : (b : Bool) (xs xs' ys ys' : List EscItem) → Few xs xs' → Few ys ys' → Few (cond b xs ys) (cond b xs' ys')
same b xs xs' ys ys' h k = grind arith

-- Rasters and columns.

tall_few : (bytes : List ℕ) (c : ℕ) → Few (tall_columns bytes) (tall_columns (bytes ++ c ∷ []))
tall_few (x ∷ y ∷ z ∷ bytes) c = let few = tall_few bytes c in omega arith
tall_few bytes c = lit≤ tt

-- GS ( k.

qr_few : (count : ℕ) (values : List ℕ) (c : ℕ) → Few (qr_items count values) (qr_items count (values ++ c ∷ []))
unfolding qr_items value_items
qr_few count values c = grind (arith, lit≤, same, map_push, one_more, map)

-- Of a command.

columns_behind : (reading : Reading) (lead : Lead) (name : ℕ) (a b d : ℕ) (args : List ℕ) (c : ℕ) → Few (given_by reading lead name Columns (a ∷ b ∷ d ∷ args)) (given_by reading lead name Columns (a ∷ b ∷ d ∷ args ++ c ∷ []))
unfolding given_behind
columns_behind reading lead name a b d args c = grind (arith, given_is, length_push, map_push, one_more, map, tall_few)

-- behind its head, and before
behind_few : (reading : Reading) (lead : Lead) (name : ℕ) (k : Command) (args : List ℕ) (c : ℕ) → Few (given_by reading lead name k args) (given_by reading lead name k (args ++ c ∷ []))
unfolding given_by given_behind qr_items
behind_few reading lead name Columns (a ∷ b ∷ d ∷ args) c = columns_behind reading lead name a b d args c
behind_few reading lead name k args c = grind (arith, length_push, map_push, lit≤, qr_few)

pub a_byte_gives : (reading : Reading) (bytes : List ℕ) (c : ℕ) → length (items_of reading (bytes ++ c ∷ [])) ≤ length (items_of reading bytes) + 1
unfolding given given_by given_behind
a_byte_gives reading bytes c = grind (arith, lit≤, behind_few, same, items-push, items-is, length-append)

longer : (reading : Reading) (xs ys : List ℕ) → xs ≡ ys → (a b c : ℕ) (more : List ℕ) → b ≤ a + 1 → length (items_of reading ys) ≤ b + length more → length (items_of reading xs) ≤ a + length (c ∷ more)
longer reading xs ys e a b c more h k = rw e (omega arith)

pub bytes_give : (reading : Reading) (bytes more : List ℕ) → length (items_of reading (bytes ++ more)) ≤ length (items_of reading bytes) + length more
bytes_give reading bytes [] = rw (append-nil bytes) (omega arith)
bytes_give reading bytes (c ∷ more) = grind (arith, longer, append_assoc, a_byte_gives, bytes_give reading (bytes ++ c ∷ []) more)
