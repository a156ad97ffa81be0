-- Where a reading stands after more bytes, and what is told at the end.
use Rattle.std.proofs.Common.{arith, zero, suc, ◌≡◌, ◌+◌, ◌<◌, ℕ, List, [], ◌∷◌, ◌++◌, length, take, get_or, refl, ap, ◌∙◌, append_assoc}
use Rattle.std.proofs.lemmas.List.{append-nil}
use Rattle.std.proofs.lemmas.Grind.{common_steps}
use Rattle.vp_join.specs.Told.{Seen, Told, told, rows_told, images, rows}
use Rattle.vp_join.specs.Standing.{from_phase, so_far, Stands, HasRead}
use Rattle.vp_join.specs.declared.reading.Phase.{Phase}
use Rattle.vp_join.specs.declared.reading.Reading.{Reading}

abbrev pub seen : ℕ → ℕ → List ℕ → Seen
seen w h r = record { width = w; height = h; rows = r }

-- some bytes of rows, and more of the rows are to come
pub rows_run : (w h : ℕ) (r bs text : List ℕ) (n k : ℕ) → n ≡ length bs + k → rows (seen w h r) n (bs ++ text) ≡ rows (seen w h (r ++ bs)) k text
rows_run w h r [] text n k e = let f : n ≡ k = omega (arith, e) in rw (f, append-nil r) refl
rows_run w h r (b ∷ bs) text zero k e = absurd (omega (arith, e))
rows_run w h r (b ∷ bs) text (suc n) k e = rows_run w h (r ++ b ∷ []) bs text n k (omega (arith, e)) ∙ ap (λ z. rows (seen w h z) k text) (append_assoc r (b ∷ []) bs)

-- all that is left of the rows
pub rows_end : (w h : ℕ) (r bs text : List ℕ) (n : ℕ) → suc n ≡ length bs → rows (seen w h r) n (bs ++ text) ≡ images (seen w h (r ++ bs)) text
rows_end w h r [] text n e = absurd (omega (arith, e))
rows_end w h r (b ∷ []) text zero e = refl
rows_end w h r (b ∷ c ∷ bs) text zero e = absurd (omega (arith, e))
rows_end w h r (b ∷ bs) text (suc n) e = rows_end w h (r ++ b ∷ []) bs text n (omega (arith, e)) ∙ ap (λ z. images (seen w h z) text) (append_assoc r (b ∷ []) bs)

-- more of the bytes, and more of the rows
pub stands_more : (s : Reading) (b r p q x y : List ℕ) {p2 q2 : List ℕ} → p2 ≡ p ++ x → q2 ≡ q ++ y → Stands s ((b ++ p) ++ x) ((r ++ q) ++ y) → Stands s (b ++ p2) (r ++ q2)
stands_more s b r p q x y e f h = rw (e, f, ← append_assoc b p x, ← append_assoc r q y) h

-- a step from one phase to the next
pub stands_then : (s t : Reading) (b r x y : List ℕ) → Stands s b r → ((text : List ℕ) → from_phase s.phase (so_far s r) (x ++ text) ≡ from_phase t.phase (so_far t (r ++ y)) text) → Stands t (b ++ x) (r ++ y)
stands_then s t b r x y h f = λ text. ap told (append_assoc b x text) ∙ h (x ++ text) ∙ f text

pub at_end : (s : Reading) (p : Phase) (b r : List ℕ) → s.phase ≡ p → Stands s b r → told b ≡ from_phase p (so_far s r) []
at_end s p b r e h = let k = h [] in grind (arith, common_steps, k, e)

phase_rows : (p : Phase) (so : Seen) → (from_phase p so []).so.rows ≡ so.rows
phase_rows p so = grind arith

-- what was given is the rows' bytes
pub given_rows : (s : Reading) (b r : List ℕ) → Stands s b r → rows_told b ≡ r
given_rows s b r h = ap (λ (t : Told). t.so.rows) (at_end s s.phase b r refl h) ∙ phase_rows s.phase (so_far s r)

-- one byte of a header is taken
pub stands_head : (s t : Reading) (b r bytes : List ℕ) → 0 < length bytes → Stands s b r
    → ((text : List ℕ) → from_phase s.phase (so_far s r) (get_or bytes 0 0 ∷ text) ≡ from_phase t.phase (so_far t r) text) → Stands t (b ++ take 1 bytes) (r ++ [])
stands_head s t b r bytes l h f = grind (arith, append-nil, append_assoc)

-- behind b and r it took a piece more
pub read_more : (s t : Reading) (b r p x y : List ℕ) {p2 : List ℕ} → p2 ≡ p ++ x → (h : HasRead s (b ++ p) r)
    → Stands t ((b ++ p) ++ x) ((r ++ h.more) ++ y) → HasRead t (b ++ p2) r
read_more s t b r p x y e h k = record { more = h.more ++ y; stands = stands_more t b r p h.more x y e refl k }

pub read_none : (s : Reading) (b r : List ℕ) → Stands s b r → HasRead s (b ++ []) r
read_none s b r h = record { more = []; stands = rw (append-nil b, append-nil r) h }
