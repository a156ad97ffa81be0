-- What symbols show of a row, and how many bytes spell them.
use Rattle.std.proofs.lemmas.Grind.{common_steps}
use Rattle.std.proofs.Common.{◌≡◌, ℕ, ◌+◌, ◌-◌, ◌<◌, ◌≤◌, true, false, cond, List, [], ◌∷◌, drop, length, get_or, None, Some, subst, ap, sym, ◌∙◌, refl, arith}
use Rattle.std.proofs.Math.Seq.{drop-length}
use Rattle.std.proofs.lemmas.List.{drop_more}
use Rattle.std.proofs.lemmas.Bool.{lt-ltb, le-ltb}
use Rattle.std.proofs.Math.Nat.{add-div_left}
use Rattle.vp_format.specs.declared.rows.Coding.TheVariants.{RunLength}
use Rattle.vp_format.specs.declared.rows.Spot.{Spot}
use Rattle.vp_format.specs.declared.row.RowEnd.{RowEnd}
use Rattle.vp_format.specs.declared.codes.Symbol.{Symbol}
use Rattle.vp_format.specs.declared.codes.Symbol.TheVariants.{Digits, ToEnd, Again, Refused}
use Rattle.vp_format.specs.Codes.{code_of, Spelled, spelled, joined, symbols_behind}
use Rattle.vp_format.specs.Pictures.{Unreadable, shown_at, shows, end_of, bytes_before, nibble}
use Rattle.vp_format.specs.declared.reading.Codes.{Codes}
use Rattle.vp_format.specs.Cursors.{digit_value, symbols_from, symbols_at, InHand, IsReading, AreSmall, Filled, Decoded, Reached, ReachedNext}

-- a place that the first symbol covers
pub shown_in : (w p : ℕ) (s : Spelled) (ss : List Spelled) (j : ℕ) → j < end_of w p s.symbol → shown_at w p (s ∷ ss) j ≡ shows w p s.symbol
shown_in w p s ss j h = ap (λ b. cond b (shows w p s.symbol) (shown_at w (end_of w p s.symbol) ss j)) (lt-ltb j (end_of w p s.symbol) h)

-- a place behind it
pub shown_past : (w p : ℕ) (s : Spelled) (ss : List Spelled) (j : ℕ) → end_of w p s.symbol ≤ j → shown_at w p (s ∷ ss) j ≡ shown_at w (end_of w p s.symbol) ss j
shown_past w p s ss j h = ap (λ b. cond b (shows w p s.symbol) (shown_at w (end_of w p s.symbol) ss j)) (le-ltb j (end_of w p s.symbol) h)

-- the bytes of the first symbol, and of those behind it
pub bytes_past : (w p : ℕ) (s : Spelled) (ss : List Spelled) (j : ℕ) → p < j → bytes_before w p (s ∷ ss) j ≡ s.bytes + bytes_before w (end_of w p s.symbol) ss j
bytes_past w p s ss j h = ap (λ b. cond b (s.bytes + bytes_before w (end_of w p s.symbol) ss j) 0) (lt-ltb p j h)

-- none starts before the first place
pub bytes_none : (w p : ℕ) (ss : List Spelled) (j : ℕ) → j ≤ p → bytes_before w p ss j ≡ 0
bytes_none w p [] j h = refl
bytes_none w p (s ∷ ss) j h = ap (λ b. cond b (s.bytes + bytes_before w (end_of w p s.symbol) ss j) 0) (le-ltb p j h)

-- a digit's run as far as it goes, and what is left of it
pub run_reached : (w : ℕ) (all : List Spelled) (from : ℕ) (old new : List ℕ) (x to n v k : ℕ) (left : List Spelled) (at : ℕ) → x < to → to ≤ x + n → v < 16 → Reached w all from old x (spelled (Digits n v) k ∷ left) at
    → Filled x to v old new → Reached w all from new to (spelled (Digits (n - (to - x)) v) 0 ∷ left) (at + k)
run_reached w all from old new x to n v k left at h e few r f = grind (arith, bytes_none)

pub run_done : (w : ℕ) (all : List Spelled) (from : ℕ) (row : List ℕ) (x n v : ℕ) (left : List Spelled) (at : ℕ) → n ≡ 0 → Reached w all from row x (spelled (Digits n v) 0 ∷ left) at → Reached w all from row x left at
run_done w all from row x n v left at e r = grind (arith, bytes_none)

-- a run of no places may stand before what is left
pub run_before : (w : ℕ) (all : List Spelled) (from : ℕ) (row : List ℕ) (x v : ℕ) (left : List Spelled) (at : ℕ) → Reached w all from row x left at → Reached w all from row x (spelled (Digits 0 v) 0 ∷ left) at
run_before w all from row x v left at r = grind (arith, bytes_none)

-- a digit to the row's end
pub end_reached : (w : ℕ) (all : List Spelled) (from : ℕ) (old new : List ℕ) (x v k : ℕ) (left : List Spelled) (at : ℕ) → x < w → v < 16 → Reached w all from old x (spelled (ToEnd v) k ∷ left) at → Filled x w v old new
    → Reached w all from new w left (at + k)
end_reached w all from old new x v k left at h few r f = grind (arith, common_steps)

-- no code is left for the rest of a row
pub white_reached : (w : ℕ) (all : List Spelled) (from : ℕ) (old new codes : List ℕ) (x at : ℕ) → x ≤ w → (x < w → at ≡ length codes) → Reached w all from old x (symbols_from codes at) at → Filled x w 0 old new
    → Reached w all from new w (symbols_from codes at) at
white_reached w all from old new codes x at h none r f = grind (arith, drop-length)

-- the bytes of `:`, and of those behind it
again_bytes : (w k : ℕ) (ss : List Spelled) (j : ℕ) → 0 < w → w ≤ j → bytes_before w 0 (spelled Again k ∷ ss) j ≡ k + bytes_before w w ss j
again_bytes w k ss j h l = grind arith

-- but not inside a row
pub again_refused : (w x k : ℕ) (ss : List Spelled) → 0 < x → x < w → shown_at w x (spelled Again k ∷ ss) (w - 1) ≡ Unreadable
again_refused w x k ss some h = grind (arith, common_steps)

-- a refused symbol
pub refused_shown : (w x k : ℕ) (ss : List Spelled) → x < w → shown_at w x (spelled Refused k ∷ ss) (w - 1) ≡ Unreadable
refused_shown w x k ss h = grind arith

-- a row further on, the symbols show the same
end_later : (w p : ℕ) (s : Symbol) → 0 < w → end_of w (w + p) s ≡ w + end_of w p s
end_later w p s h = grind (arith, add-div_left)

pub shown_later : (w p : ℕ) (ss : List Spelled) (j : ℕ) → 0 < w → shown_at w (w + p) ss (w + j) ≡ shown_at w p ss j
shown_later w p [] j h = refl
shown_later w p (s ∷ ss) j h = grind (arith, shown_in, end_later, shown_past, shown_later w (end_of w p s.symbol) ss j h)

pub bytes_later : (w p : ℕ) (ss : List Spelled) (j : ℕ) → 0 < w → bytes_before w (w + p) ss (w + j) ≡ bytes_before w p ss j
bytes_later w p [] j h = refl
bytes_later w p (s ∷ ss) j h = grind (arith, bytes_past, end_later, bytes_none, bytes_later w (end_of w p s.symbol) ss j h)

-- the symbols behind a row, from its end
pub behind_row : (w : ℕ) (ss : List Spelled) (j : ℕ) → 0 < w → shown_at w w ss (w + j) ≡ shown_at w 0 ss j
behind_row w ss j h = ap (λ q. shown_at w q ss (w + j)) (omega arith) ∙ shown_later w 0 ss j h

pub bytes_behind_row : (w : ℕ) (ss : List Spelled) (j : ℕ) → 0 < w → bytes_before w w ss (w + j) ≡ bytes_before w 0 ss j
bytes_behind_row w ss j h = ap (λ q. bytes_before w q ss (w + j)) (omega arith) ∙ bytes_later w 0 ss j h

-- the symbols from the byte in hand on, where it is a digit
pub digit_in_hand : (codes : List ℕ) (at b v : ℕ) → 0 < at → at ≤ length codes → b ≡ get_or codes (at - 1) 0 → v ≡ digit_value (code_of b) → v < 16 → symbols_from codes (at - 1) ≡ spelled (Digits 1 v) 1 ∷ symbols_from codes at
digit_in_hand codes at b v some inside e is small = grind (arith, common_steps)

-- the same symbols, the same place
pub reached_at : (w : ℕ) (all : List Spelled) (from : ℕ) (row : List ℕ) (x y : ℕ) (ss left : List Spelled) (at to : ℕ) → x ≡ y → ss ≡ left → at ≡ to → Reached w all from row x ss at → Reached w all from row y left to
reached_at w all from row x y ss left at to d e f r = subst (λ q. Reached w all from row q left to) d (subst (λ p. Reached w all from row x p to) e (subst (λ k. Reached w all from row x ss k) f r))

-- no symbol is given out, or the one that begins with the byte in hand
module _ (codes : List ℕ) (at : ℕ) (new : Codes) (w : ℕ) (all : List Spelled) (from : ℕ) (row : List ℕ) (x : ℕ) where
  pub none_reached : new.bytes.now ≡ codes → new.at ≡ at → Reached w all from row x (symbols_from codes at) at → ReachedNext w all from row x new None
  none_reached same here r = reached_at w all from row x x _ _ _ _ refl (ap (λ cs. symbols_from cs at) (sym same) ∙ ap (symbols_from new.bytes.now) (sym here)) (sym here) r

  pub next_reached : (mid : Codes) (b : ℕ) (s : Symbol) → mid.bytes.now ≡ codes → mid.at ≡ at + 1 → InHand mid (Some b) → IsReading mid → mid.at ≤ new.at
      → joined (code_of b) 0 0 (symbols_behind (drop mid.at mid.bytes.now)) ≡ spelled s (1 + (new.at - mid.at)) ∷ symbols_from new.bytes.now new.at
      → Reached w all from row x (symbols_from codes at) at → ReachedNext w all from row x new (Some s)
  next_reached mid b s same step hand reading more e r = grind (arith, reached_at, drop_more)

-- the end of a row whose places are all reached and packed
pub ended_decoded : (codes places old new : List ℕ) (c : Codes) (w : ℕ) (s : Spot) (end : RowEnd) (n v at : ℕ) → end ≡ record { left = n; digit = v; repeats = false } → 0 < w → c.bytes.now ≡ codes → IsReading c → v < 16 → at ≡ c.at
    → (AreSmall w places → (j : ℕ) → j < w → nibble new j ≡ get_or places j 0)
    → Reached w (symbols_at RunLength codes s) s.at places w (spelled (Digits n v) 0 ∷ symbols_from c.bytes.now c.at) at
    → Decoded w RunLength codes s end (record { left = end.left; digit = end.digit; at = c.at }) old new
ended_decoded codes places old new c w s end n v at is some same reading few here packed r = grind (arith, shown_later, bytes_later, common_steps)

-- the end of a row that is the one before
pub again_decoded : (codes places row : List ℕ) (c : Codes) (w : ℕ) (s : Spot) (end : RowEnd) (x k at : ℕ) → end ≡ record { left = 0; digit = 0; repeats = true } → 0 < w → c.bytes.now ≡ codes → IsReading c → at + k ≡ c.at → x ≡ 0
    → Reached w (symbols_at RunLength codes s) s.at places x (spelled Again k ∷ symbols_from c.bytes.now c.at) at
    → Decoded w RunLength codes s end (record { left = end.left; digit = end.digit; at = c.at }) row row
again_decoded codes places row c w s end x k at is some same reading here start r = grind (arith, behind_row, again_bytes, bytes_behind_row, bytes_none)

-- before the first place all symbols are left
pub start_reached : (w : ℕ) (all : List Spelled) (from : ℕ) (row : List ℕ) → Reached w all from row 0 all from
start_reached w all from row = record { so_far = λ j l. absurd (omega (arith, l)); small = λ j l. absurd (omega (arith, l)); ahead = λ j _. refl; bytes = λ j _. refl }
