-- Every element is a reading.
use Rattle.std.proofs.Common.{◌≡◌, ℕ, ◌+◌, ◌-◌, ◌*◌, ◌/◌, ◌%◌, ◌==◌, ◌<◌, ◌≤◌, Bool, true, false, cond, ltb, leb, not, ◌||◌, List, [], ◌∷◌, ◌++◌, length, replicate, get_or, take, drop, Result, Ok, Err, IfErr, refl, sym, subst, ap, ◌∙◌, arith}
use Rattle.vp_inflate.specs.declared.fault.Stop.{Stop}
use Rattle.vp_inflate.specs.declared.fault.Stop.TheVariants.{Broken, Short, Ended}
use Rattle.vp_inflate.specs.declared.fault.Fault.{Fault}
use Rattle.vp_inflate.specs.declared.fault.Fault.TheVariants.{NoCode, HeaderCheck, Method, WindowSize, Dictionary, TooManyCodes, Repeat, LengthSymbol, DistanceSymbol, BlockType, StoredLength, LengthCode, NoEnd, LiteralCode, DistanceCode, TooFarBack, Checksum}
use Rattle.vp_inflate.specs.declared.phase.Phase.{Phase}
use Rattle.vp_inflate.specs.declared.phase.Phase.TheVariants.{Header, Block, Size, Stored, Table, Order, Lengths, Symbols, Literal, Trailer}
use Rattle.vp_inflate.specs.declared.phase.Phase.TheVariants as phase
use Rattle.vp_inflate.specs.declared.piece.Piece.TheVariants.{Byte, End, Copy}
use Rattle.vp_inflate.specs.declared.piece.TheConstants.{LENGTHS, LENGTH_BITS, DISTANCES, DISTANCE_BITS}
use Rattle.vp_inflate.specs.Bits.{Read, ◌>>=◌, number_at}
use Rattle.vp_inflate.specs.Codes.{counts, ordered, symbol_in, symbol_of}
use Rattle.vp_inflate.specs.Headers.{header_by, header, checksum_at, checksum}
use Rattle.vp_inflate.specs.Tables.{fixed_literal, fixed_distance, is_complete, is_code, table_at, placed, run_at}
use Rattle.vp_inflate.specs.Pieces.{copy_at, piece_at}
use Rattle.vp_inflate.specs.Unpacking.{Stand, begun, stored, size_at, ordered_length, codes_of, with_codes, came, with_piece, reaches, after_header, after_block, after_size, after_stored, after_table, after_order, after_lengths, after_symbols, after_copy, after_trailer, after_phase, element}
use Rattle.vp_inflate.specs.Standing.{Moves}
use Rattle.vp_inflate.proofs.CodeWords.{length_counts}
use Rattle.vp_inflate.proofs.TableWords.{all_within}
use Rattle.vp_inflate.proofs.Readings.{Reads, reads_within, reads_nothing, reads_fault, reads_either, reads_then, reads_number, reads_aligned}

reads_symbols : (cs ss : List ℕ) (before beyond : ℕ) → Reads (length cs) (symbol_in cs ss before beyond)
unfolding symbol_in
reads_symbols [] ss before beyond = reads_fault NoCode
reads_symbols (n ∷ cs) ss before beyond =
    reads_within (1 + length cs) (length (n ∷ cs)) (symbol_in (n ∷ cs) ss before beyond) (omega arith)
    (reads_then 1 (length cs) (number_at 1) (λ bit. cond (ltb (2 * beyond + bit.0) n) (Ok (get_or ss (before + (2 * beyond + bit.0)) 0, bit.1)) (symbol_in cs ss (before + n) (2 * beyond + bit.0 - n) bit.1))
    (reads_number 1)
    (λ x. reads_either (length cs) (ltb (2 * beyond + x) n) (λ from. Ok (get_or ss (before + (2 * beyond + x)) 0, from)) (symbol_in cs ss (before + n) (2 * beyond + x - n))
    (reads_within 0 (length cs) (λ from. Ok (get_or ss (before + (2 * beyond + x)) 0, from)) (omega arith) (reads_nothing (get_or ss (before + (2 * beyond + x)) 0)))
    (reads_symbols cs ss (before + n) (2 * beyond + x - n))))

pub reads_symbol : (ls : List ℕ) → Reads 15 (symbol_of ls)
unfolding symbol_of
reads_symbol ls = reads_within (length (counts 15 ls)) 15 (symbol_in (counts 15 ls) (ordered 15 ls) 0 0) (omega (arith, length_counts 15 ls))
    (reads_symbols (counts 15 ls) (ordered 15 ls) 0 0)

-- a value that a reading gives, made into another
reads_as : {A B : Type 0} (k : ℕ) (r : List ℕ → Read A) (f : A → B) → Reads k r → Reads k (λ from. r from >>= λ read. Ok (f read.0, read.1))
reads_as k r f h = reads_within (k + 0) k (λ from. r from >>= λ read. Ok (f read.0, read.1)) (omega arith)
    (reads_then k 0 r (λ read. Ok (f read.0, read.1)) h (λ x. reads_nothing (f x)))

-- a reading behind which nothing is read
reads_by : {A B : Type 0} (k : ℕ) (r : List ℕ → Read A) (q : A × List ℕ → Read B) → Reads k r → ((x : A) → Reads 0 (λ from. q (x, from))) → Reads k (λ from. r from >>= q)
reads_by k r q h g = reads_within (k + 0) k (λ from. r from >>= q) (omega arith) (reads_then k 0 r q h g)

reads_header_by : (cmf flg : ℕ) → Reads 0 (header_by cmf flg)
reads_header_by cmf flg =
    reads_either 0 (not ((256 * cmf + flg) % 31 == 0)) _ _ (reads_fault HeaderCheck)
    (reads_either 0 (not (cmf % 16 == 8)) _ _ (reads_fault Method)
    (reads_either 0 (ltb 7 (cmf / 16)) _ _ (reads_fault WindowSize)
    (reads_either 0 (flg / 32 % 2 == 1) _ _ (reads_fault Dictionary) (reads_nothing Block))))

pub reads_header : Reads 16 header
unfolding header
reads_header = reads_then 8 8 (number_at 8) _ (reads_number 8) (λ cmf. reads_by 8 (number_at 8) _ (reads_number 8) (λ flg. reads_header_by cmf flg))

pub reads_checksum : Reads 39 checksum_at
unfolding checksum_at
reads_checksum = reads_aligned 32 _
    (reads_then 8 24 (number_at 8) _ (reads_number 8) (λ a.
    reads_then 8 16 (number_at 8) _ (reads_number 8) (λ b.
    reads_then 8 8 (number_at 8) _ (reads_number 8) (λ c.
    reads_by 8 (number_at 8) _ (reads_number 8) (λ d. reads_nothing (256 * (256 * (256 * a + b) + c) + d))))))

pub reads_table : Reads 14 table_at
unfolding table_at
reads_table = reads_then 5 9 (number_at 5) _ (reads_number 5) (λ hlit.
    reads_then 5 4 (number_at 5) _ (reads_number 5) (λ hdist.
    reads_by 4 (number_at 4) _ (reads_number 4) (λ hclen.
    reads_either 0 (ltb 286 (257 + hlit) || ltb 30 (1 + hdist)) _ _ (reads_fault TooManyCodes) (reads_nothing (Order (257 + hlit) (1 + hdist) (4 + hclen))))))

pub reads_run : (code ls : List ℕ) → Reads 22 (run_at code ls)
unfolding run_at
reads_run code ls = reads_then 15 7 (symbol_of code) _ (reads_symbol code) (λ symbol.
    reads_either 7 (ltb symbol 16) _ _ (reads_within 0 7 _ (omega arith) (reads_nothing (symbol, 1)))
    (reads_either 7 (symbol == 16) _ _
    (reads_within 2 7 _ (omega arith) (reads_by 2 (number_at 2) _ (reads_number 2) (λ more.
    reads_either 0 (length ls == 0) _ _ (reads_fault Repeat) (reads_nothing (get_or ls (length ls - 1) 0, 3 + more)))))
    (reads_either 7 (symbol == 17) _ _
    (reads_within 3 7 _ (omega arith) (reads_by 3 (number_at 3) _ (reads_number 3) (λ more. reads_nothing (0, 3 + more))))
    (reads_by 7 (number_at 7) _ (reads_number 7) (λ more. reads_nothing (0, 11 + more))))))

reads_copy : (distance : List ℕ) (k : ℕ) → Reads 33 (copy_at distance k)
unfolding copy_at
reads_copy distance k = reads_then 5 28 (number_at (get_or LENGTH_BITS k 0)) _
    (reads_within (get_or LENGTH_BITS k 0) 5 _ (all_within 5 LENGTH_BITS refl k) (reads_number (get_or LENGTH_BITS k 0))) (λ more.
    reads_then 15 13 (symbol_of distance) _ (reads_symbol distance) (λ symbol.
    reads_either 13 (ltb 29 symbol) _ _ (reads_within 0 13 _ (omega arith) (reads_fault DistanceSymbol))
    (reads_by 13 (number_at (get_or DISTANCE_BITS symbol 0)) _
    (reads_within (get_or DISTANCE_BITS symbol 0) 13 _ (all_within 13 DISTANCE_BITS refl symbol) (reads_number (get_or DISTANCE_BITS symbol 0)))
    (λ far. reads_nothing (Copy (get_or LENGTHS k 0 + more) (get_or DISTANCES symbol 0 + far))))))

pub reads_piece : (code distance : List ℕ) → Reads 48 (piece_at code distance)
unfolding piece_at
reads_piece code distance = reads_then 15 33 (symbol_of code) _ (reads_symbol code) (λ symbol.
    reads_either 33 (ltb symbol 256) _ _ (reads_within 0 33 _ (omega arith) (reads_nothing (Byte symbol)))
    (reads_either 33 (symbol == 256) _ _ (reads_within 0 33 _ (omega arith) (reads_nothing End))
    (reads_either 33 (ltb 285 symbol) _ _ (reads_within 0 33 _ (omega arith) (reads_fault LengthSymbol))
    (reads_copy distance (symbol - 257)))))

codes_or_fault : (literals : ℕ) (all : List ℕ) (stop : Stop) → codes_of literals all ≡ Err stop → (f : Fault) × (stop ≡ Broken f)
unfolding codes_of
codes_or_fault literals all stop = by_tests (get_or all 256 0 == 0) (not (is_code (take literals all))) (not (is_code (drop literals all)))
  where
    by_tests : (a b c : Bool) → cond {A = Result (List ℕ × List ℕ) Stop} a (Err (Broken NoEnd)) (cond b (Err (Broken LiteralCode)) (cond c (Err (Broken DistanceCode)) (Ok (take literals all, drop literals all)))) ≡ Err stop → (f : Fault) × (stop ≡ Broken f)
    by_tests true b c e = (NoEnd, cc)
    by_tests false true c e = (LiteralCode, cc)
    by_tests false false true e = (DistanceCode, cc)
    by_tests false false false e = absurd cc

-- the codes of a block, or why there are none, read nothing
reads_codes : (literals : ℕ) (s : Stand) → Reads 0 (with_codes literals s)
reads_codes literals s = by_codes (codes_of literals s.lengths) refl
  where
    no_fault_short : (f : Fault) × (Short ≡ Broken f) → ⊥
    no_fault_short e = let h = e.1 in cc

    no_fault_ended : (f : Fault) × (Ended ≡ Broken f) → ⊥
    no_fault_ended e = let h = e.1 in cc

    by_codes : (v : Result (List ℕ × List ℕ) Stop) → codes_of literals s.lengths ≡ v
        → Reads 0 (λ from. v >>= λ both. Ok (record s { phase = Symbols; lengths = []; code = both.0; distance = both.1 }, from))
    by_codes (Ok both) e = reads_nothing (record s { phase = Symbols; lengths = []; code = both.0; distance = both.1 })
    by_codes (Err Short) e = absurd (no_fault_short (codes_or_fault literals s.lengths Short e))
    by_codes (Err Ended) e = absurd (no_fault_ended (codes_or_fault literals s.lengths Ended e))
    by_codes (Err (Broken f)) e = reads_fault f

reads_came : (literals distances : ℕ) (s : Stand) → Reads 0 (came literals distances s)
reads_came literals distances s =
    reads_either 0 (ltb (literals + distances) (length s.lengths)) _ _ (reads_fault Repeat)
    (reads_either 0 (ltb (length s.lengths) (literals + distances)) _ _ (reads_nothing s) (reads_codes literals s))

reads_ordered : (literals distances n : ℕ) (s : Stand) → Reads 0 (ordered_length literals distances n s)
reads_ordered literals distances n s =
    reads_either 0 (leb n 1) _ _
    (reads_either 0 (is_complete (placed s.lengths)) _ _ (reads_nothing (record s { phase = Lengths literals distances; code = placed s.lengths; lengths = [] })) (reads_fault LengthCode))
    (reads_nothing (record s { phase = Order literals distances (n - 1) }))

reads_begun : (kind : ℕ) (s : Stand) → Reads 0 (begun kind s)
reads_begun kind s =
    reads_either 0 (kind == 0) _ _ (reads_nothing (record s { phase = Size }))
    (reads_either 0 (kind == 1) _ _ (reads_nothing (record s { phase = Symbols; code = fixed_literal; distance = fixed_distance }))
    (reads_either 0 (kind == 2) _ _ (reads_nothing (record s { phase = Table })) (reads_fault BlockType)))

reads_size : Reads 39 size_at
reads_size = reads_aligned 32 _
    (reads_then 16 16 (number_at 16) _ (reads_number 16) (λ len.
    reads_by 16 (number_at 16) _ (reads_number 16) (λ nlen. reads_either 0 (len + nlen == 65535) _ _ (reads_nothing len) (reads_fault StoredLength))))

reads_phase : (p : Phase) (s : Stand) → (p ≡ phase.Ended → ⊥) → Reads 48 (after_phase p s)
unfolding after_header after_block after_size after_stored after_table after_order after_lengths after_symbols after_copy after_trailer
reads_phase Header s going = reads_within 16 48 _ (omega arith) (reads_as 16 header _ reads_header)
reads_phase Block s going = reads_within 3 48 _ (omega arith) (reads_by 3 (number_at 3) _ (reads_number 3) (λ head. reads_begun (head / 2) (record s { last = head % 2 == 1 })))
reads_phase Size s going = reads_within 39 48 _ (omega arith) (reads_as 39 size_at (λ n. stored n s) reads_size)
reads_phase (Stored n) s going = reads_within 8 48 _ (omega arith) (reads_as 8 (number_at 8) (λ byte. stored (n - 1) (record s { out = byte ∷ s.out })) (reads_number 8))
reads_phase Table s going = reads_within 14 48 _ (omega arith) (reads_as 14 table_at _ reads_table)
reads_phase (Order literals distances n) s going = reads_within 3 48 _ (omega arith)
    (reads_by 3 (number_at 3) _ (reads_number 3) (λ l. reads_ordered literals distances n (record s { lengths = s.lengths ++ l ∷ [] })))
reads_phase (Lengths literals distances) s going = reads_within 22 48 _ (omega arith)
    (reads_by 22 (run_at s.code s.lengths) _ (reads_run s.code s.lengths) (λ run. reads_came literals distances (record s { lengths = s.lengths ++ replicate run.1 run.0 })))
reads_phase Symbols s going = reads_as 48 (piece_at s.code s.distance) (λ piece. with_piece piece s) (reads_piece s.code s.distance)
reads_phase (Literal byte) s going = reads_within 0 48 _ (omega arith) (reads_nothing (record s { phase = Symbols; out = byte ∷ s.out }))
reads_phase (phase.Copy n back) s going = reads_within 0 48 _ (omega arith)
    (reads_either 0 (reaches s.out back) _ _
    (reads_nothing (record s { phase = cond (leb n 1) Symbols (phase.Copy (n - 1) back); out = get_or s.out (back - 1) 0 ∷ s.out })) (reads_fault TooFarBack))
reads_phase Trailer s going = reads_within 39 48 _ (omega arith)
    (reads_by 39 checksum_at _ reads_checksum (λ sum. reads_either 0 (sum == checksum s.out) _ _ (reads_nothing (record s { phase = phase.Ended })) (reads_fault Checksum)))
reads_phase phase.Ended s going = absurd (going refl)

-- what is no end is a reading
pub reads_element : (s : Stand) (from : List ℕ) (v : Read Stand) → element s from ≡ v → (v ≡ Err Ended → ⊥) → Reads 48 (element s)
reads_element s from v e going = reads_phase s.phase s (λ h. going (sym e ∙ ap (λ (p : Phase). after_phase p s from) h))

-- the end is no reading, whatever follows
pub ended_more : (p : Phase) (s : Stand) (from more : List ℕ) → after_phase p s from ≡ Err Ended → after_phase p s (from ++ more) ≡ Err Ended
ended_more Header s from more e = absurd ((reads_phase Header s (λ h. cc)).going from e)
ended_more Block s from more e = absurd ((reads_phase Block s (λ h. cc)).going from e)
ended_more Size s from more e = absurd ((reads_phase Size s (λ h. cc)).going from e)
ended_more (Stored n) s from more e = absurd ((reads_phase (Stored n) s (λ h. cc)).going from e)
ended_more Table s from more e = absurd ((reads_phase Table s (λ h. cc)).going from e)
ended_more (Order literals distances n) s from more e = absurd ((reads_phase (Order literals distances n) s (λ h. cc)).going from e)
ended_more (Lengths literals distances) s from more e = absurd ((reads_phase (Lengths literals distances) s (λ h. cc)).going from e)
ended_more Symbols s from more e = absurd ((reads_phase Symbols s (λ h. cc)).going from e)
ended_more (Literal byte) s from more e = absurd ((reads_phase (Literal byte) s (λ h. cc)).going from e)
ended_more (phase.Copy n back) s from more e = absurd ((reads_phase (phase.Copy n back) s (λ h. cc)).going from e)
ended_more Trailer s from more e = absurd ((reads_phase Trailer s (λ h. cc)).going from e)
ended_more phase.Ended s from more e = refl

-- where bits are missing there is room for another byte
pub room : {X : Type 0} (p : Phase) (s : Stand) (from : List ℕ) (result : Result X Stop) (new : Stand) (rest : List ℕ) → Moves (after_phase p s from) result new rest
    → IfErr result (λ stop. stop ≡ Short → length from < 48)
room p s from (Ok x) new rest h = tt
room p s from (Err stop) new rest h = λ short. (reads_phase p s (going p h short)).short from (h ∙ ap (λ (t : Stop). Err t) short)
  where
    going : (p : Phase) → after_phase p s from ≡ Err stop → stop ≡ Short → p ≡ phase.Ended → ⊥
    going p h short e = let u : after_phase phase.Ended s from ≡ Err stop = ap (λ (q : Phase). after_phase q s from) (sym e) ∙ h in cc

pub room_of : {X A : Type 0} (k : ℕ) (r : List ℕ → Read A) → Reads k r → k ≤ 48 → (from : List ℕ) (result : Result X Stop) (stop : Stop) → Err stop ≡ r from → result ≡ Err stop
    → IfErr result (λ t. t ≡ Short → length from < 48)
room_of {X = X} {A = A} k r h le from result stop e i =
    subst (λ (v : Result X Stop). IfErr v (λ t. t ≡ Short → length from < 48)) (sym i) (λ short. omega (arith, h.short from (sym e ∙ ap (λ (t : Stop). Err t) short)))
