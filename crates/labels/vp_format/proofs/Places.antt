-- What codes show behind others.
use Rattle.std.proofs.Common.{◌≡◌, ℕ, zero, suc, ◌+◌, ◌*◌, ◌/◌, ◌<◌, ◌≤◌, max, cond, false, List, [], ◌∷◌, ◌++◌, length, get_or, ap, sym, ◌∙◌, refl, arith, append_assoc, append-nil}
use Rattle.std.proofs.lemmas.Bool.{ne_eqb, true≢false}
use Rattle.std.proofs.Math.Nat.{lt-div-mul-add}
use Rattle.vp_format.specs.declared.codes.Code.{Code}
use Rattle.vp_format.specs.declared.codes.Code.TheVariants.{Digit, Count}
use Rattle.vp_format.specs.declared.codes.Symbol.TheVariants.{Digits, Refused}
use Rattle.vp_format.specs.Codes.{code_of, Spelled, spelled, joined, symbols_behind}
use Rattle.vp_format.specs.Pictures.{Value, Unreadable, shown_at}
use Rattle.vp_format.specs.Reads.{AreDigits, no_digit, digit, AreCounts, no_count, count, goes_on, ReadTo, start, run, row, again}
use Rattle.vp_format.proofs.Reached.{shown_in, shown_past}

abbrev symbols : List ℕ → List Spelled
symbols codes = symbols_behind codes 0 0

-- the symbols from a known code on
pub symbols_at_code : (b n k : ℕ) (c : Code) (codes : List ℕ) → code_of b ≡ c → symbols_behind (b ∷ codes) n k ≡ joined c n k (symbols_behind codes)
symbols_at_code b n k c codes e = ap (λ d. joined d n k (symbols_behind codes)) e

-- counts and their digit
pub symbols_run : {counts : List ℕ} {n : ℕ} (back : List ℕ) (m i k b v : ℕ) → AreCounts counts n → code_of b ≡ Digit v → m + n ≡ k
    → symbols_behind (counts ++ b ∷ back) m i ≡ spelled (Digits (max k 1) v) (i + length counts + 1) ∷ symbols back
symbols_run back m i k b v no_count e s = symbols_at_code b m i (Digit v) back e ∙ ap (λ q. spelled (Digits (max q 1) v) (i + 1) ∷ symbols back) (omega arith) ∙ ap (λ q. spelled (Digits (max k 1) v) q ∷ symbols back) (omega arith)
symbols_run back m i k b v (count c d n counts g h) e s = symbols_at_code c m i (Count d) (counts ++ b ∷ back) g ∙ symbols_run back (m + d) (i + 1) k b v h e (omega arith) ∙ ap (λ q. spelled (Digits (max k 1) v) q ∷ symbols back) (omega arith)

-- counts that the codes end behind
pub symbols_cut : {counts : List ℕ} {n : ℕ} (m i : ℕ) → AreCounts counts n → 0 < m + n → symbols_behind counts m i ≡ spelled Refused (i + length counts) ∷ []
symbols_cut m i no_count h = ap (λ b. cond b [] (spelled Refused i ∷ [])) (ne_eqb m 0 (omega arith)) ∙ ap (λ q. spelled Refused q ∷ []) (omega arith)
symbols_cut m i (count c d n counts g r) h = symbols_at_code c m i (Count d) counts g ∙ symbols_cut (m + d) (i + 1) r (omega arith) ∙ ap (λ q. spelled Refused q ∷ []) (omega arith)

-- counts that something else stands behind
pub symbols_counted : {counts : List ℕ} {n : ℕ} (back : List ℕ) (m i b : ℕ) → AreCounts counts n → 0 < m + n → goes_on (code_of b) ≡ false
    → symbols_behind (counts ++ b ∷ back) m i ≡ spelled Refused (i + length counts + 1) ∷ symbols back
symbols_counted back m i b no_count h e = grind (arith, ne_eqb, true≢false)
symbols_counted back m i b (count c d n counts g r) h e = symbols_at_code c m i (Count d) (counts ++ b ∷ back) g ∙ symbols_counted back (m + d) (i + 1) b r (omega arith) e ∙ ap (λ q. spelled Refused q ∷ symbols back) (omega arith)

-- a row's end lies behind each of its places
pub end_behind : (w q : ℕ) → 0 < w → q < (q / w + 1) * w
end_behind w q h = let e : (q / w + 1) * w ≡ q / w * w + w = omega arith in rw e (lt-div-mul-add h)

-- behind accepted codes the others begin at their place
pub read_on : (width : ℕ) {front : List ℕ} {place : ℕ} (back : List ℕ) (j : ℕ) → 0 < width → ReadTo width front place → place ≤ j → shown_at width 0 (symbols (front ++ back)) j ≡ shown_at width place (symbols back) j
read_on width back j w start h = refl
read_on width back j w (run front counts n b v q r g e) h = grind (arith, append_assoc, symbols_run, shown_past, read_on width (counts ++ b ∷ back) j w r (omega arith))
read_on width back j w (row front b v q r e) h = grind (arith, append_assoc, end_behind, symbols_at_code, shown_past, read_on width (b ∷ back) j w r (omega (arith, end_behind width q w)))
read_on width back j w (again front b q r e s) h = grind (arith, append_assoc, end_behind, symbols_at_code, shown_past, read_on width (b ∷ back) j w r (omega (arith, end_behind width q w)))

-- digits alone
pub digits_shown : {codes values : List ℕ} (width at k : ℕ) → AreDigits codes values → shown_at width at (symbols codes) (at + k) ≡ Value (get_or values k 0)
digits_shown width at k no_digit = refl
digits_shown width at zero (digit b v codes values e h) = ap (λ ss. shown_at width at ss (at + 0)) (symbols_at_code b 0 0 (Digit v) codes e) ∙ shown_in width at (spelled (Digits 1 v) 1) (symbols codes) (at + 0) (omega arith)
digits_shown width at (suc k) (digit b v codes values e h) = grind (arith, symbols_at_code, shown_past, digits_shown width (at + 1) k h)

-- behind the last code white shows
pub end_read : (width : ℕ) (front : List ℕ) (q j : ℕ) → 0 < width → ReadTo width front q → q ≤ j → shown_at width 0 (symbols front) j ≡ Value 0
end_read width front q j w r h = ap (λ codes. shown_at width 0 (symbols codes) j) (sym (append-nil front)) ∙ read_on width [] j w r h

-- a refused symbol shows nothing where it starts
pub refused_at : (width q k : ℕ) (ss rest : List Spelled) → 0 < width → ss ≡ spelled Refused k ∷ rest → shown_at width q ss q ≡ Unreadable
refused_at width q k ss rest w e = grind (arith, end_behind)
