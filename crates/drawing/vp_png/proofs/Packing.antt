-- Tokens one behind another, and the match that goes on.
use Rattle.std.proofs.Common.{◌≡◌, ℕ, zero, suc, ◌+◌, ◌-◌, ◌<◌, ◌≤◌, List, [], ◌∷◌, ◌++◌, length, take, get_or, flat_map, replicate, refl, ap, sym, ◌∙◌, arith, append_assoc, length-append, subst}
use Rattle.std.proofs.lemmas.Grind.{flat_map-append}
use Rattle.std.proofs.lemmas.List.{append-nil, get_or_append_left}
use Rattle.vp_png.specs.declared.token.Token.{Token}
use Rattle.vp_png.specs.declared.token.Token.TheVariants.{Match}
use Rattle.vp_png.specs.Bits.{low_bits, bits_of}
use Rattle.vp_png.specs.Codes.{symbol_bits}
use Rattle.vp_png.specs.Tokens.{copied, behind, unpacked, IsToken, AreTokens, token_bits, block_start, block}
use Rattle.vp_png.specs.Zlib.{zlib_head, IsZlib, four_bytes, adler}
use Rattle.vp_png.specs.Kept.{Packs}

pub copied_both : (m n d : ℕ) (done : List ℕ) → copied (m + n) d done ≡ copied n d (copied m d done)
unfolding copied
copied_both zero n d done =
    let e : 0 + n ≡ n = omega arith in
    ap (λ (k : ℕ). copied k d done) e
copied_both (suc m) n d done =
    let e : suc m + n ≡ suc (m + n) = omega arith in
    ap (λ (k : ℕ). copied k d done) e ∙ copied_both m n d (done ++ get_or done (length done - d) 0 ∷ [])

pub length_copied : (n d : ℕ) (done : List ℕ) → length (copied n d done) ≡ length done + n
unfolding copied
length_copied zero d done = omega arith
length_copied (suc n) d done =
    omega (arith, length_copied n d (done ++ get_or done (length done - d) 0 ∷ []), length-append done (get_or done (length done - d) 0 ∷ []))

-- one token more
unpacked_more : (done : List ℕ) (ts : List Token) (t : Token) → unpacked done (ts ++ t ∷ []) ≡ behind t (unpacked done ts)
unfolding unpacked
unpacked_more done [] t = refl
unpacked_more done (u ∷ ts) t = unpacked_more (behind u done) ts t

tokens_more : (done : List ℕ) (ts : List Token) (t : Token) → AreTokens done ts → IsToken (unpacked done ts) t → AreTokens done (ts ++ t ∷ [])
unfolding unpacked AreTokens
tokens_more done [] t h k = (k, tt)
tokens_more done (u ∷ ts) t h k = (h.0, tokens_more (behind u done) ts t h.1 k)

bits_more : (ts : List Token) (t : Token) → flat_map token_bits (ts ++ t ∷ []) ≡ flat_map token_bits ts ++ token_bits t
bits_more ts t = flat_map-append token_bits ts (t ∷ []) ∙ ap (λ (l : List ℕ). flat_map token_bits ts ++ l) (append-nil (token_bits t))

pub packs_none : (stride : ℕ) → Packs (bits_of zlib_head ++ block_start) stride 0 []
unfolding copied unpacked AreTokens
packs_none stride = record {
  tokens = [];
  valid = tt;
  are = sym (append-nil (bits_of zlib_head ++ block_start));
  unpacks = refl;
  back = λ (some : 0 < 0). absurd (omega arith);
}

pub packs_token : (bits : List ℕ) (stride : ℕ) (packed : List ℕ) (t : Token) → Packs bits stride 0 packed → IsToken packed t →
    Packs (bits ++ token_bits t) stride 0 (behind t packed)
unfolding copied
packs_token bits stride packed t h k = record {
  tokens = h.tokens ++ t ∷ [];
  valid = tokens_more [] h.tokens t h.valid (subst (λ (l : List ℕ). IsToken l t) (sym h.unpacks) k);
  are = ap (λ (l : List ℕ). l ++ token_bits t) h.are ∙ append_assoc (bits_of zlib_head ++ block_start) (flat_map token_bits h.tokens) (token_bits t)
      ∙ ap (λ (l : List ℕ). bits_of zlib_head ++ block_start ++ l) (sym (bits_more h.tokens t));
  unpacks = unpacked_more [] h.tokens t ∙ ap (behind t) h.unpacks;
  back = λ (some : 0 < 0). absurd (omega arith);
}

-- a part of the match that goes on is written
pub packs_part : (bits : List ℕ) (stride n r : ℕ) (packed : List ℕ) → Packs bits stride (n + r) packed → 3 ≤ n → n ≤ 258 → (0 < r → 3 ≤ r) →
    Packs (bits ++ token_bits (Match stride n)) stride r packed
packs_part bits stride n r packed h least most rest =
    let t : Token = Match stride n in
    let b = h.back (omega arith) in
    let more : unpacked [] (h.tokens ++ t ∷ []) ≡ copied n stride (unpacked [] h.tokens) = unpacked_more [] h.tokens t in
    record {
      tokens = h.tokens ++ t ∷ [];
      valid = tokens_more [] h.tokens t h.valid (b.1, b.3, b.2, least, most);
      are = ap (λ (l : List ℕ). l ++ token_bits t) h.are ∙ append_assoc (bits_of zlib_head ++ block_start) (flat_map token_bits h.tokens) (token_bits t)
          ∙ ap (λ (l : List ℕ). bits_of zlib_head ++ block_start ++ l) (sym (bits_more h.tokens t));
      unpacks = ap (copied r stride) more ∙ sym (copied_both n r stride (unpacked [] h.tokens)) ∙ h.unpacks;
      back = λ (some : 0 < r). (rest some, b.1, b.2, omega (arith, ap length more, length_copied n stride (unpacked [] h.tokens), b.3));
    }

pub packs_longer : (bits : List ℕ) (stride r n : ℕ) (packed : List ℕ) → Packs bits stride r packed → 0 < r → Packs bits stride (r + n) (copied n stride packed)
packs_longer bits stride r n packed h some =
    let b = h.back some in
    record {
      tokens = h.tokens;
      valid = h.valid;
      are = h.are;
      unpacks = copied_both r n stride (unpacked [] h.tokens) ∙ ap (copied n stride) h.unpacks;
      back = λ (_ : 0 < r + n). (omega (arith, b.0), b.1, b.2, b.3);
    }

pub packs_begun : (bits : List ℕ) (stride n : ℕ) (packed : List ℕ) → Packs bits stride 0 packed → 3 ≤ n → 1 ≤ stride → stride ≤ 32768 → stride ≤ length packed →
    Packs bits stride n (copied n stride packed)
unfolding copied
packs_begun bits stride n packed h least some few back = record {
  tokens = h.tokens;
  valid = h.valid;
  are = h.are;
  unpacks = ap (copied n stride) h.unpacks;
  back = λ (_ : 0 < n). (least, some, few, omega (arith, ap length h.unpacks, back));
}

-- the same behind bits that were taken away
pub token_written : (gone old new : List ℕ) (stride : ℕ) (packed : List ℕ) (t : Token) → new ≡ old ++ token_bits t →
    Packs (gone ++ old) stride 0 packed → IsToken packed t → Packs (gone ++ new) stride 0 (behind t packed)
token_written gone old new stride packed t e h k =
    subst (λ (l : List ℕ). Packs l stride 0 (behind t packed)) (append_assoc gone old (token_bits t) ∙ ap (λ (l : List ℕ). gone ++ l) (sym e))
    (packs_token (gone ++ old) stride packed t h k)

pub part_written : (gone old new : List ℕ) (stride d n r all : ℕ) (packed : List ℕ) → d ≡ stride → all ≡ n + r → new ≡ old ++ token_bits (Match d n) →
    Packs (gone ++ old) stride all packed → 3 ≤ n → n ≤ 258 → (0 < r → 3 ≤ r) → Packs (gone ++ new) stride r packed
part_written gone old new stride d n r all packed same whole e h least most rest =
    let k = subst (λ (m : ℕ). Packs (gone ++ old) stride m packed) whole h in
    let f : gone ++ old ++ token_bits (Match stride n) ≡ gone ++ new =
    append_assoc gone old (token_bits (Match stride n)) ∙ ap (λ (m : ℕ). gone ++ (old ++ token_bits (Match m n))) (sym same) ∙ ap (λ (l : List ℕ). gone ++ l) (sym e) in
    subst (λ (l : List ℕ). Packs l stride r packed) f (packs_part (gone ++ old) stride n r packed k least most rest)

-- where no match goes on, lines may be as long as they will
pub packs_at : (bits : List ℕ) (stride other r : ℕ) (packed : List ℕ) → Packs bits stride r packed → (0 < stride → stride ≡ other) → Packs bits other r packed
unfolding copied
packs_at bits stride other zero packed h same = record {
  tokens = h.tokens;
  valid = h.valid;
  are = h.are;
  unpacks = h.unpacks;
  back = λ (some : 0 < 0). absurd (omega arith);
}
packs_at bits stride other (suc r) packed h same =
    let b = h.back (omega arith) in
    subst (λ (n : ℕ). Packs bits n (suc r) packed) (same (omega (arith, b))) h

-- bytes that stand so far back each
pub copied_is : (n d : ℕ) (done xs : List ℕ) → 1 ≤ d → d ≤ length done → n ≤ length xs
    → ((k : ℕ) → k < n → get_or xs k 0 ≡ get_or (done ++ xs) (length done + k - d) 0) → copied n d done ≡ done ++ take n xs
unfolding copied
copied_is zero d done xs some back h same = sym (append-nil done)
copied_is (suc n) d done [] some back h same = absurd (omega arith)
copied_is (suc n) d done (x ∷ xs) some back h same =
    let i : length done + 0 - d ≡ length done - d = omega arith in
    let first : x ≡ get_or done (length done - d) 0 =
    same 0 (omega arith) ∙ ap (λ (j : ℕ). get_or (done ++ x ∷ xs) j 0) i ∙ get_or_append_left done (x ∷ xs) 0 (length done - d) (omega arith) in
    let longer : length (done ++ x ∷ []) ≡ length done + 1 = omega (arith, length-append done (x ∷ [])) in
    let joined : (done ++ x ∷ []) ++ xs ≡ done ++ x ∷ xs = append_assoc done (x ∷ []) xs in
    ap (λ (y : ℕ). copied n d (done ++ y ∷ [])) (sym first)
    ∙ copied_is n d (done ++ x ∷ []) xs some (omega arith) (omega arith) (λ (k : ℕ) (lt : k < n).
    let j : length done + suc k - d ≡ length (done ++ x ∷ []) + k - d = omega arith in
    same (suc k) (omega arith) ∙ ap (λ (m : ℕ). get_or (done ++ x ∷ xs) m 0) j ∙ ap (λ (l : List ℕ). get_or l (length (done ++ x ∷ []) + k - d) 0) (sym joined))
    ∙ append_assoc done (x ∷ []) (take n xs)

pub start_bits : (s t u v : List ℕ) → s ≡ [] → t ≡ s ++ low_bits 8 0x78 → u ≡ t ++ low_bits 8 0x01 → v ≡ u ++ low_bits 3 3 → v ≡ bits_of zlib_head ++ block_start
unfolding low_bits
start_bits s t u v p q r e = rw (e, r, q, p) refl

around : (a b c d e : List ℕ) → a ++ (b ++ c ++ d ++ e) ≡ a ++ b ++ c ++ d ++ e
around a b c d e = simp append_assoc

inside : (a b c d e f : List ℕ) → a ++ b ++ c ++ d ++ e ++ f ≡ a ++ (b ++ c ++ d) ++ e ++ f
inside a b c d e f = simp append_assoc

-- behind the last token
pub ended : (gone t u v w bytes : List ℕ) (pad check stride : ℕ) (packed : List ℕ) → Packs (bits_of gone ++ t) stride 0 packed → pad < 8 → check ≡ adler packed
    → u ≡ t ++ symbol_bits 256 → v ≡ u ++ replicate pad 0 → w ≡ v ++ bits_of (four_bytes check) → w ≡ bits_of bytes
    → IsZlib (gone ++ bytes) packed
unfolding copied
ended gone t u v w bytes pad check stride packed h few sums p q r e = record {
  tokens = h.tokens;
  valid = h.valid;
  unpacks = h.unpacks;
  pad = pad;
  pad_few = few;
  bits =
      flat_map-append (low_bits 8) gone bytes ∙ ap (λ (l : List ℕ). bits_of gone ++ l) (sym e ∙ r ∙ ap (λ (l : List ℕ). l ++ bits_of (four_bytes check)) (q ∙ ap (λ (l : List ℕ). l ++ replicate pad 0) p))
      ∙ around (bits_of gone) t (symbol_bits 256) (replicate pad 0) (bits_of (four_bytes check))
      ∙ ap (λ (l : List ℕ). l ++ symbol_bits 256 ++ replicate pad 0 ++ bits_of (four_bytes check)) h.are
      ∙ inside (bits_of zlib_head) block_start (flat_map token_bits h.tokens) (symbol_bits 256) (replicate pad 0) (bits_of (four_bytes check))
      ∙ ap (λ (n : ℕ). bits_of zlib_head ++ block h.tokens ++ replicate pad 0 ++ bits_of (four_bytes n)) sums;
}
