-- What is handed out of a file goes on to be the file, whatever rows are still to come.
use Rattle.std.proofs.Common.{◌≡◌, ℕ, zero, suc, ◌+◌, ◌-◌, ◌*◌, ◌/◌, ◌%◌, ◌<◌, Bool, true, false, cond, ltb, List, [], ◌∷◌, ◌++◌, length, get_or, take, drop, reverse, flat_map, replicate, map, inl, inr, refl, ap, sym, ◌∙◌, arith, append_assoc, length-append, subst}
use Rattle.std.proofs.lemmas.Grind.{flat_map-append}
use Rattle.std.proofs.lemmas.List.{append-nil, reverse-append, length-take-le, length-drop, length-replicate, take-append-drop}
use Rattle.std.proofs.lemmas.Bool.{cases_eq}
use Rattle.vp_png.specs.declared.token.Token.TheVariants.{Literal}
use Rattle.vp_png.specs.declared.png.Png.{Png}
use Rattle.vp_png.specs.Bits.{low_bits, code_bits, bits_of}
use Rattle.vp_png.specs.Codes.{symbol_bits}
use Rattle.vp_png.specs.Tokens.{copied, unpacked}
use Rattle.vp_png.specs.Zlib.{IsZlib, four_bytes, adler}
use Rattle.vp_png.specs.File.{IsFront, AreAcross, head, chunk, idat, iend, joined, scanline, scanlines}
use Rattle.vp_png.specs.Kept.{Packs, Going, Stands, bits_in, waiting_bytes}
use Rattle.vp_png.proofs.Packing.{packs_token, ended}
use Rattle.vp_png.proofs.Files.{joined_more, chunk_file}

-- bits
abbrev AreBits : List ℕ → Type 0
AreBits [] = Unit {0}
AreBits (b ∷ bits) = (b < 2) × AreBits bits

are_both : (xs ys : List ℕ) → AreBits xs → AreBits ys → AreBits (xs ++ ys)
are_both [] ys p q = q
are_both (x ∷ xs) ys p q = (p.0, are_both xs ys p.1 q)

are_reverse : (xs : List ℕ) → AreBits xs → AreBits (reverse xs)
are_reverse [] p = tt
are_reverse (x ∷ xs) p = subst AreBits (sym (reverse-append (x ∷ []) xs)) (are_both (reverse xs) (x ∷ []) (are_reverse xs p.1) (p.0, tt))

are_low : (n x : ℕ) → AreBits (low_bits n x)
unfolding low_bits
are_low zero x = tt
are_low (suc n) x = (omega arith, are_low n (x / 2))

are_if : (c : Bool) (xs ys : List ℕ) → AreBits xs → AreBits ys → AreBits (cond c xs ys)
are_if true xs ys p q = p
are_if false xs ys p q = q

are_code : (n x : ℕ) → AreBits (code_bits n x)
are_code n x = are_reverse (low_bits n x) (are_low n x)

are_symbol : (v : ℕ) → AreBits (symbol_bits v)
unfolding symbol_bits
are_symbol v =
    let last = cond (ltb v 280) (code_bits 7 (v - 256)) (code_bits 8 (192 + (v - 280))) in
    let nine = code_bits 9 (400 + (v - 144)) in
    are_if (ltb v 144) (code_bits 8 (48 + v)) (cond (ltb v 256) nine last) (are_code 8 (48 + v))
    (are_if (ltb v 256) nine last (are_code 9 (400 + (v - 144)))
    (are_if (ltb v 280) (code_bits 7 (v - 256)) (code_bits 8 (192 + (v - 280))) (are_code 7 (v - 256)) (are_code 8 (192 + (v - 280)))))

are_bytes : (xs : List ℕ) → AreBits (bits_of xs)
are_bytes [] = tt
are_bytes (x ∷ xs) = are_both (low_bits 8 x) (bits_of xs) (are_low 8 x) (are_bytes xs)

are_zeros : (n : ℕ) → AreBits (replicate n 0)
are_zeros zero = tt
are_zeros (suc n) = (omega arith, are_zeros n)

are_symbols : (xs : List ℕ) → AreBits (flat_map symbol_bits xs)
are_symbols [] = tt
are_symbols (x ∷ xs) = are_both (symbol_bits x) (flat_map symbol_bits xs) (are_symbol x) (are_symbols xs)

-- bytes of bits
value : List ℕ → ℕ
value [] = 0
value (b ∷ bits) = b + 2 * value bits

low_value : (bits : List ℕ) → AreBits bits → low_bits (length bits) (value bits) ≡ bits
unfolding low_bits value
low_value [] p = refl
low_value (b ∷ bits) p =
    let m : (b + 2 * value bits) % 2 ≡ b = omega (arith, p.0) in
    let d : (b + 2 * value bits) / 2 ≡ value bits = omega (arith, p.0) in
    rw (m, d, low_value bits p.1) refl

bytes_from : ℕ → List ℕ → List ℕ
bytes_from zero bits = []
bytes_from (suc k) bits = value (take 8 bits) ∷ bytes_from k (drop 8 bits)

are_take : (n : ℕ) (xs : List ℕ) → AreBits xs → AreBits (take n xs)
are_take zero xs p = tt
are_take (suc n) [] p = tt
are_take (suc n) (x ∷ xs) p = (p.0, are_take n xs p.1)

are_drop : (n : ℕ) (xs : List ℕ) → AreBits xs → AreBits (drop n xs)
are_drop zero xs p = p
are_drop (suc n) [] p = tt
are_drop (suc n) (x ∷ xs) p = are_drop n xs p.1

bits_from : (k : ℕ) (bits : List ℕ) → AreBits bits → length bits ≡ 8 * k → bits_of (bytes_from k bits) ≡ bits
unfolding bytes_from
bits_from zero [] p e = refl
bits_from zero (b ∷ bits) p e = absurd (omega (arith, e))
bits_from (suc k) bits p e =
    let long : length (take 8 bits) ≡ 8 = length-take-le 8 bits (omega (arith, e)) in
    let one : low_bits 8 (value (take 8 bits)) ≡ take 8 bits = subst (λ n. low_bits n (value (take 8 bits)) ≡ take 8 bits) long (low_value (take 8 bits) (are_take 8 bits p)) in
    let rest = bits_from k (drop 8 bits) (are_drop 8 bits p) (omega (arith, e, length-drop 8 bits)) in
    ap (λ (l : List ℕ). l ++ bits_of (bytes_from k (drop 8 bits))) one ∙ ap (λ (l : List ℕ). take 8 bits ++ l) rest ∙ take-append-drop 8 bits

-- all bytes that come are packed as literals
abbrev AreBytes : List ℕ → Type 0
AreBytes [] = Unit {0}
AreBytes (b ∷ bytes) = (b < 256) × AreBytes bytes

bytes_both : (xs ys : List ℕ) → AreBytes xs → AreBytes ys → AreBytes (xs ++ ys)
bytes_both [] ys p q = q
bytes_both (x ∷ xs) ys p q = (p.0, bytes_both xs ys p.1 q)

bytes_behind : (xs ys : List ℕ) → AreBytes (xs ++ ys) → AreBytes ys
bytes_behind [] ys p = p
bytes_behind (x ∷ xs) ys p = bytes_behind xs ys p.1

bytes_shown : (row : List ℕ) → AreBytes (map (λ b. 255 - b) row)
bytes_shown [] = tt
bytes_shown (b ∷ row) = (omega arith, bytes_shown row)

bytes_scanlines : (rows : List (List ℕ)) → AreBytes (scanlines rows)
bytes_scanlines [] = tt
bytes_scanlines (row ∷ rows) = bytes_both (scanline row) (scanlines rows) (omega arith, bytes_shown row) (bytes_scanlines rows)

packs_literals : (bits : List ℕ) (stride : ℕ) (packed bytes : List ℕ) → Packs bits stride 0 packed → AreBytes bytes → Packs (bits ++ flat_map symbol_bits bytes) stride 0 (packed ++ bytes)
packs_literals bits stride packed [] h p = subst (λ x. Packs x stride 0 (packed ++ [])) (sym (append-nil bits)) (subst (λ x. Packs bits stride 0 x) (sym (append-nil packed)) h)
packs_literals bits stride packed (b ∷ bytes) h p =
    let k = packs_literals (bits ++ symbol_bits b) stride (packed ++ b ∷ []) bytes (packs_token bits stride packed (Literal b) h p.0) p.1 in
    subst (λ x. Packs x stride 0 (packed ++ b ∷ bytes)) (append_assoc bits (symbol_bits b) (flat_map symbol_bits bytes)) (subst (λ x. Packs ((bits ++ symbol_bits b) ++ flat_map symbol_bits bytes) stride 0 x) (append_assoc packed (b ∷ []) bytes) k)

-- what is copied stands behind what was there
copied_behind : (n d : ℕ) (done : List ℕ) → (more : List ℕ) × (copied n d done ≡ done ++ more)
unfolding copied
copied_behind zero d done = ([], sym (append-nil done))
copied_behind (suc n) d done =
    let x = get_or done (length done - d) 0 in
    let k = copied_behind n d (done ++ x ∷ []) in
    (x ∷ k.0, k.1 ∙ append_assoc done (x ∷ []) k.0)

-- what packs some bytes and a match that goes on packs the bytes alone
packs_closed : (bits : List ℕ) (stride r : ℕ) (packed : List ℕ) → (h : Packs bits stride r packed) → Packs bits stride 0 (unpacked [] h.tokens)
unfolding copied
packs_closed bits stride r packed h = record { tokens = h.tokens; valid = h.valid; are = h.are; unpacks = refl; back = λ (some : 0 < 0). absurd (omega arith) }

-- bits that are packed go on to be a stream of all that is packed and more
module _ (gone t : List ℕ) (stride running : ℕ) (packed more : List ℕ) (h : Packs (bits_of gone ++ t) stride running packed) (bits : AreBits t) (bytes : AreBytes (packed ++ more)) where
  done : List ℕ
  done = unpacked [] h.tokens

  left : List ℕ
  left = (copied_behind running stride done).0 ++ more

  all_are : packed ++ more ≡ done ++ left
  unfolding done left
  all_are = let k = copied_behind running stride (unpacked [] h.tokens) in ap (λ l. l ++ more) (sym h.unpacks ∙ k.1) ∙ append_assoc (unpacked [] h.tokens) k.0 more

  code : List ℕ
  code = t ++ flat_map symbol_bits left

  packs_all : Packs (bits_of gone ++ code) stride 0 (packed ++ more)
  unfolding code done
  packs_all =
      let k = packs_literals (bits_of gone ++ t) stride done left (packs_closed (bits_of gone ++ t) stride running packed h) (bytes_behind done left (subst AreBytes all_are bytes)) in
      subst (λ x. Packs x stride 0 (packed ++ more)) (append_assoc (bits_of gone) t (flat_map symbol_bits left)) (subst (λ x. Packs ((bits_of gone ++ t) ++ flat_map symbol_bits left) stride 0 x) (sym all_are) k)

  body : List ℕ
  body = code ++ symbol_bits 256

  pad : ℕ
  pad = (8 - length body % 8) % 8

  whole : List ℕ
  whole = body ++ replicate pad 0

  whole_long : length whole ≡ 8 * (length whole / 8)
  unfolding whole pad
  whole_long = omega (arith, length-append body (replicate pad 0), length-replicate {A = ℕ} pad 0)

  whole_bits : AreBits whole
  unfolding whole body code
  whole_bits = are_both body (replicate pad 0) (are_both code (symbol_bits 256) (are_both t (flat_map symbol_bits left) bits (are_symbols left)) (are_symbol 256)) (are_zeros pad)

  pub last_part : List ℕ
  last_part = bytes_from (length whole / 8) whole ++ four_bytes (adler (packed ++ more))

  pub goes_on_packed : IsZlib (gone ++ last_part) (packed ++ more)
  unfolding last_part whole body pad
  goes_on_packed =
      let sum = four_bytes (adler (packed ++ more)) in
      let is : whole ++ bits_of sum ≡ bits_of last_part = sym (flat_map-append (low_bits 8) (bytes_from (length whole / 8) whole) sum ∙ ap (λ l. l ++ bits_of sum) (bits_from (length whole / 8) whole whole_bits whole_long)) in
      ended gone code body whole (whole ++ bits_of sum) last_part pad (adler (packed ++ more)) stride (packed ++ more) packs_all (omega arith) refl refl refl refl is

across_both : (width : ℕ) (rows later : List (List ℕ)) → AreAcross width rows → AreAcross width later → AreAcross width (rows ++ later)
unfolding AreAcross
across_both width [] later p q = q
across_both width (row ∷ rows) later p q = (p.0, across_both width rows later p.1 q)

no_more : (later : List (List ℕ)) → length later ≡ 0 → later ≡ []
no_more [] e = refl
no_more (row ∷ later) e = absurd (omega arith)

-- between rows
going_on : (p : Png) (rows : List (List ℕ)) (out : List ℕ) → Going p rows out → IsFront p.width p.height rows out
going_on p rows out g = λ later across all.
    let old = waiting_bytes p in
    let lines : scanlines (rows ++ later) ≡ scanlines rows ++ scanlines later = flat_map-append scanline rows later in
    let bits = are_both (bits_of p.packer.bits.bytes.items) (low_bits p.packer.bits.count p.packer.bits.held) (are_bytes p.packer.bits.bytes.items) (are_low p.packer.bits.count p.packer.bits.held) in
    let bytes = subst AreBytes lines (bytes_scanlines (rows ++ later)) in
    let last = last_part (joined g.parts) (bits_in p.packer.bits) _ _ (scanlines rows) (scanlines later) g.packed.packs bits bytes in
    let packed = goes_on_packed (joined g.parts) (bits_in p.packer.bits) _ _ (scanlines rows) (scanlines later) g.packed.packs bits bytes in (
      (old ++ chunk idat last) ++ chunk iend [],
      record {
        parts = g.parts ++ last ∷ [];
        chunks = sym (append_assoc out (old ++ chunk idat last) (chunk iend [])) ∙ ap (λ l. l ++ chunk iend []) (chunk_file out (head p.width p.height) old last g.parts g.file);
        packed = subst (λ x. IsZlib x (scanlines (rows ++ later))) (sym (joined_more g.parts last)) (subst (λ x. IsZlib (joined g.parts ++ last) x) (sym lines) packed);
        all = length-append rows later ∙ all;
        across = across_both p.width rows later g.across across;
      },
    )

pub goes_on : (p : Png) (rows : List (List ℕ)) (out : List ℕ) → Stands p rows out → IsFront p.width p.height rows out
goes_on p rows out s = elim (cases_eq p.left 0) [
  | inl none ↦ λ later across all.
      let k = s.ended none in
      (waiting_bytes p, rw (no_more later (omega (arith, all, k.all)), append-nil rows) k)
  | inr some ↦ going_on p rows out (s.going (omega (arith, some)))
]
