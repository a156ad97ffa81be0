-- A file's bytes, piece by piece.
use Rattle.std.proofs.Common.{◌≡◌, ℕ, ◌+◌, ◌*◌, ◌/◌, ◌≤◌, List, [], ◌∷◌, ◌++◌, length, take, drop, flat_map, slice_index_or, refl, ap, sym, ◌∙◌, arith, append_assoc, length-append, subst}
use Rattle.std.proofs.lemmas.Grind.{flat_map-append}
use Rattle.std.proofs.lemmas.List.{append-nil, drop-append-le, drop-drop, take-append-drop}
use Rattle.std.specs.Int.{w32, to_be_bytes}
use Rattle.vp_png.specs.Zlib.{four_bytes}
use Rattle.vp_png.specs.Bits.{low_bits, bits_of}
use Rattle.vp_png.specs.File.{AreAcross, header, chunk, idat, joined, scanline, scanlines}
use Rattle.vp_png.specs.Kept.{Packs}
use Rattle.vp_png.proofs.LowBits.{length_low, length_bits_of}

pub be_four : (n : ℕ) → to_be_bytes w32 n ≡ four_bytes n
unfolding four_bytes
be_four n = refl

pub header_is : (width height : ℕ) (ws hs : List ℕ) → ws ≡ to_be_bytes w32 width → hs ≡ to_be_bytes w32 height →
    slice_index_or ws 0 0 ∷ slice_index_or ws 1 0 ∷ slice_index_or ws 2 0 ∷ slice_index_or ws 3 0
    ∷ slice_index_or hs 0 0 ∷ slice_index_or hs 1 0 ∷ slice_index_or hs 2 0 ∷ slice_index_or hs 3 0
    ∷ 1 ∷ 0 ∷ 0 ∷ 0 ∷ 0 ∷ [] ≡ header width height
unfolding four_bytes
header_is width height ws hs p q = rw (p, q) refl

pub four_pieces : (all a b c d s t u v : List ℕ) → s ≡ all ++ a → t ≡ s ++ b → u ≡ t ++ c → v ≡ u ++ d →
    v ≡ all ++ (a ++ b ++ c ++ d)
four_pieces all a b c d s t u v p q r e = rw (e, r, q, p) (simp append_assoc)

pub nothing : (xs : List ℕ) → length xs ≡ 0 → xs ≡ []
nothing [] h = refl
nothing (x ∷ xs) h = absurd (omega arith)

-- how many bits bytes are, and some more
pub room_in : (bytes : List ℕ) (count held : ℕ) → length (bits_of bytes ++ low_bits count held) ≡ 8 * length bytes + count
room_in bytes count held = omega (arith, length-append (bits_of bytes) (low_bits count held), length_low count held, length_bits_of bytes)

-- one chunk more
chunks_more : (parts : List (List ℕ)) (bytes : List ℕ) → flat_map (chunk idat) (parts ++ bytes ∷ []) ≡ flat_map (chunk idat) parts ++ chunk idat bytes
chunks_more parts bytes = flat_map-append (chunk idat) parts (bytes ∷ []) ∙ ap (λ (l : List ℕ). flat_map (chunk idat) parts ++ l) (append-nil (chunk idat bytes))

pub joined_more : (parts : List (List ℕ)) (bytes : List ℕ) → joined (parts ++ bytes ∷ []) ≡ joined parts ++ bytes
joined_more parts bytes = flat_map-append (λ (part : List ℕ). part) parts (bytes ∷ []) ∙ ap (λ (l : List ℕ). joined parts ++ l) (append-nil bytes)

pub scanlines_more : (rows : List (List ℕ)) (row : List ℕ) → scanlines (rows ++ row ∷ []) ≡ scanlines rows ++ scanline row
scanlines_more rows row = flat_map-append scanline rows (row ∷ []) ∙ ap (λ (l : List ℕ). scanlines rows ++ l) (append-nil (scanline row))

pub chunk_file : (out front old bytes : List ℕ) (parts : List (List ℕ)) → out ++ old ≡ front ++ flat_map (chunk idat) parts →
    out ++ (old ++ chunk idat bytes) ≡ front ++ flat_map (chunk idat) (parts ++ bytes ∷ [])
chunk_file out front old bytes parts h =
    sym (append_assoc out old (chunk idat bytes)) ∙ ap (λ (l : List ℕ). l ++ chunk idat bytes) h
    ∙ append_assoc front (flat_map (chunk idat) parts) (chunk idat bytes)
    ∙ ap (λ (l : List ℕ). front ++ l) (sym (chunks_more parts bytes))

pub chunk_packs : (parts : List (List ℕ)) (bytes none : List ℕ) (count held stride running : ℕ) (packed : List ℕ) → none ≡ [] →
    Packs (bits_of (joined parts) ++ (bits_of bytes ++ low_bits count held)) stride running packed →
    Packs (bits_of (joined (parts ++ bytes ∷ [])) ++ (bits_of none ++ low_bits count held)) stride running packed
chunk_packs parts bytes none count held stride running packed e h =
    subst (λ (l : List ℕ). Packs l stride running packed)
    (sym (append_assoc (bits_of (joined parts)) (bits_of bytes) (low_bits count held))
    ∙ ap (λ (l : List ℕ). l ++ low_bits count held) (sym (flat_map-append (low_bits 8) (joined parts) bytes) ∙ ap bits_of (sym (joined_more parts bytes)))
    ∙ ap (λ (l : List ℕ). bits_of (joined (parts ++ bytes ∷ [])) ++ (bits_of l ++ low_bits count held)) (sym e)) h

pub end_file : (out front waiting bytes w v end : List ℕ) (parts : List (List ℕ)) (taken : ℕ) → out ++ drop taken waiting ≡ front ++ flat_map (chunk idat) parts →
    taken ≤ length waiting → w ≡ waiting ++ chunk idat bytes → v ≡ w ++ end → out ++ drop taken v ≡ front ++ flat_map (chunk idat) (parts ++ bytes ∷ []) ++ end
end_file out front waiting bytes w v end parts taken h within e f =
    ap (λ (l : List ℕ). out ++ drop taken l) (f ∙ ap (λ (l : List ℕ). l ++ end) e ∙ append_assoc waiting (chunk idat bytes) end)
    ∙ ap (λ (l : List ℕ). out ++ l) (drop-append-le taken waiting (chunk idat bytes ++ end) within)
    ∙ sym (append_assoc out (drop taken waiting) (chunk idat bytes ++ end))
    ∙ sym (append_assoc (out ++ drop taken waiting) (chunk idat bytes) end)
    ∙ ap (λ (l : List ℕ). l ++ end) (append_assoc out (drop taken waiting) (chunk idat bytes) ∙ chunk_file out front (drop taken waiting) bytes parts h)

-- so many of the bytes that wait go out
pub hand_file : (out waiting : List ℕ) (taken n next : ℕ) → next ≡ taken + n → out ++ take n (drop taken waiting) ++ drop next waiting ≡ out ++ drop taken waiting
hand_file out waiting taken n next e =
    append_assoc out (take n (drop taken waiting)) (drop next waiting)
    ∙ ap (λ (k : ℕ). out ++ (take n (drop taken waiting) ++ drop k waiting)) e
    ∙ ap (λ (l : List ℕ). out ++ (take n (drop taken waiting) ++ l)) (sym (drop-drop n taken waiting))
    ∙ ap (λ (l : List ℕ). out ++ l) (take-append-drop n (drop taken waiting))

pub across_more : (width : ℕ) (rows : List (List ℕ)) (row : List ℕ) → AreAcross width rows → length row ≡ (width + 7) / 8 → AreAcross width (rows ++ row ∷ [])
unfolding AreAcross
across_more width [] row h e = (e, tt)
across_more width (r ∷ rows) row h e = (h.0, across_more width rows row h.1 e)
