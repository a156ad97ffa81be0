-- The lines of bytes of data: how long they are, and one among others.
use Rattle.std.proofs.Common.{◌≡◌, ℕ, zero, suc, ◌<◌, ◌+◌, ◌*◌, List, [], ◌∷◌, ◌++◌, length, take, drop, get_or, refl, sym, ap, ◌∙◌, arith}
use Rattle.std.proofs.lemmas.List.{take_at, drop_at, drop-drop}
use Rattle.vp_esc.specs.declared.item.EscItem.TheVariants.{RasterByte}
use Rattle.vp_dots.specs.Listing.{listed}
use Rattle.vp_esc.specs.Lines.{line_of}
use Rattle.hex.specs.Hex.{encode_with}
use Rattle.vp_engine.specs.Lines.{byte_lines}

pub line_length : (b : ℕ) → length (line_of (RasterByte b)) ≡ 8
unfolding listed encode_with
line_length b = refl

-- a line among those of other bytes
pub line_among : (xs : List ℕ) (k : ℕ) → k < length xs → take 8 (drop (8 * k) (byte_lines xs)) ≡ line_of (RasterByte (get_or xs k 0))
line_among [] k l = absurd (omega (arith, l))
line_among (b ∷ xs) zero l = take_at (line_of (RasterByte b)) (byte_lines xs) 8 (line_length b)
line_among (b ∷ xs) (suc k) l =
    ap (λ n. take 8 (drop n (line_of (RasterByte b) ++ byte_lines xs))) (let e : 8 * suc k ≡ 8 + 8 * k = omega arith in e)
    ∙ ap (take 8) (sym (drop-drop (8 * k) 8 (line_of (RasterByte b) ++ byte_lines xs)) ∙ ap (drop (8 * k)) (drop_at (line_of (RasterByte b)) (byte_lines xs) 8 (line_length b)))
    ∙ line_among xs k (omega (arith, l))
