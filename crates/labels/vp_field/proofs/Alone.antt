-- Rows of a block that are alike.
use Rattle.std.proofs.Common.{inl, inr, ◌≡◌, ℕ, ◌+◌, ◌-◌, ◌*◌, ◌/◌, ◌%◌, ◌<◌, ◌≤◌, min, Bool, false, ltb, ◌&&◌, refl, ap, arith, List, [], ◌∷◌, length, Option}
use Rattle.std.proofs.Math.Nat.{mul-le-mul_right}
use Rattle.std.proofs.lemmas.Bool.{cases_lt, le-ltb, lt-ltb, le-leb, lt-leb}
use Rattle.vp_glyph.specs.Sheets.{Glyphs}
use Rattle.vp_glyph.specs.Texts.{text_dot, sampled_dot}
use Rattle.vp_glyph.specs.Blocks.{line_dot, lines_dot, block_dot, block_lines, block_height}
use Rattle.vp_glyph.proofs.Layouts.{layout}
use Rattle.vp_glyph.specs.declared.block.Alignment.{Alignment}
use Rattle.vp_field.specs.Alone.{IsAlone}
use Rattle.vp_glyph.proofs.Gathered.{text_alike}

-- lines that all begin at the top
pub alone_at_top : (h b s : ℕ) → b - 1 ≡ 0 → IsAlone h b s 0
alone_at_top h b s e = grind arith

-- lines that are moved by no row
pub alone_together : (h b s : ℕ) → s ≡ 0 → IsAlone h b s 0
alone_together h b s e = grind arith

-- lines that stand apart
pub alone_apart : (h b s q : ℕ) → h ≤ s → q ≤ b - 1 → IsAlone h b s (q * s)
alone_apart h b s q a n = record {
  inside = mul-le-mul_right s n;
  others = λ p l. elim (cases_lt p q) [
    | inl i ↦ inr (inl (let m : (p + 1) * s ≤ q * s = mul-le-mul_right s (let o : p + 1 ≤ q = omega arith in o) in omega arith))
    | inr g ↦ elim (cases_lt q p) [
      | inl i ↦ inr (inr (let m : (q + 1) * s ≤ p * s = mul-le-mul_right s (let o : q + 1 ≤ p = omega arith in o) in omega arith))
      | inr o ↦ inl (let z : p ≡ q = omega arith in ap (λ n. n * s) z)
    ]
  ];
}

and_none : (a b c : Bool) → (a && ((b && false) && c)) ≡ false
and_none a b c = grind arith

and_false : (b : Bool) → (b && false) ≡ false
and_false b = grind arith

and_first : (b c : Bool) → ((b && false) && c) ≡ false
and_first b c = grind arith

-- a text shows nothing from its height on
text_below : (sheet : Option Glyphs) (text : List ℕ) (w h x y : ℕ) → h ≤ y → text_dot sheet text w h x y ≡ false
unfolding text_dot sampled_dot
text_below sheet text w h x y l = rw (le-ltb y h l) (and_none (ltb x (w * length text)) (ltb (x % w) w) _)

module _ (sheet : Option Glyphs) (w h a b s y v top : ℕ) (d : Alignment) (alone : IsAlone h b s top) (begun : top ≤ y) (here : y < top + h) (low : top ≤ v) (high : v < top + h) (same : (v - top) * 24 / h ≡ (y - top) * 24 / h) where
  line_alike : (p : ℕ) → p ≤ b - 1 → (line : List ℕ) (x : ℕ) → line_dot (layout sheet w h a b s d) p line x v ≡ line_dot (layout sheet w h a b s d) p line x y
  line_alike p l line x = grind (arith, le-leb, text_alike, text_below, and_false, lt-leb, and_first)

  pub lines_alike : (place : ℕ) → place ≤ b - 1 → (lines : List (List ℕ)) (x : ℕ) → lines_dot (layout sheet w h a b s d) place lines x v ≡ lines_dot (layout sheet w h a b s d) place lines x y
  lines_alike place l [] x = refl
  lines_alike place l (line ∷ rest) x = rw (line_alike place l line x, lines_alike (min (place + 1) (b - 1)) (omega arith) rest x) refl

  pub block_alike : (text : List ℕ) (x : ℕ) → block_dot (layout sheet w h a b s d) text x v ≡ block_dot (layout sheet w h a b s d) text x y
  unfolding block_dot
  block_alike text x = rw (lt-ltb v (block_height h b s) (omega (arith, alone.inside)), lt-ltb y (block_height h b s) (omega (arith, alone.inside)), lines_alike 0 (omega arith) (block_lines (a / w) text) x) refl
