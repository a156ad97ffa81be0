-- The text of a packed symbol is its data.
use Rattle.std.proofs.Common.{◌≡◌, ℕ, ◌≢◌, ◌⊎◌, ◌&&◌, ltb, List, [], ◌∷◌, true, length, cond, refl, sym, ap, ◌∙◌, arith, inl, inr, Result, Ok, Err}
use Rattle.std.proofs.lemmas.Grind.{common_steps}
use Rattle.std.proofs.lemmas.Bool.Decides.{nat_tests}
use Rattle.std.proofs.lemmas.Bool.{cases_Bool, and_parts}
use Rattle.vp_dots.specs.declared.fault.Why.{Why}
use Rattle.vp_dots.specs.declared.fault.Fault.{Fault}
use Rattle.vp_dots.specs.declared.fault.Fault.TheVariants.{SymbolTooLong}
use Rattle.vp_bars.specs.declared.symbology.Symbology.TheVariants as symbologies
use Rattle.vp_bars.specs.declared.code_128.CodeSet.{CodeSet}
use Rattle.vp_bars.specs.declared.code_128.CodeSet.TheVariants.{B, C}
use Rattle.vp_bars.specs.Symbols.{Linear}
use Rattle.vp_bars.specs.CodeSets.{start_of, value_in, onto, plain, values_with, symbol_from}
use Rattle.vp_bars.specs.Invocations.{pair_of}
use Rattle.vp_bars.specs.Packing.{two_digits, packed, first_set, packed_symbol, code128_zpl_of}
use Rattle.vp_bars.specs.Symbologies.{text_of}
use Rattle.vp_bars.specs.Texts.{shown_from, data_of, shown_by}
use Rattle.vp_bars.proofs.Packed.{packed_pair, packed_change, packed_run, packed_byte}

-- what follows shows the rest
abbrev pub Shows : CodeSet → Result (List ℕ) Why → List ℕ → Type 0
Shows set r rest = (ws : List ℕ) → r ≡ Ok ws → shown_from set set ws ≡ rest

-- a byte in set B
pub byte_shown : (a : ℕ) (rest vs : List ℕ) (r : Result (List ℕ) Why) → Shows B r rest → plain (value_in B a) r ≡ Ok vs → shown_from B B vs ≡ a ∷ rest
byte_shown a rest vs r h e = grind (arith, nat_tests)

-- a byte behind the change from C to B
changed_shown : (a : ℕ) (rest vs : List ℕ) (r : Result (List ℕ) Why) → Shows B r rest → onto (100 ∷ []) (plain (value_in B a) r) ≡ Ok vs → shown_from C C vs ≡ a ∷ rest
changed_shown a rest vs r h e = grind (arith, nat_tests)

-- a pair in set C
pair_shown : (a b : ℕ) (rest vs : List ℕ) (r : Result (List ℕ) Why) → two_digits a b ≡ true → Shows C r rest → onto (pair_of a b ∷ []) r ≡ Ok vs → shown_from C C vs ≡ a ∷ b ∷ rest
pair_shown a b rest vs r d h e = grind (arith, nat_tests)

-- two pairs behind the change from B to C
run_shown : (a b c d : ℕ) (rest vs : List ℕ) (r : Result (List ℕ) Why) → two_digits a b ≡ true → two_digits c d ≡ true → Shows C r rest
    → onto (99 ∷ []) (onto (pair_of a b ∷ []) (onto (pair_of c d ∷ []) r)) ≡ Ok vs → shown_from B B vs ≡ a ∷ b ∷ c ∷ d ∷ rest
run_shown a b c d rest vs r p q h e = grind (arith, nat_tests)

pub no_values : (set : CodeSet) (vs : List ℕ) → ◌≡◌ {A = Result (List ℕ) Why} (Ok []) (Ok vs) → shown_from set set vs ≡ []
no_values set vs h1 = grind arith

not_c : B ≢ C
not_c e = cc

mutual
  shown_c : (src : List ℕ) → Shows C (packed C src) src
  shown_c [] vs e = no_values C vs e
  shown_c (a ∷ []) vs e = changed_shown a [] vs (packed B []) (λ ws f. shown_b [] ws f) e
  shown_c (a ∷ b ∷ bytes) vs e = elim (cases_Bool (two_digits a b)) [
    | inl pair ↦ pair_shown a b bytes vs (packed C bytes) pair (λ ws f. shown_c bytes ws f) (sym (packed_pair (a ∷ b ∷ bytes) pair) ∙ e)
    | inr other ↦
        changed_shown a (b ∷ bytes) vs (packed B (b ∷ bytes)) (λ ws f. shown_b (b ∷ bytes) ws f) (sym (packed_change (a ∷ b ∷ bytes) (omega arith) other) ∙ e)
  ]

  shown_b : (src : List ℕ) → Shows B (packed B src) src
  shown_b [] vs e = no_values B vs e
  shown_b (a ∷ []) vs e = byte_shown a [] vs (packed B []) (λ ws f. shown_b [] ws f) e
  shown_b (a ∷ b ∷ []) vs e = byte_shown a (b ∷ []) vs (packed B (b ∷ [])) (λ ws f. shown_b (b ∷ []) ws f) e
  shown_b (a ∷ b ∷ c ∷ []) vs e = byte_shown a (b ∷ c ∷ []) vs (packed B (b ∷ c ∷ [])) (λ ws f. shown_b (b ∷ c ∷ []) ws f) e
  shown_b (a ∷ b ∷ c ∷ d ∷ bytes) vs e = elim (cases_Bool (two_digits a b && two_digits c d)) [
    | inl run ↦
        let pairs = and_parts (two_digits a b) (two_digits c d) run in
        run_shown a b c d bytes vs (packed C bytes) pairs.0 pairs.1 (λ ws f. shown_c bytes ws f)
        (sym (packed_run B (a ∷ b ∷ c ∷ d ∷ bytes) (c ∷ d ∷ bytes) bytes not_c run refl refl) ∙ e)
    | inr other ↦
        byte_shown a (b ∷ c ∷ d ∷ bytes) vs (packed B (b ∷ c ∷ d ∷ bytes)) (λ ws f. shown_b (b ∷ c ∷ d ∷ bytes) ws f)
        (sym (packed_byte B not_c (a ∷ b ∷ c ∷ d ∷ bytes) (omega arith) other) ∙ e)
  ]

shown_packed : (set : CodeSet) (src vs : List ℕ) → (set ≡ B) ⊎ (set ≡ C) → packed set src ≡ Ok vs → shown_from set set vs ≡ src
shown_packed set src vs h1 h2 = grind (arith, shown_b, shown_c)

first_is : (src : List ℕ) → (first_set src ≡ B) ⊎ (first_set src ≡ C)
first_is src = grind (arith, nat_tests)

-- a symbol shows its values between start and check
data_is : (start : ℕ) (vs : List ℕ) → data_of (values_with start vs) ≡ vs
data_is start vs = grind (arith, common_steps)

shown_symbol : (set : CodeSet) (vs : List ℕ) → shown_by (values_with (start_of set) vs) ≡ shown_from set set vs
shown_symbol set vs = grind (arith, data_is)

pub symbol_text : (set : CodeSet) (src : List ℕ) (r : Result (List ℕ) Why) (bars : Linear) → Shows set r src → symbol_from set r ≡ Ok bars → text_of bars ≡ src
unfolding text_of
symbol_text set src (Err why) bars h e = cc
symbol_text set src (Ok []) bars h e = cc
symbol_text set src (Ok (v ∷ vs)) bars h e =
    let same : ◌≡◌ {A = Linear} (record { symbology = symbologies.Code128; values = values_with (start_of set) (v ∷ vs) }) bars = cc in
    rw (sym same) (shown_symbol set (v ∷ vs) ∙ h (v ∷ vs) refl)

-- the text of a packed symbol
pub packed_text : (src : List ℕ) (bars : Linear) → code128_zpl_of src true ≡ Ok bars → text_of bars ≡ src
packed_text [] bars e = cc
packed_text (b ∷ bytes) bars e =
    let src : List ℕ = b ∷ bytes in
    elim (cases_Bool (ltb 255 (length src))) [
      | inl long ↦ refused bars (ap (λ t. cond t (Err SymbolTooLong) (packed_symbol src)) (sym long) ∙ e)
      | inr short ↦
          symbol_text (first_set src) src (packed (first_set src) src) bars (λ vs f. shown_packed (first_set src) src vs (first_is src) f)
          (ap (λ t. cond t (Err SymbolTooLong) (packed_symbol src)) (sym short) ∙ e)
    ]
  where
    refused : {P : Type 0} (symbol : Linear) → ◌≡◌ {A = Result Linear Fault} (Err SymbolTooLong) (Ok symbol) → P
    refused symbol h = cc
