-- The data of symbols.
use Rattle.std.proofs.Common.{◌≡◌, ◌≢◌, ℕ, ◌+◌, ◌-◌, ◌<◌, ◌≤◌, Bool, true, false, cond, ◌||◌, eqb, ltb, Some, None, Ok, List, [], ◌∷◌, ◌++◌, length, take, get_or, refl, sym, ap, ◌∙◌, arith, ⊎_elim}
use Rattle.std.proofs.lemmas.Grind.{common_steps}
use Rattle.std.proofs.lemmas.Bool.{cases_lt}
use Rattle.std.specs.List.{list_any}
use Rattle.std.proofs.lemmas.Bool.Decides.{nat_tests}
use Rattle.std.proofs.lemmas.List.{take_all, take_at, take-append-le, length_push, length-take, length-take-le}
use Rattle.std.proofs.lemmas.List.Folds.{list_any-append}
use Rattle.arrayvec.specs.ArrayVec.{ArrayVec}
use Rattle.vp_esc.specs.declared.reading.Reading.{Reading}
use Rattle.vp_esc.specs.declared.command.Command.TheVariants.{Symbol}
use Rattle.vp_esc.specs.declared.reader.EscReader.{EscReader}
use Rattle.vp_esc.specs.declared.reader.Phase.TheVariants as phases
use Rattle.vp_esc.specs.Values.{is_kind_to_zero}
use Rattle.vp_esc.specs.Command.{head_len}
use Rattle.vp_esc.specs.Units.{needs_more, given_by, given_behind, symbol_data, symbol_unit, symbol_with, at_last}
use Rattle.vp_esc.specs.declared.item.Lead.{Lead}
use Rattle.vp_esc.specs.Reader.{Begun, Advances, Lands, InSymbolToZero, InSymbolData}
use Rattle.vp_esc.proofs.Fronts.{lands_by, advances_by, begun_longer}
use Rattle.vp_esc.proofs.Heads.{given_is}
use Rattle.vp_esc.proofs.Phases.{kept_whole}

pub no_zero_push : (codes : List ℕ) (c : ℕ) → list_any (λ b. eqb b 0) codes ≡ false
    → list_any (λ b. eqb b 0) (codes ++ c ∷ []) ≡ eqb c 0
no_zero_push codes c h = grind (arith, list_any-append)

pub take_255_push : (codes : List ℕ) (c : ℕ) → take 255 (take 255 codes ++ c ∷ []) ≡ take 255 (codes ++ c ∷ [])
take_255_push codes c = ⊎_elim
    (λ (h : length codes < 256). rw (take_all 255 codes (omega arith)) refl)
    (λ (h : 256 ≤ length codes).
    let k : 255 ≤ length codes = omega arith in
    take_at (take 255 codes) (c ∷ []) 255 (length-take-le 255 codes k) ∙ sym (take-append-le 255 codes (c ∷ []) k))
    (cases_lt (length codes) 256)

beyond_push : (codes : List ℕ) (c : ℕ) (more full : Bool) → more ≡ ltb 255 (length codes) → full ≡ eqb (length (take 255 codes)) 255
    → (more || full) ≡ ltb 255 (length (codes ++ c ∷ []))
beyond_push codes c more full m f = grind (arith, nat_tests, length-take 255 codes, length_push codes c)

symbol_given : (reading : Reading) (lead : Lead) (name m : ℕ) (args : List ℕ) → head_len Symbol (m ∷ args) ≤ length (m ∷ args)
    → given_by reading lead name Symbol (m ∷ args) ≡ at_last (needs_more Symbol (m ∷ args)) (symbol_unit reading m (symbol_data (m ∷ args)))
unfolding given_behind
symbol_given reading lead name m args h = given_is reading lead name Symbol (m ∷ args) h

pub symbol_more : (r : EscReader) (kind c : ℕ) (more more' : Bool) (rest : List ℕ) (kept : ArrayVec ℕ) → InSymbolToZero r kind more rest
    → c ≢ 0 → kept.items ≡ take 255 (r.kept.items ++ c ∷ []) → more' ≡ (more || eqb (length r.kept.items) 255)
    → Advances r.reading (Ok None) rest c (record r { phase = phases.SymbolToZero kind more'; kept = kept })
unfolding needs_more
symbol_more r kind c more more' rest kept hand some k m =
    let a : list_any (λ b. eqb b 0) (hand.codes ++ c ∷ []) ≡ false = grind (arith, no_zero_push, nat_tests) in
    let n : needs_more Symbol (kind ∷ hand.codes ++ c ∷ []) ≡ true = rw hand.to_zero (rw a refl) in
    let n' : needs_more Symbol (kind ∷ hand.codes) ≡ true = rw hand.to_zero (rw hand.no_zero refl) in
    advances_by true c None (record r { phase = phases.SymbolToZero kind more'; kept = kept }) refl hand.begun hand.begun.listed n
    (grind (arith, length_push, symbol_given))
    (record {
      codes = hand.codes ++ c ∷ [];
      begun = begun_longer c hand.begun hand.begun.listed;
      to_zero = hand.to_zero;
      no_zero = a;
      kept = k ∙ rw hand.kept (take_255_push hand.codes c);
      beyond = m ∙ beyond_push hand.codes c more (eqb (length r.kept.items) 255) hand.beyond (rw hand.kept refl);
    })

pub symbol_ends : (r : EscReader) (kind c : ℕ) (more : Bool) (rest : List ℕ) (final : ArrayVec ℕ) → InSymbolToZero r kind more rest
    → c ≡ 0
    → Advances r.reading (Ok (Some (symbol_with r.reading kind r.kept.items more))) rest c (record r { phase = phases.Ground; kept = final })
unfolding needs_more
symbol_ends r kind c more rest final hand zero =
    let l : head_len Symbol (kind ∷ hand.codes) ≤ length (kind ∷ hand.codes) = grind arith in
    let a : list_any (λ b. eqb b 0) (hand.codes ++ c ∷ []) ≡ true = no_zero_push hand.codes c hand.no_zero ∙ rw zero refl in
    let n : needs_more Symbol (kind ∷ hand.codes ++ c ∷ []) ≡ false = rw hand.to_zero (rw a refl) in
    let n' : needs_more Symbol (kind ∷ hand.codes) ≡ true = rw hand.to_zero (rw hand.no_zero refl) in
    let d : symbol_data (kind ∷ hand.codes ++ c ∷ []) ≡ hand.codes = grind (arith, take_at, length_push, length) in
    let i : symbol_unit r.reading kind (symbol_data (kind ∷ hand.codes ++ c ∷ [])) ≡ symbol_with r.reading kind r.kept.items more = rw (d, hand.kept, hand.beyond) refl in
    advances_by false c (Some (symbol_with r.reading kind r.kept.items more)) (record r { phase = phases.Ground; kept = final }) refl hand.begun hand.begun.listed n
    (grind (arith, length_push, symbol_given)) refl

pub symbol_goes_on : (r : EscReader) (kind left c : ℕ) (rest : List ℕ) (kept : ArrayVec ℕ) → InSymbolData r kind left rest
    → 1 < left → kept.items ≡ take 255 (r.kept.items ++ c ∷ [])
    → Advances r.reading (Ok None) rest c (record r { phase = phases.SymbolData kind (left - 1); kept = kept })
unfolding needs_more
symbol_goes_on r kind left c rest kept hand some k =
    let w : kept.items ≡ r.kept.items ++ c ∷ [] = k ∙ kept_whole r.kept.items c (omega (arith, hand.sum, hand.fits)) in
    let len : length (r.kept.items ++ c ∷ []) ≡ length r.kept.items + 1 = length_push r.kept.items c in
    let n : needs_more Symbol (kind ∷ hand.count ∷ r.kept.items ++ c ∷ []) ≡ true = rw hand.counted (rw len (grind (arith, nat_tests, hand.sum))) in
    let n' : needs_more Symbol (kind ∷ hand.count ∷ r.kept.items) ≡ true = rw hand.counted (grind (arith, nat_tests, hand.sum, hand.some_left)) in
    advances_by true c None (record r { phase = phases.SymbolData kind (left - 1); kept = kept }) refl hand.begun hand.begun.listed n
    (grind (arith, length_push, symbol_given))
    (record {
      count = hand.count;
      begun = rw w (begun_longer c hand.begun hand.begun.listed);
      counted = hand.counted;
      some_left = omega arith;
      sum = rw w (rw len (omega (arith, hand.sum)));
      fits = hand.fits;
    })

pub symbol_last : (r : EscReader) (kind left c : ℕ) (rest : List ℕ) (kept final : ArrayVec ℕ) → InSymbolData r kind left rest
    → left ≤ 1 → kept.items ≡ take 255 (r.kept.items ++ c ∷ [])
    → Advances r.reading (Ok (Some (symbol_with r.reading kind kept.items false))) rest c (record r { phase = phases.Ground; kept = final })
unfolding needs_more
symbol_last r kind left c rest kept final hand some k =
    let len : length (r.kept.items ++ c ∷ []) ≡ length r.kept.items + 1 = length_push r.kept.items c in
    let n : needs_more Symbol (kind ∷ hand.count ∷ r.kept.items ++ c ∷ []) ≡ false = rw hand.counted (rw len (grind (arith, nat_tests, hand.sum, hand.some_left))) in
    let n' : needs_more Symbol (kind ∷ hand.count ∷ r.kept.items) ≡ true = rw hand.counted (grind (arith, nat_tests, hand.sum, hand.some_left)) in
    let i : symbol_unit r.reading kind (symbol_data (kind ∷ hand.count ∷ r.kept.items ++ c ∷ [])) ≡ symbol_with r.reading kind kept.items false = grind (arith, nat_tests, hand.sum, hand.some_left, hand.fits) in
    advances_by false c (Some (symbol_with r.reading kind kept.items false)) (record r { phase = phases.Ground; kept = final }) refl hand.begun hand.begun.listed n
    (grind (arith, length_push, symbol_given)) refl

-- The head of a symbol.

one : (b : Bool) (xs : List ℕ) → b ≡ true → length xs ≡ cond b 1 2 → xs ≡ get_or xs 0 0 ∷ []
one b xs e h = grind (arith, common_steps)

two : (b : Bool) (xs : List ℕ) → b ≡ false → length xs ≡ cond b 1 2 → xs ≡ get_or xs 0 0 ∷ get_or xs 1 0 ∷ []
two b xs e h = grind (arith, common_steps)

pub symbol_begins : (r : EscReader) (kind : ℕ) (rest : List ℕ) (kept : ArrayVec ℕ) → Begun r.reading r.lead r.name Symbol r.kept.items rest
    → length r.kept.items ≡ head_len Symbol r.kept.items → kind ≡ get_or r.kept.items 0 0 → kept.items ≡ []
    → is_kind_to_zero kind ≡ true
    → Lands r.reading None rest (record r { phase = phases.SymbolToZero kind false; kept = kept })
unfolding needs_more
symbol_begins r kind rest kept b enough k empty z =
    let b' : Begun r.reading r.lead r.name Symbol (kind ∷ []) rest = grind (arith, one) in
    let n : needs_more Symbol (kind ∷ []) ≡ true = rw z refl in
    lands_by true None (record r { phase = phases.SymbolToZero kind false; kept = kept }) refl b' n
    (symbol_given r.reading r.lead r.name kind [] (grind arith) ∙ rw n refl)
    (record { codes = []; begun = b'; to_zero = z; no_zero = refl; kept = rw empty refl; beyond = refl })

pub two_given : (xs : List ℕ) → length xs ≡ head_len Symbol xs → is_kind_to_zero (get_or xs 0 0) ≡ false → xs ≡ get_or xs 0 0 ∷ get_or xs 1 0 ∷ []
two_given xs enough z = two _ xs z enough

pub symbol_counts : (r : EscReader) (kind left : ℕ) (rest : List ℕ) → Begun r.reading r.lead r.name Symbol (kind ∷ left ∷ []) rest
    → r.kept.items ≡ [] → is_kind_to_zero kind ≡ false → left ≢ 0 → left < 256
    → Lands r.reading None rest (record r { phase = phases.SymbolData kind left })
unfolding needs_more
symbol_counts r kind left rest b empty z some fits =
    let n : needs_more Symbol (kind ∷ left ∷ []) ≡ true = grind (arith, nat_tests) in
    lands_by true None (record r { phase = phases.SymbolData kind left }) refl b n
    (symbol_given r.reading r.lead r.name kind (left ∷ []) (grind arith) ∙ rw n refl)
    (record { count = left; begun = rw empty b; counted = z; some_left = omega arith; sum = rw empty (omega arith); fits = fits })

pub symbol_empty : (r : EscReader) (kind left : ℕ) (rest : List ℕ) (kept : ArrayVec ℕ) → Begun r.reading r.lead r.name Symbol (kind ∷ left ∷ []) rest
    → is_kind_to_zero kind ≡ false → left ≡ 0
    → Lands r.reading (Some (symbol_with r.reading kind [] false)) rest (record r { phase = phases.Ground; kept = kept })
unfolding needs_more
symbol_empty r kind left rest kept b z none =
    let n : needs_more Symbol (kind ∷ 0 ∷ []) ≡ false = rw z refl in
    let d : symbol_data (kind ∷ 0 ∷ []) ≡ [] = rw z refl in
    lands_by false (Some (symbol_with r.reading kind [] false)) (record r { phase = phases.Ground; kept = kept }) refl (rw none at b) n
    (symbol_given r.reading r.lead r.name kind (0 ∷ []) (grind arith)
    ∙ rw n (ap (λ (d : List ℕ). symbol_unit r.reading kind d ∷ []) d)) refl
