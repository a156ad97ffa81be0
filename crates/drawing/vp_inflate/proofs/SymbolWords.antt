-- A symbol, bit by bit.
use Rattle.std.proofs.Common.{◌≡◌, ℕ, ◌+◌, ◌-◌, ◌*◌, ◌<◌, ◌≤◌, Bool, ltb, cond, List, [], ◌∷◌, length, drop, get_or, Ok, Err, sym, ap, ◌∙◌}
use Rattle.std.proofs.lemmas.List.{at_drop_more, at_drop_all}
use Rattle.std.proofs.lemmas.Bool.{lt-ltb, le-ltb}
use Rattle.vp_inflate.specs.declared.fault.Stop.{Stop}
use Rattle.vp_inflate.specs.declared.fault.Stop.TheVariants.{Broken}
use Rattle.vp_inflate.specs.declared.fault.Fault.TheVariants.{NoCode}
use Rattle.vp_inflate.specs.Bits.{Read, ◌>>=◌, number_at}
use Rattle.vp_inflate.specs.Codes.{symbol_in}

-- behind one bit more
abbrev pub behind : List ℕ → List ℕ → ℕ → ℕ → ℕ × List ℕ → Read ℕ
behind [] symbols before beyond bit = Err (Broken NoCode)
behind (n ∷ more) symbols before beyond bit = cond (ltb (2 * beyond + bit.0) n)
    (Ok (get_or symbols (before + (2 * beyond + bit.0)) 0, bit.1))
    (symbol_in more symbols (before + n) (2 * beyond + bit.0 - n) bit.1)

pub symbol_more : (cs : List ℕ) (i : ℕ) (symbols : List ℕ) (before beyond : ℕ) (from : List ℕ) → i < length cs → symbol_in (drop i cs) symbols before beyond from
    ≡ number_at 1 from >>= behind (get_or cs i 0 ∷ drop (i + 1) cs) symbols before beyond
unfolding symbol_in
symbol_more cs i symbols before beyond from h = at_drop_more (λ (l : List ℕ). symbol_in l symbols before beyond from) cs i 0 h

pub symbol_short : (cs : List ℕ) (i : ℕ) (symbols : List ℕ) (before beyond : ℕ) (from : List ℕ) (stop : Stop) → i < length cs → Err stop ≡ number_at 1 from
    → symbol_in (drop i cs) symbols before beyond from ≡ Err stop
symbol_short cs i symbols before beyond from stop h e = symbol_more cs i symbols before beyond from h
    ∙ ap (λ (r : Read ℕ). r >>= behind (get_or cs i 0 ∷ drop (i + 1) cs) symbols before beyond) (sym e)

pub symbol_bit : (cs : List ℕ) (i : ℕ) (symbols : List ℕ) (before beyond : ℕ) (from : List ℕ) (b : ℕ) (rest : List ℕ) → i < length cs → Ok (b, rest) ≡ number_at 1 from
    → symbol_in (drop i cs) symbols before beyond from ≡ behind (get_or cs i 0 ∷ drop (i + 1) cs) symbols before beyond (b, rest)
symbol_bit cs i symbols before beyond from b rest h e = symbol_more cs i symbols before beyond from h
    ∙ ap (λ (r : Read ℕ). r >>= behind (get_or cs i 0 ∷ drop (i + 1) cs) symbols before beyond) (sym e)

pub symbol_here : (cs : List ℕ) (i : ℕ) (symbols : List ℕ) (before beyond : ℕ) (from : List ℕ) (b : ℕ) (rest : List ℕ) → i < length cs → Ok (b, rest) ≡ number_at 1 from
    → 2 * beyond + b < get_or cs i 0 → symbol_in (drop i cs) symbols before beyond from ≡ Ok (get_or symbols (before + (2 * beyond + b)) 0, rest)
symbol_here cs i symbols before beyond from b rest h e lt = symbol_bit cs i symbols before beyond from b rest h e
    ∙ ap (λ (t : Bool). cond t (Ok (get_or symbols (before + (2 * beyond + b)) 0, rest)) (symbol_in (drop (i + 1) cs) symbols (before + get_or cs i 0) (2 * beyond + b - get_or cs i 0) rest))
    (lt-ltb (2 * beyond + b) (get_or cs i 0) lt)

pub symbol_on : (cs : List ℕ) (i : ℕ) (symbols : List ℕ) (before beyond : ℕ) (from : List ℕ) (b : ℕ) (rest : List ℕ) → i < length cs → Ok (b, rest) ≡ number_at 1 from
    → get_or cs i 0 ≤ 2 * beyond + b → symbol_in (drop i cs) symbols before beyond from
    ≡ symbol_in (drop (i + 1) cs) symbols (before + get_or cs i 0) (2 * beyond + b - get_or cs i 0) rest
symbol_on cs i symbols before beyond from b rest h e le = symbol_bit cs i symbols before beyond from b rest h e
    ∙ ap (λ (t : Bool). cond t (Ok (get_or symbols (before + (2 * beyond + b)) 0, rest)) (symbol_in (drop (i + 1) cs) symbols (before + get_or cs i 0) (2 * beyond + b - get_or cs i 0) rest))
    (le-ltb (2 * beyond + b) (get_or cs i 0) le)

pub symbol_none : (cs : List ℕ) (i : ℕ) (symbols : List ℕ) (before beyond : ℕ) (from : List ℕ) → length cs ≤ i → symbol_in (drop i cs) symbols before beyond from ≡ Err (Broken NoCode)
unfolding symbol_in
symbol_none cs i symbols before beyond from h = at_drop_all (λ (l : List ℕ). symbol_in l symbols before beyond from) cs i h
