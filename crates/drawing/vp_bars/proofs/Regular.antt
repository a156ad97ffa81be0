-- Regular characters: how wide they are together, and those that a row doesn't show.
use Rattle.std.proofs.lemmas.Bool.Decides.{nat_tests}
use Rattle.std.proofs.Common.{inl, inr, ◌≡◌, ℕ, zero, suc, ◌+◌, ◌-◌, ◌*◌, ◌%◌, ◌<◌, ◌≤◌, Bool, true, false, not, cond, eqb, ltb, ◌&&◌, List, [], ◌∷◌, ◌++◌, length, take, drop, map, refl, sym, ap, ◌∙◌, append_assoc, subst, arith, ℤ, pos, ◌+ℤ◌}
use Rattle.std.specs.List.{All, flat_map}
use Rattle.std.proofs.lemmas.Bool.{cases_lt, eqb-true, ltb-true, lt-ltb, le-ltb}
use Rattle.std.proofs.lemmas.List.{take-append-drop, get_or-take, length-take-le, length-drop, drop-drop}
use Rattle.std.proofs.Math.Nat.{mul-le-mul_right}
use Rattle.std.proofs.lemmas.List.Elements.{All-nil, All-head, All-tail, All-take, All-drop}
use Rattle.vp_dots.specs.Dots.{dots, shifted}
use Rattle.vp_dots.specs.declared.Op.{Op}
use Rattle.vp_dots.proofs.Paints.{painted_same}
use Rattle.vp_dots.proofs.Shifts.{shifted_same}
use Rattle.vp_bars.specs.declared.pen.Pen.{Pen}
use Rattle.vp_bars.specs.declared.symbology.Symbology.{Symbology}
use Rattle.vp_bars.specs.declared.symbology.Symbology.TheVariants.{Code39, Ean13, Code128, Interleaved, Codabar, Code11, Msi, Ean8, UpcA, UpcE, AddOn, Code93, Code93Ascii}
use Rattle.vp_bars.specs.Patterns.{code39_table, code128_table}
use Rattle.vp_bars.specs.Elements.{set_a_widths}
use Rattle.vp_bars.specs.Interleaved.{pairs_table}
use Rattle.vp_bars.specs.Msi.{msi_table}
use Rattle.vp_bars.specs.Code93.{code93_table}
use Rattle.vp_bars.specs.Symbologies.{size_of, gap_of, start_of, stop_of, pattern_of}
use Rattle.vp_bars.specs.Widths.{sized, next_widths, widths_of, framed_widths, in_bar, total}
use Rattle.vp_bars.specs.Regular.{IsRegular, AreRegular, regular_width, step_of}
use Rattle.vp_bars.specs.Drawing.{Draws, turned}
use Rattle.vp_bars.proofs.Lists.{list_all_get}
use Rattle.vp_bars.proofs.Draws.{total-append, draws_same, draws_then, flat_append}
use Rattle.vp_bars.proofs.WordBars.{in_bar_behind, turned_odd}
use Rattle.vp_bars.proofs.Bounds.{by_modules, eleven_modules}

-- wide elements of Code 39, and narrow ones
abbrev wides : List ℕ → ℕ
wides [] = 0
wides (e ∷ es) = cond (eqb e 1) 1 0 + wides es

abbrev narrows : List ℕ → ℕ
narrows [] = 0
narrows (e ∷ es) = cond (eqb e 1) 0 1 + narrows es

by_wides : (f : ℕ → ℕ) (n w : ℕ) → ((e : ℕ) → f e ≡ cond (eqb e 1) w n) → (es : List ℕ) → total (map f es) ≡ wides es * w + narrows es * n
by_wides f n w h [] = omega arith
by_wides f n w h (e ∷ es) = grind (arith, by_wides f n w h es, h e)

abbrev of_code39 : List ℕ → Bool
of_code39 es = eqb (wides es) 3 && eqb (narrows es) 6

code39_row : (v : ℕ) → v < 44 → of_code39 (pattern_of Code39 v) ≡ true
code39_row v h = list_all_get of_code39 code39_table v [] h refl

abbrev of_pair : List ℕ → Bool
of_pair es = eqb (wides es) 4 && eqb (narrows es) 6

pair_row : (v : ℕ) → v < 100 → of_pair (pattern_of Interleaved v) ≡ true
pair_row v h = list_all_get of_pair pairs_table v [] h refl

abbrev of_msi : List ℕ → Bool
of_msi es = eqb (wides es) 4 && eqb (narrows es) 4

msi_row : (v : ℕ) → v < 10 → of_msi (pattern_of Msi v) ≡ true
msi_row v h = list_all_get of_msi msi_table v [] h refl

nine : (v : ℕ) → v < 47 → total (pattern_of Code93 v) ≡ 9
nine v h = eqb-true _ _ (list_all_get (λ es. eqb (total es) 9) code93_table v [] h refl)

seven : (v : ℕ) → v < 10 → total (pattern_of Ean13 v) ≡ 7
seven v h = eqb-true _ _ (list_all_get (λ es. eqb (total es) 7) set_a_widths v [] h refl)

-- how wide one is
pub regular_one : (s : Symbology) (n w v : ℕ) → IsRegular s v → total (sized s n w (pattern_of s v)) ≡ regular_width s n w
regular_one Code39 n w v h = grind (arith, nat_tests, by_wides (size_of Code39 n w) n w (λ e. refl) (pattern_of Code39 v), code39_row v)
regular_one Ean13 n w v h = by_modules n (pattern_of Ean13 v) ∙ ap (λ k. k * n) (seven v (ltb-true v 10 h))
regular_one Code128 n w v h = eleven_modules n w v (ltb-true v 106 h)
regular_one Interleaved n w v h = grind (arith, nat_tests, by_wides (size_of Interleaved n w) n w (λ e. refl) (pattern_of Interleaved v), pair_row v)
regular_one Codabar n w v h = cc
regular_one Code11 n w v h = cc
regular_one Ean8 n w v h = cc
regular_one UpcA n w v h = cc
regular_one UpcE n w v h = cc
regular_one AddOn n w v h = cc
regular_one Code93 n w v h = by_modules n (pattern_of Code93 v) ∙ ap (λ k. k * n) (nine v (ltb-true v 47 h))
regular_one Code93Ascii n w v h = by_modules n (pattern_of Code93 v) ∙ ap (λ k. k * n) (nine v (ltb-true v 47 h))
regular_one Msi n w v h = grind (arith, nat_tests, by_wides (size_of Msi n w) n w (λ e. refl) (pattern_of Msi v), msi_row v)

regular_next : (s : Symbology) (n w v : ℕ) → IsRegular s v → total (next_widths s n w v) ≡ step_of s n w
regular_next s n w v h = total-append (sized s n w (gap_of s)) (sized s n w (pattern_of s v)) ∙ ap (λ k. total (sized s n w (gap_of s)) + k) (regular_one s n w v h)

-- and several with their gaps
pub regular_total : (s : Symbology) (n w : ℕ) (vs : List ℕ) → All (IsRegular s) vs → total (flat_map (next_widths s n w) vs) ≡ step_of s n w * length vs
regular_total s n w [] h = omega arith
regular_total s n w (v ∷ vs) h = omega (arith, total-append (next_widths s n w v) (flat_map (next_widths s n w) vs), regular_next s n w v (All-head (IsRegular s) v vs h), regular_total s n w vs (All-tail (IsRegular s) v vs h))

turned-append : (bar : Bool) (us vs : List ℕ) → turned bar (us ++ vs) ≡ turned (turned bar us) vs
turned-append bar [] vs = refl
turned-append bar (u ∷ us) vs = turned-append (not bar) us vs

not_not : (b : Bool) → not (not b) ≡ b
not_not b = grind arith

even : (b : Bool) → not b ≡ true → b ≡ false
even b h = grind arith

-- a bar comes behind one where a bar came before it
turned_next : (s : Symbology) (n w v : ℕ) (bar : Bool) → IsRegular s v → turned bar (next_widths s n w v) ≡ bar
turned_next Code39 n w v bar h = turned_odd (size_of Code39 n w) (not bar) (pattern_of Code39 v)
    ∙ ap (λ b. cond b (not (not bar)) (not bar)) (list_all_get (λ es. eqb (length es % 2) 1) code39_table v [] (ltb-true v 44 h) refl) ∙ not_not bar
turned_next Ean13 n w v bar h = turned_odd (size_of Ean13 n w) bar (pattern_of Ean13 v)
    ∙ ap (λ b. cond b (not bar) bar) (even _ (list_all_get (λ es. not (eqb (length es % 2) 1)) set_a_widths v [] (ltb-true v 10 h) refl))
turned_next Code128 n w v bar h = turned_odd (size_of Code128 n w) bar (pattern_of Code128 v) ∙ ap (λ b. cond b (not bar) bar) (even _ (
    ap (λ es. not (eqb (length es % 2) 1)) (sym (get_or-take 106 code128_table v [] (ltb-true v 106 h)))
    ∙ list_all_get (λ es. not (eqb (length es % 2) 1)) (take 106 code128_table) v [] (ltb-true v 106 h) refl))
turned_next Interleaved n w v bar h = turned_odd (size_of Interleaved n w) bar (pattern_of Interleaved v)
    ∙ ap (λ b. cond b (not bar) bar) (even _ (list_all_get (λ es. not (eqb (length es % 2) 1)) pairs_table v [] (ltb-true v 100 h) refl))
turned_next Codabar n w v bar h = cc
turned_next Code11 n w v bar h = cc
turned_next Ean8 n w v bar h = cc
turned_next UpcA n w v bar h = cc
turned_next UpcE n w v bar h = cc
turned_next AddOn n w v bar h = cc
turned_next Code93 n w v bar h = turned_odd (size_of Code93 n w) bar (pattern_of Code93 v)
    ∙ ap (λ b. cond b (not bar) bar) (even _ (list_all_get (λ es. not (eqb (length es % 2) 1)) code93_table v [] (ltb-true v 47 h) refl))
turned_next Code93Ascii n w v bar h = turned_odd (size_of Code93Ascii n w) bar (pattern_of Code93Ascii v)
    ∙ ap (λ b. cond b (not bar) bar) (even _ (list_all_get (λ es. not (eqb (length es % 2) 1)) code93_table v [] (ltb-true v 47 h) refl))
turned_next Msi n w v bar h = turned_odd (size_of Msi n w) bar (pattern_of Msi v)
    ∙ ap (λ b. cond b (not bar) bar) (even _ (list_all_get (λ es. not (eqb (length es % 2) 1)) msi_table v [] (ltb-true v 10 h) refl))

regular_turned : (s : Symbology) (n w : ℕ) (bar : Bool) (vs : List ℕ) → All (IsRegular s) vs → turned bar (flat_map (next_widths s n w) vs) ≡ bar
regular_turned s n w bar [] h = refl
regular_turned s n w bar (v ∷ vs) h =
    turned-append bar (next_widths s n w v) (flat_map (next_widths s n w) vs) ∙ ap (λ b. turned b (flat_map (next_widths s n w) vs)) (turned_next s n w v bar (All-head (IsRegular s) v vs h)) ∙ regular_turned s n w bar vs (All-tail (IsRegular s) v vs h)

module _ (op : Op) (at : ℤ) where
  -- bars and spaces of which the row shows nothing
  pub draws_unseen : (row : List ℕ) (pen next : Pen) (ws : List ℕ) → next.x ≡ pen.x + total ws → next.bar ≡ turned pen.bar ws
      → ((u d : ℕ) → pen.x ≤ u → u < next.x → pos d ≡ at +ℤ pos u → d < dots row → ⊥) → Draws op at row row pen next ws
  draws_unseen row pen next ws e t none = record {
    ends = e;
    drawn = λ f old rest z. record {
      done = painted_same op (shifted at (λ i. ltb i pen.x && f i)) (shifted at (λ i. ltb i next.x && f i)) old row
          (λ d l. shifted_same at (λ i. ltb i pen.x && f i) (λ i. ltb i next.x && f i) d (λ u q. elim (cases_lt u pen.x) [
            | inl m ↦ rw (lt-ltb u pen.x m, lt-ltb u next.x (omega (arith, e))) refl
            | inr g ↦ elim (cases_lt u next.x) [
              | inl m ↦ absurd (none u d g m q (let k : length row ≡ length old = z.done.length_is in omega arith))
              | inr k ↦ rw (le-ltb u pen.x g, le-ltb u next.x k) refl
            ]
          ])) z.done;
      left = λ i h. z.left i (omega (arith, e))
          ∙ ap (in_bar pen.bar (ws ++ rest)) (let k : i - pen.x ≡ total ws + (i - next.x) = omega (arith, e) in k)
          ∙ in_bar_behind pen.bar ws rest (i - next.x) ∙ ap (λ b. in_bar b rest (i - next.x)) (sym t);
    };
  }

  -- characters that have no dots
  pub regular_none : (s : Symbology) (n w : ℕ) (vs row : List ℕ) (pen : Pen) → step_of s n w ≡ 0 → All (IsRegular s) vs → Draws op at row row pen pen (flat_map (next_widths s n w) vs)
  regular_none s n w vs row pen z all = draws_unseen row pen pen (flat_map (next_widths s n w) vs)
      (omega (arith, regular_total s n w vs all, ap (λ k. k * length vs) z)) (sym (regular_turned s n w pen.bar vs all)) (λ u d g h q l. absurd (omega arith))

  module _ (s : Symbology) (n w k : ℕ) (vs : List ℕ) (step : k ≡ step_of s n w) (regular : All (IsRegular s) vs) where
    widths : (us : List ℕ) → All (IsRegular s) us → total (flat_map (next_widths s n w) us) ≡ k * length us
    widths us all = regular_total s n w us all ∙ ap (λ i. i * length us) (sym step)

    -- several of them of which the row shows nothing
    passed : (us : List ℕ) (row : List ℕ) (pen next : Pen) → All (IsRegular s) us → next.x ≡ pen.x + k * length us → next.bar ≡ pen.bar
        → ((u d : ℕ) → pen.x ≤ u → u < next.x → pos d ≡ at +ℤ pos u → d < dots row → ⊥) → Draws op at row row pen next (flat_map (next_widths s n w) us)
    passed us row pen next all e t none = draws_unseen row pen next (flat_map (next_widths s n w) us)
        (e ∙ ap (λ i. pen.x + i) (sym (widths us all))) (t ∙ sym (regular_turned s n w pen.bar us all)) none

    split_times : (a b c : ℕ) → a + b ≡ c → k * c ≡ k * a + k * b
    split_times a b c e = ap (λ i. k * i) (sym e) ∙ (let z : k * (a + b) ≡ k * a + k * b = omega arith in z)

    -- only those that the row shows are drawn
    pub regular_drawn : (from to : ℕ) (old new : List ℕ) (pen first last next : Pen) → from ≤ to → to ≤ length vs
        → ((u d : ℕ) → pen.x ≤ u → u < pen.x + k * from → pos d ≡ at +ℤ pos u → d < 0)
        → ((u d : ℕ) → pen.x + k * to ≤ u → u < pen.x + k * length vs → pos d ≡ at +ℤ pos u → 8 * length old ≤ d)
        → first.x ≡ pen.x + k * from → first.bar ≡ pen.bar → next.x ≡ pen.x + k * length vs → next.bar ≡ last.bar
        → Draws op at old new first last (flat_map (next_widths s n w) (take (to - from) (drop from vs))) → length new ≡ length old
        → Draws op at old new pen next (flat_map (next_widths s n w) vs)
    regular_drawn from to old new pen first last next l m before behind x b y c d len =
        let front = take from vs in
        let middle = take (to - from) (drop from vs) in
        let back = drop to vs in
        let rest : drop (to - from) (drop from vs) ≡ back = drop-drop (to - from) from vs ∙ ap (λ i. drop i vs) (omega arith) in
        let whole : front ++ (middle ++ back) ≡ vs =
        ap (λ us. front ++ (middle ++ us)) (sym rest) ∙ ap (λ us. front ++ us) (take-append-drop (to - from) (drop from vs)) ∙ take-append-drop from vs in
        let one : length front ≡ from = length-take-le from vs (omega arith) in
        let two : length middle ≡ to - from = length-take-le (to - from) (drop from vs) (omega (arith, length-drop from vs)) in
        let three : length back ≡ length vs - to = length-drop to vs in
        let drawn : total (flat_map (next_widths s n w) middle) ≡ k * (to - from) =
        widths middle (All-take (IsRegular s) (to - from) (drop from vs) (All-drop (IsRegular s) from vs regular)) ∙ ap (λ i. k * i) two in
        let ends : last.x ≡ pen.x + k * to = omega (arith, d.ends, drawn, x, split_times from (to - from) to (omega arith)) in
        let behind_them : next.x ≡ last.x + k * length back = omega (arith, ends, y, ap (λ i. k * i) three, split_times to (length vs - to) (length vs) (omega arith)) in
        draws_same op at old new pen next _ _
        (ap (λ ws. flat_map (next_widths s n w) front ++ ws) (sym (flat_append (next_widths s n w) middle back)) ∙ sym (flat_append (next_widths s n w) front (middle ++ back)) ∙ ap (flat_map (next_widths s n w)) whole)
        (draws_then op at old old new pen first next _ _
        (passed front old pen first (All-take (IsRegular s) from vs regular) (x ∙ ap (λ i. pen.x + k * i) (sym one)) b
        (λ u e g h q p. let z = before u e g (omega (arith, x)) q in omega arith))
        (draws_then op at old new new first last next _ _ d
        (passed back new last next (All-drop (IsRegular s) to vs regular) behind_them c
        (λ u e g h q p. let z = behind u e (omega (arith, ends)) (omega (arith, y)) q in omega (arith, len)))))

-- the first of some characters, those that are regular behind it, and the last ones
pub record Parts (s : Symbology) (n w : ℕ) (values : List ℕ) (first : ℕ) (us vs : List ℕ) : Type 0 where
  pub regular : All (IsRegular s) us
  pub widths_are : sized s n w (pattern_of s first) ++ (flat_map (next_widths s n w) us ++ flat_map (next_widths s n w) vs) ≡ widths_of s n w values
  pub total_is : total (sized s n w (pattern_of s first)) + (step_of s n w * length us + total (flat_map (next_widths s n w) vs)) ≡ total (widths_of s n w values)

behind_first : (s : Symbology) (count first : ℕ) (others : List ℕ) → All (IsRegular s) (take count (first ∷ others)) → All (IsRegular s) (take (count - 1) others)
behind_first s zero first others h = All-nil (IsRegular s)
behind_first s (suc count) first others h = let e : count ≡ suc count - 1 = omega arith in subst (λ i. All (IsRegular s) (take i others)) e (All-tail (IsRegular s) first (take count others) h)

pub parts_of : (s : Symbology) (n w count k first : ℕ) (values others us vs : List ℕ) → AreRegular s count values → values ≡ first ∷ others → k ≡ count - 1
    → us ≡ take k others → vs ≡ drop k others → Parts s n w values first us vs
parts_of s n w count k first values others us vs a e l u v =
    let regular : All (IsRegular s) us = subst (All (IsRegular s)) (sym (u ∙ ap (λ i. take i others) l))
    (behind_first s count first others (subst (λ xs. All (IsRegular s) (take count xs)) e a.each)) in
    let whole : us ++ vs ≡ others = ap (λ xs. xs ++ vs) u ∙ ap (λ xs. take k others ++ xs) v ∙ take-append-drop k others in
    let g = next_widths s n w in
    let widths : sized s n w (pattern_of s first) ++ (flat_map g us ++ flat_map g vs) ≡ widths_of s n w values =
    ap (λ ws. sized s n w (pattern_of s first) ++ ws) (sym (flat_append g us vs) ∙ ap (flat_map g) whole) ∙ ap (widths_of s n w) (sym e) in
    record {
      regular = regular;
      widths_are = widths;
      total_is = omega (arith, ap total widths, total-append (sized s n w (pattern_of s first)) (flat_map g us ++ flat_map g vs), total-append (flat_map g us) (flat_map g vs), regular_total s n w us regular);
    }

-- characters between start and stop: those that are regular from the first on, and the last ones
pub record Framed (s : Symbology) (n w : ℕ) (values us vs : List ℕ) : Type 0 where
  pub regular : All (IsRegular s) us
  pub widths_are : sized s n w (start_of s) ++ (flat_map (next_widths s n w) us ++ (flat_map (next_widths s n w) vs ++ sized s n w (stop_of s))) ≡ framed_widths s n w values
  pub total_is : total (sized s n w (start_of s)) + (step_of s n w * length us + (total (flat_map (next_widths s n w) vs) + total (sized s n w (stop_of s)))) ≡ total (framed_widths s n w values)

pub framed_of : (s : Symbology) (n w k : ℕ) (values us vs : List ℕ) → AreRegular s k values → us ≡ take k values → vs ≡ drop k values → Framed s n w values us vs
framed_of s n w k values us vs a u v =
    let regular : All (IsRegular s) us = subst (All (IsRegular s)) (sym u) a.each in
    let whole : us ++ vs ≡ values = ap (λ xs. xs ++ vs) u ∙ ap (λ xs. take k values ++ xs) v ∙ take-append-drop k values in
    let g = next_widths s n w in
    let start = sized s n w (start_of s) in
    let stop = sized s n w (stop_of s) in
    let widths : start ++ (flat_map g us ++ (flat_map g vs ++ stop)) ≡ framed_widths s n w values =
    ap (λ ws. start ++ ws) (sym (append_assoc (flat_map g us) (flat_map g vs) stop) ∙ ap (λ ws. ws ++ stop) (sym (flat_append g us vs) ∙ ap (flat_map g) whole)) in
    record {
      regular = regular;
      widths_are = widths;
      total_is = omega (arith, ap total widths, total-append start (flat_map g us ++ (flat_map g vs ++ stop)), total-append (flat_map g us) (flat_map g vs ++ stop), total-append (flat_map g vs) stop, regular_total s n w us regular);
    }

pub no_fewer : (k n : ℕ) → 0 < k → n ≤ k * n
no_fewer k n h = let z = mul-le-mul_right {m = 1} {n = k} n h in omega (arith, z)

-- those from one to another together
pub regular_between : (s : Symbology) (n w k from to : ℕ) (vs : List ℕ) → k ≡ step_of s n w → All (IsRegular s) vs → from ≤ to → to ≤ length vs
    → k * from + total (flat_map (next_widths s n w) (take (to - from) (drop from vs))) ≡ k * to
regular_between s n w k from to vs e all l m =
    let middle = regular_total s n w (take (to - from) (drop from vs)) (All-take (IsRegular s) (to - from) (drop from vs) (All-drop (IsRegular s) from vs all)) in
    let two : length (take (to - from) (drop from vs)) ≡ to - from = length-take-le (to - from) (drop from vs) (omega (arith, length-drop from vs)) in
    let step = ap (λ i. i * length (take (to - from) (drop from vs))) e in
    let times = ap (λ i. k * i) two in
    let both : from + (to - from) ≡ to = omega arith in
    let whole = ap (λ i. k * i) both in
    omega (arith, middle, step, times, whole)
