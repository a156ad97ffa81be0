-- Bars and spaces in a word, and drawn at once.
use Rattle.std.proofs.lemmas.Grind.{common_steps}
use Rattle.std.proofs.lemmas.Bool.Decides.{nat_tests}
use Rattle.std.proofs.Common.{inl, inr, ◌≡◌, ℕ, ◌+◌, ◌-◌, ◌/◌, ◌%◌, ◌^◌, ◌<◌, ◌≤◌, Bool, true, false, not, ltb, leb, eqb, ◌&&◌, ◌||◌, refl, sym, ap, ◌∙◌, subst, arith, List, [], ◌∷◌, ◌++◌, ℤ, length, bit_or, map, cond, pos, ◌+ℤ◌, SFits, to_z, of_z, w64}
use mathlib.Core.Bool.{beq}
use Rattle.std.proofs.lemmas.Int.{ints, to_z-of_z}
use Rattle.std.proofs.lemmas.Nat.Bits.{bit_at-zero}
use Rattle.std.proofs.lemmas.Bool.{cases_lt, eqb-true, lt-ltb, le-ltb, lt-leb, le-leb}
use Rattle.vp_dots.specs.Dots.{bit, dot, dots, shifted}
use Rattle.vp_dots.specs.Words.{word_dot}
use Rattle.vp_dots.specs.Painting.{paint, Painted}
use Rattle.vp_dots.specs.declared.Op.{Op}
use Rattle.vp_bars.specs.declared.pen.Pen.{Pen}
use Rattle.vp_bars.specs.Drawing.{Drawn, Draws, turned}
use Rattle.vp_bars.specs.Widths.{in_bar, total}
use Rattle.vp_bars.proofs.Draws.{total-append}
use Rattle.vp_dots.proofs.Words.{word_shr}
use Rattle.vp_dots.proofs.Bits.{bit_of_or}
use Rattle.vp_bars.proofs.Paints.{drawn_more}

-- behind widths there is no bar
pub in_bar_past : (bar : Bool) (ws : List ℕ) (x : ℕ) → total ws ≤ x → in_bar bar ws x ≡ false
in_bar_past bar [] x h = refl
in_bar_past bar (w ∷ ws) x h = rw (le-ltb x w (omega arith)) (in_bar_past (not bar) ws (x - w) (omega arith))

-- the first widths of more
pub in_bar_front : (bar : Bool) (us vs : List ℕ) (x : ℕ) → x < total us → in_bar bar (us ++ vs) x ≡ in_bar bar us x
in_bar_front bar [] vs x h = absurd (omega arith)
in_bar_front bar (u ∷ us) vs x h = grind (arith, nat_tests, in_bar_front (not bar) us vs (x - u))

-- and those behind them
pub in_bar_behind : (bar : Bool) (us vs : List ℕ) (x : ℕ) → in_bar bar (us ++ vs) (total us + x) ≡ in_bar (turned bar us) vs x
in_bar_behind bar [] vs x = let e : 0 + x ≡ x = omega arith in rw e refl
in_bar_behind bar (u ∷ us) vs x = grind (arith, nat_tests, in_bar_behind (not bar) us vs x)

pub turned_more : (bar : Bool) (us : List ℕ) (w : ℕ) → turned bar (us ++ w ∷ []) ≡ not (turned bar us)
turned_more bar [] w = refl
turned_more bar (u ∷ us) w = turned_more (not bar) us w

-- a word has the bars of these widths, the first one a bar or not, and `now` tells what comes behind them at x
pub record Marked (bar : Bool) (us : List ℕ) (word x : ℕ) (now : Bool) : Type 0 where
  pub dots_are : (j : ℕ) → word_dot word j ≡ in_bar bar us j
  pub x_is : x ≡ total us
  pub bar_is : now ≡ turned bar us

no_bit : (k : ℕ) → bit 0 k ≡ false
unfolding bit
no_bit k = ap (λ n. eqb n 1) (bit_at-zero k)

pub marked_none : (bar : Bool) → Marked bar [] 0 0 bar
marked_none bar = grind (arith, no_bit)

pub marked_more : (bar : Bool) (us : List ℕ) (word x : ℕ) (now : Bool) (w new : ℕ) → Marked bar us word x now
    → ((j : ℕ) → word_dot new j ≡ (word_dot word j || now && (leb x j && ltb (j - x) w))) → Marked bar (us ++ w ∷ []) new (x + w) (not now)
marked_more bar us word x now w new m e = record {
  dots_are = λ j. e j ∙ ap (λ b. b || now && (leb x j && ltb (j - x) w)) (m.dots_are j) ∙ elim (cases_lt j (total us)) [
    | inl l ↦ rw (lt-leb x j (omega (arith, m.x_is))) (either_none now (in_bar bar us j) ∙ sym (in_bar_front bar us (w ∷ []) j l))
    | inr g ↦ rw (in_bar_past bar us j g, le-leb x j (omega (arith, m.x_is)), m.x_is, m.bar_is) (
        (let k : total us + (j - total us) ≡ j = omega arith in
        in_last (turned bar us) (j - total us) ∙ sym (in_bar_behind bar us (w ∷ []) (j - total us)) ∙ ap (in_bar bar (us ++ w ∷ [])) k))
  ];
  x_is = omega (arith, m.x_is, total-append us (w ∷ []));
  bar_is = ap not m.bar_is ∙ sym (turned_more bar us w);
}
  where
    either_none : (a b : Bool) → (b || a && false) ≡ b
    either_none true true = refl
    either_none true false = refl
    either_none false true = refl
    either_none false false = refl

    in_last : (b : Bool) (y : ℕ) → (false || b && (true && ltb y w)) ≡ in_bar b (w ∷ []) y
    in_last true y = by_place (ltb y w)
      where
        by_place : (c : Bool) → c ≡ (cond c true false)
        by_place true = refl
        by_place false = refl
    in_last false y = by_place (ltb y w)
      where
        by_place : (c : Bool) → false ≡ (cond c false false)
        by_place true = refl
        by_place false = refl

-- the dot that a bar more has
pub marked_bar : (word dots x w j : ℕ) → dots < 2 ^ 64 → ((i : ℕ) → word_dot dots i ≡ ltb i w) → x + w < 64
    → word_dot (bit_or word (dots / 2 ^ x)) j ≡ (word_dot word j || leb x j && ltb (j - x) w)
marked_bar word dots x w j h e l = grind (arith, cases_lt, lt-ltb, bit_of_or, word_shr, lt-leb, le-leb, le-ltb)

-- a place of what is moved twice
pub moved_twice : (at place : ℤ) (x : ℕ) (f : ℕ → Bool) (d : ℕ) → place ≡ at +ℤ pos x → shifted place f d ≡ shifted at (λ i. leb x i && f (i - x)) d
moved_twice at place x f d h1 = grind (arith, ints, cases_lt, lt-leb, le-leb)

-- bars and spaces that are drawn at once
pub draws_at_once : (op : Op) (at place : ℤ) (before after : List ℕ) (pen next : Pen) (ws : List ℕ) → next.x ≡ pen.x + total ws → next.bar ≡ turned pen.bar ws → place ≡ at +ℤ pos pen.x
    → Painted op (shifted place (in_bar pen.bar ws)) before after → Draws op at before after pen next ws
draws_at_once op at place before after pen next ws e t h p = record {
  ends = e;
  drawn = λ f old rest z. subst (λ n. Drawn op at f old after n (in_bar next.bar rest)) (sym e) (
      drawn_more op at f old before after pen.x (total ws) (in_bar pen.bar (ws ++ rest)) (in_bar pen.bar ws) (in_bar next.bar rest) z
      (record { length_is = p.length_is; dots_are = λ d l. p.dots_are d l ∙ ap (λ i. paint op i (dot before d)) (moved_twice at place pen.x (in_bar pen.bar ws) d h) })
      (λ j l. in_bar_front pen.bar ws rest j l) (λ j l. in_bar_past pen.bar ws j l)
      (λ j. in_bar_behind pen.bar ws rest j ∙ ap (λ b. in_bar b rest j) (sym t)));
}

-- so many elements turn the pen
pub turned_odd : (s : ℕ → ℕ) (bar : Bool) (es : List ℕ) → turned bar (map s es) ≡ cond (eqb (length es % 2) 1) (not bar) bar
turned_odd s bar [] = refl
turned_odd s bar (e ∷ []) = refl
turned_odd s bar (e ∷ d ∷ es) = grind (arith, nat_tests, turned_odd s bar es)

pub turned_by : (s : ℕ → ℕ) (bar : Bool) (es : List ℕ) → not (beq bar (eqb (length es % 2) 1)) ≡ turned bar (map s es)
turned_by s bar es = grind (arith, turned_odd)

pub marked_same : (bar : Bool) (us vs : List ℕ) (word x y : ℕ) (now next : Bool) → us ≡ vs → y ≡ x → next ≡ now → Marked bar us word x now → Marked bar vs word y next
marked_same bar us vs word x y now next e f g m = grind arith

-- a place that is the sum of two
pub place_sum : (at from place : ℤ) (x : ℕ) → SFits w64 at → SFits w64 from → from ≡ pos x → SFits w64 (to_z w64 (of_z w64 at) +ℤ to_z w64 (of_z w64 from)) × (place ≡ to_z w64 (of_z w64 at) +ℤ to_z w64 (of_z w64 from))
    → to_z w64 (of_z w64 place) ≡ at +ℤ pos x
place_sum at from place x fits f e s = grind (arith, to_z-of_z)

pub empty_of : (es : List ℕ) → true ≡ eqb (length es) 0 → [] ≡ es
empty_of es h1 = grind (arith, common_steps, eqb-true)
