-- The dot of a list of strokes, one stroke after the other, and at other places.
use Rattle.std.proofs.lemmas.Grind.{common_steps}
use Rattle.std.proofs.Common.{eq-eqb, ◌≡◌, ℕ, ◌+◌, ◌-◌, ◌<◌, Bool, true, false, not, ◌&&◌, ◌||◌, List, [], ◌∷◌, ◌++◌, Option, None, Some, if◌then◌else◌, refl, ap, ◌∙◌, arith, cond, map, ℤ, pos, ◌-ℤ◌}
use Rattle.std.proofs.lemmas.Bool.{cases_eq, ne_eqb, lt-ltb}
use Rattle.std.proofs.lemmas.Int.{ints}
use Rattle.std.specs.List.{list_any, count_by}
use Rattle.std.proofs.lemmas.List.Folds.{list_any-append}
use Rattle.std.proofs.lemmas.List.Sums.{sum_by-append, sum-map}
use Rattle.vp_dots.specs.declared.Op.{Op}
use Rattle.vp_dots.specs.Painting.{paint}
use Rattle.vp_field.specs.Strokes.{Stroke, is_reversing, covers, reverses, last_where, after_last_where, colour, reversed, label_dot, viewed, image_dot}
use Rattle.vp_field.specs.Views.{counted_back, seen_x, seen_y}
use Rattle.vp_field.specs.Laws.{StrokeAfterStroke, DotsMove, TurnedAndMirrored, upright, unmirrored}
use Rattle.vp_field.specs.declared.view.View.{View}

-- the last stroke decides, or an earlier one
pick : {X : Type 0} (any here : Bool) (later new old front' front : X) → later ≡ cond here new old → (here ≡ false → front' ≡ front) → cond (any || here) later front' ≡ cond here new (cond any old front)
pick any here later new old front' front h1 h2 = grind arith

list_any-push : {X : Type 0} (p : X → Bool) (xs : List X) (x : X) → list_any p (xs ++ x ∷ []) ≡ (list_any p xs || p x)
list_any-push p xs x = grind (arith, list_any-append)

last_where-push : {X : Type 0} (p : X → Bool) (xs : List X) (x : X) → last_where p (xs ++ x ∷ []) ≡ (if p x then Some x else last_where p xs)
last_where-push p [] x = refl
last_where-push p (y ∷ xs) x = rw (list_any-push p xs x) (pick (list_any p xs) (p x) _ (Some x) (last_where p xs) _ _ (last_where-push p xs x) (λ e. refl))

cond-append : {X : Type 0} (b : Bool) (us vs zs : List X) → cond b us vs ++ zs ≡ cond b (us ++ zs) (vs ++ zs)
cond-append b us vs zs = grind arith

after_last_where-push : {X : Type 0} (p : X → Bool) (xs : List X) (x : X) → after_last_where p (xs ++ x ∷ []) ≡ (if p x then [] else after_last_where p xs ++ x ∷ [])
after_last_where-push p [] x = refl
after_last_where-push p (y ∷ xs) x =
    rw (list_any-push p xs x, cond-append (list_any p xs) (after_last_where p xs) (cond (p y) xs (y ∷ xs)) (x ∷ []), cond-append (p y) xs (y ∷ xs) (x ∷ []))
    (pick (list_any p xs) (p x) _ [] (after_last_where p xs ++ x ∷ []) _ _ (after_last_where-push p xs x) (λ e. refl))

count_by-push : {X : Type 0} (p : X → Bool) (xs : List X) (x : X) → count_by p (xs ++ x ∷ []) ≡ count_by p xs + cond (p x) 1 0
count_by-push p xs x = sum_by-append (λ x. cond (p x) 1 0) xs (x ∷ []) ∙ ap (λ n. count_by p xs + n) (omega arith)

reversed-more : (n : ℕ) (dot : Bool) → reversed (n + 1) dot ≡ not (reversed n dot)
reversed-more n dot = grind (arith, cases_eq, eq-eqb, ne_eqb)

-- a stroke with no ink here changes no count
count_same : (rev : Stroke → Bool) (rest : List Stroke) (s : Stroke) → rev s ≡ false → count_by rev (rest ++ s ∷ []) ≡ count_by rev rest
count_same rev rest s e = count_by-push rev rest s ∙ rw e (omega arith)

dot_step : (op : Op) (ink : Bool) (rev : Stroke → Bool) (rest : List Stroke) (last : Option Stroke) (s : Stroke) → s.op ≡ op → rev s ≡ (is_reversing op && ink) →
    reversed (count_by rev (cond (not (is_reversing op) && ink) [] (rest ++ s ∷ []))) (colour (cond (not (is_reversing op) && ink) (Some s) last))
    ≡ paint op ink (reversed (count_by rev rest) (colour last))
dot_step op ink rev rest last s h1 h2 = grind (arith, count_by-push, reversed-more, count_same)

-- what one more stroke does to a dot
pub label_dot-push : (ss : List Stroke) (s : Stroke) (x y : ℤ) → label_dot (ss ++ s ∷ []) x y ≡ paint s.op (s.ink x y) (label_dot ss x y)
unfolding label_dot
label_dot-push ss s x y = grind (arith, last_where-push, after_last_where-push, dot_step)

pub label_dot-none : (x y : ℤ) → label_dot [] x y ≡ false
unfolding label_dot
label_dot-none x y = refl

pub stroke_after_stroke : StrokeAfterStroke
stroke_after_stroke = record { none = label_dot-none; more = label_dot-push }

map_map : {X Y Z : Type 0} (g : Y → Z) (f : X → Y) (xs : List X) → map g (map f xs) ≡ map (λ x. g (f x)) xs
map_map g f [] = refl
map_map g f (x ∷ xs) = ap (λ ys. g (f x) ∷ ys) (map_map g f xs)

count_by-map : {X : Type 0} (p : X → Bool) (f : X → X) (xs : List X) → count_by p (map f xs) ≡ count_by (λ x. p (f x)) xs
count_by-map p f xs = grind (arith, common_steps, sum-map, map_map)

module _ (view : View) (x y : ℤ) where
  any_same : (ss : List Stroke) → list_any (covers x y) (map (viewed view) ss) ≡ list_any (covers (seen_x view x) (seen_y view y)) ss
  any_same [] = refl
  any_same (s ∷ ss) = ap (λ b. covers (seen_x view x) (seen_y view y) s || b) (any_same ss)

  colour_cond : (b c : Bool) (l m : Option Stroke) (s : Stroke) → colour l ≡ colour m → colour (cond b l (cond c (Some (viewed view s)) None)) ≡ colour (cond b m (cond c (Some s) None))
  colour_cond b c l m s h1 = grind arith

  colour_same : (ss : List Stroke) → colour (last_where (covers x y) (map (viewed view) ss)) ≡ colour (last_where (covers (seen_x view x) (seen_y view y)) ss)
  colour_same [] = refl
  colour_same (s ∷ ss) = rw (any_same ss) (colour_cond (list_any (covers (seen_x view x) (seen_y view y)) ss) (covers (seen_x view x) (seen_y view y) s) _ _ s (colour_same ss))

  after_cond : (b c : Bool) (l m ss : List Stroke) (s : Stroke) → l ≡ map (viewed view) m
      → cond b l (cond c (map (viewed view) ss) (viewed view s ∷ map (viewed view) ss)) ≡ map (viewed view) (cond b m (cond c ss (s ∷ ss)))
  after_cond b c l m ss s h1 = grind arith

  after_same : (ss : List Stroke) → after_last_where (covers x y) (map (viewed view) ss) ≡ map (viewed view) (after_last_where (covers (seen_x view x) (seen_y view y)) ss)
  after_same [] = refl
  after_same (s ∷ ss) = rw (any_same ss) (after_cond (list_any (covers (seen_x view x) (seen_y view y)) ss) (covers (seen_x view x) (seen_y view y) s) _ _ ss s (after_same ss))

  pub moved_dot : (ss : List Stroke) → label_dot (map (viewed view) ss) x y ≡ label_dot ss (seen_x view x) (seen_y view y)
  unfolding label_dot
  moved_dot ss = rw (after_same ss, colour_same ss) (ap (λ n. reversed n (colour (last_where (covers (seen_x view x) (seen_y view y)) ss))) (count_by-map (reverses x y) (viewed view) (after_last_where (covers (seen_x view x) (seen_y view y)) ss)))

pub dots_move : DotsMove
dots_move view strokes x y = moved_dot view x y strokes

-- places counted back
counted_twice : (b : Bool) (n : ℕ) (p : ℤ) → counted_back b n (counted_back b n p) ≡ p
counted_twice b n p = grind (arith, ints)

counted_other : (b c : Bool) (n : ℕ) (p : ℤ) → counted_back b n (counted_back c n p) ≡ counted_back c n (counted_back b n p)
counted_other b c n p = grind arith

seen_twice_x : (view : View) (x : ℤ) → seen_x view (seen_x view x) ≡ x
seen_twice_x view x = grind (arith, counted_other, counted_twice)

far_end : (n x : ℕ) → x < n → pos (n - 1 - x) ≡ pos n -ℤ pos 1 -ℤ pos x
far_end n x h = omega (arith, ints)

inverted_dot : (view : View) (strokes : List Stroke) (x y : ℕ) → view.inverted ≡ true → x < view.width → y < view.height
    → image_dot view strokes x y ≡ image_dot (upright view) strokes (view.width - 1 - x) (view.height - 1 - y)
inverted_dot view strokes x y e l h = grind (arith, counted_other, far_end, lt-ltb, moved_dot)

mirrored_dot : (view : View) (strokes : List Stroke) (x y : ℕ) → view.mirrored ≡ true → x < view.width → y < view.height
    → image_dot view strokes x y ≡ image_dot (unmirrored view) strokes (view.width - 1 - x) y
mirrored_dot view strokes x y e l h = grind (arith, far_end, lt-ltb, moved_dot)

pub turned_and_mirrored : TurnedAndMirrored
turned_and_mirrored = grind (arith, inverted_dot, mirrored_dot, seen_twice_x, counted_twice)
