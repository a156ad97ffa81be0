-- A unit is a row of the table.
use Rattle.std.proofs.Common.{◌≡◌, ℕ, ◌≤◌, ◌<◌, ◌+◌, true, false, ◌&&◌, cond, not, ltb, eqb, Option, None, Some, List, [], ◌∷◌, ◌++◌, length, take, drop, refl, sym, ap, ◌∙◌, arith, ⊎_elim, inl, inr}
use Rattle.std.proofs.lemmas.Grind.{common_steps}
use Rattle.std.specs.List.{list_any}
use Rattle.std.proofs.lemmas.List.{length_push, length-append, length-take-le, take-append-drop}
use Rattle.std.proofs.lemmas.Bool.{cases_Bool, cases_lt}
use Rattle.std.proofs.lemmas.Bool.Decides.{nat_tests}
use Rattle.vp_esc.specs.declared.reading.Reading.{Reading}
use Rattle.vp_esc.specs.declared.reading.Reading.TheVariants.{Profile, Whole}
use Rattle.vp_esc.specs.declared.item.Lead.{Lead}
use Rattle.vp_esc.specs.declared.command.Command.{Command}
use Rattle.vp_esc.specs.declared.command.Command.TheVariants.{Plain, TabStops, Columns, Raster, Symbol, Function, Graphics, ReadPast}
use Rattle.vp_esc.specs.declared.command.ReadPast.{ReadPast as ReadPastCommand}
use Rattle.vp_esc.specs.declared.command.Plain.{Plain as PlainCommand}
use Rattle.vp_esc.specs.declared.command.Plain.TheVariants.{Cut, Sensor, RealTime}
use Rattle.vp_esc.specs.Values.{is_kind_to_zero}
use Rattle.vp_esc.specs.Command.{lead_of, command_of, past_len, head_len, is_listed}
use Rattle.vp_esc.specs.Units.{is_unfinished, is_unfinished_named, is_listed_name, needs_more, is_counted, is_short, data_len, rises_from}
use Rattle.vp_esc.specs.Reader.{last_or}
use Rattle.vp_esc.specs.Laws.{IsUnit, HasUnfinishedFronts}
use Rattle.vp_esc.specs.Table.{IsPlain, IsArea, IsColumns, IsRaster, IsCountedSymbol, IsFunction, IsGraphics, IsReadPast, IsStops, IsToZero, IsArguments, IsUnknown, IsRow}
use Rattle.vp_esc.proofs.Stops.{rises_push}
use Rattle.vp_esc.proofs.Symbols.{no_zero_push}
use Rattle.vp_esc.proofs.Heads.{same, needs_counted, head_push}
use Rattle.vp_esc.proofs.Rows.{IsSized, counted_front}

-- the arguments are whole, and no proper front of them is
record IsWhole (k : Command) (args : List ℕ) : Type 0 where
  pub whole : needs_more k args ≡ false
  pub fronts : (front : List ℕ) (last : ℕ) → args ≡ front ++ last ∷ [] → needs_more k front ≡ true

-- a list is empty, or has a last number
record HasLast (xs : List ℕ) : Type 0 where
  pub front : List ℕ
  pub last : ℕ
  pub is : xs ≡ front ++ last ∷ []

last_of : (x : ℕ) (xs : List ℕ) → HasLast (x ∷ xs)
last_of x [] = record { front = []; last = x; is = refl }
last_of x (y ∷ xs) =
    let l : HasLast (y ∷ xs) = last_of y xs in record { front = x ∷ l.front; last = l.last; is = ap (λ z. x ∷ z) l.is }

-- Counted data.

sized_of : (k : Command) (args : List ℕ) → is_counted k args ≡ true → IsWhole k args → IsSized k args
sized_of k [] c w = grind (arith, needs_counted, nat_tests)
sized_of k (a ∷ args) c w =
    let l : HasLast (a ∷ args) = last_of a args in
    let s : length (l.front ++ l.last ∷ []) ≡ head_len k (l.front ++ l.last ∷ []) + data_len k (l.front ++ l.last ∷ []) = grind (arith, length_push, needs_counted, head_push, nat_tests, counted_front, same) in
    record { counted = c; len = rw (← l.is) at s }

-- Each command's row.

nil_of : (xs : List ℕ) → length xs ≡ 0 → xs ≡ []
nil_of xs h = grind (arith, common_steps)

area_row : (args : List ℕ) → length args ≡ 8 → IsArea args
area_row (a ∷ b ∷ c ∷ d ∷ e ∷ f ∷ g ∷ i ∷ []) h = grind arith
area_row args h = absurd (omega arith)

cut_row : (args : List ℕ) → IsSized (Plain Cut) args → IsPlain Cut args
cut_row [] s = absurd (omega (arith, s.len))
cut_row (m ∷ []) s = grind arith
cut_row (m ∷ n ∷ []) s = grind arith
cut_row (m ∷ n ∷ x ∷ args) s = grind arith

sensor_row : (args : List ℕ) → IsSized (Plain Sensor) args → IsPlain Sensor args
sensor_row (m ∷ n ∷ []) s = grind (arith, nat_tests)
sensor_row args s = absurd (omega (arith, s.len))

real_time_row : (args : List ℕ) → IsSized (Plain RealTime) args → IsPlain RealTime args
real_time_row [] s = absurd (omega (arith, s.len))
real_time_row (m ∷ []) s = grind arith
real_time_row (m ∷ n ∷ []) s = grind arith
real_time_row (m ∷ n ∷ x ∷ args) s = grind arith

raster_row : (args : List ℕ) → IsSized Raster args → IsRaster args
raster_row args s = grind (arith, common_steps)

graphics_row : (args : List ℕ) → IsSized Graphics args → IsGraphics args
graphics_row args s = grind (arith, common_steps)

-- the first argument says how long the head is
past_first : (past : ReadPastCommand) (a : ℕ) (xs ys : List ℕ) → past_len past (a ∷ xs) ≡ past_len past (a ∷ ys)
past_first past a xs ys = grind arith

past_row : (past : ReadPastCommand) (args : List ℕ) → IsSized (ReadPast past) args → IsReadPast past args
past_row past [] s = absurd (grind arith)
past_row past (a ∷ args) s =
    let n : ℕ = past_len past (a ∷ args) in
    let head : List ℕ = take n (a ∷ args) in
    let behind : List ℕ = drop n (a ∷ args) in
    let long : length head ≡ n = length-take-le n (a ∷ args) (omega (arith, s.len)) in
    let same_len : past_len past head ≡ n = grind (arith, past_first) in
    let both : head ++ behind ≡ a ∷ args = take-append-drop n (a ∷ args) in
    let t = same (ReadPast past) head behind refl (omega arith) in
    record {
      head = head;
      parameters = behind;
      bytes = sym both;
      head_count = long ∙ sym same_len;
      count = grind (arith, length-append);
    }

-- Data whose end a byte tells.

stops_row : (args : List ℕ) → IsWhole TabStops args → IsStops args
unfolding needs_more
stops_row [] w = let d : true ≡ false = w.whole in cc
stops_row (a ∷ args) w =
    let l : HasLast (a ∷ args) = last_of a args in
    let n = w.fronts l.front l.last l.is in
    let both : (rises_from 0 l.front ≡ true) × (ltb (length l.front) 32 ≡ true) = grind (arith, n) in
    let d : (rises_from 0 (l.front ++ l.last ∷ []) && ltb (length (l.front ++ l.last ∷ [])) 32) ≡ false = ap (needs_more TabStops) (sym l.is) ∙ w.whole in
    let p : rises_from 0 (l.front ++ l.last ∷ []) ≡ ltb (last_or 0 l.front) l.last = rises_push 0 l.front
    l.last ∙ rw (both.0) refl in
    let len : length (l.front ++ l.last ∷ []) ≡ length l.front + 1 = length_push l.front l.last in
    record {
      stops = l.front;
      last = l.last;
      bytes = l.is;
      rise = both.0;
      few = grind (arith, nat_tests);
      ends = ⊎_elim
          (λ (h : l.last < last_or 0 l.front + 1). inl (omega arith))
          (λ (h : last_or 0 l.front + 1 ≤ l.last).
          let r : ltb (last_or 0 l.front) l.last ≡ true = grind (arith, nat_tests) in
          let f : ltb (length (l.front ++ l.last ∷ [])) 32 ≡ false = rw (p, r) at d in
          inr (grind (arith, nat_tests)))
          (cases_lt l.last (last_or 0 l.front + 1));
    }

zero_row : (args : List ℕ) → is_counted Symbol args ≡ false → IsWhole Symbol args → IsToZero args
unfolding needs_more
zero_row [] e w = let d : true ≡ false = w.whole in cc
zero_row (m ∷ []) e w = grind arith
zero_row (m ∷ x ∷ args) e w =
    let z : is_kind_to_zero m ≡ true = grind arith in
    let l : HasLast (x ∷ args) = last_of x args in
    let n : cond (is_kind_to_zero m) (not (list_any (λ b. eqb b 0) l.front)) (is_short Symbol (m ∷ l.front)) ≡ true =
    w.fronts (m ∷ l.front) l.last (ap (λ y. m ∷ y) l.is) in
    let none : list_any (λ b. eqb b 0) l.front ≡ false = grind arith in
    let d : not (list_any (λ b. eqb b 0) (x ∷ args)) ≡ false = rw z at w.whole in
    let some : list_any (λ b. eqb b 0) (l.front ++ l.last ∷ []) ≡ true = rw (← l.is) (grind arith) in
    let zero : l.last ≡ 0 = let q : eqb l.last 0 ≡ true = sym (no_zero_push l.front l.last none) ∙ some in grind (arith, nat_tests) in
    record {
      kind = m;
      codes = l.front;
      bytes = ap (λ y. m ∷ y) (l.is ∙ ap (λ y. l.front ++ y ∷ []) zero);
      is_kind = z;
      no_zero = none;
    }

plain_row : (p : PlainCommand) (args : List ℕ) → IsSized (Plain p) args → IsPlain p args
plain_row p args s = grind (arith, nil_of, area_row, cut_row, sensor_row, real_time_row)

columns_row : (args : List ℕ) → IsSized Columns args → IsColumns args
columns_row args s = grind (arith, common_steps)

counted_row : (args : List ℕ) → is_counted Symbol args ≡ true → IsSized Symbol args → IsCountedSymbol args
counted_row args e s = grind (arith, common_steps)

function_row : (args : List ℕ) → IsSized Function args → IsFunction args
function_row args s = grind (arith, common_steps)

arguments_of : (k : Command) (args : List ℕ) → IsWhole k args → IsArguments k args
arguments_of (Plain p) args w = plain_row p args (sized_of (Plain p) args refl w)
arguments_of TabStops args w = stops_row args w
arguments_of Columns args w = columns_row args (sized_of Columns args refl w)
arguments_of Raster args w = raster_row args (sized_of Raster args refl w)
arguments_of Symbol args w = ⊎_elim
    (λ (e : is_counted Symbol args ≡ true). inr (counted_row args e (sized_of Symbol args e w)))
    (λ (e : is_counted Symbol args ≡ false). inl (zero_row args e w))
    (cases_Bool (is_counted Symbol args))
arguments_of Function args w = function_row args (sized_of Function args refl w)
arguments_of Graphics args w = graphics_row args (sized_of Graphics args refl w)
arguments_of (ReadPast past) args w = past_row past args (sized_of (ReadPast past) args refl w)

-- Units.

listed_front : (reading : Reading) (k : Command) (front : List ℕ) (x : ℕ) → is_listed reading k (front ++ x ∷ []) ≡ true → is_listed reading k front ≡ true
listed_front reading k front x l = grind arith

-- a command that is listed
of_listed : (reading : Reading) (lead : Lead) (b name : ℕ) (args : List ℕ) (k : Command) → lead_of b ≡ Some lead → command_of reading lead name ≡ Some k
    → is_listed reading k args ≡ true → IsUnit reading (b ∷ name ∷ args) → IsRow reading (b ∷ name ∷ args)
unfolding is_unfinished
of_listed reading lead b name args k e f l u =
    inr (inl (record {
      lead = lead;
      name = name;
      command = k;
      args = args;
      named = f;
      listed = l;
      arguments = arguments_of k args (record {
        whole = rw (e, f, l) at u.whole;
        fronts = λ front x p.
            let o : is_unfinished reading (b ∷ name ∷ front) ≡ true = u.shortest (b ∷ name ∷ front) (x ∷ []) (ap (λ y. b ∷ name ∷ y) p) (λ q. cc q) in
            let listed : is_listed reading k front ≡ true = listed_front reading k front x (rw (← p) l) in
            rw (e, f, listed) at o;
      });
      bytes_are = ap (λ y. y ∷ name ∷ args) (sym (grind (arith, nat_tests)));
    }))

-- no argument behind a byte that is unknown, and none behind an argument that is
no_more : (lead : Lead) (b name : ℕ) (args : List ℕ) (o : Option Command) → lead_of b ≡ Some lead → command_of Whole lead name ≡ o
    → is_listed_name Whole o args ≡ false → HasUnfinishedFronts Whole (b ∷ name ∷ args) → IsUnknown o args
unfolding is_unfinished
no_more lead b name [] None e f l u = refl
no_more lead b name (x ∷ args) None e f l u =
    let o : is_unfinished Whole (b ∷ name ∷ []) ≡ true = u (b ∷ name ∷ []) (x ∷ args) refl (λ q. cc q) in
    let d : false ≡ true = rw (e, f) at o in cc
no_more lead b name [] (Some k) e f l u = cc
no_more lead b name (x ∷ []) (Some k) e f l u = record { first = x; bytes = refl; is = l }
no_more lead b name (x ∷ y ∷ args) (Some k) e f l u =
    let o : is_unfinished Whole (b ∷ name ∷ x ∷ []) ≡ true = u (b ∷ name ∷ x ∷ []) (y ∷ args) refl (λ q. cc q) in
    let d : false ≡ true = rw (e, f, l) at o in cc

-- what is no command
of_none : (reading : Reading) (lead : Lead) (b name : ℕ) (args : List ℕ) (o : Option Command) → lead_of b ≡ Some lead → command_of reading lead name ≡ o
    → is_listed_name reading o args ≡ false → is_unfinished_named reading o args ≡ false → IsUnit reading (b ∷ name ∷ args) → IsRow reading (b ∷ name ∷ args)
of_none Profile lead b name args None e f l w u = cc
of_none Profile lead b name args (Some k) e f l w u = let d : true ≡ false = rw l at w in cc
of_none Whole lead b name args o e f l w u =
    inr (inr (record {
      whole = refl;
      lead = lead;
      name = name;
      args = args;
      unknown = rw f (no_more lead b name args o e f l u.shortest);
      bytes_are = ap (λ y. y ∷ name ∷ args) (sym (grind (arith, nat_tests)));
    }))

unit_named : (reading : Reading) (lead : Lead) (b name : ℕ) (args : List ℕ) (o : Option Command) → lead_of b ≡ Some lead → command_of reading lead name ≡ o
    → IsUnit reading (b ∷ name ∷ args) → IsRow reading (b ∷ name ∷ args)
unfolding is_unfinished
unit_named reading lead b name args None e f u = of_none reading lead b name args None e f refl (rw (e, f) at u.whole) u
unit_named reading lead b name args (Some k) e f u = ⊎_elim
    (λ (l : is_listed reading k args ≡ true). of_listed reading lead b name args k e f l u)
    (λ (l : is_listed reading k args ≡ false). of_none reading lead b name args (Some k) e f l (rw (e, f) at u.whole) u)
    (cases_Bool (is_listed reading k args))

unit_after : (reading : Reading) (o : Option Lead) (b : ℕ) (bytes : List ℕ) → lead_of b ≡ o → IsUnit reading (b ∷ bytes) → IsRow reading (b ∷ bytes)
unfolding is_unfinished
unit_after reading None b [] e u = inl (record { byte = b; bytes_are = refl; no_lead = e })
unit_after reading None b (x ∷ bytes) e u =
    let o : is_unfinished reading (b ∷ []) ≡ true = u.shortest (b ∷ []) (x ∷ bytes) refl (λ q. cc q) in let d : false ≡ true = rw e at o in cc
unit_after reading (Some lead) b [] e u = let d : true ≡ false = rw e at u.whole in cc
unit_after reading (Some lead) b (name ∷ args) e u = unit_named reading lead b name args (command_of reading lead name) e refl u

pub only_rows_lem : (reading : Reading) (bytes : List ℕ) → IsUnit reading bytes → IsRow reading bytes
unfolding is_unfinished
only_rows_lem reading bytes u = grind (arith, unit_after)
