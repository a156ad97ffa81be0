-- The items of bytes: those of a raster's bytes come before any other item does.
use Rattle.std.proofs.lemmas.Grind.{common_steps}
use Rattle.std.proofs.Common.{◌≡◌, ℕ, suc, ◌+◌, ◌-◌, ◌*◌, ◌≤◌, ◌<◌, ◌==◌, Bool, true, false, List, [], ◌∷◌, ◌++◌, length, map, reverse, Option, None, inl, inr, refl, arith, length-append}
use Rattle.std.specs.List.{flat_map, AllByRecursion}
use Rattle.std.proofs.Math.Nat.{suc-mul}
use Rattle.std.proofs.lemmas.Bool.{eqb-true, eqb-false}
use Rattle.std.proofs.lemmas.List.{append-nil}
use Rattle.vp_esc.specs.declared.reading.Reading.{Reading}
use Rattle.vp_esc.specs.declared.item.EscItem.{EscItem}
use Rattle.vp_esc.specs.declared.item.EscItem.TheVariants.{Raster, RasterByte}
use Rattle.vp_esc.specs.declared.item.RasterScale.{RasterScale}
use Rattle.vp_esc.specs.Laws.{IsUnit, Splits}
use Rattle.vp_esc.specs.Split.{split, items}
use Rattle.vp_esc.specs.Units.{is_unfinished, given, raster_bytes as given_bytes}
use Rattle.vp_receipt_settings.specs.Rasters.{raster_bytes, rows_to_come, row_so_far}
use Rattle.vp_receipt.proofs.Begun.{IsOrderly}
use Rattle.vp_receipt.proofs.UnitKinds.{IsOther, IsRasterGiven, Kind, kinds}

-- items onto those before them
abbrev onto : List EscItem → List EscItem → List EscItem
onto [] before = before
onto (item ∷ items) before = onto items (item ∷ before)

onto_is : (items before : List EscItem) → onto items before ≡ reverse items ++ before
onto_is [] before = refl
onto_is (item ∷ items) before = grind (arith, common_steps, onto_is items (item ∷ before))

onto_more : (xs ys before : List EscItem) → onto (xs ++ ys) before ≡ onto ys (onto xs before)
onto_more [] ys before = refl
onto_more (x ∷ xs) ys before = onto_more xs ys (x ∷ before)

-- no raster has begun
abbrev IsBetween : List EscItem → Type 0
IsBetween before = IsOrderly before × (rows_to_come before ≡ 0)

others_next : (items before : List EscItem) → AllByRecursion IsOther items → IsBetween before → IsBetween (onto items before)
others_next [] before h b = b
others_next (item ∷ items) before h b = others_next items (item ∷ before) h.1 (grind arith)

-- so many bytes of a raster are enough
record IsEnough (before : List EscItem) (n : ℕ) : Type 0 where
  pub count : rows_to_come before * raster_bytes before ≤ length (row_so_far before) + n
  pub within : 0 < rows_to_come before → length (row_so_far before) < raster_bytes before

row_less : (rows bytes got n : ℕ) → rows * bytes ≤ got + suc n → got + 1 ≡ bytes → (rows - 1) * bytes ≤ n
row_less rows bytes got n h e = grind (arith, suc-mul, h, e, (suc-mul rows bytes), common_steps)

none_left : (rows bytes got : ℕ) → rows * bytes ≤ got + 0 → (0 < rows → got < bytes) → rows ≡ 0
none_left rows bytes got h1 h2 = grind arith

module _ (before : List EscItem) (byte n : ℕ) (enough : IsEnough before (suc n)) where
  abbrev after : List EscItem
  after = RasterByte byte ∷ before

  by_row : (ends none : Bool) → (length (row_so_far before) + 1 == raster_bytes before) ≡ ends → (rows_to_come before == 0) ≡ none → IsEnough after n
  by_row true none e z = grind (arith, eqb-true, row_less (rows_to_come before) (raster_bytes before) (length (row_so_far before)) n enough.count)
  by_row false true e z = grind (arith, eqb-true)
  by_row false false e z = grind (arith, length-append, eqb-false)

  enough_next : IsEnough after n
  enough_next = by_row (length (row_so_far before) + 1 == raster_bytes before) (rows_to_come before == 0) refl refl

all_come : (dots : List ℕ) (before : List EscItem) → IsEnough before (length dots) → rows_to_come (onto (map (λ b. RasterByte b) dots) before) ≡ 0
all_come [] before enough = none_left (rows_to_come before) (raster_bytes before) (length (row_so_far before)) enough.count enough.within
all_come (b ∷ dots) before enough = all_come dots (RasterByte b ∷ before) (enough_next before b (length dots) enough)

bytes_orderly : (dots : List ℕ) (before : List EscItem) → IsOrderly before → IsOrderly (onto (map (λ b. RasterByte b) dots) before)
bytes_orderly [] before o = o
bytes_orderly (b ∷ dots) before o = bytes_orderly dots (RasterByte b ∷ before) o

given_orderly : (value : Option RasterScale) (dots : List ℕ) (before : List EscItem) → IsOrderly before → IsOrderly (onto (given_bytes value dots) before)
given_orderly value dots before h1 = grind (arith, bytes_orderly)

given_whole : (value : Option RasterScale) (dots : List ℕ) (before : List EscItem) → (value ≡ None → rows_to_come before ≡ 0) → IsEnough before (length dots) →
    rows_to_come (onto (given_bytes value dots) before) ≡ 0
given_whole value dots before h1 h2 = grind (arith, all_come)

module _ (given : List EscItem) (part : Bool) (r : IsRasterGiven given part) (before : List EscItem) (b : IsBetween before) where
  abbrev head : EscItem
  head = Raster r.scale r.bytes r.rows

  raster_orderly : IsOrderly (onto given before)
  raster_orderly = grind (arith, IsOrderly, given_orderly)

  enough_given : part ≡ false → IsEnough (head ∷ before) (length r.dots)
  enough_given whole = grind arith

  raster_whole : part ≡ false → rows_to_come (onto given before) ≡ 0
  raster_whole whole = grind (arith, given_whole, enough_given)

unit_next : (given before : List EscItem) (part : Bool) → Kind given part → part ≡ false → IsBetween before → IsBetween (onto given before)
unit_next given before part (inl o) whole b = others_next given before o.each b
unit_next given before part (inr r) whole b = (raster_orderly given part r before b, raster_whole given part r before b whole)

rest_next : (given before : List EscItem) (part : Bool) → Kind given part → IsBetween before → IsOrderly (onto given before)
rest_next given before part (inl o) b = (others_next given before o.each b).0
rest_next given before part (inr r) b = raster_orderly given part r before b

units_next : (reading : Reading) (units : List (List ℕ)) (before : List EscItem) → AllByRecursion (IsUnit reading) units → IsBetween before → IsBetween (onto (flat_map (given reading) units) before)
units_next reading [] before each b = b
units_next reading (unit ∷ units) before each b = grind (arith, units_next reading units (onto (given reading unit) before) each.1 (unit_next (given reading unit) before (is_unfinished reading unit) (kinds reading unit) each.0.whole b), onto_more, unit_next, kinds)

module _ (reading : Reading) (bytes : List ℕ) (s : Splits reading bytes (split reading bytes).units (split reading bytes).rest) where
  history_is : reverse (items reading bytes) ≡ onto (given reading (split reading bytes).rest) (onto (flat_map (given reading) (split reading bytes).units) [])
  unfolding items
  history_is = grind (arith, append-nil, onto_is, onto_more)

  -- in the items of bytes
  pub items_orderly : IsOrderly (reverse (items reading bytes))
  items_orderly = grind (arith, IsOrderly, history_is, rest_next, kinds, units_next)

  -- and where they end with a whole command, all rows have come
  pub items_whole : (split reading bytes).rest ≡ [] → rows_to_come (reverse (items reading bytes)) ≡ 0
  unfolding given
  items_whole e =
      let between : IsBetween (onto (flat_map (given reading) (split reading bytes).units) []) = units_next reading (split reading bytes).units [] s.each (tt, refl) in
      let none : given reading (split reading bytes).rest ≡ [] = rw e refl in
      rw (history_is, none) between.1
