-- Columns of ESC *.
use Rattle.std.proofs.Common.{◌≡◌, ◌≢◌, ℕ, ◌+◌, ◌-◌, ◌*◌, ◌<◌, ◌≤◌, ltb, Option, Some, None, Ok, List, [], ◌∷◌, ◌++◌, length, take, drop, get_or, refl, sym, ap, ◌∙◌, arith}
use Rattle.std.proofs.lemmas.Grind.{common_steps}
use Rattle.std.specs.Prelude.{option_to_list}
use Rattle.std.proofs.lemmas.Bool.Decides.{nat_tests}
use Rattle.arrayvec.specs.ArrayVec.{ArrayVec}
use Rattle.vp_esc.specs.declared.item.EscItem.{EscItem}
use Rattle.vp_esc.specs.declared.item.EscItem.TheVariants as items
use Rattle.vp_esc.specs.declared.item.ColumnMode.{ColumnMode}
use Rattle.vp_esc.specs.declared.item.ColumnMode.TheVariants.{Single8, Double8, Single24, Double24}
use Rattle.vp_esc.specs.declared.command.Command.TheVariants.{Columns}
use Rattle.vp_esc.specs.declared.reader.EscReader.{EscReader}
use Rattle.vp_esc.specs.declared.reader.Data.TheVariants as kinds
use Rattle.vp_esc.specs.declared.reader.Phase.TheVariants as phases
use Rattle.vp_esc.specs.Values.{column_mode_of, column_bytes}
use Rattle.vp_esc.specs.Units.{given_by, given_behind, columns, tall_columns}
use Rattle.vp_esc.specs.Reader.{Begun, Advances, Lands, InTallColumns, data_items, tall_or_ground, bytes_or_ground, columns_or_ground, part_of_column}
use Rattle.vp_esc.proofs.Fronts.{lands_by, advances_by, stands_before, begun_longer}
use Rattle.vp_esc.proofs.Heads.{given_is, needs_counted, IsPushed, pushed}
use Rattle.vp_esc.proofs.Phases.{kept_whole}
use Rattle.vp_esc.proofs.Bytes.{land_bytes}

land_short : (r : EscReader) (m nl nh : ℕ) (mode : ColumnMode) (rest : List ℕ) (final : ArrayVec ℕ)
    → Begun r.reading r.lead r.name Columns r.kept.items rest → r.kept.items ≡ m ∷ nl ∷ nh ∷ [] → column_mode_of m ≡ mode
    → column_bytes mode ≡ 1 → ((more : List ℕ) → columns mode more ≡ data_items kinds.Columns more)
    → Lands r.reading (Some (items.Columns mode (nl + 256 * nh))) rest (record r { phase = bytes_or_ground kinds.Columns (nl + 256 * nh); kept = final })
unfolding given_behind
land_short r m nl nh mode rest final b k e one behind =
    let item : EscItem = items.Columns mode (nl + 256 * nh) in
    let g : (more : List ℕ) → given_by r.reading r.lead r.name Columns (m ∷ nl ∷ nh ∷ more) ≡ item ∷ data_items kinds.Columns more = grind (arith, given_is) in
    land_bytes r Columns kinds.Columns (nl + 256 * nh) rest item final b (rw k refl) refl (rw k (rw e (rw one (omega arith)))) refl refl (λ more. refl) (rw k (g [])) (λ more. rw k (g more))

land_tall : (r : EscReader) (m nl nh : ℕ) (mode : ColumnMode) (rest : List ℕ) (final : ArrayVec ℕ)
    → Begun r.reading r.lead r.name Columns r.kept.items rest → r.kept.items ≡ m ∷ nl ∷ nh ∷ [] → column_mode_of m ≡ mode
    → column_bytes mode ≡ 3 → columns mode [] ≡ [] → final.items ≡ []
    → Lands r.reading (Some (items.Columns mode (nl + 256 * nh))) rest (record r { phase = tall_or_ground (3 * (nl + 256 * nh)); kept = final })
unfolding given_behind
land_tall r m nl nh mode rest final b k e three none empty =
    let b' : Begun r.reading r.lead r.name Columns (m ∷ nl ∷ nh ∷ []) rest = rw k at b in
    let left : ℕ = 3 * (nl + 256 * nh) in
    lands_by (ltb 0 left) _ _ refl b' (grind (arith, needs_counted, nat_tests)) (grind (arith, given_is))
    (stands_before (record r { kept = final }) (phases.TallColumns left) left rest (λ h. record {
      args = m ∷ nl ∷ nh ∷ [];
      begun = b';
      left_is = record { head = omega arith; some_left = h; count = rw e (rw three refl) };
      tall = rw e three;
      part = empty;
    }))

pub land_columns : (r : EscReader) (m nl nh : ℕ) (mode : ColumnMode) (rest : List ℕ) (final : ArrayVec ℕ)
    → Begun r.reading r.lead r.name Columns r.kept.items rest → r.kept.items ≡ m ∷ nl ∷ nh ∷ [] → column_mode_of m ≡ mode → final.items ≡ []
    → Lands r.reading (Some (items.Columns mode (nl + 256 * nh))) rest (record r { phase = columns_or_ground mode (nl + 256 * nh); kept = final })
land_columns r m nl nh Single8 rest final b k e empty = land_short r m nl nh Single8 rest final b k e refl (λ more. refl)
land_columns r m nl nh Double8 rest final b k e empty = land_short r m nl nh Double8 rest final b k e refl (λ more. refl)
land_columns r m nl nh Single24 rest final b k e empty = land_tall r m nl nh Single24 rest final b k e refl refl empty
land_columns r m nl nh Double24 rest final b k e empty = land_tall r m nl nh Double24 rest final b k e refl refl empty

-- One more byte of columns of 24 dots.
pub record IsNext (xs : List ℕ) (c : ℕ) (item : Option EscItem) (part : List ℕ) : Type 0 where
  pub gives : tall_columns (xs ++ c ∷ []) ≡ tall_columns xs ++ option_to_list item
  pub part_is : part_of_column (xs ++ c ∷ []) ≡ part

more_next : (x y z : ℕ) (xs : List ℕ) (c : ℕ) (item : Option EscItem) (part : List ℕ) → IsNext xs c item part → IsNext (x ∷ y ∷ z ∷ xs) c item part
more_next x y z xs c item part n = record { gives = ap (λ ys. items.Column24 (x ∷ y ∷ z ∷ []) ∷ ys) n.gives; part_is = n.part_is }

part_next : (xs : List ℕ) (c : ℕ) → length (part_of_column xs) ≢ 2 → IsNext xs c None (part_of_column xs ++ c ∷ [])
part_next (x ∷ y ∷ z ∷ xs) c h = more_next x y z xs c None _ (part_next xs c h)
part_next xs c h = grind arith

whole_next : (xs : List ℕ) (a b c : ℕ) → part_of_column xs ≡ a ∷ b ∷ [] → IsNext xs c (Some (items.Column24 (a ∷ b ∷ c ∷ []))) []
whole_next (x ∷ y ∷ z ∷ xs) a b c h = more_next x y z xs c _ _ (whole_next xs a b c h)
whole_next xs a b c h = grind arith

pub drop_push : (args : List ℕ) (c : ℕ) → 3 ≤ length args → drop 3 (args ++ c ∷ []) ≡ drop 3 args ++ c ∷ []
drop_push args c h = grind arith

first_push : (args : List ℕ) (c : ℕ) → 3 ≤ length args → get_or (args ++ c ∷ []) 0 0 ≡ get_or args 0 0
first_push args c h = grind (arith, common_steps)

tall_step : (r : EscReader) (left c : ℕ) (rest : List ℕ) (item : Option EscItem) (final : ArrayVec ℕ) (hand : InTallColumns r left rest)
    → IsNext (drop 3 hand.args) c item final.items
    → Advances r.reading (Ok item) rest c (record r { phase = tall_or_ground (left - 1); kept = final })
unfolding given_behind
tall_step r left c rest item final hand next =
    let p : IsPushed r.reading Columns hand.args left c = pushed Columns hand.args left c hand.begun.listed refl hand.left_is in
    advances_by _ c item _ refl hand.begun p.listed p.needs (grind (arith, given_is))
    (stands_before (record r { kept = final }) (phases.TallColumns (left - 1)) (left - 1) (rest ++ c ∷ []) (λ h. record {
      args = hand.args ++ c ∷ [];
      begun = begun_longer c hand.begun p.listed;
      left_is = p.left_is (omega arith);
      tall = ap (λ m. column_bytes (column_mode_of m)) (first_push hand.args c hand.left_is.head) ∙ hand.tall;
      part = sym next.part_is ∙ ap part_of_column (sym (drop_push hand.args c hand.left_is.head));
    }))

part_small : (xs : List ℕ) → length (part_of_column xs) < 3
part_small (x ∷ y ∷ z ∷ xs) = part_small xs
part_small xs = omega arith

pub tall_part : (r : EscReader) (left c : ℕ) (rest : List ℕ) (final : ArrayVec ℕ) → InTallColumns r left rest → length r.kept.items ≢ 2
    → final.items ≡ take 255 (r.kept.items ++ c ∷ [])
    → Advances r.reading (Ok None) rest c (record r { phase = tall_or_ground (left - 1); kept = final })
tall_part r left c rest final hand other k =
    let w : final.items ≡ part_of_column (drop 3 hand.args) ++ c ∷ [] = grind (arith, kept_whole, part_small, drop) in
    tall_step r left c rest None final hand (rw w (part_next (drop 3 hand.args) c (rw (← hand.part) other)))

two : (xs : List ℕ) → length xs ≡ 2 → xs ≡ get_or xs 0 0 ∷ get_or xs 1 0 ∷ []
two xs h = grind (arith, common_steps)

pub tall_whole : (r : EscReader) (left c : ℕ) (rest : List ℕ) (final : ArrayVec ℕ) → InTallColumns r left rest → length r.kept.items ≡ 2
    → final.items ≡ []
    → Advances r.reading (Ok (Some (items.Column24 (get_or r.kept.items 0 0 ∷ get_or r.kept.items 1 0 ∷ c ∷ [])))) rest c
    (record r { phase = tall_or_ground (left - 1); kept = final })
tall_whole r left c rest final hand both empty =
    tall_step r left c rest _ final hand (rw empty (whole_next (drop 3 hand.args) _ _ c (sym hand.part ∙ two r.kept.items both)))
