-- Data of a known length.
use Rattle.std.proofs.Common.{◌≡◌, ℕ, ◌+◌, ◌-◌, ◌*◌, ◌≤◌, true, false, ltb, eqb, Some, Ok, List, [], ◌∷◌, ◌++◌, length, take, get_or, refl, sym, ap, subst, ◌∙◌, append_assoc, arith}
use Rattle.std.proofs.lemmas.Grind.{common_steps}
use Rattle.std.proofs.lemmas.Bool.Decides.{nat_tests}
use Rattle.std.proofs.lemmas.List.{take_all, take-append-le, length-append}
use Rattle.arrayvec.specs.ArrayVec.{ArrayVec}
use Rattle.vp_esc.specs.declared.reading.Reading.{Reading}
use Rattle.vp_esc.specs.declared.item.EscItem.{EscItem}
use Rattle.vp_esc.specs.declared.item.EscItem.TheVariants as items
use Rattle.vp_esc.specs.declared.item.Lead.{Lead}
use Rattle.vp_esc.specs.declared.command.Command.{Command}
use Rattle.vp_esc.specs.declared.command.Command.TheVariants.{Raster, Function, Graphics, ReadPast}
use Rattle.vp_esc.specs.declared.command.ReadPast.{ReadPast as ReadPastCommand}
use Rattle.vp_esc.specs.declared.reader.EscReader.{EscReader}
use Rattle.vp_esc.specs.declared.reader.Data.{Data}
use Rattle.vp_esc.specs.declared.reader.Data.TheVariants as kinds
use Rattle.vp_esc.specs.declared.reader.Phase.TheVariants as phases
use Rattle.vp_esc.specs.Values.{spelled, scale_of}
use Rattle.vp_esc.specs.Command.{head_len, past_len}
use Rattle.vp_esc.specs.Units.{given_by, given_behind, is_counted, data_len, past_data, raster_bytes, unused, prints_rows, is_skipped, stores_bytes}
use Rattle.vp_esc.specs.Reader.{StandsIn, in_phase, Begun, Advances, Lands, InBytes, data_item, data_items, bytes_or_ground, raster_data, are_rows, give_nothing, are_stored}
use Rattle.vp_esc.proofs.Fronts.{lands_by, advances_by, stands_before, begun_longer}
use Rattle.vp_esc.proofs.Heads.{given_is, needs_counted, IsSame, same, IsPushed, pushed}

-- The head, behind which so many bytes come.
pub land_bytes : (r : EscReader) (command : Command) (kind : Data) (left : ℕ) (rest : List ℕ) (item : EscItem) (final : ArrayVec ℕ)
    → Begun r.reading r.lead r.name command r.kept.items rest → length r.kept.items ≡ head_len command r.kept.items
    → is_counted command r.kept.items ≡ true → left ≡ data_len command r.kept.items
    → prints_rows command r.kept.items ≡ are_rows kind → is_skipped command r.kept.items ≡ give_nothing kind
    → ((more : List ℕ) → stores_bytes command (r.kept.items ++ more) ≡ are_stored kind)
    → given_by r.reading r.lead r.name command r.kept.items ≡ item ∷ []
    → ((more : List ℕ) → given_by r.reading r.lead r.name command (r.kept.items ++ more) ≡ item ∷ data_items kind more)
    → Lands r.reading (Some item) rest (record r { phase = bytes_or_ground kind left; kept = final })
land_bytes r command kind left rest item final b enough counted l rows skipped stored g behind =
    lands_by (ltb 0 left) _ _ refl b (grind (arith, needs_counted, nat_tests)) g
    (stands_before (record r { kept = final }) (phases.Bytes kind left) left rest (λ h. record {
      command = command;
      args = r.kept.items;
      begun = b;
      counted = counted;
      left_is = record { head = omega arith; some_left = h; count = omega arith };
      rows = rows;
      skipped = skipped;
      stored = stored;
      gives = λ more. behind more ∙ ap (λ xs. xs ++ data_items kind more) (sym g);
    }))

-- one byte of them
pub bytes_step : (r : EscReader) (kind : Data) (left c : ℕ) (rest : List ℕ) → InBytes r kind left rest
    → Advances r.reading (Ok (data_item kind c)) rest c (record r { phase = bytes_or_ground kind (left - 1) })
bytes_step r kind left c rest hand =
    let p : IsPushed r.reading hand.command hand.args left c = pushed hand.command hand.args left c hand.begun.listed hand.counted hand.left_is in
    advances_by _ c (data_item kind c) _ refl hand.begun p.listed p.needs
    (hand.gives (c ∷ []) ∙ ap (λ xs. given_by r.reading r.lead r.name hand.command hand.args ++ xs) (grind arith))
    (stands_before r (phases.Bytes kind (left - 1)) (left - 1) (rest ++ c ∷ []) (λ h. record {
      command = hand.command;
      args = hand.args ++ c ∷ [];
      begun = begun_longer c hand.begun p.listed;
      counted = p.counted;
      left_is = p.left_is (omega arith);
      rows = p.rows ∙ hand.rows;
      skipped = p.skipped ∙ hand.skipped;
      stored = λ more. ap (stores_bytes hand.command) (append_assoc hand.args (c ∷ []) more) ∙ hand.stored (c ∷ more);
      gives = grind (arith, append_assoc);
    }))

-- a byte of a raster
pub raster_step : (r : EscReader) (left c : ℕ) (rest : List ℕ) → r.phase ≡ phases.Bytes kinds.Raster left → StandsIn r rest
    → Advances r.reading (Ok (Some (items.RasterByte c))) rest c (record r { phase = bytes_or_ground kinds.Raster (left - 1) })
raster_step r left c rest p stands = bytes_step r kinds.Raster left c rest (subst (λ p. in_phase p r rest) p stands)

-- Rasters.

pub six : (xs : List ℕ) → length xs ≡ 6
    → xs ≡ get_or xs 0 0 ∷ get_or xs 1 0 ∷ get_or xs 2 0 ∷ get_or xs 3 0 ∷ get_or xs 4 0 ∷ get_or xs 5 0 ∷ []
six xs h = grind (arith, common_steps)

raster_given : (reading : Reading) (lead : Lead) (name z m xl xh yl yh : ℕ) (more : List ℕ)
    → given_by reading lead name Raster (z ∷ m ∷ xl ∷ xh ∷ yl ∷ yh ∷ more)
    ≡ items.Raster (spelled m (scale_of m)) (xl + 256 * xh) (yl + 256 * yh) ∷ raster_bytes (scale_of m) more
unfolding given_behind
raster_given reading lead name z m xl xh yl yh more = given_is reading lead name Raster (z ∷ m ∷ xl ∷ xh ∷ yl ∷ yh ∷ more) (omega arith)

pub land_raster : (r : EscReader) (z m xl xh yl yh left : ℕ) (rest : List ℕ) → Begun r.reading r.lead r.name Raster r.kept.items rest
    → r.kept.items ≡ z ∷ m ∷ xl ∷ xh ∷ yl ∷ yh ∷ [] → left ≡ (xl + 256 * xh) * (yl + 256 * yh)
    → Lands r.reading (Some (items.Raster (spelled m (scale_of m)) (xl + 256 * xh) (yl + 256 * yh))) rest
    (record r { phase = bytes_or_ground (raster_data (scale_of m)) left })
land_raster r z m xl xh yl yh left rest b k l =
    let item : EscItem = items.Raster (spelled m (scale_of m)) (xl + 256 * xh) (yl + 256 * yh) in
    land_bytes r Raster (raster_data (scale_of m)) left rest item r.kept b (rw k refl) refl (rw k l) (rw k (grind arith)) (rw k (grind arith)) (λ more. grind arith)
    (rw k (raster_given r.reading r.lead r.name z m xl xh yl yh [] ∙ ap (λ xs. item ∷ xs) (grind arith)))
    (λ more. rw k (raster_given r.reading r.lead r.name z m xl xh yl yh more ∙ ap (λ xs. item ∷ xs) (grind arith)))

-- Functions without effect, and graphics.

pub three : (xs : List ℕ) → length xs ≡ 3 → xs ≡ get_or xs 0 0 ∷ get_or xs 1 0 ∷ get_or xs 2 0 ∷ []
three xs h = grind (arith, common_steps)

pub five : (xs : List ℕ) → length xs ≡ 5 → xs ≡ get_or xs 0 0 ∷ get_or xs 1 0 ∷ get_or xs 2 0 ∷ get_or xs 3 0 ∷ get_or xs 4 0 ∷ []
five xs h = grind (arith, common_steps)

pub land_function : (r : EscReader) (x pl ph left : ℕ) (rest : List ℕ) → Begun r.reading r.lead r.name Function r.kept.items rest
    → r.kept.items ≡ x ∷ pl ∷ ph ∷ [] → left ≡ pl + 256 * ph → eqb x 107 ≡ false
    → Lands r.reading (Some (unused r.lead r.name r.kept.items)) rest (record r { phase = bytes_or_ground kinds.Skipped left })
unfolding given_behind
land_function r x pl ph left rest b k l e =
    land_bytes r Function kinds.Skipped left rest (unused r.lead r.name r.kept.items) r.kept b (rw k refl) refl (rw k l) refl (rw k (rw e refl)) (λ more. rw k (rw e refl))
    (rw k (grind (arith, given_is)))
    (λ more. rw k (grind (arith, given_is)))

pub land_graphics : (r : EscReader) (l p q s t left : ℕ) (rest : List ℕ) → Begun r.reading r.lead r.name Graphics r.kept.items rest
    → r.kept.items ≡ l ∷ p ∷ q ∷ s ∷ t ∷ [] → left ≡ p + 256 * q + 65536 * (s + 256 * t)
    → Lands r.reading (Some (unused r.lead r.name r.kept.items)) rest (record r { phase = bytes_or_ground kinds.Skipped left })
unfolding given_behind
land_graphics r l p q s t left rest b k e =
    land_bytes r Graphics kinds.Skipped left rest (unused r.lead r.name r.kept.items) r.kept b (rw k refl) refl (rw k e) refl refl (λ more. refl)
    (rw k (grind (arith, given_is)))
    (λ more. rw k (grind (arith, given_is)))

-- Commands that are read past.

-- their head stays
pub past_front : (past : ReadPastCommand) (args more : List ℕ) → past_len past args ≤ length args
    → take (past_len past (args ++ more)) (args ++ more) ≡ take (past_len past args) args
past_front past args more h =
    let s : IsSame (ReadPast past) args more = same (ReadPast past) args more refl h in
    rw s.head (take-append-le (past_len past args) args more h)

pub land_past : (r : EscReader) (past : ReadPastCommand) (left : ℕ) (rest : List ℕ) → Begun r.reading r.lead r.name (ReadPast past) r.kept.items rest
    → length r.kept.items ≡ past_len past r.kept.items → left ≡ past_data past r.kept.items
    → Lands r.reading (Some (unused r.lead r.name r.kept.items)) rest (record r { phase = bytes_or_ground kinds.Skipped left })
unfolding given_behind
land_past r past left rest b enough e =
    let all : take (past_len past r.kept.items) r.kept.items ≡ r.kept.items = take_all (past_len past r.kept.items) r.kept.items (omega arith) in
    let behind : (more : List ℕ) → given_by r.reading r.lead r.name (ReadPast past) (r.kept.items ++ more) ≡ unused r.lead r.name r.kept.items ∷ [] =
    λ more. given_is r.reading r.lead r.name (ReadPast past) (r.kept.items ++ more) (past_within past r.kept.items more (omega arith))
    ∙ ap (λ xs. unused r.lead r.name xs ∷ []) (past_front past r.kept.items more (omega arith) ∙ all) in
    land_bytes r (ReadPast past) kinds.Skipped left rest (unused r.lead r.name r.kept.items) r.kept b enough refl e refl refl (λ more. refl)
    (given_is r.reading r.lead r.name (ReadPast past) r.kept.items (omega arith) ∙ ap (λ xs. unused r.lead r.name xs ∷ []) all) behind
  where
    past_within : (past : ReadPastCommand) (args more : List ℕ) → past_len past args ≤ length args → past_len past (args ++ more) ≤ length (args ++ more)
    past_within past args more h =
        let s : IsSame (ReadPast past) args more = same (ReadPast past) args more refl h in
        rw s.head (omega (arith, length-append args more))
