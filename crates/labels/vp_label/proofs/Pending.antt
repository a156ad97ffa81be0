-- What is pending is the end of what the newest item printed.
use Rattle.std.proofs.Common.{◌≡◌, ◌<◌, ℕ, List, [], length, drop, ap, arith, length-drop}
use Rattle.std.specs.Prelude.{Result}
use Rattle.std.specs.Result.{OnOk}
use Rattle.std.proofs.lemmas.List.{drop-drop}
use Rattle.vp_glyph.specs.Sheets.{Sheets}
use Rattle.vp_zpl.specs.Items.{Item}
use Rattle.vp_label.specs.declared.gathered.Gathered.{Gathered}
use Rattle.vp_label.specs.Standing.{IsPrinting}

pub none_printing : {A : Type 0} (sheets : Sheets) (g : Gathered A) (before : List Item) (pending : List ℕ) → pending ≡ [] → 0 < length pending → IsPrinting sheets g pending before
none_printing sheets g before pending none some = absurd (omega (arith, ap length none))

-- behind bytes that are put out it still is
pub still_printing : {A : Type 0} (sheets : Sheets) (g : Gathered A) (before : List Item) (old new : List ℕ) (n : ℕ) → new ≡ drop n old → (0 < length old → IsPrinting sheets g old before) →
    0 < length new → IsPrinting sheets g new before
still_printing sheets g before old new n rest is some = grind (arith, length-drop, drop-drop)

pub on_ok_both : {T E P Q R : Type 0} (r : Result T E) → (P → Q → R) → OnOk r P → OnOk r Q → OnOk r R
on_ok_both r f p q = grind arith

pub on_ok_four : {T E P Q R S U : Type 0} (r : Result T E) → (P → Q → R → S → U) → OnOk r P → OnOk r Q → OnOk r R → OnOk r S → OnOk r U
on_ok_four r f p q s u = grind arith
