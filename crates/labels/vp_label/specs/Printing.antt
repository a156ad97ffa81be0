-- What a label printer keeps.
use Rattle.std.specs.Prelude.{◌<◌}
use Rattle.vp_label.specs.declared.label.Label.TheInside.{Inside}
use Rattle.vp_label.specs.Gathered.{held_of, IsGathered}
use Rattle.vp_label.specs.Press.{left, IsPress}
use Rattle.vp_label.specs.Prints.{view_of}
use Rattle.vp_label.specs.Standing.{Printing}

abbrev pub printing_of : {A : Type 0} → Inside A → Printing A
printing_of l = record {
  sheets = l.sheets;
  gathered = l.gathered;
  press = l.press;
  pending = left l.sheets (held_of l.gathered) (view_of l.gathered.in_force.settings) l.press;
}

-- while bytes are left, they are of the format that is held
pub record IsLabel {A : Type 0} (l : Inside A) : Type 0 where
  pub gathered : IsGathered l.sheets l.gathered
  pub press : 0 < l.press.copies.place.copies →
      IsPress l.sheets (held_of l.gathered) (view_of l.gathered.in_force.settings) l.press
