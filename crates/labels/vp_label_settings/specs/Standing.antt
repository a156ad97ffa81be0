-- What the code keeps of all that is in force.
use Rattle.std.specs.Prelude.{◌≡◌, List}
use Rattle.vp_zpl.specs.Items.{Item}
use Rattle.vp_label_settings.specs.declared.in_force.InForce.{InForce}
use Rattle.vp_label_settings.specs.Formats.{is_open}
use Rattle.vp_label_settings.specs.Settings.{settings_of}
use Rattle.vp_label_settings.specs.Parts.{parts_of}

-- it is what is in force after these items
pub record StandsAfter (s : InForce) (before : List Item) : Type 0 where
  pub is_open : s.is_open ≡ is_open before
  pub settings : s.settings ≡ settings_of before
  pub parts : s.parts ≡ parts_of before
