-- What the code keeps of copies that are being put out.
use Rattle.std.specs.Prelude.{◌≡◌, ◌<◌, ◌≤◌}
use Rattle.vp_dots.specs.Headers.{header_of}
use Rattle.vp_copies.specs.declared.copies.Copies.TheInside.{Inside}
use Rattle.vp_label_size.specs.declared.TheConstants.{WIDEST}
use Rattle.vp_copies.specs.Copies.{at}
use Rattle.vp_copies.specs.Progress.{Progress, HasPainted, IsPlaceOf}

abbrev pub progress_of : Inside → Progress
progress_of c = record {
  width = c.width;
  height = c.height;
  place = at c.copies c.place;
  painted = c.painted;
}

pub record IsCopies (c : Inside) : Type 0 where
  pub wide : 0 < c.width
  pub narrow : c.width ≤ WIDEST
  pub high : 0 < c.height
  pub head : c.head.items ≡ header_of c.width c.height
  pub place : IsPlaceOf c.width c.height (at c.copies c.place)
  pub painted : HasPainted (progress_of c)
