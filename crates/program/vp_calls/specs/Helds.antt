-- What is held, as C is told it.
use Rattle.vp_engine.specs.declared.held.Held.{Held}
use Rattle.vp_calls.specs.declared.held.HeldNow.{HeldNow}

abbrev pub held_in_c : Held → HeldNow
held_in_c held = record {
  stored = held.stored;
  fields = held.fields;
  line_rows = held.line_rows;
  page_rows = held.page_rows;
  band_rows = held.band_rows;
}

abbrev pub nothing_in_c : HeldNow
nothing_in_c = record { stored = 0; fields = 0; line_rows = 0; page_rows = 0; band_rows = 0 }
