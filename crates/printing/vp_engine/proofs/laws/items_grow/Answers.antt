use Rattle.vp_esc.specs.declared.reading.Reading.{Reading as EscReading}
use Rattle.vp_zpl.specs.declared.reading.Reading.{Reading as ZplReading}
use Rattle.vp_engine.specs.Paper.{Reads}
use Rattle.vp_engine.specs.Setups.{esc_reading, zpl_reading}
use Rattle.vp_engine.specs.Setups.{EscPos, Zpl}
use Rattle.vp_engine.specs.Setups.{Receipts, Labels, ListingIn}
use Rattle.std.proofs.Common.{refl, sym}
use Rattle.vp_engine.proofs.Escs.{items_none, fault_none}
use Rattle.vp_engine.proofs.Labels.{items_none as labels_none}
use Rattle.vp_engine.proofs.Offsets.{listed_reads}
use Rattle.vp_engine.proofs.laws.items_grow.Goals as goal

escs : (c : goal.After-only_more-2) (by : EscReading) → Reads (esc_reading by)
escs c by = record {
  nothing = items_none by;
  no_fault = fault_none by;
  grows = λ bytes more. let p = c.only_more.ensures by bytes more in (p.0, sym p.1);
  stays = c.fault_stays.ensures by;
}

zpls : (c : goal.After-only_more-2) (by : ZplReading) → Reads (zpl_reading by)
zpls c by = record {
  nothing = labels_none by;
  no_fault = refl;
  grows = λ bytes more. let p = c.only_more-2.ensures by bytes more in (p.0, sym p.1);
  stays = λ bytes more f e. cc;
}

pub returns : goal.returns
returns c (Receipts by receipt) = escs c by
returns c (Labels by sheets) = zpls c by
returns c (ListingIn w (EscPos by)) = listed_reads (esc_reading by) w (escs c by)
returns c (ListingIn w (Zpl by)) = listed_reads (zpl_reading by) w (zpls c by)
