use Rattle.std.proofs.Common.{arith}
use Rattle.std.proofs.lemmas.Bool.{ne_eqb}
use Rattle.vp_format.proofs.Reached.{shown_in}
use Rattle.vp_format.proofs.Places.{read_on, symbols_run, symbols_at_code, symbols_cut, symbols_counted, end_behind, end_read, refused_at}
use Rattle.vp_format.proofs.law.codes_law.Goals as goal

pub returns : goal.returns
returns c = record {
  run = grind (arith, read_on, symbols_run, shown_in);
  row = grind (arith, read_on, symbols_at_code, shown_in);
  again = grind (arith, read_on, symbols_at_code, shown_in);
  end = λ width q j front w r h. end_read width front q j w r h;
  inside = grind (arith, read_on, symbols_at_code, end_behind, ne_eqb);
  other = grind (arith, read_on, symbols_at_code, refused_at);
  counted = grind (arith, read_on, symbols_counted, refused_at);
  cut = grind (arith, read_on, symbols_cut, refused_at);
}
