use Rattle.vp_format.specs.Formats.{held}
use Rattle.vp_bands.proofs.Entries.{spans_kept, table_of}
use Rattle.vp_bands.proofs.table.thread_fields.Goals as goal

pub returns-clause-threaded : goal.returns-clause-threaded
returns-clause-threaded g c = λ sheets stored kept. record {
  kept = kept;
  spanned = spans_kept sheets (held c.args.fields.now stored) c.args.view c.fill.new.threads.entries c.thread.new.self.entries c.thread.ensures.entries c.thread.ensures.spans (c.fill.ensures.spanned sheets stored kept);
  table = table_of c.thread.new.self.entries c.thread.new.self.heads c.thread.ensures.table;
  begins = c.thread.ensures.table.heads;
}
