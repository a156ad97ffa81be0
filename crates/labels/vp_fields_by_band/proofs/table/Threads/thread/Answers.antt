use Rattle.std.proofs.Common.{arith, length, ap, ◌∙◌}
use Rattle.std.proofs.lemmas.List.{with_items_is}
use Rattle.vp_fields_by_band.proofs.table.Threads.thread.Goals as goal

pub returns-clause-table : goal.returns-clause-table
returns-clause-table g c =
    rw (with_items_is c.self.inside.entries c.thread_all.new.entries (omega (arith, c.thread_all.ensures.lengths, c.deref_mut.ensures.len)), with_items_is c.self.inside.heads c.thread_all.new.heads (omega (arith, c.thread_all.ensures.lengths, c.deref_mut-2.ensures.len))) c.thread_all.ensures.table

pub returns-clause-entries : goal.returns-clause-entries
returns-clause-entries g c =
    rw (with_items_is c.self.inside.entries c.thread_all.new.entries (omega (arith, c.thread_all.ensures.lengths, c.deref_mut.ensures.len))) (c.thread_all.ensures.lengths.0 ∙ ap length c.deref_mut.ensures.value ∙ ap (λ t. length t.entries) c.self.view_is)

pub returns-clause-heads : goal.returns-clause-heads
returns-clause-heads g c =
    rw (with_items_is c.self.inside.heads c.thread_all.new.heads (omega (arith, c.thread_all.ensures.lengths, c.deref_mut-2.ensures.len))) (c.thread_all.ensures.lengths.1 ∙ ap length c.deref_mut-2.ensures.value ∙ ap (λ t. length t.heads) c.self.view_is)
