use Rattle.std.proofs.Common.{refl}
use Rattle.vp_esc.specs.Reader.{Stands}
use Rattle.vp_esc.proofs.Splits.{gives-from_advances, stands-from_advances, sticks-from_advances, reads_so}
use Rattle.vp_esc.proofs.Kept.{lent_fault}
use Rattle.vp_esc.proofs.reader.EscReader.take.Goals as goal

pub returns-in-Ok-Nothing : goal.returns-in-Ok-Nothing
unfolding Stands
returns-in-Ok-Nothing c =
    let event = rw c.in-Ok-Nothing.field-0-is at c.in-Ok-Nothing.ensures in (
      (refl, (λ _. tt), (λ reading bytes stands. stands-from_advances reading _ bytes _ _ (reads_so stands.0 (c.event.ensures _ stands.1)))),
      record {
        stands = tt;
        gives = λ reading bytes stands. gives-from_advances reading _ bytes _ _ (reads_so stands.0 (event _ stands.1));
        sticks = λ reading bytes fault stands e. lent_fault _ fault (sticks-from_advances reading _ bytes _ _ fault (reads_so stands.0 (event _ stands.1)) e);
      },
    )

pub returns-in-Ok-Given : goal.returns-in-Ok-Given
unfolding Stands
returns-in-Ok-Given c =
    let event = rw c.in-Ok-Given.field-0-is at c.in-Ok-Given.ensures in (
      (refl, (λ _. tt), (λ reading bytes stands. stands-from_advances reading _ bytes _ _ (reads_so stands.0 (c.event.ensures _ stands.1)))),
      record {
        stands = tt;
        gives = λ reading bytes stands. gives-from_advances reading _ bytes _ _ (reads_so stands.0 (event _ stands.1));
        sticks = λ reading bytes fault stands e. lent_fault _ fault (sticks-from_advances reading _ bytes _ _ fault (reads_so stands.0 (event _ stands.1)) e);
      },
    )

pub returns-in-Err : goal.returns-in-Err
unfolding Stands
returns-in-Err c = (
  (refl, (λ _. tt), (λ reading bytes stands. stands-from_advances reading _ bytes _ _ (reads_so stands.0 (c.event.ensures _ stands.1)))),
  record {
    stands = tt;
    gives = λ reading bytes stands. gives-from_advances reading _ bytes _ _ (reads_so stands.0 (c.in-Err.ensures _ stands.1));
    sticks = λ reading bytes fault stands e. lent_fault _ fault (sticks-from_advances reading _ bytes _ _ fault (reads_so stands.0 (c.in-Err.ensures _ stands.1)) e);
  },
)
