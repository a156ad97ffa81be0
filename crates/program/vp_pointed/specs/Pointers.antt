-- What a pointer owns.
use base.Fml.{Fml, ftrue, ffalse}
use denote.RattleType.{RattleType}
use denote.RawPtr.{Ptr, null_ptr, block_ptr}
use mir.Syntax.{Ty}
use Rattle.std.specs.Prelude.{Option, None, Some}
use Rattle.std.specs.Box.Ownership.{box_owns}
use Rattle.std.specs.contracts.impls.GlobalAllocator.TheImpl.{ghosts}

-- the right to free a block of the C library's heap
abbrev pub freeable : Ty → Ptr → Fml
freeable = ghosts.dealloc_token (record { memory = record { seal = tt } })

-- the value x of a type on the C library's heap, with the right to free its block
abbrev pub owned_at : (R : RattleType) → Ptr → R.Denot → Fml
owned_at R p x = box_owns freeable R p x

-- nothing at null, else such a value
abbrev pub holds : (R : RattleType) → Ptr → Option R.Denot → Fml
holds R null_ptr None = ftrue
holds R null_ptr (Some x) = ffalse
holds R (block_ptr b o) None = ffalse
holds R (block_ptr b o) (Some x) = owned_at R (block_ptr b o) x
