-- A handle may go to another thread, as its asker and the heap's blocks may.
use mir.Raw.{raw as bare}
use base.Shift.{Keyless}
use denote.Builtin.{RawPtr}
use denote.Memory.{lone}
use denote.Param.Send.{IsSend, owning_send, struct_send, sendable}
use denote.RawPtr.{Ptr, block_ptr, null_ptr}
use denote.Struct.Owning.{Owning, shape, fields, to}
use denote.Struct.Struct.{exits_of}
use Rattle.std.specs.Prelude.{Option, None, Some}
use Rattle.std.below.std_heap.proofs.GlobalAllocator.TheSendSync.{the_frees}
use Rattle.std_alloc.proofs.SendSync.{quiet, lies}
use Rattle.vp_pointed.specs.Pointers.{holds}
use Rattle.vp_asking.proofs.asker.Asker.TheSendSync.{the_send}
use Rattle.vp_asking.specs.contracts.handle.AskerHandle.{the_row, the_type}
use Rattle.vp_asking.proofs.Handles.{P}

held : (p : Ptr) (x : Option P.Denot) → Keyless (holds P p x)
held null_ptr None = tt
held null_ptr (Some x) = tt
held (block_ptr b o) None = tt
held (block_ptr b o) (Some x) = (lies P the_send (block_ptr b o) x, the_frees.frees (record { memory = record { seal = tt } }) (bare (lone P.mir)) (block_ptr b o))

pub send : IsSend the_row
send =
    let O : Owning = the_type in
    let ps : IsSend RawPtr = search sendable in
    owning_send O (ps, tt) (λ h. held h.at h.asker) (λ k. quiet (to O) (exits_of k (fields O)) ((struct_send (shape O) (ps, tt)).leaving k))
