-- A pointer may go to another thread where its value may, as the heap's blocks may.
use mir.Raw.{raw as bare}
use denote.Builtin.{RawPtr}
use denote.Memory.{lone}
use denote.Param.Send.{IsSend, owning_send, struct_send, sendable}
use denote.RattleType.{RattleType}
use denote.Struct.Owning.{Owning, shape, fields, to}
use denote.Struct.Struct.{exits_of}
use Rattle.std.below.std_heap.proofs.GlobalAllocator.TheSendSync.{the_frees}
use Rattle.std_alloc.proofs.SendSync.{quiet, lies}
use Rattle.vp_pointed.specs.contracts.pointed.Pointed.{the_row, the_type}

pub send : (R : RattleType) → IsSend R → IsSend (the_row R)
send R s =
    let O : Owning = the_type R in
    let ps : IsSend RawPtr = search sendable in
    owning_send O (ps, tt) (λ h. (lies R s h.at h.value, the_frees.frees (record { memory = record { seal = tt } }) (bare (lone R.mir)) h.at)) (λ k. quiet (to O) (exits_of k (fields O)) ((struct_send (shape O) (ps, tt)).leaving k))
