-- A handle goes to another thread as its machine does.
use mir.Raw.{raw}
use base.Shift.{Keyless}
use denote.Memory.{lone}
use denote.RawPtr.{Ptr, block_ptr, null_ptr}
use denote.Builtin.{RawPtr}
use denote.Param.Send.{IsSend, owning_send, struct_send, sendable}
use denote.Struct.Struct.{exits_of}
use denote.Struct.Owning.{shape, fields, to}
use Rattle.std.specs.declared.option.Option.{Option}
use Rattle.std.specs.declared.option.Option.TheVariants.{None, Some}
use Rattle.std.specs.declared.alloc.Global.{Global}
use Rattle.std.proofs.alloc.Global.TheSendSync as heap
use Rattle.std.proofs.Crossing.{frees}
use Rattle.std_alloc.proofs.SendSync.{quiet, lies}
use Rattle.fr_part.proofs.seat.Seat.TheSendSync as seat
use Rattle.fr_part.specs.contracts.seat.Seat.{the_row as seat_row}
use Rattle.fr_part.specs.Held.{holds}
use Rattle.fr_part.specs.contracts.handle.Handle.{the_row, the_type}

held : IsSend seat_row → (a : Global) (p : Ptr) (o : Option seat_row.Denot) → Keyless (holds seat_row a p o)
held s a null_ptr None = tt
held s a null_ptr (Some y) = tt
held s a (block_ptr b i) None = tt
held s a (block_ptr b i) (Some y) = (lies seat_row s (block_ptr b i) y, frees.frees a (raw (lone seat_row.mir)) (block_ptr b i))

pub send : IsSend the_row
send =
    let O = the_type in let ps : IsSend RawPtr = search sendable in
    owning_send O (ps, (heap.the_field_send, tt)) (λ d. held seat.the_send d.alloc d.at d.value)
    (λ k. quiet (to O) (exits_of k (fields O)) ((struct_send (shape O) (ps, (heap.the_field_send, tt))).leaving k))
