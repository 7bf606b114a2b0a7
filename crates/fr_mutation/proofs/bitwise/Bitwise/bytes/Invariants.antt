use Rattle.std.proofs.Common.{◌≡◌, ◌-◌, ◌++◌, length, drop}
use Rattle.fr_mutation.specs.Values.{fitted, bytewise, byte_of}
use Rattle.fr_mutation.proofs.bitwise.Bitwise.bytes.Given as goal

-- the bytes so far, and those of what is left
abbrev pub invariant-loop-i : goal.invariant-loop-i
invariant-loop-i l = l.bytes.items ++ bytewise (byte_of l.self) (fitted (length l.param - l.i) (drop l.i l.old)) (drop l.i l.param) ≡ bytewise (byte_of l.self) (fitted (length l.param) l.old) l.param
