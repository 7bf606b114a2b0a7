-- What a handle owns: nothing if it is empty, and else the machine at its pointer with the right to free its block.
use base.Fml.{Fml, ftrue, ffalse}
use denote.RattleType.{RattleType}
use denote.RawPtr.{Ptr, block_ptr, null_ptr}
use Rattle.std.specs.Box.Ownership.{box_owns}
use Rattle.std.specs.declared.option.Option.{Option}
use Rattle.std.specs.declared.option.Option.TheVariants.{None, Some}
use Rattle.std.specs.declared.alloc.Global.{Global}
use Rattle.std.specs.contracts.impls.GlobalAllocator.TheImpl.{ghosts}

module _ (R : RattleType) (a : Global) where
  abbrev pub holds : Ptr → Option R.Denot → Fml
  holds null_ptr None = ftrue
  holds null_ptr (Some x) = ffalse
  holds (block_ptr b i) None = ffalse
  holds (block_ptr b i) (Some x) = box_owns (ghosts.dealloc_token a) R (block_ptr b i) x
