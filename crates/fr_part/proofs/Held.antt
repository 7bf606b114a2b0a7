-- What a handle owns, at the rows of this crate: the allocator, the machine and the handle.
--     held_cases     nothing at null, or the machine in a block, whose pointer may be tested
use Rattle.std.proofs.Common.{◌≡◌, ℕ, List, ◌∷◌, refl}
use seplogic.Ra.Ura.{Ura}
use mir.Raw.{raw as bare}
use base.Logic.{ent, guard, guard_i, via, snd∗, never_e}
use base.Fraction.{full_share}
use base.Fml.{ftrue}
use types.Logic.{Logic, sem}
use types.Kit.{Item, Goal, Seq, ‵, given, ◌$◌, drop, use1, learn}
use contract.Monad.{fact_use}
use denote.RattleType.{RattleType}
use denote.Memory.{lone}
use denote.RawPtr.{Ptr, block_ptr, null_ptr, lies_at, Testable}
use denote.Param.Laws.{Laws}
use Rattle.std.specs.declared.option.Option.{Option}
use Rattle.std.specs.declared.option.Option.TheVariants.{None, Some}
use Rattle.std.specs.declared.alloc.Global.{Global}
use Rattle.std.specs.contracts.alloc.Global as heap
use Rattle.std.proofs.alloc.Global.TheLaws as heap_laws
use Rattle.std.specs.contracts.impls.GlobalAllocator.TheImpl.{ghosts}
use Rattle.std.proofs.GlobalToken.{dealloc_token-Testable}
use Rattle.std.specs.Box.Ownership.{box_owns}
use Rattle.fr_part.specs.contracts.seat.Seat.{the_row as machine_row}
use Rattle.fr_part.specs.Held.{holds}
use Rattle.fr_part.specs.contracts.handle.Handle as handle

abbrev pub Z : RattleType
Z = heap.the_row

abbrev pub LZ : Laws Z
LZ = heap_laws.the_row_laws

abbrev pub R : RattleType
R = machine_row

abbrev pub Held : RattleType
Held = handle.the_row

module _ {M : Type 1} {𝓤 : Ura M} (𝓛 : Logic 𝓤) (a : Global) (p : Ptr) (x : R.Denot) where
  tested : ent 𝓤 (sem 𝓛 (box_owns (ghosts.dealloc_token a) R p x)) (guard 𝓤 (Testable p) (sem 𝓛 (box_owns (ghosts.dealloc_token a) R p x)))
  tested = fact_use 𝓤 (Testable p)
      (via 𝓤 _ (snd∗ 𝓤 (sem 𝓛 (lies_at R full_share p x)) (sem 𝓛 (ghosts.dealloc_token a (bare (lone R.mir)) p))) (dealloc_token-Testable 𝓛 a (bare (lone R.mir)) p))
      (guard_i 𝓤 (Testable p) (sem 𝓛 (box_owns (ghosts.dealloc_token a) R p x)))

module _ {M : Type 1} {𝓤 : Ura M} {𝓛 : Logic 𝓤} {K : Type 0} {Γ : List (Item 𝓤)} {G : Goal 𝓤 𝓛.H} where
  pub held_cases : K → (a : Global) (p : Ptr) (o : Option R.Denot)
      → (p ≡ null_ptr → o ≡ None → Seq K 𝓛 Γ G)
      → ((b i : ℕ) (x : R.Denot) → p ≡ block_ptr b i → o ≡ Some x → Testable (block_ptr b i) → Seq K 𝓛 (‵ (box_owns (ghosts.dealloc_token a) R (block_ptr b i) x) ∷ Γ) G)
      → Seq K 𝓛 (‵ (holds R a p o) ∷ Γ) G
  held_cases t a null_ptr None empty full = drop t $ empty refl refl
  held_cases t a null_ptr (Some x) empty full = use1 𝓛 (given ⊥ (‵ ftrue)) (never_e 𝓤 _) $ learn t (λ wrong. absurd wrong)
  held_cases t a (block_ptr b i) None empty full = use1 𝓛 (given ⊥ (‵ ftrue)) (never_e 𝓤 _) $ learn t (λ wrong. absurd wrong)
  held_cases t a (block_ptr b i) (Some x) empty full = let p : Ptr = block_ptr b i in
      use1 𝓛 (given (Testable p) (‵ (box_owns (ghosts.dealloc_token a) R p x))) (tested 𝓛 a p x) $ learn t (λ may. full b i x refl refl may)
