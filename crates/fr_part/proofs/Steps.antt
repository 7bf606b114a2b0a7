-- What the walks of this crate share: a pair of a pointer and an allocator by value, in whichever struct or tuple it is.
--     both, both_good     its machine value, and that this is of its type
--     pair_open, pair_shut     what it owns is what the allocator owns
use Rattle.std.proofs.Common.{◌≡◌, List, [], ◌∷◌, ◌++◌, refl, subst}
use mathlib.Core.Bool.{Bool, true, false, ◌&&◌}
use lib.Dec.{T}
use seplogic.Ra.Ura.{Ura}
use mir.Syntax.{impl, tnil, dnil, ty_ptr}
use mir.Val.{Val, vstruct, vcons, vnil, of_list, has_ty, WT}
use base.Fml.{ftrue}
use types.Logic.{Logic}
use types.Kit.{Item, Goal, Seq, Step, step, ‵, ◌$◌, move, drop, fsplit, fjoin, fpick, fpack, feq_i, feq_l}
use denote.RattleType.{RattleType, Valss}
use denote.Builtin.{RawPtr}
use denote.RawPtr.{Ptr, ptr_val}
use denote.Steps.{nothing}
use denote.Param.{layout}
use denote.Param.Laws.{Laws}
use denote.Struct.Struct.{Struct, Shape, within}
use Rattle.core.proofs.alloc.Calls.{Al, handle_tells}
use Rattle.core.proofs.atomic.Steps.{Ptr-Good}
use Rattle.core.proofs.cell.Inside.{Good}

abbrev pub both : Val → Val → Val
both v w = vstruct (vcons v (vcons w vnil))

both_typed : (x y : Bool) → T x → T y → T (x && (y && true))
both_typed true true s t = tt
both_typed true false s t = absurd t
both_typed false y s t = absurd s

module _ (Z : RattleType) (L : Laws Z) where
  abbrev al : Al
  al = record { row = Z; laws = L; g = record { dealloc_token = λ a σ p. ftrue }; d = impl [] tnil dnil; drops = impl [] tnil dnil }

  abbrev pub pair : Shape
  pair = record { name = []; args = []; types = []; fields = RawPtr ∷ Z ∷ [] }

  pub both_good : (p : Ptr) (h : Val) → Good (layout Z) h → T (has_ty ty_ptr (ptr_val p) && (has_ty (layout Z) h && true)) × WT (both (ptr_val p) h)
  both_good p h fits = (both_typed (has_ty ty_ptr (ptr_val p)) (has_ty (layout Z) h) (Ptr-Good p).0 fits.0, ((Ptr-Good p).1, (fits.1, tt)))

  module _ {M : Type 1} {𝓤 : Ura M} {𝓛 : Logic 𝓤} {K : Type 0} {Γ : List (Item 𝓤)} {G : Goal 𝓤 𝓛.H} where
    pub pair_open : K → (p : Ptr) (a : Z.Denot) (vs : List Val)
        → ((h : Val) → vs ≡ both (ptr_val p) h ∷ [] → Good (layout Z) h → Seq K 𝓛 (‵ (Z.own_val a (h ∷ [])) ∷ Γ) G)
        → Seq K 𝓛 (‵ ((Struct pair).own_val (p, (a, tt)) vs) ∷ Γ) G
    pair_open t p a vs k = fpick t (λ us. fsplit t $ feq_l t (λ whole. fsplit t $ feq_l t (λ first. fsplit t $
        handle_tells al t a us.1.0 (λ h second fits. move t (1 ∷ []) $ drop t $ k h
        (subst (λ (ws : List Val). vs ≡ vstruct (of_list (ptr_val p ∷ (ws ++ []))) ∷ []) second
        (subst (λ (ps : List Val). vs ≡ vstruct (of_list (ps ++ (us.1.0 ++ []))) ∷ []) first whole)) fits))))

    pub pair_shut : K → (p : Ptr) (a : Z.Denot) (h : Val)
        → Step K 𝓛 (‵ ((Struct pair).own_val (p, (a, tt)) (both (ptr_val p) h ∷ [])) ∷ Γ) G (‵ (Z.own_val a (h ∷ [])) ∷ Γ) G
    pair_shut t p a h = step (λ s. let v : Val = both (ptr_val p) h in
        nothing t $ move t (1 ∷ 0 ∷ []) $ fjoin t $ feq_i t (List Val) (ptr_val p ∷ []) (ptr_val p ∷ []) refl $ fjoin t $
        feq_i t (List Val) (v ∷ []) (v ∷ []) refl $ fjoin t $
        fpack t (Valss (RawPtr ∷ Z ∷ [])) (within pair (p, (a, tt)) (v ∷ [])) (ptr_val p ∷ [], (h ∷ [], tt)) $ s)
