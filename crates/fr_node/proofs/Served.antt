-- What a node that answers asks did is one entry longer.
use Rattle.std.proofs.Common.{refl, sym, ap, ◌∙◌}
use Rattle.std.specs.Prelude.{ℕ, Bool, false, true, ◌≡◌, ◌||◌, ◌++◌, List, [], ◌∷◌, Some, Result, Ok, Err, IfOk, OnOk, OnErr}
use Rattle.fr_base.specs.declared.place.NodeId.{NodeId}
use Rattle.fr_ask.specs.declared.ask.Ask.{Ask}
use Rattle.fr_ask.specs.declared.tell.Tell.{Tell}
use Rattle.fr_audit_journal.specs.declared.act.Act.TheVariants as act
use Rattle.fr_audit_journal.specs.declared.act.Entry.{Entry}
use Rattle.fr_audit_journal.specs.Replays.{Steps, told_at, after_at, after_act, state_after, TellsAre, IsTold, ends_by_crash, gone_after, gone_at_end, IsThere}
use Rattle.fr_node.specs.declared.fault.NodeTurnFault.{NodeTurnFault}
use Rattle.fr_node.specs.Passive.{IsServed, IsOnlyCrash}

pub state-append : {S A : Type 0} (m : Steps S A) (s : S) (es : List Entry) (e : Entry)
    → state_after m s (es ++ e ∷ []) ≡ after_act m (state_after m s es) e.act
state-append m s [] e = refl
state-append m s (x ∷ es) e = state-append m (after_act m s x.act) es e

tells-append : {S A : Type 0} (m : Steps S A) (s : S) (es : List Entry) (e : Entry)
    → TellsAre m s es → IsTold m (state_after m s es) e.act → TellsAre m s (es ++ e ∷ [])
tells-append m s [] e h t = (t, record {})
tells-append m s (x ∷ es) e h t = (h.0, tells-append m (after_act m s x.act) es e h.1 t)

gone-append : (n : NodeId) (gone : Bool) (es : List Entry) (e : Entry)
    → gone_at_end n gone (es ++ e ∷ []) ≡ gone_after n (gone_at_end n gone es) e.act
gone-append n gone [] e = refl
gone-append n gone (x ∷ es) e = gone-append n (gone_after n gone x.act) es e

there-append : (n : NodeId) (gone : Bool) (es : List Entry) (e : Entry)
    → IsThere n gone es → gone_at_end n gone es ≡ false → IsThere n gone (es ++ e ∷ [])
there-append n gone [] e h t = (t, record {})
there-append n gone (x ∷ es) e h t = (h.0, there-append n (gone_after n gone x.act) es e h.1 t)

-- an ask of the machine's own is entered, with what the machine tells
pub served-one : {S A : Type 0} (m : Steps S A) (place : NodeId) (first : S) (es : List Entry) (s : S) (stamp : ℕ) (from : NodeId) (ask : Ask) (a : A)
    → IsServed m place first es s → m.unwrapped ask ≡ Some a
    → IsServed m place first (es ++ record { stamp = stamp; act = act.Asked from ask (m.told s a) } ∷ []) (m.after s a)
served-one m place first es s stamp from ask a h own =
    let e : Entry = record { stamp = stamp; act = act.Asked from ask (m.told s a) } in
    let b = state_after m first es in
    let told : told_at m b (m.unwrapped ask) ≡ Some (m.told s a) = ap (told_at m b) own ∙ ap (λ x. Some (m.told x a)) (sym h.state_is) in
    let after : after_at m b (m.unwrapped ask) ≡ m.after s a = ap (after_at m b) own ∙ ap (λ x. m.after x a) (sym h.state_is) in
    record {
      tells = tells-append m first es e h.tells told;
      there = there-append place false es e h.there h.stays;
      stays = gone-append place false es e ∙ h.stays;
      state_is = sym (state-append m first es e ∙ after);
    }

-- so it is of an ask that is wrapped
served-asked : {S A : Type 0} (m : Steps S A) (place : NodeId) (first : S) (es : List Entry) (s : S) (stamp : ℕ) (from : NodeId) (a : A)
    → IsServed m place first es s → m.unwrapped (m.wrapped a) ≡ Some a
    → IsServed m place first (es ++ record { stamp = stamp; act = act.Asked from (m.wrapped a) (m.told s a) } ∷ []) (m.after s a)
served-asked m place first es s stamp from a h own = served-one m place first es s stamp from (m.wrapped a) a h own

-- so it is where the node, its journal and what is entered are known by equations
pub served-entered : {S A : Type 0} (m : Steps S A) (place now : NodeId) (first : S) (es longer : List Entry) (s t : S) (stamp : ℕ) (from : NodeId) (a served : A) (ask : Ask) (tell : Tell)
    → IsServed m place first es s → now ≡ place → longer ≡ es ++ record { stamp = stamp; act = act.Asked from ask tell } ∷ []
    → ask ≡ m.wrapped a → m.unwrapped ask ≡ Some a → served ≡ a → tell ≡ m.told s served → t ≡ m.after s served
    → IsServed m now first longer t
served-entered m place now first es longer s t stamp from a served ask tell h p e w own c told after =
    let r = served-asked m place first es s stamp from a h (ap m.unwrapped (sym w) ∙ own) in
    let k : tell ≡ m.told s a = told ∙ ap (m.told s) c in
    let x : longer ≡ es ++ record { stamp = stamp; act = act.Asked from (m.wrapped a) (m.told s a) } ∷ [] = e ∙ rw (w, k) refl in
    let y : t ≡ m.after s a = after ∙ ap (m.after s) c in
    rw (p, x, y) r

-- a node that a crash does not end is started again
served-crashed : {S A : Type 0} (m : Steps S A) (place : NodeId) (first : S) (es : List Entry) (s : S) (stamp : ℕ)
    → IsServed m place first es s → ends_by_crash place ≡ false
    → IsServed m place first (es ++ record { stamp = stamp; act = act.Crashed } ∷ []) s
served-crashed m place first es s stamp h stays =
    let e : Entry = record { stamp = stamp; act = act.Crashed } in
    record {
      tells = tells-append m first es e h.tells (record {});
      there = there-append place false es e h.there h.stays;
      stays = gone-append place false es e ∙ (ap (λ gone. gone || ends_by_crash place) h.stays ∙ stays);
      state_is = h.state_is ∙ sym (state-append m first es e);
    }

-- so it is where its journal and what is entered are known by equations
pub served-again : {S A : Type 0} (m : Steps S A) (place now : NodeId) (first : S) (es longer : List Entry) (s : S) (e : Entry)
    → IsServed m place first es s → ends_by_crash place ≡ false → now ≡ place → longer ≡ es ++ e ∷ [] → e.act ≡ act.Crashed
    → IsServed m now first longer s
served-again m place now first es longer s e h stays p is crashed =
    let k : e ≡ record { stamp = e.stamp; act = act.Crashed } = ap (λ a. record { stamp = e.stamp; act = a }) crashed in
    rw (p, is, k) (served-crashed m place first es s e.stamp h stays)

-- so it is if a crash alone is entered
served-only : {S A : Type 0} (m : Steps S A) (place now : NodeId) (first : S) (es longer : List Entry) (s : S) (list : List Entry)
    → IsServed m place first es s → ends_by_crash place ≡ false → now ≡ place → longer ≡ es ++ list → IsOnlyCrash list
    → IsServed m now first longer s
served-only m place now first es longer s [] h stays p is only = absurd only
served-only m place now first es longer s (e ∷ []) h stays p is only = served-again m place now first es longer s e h stays p is only
served-only m place now first es longer s (e ∷ f ∷ list) h stays p is only = absurd only

-- and whether it was, or was refused, is what is answered
pub served-back : {S A V : Type 0} (items : V → List Entry) (m : Steps S A) (place now : NodeId) (first : S) (es longer : List Entry) (s : S) (has : Bool) (r : Result V NodeTurnFault)
    → IsServed m place first es s → (has ≡ true → ends_by_crash place ≡ false) → now ≡ place
    → IfOk r (λ v. longer ≡ es ++ items v) → IfOk r (λ v. IsOnlyCrash (items v)) → OnOk r (has ≡ true) → OnErr r (longer ≡ es)
    → IsServed m now first longer s
served-back items m place now first es longer s has (Ok v) h stays p is crashed files left = served-only m place now first es longer s (items v) h (stays files) p is crashed
served-back items m place now first es longer s has (Err f) h stays p is crashed files left = rw (p, left) h
