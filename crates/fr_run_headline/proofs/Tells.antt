-- What a log told is so: a push that it told to hold is held.
use Rattle.std.proofs.Common.{◌≡◌, ℕ, ◌<◌, ◌≤◌, Bool, true, false, max, ◌||◌, List, [], ◌∷◌, Option, None, Some, inl, inr, refl, sym, ◌∙◌, ap, subst, arith}
use Rattle.std.specs.List.{Contains, list_any}
use Rattle.std.specs.Prelude.{is_some, fold}
use Rattle.std.proofs.lemmas.Bool.{eq-eqb, ltb-true}
use Rattle.std.proofs.lemmas.List.Elements.{Contains-append_left}
use Rattle.fr_base.specs.declared.place.NodeId.{NodeId}
use Rattle.fr_base.specs.declared.place.NodeId.TheVariants as node
use Rattle.fr_log.specs.declared.ask.LogAsk.{LogAsk}
use Rattle.fr_log.specs.declared.ask.LogAsk.TheVariants.{Push}
use Rattle.fr_log.specs.declared.ask.LogTell.{LogTell}
use Rattle.fr_log.specs.declared.ask.LogTell.TheVariants as ltell
use Rattle.fr_log.specs.declared.popped.PoppedTag.{PoppedTag}
use Rattle.fr_log.specs.Left.{left_push}
use Rattle.fr_log.specs.Push.{PushContent, is_one_push}
use Rattle.fr_log.specs.Seed.{SeedContent}
use Rattle.fr_log.specs.LogState.{LogState, seeded_to_of}
use Rattle.fr_log.specs.Step.{answer_of, next_of}
use Rattle.fr_ask.specs.declared.tell.Tell.TheVariants as tell
use Rattle.fr_run.specs.Config.{Config}
use Rattle.fr_run.specs.Turn.{Turn, Begun, CellTurn, LogTurn, SeqTurn, Submitted, ProxyHeard, RecHeard, StorageHeard, Gone, Crashed, TellsBy, Told}
use Rattle.fr_run.specs.Nodes.{logs_at, log_at}
use Rattle.fr_run_headline.specs.Bounds.{HasPushAt, HasReached}
use Rattle.fr_run.specs.Run.{IsTurn, IsRun}
use Rattle.fr_run.specs.Laws.{Laws}
use Rattle.fr_run.proofs.ByTurn.{log_by_turn}
use Rattle.fr_run.proofs.Growth.{log_stays, log_grows}
use Rattle.fr_run.proofs.Cells.{Contains-here, Contains-later, Contains-none, Contains-cases}
use Rattle.fr_run_headline.proofs.LogChanges.{log_change}
use Rattle.fr_run_headline.proofs.Logs.{logs_stay, logs_are_own}

-- ---- later on

-- a push that is held is held later on
push_stays : (l : LogState) (q : PushContent) (a : LogAsk) → Contains l.pushes q → Contains (next_of l a).pushes q
push_stays l q a k = log_change (λ n. Contains n.pushes q) l a k (λ s e none. k) (λ p e took. Contains-append_left l.pushes (p ∷ []) q k) k (λ ps. k)

pub has_push_later : Laws → (c : Config) (h : List Turn) (t : Turn) → IsRun c h → IsTurn c h t → (e i v : ℕ) → HasPushAt c h e i v → HasPushAt c (t ∷ h) e i v
has_push_later laws c h t run is e i v k = record {
  there = subst (λ n. i < n) (sym (logs_stay laws c h t run is e i k.there)) k.there;
  push = k.push;
  held = subst (λ (l : LogState). Contains l.pushes k.push) (sym (log_stays laws c h t run is e i k.there))
      (log_by_turn t e i (log_at c h e i) (λ n. Contains n.pushes k.push) k.held (λ a. push_stays (log_at c h e i) k.push a k.held));
  at = k.at;
}

pub reached_later : Laws → (c : Config) (h : List Turn) (t : Turn) → IsRun c h → IsTurn c h t → (e i v : ℕ) → HasReached c h e i v → HasReached c (t ∷ h) e i v
reached_later laws c h t run is e i v k =
    let g = log_grows laws c h t run is e i k.there in
    record {
      there = subst (λ n. i < n) (sym (logs_stay laws c h t run is e i k.there)) k.there;
      seeded = ap is_some (g.seed k.seeded) ∙ k.seeded;
      durable = omega (arith, g.durable, k.durable);
    }

-- ---- what a push that is held says of durable

pub from_start : (v : ℕ) (ps : List PushContent) → v ≤ fold (λ w p. max w p.version) v ps
from_start v [] = omega arith
from_start v (p ∷ ps) = let k = from_start (max v p.version) ps in omega (arith, k)

held_below : (v : ℕ) (ps : List PushContent) (q : PushContent) → Contains ps q → q.version ≤ fold (λ w p. max w p.version) v ps
held_below v [] q k = absurd (Contains-none k)
held_below v (p ∷ ps) q k = elim (Contains-cases p ps q k) [
  | inl e ↦ (let low = from_start (max v p.version) ps in let same = ap (λ (x : PushContent). x.version) e in omega (arith, low, same))
  | inr rest ↦ held_below (max v p.version) ps q rest
]

pub push_is_reached : Laws → (c : Config) (h : List Turn) → IsRun c h → (e i v : ℕ) → HasPushAt c h e i v → HasReached c h e i v
push_is_reached laws c h run e i v k = record {
  there = k.there;
  seeded = go (log_at c h e i).seed refl;
  durable = (let low = held_below (seeded_to_of (log_at c h e i).seed) (log_at c h e i).pushes k.push k.held in omega (arith, low, k.at));
}
  where
    go : (o : Option SeedContent) → (log_at c h e i).seed ≡ o → is_some (log_at c h e i).seed ≡ true
    go None none = absurd (Contains-none (subst (λ ps. Contains ps k.push) ((logs_are_own laws c h run e i k.there).unseeded none) k.held))
    go (Some s) some = ap is_some some

-- ---- Held

-- one of some pushes has this version, where one of them is, but for what is popped, the same as a push of that version
one_held : Laws → (popped : List PoppedTag) (p : PushContent) (ps : List PushContent) → list_any (λ q. is_one_push (left_push popped p) (left_push popped q)) ps ≡ true
    → (q : PushContent) × Contains ps q × (q.version ≡ p.version)
one_held laws popped p [] k = absurd (cc)
one_held laws popped p (q ∷ ps) k = go (λ j. one_held laws popped p ps j) (is_one_push (left_push popped p) (left_push popped q)) refl k
  where
    go : (list_any (λ x. is_one_push (left_push popped p) (left_push popped x)) ps ≡ true → (x : PushContent) × Contains ps x × (x.version ≡ p.version)) → (b : Bool) → is_one_push (left_push popped p) (left_push popped q) ≡ b → (b || list_any (λ x. is_one_push (left_push popped p) (left_push popped x)) ps) ≡ true
        → (x : PushContent) × Contains (q ∷ ps) x × (x.version ≡ p.version)
    go rest true e k = (q, Contains-here q ps, sym ((laws.one_push (left_push popped p) (left_push popped q)).0 e).version)
    go rest false e k = let r = rest k in (r.0, Contains-later q ps r.0 r.1, r.2)

held_now : Laws → (c : Config) (h : List Turn) (from : NodeId) (e i : ℕ) (a : LogAsk) (u : LogTell) → IsRun c h → IsTurn c h (LogTurn from e i a u) → (v : ℕ) → u ≡ ltell.Held v → HasPushAt c (LogTurn from e i a u ∷ h) e i v
held_now laws c h from e i a u run is v says =
    let l = log_at c h e i in
    let below : i < logs_at c h e = ltb-true i (logs_at c h e) is.0.there in
    let asked = laws.log_answers l a (ltell.Held v) (sym is.2 ∙ says) in
    let told = laws.held_held l asked.push v (subst (λ x. answer_of l x ≡ ltell.Held v) asked.ask (sym is.2 ∙ says)) in
    let now : log_at c (LogTurn from e i a u ∷ h) e i ≡ next_of l (Push asked.push) = log_stays laws c h (LogTurn from e i a u) run is e i below ∙ (rw (eq-eqb e e refl, eq-eqb i i refl) refl ∙ ap (next_of l) asked.ask) in
    let one = one_held laws (next_of l (Push asked.push)).popped asked.push (next_of l (Push asked.push)).pushes told.1 in
    record {
      there = subst (λ n. i < n) (sym (logs_stay laws c h (LogTurn from e i a u) run is e i below)) below;
      push = one.0;
      held = subst (λ (x : LogState). Contains x.pushes one.0) (sym now) one.1;
      at = one.2 ∙ sym told.0;
    }

pub held_is_held : Laws → (c : Config) (h : List Turn) → IsRun c h → (e i : ℕ) (to : NodeId) (v : ℕ) → Told h (node.Log e i) to (tell.Log (ltell.Held v)) → HasPushAt c h e i v
held_is_held laws c [] run e i to v k = absurd k
held_is_held laws c (t ∷ h) run e i to v (inr k) = has_push_later laws c h t run.1 run.0 e i v (held_is_held laws c h run.1 e i to v k)
held_is_held laws c (t ∷ h) run e i to v (inl k) = now t run.0 k
  where
    now : (t : Turn) → IsTurn c h t → TellsBy t (node.Log e i) to (tell.Log (ltell.Held v)) → HasPushAt c (t ∷ h) e i v
    now (Begun b shape asks) is k = absurd k
    now (CellTurn from j a u) is (at, own, says) = let d : node.Cell j ≡ node.Log e i = at in absurd (cc)
    now (LogTurn from x j a u) is (at, own, says) =
        let d : x ≡ e = cc in
        let f : j ≡ i = cc in
        let w : u ≡ ltell.Held v = cc in
        subst (λ y. HasPushAt c (LogTurn from x j a u ∷ h) e y v) f (subst (λ y. HasPushAt c (LogTurn from x j a u ∷ h) y j v) d (held_now laws c h from x j a u run.1 is v w))
    now (SeqTurn from x a u) is (at, own, says) = let d : node.Sequencer x ≡ node.Log e i = at in absurd (cc)
    now (Submitted x p step batch asks) is k = absurd k
    now (ProxyHeard x p from u outcome asks) is k = absurd k
    now (RecHeard b from u asks) is k = absurd k
    now (StorageHeard tag from u taken fault) is k = absurd k
    now (Gone who) is k = absurd k
    now (Crashed who) is k = absurd k
