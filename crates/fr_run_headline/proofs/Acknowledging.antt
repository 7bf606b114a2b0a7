-- What a proxy acknowledged is the batch that it had under way, at the version that it got.
use Rattle.std.proofs.Common.{◌≡◌, ℕ, true, nat_lt, List, [], ◌∷◌, Some, inl, inr, sym, ◌∙◌, ap, subst}
use Rattle.std.specs.Prelude.{IfSome}
use Rattle.std.specs.List.{Contains}
use Rattle.std.proofs.lemmas.Bool.{and_parts}
use Rattle.fr_base.specs.declared.place.NodeId.{NodeId}
use Rattle.fr_mutation.specs.declared.mutation.Mutation.{Mutation}
use Rattle.fr_ask.specs.declared.tell.Tell.{Tell}
use Rattle.fr_proxy.specs.declared.outcome.Outcome.TheVariants.{Waiting, Committed, Ended}
use Rattle.fr_proxy.specs.Proxy.{ProxyState, Open, heeded, outcome_of_heeded}
use Rattle.fr_proxy.specs.declared.heeded.Heeded.{Heeded}
use Rattle.fr_proxy.specs.Heard.{Heard, Ignores, Places, Holds, HoldsAll, Cuts}
use Rattle.fr_run.specs.Config.{Config}
use Rattle.fr_run.specs.Turn.{Turn, Sending, ProxyHeard}
use Rattle.fr_run.specs.Nodes.{is_open, proxy_at}
use Rattle.fr_run.specs.Run.{IsTurn, IsRun}
use Rattle.fr_run.specs.Batches.{batch_at, IsAcknowledged}
use Rattle.fr_run.proofs.Cells.{Contains-here, Contains-later, Contains-none, Contains-cases}
use Rattle.fr_run_headline.specs.Numbers.{Numbering, numbers}
use Rattle.fr_run_headline.specs.Proxies.{IsNumberOf, IsOpenOf}
use Rattle.fr_run_headline.proofs.Numbers.{numbers_stay}
use Rattle.fr_run_headline.proofs.Proxies.{proxies_are, batch_stays}
use Rattle.fr_run_headline.specs.Committed.{batch_under_way, IsAcknowledgedBatch, AcknowledgedHasBatch}
use Rattle.fr_run_headline.specs.Laws.{Laws}

-- what is acknowledged with a batch is acknowledged
pub is_acknowledged : (c : Config) (h : List Turn) (e v : ℕ) (batch : List Mutation) → IsAcknowledgedBatch c h e v batch → IsAcknowledged h e v
is_acknowledged c [] e v batch k = absurd k
is_acknowledged c (t ∷ h) e v batch (inl now) = record {
  proxy = now.proxy;
  from = now.from;
  tell = now.heard;
  asks = now.asks;
  turn = subst (λ u. Contains (u ∷ h) (ProxyHeard e now.proxy now.from now.heard (Committed v) now.asks)) (sym now.is) (Contains-here (ProxyHeard e now.proxy now.from now.heard (Committed v) now.asks) h);
}
is_acknowledged c (t ∷ h) e v batch (inr before) =
    let k = is_acknowledged c h e v batch before in
    record { proxy = k.proxy; from = k.from; tell = k.tell; asks = k.asks; turn = Contains-later t h (ProxyHeard e k.proxy k.from k.tell (Committed v) k.asks) k.turn }

-- ---- the number

-- a number of an epoch with its version, whose request is that of a batch
pub record HasNumber (h : List Turn) (e v : ℕ) (batch : List Mutation) : Type 0 where
  pub number : Numbering
  pub given : Contains (numbers h e) number
  pub at : number.version ≡ v
  pub taken : batch_at h e number.proxy number.request ≡ Some batch

-- a proxy that answers that a version is committed has a batch under way, whose number has that version
record HasOpen (h : List Turn) (e v : ℕ) (s : ProxyState) : Type 0 where
  open_batch : Open
  under_way : s.under_way ≡ Some open_batch
  number : HasNumber h e v open_batch.batch

commits : Laws → (c : Config) (h : List Turn) → IsRun c h → (e p : ℕ) → is_open c h e ≡ true → (from : NodeId) (t : Tell) (v : ℕ) (x : Heeded) → Heard (proxy_at c h e p) from t x → Committed v ≡ outcome_of_heeded x → HasOpen h e v (proxy_at c h e p)
commits laws c h run e p op from t v x Ignores says = let d : Committed v ≡ Waiting = says in absurd (cc)
commits laws c h run e p op from t v x (Places o at n) says = let d : Committed v ≡ Waiting = says in absurd (cc)
commits laws c h run e p op from t v x (Holds o at log n more) says = let d : Committed v ≡ Waiting = says in absurd (cc)
commits laws c h run e p op from t v x (HoldsAll o at log n m) says =
    let d : Committed v ≡ Committed at.version = says in
    let same : at.version ≡ v = cc in
    let s = proxy_at c h e p in
    let was : IsOpenOf c h e p s o = subst (λ u. IfSome u (IsOpenOf c h e p s)) n.under_way (proxies_are laws.contents.nodes c h run e p op).under_way in
    let mine : IsNumberOf h e p s o at = subst (λ y. IfSome y (IsNumberOf h e p s o)) n.given was.number in
    record {
      open_batch = o;
      under_way = n.under_way;
      number = record { number = record { proxy = p; request = o.request; prev = at.prev; version = at.version }; given = mine.0; at = same; taken = was.batch };
    }
commits laws c h run e p op from t v x (Cuts o at is) says = let d : Committed v ≡ Ended = says in absurd (cc)

answers : Laws → (c : Config) (h : List Turn) → IsRun c h → (e p v : ℕ) (from : NodeId) (t : Tell) (asks : List Sending) → IsTurn c h (ProxyHeard e p from t (Committed v) asks) → HasOpen h e v (proxy_at c h e p)
answers laws c h run e p v from t asks is =
    let op = (and_parts (is_open c h e) (nat_lt p c.proxies) is.0.actor.there).0 in
    commits laws c h run e p op from t v (heeded (proxy_at c h e p) from t) (laws.contents.nodes.proxy_heard (proxy_at c h e p) from t) is.1

number_later : (t : Turn) (h : List Turn) (e v : ℕ) (batch : List Mutation) → HasNumber h e v batch → HasNumber (t ∷ h) e v batch
number_later t h e v batch k = record {
  number = k.number;
  given = numbers_stay t e (numbers h e) k.number k.given;
  at = k.at;
  taken = batch_stays t h e k.number.proxy k.number.request batch k.taken;
}

pub acknowledged_number : Laws → (c : Config) (h : List Turn) → IsRun c h → (e v : ℕ) (batch : List Mutation) → IsAcknowledgedBatch c h e v batch → HasNumber h e v batch
acknowledged_number laws c [] run e v batch k = absurd k
acknowledged_number laws c (t ∷ h) run e v batch (inr before) = number_later t h e v batch (acknowledged_number laws c h run.1 e v batch before)
acknowledged_number laws c (t ∷ h) run e v batch (inl now) =
    let k = answers laws c h run.1 e now.proxy v now.from now.heard now.asks (subst (IsTurn c h) now.is run.0) in
    let two : Some k.open_batch.batch ≡ Some batch = sym (ap batch_under_way k.under_way) ∙ now.under_way in
    let same : k.open_batch.batch ≡ batch = cc in
    number_later t h e v batch (subst (HasNumber h e v) same k.number)

-- ---- each has a batch

pub acknowledged_has_batch : Laws → AcknowledgedHasBatch
acknowledged_has_batch laws c [] run e v k = absurd (Contains-none k.turn)
acknowledged_has_batch laws c (t ∷ h) run e v k = elim (Contains-cases t h (ProxyHeard e k.proxy k.from k.tell (Committed v) k.asks) k.turn) [
  | inl now ↦ (
      let o = answers laws c h run.1 e k.proxy v k.from k.tell k.asks (subst (IsTurn c h) now run.0) in
      (o.open_batch.batch, inl (record { proxy = k.proxy; from = k.from; heard = k.tell; asks = k.asks; is = now; under_way = ap batch_under_way o.under_way })))
  | inr before ↦ (let r = acknowledged_has_batch laws c h run.1 e v (record { proxy = k.proxy; from = k.from; tell = k.tell; asks = k.asks; turn = before }) in (r.0, inr r.1))
]
