-- Which proxy a number is of: the one that asked for it; and the requests of a proxy count from 1.
use Rattle.std.proofs.Common.{◌≡◌, ℕ, ◌-◌, ◌≤◌, true, List, [], ◌∷◌, Option, None, Some, inl, inr, refl, sym, ◌∙◌, subst, arith}
use Rattle.std.specs.List.{Contains}
use Rattle.std.proofs.lemmas.Bool.{eq-eqb}
use Rattle.fr_base.specs.declared.place.NodeId.{NodeId}
use Rattle.fr_base.specs.declared.place.NodeId.TheVariants as node
use Rattle.fr_state.specs.Generations.{LogGeneration}
use Rattle.fr_ask.specs.declared.ask.Ask.TheVariants as ask
use Rattle.fr_ask.specs.declared.tell.Tell.TheVariants as tell
use Rattle.fr_ask.specs.declared.sequencer.SeqAsk.TheVariants.{Next}
use Rattle.fr_proxy.specs.Sequencer.{told}
use Rattle.fr_proxy.specs.declared.number.Number.{Number}
use Rattle.fr_proxy.specs.Proxy as proxy
use Rattle.fr_proxy.specs.Law.{ProxyGrows}
use Rattle.fr_run.specs.Config.{Config}
use Rattle.fr_run.specs.Turn.{Turn, Begun, CellTurn, LogTurn, SeqTurn, Submitted, ProxyHeard, RecHeard, StorageHeard, Gone, Crashed, Sent, TellsBy, Told}
use Rattle.fr_run.specs.Nodes.{generation_at, mark_version, is_open, seq_at, proxy_from, new_proxy_in, proxy_at}
use Rattle.fr_run.specs.Run.{IsTurn, IsRun}
use Rattle.fr_run_headline.specs.Numbers.{with_number, numbers, numbering_of}
use Rattle.fr_run_headline.specs.Proxies.{IsOfGeneration, IsOwnNumber}
use Rattle.fr_run.specs.Laws.{Laws}
use Rattle.fr_run.specs.AskLaws.{SenderAccounts}
use Rattle.fr_run.proofs.ByTurn.{proxy_by_turn}
use Rattle.fr_run.proofs.Growth.{proxy_itself}
use Rattle.fr_run.proofs.Accounts.{sent_is_accounted}
use Rattle.fr_run_headline.proofs.Numbers.{numbers_chain, numbers_stay, told_is_given, step_is_positive}

-- ---- what a proxy is of

grows_on : (p q r : proxy.ProxyState) → ProxyGrows p q → ProxyGrows q r → ProxyGrows p r
grows_on p q r a b = record {
  epoch = b.epoch ∙ a.epoch;
  number = b.number ∙ a.number;
  m = b.m ∙ a.m;
  k = b.k ∙ a.k;
  begins = b.begins ∙ a.begins;
  requests = omega (arith, a.requests, b.requests);
  over = λ k. b.over (a.over k);
}

from_grows : Laws → (s : proxy.ProxyState) (h : List Turn) (e p : ℕ) → ProxyGrows s (proxy_from s h e p)
from_grows laws s [] e p = proxy_itself s
from_grows laws s (t ∷ h) e p =
    let k = from_grows laws s h e p in
    let n = proxy_from s h e p in
    proxy_by_turn t e p n (ProxyGrows s) k (λ step batch. grows_on s n (proxy.submitted n step batch) k (laws.proxy_submit n step batch)) (λ from u. grows_on s n (proxy.after_hear n from u) k (laws.proxy_hear n from u))

pub proxy_is : Laws → (c : Config) (h : List Turn) (e p : ℕ) (g : LogGeneration) → generation_at c h e ≡ Some g → IsOfGeneration c e p g (proxy_at c h e p)
proxy_is laws c h e p g at =
    let s = proxy.new_proxy e p g.m g.k c.begins (g.first - 1) in
    let k : ProxyGrows s (proxy_at c h e p) = subst (λ o. ProxyGrows s (proxy_from (new_proxy_in c o e p) h e p)) (sym at) (from_grows laws s h e p) in
    record { epoch = k.epoch; number = k.number; m = k.m; k = k.k; begins = k.begins }

pub proxy_is_at : Laws → (c : Config) (h : List Turn) (e p : ℕ) → ((proxy_at c h e p).epoch ≡ e) × ((proxy_at c h e p).number ≡ p)
proxy_is_at laws c h e p = go (generation_at c h e)
  where
    go : (o : Option LogGeneration) → ((proxy_from (new_proxy_in c o e p) h e p).epoch ≡ e) × ((proxy_from (new_proxy_in c o e p) h e p).number ≡ p)
    go None = let k = from_grows laws (new_proxy_in c None e p) h e p in (k.epoch, k.number)
    go (Some g) = let k = from_grows laws (new_proxy_in c (Some g) e p) h e p in (k.epoch, k.number)

-- ---- asks for numbers

pub record IsOwnRequest (c : Config) (h : List Turn) (from : NodeId) (e p r : ℕ) : Type 0 where
  pub sender : from ≡ node.Proxy e p
  pub opened : is_open c h e ≡ true
  pub low : 1 ≤ r
  pub high : r ≤ (proxy_at c h e p).requests

-- each ask for a number that was sent is of the proxy that sent it, at its own epoch, under one of its requests
pub next_is_own : Laws → (c : Config) (h : List Turn) → IsRun c h → (from : NodeId) (e p r step : ℕ) → Sent h from (node.Sequencer e) (ask.Seq (Next p r step)) → IsOwnRequest c h from e p r
next_is_own laws c h run from e p r step s = go from (sent_is_accounted laws c h run from (node.Sequencer e) (ask.Seq (Next p r step)) s)
  where
    go : (from : NodeId) → SenderAccounts c h from (node.Sequencer e) (ask.Seq (Next p r step)) → IsOwnRequest c h from e p r
    go (node.Cell i) k = absurd k
    go (node.Log x i) k = absurd k
    go (node.Sequencer x) k = absurd k
    go (node.Proxy x q) (op, (own, (mine, low, high, l))) =
        let at = proxy_is_at laws c h x q in
        let a : x ≡ e = sym at.0 ∙ sym own in
        let b : q ≡ p = sym at.1 ∙ sym mine in
        let here : IsOwnRequest c h (node.Proxy x q) x q r = record { sender = refl; opened = op; low = low; high = high } in
        subst (λ y. IsOwnRequest c h (node.Proxy x q) y p r) a (subst (λ z. IsOwnRequest c h (node.Proxy x q) x z r) b here)
    go (node.Recoverer b) k = absurd k.2
    go (node.Storage t) k = absurd k

-- ---- numbers that were told

pub told_is_own : Laws → (c : Config) (h : List Turn) → IsRun c h → (e : ℕ) (to : NodeId) (n : Number) → Told h (node.Sequencer e) to (tell.Seq (told n)) → IsOwnNumber h e to n
told_is_own laws c [] run e to n k = absurd k
told_is_own laws c (t ∷ h) run e to n (inr k) =
    let r = told_is_own laws c h run.1 e to n k in
    record { proxy = r.proxy; addressee = r.addressee; given = numbers_stay t e (numbers h e) (numbering_of r.proxy n) r.given }
told_is_own laws c (t ∷ h) run e to n (inl k) = now t run.0 k
  where
    now : (t : Turn) → IsTurn c h t → TellsBy t (node.Sequencer e) to (tell.Seq (told n)) → IsOwnNumber (t ∷ h) e to n
    now (Begun b shape asks) is k = absurd k
    now (CellTurn from j a u) is (at, own, says) = let d : node.Cell j ≡ node.Sequencer e = at in absurd (cc)
    now (LogTurn from x j a u) is (at, own, says) = let d : node.Log x j ≡ node.Sequencer e = at in absurd (cc)
    now (SeqTurn from x (Next p r step) u) is (at, own, says) =
        let d : x ≡ e = cc in
        let v : u ≡ told n = cc in
        let asked = next_is_own laws c h run.1 from x p r step is.1 in
        let chain = numbers_chain laws c h run.1 x is.0.there in
        let step_low = step_is_positive laws c h run.1 from x p r step is.1 in
        let given = told_is_given (mark_version (generation_at c h x)) (seq_at c h x) (numbers h x) chain p r step step_low n (sym is.2 ∙ v) in
        let here : Contains (numbers (SeqTurn from x (Next p r step) u ∷ h) x) (numbering_of p n) = rw (eq-eqb x x refl) (subst (λ y. Contains (with_number p y (numbers h x)) (numbering_of p n)) (sym v) given) in
        let all : IsOwnNumber (SeqTurn from x (Next p r step) u ∷ h) x to n = record { proxy = p; addressee = sym own ∙ asked.sender; given = here } in
        subst (λ y. IsOwnNumber (SeqTurn from x (Next p r step) u ∷ h) y to n) d all
    now (Submitted x p step batch asks) is k = absurd k
    now (ProxyHeard x p from u outcome asks) is k = absurd k
    now (RecHeard b from u asks) is k = absurd k
    now (StorageHeard tag from u taken fault) is k = absurd k
    now (Gone who) is k = absurd k
    now (Crashed who) is k = absurd k

-- a number that was told to a proxy is of that proxy
pub number_of_proxy : Laws → (c : Config) (h : List Turn) → IsRun c h → (e x p : ℕ) (n : Number) → Told h (node.Sequencer e) (node.Proxy x p) (tell.Seq (told n)) → Contains (numbers h e) (numbering_of p n)
number_of_proxy laws c h run e x p n k =
    let r = told_is_own laws c h run e (node.Proxy x p) n k in
    let same : node.Proxy x p ≡ node.Proxy e r.proxy = r.addressee in
    let d : p ≡ r.proxy = cc in
    subst (λ q. Contains (numbers h e) (numbering_of q n)) (sym d) r.given
