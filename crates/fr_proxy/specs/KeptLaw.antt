-- What stays true of every proxy, and what a sequencer stores.
use Rattle.std.specs.Prelude.{◌≡◌, ◌≢◌, ℕ, ◌+◌, ◌≤◌, false, List, None, Some}
use Rattle.std.specs.FinMap.{get}
use Rattle.fr_base.specs.declared.place.NodeId.{NodeId}
use Rattle.fr_mutation.specs.declared.mutation.Mutation.{Mutation}
use Rattle.fr_ask.specs.declared.sequencer.SeqAsk.TheVariants.{Next}
use Rattle.fr_ask.specs.declared.sequencer.SeqTell.TheVariants.{Numbered}
use Rattle.fr_ask.specs.declared.tell.Tell.{Tell}
use Rattle.fr_proxy.specs.Sequencer.{SeqState, answer_of, next_of, is_of, new_refusal}
use Rattle.fr_proxy.specs.Proxy.{ProxyState, new_proxy, submit_fault, submitted, after_hear}
use Rattle.fr_proxy.specs.IsProxy.{IsProxy}

abbrev pub NewIsProxy : Type 0
NewIsProxy = (epoch number m k : ℕ) (begins : List (List ℕ)) (known : ℕ) → 1 ≤ k → k ≤ m → m ≤ 16 → IsProxy (new_proxy epoch number m k begins known)

abbrev pub SubmitKeeps : Type 0
SubmitKeeps = (p : ProxyState) (step : ℕ) (batch : List Mutation) → IsProxy p → submit_fault p ≡ None → IsProxy (submitted p step batch)

abbrev pub HearKeeps : Type 0
HearKeeps = (p : ProxyState) (from : NodeId) (t : Tell) → IsProxy p → IsProxy (after_hear p from t)

-- what is known to be committed never falls
abbrev pub KnownRises : Type 0
KnownRises = (p : ProxyState) (from : NodeId) (t : Tell) → IsProxy p → p.known ≤ (after_hear p from t).known

-- a number that is told is then the proxy's last one
abbrev pub ToldIsStored : Type 0
ToldIsStored =
    (s : SeqState) (proxy request step r prev version : ℕ) → answer_of s (Next proxy request step) ≡ Numbered r prev version →
    get (next_of s (Next proxy request step)).given proxy ≡ Some (record { request = r; prev = prev; version = version })

-- a new number follows the last version by the step, and is then the last one
abbrev pub GivenIsStored : Type 0
GivenIsStored =
    (s : SeqState) (proxy request step : ℕ) → is_of request (get s.given proxy) ≡ false → new_refusal s (get s.given proxy) request step ≡ None →
    (answer_of s (Next proxy request step) ≡ Numbered request s.last (s.last + step)) × ((next_of s (Next proxy request step)).last ≡ s.last + step)

-- the numbers of other proxies stay
abbrev pub OthersKeepTheirs : Type 0
OthersKeepTheirs = (s : SeqState) (proxy request step q : ℕ) → q ≢ proxy → get (next_of s (Next proxy request step)).given q ≡ get s.given q
