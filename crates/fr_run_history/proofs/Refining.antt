-- Every history of clients is one of the abstract machine.
use Rattle.std.proofs.Common.{◌≡◌, ℕ, ◌+◌, true, nat_lt, map, length, List, [], ◌∷◌, Option, None, Some, inl, inr, refl, sym, ◌∙◌, ap, subst, arith}
use Rattle.std.specs.Prelude.{IfSome}
use Rattle.std.specs.List.{Contains, filter_map, cons_option}
use Rattle.std.specs.FinMap.{empty, get}
use Rattle.std.proofs.lemmas.Bool.{and_parts}
use Rattle.fr_base.specs.declared.place.NodeId.{NodeId}
use Rattle.fr_mutation.specs.declared.mutation.Mutation.{Mutation}
use Rattle.fr_undo.specs.Canonical.{Commit, contents_after}
use Rattle.fr_tags.specs.Shards.{shard_at}
use Rattle.fr_ask.specs.declared.tell.Tell.{Tell}
use Rattle.fr_proxy.specs.declared.outcome.Outcome.{Outcome}
use Rattle.fr_proxy.specs.declared.outcome.Outcome.TheVariants.{Waiting, Committed, Ended}
use Rattle.fr_proxy.specs.Proxy.{ProxyState, Open, heed_open, outcome_of_heeded}
use Rattle.fr_run.specs.Config.{Config}
use Rattle.fr_run.specs.Turn.{Turn, Sending, Begun, CellTurn, LogTurn, SeqTurn, Submitted, ProxyHeard, RecHeard, StorageHeard, Gone, Crashed}
use Rattle.fr_run.specs.Nodes.{generation_at, mark_version, is_open, proxy_at, storage_at}
use Rattle.fr_run.specs.Run.{IsRun}
use Rattle.fr_run.specs.Batches.{batches}
use Rattle.fr_run.specs.StateLaws.{IsConfig}
use Rattle.fr_run.proofs.Cells.{Contains-none, Contains-cases, Contains-here, Contains-later}
use Rattle.fr_run_headline.specs.Numbers.{Numbering, numbers}
use Rattle.fr_run_headline.specs.Proxies.{IsOpenOf}
use Rattle.fr_run_headline.specs.BoundLaws.{ProxiesAreSound}
use Rattle.fr_run_headline.specs.Issued.{Entry, least_durable, committed}
use Rattle.fr_run_headline.specs.Committed.{commit_in, commit_at}
use Rattle.fr_run_headline.proofs.Ends.{always_chained}
use Rattle.fr_run_headline.proofs.Proxies.{requests_are}
use Rattle.fr_run_headline.proofs.Taken.{number_has_batch}
use Rattle.fr_run_outcomes.specs.Once.{IsAnswered, StandsOnce, AnsweredExactlyOnce}
use Rattle.fr_run_outcomes.specs.Snapshots.{IsSettledAt}
use Rattle.fr_run_outcomes.specs.Reads.{ReadIsCommitted}
use Rattle.fr_run_history.specs.History.{Act, Turned, Read, Reading, turns, IsRead, IsHistory}
use Rattle.fr_run_history.specs.Machine.{Name, Item, Machine, map_at, Seen, Taken, Acknowledged, Answered, Submits, Acknowledges, Reads, Move, machine_after, IsMachineRun}
use Rattle.fr_run_history.specs.Refines.{name_at, seen_of, seen_at, seen_by, IsItemOf, Shows, HistoriesAreOfMachine}
use Rattle.fr_run_history.proofs.Coming.{get_has}
use Rattle.fr_run_history.proofs.Numbered.{chained_once}
use Rattle.fr_run_history.proofs.Acts.{history_run, taken_inside}
use Rattle.fr_run_history.proofs.Items.{commit_of, entry_once, same_until}
use Rattle.fr_run_history.proofs.Names.{taken, taken_within}
use Rattle.fr_run_history.proofs.Reaching.{Rules, settled_within, list_rises, Reaches, catch_up, start_reaches, reaches_next}

-- the laws of answers on which this rests
pub record Answering : Type 0 where
  pub proxies : ProxiesAreSound
  pub exactly : AnsweredExactlyOnce
  pub read : ReadIsCommitted

-- a run of the machine that goes with a run of the nodes
record Simulates (c : Config) (h : List Turn) (seen : List Seen) : Type 0 where
  moves : List Move
  is_run : IsMachineRun moves
  seen_is : filter_map (λ (m : Move). m.seen) moves ≡ seen
  shows : Shows c h (machine_after moves)
  submitted : (machine_after moves).submitted ≡ taken h

-- ---- catching up

catch_moves : Rules → (c : Config) (w : List Turn) → IsConfig c → IsRun c w → (moves : List Move) → IsMachineRun moves → (seen : List Seen) → filter_map (λ (m : Move). m.seen) moves ≡ seen → Reaches c w (machine_after moves) → Simulates c w seen
catch_moves rules c w config run moves is_run seen seen_is r =
    let u = catch_up rules c w config run (machine_after moves) r in
    record {
      moves = record { seen = None; after = u.machine } ∷ record { seen = None; after = u.middle } ∷ moves;
      is_run = (u.settles, (u.appends, is_run));
      seen_is = seen_is;
      shows = u.shows;
      submitted = u.submitted;
    }

-- a turn of which clients see nothing
quiet : Rules → (c : Config) (t : Turn) (h : List Turn) → IsConfig c → IsRun c (t ∷ h) → (seen : List Seen) → (s : Simulates c h seen) → taken (t ∷ h) ≡ taken h → Simulates c (t ∷ h) seen
quiet rules c t h config run seen s same = catch_moves rules c (t ∷ h) config run s.moves s.is_run seen s.seen_is (reaches_next rules c t h config run (machine_after s.moves) s.shows (s.submitted ∙ sym same))

-- ---- submits

shows_with : (c : Config) (h : List Turn) (m : Machine) (works : List (Name × List Mutation)) → Shows c h m → Shows c h (record m { submitted = works })
shows_with c h m works s = record { latest = s.latest; is_latest = s.is_latest; list = s.list; items = s.items; final = s.final; settled = s.settled }

submits : Rules → (c : Config) (h : List Turn) (e p step : ℕ) (batch : List Mutation) (asks : List Sending) → IsConfig c → IsRun c (Submitted e p step batch asks ∷ h) → (seen : List Seen) → (s : Simulates c h seen)
    → Simulates c (Submitted e p step batch asks ∷ h) (Taken (name_at e p (length (batches h e p) + 1)) batch ∷ seen)
submits rules c h e p step batch asks config run seen s =
    let t = Submitted e p step batch asks in
    let m = machine_after s.moves in
    let name = name_at e p (length (batches h e p) + 1) in
    let a : Machine = record m { submitted = (name, batch) ∷ m.submitted } in
    let moves : List Move = record { seen = Some (Taken name batch); after = a } ∷ s.moves in
    let new = λ (other : List Mutation) (k : Contains m.submitted (name, other)). (
    let low = taken_within h (name, other) (subst (λ ws. Contains ws (name, other)) s.submitted k) in
    let none : ⊥ = omega (arith, low) in
    none) in
    let is_run : IsMachineRun moves = (Submits name batch new, s.is_run) in
    catch_moves rules c (t ∷ h) config run moves is_run (Taken name batch ∷ seen) (ap (λ xs. Taken name batch ∷ xs) s.seen_is)
    (reaches_next rules c t h config run a (shows_with c h m ((name, batch) ∷ m.submitted) s.shows) (ap (λ ws. (name, batch) ∷ ws) s.submitted))

-- ---- acknowledgements

map_from : {X Y : Type 0} (f : X → Y) (xs : List X) (y : Y) → Contains (map f xs) y → (x : X) × Contains xs x × (f x ≡ y)
map_from f [] y k = absurd (Contains-none k)
map_from f (x ∷ xs) y k = elim (Contains-cases (f x) (map f xs) y k) [
  | inl same ↦ (x, Contains-here x xs, same)
  | inr later ↦ (let r = map_from f xs y later in (r.0, Contains-later x xs r.0 r.1, r.2))
]

commit_has : (xs : List Entry) (x : Entry) (cm : Commit) → Contains xs x → commit_in x ≡ Some cm → Contains (filter_map commit_in xs) cm
commit_has [] x cm k at = absurd (Contains-none k)
commit_has (y ∷ xs) x cm k at = elim (Contains-cases y xs x k) [
  | inl same ↦ subst (λ o. Contains (cons_option o (filter_map commit_in xs)) cm) (sym (ap commit_in same ∙ at)) (Contains-here cm (filter_map commit_in xs))
  | inr later ↦ pick (commit_in y) (commit_has xs x cm later at)
]
  where
    pick : (o : Option Commit) → Contains (filter_map commit_in xs) cm → Contains (cons_option o (filter_map commit_in xs)) cm
    pick None k = k
    pick (Some d) k = Contains-later d (filter_map commit_in xs) cm k

-- a proxy that acknowledges a version does so to its last request
to_last : ProxiesAreSound → (c : Config) (h : List Turn) (e p v : ℕ) (from : NodeId) (u : Tell) (asks : List Sending) → IsRun c (ProxyHeard e p from u (Committed v) asks ∷ h)
    → IsAnswered c (ProxyHeard e p from u (Committed v) asks ∷ h) e p (length (batches h e p)) v
to_last sound c h e p v from u asks run =
    let o = pick s.under_way refl in
    let mine : IsOpenOf c h e p s o.0 = subst (λ (x : Option Open). IfSome x (IsOpenOf c h e p s)) o.1 (sound c h run.1 e p op).under_way in
    inl (record { from = from; heard = u; asks = asks; is = refl; open_batch = o.0; under_way = o.1; request_is = mine.request ∙ requests_are c h e p })
  where
    s : ProxyState
    s = proxy_at c h e p

    op : is_open c h e ≡ true
    op = (and_parts (is_open c h e) (nat_lt p c.proxies) run.0.0.actor.there).0

    pick : (o : Option Open) → (proxy_at c h e p).under_way ≡ o → (x : Open) × ((proxy_at c h e p).under_way ≡ Some x)
    pick (Some o) at = (o, at)
    pick None at =
        let d : Committed v ≡ Waiting = subst (λ (o : Option Open). Committed v ≡ outcome_of_heeded (heed_open (proxy_at c h e p) o from u)) at run.0.1 in
        absurd (cc)

-- an item of the machine's list at a version and with a name
record IsThere (m : Machine) (name : Name) (version : ℕ) : Type 0 where
  batch : List Mutation
  there : Contains m.list (record { version = version; name = name; batch = batch })

-- an answered request is in the list of the machine, at the version that was answered
answered_there : Rules → AnsweredExactlyOnce → (c : Config) (w : List Turn) → IsConfig c → IsRun c w → (e p r v : ℕ) → IsAnswered c w e p r v → (m : Machine) → Shows c w m → IsThere m (name_at e p r) v
answered_there rules exactly c w config run e p r v answered m s = record { batch = item.0.batch; there = subst (Contains m.list) is_item item.1 }
  where
    once : StandsOnce w e p r v (committed c w s.latest)
    once = exactly c w [] config run e p r v answered s.latest s.is_latest

    n : Numbering
    n = once.of.number

    batch : List Mutation
    batch = (number_has_batch rules.laws.contents.nodes c w run e once.of.number once.of.of.given).batch

    version : once.of.number.version ≡ v
    version = ap (λ (x : Entry). x.version) once.of.is ∙ once.version_is

    entry : once.entry ≡ commit_at e v (number_has_batch rules.laws.contents.nodes c w run e once.of.number once.of.of.given).batch
    entry = sym once.of.is ∙ (λ i. record { version = version i; origin = e; batch = (number_has_batch rules.laws.contents.nodes c w run e once.of.number once.of.of.given).at i })

    listed : Contains (committed c w s.latest) (commit_at e v batch)
    listed = subst (Contains (committed c w s.latest)) entry (get_has (committed c w s.latest) once.place once.entry once.at)

    item : (i : Item) × Contains m.list i × (commit_of i ≡ (v, batch))
    item = map_from commit_of m.list (v, batch) (subst (λ (cs : List Commit). Contains cs (v, batch)) (sym s.list) (commit_has (committed c w s.latest) (commit_at e v batch) (v, batch) listed refl))

    k : IsItemOf c w s.latest item.0
    k = s.items item.0 item.1

    at : item.0.version ≡ v
    at = ap (λ (x : Commit). x.0) item.2

    same : commit_at item.0.name.epoch item.0.version item.0.batch ≡ commit_at e v batch
    same = entry_once 0 (least_durable c w s.latest) (committed c w s.latest) (list_rises rules.laws c w config run s.latest s.is_latest) (commit_at item.0.name.epoch item.0.version item.0.batch) (commit_at e v batch) k.listed listed at

    epoch : item.0.name.epoch ≡ e
    epoch = ap (λ (x : Entry). x.origin) same

    number : k.number ≡ once.of.number
    number = chained_once (mark_version (generation_at c w e)) (numbers w e) (always_chained rules.laws.contents.nodes c w run e) k.number once.of.number (subst (λ x. Contains (numbers w x) k.number) epoch k.of.given) once.of.of.given (k.version ∙ at ∙ sym version)

    proxy : item.0.name.proxy ≡ p
    proxy = sym k.of.by ∙ ap (λ (x : Numbering). x.proxy) number ∙ once.of.of.by

    request : item.0.name.request ≡ r
    request = sym k.of.asked ∙ ap (λ (x : Numbering). x.request) number ∙ once.of.of.asked

    is_item : item.0 ≡ record { version = v; name = name_at e p r; batch = item.0.batch }
    is_item = (λ i. record { version = at i; name = record { epoch = epoch i; proxy = proxy i; request = request i }; batch = item.0.batch })

acknowledges : Rules → Answering → (c : Config) (h : List Turn) (e p v : ℕ) (from : NodeId) (u : Tell) (asks : List Sending) → IsConfig c → IsRun c (ProxyHeard e p from u (Committed v) asks ∷ h) → (seen : List Seen)
    → Simulates c (ProxyHeard e p from u (Committed v) asks ∷ h) seen → Simulates c (ProxyHeard e p from u (Committed v) asks ∷ h) (Acknowledged (name_at e p (length (batches h e p))) v ∷ seen)
acknowledges rules laws c h e p v from u asks config run seen s =
    let w = ProxyHeard e p from u (Committed v) asks ∷ h in
    let m = machine_after s.moves in
    let name = name_at e p (length (batches h e p)) in
    let k = answered_there rules laws.exactly c w config run e p (length (batches h e p)) v (to_last laws.proxies c h e p v from u asks run) m s.shows in
    let a : Machine = record m { acknowledged = name ∷ m.acknowledged } in
    let x = s.shows in
    record {
      moves = record { seen = Some (Acknowledged name v); after = a } ∷ s.moves;
      is_run = (Acknowledges name v k.batch k.there, s.is_run);
      seen_is = ap (λ xs. Acknowledged name v ∷ xs) s.seen_is;
      shows = record { latest = x.latest; is_latest = x.is_latest; list = x.list; items = x.items; final = x.final; settled = x.settled };
      submitted = s.submitted;
    }

-- ---- turns

hears : Rules → Answering → (c : Config) (h : List Turn) (e p : ℕ) (from : NodeId) (u : Tell) (asks : List Sending) (outcome : Outcome) → IsConfig c → IsRun c (ProxyHeard e p from u outcome asks ∷ h) → (seen : List Seen) → Simulates c h seen
    → Simulates c (ProxyHeard e p from u outcome asks ∷ h) (cons_option (seen_of (name_at e p (length (batches h e p))) outcome) seen)
hears rules laws c h e p from u asks Waiting config run seen s = quiet rules c (ProxyHeard e p from u Waiting asks) h config run seen s refl
hears rules laws c h e p from u asks (Committed v) config run seen s =
    acknowledges rules laws c h e p v from u asks config run seen (quiet rules c (ProxyHeard e p from u (Committed v) asks) h config run seen s refl)
hears rules laws c h e p from u asks Ended config run seen s = quiet rules c (ProxyHeard e p from u Ended asks) h config run seen s refl

turn_next : Rules → Answering → (c : Config) (t : Turn) (h : List Turn) → IsConfig c → IsRun c (t ∷ h) → (seen : List Seen) → Simulates c h seen → Simulates c (t ∷ h) (cons_option (seen_at h t) seen)
turn_next rules laws c (Begun b shape asks) h config run seen s = quiet rules c (Begun b shape asks) h config run seen s refl
turn_next rules laws c (CellTurn from i a u) h config run seen s = quiet rules c (CellTurn from i a u) h config run seen s refl
turn_next rules laws c (LogTurn from e i a u) h config run seen s = quiet rules c (LogTurn from e i a u) h config run seen s refl
turn_next rules laws c (SeqTurn from e a u) h config run seen s = quiet rules c (SeqTurn from e a u) h config run seen s refl
turn_next rules laws c (Submitted e p step batch asks) h config run seen s = submits rules c h e p step batch asks config run seen s
turn_next rules laws c (ProxyHeard e p from u outcome asks) h config run seen s = hears rules laws c h e p from u asks outcome config run seen s
turn_next rules laws c (RecHeard b from u asks) h config run seen s = quiet rules c (RecHeard b from u asks) h config run seen s refl
turn_next rules laws c (StorageHeard tag from u part fault) h config run seen s = quiet rules c (StorageHeard tag from u part fault) h config run seen s refl
turn_next rules laws c (Gone who) h config run seen s = quiet rules c (Gone who) h config run seen s refl
turn_next rules laws c (Crashed who) h config run seen s = quiet rules c (Crashed who) h config run seen s refl

-- ---- reads

reads : Answering → (c : Config) (h : List Turn) → IsConfig c → IsRun c h → (r : Reading) → IsRead c h r → (seen : List Seen) → (s : Simulates c h seen) → Simulates c h (Answered r ∷ seen)
reads laws c h config run r is seen s =
    let m = machine_after s.moves in
    let x = s.shows in
    let low = x.is_latest.greatest is.latest is.is_latest.chosen in
    let high = is.is_latest.greatest x.latest x.is_latest.chosen in
    let same : is.latest ≡ x.latest = omega (arith, low, high) in
    let settled : IsSettledAt c h x.latest r.tag r.version = subst (λ e. IsSettledAt c h e r.tag r.version) same is.settled in
    let within = settled_within c h x.latest r.tag r.version settled in
    let at = x.settled r.tag in
    let inside = taken_inside (shard_at c.begins r.tag) (storage_at c h r.tag).store.floor (storage_at c h r.tag).store.applied r.version r.key is.answers.taken in
    let was = (laws.read c h config run x.latest x.is_latest r.tag r.version settled r.key inside).has in
    let value : r.value ≡ get (map_at r.version m.list) r.key = sym is.answers.has ∙ was ∙ ap (λ (cs : List Commit). get (contents_after empty cs) r.key) (sym (same_until r.version m.list (committed c h x.latest) x.list)) in
    record {
      moves = record { seen = Some (Answered r); after = m } ∷ s.moves;
      is_run = (Reads r (omega (arith, within, at)) value, s.is_run);
      seen_is = ap (λ xs. Answered r ∷ xs) s.seen_is;
      shows = s.shows;
      submitted = s.submitted;
    }

-- ---- histories

simulate : Rules → Answering → (c : Config) (acts : List Act) → IsConfig c → IsHistory c acts → Simulates c (turns acts) (seen_by acts)
simulate rules laws c [] config k = catch_moves rules c [] config tt [] tt [] refl (start_reaches rules c config)
simulate rules laws c (Turned t ∷ acts) config k = turn_next rules laws c t (turns acts) config (k.0, history_run c acts k.1) (seen_by acts) (simulate rules laws c acts config k.1)
simulate rules laws c (Read r ∷ acts) config k = reads laws c (turns acts) config (history_run c acts k.1) r k.0 (seen_by acts) (simulate rules laws c acts config k.1)

pub histories_are_of_machine : Rules → Answering → HistoriesAreOfMachine
histories_are_of_machine rules laws c acts config k =
    let s = simulate rules laws c acts config k in
    record { moves = s.moves; is_run = s.is_run; seen = s.seen_is; shows = s.shows }
