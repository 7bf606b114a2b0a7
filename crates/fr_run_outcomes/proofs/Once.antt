-- A request is committed at most once, and one that was acknowledged exactly once.
use Rattle.std.proofs.Common.{◌≡◌, ℕ, zero, suc, ◌<◌, true, nat_lt, List, [], ◌∷◌, ◌++◌, map, reverse, slice_get, None, Some, inl, inr, refl, sym, ◌∙◌, ap, subst, arith}
use Rattle.std.specs.Prelude.{IfSome}
use Rattle.std.specs.List.{Contains}
use Rattle.std.proofs.lemmas.Bool.{and_parts}
use Rattle.std.proofs.lemmas.List.{reverse-append}
use Rattle.std.proofs.lemmas.List.Elements.{Contains-append_cases, Contains-push_cases}
use Rattle.fr_base.specs.declared.place.NodeId.{NodeId}
use Rattle.fr_mutation.specs.declared.mutation.Mutation.{Mutation}
use Rattle.fr_state.specs.Generations.{LogGeneration}
use Rattle.fr_ask.specs.declared.tell.Tell.{Tell}
use Rattle.fr_proxy.specs.declared.outcome.Outcome.TheVariants.{Waiting, Committed, Ended}
use Rattle.fr_proxy.specs.Proxy.{ProxyState, Open, heeded, outcome_of_heeded}
use Rattle.fr_proxy.specs.declared.heeded.Heeded.{Heeded}
use Rattle.fr_proxy.specs.Heard.{Heard, Ignores, Places, Holds, HoldsAll, Cuts}
use Rattle.fr_run.specs.Config.{Config}
use Rattle.fr_run.specs.Turn.{Turn, Sending, ProxyHeard}
use Rattle.fr_run.specs.Nodes.{is_open, proxy_at}
use Rattle.fr_run.specs.Run.{IsTurn, IsRun}
use Rattle.fr_run.specs.Batches.{batch_at}
use Rattle.fr_run.specs.States.{line_of, IsLatest}
use Rattle.fr_run.specs.StateLaws.{IsConfig}
use Rattle.fr_run.specs.ChosenLaws.{ChosenIsPlanned}
use Rattle.fr_run.specs.Laws.{Laws}
use Rattle.fr_run.proofs.Cells.{Contains-here, Contains-later, Contains-none, Contains-cases}
use Rattle.fr_run_headline.specs.Numbers.{Numbering, numbers, top_at}
use Rattle.fr_run_headline.specs.Proxies.{IsNumberOf as IsNumberOfOpen, IsOpenOf}
use Rattle.fr_run_headline.specs.BoundLaws.{ProxiesAreSound}
use Rattle.fr_run_headline.proofs.Numbers.{numbers_stay}
use Rattle.fr_run_headline.proofs.Proxies.{batch_stays}
use Rattle.fr_run_headline.specs.Issued.{Entry, entry_of, entries, issued_of, issued, least_durable, committed}
use Rattle.fr_run_headline.specs.IssuedLaws.{IssuedRises}
use Rattle.fr_run_headline.proofs.VersionLists.{RiseIn, rise_through, through}
use Rattle.fr_run_headline.proofs.IssuedLists.{version_of}
use Rattle.fr_run_headline.specs.Committed.{batch_under_way, IsAcknowledgedBatch, commit_at}
use Rattle.fr_run_headline.specs.Headline.{Headline}
use Rattle.fr_run_headline.proofs.Places.{through_keeps}
use Rattle.fr_run_outcomes.specs.Once.{IsNumberOf, RequestHasOneNumber, IsEntryOf, CommittedAtMostOnce, IsOfRequest, CommittedWasSubmitted, IsAnswered, AcknowledgedIsAnswered, StandsOnce, AnsweredExactlyOnce}

-- ---- lists that rise

-- what stands in a list that rises is above its lower end
rise_above : (a b : ℕ) (xs : List Entry) → RiseIn version_of a xs b → (i : ℕ) (x : Entry) → slice_get xs i ≡ Some x → a < x.version
rise_above a b [] r i x e = absurd (cc)
rise_above a b (y ∷ xs) (lt, r) zero x e = let same : y ≡ x = cc in subst (λ (z : Entry). a < z.version) same lt
rise_above a b (y ∷ xs) (lt, r) (suc i) x e = let k = rise_above y.version b xs r i x e in omega (arith, k, lt)

-- so each version stands at one place
rise_once : (a b : ℕ) (xs : List Entry) → RiseIn version_of a xs b → (i j : ℕ) (x y : Entry) → slice_get xs i ≡ Some x → slice_get xs j ≡ Some y → x.version ≡ y.version → i ≡ j
rise_once a b [] r i j x y e f same = absurd (cc)
rise_once a b (z ∷ xs) (lt, r) zero zero x y e f same = refl
rise_once a b (z ∷ xs) (lt, r) zero (suc j) x y e f same =
    let one : z ≡ x = cc in
    let at = ap (λ (w : Entry). w.version) one in
    let k = rise_above z.version b xs r j y f in
    absurd (omega (arith, at, k, same))
rise_once a b (z ∷ xs) (lt, r) (suc i) zero x y e f same =
    let one : z ≡ y = cc in
    let at = ap (λ (w : Entry). w.version) one in
    let k = rise_above z.version b xs r i x e in
    absurd (omega (arith, at, k, same))
rise_once a b (z ∷ xs) (lt, r) (suc i) (suc j) x y e f same = ap suc (rise_once z.version b xs r i j x y e f same)

-- what a list contains stands somewhere
stands_at : (xs : List Entry) (x : Entry) → Contains xs x → (i : ℕ) × (slice_get xs i ≡ Some x)
stands_at [] x k = absurd (Contains-none k)
stands_at (y ∷ xs) x k = elim (Contains-cases y xs x k) [ inl same ↦ (zero, ap Some same) | inr later ↦ (let r = stands_at xs x later in (suc r.0, r.1)) ]

-- ---- at most once

committed_rises : ChosenIsPlanned → IssuedRises → (c : Config) (h : List Turn) → IsConfig c → IsRun c h → (latest : ℕ) → IsLatest c h latest → RiseIn version_of 0 (committed c h latest) (least_durable c h latest)
committed_rises planned rises c h config run latest is =
    let g = planned c h run latest is.chosen in
    rise_through version_of 0 (top_at c h latest) (least_durable c h latest) (issued c h latest) (rises c h config run latest g.0 g.1) (omega arith)

same_version : RequestHasOneNumber → (c : Config) (h : List Turn) → IsRun c h → (e proxy request : ℕ) (x y : Entry) → IsEntryOf h e proxy request x → IsEntryOf h e proxy request y → x.version ≡ y.version
same_version one c h run e proxy request x y k l =
    let same : k.number ≡ l.number = one c h run e proxy request k.number l.number k.of l.of in
    ap (λ (z : Entry). z.version) (sym k.is) ∙ ap (λ (n : Numbering). n.version) same ∙ ap (λ (z : Entry). z.version) l.is

pub at_most_once : RequestHasOneNumber → ChosenIsPlanned → IssuedRises → CommittedAtMostOnce
at_most_once one planned rises c h config run latest is e proxy request i j x y at there k l =
    rise_once 0 (least_durable c h latest) (committed c h latest) (committed_rises planned rises c h config run latest is) i j x y at there (same_version one c h run e proxy request x y k l)

-- ---- what is committed was submitted

-- what is issued is an entry of some generation
issued_from : (f : ℕ → List Entry) (gens : List LogGeneration) (x : Entry) → Contains (issued_of f gens) x → (e : ℕ) × Contains (f e) x
issued_from f [] x k = absurd (Contains-none k)
issued_from f (g ∷ []) x k = (g.epoch, k)
issued_from f (g ∷ next ∷ gens) x k = elim (Contains-append_cases (through version_of next.seeded_to (f g.epoch)) (issued_of f (next ∷ gens)) x k) [
  | inl own ↦ (g.epoch, (through_keeps next.seeded_to (f g.epoch) x own).0)
  | inr later ↦ issued_from f (next ∷ gens) x later
]

map_from : (f : Numbering → Entry) (ns : List Numbering) (x : Entry) → Contains (map f ns) x → (n : Numbering) × Contains ns n × (f n ≡ x)
map_from f [] x k = absurd (Contains-none k)
map_from f (n ∷ ns) x k = elim (Contains-cases (f n) (map f ns) x k) [
  | inl same ↦ (n, Contains-here n ns, same)
  | inr later ↦ (let r = map_from f ns x later in (r.0, Contains-later n ns r.0 r.1, r.2))
]

reverse_from : (ns : List Numbering) (n : Numbering) → Contains (reverse ns) n → Contains ns n
reverse_from [] n k = k
reverse_from (m ∷ ns) n k = elim (Contains-push_cases (reverse ns) m n (subst (λ xs. Contains xs n) (reverse-append (m ∷ []) ns) k)) [
  | inl before ↦ Contains-later m ns n (reverse_from ns n before)
  | inr same ↦ subst (λ z. Contains (m ∷ ns) z) same (Contains-here m ns)
]

-- an entry with a batch is that of a number of its epoch
entry_from : (c : Config) (h : List Turn) (e : ℕ) (x : Entry) (batch : List Mutation) → Contains (entries c h e) x → x.batch ≡ Some batch → IsOfRequest h x batch
entry_from c h e x batch k has = elim (Contains-cases _ (map (entry_of h e) (reverse (numbers h e))) x k) [
  | inl mark ↦ (let none : None ≡ Some batch = ap (λ (y : Entry). y.batch) mark ∙ has in absurd (cc))
  | inr own ↦ (
      let n = map_from (entry_of h e) (reverse (numbers h e)) x own in
      let origin : e ≡ x.origin = ap (λ (y : Entry). y.origin) n.2 in
      let of : IsEntryOf h e n.0.proxy n.0.request x = record { number = n.0; of = record { given = reverse_from (numbers h e) n.0 n.1; by = refl; asked = refl }; is = n.2 } in
      let taken : batch_at h e n.0.proxy n.0.request ≡ Some batch = ap (λ (y : Entry). y.batch) n.2 ∙ has in
      record {
        proxy = n.0.proxy;
        request = n.0.request;
        entry = subst (λ o. IsEntryOf h o n.0.proxy n.0.request x) origin of;
        taken = subst (λ o. batch_at h o n.0.proxy n.0.request ≡ Some batch) origin taken;
      })
]

pub was_submitted : CommittedWasSubmitted
was_submitted c h config run latest is x batch k has =
    let own = issued_from (entries c h) (line_of c h latest) x (through_keeps (least_durable c h latest) (issued c h latest) x k).0 in
    entry_from c h own.0 x batch own.1 has

-- ---- acknowledgements

-- a proxy that answers that a version is committed has a batch under way, whose number has that version
record HasOpen (h : List Turn) (e p v : ℕ) (s : ProxyState) : Type 0 where
  open_batch : Open
  under_way : s.under_way ≡ Some open_batch
  number : Numbering
  of : IsNumberOf h e p open_batch.request number
  at : number.version ≡ v
  taken : batch_at h e p open_batch.request ≡ Some open_batch.batch

commits : ProxiesAreSound → (c : Config) (h : List Turn) → IsRun c h → (e p : ℕ) → is_open c h e ≡ true → (from : NodeId) (t : Tell) (v : ℕ) (x : Heeded) → Heard (proxy_at c h e p) from t x → Committed v ≡ outcome_of_heeded x
    → HasOpen h e p v (proxy_at c h e p)
commits sound c h run e p op from t v x Ignores says = let d : Committed v ≡ Waiting = says in absurd (cc)
commits sound c h run e p op from t v x (Places o at n) says = let d : Committed v ≡ Waiting = says in absurd (cc)
commits sound c h run e p op from t v x (Holds o at log n more) says = let d : Committed v ≡ Waiting = says in absurd (cc)
commits sound c h run e p op from t v x (HoldsAll o at log n m) says =
    let d : Committed v ≡ Committed at.version = says in
    let same : at.version ≡ v = cc in
    let s = proxy_at c h e p in
    let was : IsOpenOf c h e p s o = subst (λ u. IfSome u (IsOpenOf c h e p s)) n.under_way (sound c h run e p op).under_way in
    let mine : IsNumberOfOpen h e p s o at = subst (λ y. IfSome y (IsNumberOfOpen h e p s o)) n.given was.number in
    record {
      open_batch = o;
      under_way = n.under_way;
      number = record { proxy = p; request = o.request; prev = at.prev; version = at.version };
      of = record { given = mine.0; by = refl; asked = refl };
      at = same;
      taken = was.batch;
    }
commits sound c h run e p op from t v x (Cuts o at is) says = let d : Committed v ≡ Ended = says in absurd (cc)

answers : Laws → ProxiesAreSound → (c : Config) (h : List Turn) → IsRun c h → (e p v : ℕ) (from : NodeId) (t : Tell) (asks : List Sending) → IsTurn c h (ProxyHeard e p from t (Committed v) asks) → HasOpen h e p v (proxy_at c h e p)
answers laws sound c h run e p v from t asks is =
    let op = (and_parts (is_open c h e) (nat_lt p c.proxies) is.0.actor.there).0 in
    commits sound c h run e p op from t v (heeded (proxy_at c h e p) from t) (laws.proxy_heard (proxy_at c h e p) from t) is.1

pub acknowledged_is_answered : Laws → ProxiesAreSound → AcknowledgedIsAnswered
acknowledged_is_answered laws sound c [] run e v k = absurd (Contains-none k.turn)
acknowledged_is_answered laws sound c (t ∷ h) run e v k = elim (Contains-cases t h (ProxyHeard e k.proxy k.from k.tell (Committed v) k.asks) k.turn) [
  | inl now ↦ (
      let o = answers laws sound c h run.1 e k.proxy v k.from k.tell k.asks (subst (IsTurn c h) now run.0) in
      (k.proxy, o.open_batch.request, inl (record { from = k.from; heard = k.tell; asks = k.asks; is = now; open_batch = o.open_batch; under_way = o.under_way; request_is = refl })))
  | inr before ↦ (let r = acknowledged_is_answered laws sound c h run.1 e v (record { proxy = k.proxy; from = k.from; tell = k.tell; asks = k.asks; turn = before }) in (r.0, r.1, inr r.2))
]

-- a request that was answered has its number, at the version of the answer, and its batch was acknowledged there
record IsPlacedBy (c : Config) (h : List Turn) (e proxy request version : ℕ) : Type 0 where
  batch : List Mutation
  number : Numbering
  of : IsNumberOf h e proxy request number
  at : number.version ≡ version
  taken : batch_at h e proxy request ≡ Some batch
  acknowledged : IsAcknowledgedBatch c h e version batch

placed_later : (c : Config) (t : Turn) (h : List Turn) (e proxy request version : ℕ) → IsPlacedBy c h e proxy request version → IsPlacedBy c (t ∷ h) e proxy request version
placed_later c t h e proxy request version k = record {
  batch = k.batch;
  number = k.number;
  of = record { given = numbers_stay t e (numbers h e) k.number k.of.given; by = k.of.by; asked = k.of.asked };
  at = k.at;
  taken = batch_stays t h e proxy request k.batch k.taken;
  acknowledged = inr k.acknowledged;
}

answered_is_placed : Laws → ProxiesAreSound → (c : Config) (h : List Turn) → IsRun c h → (e proxy request version : ℕ) → IsAnswered c h e proxy request version → IsPlacedBy c h e proxy request version
answered_is_placed laws sound c [] run e proxy request version k = absurd k
answered_is_placed laws sound c (t ∷ h) run e proxy request version (inr before) = placed_later c t h e proxy request version (answered_is_placed laws sound c h run.1 e proxy request version before)
answered_is_placed laws sound c (t ∷ h) run e proxy request version (inl now) =
    let o = answers laws sound c h run.1 e proxy version now.from now.heard now.asks (subst (IsTurn c h) now.is run.0) in
    let two : Some o.open_batch ≡ Some now.open_batch = sym o.under_way ∙ now.under_way in
    let same : o.open_batch ≡ now.open_batch = cc in
    let asked : o.open_batch.request ≡ request = ap (λ (x : Open). x.request) same ∙ now.request_is in
    let of : IsNumberOf h e proxy request o.number = subst (λ r. IsNumberOf h e proxy r o.number) asked o.of in
    let taken : batch_at h e proxy request ≡ Some o.open_batch.batch = subst (λ r. batch_at h e proxy r ≡ Some o.open_batch.batch) asked o.taken in
    record {
      batch = o.open_batch.batch;
      number = o.number;
      of = record { given = numbers_stay t e (numbers h e) o.number of.given; by = of.by; asked = of.asked };
      at = o.at;
      taken = batch_stays t h e proxy request o.open_batch.batch taken;
      acknowledged = inl (record { proxy = proxy; from = now.from; heard = now.heard; asks = now.asks; is = now.is; under_way = ap batch_under_way o.under_way });
    }

still_placed : (c : Config) (more h : List Turn) (e proxy request version : ℕ) → IsPlacedBy c h e proxy request version → IsPlacedBy c (more ++ h) e proxy request version
still_placed c [] h e proxy request version k = k
still_placed c (t ∷ more) h e proxy request version k = placed_later c t (more ++ h) e proxy request version (still_placed c more h e proxy request version k)

run_before : (c : Config) (more h : List Turn) → IsRun c (more ++ h) → IsRun c h
run_before c [] h run = run
run_before c (t ∷ more) h run = run_before c more h run.1

stands_once : Laws → RequestHasOneNumber → ChosenIsPlanned → IssuedRises → Headline → (c : Config) (h : List Turn) → IsConfig c → IsRun c h → (e proxy request version : ℕ) → IsPlacedBy c h e proxy request version
    → (latest : ℕ) → IsLatest c h latest → StandsOnce h e proxy request version (committed c h latest)
stands_once laws one planned rises headline c h config run e proxy request version k latest is =
    let entry = commit_at e version k.batch in
    let there = stands_at (committed c h latest) entry (((headline c h config run).1 e version k.batch k.acknowledged).0 [] run latest is) in
    let number = k.number in
    let by : batch_at h e number.proxy number.request ≡ Some k.batch = subst (λ p. batch_at h e p number.request ≡ Some k.batch) (sym k.of.by) (subst (λ r. batch_at h e proxy r ≡ Some k.batch) (sym k.of.asked) k.taken) in
    let is_entry : entry_of h e number ≡ entry = (let at = k.at in λ i. record { version = at i; origin = e; batch = by i }) in
    let of : IsEntryOf h e proxy request entry = record { number = number; of = k.of; is = is_entry } in
    record {
      place = there.0;
      entry = entry;
      at = there.1;
      of = of;
      version_is = refl;
      only = λ i x at own. at_most_once one planned rises c h config run latest is e proxy request i there.0 x entry at there.1 own of;
    }

pub exactly_once : Laws → ProxiesAreSound → RequestHasOneNumber → ChosenIsPlanned → IssuedRises → Headline → AnsweredExactlyOnce
exactly_once laws sound one planned rises headline c h more config run e proxy request version k latest is =
    stands_once laws one planned rises headline c (more ++ h) config run e proxy request version
    (still_placed c more h e proxy request version (answered_is_placed laws sound c h (run_before c more h run) e proxy request version k)) latest is
