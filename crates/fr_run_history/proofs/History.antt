-- Histories are strictly serializable.
use Rattle.std.proofs.Common.{◌≡◌, ℕ, ◌<◌, ◌≤◌, List, [], ◌∷◌, ◌++◌, append_assoc, sym, ◌∙◌, ap, subst, arith}
use Rattle.std.specs.List.{Contains}
use Rattle.std.specs.FinMap.{get}
use Rattle.fr_tags.specs.Shards.{shard_at}
use Rattle.fr_run.specs.Config.{Config}
use Rattle.fr_run.specs.Turn.{Turn}
use Rattle.fr_run.specs.Nodes.{storage_at}
use Rattle.fr_run.specs.Run.{IsRun}
use Rattle.fr_run.specs.Batches.{IsAcknowledged}
use Rattle.fr_run.specs.States.{IsLatest}
use Rattle.fr_run.specs.StateLaws.{IsConfig}
use Rattle.fr_run_headline.specs.Numbers.{Numbering}
use Rattle.fr_run_headline.specs.Issued.{Entry, least_durable, committed}
use Rattle.fr_run_headline.specs.IssuedLaws.{VersionsRise, through}
use Rattle.fr_run_headline.specs.Committed.{map_after, CommittedIsThere}
use Rattle.fr_run_outcomes.specs.Once.{RequestHasOneNumber, IsEntryOf, CommittedWasSubmitted, IsAnswered, StandsOnce, AnsweredExactlyOnce}
use Rattle.fr_run_outcomes.specs.Reads.{ReadIsCommitted, CommittedStays}
use Rattle.fr_run_history.specs.RealTime.{IsToCome, AcknowledgedBefore, SettledBefore}
use Rattle.fr_run_history.specs.History.{Act, Read, Reading, turns, IsRead, IsHistory, Operation, Write, Query, BeginsAfter, HasEnded, IsPlacedAt, Sees, HistoriesAreSerializable}
use Rattle.fr_run_history.proofs.Coming.{get_has, came_before}
use Rattle.fr_run_history.proofs.Acts.{turns_at, history_run, history_at, stands_among, answered_is_acknowledged, taken_inside}

-- the laws on which this rests
pub record Rules : Type 0 where
  pub there : CommittedIsThere
  pub number : RequestHasOneNumber
  pub submitted : CommittedWasSubmitted
  pub exactly : AnsweredExactlyOnce
  pub read : ReadIsCommitted
  pub stays : CommittedStays
  pub acknowledged : AcknowledgedBefore
  pub settled : SettledBefore

-- ---- the laws at a moment of a longer run

exactly_at : Rules → (c : Config) (h more w : List Turn) → more ++ h ≡ w → IsConfig c → IsRun c w → (e proxy request version : ℕ) → IsAnswered c h e proxy request version → (latest : ℕ) → IsLatest c w latest
    → StandsOnce w e proxy request version (committed c w latest)
exactly_at rules c h more w are config = subst
    (λ (w : List Turn). IsRun c w → (e proxy request version : ℕ) → IsAnswered c h e proxy request version → (latest : ℕ) → IsLatest c w latest → StandsOnce w e proxy request version (committed c w latest))
    are (λ run. rules.exactly c h more config run)

stays_at : Rules → (c : Config) (h more w : List Turn) → more ++ h ≡ w → IsConfig c → IsRun c w → (latest later version : ℕ) → IsLatest c h latest → IsLatest c w later → version ≤ least_durable c h latest
    → through version (committed c w later) ≡ through version (committed c h latest)
stays_at rules c h more w are config = subst
    (λ (w : List Turn). IsRun c w → (latest later version : ℕ) → IsLatest c h latest → IsLatest c w later → version ≤ least_durable c h latest → through version (committed c w later) ≡ through version (committed c h latest))
    are (λ run. rules.stays c h more config run)

-- a request that was to come at a moment, and an entry of the committed list of a later one that is the request's
record IsComing (c : Config) (h w : List Turn) (order : List Entry) : Type 0 where
  epoch : ℕ
  proxy : ℕ
  request : ℕ
  to_come : IsToCome h epoch proxy request
  entry : Entry
  there : Contains order entry
  of : IsEntryOf w epoch proxy request entry

acknowledged_at : Rules → (c : Config) (h more w : List Turn) → more ++ h ≡ w → IsConfig c → IsRun c w → (a version : ℕ) → IsAcknowledged h a version → (later : ℕ) → IsLatest c w later
    → (k : IsComing c h w (committed c w later)) → version < k.entry.version
acknowledged_at rules c h more w are config = subst
    (λ (w : List Turn). IsRun c w → (a version : ℕ) → IsAcknowledged h a version → (later : ℕ) → IsLatest c w later → (k : IsComing c h w (committed c w later)) → version < k.entry.version)
    are (λ run a version acked later now k. rules.acknowledged c h more config run a version acked later now k.epoch k.proxy k.request k.to_come k.entry k.there k.of)

settled_at : Rules → (c : Config) (h more w : List Turn) → more ++ h ≡ w → IsConfig c → IsRun c w → (r : Reading) → IsRead c h r → (later : ℕ) → IsLatest c w later
    → (k : IsComing c h w (committed c w later)) → r.version < k.entry.version
settled_at rules c h more w are config = subst
    (λ (w : List Turn). IsRun c w → (r : Reading) → IsRead c h r → (later : ℕ) → IsLatest c w later → (k : IsComing c h w (committed c w later)) → r.version < k.entry.version)
    are (λ run r is later now k. rules.settled c h more config run is.latest r.tag r.version is.is_latest is.settled later now k.epoch k.proxy k.request k.to_come k.entry k.there k.of)

-- ---- reads

-- a read is answered at its moment
read_is : (c : Config) (after before acts : List Act) (r : Reading) → after ++ Read r ∷ before ≡ acts → IsHistory c acts → IsRead c (turns before) r
read_is c after before acts r are k = (history_at c after (Read r ∷ before) acts are k).0

sees : Rules → (c : Config) (acts : List Act) → IsConfig c → IsHistory c acts → (latest : ℕ) → IsLatest c (turns acts) latest → (r : Reading) → Contains acts (Read r) → Sees (committed c (turns acts) latest) r
sees rules c acts config k latest is r there =
    let s = stands_among acts (Read r) there in
    let h = turns s.before in
    let m = read_is c s.after s.before acts r s.are k in
    let run = history_run c s.before (history_at c s.after (Read r ∷ s.before) acts s.are k).1 in
    let inside = taken_inside (shard_at c.begins r.tag) (storage_at c h r.tag).store.floor (storage_at c h r.tag).store.applied r.version r.key m.answers.taken in
    let was = (rules.read c h config run m.latest m.is_latest r.tag r.version m.settled r.key inside).has in
    let same = stays_at rules c h (turns s.after) (turns acts) (turns_at s.after (Read r ∷ s.before) acts s.are) config (history_run c acts k) m.latest latest r.version m.is_latest is m.settled.committed in
    sym m.answers.has ∙ was ∙ ap (λ xs. get (map_after xs) r.key) (sym same)

-- ---- real time

-- the entry of a request has one version
same_version : Rules → (c : Config) (w : List Turn) → IsRun c w → (e proxy request : ℕ) (x y : Entry) → IsEntryOf w e proxy request x → IsEntryOf w e proxy request y → x.version ≡ y.version
same_version rules c w run e proxy request x y k l =
    let same : k.number ≡ l.number = rules.number c w run e proxy request k.number l.number k.of l.of in
    ap (λ (z : Entry). z.version) (sym k.is) ∙ ap (λ (n : Numbering). n.version) same ∙ ap (λ (z : Entry). z.version) l.is

-- an operation that begins after a moment is placed at the version of a request that was to come, or above it
record BeginsAt (c : Config) (h w : List Turn) (order : List Entry) (b : ℕ) : Type 0 where
  coming : IsComing c h w order
  low : coming.entry.version ≤ b

begins_at : Rules → (c : Config) (acts before : List Act) → IsConfig c → IsHistory c acts → (latest : ℕ) → IsLatest c (turns acts) latest → (y : Operation) → BeginsAfter before y → (b : ℕ)
    → IsPlacedAt c acts (committed c (turns acts) latest) y b → BeginsAt c (turns before) (turns acts) (committed c (turns acts) latest) b
begins_at rules c acts before config k latest is (Write e p r) come b (x, there, of, at) = record {
  coming = record { epoch = e; proxy = p; request = r; to_come = come; entry = x; there = there; of = of };
  low = omega (arith, at);
}
begins_at rules c acts before config k latest is (Query e p r rd) come b (q, at) =
    let once = exactly_at rules c (turns q.before) (turns q.after) (turns acts) (turns_at q.after (Read rd ∷ q.before) acts q.are) config (history_run c acts k) e p r q.own q.answered latest is in
    let same = once.version_is in
    let above = q.above in
    record {
      coming = record { epoch = e; proxy = p; request = r; to_come = come; entry = once.entry; there = get_has (committed c (turns acts) latest) once.place once.entry once.at; of = once.of };
      low = omega (arith, at, same, above);
    }

-- and one that ended by then is placed below it
ended_below : Rules → (c : Config) (acts after before : List Act) → after ++ before ≡ acts → IsConfig c → IsHistory c acts → (latest : ℕ) → IsLatest c (turns acts) latest → (x : Operation) → HasEnded c before x → (a : ℕ)
    → IsPlacedAt c acts (committed c (turns acts) latest) x a → (y : IsComing c (turns before) (turns acts) (committed c (turns acts) latest)) → a < y.entry.version
ended_below rules c acts after before are config k latest is (Write e p r) (v, answered) a (x, there, of, at) y =
    let run = history_run c acts k in
    let parts = turns_at after before acts are in
    let once = exactly_at rules c (turns before) (turns after) (turns acts) parts config run e p r v answered latest is in
    let same : x.version ≡ once.entry.version = same_version rules c (turns acts) run e p r x once.entry of once.of in
    let own = once.version_is in
    let less = acknowledged_at rules c (turns before) (turns after) (turns acts) parts config run e v (answered_is_acknowledged c (turns before) e p r v answered) latest is y in
    omega (arith, same, own, at, less)
ended_below rules c acts after before are config k latest is (Query e p r rd) q a (placed, at) y =
    let run = history_run c acts k in
    let parts = turns_at after before acts are in
    let m = read_is c q.after q.before before rd q.are (history_at c after before acts are k) in
    let inner = turns_at q.after (Read rd ∷ q.before) before q.are in
    let all : (turns after ++ turns q.after) ++ turns q.before ≡ turns acts = append_assoc (turns after) (turns q.after) (turns q.before) ∙ ap (λ (ts : List Turn). turns after ++ ts) inner ∙ parts in
    let come : IsToCome (turns q.before) y.epoch y.proxy y.request = came_before (turns q.after) (turns q.before) y.epoch y.proxy y.request (subst (λ (ts : List Turn). IsToCome ts y.epoch y.proxy y.request) (sym inner) y.to_come) in
    let less = settled_at rules c (turns q.before) (turns after ++ turns q.after) (turns acts) all config run rd m latest is (record { epoch = y.epoch; proxy = y.proxy; request = y.request; to_come = come; entry = y.entry; there = y.there; of = y.of }) in
    omega (arith, at, less)

-- ---- all of it

rises : Rules → (c : Config) (h : List Turn) → IsConfig c → IsRun c h → (latest : ℕ) → IsLatest c h latest → VersionsRise 0 (committed c h latest) (least_durable c h latest)
rises rules c h config run latest is =
    let k = rules.there c h config run in
    let low = is.greatest k.latest k.is_latest.chosen in
    let high = k.is_latest.greatest latest is.chosen in
    let same : k.latest ≡ latest = omega (arith, low, high) in
    subst (λ e. VersionsRise 0 (committed c h e) (least_durable c h e)) same k.rises

pub histories_are_serializable : Rules → HistoriesAreSerializable
histories_are_serializable rules c acts config k latest is = record {
  rises = rises rules c (turns acts) config run latest is;
  submitted = rules.submitted c (turns acts) config run latest is;
  once = λ e proxy request version answered. rules.exactly c (turns acts) [] config run e proxy request version answered latest is;
  sees = sees rules c acts config k latest is;
  real_time = λ x y p a b px py. (
      let begins = begins_at rules c acts p.before config k latest is y p.begins b py in
      let less = ended_below rules c acts p.after p.before p.are config k latest is x p.ended a px begins.coming in
      let low = begins.low in
      omega (arith, less, low));
  unseen = λ after before r are e proxy request version come placed. (
      let less = settled_at rules c (turns before) (turns after) (turns acts) (turns_at after (Read r ∷ before) acts are) config run r (read_is c after before acts r are k) latest is
      (record { epoch = e; proxy = proxy; request = request; to_come = come; entry = placed.0; there = placed.1; of = placed.2 }) in
      let at = placed.3 in
      omega (arith, less, at));
}
  where
    run : IsRun c (turns acts)
    run = history_run c acts k
