-- What a recoverer writes, and when.
use Rattle.std.specs.Prelude.{◌≡◌, ◌<◌, ◌≤◌, ◌+◌, ◌^◌, ◌==◌, ℕ, true, List, [], Option, None, Some, Ok, All}
use Rattle.std.specs.List.{IsDistinct}
use Rattle.fr_base.specs.declared.place.NodeId.{NodeId}
use Rattle.fr_register.specs.declared.ask.CellAsk.TheVariants.{Write}
use Rattle.fr_log.specs.declared.ask.LogAsk.TheVariants.{Push, Seed}
use Rattle.fr_log.specs.Push.{PushContent}
use Rattle.fr_log.specs.Seed.{SeedContent}
use Rattle.fr_ask.specs.declared.ask.Ask.TheVariants as ask
use Rattle.fr_ask.specs.declared.tell.Tell.{Tell}
use Rattle.fr_base.specs.declared.place.NodeId.TheVariants as node
use Rattle.fr_state.specs.Order.{extended}
use Rattle.fr_state.specs.Spelling.{spelling}
use Rattle.fr_epoch.specs.EndTally.{EndState, is_covered, pev_of, rv_of}
use Rattle.fr_epoch.specs.Recoverer.{RecState, Parent, Plan, Chosen, is_copied, is_written}
use Rattle.fr_epoch.specs.Words.{is_in}
use Rattle.fr_epoch.specs.Hear.{shape_after, left_of, after_hear}
use Rattle.fr_epoch.specs.Law.{IsRecoverer, AccountsFor}

-- what a plan comes from: the parent and the replies, which cover, and the parent's state with the new generation behind it, which has
-- the shape that the recoverer was begun with, or else that of the parent's last one
pub record IsMadeOf (r : RecState) (p : Plan) (q : Parent) (e : EndState) : Type 0 where
  pub parent : r.parent ≡ Some q
  pub tally : r.end ≡ Some e
  pub covered : is_covered e ≡ true
  pub within : pev_of e ≤ rv_of e
  pub below : rv_of e + 1 < 2 ^ 62
  pub m : p.generation.m ≡ (shape_after r.shape q.last).m
  pub k : p.generation.k ≡ (shape_after r.shape q.last).k
  pub first : p.generation.first ≡ pev_of e + 1
  pub seeded_to : p.generation.seeded_to ≡ rv_of e
  pub state : extended (left_of r q) p.generation ≡ Ok p.state

-- each plan comes from some
abbrev pub HasMadePlan : RecState → Type 0
HasMadePlan r = (p : Plan) → r.plan ≡ Some p → (q : Parent) × (e : EndState) × IsMadeOf r p q e

-- the new logs that count as seeded are logs of the new generation, each once; and none counts before there is a plan
pub record AreSeeded (plan : Option Plan) (seeded : List ℕ) : Type 0 where
  pub none : plan ≡ None → seeded ≡ []
  pub below : (p : Plan) → plan ≡ Some p → All (λ i. i < p.generation.m) seeded
  pub distinct : IsDistinct (λ a b. a == b) seeded

-- both stay so, whatever a recoverer hears
abbrev pub HearKeepsMade : Type 0
HearKeepsMade = (r : RecState) (from : NodeId) (t : Tell) → IsRecoverer r → HasMadePlan r → HasMadePlan (after_hear r from t)

abbrev pub HearKeepsSeeded : Type 0
HearKeepsSeeded =
    (r : RecState) (from : NodeId) (t : Tell) → IsRecoverer r → AreSeeded r.plan r.seeded → AreSeeded (after_hear r from t).plan (after_hear r from t).seeded

-- a state is written only once each log of the new generation counts as seeded
abbrev pub WrittenIsSeeded : Type 0
WrittenIsSeeded = (r : RecState) (p : Plan) → r.plan ≡ Some p → AreSeeded r.plan r.seeded → is_written r ≡ true → (i : ℕ) → i < p.generation.m → is_in r.seeded i ≡ true

-- and then it is one state: what is left of the parent's, with the new generation behind it
abbrev pub WriteIsParentExtended : Type 0
WriteIsParentExtended =
    (r : RecState) (cell b : ℕ) (x : List ℕ) → HasMadePlan r → AccountsFor r (node.Cell cell) (ask.Cell (Write b x))
    → (b ≡ r.ballot) × (is_written r ≡ true) × ((p : Plan) × (q : Parent) × (r.plan ≡ Some p) × (r.parent ≡ Some q) × (extended (left_of r q) p.generation ≡ Ok p.state) × (x ≡ spelling p.state))

-- a mark is pushed only by a recoverer whose state is chosen, and all its marks are one push
abbrev pub MarkIsChosen : Type 0
MarkIsChosen = (r : RecState) (e i : ℕ) (q : PushContent) → AccountsFor r (node.Log e i) (ask.Log (Push q)) → r.phase ≡ Chosen

abbrev pub MarksAreOne : Type 0
MarksAreOne =
    (r : RecState) (e i f j : ℕ) (q s : PushContent) → AccountsFor r (node.Log e i) (ask.Log (Push q)) → AccountsFor r (node.Log f j) (ask.Log (Push s)) → q ≡ s

-- a log is seeded only from a complete copy, and always with the same seed
abbrev pub SeedIsOfCopied : Type 0
SeedIsOfCopied = (r : RecState) (e i : ℕ) (s : SeedContent) → AccountsFor r (node.Log e i) (ask.Log (Seed s)) → is_copied r ≡ true

abbrev pub SeedsAreOne : Type 0
SeedsAreOne = (r : RecState) (e f i : ℕ) (s t : SeedContent) → AccountsFor r (node.Log e i) (ask.Log (Seed s)) → AccountsFor r (node.Log f i) (ask.Log (Seed t)) → s ≡ t
