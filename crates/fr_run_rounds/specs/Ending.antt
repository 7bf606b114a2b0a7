-- A recoverer of which enough nodes answer comes to an end within a number of rounds.
use Rattle.std.specs.Prelude.{◌≡◌, ◌<◌, ◌≤◌, ◌⊎◌, ℕ, ◌+◌, ◌*◌, Bool, true, List, ◌∷◌, ◌++◌, length, Option, Some, IsSome, All, Contains}
use Rattle.fr_base.specs.Shape.{ShapeContent}
use Rattle.fr_base.specs.declared.place.NodeId.{NodeId}
use Rattle.fr_base.specs.declared.place.NodeId.TheVariants as node
use Rattle.fr_register.specs.Chosen.{IsMajority}
use Rattle.fr_state.specs.Generations.{LogGeneration}
use Rattle.fr_tail.specs.Tail.{part_at}
use Rattle.fr_epoch.specs.declared.reply.Reply.{Reply}
use Rattle.fr_epoch.specs.declared.why.LostWhy.{LostWhy}
use Rattle.fr_epoch.specs.Recoverer.{RecState, Parent, Plan, Reading, Locking, Copying, Writing, Chosen, Lost, is_copied}
use Rattle.fr_epoch.specs.Asks.{left}
use Rattle.fr_run.specs.Config.{Config}
use Rattle.fr_run.specs.Turn.{Turn, Sending, Begun}
use Rattle.fr_run.specs.Nodes.{cell_at, rec_at}
use Rattle.fr_run.specs.Run.{IsRun}
use Rattle.fr_run.specs.StateLaws.{IsConfig}
use Rattle.fr_run_headline.specs.LogLaws.{tally}
use Rattle.fr_run_outcomes.specs.Locking.{HasRoomIn, HasNoRoom}
use Rattle.fr_run_outcomes.specs.Uncontested.{AsksNoGreater}
use Rattle.fr_run_rounds.specs.Rounds.{IsRound, turns_of, AreRounds}

-- ---- which nodes answer

-- the cells of a majority answer
pub record CellsAnswer (c : Config) (answers : NodeId → Bool) : Type 0 where
  pub cells : List ℕ
  pub majority : IsMajority c.cells cells
  pub each : All (λ i. answers (node.Cell i) ≡ true) cells

-- the logs of a generation that do not answer
abbrev pub silent_logs : (NodeId → Bool) → LogGeneration → List ℕ
silent_logs answers g = left g.m (λ i. answers (node.Log g.epoch i))

-- fewer than k logs of the generation that a recoverer ends do not answer
abbrev pub FewAreSilent : (NodeId → Bool) → RecState → Type 0
FewAreSilent answers r = (p : Parent) → r.parent ≡ Some p → length (silent_logs answers p.last) < p.last.k

-- each log that replied to its lock answers
abbrev pub RepliedAnswer : (NodeId → Bool) → RecState → Type 0
RepliedAnswer answers r = (p : Parent) → r.parent ≡ Some p → (x : Reply) → Contains (tally r).replies x → answers (node.Log p.last.epoch x.log) ≡ true

-- each log of its own generation answers
abbrev pub NewAnswer : (NodeId → Bool) → RecState → Type 0
NewAnswer answers r = (q : Plan) → r.plan ≡ Some q → (i : ℕ) → i < q.generation.m → answers (node.Log r.ballot i) ≡ true

-- enough nodes answer a recoverer
pub record EnoughAnswer (c : Config) (answers : NodeId → Bool) (r : RecState) : Type 0 where
  pub cells : CellsAnswer c answers
  pub few : FewAreSilent answers r
  pub replied : RepliedAnswer answers r
  pub new : NewAnswer answers r

-- ---- one round of each phase

-- reading takes one round, if the cells of a majority answer
abbrev pub ReadingIsOneRound : Type 0
ReadingIsOneRound =
    (c : Config) (h turns : List Turn) → IsConfig c → IsRun c (turns ++ h) → (b : ℕ) (answers : NodeId → Bool) → IsRound c answers b h turns → CellsAnswer c answers
    → (r n : RecState) → rec_at c h b ≡ Some r → r.phase ≡ Reading → rec_at c (turns ++ h) b ≡ Some n → n.phase ≡ Reading → ⊥

-- so does locking, if fewer than k logs are silent
abbrev pub LockingIsOneRound : Type 0
LockingIsOneRound =
    (c : Config) (h turns : List Turn) → IsConfig c → IsRun c (turns ++ h) → (b : ℕ) (answers : NodeId → Bool) → IsRound c answers b h turns
    → (r n : RecState) → rec_at c h b ≡ Some r → r.phase ≡ Locking → rec_at c (turns ++ h) b ≡ Some n → FewAreSilent answers n → n.phase ≡ Locking → ⊥

-- so many records of each tag are copied, or all
abbrev pub HasCopied : Config → RecState → ℕ → Type 0
HasCopied c r records =
    (q : Plan) → r.plan ≡ Some q → (tag : ℕ) → tag < length c.begins → ((part_at q.tail tag).reached ≡ q.tail.rv) ⊎ (records ≤ length (part_at q.tail tag).records)

-- each round of copying brings 100 records of each tag of which not all is copied, or the rest, if each log that replied answers
abbrev pub CopyingBringsRecords : Type 0
CopyingBringsRecords =
    (c : Config) (h turns : List Turn) → IsConfig c → IsRun c (turns ++ h) → (b : ℕ) (answers : NodeId → Bool) → IsRound c answers b h turns
    → (r n : RecState) → rec_at c h b ≡ Some r → r.phase ≡ Copying → rec_at c (turns ++ h) b ≡ Some n → RepliedAnswer answers n
    → (records : ℕ) → HasCopied c r records → HasCopied c n (records + 100)

-- once all is copied, seeding takes one round, if each new log answers
abbrev pub SeedingIsOneRound : Type 0
SeedingIsOneRound =
    (c : Config) (h turns : List Turn) → IsConfig c → IsRun c (turns ++ h) → (b : ℕ) (answers : NodeId → Bool) → IsRound c answers b h turns
    → (r n : RecState) → rec_at c h b ≡ Some r → r.phase ≡ Copying → is_copied r ≡ true → rec_at c (turns ++ h) b ≡ Some n → NewAnswer answers n → n.phase ≡ Copying → ⊥

-- and so does writing, if the cells of a majority answer
abbrev pub WritingIsOneRound : Type 0
WritingIsOneRound =
    (c : Config) (h turns : List Turn) → IsConfig c → IsRun c (turns ++ h) → (b : ℕ) (answers : NodeId → Bool) → IsRound c answers b h turns → CellsAnswer c answers
    → (r n : RecState) → rec_at c h b ≡ Some r → r.phase ≡ Writing → rec_at c (turns ++ h) b ≡ Some n → n.phase ≡ Writing → ⊥

-- ---- all phases

-- a recoverer's state is chosen, and it knows it, or it is lost
abbrev pub IsOver : RecState → Type 0
IsOver r = (r.phase ≡ Chosen) ⊎ ((why : LostWhy) × (r.phase ≡ Lost why))

-- fewer than so many records of each tag are copied
abbrev pub CopiesFewer : Config → RecState → ℕ → Type 0
CopiesFewer c r records = (q : Plan) → r.plan ≡ Some q → (tag : ℕ) → tag < length c.begins → length (part_at q.tail tag).records < records

-- a recoverer that had begun had rounds enough since: four, and `peeks` more, where of each tag it copies fewer than 100 records for each of these
pub record HadRounds (c : Config) (h later : List Turn) (b : ℕ) (r : RecState) : Type 0 where
  pub begun : IsSome (rec_at c h b)
  pub rounds : List (List Turn)
  pub is : turns_of rounds ++ h ≡ later
  pub answers : NodeId → Bool
  pub are : AreRounds c answers b h rounds
  pub enough : EnoughAnswer c answers r
  pub peeks : ℕ
  pub fewer : CopiesFewer c r (100 * peeks)
  pub many : 4 + peeks ≤ length rounds

-- then it is over
abbrev pub EndsInRounds : Type 0
EndsInRounds = (c : Config) (h later : List Turn) → IsConfig c → IsRun c later → (b : ℕ) (r : RecState) → rec_at c later b ≡ Some r → HadRounds c h later b r → IsOver r

-- no cell promised more than a ballot when that began, and none was asked for a greater one since
pub record IsUncontested (c : Config) (later : List Turn) (b : ℕ) : Type 0 where
  pub before : List Turn
  pub shape : Option ShapeContent
  pub asks : List Sending
  pub since : List Turn
  pub is : since ++ Begun b shape asks ∷ before ≡ later
  pub low : (i : ℕ) → i < c.cells → (cell_at c before i).promised ≤ b
  pub none : All (AsksNoGreater b) since

-- then it is chosen, or has found that there is no room
abbrev pub UncontestedIsChosen : Type 0
UncontestedIsChosen =
    (c : Config) (h later : List Turn) → IsConfig c → IsRun c later → (b : ℕ) (r : RecState) → rec_at c later b ≡ Some r → HadRounds c h later b r → IsUncontested c later b
    → (r.phase ≡ Chosen) ⊎ HasNoRoom r

-- after the state that a recoverer read there is room
abbrev pub HasRoomAfter : Config → List Turn → RecState → Type 0
HasRoomAfter c later r = (p : Parent) → r.parent ≡ Some p → HasRoomIn c later p.state p.last

-- then it is chosen
abbrev pub RoomIsChosen : Type 0
RoomIsChosen =
    (c : Config) (h later : List Turn) → IsConfig c → IsRun c later → (b : ℕ) (r : RecState) → rec_at c later b ≡ Some r → HadRounds c h later b r → IsUncontested c later b
    → HasRoomAfter c later r → r.phase ≡ Chosen
