-- That the logs of an epoch are seeded before its state is written.
use Rattle.std.specs.Prelude.{◌≡◌, ◌<◌, ◌≤◌, ℕ, true, List, Some, IsSome}
use Rattle.fr_base.specs.declared.place.NodeId.{NodeId}
use Rattle.fr_register.specs.declared.ask.CellAsk.TheVariants.{Write}
use Rattle.fr_state.specs.Generations.{LogGeneration}
use Rattle.fr_log.specs.LogState.{durable_of}
use Rattle.fr_ask.specs.declared.ask.Ask.TheVariants as ask
use Rattle.fr_epoch.specs.Recoverer.{RecState, Plan, is_written}
use Rattle.fr_epoch.specs.Words.{is_in}
use Rattle.fr_run.specs.Config.{Config}
use Rattle.fr_run.specs.Turn.{Turn, Sent}
use Rattle.fr_run.specs.Nodes.{rec_at, generation_at, logs_at, log_at}
use Rattle.fr_run.specs.Run.{IsRun}
use Rattle.fr_run.specs.States.{IsChosenEpoch}
use Rattle.fr_run.specs.StateLaws.{IsConfig}
use Rattle.fr_run_headline.specs.Bounds.{IsSeededLog}

-- an epoch whose logs are there, at least one, and all seeded, so that each holds through what its generation was seeded to
pub record IsSeededEpoch (c : Config) (h : List Turn) (e : ℕ) : Type 0 where
  pub generation : LogGeneration
  pub of : generation_at c h e ≡ Some generation
  pub some : 1 ≤ generation.m
  pub logs : logs_at c h e ≡ generation.m
  pub seeded : (i : ℕ) → i < logs_at c h e → IsSome (log_at c h e i).seed
  pub durable : (i : ℕ) → i < logs_at c h e → generation.seeded_to ≤ durable_of (log_at c h e i)

-- each log that a recoverer counts as seeded is
abbrev pub CountedIsSeeded : Type 0
CountedIsSeeded = (c : Config) (h : List Turn) → IsRun c h → (b : ℕ) (r : RecState) → rec_at c h b ≡ Some r → (i : ℕ) → is_in r.seeded i ≡ true → IsSeededLog c h b i

-- so is the epoch of one that counts all of them
abbrev pub AllCountedIsSeeded : Type 0
AllCountedIsSeeded =
    (c : Config) (h : List Turn) → IsConfig c → IsRun c h → (b : ℕ) (r : RecState) (q : Plan) → rec_at c h b ≡ Some r → r.plan ≡ Some q → ((i : ℕ) → i < q.generation.m → is_in r.seeded i ≡ true)
    → IsSeededEpoch c h b

-- of one that may write
abbrev pub WritingIsSeeded : Type 0
WritingIsSeeded = (c : Config) (h : List Turn) → IsConfig c → IsRun c h → (b : ℕ) (r : RecState) → rec_at c h b ≡ Some r → is_written r ≡ true → IsSeededEpoch c h b

-- of one that sent a write
abbrev pub SentIsSeeded : Type 0
SentIsSeeded = (c : Config) (h : List Turn) → IsConfig c → IsRun c h → (from to : NodeId) (b : ℕ) (x : List ℕ) → Sent h from to (ask.Cell (Write b x)) → IsSeededEpoch c h b

-- and each epoch that is chosen, the first one with them
abbrev pub ChosenIsSeeded : Type 0
ChosenIsSeeded = (c : Config) (h : List Turn) → IsConfig c → IsRun c h → (e : ℕ) → IsChosenEpoch c h e → IsSeededEpoch c h e
