-- What a seed draws, and what happens to an ask or a node by a word.
use Rattle.std.specs.Prelude.{ℕ, ◌+◌, ◌-◌, ◌/◌, ◌%◌, ◌^◌, ◌==◌, ◌&&◌, ◌||◌, Bool, false, nat_lt, length, slice_get, List, Option, None, Some, if◌then◌else◌}
use Rattle.rand_core.specs.Pcg32Seed.{pcg32_seed}
use Rattle.rand_pcg.specs.Lcg.{Lcg}
use Rattle.rand_pcg.specs.Pcg.{pcg32, pcg32_of_seed}
use Rattle.fr_base.specs.declared.place.NodeId.{NodeId}
use Rattle.fr_base.specs.declared.place.NodeId.TheVariants.{Cell, Log, Sequencer, Proxy, Recoverer, Storage}
use Rattle.fr_state.specs.Generations.{LogGeneration}
use Rattle.fr_runtime_station.specs.declared.chosen.Chosen.{Chosen}
use Rattle.fr_runtime_station.specs.declared.faults.Blow.{Blow}
use Rattle.fr_runtime_station.specs.declared.faults.Blow.TheVariants.{Crash, Lose}
use Rattle.fr_runtime_station.specs.declared.faults.Verdict.{Verdict}
use Rattle.fr_runtime_station.specs.declared.faults.Verdict.TheVariants.{Pass, DropAsk, DropTell, Twice, LateAsk, LateTell}

-- the generator that a number seeds
abbrev pub generator_of : ℕ → Lcg
generator_of number = pcg32_of_seed (pcg32_seed 16 number)

-- its first word
abbrev pub word_of : ℕ → ℕ
word_of number = (pcg32 (generator_of number)).0

-- the word of a call, in a storm of this seed
abbrev pub word_at : ℕ → ℕ → ℕ
word_at seed call = word_of ((seed + call) % 2 ^ 64)

-- the fault of each third number
abbrev pub fault_at : ℕ → Verdict
fault_at number = if number == 0 then DropAsk else (if number == 1 then DropTell else Twice)

-- an ask, or what is told of it, comes 1 to 64 turns late
abbrev pub late_at : ℕ → Verdict
late_at word = if word / 16777216 % 2 == 0 then LateAsk (word / 33554432 % 64 + 1) else LateTell (word / 33554432 % 64 + 1)

-- what happens to an ask: a fault if the word's last byte is below the storm's strength; else it is late if the third byte is below that of lateness
abbrev pub verdict_of : ℕ → ℕ → ℕ → Verdict
verdict_of strength late word =
    if nat_lt (word % 256) strength then fault_at (word / 256 % 3)
    else (if nat_lt (word / 65536 % 256) late then late_at word else Pass)

-- the node that a word names: a coordinator, or a log of the first generation
abbrev pub node_of : ℕ → ℕ → ℕ → NodeId
node_of cells logs word = if word / 65536 % 2 == 0 then Cell (word / 256 % cells) else Log 257 (word / 256 % logs)

-- the node that crashes, if one does
abbrev pub crash_of : ℕ → ℕ → ℕ → ℕ → Option Blow
crash_of strength cells logs word = if nat_lt (word % 256) strength then Some (Crash (node_of cells logs word)) else None

-- the node of a generation that a word names: one of its logs, or its sequencer
abbrev pub member_of : LogGeneration → ℕ → NodeId
member_of g word =
    if nat_lt (word / 16777216 % (g.m + 1)) g.m then Log g.epoch (word / 16777216 % (g.m + 1)) else Sequencer g.epoch

-- the log of a generation that a word loses: one of those in a row, one fewer than hold a tag, the first of which the epoch's round gives
abbrev pub lost_of : LogGeneration → ℕ → Option Blow
lost_of g word =
    if g.k == 1 then None
    else Some (Lose (record { epoch = g.epoch; index = (g.epoch / 256 % g.m + word / 16777216 % (g.k - 1)) % g.m }))

-- what happens to a node of a generation
abbrev pub blow_of : ℕ → ℕ → LogGeneration → ℕ → Option Blow
blow_of crashes losses g word =
    if nat_lt (word % 256) crashes then Some (Crash (member_of g word))
    else (if nat_lt (word / 256 % 256) losses then lost_of g word else None)

abbrev pub blow_at : ℕ → ℕ → Option Chosen → ℕ → Option Blow
blow_at crashes losses None word = None
blow_at crashes losses (Some c) word = blow_of crashes losses c.generation word

-- the chosen generation that a word names
abbrev pub named_by : List Chosen → ℕ → Option Chosen
named_by chosen word = slice_get chosen (word / 65536 % length chosen)

-- what happens to a node at a turn: at each 64th one of the start crashes, at each 64th after 32 one of a chosen
-- generation is struck
abbrev pub strike_at : ℕ → ℕ → ℕ → ℕ → ℕ → ℕ → List Chosen → ℕ → Option Blow
strike_at strength cells logs crashes losses turn chosen word =
    if turn % 64 == 0 then crash_of strength cells logs word
    else (if turn % 64 == 32 && (nat_lt 0 crashes || nat_lt 0 losses) then blow_at crashes losses (named_by chosen word) word else None)

-- whether a node may be gone from a turn on: a recoverer, whose turns are few, from each 7th, another one from each 64th
abbrev pub is_end_turn : NodeId → ℕ → Bool
is_end_turn (Recoverer b) turn = turn % 7 == 0
is_end_turn (Proxy e p) turn = turn % 64 == 0
is_end_turn (Cell i) turn = turn % 64 == 0
is_end_turn (Log e i) turn = turn % 64 == 0
is_end_turn (Sequencer e) turn = turn % 64 == 0
is_end_turn (Storage t) turn = turn % 64 == 0

-- whether a node that asks is gone from a turn on
abbrev pub end_at : ℕ → NodeId → ℕ → ℕ → Bool
end_at crashes node turn word = if is_end_turn node turn && nat_lt 0 crashes then nat_lt (word % 256) crashes else false
