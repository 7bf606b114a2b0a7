-- What the recoverers of a run read: the parent of what they write.
use Rattle.std.specs.Prelude.{◌≡◌, ◌<◌, ℕ, List, [], Option, None, Some}
use Rattle.fr_register.specs.Poll.{Stamped}
use Rattle.fr_register.specs.Chosen.{IsChosen, Descends, IsReady, HasParents}
use Rattle.fr_epoch.specs.Recoverer.{RecState, Parent}
use Rattle.fr_epoch.specs.Change.{IsFound}
use Rattle.fr_run.specs.Config.{Config, first_cell}
use Rattle.fr_run.specs.Turn.{Turn, cell_turns}
use Rattle.fr_run.specs.Nodes.{rec_at}
use Rattle.fr_run.specs.Run.{IsRun}

-- the greatest pair that a recoverer was promised
abbrev pub greatest_in : Option RecState → Stamped
greatest_in None = record { ballot = 0; value = [] }
greatest_in (Some r) = r.reads.greatest

-- the parent of what a ballot writes
abbrev pub parent_at : Config → List Turn → ℕ → Stamped
parent_at c h b = greatest_in (rec_at c h b)

-- a recoverer that has a parent is ready to write over it: the parent is the greatest pair of its read majority, of a lower ballot
abbrev pub ParentIsGreatest : Type 0
ParentIsGreatest =
    (c : Config) (h : List Turn) → IsRun c h → (b : ℕ) (r : RecState) (p : Parent) → rec_at c h b ≡ Some r → r.parent ≡ Some p
    → IsReady c.cells (first_cell c) (cell_turns h) b (parent_at c h b)

-- the parent is read from that pair
abbrev pub ParentIsRead : Type 0
ParentIsRead =
    (c : Config) (h : List Turn) → IsRun c h → (b : ℕ) (r : RecState) (p : Parent) → rec_at c h b ≡ Some r → r.parent ≡ Some p → IsFound r p.state p.last

-- each ballot that wrote has its parent
abbrev pub RunHasParents : Type 0
RunHasParents = (c : Config) (h : List Turn) → IsRun c h → HasParents c.cells (first_cell c) (parent_at c h) (cell_turns h)

-- the parent of a ballot above a chosen pair descends from that
abbrev pub ParentsDescend : Type 0
ParentsDescend =
    (c : Config) (h : List Turn) → IsRun c h → (chosen : Stamped) (b : ℕ) (r : RecState) (p : Parent) → IsChosen c.cells (first_cell c) (cell_turns h) chosen
    → rec_at c h b ≡ Some r → r.parent ≡ Some p → chosen.ballot < b → Descends (cell_turns h) (parent_at c h) (parent_at c h b) chosen
