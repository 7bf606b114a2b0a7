-- The entries of several journals in one order: by stamp, and at one stamp by node.
use Rattle.std.specs.Prelude.{ℕ, Bool, List, [], ◌∷◌, ◌++◌, map}
use Rattle.std.specs.Ordering.{is_lt}
use Rattle.std.specs.declared.cmp.Ordering.{Ordering}
use Rattle.fr_base.specs.Bytes.{bytes_cmp}
use Rattle.fr_base.specs.Node.{node_numbers}
use Rattle.fr_base.specs.declared.place.NodeId.{NodeId}
use Rattle.fr_audit_journal.specs.Journal.{JournalState}
use Rattle.fr_audit_journal.specs.Sort.{sorted}
use Rattle.fr_audit_journal.specs.declared.act.Entry.{Entry}

-- an entry, and the node that made it
pub record Placed : Type 0 where
  pub node : NodeId
  pub entry : Entry

-- the place of an entry among all: its stamp, and then its node
abbrev pub place_numbers : Placed → List ℕ
place_numbers p = p.entry.stamp ∷ node_numbers p.node

abbrev pub place_cmp : Placed → Placed → Ordering
place_cmp p q = bytes_cmp (place_numbers p) (place_numbers q)

abbrev pub is_before : Placed → Placed → Bool
is_before p q = is_lt (place_cmp p q)

-- the entries of journals as they are given
abbrev pub placed_by : NodeId → List Entry → List Placed
placed_by who es = map (λ e. record { node = who; entry = e }) es

abbrev pub all_placed : List JournalState → List Placed
all_placed [] = []
all_placed (j ∷ js) = placed_by j.node j.entries ++ all_placed js

-- the entries in order: by stamp and node, and those of one place as they are given
abbrev pub merged : List JournalState → List Placed
merged js = sorted is_before (all_placed js)
