-- Nodes and logs, each as a list of numbers: when two are the same, and which stands before which.
use Rattle.std.specs.Prelude.{◌≡◌, ℕ, Bool, List, [], ◌∷◌}
use Rattle.std.specs.declared.cmp.Ordering.{Ordering}
use Rattle.std.proofs.Common.{ap, ◌∙◌}
use Rattle.fr_base.specs.Bytes.{bytes_cmp, bytes_eq}
use Rattle.fr_base.specs.Same.{IsSameness, bytes_eq-IsSameness}
use Rattle.fr_base.specs.declared.place.LogId.{LogId}
use Rattle.fr_base.specs.declared.place.NodeId.{NodeId}
use Rattle.fr_base.specs.declared.place.NodeId.TheVariants as node

-- a node as its kind and its numbers: a cell, a log, a sequencer, a proxy, a recoverer, a storage server
abbrev pub node_numbers : NodeId → List ℕ
node_numbers (node.Cell i) = 0 ∷ i ∷ []
node_numbers (node.Log e i) = 1 ∷ e ∷ i ∷ []
node_numbers (node.Sequencer e) = 2 ∷ e ∷ []
node_numbers (node.Proxy e p) = 3 ∷ e ∷ p ∷ []
node_numbers (node.Recoverer b) = 4 ∷ b ∷ []
node_numbers (node.Storage t) = 5 ∷ t ∷ []

-- the kinds stand in this order, and nodes of a kind in that of their numbers
abbrev pub node_cmp : NodeId → NodeId → Ordering
node_cmp a b = bytes_cmp (node_numbers a) (node_numbers b)

-- whether two nodes are one
abbrev pub is_same_node : NodeId → NodeId → Bool
is_same_node a b = bytes_eq (node_numbers a) (node_numbers b)

-- a log as its numbers
abbrev pub log_numbers : LogId → List ℕ
log_numbers l = l.epoch ∷ l.index ∷ []

-- logs stand in the order of their generations, and those of a generation in that of their indexes
abbrev pub log_cmp : LogId → LogId → Ordering
log_cmp a b = bytes_cmp (log_numbers a) (log_numbers b)

-- whether two logs are one
abbrev pub is_same_log : LogId → LogId → Bool
is_same_log a b = bytes_eq (log_numbers a) (log_numbers b)

-- nodes with the same numbers are one
node_numbers-exact : (a b : NodeId) → node_numbers a ≡ node_numbers b → a ≡ b
node_numbers-exact (node.Cell i) (node.Cell j) e = let k : i ≡ j = cc in ap (λ n. node.Cell n) k
node_numbers-exact (node.Log d i) (node.Log e j) h =
    let k : d ≡ e = cc in
    let l : i ≡ j = cc in
    ap (λ n. node.Log n i) k ∙ ap (λ n. node.Log e n) l
node_numbers-exact (node.Sequencer d) (node.Sequencer e) h = let k : d ≡ e = cc in ap (λ n. node.Sequencer n) k
node_numbers-exact (node.Proxy d i) (node.Proxy e j) h =
    let k : d ≡ e = cc in
    let l : i ≡ j = cc in
    ap (λ n. node.Proxy n i) k ∙ ap (λ n. node.Proxy e n) l
node_numbers-exact (node.Recoverer b) (node.Recoverer c) h = let k : b ≡ c = cc in ap (λ n. node.Recoverer n) k
node_numbers-exact (node.Storage t) (node.Storage u) h = let k : t ≡ u = cc in ap (λ n. node.Storage n) k
node_numbers-exact a b h = absurd (cc)

pub is_same_node-IsSameness : IsSameness is_same_node
is_same_node-IsSameness = record {
  itself = λ a. bytes_eq-IsSameness.itself (node_numbers a);
  same = λ a b e. node_numbers-exact a b (bytes_eq-IsSameness.same (node_numbers a) (node_numbers b) e);
}

log_numbers-exact : (a b : LogId) → log_numbers a ≡ log_numbers b → a ≡ b
log_numbers-exact a b h =
    let k : a.epoch ≡ b.epoch = cc in
    let l : a.index ≡ b.index = cc in
    ap (λ n. record { epoch = n; index = a.index }) k ∙ ap (λ n. record { epoch = b.epoch; index = n }) l

pub is_same_log-IsSameness : IsSameness is_same_log
is_same_log-IsSameness = record {
  itself = λ a. bytes_eq-IsSameness.itself (log_numbers a);
  same = λ a b e. log_numbers-exact a b (bytes_eq-IsSameness.same (log_numbers a) (log_numbers b) e);
}
