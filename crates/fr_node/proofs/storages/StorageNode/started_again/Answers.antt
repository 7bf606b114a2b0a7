-- A server that was started again is the one that its process found, and its first entries are of the process before.
use Rattle.std.proofs.Common.{◌≡◌, ◌∙◌, [], true, length, sym, subst}
use Rattle.std.proofs.lemmas.Bool.{eqb-true}
use Rattle.fr_storage.specs.Server.{storage_of}
use Rattle.fr_node.specs.Leads.{EndsInCrash}
use Rattle.fr_node.proofs.Leads.{none-of, on-begun}
use Rattle.fr_node.proofs.storages.StorageNode.started_again.Goals as goal

pub invariant_of-self : goal.invariant_of-self
invariant_of-self g c = λ over.
    let i = c.self.invariant over in
    let full : c.is_empty.result ≡ true = cc c.if-not-is_empty.false in
    let none : c.self.inside.course.entries ≡ [] = none-of c.self.inside.course.entries (eqb-true (length c.self.inside.course.entries) 0 (sym c.is_empty.ensures ∙ full)) in (
      i.0,
      on-begun (storage_of g.S.ShardStore.state c.self.inside.first.value) (storage_of g.S.ShardStore.state c.self.inside.storage) c.self.inside.course.entries c.in_ok-course.course.entries
          i.1 none (subst EndsInCrash (sym c.in_ok-course.ensures.entries) c.in_ok-course.ensures.ends),
    )
