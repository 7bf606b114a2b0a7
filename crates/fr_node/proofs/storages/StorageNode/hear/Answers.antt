-- What a storage server took of what it heard is entered.
use Rattle.std.proofs.Common.{refl, ◌∙◌, None}
use Rattle.fr_audit_journal.specs.declared.act.Act.TheVariants as act
use Rattle.fr_audit_journal.specs.declared.act.Entry.{Entry}
use Rattle.fr_node.specs.Steps.{StorageStep}
use Rattle.fr_storage.specs.Server.{storage_of}
use Rattle.fr_node.proofs.Leads.{on-entered}
use Rattle.fr_node.proofs.storages.StorageNode.hear.Goals as goal

pub invariant_of-self-2 : goal.invariant_of-self-2
invariant_of-self-2 g c = λ over.
    let e : Entry = record { stamp = c.in-Some.stamp; act = act.Heard c.args.from c.args.tell c.in-Ok.taken None } in
    let i = c.self.invariant over in (
      c.in-Ok.ensures.works i.0,
      on-entered StorageStep (storage_of g.S.ShardStore.state c.self.inside.first.value) c.self.inside.course.entries _ e (storage_of g.S.ShardStore.state c.self.inside.storage) _ i.1 (c.enter.ensures.entries ∙ rw c.reserve.ensures.entries refl)
          (refl, c.in-Ok.ensures.told i.0),
    )
