-- What a storage server took of what a node told it.
use Rattle.std.specs.Prelude.{◌≡◌, ℕ, true, Option, None, Some, IfSome}
use Rattle.fr_base.specs.declared.place.NodeId.{NodeId}
use Rattle.fr_ask.specs.declared.tell.Tell.{Tell}
use Rattle.fr_undo.specs.State.{IsStoreState}
use Rattle.fr_storage.specs.Storage.{StorageState}
use Rattle.fr_run.specs.Nodes.{storage_hear}
use Rattle.fr_run.specs.Step.{may_break}

-- the hear can break off at this version, and the server is what is left of one that did: of a store, whose state is one of stores
pub record BrokeOff (s : StorageState) (from : NodeId) (tell : Tell) (version : ℕ) (n : StorageState) : Type 0 where
  pub breaks : may_break s from tell version ≡ true
  pub applied : n.store.applied ≡ version
  pub left : IsStoreState s.store → n ≡ storage_hear (Some version) s from tell

-- if nothing of the hear is missing, the server is that of runs after the whole hear; else after the part of it
pub record IsTold (s : StorageState) (from : NodeId) (tell : Tell) (taken : Option ℕ) (n : StorageState) : Type 0 where
  pub whole : taken ≡ None → n ≡ storage_hear None s from tell
  pub part : IfSome taken (λ version. BrokeOff s from tell version n)
