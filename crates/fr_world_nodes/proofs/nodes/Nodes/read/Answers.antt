use Rattle.std.proofs.Common.{◌≡◌, ◌<◌, ℕ, Bool, true, false, nat_lt, List, length, Some, slice_get, slice_index_or, refl, sym, ◌∙◌, ap, subst}
use Rattle.std.specs.Prelude.{IfSome}
use Rattle.std.proofs.lemmas.Bool.{ltb-true}
use Rattle.fr_mutation.specs.declared.shard.Shard.{Shard}
use Rattle.fr_tags.specs.Shards.{shard_of}
use Rattle.fr_undo.specs.State.{StoreState}
use Rattle.fr_storage.specs.Server.{Server}
use Rattle.fr_run.specs.Config.{Config}
use Rattle.fr_run.specs.Turn.{Turn}
use Rattle.fr_run.specs.Nodes as nodes
use Rattle.fr_world_nodes.specs.Parts.{AreStorages, Storages, server_of}
use Rattle.fr_world_nodes.specs.Reads.{IsRead}
use Rattle.fr_world_nodes.proofs.Served.{server_there, world_read}
use Rattle.fr_world_nodes.proofs.nodes.Nodes.read.Goals as goal

-- a tag that has a shard is one of the map's
within : (begins : List (List ℕ)) (tag : ℕ) (shard : Shard) → Some shard ≡ shard_of begins tag → tag < length begins
within begins tag shard e = go (nat_lt tag (length begins)) refl
  where
    go : (b : Bool) → nat_lt tag (length begins) ≡ b → tag < length begins
    go true k = ltb-true tag (length begins) k
    go false k = absurd (cc)

-- the server that is read is kept under the tag
there : (c : Config) (h : List Turn) (storages : Storages) → AreStorages c h storages → (tag n : ℕ) → n ≡ tag → (shard : Shard) → Some shard ≡ shard_of c.begins tag → (s : Server StoreState) → s ≡ slice_index_or storages n s → slice_get storages tag ≡ Some s
there c h storages k tag n same shard e s at = server_there c h storages k tag n same (within c.begins tag shard e) s at

-- it works
pub read_server-requires : goal.read_server-requires
read_server-requires c =
    let n = c.args.self.now in
    let e : Some c.in-Ok-Some.shard ≡ shard_of n.config.begins c.args.tag = sym c.in-Ok-Some.field-0-is ∙ c.in-Ok-Some.ensures.shard ∙ ap (λ begins. shard_of begins c.args.tag) c.map.ensures.value in
    c.requires.storages_are.work c.args.tag c.index_mut.result.now
    (there n.config n.turns.turns n.storages.items c.requires.storages_are c.args.tag c.from-number.result (c.from-number.ensures ∙ c.get.ensures.value) c.in-Ok-Some.shard e c.index_mut.result.now c.index_mut.ensures.value)

-- and is the one of what happened
pub returns-in-Ok-Some-clause-read : goal.returns-in-Ok-Some-clause-read
returns-in-Ok-Some-clause-read c =
    let n = c.args.self.now in
    let e : Some c.in-Ok-Some.shard ≡ shard_of n.config.begins c.args.tag = sym c.in-Ok-Some.field-0-is ∙ c.in-Ok-Some.ensures.shard ∙ ap (λ begins. shard_of begins c.args.tag) c.map.ensures.value in
    let old : server_of c.index_mut.result.now ≡ nodes.storage_at n.config n.turns.turns c.args.tag = c.requires.storages_are.each c.args.tag c.index_mut.result.now
    (there n.config n.turns.turns n.storages.items c.requires.storages_are c.args.tag c.from-number.result (c.from-number.ensures ∙ c.get.ensures.value) c.in-Ok-Some.shard e c.index_mut.result.now c.index_mut.ensures.value) in
    subst (λ x. IfSome x (λ shard. IsRead shard (nodes.storage_at n.config n.turns.turns c.args.tag) c.args.key.now c.args.version c.read_server.result)) e
    (subst (λ s. IsRead c.in-Ok-Some.shard s c.args.key.now c.args.version c.read_server.result) old c.read_server.ensures.read)

pub returns-in-Ok-Some-clause-stays : goal.returns-in-Ok-Some-clause-stays
returns-in-Ok-Some-clause-stays c =
    let n = c.args.self.now in
    let same : c.from-number.result ≡ c.args.tag = c.from-number.ensures ∙ c.get.ensures.value in
    let e : Some c.in-Ok-Some.shard ≡ shard_of n.config.begins c.args.tag = sym c.in-Ok-Some.field-0-is ∙ c.in-Ok-Some.ensures.shard ∙ ap (λ begins. shard_of begins c.args.tag) c.map.ensures.value in
    let old : server_of c.index_mut.result.now ≡ nodes.storage_at n.config n.turns.turns c.args.tag = c.requires.storages_are.each c.args.tag c.index_mut.result.now
    (there n.config n.turns.turns n.storages.items c.requires.storages_are c.args.tag c.from-number.result same c.in-Ok-Some.shard e c.index_mut.result.now c.index_mut.ensures.value) in
    world_read n.config n.turns.turns n.cells.items n.logs n.sequencers n.proxies n.recoverers n.storages.items c.requires c.args.tag c.from-number.result same
    c.read_server.new.server (c.read_server.ensures.stays ∙ old) c.read_server.ensures.works
