use Rattle.std.proofs.Common.{refl, slice_set, ◌≡◌, None, ap, ◌∙◌, length, ◌∷◌}
use Rattle.std.proofs.lemmas.Bool.{ltb-true}
use Rattle.fr_run.specs.Nodes as nodes
use Rattle.fr_run.specs.Run.{fault_of}
use Rattle.fr_run.specs.Turn as history
use Rattle.fr_world_nodes.specs.Parts.{IsWorld, server_of}
use Rattle.fr_world_turns.specs.Turns.{turn_of}
use Rattle.fr_world_nodes.specs.Kept.{WorldState}
use Rattle.fr_world_turns.specs.declared.turn.Turn.TheVariants as code
use Rattle.fr_world_nodes.proofs.Histories.{history_push}
use Rattle.fr_world_nodes.proofs.Served.{server_there, storage_entered, storage_world}
use Rattle.fr_world_nodes.proofs.nodes.Nodes.tell_storage.Goals as goal

-- the server that is told works
pub tell_server-requires : goal.tell_server-requires
tell_server-requires c =
    let n = c.args.self.now in
    let same : c.from-number.result ≡ c.args.tag = c.from-number.ensures ∙ c.get.ensures.value in
    let l = ltb-true c.args.tag (length n.config.begins) c.requires.turn.0.actor.there in
    c.requires.kept.storages_are.work c.args.tag c.index_mut.result.now
    (server_there n.config n.turns.turns n.storages.items c.requires.kept.storages_are c.args.tag c.from-number.result same l c.index_mut.result.now c.index_mut.ensures.value)

-- it is the one of what happened
old : (c : goal.After-push_reserved) → server_of c.index_mut.result.now ≡ nodes.storage_at c.args.self.now.config c.args.self.now.turns.turns c.args.tag
old c =
    let n = c.args.self.now in
    let same : c.from-number.result ≡ c.args.tag = c.from-number.ensures ∙ c.get.ensures.value in
    let l = ltb-true c.args.tag (length n.config.begins) c.requires.turn.0.actor.there in
    c.requires.kept.storages_are.each c.args.tag c.index_mut.result.now
    (server_there n.config n.turns.turns n.storages.items c.requires.kept.storages_are c.args.tag c.from-number.result same l c.index_mut.result.now c.index_mut.ensures.value)

pub returns-clause-fault : goal.returns-clause-fault
returns-clause-fault c = c.in_ok-fault.ensures.fault ∙ ap (λ s. fault_of s c.args.from c.args.tell) (old c)

-- the turn is entered
later : (c : goal.After-push_reserved) → c.push_reserved.new.self.turns
    ≡ history.StorageHeard c.args.tag c.args.from c.args.tell None (fault_of (nodes.storage_at c.args.self.now.config c.args.self.now.turns.turns c.args.tag) c.args.from c.args.tell) ∷ c.args.self.now.turns.turns
later c =
    let n = c.args.self.now in
    let h = n.turns.turns in
    let fault = fault_of (nodes.storage_at n.config h c.args.tag) c.args.from c.args.tell in
    let x = code.Storage c.args.tag c.args.from c.args.tell None c.in_ok-fault.fault in
    let entered = storage_entered c.args.tag c.args.from c.args.tell c.args.tell None fault c.in_ok-fault.fault refl
    (c.in_ok-fault.ensures.fault ∙ ap (λ s. fault_of s c.args.from c.args.tell) (old c)) in
    history_push n.turns.turns c.push_reserved.new.self.turns x (history.StorageHeard c.args.tag c.args.from c.args.tell None fault)
    (c.push_reserved.ensures ∙ ap (λ xs. turn_of x ∷ xs) c.in_ok-reserve.ensures.turns) entered

pub returns-clause-world : goal.returns-clause-world
returns-clause-world c = ap (λ x. let w : WorldState = record { config = c.args.self.now.config; turns = x } in w) (later c)

-- what the nodes keep is what happened, with the turn
stays : (c : goal.After-push_reserved) → let n = c.args.self.now in
    IsWorld n.config c.push_reserved.new.self.turns n.cells.items n.logs n.sequencers n.proxies n.recoverers (slice_set n.storages.items c.from-number.result c.tell_server.new.server)
stays c =
    let n = c.args.self.now in
    let h = n.turns.turns in
    let same : c.from-number.result ≡ c.args.tag = c.from-number.ensures ∙ c.get.ensures.value in
    storage_world c.node_laws.ensures n.config h c.push_reserved.new.self.turns c.args.tag c.from-number.result c.args.from c.args.tell None
    (fault_of (nodes.storage_at n.config h c.args.tag) c.args.from c.args.tell) n.cells.items n.logs n.sequencers n.proxies n.recoverers n.storages.items
    c.index_mut.result.now c.tell_server.new.server c.requires.kept c.requires.turn same (old c) c.in_ok-fault.ensures.state c.in_ok-fault.ensures.works (later c)

pub returns-clause-stays : goal.returns-clause-stays
returns-clause-stays = stays

pub returns-clause-keeps : goal.returns-clause-keeps
returns-clause-keeps c kept = stays c
