use Rattle.std.proofs.Common.{refl, slice_set, ◌≡◌, true, None, Some, sym, ap, subst, ◌∙◌, length, ◌∷◌}
use Rattle.std.proofs.lemmas.Bool.{ltb-true}
use Rattle.fr_run.specs.Step.{may_break}
use Rattle.fr_run.specs.Nodes as nodes
use Rattle.fr_run.specs.Run.{fault_of}
use Rattle.fr_run.specs.Turn as history
use Rattle.fr_storage.specs.Storage.{StorageState}
use Rattle.fr_world_nodes.specs.Parts.{IsWorld, server_of}
use Rattle.fr_world_turns.specs.Turns.{turn_of}
use Rattle.fr_world_nodes.specs.Kept.{WorldState}
use Rattle.fr_world_turns.specs.declared.turn.Turn.TheVariants as code
use Rattle.fr_world_nodes.proofs.Histories.{history_push}
use Rattle.fr_world_nodes.proofs.Served.{server_there, storage_entered, storage_world, may_break_off, break_turn}
use Rattle.fr_world_nodes.proofs.nodes.Nodes.break_storage.Goals as goal

-- the server that is told works
pub break_server-requires-clause-works : goal.break_server-requires-clause-works
break_server-requires-clause-works c =
    let n = c.args.self.now in
    let same : c.from-number.result ≡ c.args.tag = c.from-number.ensures ∙ c.get.ensures.value in
    let l = ltb-true c.args.tag (length n.config.begins) c.requires.heard.actor.there in
    c.requires.kept.storages_are.work c.args.tag c.index_mut-server.result.now
    (server_there n.config n.turns.turns n.storages.items c.requires.kept.storages_are c.args.tag c.from-number.result same l c.index_mut-server.result.now c.index_mut-server.ensures.value)

-- it is the one of what happened, which can break off
pub break_server-requires-clause-breaks : goal.break_server-requires-clause-breaks
break_server-requires-clause-breaks c =
    let n = c.args.self.now in
    let same : c.from-number.result ≡ c.args.tag = c.from-number.ensures ∙ c.get.ensures.value in
    let l = ltb-true c.args.tag (length n.config.begins) c.requires.heard.actor.there in
    let is = c.requires.kept.storages_are.each c.args.tag c.index_mut-server.result.now
    (server_there n.config n.turns.turns n.storages.items c.requires.kept.storages_are c.args.tag c.from-number.result same l c.index_mut-server.result.now c.index_mut-server.ensures.value) in
    subst (λ (s : StorageState). may_break s c.args.from c.args.tell c.args.version ≡ true) (sym is) c.requires.breaks

old : (c : goal.After-push_reserved) → server_of c.index_mut-server.result.now ≡ nodes.storage_at c.args.self.now.config c.args.self.now.turns.turns c.args.tag
old c =
    let n = c.args.self.now in
    let same : c.from-number.result ≡ c.args.tag = c.from-number.ensures ∙ c.get.ensures.value in
    let l = ltb-true c.args.tag (length n.config.begins) c.requires.heard.actor.there in
    c.requires.kept.storages_are.each c.args.tag c.index_mut-server.result.now
    (server_there n.config n.turns.turns n.storages.items c.requires.kept.storages_are c.args.tag c.from-number.result same l c.index_mut-server.result.now c.index_mut-server.ensures.value)

-- the turn is entered
later : (c : goal.After-push_reserved) → c.push_reserved.new.self.turns
    ≡ history.StorageHeard c.args.tag c.args.from c.args.tell (Some c.args.version) (fault_of (nodes.storage_at c.args.self.now.config c.args.self.now.turns.turns c.args.tag) c.args.from c.args.tell) ∷ c.args.self.now.turns.turns
later c =
    let n = c.args.self.now in
    let h = n.turns.turns in
    let s = nodes.storage_at n.config h c.args.tag in
    let fault = fault_of s c.args.from c.args.tell in
    let x = code.Storage c.args.tag c.args.from c.args.tell (Some c.args.version) None in
    let entered = storage_entered c.args.tag c.args.from c.args.tell c.args.tell (Some c.args.version) fault None refl (sym (may_break_off s c.args.from c.args.tell c.args.version c.requires.breaks).0) in
    history_push n.turns.turns c.push_reserved.new.self.turns x (history.StorageHeard c.args.tag c.args.from c.args.tell (Some c.args.version) fault)
    (c.push_reserved.ensures ∙ ap (λ xs. turn_of x ∷ xs) c.in_ok-reserve.ensures.turns) entered

pub returns-clause-world : goal.returns-clause-world
returns-clause-world c = ap (λ x. let w : WorldState = record { config = c.args.self.now.config; turns = x } in w) (later c)

-- what the nodes keep is what happened, with the turn
stays : (c : goal.After-push_reserved) → let n = c.args.self.now in
    IsWorld n.config c.push_reserved.new.self.turns n.cells.items n.logs n.sequencers n.proxies n.recoverers (slice_set n.storages.items c.from-number.result c.break_server.new.server)
stays c =
    let n = c.args.self.now in
    let h = n.turns.turns in
    let same : c.from-number.result ≡ c.args.tag = c.from-number.ensures ∙ c.get.ensures.value in
    let turn = break_turn n.config h c.args.tag c.args.from c.args.tell c.args.version c.requires.heard c.requires.breaks in
    storage_world c.node_laws.ensures n.config h c.push_reserved.new.self.turns c.args.tag c.from-number.result c.args.from c.args.tell (Some c.args.version)
    (fault_of (nodes.storage_at n.config h c.args.tag) c.args.from c.args.tell) n.cells.items n.logs n.sequencers n.proxies n.recoverers n.storages.items
    c.index_mut-server.result.now c.break_server.new.server c.requires.kept turn same (old c) c.in_ok-break_server.ensures.state c.in_ok-break_server.ensures.works (later c)

pub returns-clause-stays : goal.returns-clause-stays
returns-clause-stays = stays

pub returns-clause-keeps : goal.returns-clause-keeps
returns-clause-keeps c kept = stays c
