use Rattle.std.proofs.Common.{◌≡◌, ap, ◌∙◌, length}
use Rattle.std.proofs.lemmas.Bool.{ltb-true}
use Rattle.fr_run.specs.Step.{may_break}
use Rattle.fr_storage.specs.Storage.{StorageState}
use Rattle.fr_world_nodes.proofs.Served.{server_there}
use Rattle.fr_world_nodes.proofs.nodes.Nodes.may_break.Goals as goal

-- the server that is told works
pub may_break-requires : goal.may_break-requires
may_break-requires c =
    let n = c.args.self.now in
    let same : c.from-number.result ≡ c.args.tag = c.from-number.ensures ∙ c.get.ensures.value in
    let l = ltb-true c.args.tag (length n.config.begins) c.requires.heard.actor.there in
    c.requires.kept.storages_are.work c.args.tag c.index.result.now
    (server_there n.config n.turns.turns n.storages.items c.requires.kept.storages_are c.args.tag c.from-number.result same l c.index.result.now c.index.ensures)

-- it is the one of what happened
pub returns : goal.returns
returns c =
    let n = c.args.self.now in
    let same : c.from-number.result ≡ c.args.tag = c.from-number.ensures ∙ c.get.ensures.value in
    let l = ltb-true c.args.tag (length n.config.begins) c.requires.heard.actor.there in
    let is = c.requires.kept.storages_are.each c.args.tag c.index.result.now
    (server_there n.config n.turns.turns n.storages.items c.requires.kept.storages_are c.args.tag c.from-number.result same l c.index.result.now c.index.ensures) in
    c.may_break.ensures ∙ ap (λ (s : StorageState). may_break s c.args.from.now c.args.tell.now c.args.version) is
