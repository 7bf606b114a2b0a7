use Rattle.std.proofs.Common.{◌≡◌, ap, ◌∙◌, ◌∷◌}
use Rattle.fr_epoch.specs.Asks.{pending}
use Rattle.fr_epoch.specs.Recoverer.{new_recoverer}
use Rattle.fr_run.specs.Turn as history
use Rattle.fr_world_turns.specs.Turns.{turn_of}
use Rattle.fr_world_nodes.specs.Kept.{WorldState}
use Rattle.fr_world_turns.specs.declared.turn.Turn.TheVariants as code
use Rattle.fr_world_nodes.proofs.Histories.{history_push}
use Rattle.fr_world_nodes.proofs.Recovering.{begun_world}
use Rattle.fr_world_nodes.proofs.nodes.Nodes.begin.Goals as goal

-- it is the recoverer of the config
begins : (c : goal.After-push_reserved) → c.begin-recoverer.result ≡ new_recoverer c.args.ballot c.args.self.now.config.cells c.args.self.now.config.begins c.args.shape.now
begins c = c.begin-recoverer.ensures ∙ (ap (λ n. new_recoverer c.args.ballot n c.in_ok-map.map c.args.shape.now) c.coordinators.ensures.value
    ∙ ap (λ m. new_recoverer c.args.ballot c.args.self.now.config.cells m c.args.shape.now) (c.in_ok-map.ensures ∙ c.map.ensures.value))

-- the turn is entered
later : (c : goal.After-push_reserved) → c.push_reserved.new.self.turns
    ≡ history.Begun c.args.ballot c.args.shape.now (pending (new_recoverer c.args.ballot c.args.self.now.config.cells c.args.self.now.config.begins c.args.shape.now)) ∷ c.args.self.now.turns.turns
later c =
    let n = c.args.self.now in
    let x = code.Begun c.args.ballot c.args.shape.now c.in_ok-asks.asks in
    history_push n.turns.turns c.push_reserved.new.self.turns x (history.Begun c.args.ballot c.args.shape.now (pending (new_recoverer c.args.ballot n.config.cells n.config.begins c.args.shape.now)))
    (c.push_reserved.ensures ∙ ap (λ xs. turn_of x ∷ xs) c.in_ok-reserve.ensures.turns)
    (ap (λ asks. history.Begun c.args.ballot c.args.shape.now asks) (c.in_ok-asks.ensures ∙ ap pending (begins c)))

pub returns-clause-world : goal.returns-clause-world
returns-clause-world c = ap (λ x. let w : WorldState = record { config = c.args.self.now.config; turns = x } in w) (later c)

pub returns-clause-stays : goal.returns-clause-stays
returns-clause-stays c =
    let n = c.args.self.now in
    begun_world c.node_laws.ensures n.config n.turns.turns c.push_reserved.new.self.turns c.args.ballot c.args.shape.now (pending (new_recoverer c.args.ballot n.config.cells n.config.begins c.args.shape.now)) n.cells.items n.logs n.sequencers n.proxies
    n.recoverers c.keep_recoverer.new.recoverers c.begin-recoverer.result n.storages.items c.requires.kept c.requires.turn (begins c) c.in_ok-keep_recoverer.ensures.after (later c)
