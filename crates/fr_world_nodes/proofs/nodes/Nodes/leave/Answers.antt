use Rattle.std.proofs.Common.{◌≡◌, ap, ◌∙◌, refl, ◌∷◌}
use Rattle.fr_run.specs.Turn as history
use Rattle.fr_world_turns.specs.Turns.{turn_of}
use Rattle.fr_world_nodes.specs.Kept.{WorldState}
use Rattle.fr_world_turns.specs.declared.turn.Turn.TheVariants as code
use Rattle.fr_world_nodes.proofs.Histories.{history_push}
use Rattle.fr_world_nodes.proofs.Leaving.{left_world}
use Rattle.fr_world_nodes.proofs.nodes.Nodes.leave.Goals as goal

-- the turn is entered
later : (c : goal.After-push_reserved) → c.push_reserved.new.self.turns ≡ history.Gone c.args.node ∷ c.args.self.now.turns.turns
later c =
    let n = c.args.self.now in
    let x = code.Gone c.args.node in
    history_push n.turns.turns c.push_reserved.new.self.turns x (history.Gone c.args.node) (c.push_reserved.ensures ∙ ap (λ xs. turn_of x ∷ xs) c.in_ok-reserve.ensures.turns) refl

pub returns-clause-world : goal.returns-clause-world
returns-clause-world c = ap (λ x. let w : WorldState = record { config = c.args.self.now.config; turns = x } in w) (later c)

pub returns-clause-stays : goal.returns-clause-stays
returns-clause-stays c =
    let n = c.args.self.now in
    left_world c.node_laws.ensures n.config n.turns.turns c.push_reserved.new.self.turns c.args.node n.cells.items n.logs n.sequencers n.proxies n.recoverers n.storages.items c.requires.kept c.requires.turn (later c)
