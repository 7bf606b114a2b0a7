use Rattle.std.proofs.Common.{◌≡◌, ap, ◌∙◌, refl, ◌∷◌}
use Rattle.fr_run.specs.Turn as history
use Rattle.fr_world_turns.specs.Turns.{turn_of}
use Rattle.fr_world_turns.specs.declared.turn.Turn.TheVariants as code
use Rattle.fr_world_nodes.proofs.Histories.{history_push}
use Rattle.fr_world_nodes.proofs.Recovering.{told_world}
use Rattle.fr_world_nodes.proofs.nodes.Nodes.tell_recoverer.Goals as goal

-- the turn is entered
later : (c : goal.After-push_reserved) → c.push_reserved.new.self.turns ≡ history.RecHeard c.args.ballot c.args.from c.args.tell c.in_ok-asks.asks.items ∷ c.args.self.now.turns.turns
later c =
    let n = c.args.self.now in
    let x = code.Recoverer c.args.ballot c.args.from c.args.tell c.in_ok-asks.asks in
    history_push n.turns.turns c.push_reserved.new.self.turns x (history.RecHeard c.args.ballot c.args.from c.args.tell c.in_ok-asks.asks.items)
    (c.push_reserved.ensures ∙ ap (λ xs. turn_of x ∷ xs) c.in_ok-reserve.ensures.turns) refl

pub returns-clause-stays : goal.returns-clause-stays
returns-clause-stays c =
    let n = c.args.self.now in
    told_world c.node_laws.ensures n.config n.turns.turns c.push_reserved.new.self.turns c.args.ballot c.args.from c.args.tell c.args.tell c.in_ok-copy.field-0 c.in_ok-asks.asks.items n.cells.items n.logs
    n.sequencers n.proxies n.recoverers c.tell_recoverer.new.recoverers n.storages.items c.requires.kept c.requires.there c.requires.turn refl c.in_ok-copy.ensures.equal c.in_ok-asks.ensures.asks c.in_ok-asks.ensures.after (later c)
