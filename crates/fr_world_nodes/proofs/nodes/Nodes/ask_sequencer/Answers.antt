use Rattle.std.proofs.Common.{◌≡◌, ap, ◌∙◌, ◌∷◌}
use Rattle.fr_proxy.specs.Sequencer as seq
use Rattle.fr_run.specs.Nodes as nodes
use Rattle.fr_run.specs.Turn as history
use Rattle.fr_world_turns.specs.Turns.{turn_of}
use Rattle.fr_world_nodes.specs.Kept.{WorldState}
use Rattle.fr_world_turns.specs.declared.turn.Turn.TheVariants as code
use Rattle.fr_world_nodes.proofs.Histories.{history_push}
use Rattle.fr_world_nodes.proofs.Asked.{seq_told, seq_world}
use Rattle.fr_world_nodes.proofs.nodes.Nodes.ask_sequencer.Goals as goal

-- the sequencer told it
told : (c : goal.After-push_reserved) → c.in_ok-told.told ≡ seq.answer_of (nodes.seq_at c.args.self.now.config c.args.self.now.turns.turns c.args.epoch) c.args.ask
told c =
    let n = c.args.self.now in
    let h = n.turns.turns in
    seq_told n.config h c.args.epoch c.mark_version-last.result c.args.ask c.in_ok-told.told n.sequencers c.requires.kept.sequencers_are c.requires.turn.0.there c.mark_version-last.ensures c.in_ok-told.ensures.told

-- the turn is entered
later : (c : goal.After-push_reserved) → c.push_reserved.new.self.turns
    ≡ history.SeqTurn c.args.from c.args.epoch c.args.ask (seq.answer_of (nodes.seq_at c.args.self.now.config c.args.self.now.turns.turns c.args.epoch) c.args.ask) ∷ c.args.self.now.turns.turns
later c =
    let n = c.args.self.now in
    let h = n.turns.turns in
    let a = c.args.ask in
    let x = code.Sequencer c.args.from c.args.epoch a c.in_ok-told.told in
    history_push n.turns.turns c.push_reserved.new.self.turns x (history.SeqTurn c.args.from c.args.epoch a (seq.answer_of (nodes.seq_at n.config h c.args.epoch) a))
    (c.push_reserved.ensures ∙ ap (λ xs. turn_of x ∷ xs) c.in_ok-reserve.ensures.turns) (ap (history.SeqTurn c.args.from c.args.epoch a) (told c))

pub returns-clause-told : goal.returns-clause-told
returns-clause-told c = told c

pub returns-clause-world : goal.returns-clause-world
returns-clause-world c = ap (λ x. let w : WorldState = record { config = c.args.self.now.config; turns = x } in w) (later c)

pub returns-clause-stays : goal.returns-clause-stays
returns-clause-stays c =
    let n = c.args.self.now in
    let h = n.turns.turns in
    let a = c.args.ask in
    seq_world c.node_laws.ensures n.config h c.push_reserved.new.self.turns c.args.from c.args.epoch c.mark_version-last.result a (seq.answer_of (nodes.seq_at n.config h c.args.epoch) a)
    n.cells.items n.logs n.sequencers c.ask_sequencer.new.sequencers n.proxies n.recoverers n.storages.items c.requires.kept c.requires.turn c.mark_version-last.ensures c.in_ok-told.ensures.after (later c)
