use Rattle.std.proofs.Common.{refl, ◌≡◌, ap, ◌∙◌, slice_index_or, slice_set, ◌∷◌}
use Rattle.fr_register.specs.CellState.{fresh_cell}
use Rattle.fr_register.specs.Cell as cell
use Rattle.fr_run.specs.Nodes as nodes
use Rattle.fr_run.specs.Turn as history
use Rattle.fr_world_turns.specs.Turns.{turn_of}
use Rattle.fr_world_nodes.specs.Kept.{WorldState}
use Rattle.fr_world_turns.specs.declared.turn.Turn.TheVariants as code
use Rattle.fr_world_nodes.proofs.Histories.{history_push}
use Rattle.fr_world_nodes.proofs.Kept.{cell_entered, cell_told, cell_world}
use Rattle.fr_world_nodes.proofs.nodes.Nodes.ask_cell.Goals as goal

pub returns-clause-told : goal.returns-clause-told
returns-clause-told c =
    let n = c.args.self.now in
    let e : c.from.result ≡ c.args.index = c.from.ensures in
    cell_told n.config n.turns.turns c.args.index c.args.ask c.in_ok-copy.field-0 c.in_ok-told.told.handed n.cells.items c.requires.kept.cells_are c.requires.turn.0 c.in_ok-copy.ensures.ok
    (c.in_ok-told.ensures.handed ∙ ap (λ j. cell.answer_of (slice_index_or n.cells.items j fresh_cell) c.in_ok-copy.field-0) e)

-- the turn is entered
later : (c : goal.After-push_reserved) → c.push_reserved.new.self.turns
    ≡ history.CellTurn c.args.from c.args.index c.args.ask (cell.answer_of (nodes.cell_at c.args.self.now.config c.args.self.now.turns.turns c.args.index) c.args.ask) ∷ c.args.self.now.turns.turns
later c =
    let n = c.args.self.now in
    let e : c.from.result ≡ c.args.index = c.from.ensures in
    let a = c.args.ask in
    let h = n.turns.turns in
    let x = code.Cell c.args.from c.args.index c.args.ask c.in_ok-told.told.kept in
    let told = c.in_ok-told.ensures.kept ∙ ap (λ j. cell.answer_of (slice_index_or n.cells.items j fresh_cell) c.in_ok-copy.field-0) e in
    let entered = cell_entered n.config h c.args.from c.args.index a c.args.ask c.in_ok-copy.field-0 c.in_ok-told.told.kept n.cells.items c.requires.kept.cells_are c.requires.turn.0 refl c.in_ok-copy.ensures.ok told in
    history_push n.turns.turns c.push_reserved.new.self.turns x (history.CellTurn c.args.from c.args.index a (cell.answer_of (nodes.cell_at n.config h c.args.index) a))
    (c.push_reserved.ensures ∙ ap (λ xs. turn_of x ∷ xs) c.in_ok-reserve.ensures.turns) entered

pub returns-clause-world : goal.returns-clause-world
returns-clause-world c = ap (λ x. let w : WorldState = record { config = c.args.self.now.config; turns = x } in w) (later c)

pub returns-clause-stays : goal.returns-clause-stays
returns-clause-stays c =
    let n = c.args.self.now in
    let e : c.from.result ≡ c.args.index = c.from.ensures in
    let a = c.args.ask in
    let h = n.turns.turns in
    cell_world c.node_laws.ensures n.config h c.push_reserved.new.self.turns c.args.from c.args.index a c.in_ok-copy.field-0 (cell.answer_of (nodes.cell_at n.config h c.args.index) a) n.cells.items c.ask_cell.new.cells.items
    n.logs n.sequencers n.proxies n.recoverers n.storages.items c.requires.kept c.requires.turn c.in_ok-copy.ensures.ok
    (c.in_ok-told.ensures.cells ∙ ap (λ j. slice_set n.cells.items j (cell.next_of (slice_index_or n.cells.items j fresh_cell) c.in_ok-copy.field-0)) e)
    (later c)
