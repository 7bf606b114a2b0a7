use Rattle.std.proofs.Common.{refl, ◌≡◌, ◌<◌, ap, sym, subst, ◌∙◌, ◌∷◌}
use Rattle.std.proofs.lemmas.Bool.{ltb-true}
use Rattle.fr_log.specs.Step as log
use Rattle.fr_run.specs.Nodes as nodes
use Rattle.fr_run.specs.Turn as history
use Rattle.fr_world_nodes.specs.Parts.{IsWorld}
use Rattle.fr_world_turns.specs.Turns.{turn_of}
use Rattle.fr_world_nodes.specs.Kept.{WorldState}
use Rattle.fr_world_turns.specs.declared.turn.Turn.TheVariants as code
use Rattle.fr_world_nodes.proofs.Histories.{history_push}
use Rattle.fr_world_nodes.proofs.Asked.{log_told, log_world}
use Rattle.fr_world_nodes.proofs.nodes.Nodes.ask_log.Goals as goal

-- the log is there
there : (c : goal.After-push_reserved) → c.args.id.index < nodes.logs_at c.args.self.now.config c.args.self.now.turns.turns c.args.id.epoch
there c = ltb-true c.args.id.index (nodes.logs_at c.args.self.now.config c.args.self.now.turns.turns c.args.id.epoch) c.requires.turn.0.there

-- what is kept once the log is made is what was kept
kept : (c : goal.After-push_reserved) → IsWorld c.args.self.now.config c.args.self.now.turns.turns c.make_log.new.self.cells.items c.make_log.new.self.logs c.make_log.new.self.sequencers
    c.make_log.new.self.proxies c.make_log.new.self.recoverers c.make_log.new.self.storages.items
kept c =
    let m = c.make_log.new.self in
    subst (λ (w : WorldState). IsWorld w.config w.turns m.cells.items m.logs m.sequencers m.proxies m.recoverers m.storages.items) c.make_log.ensures.same c.make_log.ensures.stays

-- the log told it
told : (c : goal.After-push_reserved) → c.in_ok-told.told.kept ≡ log.answer_of (nodes.log_at c.args.self.now.config c.args.self.now.turns.turns c.args.id.epoch c.args.id.index) c.args.ask
told c =
    let n = c.args.self.now in
    log_told n.config n.turns.turns c.args.id.epoch c.args.id.index c.args.ask c.in_ok-copy.field-0 c.in_ok-told.told.kept c.make_log.new.self.logs (kept c).logs_are (there c)
    c.in_ok-copy.ensures.equal c.in_ok-make_log.ensures.made c.in_ok-told.ensures.kept

-- the turn is entered
later : (c : goal.After-push_reserved) → c.push_reserved.new.self.turns
    ≡ history.LogTurn c.args.from c.args.id.epoch c.args.id.index c.args.ask (log.answer_of (nodes.log_at c.args.self.now.config c.args.self.now.turns.turns c.args.id.epoch c.args.id.index) c.args.ask)
    ∷ c.args.self.now.turns.turns
later c =
    let n = c.args.self.now in
    let h = n.turns.turns in
    let a = c.args.ask in
    let t = history.LogTurn c.args.from c.args.id.epoch c.args.id.index a (log.answer_of (nodes.log_at n.config h c.args.id.epoch c.args.id.index) a) in
    let x = code.Log c.args.from c.args.id c.args.ask c.in_ok-told.told.kept in
    history_push c.make_log.new.self.turns.turns c.push_reserved.new.self.turns x t
    (c.push_reserved.ensures ∙ ap (λ xs. turn_of x ∷ xs) c.in_ok-reserve.ensures.turns)
    (ap (λ y. history.LogTurn c.args.from c.args.id.epoch c.args.id.index y c.in_ok-told.told.kept) refl ∙ ap (history.LogTurn c.args.from c.args.id.epoch c.args.id.index a) (told c))
    ∙ ap (λ (w : WorldState). t ∷ w.turns) c.make_log.ensures.same

pub returns-clause-told : goal.returns-clause-told
returns-clause-told c =
    let n = c.args.self.now in
    log_told n.config n.turns.turns c.args.id.epoch c.args.id.index c.args.ask c.in_ok-copy.field-0 c.in_ok-told.told.handed c.make_log.new.self.logs (kept c).logs_are (there c)
    c.in_ok-copy.ensures.equal c.in_ok-make_log.ensures.made c.in_ok-told.ensures.handed

pub returns-clause-world : goal.returns-clause-world
returns-clause-world c =
    let n = c.args.self.now in
    let h = n.turns.turns in
    let a = c.args.ask in
    let t = history.LogTurn c.args.from c.args.id.epoch c.args.id.index a (log.answer_of (nodes.log_at n.config h c.args.id.epoch c.args.id.index) a) in
    ap (λ x. let w : WorldState = record { config = c.make_log.new.self.config; turns = x } in w) (later c)
    ∙ ap (λ (v : WorldState). let w : WorldState = record { config = v.config; turns = t ∷ h } in w) c.make_log.ensures.same

pub returns-clause-stays : goal.returns-clause-stays
returns-clause-stays c =
    let n = c.args.self.now in
    let m = c.make_log.new.self in
    let h = n.turns.turns in
    let a = c.args.ask in
    subst (λ x. IsWorld x c.push_reserved.new.self.turns m.cells.items c.ask_log.new.logs m.sequencers m.proxies m.recoverers m.storages.items) (sym (ap (λ (w : WorldState). w.config) c.make_log.ensures.same))
    (log_world c.node_laws.ensures n.config h c.push_reserved.new.self.turns c.args.from c.args.id.epoch c.args.id.index a c.in_ok-copy.field-0 (log.answer_of (nodes.log_at n.config h c.args.id.epoch c.args.id.index) a)
    m.cells.items m.logs c.ask_log.new.logs m.sequencers m.proxies m.recoverers m.storages.items (kept c) c.requires.turn (there c) c.in_ok-copy.ensures.equal c.in_ok-make_log.ensures.made c.in_ok-told.ensures.after (later c))
