use Rattle.std.proofs.Common.{◌≡◌, ap, ◌∙◌, [], ◌∷◌, None, refl}
use Rattle.fr_base.specs.declared.place.NodeId.TheVariants as node
use Rattle.fr_proxy.specs.Proxy as proxy
use Rattle.fr_run.specs.Nodes.{proxy_at}
use Rattle.fr_run.specs.Turn.{Submitted}
use Rattle.fr_world_turns.specs.Turns.{turn_of}
use Rattle.fr_world_nodes.specs.Kept.{WorldState, state_of, with_turn}
use Rattle.fr_world_nodes.proofs.Histories.{history_push}
use Rattle.fr_world_nodes.proofs.CalledNodes.{kept_is, takes_same, may_take, up_open, up_same, taken_in, taken_entered, taken_world}
use Rattle.fr_world_nodes.proofs.nodes.Nodes.submit.Goals as goal

-- the proxy of what happened takes the batch, also after it is kept
pub submit-ask-requires-clause-takes : goal.submit-ask-requires-clause-takes
submit-ask-requires-clause-takes c =
    let n = c.args.self.now in
    let m = c.keep_proxy_of.new.self in
    let h = m.turns.turns in
    let up = up_same (state_of m) (state_of n) c.keep_proxy_of.ensures.state (node.Proxy c.args.epoch c.args.proxy) c.requires.up in
    kept_is m.config h m.proxies c.keep_proxy_of.ensures.stays.proxies_are c.args.epoch c.args.proxy (up_open m.config h c.args.epoch c.args.proxy up) (λ s. proxy.submit_fault s ≡ None)
    (takes_same (state_of m) (state_of n) c.keep_proxy_of.ensures.state c.args.epoch c.args.proxy c.requires.takes)

pub returns-clause-world : goal.returns-clause-world
returns-clause-world c =
    let n = c.args.self.now in
    let m = c.keep_proxy_of.new.self in
    let h = m.turns.turns in
    let e = c.args.epoch in
    let p = c.args.proxy in
    let step = c.args.step in
    let batch = c.args.batch in
    let w = state_of m in
    let same = c.keep_proxy_of.ensures.state in
    let kept = c.keep_proxy_of.ensures.stays in
    let there = c.in_ok-keep_proxy_of.ensures.there in
    let up = up_same (state_of m) (state_of n) same (node.Proxy e p) c.requires.up in
    let open' = up_open m.config h e p up in
    let taken : turn_of c.taken.result ≡ Submitted e p step c.in_ok-kept.kept ((node.Sequencer e, c.submit-ask.result) ∷ []) = c.taken.ensures in
    let entered = taken ∙ taken_entered c.node_laws.ensures m.config h e p step batch c.in_ok-kept.kept c.args.batch c.submit-ask.result m.proxies kept.proxies_are open' there c.in_ok-kept.ensures refl c.submit-ask.ensures.ask in
    let later = history_push m.turns.turns c.push_reserved.new.self.turns c.taken.result (taken_in w e p step batch) (c.push_reserved.ensures ∙ ap (λ xs. turn_of c.taken.result ∷ xs) c.in_ok-reserve.ensures.turns) entered in
    ap (λ x. let y : WorldState = record { config = m.config; turns = x } in y) later ∙ ap (λ x. with_turn x (taken_in x e p step batch)) same

pub returns-clause-stays : goal.returns-clause-stays
returns-clause-stays c =
    let n = c.args.self.now in
    let m = c.keep_proxy_of.new.self in
    let h = m.turns.turns in
    let e = c.args.epoch in
    let p = c.args.proxy in
    let step = c.args.step in
    let batch = c.args.batch in
    let w = state_of m in
    let same = c.keep_proxy_of.ensures.state in
    let kept = c.keep_proxy_of.ensures.stays in
    let there = c.in_ok-keep_proxy_of.ensures.there in
    let up = up_same (state_of m) (state_of n) same (node.Proxy e p) c.requires.up in
    let open' = up_open m.config h e p up in
    let taken : turn_of c.taken.result ≡ Submitted e p step c.in_ok-kept.kept ((node.Sequencer e, c.submit-ask.result) ∷ []) = c.taken.ensures in
    let entered = taken ∙ taken_entered c.node_laws.ensures m.config h e p step batch c.in_ok-kept.kept c.args.batch c.submit-ask.result m.proxies kept.proxies_are open' there c.in_ok-kept.ensures refl c.submit-ask.ensures.ask in
    let later = history_push m.turns.turns c.push_reserved.new.self.turns c.taken.result (taken_in w e p step batch) (c.push_reserved.ensures ∙ ap (λ xs. turn_of c.taken.result ∷ xs) c.in_ok-reserve.ensures.turns) entered in
    let s = proxy_at m.config h e p in
    let none : proxy.submit_fault s ≡ None = takes_same (state_of m) (state_of n) same e p c.requires.takes in
    taken_world c.node_laws.ensures m.config h c.push_reserved.new.self.turns e p step batch c.args.batch (proxy.number_ask s (proxy.opened s step batch) ∷ []) m.cells.items m.logs m.sequencers m.proxies c.submit-ask.new.proxies m.recoverers
    m.storages.items kept (up, (may_take s none, c.requires.step), refl) there refl c.submit-ask.ensures.after later
