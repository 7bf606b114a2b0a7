use Rattle.std.proofs.Common.{refl, ◌≡◌, ap, ◌∙◌, ◌∷◌}
use Rattle.fr_proxy.specs.Proxy as proxy
use Rattle.fr_run.specs.Nodes.{proxy_at}
use Rattle.fr_run.specs.Turn.{ProxyHeard}
use Rattle.fr_world_turns.specs.Turns.{turn_of}
use Rattle.fr_world_nodes.specs.Kept.{WorldState, state_of, with_turn}
use Rattle.fr_world_nodes.proofs.Histories.{history_push}
use Rattle.fr_world_nodes.proofs.CalledNodes.{heard_in, heard_open, heard_same, heard_says, heard_entered, heard_world}
use Rattle.fr_world_nodes.proofs.nodes.Nodes.tell_proxy.Goals as goal

pub returns-clause-outcome : goal.returns-clause-outcome
returns-clause-outcome c =
    let n = c.args.self.now in
    let m = c.keep_proxy_of.new.self in
    let h = m.turns.turns in
    let e = c.args.epoch in
    let p = c.args.proxy in
    let from = c.args.from in
    let t = c.args.tell in
    let same = c.keep_proxy_of.ensures.state in
    let kept = c.keep_proxy_of.ensures.stays in
    let there = c.in_ok-keep_proxy_of.ensures.there in
    let named : c.again-by.result ≡ from = c.again-by.ensures in
    let turn = heard_same (state_of m) (state_of n) same e p from t c.requires.turn in
    let w = state_of m in
    let open' = heard_open m.config h e p from t (proxy.outcome_of (proxy_at m.config h e p) from t) (proxy.new_asks (proxy_at m.config h e p) from t) turn in
    heard_says m.config h e p c.again-by.result from t c.in_ok-outcome.outcome m.proxies kept.proxies_are open' there named c.in_ok-outcome.ensures.outcome ∙ ap (λ x. proxy.outcome_of (proxy_at x.config x.turns e p) from t) same

pub returns-clause-world : goal.returns-clause-world
returns-clause-world c =
    let n = c.args.self.now in
    let m = c.keep_proxy_of.new.self in
    let h = m.turns.turns in
    let e = c.args.epoch in
    let p = c.args.proxy in
    let from = c.args.from in
    let t = c.args.tell in
    let same = c.keep_proxy_of.ensures.state in
    let kept = c.keep_proxy_of.ensures.stays in
    let there = c.in_ok-keep_proxy_of.ensures.there in
    let named : c.again-by.result ≡ from = c.again-by.ensures in
    let turn = heard_same (state_of m) (state_of n) same e p from t c.requires.turn in
    let w = state_of m in
    let open' = heard_open m.config h e p from t (proxy.outcome_of (proxy_at m.config h e p) from t) (proxy.new_asks (proxy_at m.config h e p) from t) turn in
    let heard : turn_of c.heard.result ≡ ProxyHeard e p from c.args.tell c.in_ok-outcome.outcome c.in_ok-outcome.asks.items = c.heard.ensures in
    let entered =
    heard ∙ heard_entered m.config h e p c.again-by.result from t c.args.tell c.in_ok-outcome.outcome c.in_ok-outcome.asks.items m.proxies kept.proxies_are open' there named refl c.in_ok-outcome.ensures.outcome
    c.in_ok-outcome.ensures.asks in
    let later = history_push m.turns.turns c.push_reserved.new.self.turns c.heard.result (heard_in w e p from t) (c.push_reserved.ensures ∙ ap (λ xs. turn_of c.heard.result ∷ xs) c.in_ok-reserve.ensures.turns) entered in
    ap (λ x. let y : WorldState = record { config = m.config; turns = x } in y) later ∙ ap (λ x. with_turn x (heard_in x e p from t)) same

pub returns-clause-stays : goal.returns-clause-stays
returns-clause-stays c =
    let n = c.args.self.now in
    let m = c.keep_proxy_of.new.self in
    let h = m.turns.turns in
    let e = c.args.epoch in
    let p = c.args.proxy in
    let from = c.args.from in
    let t = c.args.tell in
    let same = c.keep_proxy_of.ensures.state in
    let kept = c.keep_proxy_of.ensures.stays in
    let there = c.in_ok-keep_proxy_of.ensures.there in
    let named : c.again-by.result ≡ from = c.again-by.ensures in
    let turn = heard_same (state_of m) (state_of n) same e p from t c.requires.turn in
    let w = state_of m in
    let open' = heard_open m.config h e p from t (proxy.outcome_of (proxy_at m.config h e p) from t) (proxy.new_asks (proxy_at m.config h e p) from t) turn in
    let heard : turn_of c.heard.result ≡ ProxyHeard e p from c.args.tell c.in_ok-outcome.outcome c.in_ok-outcome.asks.items = c.heard.ensures in
    let entered =
    heard ∙ heard_entered m.config h e p c.again-by.result from t c.args.tell c.in_ok-outcome.outcome c.in_ok-outcome.asks.items m.proxies kept.proxies_are open' there named refl c.in_ok-outcome.ensures.outcome
    c.in_ok-outcome.ensures.asks in
    let later = history_push m.turns.turns c.push_reserved.new.self.turns c.heard.result (heard_in w e p from t) (c.push_reserved.ensures ∙ ap (λ xs. turn_of c.heard.result ∷ xs) c.in_ok-reserve.ensures.turns) entered in
    heard_world c.node_laws.ensures m.config h c.push_reserved.new.self.turns e p c.again-by.result from t (proxy.outcome_of (proxy_at m.config h e p) from t) (proxy.new_asks (proxy_at m.config h e p) from t) m.cells.items m.logs m.sequencers
    m.proxies c.tell_proxy.new.proxies m.recoverers m.storages.items kept turn there named c.in_ok-outcome.ensures.after later
