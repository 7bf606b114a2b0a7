use Rattle.std.proofs.Common.{◌≡◌, ◌==◌, ◌-◌, false, Some, ap, sym, ◌∙◌, subst}
use Rattle.std.specs.Prelude.{IfSome}
use Rattle.fr_proxy.specs.Proxy as proxy
use Rattle.std.specs.Ordering.{nat_cmp}
use Rattle.std.specs.BTreeMap as tree
use Rattle.fr_run.specs.Config.{first_epoch}
use Rattle.fr_world_nodes.proofs.CalledNodes.{open_plan, made_proxy}
use Rattle.fr_world_nodes.proofs.nodes.Nodes.new_proxy.Goals as goal

pub first_proxy-requires : goal.first_proxy-requires
first_proxy-requires c =
    let n = c.args.self.now in
    let h = n.turns.turns in
    let other : (c.args.epoch == first_epoch) ≡ false = ap (λ n. c.args.epoch == n) (sym c.first_epoch.ensures) ∙ sym c.if-eq.ensures in
    let ballot : c.ballot.result ≡ c.args.epoch = c.ballot.ensures in
    let at : tree.get nat_cmp n.recoverers c.ballot.result ≡ Some c.in-Some.recoverer.now = sym c.in-Some.ensures.value in
    let own = sym (c.requires.kept.recoverers_are c.args.epoch) ∙ ap (tree.get nat_cmp n.recoverers) (sym ballot) ∙ at in
    open_plan c.node_laws.ensures n.config h c.requires.kept.run c.args.epoch c.requires.open other c.in-Some.recoverer.now own

pub returns : goal.returns
returns c =
    let n = c.args.self.now in
    let h = n.turns.turns in
    let other : (c.args.epoch == first_epoch) ≡ false = ap (λ n. c.args.epoch == n) (sym c.first_epoch.ensures) ∙ sym c.if-eq.ensures in
    let ballot : c.ballot.result ≡ c.args.epoch = c.ballot.ensures in
    let at : tree.get nat_cmp n.recoverers c.ballot.result ≡ Some c.in-Some.recoverer.now = sym c.in-Some.ensures.value in
    let own = sym (c.requires.kept.recoverers_are c.args.epoch) ∙ ap (tree.get nat_cmp n.recoverers) (sym ballot) ∙ at in
    let some = open_plan c.node_laws.ensures n.config h c.requires.kept.run c.args.epoch c.requires.open other c.in-Some.recoverer.now own in
    let mapped : c.in_ok-map.map ≡ n.config.begins = c.in_ok-map.ensures ∙ c.map.ensures.value in
    made_proxy n.config h c.args.epoch c.args.number other c.in-Some.recoverer.now own some c.first_proxy.result
    (subst (λ b. IfSome c.in-Some.recoverer.now.plan (λ p. c.first_proxy.result ≡ proxy.new_proxy c.args.epoch c.args.number p.generation.m p.generation.k b (p.generation.first - 1))) mapped c.first_proxy.ensures)
