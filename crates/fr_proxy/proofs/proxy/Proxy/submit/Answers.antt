use Rattle.std.proofs.Common.{Some, sym, subst, ap, ◌∙◌, ◌+◌}
use Rattle.fr_proxy.specs.Inside.{state_of}
use Rattle.fr_proxy.specs.IsProxy.{IsProxy}
use Rattle.fr_proxy.specs.Proxy.{ProxyState, Open, submit_fault}
use Rattle.fr_proxy.proofs.Sound.{submit_keeps}
use Rattle.fr_proxy.proofs.proxy.Proxy.submit.Goals as goal

pub invariant_of-self : goal.invariant_of-self
invariant_of-self c =
    let p = state_of c.self.inside in
    let with : Open → ProxyState = λ o. record p { requests = p.requests + 1; under_way = Some o } in
    let none = ap submit_fault c.self.view_is ∙ (sym c.submit_fault.ensures ∙ c.in_default.is) in
    subst (λ o. IsProxy (with o)) (sym c.new.ensures) (submit_keeps p c.args.step c.args.batch c.self.invariant none)
