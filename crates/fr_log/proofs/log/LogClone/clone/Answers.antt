use Rattle.std.proofs.Common.{◌≡◌, rules}
use Rattle.fr_log.proofs.log.LogClone.clone.Goals as goal

pub invariant_of-result : goal.invariant_of-result
invariant_of-result c =
    let pushes : c.in_ok-clone-2.field-0 ≡ c.self.inside.pushes = search rules in
    let seed : c.in_ok-clone.field-0 ≡ c.self.inside.seed = search rules in
    let popped : c.in_ok-clone-3.field-0 ≡ c.self.inside.popped = search rules in
    rw (pushes, seed, popped) c.self.invariant

pub returns : goal.returns
returns c =
    let pushes : c.in_ok-clone-2.field-0 ≡ c.self.inside.pushes = search rules in
    let seed : c.in_ok-clone.field-0 ≡ c.self.inside.seed = search rules in
    let popped : c.in_ok-clone-3.field-0 ≡ c.self.inside.popped = search rules in
    rw (pushes, seed, popped) record { cases = c.self.view_is }
