use Rattle.std.proofs.Common.{◌≡◌, List, refl, subst}
use Rattle.std.specs.Prelude.{IfOk}
use Rattle.fr_base.specs.declared.place.NodeId.{NodeId}
use Rattle.fr_ask.specs.declared.ask.Ask.{Ask}
use Rattle.fr_part.specs.Hear.{pull_from, pull_of}
use Rattle.fr_part.proofs.hearing.pull_of.Goals as goal

-- what is asked for, by what the server tells of itself
pub returns : goal.returns
returns c =
    let s = c.args.storage.now in
    let is : pull_from c.of_epoch-source.result c.tag-tag.result c.next_ask-epoch.result.1 ≡ pull_of s =
    rw (c.of_epoch-source.ensures, c.gens.ensures.value, c.state.ensures, c.tag-tag.ensures, c.next_ask-epoch.ensures) refl in
    subst (λ (xs : List (NodeId × Ask)). IfOk c.pull_from.result (λ asks. asks.items ≡ xs)) is c.pull_from.ensures
