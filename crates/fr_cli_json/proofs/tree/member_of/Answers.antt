use Rattle.std.proofs.Common.{◌∙◌, sym}
use Rattle.serde_json.proofs.Views.{members_len-members_view}
use Rattle.fr_cli_json.proofs.JsonLemmas.{only_here, only_other}
use Rattle.fr_cli_json.proofs.tree.member_of.Goals as goal

pub returns-then-len-count : goal.returns-then-len-count
returns-then-len-count c =
    let count = members_len-members_view _ ∙ sym c.len.ensures.len ∙ c.if-len-count.true in
    c.get.ensures ∙ sym (only_here c.args.count c.args.name.now _ _ c.in_ok-as_object.ensures count)

pub returns-else-len-count : goal.returns-else-len-count
returns-else-len-count c = sym (only_other c.args.count c.args.name.now _ _ c.in_ok-as_object.ensures (λ e. c.if-len-count.false (c.len.ensures.len ∙ sym (members_len-members_view _) ∙ e)))
