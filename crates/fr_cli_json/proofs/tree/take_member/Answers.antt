use Rattle.std.proofs.Common.{◌∙◌, Some, ap, sym}
use Rattle.serde_json.proofs.Views.{members_len-members_view}
use Rattle.serde_json.specs.View.{view}
use Rattle.serde_json.specs.declared.value.Value.{Value}
use Rattle.fr_cli_json.proofs.JsonLemmas.{only_here, only_other}
use Rattle.fr_cli_json.proofs.tree.take_member.Goals as goal

pub returns : goal.returns
returns c =
    let count = members_len-members_view _ ∙ sym c.len.ensures.len ∙ c.if-len-count.false in
    let here = only_here c.args.count c.args.name.now _ _ c.in_ok-as_object.ensures count in
    ap (λ (v : Value). Some (view v)) c.take.ensures.taken ∙ c.in_ok-get_mut.ensures ∙ sym here

pub returns-then-len-count : goal.returns-then-len-count
returns-then-len-count c = sym (only_other c.args.count c.args.name.now _ _ c.in_ok-as_object.ensures (λ e. c.if-len-count.true (c.len.ensures.len ∙ sym (members_len-members_view _) ∙ e)))
