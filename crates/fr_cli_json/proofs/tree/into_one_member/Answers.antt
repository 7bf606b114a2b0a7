use Rattle.std.proofs.Common.{◌∙◌, sym}
use Rattle.serde_json.proofs.Views.{view-Object}
use Rattle.fr_cli_json.proofs.JsonLemmas.{one_other}
use Rattle.fr_cli_json.proofs.tree.into_one_member.Goals as goal

pub returns : goal.returns
returns c =
    let apart = one_other c.in-Object.members.entries (λ e. c.if-len-eq1.false (c.len.ensures.len ∙ e)) in
    rw (c.in-Object.is, view-Object) (sym apart)
