use Rattle.std.proofs.Common.{rules, ◌≡◌, ℕ, List, Option, None, Some}
use Rattle.fr_epoch.specs.declared.reply.Reply.{Reply}
use Rattle.fr_epoch.specs.EndTally.{new_end}
use Rattle.fr_cli_json.specs.Text.{IsInput, HasRead}
use Rattle.fr_cli_end.specs.Script.{replies_of}
use Rattle.fr_cli_json.proofs.TextLemmas.{gains_kept, appends_kept}
use Rattle.fr_cli_json.proofs.CommandLemmas.{unread, misread, cut_off, printed}
use Rattle.fr_cli_end.proofs.end.end_counted.Goals as goal

has_read : (old new : Option (List ℕ)) (input : List ℕ) (replies : List Reply) → IsInput old new input → replies_of input ≡ Some replies → HasRead replies_of old new (Some replies)
has_read old new input replies whole meant = record { input = input; whole = whole; meant = meant }

pub returns-in_err-input-clause-prints : goal.returns-in_err-input-clause-prints
returns-in_err-input-clause-prints g c = unread _ _ _ _ _ _ _ c.from_residual.ensures.0 (search rules)

pub returns-in_err-replies-clause-prints : goal.returns-in_err-replies-clause-prints
returns-in_err-replies-clause-prints g c = misread _ _ _ _ _ _ _ c.from_residual-in_err-replies.ensures.0 (search rules) (λ e.
    let none : replies_of c.in_ok-input.input.items ≡ None = search rules in
    record { input = c.in_ok-input.input.items; whole = c.in_ok-input.ensures.all; meant = none })

pub returns-in_err-put_lines-clause-prints : goal.returns-in_err-put_lines-clause-prints
returns-in_err-put_lines-clause-prints g c =
    let made : c.new-tally.result ≡ new_end c.args.options.logs c.args.options.degree = rw (c.logs.ensures.value, c.degree.ensures.value) at c.new-tally.ensures in
    cut_off _ _ _ _ _ _ _ _ c.from_residual-in_err-put_lines.ensures.0 (search rules)
    (c.in_ok-replies.replies.items, has_read _ _ _ _ c.in_ok-input.ensures.all c.in_ok-replies.ensures.ok, (rw made at c.put_lines.ensures.front))

pub returns-in_err-flush-clause-prints : goal.returns-in_err-flush-clause-prints
returns-in_err-flush-clause-prints g c =
    let made : c.new-tally.result ≡ new_end c.args.options.logs c.args.options.degree = rw (c.logs.ensures.value, c.degree.ensures.value) at c.new-tally.ensures in
    cut_off _ _ _ _ _ _ _ _ c.from_residual-in_err-flush.ensures.0 (search rules)
    (c.in_ok-replies.replies.items, has_read _ _ _ _ c.in_ok-input.ensures.all c.in_ok-replies.ensures.ok, gains_kept _ _ _ _ (rw made at c.put_lines.ensures.front) c.flush.ensures.kept)

pub returns-clause-prints : goal.returns-clause-prints
returns-clause-prints g c =
    let made : c.new-tally.result ≡ new_end c.args.options.logs c.args.options.degree = rw (c.logs.ensures.value, c.degree.ensures.value) at c.new-tally.ensures in
    printed _ _ _ _ _ _ _
    (c.in_ok-replies.replies.items, has_read _ _ _ _ c.in_ok-input.ensures.all c.in_ok-replies.ensures.ok, appends_kept _ _ _ _ (rw made at c.in_ok-put_lines.ensures.ok) c.flush.ensures.kept)
