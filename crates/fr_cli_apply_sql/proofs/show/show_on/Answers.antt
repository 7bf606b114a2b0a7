use Rattle.std.proofs.Common.{rules, ◌≡◌}
use Rattle.std.proofs.lemmas.Result.{on_ok_weaker}
use Rattle.fr_cli_apply.specs.Lines.{ok_line}
use Rattle.fr_cli_json.proofs.TextLemmas.{gains_none, gains_here, gains_all, gains_kept, appends_then, appends_kept}
use Rattle.fr_cli_apply_sql.proofs.show.show_on.Goals as goal

pub returns-in_err-line-clause-front : goal.returns-in_err-line-clause-front
returns-in_err-line-clause-front g c = gains_none _ _

pub returns-in_err-put-clause-front : goal.returns-in_err-put-clause-front
returns-in_err-put-clause-front g c =
    let is : c.as_str.result.now ≡ ok_line (g.S.ShardStore.state c.args.store.now) = search rules in
    gains_here _ _ (ok_line (g.S.ShardStore.state c.args.store.now)) _ (rw is at c.put.ensures.front)

pub returns-clause-ok : goal.returns-clause-ok
returns-clause-ok g c =
    let is : c.as_str.result.now ≡ ok_line (g.S.ShardStore.state c.args.store.now) = search rules in
    on_ok_weaker c.flush.result (λ done. appends_kept _ _ _ _ (appends_then _ _ _ (ok_line (g.S.ShardStore.state c.args.store.now)) _ (rw is at c.in_ok-put.ensures.ok) c.in_ok-put_contents.ensures.ok) c.flush.ensures.kept) c.flush.ensures.done

pub returns-clause-front : goal.returns-clause-front
returns-clause-front g c =
    let is : c.as_str.result.now ≡ ok_line (g.S.ShardStore.state c.args.store.now) = search rules in
    gains_kept _ _ _ _ (gains_all _ _ _ (appends_then _ _ _ (ok_line (g.S.ShardStore.state c.args.store.now)) _ (rw is at c.in_ok-put.ensures.ok) c.in_ok-put_contents.ensures.ok)) c.flush.ensures.kept
