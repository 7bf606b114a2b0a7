use Rattle.std.proofs.Common.{◌∙◌, ◌≡◌, [], arith}
use Rattle.std.proofs.lemmas.Grind.{common_steps}
use Rattle.fr_cli_json.proofs.TextLemmas.{owes_rest, owes_none, gains_more}
use Rattle.fr_cli_end.proofs.LineLemmas.{next_owed}
use Rattle.fr_cli_end.proofs.lines.put_lines.Goals as goal

pub returns-in_err-put_line-clause-front : goal.returns-in_err-put_line-clause-front
returns-in_err-put_line-clause-front g c =
    let owed = rw (c.in-Some.ensures.steps.0) at c.loop-reply.invariant.owed in
    gains_more _ _ _ _ _ _ owed c.put_line.ensures.front

pub loop-reply-preserved : goal.loop-reply-preserved
loop-reply-preserved g c =
    let owed = rw (c.in-Some.ensures.steps.0) at c.loop-reply.invariant.owed in
    let next = next_owed c.loop-reply.tally c.put_line.new.tally c.in-Some.reply c.next.new.self.rest.items _ _ _ c.put_line.ensures.heard owed in
    record {
      owed = owes_rest _ _ _ _ _ _ next c.in_ok-put_line.ensures.ok;
      calls = c.in_ok-put_line.ensures.done ∙ c.loop-reply.invariant.calls;
    }

pub returns-clause-ok : goal.returns-clause-ok
returns-clause-ok g c =
    let ended : c.loop-reply.reply-iterator.rest.items ≡ [] = grind (arith, common_steps) in
    owes_none _ _ _ (rw ended at c.loop-reply.invariant.owed)
