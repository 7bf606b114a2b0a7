use Rattle.fr_sql_files.proofs.LinkLemmas.{answered_open, leaves_open}
use Rattle.fr_sql_files.proofs.table_store.asked.Goals as goal

pub returns-then-matches-clause-leaves : goal.returns-then-matches-clause-leaves
returns-then-matches-clause-leaves g c = λ none. leaves_open g.S.Store g.S.FileTables.KeptLeaves c.in-Open.store c.reopen-answer.new.self c.args.link.now c.in-Open.is c.reopen-answer.ensures.leaves

pub returns-else-was_failed-clause-answered : goal.returns-else-was_failed-clause-answered
returns-else-was_failed-clause-answered g c =
    let h = c.reopen-answer.ensures in
    answered_open g.S.Store g.S.FileTables.KeptLeaves c.in-Open.store c.reopen-answer.new.self c.reopen-answer.result c.args.link.now c.in-Open.is (record {
      ok = h.ok;
      works = h.works;
      trouble = h.trouble;
      err = h.err;
      fails = h.fails;
      leaves = h.leaves;
      sound = h.sound;
      left_as_is = h.left_as_is;
    })
