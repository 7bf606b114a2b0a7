use Rattle.sqlite.specs.Held.{state}
use Rattle.fr_sql_calls.proofs.CallLemmas.{makes}
use Rattle.fr_sql_calls.proofs.calls.write.Goals as goal

pub returns : goal.returns
returns g c = record {
  makes = λ after leads.
      let m = c.make.ensures in
      makes c.args.work.now (state g.S.Store c.args.conn.now) (state g.S.Store c.make.new.conn) after c.args.marks.now.rows c.make.result leads c.requires.stands.count m.done m.rows m.keeps m.opened m.survives m.trouble;
}
