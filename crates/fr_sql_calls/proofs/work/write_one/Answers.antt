use Rattle.std.proofs.Common.{◌≡◌, true, false, not, ap, refl}
use Rattle.sqlite.specs.Held.{state}
use Rattle.fr_undo.specs.Undo.{same_value}
use Rattle.fr_sql_rows.specs.Rows.{value_in}
use Rattle.fr_sql_calls.proofs.WorkLemmas.{writes_it, same_written}
use Rattle.fr_sql_calls.proofs.work.write_one.Goals as goal

pub put_one-requires-clause-known : goal.put_one-requires-clause-known
put_one-requires-clause-known g c =
    let e : same_value c.args.change.now.before c.args.change.now.after ≡ false = cc (c.is_same_value.ensures, c.if-is_same_value.false) in
    c.requires.known (ap not e)

pub returns-clause-ok : goal.returns-clause-ok
returns-clause-ok g c =
    let e : same_value c.args.change.now.before c.args.change.now.after ≡ false = cc (c.is_same_value.ensures, c.if-is_same_value.false) in
    writes_it _ _ c.args.key.now c.args.change.now (ap not e) c.in_ok-put_one.ensures.ok

pub returns-then-is_same_value-clause-ok : goal.returns-then-is_same_value-clause-ok
returns-then-is_same_value-clause-ok g c =
    let t : same_value c.args.change.now.before c.args.change.now.after ≡ true = cc (c.is_same_value.ensures, c.if-is_same_value.true) in
    let e : not (same_value c.args.change.now.before c.args.change.now.after) ≡ false = ap not t in
    let now = (state g.S.Store c.args.tx.now.conn.now).now in
    record {
      laid = c.requires.laid;
      values = λ q. same_written q c.args.key.now c.args.change.now (value_in (now.trees 0) q) e;
      undo = refl;
      meta = refl;
    }
