use Rattle.std.proofs.Common.{◌≡◌, ◌≤◌, IfOk, sym, subst}
use Rattle.std.specs.FinMap.{get}
use Rattle.sqlite.specs.Effect.{Database}
use Rattle.sqlite.specs.Held.{state}
use Rattle.fr_undo.specs.Undo.{IsFirstAbove}
use Rattle.fr_sql_rows.specs.Rows.{before_in, contents_in}
use Rattle.fr_sql_calls.proofs.CallLemmas.{kept, rest_then, laid_then, looks_then, looks_given}
use Rattle.fr_sql_calls.proofs.ThenLemmas.{was_before, now_read}
use Rattle.fr_sql_calls.proofs.calls.try_value_then.Goals as goal

pub value-requires-clause-rest : goal.value-requires-clause-rest
value-requires-clause-rest g c = rest_then (state g.S.Store c.args.conn.now) (state g.S.Store c.first_above.new.conn) c.in_ok-before.field-0 c.in_ok-before.ensures.looks

pub value-requires-clause-laid : goal.value-requires-clause-laid
value-requires-clause-laid g c =
    laid_then (state g.S.Store c.args.conn.now) (state g.S.Store c.first_above.new.conn) c.in_ok-before.field-0 c.in_ok-before.ensures.looks c.requires.stands.laid

pub returns-in-Some-clause-value : goal.returns-in-Some-clause-value
returns-in-Some-clause-value g c =
    let a = state g.S.Store c.args.conn.now in
    let s = c.requires.stands in
    let within = subst (λ n. c.args.version ≤ n) (sym s.applied_is) c.requires.within in
    let first = subst (IsFirstAbove (λ w. before_in (a.now.trees 2) (w, c.args.key.now)) c.args.version) c.in-Some.is c.in_ok-before.ensures.first in
    was_before a.now c.args.version c.args.key.now s.sound within c.in-Some.before first

pub returns-in-Some-clause-looks : goal.returns-in-Some-clause-looks
returns-in-Some-clause-looks g c =
    looks_given (state g.S.Store c.args.conn.now) (state g.S.Store c.first_above.new.conn) c.in_ok-before.field-0 c.in_ok-before.ensures.looks c.in-Some.before

pub returns-in-None-clause-value : goal.returns-in-None-clause-value
returns-in-None-clause-value g c =
    let a = state g.S.Store c.args.conn.now in
    let b = state g.S.Store c.first_above.new.conn in
    let s = c.requires.stands in
    let within = subst (λ n. c.args.version ≤ n) (sym s.applied_is) c.requires.within in
    let first = subst (IsFirstAbove (λ w. before_in (a.now.trees 2) (w, c.args.key.now)) c.args.version) c.in-None.is c.in_ok-before.ensures.first in
    let same = (kept a b c.in_ok-before.field-0 c.in_ok-before.ensures.looks).now in
    let held = subst (λ (d : Database). IfOk c.value.result (λ value. value ≡ get (contents_in (d.trees 0)) c.args.key.now)) same c.value.ensures.value in
    now_read a.now c.args.version c.args.key.now s.sound within c.value.result first held

pub returns-in-None-clause-looks : goal.returns-in-None-clause-looks
returns-in-None-clause-looks g c =
    looks_then (state g.S.Store c.args.conn.now) (state g.S.Store c.first_above.new.conn) c.in_ok-before.field-0 c.in_ok-before.ensures.looks (state g.S.Store c.value.new.conn) c.value.result c.value.ensures.looks
