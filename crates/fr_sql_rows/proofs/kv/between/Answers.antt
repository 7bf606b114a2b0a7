use Rattle.std.proofs.Common.{map, ap, [], ◌∷◌, inl, ◌∙◌}
use Rattle.sqlite.specs.declared.types.Value.TheVariants.{Blob}
use Rattle.sqlite.specs.Held.{state}
use Rattle.sqlite.specs.State.{Shown}
use Rattle.fr_sql_rows.specs.Schema.{schema}
use Rattle.fr_sql_rows.specs.Rows.{pair_of}
use Rattle.fr_sql_rows.proofs.TextLemmas.{between_text, between_plain}
use Rattle.fr_sql_rows.proofs.KvReads.{ok_then, at_ok, shows_between}
use Rattle.fr_sql_rows.proofs.FaultLemmas.{keeps, queried, shown, survives_query}
use Rattle.fr_sql_rows.proofs.kv.between.Goals as goal

pub returns-in_err-rows-clause-keeps : goal.returns-in_err-rows-clause-keeps
returns-in_err-rows-clause-keeps g c =
    keeps _ _ c.requires.rest (queried (state g.S.Store c.args.conn.now) (state g.S.Store c.ask.new.conn) _ _ _ (c.in_err-rows.ensures.err (g.met.S.Backing.clean c.ask.new.conn.store)))

pub returns-in_err-rows-clause-survives : goal.returns-in_err-rows-clause-survives
returns-in_err-rows-clause-survives g c = survives_query _ _ between_text _ schema c.requires.laid.schema between_plain c.ask.ensures.survives

pub returns-clause-rows : goal.returns-clause-rows
returns-clause-rows g c =
    let old = state g.S.Store c.args.conn.now in
    let new = state g.S.Store c.ask.new.conn in
    let made : Shown between_text (Blob c.args.begin.now ∷ Blob c.args.end.now ∷ []) old new c.in_ok-rows.rows.items = rw (c.as_slice.ensures, c.as_slice-2.ensures) at (rw (c.params-to_sql.ensures, c.params-to_sql-2.ensures) at (c.in_ok-rows.ensures.ok (g.met.S.Backing.clean c.ask.new.conn.store))) in
    ok_then c.pairs.result (λ pairs is. is ∙ ap (map pair_of) c.as_slice-3.ensures.value ∙ shows_between old new c.args.begin.now c.args.end.now c.in_ok-rows.rows.items c.requires.laid made) c.pairs.ensures

pub returns-clause-open : goal.returns-clause-open
returns-clause-open g c =
    at_ok c.pairs.result (shown (state g.S.Store c.args.conn.now) (state g.S.Store c.ask.new.conn) between_text _ schema _ c.requires.laid.schema between_plain (c.in_ok-rows.ensures.ok (g.met.S.Backing.clean c.ask.new.conn.store))).0.is_open

pub returns-clause-keeps : goal.returns-clause-keeps
returns-clause-keeps g c =
    keeps _ _ c.requires.rest (inl (shown (state g.S.Store c.args.conn.now) (state g.S.Store c.ask.new.conn) between_text _ schema _ c.requires.laid.schema between_plain (c.in_ok-rows.ensures.ok (g.met.S.Backing.clean c.ask.new.conn.store))))

pub returns-clause-survives : goal.returns-clause-survives
returns-clause-survives g c = survives_query _ _ between_text _ schema c.requires.laid.schema between_plain c.ask.ensures.survives
