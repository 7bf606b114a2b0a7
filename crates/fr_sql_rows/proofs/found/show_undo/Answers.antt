use Rattle.std.proofs.Common.{[], map}
use Rattle.std.specs.List.Sorted.{IsPermutation}
use Rattle.sqlite.specs.Held.{state}
use Rattle.sqlite.specs.State.{Shown}
use Rattle.fr_sql_rows.specs.Found.{version_of}
use Rattle.fr_sql_rows.specs.Schema.{schema}
use Rattle.fr_sql_rows.proofs.FaultLemmas.{survives_query}
use Rattle.fr_sql_rows.proofs.OpenTexts.{undo_text, undo_plain}
use Rattle.fr_sql_rows.proofs.ShownLemmas.{shown_ok, kept_ok, shows_undo}
use Rattle.fr_sql_rows.proofs.found.show_undo.Goals as goal

pub returns-clause-shown : goal.returns-clause-shown
returns-clause-shown g c =
    let old = state g.S.Store c.args.conn.now in
    let new = state g.S.Store c.query_all.new.self in
    shown_ok (λ v. v.items) (Shown undo_text [] old new) (IsPermutation (map version_of (old.now.trees 2))) c.query_all.result (λ rows h. shows_undo old new rows c.requires.obeys h)
    (c.query_all.ensures.ok (g.met.S.Backing.clean c.query_all.new.self.store))

pub returns-clause-same : goal.returns-clause-same
returns-clause-same g c =
    kept_ok (λ v. v.items) undo_text (state g.S.Store c.args.conn.now) (state g.S.Store c.query_all.new.self) c.query_all.result c.requires.rest c.requires.obeys undo_plain
    (c.query_all.ensures.ok (g.met.S.Backing.clean c.query_all.new.self.store))

pub returns-clause-survives : goal.returns-clause-survives
returns-clause-survives g c = survives_query _ _ undo_text _ schema c.requires.obeys.schema undo_plain c.query_all.ensures.survives
