use Rattle.std.proofs.Common.{[], map}
use Rattle.std.specs.List.Sorted.{IsPermutation}
use Rattle.sqlite.specs.Held.{state}
use Rattle.sqlite.specs.State.{Shown}
use Rattle.fr_sql_rows.specs.Found.{versions_of}
use Rattle.fr_sql_rows.specs.Schema.{schema}
use Rattle.fr_sql_rows.proofs.FaultLemmas.{survives_query}
use Rattle.fr_sql_rows.proofs.OpenTexts.{versions_text, versions_plain}
use Rattle.fr_sql_rows.proofs.ShownLemmas.{shown_ok, kept_ok, shows_versions}
use Rattle.fr_sql_rows.proofs.found.show_meta.Goals as goal

pub returns-clause-shown : goal.returns-clause-shown
returns-clause-shown g c =
    let old = state g.S.Store c.args.conn.now in
    let new = state g.S.Store c.query_all.new.self in
    shown_ok (λ v. v.items) (Shown versions_text [] old new) (IsPermutation (map versions_of (old.now.trees 4))) c.query_all.result (λ rows h. shows_versions old new rows c.requires.obeys h)
    (c.query_all.ensures.ok (g.met.S.Backing.clean c.query_all.new.self.store))

pub returns-clause-same : goal.returns-clause-same
returns-clause-same g c =
    kept_ok (λ v. v.items) versions_text (state g.S.Store c.args.conn.now) (state g.S.Store c.query_all.new.self) c.query_all.result c.requires.rest c.requires.obeys versions_plain
    (c.query_all.ensures.ok (g.met.S.Backing.clean c.query_all.new.self.store))

pub returns-clause-survives : goal.returns-clause-survives
returns-clause-survives g c = survives_query _ _ versions_text _ schema c.requires.obeys.schema versions_plain c.query_all.ensures.survives
