use Rattle.std.proofs.Common.{◌≡◌, false, sym, ◌∙◌}
use Rattle.fr_sql_rows.proofs.OpenLemmas.{whole_open, fresh_after}
use Rattle.fr_sql_rows.proofs.open.unbroken.Goals as goal

pub returns-clause-fresh : goal.returns-clause-fresh
returns-clause-fresh g c =
    let store = c.into_store-store.result in
    let clean = g.met.S.Backing.clean store in
    let whole : (g.S.Store.view store).is_broken ≡ false = sym (c.is_broken.ensures clean) ∙ c.if-is_broken.false in
    fresh_after _ (g.S.Store.view store) c.into_store-store.ensures.undone clean (c.into_store-store.ensures.numbered clean) whole (whole_open (g.S.Store.view store) (g.met.S.Store.broken_if_shut store) whole)

pub returns-clause-trees : goal.returns-clause-trees
returns-clause-trees g c =
    let store = c.into_store-store.result in
    let whole : (g.S.Store.view store).is_broken ≡ false = sym (c.is_broken.ensures (g.met.S.Backing.clean store)) ∙ c.if-is_broken.false in
    (c.into_store-store.ensures.undone.undone (whole_open (g.S.Store.view store) (g.met.S.Store.broken_if_shut store) whole)).0
