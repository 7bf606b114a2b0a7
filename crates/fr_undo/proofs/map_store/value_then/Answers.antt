use Rattle.std.proofs.Common.{◌∙◌, subst}
use Rattle.std.specs.BTreeMap as tree
use Rattle.fr_base.specs.Bytes.{bytes_cmp}
use Rattle.fr_undo.specs.Rows.{map_of_rows}
use Rattle.fr_undo.specs.Index.{is_listed, IsLeastAbove}
use Rattle.fr_undo.proofs.PlanLemmas.{if_ok}
use Rattle.fr_undo.proofs.IndexLemmas.{unchanged_yet, unchanged_since, changed_since}
use Rattle.fr_undo.proofs.ThenLemmas.{at_least_from_ge, below_from_not_ge}
use Rattle.fr_undo.proofs.map_store.value_then.Goals as goal

pub returns-then-ge-clause-value : goal.returns-then-ge-clause-value
returns-then-ge-clause-value c =
    let key = c.args.key.now in
    let reached = at_least_from_ge c.args.version c.args.applied (cc (c.ge.ensures, c.if-ge.true)) in
    if_ok c.value_copy.result _ _ (λ x e. e ∙ unchanged_yet (map_of_rows c.args.rows.now.items) key c.args.applied c.args.version reached (tree.get bytes_cmp c.args.contents.now key)) c.value_copy.ensures

pub returns-in-Some-clause-value : goal.returns-in-Some-clause-value
returns-in-Some-clause-value c =
    let key = c.args.key.now in
    let index = c.catch_up.new.self in
    let caught = c.in_ok-catch_up.ensures in
    let below = below_from_not_ge c.args.version c.args.applied (cc (c.ge.ensures, c.if-ge.false)) in
    let least = subst (IsLeastAbove (is_listed index.places key) c.args.version) c.in-Some.is c.in_ok-changed.ensures in
    if_ok c.held_before.result _ _ (λ x e. changed_since index c.args.rows.now.items c.args.applied c.args.version key caught.index caught.ok c.requires.upto below c.in-Some.changed least x (tree.get bytes_cmp c.args.contents.now key) e) c.held_before.ensures

pub returns-in-None-clause-value : goal.returns-in-None-clause-value
returns-in-None-clause-value c =
    let key = c.args.key.now in
    let index = c.catch_up.new.self in
    let caught = c.in_ok-catch_up.ensures in
    let below = below_from_not_ge c.args.version c.args.applied (cc (c.ge.ensures, c.if-ge.false)) in
    let none = subst (IsLeastAbove (is_listed index.places key) c.args.version) c.in-None.is c.in_ok-changed.ensures in
    if_ok c.value_copy-in-None.result _ _ (λ x e. e ∙ unchanged_since index c.args.rows.now.items c.args.applied c.args.version key caught.index caught.ok c.requires.upto below (tree.get bytes_cmp c.args.contents.now key) none) c.value_copy-in-None.ensures
