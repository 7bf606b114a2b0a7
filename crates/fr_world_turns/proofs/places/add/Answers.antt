use Rattle.std.proofs.Common.{◌≡◌, Some, sym, ap, subst}
use Rattle.std.specs.Prelude.{is_some}
use Rattle.std.specs.BTreeMap as tree
use Rattle.fr_world_turns.specs.Places.{Grows, found_at, key_cmp}
use Rattle.fr_world_turns.proofs.Founds.{on_ok}
use Rattle.fr_world_turns.proofs.Grown.{grown, there, under_is}
use Rattle.fr_world_turns.proofs.places.add.Goals as goal

pub returns-in-Some-clause-grows : goal.returns-in-Some-clause-grows
returns-in-Some-clause-grows c =
    let m = c.args.places.now in
    let k = c.args.key.now in
    let found = c.in-Some.found.now in
    let later = c.add.new.self in
    let is : tree.get key_cmp m k ≡ Some found = sym c.in-Some.ensures.value in
    grown m (c.get_mut.follows.lender later) k later ((c.get_mut.follows.holds later).3 (ap is_some is)).0 (under_is m k found (found_at later) is c.add.ensures.keeps)

pub returns-in-Some-clause-there : goal.returns-in-Some-clause-there
returns-in-Some-clause-there c =
    let m = c.args.places.now in
    let k = c.args.key.now in
    let later = c.add.new.self in
    let is : tree.get key_cmp m k ≡ Some c.in-Some.found.now = sym c.in-Some.ensures.value in
    on_ok c.add.result (there m (c.get_mut.follows.lender later) k later c.args.place ((c.get_mut.follows.holds later).3 (ap is_some is)).0) c.add.ensures.there

pub returns-in-None-clause-grows : goal.returns-in-None-clause-grows
returns-in-None-clause-grows c = subst (λ m. Grows m c.add_first.new.places) c.get_mut.follows.holds-at-none c.add_first.ensures.grows
