use Rattle.std.proofs.Common.{ap, sym, ◌∙◌, subst, arith}
use Rattle.std.proofs.lemmas.Map.Keys.{le_from_not_gt}
use Rattle.std.specs.Prelude.{nat_lt}
use Rattle.fr_undo.specs.Rows.{IsInOrder}
use Rattle.fr_undo.proofs.ListRows.{order-filter}
use Rattle.fr_undo.specs.State.{StoreState, IsStoreState}
use Rattle.fr_undo.specs.Undo.{forgotten}
use Rattle.fr_undo.specs.MapStore.{state_of}
use Rattle.fr_undo.proofs.StateLemmas.{forgotten_sound, forgotten_nothing}
use Rattle.fr_undo.proofs.MapStoreLemmas.{forgotten_fields, writes_all}
use Rattle.fr_undo.proofs.RowLemmas.{above_from_gt}
use Rattle.fr_undo.proofs.map_store.MapStoreShardStore.forget_through.Goals as goal

pub invariant_of-self : goal.invariant_of-self
invariant_of-self c =
    let a = c.self.inside in
    let f = c.args.version in
    let above = above_from_gt f a.floor (cc (c.gt-2.ensures, c.if-gt-2.true)) in
    record {
      sound =
          subst IsStoreState (sym (forgotten_fields a.contents a.rows.items c.drop_through.new.rows.items a.applied a.floor f a.bytes above c.drop_through.ensures.rows))
          (forgotten_sound (state_of a) f c.self.invariant.sound (le_from_not_gt f a.applied (cc (c.gt.ensures, c.if-gt.false))));
      order = subst IsInOrder (sym c.drop_through.ensures.rows) (order-filter (λ p. nat_lt f p.0) a.rows.items c.self.invariant.order);
      index = c.drop_through.ensures.index;
      through = let same = c.drop_through.ensures.through in let upto = c.self.invariant.through in omega arith;
    }

pub returns-then-gt-2-clause-writes : goal.returns-then-gt-2-clause-writes
returns-then-gt-2-clause-writes c =
    let a = c.self.inside in
    let f = c.args.version in
    let above = above_from_gt f a.floor (cc (c.gt-2.ensures, c.if-gt-2.true)) in
    let made = forgotten_fields a.contents a.rows.items c.drop_through.new.rows.items a.applied a.floor f a.bytes above c.drop_through.ensures.rows in
    writes_all _ _ _
    (made ∙ ap (λ (s : StoreState). forgotten s f) c.self.view_is)
    (subst IsStoreState (sym made) (forgotten_sound (state_of a) f c.self.invariant.sound (le_from_not_gt f a.applied (cc (c.gt.ensures, c.if-gt.false)))))

pub returns-else-gt-2-clause-writes : goal.returns-else-gt-2-clause-writes
returns-else-gt-2-clause-writes c =
    let a = c.self.inside in
    let f = c.args.version in
    writes_all _ _ _
    (sym c.self.view_is
    ∙ sym (forgotten_nothing (state_of a) f c.self.invariant.sound (le_from_not_gt f a.floor (cc (c.gt-2.ensures, c.if-gt-2.false))))
    ∙ ap (λ (s : StoreState). forgotten s f) c.self.view_is)
    (subst IsStoreState c.self.view_is c.self.invariant.sound)

pub drop_through-requires-clause-order : goal.drop_through-requires-clause-order
drop_through-requires-clause-order c = c.self.invariant.order

pub drop_through-requires-clause-index : goal.drop_through-requires-clause-index
drop_through-requires-clause-index c = c.self.invariant.index
