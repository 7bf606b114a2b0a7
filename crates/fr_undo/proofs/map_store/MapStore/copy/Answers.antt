use Rattle.std.proofs.Common.{sym, subst, ◌∙◌, IsSome, arith}
use Rattle.fr_undo.specs.Rows.{IsInOrder, RowList, row_in}
use Rattle.fr_undo.specs.State.{IsStoreState}
use Rattle.fr_undo.proofs.IndexLemmas.{new_index}
use Rattle.fr_undo.proofs.MapStoreLemmas.{same_fields, above_from_sound}
use Rattle.fr_undo.proofs.map_store.MapStore.copy.Goals as goal

pub invariant_of-result : goal.invariant_of-result
invariant_of-result c =
    let a = c.self.inside in
    record {
      sound = subst IsStoreState (sym (same_fields a.contents c.in_ok-contents_copy.field-0 a.rows.items c.in_ok-rows_copy.field-0.items a.applied a.floor a.bytes c.in_ok-copy.field-0 c.in_ok-contents_copy.ensures c.in_ok-rows_copy.ensures c.in_ok-copy.ensures)) c.self.invariant.sound;
      order = subst IsInOrder (sym c.in_ok-rows_copy.ensures) c.self.invariant.order;
      index = new_index c.new.result c.in_ok-rows_copy.field-0.items c.new.ensures.through c.new.ensures.none
          (λ w q some. above_from_sound a.contents a.rows.items a.applied a.floor a.bytes c.self.invariant.sound w q (subst (λ (l : RowList). IsSome (row_in l (w, q))) c.in_ok-rows_copy.ensures some));
      through = let zero = c.new.ensures.through in omega arith;
    }

pub returns : goal.returns
returns c =
    let a = c.self.inside in
    same_fields a.contents c.in_ok-contents_copy.field-0 a.rows.items c.in_ok-rows_copy.field-0.items a.applied a.floor a.bytes c.in_ok-copy.field-0 c.in_ok-contents_copy.ensures c.in_ok-rows_copy.ensures c.in_ok-copy.ensures ∙ c.self.view_is
