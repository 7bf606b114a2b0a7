use Rattle.std.proofs.Common.{◌-◌, ap, sym, ◌∙◌}
use Rattle.std.specs.Prelude.{unwrap_or}
use Rattle.fr_base.specs.Bytes.{bytes_total}
use Rattle.fr_base.proofs.MapLemmas.{get-map_of}
use Rattle.fr_undo.specs.Rows.{map_of_rows}
use Rattle.fr_undo.specs.State.{StoreState}
use Rattle.fr_undo.specs.Undo.{least_row, value_undone}
use Rattle.fr_undo.proofs.MapStoreLemmas.{upto_from_sound}
use Rattle.fr_undo.proofs.map_store.MapStoreShardStore.get_at.Goals as goal

pub value_then-requires-clause-upto : goal.value_then-requires-clause-upto
value_then-requires-clause-upto c = let a = c.self.inside in upto_from_sound a.contents a.rows.items a.applied a.floor a.bytes c.self.invariant.sound

pub returns-clause-value : goal.returns-clause-value
returns-clause-value c =
    let a = c.self.inside in
    let key = c.args.key.now in
    c.in_ok-value_then.ensures.value
    ∙ ap (unwrap_or (least_row (map_of_rows a.rows.items) key c.args.version (a.applied - c.args.version))) (sym (get-map_of bytes_total a.contents key))
    ∙ ap (λ (s : StoreState). value_undone s c.args.version key) c.self.view_is
