use Rattle.std.proofs.Common.{rules, ◌≡◌, false, refl, sym, ap, ◌∙◌, subst}
use Rattle.fr_undo.specs.State.{StoreState, fresh}
use Rattle.fr_undo.specs.Undo.{with_bytes}
use Rattle.fr_state.specs.Spelling.{spelling}
use Rattle.fr_storage.specs.Server.{Server}
use Rattle.fr_storage.specs.Course.{Stands, IsChosenBy}
use Rattle.fr_storage.proofs.Standing.{works_stands}
use Rattle.fr_storage.proofs.storage.Storage.start.Goals as goal

pub returns-clause-stands : goal.returns-clause-stands
returns-clause-stands g c empty pieces is_chosen are one chosen =
    let store = g.S.ShardStore in
    let s : Server g.row.S.Denot = record { tag = c.args.tag; state = c.args.state; applied = c.applied.result; floor = c.floor.result; store = c.set_state.new.self; failed = false } in
    let bytes : c.from_vec-bytes.result ≡ spelling c.args.state = search rules in
    let is : store.state c.set_state.new.self ≡ with_bytes fresh (spelling c.args.state) =
    c.in_ok-set_state.ensures.writes.ok ∙ ap (λ (t : StoreState). with_bytes t c.from_vec-bytes.result) empty ∙ ap (with_bytes fresh) bytes in
    works_stands store.state store.is_failed store.MayLeave pieces (IsChosenBy is_chosen) s refl
    (subst (λ (t : StoreState). Stands pieces (IsChosenBy is_chosen) (record { tag = c.args.tag; state = c.args.state; store = t })) (sym is) (c.storage_law.ensures.first pieces is_chosen c.args.tag c.args.state are one chosen))
