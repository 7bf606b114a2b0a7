use Rattle.std.proofs.Common.{ap, refl, sym, ◌∙◌, ◌≡◌, ◌++◌, ◌∷◌, []}
use Rattle.fr_runtime_threads.specs.Account.{is_proxy, outcomes, waiting_if}
use Rattle.fr_runtime_threads.proofs.Accounts.{given-ended, places-append, told-ended, told-open}
use Rattle.fr_runtime_threads.proofs.client.Client.end.Goals as goal

pub returns-clause-given : goal.returns-clause-given
returns-clause-given g c =
    let s = c.settle.new.self in
    let items : c.push_reserved.new.self.items ≡ s.earlier.items ++ c.close.result ∷ [] = c.push_reserved.ensures.items ∙ ap (λ l. l ++ c.close.result ∷ []) c.reserve.ensures.items in
    let first = ap (λ (x : _). g.W.Workload.given x.value) c.settle.ensures.first in
    c.in_ok-work-2.ensures.given ∙ (c.in_ok-work.ensures.given ∙ (s.gives ∙ rw first (ap (λ l. g.W.Workload.given c.args.self.first.value ++ l) (given-ended s.earlier.items c.close.result _ _ _ items c.close.ensures.entries))))

pub returns-clause-told : goal.returns-clause-told
returns-clause-told g c =
    let s = c.settle.new.self in
    let items : c.push_reserved.new.self.items ≡ s.earlier.items ++ c.close.result ∷ [] = c.push_reserved.ensures.items ∙ ap (λ l. l ++ c.close.result ∷ []) c.reserve.ensures.items in
    let told : outcomes c.close.result.entries ≡ s.door.told.items ++ waiting_if c.is_open-is_open.result =
    ap outcomes c.close.ensures.entries ∙ (told-open s.door.notes.journal.entries s.door.told.items s.door.under_way s.door.tells s.door.opens c.in_ok-settle.ensures.settled ∙ rw c.is_open-is_open.ensures refl) in
    told-ended s.earlier.items c.close.result _ s.told.items s.door.told.items _ _ _ _ c.is_open-is_open.result items told s.tells c.in_ok-work.ensures.told c.in_ok-work-2.ensures.told c.is_left-is_kept.ensures

pub returns-clause-places : goal.returns-clause-places
returns-clause-places g c =
    let s = c.settle.new.self in
    let items : c.push_reserved.new.self.items ≡ s.earlier.items ++ c.close.result ∷ [] = c.push_reserved.ensures.items ∙ ap (λ l. l ++ c.close.result ∷ []) c.reserve.ensures.items in
    rw (sym c.settle.ensures.number) (places-append s.number s.earlier.items c.close.result _ items s.places (ap (is_proxy s.number) c.close.ensures.place ∙ s.place))
