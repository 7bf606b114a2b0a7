use Rattle.std.proofs.Common.{ap, refl, ◌∙◌, ◌≡◌, ◌++◌, ◌∷◌, []}
use Rattle.fr_runtime_threads.specs.Account.{is_proxy, outcomes, said}
use Rattle.fr_runtime_threads.proofs.Accounts.{given-moved, places-append, told-moved, told-open}
use Rattle.fr_runtime_threads.proofs.client.Client.move_on.Goals as goal

pub invariant_of-self-2-clause-gives : goal.invariant_of-self-2-clause-gives
invariant_of-self-2-clause-gives g c =
    let old = c.args.self.now in
    let items : c.push_reserved.new.self.items ≡ old.earlier.items ++ c.close.result ∷ [] = c.push_reserved.ensures.items ∙ ap (λ l. l ++ c.close.result ∷ []) c.reserve.ensures.items in
    let closed : c.close.result.entries ≡ old.door.notes.journal.entries = c.close.ensures.entries ∙ ap (λ d. d.notes.journal.entries) c.replace-before.ensures.value in
    let fresh : c.replace-before.new.dest.notes.journal.entries ≡ [] = ap (λ d. d.notes.journal.entries) c.replace-before.ensures.after ∙ c.in_ok-next.ensures.entries in
    old.gives ∙ ap (λ l. g.W.Workload.given old.first.value ++ l) (given-moved old.earlier.items c.close.result _ _ _ _ items closed fresh)

pub invariant_of-self-2-clause-tells : goal.invariant_of-self-2-clause-tells
invariant_of-self-2-clause-tells g c =
    let old = c.args.self.now in
    let items : c.push_reserved.new.self.items ≡ old.earlier.items ++ c.close.result ∷ [] = c.push_reserved.ensures.items ∙ ap (λ l. l ++ c.close.result ∷ []) c.reserve.ensures.items in
    let closed : c.close.result.entries ≡ old.door.notes.journal.entries = c.close.ensures.entries ∙ ap (λ d. d.notes.journal.entries) c.replace-before.ensures.value in
    let fresh : c.replace-before.new.dest.told.items ≡ [] = ap (λ d. d.told.items) c.replace-before.ensures.after ∙ c.in_ok-next.ensures.told in
    let shut = c.requires.shut in
    let told : outcomes old.door.notes.journal.entries ≡ old.door.told.items ++ [] = told-open old.door.notes.journal.entries old.door.told.items old.door.under_way old.door.tells old.door.opens (ap said shut) ∙ rw shut refl in
    old.tells ∙ told-moved old.earlier.items c.close.result _ _ _ items (ap outcomes closed ∙ told) fresh

pub invariant_of-self-2-clause-places : goal.invariant_of-self-2-clause-places
invariant_of-self-2-clause-places g c =
    let old = c.args.self.now in
    let items : c.push_reserved.new.self.items ≡ old.earlier.items ++ c.close.result ∷ [] = c.push_reserved.ensures.items ∙ ap (λ l. l ++ c.close.result ∷ []) c.reserve.ensures.items in
    let node : c.close.result.node ≡ old.door.notes.journal.node = c.close.ensures.place ∙ ap (λ d. d.notes.journal.node) c.replace-before.ensures.value in
    places-append old.number old.earlier.items c.close.result _ items old.places (ap (is_proxy old.number) node ∙ old.place)
