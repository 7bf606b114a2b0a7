use Rattle.std.proofs.Common.{ap, refl, sym, ◌∙◌, ◌≡◌, ◌++◌, ◌∷◌, [], true}
use Rattle.std.proofs.lemmas.List.{append-nil, append_assoc}
use Rattle.fr_proxy.specs.declared.outcome.Outcome.TheVariants.{Waiting}
use Rattle.fr_runtime_threads.specs.Account.{is_proxy, outcomes, said}
use Rattle.fr_runtime_threads.proofs.Accounts.{given-moved, places-append, told-ended, told-open}
use Rattle.fr_runtime_threads.proofs.client.Client.leave.Goals as goal

pub invariant_of-self-2-clause-gives : goal.invariant_of-self-2-clause-gives
invariant_of-self-2-clause-gives g c =
    let old = c.args.self.now in
    let items : c.push_reserved-2.new.self.items ≡ old.earlier.items ++ c.close.result ∷ [] = c.push_reserved-2.ensures.items ∙ ap (λ l. l ++ c.close.result ∷ []) c.reserve.ensures.items in
    let closed : c.close.result.entries ≡ old.door.notes.journal.entries = c.close.ensures.entries ∙ ap (λ d. d.notes.journal.entries) c.replace-before.ensures.value in
    let fresh : c.replace-before.new.dest.notes.journal.entries ≡ [] = ap (λ d. d.notes.journal.entries) c.replace-before.ensures.after ∙ c.in_ok-next.ensures.entries in
    c.told.ensures.given ∙ (old.gives ∙ ap (λ l. g.W.Workload.given old.first.value ++ l) (given-moved old.earlier.items c.close.result _ _ _ _ items closed fresh))

pub invariant_of-self-2-clause-hears : goal.invariant_of-self-2-clause-hears
invariant_of-self-2-clause-hears g c =
    let old = c.args.self.now in
    let more : c.push_reserved.new.self.items ≡ old.told.items ++ Waiting ∷ [] = c.push_reserved.ensures.items ∙ ap (λ l. l ++ Waiting ∷ []) c.reserve-2.ensures.items in
    c.in_ok-told.ensures.heard
    ∙ (ap (λ l. l ++ Waiting ∷ []) old.hears
    ∙ (append_assoc (g.W.Workload.heard old.first.value) old.told.items (Waiting ∷ [])
    ∙ ap (λ l. g.W.Workload.heard old.first.value ++ l) (sym more)))

-- the batch that was under way is waiting
pub invariant_of-self-2-clause-tells : goal.invariant_of-self-2-clause-tells
invariant_of-self-2-clause-tells g c =
    let old = c.args.self.now in
    let items : c.push_reserved-2.new.self.items ≡ old.earlier.items ++ c.close.result ∷ [] = c.push_reserved-2.ensures.items ∙ ap (λ l. l ++ c.close.result ∷ []) c.reserve.ensures.items in
    let closed : c.close.result.entries ≡ old.door.notes.journal.entries = c.close.ensures.entries ∙ ap (λ d. d.notes.journal.entries) c.replace-before.ensures.value in
    let fresh : c.replace-before.new.dest.told.items ≡ [] = ap (λ d. d.told.items) c.replace-before.ensures.after ∙ c.in_ok-next.ensures.told in
    let is_open = c.requires.under_way in
    let told : outcomes old.door.notes.journal.entries ≡ old.door.told.items ++ Waiting ∷ [] = told-open old.door.notes.journal.entries old.door.told.items old.door.under_way old.door.tells old.door.opens (ap said is_open) ∙ rw is_open refl in
    let more : c.push_reserved.new.self.items ≡ old.told.items ++ Waiting ∷ [] = c.push_reserved.ensures.items ∙ ap (λ l. l ++ Waiting ∷ []) c.reserve-2.ensures.items in
    told-ended old.earlier.items c.close.result _ old.told.items old.door.told.items c.push_reserved.new.self.items c.push_reserved.new.self.items [] _ true
    items (ap outcomes closed ∙ told) old.tells more (sym (append-nil c.push_reserved.new.self.items)) (sym fresh)

pub invariant_of-self-2-clause-places : goal.invariant_of-self-2-clause-places
invariant_of-self-2-clause-places g c =
    let old = c.args.self.now in
    let items : c.push_reserved-2.new.self.items ≡ old.earlier.items ++ c.close.result ∷ [] = c.push_reserved-2.ensures.items ∙ ap (λ l. l ++ c.close.result ∷ []) c.reserve.ensures.items in
    let node : c.close.result.node ≡ old.door.notes.journal.node = c.close.ensures.place ∙ ap (λ d. d.notes.journal.node) c.replace-before.ensures.value in
    places-append old.number old.earlier.items c.close.result _ items old.places (ap (is_proxy old.number) node ∙ old.place)
