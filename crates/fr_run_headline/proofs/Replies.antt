-- What each log that replied to a recoverer holds: all that is below in any generation that the recoverer took over.
use Rattle.std.proofs.Common.{◌≡◌, ℕ, ◌<◌, ◌≤◌, true, false, List, [], ◌∷◌, ◌++◌, append_assoc, Option, None, Some, inl, inr, refl, sym, ◌∙◌, ap, subst, arith}
use Rattle.std.specs.Prelude.{IfSome, IsSome}
use Rattle.std.specs.List.{All, Contains}
use Rattle.std.proofs.lemmas.List.Elements.{All-nil, All-weaker, Contains-append_left, Contains-append_right, Contains-push_cases}
use Rattle.fr_state.specs.Generations.{LogGeneration}
use Rattle.fr_log.specs.LogState.{durable_of}
use Rattle.fr_epoch.specs.declared.reply.Reply.{Reply}
use Rattle.fr_epoch.specs.EndTally.{EndState, new_end, is_covered, rv_of}
use Rattle.fr_epoch.specs.Recoverer.{RecState, Parent}
use Rattle.fr_epoch.specs.Hear as rec
use Rattle.fr_epoch.specs.Words.{Word, word_of}
use Rattle.fr_epoch.specs.Change.{Change, Stands, LosesReads, Reads, Finds, Locks, LosesLocks, Plans, Copies, Seeds, SeedsAll, Writes, LosesWrites, Chooses, Marks}
use Rattle.fr_run.specs.Config.{Config, first_epoch}
use Rattle.fr_run.specs.Turn.{Turn}
use Rattle.fr_run.specs.Nodes.{rec_at, generation_at, logs_at, log_at}
use Rattle.fr_run.specs.Run.{IsRun}
use Rattle.fr_run.specs.Laws.{Laws}
use Rattle.fr_run.specs.States.{line_of}
use Rattle.fr_run.specs.StateLaws.{IsConfig}
use Rattle.fr_run.proofs.ByTurn.{rec_by_turn}
use Rattle.fr_run.proofs.Cells.{Contains-here}
use Rattle.fr_run.proofs.Chosen.{open_is_chosen, first_is_least}
use Rattle.fr_run.specs.LineLaws.{IsOfParent}
use Rattle.fr_run.proofs.Parents.{planned_by}
use Rattle.fr_run.proofs.Lines.{parent_is, chosen_is_front}
use Rattle.fr_run_headline.specs.Bounds.{IsBelow}
use Rattle.fr_run_headline.specs.LogLaws.{tally_in, tally, StandsAt}
use Rattle.fr_run_headline.specs.BoundLaws.{RepliesAgree}
use Rattle.fr_run_headline.specs.BehindLaws.{IsReplied, IsTakenOver, BelowIsReplied, BelowIsRecovered, AcknowledgedIsReplied, AcknowledgedIsRecovered}
use Rattle.fr_run_headline.proofs.Locks.{replies_stand_still}
use Rattle.fr_run_headline.proofs.Ends.{end_is_of_replies, none_cover}
use Rattle.fr_run_headline.proofs.Acks.{acknowledged_is_safe}
use Rattle.fr_run_headline.proofs.Orders.{below_is_durable, low_least, replies_agree}
use Rattle.fr_run_headline.proofs.Behind.{IsState, state_is}
use Rattle.fr_run_headline.proofs.Taking.{below_is_held_behind, stands_in, own_is_there}

-- ---- recoverers that have no parent

-- one without a parent has no replies
abbrev IsUntallied : RecState → Type 0
IsUntallied r = r.parent ≡ None → r.end ≡ None

both : (r : RecState) (p : Parent) → r.parent ≡ Some p → r.parent ≡ None → ⊥
both r p e none = let k : None ≡ Some p = sym none ∙ e in absurd (cc)

change : (w : Word) (r n : RecState) → Change r w n → IsUntallied r → IsUntallied n
change w r n Stands k = k
change w r n (LosesReads i t why is) k = k
change w r n (Reads i t is) k = k
change w r n (Finds i t s g heard is) k = λ none. absurd (cc)
change w r n (Locks p end i durable known popped is) k = λ none. absurd (both r p is.parent none)
change w r n (LosesLocks p end i durable known popped why is) k = λ none. absurd (both r p is.parent none)
change w r n (Plans p end i durable known popped s heard is) k = λ none. absurd (both r p heard.parent none)
change w r n (Copies parent p i peeked is) k = k
change w r n (Seeds p i is l) k = k
change w r n (SeedsAll p i is l) k = k
change w r n (Writes i t is) k = k
change w r n (LosesWrites i t why is) k = k
change w r n (Chooses i t is m) k = k
change w r n (Marks p i is) k = k

are_untallied : Laws → (c : Config) (h : List Turn) → IsRun c h → (b : ℕ) → IfSome (rec_at c h b) IsUntallied
are_untallied laws c [] run b = tt
are_untallied laws c (t ∷ h) run b =
    rec_by_turn c h t run.0 b (λ o. IfSome o IsUntallied) (are_untallied laws c h run.1 b) (λ shape none may is e. refl) (λ r from u at told.
    change (word_of from u) r (rec.after_hear r from u) (laws.rec_change r from u) (subst (λ o. IfSome o IsUntallied) at (are_untallied laws c h run.1 b)))

untallied : Laws → (c : Config) (h : List Turn) → IsRun c h → (b : ℕ) (r : RecState) → rec_at c h b ≡ Some r → r.parent ≡ None → tally r ≡ new_end 0 0
untallied laws c h run b r at none = (let k : IsUntallied r = subst (λ o. IfSome o IsUntallied) at (are_untallied laws c h run b) in ap tally_in (k none))

-- so one whose replies cover has one
covered_parent : Laws → (c : Config) (h : List Turn) → IsRun c h → (b : ℕ) (r : RecState) → rec_at c h b ≡ Some r → is_covered (tally r) ≡ true → (p : Parent) × (r.parent ≡ Some p)
covered_parent laws c h run b r at covered = go r.parent refl
  where
    go : (o : Option Parent) → r.parent ≡ o → (p : Parent) × (r.parent ≡ Some p)
    go None none =
        let a : is_covered (new_end 0 0) ≡ false = none_cover 0 0 in
        let d : false ≡ true = sym a ∙ sym (ap is_covered (untallied laws c h run b r at none)) ∙ covered in
        absurd (cc)
    go (Some p) e = (p, e)

pub covered_agree : Laws → RepliesAgree
covered_agree laws c h run b r at covered = (let k = covered_parent laws c h run b r at covered in replies_agree laws c h run b r k.0 at k.1 covered)

-- ---- what replies tell

-- what is below in a generation that a recoverer took over, each seeded log of the last one holds
below_is_held : Laws → (c : Config) (h : List Turn) → IsConfig c → IsRun c h → (b : ℕ) (r : RecState) (p : Parent) → rec_at c h b ≡ Some r → r.parent ≡ Some p
    → (g : LogGeneration) → Contains (line_of c h p.last.epoch) g → (v : ℕ) → IsBelow c h g.epoch v → (i : ℕ) → i < logs_at c h p.last.epoch → IsSome (log_at c h p.last.epoch i).seed → v ≤ durable_of (log_at c h p.last.epoch i)
below_is_held laws c h config run b r p at parent g there v below i here seeded = elim (Contains-push_cases k.behind p.last g (subst (λ xs. Contains xs g) k.is there)) [
  | inl behind ↦ (
      let j = stands_in k.behind g behind in
      let own : List LogGeneration = p.last ∷ [] in
      let is : line_of c h p.last.epoch ≡ j.front ++ g ∷ (j.rest ++ own) = k.is ∙ ap (λ xs. xs ++ own) j.is ∙ append_assoc j.front (g ∷ j.rest) own in
      let held = below_is_held_behind laws c h config run p.last.epoch p.last of.generation j.front g p.last (j.rest ++ own) is (Contains-append_right j.rest own p.last (Contains-here p.last [])) v below in
      held.1 i here seeded)
  | inr last ↦ (
      let same : g.epoch ≡ p.last.epoch = ap (λ (x : LogGeneration). x.epoch) (sym last) in
      below_is_durable laws c h run p.last.epoch v (subst (λ x. IsBelow c h x v) same below) i here seeded)
]
  where
    of : IsOfParent c h p
    of = parent_is laws c h config run b r p at parent

    k : IsState c h p.last.epoch p.last
    k = state_is laws c h config run p.last.epoch p.last of.generation

-- so each log that replied does
below_in_replies : Laws → (c : Config) (h : List Turn) → IsConfig c → IsRun c h → (b : ℕ) (r : RecState) (p : Parent) → rec_at c h b ≡ Some r → r.parent ≡ Some p
    → (g : LogGeneration) → Contains (line_of c h p.last.epoch) g → (v : ℕ) → IsBelow c h g.epoch v → All (λ x. v ≤ x.durable) (tally r).replies
below_in_replies laws c h config run b r p at parent g there v below =
    All-weaker (λ x. StandsAt c h p.last.epoch x.log x.durable x.known) (λ x. v ≤ x.durable)
    (λ x s. (let l = below_is_held laws c h config run b r p at parent g there v below x.log s.there s.seeded in omega (arith, l, s.durable_is)))
    (tally r).replies (replies_stand_still laws c h run b r p at parent)

pub below_is_replied : Laws → BelowIsReplied
below_is_replied laws c h config run e chosen g there v below b r at less = go r.parent refl
  where
    go : (o : Option Parent) → r.parent ≡ o → All (λ x. v ≤ x.durable) (tally r).replies
    go None none = subst (λ (s : EndState). All (λ x. v ≤ x.durable) s.replies) (sym (untallied laws c h run b r at none)) (All-nil (λ (x : Reply). v ≤ x.durable))
    go (Some p) parent =
        let front = chosen_is_front laws c h config run e b r p chosen at parent less in
        let here : Contains (line_of c h p.last.epoch) g = subst (λ xs. Contains xs g) front.1 (Contains-append_left (line_of c h e) front.0 g there) in
        below_in_replies laws c h config run b r p at parent g here v below

-- ---- what is taken over

-- what each log that replied holds is not above the recovery version
replied_is_taken_over : Laws → (c : Config) (h : List Turn) → IsRun c h → (e : ℕ) → first_epoch ≤ e → (v : ℕ) → IsReplied c h e v → IsTakenOver c h e v
replied_is_taken_over laws c h run e low v replied = record { epochs = epochs; recoverers = recoverers }
  where
    recoverers : (b : ℕ) (r : RecState) → rec_at c h b ≡ Some r → e < b → is_covered (tally r) ≡ true → v ≤ rv_of (tally r)
    recoverers b r at less covered = low_least v (tally r).m (tally r).k (tally r).replies covered (replied b r at less)

    epochs : (x : ℕ) (g : LogGeneration) → generation_at c h x ≡ Some g → e < x → v ≤ g.seeded_to
    epochs x g at less = elim (planned_by c h x g at) [
      | inl first ↦ (let is = first.0 in absurd (omega (arith, is, less, low)))
      | inr k ↦ (
          let end = end_is_of_replies laws c h run x k.recoverer k.plan k.at k.planned in
          let least = recoverers x k.recoverer k.at less end.covered in
          let is = ap (λ (y : LogGeneration). y.seeded_to) k.is in
          omega (arith, least, end.seeded_to, is))
    ]

pub below_is_recovered : Laws → BelowIsRecovered
below_is_recovered laws c h config run e chosen g there v below = replied_is_taken_over laws c h run e (first_is_least laws c h run e chosen) v (below_is_replied laws c h config run e chosen g there v below)

pub acknowledged_is_replied : Laws → AcknowledgedIsReplied
acknowledged_is_replied laws c h config run e v acked =
    let safe = acknowledged_is_safe laws c h run e v acked in
    let own = (state_is laws c h config run e safe.generation safe.of).has.own in
    let below : IsBelow c h e v = record { generation = safe.generation; at = safe.of; below = inr safe.reached } in
    below_is_replied laws c h config run e (open_is_chosen laws c h run e safe.opened) safe.generation (own_is_there laws c h config run e safe.generation safe.of) v (subst (λ x. IsBelow c h x v) (sym own) below)

pub acknowledged_is_recovered : Laws → AcknowledgedIsRecovered
acknowledged_is_recovered laws c h config run e v acked =
    let safe = acknowledged_is_safe laws c h run e v acked in
    replied_is_taken_over laws c h run e (first_is_least laws c h run e (open_is_chosen laws c h run e safe.opened)) v (acknowledged_is_replied laws c h config run e v acked)
