-- With no greater ballot a recoverer that had rounds enough is chosen, unless there is no room after the state that it read.
use Rattle.std.proofs.Common.{◌≡◌, ℕ, ◌+◌, ◌<◌, ◌≤◌, ◌^◌, true, List, length, Some, inl, inr, refl, sym, ◌∙◌, ap, subst, arith}
use Rattle.std.specs.List.{Contains, range_with_len}
use Rattle.std.proofs.lemmas.Bool.{true≢false}
use Rattle.std.proofs.lemmas.List.Elements.{All-contains}
use Rattle.fr_tags.specs.CoverLaw.{CoveringMeetsEachTag}
use Rattle.fr_tags.specs.Placement.{covers, is_held}
use Rattle.fr_log.specs.LogState.{durable_of}
use Rattle.fr_epoch.specs.declared.reply.Reply.{Reply}
use Rattle.fr_epoch.specs.EndTally.{EndState, is_covered, responders, rv_of}
use Rattle.fr_epoch.specs.Recoverer.{RecState, Parent}
use Rattle.fr_run.specs.Config.{Config}
use Rattle.fr_run.specs.Turn.{Turn}
use Rattle.fr_run.specs.Nodes.{rec_at, log_at}
use Rattle.fr_run.specs.Run.{IsRun}
use Rattle.fr_run.specs.StateLaws.{IsConfig}
use Rattle.fr_run.specs.Laws.{Laws}
use Rattle.fr_run.proofs.Growth.{rec_is}
use Rattle.fr_run.proofs.States.{recoverers_have_states}
use Rattle.fr_run_headline.specs.LogLaws.{tally_in, tally, StandsAt}
use Rattle.fr_run_headline.proofs.Locks.{replies_stand_still}
use Rattle.fr_run_outcomes.specs.Locking.{HasNoRoom}
use Rattle.fr_run_outcomes.specs.Uncontested.{UncontestedHasNoRoom}
use Rattle.fr_run_outcomes.proofs.Copies.{made_from, least_of}
use Rattle.fr_run_outcomes.proofs.LockAnswers.{left_fits, low_enough, not_spent}
use Rattle.fr_run_outcomes.proofs.Reasons.{IsFull, IsSpent, HasReason, has_reason}
use Rattle.fr_run_rounds.specs.Ending.{EndsInRounds, UncontestedIsChosen, HasRoomAfter, RoomIsChosen}

pub uncontested_is_chosen : UncontestedHasNoRoom → EndsInRounds → UncontestedIsChosen
uncontested_is_chosen room ends c h later config run b r at k u = elim (ends c h later config run b r at k) [
  | inl chosen ↦ inl chosen
  | inr lost ↦ inr (room c u.before u.since b u.shape u.asks config (subst (IsRun c) (sym u.is) run) u.low u.none r lost.0 (subst (λ l. rec_at c l b ≡ Some r) (sym u.is) at) lost.1)
]

-- replies that cover have one of a log of the generation, which holds no less than the least that they told
least_reply : Laws → CoveringMeetsEachTag → (c : Config) (h : List Turn) → IsRun c h → (b : ℕ) (r : RecState) (p : Parent) → rec_at c h b ≡ Some r → r.parent ≡ Some p → is_covered (tally r) ≡ true
    → (i : ℕ) × (i < p.last.m) × (rv_of (tally r) ≤ durable_of (log_at c h p.last.epoch i))
least_reply laws meets c h run b r p at parent covered = (met.0, met.1, low)
  where
    tallied : (e : EndState) × (r.end ≡ Some e) × (e.m ≡ p.last.m) × (e.k ≡ p.last.k)
    tallied = (rec_is laws c h run b r at).kept.come_by.tallied p parent

    covers_all : covers p.last.m p.last.k (responders (tally r)) ≡ true
    covers_all =
        ap (λ m. covers m p.last.k (responders (tally r))) (sym (ap (λ (s : EndState). s.m) (ap tally_in tallied.1) ∙ tallied.2))
        ∙ ap (λ k. covers (tally r).m k (responders (tally r))) (sym (ap (λ (s : EndState). s.k) (ap tally_in tallied.1) ∙ tallied.3))
        ∙ covered

    met : (log : ℕ) × (log < p.last.m) × Contains (responders (tally r)) log × (is_held 0 p.last.m p.last.k log ≡ true)
    met = meets 0 p.last.m p.last.k (responders (tally r)) ((rec_is laws c h run b r at).kept.parent p parent).k_high covers_all

    from : (x : Reply) × Contains (tally r).replies x × (x.log ≡ met.0)
    from = made_from (λ (x : Reply). x.log) (tally r).replies met.0 met.2

    stand : StandsAt c h p.last.epoch from.0.log from.0.durable from.0.known
    stand = All-contains (λ (x : Reply). StandsAt c h p.last.epoch x.log x.durable x.known) (tally r).replies from.0 (replies_stand_still laws c h run b r p at parent) from.1

    low : rv_of (tally r) ≤ durable_of (log_at c h p.last.epoch met.0)
    low =
        let least = least_of (tally r).replies from.0 from.1 in
        let is : durable_of (log_at c h p.last.epoch met.0) ≡ from.0.durable = subst (λ j. durable_of (log_at c h p.last.epoch j) ≡ from.0.durable) from.2 stand.durable_is in
        omega (arith, least, is)

-- so where there is room after what it read, a recoverer does not find that there is none
has_room : Laws → CoveringMeetsEachTag → (c : Config) (later : List Turn) → IsConfig c → IsRun c later → (b : ℕ) (r : RecState) → rec_at c later b ≡ Some r → HasRoomAfter c later r → HasNoRoom r → ⊥
has_room laws meets c later config run b r at room none = elim none [ inl many ↦ fits (reason.many many) | inr spent ↦ left (reason.spent spent) ]
  where
    reason : HasReason r
    reason = has_reason laws c later run b r at

    fits : IsFull r → ⊥
    fits k =
        true≢false (sym (left_fits laws k.parent.state r.shown (range_with_len 0 (length r.begins)) ((recoverers_have_states laws c later config run b r at).parent k.parent k.parent_is).0 (room k.parent k.parent_is).gens) ∙ k.full)

    left : IsSpent r → ⊥
    left k = go (least_reply laws meets c later run b r k.parent at k.parent_is k.covered)
      where
        go : (i : ℕ) × (i < k.parent.last.m) × (rv_of (tally r) ≤ durable_of (log_at c later k.parent.last.epoch i)) → ⊥
        go (i, below, low) =
            true≢false (sym k.spent ∙ not_spent (2 ^ 62) (rv_of (tally r) + 1) (low_enough (2 ^ 62) (rv_of (tally r)) (durable_of (log_at c later k.parent.last.epoch i)) (durable_of (log_at c later k.parent.last.epoch i)) low refl ((room k.parent k.parent_is).versions i below)))

pub room_is_chosen : Laws → CoveringMeetsEachTag → UncontestedIsChosen → RoomIsChosen
room_is_chosen laws meets chosen c h later config run b r at k u room = elim (chosen c h later config run b r at k u) [
  | inl is ↦ is
  | inr none ↦ absurd (has_room laws meets c later config run b r at room none)
]
