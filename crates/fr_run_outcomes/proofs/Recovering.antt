-- A ballot that begins comes to be chosen, if each phase of its recovery goes on.
use Rattle.std.proofs.Common.{◌≡◌, ℕ, ◌<◌, ◌≤◌, Bool, true, false, cond, nat_lt, ◌==◌, List, [], ◌∷◌, None, Some, inl, inr, ◌⊎◌, refl, sym, ◌∙◌, ap, subst, arith}
use Rattle.std.specs.Prelude.{is_some, Ok}
use Rattle.std.specs.List.{Contains}
use Rattle.std.proofs.lemmas.Bool.{le-ltb, eqb-true, true≢false}
use Rattle.std.proofs.lemmas.List.Elements.{All-weaker}
use Rattle.fr_base.specs.declared.place.NodeId.TheVariants as node
use Rattle.fr_register.specs.Poll.{Stamped, ReadState}
use Rattle.fr_tags.specs.Placement.{log_count, covers, is_held}
use Rattle.fr_tags.specs.CoverLaw.{CoveringMeetsEachTag}
use Rattle.fr_state.specs.Reading.{reading}
use Rattle.fr_log.specs.Law.{AskIsChange}
use Rattle.fr_epoch.specs.Change.{IsFound}
use Rattle.fr_epoch.specs.declared.reply.Reply.{Reply}
use Rattle.fr_epoch.specs.EndTally.{EndState, responders}
use Rattle.fr_epoch.specs.Recoverer.{RecState, Parent, Plan}
use Rattle.fr_run.specs.AskLaws.{SentIsAccounted}
use Rattle.fr_run.specs.Config.{Config, first_epoch}
use Rattle.fr_run.specs.Turn.{Turn, Gone}
use Rattle.fr_run.specs.Nodes.{cell_at, rec_at, plan_in, plan_at, logs_in, logs_at}
use Rattle.fr_run.specs.Run.{IsTurn, IsRun, MayBegin}
use Rattle.fr_run.specs.ParentLaws.{ParentIsRead}
use Rattle.fr_run.specs.Laws.{Laws}
use Rattle.fr_run.proofs.Cells.{Contains-none, Contains-cases}
use Rattle.fr_run.proofs.Growth.{rec_is}
use Rattle.fr_run_headline.specs.LogLaws.{tally, tally_in}
use Rattle.fr_run_headline.proofs.Ends.{end_is_of_replies}
use Rattle.fr_run_headline.proofs.Logs.{absent_before}
use Rattle.fr_run_outcomes.specs.Going.{GoesOn}
use Rattle.fr_run_outcomes.specs.Reading.{pair_at, ReadsOn, ReadingEnds}
use Rattle.fr_run_outcomes.specs.Locking.{IsFewLost, RepliedAreUp, HasPlan, LacksRoom, LocksOn, LockingEnds}
use Rattle.fr_run_outcomes.specs.Copying.{HolderIsUp, CopiesOn, CopyingEnds, SeedsOn, SeedingEnds}
use Rattle.fr_run_outcomes.specs.Writing.{WritesOn, WritingEnds}
use Rattle.fr_run_outcomes.specs.Recovering.{HasRoom, RecoversOn, NoDeadEnd, FillsOn, RecoveryEnds}
use Rattle.fr_run_outcomes.proofs.Going.{goes_further, still_up, rec_still_up, reads_stay}
use Rattle.fr_run_outcomes.proofs.Lose.{still_lost}
use Rattle.fr_run_outcomes.proofs.Copies.{IsOfReplies, made_from, of_replies}
use Rattle.fr_run_outcomes.proofs.LockAnswers.{other_last}
use Rattle.fr_run_outcomes.proofs.Rooms.{room_left}

-- a log that was never there is not gone
pub no_log_gone : Laws → (c : Config) (h : List Turn) → IsRun c h → (e i : ℕ) → nat_lt i (logs_at c h e) ≡ false → Contains h (Gone (node.Log e i)) → ⊥
no_log_gone laws c [] run e i absent k = Contains-none k
no_log_gone laws c (t ∷ h) run e i absent k = elim (Contains-cases t h (Gone (node.Log e i)) k) [
  | inl now ↦ true≢false (sym (subst (IsTurn c h) now run.0).0.there ∙ absent_before laws c h t run.1 run.0 e i absent)
  | inr before ↦ no_log_gone laws c h run.1 e i (absent_before laws c h t run.1 run.0 e i absent) before
]

-- a ballot that has not begun has no logs
pub none_there : (c : Config) (h : List Turn) (b i : ℕ) → MayBegin b → rec_at c h b ≡ None → nat_lt i (logs_at c h b) ≡ false
none_there c h b i may none = go (b == first_epoch) refl
  where
    go : (x : Bool) → (b == first_epoch) ≡ x → nat_lt i (cond x c.m (logs_in (plan_at c h b))) ≡ false
    go true e = absurd (may.0 (eqb-true b first_epoch e))
    go false e = ap (λ o. nat_lt i (logs_in (plan_in o))) none ∙ le-ltb i 0 (omega arith)

-- of each tag a log that replied and holds it is up, if each that replied is
holders_up : Laws → CoveringMeetsEachTag → (c : Config) (h : List Turn) → IsRun c h → (b : ℕ) (r : RecState) (p : Parent) (q : Plan) → rec_at c h b ≡ Some r → r.parent ≡ Some p → r.plan ≡ Some q → RepliedAreUp h p r → (tag : ℕ) → HolderIsUp h p q tag
holders_up laws meets c h run b r p q at parent plan up tag = record {
  log = met.0;
  replied = subst (λ xs. Contains xs met.0) (sym own.responders_are) met.2;
  holds = ap (λ m. is_held tag m q.tail.k met.0) own.m ∙ ap (λ k. is_held tag p.last.m k met.0) own.k ∙ met.3;
  up = λ gone. up from.0 from.1 (subst (λ i. Contains h (Gone (node.Log p.last.epoch i))) (sym from.2) gone);
}
  where
    own : IsOfReplies r p q
    own = of_replies laws c h run b r p q at parent plan

    tallied : (e : EndState) × (r.end ≡ Some e) × (e.m ≡ p.last.m) × (e.k ≡ p.last.k)
    tallied = (rec_is laws c h run b r at).kept.come_by.tallied p parent

    covered : covers p.last.m p.last.k (responders (tally r)) ≡ true
    covered =
        ap (λ m. covers m p.last.k (responders (tally r))) (sym (ap (λ (s : EndState). s.m) (ap tally_in tallied.1) ∙ tallied.2))
        ∙ ap (λ k. covers (tally r).m k (responders (tally r))) (sym (ap (λ (s : EndState). s.k) (ap tally_in tallied.1) ∙ tallied.3))
        ∙ (end_is_of_replies laws c h run b r q at plan).covered

    met : (log : ℕ) × (log < p.last.m) × Contains (responders (tally r)) log × (is_held tag p.last.m p.last.k log ≡ true)
    met = meets tag p.last.m p.last.k (responders (tally r)) ((rec_is laws c h run b r at).kept.parent p parent).k_high covered

    from : (x : Reply) × Contains (tally r).replies x × (x.log ≡ met.0)
    from = made_from (λ (x : Reply). x.log) (tally r).replies met.0 met.2

-- the laws of the phases
pub record Phases : Type 0 where
  pub laws : Laws
  pub changes : AskIsChange
  pub accounted : SentIsAccounted
  pub meets : CoveringMeetsEachTag
  pub read : ParentIsRead
  pub reading : ReadingEnds
  pub locking : LockingEnds
  pub copying : CopyingEnds
  pub seeding : SeedingEnds
  pub writing : WritingEnds

pub recovery_ends : Phases → RecoveryEnds
recovery_ends k c h config run b shape none may is_shape first others majority low below left = go locked.ended
  where
    found : ReadsOn c h b first
    found = k.reading c h config run b shape none may is_shape first others majority low below

    read : IsFound found.recoverer found.parent.state found.parent.last
    read = k.read c found.later found.goes_on.is_run b found.recoverer found.parent found.at found.parent_is

    value : reading (pair_at c h first).value ≡ Ok found.parent.state
    value = ap (λ (s : Stamped). reading s.value) (sym found.found) ∙ read.value

    few : IsFewLost found.later found.parent.last
    few =
        let mine = left found.parent.state found.parent.last value read.last in
        subst (λ xs. log_count found.parent.last.m xs < found.parent.last.k) (sym (still_lost c b h found.later found.goes_on found.parent.last.epoch)) mine

    locked : LocksOn c found.later b found.parent found.recoverer
    locked = k.locking c found.later config found.goes_on.is_run b found.recoverer found.parent found.at found.locking found.parent_is found.up few

    to_locked : GoesOn c b h locked.later
    to_locked = goes_further c b h found.later locked.later found.goes_on locked.goes_on

    all_up : RepliedAreUp locked.later found.parent locked.recoverer
    all_up = locked.replied (λ x has. absurd (Contains-none (subst (λ xs. Contains xs x) found.none has)))

    -- what was read is what the first cell had
    was_found : (later : List Turn) → GoesOn c b found.later later → (n : RecState) → rec_at c later b ≡ Some n → n.reads.greatest ≡ pair_at c h first
    was_found later k' n there = ap (λ (x : ReadState). x.greatest) (reads_stay k.laws c b found.later later k' b found.recoverer found.at (ap is_some found.parent_is) n there) ∙ found.found

    -- what lacked room when its parent was found lacked it at the start
    full : LacksRoom c found.later found.parent locked.recoverer → HasRoom c h first → ⊥
    full lacks room =
        lacks.never (room_left k.laws k.changes k.accounted c b h found.later found.goes_on found.parent.state found.parent.last
        (other_last k.laws c found.later config found.goes_on.is_run b found.recoverer found.parent found.at found.parent_is) (room found.parent.state found.parent.last value read.last))

    from_plan : HasPlan locked.recoverer → RecoversOn c h b first
    from_plan (phase, (q, plan)) = record {
      later = written.later;
      goes_on = goes_further c b h seeded.later written.later to_seeded written.goes_on;
      recoverer = written.recoverer;
      at = written.at;
      found = was_found written.later (goes_further c b found.later seeded.later written.later (goes_further c b found.later copied.later seeded.later (goes_further c b found.later locked.later copied.later locked.goes_on copied.goes_on) seeded.goes_on) written.goes_on) written.recoverer written.at;
      chosen = written.chosen;
    }
      where
        copied : CopiesOn c locked.later b
        copied = k.copying c locked.later config locked.goes_on.is_run b locked.recoverer found.parent q locked.at phase locked.parent plan (rec_still_up k.laws c b found.later locked.later locked.goes_on b found.up)
            (λ tag inside. holders_up k.laws k.meets c locked.later locked.goes_on.is_run b locked.recoverer found.parent q locked.at locked.parent plan all_up tag)

        to_copied : GoesOn c b h copied.later
        to_copied = goes_further c b h locked.later copied.later to_locked copied.goes_on

        seeded : SeedsOn c copied.later b
        seeded = k.seeding c copied.later config copied.goes_on.is_run b copied.recoverer copied.at copied.copying copied.copied (rec_still_up k.laws c b found.later copied.later (goes_further c b found.later locked.later copied.later locked.goes_on copied.goes_on) b found.up)
            (λ i. still_up c b h copied.later to_copied (node.Log b i) (no_log_gone k.laws c h run b i (none_there c h b i may none)))

        to_seeded : GoesOn c b h seeded.later
        to_seeded = goes_further c b h copied.later seeded.later to_copied seeded.goes_on

        written : WritesOn c seeded.later b
        written = k.writing c seeded.later config seeded.goes_on.is_run b seeded.recoverer seeded.at seeded.writing
            (rec_still_up k.laws c b found.later seeded.later (goes_further c b found.later copied.later seeded.later (goes_further c b found.later locked.later copied.later locked.goes_on copied.goes_on) seeded.goes_on) b found.up)
            (first ∷ others) majority (All-weaker (λ i. (cell_at c h i).promised ≤ b) (λ i. (cell_at c seeded.later i).promised ≤ b) to_seeded.low (first ∷ others) low)

    go : HasPlan locked.recoverer ⊎ LacksRoom c found.later found.parent locked.recoverer → RecoversOn c h b first ⊎ FillsOn c h b first
    go (inl planned) = inl (from_plan planned)
    go (inr lacks) = inr (record { later = locked.later; goes_on = to_locked; recoverer = locked.recoverer; at = locked.at; found = was_found locked.later locked.goes_on locked.recoverer locked.at; room = lacks.found; full = full lacks })

-- so where there is room it is chosen
pub no_dead_end : Phases → NoDeadEnd
no_dead_end k c h config run b shape none may is_shape first others majority low below left room = elim (recovery_ends k c h config run b shape none may is_shape first others majority low below left) [
  | inl chosen ↦ chosen
  | inr fills ↦ absurd (fills.full room)
]
