-- What a recoverer would open is later than what it read.
use Rattle.std.proofs.Common.{◌≡◌, ℕ, ◌+◌, ◌-◌, ◌<◌, ◌≤◌, true, false, max, List, [], ◌∷◌, ◌++◌, map, fold, Option, None, Some, inl, inr, refl, sym, ◌∙◌, ap, subst, arith}
use Rattle.std.specs.Prelude.{IfSome, is_some}
use Rattle.std.specs.List.{All, range_with_len}
use Rattle.std.proofs.lemmas.List.Elements.{All-head, All-weaker}
use Rattle.fr_state.specs.Generations.{LogGeneration, Follows, AreOrdered, IsCoordinatedState, last_of}
use Rattle.fr_tags.specs.Placement.{covers}
use Rattle.fr_log.specs.Push.{PushContent}
use Rattle.fr_log.specs.Seed.{SeedContent}
use Rattle.fr_log.specs.LogState.{first_of}
use Rattle.fr_epoch.specs.declared.reply.Reply.{Reply}
use Rattle.fr_epoch.specs.EndTally.{EndState, is_covered, pev_of, rv_of}
use Rattle.fr_epoch.specs.Recoverer.{RecState, Parent}
use Rattle.fr_epoch.specs.Hear.{left_of, next_generation}
use Rattle.fr_run.specs.Config.{Config, first_epoch}
use Rattle.fr_run.specs.Turn.{Turn}
use Rattle.fr_run.specs.Nodes.{rec_at, generation_at, logs_at, log_at}
use Rattle.fr_run.specs.Run.{IsRun}
use Rattle.fr_run.specs.StateLaws.{IsConfig}
use Rattle.fr_run.specs.Laws.{Laws}
use Rattle.fr_run.proofs.Growth.{rec_is}
use Rattle.fr_run.proofs.Chosen.{first_is_chosen}
use Rattle.fr_run.proofs.States.{recoverers_have_states}
use Rattle.fr_run.proofs.Parents.{parent_from, parent_is_planned}
use Rattle.fr_run.proofs.Register.{has_found}
use Rattle.fr_run_headline.specs.Bounds.{IsSeedAt}
use Rattle.fr_run_headline.specs.LogLaws.{tally, StandsAt}
use Rattle.fr_run_headline.specs.SeededLaws.{IsSeededEpoch, ChosenIsSeeded, WritingIsSeeded}
use Rattle.fr_run_headline.proofs.Ends.{none_cover}
use Rattle.fr_run_headline.proofs.Known.{logs_know}
use Rattle.fr_run_headline.proofs.Locks.{replies_stand_still}
use Rattle.fr_run_headline.proofs.Orders.{low_least}

-- ---- lists

-- one generation more that follows the last one
ordered_more : (gens : List LogGeneration) (last next : LogGeneration) → AreOrdered gens → last_of gens ≡ Some last → Follows last next → AreOrdered (gens ++ next ∷ [])
ordered_more [] last next order e follows = absurd (cc)
ordered_more (g ∷ []) last next order e follows = let same : g ≡ last = cc in (subst (λ x. Follows x next) (sym same) follows, tt)
ordered_more (g ∷ h ∷ gens) last next (first, order) e follows = (first, ordered_more (h ∷ gens) last next order e follows)

-- ---- replies

-- the greatest known is not below where it starts
known_from : (v w : ℕ) (rs : List Reply) → v ≤ w → v ≤ fold (λ x (q : Reply). max x q.known) w rs
known_from v w [] l = l
known_from v w (r ∷ rs) l = known_from v (max w r.known) rs (omega (arith, l))

-- of replies that cover each is known from a version on, so the greatest is not below it
known_high : (v m k : ℕ) (rs : List Reply) → covers m k (map (λ (x : Reply). x.log) rs) ≡ true → All (λ r. v ≤ r.known) rs → v ≤ fold (λ x (q : Reply). max x q.known) 0 rs
known_high v m k [] cov all = let d : false ≡ true = sym (none_cover m k) ∙ cov in absurd (cc)
known_high v m k (r ∷ rs) cov all = known_from v (max 0 r.known) rs (let l = All-head (λ x. v ≤ x.known) r rs all in omega (arith, l))

pub push_from : (v w : ℕ) (ps : List PushContent) → v ≤ w → v ≤ fold (λ x (p : PushContent). max x p.known) w ps
push_from v w [] l = l
push_from v w (p ∷ ps) l = push_from v (max w p.known) ps (omega (arith, l))

-- ---- the epoch that a recoverer ends

parent_seeded : Laws → ChosenIsSeeded → WritingIsSeeded → (c : Config) (h : List Turn) → IsConfig c → IsRun c h → (b : ℕ) (r : RecState) (p : Parent) → rec_at c h b ≡ Some r → r.parent ≡ Some p → IsSeededEpoch c h p.last.epoch
parent_seeded laws chosen writing c h config run b r p at parent = elim (parent_is_planned laws c h config run b r p at parent) [
  | inl first ↦ subst (IsSeededEpoch c h) (sym first) (chosen c h config run first_epoch (first_is_chosen c h))
  | inr k ↦ writing c h config run p.last.epoch k.recoverer k.at k.written
]

-- what replies that cover tell is not below what the parent's last generation began with
record AreLate (p : Parent) (end : EndState) : Type 0 where
  first : p.last.first ≤ pev_of end + 1
  seeded_to : p.last.seeded_to ≤ rv_of end

-- what a reply told is so for good
abbrev Stands : Config → List Turn → Parent → Reply → Type 0
Stands c h p x = StandsAt c h p.last.epoch x.log x.durable x.known

replies_late : Laws → ChosenIsSeeded → WritingIsSeeded → (c : Config) (h : List Turn) → IsConfig c → IsRun c h → (b : ℕ) (r : RecState) (p : Parent) → rec_at c h b ≡ Some r → r.parent ≡ Some p → is_covered (tally r) ≡ true
    → AreLate p (tally r)
replies_late laws chosen writing c h config run b r p at parent covered = record {
  first = (let k = known_high (p.last.first - 1) (tally r).m (tally r).k (tally r).replies covered (All-weaker (Stands c h p) (λ x. p.last.first - 1 ≤ x.known) (λ x s. known x s) (tally r).replies stand) in omega (arith, k));
  seeded_to = low_least p.last.seeded_to (tally r).m (tally r).k (tally r).replies covered (All-weaker (Stands c h p) (λ x. p.last.seeded_to ≤ x.durable) (λ x s. durable x s) (tally r).replies stand);
}
  where
    stand : All (Stands c h p) (tally r).replies
    stand = replies_stand_still laws c h run b r p at parent

    of : generation_at c h p.last.epoch ≡ Some p.last
    of = (parent_from laws c h config run b r p at parent).generation

    epoch : IsSeededEpoch c h p.last.epoch
    epoch = parent_seeded laws chosen writing c h config run b r p at parent

    durable : (x : Reply) → Stands c h p x → p.last.seeded_to ≤ x.durable
    durable x s =
        let two : Some epoch.generation ≡ Some p.last = sym epoch.of ∙ of in
        let same : epoch.generation ≡ p.last = cc in
        let to = ap (λ (g : LogGeneration). g.seeded_to) same in
        let low = epoch.durable x.log s.there in
        let is = s.durable_is in
        omega (arith, to, low, is)

    starts : (i : ℕ) → i < logs_at c h p.last.epoch → (o : Option SeedContent) → (log_at c h p.last.epoch i).seed ≡ o → is_some o ≡ true → first_of o ≡ p.last.first
    starts i there None seed some = absurd (cc)
    starts i there (Some s) seed some =
        let k : IsSeedAt c h p.last.epoch s = subst (λ o. IfSome o (IsSeedAt c h p.last.epoch)) seed (logs_know laws c h run p.last.epoch i there).seed in
        let two : Some k.generation ≡ Some p.last = sym k.of ∙ of in
        let same : k.generation ≡ p.last = cc in
        k.first ∙ ap (λ (g : LogGeneration). g.first) same

    known : (x : Reply) → Stands c h p x → p.last.first - 1 ≤ x.known
    known x s =
        let l = log_at c h p.last.epoch x.log in
        let first = starts x.log s.there l.seed refl s.seeded in
        let low = push_from (p.last.first - 1) (first_of l.seed - 1) l.pushes (omega (arith, first)) in
        let is = s.known_is in
        omega (arith, low, is)

-- so the generation that it would open follows those that are left
pub next_is_later : Laws → ChosenIsSeeded → WritingIsSeeded → (c : Config) (h : List Turn) → IsConfig c → IsRun c h → (b : ℕ) (r : RecState) (p : Parent) → rec_at c h b ≡ Some r → r.parent ≡ Some p → is_covered (tally r) ≡ true
    → AreOrdered ((left_of r p).gens ++ next_generation r p (tally r) ∷ [])
next_is_later laws chosen writing c h config run b r p at parent covered =
    let par = (recoverers_have_states laws c h config run b r at).parent p parent in
    let left = laws.left p.state r.shown (range_with_len 0 _) par.0 in
    let rest : IsCoordinatedState (left_of r p) = subst IsCoordinatedState (sym left.is) (laws.drop_is_state p.state left.number par.0 left.fewer) in
    let last : last_of (left_of r p).gens ≡ Some p.last =
    ap (λ s. last_of (s.gens)) left.is ∙ laws.drop_keeps_last p.state.gens left.number left.fewer ∙ ((has_found laws c h run b r at).found p parent).last in
    let late = replies_late laws chosen writing c h config run b r p at parent covered in
    let below = (parent_from laws c h config run b r p at parent).below in
    let ballot = (rec_is laws c h run b r at).ballot in
    ordered_more (left_of r p).gens p.last (next_generation r p (tally r)) rest.ordered last (record { epoch = omega (arith, below, ballot); first = late.first; seeded_to = late.seeded_to })
