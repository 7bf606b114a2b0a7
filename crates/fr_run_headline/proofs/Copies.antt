-- What logs have popped they know to be committed, so a recoverer that copies from them is never told that it is removed.
use Rattle.std.proofs.Common.{◌≡◌, ℕ, ◌<◌, ◌≤◌, Bool, true, false, max, min, nat_lt, List, [], ◌∷◌, fold, Option, None, Some, inl, inr, refl, sym, ◌∙◌, ap, subst, arith}
use Rattle.std.specs.Prelude.{Contains, unwrap_or}
use Rattle.std.proofs.lemmas.Bool.{ltb-true}
use Rattle.std.proofs.lemmas.List.Elements.{All-contains}
use Rattle.fr_log.specs.declared.popped.PoppedTag.{PoppedTag}
use Rattle.fr_log.specs.declared.ask.LogAsk.{LogAsk}
use Rattle.fr_log.specs.declared.ask.LogAsk.TheVariants.{Pop}
use Rattle.fr_log.specs.Left.{popped_of, popped_at, raised}
use Rattle.fr_log.specs.LogState.{LogState, known_of}
use Rattle.fr_log.specs.Refusal.{pop_refusal}
use Rattle.fr_log.specs.Step.{next_of, popped_to}
use Rattle.fr_epoch.specs.declared.reply.Reply.{Reply}
use Rattle.fr_epoch.specs.EndTally.{pev_of}
use Rattle.fr_run.specs.Config.{Config}
use Rattle.fr_run.specs.Turn.{Turn}
use Rattle.fr_run.specs.Nodes.{logs_at, log_at}
use Rattle.fr_run.specs.Run.{IsTurn, IsRun}
use Rattle.fr_run.specs.Laws as nodes
use Rattle.fr_run.proofs.Cells.{Contains-none, Contains-cases}
use Rattle.fr_run.proofs.Growth.{log_stays}
use Rattle.fr_run.proofs.Parents.{plan_is}
use Rattle.fr_run_headline.specs.LogLaws.{tally, StandsAt}
use Rattle.fr_run_headline.proofs.LogChanges.{popped_change}
use Rattle.fr_run_headline.proofs.Logs.{log_by_own_turn, made_log}
use Rattle.fr_run_headline.proofs.Locks.{replies_stand_still}
use Rattle.fr_run_headline.proofs.Ends.{end_is_of_replies}
use Rattle.fr_run_headline.proofs.Popping.{unpopped}
use Rattle.fr_run_headline.proofs.Shown.{raised_has}
use Rattle.fr_run_headline.specs.Laws.{Laws}
use Rattle.fr_run_headline.specs.LetGo.{CopyIsNeverRemoved}
use Rattle.fr_run_headline.proofs.Visible.{entry_of}

-- ---- what is popped is known

abbrev IsKnown : LogState → Type 0
IsKnown l = (x : PoppedTag) → Contains l.popped x → x.version ≤ known_of l

-- a bound of the entries bounds what is popped of a tag
at_bound : (ps : List PoppedTag) (bound tag : ℕ) → ((x : PoppedTag) → Contains ps x → x.version ≤ bound) → popped_at ps tag ≤ bound
at_bound ps bound tag k = go (popped_of ps tag) refl
  where
    go : (o : Option ℕ) → popped_of ps tag ≡ o → unwrap_or o 0 ≤ bound
    go None at = omega arith
    go (Some v) at =
        let entry = entry_of ps tag v at in
        let low = k entry.0 entry.1 in
        let version = entry.3 in
        omega (arith, low, version)

known_next : nodes.Laws → (l : LogState) (a : LogAsk) → IsKnown l → IsKnown (next_of l a)
known_next laws l a k = popped_change (λ ps. (x : PoppedTag) → Contains ps x → x.version ≤ known_of (next_of l a)) l a old pops
  where
    grows : known_of l ≤ known_of (next_of l a)
    grows = (laws.log_grows l a).known

    old : (x : PoppedTag) → Contains l.popped x → x.version ≤ known_of (next_of l a)
    old x has = let low = k x has in omega (arith, low, grows)

    pops : (epoch tag through : ℕ) → a ≡ Pop epoch tag through → pop_refusal l epoch tag ≡ None → popped_at l.popped tag ≤ popped_to l tag through
        → (x : PoppedTag) → Contains (raised l.popped tag (popped_to l tag through)) x → x.version ≤ known_of (next_of l a)
    pops epoch tag through at none le x has = elim (raised_has l.popped tag (popped_to l tag through) x has) [
      | inl new ↦ (
          let version : max (popped_at l.popped tag) (min through (known_of l)) ≡ x.version = ap (λ (y : PoppedTag). y.version) new in
          let low = at_bound l.popped (known_of l) tag k in
          omega (arith, version, low, grows))
      | inr before ↦ old x before
    ]

known_later : nodes.Laws → (c : Config) (h : List Turn) (t : Turn) → IsRun c h → IsTurn c h t → (e i : ℕ) → (i < logs_at c h e → IsKnown (log_at c h e i)) → IsKnown (log_at c (t ∷ h) e i)
known_later laws c h t run is e i before = go (nat_lt i (logs_at c h e)) refl
  where
    go : (b : Bool) → nat_lt i (logs_at c h e) ≡ b → IsKnown (log_at c (t ∷ h) e i)
    go true k =
        let below = ltb-true i (logs_at c h e) k in
        let was = before below in
        subst IsKnown (sym (log_stays laws c h t run is e i below)) (log_by_own_turn c h t is e i (log_at c h e i) IsKnown was (λ from a came. known_next laws (log_at c h e i) a was))
    go false k = λ x has. absurd (Contains-none (subst (λ ps. Contains ps x) (ap (λ (l : LogState). l.popped) (made_log laws c h t run is e i k) ∙ unpopped c (t ∷ h) e i) has))

popped_is_known : nodes.Laws → (c : Config) (h : List Turn) → IsRun c h → (e i : ℕ) → IsKnown (log_at c h e i)
popped_is_known laws c [] run e i = λ x has. absurd (Contains-none (subst (λ ps. Contains ps x) (unpopped c [] e i) has))
popped_is_known laws c (t ∷ h) run e i = known_later laws c h t run.1 run.0 e i (λ below. popped_is_known laws c h run.1 e i)

-- ---- what a reply knows is not above pev

fold_start : (v : ℕ) (rs : List Reply) → v ≤ fold (λ w (r : Reply). max w r.known) v rs
fold_start v [] = omega arith
fold_start v (r ∷ rs) = let k = fold_start (max v r.known) rs in omega (arith, k)

fold_has : (v : ℕ) (rs : List Reply) (x : Reply) → Contains rs x → x.known ≤ fold (λ w (r : Reply). max w r.known) v rs
fold_has v [] x has = absurd (Contains-none has)
fold_has v (r ∷ rs) x has = elim (Contains-cases r rs x has) [
  | inl same ↦ (let k = fold_start (max v r.known) rs in let at = ap (λ (y : Reply). y.known) same in omega (arith, k, at))
  | inr later ↦ fold_has (max v r.known) rs x later
]

pub copies_never_removed : Laws → CopyIsNeverRemoved
copies_never_removed laws c h config run b r p q at parent planned x has tag after most version above told =
    let own = laws.contents.nodes in
    let log = log_at c h p.last.epoch x.log in
    let stand = All-contains (λ (y : Reply). StandsAt c h p.last.epoch y.log y.durable y.known) (tally r).replies x (replies_stand_still own c h run b r p at parent) has in
    let known = stand.known_is in
    let low = at_bound log.popped (known_of log) tag (popped_is_known own c h run p.last.epoch x.log) in
    let first = (end_is_of_replies own c h run b r q at planned).first in
    let mine = (plan_is own c h run b r at q planned).first in
    let greatest : x.known ≤ pev_of (tally r) = fold_has 0 (tally r).replies x has in
    laws.not_removed log p.last.epoch tag after most version (omega (arith, known, low, first, mine, greatest, above)) told
