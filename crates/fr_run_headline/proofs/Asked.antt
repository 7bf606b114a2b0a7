-- A mark that a log told is the state of a chosen epoch, and records that it told were asked for.
use Rattle.std.proofs.Common.{◌≡◌, ℕ, ◌<◌, List, ◌∷◌, inl, inr, ◌⊎◌, sym, ◌∙◌, ap, subst}
use Rattle.std.proofs.lemmas.Bool.{ltb-true}
use Rattle.fr_base.specs.declared.place.NodeId.{NodeId}
use Rattle.fr_base.specs.declared.place.NodeId.TheVariants as node
use Rattle.fr_log.specs.declared.ask.LogAsk.{LogAsk}
use Rattle.fr_log.specs.declared.ask.LogAsk.TheVariants.{Peek}
use Rattle.fr_log.specs.declared.ask.LogTell.TheVariants.{Peeked}
use Rattle.fr_log.specs.Peeked.{PeekedContent}
use Rattle.fr_ask.specs.declared.ask.Ask.TheVariants as ask
use Rattle.fr_run.specs.Config.{Config}
use Rattle.fr_run.specs.Turn.{Turn, LogTurn, Sent}
use Rattle.fr_run.specs.Nodes.{logs_at, log_at}
use Rattle.fr_run.specs.Run.{IsTurn, IsRun, StorageMayAsk, WantsSome}
use Rattle.fr_run.specs.Laws.{Laws}
use Rattle.fr_run.proofs.Accounts.{sent_is_accounted}
use Rattle.fr_run.proofs.Chosen.{open_is_chosen}
use Rattle.fr_run_headline.specs.TellLaws.{MarkedIsChosen, IsPeekAsked, PeekedIsAsked, PeekedIsOwn}
use Rattle.fr_run_headline.proofs.Marks.{told_turn, marked_is_state}
use Rattle.fr_run_headline.proofs.Logs.{peek_later}
use Rattle.fr_run_headline.proofs.Named.{log_named}

pub marked_is_chosen : Laws → MarkedIsChosen
marked_is_chosen laws c h run e i to x told =
    let k = marked_is_state laws c h run e i to x told in
    (open_is_chosen laws c h run e k.opened, k.state)

-- what was asked stays asked
asked_later : (c : Config) (h : List Turn) (t : Turn) (e i : ℕ) (from : NodeId) (tag after : ℕ) → IsPeekAsked c h e i from tag after → IsPeekAsked c (t ∷ h) e i from tag after
asked_later c h t e i from tag after k = record { most = k.most; some = k.some; asked = elim k.asked [ inl sent ↦ inl (inr sent) | inr may ↦ inr (peek_later c h t from e tag after k.most may) ] }

pub peeked_is_asked : Laws → PeekedIsAsked
peeked_is_asked laws c h run e i to p = told_turn c (λ h. IsPeekAsked c h e i to p.tag p.after) e i to (Peeked p) (λ h t run is k. asked_later c h t e i to p.tag p.after k) now h run
  where
    now : (h : List Turn) (a : LogAsk) → IsRun c h → IsTurn c h (LogTurn to e i a (Peeked p)) → IsPeekAsked c (LogTurn to e i a (Peeked p) ∷ h) e i to p.tag p.after
    now h a run is =
        let below : i < logs_at c h e = ltb-true i (logs_at c h e) is.0.there in
        let l = log_at c h e i in
        let k = laws.log_answers l a (Peeked p) (sym is.2) in
        let epoch : l.epoch ≡ e = (log_named laws c h run e i below).epoch in
        let tag : k.tag ≡ p.tag = sym (ap (λ (x : PeekedContent). x.tag) k.value) in
        let after : k.after ≡ p.after = sym (ap (λ (x : PeekedContent). x.after) k.value) in
        let asked : a ≡ Peek e p.tag p.after k.most = k.ask ∙ ap (λ x. Peek x k.tag k.after k.most) epoch ∙ ap (λ x. Peek e x k.after k.most) tag ∙ ap (λ x. Peek e p.tag x k.most) after in
        asked_later c h (LogTurn to e i a (Peeked p)) e i to p.tag p.after (record {
          most = k.most;
          some = subst WantsSome asked is.3;
          asked = subst (λ x. Sent h to (node.Log e i) (ask.Log x) ⊎ StorageMayAsk c h to x) asked is.1;
        })

pub peeked_is_own : Laws → PeekedIsOwn
peeked_is_own laws c h run e i t p told =
    let k = peeked_is_asked laws c h run e i (node.Storage t) p told in
    elim k.asked [
      | inl sent ↦ absurd (sent_is_accounted laws c h run (node.Storage t) (node.Log e i) (ask.Log (Peek e p.tag p.after k.most)) sent)
      | inr may ↦ (sym may.0, may.1)
    ]
