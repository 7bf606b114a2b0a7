-- What a recoverer has found by its phase, and answers of logs.
use Rattle.std.proofs.Common.{◌≡◌, ℕ, true, List, [], ◌∷◌, ◌++◌, Option, None, Some, inl, inr, ◌⊎◌, refl, sym, ◌∙◌, ap, subst}
use Rattle.std.specs.Prelude.{IfSome, is_some}
use Rattle.fr_base.specs.declared.place.NodeId.TheVariants as node
use Rattle.fr_log.specs.Step.{answer_of}
use Rattle.fr_log.specs.declared.ask.LogAsk.{LogAsk}
use Rattle.fr_ask.specs.declared.ask.Ask.TheVariants as ask
use Rattle.fr_ask.specs.declared.tell.Tell.{Tell}
use Rattle.fr_ask.specs.declared.tell.Tell.TheVariants as tell
use Rattle.fr_epoch.specs.Recoverer.{RecState, Phase, Parent, Plan, Reading, Locking, Copying, Writing, Chosen, Lost}
use Rattle.fr_epoch.specs.Words.{Word, word_of}
use Rattle.fr_epoch.specs.Hear.{after_hear}
use Rattle.fr_epoch.specs.Change.{Change, Stands, LosesReads, Reads, Finds, Locks, LosesLocks, Plans, Copies, Seeds, SeedsAll, Writes, LosesWrites, Chooses, Marks}
use Rattle.fr_run.specs.Config.{Config}
use Rattle.fr_run.specs.Turn.{Turn, LogTurn, Sent}
use Rattle.fr_run.specs.Nodes.{rec_at, log_at}
use Rattle.fr_run.specs.Run.{IsUp, IsTurn, IsRun, StorageMayAsk}
use Rattle.fr_run.specs.Laws.{Laws}
use Rattle.fr_run.proofs.ByTurn.{rec_by_turn}
use Rattle.fr_run_rounds.specs.Rounds.{WasAnswered}

-- ---- phases

-- one that locks has a parent, and one that copies has a parent and a plan
record HasFound (r : RecState) : Type 0 where
  locking : r.phase ≡ Locking → is_some r.parent ≡ true
  copying : r.phase ≡ Copying → (is_some r.parent ≡ true) × (is_some r.plan ≡ true)

neither : (r : RecState) (ph : Phase) → r.phase ≡ ph → (ph ≡ Locking → ⊥) → (ph ≡ Copying → ⊥) → HasFound r
neither r ph is not_locks not_copies = record { locking = λ e. absurd (not_locks (sym is ∙ e)); copying = λ e. absurd (not_copies (sym is ∙ e)) }

found_change : (r : RecState) (w : Word) (n : RecState) → Change r w n → HasFound r → HasFound n
found_change r w n Stands k = k
found_change r w n (LosesReads i t y heard) k = neither n (Lost y) refl (λ e. absurd (cc)) (λ e. absurd (cc))
found_change r w n (Reads i t heard) k = neither n Reading heard.phase (λ e. absurd (cc)) (λ e. absurd (cc))
found_change r w n (Finds i t s g heard found) k = record { locking = λ e. refl; copying = λ e. (let d : Locking ≡ Copying = e in absurd (cc)) }
found_change r w n (Locks p end i d f ps heard) k = record { locking = λ e. ap is_some heard.parent; copying = λ e. (let d : Locking ≡ Copying = sym heard.phase ∙ e in absurd (cc)) }
found_change r w n (LosesLocks p end i d f ps y heard) k = neither n (Lost y) refl (λ e. absurd (cc)) (λ e. absurd (cc))
found_change r w n (Plans p end i d f ps s heard fixed) k = record { locking = λ e. (let d : Copying ≡ Locking = e in absurd (cc)); copying = λ e. (ap is_some heard.parent, refl) }
found_change r w n (Copies parent p i peeked given) k = record { locking = λ e. (let d : Copying ≡ Locking = sym given.phase ∙ e in absurd (cc)); copying = λ e. (ap is_some given.parent_is, refl) }
found_change r w n (Seeds p i new not_yet) k = record { locking = λ e. (let d : Copying ≡ Locking = sym new.phase ∙ e in absurd (cc)); copying = λ e. ((k.copying new.phase).0, (k.copying new.phase).1) }
found_change r w n (SeedsAll p i new all) k = neither n Writing refl (λ e. absurd (cc)) (λ e. absurd (cc))
found_change r w n (Writes i t heard) k = neither n Writing heard.phase (λ e. absurd (cc)) (λ e. absurd (cc))
found_change r w n (LosesWrites i t y heard) k = neither n (Lost y) refl (λ e. absurd (cc)) (λ e. absurd (cc))
found_change r w n (Chooses i t heard m) k = neither n Chosen refl (λ e. absurd (cc)) (λ e. absurd (cc))
found_change r w n (Marks p i new) k = neither n Chosen new.phase (λ e. absurd (cc)) (λ e. absurd (cc))

have_found : Laws → (c : Config) (h : List Turn) → IsRun c h → (b : ℕ) → IfSome (rec_at c h b) HasFound
have_found laws c [] run b = tt
have_found laws c (t ∷ h) run b =
    rec_by_turn c h t run.0 b (λ o. IfSome o HasFound) (have_found laws c h run.1 b)
    (λ shape none may is. record { locking = λ e. (let d : Reading ≡ Locking = e in absurd (cc)); copying = λ e. (let d : Reading ≡ Copying = e in absurd (cc)) })
    (λ r from u at told. found_change r (word_of from u) (after_hear r from u) (laws.rec_change r from u) (subst (λ o. IfSome o HasFound) at (have_found laws c h run.1 b)))

has_found : Laws → (c : Config) (h : List Turn) → IsRun c h → (b : ℕ) (r : RecState) → rec_at c h b ≡ Some r → HasFound r
has_found laws c h run b r at = subst (λ o. IfSome o HasFound) at (have_found laws c h run b)

some_of : {X : Type 0} (o : Option X) → is_some o ≡ true → (x : X) × (o ≡ Some x)
some_of None e = absurd (cc)
some_of (Some x) e = (x, refl)

pub locking_parent : Laws → (c : Config) (h : List Turn) → IsRun c h → (b : ℕ) (r : RecState) → rec_at c h b ≡ Some r → r.phase ≡ Locking → (p : Parent) × (r.parent ≡ Some p)
locking_parent laws c h run b r at phase = some_of r.parent ((has_found laws c h run b r at).locking phase)

pub copying_parent : Laws → (c : Config) (h : List Turn) → IsRun c h → (b : ℕ) (r : RecState) → rec_at c h b ≡ Some r → r.phase ≡ Copying → (p : Parent) × (r.parent ≡ Some p)
copying_parent laws c h run b r at phase = some_of r.parent ((has_found laws c h run b r at).copying phase).0

pub copying_plan : Laws → (c : Config) (h : List Turn) → IsRun c h → (b : ℕ) (r : RecState) → rec_at c h b ≡ Some r → r.phase ≡ Copying → (q : Plan) × (r.plan ≡ Some q)
copying_plan laws c h run b r at phase = some_of r.plan ((has_found laws c h run b r at).copying phase).1

-- ---- answers of logs

-- a log's answer to an ask, at the moment at which it gave it, from which the run went on
pub record LogAnswer (c : Config) (h : List Turn) (b e i : ℕ) (a : LogAsk) (u : Tell) : Type 0 where
  pub past : List Turn
  pub more : List Turn
  pub later : more ++ past ≡ h
  pub run : IsRun c past
  pub up : IsUp c past (node.Log e i)
  pub sent : Sent past (node.Recoverer b) (node.Log e i) (ask.Log a)
  pub is : u ≡ tell.Log (answer_of (log_at c past e i) a)

pub log_answer : (c : Config) (h : List Turn) → IsRun c h → (b e i : ℕ) (a : LogAsk) (u : Tell) → WasAnswered c h b (node.Log e i) (ask.Log a) u → LogAnswer c h b e i a u
log_answer c [] run b e i a u k = absurd k
log_answer c (t ∷ h) run b e i a u (inr k) =
    let r = log_answer c h run.1 b e i a u k in
    record { past = r.past; more = t ∷ r.more; later = ap (λ xs. t ∷ xs) r.later; run = r.run; up = r.up; sent = r.sent; is = r.is }
log_answer c (t ∷ h) run b e i a u (inl k) =
    let turn : IsTurn c h (LogTurn (node.Recoverer b) e i a (answer_of (log_at c h e i) a)) = subst (IsTurn c h) k.0 run.0 in
    record { past = h; more = t ∷ []; later = refl; run = run.1; up = turn.0; sent = asked turn.1; is = k.1 }
  where
    asked : Sent h (node.Recoverer b) (node.Log e i) (ask.Log a) ⊎ StorageMayAsk c h (node.Recoverer b) a → Sent h (node.Recoverer b) (node.Log e i) (ask.Log a)
    asked (inl sent) = sent
    asked (inr may) = absurd may
