-- What the logs of other epochs hold stays while a run goes on by own turns of a ballot, and so does room.
use Rattle.std.proofs.Common.{◌≡◌, ℕ, ◌+◌, ◌<◌, ◌^◌, Bool, true, false, cond, ◌==◌, ◌&&◌, List, [], ◌∷◌, ◌++◌, Some, inl, inr, ◌⊎◌, refl, sym, ◌∙◌, ap, subst, arith}
use Rattle.std.specs.List.{All}
use Rattle.std.specs.Option.{option_map}
use Rattle.std.proofs.lemmas.Bool.{eqb-true, ne_eqb}
use Rattle.std.proofs.lemmas.List.Elements.{All-head, All-tail}
use Rattle.fr_base.specs.declared.place.NodeId.{NodeId}
use Rattle.fr_base.specs.declared.place.NodeId.TheVariants as node
use Rattle.fr_state.specs.Generations.{LogGeneration, CoordinatedState}
use Rattle.fr_log.specs.Change.{LogChange, Stands, Seeds, Holds, Stops, Pops}
use Rattle.fr_log.specs.Law.{AskIsChange}
use Rattle.fr_log.specs.LogState.{LogState, durable_of}
use Rattle.fr_log.specs.Step.{next_of}
use Rattle.fr_log.specs.declared.ask.LogAsk.{LogAsk}
use Rattle.fr_log.specs.declared.ask.LogAsk.TheVariants.{Seed, Push, Lock, Peek, MarkAsked, Pop}
use Rattle.fr_ask.specs.declared.ask.Ask.TheVariants as ask
use Rattle.fr_epoch.specs.Hear.{after_hear}
use Rattle.fr_epoch.specs.Law.{AccountsForLog}
use Rattle.fr_epoch.specs.Recoverer.{RecState, new_recoverer}
use Rattle.fr_run.specs.AskLaws.{SentIsAccounted}
use Rattle.fr_run.specs.Config.{Config, first_epoch, first_log}
use Rattle.fr_run.specs.Laws.{Laws}
use Rattle.fr_run.specs.Nodes.{rec_at, plan_in, new_log_in, new_log, log_after, log_from, log_at}
use Rattle.fr_run.specs.Run.{IsTurn, IsRun, StorageMayAsk}
use Rattle.fr_run.specs.Turn.{Turn, Begun, CellTurn, LogTurn, SeqTurn, Submitted, ProxyHeard, RecHeard, StorageHeard, Gone, Crashed, Sent}
use Rattle.fr_run.proofs.Growth.{rec_is}
use Rattle.fr_run_outcomes.specs.Going.{IsAsker, IsOwn, GoesOn}
use Rattle.fr_run_outcomes.specs.Locking.{HasRoomIn}

-- ---- asks that leave what a log holds

abbrev Leaves : LogAsk → Type 0
Leaves (Seed s) = ⊥
Leaves (Push p) = ⊥
Leaves (Lock x) = Unit {0}
Leaves (Peek x tag after most) = Unit {0}
Leaves (MarkAsked x) = Unit {0}
Leaves (Pop x tag through) = Unit {0}

durable_stays : (l : LogState) (a : LogAsk) (n : LogState) → LogChange l a n → Leaves a → durable_of n ≡ durable_of l
durable_stays l a n Stands k = refl
durable_stays l a n (Seeds s at is) k = absurd (subst Leaves at k)
durable_stays l a n (Holds p at is) k = absurd (subst Leaves at k)
durable_stays l a n (Stops at some) k = refl
durable_stays l a n (Pops tag through at is) k = refl

-- a recoverer seeds and marks logs of its own epoch alone
by_recoverer : (r : RecState) (b e i : ℕ) (a : LogAsk) → r.ballot ≡ b → (e ≡ b → ⊥) → AccountsForLog r e i a → Leaves a
by_recoverer r b e i (Seed s) own other k = other (k.0 ∙ own)
by_recoverer r b e i (Push p) own other k = other (k.0 ∙ own)
by_recoverer r b e i (Lock x) own other k = tt
by_recoverer r b e i (Peek x tag after most) own other k = tt
by_recoverer r b e i (MarkAsked x) own other k = tt
by_recoverer r b e i (Pop x tag through) own other k = tt

-- a storage server none
by_server : (c : Config) (h : List Turn) (t : ℕ) (a : LogAsk) → StorageMayAsk c h (node.Storage t) a → Leaves a
by_server c h t (Seed s) k = k
by_server c h t (Push p) k = k
by_server c h t (Lock x) k = tt
by_server c h t (Peek x tag after most) k = tt
by_server c h t (MarkAsked x) k = tt
by_server c h t (Pop x tag through) k = tt

pub no_server : (c : Config) (h : List Turn) (x : ℕ) (a : LogAsk) → StorageMayAsk c h (node.Recoverer x) a → ⊥
no_server c h x (Seed s) k = k
no_server c h x (Push p) k = k
no_server c h x (Lock y) k = k
no_server c h x (Peek y tag after most) k = k
no_server c h x (MarkAsked y) k = k
no_server c h x (Pop y tag through) k = k

-- so each ask of an own turn to a log of another epoch leaves what that holds
ask_leaves : Laws → SentIsAccounted → (c : Config) (h : List Turn) → IsRun c h → (b : ℕ) (from : NodeId) → IsAsker b from → (e i : ℕ) (a : LogAsk) → (e ≡ b → ⊥) → Sent h from (node.Log e i) (ask.Log a) ⊎ StorageMayAsk c h from a → Leaves a
ask_leaves laws accounted c h run b (node.Cell j) own e i a other came = absurd own
ask_leaves laws accounted c h run b (node.Log y j) own e i a other came = absurd own
ask_leaves laws accounted c h run b (node.Sequencer y) own e i a other came = absurd own
ask_leaves laws accounted c h run b (node.Proxy y p) own e i a other came = absurd own
ask_leaves laws accounted c h run b (node.Recoverer x) own e i a other (inl sent) =
    let k = accounted c h run (node.Recoverer x) (node.Log e i) (ask.Log a) sent in
    by_recoverer k.0 b e i a ((rec_is laws c h run x k.0 k.1).ballot ∙ own) other k.2
ask_leaves laws accounted c h run b (node.Recoverer x) own e i a other (inr may) = absurd (no_server c h x a may)
ask_leaves laws accounted c h run b (node.Storage t) own e i a other (inl sent) = absurd (accounted c h run (node.Storage t) (node.Log e i) (ask.Log a) sent)
ask_leaves laws accounted c h run b (node.Storage t) own e i a other (inr may) = by_server c h t a may

-- ---- turns

-- what a log of another epoch holds stays at an own turn
turn_leaves : Laws → AskIsChange → SentIsAccounted → (c : Config) (h : List Turn) → IsRun c h → (b : ℕ) (t : Turn) → IsTurn c h t → IsOwn b t → (e i : ℕ) → (e ≡ b → ⊥) → (l : LogState) → durable_of (log_after t e i l) ≡ durable_of l
turn_leaves laws changes accounted c h run b (Begun x shape asks) is own e i other l = refl
turn_leaves laws changes accounted c h run b (CellTurn from j a u) is own e i other l = refl
turn_leaves laws changes accounted c h run b (LogTurn from x j a u) is own e i other l = go (x == e) refl (j == i)
  where
    go : (p : Bool) → (x == e) ≡ p → (q : Bool) → durable_of (cond (p && q) (next_of l a) l) ≡ durable_of l
    go true f true = durable_stays l a (next_of l a) (changes l a) (ask_leaves laws accounted c h run b from own x j a (λ same. other (sym (eqb-true x e f) ∙ same)) is.1)
    go true f false = refl
    go false f q = refl
turn_leaves laws changes accounted c h run b (SeqTurn from x a u) is own e i other l = refl
turn_leaves laws changes accounted c h run b (Submitted x p step batch asks) is own e i other l = refl
turn_leaves laws changes accounted c h run b (ProxyHeard x p from u outcome asks) is own e i other l = refl
turn_leaves laws changes accounted c h run b (RecHeard x from u asks) is own e i other l = refl
turn_leaves laws changes accounted c h run b (StorageHeard tag from u taken fault) is own e i other l = refl
turn_leaves laws changes accounted c h run b (Gone who) is own e i other l = refl
turn_leaves laws changes accounted c h run b (Crashed who) is own e i other l = refl

-- so does the recoverer of another ballot
rec_left : (c : Config) (h : List Turn) (b : ℕ) (t : Turn) → IsOwn b t → (e : ℕ) → (e ≡ b → ⊥) → rec_at c (t ∷ h) e ≡ rec_at c h e
rec_left c h b (Begun x shape asks) own e other = ap (λ y. cond y (Some (new_recoverer x c.cells c.begins shape)) (rec_at c h e)) (ne_eqb x e (λ is. other (sym is ∙ own)))
rec_left c h b (CellTurn from j a u) own e other = refl
rec_left c h b (LogTurn from x j a u) own e other = refl
rec_left c h b (SeqTurn from x a u) own e other = refl
rec_left c h b (Submitted x p step batch asks) own e other = refl
rec_left c h b (ProxyHeard x p from u outcome asks) own e other = refl
rec_left c h b (RecHeard x from u asks) own e other = ap (λ y. cond y (option_map (λ s. after_hear s from u) (rec_at c h e)) (rec_at c h e)) (ne_eqb x e (λ is. other (sym is ∙ own)))
rec_left c h b (StorageHeard tag from u taken fault) own e other = refl
rec_left c h b (Gone who) own e other = refl
rec_left c h b (Crashed who) own e other = refl

-- over all turns
record AreLeft (c : Config) (h later : List Turn) (e : ℕ) : Type 0 where
  recoverer : rec_at c later e ≡ rec_at c h e
  held : (i : ℕ) (l : LogState) → durable_of (log_from l later e i) ≡ durable_of (log_from l h e i)

are_left : Laws → AskIsChange → SentIsAccounted → (c : Config) (more h : List Turn) → IsRun c (more ++ h) → (b : ℕ) → All (IsOwn b) more → (e : ℕ) → (e ≡ b → ⊥) → AreLeft c h (more ++ h) e
are_left laws changes accounted c [] h run b own e other = record { recoverer = refl; held = λ i l. refl }
are_left laws changes accounted c (t ∷ more) h run b own e other =
    let before = are_left laws changes accounted c more h run.1 b (All-tail (IsOwn b) t more own) e other in
    let now = All-head (IsOwn b) t more own in
    record {
      recoverer = rec_left c (more ++ h) b t now e other ∙ before.recoverer;
      held = λ i l. turn_leaves laws changes accounted c (more ++ h) run.1 b t run.0 now e i other (log_from l (more ++ h) e i) ∙ before.held i l;
    }

pub durable_left : Laws → AskIsChange → SentIsAccounted → (c : Config) (b : ℕ) (h later : List Turn) → GoesOn c b h later → (e i : ℕ) → (e ≡ b → ⊥) → durable_of (log_at c later e i) ≡ durable_of (log_at c h e i)
durable_left laws changes accounted c b h later k e i other = subst (λ l. durable_of (log_at c l e i) ≡ durable_of (log_at c h e i)) k.is whole
  where
    left : AreLeft c h (k.more ++ h) e
    left = are_left laws changes accounted c k.more h (subst (IsRun c) (sym k.is) k.is_run) b k.own e other

    whole : durable_of (log_at c (k.more ++ h) e i) ≡ durable_of (log_at c h e i)
    whole = left.held i (new_log c (k.more ++ h) e i) ∙ ap (λ o. durable_of (log_from (cond (e == first_epoch) (first_log c i) (new_log_in (plan_in o) e i)) h e i)) left.recoverer

-- ---- room

pub moved : (n d x : ℕ) → x ≡ d → d + 1 < n → x + 1 < n
moved n d x same less = omega (arith, same, less)

pub room_left : Laws → AskIsChange → SentIsAccounted → (c : Config) (b : ℕ) (h later : List Turn) → GoesOn c b h later → (s : CoordinatedState) (g : LogGeneration) → (g.epoch ≡ b → ⊥) → HasRoomIn c h s g → HasRoomIn c later s g
room_left laws changes accounted c b h later k s g other room = record {
  gens = room.gens;
  versions = λ i below. moved (2 ^ 62) (durable_of (log_at c h g.epoch i)) (durable_of (log_at c later g.epoch i)) (durable_left laws changes accounted c b h later k g.epoch i other) (room.versions i below);
}
