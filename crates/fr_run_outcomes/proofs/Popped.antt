-- What a log has popped stays so, and what it tells at a lock shows all that it had popped before its recoverer began.
use Rattle.std.proofs.Common.{◌≡◌, ℕ, ◌<◌, List, [], ◌∷◌, ◌++◌, Option, None, Some, inl, inr, ◌⊎◌, refl, sym, ◌∙◌, ap, subst}
use Rattle.std.specs.Prelude.{is_some}
use Rattle.std.specs.List.{Contains}
use Rattle.std.proofs.lemmas.Bool.{true≢false}
use Rattle.std.proofs.lemmas.List.Elements.{Contains-append_right}
use Rattle.fr_base.specs.declared.place.NodeId.{NodeId}
use Rattle.fr_base.specs.declared.place.NodeId.TheVariants as node
use Rattle.fr_log.specs.declared.ask.LogAsk.{LogAsk}
use Rattle.fr_log.specs.declared.ask.LogTell.{LogTell}
use Rattle.fr_log.specs.declared.ask.LogTell.TheVariants as ltell
use Rattle.fr_log.specs.declared.popped.PoppedTag.{PoppedTag}
use Rattle.fr_log.specs.LogState.{LogState}
use Rattle.fr_ask.specs.declared.ask.Ask.TheVariants as ask
use Rattle.fr_ask.specs.declared.tell.Tell.TheVariants as tell
use Rattle.fr_epoch.specs.DroppingLaws.{IsShownFrom}
use Rattle.fr_epoch.specs.Recoverer.{RecState}
use Rattle.fr_run.specs.AskLaws.{SentIsAccounted}
use Rattle.fr_run.specs.Config.{Config}
use Rattle.fr_run.specs.Laws.{Laws}
use Rattle.fr_run.specs.Nodes.{rec_at, logs_at, log_at}
use Rattle.fr_run.specs.Run.{IsTurn, IsRun, StorageMayAsk}
use Rattle.fr_run.specs.Turn.{Turn, Begun, CellTurn, LogTurn, SeqTurn, Submitted, ProxyHeard, RecHeard, StorageHeard, Gone, Crashed, Sent, TellsBy, Told}
use Rattle.fr_run.proofs.Growth.{log_stays}
use Rattle.fr_run_headline.proofs.LogChanges.{popped_change}
use Rattle.fr_run_headline.proofs.Logs.{log_by_own_turn, logs_stay}
use Rattle.fr_run_headline.proofs.Shown.{raised_keeps}
use Rattle.fr_run_outcomes.proofs.Going.{begun_stays}
use Rattle.fr_run_outcomes.proofs.Rooms.{no_server}

-- ---- it stays

-- a log that is there has a tag popped at least so far
pub record HasPopped (c : Config) (h : List Turn) (e i tag v : ℕ) : Type 0 where
  pub there : i < logs_at c h e
  pub popped : IsShownFrom (log_at c h e i).popped tag v

popped_on : Laws → (c : Config) (h : List Turn) (t : Turn) → IsRun c h → IsTurn c h t → (e i tag v : ℕ) → HasPopped c h e i tag v → HasPopped c (t ∷ h) e i tag v
popped_on laws c h t run is e i tag v k = record {
  there = subst (λ n. i < n) (sym (logs_stay laws c h t run is e i k.there)) k.there;
  popped = subst (λ (l : LogState). IsShownFrom l.popped tag v) (sym (log_stays laws c h t run is e i k.there))
      (log_by_own_turn c h t is e i (log_at c h e i) (λ l. IsShownFrom l.popped tag v) k.popped (λ from a came.
      popped_change (λ ps. IsShownFrom ps tag v) (log_at c h e i) a k.popped (λ epoch u through at none le. raised_keeps (log_at c h e i).popped u _ le tag v k.popped)));
}

pub popped_more : Laws → (c : Config) (more h : List Turn) → IsRun c (more ++ h) → (e i tag v : ℕ) → HasPopped c h e i tag v → HasPopped c (more ++ h) e i tag v
popped_more laws c [] h run e i tag v k = k
popped_more laws c (t ∷ more) h run e i tag v k = popped_on laws c (more ++ h) t run.1 run.0 e i tag v (popped_more laws c more h run.1 e i tag v k)

-- ---- a recoverer that has not begun was told nothing

pub not_before : Laws → (c : Config) (t : Turn) (h : List Turn) → IsRun c (t ∷ h) → (b : ℕ) → rec_at c (t ∷ h) b ≡ None → rec_at c h b ≡ None
not_before laws c t h run b none = go (rec_at c h b) refl
  where
    go : (o : Option RecState) → rec_at c h b ≡ o → o ≡ None
    go None at = refl
    go (Some r) at = absurd (true≢false (sym (begun_stays laws c t h run b (ap is_some at)) ∙ ap is_some none))

asked_none : SentIsAccounted → (c : Config) (h : List Turn) → IsRun c h → (b : ℕ) → rec_at c h b ≡ None → (e i : ℕ) (a : LogAsk) → Sent h (node.Recoverer b) (node.Log e i) (ask.Log a) ⊎ StorageMayAsk c h (node.Recoverer b) a → ⊥
asked_none accounted c h run b none e i a (inl sent) =
    let k = accounted c h run (node.Recoverer b) (node.Log e i) (ask.Log a) sent in
    let d : None ≡ Some k.0 = sym none ∙ k.1 in
    absurd (cc)
asked_none accounted c h run b none e i a (inr may) = no_server c h b a may

told_none : Laws → SentIsAccounted → (c : Config) (h : List Turn) → IsRun c h → (b : ℕ) → rec_at c h b ≡ None → (e i : ℕ) (u : LogTell) → Told h (node.Log e i) (node.Recoverer b) (tell.Log u) → ⊥
told_none laws accounted c [] run b none e i u k = k
told_none laws accounted c (t ∷ h) run b none e i u (inr k) = told_none laws accounted c h run.1 b (not_before laws c t h run b none) e i u k
told_none laws accounted c (t ∷ h) run b none e i u (inl k) = now t run.0 k
  where
    now : (t : Turn) → IsTurn c h t → TellsBy t (node.Log e i) (node.Recoverer b) (tell.Log u) → ⊥
    now (Begun x shape asks) is k = k
    now (CellTurn from j a v) is (at, own, says) = (let d : node.Cell j ≡ node.Log e i = at in absurd (cc))
    now (LogTurn from x j a v) is (at, own, says) =
        asked_none accounted c h run.1 b (not_before laws c t h run b none) x j a (subst (λ y. Sent h y (node.Log x j) (ask.Log a) ⊎ StorageMayAsk c h y a) own is.1)
    now (SeqTurn from x a v) is (at, own, says) = (let d : node.Sequencer x ≡ node.Log e i = at in absurd (cc))
    now (Submitted x p step batch asks) is k = k
    now (ProxyHeard x p from v outcome asks) is k = k
    now (RecHeard x from v asks) is k = k
    now (StorageHeard tag from v taken fault) is k = k
    now (Gone who) is k = k
    now (Crashed who) is k = k

-- ---- what is told later shows it

-- a log that told a recoverer what it had popped was up at an earlier moment, and showed what it had popped then
pub record IsToldSince (c : Config) (h : List Turn) (e i : ℕ) (popped : List PoppedTag) : Type 0 where
  pub up : Contains h (Gone (node.Log e i)) → ⊥
  pub shown : (tag v : ℕ) → HasPopped c h e i tag v → IsShownFrom popped tag v

pub told_since : Laws → SentIsAccounted → (c : Config) (more h : List Turn) → IsRun c (more ++ h) → (b : ℕ) → rec_at c h b ≡ None → (e i d f : ℕ) (ps : List PoppedTag)
    → Told (more ++ h) (node.Log e i) (node.Recoverer b) (tell.Log (ltell.Locked d f ps)) → IsToldSince c h e i ps
told_since laws accounted c [] h run b none e i d f ps k = absurd (told_none laws accounted c h run b none e i (ltell.Locked d f ps) k)
told_since laws accounted c (t ∷ more) h run b none e i d f ps (inr k) = told_since laws accounted c more h run.1 b none e i d f ps k
told_since laws accounted c (t ∷ more) h run b none e i d f ps (inl k) = now t run.0 k
  where
    at_log : (y j : ℕ) (from : NodeId) (a : LogAsk) (u : LogTell) → IsTurn c (more ++ h) (LogTurn from y j a u) → u ≡ ltell.Locked d f ps → IsToldSince c h y j ps
    at_log y j from a u is says =
        let answer = laws.log_answers (log_at c (more ++ h) y j) a (ltell.Locked d f ps) (sym is.2 ∙ says) in
        record {
          up = λ gone. is.0.up (Contains-append_right more h (Gone (node.Log y j)) gone);
          shown = λ tag v was. subst (λ qs. IsShownFrom qs tag v) (sym answer.popped_is) (popped_more laws c more h run.1 y j tag v was).popped;
        }

    now : (t : Turn) → IsTurn c (more ++ h) t → TellsBy t (node.Log e i) (node.Recoverer b) (tell.Log (ltell.Locked d f ps)) → IsToldSince c h e i ps
    now (Begun x shape asks) is k = absurd k
    now (CellTurn from j a u) is (at, own, says) = (let x : node.Cell j ≡ node.Log e i = at in absurd (cc))
    now (LogTurn from y j a u) is (at, own, says) =
        let x : y ≡ e = cc in
        let z : j ≡ i = cc in
        let v : u ≡ ltell.Locked d f ps = cc in
        subst (λ w. IsToldSince c h w i ps) x (subst (λ w. IsToldSince c h y w ps) z (at_log y j from a u is v))
    now (SeqTurn from y a u) is (at, own, says) = (let x : node.Sequencer y ≡ node.Log e i = at in absurd (cc))
    now (Submitted y p step batch asks) is k = absurd k
    now (ProxyHeard y p from u outcome asks) is k = absurd k
    now (RecHeard x from u asks) is k = absurd k
    now (StorageHeard tag from u taken fault) is k = absurd k
    now (Gone who) is k = absurd k
    now (Crashed who) is k = absurd k
