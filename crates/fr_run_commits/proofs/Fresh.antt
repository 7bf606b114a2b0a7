-- While a run goes on by own turns of a ballot, its epoch numbers nothing, and its proxies and its sequencer stay new and up.
use Rattle.std.proofs.Common.{◌≡◌, ℕ, ◌+◌, ◌<◌, ◌^◌, true, false, not, nat_lt, ◌||◌, List, [], ◌∷◌, ◌++◌, Option, None, Some, inl, inr, refl, sym, ◌∙◌, ap, subst}
use Rattle.std.specs.List.{Contains, All}
use Rattle.std.proofs.lemmas.Bool.{and_parts, ne_eqb, lt-leb, true≢false}
use Rattle.std.proofs.lemmas.List.Elements.{All-head, All-tail}
use Rattle.fr_base.specs.declared.place.NodeId.TheVariants as node
use Rattle.fr_state.specs.Generations.{LogGeneration}
use Rattle.fr_proxy.specs.Proxy.{ProxyState, takes_batch}
use Rattle.fr_proxy.specs.Sequencer.{new_sequencer}
use Rattle.fr_run.specs.Config.{Config, first_epoch}
use Rattle.fr_run.specs.Laws.{Laws}
use Rattle.fr_run.specs.Nodes.{rec_at, generation_at, mark_version, is_open_in, is_open, proxy_after, proxy_from, new_proxy_in, proxy_at}
use Rattle.fr_run.specs.Run.{IsTurn, IsRun, MayBegin}
use Rattle.fr_run.specs.Turn.{Turn, Begun, CellTurn, LogTurn, SeqTurn, Submitted, ProxyHeard, RecHeard, StorageHeard, Gone, Crashed}
use Rattle.fr_run.proofs.Cells.{Contains-none, Contains-cases}
use Rattle.fr_run.proofs.Growth.{open_stays}
use Rattle.fr_run_headline.specs.Numbers.{numbers}
use Rattle.fr_run_headline.proofs.Numbers.{closed}
use Rattle.fr_run_headline.proofs.ProxyRule.{shut_run}
use Rattle.fr_run_outcomes.specs.Going.{IsOwn, GoesOn}

-- ---- own turns

own_numbers : (b : ℕ) (t : Turn) (h : List Turn) → IsOwn b t → (e : ℕ) → numbers (t ∷ h) e ≡ numbers h e
own_numbers b (Begun x shape asks) h own e = refl
own_numbers b (CellTurn from i a u) h own e = refl
own_numbers b (LogTurn from x i a u) h own e = refl
own_numbers b (SeqTurn from x a u) h own e = absurd own
own_numbers b (Submitted x p step batch asks) h own e = refl
own_numbers b (ProxyHeard x p from u outcome asks) h own e = refl
own_numbers b (RecHeard x from u asks) h own e = refl
own_numbers b (StorageHeard tag from u taken fault) h own e = refl
own_numbers b (Gone who) h own e = refl
own_numbers b (Crashed who) h own e = refl

own_proxy : (b : ℕ) (t : Turn) → IsOwn b t → (e p : ℕ) (s : ProxyState) → proxy_after t e p s ≡ s
own_proxy b (Begun x shape asks) own e p s = refl
own_proxy b (CellTurn from i a u) own e p s = refl
own_proxy b (LogTurn from x i a u) own e p s = refl
own_proxy b (SeqTurn from x a u) own e p s = refl
own_proxy b (Submitted x q step batch asks) own e p s = absurd own
own_proxy b (ProxyHeard x q from u outcome asks) own e p s = absurd own
own_proxy b (RecHeard x from u asks) own e p s = refl
own_proxy b (StorageHeard tag from u taken fault) own e p s = refl
own_proxy b (Gone who) own e p s = refl
own_proxy b (Crashed who) own e p s = refl

numbers_left : (b : ℕ) (more h : List Turn) → All (IsOwn b) more → (e : ℕ) → numbers (more ++ h) e ≡ numbers h e
numbers_left b [] h own e = refl
numbers_left b (t ∷ more) h own e = own_numbers b t (more ++ h) (All-head (IsOwn b) t more own) e ∙ numbers_left b more h (All-tail (IsOwn b) t more own) e

proxy_left : (b : ℕ) (more h : List Turn) → All (IsOwn b) more → (e p : ℕ) (s : ProxyState) → proxy_from s (more ++ h) e p ≡ proxy_from s h e p
proxy_left b [] h own e p s = refl
proxy_left b (t ∷ more) h own e p s = own_proxy b t (All-head (IsOwn b) t more own) e p (proxy_from s (more ++ h) e p) ∙ proxy_left b more h (All-tail (IsOwn b) t more own) e p s

-- ---- a ballot that has not begun

shut : (c : Config) (h : List Turn) (b : ℕ) → MayBegin b → rec_at c h b ≡ None → is_open c h b ≡ false
shut c h b may none = ap (λ x. x || is_open_in (rec_at c h b)) (ne_eqb b first_epoch may.0) ∙ ap is_open_in none

-- what went was there, so its epoch was open
sequencer_was : Laws → (c : Config) (h : List Turn) → IsRun c h → (e : ℕ) → Contains h (Gone (node.Sequencer e)) → is_open c h e ≡ true
sequencer_was laws c [] run e k = absurd (Contains-none k)
sequencer_was laws c (t ∷ h) run e k = elim (Contains-cases t h (Gone (node.Sequencer e)) k) [
  | inl now ↦ open_stays laws c h t run.1 run.0 e (subst (IsTurn c h) now run.0).0.there
  | inr before ↦ open_stays laws c h t run.1 run.0 e (sequencer_was laws c h run.1 e before)
]

proxy_was : Laws → (c : Config) (h : List Turn) → IsRun c h → (e p : ℕ) → Contains h (Gone (node.Proxy e p)) → is_open c h e ≡ true
proxy_was laws c [] run e p k = absurd (Contains-none k)
proxy_was laws c (t ∷ h) run e p k = elim (Contains-cases t h (Gone (node.Proxy e p)) k) [
  | inl now ↦ open_stays laws c h t run.1 run.0 e (and_parts (is_open c h e) (nat_lt p c.proxies) (subst (IsTurn c h) now run.0).0.there).0
  | inr before ↦ open_stays laws c h t run.1 run.0 e (proxy_was laws c h run.1 e p before)
]

pub no_sequencer : Laws → (c : Config) (h : List Turn) → IsRun c h → (b : ℕ) → MayBegin b → rec_at c h b ≡ None → Contains h (Gone (node.Sequencer b)) → ⊥
no_sequencer laws c h run b may none k = true≢false (sym (sequencer_was laws c h run b k) ∙ shut c h b may none)

pub no_proxy : Laws → (c : Config) (h : List Turn) → IsRun c h → (b p : ℕ) → MayBegin b → rec_at c h b ≡ None → Contains h (Gone (node.Proxy b p)) → ⊥
no_proxy laws c h run b p may none k = true≢false (sym (proxy_was laws c h run b p k) ∙ shut c h b may none)

-- ---- later on

pub none_numbered : Laws → (c : Config) (b : ℕ) (h later : List Turn) → IsRun c h → GoesOn c b h later → MayBegin b → rec_at c h b ≡ None → numbers later b ≡ []
none_numbered laws c b h later run k may none =
    ap (λ l. numbers l b) (sym k.is) ∙ numbers_left b k.more h k.own b ∙ (closed laws c h run b (shut c h b may none) (new_sequencer b (mark_version (generation_at c h b)))).1

pub still_new : Laws → (c : Config) (b p : ℕ) (h later : List Turn) → IsRun c h → GoesOn c b h later → MayBegin b → rec_at c h b ≡ None → proxy_at c later b p ≡ new_proxy_in c (generation_at c later b) b p
still_new laws c b p h later run k may none =
    ap (λ l. proxy_from (new_proxy_in c (generation_at c later b) b p) l b p) (sym k.is) ∙ proxy_left b k.more h k.own b p (new_proxy_in c (generation_at c later b) b p)
    ∙ (shut_run laws c h run b p (shut c h b may none) (new_proxy_in c (generation_at c later b) b p)).0

-- a new proxy takes a batch
pub new_takes : (c : Config) (o : Option LogGeneration) (e p : ℕ) → 1 < 2 ^ 62 → takes_batch (new_proxy_in c o e p) ≡ true
new_takes c None e p some = ap (λ x. not x) (lt-leb (2 ^ 62) (0 + 1) some)
new_takes c (Some g) e p some = ap (λ x. not x) (lt-leb (2 ^ 62) (0 + 1) some)
