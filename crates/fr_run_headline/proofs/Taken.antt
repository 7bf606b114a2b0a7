-- Each number has the batch of its request, and keeps it.
use Rattle.std.proofs.Common.{◌≡◌, ℕ, zero, suc, ◌-◌, ◌<◌, Bool, true, false, cond, ◌==◌, List, [], ◌∷◌, length, reverse, Option, None, Some, inl, inr, ◌⊎◌, refl, sym, ◌∙◌, ap, subst, arith}
use Rattle.std.specs.List.{Contains}
use Rattle.std.specs.Prelude.{slice_get}
use Rattle.std.specs.FinMap.{get}
use Rattle.std.proofs.lemmas.Bool.{eqb-true}
use Rattle.std.proofs.lemmas.List.{length-reverse}
use Rattle.fr_mutation.specs.declared.mutation.Mutation.{Mutation}
use Rattle.fr_ask.specs.declared.sequencer.SeqAsk.TheVariants.{Next}
use Rattle.fr_ask.specs.declared.sequencer.SeqTell.{SeqTell}
use Rattle.fr_ask.specs.declared.sequencer.SeqTell.TheVariants as stell
use Rattle.fr_ask.specs.declared.sequencer.SeqRefusal.{SeqRefusal}
use Rattle.fr_proxy.specs.Sequencer.{SeqState, is_of, new_number, new_refusal, told_unless, told_before, answer_of}
use Rattle.fr_proxy.specs.declared.number.Number.{Number}
use Rattle.fr_run.specs.Config.{Config}
use Rattle.fr_run.specs.Turn.{Turn, Begun, CellTurn, LogTurn, SeqTurn, Submitted, ProxyHeard, RecHeard, StorageHeard, Gone, Crashed}
use Rattle.fr_run.specs.Nodes.{seq_at, proxy_at}
use Rattle.fr_run.specs.Run.{IsTurn, IsRun}
use Rattle.fr_run.specs.Batches.{batches, batch_at}
use Rattle.fr_run.specs.Laws.{Laws}
use Rattle.fr_run.proofs.Cells.{Contains-none, Contains-cases}
use Rattle.fr_run_headline.specs.Numbers.{Numbering, is_above, with_number, numbers}
use Rattle.fr_run_headline.proofs.Requests.{next_is_own}
use Rattle.fr_run_headline.proofs.Proxies.{batch_stays, requests_are}

-- a number with its batch
pub record HasBatch (h : List Turn) (e : ℕ) (n : Numbering) : Type 0 where
  pub batch : List Mutation
  pub at : batch_at h e n.proxy n.request ≡ Some batch

-- a number that is told is of the request that was asked
answers_request : (s : SeqState) (p r step : ℕ) (q prev v : ℕ) → answer_of s (Next p r step) ≡ stell.Numbered q prev v → q ≡ r
answers_request s p r step q prev v = go (get s.given p) (is_of r (get s.given p)) refl
  where
    unless : (o : Option SeqRefusal) → told_unless o (new_number s r step) ≡ stell.Numbered q prev v → q ≡ r
    unless None e = let k : r ≡ q = cc in sym k
    unless (Some why) e = absurd (cc)

    go : (o : Option Number) (b : Bool) → is_of r o ≡ b → cond b (told_before o) (told_unless (new_refusal s o r step) (new_number s r step)) ≡ stell.Numbered q prev v → q ≡ r
    go None true k e = absurd (cc)
    go (Some n) true k e = let d : n.request ≡ q = cc in sym d ∙ eqb-true n.request r k
    go o false k e = unless (new_refusal s o r step) e

-- a number among those after one more tell was there before, or is the one told
with_number_asked : (p : ℕ) (t : SeqTell) (ns : List Numbering) (n : Numbering) → Contains (with_number p t ns) n → Contains ns n ⊎ ((t ≡ stell.Numbered n.request n.prev n.version) × (p ≡ n.proxy))
with_number_asked p (stell.Numbered r prev v) ns n k = go (is_above v ns) k
  where
    go : (b : Bool) → Contains (cond b (record { proxy = p; request = r; prev = prev; version = v } ∷ ns) ns) n → Contains ns n ⊎ ((stell.Numbered r prev v ≡ stell.Numbered n.request n.prev n.version) × (p ≡ n.proxy))
    go true k = elim (Contains-cases (record { proxy = p; request = r; prev = prev; version = v }) ns n k) [
      | inl e ↦ inr (ap (λ (x : Numbering). stell.Numbered x.request x.prev x.version) e, ap (λ (x : Numbering). x.proxy) e)
      | inr m ↦ inl m
    ]
    go false k = inl k
with_number_asked p (stell.Refused why) ns n k = inl k

-- a list has an element at each place below its length
has_some : {X : Type 0} (xs : List X) (i : ℕ) → i < length xs → (x : X) × (slice_get xs i ≡ Some x)
has_some [] i l = absurd (omega arith)
has_some (x ∷ xs) zero l = (x, refl)
has_some (x ∷ xs) (suc i) l = has_some xs i (omega arith)

pub number_has_batch : Laws → (c : Config) (h : List Turn) → IsRun c h → (e : ℕ) (n : Numbering) → Contains (numbers h e) n → HasBatch h e n
number_has_batch laws c [] run e n k = absurd (Contains-none k)
number_has_batch laws c (t ∷ h) run e n k = now t run.0 (λ m. number_has_batch laws c h run.1 e n m) k
  where
    keep : (t : Turn) → HasBatch h e n → HasBatch (t ∷ h) e n
    keep t b = record { batch = b.batch; at = batch_stays t h e n.proxy n.request b.batch b.at }

    now : (t : Turn) → IsTurn c h t → (Contains (numbers h e) n → HasBatch h e n) → Contains (numbers (t ∷ h) e) n → HasBatch (t ∷ h) e n
    now (Begun b shape asks) is old k = keep (Begun b shape asks) (old k)
    now (CellTurn from i a u) is old k = keep (CellTurn from i a u) (old k)
    now (LogTurn from x i a u) is old k = keep (LogTurn from x i a u) (old k)
    now (SeqTurn from x (Next p r step) u) is old k = go (x == e) refl k
      where
        go : (b : Bool) → (x == e) ≡ b → Contains (cond b (with_number p u (numbers h e)) (numbers h e)) n → HasBatch (SeqTurn from x (Next p r step) u ∷ h) e n
        go false at m = keep (SeqTurn from x (Next p r step) u) (old m)
        go true at m = elim (with_number_asked p u (numbers h e) n m) [
          | inl mine ↦ keep (SeqTurn from x (Next p r step) u) (old mine)
          | inr (says, own) ↦
              let asked = next_is_own laws c h run.1 from x p r step is.1 in
              let request : n.request ≡ r = answers_request (seq_at c h x) p r step n.request n.prev n.version (sym is.2 ∙ says) in
              let here : x ≡ e = eqb-true x e at in
              let count : (proxy_at c h x p).requests ≡ length (batches h x p) = requests_are c h x p in
              let size : length (reverse (batches h x p)) ≡ length (batches h x p) = length-reverse (batches h x p) in
              let low = asked.low in
              let high = asked.high in
              let b = has_some (reverse (batches h x p)) (n.request - 1) (omega (arith, request, count, size, low, high)) in
              let taken : batch_at h e n.proxy n.request ≡ Some b.0 = subst (λ y. batch_at h y n.proxy n.request ≡ Some b.0) here (subst (λ q. batch_at h x q n.request ≡ Some b.0) own b.1) in
              record { batch = b.0; at = batch_stays (SeqTurn from x (Next p r step) u) h e n.proxy n.request b.0 taken }
        ]
    now (Submitted x p step batch asks) is old k = keep (Submitted x p step batch asks) (old k)
    now (ProxyHeard x p from u outcome asks) is old k = keep (ProxyHeard x p from u outcome asks) (old k)
    now (RecHeard b from u asks) is old k = keep (RecHeard b from u asks) (old k)
    now (StorageHeard tag from u taken fault) is old k = keep (StorageHeard tag from u taken fault) (old k)
    now (Gone who) is old k = keep (Gone who) (old k)
    now (Crashed who) is old k = keep (Crashed who) (old k)
