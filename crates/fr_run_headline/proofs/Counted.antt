-- The requests of each proxy's numbers count from 1, and the sequencer knows the last one.
use Rattle.std.proofs.Common.{◌≡◌, ℕ, ◌+◌, ◌≤◌, ◌^◌, nat_le, Bool, true, false, cond, ◌==◌, List, [], ◌∷◌, Option, None, Some, refl, sym, ◌∙◌, ap, subst, arith}
use Rattle.std.specs.Prelude.{IfSome}
use Rattle.std.specs.List.{Contains}
use Rattle.std.specs.Ordering.{nat_cmp}
use Rattle.std.specs.Cmp.{unsigned_tied}
use Rattle.std.proofs.lemmas.Cmp.{nat_cmp_total}
use Rattle.std.specs.FinMap.{get, insert, get-insert, get-empty}
use Rattle.std.proofs.lemmas.Bool.{eqb-true}
use Rattle.fr_ask.specs.declared.sequencer.SeqAsk.TheVariants.{Next}
use Rattle.fr_ask.specs.declared.sequencer.SeqRefusal.{SeqRefusal}
use Rattle.fr_ask.specs.declared.sequencer.SeqRefusal.TheVariants.{Spent, OutOfTurn}
use Rattle.fr_proxy.specs.Sequencer.{SeqState, new_sequencer, is_of, last_request, new_number, new_refusal, told_unless, told_before, next_unless, answer_of, next_of}
use Rattle.fr_proxy.specs.declared.number.Number.{Number}
use Rattle.fr_run.specs.Config.{Config}
use Rattle.fr_run.specs.Turn.{Turn, Begun, CellTurn, LogTurn, SeqTurn, Submitted, ProxyHeard, RecHeard, StorageHeard, Gone, Crashed}
use Rattle.fr_run.specs.Nodes.{generation_at, mark_version, is_open, seq_at, seq_from, seq_after}
use Rattle.fr_run.specs.Run.{IsTurn, IsRun}
use Rattle.fr_run_headline.specs.Numbers.{Numbering, with_number, numbers_after, numbers, IsNumbered, numbering_of, requests_in, IsCounted}
use Rattle.fr_run.specs.Laws.{Laws}
use Rattle.fr_run.proofs.Growth.{open_generation, generation_stays}
use Rattle.fr_run_headline.proofs.Numbers.{old_is_below, new_is_above, numbers_chain, closed, closed_turn, step_is_positive}

-- a request that gets a new number is the one after its proxy's last
new_is_next : (s : SeqState) (before : Option Number) (r step : ℕ) → new_refusal s before r step ≡ None → r ≡ last_request before + 1
new_is_next s before r step e = go (r == last_request before + 1) refl e
  where
    go : (b : Bool) → (r == last_request before + 1) ≡ b → cond b (cond (nat_le (2 ^ 62) (s.last + step)) (Some Spent) None) (Some OutOfTurn) ≡ None → r ≡ last_request before + 1
    go true k j = eqb-true r (last_request before + 1) k
    go false k j = absurd (cc)

counted_next : (base : ℕ) (s : SeqState) (ns : List Numbering) → IsNumbered base s ns → IsCounted s ns → (p r step : ℕ) → 1 ≤ step → IsCounted (next_of s (Next p r step)) (with_number p (answer_of s (Next p r step)) ns)
counted_next base s ns k c p r step l = go (is_of r (get s.given p))
  where
    again : (o : Option Number) → IfSome o (λ x. Contains ns (numbering_of p x)) → IsCounted s (with_number p (told_before o) ns)
    again None j = c
    again (Some n) j = rw (old_is_below base ns k.chain (numbering_of p n) j) c

    last : (q : ℕ) → last_request (get (insert s.given p (new_number s r step)) q) ≡ cond (q == p) r (requests_in q ns)
    last q = ap last_request (get-insert nat_cmp_total s.given p (new_number s r step) q) ∙ (ap (λ b. last_request (cond b (Some (new_number s r step)) (get s.given q))) (unsigned_tied q p) ∙ pick (q == p))
      where
        pick : (b : Bool) → last_request (cond b (Some (new_number s r step)) (get s.given q)) ≡ cond b r (requests_in q ns)
        pick true = refl
        pick false = c.last q

    unless : (o : Option SeqRefusal) → new_refusal s (get s.given p) r step ≡ o → IsCounted (next_unless o s p (new_number s r step)) (with_number p (told_unless o (new_number s r step)) ns)
    unless (Some why) e = c
    unless None e =
        let n : Numbering = record { proxy = p; request = r; prev = s.last; version = s.last + step } in
        let fresh : IsCounted (record { epoch = s.epoch; last = s.last + step; given = insert s.given p (new_number s r step) }) (n ∷ ns) = record {
          counted = (new_is_next s (get s.given p) r step e ∙ ap (λ x. x + 1) (c.last p), c.counted);
          last = last;
        } in
        rw (new_is_above base ns (s.last + step) (let e' = k.last in omega (arith, l, e'))) fresh

    go : (b : Bool) → IsCounted (cond b s (next_unless (new_refusal s (get s.given p) r step) s p (new_number s r step))) (with_number p (cond b (told_before (get s.given p)) (told_unless (new_refusal s (get s.given p) r step) (new_number s r step))) ns)
    go true = again (get s.given p) (k.given p)
    go false = unless (new_refusal s (get s.given p) r step) refl

turn : Laws → (c : Config) (h : List Turn) (t : Turn) → IsRun c h → IsTurn c h t → (e : ℕ) → is_open c h e ≡ true → IsCounted (seq_at c h e) (numbers h e) → IsCounted (seq_after t e (seq_at c h e)) (numbers_after t e (numbers h e))
turn laws c h (Begun b shape asks) run is e op k = k
turn laws c h (CellTurn from i a t) run is e op k = k
turn laws c h (LogTurn from x i a t) run is e op k = k
turn laws c h (SeqTurn from x (Next p r step) t) run is e op k = go (x == e) refl
  where
    go : (b : Bool) → (x == e) ≡ b → IsCounted (cond b (next_of (seq_at c h e) (Next p r step)) (seq_at c h e)) (cond b (with_number p t (numbers h e)) (numbers h e))
    go true at =
        let says : t ≡ answer_of (seq_at c h e) (Next p r step) = is.2 ∙ ap (λ y. answer_of (seq_at c h y) (Next p r step)) (eqb-true x e at) in
        subst (λ u. IsCounted (next_of (seq_at c h e) (Next p r step)) (with_number p u (numbers h e))) (sym says)
        (counted_next (mark_version (generation_at c h e)) (seq_at c h e) (numbers h e) (numbers_chain laws c h run e op) k p r step (step_is_positive laws c h run from x p r step is.1))
    go false at = k
turn laws c h (Submitted x p step batch asks) run is e op k = k
turn laws c h (ProxyHeard x p from t outcome asks) run is e op k = k
turn laws c h (RecHeard b from t asks) run is e op k = k
turn laws c h (StorageHeard tag from t taken fault) run is e op k = k
turn laws c h (Gone who) run is e op k = k
turn laws c h (Crashed who) run is e op k = k

new_is : (e base : ℕ) → IsCounted (new_sequencer e base) []
new_is e base = record { counted = tt; last = λ q. ap last_request (get-empty nat_cmp q) }

next : Laws → (c : Config) (h : List Turn) (t : Turn) → IsRun c h → IsTurn c h t → (e : ℕ) → (is_open c h e ≡ true → IsCounted (seq_at c h e) (numbers h e)) → IsCounted (seq_at c (t ∷ h) e) (numbers (t ∷ h) e)
next laws c h t run is e before = go (is_open c h e) refl
  where
    go : (b : Bool) → is_open c h e ≡ b → IsCounted (seq_at c (t ∷ h) e) (numbers (t ∷ h) e)
    go true was =
        let g = open_generation laws c h run e was in
        let same : generation_at c (t ∷ h) e ≡ generation_at c h e = generation_stays laws c h t run is e g.generation g.is ∙ sym g.is in
        subst (λ o. IsCounted (seq_after t e (seq_from (new_sequencer e (mark_version o)) h e)) (numbers (t ∷ h) e)) (sym same) (turn laws c h t run is e was (before was))
    go false shut =
        let first = new_sequencer e (mark_version (generation_at c (t ∷ h) e)) in
        let k = closed laws c h run e shut first in
        let turn' = closed_turn c h t is e shut first [] in
        subst (λ s. IsCounted s (numbers (t ∷ h) e)) (sym (ap (seq_after t e) k.0 ∙ turn'.0))
        (subst (λ ns. IsCounted first ns) (sym (ap (numbers_after t e) k.1 ∙ turn'.1)) (new_is e (mark_version (generation_at c (t ∷ h) e))))

pub numbers_counted : Laws → (c : Config) (h : List Turn) → IsRun c h → (e : ℕ) → is_open c h e ≡ true → IsCounted (seq_at c h e) (numbers h e)
numbers_counted laws c [] run e is = new_is e (mark_version (generation_at c [] e))
numbers_counted laws c (t ∷ h) run e is = next laws c h t run.1 run.0 e (λ was. numbers_counted laws c h run.1 e was)
