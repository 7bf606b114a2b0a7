-- What a world keeps is kept at the turns of its sequencers and of its logs, each made when it is first asked.
use Rattle.std.proofs.Common.{◌≡◌, ℕ, ◌+◌, ◌<◌, ◌^◌, Bool, true, false, cond, ◌==◌, ◌&&◌, List, [], ◌∷◌, Option, None, Some, refl, sym, ◌∙◌, ap, subst}
use Rattle.std.specs.Prelude.{Result, Ok, Err, unwrap_or, IsSome, IfSome, OnOk, OnErr}
use Rattle.std.specs.Ordering.{nat_cmp, ordering_then, is_eq}
use Rattle.std.specs.declared.cmp.Ordering.TheVariants.{Equal}
use Rattle.std.specs.Option.{option_map}
use Rattle.std.specs.Cmp.{nat_cmp_is, both_ways}
use Rattle.std.specs.FinMap.{nat_cmp-IsAntisymmetric}
use Rattle.std.specs.BTreeMap as tree
use Rattle.std.proofs.lemmas.Bool.{eqb-true, eq-eqb, and_parts}
use Rattle.fr_base.specs.declared.place.NodeId.{NodeId}
use Rattle.fr_base.proofs.MapLemmas.{one_key}
use Rattle.fr_ask.specs.declared.sequencer.SeqAsk.{SeqAsk}
use Rattle.fr_ask.specs.declared.sequencer.SeqTell.{SeqTell}
use Rattle.fr_proxy.specs.Sequencer.{SeqState}
use Rattle.fr_proxy.specs.Sequencer as seq
use Rattle.fr_log.specs.LogState.{LogState}
use Rattle.fr_log.specs.Step as log
use Rattle.fr_log.specs.declared.ask.LogAsk.{LogAsk}
use Rattle.fr_log.specs.declared.ask.LogTell.{LogTell}
use Rattle.fr_epoch.specs.Recoverer.{RecState, Plan}
use Rattle.fr_epoch.specs.WriteLaw.{HasMadePlan, HearKeepsMade}
use Rattle.fr_register.specs.CellState.{CellState}
use Rattle.fr_run.specs.Config.{Config, first_epoch}
use Rattle.fr_run.specs.Turn.{Turn, LogTurn, SeqTurn}
use Rattle.fr_run.specs.Nodes.{rec_at, plan_in, plan_at, logs_in, logs_at, new_log, log_at, is_open, seq_at, mark_version, generation_at}
use Rattle.fr_run.specs.Run.{IsTurn, IsRun}
use Rattle.fr_run.specs.Laws.{Laws}
use Rattle.fr_run.proofs.ByTurn.{rec_by_turn}
use Rattle.fr_run.proofs.Growth.{rec_is}
use Rattle.fr_world_nodes.specs.Parts.{IsWorld, AreLogs, AreSequencers, pair_cmp, Logs, Sequencers, Proxies, Recoverers, Storages, new_seq}
use Rattle.fr_world_nodes.proofs.Keys.{pair_cmp-IsAntisymmetric}
use Rattle.fr_world_nodes.proofs.Stands.{LogsTurn, SequencersTurn, logs_next, sequencers_next, proxies_next}

-- ---- the version of a mark

-- each plan of a run is made of the replies, which leave room for the mark
have_made : Laws → HearKeepsMade → (c : Config) (h : List Turn) → IsRun c h → (b : ℕ) → IfSome (rec_at c h b) HasMadePlan
have_made laws keeps c [] run b = tt
have_made laws keeps c (t ∷ h) run b =
    rec_by_turn c h t run.0 b (λ o. IfSome o HasMadePlan) (have_made laws keeps c h run.1 b) (λ shape none may is q e. absurd (cc)) (λ r from u at told.
    keeps r from u (rec_is laws c h run.1 b r at).kept.come_by (subst (λ o. IfSome o HasMadePlan) at (have_made laws keeps c h run.1 b)))

pub has_room : Laws → HearKeepsMade → (c : Config) (h : List Turn) → IsRun c h → (b : ℕ) (r : RecState) → rec_at c h b ≡ Some r → (p : Plan) → r.plan ≡ Some p → p.generation.seeded_to + 1 < 2 ^ 62
has_room laws keeps c h run b r at p planned =
    let made : HasMadePlan r = subst (λ o. IfSome o HasMadePlan) at (have_made laws keeps c h run b) in
    let m = (made p planned).2 in
    subst (λ n. n + 1 < 2 ^ 62) (sym m.seeded_to) m.below

-- ---- sequencers

-- whether a number is at another is whether it is that one
at_number : (e x : ℕ) → tree.is_at (nat_cmp e) x ≡ (e == x)
at_number e x = both_ways (tree.is_at (nat_cmp e) x) (e == x) (λ k. eq-eqb e x (one_key nat_cmp-IsAntisymmetric e x k)) (λ k. subst (λ y. tree.is_at (nat_cmp e) y ≡ true) (eqb-true e x k) (itself e))
  where
    itself : (n : ℕ) → tree.is_at (nat_cmp n) n ≡ true
    itself n = ap is_eq (sym (nat_cmp_is n n Equal refl))

-- a sequencer that is kept, or was never asked, is the one of what happened
pub seq_told : (c : Config) (h : List Turn) (e last : ℕ) (a : SeqAsk) (t : SeqTell) (sequencers : Sequencers) → AreSequencers c h sequencers → is_open c h e ≡ true → last ≡ mark_version (generation_at c h e)
    → t ≡ seq.answer_of (unwrap_or (tree.get nat_cmp sequencers e) (seq.new_sequencer e last)) a → t ≡ seq.answer_of (seq_at c h e) a
seq_told c h e last a t sequencers k o first told = told ∙ (ap (λ n. seq.answer_of (unwrap_or (tree.get nat_cmp sequencers e) (seq.new_sequencer e n)) a) first ∙ ap (λ s. seq.answer_of s a) (k.each e o))

-- the sequencers after an ask of one of them
sequencers_asked : (c : Config) (h : List Turn) (from : NodeId) (e : ℕ) (a : SeqAsk) (t : SeqTell) (sequencers new : Sequencers) → AreSequencers c h sequencers → is_open c h e ≡ true
    → ((x : ℕ) → tree.get nat_cmp new x ≡ cond (tree.is_at (nat_cmp e) x) (Some (seq.next_of (unwrap_or (tree.get nat_cmp sequencers e) (new_seq c h e)) a)) (tree.get nat_cmp sequencers x))
    → SequencersTurn c h (SeqTurn from e a t) sequencers new
sequencers_asked c h from e a t sequencers new are o put = record {
  each = λ x open'. ap (λ s. unwrap_or s (new_seq c h x)) (at x) ∙ each x (e == x) refl;
  there = λ x some. there x (e == x) refl (subst IsSome (at x) some);
}
  where
    one : SeqState
    one = seq.next_of (unwrap_or (tree.get nat_cmp sequencers e) (new_seq c h e)) a

    at : (x : ℕ) → tree.get nat_cmp new x ≡ cond (e == x) (Some one) (tree.get nat_cmp sequencers x)
    at x = put x ∙ ap (λ b. cond b (Some one) (tree.get nat_cmp sequencers x)) (at_number e x)

    each : (x : ℕ) (b : Bool) → (e == x) ≡ b → unwrap_or (cond b (Some one) (tree.get nat_cmp sequencers x)) (new_seq c h x)
        ≡ cond b (seq.next_of (unwrap_or (tree.get nat_cmp sequencers x) (new_seq c h x)) a) (unwrap_or (tree.get nat_cmp sequencers x) (new_seq c h x))
    each x true k = ap (λ y. seq.next_of (unwrap_or (tree.get nat_cmp sequencers y) (new_seq c h y)) a) (eqb-true e x k)
    each x false k = refl

    there : (x : ℕ) (b : Bool) → (e == x) ≡ b → IsSome (cond b (Some one) (tree.get nat_cmp sequencers x)) → is_open c h x ≡ true
    there x true k some = subst (λ y. is_open c h y ≡ true) (eqb-true e x k) o
    there x false k some = are.there x some

pub seq_world : Laws → (c : Config) (h later : List Turn) (from : NodeId) (e last : ℕ) (a : SeqAsk) (t : SeqTell) (cells : List CellState) (logs : Logs) (sequencers new : Sequencers) (proxies : Proxies) (recoverers : Recoverers) (storages : Storages)
    → IsWorld c h cells logs sequencers proxies recoverers storages → IsTurn c h (SeqTurn from e a t) → last ≡ mark_version (generation_at c h e)
    → ((x : ℕ) → tree.get nat_cmp new x ≡ cond (tree.is_at (nat_cmp e) x) (Some (seq.next_of (unwrap_or (tree.get nat_cmp sequencers e) (seq.new_sequencer e last)) a)) (tree.get nat_cmp sequencers x))
    → later ≡ SeqTurn from e a t ∷ h → IsWorld c later cells logs new proxies recoverers storages
seq_world laws c h later from e last a t cells logs sequencers new proxies recoverers storages w is first put entered =
    subst (λ x. IsWorld c x cells logs new proxies recoverers storages) (sym entered) (record {
      within = w.within;
      run = (is, w.run);
      cells_are = record { all = w.cells_are.all; each = w.cells_are.each };
      logs_are = logs_next laws c h (SeqTurn from e a t) w.run is logs logs w.logs_are (record { each = λ x j l. refl; there = w.logs_are.there });
      sequencers_are = sequencers_next laws c h (SeqTurn from e a t) w.run is sequencers new w.sequencers_are
          (sequencers_asked c h from e a t sequencers new w.sequencers_are is.0.there
          (λ x. put x ∙ ap (λ n. cond (tree.is_at (nat_cmp e) x) (Some (seq.next_of (unwrap_or (tree.get nat_cmp sequencers e) (seq.new_sequencer e n)) a)) (tree.get nat_cmp sequencers x)) first));
      proxies_are = proxies_next laws c h (SeqTurn from e a t) w.run is proxies proxies w.proxies_are (record { each = λ x p o. refl; there = w.proxies_are.there });
      recoverers_are = w.recoverers_are;
      storages_are = record { all = w.storages_are.all; each = w.storages_are.each; work = w.storages_are.work };
    })

-- ---- logs

-- a log that is there is one of the plan of its recoverer
pub there_in : (c : Config) (h : List Turn) (e i : ℕ) (r : RecState) → (e == first_epoch) ≡ false → rec_at c h e ≡ Some r → i < logs_at c h e → i < logs_in r.plan
there_in c h e i r other at l =
    let k : i < logs_in (plan_at c h e) = subst (λ b. i < cond b c.m (logs_in (plan_at c h e))) other l in
    subst (λ o. i < logs_in (plan_in o)) at k

-- places that compare alike are one
at_one : (p q : ℕ × ℕ) → tree.is_at (pair_cmp p) q ≡ true → p ≡ q
at_one p q k = one_key pair_cmp-IsAntisymmetric p q k

-- whether a place is at another is whether both numbers are those
at_pair : (e i x j : ℕ) → tree.is_at (pair_cmp (e, i)) (x, j) ≡ ((e == x) && (i == j))
at_pair e i x j = both_ways (tree.is_at (pair_cmp (e, i)) (x, j)) ((e == x) && (i == j)) (λ k. (
    let one = at_one (e, i) (x, j) k in
    and_both (e == x) (i == j) (eq-eqb e x (ap (λ (p : ℕ × ℕ). p.0) one)) (eq-eqb i j (ap (λ (p : ℕ × ℕ). p.1) one)))) (λ k. (
    let both = and_parts (e == x) (i == j) k in
    subst (λ y. tree.is_at (pair_cmp (e, i)) (y, j) ≡ true) (eqb-true e x both.0) (subst (λ y. tree.is_at (pair_cmp (e, i)) (e, y) ≡ true) (eqb-true i j both.1) itself)))
  where
    and_both : (a b : Bool) → a ≡ true → b ≡ true → (a && b) ≡ true
    and_both true b k l = l
    and_both false b k l = k

    itself : tree.is_at (pair_cmp (e, i)) (e, i) ≡ true
    itself = ap (λ r. is_eq (ordering_then r (nat_cmp i i))) (sym (nat_cmp_is e e Equal refl)) ∙ ap is_eq (sym (nat_cmp_is i i Equal refl))

-- the logs with one that was made now
logs_made : (c : Config) (h : List Turn) (logs new : Logs) (e i : ℕ) (l : LogState) → AreLogs c h logs → i < logs_at c h e → tree.get pair_cmp logs (e, i) ≡ None → l ≡ new_log c h e i
    → ((p : ℕ × ℕ) → tree.get pair_cmp new p ≡ cond (tree.is_at (pair_cmp (e, i)) p) (Some l) (tree.get pair_cmp logs p)) → AreLogs c h new
logs_made c h logs new e i l are below none made put = record {
  there = λ x j some. there x j (tree.is_at (pair_cmp (e, i)) (x, j)) refl (subst IsSome (put (x, j)) some);
  each = λ x j under. ap (λ o. unwrap_or o (new_log c h x j)) (put (x, j)) ∙ each x j under (tree.is_at (pair_cmp (e, i)) (x, j)) refl;
}
  where
    there : (x j : ℕ) (b : Bool) → tree.is_at (pair_cmp (e, i)) (x, j) ≡ b → IsSome (cond b (Some l) (tree.get pair_cmp logs (x, j))) → j < logs_at c h x
    there x j true k some = subst (λ (p : ℕ × ℕ). p.1 < logs_at c h p.0) (at_one (e, i) (x, j) k) below
    there x j false k some = are.there x j some

    own : l ≡ log_at c h e i
    own = made ∙ (sym (ap (λ o. unwrap_or o (new_log c h e i)) none) ∙ are.each e i below)

    each : (x j : ℕ) → j < logs_at c h x → (b : Bool) → tree.is_at (pair_cmp (e, i)) (x, j) ≡ b → unwrap_or (cond b (Some l) (tree.get pair_cmp logs (x, j))) (new_log c h x j) ≡ log_at c h x j
    each x j under true k = subst (λ (p : ℕ × ℕ). l ≡ log_at c h p.0 p.1) (at_one (e, i) (x, j) k) own
    each x j under false k = are.each x j under

with_logs : (c : Config) (h : List Turn) (cells : List CellState) (logs new : Logs) (sequencers : Sequencers) (proxies : Proxies) (recoverers : Recoverers) (storages : Storages)
    → IsWorld c h cells logs sequencers proxies recoverers storages → AreLogs c h new → IsWorld c h cells new sequencers proxies recoverers storages
with_logs c h cells logs new sequencers proxies recoverers storages w are = record {
  within = w.within;
  run = w.run;
  cells_are = w.cells_are;
  logs_are = are;
  sequencers_are = w.sequencers_are;
  proxies_are = w.proxies_are;
  recoverers_are = w.recoverers_are;
  storages_are = w.storages_are;
}

-- a log that was made now is kept, or nothing changed
pub made_world : {T E : Type 0} (r : Result T E) (c : Config) (h : List Turn) (e i : ℕ) (l : LogState) (cells : List CellState) (logs new : Logs) (sequencers : Sequencers) (proxies : Proxies) (recoverers : Recoverers) (storages : Storages)
    → IsWorld c h cells logs sequencers proxies recoverers storages → i < logs_at c h e → tree.get pair_cmp logs (e, i) ≡ None → l ≡ new_log c h e i
    → OnOk r ((p : ℕ × ℕ) → tree.get pair_cmp new p ≡ cond (tree.is_at (pair_cmp (e, i)) p) (Some l) (tree.get pair_cmp logs p))
    → OnErr r ((p : ℕ × ℕ) → tree.get pair_cmp new p ≡ tree.get pair_cmp logs p) → IsWorld c h cells new sequencers proxies recoverers storages
made_world (Ok x) c h e i l cells logs new sequencers proxies recoverers storages w below none made put same =
    with_logs c h cells logs new sequencers proxies recoverers storages w (logs_made c h logs new e i l w.logs_are below none made put)
made_world (Err x) c h e i l cells logs new sequencers proxies recoverers storages w below none made put same =
    with_logs c h cells logs new sequencers proxies recoverers storages w (record {
      there = λ x j some. w.logs_are.there x j (subst IsSome (same (x, j)) some);
      each = λ x j under. ap (λ o. unwrap_or o (new_log c h x j)) (same (x, j)) ∙ w.logs_are.each x j under;
    })

-- a log that is kept is the one of what happened
log_is : (c : Config) (h : List Turn) (e i : ℕ) (logs : Logs) → AreLogs c h logs → i < logs_at c h e → (o : Option LogState) → tree.get pair_cmp logs (e, i) ≡ o → IfSome o (λ l. l ≡ log_at c h e i)
log_is c h e i logs are below None k = tt
log_is c h e i logs are below (Some l) k = sym (ap (λ o. unwrap_or o (new_log c h e i)) k) ∙ are.each e i below

pub log_told : (c : Config) (h : List Turn) (e i : ℕ) (a asked : LogAsk) (t : LogTell) (logs : Logs) → AreLogs c h logs → i < logs_at c h e → asked ≡ a → IsSome (tree.get pair_cmp logs (e, i))
    → IfSome (tree.get pair_cmp logs (e, i)) (λ l. t ≡ log.answer_of l asked) → t ≡ log.answer_of (log_at c h e i) a
log_told c h e i a asked t logs are below copied = go (tree.get pair_cmp logs (e, i)) refl
  where
    go : (o : Option LogState) → tree.get pair_cmp logs (e, i) ≡ o → IsSome o → IfSome o (λ l. t ≡ log.answer_of l asked) → t ≡ log.answer_of (log_at c h e i) a
    go None k some told = absurd (cc)
    go (Some l) k some told = told ∙ (ap (log.answer_of l) copied ∙ ap (λ x. log.answer_of x a) (log_is c h e i logs are below (Some l) k))

-- the logs after an ask of one of them that is kept
logs_asked : (c : Config) (h : List Turn) (from : NodeId) (e i : ℕ) (a : LogAsk) (t : LogTell) (logs new : Logs) → AreLogs c h logs → i < logs_at c h e → IsSome (tree.get pair_cmp logs (e, i))
    → ((p : ℕ × ℕ) → tree.get pair_cmp new p ≡ cond (tree.is_at (pair_cmp (e, i)) p) (option_map (λ l. log.next_of l a) (tree.get pair_cmp logs (e, i))) (tree.get pair_cmp logs p))
    → LogsTurn c h (LogTurn from e i a t) logs new
logs_asked c h from e i a t logs new are below some put = record {
  each = λ x j under. ap (λ o. unwrap_or o (new_log c h x j)) (at x j) ∙ each x j ((e == x) && (i == j)) refl;
  there = λ x j is. there x j ((e == x) && (i == j)) refl (subst IsSome (at x j) is);
}
  where
    at : (x j : ℕ) → tree.get pair_cmp new (x, j) ≡ cond ((e == x) && (i == j)) (option_map (λ l. log.next_of l a) (tree.get pair_cmp logs (e, i))) (tree.get pair_cmp logs (x, j))
    at x j = put (x, j) ∙ ap (λ b. cond b (option_map (λ l. log.next_of l a) (tree.get pair_cmp logs (e, i))) (tree.get pair_cmp logs (x, j))) (at_pair e i x j)

    mapped : (o : Option LogState) (l : LogState) → IsSome o → unwrap_or (option_map (λ l. log.next_of l a) o) l ≡ log.next_of (unwrap_or o l) a
    mapped None l k = absurd (cc)
    mapped (Some m) l k = refl

    each : (x j : ℕ) (b : Bool) → ((e == x) && (i == j)) ≡ b → unwrap_or (cond b (option_map (λ l. log.next_of l a) (tree.get pair_cmp logs (e, i))) (tree.get pair_cmp logs (x, j))) (new_log c h x j)
        ≡ cond b (log.next_of (unwrap_or (tree.get pair_cmp logs (x, j)) (new_log c h x j)) a) (unwrap_or (tree.get pair_cmp logs (x, j)) (new_log c h x j))
    each x j true k =
        let both = and_parts (e == x) (i == j) k in
        subst (λ y. unwrap_or (option_map (λ l. log.next_of l a) (tree.get pair_cmp logs (e, i))) (new_log c h y j) ≡ log.next_of (unwrap_or (tree.get pair_cmp logs (y, j)) (new_log c h y j)) a) (eqb-true e x both.0)
        (subst (λ y. unwrap_or (option_map (λ l. log.next_of l a) (tree.get pair_cmp logs (e, i))) (new_log c h e y) ≡ log.next_of (unwrap_or (tree.get pair_cmp logs (e, y)) (new_log c h e y)) a) (eqb-true i j both.1)
        (mapped (tree.get pair_cmp logs (e, i)) (new_log c h e i) some))
    each x j false k = refl

    there : (x j : ℕ) (b : Bool) → ((e == x) && (i == j)) ≡ b → IsSome (cond b (option_map (λ l. log.next_of l a) (tree.get pair_cmp logs (e, i))) (tree.get pair_cmp logs (x, j))) → j < logs_at c h x
    there x j true k is =
        let both = and_parts (e == x) (i == j) k in
        subst (λ y. j < logs_at c h y) (eqb-true e x both.0) (subst (λ y. y < logs_at c h e) (eqb-true i j both.1) below)
    there x j false k is = are.there x j is

pub log_world : Laws → (c : Config) (h later : List Turn) (from : NodeId) (e i : ℕ) (a asked : LogAsk) (t : LogTell) (cells : List CellState) (logs new : Logs) (sequencers : Sequencers) (proxies : Proxies) (recoverers : Recoverers) (storages : Storages)
    → IsWorld c h cells logs sequencers proxies recoverers storages → IsTurn c h (LogTurn from e i a t) → i < logs_at c h e → asked ≡ a → IsSome (tree.get pair_cmp logs (e, i))
    → ((p : ℕ × ℕ) → tree.get pair_cmp new p ≡ cond (tree.is_at (pair_cmp (e, i)) p) (option_map (λ l. log.next_of l asked) (tree.get pair_cmp logs (e, i))) (tree.get pair_cmp logs p))
    → later ≡ LogTurn from e i a t ∷ h → IsWorld c later cells new sequencers proxies recoverers storages
log_world laws c h later from e i a asked t cells logs new sequencers proxies recoverers storages w is below copied some put entered =
    subst (λ x. IsWorld c x cells new sequencers proxies recoverers storages) (sym entered) (record {
      within = w.within;
      run = (is, w.run);
      cells_are = record { all = w.cells_are.all; each = w.cells_are.each };
      logs_are = logs_next laws c h (LogTurn from e i a t) w.run is logs new w.logs_are
          (logs_asked c h from e i a t logs new w.logs_are below some
          (λ p. put p ∙ ap (λ x. cond (tree.is_at (pair_cmp (e, i)) p) (option_map (λ l. log.next_of l x) (tree.get pair_cmp logs (e, i))) (tree.get pair_cmp logs p)) copied));
      sequencers_are = sequencers_next laws c h (LogTurn from e i a t) w.run is sequencers sequencers w.sequencers_are (record { each = λ x o. refl; there = w.sequencers_are.there });
      proxies_are = proxies_next laws c h (LogTurn from e i a t) w.run is proxies proxies w.proxies_are (record { each = λ x p o. refl; there = w.proxies_are.there });
      recoverers_are = w.recoverers_are;
      storages_are = record { all = w.storages_are.all; each = w.storages_are.each; work = w.storages_are.work };
    })
