-- A recoverer that writes is chosen, if the cells of a majority are asked of which none promised a ballot above its own.
use Rattle.std.proofs.Common.{◌≡◌, ℕ, ◌*◌, ◌<◌, ◌≤◌, Bool, true, false, cond, not, nat_lt, ◌==◌, ◌&&◌, ◌||◌, List, [], ◌∷◌, ◌++◌, length, Option, None, Some, inl, inr, ◌⊎◌, refl, sym, ◌∙◌, ap, subst, arith}
use Rattle.std.specs.List.{Contains, All, list_any}
use Rattle.std.proofs.lemmas.Bool.{eq-eqb, ltb-false, lt-ltb, le-ltb, true≢false}
use Rattle.std.proofs.lemmas.List.Elements.{All-nil, All-cons, All-head, All-tail, All-weaker, All-contains}
use Rattle.std.proofs.lemmas.List.Folds.{list_any-append}
use Rattle.fr_base.specs.declared.place.NodeId.TheVariants as node
use Rattle.fr_tags.specs.Placement.{is_among}
use Rattle.fr_tags.specs.CoverLaw.{DistinctLogsCount}
use Rattle.fr_register.specs.Cell as register
use Rattle.fr_register.specs.Cell.{is_second}
use Rattle.fr_register.specs.CellState.{CellState}
use Rattle.fr_register.specs.declared.ask.CellAsk.TheVariants.{Write}
use Rattle.fr_register.specs.declared.ask.CellTell.TheVariants.{Written, Refused, TwoValues}
use Rattle.fr_register.specs.Chosen.{IsMajority}
use Rattle.fr_register.specs.Poll.{Poll, WriteState}
use Rattle.fr_register.specs.Tally.{is_majority, progress_from, progress_of, is_refusal_of, is_heard, is_wanted, with_heard, take_write, hear_write}
use Rattle.fr_register.specs.declared.poll.Refusal.{Refusal}
use Rattle.fr_register.specs.declared.poll.Progress.TheVariants as poll
use Rattle.fr_state.specs.Spelling.{spelling}
use Rattle.fr_ask.specs.declared.ask.Ask.TheVariants as ask
use Rattle.fr_ask.specs.declared.tell.Tell.TheVariants as tell
use Rattle.fr_epoch.specs.Recoverer.{RecState, Plan, Writing, Chosen, is_written_in}
use Rattle.fr_epoch.specs.Words.{OfCell, heed_in}
use Rattle.fr_epoch.specs.Hear.{with_write, after_writes, after_heed, after_hear}
use Rattle.fr_epoch.specs.Asks.{left, writes_of, pending_in}
use Rattle.fr_run.specs.Config.{Config}
use Rattle.fr_run.specs.Turn.{Turn, CellTurn, Sent}
use Rattle.fr_run.specs.Nodes.{cell_at, rec_at}
use Rattle.fr_run.specs.Run.{IsUp, IsRun}
use Rattle.fr_run.specs.Laws.{Laws}
use Rattle.fr_run.proofs.Growth.{rec_is}
use Rattle.fr_run_outcomes.specs.Lost.{NoCellHasTwoValues}
use Rattle.fr_run_outcomes.specs.Pending.{PendingIsSent}
use Rattle.fr_run_outcomes.specs.Going.{GoesOn}
use Rattle.fr_run_outcomes.specs.Writing.{WritesOn, WritingEnds}
use Rattle.fr_run_outcomes.proofs.Lists.{map_has, left_has, any_more}
use Rattle.fr_run_outcomes.proofs.Counts.{count_by-range, Contains-from_among, count_into, count_short}
use Rattle.fr_run_outcomes.proofs.Going.{IsHeard, stands, goes_further, rec_still_up, cell_heard}
use Rattle.fr_run_outcomes.proofs.Waiting.{WritesIn, writing_waits}

-- ---- an answer to a write

-- a cell that promised no more than a ballot takes its write, or finds a second value
takes : (s : CellState) (b : ℕ) (v : List ℕ) → s.promised ≤ b → (x : Bool) → is_second s b v ≡ x → register.answer_of s (Write b v) ≡ cond x TwoValues (Written b)
takes s b v le x e = ap (λ y. cond y (Refused s.promised) (cond (is_second s b v) TwoValues (Written b))) (le-ltb b s.promised le) ∙ ap (λ y. cond y TwoValues (Written b)) e

still_low : (s : CellState) (b : ℕ) (v : List ℕ) → s.promised ≤ b → (register.next_of s (Write b v)).promised ≤ b
still_low s b v le = go (nat_lt b s.promised) (is_second s b v)
  where
    go : (x y : Bool) → (cond x s (cond y s (record { promised = b; written = b; value = v }))).promised ≤ b
    go true y = le
    go false true = le
    go false false = omega arith

-- ---- a poll that waits

-- it has no refusal, and no majority
pub waits_so : (p : Poll) → progress_of p ≡ poll.Waiting → (p.refusal ≡ None) × (is_majority p ≡ false)
waits_so p e = go p.refusal refl (is_majority p) refl
  where
    go : (o : Option Refusal) → p.refusal ≡ o → (x : Bool) → is_majority p ≡ x → (p.refusal ≡ None) × (is_majority p ≡ false)
    go (Some refusal) at x f = (let d : poll.Lost refusal.promised ≡ poll.Waiting = sym (ap (progress_from p) at) ∙ e in absurd (cc))
    go None at true f = (let d : poll.Majority ≡ poll.Waiting = sym (ap (progress_from p) at ∙ ap (λ y. cond y poll.Majority poll.Waiting) f) ∙ e in absurd (cc))
    go None at false f = (at, f)

unheard : (p : Poll) (i : ℕ) → p.refusal ≡ None → list_any (λ j. j == i) p.heard ≡ false → is_heard p i ≡ false
unheard p i none fresh = ap (λ o. is_refusal_of i o || list_any (λ j. j == i) p.heard) none ∙ fresh

in_last : (p : Poll) (i : ℕ) → list_any (λ j. j == i) (p.heard ++ i ∷ []) ≡ true
in_last p i = list_any-append (λ j. j == i) p.heard (i ∷ []) ∙ ap (λ x. list_any (λ j. j == i) p.heard || (x || false)) (eq-eqb i i refl) ∙ last (list_any (λ j. j == i) p.heard)
  where
    last : (x : Bool) → (x || (true || false)) ≡ true
    last true = refl
    last false = refl

-- ---- the way

-- a moment at which a recoverer writes
record IsWriting (c : Config) (b : ℕ) (q : Plan) (h : List Turn) (r : RecState) : Type 0 where
  run : IsRun c h
  at : rec_at c h b ≡ Some r
  up : IsUp c h (node.Recoverer b)
  phase : r.phase ≡ Writing
  plan : r.plan ≡ Some q

-- a cell is heard
abbrev HasHeard : RecState → ℕ → Type 0
HasHeard r i = list_any (λ j. j == i) r.writes.poll.heard ≡ true

record WritesSo (c : Config) (b : ℕ) (q : Plan) (h : List Turn) (r : RecState) (test : RecState → Type 0) : Type 0 where
  later : List Turn
  goes_on : GoesOn c b h later
  recoverer : RecState
  at : rec_at c later b ≡ Some recoverer
  next : (recoverer.phase ≡ Chosen) ⊎ (IsWriting c b q later recoverer × test recoverer × ((j : ℕ) → HasHeard r j → HasHeard recoverer j))

-- a vote of a cell that was not heard is heard
vote_taken : (t : WriteState) (b i : ℕ) → t.ballot ≡ b → is_wanted t.poll i ≡ true → hear_write t i (Written b) ≡ record t { poll = with_heard t.poll i }
vote_taken t b i own new = ap (λ y. cond y (take_write t i (Written b)) t) new ∙ ap (λ y. cond y (record t { poll = with_heard t.poll i }) t) (eq-eqb b t.ballot (sym own))

-- what a recoverer that writes is once it heard one
vote_heard : (r : RecState) (b i : ℕ) → r.phase ≡ Writing → r.writes.ballot ≡ b → r.writes.poll.refusal ≡ None → is_wanted r.writes.poll i ≡ true → (x : Bool) → is_majority (with_heard r.writes.poll i) ≡ x
    → after_hear r (node.Cell i) (tell.Cell (Written b)) ≡ after_writes (with_write r i (Written b)) (Written b) (cond x poll.Majority poll.Waiting)
vote_heard r b i phase own none new x e =
    ap (λ ph. after_heed r (heed_in ph r (OfCell i (Written b)))) phase
    ∙ ap (after_writes (with_write r i (Written b)) (Written b)) (ap (λ (t : WriteState). progress_of t.poll) (vote_taken r.writes b i own new) ∙ ap (progress_from (with_heard r.writes.poll i)) none ∙ ap (λ y. cond y poll.Majority poll.Waiting) e)

-- what holds of the nodes
record Rules (c : Config) : Type 0 where
  laws : Laws
  sent : PendingIsSent
  two : NoCellHasTwoValues

write_sent : (c : Config) → Rules c → (b : ℕ) (q : Plan) (h : List Turn) (r : RecState) → IsWriting c b q h r → WritesIn c.cells b Writing r.writes → (i : ℕ) → i < c.cells → list_any (λ j. j == i) r.writes.poll.heard ≡ false
    → Sent h (node.Recoverer b) (node.Cell i) (ask.Cell (Write b (spelling q.state)))
write_sent c rules b q h r k w i below fresh =
    subst (λ x. Sent h (node.Recoverer b) (node.Cell i) (ask.Cell (Write x (spelling q.state)))) (rec_is rules.laws c h k.run b r k.at).ballot
    (rules.sent c h k.run b r k.at (node.Cell i) (ask.Cell (Write r.ballot (spelling q.state)))
    (subst (λ xs. Contains xs (node.Cell i, ask.Cell (Write r.ballot (spelling q.state)))) (sym (ap (λ ph. pending_in ph r) k.phase ∙ ap (writes_of r) k.plan))
    (map_has (λ j. (node.Cell j, ask.Cell (Write r.ballot (spelling q.state)))) (left r.writes.poll.cells (is_heard r.writes.poll)) i
    (left_has r.writes.poll.cells (is_heard r.writes.poll) i (let e = w.1 in omega (arith, e, below)) (unheard r.writes.poll i (waits_so r.writes.poll w.0).0 fresh)))))

write_one : (c : Config) → Rules c → (b : ℕ) (q : Plan) (h : List Turn) (r : RecState) → IsWriting c b q h r → (i : ℕ) → i < c.cells → (cell_at c h i).promised ≤ b → list_any (λ j. j == i) r.writes.poll.heard ≡ false → WritesSo c b q h r (λ n. HasHeard n i)
write_one c rules b q h r k i below low fresh = record {
  later = heard.later;
  goes_on = heard.goes_on;
  recoverer = after_hear r (node.Cell i) (tell.Cell (Written b));
  at = heard.at;
  next = next (is_majority (with_heard r.writes.poll i)) refl;
}
  where
    w : WritesIn c.cells b Writing r.writes
    w = writing_waits rules.laws c h k.run b r k.at k.phase

    none : r.writes.poll.refusal ≡ None
    none = (waits_so r.writes.poll w.0).0

    new : is_wanted r.writes.poll i ≡ true
    new = ap (λ x. x && not (is_heard r.writes.poll i)) (lt-ltb i r.writes.poll.cells (let e = w.1 in omega (arith, e, below))) ∙ ap not (unheard r.writes.poll i none fresh)

    asked : IsHeard c h b (CellTurn (node.Recoverer b) i (Write b (spelling q.state)) (register.answer_of (cell_at c h i) (Write b (spelling q.state)))) (after_hear r (node.Cell i) (tell.Cell (register.answer_of (cell_at c h i) (Write b (spelling q.state)))))
    asked = cell_heard c h k.run b r k.at k.up i (Write b (spelling q.state)) below (write_sent c rules b q h r k w i below fresh) (still_low (cell_at c h i) b (spelling q.state))

    answer : (x : Bool) → is_second (cell_at c h i) b (spelling q.state) ≡ x → register.answer_of (cell_at c h i) (Write b (spelling q.state)) ≡ Written b
    answer true e = absurd (rules.two c (CellTurn (node.Recoverer b) i (Write b (spelling q.state)) (register.answer_of (cell_at c h i) (Write b (spelling q.state))) ∷ h) asked.asking i (node.Recoverer b) (inl (refl, refl, ap tell.Cell (takes (cell_at c h i) b (spelling q.state) low true e))))
    answer false e = takes (cell_at c h i) b (spelling q.state) low false e

    heard : IsHeard c h b (CellTurn (node.Recoverer b) i (Write b (spelling q.state)) (register.answer_of (cell_at c h i) (Write b (spelling q.state)))) (after_hear r (node.Cell i) (tell.Cell (Written b)))
    heard = subst (λ t. IsHeard c h b (CellTurn (node.Recoverer b) i (Write b (spelling q.state)) (register.answer_of (cell_at c h i) (Write b (spelling q.state)))) (after_hear r (node.Cell i) (tell.Cell t))) (answer (is_second (cell_at c h i) b (spelling q.state)) refl) asked

    is : (x : Bool) → is_majority (with_heard r.writes.poll i) ≡ x → after_hear r (node.Cell i) (tell.Cell (Written b)) ≡ after_writes (with_write r i (Written b)) (Written b) (cond x poll.Majority poll.Waiting)
    is x e = vote_heard r b i k.phase w.2 none new x e

    voters : is_majority (with_heard r.writes.poll i) ≡ false → (after_hear r (node.Cell i) (tell.Cell (Written b))).writes.poll.heard ≡ r.writes.poll.heard ++ i ∷ []
    voters e = ap (λ (y : RecState). y.writes.poll.heard) (is false e) ∙ ap (λ (t : WriteState). t.poll.heard) (vote_taken r.writes b i w.2 new)

    next : (x : Bool) → is_majority (with_heard r.writes.poll i) ≡ x
        → ((after_hear r (node.Cell i) (tell.Cell (Written b))).phase ≡ Chosen)
        ⊎ (IsWriting c b q heard.later (after_hear r (node.Cell i) (tell.Cell (Written b))) × HasHeard (after_hear r (node.Cell i) (tell.Cell (Written b))) i × ((j : ℕ) → HasHeard r j → HasHeard (after_hear r (node.Cell i) (tell.Cell (Written b))) j))
    next true e = inl (ap (λ (y : RecState). y.phase) (is true e))
    next false e = inr (
      record {
        run = heard.goes_on.is_run;
        at = heard.at;
        up = rec_still_up rules.laws c b h heard.later heard.goes_on b k.up;
        phase = ap (λ (y : RecState). y.phase) (is false e) ∙ k.phase;
        plan = ap (λ (y : RecState). y.plan) (is false e) ∙ k.plan;
      },
      ap (λ xs. list_any (λ j. j == i) xs) (voters e) ∙ in_last r.writes.poll i,
      (λ j was. ap (λ xs. list_any (λ x. x == j) xs) (voters e) ∙ any_more (λ x. x == j) r.writes.poll.heard (i ∷ []) was),
    )

-- one more cell is asked
write_more : (c : Config) → Rules c → (b : ℕ) (q : Plan) (h : List Turn) (r : RecState) (i : ℕ) (who : List ℕ) → i < c.cells → (cell_at c h i).promised ≤ b → WritesSo c b q h r (λ n. All (HasHeard n) who) → WritesSo c b q h r (λ n. All (HasHeard n) (i ∷ who))
write_more c rules b q h r i who below low rest = go rest.next
  where
    further : All (HasHeard rest.recoverer) who → ((j : ℕ) → HasHeard r j → HasHeard rest.recoverer j) → (o : WritesSo c b q rest.later rest.recoverer (λ n. HasHeard n i)) → WritesSo c b q h r (λ n. All (HasHeard n) (i ∷ who))
    further all keeps o = record {
      later = o.later;
      goes_on = goes_further c b h rest.later o.later rest.goes_on o.goes_on;
      recoverer = o.recoverer;
      at = o.at;
      next = elim o.next [
        | inl chosen ↦ inl chosen
        | inr n ↦ inr (n.0, All-cons (HasHeard o.recoverer) i who n.1 (All-weaker (HasHeard rest.recoverer) (HasHeard o.recoverer) (λ j e. n.2 j e) who all), (λ j e. n.2 j (keeps j e)))
      ];
    }

    ask : IsWriting c b q rest.later rest.recoverer → All (HasHeard rest.recoverer) who → ((j : ℕ) → HasHeard r j → HasHeard rest.recoverer j) → (x : Bool) → list_any (λ j. j == i) rest.recoverer.writes.poll.heard ≡ x → WritesSo c b q h r (λ n. All (HasHeard n) (i ∷ who))
    ask now all keeps true e = record { later = rest.later; goes_on = rest.goes_on; recoverer = rest.recoverer; at = rest.at; next = inr (now, All-cons (HasHeard rest.recoverer) i who e all, keeps) }
    ask now all keeps false e = further all keeps (write_one c rules b q rest.later rest.recoverer now i below (rest.goes_on.low i low) e)

    go : (rest.recoverer.phase ≡ Chosen) ⊎ (IsWriting c b q rest.later rest.recoverer × All (HasHeard rest.recoverer) who × ((j : ℕ) → HasHeard r j → HasHeard rest.recoverer j)) → WritesSo c b q h r (λ n. All (HasHeard n) (i ∷ who))
    go (inl chosen) = record { later = rest.later; goes_on = rest.goes_on; recoverer = rest.recoverer; at = rest.at; next = inl chosen }
    go (inr (now, all, keeps)) = ask now all keeps (list_any (λ j. j == i) rest.recoverer.writes.poll.heard) refl

write_all : (c : Config) → Rules c → (b : ℕ) (q : Plan) (h : List Turn) (r : RecState) → IsWriting c b q h r → (who : List ℕ) → All (λ i. i < c.cells) who → All (λ i. (cell_at c h i).promised ≤ b) who → WritesSo c b q h r (λ n. All (HasHeard n) who)
write_all c rules b q h r k [] below low = record { later = h; goes_on = stands c b h k.run; recoverer = r; at = k.at; next = inr (k, All-nil (HasHeard r), (λ j e. e)) }
write_all c rules b q h r k (i ∷ who) below low =
    write_more c rules b q h r i who (All-head (λ j. j < c.cells) i who below) (All-head (λ j. (cell_at c h j).promised ≤ b) i who low)
    (write_all c rules b q h r k who (All-tail (λ j. j < c.cells) i who below) (All-tail (λ j. (cell_at c h j).promised ≤ b) i who low))

-- ---- the end

-- a list that has each of a majority is longer than half
majority_heard : DistinctLogsCount → (n : ℕ) (who heard : List ℕ) → IsMajority n who → All (λ i. list_any (λ j. j == i) heard ≡ true) who → n < 2 * length heard
majority_heard counts n who heard k each =
    let mine = counts n (length who) who (record { many = refl; distinct = k.distinct; below = k.below }) in
    let told = count_by-range (is_among who) n in
    let into = count_into (is_among who) (is_among heard) n (λ i l e. All-contains (λ i. list_any (λ j. j == i) heard ≡ true) who i each (Contains-from_among who i e)) in
    let short = count_short heard n in
    let more = k.more in
    omega (arith, mine, told, into, short, more)

pub writing_ends : Laws → PendingIsSent → NoCellHasTwoValues → DistinctLogsCount → WritingEnds
writing_ends laws sent two counts c h config run b r at phase up who majority low = go r.plan refl ((rec_is laws c h run b r at).kept.come_by.writing phase)
  where
    go : (o : Option Plan) → r.plan ≡ o → is_written_in o r.seeded ≡ true → WritesOn c h b
    go None plan e = absurd (true≢false (sym e))
    go (Some q) plan e = finish all.next
      where
        all : WritesSo c b q h r (λ n. All (HasHeard n) who)
        all = write_all c (record { laws = laws; sent = sent; two = two }) b q h r (record { run = run; at = at; up = up; phase = phase; plan = plan }) who majority.below low

        finish : (all.recoverer.phase ≡ Chosen) ⊎ (IsWriting c b q all.later all.recoverer × All (HasHeard all.recoverer) who × ((j : ℕ) → HasHeard r j → HasHeard all.recoverer j)) → WritesOn c h b
        finish (inl chosen) = record { later = all.later; goes_on = all.goes_on; recoverer = all.recoverer; at = all.at; chosen = chosen }
        finish (inr (now, each, keeps)) =
            let w = writing_waits laws c all.later now.run b all.recoverer now.at now.phase in
            let few = ltb-false all.recoverer.writes.poll.cells (2 * length all.recoverer.writes.poll.heard) (waits_so all.recoverer.writes.poll w.0).1 in
            let cells = w.1 in
            let many = majority_heard counts c.cells who all.recoverer.writes.poll.heard majority each in
            absurd (omega (arith, few, cells, many))
