-- Tallies of cells: what was heard stays so, an answer is heard, and cells of a majority that are heard end a tally.
use Rattle.std.proofs.Common.{◌≡◌, ℕ, ◌*◌, ◌<◌, Bool, true, false, cond, not, nat_lt, ◌==◌, ◌&&◌, ◌||◌, List, [], ◌∷◌, ◌++◌, length, refl, sym, ◌∙◌, ap, subst, arith}
use Rattle.std.specs.List.{list_any}
use Rattle.std.proofs.lemmas.Bool.{eq-eqb, ltb-false}
use Rattle.std.proofs.lemmas.List.Folds.{list_any-append}
use Rattle.fr_register.specs.Cell as register
use Rattle.fr_register.specs.CellState.{CellState}
use Rattle.fr_register.specs.Chosen.{IsMajority}
use Rattle.fr_register.specs.Poll.{Poll, ReadState, WriteState}
use Rattle.fr_register.specs.Tally.{progress_of, is_refusal_of, is_heard, is_wanted, with_heard, with_refusal, refused_at, hear_read, take_read, hear_write, take_write}
use Rattle.fr_register.specs.declared.ask.CellAsk.TheVariants.{Read, Write}
use Rattle.fr_register.specs.declared.ask.CellTell.TheVariants.{Promise, Written, Refused, TwoValues}
use Rattle.fr_register.specs.declared.poll.Progress.TheVariants as poll
use Rattle.fr_tags.specs.CoverLaw.{DistinctLogsCount}
use Rattle.fr_tags.specs.Placement.{is_among}
use Rattle.fr_run_outcomes.proofs.Asked.{read_more, write_more}
use Rattle.fr_run_outcomes.proofs.Writing.{waits_so}
use Rattle.fr_run_outcomes.proofs.Counts.{count_by-range, count_into, count_short}

-- ---- an answer is heard

or_last : (b : Bool) → (b || (true || false)) ≡ true
or_last true = refl
or_last false = refl

in_last : (xs : List ℕ) (i : ℕ) → list_any (λ j. j == i) (xs ++ i ∷ []) ≡ true
in_last xs i = list_any-append (λ j. j == i) xs (i ∷ []) ∙ ap (λ x. list_any (λ j. j == i) xs || (x || false)) (eq-eqb i i refl) ∙ or_last (list_any (λ j. j == i) xs)

now_heard : (p : Poll) (i : ℕ) → is_heard (with_heard p i) i ≡ true
now_heard p i = go (is_refusal_of i p.refusal)
  where
    go : (b : Bool) → (b || list_any (λ x. x == i) (p.heard ++ i ∷ [])) ≡ true
    go true = refl
    go false = in_last p.heard i

now_refused : (p : Poll) (i promised : ℕ) → progress_of p ≡ poll.Waiting → is_heard (with_refusal p i promised) i ≡ true
now_refused p i promised waits =
    subst (λ x. is_heard (refused_at x p i promised) i ≡ true) (sym waits)
    (ap (λ x. x || list_any (λ j. j == i) p.heard) (eq-eqb i i refl))

wanted : (p : Poll) (i : ℕ) → nat_lt i p.cells ≡ true → is_heard p i ≡ false → is_wanted p i ≡ true
wanted p i below fresh = ap (λ x. x && not (is_heard p i)) below ∙ ap not fresh

-- the answer of a cell to a read is heard by a tally that waits
pub read_heard : (t : ReadState) (i : ℕ) (s : CellState) (b : ℕ) → nat_lt i t.poll.cells ≡ true → progress_of t.poll ≡ poll.Waiting → is_heard (hear_read t i (register.answer_of s (Read b))).poll i ≡ true
read_heard t i s b below waits = go (nat_lt b s.promised) (is_heard t.poll i) refl
  where
    go : (x y : Bool) → is_heard t.poll i ≡ y → is_heard (hear_read t i (cond x (Refused s.promised) (Promise s.written s.value))).poll i ≡ true
    go x true e = read_more t i (cond x (Refused s.promised) (Promise s.written s.value)) i e
    go true false e = subst (λ z. is_heard (cond z (take_read t i (Refused s.promised)) t).poll i ≡ true) (sym (wanted t.poll i below e)) (now_refused t.poll i s.promised waits)
    go false false e = subst (λ z. is_heard (cond z (take_read t i (Promise s.written s.value)) t).poll i ≡ true) (sym (wanted t.poll i below e)) (now_heard t.poll i)

-- and that to a write by one of its ballot
pub write_heard : (t : WriteState) (i : ℕ) (s : CellState) (v : List ℕ) → nat_lt i t.poll.cells ≡ true → progress_of t.poll ≡ poll.Waiting → is_heard (hear_write t i (register.answer_of s (Write t.ballot v))).poll i ≡ true
write_heard t i s v below waits = go (nat_lt t.ballot s.promised) (register.is_second s t.ballot v) (is_heard t.poll i) refl
  where
    taken : is_heard (take_write t i (Written t.ballot)).poll i ≡ true
    taken = subst (λ z. is_heard (cond z (record t { poll = with_heard t.poll i }) t).poll i ≡ true) (sym (eq-eqb t.ballot t.ballot refl)) (now_heard t.poll i)

    go : (x z y : Bool) → is_heard t.poll i ≡ y → is_heard (hear_write t i (cond x (Refused s.promised) (cond z TwoValues (Written t.ballot)))).poll i ≡ true
    go x z true e = write_more t i (cond x (Refused s.promised) (cond z TwoValues (Written t.ballot))) i e
    go true z false e = subst (λ a. is_heard (cond a (take_write t i (Refused s.promised)) t).poll i ≡ true) (sym (wanted t.poll i below e)) (now_refused t.poll i s.promised waits)
    go false true false e = subst (λ a. is_heard (cond a (take_write t i TwoValues) t).poll i ≡ true) (sym (wanted t.poll i below e)) (now_refused t.poll i t.ballot waits)
    go false false false e = subst (λ a. is_heard (cond a (take_write t i (Written t.ballot)) t).poll i ≡ true) (sym (wanted t.poll i below e)) taken

-- ---- a majority

-- a tally that waits did not hear each cell of a majority
pub waits_short : DistinctLogsCount → (p : Poll) (n : ℕ) (who : List ℕ) → p.cells ≡ n → progress_of p ≡ poll.Waiting → IsMajority n who → ((i : ℕ) → list_any (λ j. j == i) who ≡ true → is_heard p i ≡ true) → ⊥
waits_short counts p n who cells waits majority each =
    let none = (waits_so p waits).0 in
    let few = ltb-false p.cells (2 * length p.heard) (waits_so p waits).1 in
    let many = majority_told (λ i there. sym (ap (λ o. is_refusal_of i o || list_any (λ j. j == i) p.heard) none) ∙ each i there) in
    omega (arith, few, many, cells)
  where
    majority_told : ((i : ℕ) → list_any (λ j. j == i) who ≡ true → list_any (λ j. j == i) p.heard ≡ true) → n < 2 * length p.heard
    majority_told all =
        let mine = counts n (length who) who (record { many = refl; distinct = majority.distinct; below = majority.below }) in
        let told = count_by-range (is_among who) n in
        let into = count_into (is_among who) (is_among p.heard) n (λ i l e. all i e) in
        let short = count_short p.heard n in
        let more = majority.more in
        omega (arith, mine, told, into, short, more)
