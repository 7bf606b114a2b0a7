-- A tally, step by step, against the whole list of what it heard.
use Rattle.std.proofs.Common.{◌≡◌, ℕ, suc, ◌*◌, ◌≤◌, Bool, true, false, cond, not, ◌&&◌, ◌||◌, ◌==◌, nat_lt, List, [], ◌∷◌, length, None, refl, sym, ◌∙◌, ap, subst, arith}
use Rattle.std.specs.List.{list_all}
use Rattle.std.proofs.lemmas.Bool.{ltb-true, ltb-false, lt-ltb, le-ltb, ne_eqb, and_parts, or_parts}
use Rattle.std.proofs.lemmas.List.{length_push}
use Rattle.fr_register.specs.Poll.{Stamped, Poll, ReadState, WriteState}
use Rattle.fr_register.specs.Tally.{is_promise, is_written, is_wanted, with_heard, with_refusal, hear_read, take_read, hear_write, take_write}
use Rattle.fr_register.specs.Heard.{Heard, read_tally, write_tally, is_refusal, supporters, decider, was_heard, pairs_of, promised_pairs, greatest_of}
use Rattle.fr_register.specs.Law.{ReadAnswersFirst, ReadHasGreatest, ReadHearsOnce, WriteAnswersFirst, WriteHearsOnce}
use Rattle.fr_register.specs.declared.ask.CellTell.{CellTell}
use Rattle.fr_register.specs.declared.ask.CellTell.TheVariants.{Promise, Written, Refused, TwoValues}
use Rattle.fr_register.specs.Faithful.{IsPollOf}
use Rattle.fr_register.proofs.Tallied.{new_poll_of, refusal_keeps}
use Rattle.fr_register.proofs.PollSentence.{Stands, waiting, stands_progress, stands_heard, IsSound, named, poll_next, next_poll_of, stands_next}

-- ---- the read tally

read_sound : (b : ℕ) (t : CellTell) → IsSound b (is_promise t) t
read_sound b (Promise w v) = record { no_refusal = λ _. refl; answers = λ _. refl; names = λ k. absurd (cc) }
read_sound b (Written c) = record { no_refusal = λ _. refl; answers = λ _. refl; names = λ k. absurd (cc) }
read_sound b (Refused promised) = record { no_refusal = λ k. absurd (cc); answers = λ k. absurd (cc); names = λ _. refl }
read_sound b TwoValues = record { no_refusal = λ k. absurd (cc); answers = λ k. absurd (cc); names = λ _. refl }

read_poll : (t : ReadState) (h : Heard) → (hear_read t h.cell h.tell).poll ≡ poll_next (is_promise h.tell) t.ballot t.poll h
read_poll t h = go (is_wanted t.poll h.cell) h.tell
  where
    go : (w : Bool) (tell : CellTell) → (cond w (take_read t h.cell tell) t).poll ≡ cond w (cond (is_promise tell) (with_heard t.poll h.cell) (cond (is_refusal tell) (with_refusal t.poll h.cell (named t.ballot tell)) t.poll)) t.poll
    go true (Promise w v) = refl
    go true (Written c) = refl
    go true (Refused promised) = refl
    go true TwoValues = refl
    go false tell = refl

read_ballot : (t : ReadState) (h : Heard) → (hear_read t h.cell h.tell).ballot ≡ t.ballot
read_ballot t h = go (is_wanted t.poll h.cell) h.tell
  where
    go : (w : Bool) (tell : CellTell) → (cond w (take_read t h.cell tell) t).ballot ≡ t.ballot
    go true (Promise w v) = refl
    go true (Written c) = refl
    go true (Refused promised) = refl
    go true TwoValues = refl
    go false tell = refl

-- a tally of ballot b over n cells, against what it heard
record IsTallyOf (n b : ℕ) (is_awaited : CellTell → Bool) (tells : List Heard) (ballot : ℕ) (p : Poll) : Type 0 where
  own : ballot ≡ b
  poll : IsPollOf n p
  stands : Stands n b (supporters n is_awaited tells) (decider n is_awaited tells) p

tally_next : (n b : ℕ) (is_awaited : CellTell → Bool) (h : Heard) (before : List Heard) (p : Poll) → IsSound b (is_awaited h.tell) h.tell → IsTallyOf n b is_awaited before b p → IsTallyOf n b is_awaited (h ∷ before) b (poll_next (is_awaited h.tell) b p h)
tally_next n b is_awaited h before p sound f = record {
  own = refl;
  poll = next_poll_of n b p h (is_awaited h.tell) f.poll;
  stands = stands_next n b (supporters n is_awaited before) (decider n is_awaited before) p h (is_awaited h.tell) sound f.poll f.stands;
}

new_tally : (n b : ℕ) (is_awaited : CellTell → Bool) → IsTallyOf n b is_awaited [] b (record { cells = n; heard = []; refusal = None })
new_tally n b is_awaited = record {
  own = refl;
  poll = new_poll_of n None;
  stands = waiting refl refl (λ i. refl) (le-ltb n (2 * 0) (omega arith));
}

read_tally_of : (n b : ℕ) (tells : List Heard) → IsTallyOf n b is_promise tells (read_tally n b tells).ballot (read_tally n b tells).poll
read_tally_of n b [] = new_tally n b is_promise
read_tally_of n b (h ∷ before) =
    let t = read_tally n b before in
    let f = read_tally_of n b before in
    let own : t.ballot ≡ b = f.own in
    let here : IsTallyOf n b is_promise before b t.poll = record { own = refl; poll = f.poll; stands = f.stands } in
    let next = tally_next n b is_promise h before t.poll (read_sound b h.tell) here in
    let poll : (read_tally n b (h ∷ before)).poll ≡ poll_next (is_promise h.tell) b t.poll h = read_poll t h ∙ ap (λ c. poll_next (is_promise h.tell) c t.poll h) own in
    subst (λ p. IsTallyOf n b is_promise (h ∷ before) (read_tally n b (h ∷ before)).ballot p) (sym poll)
    (record { own = read_ballot t h ∙ own; poll = next.poll; stands = next.stands })

pub read_answers_first : ReadAnswersFirst
read_answers_first n b tells =
    let f = read_tally_of n b tells in
    stands_progress n b (supporters n is_promise tells) (decider n is_promise tells) (read_tally n b tells).poll f.poll f.stands

pub read_hears_once : ReadHearsOnce
read_hears_once n b tells i =
    let f = read_tally_of n b tells in
    stands_heard n b (supporters n is_promise tells) (decider n is_promise tells) (read_tally n b tells).poll i f.stands

-- ---- its greatest pair

-- what is below a ballot is below each greater one
all_lower : (v w : ℕ) (ps : List Stamped) → v ≤ w → list_all (λ q. nat_lt q.ballot v) ps ≡ true → list_all (λ q. nat_lt q.ballot w) ps ≡ true
all_lower v w [] l h = refl
all_lower v w (q ∷ older) l h =
    let parts = and_parts (nat_lt q.ballot v) (list_all (λ p. nat_lt p.ballot v) older) h in
    let less = ltb-true q.ballot v parts.0 in
    rw (lt-ltb q.ballot w (omega arith), all_lower v w older l parts.1) refl

above_next : (w : ℕ) (q : Stamped) (older : List Stamped) → list_all (λ p. nat_lt p.ballot w) older ≡ ((length older == 0) || nat_lt (greatest_of older).ballot w) → list_all (λ p. nat_lt p.ballot q.ballot) older ≡ ((length older == 0) || nat_lt (greatest_of older).ballot q.ballot) → list_all (λ p. nat_lt p.ballot w) (q ∷ older) ≡ ((length (q ∷ older) == 0) || nat_lt (greatest_of (q ∷ older)).ballot w)
above_next w q older at_w at_q = rw (ne_eqb (suc (length older)) 0 (λ k. absurd (omega (arith, k)))) (go (list_all (λ p. nat_lt p.ballot q.ballot) older) refl)
  where
    under : list_all (λ p. nat_lt p.ballot q.ballot) older ≡ true → (t : Bool) → nat_lt q.ballot w ≡ t → (t && list_all (λ p. nat_lt p.ballot w) older) ≡ t
    under e true k = let less = ltb-true q.ballot w k in all_lower q.ballot w older (omega arith) e
    under e false k = refl

    over : list_all (λ p. nat_lt p.ballot q.ballot) older ≡ false → (t : Bool) → nat_lt q.ballot w ≡ t → (t && list_all (λ p. nat_lt p.ballot w) older) ≡ nat_lt (greatest_of older).ballot w
    over e true k =
        let parts = or_parts (length older == 0) (nat_lt (greatest_of older).ballot q.ballot) (sym at_q ∙ e) in
        at_w ∙ ap (λ u. u || nat_lt (greatest_of older).ballot w) parts.0
    over e false k =
        let parts = or_parts (length older == 0) (nat_lt (greatest_of older).ballot q.ballot) (sym at_q ∙ e) in
        let high = ltb-false (greatest_of older).ballot q.ballot parts.1 in
        let low = ltb-false q.ballot w k in
        sym (le-ltb (greatest_of older).ballot w (omega arith))

    go : (s : Bool) → list_all (λ p. nat_lt p.ballot q.ballot) older ≡ s → (nat_lt q.ballot w && list_all (λ p. nat_lt p.ballot w) older) ≡ nat_lt (cond s q (greatest_of older)).ballot w
    go true e = under e (nat_lt q.ballot w) refl
    go false e = over e (nat_lt q.ballot w) refl

-- a ballot is above each of these pairs where there are none or it is above their greatest
above_all : (w : ℕ) (ps : List Stamped) → list_all (λ q. nat_lt q.ballot w) ps ≡ ((length ps == 0) || nat_lt (greatest_of ps).ballot w)
above_all w [] = refl
above_all w (q ∷ older) = above_next w q older (above_all w older) (above_all q.ballot older)

-- as many cells gave a promise as there are pairs, and the tally has the greatest of the pairs
record HasGreatest (t : ReadState) (ps : List Stamped) : Type 0 where
  number : length t.poll.heard ≡ length ps
  greatest : t.greatest ≡ greatest_of ps

greatest_promise : (t : ReadState) (ps : List Stamped) (i w : ℕ) (v : List ℕ) → HasGreatest t ps → HasGreatest (take_read t i (Promise w v)) (record { ballot = w; value = v } ∷ ps)
greatest_promise t ps i w v f = record {
  number = omega (arith, length_push t.poll.heard i, f.number);
  greatest = rw (f.number, f.greatest, above_all w ps) refl;
}

greatest_refusal : (t : ReadState) (ps : List Stamped) (i promised : ℕ) → HasGreatest t ps → HasGreatest (record t { poll = with_refusal t.poll i promised }) ps
greatest_refusal t ps i promised f = record { number = ap length (refusal_keeps t.poll i promised).1 ∙ f.number; greatest = f.greatest }

greatest_take : (t : ReadState) (ps : List Stamped) (i : ℕ) (tell : CellTell) → HasGreatest t ps → HasGreatest (take_read t i tell) (pairs_of tell ps)
greatest_take t ps i (Promise w v) f = greatest_promise t ps i w v f
greatest_take t ps i (Written c) f = f
greatest_take t ps i (Refused promised) f = greatest_refusal t ps i promised f
greatest_take t ps i TwoValues f = greatest_refusal t ps i t.ballot f

greatest_next : (t : ReadState) (ps : List Stamped) (h : Heard) (counts : Bool) → is_wanted t.poll h.cell ≡ counts → HasGreatest t ps → HasGreatest (hear_read t h.cell h.tell) (cond counts (pairs_of h.tell ps) ps)
greatest_next t ps h true e f = rw e (greatest_take t ps h.cell h.tell f)
greatest_next t ps h false e f = rw e f

read_greatest_of : (n b : ℕ) (tells : List Heard) → HasGreatest (read_tally n b tells) (promised_pairs n tells)
read_greatest_of n b [] = record { number = refl; greatest = refl }
read_greatest_of n b (h ∷ before) =
    let t = read_tally n b before in
    let f = read_tally_of n b before in
    let same : is_wanted t.poll h.cell ≡ (nat_lt h.cell n && not (was_heard n is_promise before h.cell)) = rw (f.poll.size, read_hears_once n b before h.cell) refl in
    greatest_next t (promised_pairs n before) h (nat_lt h.cell n && not (was_heard n is_promise before h.cell)) same (read_greatest_of n b before)

pub read_has_greatest : ReadHasGreatest
read_has_greatest n b tells = (read_greatest_of n b tells).greatest

-- ---- the write tally

write_sound : (b : ℕ) (t : CellTell) → IsSound b (is_written b t) t
write_sound b (Promise w v) = record { no_refusal = λ _. refl; answers = λ _. refl; names = λ k. absurd (cc) }
write_sound b (Written c) = record { no_refusal = λ _. refl; answers = λ _. refl; names = λ k. absurd (cc) }
write_sound b (Refused promised) = record { no_refusal = λ k. absurd (cc); answers = λ k. absurd (cc); names = λ _. refl }
write_sound b TwoValues = record { no_refusal = λ k. absurd (cc); answers = λ k. absurd (cc); names = λ _. refl }

write_poll : (t : WriteState) (h : Heard) → (hear_write t h.cell h.tell).poll ≡ poll_next (is_written t.ballot h.tell) t.ballot t.poll h
write_poll t h = go (is_wanted t.poll h.cell) h.tell
  where
    own : (s : Bool) → (let u : WriteState = cond s (record { ballot = t.ballot; poll = with_heard t.poll h.cell }) t in u.poll) ≡ cond s (with_heard t.poll h.cell) t.poll
    own true = refl
    own false = refl

    go : (w : Bool) (tell : CellTell) → (cond w (take_write t h.cell tell) t).poll ≡ cond w (cond (is_written t.ballot tell) (with_heard t.poll h.cell) (cond (is_refusal tell) (with_refusal t.poll h.cell (named t.ballot tell)) t.poll)) t.poll
    go true (Promise w v) = refl
    go true (Written c) = own (c == t.ballot)
    go true (Refused promised) = refl
    go true TwoValues = refl
    go false tell = refl

write_ballot : (t : WriteState) (h : Heard) → (hear_write t h.cell h.tell).ballot ≡ t.ballot
write_ballot t h = go (is_wanted t.poll h.cell) h.tell
  where
    own : (s : Bool) → (let u : WriteState = cond s (record { ballot = t.ballot; poll = with_heard t.poll h.cell }) t in u.ballot) ≡ t.ballot
    own true = refl
    own false = refl

    go : (w : Bool) (tell : CellTell) → (cond w (take_write t h.cell tell) t).ballot ≡ t.ballot
    go true (Promise w v) = refl
    go true (Written c) = own (c == t.ballot)
    go true (Refused promised) = refl
    go true TwoValues = refl
    go false tell = refl

write_tally_of : (n b : ℕ) (tells : List Heard) → IsTallyOf n b (is_written b) tells (write_tally n b tells).ballot (write_tally n b tells).poll
write_tally_of n b [] = new_tally n b (is_written b)
write_tally_of n b (h ∷ before) =
    let t = write_tally n b before in
    let f = write_tally_of n b before in
    let own : t.ballot ≡ b = f.own in
    let here : IsTallyOf n b (is_written b) before b t.poll = record { own = refl; poll = f.poll; stands = f.stands } in
    let next = tally_next n b (is_written b) h before t.poll (write_sound b h.tell) here in
    let poll : (write_tally n b (h ∷ before)).poll ≡ poll_next (is_written b h.tell) b t.poll h = write_poll t h ∙ ap (λ c. poll_next (is_written c h.tell) c t.poll h) own in
    subst (λ p. IsTallyOf n b (is_written b) (h ∷ before) (write_tally n b (h ∷ before)).ballot p) (sym poll)
    (record { own = write_ballot t h ∙ own; poll = next.poll; stands = next.stands })

pub write_answers_first : WriteAnswersFirst
write_answers_first n b tells =
    let f = write_tally_of n b tells in
    stands_progress n b (supporters n (is_written b) tells) (decider n (is_written b) tells) (write_tally n b tells).poll f.poll f.stands

pub write_hears_once : WriteHearsOnce
write_hears_once n b tells i =
    let f = write_tally_of n b tells in
    stands_heard n b (supporters n (is_written b) tells) (decider n (is_written b) tells) (write_tally n b tells).poll i f.stands
