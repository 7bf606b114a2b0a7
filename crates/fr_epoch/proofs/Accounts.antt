-- The state of a recoverer accounts for each ask that it gave.
use Rattle.std.proofs.Common.{◌≡◌, ℕ, ◌<◌, Bool, true, false, cond, not, nat_lt, List, [], ◌∷◌, map, length, get_or, Option, None, Some, refl, sym, ◌∙◌, ap, subst, arith}
use Rattle.std.specs.List.{All, range_with_len}
use Rattle.std.specs.Prelude.{filter, flat_map}
use Rattle.std.proofs.lemmas.Bool.{and_parts}
use Rattle.std.proofs.lemmas.List.Elements.{All-nil, All-map, All-filter, All-append, All-from_get_or}
use Rattle.std.proofs.lemmas.List.FromFn.{get_or-range_with_len, length-range_with_len}
use Rattle.fr_base.specs.declared.place.NodeId.{NodeId}
use Rattle.fr_base.specs.declared.place.NodeId.TheVariants as node
use Rattle.fr_register.specs.Tally.{is_heard}
use Rattle.fr_register.specs.declared.ask.CellAsk.TheVariants as cell
use Rattle.fr_register.specs.declared.ask.CellAsk.{CellAsk}
use Rattle.fr_state.specs.Spelling.{spelling}
use Rattle.fr_tags.specs.Placement.{is_held}
use Rattle.fr_log.specs.declared.ask.LogAsk.{LogAsk}
use Rattle.fr_log.specs.declared.ask.LogAsk.TheVariants as log
use Rattle.fr_log.specs.declared.ask.LogTell.{LogTell}
use Rattle.fr_log.specs.declared.ask.LogTell.TheVariants as ltell
use Rattle.fr_ask.specs.declared.ask.Ask.{Ask}
use Rattle.fr_ask.specs.declared.ask.Ask.TheVariants as ask
use Rattle.fr_tail.specs.Tail.{is_complete, part_at, seed_for}
use Rattle.fr_epoch.specs.EndTally.{EndState, has_replied}
use Rattle.fr_epoch.specs.Recoverer.{RecState, Phase, Parent, Plan, Reading, Locking, Copying, Writing, Chosen, Lost, is_copied, is_copied_in, is_written, is_written_in, mark_of}
use Rattle.fr_epoch.specs.Words.{Word, OfCell, OfLog, Other, is_in, word_of}
use Rattle.fr_epoch.specs.Hear.{after_hear}
use Rattle.fr_epoch.specs.Asks.{left, reads_of, locks_of, peeks_of_tag, peeks_of, seeds_of, writes_of, marks_of, copies_of, pending_in, pending, has_moved, next_peeks, peeks_after, peeks_in, reached_in}
use Rattle.fr_epoch.specs.Law.{IsRecoverer, RecGrows, AccountsFor, AccountsForCell, AccountsForLog, PendingIsAccounted, NewIsAccounted, AccountedStays}
use Rattle.fr_epoch.proofs.Growth.{hear_leaves}

-- ---- lists

All-made : {Y : Type 0} (P : Y → Type 0) (f : ℕ → Y) (xs : List ℕ) → ((x : ℕ) → P (f x)) → All P (map f xs)
All-made P f xs each = All-map P f xs (All-from_get_or (λ x. P (f x)) xs 0 (λ i l. each (get_or xs i 0)))

All-flat_map : {X Y : Type 0} (P : Y → Type 0) (f : X → List Y) → ((x : X) → All P (f x)) → (xs : List X) → All P (flat_map f xs)
All-flat_map P f each [] = All-nil P
All-flat_map P f each (x ∷ xs) = All-append P (f x) (flat_map f xs) (each x) (All-flat_map P f each xs)

All-made_left : {Y : Type 0} (P : Y → Type 0) (f : ℕ → Y) (n : ℕ) (is_done : ℕ → Bool) → ((i : ℕ) → i < n → P (f i)) → All P (map f (left n is_done))
All-made_left P f n is_done each =
    All-map P f (left n is_done) (All-filter (λ i. not (is_done i)) (λ x. P (f x)) (range_with_len 0 n) (All-from_get_or (λ x. P (f x)) (range_with_len 0 n) 0 (λ i l.
    let k = length-range_with_len 0 n in each (get_or (range_with_len 0 n) i 0) (omega (arith, get_or-range_with_len 0 n i 0 (omega (arith, k, l)), k, l)))))

-- ---- what is pending

abbrev Accounted : RecState → NodeId × Ask → Type 0
Accounted r s = AccountsFor r s.0 s.1

reads : (r : RecState) → All (Accounted r) (reads_of r)
reads r = All-made (Accounted r) (λ i. (node.Cell i, ask.Cell (cell.Read r.ballot))) (left r.reads.poll.cells (is_heard r.reads.poll)) (λ i. refl)

locks : (r : RecState) (o : Option Parent) (e : Option EndState) → All (Accounted r) (locks_of o e)
locks r None e = All-nil (Accounted r)
locks r (Some p) None = All-nil (Accounted r)
locks r (Some p) (Some end) = All-made (Accounted r) (λ i. (node.Log p.last.epoch i, ask.Log (log.Lock p.last.epoch))) (left p.last.m (has_replied end)) (λ i. refl)

peeks_of_one : (r n : RecState) (parent : Parent) (p : Plan) (tag : ℕ) → All (Accounted n) (peeks_of_tag r parent p tag)
peeks_of_one r n parent p tag = go (nat_lt (part_at p.tail tag).reached p.tail.rv)
  where
    go : (b : Bool) → All (Accounted n) (cond b (map (λ i. (node.Log parent.last.epoch i, ask.Log (log.Peek parent.last.epoch tag (part_at p.tail tag).reached 100))) (filter (λ i. is_held tag p.tail.m p.tail.k i) p.tail.responders)) [])
    go true = All-made (Accounted n) (λ i. (node.Log parent.last.epoch i, ask.Log (log.Peek parent.last.epoch tag (part_at p.tail tag).reached 100))) (filter (λ i. is_held tag p.tail.m p.tail.k i) p.tail.responders) (λ i. refl)
    go false = All-nil (Accounted n)

peeks : (r n : RecState) (o : Option Parent) (q : Option Plan) (tags : List ℕ) → All (Accounted n) (peeks_of r o q tags)
peeks r n None q tags = All-nil (Accounted n)
peeks r n (Some parent) None tags = All-nil (Accounted n)
peeks r n (Some parent) (Some p) tags = All-flat_map (Accounted n) (peeks_of_tag r parent p) (peeks_of_one r n parent p) tags

seeds : (r : RecState) → is_copied r ≡ true → (o : Option Plan) → r.plan ≡ o → All (Accounted r) (seeds_of r o)
seeds r c None at = All-nil (Accounted r)
seeds r c (Some p) at =
    All-made_left (Accounted r) (λ i. (node.Log r.ballot i, ask.Log (log.Seed (seed_for p.tail r.ballot p.generation.m p.generation.k i)))) p.generation.m (is_in r.seeded)
    (λ i l. (refl, c, (p, at, l, refl)))

writes : (r : RecState) → is_written r ≡ true → (o : Option Plan) → r.plan ≡ o → All (Accounted r) (writes_of r o)
writes r w None at = All-nil (Accounted r)
writes r w (Some p) at =
    All-made (Accounted r) (λ i. (node.Cell i, ask.Cell (cell.Write r.ballot (spelling p.state)))) (left r.writes.poll.cells (is_heard r.writes.poll)) (λ i. (refl, w, (p, at, refl)))

written_is_copied : (o : Option Plan) (seeded : List ℕ) → is_written_in o seeded ≡ true → is_copied_in o ≡ true
written_is_copied None seeded e = e
written_is_copied (Some p) seeded e = (and_parts (is_complete p.tail) _ e).0

marks : (r : RecState) → r.phase ≡ Chosen → is_copied r ≡ true → (o : Option Plan) → r.plan ≡ o → All (Accounted r) (marks_of r o)
marks r ph c None at = All-nil (Accounted r)
marks r ph c (Some p) at =
    All-made_left (Accounted r) (λ i. (node.Log r.ballot i, ask.Log (log.Push (mark_of p)))) p.generation.m (is_in r.marked) (λ i l. (refl, ph, c, (p, at, l, refl)))

copies : (r : RecState) → All (Accounted r) (copies_of r)
copies r = go (is_copied r) refl
  where
    go : (b : Bool) → is_copied r ≡ b → All (Accounted r) (cond b (seeds_of r r.plan) (peeks_of r r.parent r.plan (range_with_len 0 (length r.begins))))
    go true e = seeds r e r.plan refl
    go false e = peeks r r r.parent r.plan (range_with_len 0 (length r.begins))

in_phase : (r : RecState) → IsRecoverer r → (ph : Phase) → r.phase ≡ ph → All (Accounted r) (pending_in ph r)
in_phase r h Reading e = reads r
in_phase r h Locking e = locks r r.parent r.end
in_phase r h Copying e = copies r
in_phase r h Writing e = writes r (h.writing e) r.plan refl
in_phase r h Chosen e = marks r e (written_is_copied r.plan r.seeded (h.chosen e)) r.plan refl
in_phase r h (Lost why) e = All-nil (Accounted r)

pub pending_is_accounted : PendingIsAccounted
pending_is_accounted r h = in_phase r h r.phase refl

-- ---- what is asked newly

going_on : (r n : RecState) (t : LogTell) → All (Accounted n) (next_peeks r n t)
going_on r n (ltell.Peeked peeked) = go (nat_lt (reached_in r.plan peeked.tag) (reached_in n.plan peeked.tag))
  where
    go : (b : Bool) → All (Accounted n) (cond b (peeks_of n n.parent n.plan (peeked.tag ∷ [])) [])
    go true = peeks n n n.parent n.plan (peeked.tag ∷ [])
    go false = All-nil (Accounted n)
going_on r n t = All-nil (Accounted n)

after_word : (r n : RecState) (w : Word) → All (Accounted n) (peeks_after r n w)
after_word r n (OfCell i t) = All-nil (Accounted n)
after_word r n (OfLog e i t) = going_on r n t
after_word r n Other = All-nil (Accounted n)

after_phase : (r n : RecState) (w : Word) (ph : Phase) → All (Accounted n) (peeks_in ph r n w)
after_phase r n w Reading = All-nil (Accounted n)
after_phase r n w Locking = All-nil (Accounted n)
after_phase r n w Copying = after_word r n w
after_phase r n w Writing = All-nil (Accounted n)
after_phase r n w Chosen = All-nil (Accounted n)
after_phase r n w (Lost why) = All-nil (Accounted n)

pub new_is_accounted : NewIsAccounted
new_is_accounted r from t h = go (after_hear r from t) (hear_leaves r from t h) (has_moved r (after_hear r from t))
  where
    go : (n : RecState) → IsRecoverer n → (b : Bool) → All (Accounted n) (cond b (pending n) (peeks_in r.phase r n (word_of from t)))
    go n k true = pending_is_accounted n k
    go n k false = after_phase r n (word_of from t) r.phase

-- ---- later on

for_cell : (r n : RecState) (a : CellAsk) → RecGrows r n → AccountsForCell r a → AccountsForCell n a
for_cell r n (cell.Read b) g h = h ∙ sym g.ballot
for_cell r n (cell.Write b x) g (own, w, (p, at, is)) =
    let q = g.plan p at in
    (own ∙ sym g.ballot, g.written w, (q.0, q.1, is ∙ ap spelling (sym q.2.state)))

still_copied : (r n : RecState) → RecGrows r n → is_copied r ≡ true → is_copied n ≡ true
still_copied r n g c = ap is_copied_in (g.copied c) ∙ c

for_log : (r n : RecState) (e i : ℕ) (a : LogAsk) → RecGrows r n → AccountsForLog r e i a → AccountsForLog n e i a
for_log r n e i (log.Seed s) g (own, c, (p, at, l, is)) =
    (own ∙ sym g.ballot, still_copied r n g c, (p, g.copied c ∙ at, l, subst (λ b. s ≡ seed_for p.tail b p.generation.m p.generation.k i) (sym g.ballot) is))
for_log r n e i (log.Push q) g (own, ph, c, (p, at, l, is)) = (own ∙ sym g.ballot, g.chosen ph, still_copied r n g c, (p, g.copied c ∙ at, l, is))
for_log r n e i a g h = h

pub accounted_stays : AccountedStays
accounted_stays r n (node.Cell i) (ask.Cell a) g h = for_cell r n a g h
accounted_stays r n (node.Log e i) (ask.Log a) g h = for_log r n e i a g h
accounted_stays r n to a g h = absurd h
