-- After a hear a recoverer waits for nothing but what it waited for before, and what it asks now.
use Rattle.std.proofs.Common.{◌≡◌, ℕ, ◌<◌, ◌≤◌, Bool, true, false, cond, not, ◌&&◌, ◌||◌, nat_lt, ◌==◌, map, filter, List, [], ◌∷◌, ◌++◌, length, Option, None, Some, inl, inr, ◌⊎◌, refl, sym, ◌∙◌, ap, subst, arith}
use Rattle.std.specs.Prelude.{flat_map, Ok, Err}
use Rattle.std.specs.List.{Contains, list_any, range_with_len}
use Rattle.std.proofs.lemmas.Bool.{and_parts, cases_eq, eq-eqb, ltb-true, ltb-false, lt-ltb, true≢false}
use Rattle.std.proofs.lemmas.List.{get_or-set_same, get_or-set_other}
use Rattle.fr_base.specs.declared.place.NodeId.{NodeId}
use Rattle.fr_base.specs.declared.place.NodeId.TheVariants as node
use Rattle.fr_register.specs.Poll.{Poll, ReadState, WriteState}
use Rattle.fr_register.specs.Tally.{is_majority, progress_from, progress_of, is_refusal_of, is_heard, is_wanted, with_heard, with_refusal, refused_at, hear_read, take_read, hear_write, take_write}
use Rattle.fr_register.specs.declared.ask.CellAsk.TheVariants as cell
use Rattle.fr_register.specs.declared.ask.CellTell.{CellTell}
use Rattle.fr_register.specs.declared.ask.CellTell.TheVariants as ctell
use Rattle.fr_register.specs.declared.poll.Progress.{Progress}
use Rattle.fr_register.specs.declared.poll.Progress.TheVariants as poll
use Rattle.fr_register.specs.declared.poll.Refusal.{Refusal}
use Rattle.fr_log.specs.Peeked.{PeekedContent}
use Rattle.fr_log.specs.declared.ask.LogAsk.TheVariants as log
use Rattle.fr_tags.specs.Placement.{is_held}
use Rattle.fr_state.specs.Spelling.{spelling}
use Rattle.fr_ask.specs.declared.ask.Ask.{Ask}
use Rattle.fr_ask.specs.declared.ask.Ask.TheVariants as ask
use Rattle.fr_ask.specs.declared.tell.Tell.{Tell}
use Rattle.fr_tail.specs.declared.fault.TailFault.TheVariants.{NotResponder, Hole, ShortOfEnd}
use Rattle.fr_tail.specs.Tail.{TailState, TagPart, new_part, part_at, with_part, longer, take_next, take, kept, is_responder, seed_for, after_hear as after_peeked}
use Rattle.fr_epoch.specs.declared.reply.Reply.{Reply}
use Rattle.fr_epoch.specs.EndTally.{EndState, counts, has_replied, with_reply}
use Rattle.fr_epoch.specs.Recoverer.{RecState, Phase, Parent, Plan, Reading, Locking, Copying, Writing, Chosen, Lost, is_copied, mark_of}
use Rattle.fr_epoch.specs.Words.{is_in, word_of}
use Rattle.fr_epoch.specs.Hear.{after_hear, with_tail, with_seeded, with_write, with_marked}
use Rattle.fr_epoch.specs.Asks.{left, locks_of, peeks_of_tag, peeks_of, seeds_of, writes_of, marks_of, copies_of, pending_in, pending, phase_number, has_moved, reached_in, peeks_after, peeks_in, new_asks}
use Rattle.fr_epoch.specs.Change.{Change, Stands, LosesReads, Reads, Finds, Locks, LosesLocks, Plans, Copies, Seeds, SeedsAll, Writes, LosesWrites, Chooses, Marks, IsGiven}
use Rattle.fr_epoch.specs.Law.{IsRecoverer, RecGrows, HearIsChange, HearGrows}
use Rattle.fr_run.proofs.Cells.{Contains-here, Contains-none}
use Rattle.fr_run_outcomes.proofs.Lists.{left_less, map_less, flat_from, flat_has, any_more}

abbrev Sending : Type 0
Sending = NodeId × Ask

-- what one list has, another has
abbrev IsWithin : List Sending → List Sending → Type 0
IsWithin xs ys = (s : Sending) → Contains xs s → Contains ys s

-- ---- tallies of cells

-- a poll after a tell has heard no fewer
heard_more : (p : Poll) (i j : ℕ) → is_heard p j ≡ true → is_heard (with_heard p i) j ≡ true
heard_more p i j e = go (is_refusal_of j p.refusal) e
  where
    go : (b : Bool) → (b || list_any (λ x. x == j) p.heard) ≡ true → (b || list_any (λ x. x == j) (p.heard ++ i ∷ [])) ≡ true
    go true k = refl
    go false k = any_more (λ x. x == j) p.heard (i ∷ []) k

refused_more : (p : Poll) (i promised j : ℕ) → is_heard p j ≡ true → is_heard (with_refusal p i promised) j ≡ true
refused_more p i promised j e = go p.refusal refl
  where
    none : p.refusal ≡ None → list_any (λ x. x == j) p.heard ≡ true
    none at = sym (ap (λ o. is_refusal_of j o || list_any (λ x. x == j) p.heard) at) ∙ e

    waits : (b : Bool) → p.refusal ≡ None → is_heard (refused_at (cond b poll.Majority poll.Waiting) p i promised) j ≡ true
    waits true at = e
    waits false at = also (i == j)
      where
        also : (b : Bool) → (b || list_any (λ x. x == j) p.heard) ≡ true
        also true = refl
        also false = none at

    go : (o : Option Refusal) → p.refusal ≡ o → is_heard (refused_at (progress_from p p.refusal) p i promised) j ≡ true
    go (Some refusal) at = subst (λ o. is_heard (refused_at (progress_from p o) p i promised) j ≡ true) (sym at) e
    go None at = subst (λ o. is_heard (refused_at (progress_from p o) p i promised) j ≡ true) (sym at) (waits (is_majority p) at)

pub read_more : (t : ReadState) (i : ℕ) (u : CellTell) (j : ℕ) → is_heard t.poll j ≡ true → is_heard (hear_read t i u).poll j ≡ true
read_more t i u j e = go u (is_wanted t.poll i)
  where
    go : (u : CellTell) (b : Bool) → is_heard (cond b (take_read t i u) t).poll j ≡ true
    go u false = e
    go (ctell.Promise w v) true = heard_more t.poll i j e
    go (ctell.Written b) true = e
    go (ctell.Refused promised) true = refused_more t.poll i promised j e
    go ctell.TwoValues true = refused_more t.poll i t.ballot j e

pub read_cells : (t : ReadState) (i : ℕ) (u : CellTell) → (hear_read t i u).poll.cells ≡ t.poll.cells
read_cells t i u = go u (is_wanted t.poll i)
  where
    refused : (promised : ℕ) (x : Progress) → (refused_at x t.poll i promised).cells ≡ t.poll.cells
    refused promised poll.Waiting = refl
    refused promised poll.Majority = refl
    refused promised (poll.Lost before) = refl

    go : (u : CellTell) (b : Bool) → (cond b (take_read t i u) t).poll.cells ≡ t.poll.cells
    go u false = refl
    go (ctell.Promise w v) true = refl
    go (ctell.Written b) true = refl
    go (ctell.Refused promised) true = refused promised (progress_of t.poll)
    go ctell.TwoValues true = refused t.ballot (progress_of t.poll)

pub write_more : (t : WriteState) (i : ℕ) (u : CellTell) (j : ℕ) → is_heard t.poll j ≡ true → is_heard (hear_write t i u).poll j ≡ true
write_more t i u j e = go u (is_wanted t.poll i)
  where
    written : (b : Bool) → is_heard (cond b (record t { poll = with_heard t.poll i }) t).poll j ≡ true
    written true = heard_more t.poll i j e
    written false = e

    go : (u : CellTell) (b : Bool) → is_heard (cond b (take_write t i u) t).poll j ≡ true
    go u false = e
    go (ctell.Promise w v) true = e
    go (ctell.Written b) true = written (b == t.ballot)
    go (ctell.Refused promised) true = refused_more t.poll i promised j e
    go ctell.TwoValues true = refused_more t.poll i t.ballot j e

pub write_cells : (t : WriteState) (i : ℕ) (u : CellTell) → (hear_write t i u).poll.cells ≡ t.poll.cells
write_cells t i u = go u (is_wanted t.poll i)
  where
    refused : (promised : ℕ) (x : Progress) → (refused_at x t.poll i promised).cells ≡ t.poll.cells
    refused promised poll.Waiting = refl
    refused promised poll.Majority = refl
    refused promised (poll.Lost before) = refl

    written : (b : Bool) → (cond b (record t { poll = with_heard t.poll i }) t).poll.cells ≡ t.poll.cells
    written true = refl
    written false = refl

    go : (u : CellTell) (b : Bool) → (cond b (take_write t i u) t).poll.cells ≡ t.poll.cells
    go u false = refl
    go (ctell.Promise w v) true = refl
    go (ctell.Written b) true = written (b == t.ballot)
    go (ctell.Refused promised) true = refused promised (progress_of t.poll)
    go ctell.TwoValues true = refused t.ballot (progress_of t.poll)

-- what is left of a poll that heard more, over as many cells
poll_less : (f : ℕ → Sending) (p q : Poll) → q.cells ≡ p.cells → ((j : ℕ) → is_heard p j ≡ true → is_heard q j ≡ true) → IsWithin (map f (left q.cells (is_heard q))) (map f (left p.cells (is_heard p)))
poll_less f p q same more s k =
    map_less f (left p.cells (is_heard p)) (left p.cells (is_heard q)) (left_less p.cells (is_heard p) (is_heard q) more) s (subst (λ n. Contains (map f (left n (is_heard q))) s) same k)

-- ---- replies, seeds and marks

pub replied_more : (end : EndState) (x : Reply) (j : ℕ) → has_replied end j ≡ true → has_replied (with_reply end x) j ≡ true
replied_more end x j e = go (counts end x.log)
  where
    go : (b : Bool) → has_replied (cond b (record end { replies = end.replies ++ x ∷ [] }) end) j ≡ true
    go true = any_more (λ y. y.log == j) end.replies (x ∷ []) e
    go false = e

pub in_more : (logs : List ℕ) (i j : ℕ) → is_in logs j ≡ true → is_in (logs ++ i ∷ []) j ≡ true
in_more logs i j e = any_more (λ other. other == j) logs (i ∷ []) e

-- ---- copies

-- the part of another tag stays, and so do the ends, the shape and the responders of a copy
pub record IsSameBut (tag : ℕ) (s n : TailState) : Type 0 where
  pub m : n.m ≡ s.m
  pub k : n.k ≡ s.k
  pub responders : n.responders ≡ s.responders
  pub rv : n.rv ≡ s.rv
  pub pev : n.pev ≡ s.pev
  pub others : (t : ℕ) → (t ≡ tag → ⊥) → part_at n t ≡ part_at s t
  pub further : part_at n tag ≡ part_at s tag ⊎ ((part_at s tag).reached < (part_at n tag).reached)

same_tail : (tag : ℕ) (s : TailState) → IsSameBut tag s s
same_tail tag s = record { m = refl; k = refl; responders = refl; rv = refl; pev = refl; others = λ t other. refl; further = inl refl }

with_part_other : (s : TailState) (tag : ℕ) (p : TagPart) → tag < length s.parts → (part_at s tag).reached < p.reached → IsSameBut tag s (with_part s tag p)
with_part_other s tag p below more = record {
  m = refl;
  k = refl;
  responders = refl;
  rv = refl;
  pev = refl;
  others = λ t other. get_or-set_other s.parts tag t p (new_part s.pev) other;
  further = inr (let here = ap (λ (x : TagPart). x.reached) (get_or-set_same s.parts tag p (new_part s.pev) below) in omega (arith, here, more));
}

-- an answer to a peek brings the part of its tag further, or changes nothing
pub peek_takes : (s : TailState) (log tag : ℕ) (peeked : PeekedContent) → IsSameBut tag s (after_peeked s log tag peeked)
peek_takes s log tag peeked = go (is_responder s log tag) refl
  where
    part : TagPart
    part = part_at s tag

    next : tag < length s.parts → peeked.after ≡ (part_at s tag).reached → (part_at s tag).reached < s.rv → (b : Bool) → nat_lt peeked.after peeked.upto ≡ b
        → IsSameBut tag s (kept s (cond b (Ok (with_part s tag (longer s.rv (part_at s tag) peeked))) (Err ShortOfEnd)))
    next below at short true e = (let up = ltb-true peeked.after peeked.upto e in with_part_other s tag (longer s.rv (part_at s tag) peeked) below (omega (arith, up, at, short)))
    next below at short false e = same_tail tag s

    low : tag < length s.parts → peeked.after ≤ (part_at s tag).reached → (a : Bool) → nat_lt peeked.after (part_at s tag).reached ≡ a → (d : Bool) → nat_lt (part_at s tag).reached s.rv ≡ d
        → IsSameBut tag s (kept s (cond (a || not d) (Ok s) (take_next s tag (part_at s tag) peeked)))
    low below le true e d f = same_tail tag s
    low below le false e false f = same_tail tag s
    low below le false e true f =
        (let ge = ltb-false peeked.after (part_at s tag).reached e in let short = ltb-true (part_at s tag).reached s.rv f in next below (omega (arith, le, ge)) short (nat_lt peeked.after peeked.upto) refl)

    taken : tag < length s.parts → (b : Bool) → nat_lt (part_at s tag).reached peeked.after ≡ b
        → IsSameBut tag s (kept s (cond b (Err Hole) (cond (nat_lt peeked.after (part_at s tag).reached || not (nat_lt (part_at s tag).reached s.rv)) (Ok s) (take_next s tag (part_at s tag) peeked))))
    taken below true e = same_tail tag s
    taken below false e = low below (ltb-false (part_at s tag).reached peeked.after e) (nat_lt peeked.after (part_at s tag).reached) refl (nat_lt (part_at s tag).reached s.rv) refl

    inside : is_responder s log tag ≡ true → tag < length s.parts
    inside e =
        let two = and_parts (list_any (λ r. r == log) s.responders) (is_held tag s.m s.k log && nat_lt tag (length s.parts)) e in
        ltb-true tag (length s.parts) (and_parts (is_held tag s.m s.k log) (nat_lt tag (length s.parts)) two.1).1

    go : (b : Bool) → is_responder s log tag ≡ b → IsSameBut tag s (kept s (cond b (take s tag (part_at s tag) peeked) (Err NotResponder)))
    go true e = taken (inside e) (nat_lt (part_at s tag).reached peeked.after) refl
    go false e = same_tail tag s

-- the peeks of a tag whose part is the same are the same
peeks_same : (r : RecState) (parent : Parent) (p q : Plan) (tag : ℕ) → IsSameBut tag p.tail q.tail → (t : ℕ) → part_at q.tail t ≡ part_at p.tail t → peeks_of_tag r parent q t ≡ peeks_of_tag r parent p t
peeks_same r parent p q tag k t same =
    ap (λ rv. peeks_with rv (part_at q.tail t).reached q.tail.m q.tail.k q.tail.responders) k.rv
    ∙ ap (λ (x : TagPart). peeks_with p.tail.rv x.reached q.tail.m q.tail.k q.tail.responders) same
    ∙ ap (λ m. peeks_with p.tail.rv (part_at p.tail t).reached m q.tail.k q.tail.responders) k.m
    ∙ ap (λ n. peeks_with p.tail.rv (part_at p.tail t).reached p.tail.m n q.tail.responders) k.k
    ∙ ap (peeks_with p.tail.rv (part_at p.tail t).reached p.tail.m p.tail.k) k.responders
  where
    peeks_with : ℕ → ℕ → ℕ → ℕ → List ℕ → List Sending
    peeks_with rv reached m n responders =
        cond (nat_lt reached rv) (map (λ i. (node.Log parent.last.epoch i, ask.Log (log.Peek parent.last.epoch t reached 100))) (filter (λ i. is_held t m n i) responders)) []

-- ---- one hear

-- what a recoverer waits for after a hear it waited for before, or asks now
abbrev IsAsked : RecState → NodeId → Tell → RecState → Type 0
IsAsked r from t n = (s : Sending) → Contains (pending n) s → Contains (pending r) s ⊎ Contains (cond (has_moved r n) (pending n) (peeks_in r.phase r n (word_of from t))) s

-- where it went on to another phase it asks all
moved : (r : RecState) (from : NodeId) (t : Tell) (n : RecState) → has_moved r n ≡ true → IsAsked r from t n
moved r from t n e s k = inr (subst (λ b. Contains (cond b (pending n) (peeks_in r.phase r n (word_of from t))) s) (sym e) k)

-- where what is left is no more it waited for it before
fewer : (r : RecState) (from : NodeId) (t : Tell) (n : RecState) → IsWithin (pending n) (pending r) → IsAsked r from t n
fewer r from t n within s k = inl (within s k)

-- the phases that differ
apart : (r n : RecState) (a b : Phase) → r.phase ≡ a → n.phase ≡ b → not (phase_number a == phase_number b) ≡ true → has_moved r n ≡ true
apart r n a b e f d = ap (λ (x : Bool). x || (not (is_copied r) && is_copied n)) (ap (λ ph. not (phase_number ph == phase_number n.phase)) e ∙ ap (λ ph. not (phase_number a == phase_number ph)) f ∙ d)

-- pending, by the phase
in_phase : (r : RecState) (ph : Phase) → r.phase ≡ ph → pending_in ph r ≡ pending r
in_phase r ph e = ap (λ x. pending_in x r) (sym e)

same_phase : (r n : RecState) (ph : Phase) → r.phase ≡ ph → n.phase ≡ ph → IsWithin (pending_in ph n) (pending_in ph r) → IsWithin (pending n) (pending r)
same_phase r n ph e f within s k = subst (λ xs. Contains xs s) (in_phase r ph e) (within s (subst (λ xs. Contains xs s) (sym (in_phase n ph f)) k))

none_pending : (n : RecState) (w : _) → n.phase ≡ Lost w → (r : RecState) → IsWithin (pending n) (pending r)
none_pending n w e r s k = absurd (Contains-none (subst (λ xs. Contains xs s) (ap (λ ph. pending_in ph n) e) k))

-- the peeks after an answer to one
copies_asked : (r : RecState) (from : NodeId) (t : Tell) (parent : Parent) (p : Plan) (i : ℕ) (peeked : PeekedContent) → IsGiven r (word_of from t) parent p i peeked → (RecGrows r (with_tail r p i peeked)) → IsAsked r from t (with_tail r p i peeked)
copies_asked r from t parent p i peeked given grows s k = go (is_copied r) refl
  where
    n : RecState
    n = with_tail r p i peeked

    q : Plan
    q = record p { tail = after_peeked p.tail i peeked.tag peeked }

    -- a copy that was complete stands
    stood : is_copied r ≡ true → Contains (pending r) s
    stood e = (let same : Some (record p { tail = after_peeked p.tail i peeked.tag peeked }) ≡ r.plan = grows.copied e in
        subst (λ o. Contains (pending (record r { plan = o })) s) same k)

    -- the tags whose parts are not complete are asked for again, or were
    by_tag : is_copied r ≡ false → has_moved r (with_tail r p i peeked) ≡ false → is_copied (with_tail r p i peeked) ≡ false
        → Contains (pending r) s ⊎ Contains (peeks_in r.phase r (with_tail r p i peeked) (word_of from t)) s
    by_tag was still not_yet =
        let own = flat_from (peeks_of_tag (with_tail r p i peeked) parent q) (range_with_len 0 (length r.begins)) s mine in
        elim (cases_eq own.0 peeked.tag) [
          | inr other ↦ inl (before own.0 own.1 (subst (λ xs. Contains xs s) (peeks_same (with_tail r p i peeked) parent p q peeked.tag takes own.0 (takes.others own.0 other)) own.2))
          | inl same ↦ elim takes.further [
            | inl stands ↦ inl (before own.0 own.1 (subst (λ xs. Contains xs s) (peeks_same (with_tail r p i peeked) parent p q peeked.tag takes own.0 (subst (λ z. part_at q.tail z ≡ part_at p.tail z) (sym same) stands)) own.2))
            | inr more ↦ inr (again more (subst (λ z. Contains (peeks_of_tag (with_tail r p i peeked) parent q z) s) same own.2))
          ]
        ]
      where
        takes : IsSameBut peeked.tag p.tail (after_peeked p.tail i peeked.tag peeked)
        takes = peek_takes p.tail i peeked.tag peeked

        mine : Contains (flat_map (peeks_of_tag (with_tail r p i peeked) parent q) (range_with_len 0 (length r.begins))) s
        mine = subst (λ xs. Contains xs s) (ap (λ ph. pending_in ph (with_tail r p i peeked)) given.phase ∙ ap (λ b. cond b (seeds_of (with_tail r p i peeked) (Some q)) (peeks_of (with_tail r p i peeked) r.parent (Some q) (range_with_len 0 (length r.begins)))) not_yet
            ∙ ap (λ o. peeks_of (with_tail r p i peeked) o (Some q) (range_with_len 0 (length r.begins))) given.parent_is) k

        before : (u : ℕ) → Contains (range_with_len 0 (length r.begins)) u → Contains (peeks_of_tag (with_tail r p i peeked) parent p u) s → Contains (pending r) s
        before u there have =
            subst (λ xs. Contains xs s) (sym (ap (λ ph. pending_in ph r) given.phase ∙ ap (λ b. cond b (seeds_of r r.plan) (peeks_of r r.parent r.plan (range_with_len 0 (length r.begins)))) was
            ∙ ap (λ o. peeks_of r o r.plan (range_with_len 0 (length r.begins))) given.parent_is ∙ ap (λ o. peeks_of r (Some parent) o (range_with_len 0 (length r.begins))) given.plan))
            (flat_has (peeks_of_tag r parent p) (range_with_len 0 (length r.begins)) u s there have)

        again : (part_at p.tail peeked.tag).reached < (part_at q.tail peeked.tag).reached → Contains (peeks_of_tag (with_tail r p i peeked) parent q peeked.tag) s → Contains (peeks_in r.phase r (with_tail r p i peeked) (word_of from t)) s
        again more have =
            subst (λ xs. Contains xs s) (sym (ap (λ ph. peeks_in ph r (with_tail r p i peeked) (word_of from t)) given.phase ∙ ap (peeks_after r (with_tail r p i peeked)) given.word
            ∙ ap (λ o. cond (nat_lt (reached_in o peeked.tag) (part_at q.tail peeked.tag).reached) (peeks_of (with_tail r p i peeked) r.parent (Some q) (peeked.tag ∷ [])) []) given.plan
            ∙ ap (λ b. cond b (peeks_of (with_tail r p i peeked) r.parent (Some q) (peeked.tag ∷ [])) []) (lt-ltb (part_at p.tail peeked.tag).reached (part_at q.tail peeked.tag).reached more)
            ∙ ap (λ o. peeks_of (with_tail r p i peeked) o (Some q) (peeked.tag ∷ [])) given.parent_is))
            (flat_has (peeks_of_tag (with_tail r p i peeked) parent q) (peeked.tag ∷ []) peeked.tag s (Contains-here peeked.tag []) have)

    still : (b : Bool) → has_moved r (with_tail r p i peeked) ≡ b → is_copied r ≡ false → Contains (pending r) s ⊎ Contains (cond b (pending (with_tail r p i peeked)) (peeks_in r.phase r (with_tail r p i peeked) (word_of from t))) s
    still true e was = inr k
    still false e was = by_tag was e (not_copied (is_copied (with_tail r p i peeked)) refl)
      where
        same_number : (x : ℕ) → not (x == x) ≡ false
        same_number x = ap not (eq-eqb x x refl)

        not_copied : (b : Bool) → is_copied (with_tail r p i peeked) ≡ b → b ≡ false
        not_copied false f = refl
        not_copied true f =
            let d : has_moved r (with_tail r p i peeked) ≡ true =
            ap (λ x. x || (not (is_copied r) && is_copied (with_tail r p i peeked))) (same_number (phase_number r.phase)) ∙ ap (λ x. not x && is_copied (with_tail r p i peeked)) was ∙ f in
            absurd (true≢false (sym d ∙ e))

    go : (b : Bool) → is_copied r ≡ b → Contains (pending r) s ⊎ Contains (cond (has_moved r (with_tail r p i peeked)) (pending (with_tail r p i peeked)) (peeks_in r.phase r (with_tail r p i peeked) (word_of from t))) s
    go true e = inl (stood e)
    go false e = still (has_moved r (with_tail r p i peeked)) refl e

change_asked : (r : RecState) (from : NodeId) (t : Tell) → IsRecoverer r → (n : RecState) → Change r (word_of from t) n → RecGrows r n → IsAsked r from t n
change_asked r from t come_by n Stands grows = fewer r from t n (λ s k. k)
change_asked r from t come_by n (LosesReads i u w is) grows = fewer r from t n (none_pending n w refl r)
change_asked r from t come_by n (Reads i u is) grows =
    fewer r from t n (same_phase r n Reading is.phase is.phase (poll_less (λ j. (node.Cell j, ask.Cell (cell.Read r.ballot))) r.reads.poll (hear_read r.reads i u).poll (read_cells r.reads i u) (read_more r.reads i u)))
change_asked r from t come_by n (Finds i u s g is found) grows = moved r from t n (apart r n Reading Locking is.phase refl refl)
change_asked r from t come_by n (Locks p end i d k ps is) grows = fewer r from t n (same_phase r n Locking is.phase is.phase within)
  where
    x : Reply
    x = record { log = i; durable = d; known = k }

    locks : Parent → EndState → List Sending
    locks p end = map (λ j. (node.Log p.last.epoch j, ask.Log (log.Lock p.last.epoch))) (left p.last.m (has_replied end))

    within : IsWithin (locks_of r.parent (Some (with_reply end (record { log = i; durable = d; known = k })))) (locks_of r.parent r.end)
    within s m =
        subst (λ o. Contains (locks_of o r.end) s) (sym is.parent) (subst (λ o. Contains (locks_of (Some p) o) s) (sym is.tally)
        (map_less (λ j. (node.Log p.last.epoch j, ask.Log (log.Lock p.last.epoch))) (left p.last.m (has_replied end)) (left p.last.m (has_replied (with_reply end (record { log = i; durable = d; known = k }))))
        (left_less p.last.m (has_replied end) (has_replied (with_reply end (record { log = i; durable = d; known = k }))) (replied_more end (record { log = i; durable = d; known = k }))) s
        (subst (λ o. Contains (locks_of o (Some (with_reply end (record { log = i; durable = d; known = k })))) s) is.parent m)))
change_asked r from t come_by n (LosesLocks p end i d k ps w is) grows = fewer r from t n (none_pending n w refl r)
change_asked r from t come_by n (Plans p end i d k ps s is ended) grows = moved r from t n (apart r n Locking Copying is.phase refl refl)
change_asked r from t come_by n (Copies parent p i peeked given) grows = copies_asked r from t parent p i peeked given grows
change_asked r from t come_by n (Seeds p i is w) grows = fewer r from t n (same_phase r n Copying is.phase is.phase within)
  where
    seed_at : ℕ → Sending
    seed_at j = (node.Log r.ballot j, ask.Log (log.Seed (seed_for p.tail r.ballot p.generation.m p.generation.k j)))

    seeds : (r' : RecState) → is_copied r' ≡ true → r'.plan ≡ Some p → copies_of r' ≡ seeds_of r' (Some p)
    seeds r' e f = ap (λ b. cond b (seeds_of r' r'.plan) (peeks_of r' r'.parent r'.plan (range_with_len 0 (length r'.begins)))) e ∙ ap (seeds_of r') f

    within : IsWithin (copies_of (with_seeded r i)) (copies_of r)
    within s k =
        subst (λ xs. Contains xs s) (sym (seeds r is.copied is.plan))
        (map_less (λ j. (node.Log r.ballot j, ask.Log (log.Seed (seed_for p.tail r.ballot p.generation.m p.generation.k j)))) (left p.generation.m (is_in r.seeded)) (left p.generation.m (is_in (r.seeded ++ i ∷ [])))
        (left_less p.generation.m (is_in r.seeded) (is_in (r.seeded ++ i ∷ [])) (in_more r.seeded i)) s
        (subst (λ xs. Contains xs s) (seeds (with_seeded r i) is.copied is.plan) k))
change_asked r from t come_by n (SeedsAll p i is w) grows = moved r from t n (apart r n Copying Writing is.phase refl refl)
change_asked r from t come_by n (Writes i u is) grows = fewer r from t n (same_phase r n Writing is.phase is.phase (within r.plan))
  where
    within : (o : Option Plan) → IsWithin (writes_of (with_write r i u) o) (writes_of r o)
    within None s k = k
    within (Some p) s k = poll_less (λ j. (node.Cell j, ask.Cell (cell.Write r.ballot (spelling p.state)))) r.writes.poll (hear_write r.writes i u).poll (write_cells r.writes i u) (write_more r.writes i u) s k
change_asked r from t come_by n (LosesWrites i u w is) grows = fewer r from t n (none_pending n w refl r)
change_asked r from t come_by n (Chooses i u is m) grows = moved r from t n (apart r n Writing Chosen is.phase refl refl)
change_asked r from t come_by n (Marks p i is) grows = fewer r from t n (same_phase r n Chosen is.phase is.phase (within r.plan))
  where
    within : (o : Option Plan) → IsWithin (marks_of (with_marked r i) o) (marks_of r o)
    within None s k = k
    within (Some q) s k =
        map_less (λ j. (node.Log r.ballot j, ask.Log (log.Push (mark_of q)))) (left q.generation.m (is_in r.marked)) (left q.generation.m (is_in (r.marked ++ i ∷ [])))
        (left_less q.generation.m (is_in r.marked) (is_in (r.marked ++ i ∷ [])) (in_more r.marked i)) s k

-- so it is after each hear
pub asked_or_before : HearIsChange → HearGrows → (r : RecState) (from : NodeId) (t : Tell) → IsRecoverer r → (s : NodeId × Ask) → Contains (pending (after_hear r from t)) s → Contains (pending r) s ⊎ Contains (new_asks r from t) s
asked_or_before changes grows r from t come_by s k = change_asked r from t come_by (after_hear r from t) (changes r from t) (grows r from t come_by) s k
