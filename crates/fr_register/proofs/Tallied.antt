-- What a tally that reached a majority has heard.
use Rattle.std.proofs.Common.{◌≡◌, ℕ, ◌*◌, ◌<◌, ◌≤◌, Bool, true, false, cond, not, ◌||◌, ◌==◌, nat_eq, nat_lt, List, [], ◌∷◌, ◌++◌, length, Option, Some, None, refl, ◌∙◌, ap, inl, inr, ◌⊎◌, arith}
use Rattle.std.specs.List.{All, Contains, list_any}
use Rattle.std.proofs.lemmas.Bool.{eqb-true, eqb-false, ltb-true, ltb-false, and_parts, not-true, or_parts, or_cases}
use Rattle.std.proofs.lemmas.List.Elements.{All-nil, All-head, All-tail, All-push, All-weaker}
use Rattle.std.proofs.lemmas.List.{length_push}
use Rattle.std.specs.Cmp.{nat_eq_equiv}
use Rattle.std.proofs.lemmas.Map.Keys.{IsDistinct-push, IsDistinct-from_apart}
use Rattle.fr_register.specs.Poll.{Stamped, Poll, ReadState, WriteState}
use Rattle.fr_register.specs.Tally.{is_wanted, is_heard, is_refusal_of, with_heard, with_refusal, refused_at, progress_of, progress_from, is_majority, take_read, take_write}
use Rattle.fr_register.specs.Heard.{Heard, read_tally, write_tally}
use Rattle.fr_register.specs.History.{Turn, promise_turn, written_turn}
use Rattle.fr_register.specs.Chosen.{IsMajority}
use Rattle.fr_register.specs.Made.{IsToldToRead, IsToldToWrite}
use Rattle.fr_register.specs.Faithful.{IsPollOf, IsFaithfulRead, IsFaithfulWrite}
use Rattle.fr_register.specs.Law.{ReadMajorityIsRead, WriteMajorityIsWritten, NewReadIsFaithful, HearingKeepsRead, TurnsKeepRead, FaithfulReadIsRead, NewWriteIsFaithful, HearingKeepsWrite, TurnsKeepWrite, FaithfulWriteIsWritten}
use Rattle.fr_base.proofs.ListLemmas.{Contains-later}
use Rattle.fr_register.specs.declared.ask.CellTell.{CellTell}
use Rattle.fr_register.specs.declared.ask.CellTell.TheVariants.{Promise, Written, Refused, TwoValues}
use Rattle.fr_register.specs.declared.poll.Progress.TheVariants.{Waiting, Majority, Lost}
use Rattle.fr_register.specs.declared.poll.Refusal.{Refusal}

pub found_flips : (i : ℕ) (xs : List ℕ) → list_any (nat_eq i) xs ≡ list_any (λ j. j == i) xs
found_flips i [] = refl
found_flips i (x ∷ xs) = rw (nat_eq_equiv.symm i x, found_flips i xs) refl

-- a cell that is wanted is one of the cells, and did not give the answer
pub wanted : (p : Poll) (i : ℕ) → is_wanted p i ≡ true → (i < p.cells) × (list_any (nat_eq i) p.heard ≡ false)
wanted p i h =
    let one = and_parts (nat_lt i p.cells) (not (is_heard p i)) h in
    let two = or_parts (is_refusal_of i p.refusal) (list_any (λ j. j == i) p.heard) (not-true (is_heard p i) one.1) in
    (ltb-true i p.cells one.0, found_flips i p.heard ∙ two.1)

pub new_poll_of : (n : ℕ) (r : Option Refusal) → IsPollOf n (record { cells = n; heard = []; refusal = r })
new_poll_of n r = record {
  size = refl;
  distinct = IsDistinct-from_apart nat_eq [] (λ i j d l k. absurd (omega (arith, k)));
  below = All-nil (λ i. i < n);
}

pub heard_poll_of : (n : ℕ) (p : Poll) (i : ℕ) → is_wanted p i ≡ true → IsPollOf n p → IsPollOf n (with_heard p i)
heard_poll_of n p i c f =
    let fresh = wanted p i c in
    record {
      size = f.size;
      distinct = IsDistinct-push nat_eq_equiv p.heard i f.distinct fresh.1;
      below = All-push (λ i. i < n) p.heard i f.below (omega (arith, fresh.0, f.size));
    }

-- a refusal changes neither the cells nor those that gave the answer
pub refusal_keeps : (p : Poll) (i promised : ℕ) → ((with_refusal p i promised).cells ≡ p.cells) × ((with_refusal p i promised).heard ≡ p.heard)
refusal_keeps p i promised = elim (progress_of p) as (λ g. ((refused_at g p i promised).cells ≡ p.cells) × ((refused_at g p i promised).heard ≡ p.heard)) [
  | Waiting ↦ (refl, refl)
  | Majority ↦ (refl, refl)
  | Lost b ↦ (refl, refl)
]

same_poll_of : (n : ℕ) (p q : Poll) → q.cells ≡ p.cells → q.heard ≡ p.heard → IsPollOf n p → IsPollOf n q
same_poll_of n p q e k f = record { size = e ∙ f.size; distinct = rw k f.distinct; below = rw k f.below }

pub refused_poll_of : (n : ℕ) (p : Poll) (i promised : ℕ) → IsPollOf n p → IsPollOf n (with_refusal p i promised)
refused_poll_of n p i promised f =
    let k = refusal_keeps p i promised in same_poll_of n p (with_refusal p i promised) k.0 k.1 f

-- a poll with a majority has heard more than half
majority_more : (n : ℕ) (p : Poll) → IsPollOf n p → progress_of p ≡ Majority → IsMajority n p.heard
majority_more n p f h = record { distinct = f.distinct; below = f.below; more = omega (arith, f.size, go p.refusal h) }
  where
    test : (b : Bool) → is_majority p ≡ b → cond b Majority Waiting ≡ Majority → p.cells < 2 * length p.heard
    test true e k = ltb-true p.cells (2 * length p.heard) e
    test false e k = absurd (cc)

    go : (r : Option Refusal) → progress_from p r ≡ Majority → p.cells < 2 * length p.heard
    go (Some refusal) k = absurd (cc)
    go None k = test (is_majority p) refl k

-- ---- the read tally

faithful_refusal : (n : ℕ) (turns : List Turn) (b : ℕ) (t : ReadState) (i promised : ℕ) → IsFaithfulRead n turns b t → IsFaithfulRead n turns b (record t { poll = with_refusal t.poll i promised })
faithful_refusal n turns b t i promised f =
    let k = (refusal_keeps t.poll i promised).1 in
    record { own = f.own; poll = refused_poll_of n t.poll i promised f.poll; each = rw k f.each; top = rw k f.top; low = rw k f.low }

faithful_promise : (n : ℕ) (turns : List Turn) (b : ℕ) (t : ReadState) (i w : ℕ) (v : List ℕ) → is_wanted t.poll i ≡ true → Contains turns (promise_turn i b (record { ballot = w; value = v })) → IsFaithfulRead n turns b t → IsFaithfulRead n turns b (take_read t i (Promise w v))
faithful_promise n turns b t i w v c told f = go ((length t.poll.heard == 0) || nat_lt t.greatest.ballot w) refl
  where
    some : length (t.poll.heard ++ i ∷ []) ≡ 0 → ⊥
    some z = omega (arith, length_push t.poll.heard i, z)

    each : (g : Stamped) → t.greatest.ballot ≤ g.ballot → w ≤ g.ballot → All (λ i. (q : Stamped) × Contains turns (promise_turn i b q) × (q.ballot ≤ g.ballot)) (t.poll.heard ++ i ∷ [])
    each g old new =
        All-push (λ i. (q : Stamped) × Contains turns (promise_turn i b q) × (q.ballot ≤ g.ballot)) t.poll.heard i
        (All-weaker (λ i. (q : Stamped) × Contains turns (promise_turn i b q) × (q.ballot ≤ t.greatest.ballot)) (λ i. (q : Stamped) × Contains turns (promise_turn i b q) × (q.ballot ≤ g.ballot))
        (λ j h. (h.0, h.1, omega (arith, h.2, old))) t.poll.heard f.each)
        (record { ballot = w; value = v }, told, new)

    rises : ((length t.poll.heard == 0) || nat_lt t.greatest.ballot w) ≡ true → t.greatest.ballot ≤ w
    rises e = elim (or_cases (length t.poll.heard == 0) (nat_lt t.greatest.ballot w) e) [
      | inl z ↦ omega (arith, f.low (eqb-true (length t.poll.heard) 0 z))
      | inr l ↦ omega (arith, ltb-true t.greatest.ballot w l)
    ]

    kept : ((length t.poll.heard == 0) || nat_lt t.greatest.ballot w) ≡ false → (length t.poll.heard ≡ 0 → ⊥) × (w ≤ t.greatest.ballot)
    kept e =
        let parts = or_parts (length t.poll.heard == 0) (nat_lt t.greatest.ballot w) e in
        (eqb-false (length t.poll.heard) 0 parts.0, ltb-false t.greatest.ballot w parts.1)

    top_kept : (length t.poll.heard ≡ 0 → ⊥) → (length t.poll.heard ≡ 0) ⊎ ((i : ℕ) × Contains turns (promise_turn i b t.greatest)) → (i : ℕ) × Contains turns (promise_turn i b t.greatest)
    top_kept ne (inl z) = absurd (ne z)
    top_kept ne (inr x) = x

    go : (s : Bool) → ((length t.poll.heard == 0) || nat_lt t.greatest.ballot w) ≡ s → IsFaithfulRead n turns b (record { ballot = t.ballot; poll = with_heard t.poll i; greatest = cond s (record { ballot = w; value = v }) t.greatest })
    go true e = record {
      own = f.own;
      poll = heard_poll_of n t.poll i c f.poll;
      each = each (record { ballot = w; value = v }) (rises e) (omega arith);
      top = inr (i, told);
      low = λ z. absurd (some z);
    }
    go false e = record {
      own = f.own;
      poll = heard_poll_of n t.poll i c f.poll;
      each = each t.greatest (omega arith) (kept e).1;
      top = inr (top_kept (kept e).0 f.top);
      low = λ z. absurd (some z);
    }

faithful_take : (n : ℕ) (turns : List Turn) (b : ℕ) (t : ReadState) (i : ℕ) (tell : CellTell) → is_wanted t.poll i ≡ true → IsToldToRead turns b (record { cell = i; tell = tell }) → IsFaithfulRead n turns b t → IsFaithfulRead n turns b (take_read t i tell)
faithful_take n turns b t i (Promise w v) c told f = faithful_promise n turns b t i w v c (told (record { ballot = w; value = v }) refl) f
faithful_take n turns b t i (Written d) c told f = f
faithful_take n turns b t i (Refused promised) c told f = faithful_refusal n turns b t i promised f
faithful_take n turns b t i TwoValues c told f = faithful_refusal n turns b t i t.ballot f

pub hearing_keeps_read : HearingKeepsRead
hearing_keeps_read n turns b t h told f = go (is_wanted t.poll h.cell) refl
  where
    go : (s : Bool) → is_wanted t.poll h.cell ≡ s → IsFaithfulRead n turns b (cond s (take_read t h.cell h.tell) t)
    go true e = faithful_take n turns b t h.cell h.tell e told f
    go false e = f

pub new_read_is_faithful : NewReadIsFaithful
new_read_is_faithful n turns b = record {
  own = refl;
  poll = new_poll_of n None;
  each = All-nil (λ i. (q : Stamped) × Contains turns (promise_turn i b q) × (q.ballot ≤ 0));
  top = inl refl;
  low = λ _. refl;
}

pub turns_keep_read : TurnsKeepRead
turns_keep_read n turns next b t f = record {
  own = f.own;
  poll = f.poll;
  each = All-weaker (λ i. (q : Stamped) × Contains turns (promise_turn i b q) × (q.ballot ≤ t.greatest.ballot)) (λ i. (q : Stamped) × Contains (next ∷ turns) (promise_turn i b q) × (q.ballot ≤ t.greatest.ballot))
      (λ i h. (h.0, Contains-later next turns (promise_turn i b h.0) h.1, h.2)) t.poll.heard f.each;
  top = later f.top;
  low = f.low;
}
  where
    later : (length t.poll.heard ≡ 0) ⊎ ((i : ℕ) × Contains turns (promise_turn i b t.greatest)) → (length t.poll.heard ≡ 0) ⊎ ((i : ℕ) × Contains (next ∷ turns) (promise_turn i b t.greatest))
    later (inl z) = inl z
    later (inr x) = inr (x.0, Contains-later next turns (promise_turn x.0 b t.greatest) x.1)

pub faithful_read_is_read : FaithfulReadIsRead
faithful_read_is_read n turns b t f m =
    let more = majority_more n t.poll f.poll m in
    record {
      who = t.poll.heard;
      majority = more;
      each = f.each;
      found = elim f.top [ inl z ↦ absurd (omega (arith, more.more, z)) | inr x ↦ x ];
    }

faithful : (n : ℕ) (turns : List Turn) (b : ℕ) (heard : List Heard) → All (IsToldToRead turns b) heard → IsFaithfulRead n turns b (read_tally n b heard)
faithful n turns b [] a = new_read_is_faithful n turns b
faithful n turns b (h ∷ before) a =
    hearing_keeps_read n turns b (read_tally n b before) h (All-head (IsToldToRead turns b) h before a)
    (faithful n turns b before (All-tail (IsToldToRead turns b) h before a))

pub read_majority_is_read : ReadMajorityIsRead
read_majority_is_read n b turns heard a m = faithful_read_is_read n turns b (read_tally n b heard) (faithful n turns b heard a) m

-- ---- the write tally

write_refusal : (n : ℕ) (turns : List Turn) (p : Stamped) (t : WriteState) (i promised : ℕ) → IsFaithfulWrite n turns p t → IsFaithfulWrite n turns p (record t { poll = with_refusal t.poll i promised })
write_refusal n turns p t i promised f =
    let k = (refusal_keeps t.poll i promised).1 in
    record { own = f.own; poll = refused_poll_of n t.poll i promised f.poll; each = rw k f.each }

write_take : (n : ℕ) (turns : List Turn) (p : Stamped) (t : WriteState) (i : ℕ) (tell : CellTell) → is_wanted t.poll i ≡ true → IsToldToWrite turns p (record { cell = i; tell = tell }) → IsFaithfulWrite n turns p t → IsFaithfulWrite n turns p (take_write t i tell)
write_take n turns p t i (Promise w v) c g f = f
write_take n turns p t i (Written b) c g f = go (b == t.ballot) refl
  where
    go : (s : Bool) → (b == t.ballot) ≡ s → IsFaithfulWrite n turns p (cond s (record { ballot = t.ballot; poll = with_heard t.poll i }) t)
    go true e =
        let same = eqb-true b t.ballot e ∙ f.own in
        record {
          own = f.own;
          poll = heard_poll_of n t.poll i c f.poll;
          each = All-push (λ i. Contains turns (written_turn i p)) t.poll.heard i f.each (g (ap (λ (k : ℕ). Written k) same));
        }
    go false e = f
write_take n turns p t i (Refused b) c g f = write_refusal n turns p t i b f
write_take n turns p t i TwoValues c g f = write_refusal n turns p t i t.ballot f

pub hearing_keeps_write : HearingKeepsWrite
hearing_keeps_write n turns p t h told f = go (is_wanted t.poll h.cell) refl
  where
    go : (s : Bool) → is_wanted t.poll h.cell ≡ s → IsFaithfulWrite n turns p (cond s (take_write t h.cell h.tell) t)
    go true e = write_take n turns p t h.cell h.tell e told f
    go false e = f

pub new_write_is_faithful : NewWriteIsFaithful
new_write_is_faithful n turns p = record { own = refl; poll = new_poll_of n None; each = All-nil (λ i. Contains turns (written_turn i p)) }

pub turns_keep_write : TurnsKeepWrite
turns_keep_write n turns next p t f = record {
  own = f.own;
  poll = f.poll;
  each = All-weaker (λ i. Contains turns (written_turn i p)) (λ i. Contains (next ∷ turns) (written_turn i p))
      (λ i h. Contains-later next turns (written_turn i p) h) t.poll.heard f.each;
}

pub faithful_write_is_written : FaithfulWriteIsWritten
faithful_write_is_written n turns p t f m = record { who = t.poll.heard; majority = majority_more n t.poll f.poll m; each = f.each }

faithful_write : (n : ℕ) (turns : List Turn) (p : Stamped) (heard : List Heard) → All (IsToldToWrite turns p) heard → IsFaithfulWrite n turns p (write_tally n p.ballot heard)
faithful_write n turns p [] a = new_write_is_faithful n turns p
faithful_write n turns p (h ∷ before) a =
    hearing_keeps_write n turns p (write_tally n p.ballot before) h (All-head (IsToldToWrite turns p) h before a)
    (faithful_write n turns p before (All-tail (IsToldToWrite turns p) h before a))

pub write_majority_is_written : WriteMajorityIsWritten
write_majority_is_written n turns p heard a m =
    faithful_write_is_written n turns p (write_tally n p.ballot heard) (faithful_write n turns p heard a) m
