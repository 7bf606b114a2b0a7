-- Recoverers grow.
use Rattle.std.proofs.Common.{◌≡◌, ℕ, Bool, true, false, cond, not, ◌&&◌, nat_lt, nat_le, List, [], ◌∷◌, ◌++◌, length, Option, None, Some, refl, sym, ◌∙◌, ap, subst, arith}
use Rattle.std.specs.Prelude.{IsSome}
use Rattle.std.proofs.lemmas.Bool.{and_parts, leb-true, le-leb}
use Rattle.fr_tail.specs.Tail.{TailState, is_complete, after_hear as after_peeked}
use Rattle.fr_tail.specs.Law.{CompleteStays}
use Rattle.fr_epoch.specs.Recoverer.{RecState, Phase, Parent, Plan, Reading, Locking, Copying, Writing, Chosen, Lost, is_copied_in, is_written, is_written_in}
use Rattle.std.proofs.lemmas.List.{length_push}
use Rattle.fr_epoch.specs.EndTally.{EndState, new_end, has_replied}
use Rattle.fr_epoch.specs.Words.{Word, word_of}
use Rattle.fr_epoch.specs.Hear.{after_hear}
use Rattle.fr_epoch.specs.declared.why.LostWhy.{LostWhy}
use Rattle.fr_epoch.specs.Change.{replied, Change, Stands, LosesReads, Reads, Finds, Locks, LosesLocks, Plans, Copies, Seeds, SeedsAll, Writes, LosesWrites, Chooses, Marks}
use Rattle.fr_epoch.specs.Law.{HasComeBy, IsRecoverer, HearLeavesRecoverer, PlanGrows, RecGrows, HearGrows}
use Rattle.fr_epoch.proofs.Changes.{hear_is_change}

-- ---- what each phase has come by

lost_has : (ph : Phase) (parent : Option Parent) (end : Option EndState) (plan : Option Plan) (seeded : List ℕ) (why : LostWhy) → HasComeBy ph parent end plan seeded → HasComeBy (Lost why) parent end plan seeded
lost_has ph parent end plan seeded why h = record {
  reading = λ e. absurd (cc);
  locking = λ e. absurd (cc);
  writing = λ e. absurd (cc);
  chosen = λ e. absurd (cc);
  parentless = h.parentless;
  tallied = h.tallied;
}

-- one more log is seeded: what was written stays so
written_more : (plan : Option Plan) (i : ℕ) (seeded : List ℕ) → is_written_in plan seeded ≡ true → is_written_in plan (seeded ++ i ∷ []) ≡ true
written_more None i seeded e = e
written_more (Some p) i seeded e =
    let parts = and_parts (is_complete p.tail) (nat_le p.generation.m (length seeded)) e in
    rw (parts.0, le-leb p.generation.m (length (seeded ++ i ∷ [])) (let n = length_push seeded i in omega (arith, n, leb-true p.generation.m (length seeded) parts.1))) refl

-- a tally with one more reply is of the same generation
replied_same : (end : EndState) (i durable known : ℕ) → ((replied end i durable known).m ≡ end.m) × ((replied end i durable known).k ≡ end.k)
replied_same end i durable known = go (nat_lt i end.m && not (has_replied end i))
  where
    go : (b : Bool) → ((cond b (record end { replies = end.replies ++ record { log = i; durable = durable; known = known } ∷ [] }) end).m ≡ end.m)
        × ((cond b (record end { replies = end.replies ++ record { log = i; durable = durable; known = known } ∷ [] }) end).k ≡ end.k)
    go true = (refl, refl)
    go false = (refl, refl)

-- the tally of a parent has one more reply
still_tallied : (r : RecState) (p : Parent) (end : EndState) (i durable known : ℕ) → IsRecoverer r → r.parent ≡ Some p → r.end ≡ Some end
    → (q : Parent) → r.parent ≡ Some q → (e : EndState) × (Some (replied end i durable known) ≡ Some e) × (e.m ≡ q.last.m) × (e.k ≡ q.last.k)
still_tallied r p end i durable known h at tally q is =
    let t = h.tallied q is in
    let k : Some t.0 ≡ Some end = sym t.1 ∙ tally in
    let d : t.0 ≡ end = cc in
    let same = replied_same end i durable known in
    (replied end i durable known, refl, same.0 ∙ sym (ap (λ (x : EndState). x.m) d) ∙ t.2, same.1 ∙ sym (ap (λ (x : EndState). x.k) d) ∙ t.3)

comes_by : (w : Word) (r n : RecState) → Change r w n → IsRecoverer r → IsRecoverer n
comes_by w r n Stands h = h
comes_by w r n (LosesReads i t why at) h = lost_has r.phase r.parent r.end r.plan r.seeded why h
comes_by w r n (Reads i t at) h = h
comes_by w r n (Finds i t s g at is) h = record {
  reading = λ e. absurd (cc);
  locking = λ e. h.parentless (h.reading at.phase);
  writing = λ e. absurd (cc);
  chosen = λ e. absurd (cc);
  parentless = λ e. absurd (cc);
  tallied = λ q e. (let k : Some (let p : Parent = record { state = s; last = g } in p) ≡ Some q = e in let d : (let p : Parent = record { state = s; last = g } in p) ≡ q = cc in
      (new_end g.m g.k, refl, ap (λ (p : Parent). p.last.m) d, ap (λ (p : Parent). p.last.k) d));
}
comes_by w r n (Locks p end i durable known popped at) h = record {
  reading = h.reading;
  locking = h.locking;
  writing = h.writing;
  chosen = h.chosen;
  parentless = h.parentless;
  tallied = still_tallied r p end i durable known h at.parent at.tally;
}
comes_by w r n (LosesLocks p end i durable known popped why at) h = record {
  reading = λ e. absurd (cc);
  locking = λ e. absurd (cc);
  writing = λ e. absurd (cc);
  chosen = λ e. absurd (cc);
  parentless = h.parentless;
  tallied = still_tallied r p end i durable known h at.parent at.tally;
}
comes_by w r n (Plans p end i durable known popped s at is) h = record {
  reading = λ e. absurd (cc);
  locking = λ e. absurd (cc);
  writing = λ e. absurd (cc);
  chosen = λ e. absurd (cc);
  parentless = λ e. let k : Some p ≡ None = sym at.parent ∙ e in absurd (cc);
  tallied = still_tallied r p end i durable known h at.parent at.tally;
}
comes_by w r n (Copies parent p i peeked at) h = record {
  reading = λ e. let k : Copying ≡ Reading = sym at.phase ∙ e in absurd (cc);
  locking = λ e. let k : Copying ≡ Locking = sym at.phase ∙ e in absurd (cc);
  writing = λ e. let k : Copying ≡ Writing = sym at.phase ∙ e in absurd (cc);
  chosen = λ e. let k : Copying ≡ Chosen = sym at.phase ∙ e in absurd (cc);
  parentless = λ e. let k : Some p ≡ None = sym at.plan ∙ h.parentless e in absurd (cc);
  tallied = h.tallied;
}
comes_by w r n (Seeds p i at k) h = record {
  reading = h.reading;
  locking = h.locking;
  writing = λ e. written_more r.plan i r.seeded (h.writing e);
  chosen = λ e. written_more r.plan i r.seeded (h.chosen e);
  parentless = h.parentless;
  tallied = h.tallied;
}
comes_by w r n (SeedsAll p i at k) h = record {
  reading = λ e. absurd (cc);
  locking = λ e. absurd (cc);
  writing = λ e. k;
  chosen = λ e. absurd (cc);
  parentless = h.parentless;
  tallied = h.tallied;
}
comes_by w r n (Writes i t at) h = h
comes_by w r n (LosesWrites i t why at) h = lost_has r.phase r.parent r.end r.plan r.seeded why h
comes_by w r n (Chooses i t at m) h = record {
  reading = λ e. absurd (cc);
  locking = λ e. absurd (cc);
  writing = λ e. absurd (cc);
  chosen = λ e. h.writing at.phase;
  parentless = h.parentless;
  tallied = h.tallied;
}
comes_by w r n (Marks p i at) h = h

pub hear_leaves : HearLeavesRecoverer
hear_leaves r from t h = comes_by (word_of from t) r (after_hear r from t) (hear_is_change r from t) h

-- ---- growth

no_parent : (o : Option Parent) → o ≡ None → IsSome o → ⊥
no_parent None e s = absurd (cc)
no_parent (Some p) e s = absurd (cc)

not_copied : (o : Option Plan) → o ≡ None → is_copied_in o ≡ true → ⊥
not_copied None e c = absurd (cc)
not_copied (Some p) e c = absurd (cc)

not_written : (o : Option Plan) (seeded : List ℕ) → o ≡ None → is_written_in o seeded ≡ true → ⊥
not_written None seeded e c = absurd (cc)
not_written (Some p) seeded e c = absurd (cc)

same_plan : (p : Plan) → PlanGrows p p
same_plan p = record { state = refl; generation = refl; complete = λ c. refl }

-- the plan stands, and what is read, found and seeded as it must
stands : (r n : RecState) → n.ballot ≡ r.ballot → n.begins ≡ r.begins → n.shape ≡ r.shape → (IsSome r.parent → n.reads ≡ r.reads) → (IsSome r.parent → n.parent ≡ r.parent) → n.plan ≡ r.plan
    → (is_written r ≡ true → is_written n ≡ true) → (r.phase ≡ Chosen → n.phase ≡ Chosen) → RecGrows r n
stands r n ballot begins shape reads parent plan written chosen = record {
  ballot = ballot;
  begins = begins;
  shape = shape;
  reads = reads;
  parent = parent;
  plan = λ p e. (p, plan ∙ e, same_plan p);
  copied = λ c. plan;
  written = written;
  chosen = chosen;
}

-- a part of the copy is longer: a complete copy stands still
copies : CompleteStays → (p : Plan) (i : ℕ) (t : TailState) → (is_complete p.tail ≡ true → t ≡ p.tail) → PlanGrows p (record p { tail = t })
copies complete p i t still = record { state = refl; generation = refl; complete = λ c. ap (λ (u : TailState). let q : Plan = record { state = p.state; generation = p.generation; tail = u } in q) (still c) }

written_still : (p : Plan) (t : TailState) (seeded : List ℕ) → (is_complete p.tail ≡ true → t ≡ p.tail) → is_written_in (Some p) seeded ≡ true → is_written_in (Some (record p { tail = t })) seeded ≡ true
written_still p t seeded still e =
    let parts = and_parts (is_complete p.tail) (nat_le p.generation.m (length seeded)) e in
    rw (still parts.0) e

grows : CompleteStays → (w : Word) (r n : RecState) → Change r w n → IsRecoverer r → RecGrows r n
grows complete w r n Stands h = stands r r refl refl refl (λ e. refl) (λ e. refl) refl (λ e. e) (λ e. e)
grows complete w r n (LosesReads i t why at) h =
    stands r n refl refl refl (λ s. absurd (no_parent r.parent (h.reading at.phase) s)) (λ e. refl) refl (λ e. e) (λ e. let k : Reading ≡ Chosen = sym at.phase ∙ e in absurd (cc))
grows complete w r n (Reads i t at) h = stands r n refl refl refl (λ s. absurd (no_parent r.parent (h.reading at.phase) s)) (λ e. refl) refl (λ e. e) (λ e. e)
grows complete w r n (Finds i t s g at is) h =
    stands r n refl refl refl (λ s. absurd (no_parent r.parent (h.reading at.phase) s)) (λ s. absurd (no_parent r.parent (h.reading at.phase) s)) refl (λ e. e)
    (λ e. let k : Reading ≡ Chosen = sym at.phase ∙ e in absurd (cc))
grows complete w r n (Locks p end i durable known popped at) h = stands r n refl refl refl (λ e. refl) (λ e. refl) refl (λ e. e) (λ e. e)
grows complete w r n (LosesLocks p end i durable known popped why at) h =
    stands r n refl refl refl (λ e. refl) (λ e. refl) refl (λ e. e) (λ e. let k : Locking ≡ Chosen = sym at.phase ∙ e in absurd (cc))
grows complete w r n (Plans p end i durable known popped s at is) h = record {
  ballot = refl;
  begins = refl;
  shape = refl;
  reads = λ e. refl;
  parent = λ e. refl;
  plan = λ q e. let k : None ≡ Some q = sym (h.locking at.phase) ∙ e in absurd (cc);
  copied = λ c. absurd (not_copied r.plan (h.locking at.phase) c);
  written = λ c. absurd (not_written r.plan r.seeded (h.locking at.phase) c);
  chosen = λ e. let k : Locking ≡ Chosen = sym at.phase ∙ e in absurd (cc);
}
grows complete w r n (Copies parent p i peeked at) h =
    let t = after_peeked p.tail i peeked.tag peeked in
    let still : is_complete p.tail ≡ true → t ≡ p.tail = λ c. complete p.tail i peeked.tag peeked c in
    record {
      ballot = refl;
      begins = refl;
      shape = refl;
      reads = λ e. refl;
      parent = λ e. refl;
      plan = λ q e. let k : Some p ≡ Some q = sym at.plan ∙ e in let s : p ≡ q = cc in (record p { tail = t }, refl, subst (λ x. PlanGrows x (record p { tail = t })) s (copies complete p i t still));
      copied = λ c. let d : is_complete p.tail ≡ true = subst (λ o. is_copied_in o ≡ true) at.plan c in ap (λ (u : TailState). Some (let q : Plan = record { state = p.state; generation = p.generation; tail = u } in q)) (still d) ∙ sym at.plan;
      written = λ c. written_still p t r.seeded still (subst (λ o. is_written_in o r.seeded ≡ true) at.plan c);
      chosen = λ e. e;
    }
grows complete w r n (Seeds p i at k) h = stands r n refl refl refl (λ e. refl) (λ e. refl) refl (λ e. written_more r.plan i r.seeded e) (λ e. e)
grows complete w r n (SeedsAll p i at k) h =
    stands r n refl refl refl (λ e. refl) (λ e. refl) refl (λ e. k) (λ e. let j : Copying ≡ Chosen = sym at.phase ∙ e in absurd (cc))
grows complete w r n (Writes i t at) h = stands r n refl refl refl (λ e. refl) (λ e. refl) refl (λ e. e) (λ e. e)
grows complete w r n (LosesWrites i t why at) h =
    stands r n refl refl refl (λ e. refl) (λ e. refl) refl (λ e. e) (λ e. let k : Writing ≡ Chosen = sym at.phase ∙ e in absurd (cc))
grows complete w r n (Chooses i t at m) h = stands r n refl refl refl (λ e. refl) (λ e. refl) refl (λ e. e) (λ e. refl)
grows complete w r n (Marks p i at) h = stands r n refl refl refl (λ e. refl) (λ e. refl) refl (λ e. e) (λ e. e)

pub hear_grows : CompleteStays → HearGrows
hear_grows complete r from t h = grows complete (word_of from t) r (after_hear r from t) (hear_is_change r from t) h
