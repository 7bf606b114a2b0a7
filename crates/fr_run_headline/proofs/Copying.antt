-- Each copy has parts of what its parent's epoch issues, if the answers that were told are true.
use Rattle.std.proofs.Common.{◌≡◌, ℕ, zero, suc, ◌<◌, ◌≤◌, Bool, true, false, cond, nat_lt, nat_le, ◌==◌, ◌&&◌, List, [], ◌∷◌, length, map, filter, Option, None, Some, refl, sym, ◌∙◌, ap, subst, arith}
use Rattle.std.specs.Prelude.{IfSome, slice_set, Ok, Err}
use Rattle.std.specs.List.{range_with_len, list_any}
use Rattle.std.proofs.lemmas.Bool.{and_parts, ltb-true}
use Rattle.std.proofs.lemmas.List.{length-map}
use Rattle.std.proofs.lemmas.List.FromFn.{length-range_with_len}
use Rattle.fr_base.specs.declared.place.NodeId.{NodeId}
use Rattle.fr_base.specs.declared.place.NodeId.TheVariants as node
use Rattle.fr_tags.specs.Placement.{is_held}
use Rattle.fr_log.specs.Peeked.{PeekedContent}
use Rattle.fr_log.specs.declared.ask.LogTell.TheVariants as ltell
use Rattle.fr_ask.specs.declared.tell.Tell.{Tell}
use Rattle.fr_ask.specs.declared.tell.Tell.TheVariants as tell
use Rattle.fr_tail.specs.Tail.{TailState, TagPart, new_part, part_at, is_responder, take, take_next, heard, kept, new_tail, after_hear as after_peeked}
use Rattle.fr_tail.specs.Copied.{IsWhole}
use Rattle.fr_tail.specs.declared.fault.TailFault.TheVariants as fault
use Rattle.fr_epoch.specs.EndTally.{responders, pev_of, rv_of}
use Rattle.fr_epoch.specs.Recoverer.{RecState, Parent, Plan}
use Rattle.fr_epoch.specs.Words.{word_of}
use Rattle.fr_epoch.specs.Hear as rec
use Rattle.fr_epoch.specs.Hear.{plan_of}
use Rattle.fr_epoch.specs.Change.{replied, Change, Stands, LosesReads, Reads, Finds, Locks, LosesLocks, Plans, Copies, Seeds, SeedsAll, Writes, LosesWrites, Chooses, Marks}
use Rattle.fr_epoch.specs.Law.{IsRecoverer}
use Rattle.fr_run.specs.Config.{Config}
use Rattle.fr_run.specs.Turn.{Turn, Told}
use Rattle.fr_run.specs.Nodes.{rec_at, generation_at}
use Rattle.fr_run.specs.Run.{IsTurn, IsRun}
use Rattle.fr_run.specs.StateLaws.{IsConfig}
use Rattle.fr_run.proofs.ByTurn.{rec_by_turn}
use Rattle.fr_run.proofs.Growth.{rec_is, generation_stays}
use Rattle.fr_run_headline.specs.Numbers.{top_at}
use Rattle.fr_run_headline.proofs.Ends.{least_is_reached}
use Rattle.fr_run_headline.proofs.Locks.{AllStand, all_stand, has_replied_too, of_log}
use Rattle.fr_run_headline.specs.Issued.{issued}
use Rattle.fr_run_headline.specs.Contents.{IsTrueCopy, IsTrueTell, part_records}
use Rattle.fr_run_headline.specs.ContentsLaws.{Laws}
use Rattle.fr_run_headline.proofs.PeekLists.{record_of, records_are_whole}
use Rattle.fr_run_headline.proofs.Parts.{issued_rises, part_lasts}
use Rattle.fr_run.proofs.Lines.{parent_is}
use Rattle.fr_run_headline.proofs.Stays.{top_rises}

-- a copy is true, of an epoch that is planned and was numbered through the copy's end
pub record CopyIs (c : Config) (h : List Turn) (p : Parent) (q : Plan) : Type 0 where
  pub is : IsTrueCopy c h p q
  pub of : generation_at c h p.last.epoch ≡ Some p.last
  pub reached : q.tail.rv ≤ top_at c h p.last.epoch

-- what is true of a recoverer's copy
pub record CopiesTrue (c : Config) (h : List Turn) (r : RecState) : Type 0 where
  pub begins : r.begins ≡ c.begins
  pub copy : (p : Parent) (q : Plan) → r.parent ≡ Some p → r.plan ≡ Some q → CopyIs c h p q

-- ---- one answer

set_length : {X : Type 0} (xs : List X) (i : ℕ) (x : X) → length (slice_set xs i x) ≡ length xs
set_length [] i x = refl
set_length (y ∷ xs) zero x = refl
set_length (y ∷ xs) (suc i) x = let k = set_length xs i x in omega (arith, k)

parts_stay : (s : TailState) (log tag : ℕ) (peeked : PeekedContent) → length (after_peeked s log tag peeked).parts ≡ length s.parts
parts_stay s log tag peeked = go (is_responder s log tag)
  where
    next : (b : Bool) (p : TagPart) → length (kept s (cond b (Ok (record s { parts = slice_set s.parts tag p })) (Err fault.ShortOfEnd))).parts ≡ length s.parts
    next true p = set_length s.parts tag p
    next false p = refl

    taken : (p : TagPart) (a b : Bool) → length (kept s (cond a (Err fault.Hole) (cond b (Ok s) (take_next s tag p peeked)))).parts ≡ length s.parts
    taken p true b = refl
    taken p false true = refl
    taken p false false = next (nat_lt peeked.after peeked.upto) _

    go : (b : Bool) → length (kept s (cond b (take s tag (part_at s tag) peeked) (Err fault.NotResponder))).parts ≡ length s.parts
    go true = taken (part_at s tag) _ _
    go false = refl

rv_stays : (s : TailState) (log tag : ℕ) (peeked : PeekedContent) → (after_peeked s log tag peeked).rv ≡ s.rv
rv_stays s log tag peeked = go (is_responder s log tag)
  where
    next : (b : Bool) (p : TagPart) → (kept s (cond b (Ok (record s { parts = slice_set s.parts tag p })) (Err fault.ShortOfEnd))).rv ≡ s.rv
    next true p = refl
    next false p = refl

    taken : (p : TagPart) (a b : Bool) → (kept s (cond a (Err fault.Hole) (cond b (Ok s) (take_next s tag p peeked)))).rv ≡ s.rv
    taken p true b = refl
    taken p false true = refl
    taken p false false = next (nat_lt peeked.after peeked.upto) _

    go : (b : Bool) → (kept s (cond b (take s tag (part_at s tag) peeked) (Err fault.NotResponder))).rv ≡ s.rv
    go true = taken (part_at s tag) _ _
    go false = refl

-- ---- one tell

wholes : Laws → (c : Config) (h : List Turn) → IsConfig c → IsRun c h → (b : ℕ) (r : RecState) (p : Parent) → rec_at c h b ≡ Some r → r.parent ≡ Some p → (tag : ℕ) → IsWhole (part_records c h p.last.epoch tag)
wholes laws c h config run b r p at parent tag =
    let of = parent_is laws.nodes c h config run b r p at parent in
    records_are_whole c tag 0 (top_at c h p.last.epoch) (issued c h p.last.epoch) (issued_rises laws.nodes c h config run p.last.epoch p.last of.generation)

abbrev pub TellsAreTrue : Config → List Turn → Type 0
TellsAreTrue c h = (e i : ℕ) (to : NodeId) (peeked : PeekedContent) → Told h (node.Log e i) to (tell.Log (ltell.Peeked peeked)) → IsTrueTell c h e i peeked

same_copy : (c : Config) (h : List Turn) (r n : RecState) → n.begins ≡ r.begins → n.parent ≡ r.parent → n.plan ≡ r.plan → CopiesTrue c h r → CopiesTrue c h n
same_copy c h r n b a d k = record { begins = b ∙ k.begins; copy = λ p q e f. k.copy p q (sym a ∙ e) (sym d ∙ f) }

change : Laws → (c : Config) (h : List Turn) → IsConfig c → IsRun c h → TellsAreTrue c h → (b : ℕ) (from : NodeId) (t : Tell) → Told h from (node.Recoverer b) t → (r : RecState) → rec_at c h b ≡ Some r → IsRecoverer r → CopiesTrue c h r
    → (n : RecState) → Change r (word_of from t) n → CopiesTrue c h n
change laws c h config run tells b from t told r at come_by k n Stands = k
change laws c h config run tells b from t told r at come_by k n (LosesReads i u why is) = same_copy c h r n refl refl refl k
change laws c h config run tells b from t told r at come_by k n (Reads i u is) = same_copy c h r n refl refl refl k
change laws c h config run tells b from t told r at come_by k n (Finds i u s g heard is) = record {
  begins = k.begins;
  copy = λ p q e f. absurd (let none : None ≡ Some q = sym (come_by.parentless (come_by.reading heard.phase)) ∙ f in absurd (cc));
}
change laws c h config run tells b from t told r at come_by k n (Locks p end i durable known popped is) = same_copy c h r n refl refl refl k
change laws c h config run tells b from t told r at come_by k n (LosesLocks p end i durable known popped why is) = same_copy c h r n refl refl refl k
change laws c h config run tells b from t told r at come_by k n (Plans p' end i durable known popped s heard is) = record {
  begins = k.begins;
  copy = λ p q e f. (
      let m = replied end i durable known in
      let two : Some p' ≡ Some p = sym heard.parent ∙ e in
      let same : p' ≡ p = cc in
      let mine : plan_of r p' m s ≡ q = cc in
      let new = new_tail (length r.begins) p'.last.m p'.last.k (responders m) (pev_of m) (rv_of m) in
      let copy : IsTrueCopy c h p' (plan_of r p' m s) = record {
        tags = length-map (range_with_len 0 (length r.begins)) (λ t. new_part (pev_of m)) ∙ length-range_with_len 0 (length r.begins) ∙ ap length k.begins;
        copied = laws.copy_starts (part_records c h p'.last.epoch) (wholes laws c h config run b r p' at heard.parent) (length r.begins) p'.last.m p'.last.k (responders m) (pev_of m) (rv_of m) is.within;
      } in
      let stand = has_replied_too laws.nodes c h run b from t told r (all_stand_at r at) p' end i durable known popped heard p' heard.parent in
      let all : CopyIs c h p' (plan_of r p' m s) = record {
        is = copy;
        of = (parent_is laws.nodes c h config run b r p' at heard.parent).generation;
        reached = least_is_reached laws.nodes c h run p'.last.epoch m.m m.k m.replies stand is.covered;
      } in
      subst (λ x. CopyIs c h x q) same (subst (CopyIs c h p') mine all));
}
  where
    all_stand_at : (r : RecState) → rec_at c h b ≡ Some r → AllStand c h r
    all_stand_at r at = subst (λ o. IfSome o (AllStand c h)) at (all_stand laws.nodes c h run b)
change laws c h config run tells b from t told r at come_by k n (Copies p' q' i peeked is) = record {
  begins = k.begins;
  copy = λ p q e f. (
      let two : Some p' ≡ Some p = sym is.parent_is ∙ e in
      let same : p' ≡ p = cc in
      let m : Plan = record { state = q'.state; generation = q'.generation; tail = after_peeked q'.tail i peeked.tag peeked } in
      let mine : m ≡ q = cc in
      let before = k.copy p' q' is.parent_is is.plan in
      let old = before.is in
      let w = of_log from t p'.last.epoch i (ltell.Peeked peeked) is.word in
      let heard : Told h (node.Log p'.last.epoch i) (node.Recoverer b) (tell.Log (ltell.Peeked peeked)) =
      subst (λ x. Told h (node.Log p'.last.epoch i) (node.Recoverer b) x) w.said (subst (λ x. Told h x (node.Recoverer b) t) w.sender told) in
      let true_tell = tells p'.last.epoch i (node.Recoverer b) peeked heard in
      let whole = wholes laws c h config run b r p' at is.parent_is in
      let copy : IsTrueCopy c h p' m = record {
        tags = parts_stay q'.tail i peeked.tag peeked ∙ old.tags;
        copied = laws.copy_hears (part_records c h p'.last.epoch) whole q'.tail i peeked.tag peeked old.copied (λ responds. (
            let inside : peeked.tag < length q'.tail.parts = ltb-true peeked.tag (length q'.tail.parts) (and_parts (is_held peeked.tag q'.tail.m q'.tail.k i) (nat_lt peeked.tag (length q'.tail.parts)) (and_parts (list_any (λ r. r == i) q'.tail.responders) (is_held peeked.tag q'.tail.m q'.tail.k i && nat_lt peeked.tag (length q'.tail.parts)) responds).1).1 in
            ap (filter (λ r. nat_le r.version q'.tail.rv)) (true_tell.records (subst (λ x. peeked.tag < x) old.tags inside)) ∙ (whole peeked.tag).cut peeked.after peeked.upto q'.tail.rv));
      } in
      let ends = rv_stays q'.tail i peeked.tag peeked in
      let limit = before.reached in
      let all : CopyIs c h p' m = record { is = copy; of = before.of; reached = omega (arith, ends, limit) } in
      subst (λ x. CopyIs c h x q) same (subst (CopyIs c h p') mine all));
}
change laws c h config run tells b from t told r at come_by k n (Seeds p i is w) = same_copy c h r n refl refl refl k
change laws c h config run tells b from t told r at come_by k n (SeedsAll p i is w) = same_copy c h r n refl refl refl k
change laws c h config run tells b from t told r at come_by k n (Writes i u is) = same_copy c h r n refl refl refl k
change laws c h config run tells b from t told r at come_by k n (LosesWrites i u why is) = same_copy c h r n refl refl refl k
change laws c h config run tells b from t told r at come_by k n (Chooses i u is m) = same_copy c h r n refl refl refl k
change laws c h config run tells b from t told r at come_by k n (Marks p i is) = same_copy c h r n refl refl refl k

-- ---- later on

copy_lasts : Laws → (c : Config) (h : List Turn) (t : Turn) → IsConfig c → IsRun c h → IsTurn c h t → (p : Parent) (q : Plan) → CopyIs c h p q → CopyIs c (t ∷ h) p q
copy_lasts laws c h t config run is p q k =
    let reached = k.reached in
    let rises = top_rises laws.nodes c h t run is p.last.epoch p.last k.of in
    record {
      is = record {
        tags = k.is.tags;
        copied = λ tag. (
            let part = k.is.copied tag in
            let high = part.high in
            record {
              low = part.low;
              high = part.high;
              records = part.records ∙ sym (ap (map record_of) (part_lasts laws.nodes c h t config run is p.last.epoch p.last k.of tag q.tail.pev (part_at q.tail tag).reached (omega (arith, high, reached))));
            });
      };
      of = generation_stays laws.nodes c h t run is p.last.epoch p.last k.of;
      reached = omega (arith, reached, rises);
    }

lift : Laws → (c : Config) (h : List Turn) (t : Turn) → IsConfig c → IsRun c h → IsTurn c h t → (o : Option RecState) → IfSome o (CopiesTrue c h) → IfSome o (CopiesTrue c (t ∷ h))
lift laws c h t config run is None k = tt
lift laws c h t config run is (Some r) k = record { begins = k.begins; copy = λ p q e f. copy_lasts laws c h t config run is p q (k.copy p q e f) }

-- copies after one turn
pub copies_next : Laws → (c : Config) (h : List Turn) (t : Turn) → IsConfig c → IsRun c h → IsTurn c h t → TellsAreTrue c h → (b : ℕ) → IfSome (rec_at c h b) (CopiesTrue c h) → IfSome (rec_at c (t ∷ h) b) (CopiesTrue c (t ∷ h))
copies_next laws c h t config run is tells b k =
    rec_by_turn c h t is b (λ o. IfSome o (CopiesTrue c (t ∷ h))) (lift laws c h t config run is (rec_at c h b) k)
    (λ shape none may is. record { begins = refl; copy = λ p q e f. absurd (cc) })
    (λ r from u at told.
    let before : CopiesTrue c h r = subst (λ o. IfSome o (CopiesTrue c h)) at k in
    lift laws c h t config run is (Some (rec.after_hear r from u))
    (change laws c h config run tells b from u told r at (rec_is laws.nodes c h run b r at).kept.come_by before (rec.after_hear r from u) (laws.nodes.rec_change r from u)))
