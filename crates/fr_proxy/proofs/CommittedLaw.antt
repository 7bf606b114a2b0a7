-- Committed is said exactly at the word by which the last log is heard to hold the batch since it has its number.
use Rattle.std.proofs.Common.{◌≡◌, ℕ, ◌+◌, List, [], ◌∷◌, ◌++◌, None, Some, inl, inr, refl, sym, ap, ap₂, subst, ◌∙◌}
use Rattle.std.specs.Option.{option_map}
use Rattle.std.proofs.lemmas.Bool.{eq-eqb, lt-ltb, le-leb}
use Rattle.fr_base.specs.declared.place.NodeId.{NodeId}
use Rattle.fr_base.specs.declared.place.NodeId.TheVariants as node
use Rattle.fr_mutation.specs.declared.mutation.Mutation.{Mutation}
use Rattle.fr_log.specs.declared.ask.LogTell.TheVariants as log
use Rattle.fr_ask.specs.declared.sequencer.SeqTell.TheVariants as seq
use Rattle.fr_ask.specs.declared.tell.Tell.{Tell}
use Rattle.fr_ask.specs.declared.tell.Tell.TheVariants as tell
use Rattle.fr_proxy.specs.declared.outcome.Outcome.TheVariants.{Waiting, Committed}
use Rattle.fr_proxy.specs.Proxy.{ProxyState, Open, Place, Heeded, Ignored, Placed, HeldBy, HeldByAll, Cut, opened, placed, submit_fault, submitted, heeded, after_heeded, outcome_of, outcome_of_heeded}
use Rattle.fr_proxy.specs.Heard.{IsNewNumber, IsNewHolder, IsEnding, Spends, Stops, Heard, Ignores, Places, Holds, HoldsAll, Cuts}
use Rattle.fr_proxy.specs.IsProxy.{IsPlace, IsProxy}
use Rattle.fr_proxy.specs.Committed.{Word, after_all, WasHeard, number_word, AllHold, IsHeldByAllNow, CommittedExactlyWhenHeldByAll, OtherHeldCountsNothing, known_after, KnownIsLastCommitted}
use Rattle.fr_proxy.proofs.Heard.{hear_is_heard}
use Rattle.fr_proxy.proofs.Sound.{keeps, open_of, number_is_place, submit_keeps}
use Rattle.fr_proxy.proofs.HeldByAll.{IsNow, sound, one_open, idle_waits, ending_same, ignored_differs, going_on, only_heard}
use Rattle.fr_proxy.proofs.HeldByAllBack.{back, ending_was}

-- a batch that has no number yet
record IsTaken (p : ProxyState) (o : Open) : Type 0 where
  proxy : IsProxy p
  under_way : p.under_way ≡ Some o
  unplaced : o.place ≡ None

none_unplaced : (p : ProxyState) (o o' : Open) (at : Place) → IsTaken p o → p.under_way ≡ Some o' → o'.place ≡ Some at → {X : Type 0} → X
none_unplaced p o o' at k u g = let same = one_open p o o' k.under_way u in let h : o.place ≡ Some at = subst (λ (z : Open). z.place ≡ Some at) same g in let clash : None ≡ Some at = sym k.unplaced ∙ h in absurd (cc)

-- a number of the batch from which a push can be made gives it its place
number_is_heeded : (p : ProxyState) (o : Open) (at : Place) → IsTaken p o → IsPlace p.known at → heeded p (node.Sequencer p.epoch) (tell.Seq (seq.Numbered o.request at.prev at.version)) ≡ Placed at
number_is_heeded p o at k fits =
    rw k.under_way (rw (eq-eqb p.epoch p.epoch refl) (rw (eq-eqb o.request o.request refl) (rw k.unplaced (rw (le-leb p.known at.prev fits.known) (rw (lt-ltb at.prev at.version fits.rises) (rw (le-leb at.version (at.prev + 1000000) fits.step) refl))))))

placed_differs : (at : Place) → Placed at ≡ Cut → ⊥
placed_differs at e = absurd (cc)

number_heard : (p : ProxyState) (o : Open) (at : Place) (x : Word) → IsTaken p o → IsPlace p.known at → x ≡ number_word p o.request at → heeded p x.0 x.1 ≡ Placed at
number_heard p o at x k fits e = ap (λ (z : Word). heeded p z.0 z.1) e ∙ number_is_heeded p o at k fits

-- a word that was ignored is no such number
not_ignored : (p : ProxyState) (o : Open) (at : Place) (x : Word) → IsTaken p o → IsPlace p.known at → heeded p x.0 x.1 ≡ Ignored → x ≡ number_word p o.request at → ⊥
not_ignored p o at x k fits is e = let clash : Ignored ≡ Placed at = sym is ∙ number_heard p o at x k fits e in absurd (cc)

no_number_before : (p : ProxyState) (o : Open) (at : Place) (x : Word) (xs : List Word) → IsTaken p o → IsPlace p.known at → heeded p x.0 x.1 ≡ Ignored → (WasHeard xs (number_word p o.request at) → ⊥) → WasHeard (x ∷ xs) (number_word p o.request at) → ⊥
no_number_before p o at x xs k fits is rest (inl e) = not_ignored p o at x k fits is e
no_number_before p o at x xs k fits is rest (inr h) = rest h

of_own_open : (p : ProxyState) (o o' : Open) (at : Place) (x : Word) → p.under_way ≡ Some o → IsNewNumber p o' at x.0 x.1 → x ≡ number_word p o.request at
of_own_open p o o' at x u k = ap₂ (λ a b. (a, b)) k.sender k.said ∙ ap (λ (z : Open). number_word p z.request at) (one_open p o o' u k.under_way)

-- ---- what is committed was heard from all

-- where the number comes first
numbered_now : (p : ProxyState) (o : Open) (at : Place) (x : Word) (xs : List Word) (w : Word) (version : ℕ) → IsTaken p o → IsPlace p.known at → x ≡ number_word p o.request at → heeded p x.0 x.1 ≡ Placed at →
    IsNow (after_heeded p (Placed at)) (placed at o) at xs w version → IsHeldByAllNow p o.request (x ∷ xs) w version
numbered_now p o at x xs w version k fits e is r =
    let none = (open_of p o k.proxy k.under_way).unplaced k.unplaced in
    record {
      at = at;
      before = [];
      since = xs;
      numbered = record { heard = ap (λ z. z ∷ xs) e; place = fits; first = λ other f h. h };
      own = r.own;
      all = λ i l. only_heard p o at.version i (xs ++ w ∷ []) none (r.all i l);
      not_before = λ f. r.not_before (λ i l. inr (f i l));
      going = λ y. going_on p o x xs (Placed at) k.under_way is (placed_differs at) y (λ heard end. r.going y heard (ending_same p (option_map (placed at) p.under_way) y.0 y.1 end));
    }

-- where it comes later
numbered_later : (p : ProxyState) (o : Open) (x : Word) (xs : List Word) (w : Word) (version : ℕ) → IsTaken p o → heeded p x.0 x.1 ≡ Ignored → IsHeldByAllNow p o.request xs w version → IsHeldByAllNow p o.request (x ∷ xs) w version
numbered_later p o x xs w version k is r = record {
  at = r.at;
  before = x ∷ r.before;
  since = r.since;
  numbered = record { heard = ap (λ zs. x ∷ zs) r.numbered.heard; place = r.numbered.place; first = λ other fits. no_number_before p o other x r.before k fits is (r.numbered.first other fits) };
  own = r.own;
  all = r.all;
  not_before = r.not_before;
  going = λ y. going_on p o x xs Ignored k.under_way is ignored_differs y (r.going y);
}

never : {X : Type 0} (v : ℕ) → Waiting ≡ Committed v → X
never v e = absurd (cc)

not_yet : (p : ProxyState) (o : Open) (w : Word) (version : ℕ) (h : Heeded) → IsTaken p o → Heard p w.0 w.1 h → outcome_of_heeded h ≡ Committed version → {X : Type 0} → X
not_yet p o w version h k Ignores e = absurd (cc)
not_yet p o w version h k (Places o' at' n) e = absurd (cc)
not_yet p o w version h k (Holds o' at' i n l) e = absurd (cc)
not_yet p o w version h k (HoldsAll o' at' i n l) e = none_unplaced p o o' at' k n.under_way n.given
not_yet p o w version h k (Cuts o' v n) e = absurd (cc)

next_taken : (p : ProxyState) (o : Open) (x : Word) (xs : List Word) (w : Word) (version : ℕ) (h : Heeded) → IsTaken p o → heeded p x.0 x.1 ≡ h → Heard p x.0 x.1 h → (outcome_of (after_all p xs) w.0 w.1 ≡ Committed version → IsHeldByAllNow p o.request xs w version) →
    outcome_of (after_all (after_heeded p h) xs) w.0 w.1 ≡ Committed version → IsHeldByAllNow p o.request (x ∷ xs) w version
next_taken p o x xs w version h k is Ignores rest e = numbered_later p o x xs w version k is (rest e)
next_taken p o x xs w version h k is (Places o' at n) rest e =
    let q = after_heeded p (Placed at) in
    let r = sound xs q (placed at o) at w version (keeps p x.0 x.1 (Placed at) is k.proxy) (ap (option_map (placed at)) k.under_way) refl e in
    numbered_now p o at x xs w version k (number_is_place p o' at x.0 x.1 n) (of_own_open p o o' at x k.under_way n) is r
next_taken p o x xs w version h k is (Holds o' at' i n l) rest e = none_unplaced p o o' at' k n.under_way n.given
next_taken p o x xs w version h k is (HoldsAll o' at' i n l) rest e = none_unplaced p o o' at' k n.under_way n.given
next_taken p o x xs w version h k is (Cuts o' v n) rest e = never version (sym (idle_waits xs (after_heeded p Cut) w refl) ∙ e)

sound_taken : (ws : List Word) (p : ProxyState) (o : Open) (w : Word) (version : ℕ) → IsTaken p o → outcome_of (after_all p ws) w.0 w.1 ≡ Committed version → IsHeldByAllNow p o.request ws w version
sound_taken [] p o w version k e = not_yet p o w version (heeded p w.0 w.1) k (hear_is_heard p w.0 w.1) e
sound_taken (x ∷ xs) p o w version k e = next_taken p o x xs w version (heeded p x.0 x.1) k refl (hear_is_heard p x.0 x.1) (sound_taken xs p o w version k) e

-- ---- what was heard from all is committed

-- what is still to be shown when some words were heard before the number
record IsAwaited (p : ProxyState) (o : Open) (at : Place) (before since : List Word) (w : Word) : Type 0 where
  place : IsPlace p.known at
  first : (other : Place) → IsPlace p.known other → WasHeard before (number_word p o.request other) → ⊥
  all : AllHold p at.version (since ++ w ∷ [])
  not_before : AllHold p at.version since → ⊥
  going : (x : Word) → WasHeard (before ++ number_word p o.request at ∷ since) x → IsEnding p x.0 x.1 → ⊥

placed_now : (p : ProxyState) (o : Open) (at : Place) (since : List Word) (w : Word) → IsTaken p o → IsAwaited p o at [] since w → IsNow (after_heeded p (Placed at)) (placed at o) at since w at.version
placed_now p o at since w k r =
    let none = (open_of p o k.proxy k.under_way).unplaced k.unplaced in
    record {
      own = refl;
      all = λ i l. inr (r.all i l);
      not_before = λ f. r.not_before (λ i l. only_heard p o at.version i since none (f i l));
      going = λ y heard end. r.going y (inr heard) (ending_was p (option_map (placed at) p.under_way) y.0 y.1 end);
    }

number_back : (p : ProxyState) (o : Open) (at : Place) (since : List Word) (w : Word) → IsTaken p o → IsAwaited p o at [] since w → outcome_of (after_all p (number_word p o.request at ∷ since)) w.0 w.1 ≡ Committed at.version
number_back p o at since w k r =
    let is = number_is_heeded p o at k r.place in
    let q = after_heeded p (Placed at) in
    let e = back since q (placed at o) at w at.version (keeps p (node.Sequencer p.epoch) (tell.Seq (seq.Numbered o.request at.prev at.version)) (Placed at) is k.proxy) (ap (option_map (placed at)) k.under_way) refl (placed_now p o at since w k r) in
    ap (λ h. outcome_of (after_all (after_heeded p h) since) w.0 w.1) is ∙ e

less_awaited : (p : ProxyState) (o : Open) (at : Place) (x : Word) (xs since : List Word) (w : Word) → IsAwaited p o at (x ∷ xs) since w → IsAwaited p o at xs since w
less_awaited p o at x xs since w r = record {
  place = r.place;
  first = λ other fits h. r.first other fits (inr h);
  all = r.all;
  not_before = r.not_before;
  going = λ y heard end. r.going y (inr heard) end;
}

next_awaited : (p : ProxyState) (o : Open) (at : Place) (x : Word) (xs since : List Word) (w : Word) (h : Heeded) → IsTaken p o → IsAwaited p o at (x ∷ xs) since w → Heard p x.0 x.1 h →
    outcome_of (after_all p (xs ++ number_word p o.request at ∷ since)) w.0 w.1 ≡ Committed at.version → outcome_of (after_all (after_heeded p h) (xs ++ number_word p o.request at ∷ since)) w.0 w.1 ≡ Committed at.version
next_awaited p o at x xs since w h k r Ignores rest = rest
next_awaited p o at x xs since w h k r (Places o' at' n) rest = absurd (r.first at' (number_is_place p o' at' x.0 x.1 n) (inl (of_own_open p o o' at' x k.under_way n)))
next_awaited p o at x xs since w h k r (Holds o' at' i n l) rest = none_unplaced p o o' at' k n.under_way n.given
next_awaited p o at x xs since w h k r (HoldsAll o' at' i n l) rest = none_unplaced p o o' at' k n.under_way n.given
next_awaited p o at x xs since w h k r (Cuts o' v n) rest = absurd (r.going x (inl refl) n)

back_taken : (before : List Word) (p : ProxyState) (o : Open) (at : Place) (since : List Word) (w : Word) → IsTaken p o → IsAwaited p o at before since w → outcome_of (after_all p (before ++ number_word p o.request at ∷ since)) w.0 w.1 ≡ Committed at.version
back_taken [] p o at since w k r = number_back p o at since w k r
back_taken (x ∷ xs) p o at since w k r = next_awaited p o at x xs since w (heeded p x.0 x.1) k r (hear_is_heard p x.0 x.1) (back_taken xs p o at since w k (less_awaited p o at x xs since w r))

-- ---- both

taken_now : (p : ProxyState) (step : ℕ) (batch : List Mutation) → IsProxy p → submit_fault p ≡ None → IsTaken (submitted p step batch) (opened p step batch)
taken_now p step batch s f = record { proxy = submit_keeps p step batch s f; under_way = refl; unplaced = refl }

-- what ends a proxy before its batch is what ends it after
ends_after : (p : ProxyState) (step : ℕ) (batch : List Mutation) (from : NodeId) (t : Tell) → IsEnding p from t → IsEnding (submitted p step batch) from t
ends_after p step batch from t Spends = Spends
ends_after p step batch from t (Stops i l) = Stops i l

ends_before : (p : ProxyState) (step : ℕ) (batch : List Mutation) (from : NodeId) (t : Tell) → IsEnding (submitted p step batch) from t → IsEnding p from t
ends_before p step batch from t Spends = Spends
ends_before p step batch from t (Stops i l) = Stops i l

of_submitted : (p : ProxyState) (step : ℕ) (batch : List Mutation) (ws : List Word) (w : Word) (version : ℕ) → IsHeldByAllNow (submitted p step batch) (p.requests + 1) ws w version → IsHeldByAllNow p (p.requests + 1) ws w version
of_submitted p step batch ws w version r = record {
  at = r.at;
  before = r.before;
  since = r.since;
  numbered = record { heard = r.numbered.heard; place = r.numbered.place; first = r.numbered.first };
  own = r.own;
  all = r.all;
  not_before = r.not_before;
  going = λ x heard end. r.going x heard (ends_after p step batch x.0 x.1 end);
}

awaited : (p : ProxyState) (step : ℕ) (batch : List Mutation) (ws : List Word) (w : Word) (version : ℕ) → (r : IsHeldByAllNow p (p.requests + 1) ws w version) → IsAwaited (submitted p step batch) (opened p step batch) r.at r.before r.since w
awaited p step batch ws w version r = record {
  place = r.numbered.place;
  first = r.numbered.first;
  all = r.all;
  not_before = r.not_before;
  going = λ x heard end. r.going x (subst (λ zs. WasHeard zs x) (sym r.numbered.heard) heard) (ends_before p step batch x.0 x.1 end);
}

committed_back : (p : ProxyState) (step : ℕ) (batch : List Mutation) (ws : List Word) (w : Word) (version : ℕ) → IsProxy p → submit_fault p ≡ None → IsHeldByAllNow p (p.requests + 1) ws w version →
    outcome_of (after_all (submitted p step batch) ws) w.0 w.1 ≡ Committed version
committed_back p step batch ws w version s f r =
    let q = submitted p step batch in
    let e = back_taken r.before q (opened p step batch) r.at r.since w (taken_now p step batch s f) (awaited p step batch ws w version r) in
    ap (λ zs. outcome_of (after_all q zs) w.0 w.1) r.numbered.heard ∙ (e ∙ ap Committed (sym r.own))

pub committed_exactly : CommittedExactlyWhenHeldByAll
committed_exactly p step batch ws w version s f = (
  λ e. of_submitted p step batch ws w version (sound_taken ws (submitted p step batch) (opened p step batch) w version (taken_now p step batch s f) e),
  committed_back p step batch ws w version s f,
)

-- ---- beside it

-- a Held ends nothing
held_goes_on : (p : ProxyState) (from : NodeId) (version : ℕ) (t : Tell) → t ≡ tell.Log (log.Held version) → IsEnding p from t → {X : Type 0} → X
held_goes_on p from version t e Spends = absurd (cc)
held_goes_on p from version t e (Stops i l) = absurd (cc)

other_held : (p : ProxyState) (from : NodeId) (version : ℕ) (h : Heeded) → heeded p from (tell.Log (log.Held version)) ≡ h → Heard p from (tell.Log (log.Held version)) h →
    ((o : Open) (at : Place) (i : ℕ) → IsNewHolder p o at i from (tell.Log (log.Held version)) → ⊥) → heeded p from (tell.Log (log.Held version)) ≡ Ignored
other_held p from version h is Ignores none = is
other_held p from version h is (Places o at k) none = let said = k.said in absurd (cc)
other_held p from version h is (Holds o at i k l) none = absurd (none o at i k)
other_held p from version h is (HoldsAll o at i k l) none = absurd (none o at i k)
other_held p from version h is (Cuts o u k) none = held_goes_on p from version (tell.Log (log.Held version)) refl k

pub other_held_counts_nothing : OtherHeldCountsNothing
other_held_counts_nothing p from version none =
    let is = other_held p from version (heeded p from (tell.Log (log.Held version))) refl (hear_is_heard p from (tell.Log (log.Held version))) none in
    (rw is refl, rw is refl, rw is refl)

known_of : (p : ProxyState) (h : Heeded) → (after_heeded p h).known ≡ known_after p.known (outcome_of_heeded h)
known_of p Ignored = refl
known_of p (Placed at) = refl
known_of p (HeldBy i) = refl
known_of p (HeldByAll version) = refl
known_of p Cut = refl

pub known_is_last_committed : KnownIsLastCommitted
known_is_last_committed p from t = known_of p (heeded p from t)
