-- The laws of a log as a machine. They hold of every ask, also of one that breaks its own limits.
use Rattle.std.specs.Prelude.{◌≡◌, ℕ, ◌-◌, ◌≤◌, Bool, true, false, not, ◌==◌, List, [], ◌∷◌, ◌++◌, fold, max, Option, None, Some, is_some, is_none, cond, refl}
use Rattle.std.specs.List.{list_any, list_all}
use Rattle.std.proofs.Common.{sym, ◌∙◌, ap, subst, arith}
use Rattle.std.proofs.lemmas.List.Sums.{fold-append}
use Rattle.std.proofs.lemmas.List.Folds.{list_any-append}
use Rattle.std.proofs.lemmas.Bool.{or_right}
use Rattle.fr_base.specs.HighWater.{NoneFell}
use Rattle.fr_tags.specs.Placement.{is_held}
use Rattle.fr_log.specs.declared.ask.LogAsk.{LogAsk}
use Rattle.fr_log.specs.declared.ask.LogAsk.TheVariants.{Seed, Push, Lock, Pop}
use Rattle.fr_log.specs.declared.ask.LogRefusal.{LogRefusal}
use Rattle.fr_log.specs.Seed.{SeedContent, is_same_seed, is_same_seed-IsSameness}
use Rattle.fr_log.specs.Push.{PushContent, is_one_push, is_one_push-itself}
use Rattle.fr_log.specs.LogState.{LogState, swept, durable_of, known_of, is_push_held, first_of, seeded_to_of}
use Rattle.fr_log.specs.Refusal.{refusal_of}
use Rattle.fr_log.specs.Left.{left_push, left_seed}
use Rattle.fr_log.specs.Step.{answer_of, next_of, after_ask, answer_unless, next_unless, granted_answer, granted_next, popped_to, is_popped_to, with_popped}
use Rattle.fr_log.specs.declared.ask.LogTell.TheVariants.{Popped}
use Rattle.fr_log.specs.SweptLaws.{raised_here, durable_same, known_same, refusal_same, popped_to_same, popped_same, swept_tells, some_swept}

-- 1 for yes, 0 for no
abbrev pub as_number : Bool → ℕ
as_number true = 1
as_number false = 0

-- what never goes back
abbrev pub log_high_water : LogState → List ℕ
log_high_water l = as_number (is_some l.seed) ∷ durable_of l ∷ known_of l ∷ as_number l.stopped ∷ []

-- an ask leaves a log in which it is answered as before, and which it then leaves as it is
pub record IsRepeatable (l : LogState) (a : LogAsk) : Type 0 where
  pub told : answer_of (next_of l a) a ≡ answer_of l a
  pub after : next_of (next_of l a) a ≡ next_of l a
  pub high : NoneFell (log_high_water l) (log_high_water (next_of l a))

-- a test that was passed: it did not refuse, and the later ones did not either
pub passes : (test : Bool) (why : LogRefusal) (later : Option LogRefusal) → cond test (Some why) later ≡ None → (test ≡ false) × (later ≡ None)
passes true why later e = absurd (cc)
passes false why later e = (refl, e)

-- a refusal, and what changes nothing
stays : (l : LogState) (a : LogAsk) → next_of l a ≡ l → IsRepeatable l a
stays l a e = record {
  told = ap (λ n. answer_of n a) e;
  after = ap (λ n. next_of n a) e;
  high = subst (λ n. NoneFell (log_high_water l) (log_high_water n)) (sym e) (omega arith, (omega arith, (omega arith, (omega arith, tt))));
}

-- a change, after which the ask finds what it wants
moves : (l n : LogState) (a : LogAsk) → next_of l a ≡ n → answer_of n a ≡ answer_of l a → next_of n a ≡ n
    → NoneFell (log_high_water l) (log_high_water n) → IsRepeatable l a
moves l n a e told after high = record {
  told = ap (λ x. answer_of x a) e ∙ told;
  after = ap (λ x. next_of x a) e ∙ after ∙ sym e;
  high = subst (λ x. NoneFell (log_high_water l) (log_high_water x)) (sym e) high;
}

refused : (l : LogState) (a : LogAsk) (why : LogRefusal) → refusal_of l a ≡ Some why → IsRepeatable l a
refused l a why e = stays l a (ap (λ o. next_unless o l (granted_next l a)) e)

pub granted : (l : LogState) (a : LogAsk) → refusal_of l a ≡ None → next_of l a ≡ granted_next l a
granted l a e = ap (λ o. next_unless o l (granted_next l a)) e

pub told_granted : (l : LogState) (a : LogAsk) → refusal_of l a ≡ None → answer_of l a ≡ granted_answer l a
told_granted l a e = ap (λ o. answer_unless o (granted_answer l a)) e

-- the greatest of more is not less
pub greatest : {X : Type 0} (n : X → ℕ) (a b : ℕ) (xs : List X) → a ≤ b → fold (λ v x. max v (n x)) a xs ≤ fold (λ v x. max v (n x)) b xs
greatest n a b [] le = le
greatest n a b (x ∷ xs) le = greatest n (max a (n x)) (max b (n x)) xs (omega arith)

greatest_more : {X : Type 0} (n : X → ℕ) (a : ℕ) (xs : List X) (x : X) → fold (λ v y. max v (n y)) a xs ≤ fold (λ v y. max v (n y)) a (xs ++ x ∷ [])
greatest_more n a xs x = omega (arith, fold-append (λ v y. max v (n y)) a xs (x ∷ []))

new_seed : (l : LogState) (s : SeedContent) → l.seed ≡ None → refusal_of l (Seed s) ≡ None → IsRepeatable l (Seed s)
new_seed l s none e =
    let n : LogState = record l { seed = Some s } in
    let a = passes (not (s.epoch == l.epoch)) _ _ e in
    let b = passes (not (list_all (λ r. is_held r.tag l.m l.k l.index) s.records)) _ _ a.1 in
    let same : not (is_same_seed (left_seed l.popped s) (left_seed l.popped s)) ≡ false = rw (is_same_seed-IsSameness.itself (left_seed l.popped s)) refl in
    let again : refusal_of n (Seed s) ≡ None = rw (a.0, b.0, same) refl in
    moves l n (Seed s) (granted l (Seed s) e ∙ rw none refl) (told_granted n (Seed s) again ∙ sym (told_granted l (Seed s) e)) (granted n (Seed s) again) (
      low l.seed none,
      (
        greatest (λ p. p.version) (seeded_to_of l.seed) s.seeded_to l.pushes (let k = ap seeded_to_of none in omega arith),
        (greatest (λ p. p.known) (first_of l.seed - 1) (s.first - 1) l.pushes (let k = ap first_of none in omega arith), (omega arith, tt)),
      ),
    )
  where
    low : (o : Option SeedContent) → o ≡ None → as_number (is_some o) ≤ 1
    low None k = omega arith
    low (Some t) k = omega arith

new_push : (l : LogState) (p : PushContent) → is_push_held l p ≡ false → refusal_of l (Push p) ≡ None → IsRepeatable l (Push p)
new_push l p other e =
    let n : LogState = record l { pushes = l.pushes ++ p ∷ [] } in
    let a = passes (not (p.epoch == l.epoch)) _ _ e in
    let b = passes (is_none l.seed) _ _ a.1 in
    let f : PushContent → Bool = λ q. is_one_push (left_push l.popped p) (left_push l.popped q) in
    let held : is_push_held n p ≡ true = list_any-append f l.pushes (p ∷ []) ∙ or_right (is_push_held l p) (list_any f (p ∷ [])) (rw (is_one_push-itself (left_push l.popped p)) refl) in
    let again : refusal_of n (Push p) ≡ None = rw (a.0, b.0, held) refl in
    moves l n (Push p) (granted l (Push p) e ∙ rw other refl) (told_granted n (Push p) again ∙ sym (told_granted l (Push p) e))
    (granted n (Push p) again ∙ rw held refl)
    (omega arith, (greatest_more (λ q. q.version) (seeded_to_of l.seed) l.pushes p, (greatest_more (λ q. q.known) (first_of l.seed - 1) l.pushes p, (omega arith, tt))))

new_lock : (l : LogState) (epoch : ℕ) → refusal_of l (Lock epoch) ≡ None → IsRepeatable l (Lock epoch)
new_lock l epoch e =
    let n : LogState = record l { stopped = true } in
    let again : refusal_of n (Lock epoch) ≡ None = e in
    moves l n (Lock epoch) (granted l (Lock epoch) e) (told_granted n (Lock epoch) again ∙ sym (told_granted l (Lock epoch) e)) (granted n (Lock epoch) again)
    (omega arith, (omega arith, (omega arith, (low l.stopped, tt))))
  where
    low : (s : Bool) → as_number s ≤ 1
    low true = omega arith
    low false = omega arith

seed_repeats : (l : LogState) (s : SeedContent) → (o : Option LogRefusal) → refusal_of l (Seed s) ≡ o → (held : Option SeedContent) → l.seed ≡ held → IsRepeatable l (Seed s)
seed_repeats l s (Some why) e held is = refused l (Seed s) why e
seed_repeats l s None e (Some t) is = stays l (Seed s) (granted l (Seed s) e ∙ rw is refl)
seed_repeats l s None e None is = new_seed l s is e

push_repeats : (l : LogState) (p : PushContent) → (o : Option LogRefusal) → refusal_of l (Push p) ≡ o → (held : Bool) → is_push_held l p ≡ held → IsRepeatable l (Push p)
push_repeats l p (Some why) e held is = refused l (Push p) why e
push_repeats l p None e true is = stays l (Push p) (granted l (Push p) e ∙ rw is refl)
push_repeats l p None e false is = new_push l p is e

other_repeats : (l : LogState) (a : LogAsk) → granted_next l a ≡ l → (o : Option LogRefusal) → refusal_of l a ≡ o → IsRepeatable l a
other_repeats l a e (Some why) r = refused l a why r
other_repeats l a e None r = stays l a (granted l a r ∙ e)

lock_repeats : (l : LogState) (epoch : ℕ) → (o : Option LogRefusal) → refusal_of l (Lock epoch) ≡ o → IsRepeatable l (Lock epoch)
lock_repeats l epoch (Some why) e = refused l (Lock epoch) why e
lock_repeats l epoch None e = new_lock l epoch e

-- ---- the same if what a Pop covers is let go at once

-- an ask leaves a log in which it is answered as before, and which it then leaves as it is
pub record IsRepeatableAfter (l : LogState) (a : LogAsk) : Type 0 where
  pub told : answer_of (after_ask l a) a ≡ answer_of l a
  pub after : after_ask (after_ask l a) a ≡ after_ask l a
  pub high : NoneFell (log_high_water l) (log_high_water (after_ask l a))

comes_to : (l n : LogState) (a : LogAsk) → after_ask l a ≡ n → answer_of n a ≡ answer_of l a → after_ask n a ≡ n
    → NoneFell (log_high_water l) (log_high_water n) → IsRepeatableAfter l a
comes_to l n a e told after high = record {
  told = ap (λ x. answer_of x a) e ∙ told;
  after = ap (λ x. after_ask x a) e ∙ after ∙ sym e;
  high = subst (λ x. NoneFell (log_high_water l) (log_high_water x)) (sym e) high;
}

none_fell : (l : LogState) → NoneFell (log_high_water l) (log_high_water l)
none_fell l = (omega arith, (omega arith, (omega arith, (omega arith, tt))))

stopped_swept : (l : LogState) → as_number (swept l).stopped ≡ as_number l.stopped
unfolding swept
stopped_swept l = refl

-- nothing of what never goes back is let go
none_fell_swept : (l : LogState) → NoneFell (log_high_water l) (log_high_water (swept l))
none_fell_swept l =
    let a = ap as_number (some_swept l) in
    let b = durable_same l in
    let c = known_same l in
    let d = stopped_swept l in
    (omega (arith, a), (omega (arith, b), (omega (arith, c), (omega (arith, d), tt))))

pop_repeats : (l : LogState) (epoch tag through : ℕ) → IsRepeatableAfter l (Pop epoch tag through)
pop_repeats l epoch tag through = go (refusal_of l a) refl
  where
    a : LogAsk
    a = Pop epoch tag through

    v : ℕ
    v = popped_to l tag through

    n : LogState
    n = with_popped l tag v

    again : popped_to n tag through ≡ v
    again = let k : Rattle.fr_log.specs.Left.popped_at n.popped tag ≡ v = ap (λ o. Rattle.std.specs.Option.unwrap_or o 0) (raised_here l.popped tag v) in omega (arith, k)

    further : refusal_of l a ≡ None → after_ask l a ≡ swept n → IsRepeatableAfter l a
    further e is =
        let r : refusal_of (swept n) a ≡ None = refusal_same n a ∙ e in
        let p : popped_to (swept n) tag through ≡ v = popped_to_same n tag through ∙ again in
        let t : is_popped_to (swept n) tag v ≡ true = popped_same n tag v ∙ rw (raised_here l.popped tag v, Rattle.std.proofs.lemmas.Bool.eq-eqb v v refl) refl in
        comes_to l (swept n) a is (swept_tells n a ∙ told_granted n a e ∙ ap Popped again ∙ sym (told_granted l a e)) (rw (r, p, t) refl) (none_fell_swept n)

    go : (o : Option LogRefusal) → refusal_of l a ≡ o → IsRepeatableAfter l a
    go (Some why) e = comes_to l l a (rw e refl) refl (rw e refl) (none_fell l)
    go None e = by (is_popped_to l tag v) refl
      where
        by : (b : Bool) → is_popped_to l tag v ≡ b → IsRepeatableAfter l a
        by true k = comes_to l l a (rw (e, k) refl) refl (rw (e, k) refl) (none_fell l)
        by false k = further e (rw (e, k) refl)

pub repeats_after : (l : LogState) (a : LogAsk) → IsRepeatableAfter l a
repeats_after l (Seed s) = let r = seed_repeats l s (refusal_of l (Seed s)) refl l.seed refl in record { told = r.told; after = r.after; high = r.high }
repeats_after l (Push p) = let r = push_repeats l p (refusal_of l (Push p)) refl (is_push_held l p) refl in record { told = r.told; after = r.after; high = r.high }
repeats_after l (Lock epoch) = let r = lock_repeats l epoch (refusal_of l (Lock epoch)) refl in record { told = r.told; after = r.after; high = r.high }
repeats_after l (Pop epoch tag through) = pop_repeats l epoch tag through
repeats_after l a = let r = other_repeats l a refl (refusal_of l a) refl in record { told = r.told; after = r.after; high = r.high }
