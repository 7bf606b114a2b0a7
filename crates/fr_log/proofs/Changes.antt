-- The ways in which a log changes.
use Rattle.std.proofs.Common.{◌≡◌, ℕ, Bool, true, false, not, cond, eqb, Option, None, Some, refl, sym, ◌∙◌, ap, subst}
use Rattle.std.specs.Prelude.{is_none, IsSome}
use Rattle.std.specs.List.{list_all}
use Rattle.std.proofs.lemmas.Bool.{not-false, eqb-true}
use Rattle.fr_log.specs.declared.ask.LogAsk.{LogAsk}
use Rattle.fr_log.specs.declared.ask.LogAsk.TheVariants.{Seed, Push, Lock, Pop}
use Rattle.fr_log.specs.declared.ask.LogTell.TheVariants.{Seeded, Held, Popped, Refused}
use Rattle.fr_log.specs.declared.ask.LogRefusal.{LogRefusal}
use Rattle.fr_log.specs.Seed.{SeedContent}
use Rattle.fr_log.specs.Push.{PushContent}
use Rattle.fr_log.specs.LogState.{LogState, holds, is_push_held}
use Rattle.fr_log.specs.Refusal.{refusal_of, seed_refusal, pop_refusal}
use Rattle.fr_log.specs.Step.{answer_of, next_of, answer_unless, next_unless, granted_answer, granted_next, popped_to, is_popped_to, with_popped}
use Rattle.fr_log.specs.StepLaws.{passes, granted}
use Rattle.fr_log.specs.Change.{with_seed, with_push, with_stop, IsFirst, IsNext, IsFurther, LogChange, Stands, Seeds, Holds, Stops, Pops}
use Rattle.fr_log.specs.Law.{AskIsChange, RefusedChangesNothing, TakenIsNext}
use Rattle.fr_log.proofs.Pushing.{some_from, next_push}

pub refused : (l : LogState) (a : LogAsk) (why : LogRefusal) → refusal_of l a ≡ Some why → next_of l a ≡ l
refused l a why e = ap (λ o. next_unless o l (granted_next l a)) e

pub told : (l : LogState) (a : LogAsk) (o : Option LogRefusal) → refusal_of l a ≡ o → answer_of l a ≡ answer_unless o (granted_answer l a)
told l a o e = ap (λ x. answer_unless x (granted_answer l a)) e

-- what follows from each test of a seed, and of a lock
pub first_seed : (l : LogState) (s : SeedContent) → seed_refusal l s ≡ None → l.seed ≡ None → IsFirst l s
first_seed l s e none =
    let a = passes (not (eqb s.epoch l.epoch)) _ _ e in
    let b = passes (not (list_all (λ r. holds l r.tag) s.records)) _ _ a.1 in
    record { granted = e; unseeded = none; epoch = eqb-true s.epoch l.epoch (not-false (eqb s.epoch l.epoch) a.0); tags = not-false (list_all (λ r. holds l r.tag) s.records) b.0 }

-- an ask that is granted is for the log's epoch, and the log has a seed
pub own_and_seeded : (l : LogState) (epoch : ℕ) (rest : Option LogRefusal) (why unseeded : LogRefusal)
    → cond (not (eqb epoch l.epoch)) (Some why) (cond (is_none l.seed) (Some unseeded) rest) ≡ None → (epoch ≡ l.epoch) × IsSome l.seed × (rest ≡ None)
own_and_seeded l epoch rest why unseeded e =
    let a = passes (not (eqb epoch l.epoch)) why _ e in
    let b = passes (is_none l.seed) unseeded rest a.1 in
    (eqb-true epoch l.epoch (not-false (eqb epoch l.epoch) a.0), some_from l.seed b.0, b.1)

seed_changes : (l : LogState) (s : SeedContent) (o : Option LogRefusal) → refusal_of l (Seed s) ≡ o → (held : Option SeedContent) → l.seed ≡ held → LogChange l (Seed s) (next_of l (Seed s))
seed_changes l s (Some why) e held is = subst (LogChange l (Seed s)) (sym (refused l (Seed s) why e)) Stands
seed_changes l s None e (Some t) is = let k : next_of l (Seed s) ≡ l = granted l (Seed s) e ∙ rw is refl in subst (LogChange l (Seed s)) (sym k) Stands
seed_changes l s None e None is =
    let k : next_of l (Seed s) ≡ with_seed l s = granted l (Seed s) e ∙ rw is refl in
    subst (LogChange l (Seed s)) (sym k) (Seeds s refl (first_seed l s e is))

push_changes : (l : LogState) (p : PushContent) (o : Option LogRefusal) → refusal_of l (Push p) ≡ o → (held : Bool) → is_push_held l p ≡ held → LogChange l (Push p) (next_of l (Push p))
push_changes l p (Some why) e held is = subst (LogChange l (Push p)) (sym (refused l (Push p) why e)) Stands
push_changes l p None e true is = let k : next_of l (Push p) ≡ l = granted l (Push p) e ∙ rw is refl in subst (LogChange l (Push p)) (sym k) Stands
push_changes l p None e false is =
    let k : next_of l (Push p) ≡ with_push l p = granted l (Push p) e ∙ rw is refl in
    subst (LogChange l (Push p)) (sym k) (Holds p refl (next_push l p e is))

lock_changes : (l : LogState) (epoch : ℕ) (o : Option LogRefusal) → refusal_of l (Lock epoch) ≡ o → LogChange l (Lock epoch) (next_of l (Lock epoch))
lock_changes l epoch (Some why) e = subst (LogChange l (Lock epoch)) (sym (refused l (Lock epoch) why e)) Stands
lock_changes l epoch None e =
    let own = own_and_seeded l epoch _ _ _ e in
    subst (LogChange l (Lock epoch)) (sym (granted l (Lock epoch) e)) (Stops (ap Lock own.0) own.1)

-- an ask that changes nothing where it is granted changes nothing
stands : (l : LogState) (a : LogAsk) (o : Option LogRefusal) → granted_next l a ≡ l → refusal_of l a ≡ o → next_of l a ≡ l
stands l a (Some why) same e = refused l a why e
stands l a None same e = granted l a e ∙ same

pop_changes : (l : LogState) (epoch tag through : ℕ) (o : Option LogRefusal) → refusal_of l (Pop epoch tag through) ≡ o → (same : Bool) → is_popped_to l tag (popped_to l tag through) ≡ same
    → LogChange l (Pop epoch tag through) (next_of l (Pop epoch tag through))
pop_changes l epoch tag through (Some why) e same is = subst (LogChange l (Pop epoch tag through)) (sym (refused l (Pop epoch tag through) why e)) Stands
pop_changes l epoch tag through None e true is =
    let k : next_of l (Pop epoch tag through) ≡ l = granted l (Pop epoch tag through) e ∙ rw is refl in
    subst (LogChange l (Pop epoch tag through)) (sym k) Stands
pop_changes l epoch tag through None e false is =
    let own = own_and_seeded l epoch _ _ _ e in
    let c = passes (not (holds l tag)) _ _ own.2 in
    let k : next_of l (Pop epoch tag through) ≡ with_popped l tag (popped_to l tag through) = granted l (Pop epoch tag through) e ∙ rw is refl in
    subst (LogChange l (Pop epoch tag through)) (sym k)
    (Pops tag through (ap (λ x. Pop x tag through) own.0) (record { granted = ap (λ x. pop_refusal l x tag) (sym own.0) ∙ e; seeded = own.1; held = not-false (holds l tag) c.0; further = is }))

pub ask_is_change : AskIsChange
ask_is_change l (Seed s) = seed_changes l s (refusal_of l (Seed s)) refl l.seed refl
ask_is_change l (Push p) = push_changes l p (refusal_of l (Push p)) refl (is_push_held l p) refl
ask_is_change l (Lock epoch) = lock_changes l epoch (refusal_of l (Lock epoch)) refl
ask_is_change l (Pop epoch tag through) = pop_changes l epoch tag through (refusal_of l (Pop epoch tag through)) refl (is_popped_to l tag (popped_to l tag through)) refl
ask_is_change l a = subst (LogChange l a) (sym (stands l a (refusal_of l a) refl refl)) Stands

-- what is true of the log, and after each way in which it changes, is true after an ask
pub by_change : (P : LogState → Type 0) (l : LogState) (a : LogAsk) → P l → ((s : SeedContent) → a ≡ Seed s → IsFirst l s → P (with_seed l s)) → ((p : PushContent) → a ≡ Push p → IsNext l p → P (with_push l p))
    → (a ≡ Lock l.epoch → IsSome l.seed → P (with_stop l))
    → ((tag through : ℕ) → a ≡ Pop l.epoch tag through → IsFurther l tag through → P (with_popped l tag (popped_to l tag through))) → P (next_of l a)
by_change P l a same seeds pushes stops pops = go (next_of l a) (ask_is_change l a)
  where
    go : (n : LogState) → LogChange l a n → P n
    go n Stands = same
    go n (Seeds s at is) = seeds s at is
    go n (Holds p at is) = pushes p at is
    go n (Stops at is) = stops at is
    go n (Pops tag through at is) = pops tag through at is

pub taken_is_next : TakenIsNext
taken_is_next l p taken other = next_push l p taken other

-- an answer that is a refusal comes of a test, or of a mark that is not there
pub refused_changes_nothing : RefusedChangesNothing
refused_changes_nothing l (Seed s) why e = go (refusal_of l (Seed s)) refl
  where
    go : (o : Option LogRefusal) → refusal_of l (Seed s) ≡ o → next_of l (Seed s) ≡ l
    go (Some w) r = refused l (Seed s) w r
    go None r = let k : Seeded ≡ Refused why = sym (told l (Seed s) None r) ∙ e in absurd (cc)
refused_changes_nothing l (Push p) why e = go (refusal_of l (Push p)) refl
  where
    go : (o : Option LogRefusal) → refusal_of l (Push p) ≡ o → next_of l (Push p) ≡ l
    go (Some w) r = refused l (Push p) w r
    go None r = let k : Held p.version ≡ Refused why = sym (told l (Push p) None r) ∙ e in absurd (cc)
refused_changes_nothing l (Lock epoch) why e = go (refusal_of l (Lock epoch)) refl
  where
    go : (o : Option LogRefusal) → refusal_of l (Lock epoch) ≡ o → next_of l (Lock epoch) ≡ l
    go (Some w) r = refused l (Lock epoch) w r
    go None r = let k : granted_answer l (Lock epoch) ≡ Refused why = sym (told l (Lock epoch) None r) ∙ e in absurd (cc)
refused_changes_nothing l (Pop epoch tag through) why e = go (refusal_of l (Pop epoch tag through)) refl
  where
    go : (o : Option LogRefusal) → refusal_of l (Pop epoch tag through) ≡ o → next_of l (Pop epoch tag through) ≡ l
    go (Some w) r = refused l (Pop epoch tag through) w r
    go None r = let k : Popped (popped_to l tag through) ≡ Refused why = sym (told l (Pop epoch tag through) None r) ∙ e in absurd (cc)
refused_changes_nothing l a why e = stands l a (refusal_of l a) refl refl
