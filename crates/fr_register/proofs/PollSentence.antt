-- A poll, step by step, against the cells that gave the answer and the tell that decided.
use Rattle.std.proofs.Common.{◌≡◌, ℕ, suc, ◌*◌, Bool, true, false, cond, not, ◌&&◌, ◌||◌, nat_eq, nat_lt, List, [], ◌∷◌, ◌++◌, Option, Some, None, refl, sym, ◌∙◌, ap, subst, arith}
use Rattle.std.specs.List.{list_any}
use Rattle.std.specs.Option.{option_or}
use Rattle.std.specs.Set.{is_member, distinct_count}
use Rattle.std.specs.Cmp.{nat_eq_equiv}
use Rattle.std.proofs.lemmas.Bool.{eqb-true, ltb-true, lt-ltb, eq-eqb, and_right, or_right}
use Rattle.std.proofs.lemmas.List.Folds.{list_any-append}
use Rattle.std.proofs.lemmas.Map.Made.{length-from_keys}
use Rattle.fr_register.specs.Poll.{Poll}
use Rattle.fr_register.specs.Tally.{is_wanted, is_heard, with_heard, with_refusal, refused_at, progress_of, is_majority}
use Rattle.fr_register.specs.Heard.{Heard, is_refusal, verdict_of, verdict, is_of}
use Rattle.fr_register.specs.declared.ask.CellTell.{CellTell}
use Rattle.fr_register.specs.declared.ask.CellTell.TheVariants.{Promise, Written, Refused, TwoValues}
use Rattle.fr_register.specs.declared.poll.Progress.TheVariants.{Waiting, Majority, Lost}
use Rattle.fr_register.specs.declared.poll.Refusal.{Refusal}
use Rattle.fr_register.specs.Faithful.{IsPollOf}
use Rattle.fr_register.proofs.Tallied.{found_flips, heard_poll_of, refused_poll_of}

-- ---- lists of cells

-- two lists have the same cells, where cell j counts as in both
abbrev pub SameBut : ℕ → List ℕ → List ℕ → Type 0
SameBut j xs ys = (i : ℕ) → (nat_eq j i || is_member nat_eq xs i) ≡ (nat_eq j i || is_member nat_eq ys i)

abbrev pub Same : List ℕ → List ℕ → Type 0
Same xs ys = (i : ℕ) → is_member nat_eq xs i ≡ is_member nat_eq ys i

or_swap : (a b : Bool) → (a || b) ≡ (b || a)
or_swap true true = refl
or_swap true false = refl
or_swap false true = refl
or_swap false false = refl

member_push : (xs : List ℕ) (c i : ℕ) → is_member nat_eq (xs ++ c ∷ []) i ≡ is_member nat_eq (c ∷ xs) i
member_push xs c i = list_any-append (nat_eq i) xs (c ∷ []) ∙ (or_swap (list_any (nat_eq i) xs) (nat_eq i c || false) ∙ ap (λ k. k || list_any (nat_eq i) xs) (plain (nat_eq i c)))
  where
    plain : (a : Bool) → (a || false) ≡ a
    plain true = refl
    plain false = refl

same_push : (xs ys : List ℕ) (c : ℕ) → Same xs ys → Same (xs ++ c ∷ []) (c ∷ ys)
same_push xs ys c s i = member_push xs c i ∙ ap (λ k. nat_eq i c || k) (s i)

same_but_push : (j : ℕ) (xs ys : List ℕ) (c : ℕ) → SameBut j xs ys → SameBut j (xs ++ c ∷ []) (c ∷ ys)
same_but_push j xs ys c s i = ap (λ k. nat_eq j i || k) (member_push xs c i) ∙ go (nat_eq j i) (nat_eq i c) (is_member nat_eq xs i) (is_member nat_eq ys i) (s i)
  where
    go : (a b x y : Bool) → (a || x) ≡ (a || y) → (a || (b || x)) ≡ (a || (b || y))
    go true b x y h = refl
    go false true x y h = refl
    go false false x y h = h

-- a cell that is in the list already changes nothing when it is put in front
member_again : (xs : List ℕ) (c i : ℕ) → is_member nat_eq xs c ≡ true → is_member nat_eq (c ∷ xs) i ≡ is_member nat_eq xs i
member_again xs c i m = go (nat_eq i c) refl
  where
    go : (s : Bool) → nat_eq i c ≡ s → (s || is_member nat_eq xs i) ≡ is_member nat_eq xs i
    go true e = sym (subst (λ k. is_member nat_eq xs k ≡ true) (sym (eqb-true i c e)) m)
    go false e = refl

-- ---- the poll

-- whether these cells are more than half of n
abbrev pub is_more : ℕ → List ℕ → Bool
is_more n xs = nat_lt n (2 * distinct_count nat_eq xs)

-- what a poll over n cells of a tally of ballot b keeps, against the cells that gave the answer and the tell that decided
pub data Stands (n b : ℕ) (given : List ℕ) (decided : Option Heard) (p : Poll) : Type 0 where
  waiting : p.refusal ≡ None → decided ≡ None → Same p.heard given → is_more n given ≡ false → Stands n b given decided p
  won : (d : Heard) → p.refusal ≡ None → decided ≡ Some d → verdict_of b d.tell ≡ Majority → is_member nat_eq given d.cell ≡ true → Same p.heard given → is_more n given ≡ true → Stands n b given decided p
  lost : (d : Heard) (r : Refusal) → p.refusal ≡ Some r → decided ≡ Some d → verdict_of b d.tell ≡ Lost r.promised → d.cell ≡ r.index → SameBut r.index p.heard given → Stands n b given decided p

-- a poll that has heard the given cells has a majority where they are one
majority_is_more : (n : ℕ) (p : Poll) (given : List ℕ) → IsPollOf n p → Same p.heard given → is_majority p ≡ is_more n given
majority_is_more n p given f s =
    rw (f.size, length-from_keys nat_eq_equiv p.heard given f.distinct s) refl

-- its answer is the verdict
pub stands_progress : (n b : ℕ) (given : List ℕ) (decided : Option Heard) (p : Poll) → IsPollOf n p → Stands n b given decided p → progress_of p ≡ verdict b decided
stands_progress n b given decided p f (waiting r d s m) = rw (r, d, majority_is_more n p given f s, m) refl
stands_progress n b given decided p f (won h r d v k s m) = rw (r, d, v, majority_is_more n p given f s, m) refl
stands_progress n b given decided p f (lost h r e d v k s) = rw (e, d, v) refl

-- it has heard those who gave the answer and the one who decided
pub stands_heard : (n b : ℕ) (given : List ℕ) (decided : Option Heard) (p : Poll) (i : ℕ) → Stands n b given decided p → is_heard p i ≡ (is_of i decided || is_member nat_eq given i)
stands_heard n b given decided p i (waiting r d s m) = rw (r, d) (sym (found_flips i p.heard) ∙ s i)
stands_heard n b given decided p i (won h r d v k s m) = rw (r, d) (sym (found_flips i p.heard) ∙ (s i ∙ go (nat_eq h.cell i) refl))
  where
    go : (t : Bool) → nat_eq h.cell i ≡ t → is_member nat_eq given i ≡ (t || is_member nat_eq given i)
    go true e = subst (λ j. is_member nat_eq given j ≡ true) (eqb-true h.cell i e) k
    go false e = refl
stands_heard n b given decided p i (lost h r e d v k s) = rw (e, d, k) (ap (λ t. nat_eq r.index i || t) (sym (found_flips i p.heard)) ∙ s i)

-- one more tell: the cells that gave the answer then, and the tell that decided
abbrev pub given_next : ℕ → Bool → List ℕ → Heard → List ℕ
given_next n awaited given h = cond (nat_lt h.cell n && awaited) (h.cell ∷ given) given

abbrev pub decided_next : ℕ → Bool → List ℕ → Option Heard → Heard → Option Heard
decided_next n awaited given decided h =
    option_or decided (cond ((is_refusal h.tell && (nat_lt h.cell n && not (is_member nat_eq given h.cell))) || is_more n (given_next n awaited given h)) (Some h) None)

-- the ballot that a refusal names
abbrev pub named : ℕ → CellTell → ℕ
named b (Promise w v) = 0
named b (Written c) = 0
named b (Refused promised) = promised
named b TwoValues = b

-- the poll after it
abbrev pub poll_next : Bool → ℕ → Poll → Heard → Poll
poll_next awaited b p h = cond (is_wanted p h.cell) (cond awaited (with_heard p h.cell) (cond (is_refusal h.tell) (with_refusal p h.cell (named b h.tell)) p)) p

-- a tell that changes neither the given cells nor their number, and refuses nothing
stands_same : (n b : ℕ) (given after : List ℕ) (decided : Option Heard) (p : Poll) (x : Option Heard) → Same given after → is_more n after ≡ is_more n given → (is_more n given ≡ false → x ≡ None) → Stands n b given decided p → Stands n b after (option_or decided x) p
stands_same n b given after decided p x s m o (waiting r d k l) =
    waiting r (rw d (o l)) (λ i. k i ∙ s i) (m ∙ l)
stands_same n b given after decided p x s m o (won h r d v t k l) =
    won h r (rw d refl) v (sym (s h.cell) ∙ t) (λ i. k i ∙ s i) (m ∙ l)
stands_same n b given after decided p x s m o (lost h r e d v k t) =
    lost h r e (rw d refl) v k (λ i. t i ∙ ap (λ u. nat_eq r.index i || u) (s i))

-- one cell more in front is no fewer cells
is_more_front : (n : ℕ) (xs : List ℕ) (c : ℕ) → is_more n xs ≡ true → is_more n (c ∷ xs) ≡ true
is_more_front n xs c e = go (is_member nat_eq xs c) refl
  where
    go : (s : Bool) → is_member nat_eq xs c ≡ s → is_more n (c ∷ xs) ≡ true
    go true m = rw m e
    go false m = let more = ltb-true n (2 * distinct_count nat_eq xs) e in rw m (lt-ltb n (2 * suc (distinct_count nat_eq xs)) (omega arith))

is_more_again : (n : ℕ) (xs : List ℕ) (c : ℕ) → is_member nat_eq xs c ≡ true → is_more n (c ∷ xs) ≡ is_more n xs
is_more_again n xs c m = rw m refl

-- where nothing refused, a cell was heard where it gave the answer
heard_given : (p : Poll) (given : List ℕ) (c : ℕ) → p.refusal ≡ None → Same p.heard given → is_heard p c ≡ is_member nat_eq given c
heard_given p given c r s = rw r (sym (found_flips c p.heard) ∙ s c)

-- a tell, by whether its cell is below n, whether it is the awaited answer or a refusal, whether its cell gave the answer
-- before, and whether it was heard before
abbrev After : ℕ → ℕ → List ℕ → Option Heard → Poll → Heard → Bool → Bool → Bool → Bool → Bool → Type 0
After n b given decided p h within awaited refusal member before =
    Stands n b (cond (within && awaited) (h.cell ∷ given) given)
    (option_or decided (cond ((refusal && (within && not member)) || is_more n (cond (within && awaited) (h.cell ∷ given) given)) (Some h) None))
    (cond (within && not before) (cond awaited (with_heard p h.cell) (cond refusal (with_refusal p h.cell (named b h.tell)) p)) p)

decides_none : (h : Heard) (x : Bool) → x ≡ false → cond x (Some h) None ≡ None
decides_none h x e = rw e refl

-- a tell of no cell of the poll
after_outside : (n b : ℕ) (given : List ℕ) (decided : Option Heard) (p : Poll) (h : Heard) (awaited refusal member before : Bool) → Stands n b given decided p → After n b given decided p h false awaited refusal member before
after_outside n b given decided p h awaited refusal member before f =
    stands_same n b given given decided p _ (λ i. refl) refl (λ e. rw (and_right refusal false refl, e) refl) f

-- the awaited answer of a cell that was heard
after_again : (n b : ℕ) (given : List ℕ) (decided : Option Heard) (p : Poll) (h : Heard) (member : Bool) → is_heard p h.cell ≡ true → Stands n b given decided p → After n b given decided p h true true false member true
after_again n b given decided p h member t f = go f
  where
    again : is_member nat_eq given h.cell ≡ true → Stands n b given decided p → After n b given decided p h true true false member true
    again m g =
        stands_same n b given (h.cell ∷ given) decided p _ (λ i. sym (member_again given h.cell i m)) (is_more_again n given h.cell m)
        (λ e. decides_none h (is_more n (h.cell ∷ given)) (is_more_again n given h.cell m ∙ e)) g

    beside : (r : Refusal) → (nat_eq r.index h.cell || is_member nat_eq p.heard h.cell) ≡ true → SameBut r.index p.heard given → SameBut r.index p.heard (h.cell ∷ given)
    beside r k s i = at (nat_eq i h.cell) refl
      where
        at : (u : Bool) → nat_eq i h.cell ≡ u → (nat_eq r.index i || is_member nat_eq p.heard i) ≡ (nat_eq r.index i || (u || is_member nat_eq given i))
        at true e =
            let here = subst (λ j. (nat_eq r.index j || is_member nat_eq p.heard j) ≡ true) (sym (eqb-true i h.cell e)) k in
            here ∙ sym (or_right (nat_eq r.index i) true refl)
        at false e = s i

    go : Stands n b given decided p → After n b given decided p h true true false member true
    go (waiting r d s m) = again (sym (heard_given p given h.cell r s) ∙ t) (waiting r d s m)
    go (won d r e v k s m) = again (sym (heard_given p given h.cell r s) ∙ t) (won d r e v k s m)
    go (lost d r e k v j s) =
        let here : (nat_eq r.index h.cell || is_member nat_eq p.heard h.cell) ≡ true = ap (λ u. nat_eq r.index h.cell || u) (found_flips h.cell p.heard) ∙ (rw e at t) in
        lost d r e (rw k refl) v j (beside r here s)

-- another tell of a cell that was heard
after_repeat : (n b : ℕ) (given : List ℕ) (decided : Option Heard) (p : Poll) (h : Heard) (refusal : Bool) → is_heard p h.cell ≡ true → Stands n b given decided p → After n b given decided p h true false refusal (is_member nat_eq given h.cell) true
after_repeat n b given decided p h refusal t f = go f
  where
    go : Stands n b given decided p → After n b given decided p h true false refusal (is_member nat_eq given h.cell) true
    go (waiting r d s m) =
        let member = sym (heard_given p given h.cell r s) ∙ t in
        stands_same n b given given decided p _ (λ i. refl) refl (λ e. rw (member, and_right refusal false refl, e) refl) (waiting r d s m)
    go (won d r e v k s m) = won d r (rw e refl) v k s m
    go (lost d r e k v j s) = lost d r e (rw k refl) v j s

-- the awaited answer of a cell that was not heard
after_answer : (n b : ℕ) (given : List ℕ) (decided : Option Heard) (p : Poll) (h : Heard) (member : Bool) → verdict_of b h.tell ≡ Majority → Stands n b given decided p → After n b given decided p h true true false member false
after_answer n b given decided p h member v f = go f
  where
    first : nat_eq h.cell h.cell ≡ true
    first = eq-eqb h.cell h.cell refl

    decide : (s : Bool) → is_more n (h.cell ∷ given) ≡ s → p.refusal ≡ None → decided ≡ None → Same p.heard given → Stands n b (h.cell ∷ given) (option_or decided (cond s (Some h) None)) (with_heard p h.cell)
    decide true e r d s = won h r (rw d refl) v (rw first refl) (same_push p.heard given h.cell s) e
    decide false e r d s = waiting r (rw d refl) (same_push p.heard given h.cell s) e

    go : Stands n b given decided p → After n b given decided p h true true false member false
    go (waiting r d s m) = decide (is_more n (h.cell ∷ given)) refl r d s
    go (won d r e w k s m) =
        won d r (rw e refl) w (or_right (nat_eq d.cell h.cell) (is_member nat_eq given d.cell) k) (same_push p.heard given h.cell s) (is_more_front n given h.cell m)
    go (lost d r e k w j s) = lost d r e (rw k refl) w j (same_but_push r.index p.heard given h.cell s)

refusal_ends : (p : Poll) (i promised : ℕ) → progress_of p ≡ Waiting → with_refusal p i promised ≡ record { cells = p.cells; heard = p.heard; refusal = Some (record { index = i; promised = promised }) }
refusal_ends p i promised e = ap (λ g. refused_at g p i promised) e

majority_stays : (p : Poll) (i promised : ℕ) → progress_of p ≡ Majority → with_refusal p i promised ≡ p
majority_stays p i promised e = ap (λ g. refused_at g p i promised) e

lost_stays : (p : Poll) (i promised b : ℕ) → progress_of p ≡ Lost b → with_refusal p i promised ≡ p
lost_stays p i promised b e = ap (λ g. refused_at g p i promised) e

-- a refusal of a cell that was not heard
after_refusal : (n b : ℕ) (given : List ℕ) (decided : Option Heard) (p : Poll) (h : Heard) → IsPollOf n p → is_heard p h.cell ≡ false → verdict_of b h.tell ≡ Lost (named b h.tell) → Stands n b given decided p → After n b given decided p h true false true (is_member nat_eq given h.cell) false
after_refusal n b given decided p h o t v f = go f
  where
    answered : progress_of p ≡ verdict b decided
    answered = stands_progress n b given decided p o f

    go : Stands n b given decided p → After n b given decided p h true false true (is_member nat_eq given h.cell) false
    go (waiting r d s m) =
        let waits : progress_of p ≡ Waiting = answered ∙ ap (verdict b) d in
        let member = sym (heard_given p given h.cell r s) ∙ t in
        rw (refusal_ends p h.cell (named b h.tell) waits, member, d)
        (lost h (record { index = h.cell; promised = named b h.tell }) refl refl v refl (λ i. ap (λ u. nat_eq h.cell i || u) (s i)))
    go (won d r e w k s m) =
        let has : progress_of p ≡ Majority = answered ∙ (ap (verdict b) e ∙ w) in
        rw (majority_stays p h.cell (named b h.tell) has) (won d r (rw e refl) w k s m)
    go (lost d r e k w j s) =
        let has : progress_of p ≡ Lost r.promised = answered ∙ (ap (verdict b) k ∙ w) in
        rw (lost_stays p h.cell (named b h.tell) r.promised has) (lost d r e (rw k refl) w j s)

-- any other tell of a cell that was not heard
after_other : (n b : ℕ) (given : List ℕ) (decided : Option Heard) (p : Poll) (h : Heard) (member : Bool) → Stands n b given decided p → After n b given decided p h true false false member false
after_other n b given decided p h member f =
    stands_same n b given given decided p _ (λ i. refl) refl (λ e. rw e refl) f

-- what the awaited answer and a refusal are
pub record IsSound (b : ℕ) (awaited : Bool) (t : CellTell) : Type 0 where
  pub no_refusal : awaited ≡ true → is_refusal t ≡ false
  pub answers : awaited ≡ true → verdict_of b t ≡ Majority
  pub names : is_refusal t ≡ true → verdict_of b t ≡ Lost (named b t)

pub stands_next : (n b : ℕ) (given : List ℕ) (decided : Option Heard) (p : Poll) (h : Heard) (awaited : Bool) → IsSound b awaited h.tell → IsPollOf n p → Stands n b given decided p → Stands n b (given_next n awaited given h) (decided_next n awaited given decided h) (poll_next awaited b p h)
stands_next n b given decided p h awaited sound o f =
    subst (λ k. Stands n b (given_next n awaited given h) (decided_next n awaited given decided h) (cond (nat_lt h.cell k && not (is_heard p h.cell)) (cond awaited (with_heard p h.cell) (cond (is_refusal h.tell) (with_refusal p h.cell (named b h.tell)) p)) p))
    (sym o.size) (go (nat_lt h.cell n) awaited refl (is_refusal h.tell) refl (is_heard p h.cell) refl)
  where
    go : (l a : Bool) → awaited ≡ a → (r : Bool) → is_refusal h.tell ≡ r → (t : Bool) → is_heard p h.cell ≡ t → After n b given decided p h l a r (is_member nat_eq given h.cell) t
    go false a ea r er t et = after_outside n b given decided p h a r (is_member nat_eq given h.cell) t f
    go true true ea true er t et = let k = sym er ∙ sound.no_refusal ea in absurd (cc)
    go true true ea false er true et = after_again n b given decided p h (is_member nat_eq given h.cell) et f
    go true true ea false er false et = after_answer n b given decided p h (is_member nat_eq given h.cell) (sound.answers ea) f
    go true false ea r er true et = after_repeat n b given decided p h r et f
    go true false ea true er false et = after_refusal n b given decided p h o et (sound.names er) f
    go true false ea false er false et = after_other n b given decided p h (is_member nat_eq given h.cell) f

pub next_poll_of : (n b : ℕ) (p : Poll) (h : Heard) (awaited : Bool) → IsPollOf n p → IsPollOf n (poll_next awaited b p h)
next_poll_of n b p h awaited o = go (is_wanted p h.cell) refl awaited (is_refusal h.tell)
  where
    go : (w : Bool) → is_wanted p h.cell ≡ w → (a r : Bool) → IsPollOf n (cond w (cond a (with_heard p h.cell) (cond r (with_refusal p h.cell (named b h.tell)) p)) p)
    go true e true r = heard_poll_of n p h.cell e o
    go true e false true = refused_poll_of n p h.cell (named b h.tell) o
    go true e false false = o
    go false e a r = o
