-- A log that lets go what a pop covers, at each ask: it is what the log that lets nothing go would leave.
use Rattle.std.proofs.Common.{◌≡◌, ℕ, ◌<◌, ◌≤◌, Bool, true, false, cond, not, nat_lt, ◌&&◌, ◌==◌, map, filter, List, [], ◌∷◌, ◌++◌, Option, None, Some, refl, sym, ◌∙◌, ap, arith}
use Rattle.std.specs.Prelude.{is_none, is_some}
use Rattle.std.specs.List.{list_all}
use Rattle.std.specs.Option.{option_map, unwrap_or}
use Rattle.std.proofs.lemmas.Bool.{and_from, and_parts, eq-eqb, eqb-true, lt-ltb}
use Rattle.std.proofs.lemmas.List.{map-append}
use Rattle.fr_tags.specs.declared.body.Body.{Body}
use Rattle.fr_log.specs.declared.ask.LogAsk.{LogAsk}
use Rattle.fr_log.specs.declared.ask.LogAsk.TheVariants.{Seed, Push, Pop}
use Rattle.fr_log.specs.declared.popped.PoppedTag.{PoppedTag}
use Rattle.fr_log.specs.declared.records.SeedRecord.{SeedRecord}
use Rattle.fr_log.specs.Fields.{two}
use Rattle.fr_log.specs.Seed.{SeedContent}
use Rattle.fr_log.specs.Push.{PushContent}
use Rattle.fr_log.specs.Left.{popped_at, raised, left_push, is_left, left_seed}
use Rattle.fr_log.specs.LogState.{LogState, swept, known_of}
use Rattle.fr_log.specs.Change.{with_seed, with_push, with_stop, IsFirst, IsNext, IsFurther, LogChange, Stands, Seeds, Holds, Stops, Pops}
use Rattle.fr_log.specs.Step.{next_of, after_ask, lets_go, popped_to}
use Rattle.fr_log.specs.Law.{AskIsChange, PushAdds, RaisedIs}

-- ---- what is popped is known

-- of a log no tag is popped above what it knows, and none before it has its seed
pub record IsPoppedLow (l : LogState) : Type 0 where
  pub low : (tag : ℕ) → popped_at l.popped tag ≤ known_of l
  pub unseeded : l.seed ≡ None → l.popped ≡ []

pub none_popped : (l : LogState) → l.popped ≡ [] → IsPoppedLow l
none_popped l none = record {
  low = λ tag. let e = ap (λ ps. popped_at ps tag) none in omega (arith, e);
  unseeded = λ e. none;
}

-- it stays so at each ask
pub popped_low_on : AskIsChange → PushAdds → RaisedIs → (l : LogState) (a : LogAsk) → IsPoppedLow l → IsPoppedLow (next_of l a)
popped_low_on changes adds raises l a k = go (next_of l a) (changes l a)
  where
    seeded : (o : Option SeedContent) → l.seed ≡ o → is_some o ≡ true → l.seed ≡ None → ⊥
    seeded None e some none = absurd (cc)
    seeded (Some s) e some none = let d : Some s ≡ None = sym e ∙ none in absurd (cc)

    popped : (tag through : ℕ) → (t : ℕ) → (b : Bool) → (t == tag) ≡ b → popped_at (raised l.popped tag (popped_to l tag through)) t ≤ known_of l
    popped tag through t true at =
        let here : popped_at (raised l.popped tag (popped_to l tag through)) t ≡ popped_to l tag through =
        ap (popped_at (raised l.popped tag (popped_to l tag through))) (eqb-true t tag at) ∙ ap (λ o. unwrap_or o 0) (raises l.popped tag (popped_to l tag through)).here in
        let low = k.low tag in
        omega (arith, here, low)
    popped tag through t false at =
        let other : popped_at (raised l.popped tag (popped_to l tag through)) t ≡ popped_at l.popped t =
        ap (λ o. unwrap_or o 0) ((raises l.popped tag (popped_to l tag through)).others t (λ same. (let d : false ≡ true = sym at ∙ eq-eqb t tag same in absurd (cc)))) in
        let low = k.low t in
        omega (arith, other, low)

    go : (n : LogState) → LogChange l a n → IsPoppedLow n
    go n Stands = k
    go n (Seeds s at first) =
        let none = k.unseeded first.unseeded in
        record { low = λ tag. (let e = ap (λ ps. popped_at ps tag) none in omega (arith, e)); unseeded = λ e. none }
    go n (Holds p at next) = record {
      low = λ tag. (let low = k.low tag in let more = (adds l p).known in omega (arith, low, more));
      unseeded = k.unseeded;
    }
    go n (Stops at some) = record { low = k.low; unseeded = k.unseeded }
    go n (Pops tag through at further) = record { low = λ t. popped tag through t (t == tag) refl; unseeded = λ none. absurd (seeded l.seed refl further.seeded none) }

-- ---- what is left whole

all_left : {X : Type 0} (p : X → Bool) (xs : List X) → list_all p xs ≡ true → filter p xs ≡ xs
all_left p [] h = refl
all_left p (x ∷ xs) h =
    let parts = and_parts (p x) (list_all p xs) h in
    rw parts.0 (ap (λ ys. x ∷ ys) (all_left p xs parts.1))

-- a push above all that is popped is left whole
all_above : (ps : List PoppedTag) (v : ℕ) (bs : List Body) → ((t : ℕ) → popped_at ps t < v) → list_all (λ b. nat_lt (popped_at ps b.tag) v) bs ≡ true
all_above ps v [] low = refl
all_above ps v (b ∷ bs) low =
    and_from (nat_lt (popped_at ps b.tag) v) (list_all (λ x. nat_lt (popped_at ps x.tag) v) bs) (lt-ltb (popped_at ps b.tag) v (low b.tag)) (all_above ps v bs low)

push_left : (ps : List PoppedTag) (p : PushContent) → ((t : ℕ) → popped_at ps t < p.version) → left_push ps p ≡ p
push_left ps p low = ap (λ bs. record p { bodies = bs }) (all_left (λ b. nat_lt (popped_at ps b.tag) p.version) p.bodies (all_above ps p.version p.bodies low))

-- a seed whose records are of versions from 1 on is left whole while nothing is popped
abbrev pub AreFromOne : List SeedRecord → Type 0
AreFromOne [] = Unit {0}
AreFromOne (r ∷ rs) = (0 < r.version) × AreFromOne rs

from_one : (rs : List SeedRecord) → AreFromOne rs → list_all (is_left []) rs ≡ true
from_one [] k = refl
from_one (r ∷ rs) (low, k) = and_from (is_left [] r) (list_all (is_left []) rs) (lt-ltb 0 r.version low) (from_one rs k)

seed_left : (s : SeedContent) → AreFromOne s.records → left_seed [] s ≡ s
seed_left s k = ap (λ rs. record s { records = rs }) (all_left (is_left []) s.records (from_one s.records k))

-- ---- one ask

-- what is asked of a log that let go: a first seed has versions from 1 on, and comes before anything is popped or pushed; a new push is above all that is popped
pub record IsWhole (l : LogState) (a : LogAsk) : Type 0 where
  pub seed : (s : SeedContent) → a ≡ Seed s → IsFirst l s → AreFromOne s.records × (l.popped ≡ []) × (l.pushes ≡ [])
  pub push : (p : PushContent) → a ≡ Push p → IsNext l p → (t : ℕ) → popped_at l.popped t < p.version

settled_seed : (l : LogState) → swept l ≡ l → option_map (left_seed l.popped) l.seed ≡ l.seed
unfolding swept
settled_seed l e = ap (λ (n : LogState). n.seed) e

settled_pushes : (l : LogState) → swept l ≡ l → map (left_push l.popped) l.pushes ≡ l.pushes
unfolding swept
settled_pushes l e = ap (λ (n : LogState). n.pushes) e

seed_stays : (l : LogState) (s : SeedContent) → AreFromOne s.records → l.popped ≡ [] → l.pushes ≡ [] → swept (with_seed l s) ≡ with_seed l s
unfolding swept
seed_stays l s low none empty =
    two (λ (seed : Option SeedContent) (pushes : List PushContent). record l { seed = seed; pushes = pushes })
    (ap (λ ps. Some (left_seed ps s)) none ∙ ap Some (seed_left s low)) (ap (map (left_push l.popped)) empty ∙ sym empty)

push_stays : (l : LogState) (p : PushContent) → swept l ≡ l → ((t : ℕ) → popped_at l.popped t < p.version) → swept (with_push l p) ≡ with_push l p
unfolding swept
push_stays l p settled low =
    two (λ (s : Option SeedContent) (ps : List PushContent). record l { seed = s; pushes = ps }) (settled_seed l settled)
    (map-append (left_push l.popped) l.pushes (p ∷ []) ∙ two (λ (xs : List PushContent) (y : PushContent). xs ++ y ∷ []) (settled_pushes l settled) (push_left l.popped p low))

stop_stays : (l : LogState) → swept l ≡ l → swept (with_stop l) ≡ with_stop l
unfolding swept
stop_stays l settled = two (λ (s : Option SeedContent) (ps : List PushContent). record l { seed = s; pushes = ps; stopped = true }) (settled_seed l settled) (settled_pushes l settled)

-- a pop that comes further lets go
further_lets_go : (l : LogState) (tag through : ℕ) → IsFurther l tag through → lets_go l (Pop l.epoch tag through) ≡ true
further_lets_go l tag through k = two (λ (a b : Bool). a && not b) (ap is_none k.granted) k.further

-- so after each ask a log that let go is what is left of what it would be
pub lets_go_at_once : AskIsChange → (l : LogState) (a : LogAsk) → swept l ≡ l → IsWhole l a → after_ask l a ≡ swept (next_of l a)
lets_go_at_once changes l a settled whole = go (lets_go l a) refl
  where
    stays : lets_go l a ≡ false → (n : LogState) → LogChange l a n → n ≡ swept n
    stays kept n Stands = sym settled
    stays kept n (Seeds s at first) = (let k = whole.seed s at first in sym (seed_stays l s k.0 k.1 k.2))
    stays kept n (Holds p at next) = sym (push_stays l p settled (whole.push p at next))
    stays kept n (Stops at some) = sym (stop_stays l settled)
    stays kept n (Pops tag through at further) = (let d : false ≡ true = sym kept ∙ ap (lets_go l) at ∙ further_lets_go l tag through further in absurd (cc))

    go : (b : Bool) → lets_go l a ≡ b → cond b (swept (next_of l a)) (next_of l a) ≡ swept (next_of l a)
    go true e = refl
    go false e = stays e (next_of l a) (changes l a)
