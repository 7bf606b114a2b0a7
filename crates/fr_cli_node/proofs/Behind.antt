-- A log's asks as one group: where it stands behind each of them, and what they are told.
use Rattle.std.proofs.Common.{refl, sym, subst, ap, ◌∙◌, arith}
use Rattle.std.proofs.lemmas.Bool.{ltb-true, ltb-false}
use Rattle.std.specs.Prelude.{ℕ, Bool, true, false, ◌≡◌, ◌<◌, ◌≤◌, nat_lt, max, fold, is_some, List, [], ◌∷◌, ◌++◌, Option, None, Some, Result, Ok, Err, IfOk}
use Rattle.std.specs.List.{list_any}
use Rattle.fr_ask.specs.Named.{last_of_log}
use Rattle.fr_ask.specs.declared.ask.Ask.{Ask}
use Rattle.fr_ask.specs.declared.ask.Ask.TheVariants as ask
use Rattle.fr_ask.specs.declared.last.Last.{Last}
use Rattle.fr_ask.specs.declared.last.Last.TheVariants as last
use Rattle.fr_ask.specs.declared.tell.Tell.{Tell}
use Rattle.fr_ask.specs.declared.tell.Tell.TheVariants as tell
use Rattle.fr_log.specs.Law.{NewPushRaises, OnePushIsSame, is_newly_held}
use Rattle.fr_log.specs.Left.{left_push}
use Rattle.fr_log.specs.LogState.{LogState, durable_of, known_of, is_push_held}
use Rattle.fr_log.specs.Push.{PushContent, IsPush, is_one_push}
use Rattle.fr_log.specs.Refusal.{refusal_of, push_refusal}
use Rattle.fr_log.specs.Step.{answer_of, next_of, after_ask, next_unless}
use Rattle.fr_log.specs.StepLaws.{granted, told_granted}
use Rattle.fr_log.specs.declared.ask.LogAsk.{LogAsk}
use Rattle.fr_log.specs.declared.ask.LogAsk.TheVariants.{Seed, Push, Lock, Peek, MarkAsked, Pop}
use Rattle.fr_log.specs.declared.ask.LogRefusal.{LogRefusal}
use Rattle.fr_log.specs.declared.ask.LogTell.{LogTell}
use Rattle.fr_log.specs.declared.ask.LogTell.TheVariants.{Held, Refused}
use Rattle.fr_node.specs.Groups as groups
use Rattle.fr_record_node.specs.Several as several
use Rattle.fr_cli_node.specs.Together.{IsGroupedPush, grouped, came_to, owned_log, raised, last_behind_log}

pub same-told : {M A T : Type 0} (after : M → A → M) (told : M → A → T) (m : M) (asks : List A) → several.told_all after told m asks ≡ groups.told_all after told m asks
same-told after told m [] = refl
same-told after told m (a ∷ asks) = ap (λ rest. told m a ∷ rest) (same-told after told (after m a) asks)

-- ---- a push that is held lies no higher than what is held

from-low : (b : ℕ) (qs : List PushContent) → b ≤ fold (λ v q. max v q.version) b qs
from-low b [] = omega arith
from-low b (q ∷ qs) = let r = from-low (max b q.version) qs in omega (arith, r)

any-low : (f : PushContent → Bool) (v b : ℕ) (qs : List PushContent) → ((q : PushContent) → f q ≡ true → v ≡ q.version) → list_any f qs ≡ true → v ≤ fold (λ w q. max w q.version) b qs
any-low f v b [] same e = absurd (cc e)
any-low f v b (q ∷ qs) same e = go (f q) refl (any-low f v (max b q.version) qs same)
  where
    go : (s : Bool) → f q ≡ s → (list_any f qs ≡ true → v ≤ fold (λ w x. max w x.version) (max b q.version) qs)
        → v ≤ fold (λ w x. max w x.version) (max b q.version) qs
    go true h rest = let is = same q h in let r = from-low (max b q.version) qs in omega (arith, is, r)
    go false h rest = rest (sym (rw h refl) ∙ e)

held-low : OnePushIsSame → (s : LogState) (p : PushContent) → is_push_held s p ≡ true → p.version ≤ durable_of s
held-low one s p h =
    any-low (λ q. is_one_push (left_push s.popped p) (left_push s.popped q)) p.version _ s.pushes
    (λ q is. ((one (left_push s.popped p) (left_push s.popped q)).0 is).version) h

-- ---- a log's state behind an ask

stay : (o : Option LogRefusal) (s : LogState) → next_unless o s s ≡ s
stay None s = refl
stay (Some why) s = refl

low-lt : (a b : ℕ) → b ≤ a → nat_lt a b ≡ false
low-lt a b h = go (nat_lt a b) refl
  where
    go : (s : Bool) → nat_lt a b ≡ s → nat_lt a b ≡ false
    go true e = absurd (omega (arith, ltb-true a b e, h))
    go false e = e

high-lt : (a b : ℕ) → a < b → nat_lt a b ≡ true
high-lt a b h = go (nat_lt a b) refl
  where
    go : (s : Bool) → nat_lt a b ≡ s → nat_lt a b ≡ true
    go true e = e
    go false e = absurd (omega (arith, ltb-false a b e, h))

push-is : NewPushRaises → OnePushIsSame → (s : LogState) (p : PushContent) → IsPush p → raised (last_of_log s) p (answer_of s (Push p)) ≡ last_of_log (after_ask s (Push p))
push-is raises one s p sound = go (refusal_of s (Push p)) refl
  where
    -- what a tell makes of it, and where the log is then
    from : (t : LogTell) (n : LogState) → answer_of s (Push p) ≡ t → next_of s (Push p) ≡ n → raised (last_of_log s) p t ≡ last_of_log n
        → raised (last_of_log s) p (answer_of s (Push p)) ≡ last_of_log (after_ask s (Push p))
    from t n told next is = ap (raised (last_of_log s) p) told ∙ (is ∙ ap last_of_log (sym next))

    held : (b : Bool) → is_push_held s p ≡ b → refusal_of s (Push p) ≡ None → raised (last_of_log s) p (answer_of s (Push p)) ≡ last_of_log (after_ask s (Push p))
    held true h k =
        let low : nat_lt (durable_of s) p.version ≡ false = low-lt (durable_of s) p.version (held-low one s p h) in
        from (Held p.version) s (told_granted s (Push p) k) (granted s (Push p) k ∙ rw h refl) (rw low refl)
    held false h k =
        let n : LogState = record s { pushes = s.pushes ++ p ∷ [] } in
        let next : next_of s (Push p) ≡ n = granted s (Push p) k ∙ rw h refl in
        let r = raises s p sound (newly k h) in
        let d : durable_of n ≡ p.version = ap durable_of (sym next) ∙ r.durable in
        let kn : known_of n ≡ max (known_of s) p.known = ap known_of (sym next) ∙ r.known in
        let high : nat_lt (durable_of s) p.version ≡ true = high-lt (durable_of s) p.version (let f = r.follows in omega (arith, f, sound.rises)) in
        from (Held p.version) n (told_granted s (Push p) k) next (rw high (behind n d kn))
      where
        newly : push_refusal s p ≡ None → is_push_held s p ≡ false → is_newly_held s (Push p) ≡ true
        newly k h = rw (k, h) refl

        behind : (n : LogState) → durable_of n ≡ p.version → known_of n ≡ max (known_of s) p.known
            → last.Log (is_some s.seed) p.version (max (known_of s) p.known) s.stopped s.popped ≡ last.Log (is_some s.seed) (durable_of n) (known_of n) s.stopped s.popped
        behind n d k = rw (d, k) refl

    go : (o : Option LogRefusal) → refusal_of s (Push p) ≡ o → raised (last_of_log s) p (answer_of s (Push p)) ≡ last_of_log (after_ask s (Push p))
    go (Some why) k = from (Refused why) s (rw k refl) (rw k refl) refl
    go None k = held (is_push_held s p) refl k

pub behind-is : NewPushRaises → OnePushIsSame → (s : LogState) (a b : LogAsk) → grouped a ≡ Some b → IsGroupedPush a
    → last_behind_log (last_of_log s) a (answer_of s a) ≡ last_of_log (after_ask s a)
behind-is raises one s (Seed x) b e sound = absurd (cc e)
behind-is raises one s (Push p) b e sound = push-is raises one s p sound
behind-is raises one s (Lock epoch) b e sound = absurd (cc e)
behind-is raises one s (Peek epoch tag after most) b e sound = ap last_of_log (sym (stay (refusal_of s (Peek epoch tag after most)) s))
behind-is raises one s (MarkAsked epoch) b e sound = ap last_of_log (sym (stay (refusal_of s (MarkAsked epoch)) s))
behind-is raises one s (Pop epoch tag through) b e sound = absurd (cc e)

-- what stands in groups is the ask itself
pub grouped-itself : (a b : LogAsk) → grouped a ≡ Some b → a ≡ b
grouped-itself (Seed x) b e = absurd (cc e)
grouped-itself (Push p) b e = cc e
grouped-itself (Lock epoch) b e = absurd (cc e)
grouped-itself (Peek epoch tag after most) b e = cc e
grouped-itself (MarkAsked epoch) b e = cc e
grouped-itself (Pop epoch tag through) b e = absurd (cc e)

-- a log's state behind an ask that stands in groups, from what that was told
pub last-behind : NewPushRaises → OnePushIsSame → (l : Last) (asked : Ask) (told : Tell) (a : LogAsk) (t : LogTell) (s : LogState) (own : LogAsk)
    → asked ≡ ask.Log a → told ≡ tell.Log t → IsGroupedPush a → l ≡ last_of_log s → owned_log asked ≡ Some own → told ≡ tell.Log (answer_of s own)
    → last_behind_log l a t ≡ last_of_log (after_ask s own)
last-behind raises one l asked told a t s own is tells sound stands owns says =
    let g : grouped a ≡ Some own = ap owned_log (sym is) ∙ owns in
    let same : own ≡ a = sym (grouped-itself a own g) in
    let one_tell : tell.Log t ≡ tell.Log (answer_of s own) = sym tells ∙ says in
    let said : t ≡ answer_of s a = cc one_tell ∙ ap (answer_of s) same in
    ap (λ (x : Last). last_behind_log x a t) stands ∙ (ap (last_behind_log (last_of_log s) a) said ∙ (behind-is raises one s a own g sound ∙ ap (λ (x : LogAsk). last_of_log (after_ask s x)) (sym same)))

pub last-if : {E : Type 0} → NewPushRaises → OnePushIsSame → (l : Last) (asked : Ask) (told : Tell) (a : LogAsk) (t : LogTell) (r : Result Last E)
    → asked ≡ ask.Log a → told ≡ tell.Log t → IfOk r (λ later. later ≡ last_behind_log l a t) → IfOk r (λ later. IsGroupedPush a)
    → IfOk r (λ later. (s : LogState) (own : LogAsk) → l ≡ last_of_log s → owned_log asked ≡ Some own → told ≡ tell.Log (answer_of s own) → later ≡ last_of_log (after_ask s own))
last-if raises one l asked told a t (Ok later) is tells behind sound = λ s own stands owns says. behind ∙ last-behind raises one l asked told a t s own is tells sound stands owns says
last-if raises one l asked told a t (Err e) is tells behind sound = tt
