-- What turns did is found under the keys, as places are entered and turns added.
use Rattle.std.proofs.Common.{◌≡◌, ◌<◌, ◌≤◌, ◌+◌, ◌-◌, ℕ, zero, suc, Bool, true, false, ◌||◌, List, [], ◌∷◌, ◌++◌, ◌⊎◌, inl, inr, Option, None, Some, refl, sym, ◌∙◌, ap, subst, length, take, drop, arith, length-append, length-drop}
use Rattle.std.specs.Prelude.{slice_get, IfSome, OnOk, Result, Ok, Err}
use Rattle.std.specs.List.{list_any}
use Rattle.std.proofs.lemmas.Bool.{and_parts, or_left, or_right}
use Rattle.fr_base.specs.Node.{is_same_node, is_same_node-IsSameness}
use Rattle.fr_base.specs.declared.place.NodeId.{NodeId}
use Rattle.fr_ask.specs.Same.{is_same_ask, is_same_ask-IsSameness}
use Rattle.fr_ask.specs.declared.ask.Ask.{Ask}
use Rattle.fr_run.specs.Turn as history
use Rattle.fr_run.specs.Turn.{Sending, actor_of, asks_of}
use Rattle.fr_run.specs.Tests.{goes, gives, is_sending, tells}
use Rattle.fr_world_turns.specs.Finding.{at_place, some_under, AreFound, AreGoneFound, AsksAreFound, GoneIsFound, IsFound, TellIsFound}
use Rattle.fr_world_turns.specs.Keys.{gone_key, ask_key, tell_key, told_key}
use Rattle.fr_world_turns.specs.Places.{Key, Places, Grows, IsUnder, passes, under}
use Rattle.fr_world_turns.specs.Turns.{turn_of, history_of, retells}
use Rattle.fr_world_turns.specs.declared.turn.Turn.{Turn}
use Rattle.fr_world_turns.specs.declared.turn.Turn.TheVariants as code
use Rattle.fr_world_turns.proofs.Histories.{any_turn}
use Rattle.fr_world_turns.proofs.Lists.{any_weaker, at_later, found_or_behind}
use Rattle.fr_world_turns.proofs.Repeats.{retold, told_key_is}

-- ---- finding

-- where what the first turns did is found, a test is answered by the places under its key and by the turns behind
pub found_in_history : (p : history.Turn → Bool) (turns : List Turn) (n : ℕ) (m : Places) (k : Key) → ((i : ℕ) (t : Turn) → i < n → slice_get turns i ≡ Some t → p (turn_of t) ≡ true → some_under turns m p k ≡ true)
    → (some_under turns m p k || list_any (λ t. p (turn_of t)) (drop n turns)) ≡ list_any p (history_of turns)
found_in_history p turns n m k h = found_or_behind (λ t. p (turn_of t)) turns n (under m k) h ∙ sym (any_turn p turns)

-- ---- more places, more turns

gone_later : (turns : List Turn) (m n : Places) (t : history.Turn) → Grows m n → GoneIsFound turns m t → GoneIsFound turns n t
gone_later turns m n t grows f who e = grows (gone_key who) (at_place turns (goes who)) (f who e)

asks_later : (turns : List Turn) (m n : Places) (t : history.Turn) → Grows m n → AsksAreFound turns m t → AsksAreFound turns n t
asks_later turns m n t grows f from to a e = grows (ask_key from to a) (at_place turns (gives from to a)) (f from to a e)

tell_later : (turns : List Turn) (m n : Places) (t : history.Turn) → Grows m n → TellIsFound turns m t → TellIsFound turns n t
tell_later turns m n t grows f by to x e = grows (tell_key by to x) (at_place turns (tells by to x)) (f by to x e)

pub found_later : (turns : List Turn) (m n : Places) (t : history.Turn) → Grows m n → IsFound turns m t → IsFound turns n t
found_later turns m n t grows f = record { asks = asks_later turns m n t grows f.asks; tell = tell_later turns m n t grows f.tell }

-- the two parts, each entered after the other
pub all_found : (turns : List Turn) (b c : Places) (t : history.Turn) → AsksAreFound turns b t → Grows b c → TellIsFound turns c t → IsFound turns c t
all_found turns b c t asks bc tell = record { asks = asks_later turns b c t bc asks; tell = tell }

found_pushed : (turns : List Turn) (y : Turn) (m : Places) (t : history.Turn) → IsFound turns m t → IsFound (turns ++ (y ∷ [])) m t
found_pushed turns y m t f = record {
  asks = λ from to a e. any_weaker (at_place turns (gives from to a)) (at_place (turns ++ (y ∷ [])) (gives from to a)) (at_later (λ t. gives from to a (turn_of t)) turns y) (under m (ask_key from to a)) (f.asks from to a e);
  tell = λ by to x e. any_weaker (at_place turns (tells by to x)) (at_place (turns ++ (y ∷ [])) (tells by to x)) (at_later (λ t. tells by to x (turn_of t)) turns y) (under m (tell_key by to x)) (f.tell by to x e);
}

gone_pushed : (turns : List Turn) (y : Turn) (m : Places) (t : history.Turn) → GoneIsFound turns m t → GoneIsFound (turns ++ (y ∷ [])) m t
gone_pushed turns y m t f who e = any_weaker (at_place turns (goes who)) (at_place (turns ++ (y ∷ [])) (goes who)) (at_later (λ t. goes who (turn_of t)) turns y) (under m (gone_key who)) (f who e)

front : {X : Type 0} (xs : List X) (y : X) (i : ℕ) (x : X) → i < length xs → slice_get (xs ++ (y ∷ [])) i ≡ Some x → slice_get xs i ≡ Some x
front [] y i x l e = absurd (let k : ⊥ = omega (arith, l) in k)
front (z ∷ xs) y zero x l e = e
front (z ∷ xs) y (suc i) x l e = front xs y i x (omega (arith, l)) e

pub are_pushed : (turns : List Turn) (y : Turn) (n : ℕ) (m : Places) → AreFound turns n m → AreFound (turns ++ (y ∷ [])) n m
are_pushed turns y n m all = record {
  within = (let e : length (turns ++ (y ∷ [])) ≡ length turns + 1 = length-append turns (y ∷ []) in omega (arith, e, all.within));
  each = λ i t l is. found_pushed turns y m (turn_of t) (all.each i t l (front turns y i t (omega (arith, l, all.within)) is));
}

pub gone_are_pushed : (turns : List Turn) (y : Turn) (n : ℕ) (m : Places) → AreGoneFound turns n m → AreGoneFound (turns ++ (y ∷ [])) n m
gone_are_pushed turns y n m all = record {
  within = (let e : length (turns ++ (y ∷ [])) ≡ length turns + 1 = length-append turns (y ∷ []) in omega (arith, e, all.within));
  each = λ i t l is. gone_pushed turns y m (turn_of t) (all.each i t l (front turns y i t (omega (arith, l, all.within)) is));
}

pub none_found : (m : Places) → AreFound [] 0 m
none_found m = record { within = omega arith; each = λ i t l is. absurd (let k : ⊥ = omega (arith, l) in k) }

last_or_before : (i n : ℕ) → i < n + 1 → (i < n) ⊎ (i ≡ n)
last_or_before zero zero l = inr refl
last_or_before zero (suc n) l = inl (omega arith)
last_or_before (suc i) zero l = absurd (let k : ⊥ = omega (arith, l) in k)
last_or_before (suc i) (suc n) l = elim (last_or_before i n (omega (arith, l))) [
  | inl k ↦ inl (omega (arith, k))
  | inr k ↦ inr (ap suc k)
]

-- one turn more is found
pub are_entered : (turns : List Turn) (n : ℕ) (m later : Places) → AreFound turns n m → Grows m later → n < length turns → IfSome (slice_get turns n) (λ t. IsFound turns later (turn_of t)) → AreFound turns (n + 1) later
are_entered turns n m later all grows l one = record { within = omega (arith, l); each = each }
  where
    here : (o : Option Turn) (t : Turn) → o ≡ Some t → IfSome o (λ t. IsFound turns later (turn_of t)) → IsFound turns later (turn_of t)
    here None t e f = absurd (cc)
    here (Some u) t e f = (let k : u ≡ t = cc in subst (λ v. IsFound turns later (turn_of v)) k f)

    each : (i : ℕ) (t : Turn) → i < n + 1 → slice_get turns i ≡ Some t → IsFound turns later (turn_of t)
    each i t b is = elim (last_or_before i n b) [
      | inl k ↦ found_later turns m later (turn_of t) grows (all.each i t k is)
      | inr k ↦ here (slice_get turns n) t (subst (λ j. slice_get turns j ≡ Some t) k is) one
    ]

pub are_found_later : (turns : List Turn) (n : ℕ) (m later : Places) → AreFound turns n m → Grows m later → AreFound turns n later
are_found_later turns n m later all grows = record { within = all.within; each = λ i t l is. found_later turns m later (turn_of t) grows (all.each i t l is) }

-- one turn more has its node that went found
pub gone_are_entered : (turns : List Turn) (n : ℕ) (m later : Places) → AreGoneFound turns n m → Grows m later → n < length turns → IfSome (slice_get turns n) (λ t. GoneIsFound turns later (turn_of t)) → AreGoneFound turns (n + 1) later
gone_are_entered turns n m later all grows l one = record { within = omega (arith, l); each = each }
  where
    here : (o : Option Turn) (t : Turn) → o ≡ Some t → IfSome o (λ t. GoneIsFound turns later (turn_of t)) → GoneIsFound turns later (turn_of t)
    here None t e f = absurd (cc)
    here (Some u) t e f = (let k : u ≡ t = cc in subst (λ v. GoneIsFound turns later (turn_of v)) k f)

    each : (i : ℕ) (t : Turn) → i < n + 1 → slice_get turns i ≡ Some t → GoneIsFound turns later (turn_of t)
    each i t b is = elim (last_or_before i n b) [
      | inl k ↦ gone_later turns m later (turn_of t) grows (all.each i t k is)
      | inr k ↦ here (slice_get turns n) t (subst (λ j. slice_get turns j ≡ Some t) k is) one
    ]

pub gone_are_found_later : (turns : List Turn) (n : ℕ) (m later : Places) → AreGoneFound turns n m → Grows m later → AreGoneFound turns n later
gone_are_found_later turns n m later all grows = record { within = all.within; each = λ i t l is. gone_later turns m later (turn_of t) grows (all.each i t l is) }

-- ---- entering

passes_at : (p : history.Turn → Bool) (turns : List Turn) (place : ℕ) (turn : Turn) → slice_get turns place ≡ Some turn → p (turn_of turn) ≡ true → at_place turns p place ≡ true
passes_at p turns place turn is e = ap (passes (λ t. p (turn_of t))) is ∙ e

pub gone_entered : (turns : List Turn) (m : Places) (place : ℕ) (turn : Turn) (node : NodeId) (key : Key) → slice_get turns place ≡ Some turn → turn ≡ code.Gone node → key ≡ gone_key node → IsUnder m key place → GoneIsFound turns m (turn_of turn)
gone_entered turns m place turn node key is gone under' there who e =
    let same : is_same_node who node ≡ true = sym (ap (λ t. goes who (turn_of t)) gone) ∙ e in
    let k : who ≡ node = is_same_node-IsSameness.same who node same in
    subst (λ w. some_under turns m (goes who) w ≡ true) (under' ∙ ap gone_key (sym k)) (there (at_place turns (goes who)) (passes_at (goes who) turns place turn is e))

-- a turn in which nothing was told
pub none_told : (turns : List Turn) (m : Places) (t : history.Turn) → told_key t ≡ None → TellIsFound turns m t
none_told turns m t none by to x e = absurd (let k = told_key_is t by to x e in cc)

one_some : {X : Type 0} (o : Option X) (x y : X) → o ≡ Some x → o ≡ Some y → x ≡ y
one_some o x y e d = cc

-- a turn under its key
pub tell_entered : (turns : List Turn) (m : Places) (place : ℕ) (turn : Turn) (key : Key) → slice_get turns place ≡ Some turn → told_key (turn_of turn) ≡ Some key → IsUnder m key place → TellIsFound turns m (turn_of turn)
tell_entered turns m place turn key is has there by to x e =
    let k : key ≡ tell_key by to x = one_some (told_key (turn_of turn)) key (tell_key by to x) has (told_key_is (turn_of turn) by to x e) in
    subst (λ k. some_under turns m (tells by to x) k ≡ true) k (there (at_place turns (tells by to x)) (passes_at (tells by to x) turns place turn is e))

passes_too : (p q : history.Turn → Bool) → ((t : history.Turn) → p t ≡ true → q t ≡ true) → (turns : List Turn) (place : ℕ) → at_place turns p place ≡ true → at_place turns q place ≡ true
passes_too p q h turns place e = go (slice_get turns place) e
  where
    go : (o : Option Turn) → passes (λ t. p (turn_of t)) o ≡ true → passes (λ t. q (turn_of t)) o ≡ true
    go None e = absurd (cc)
    go (Some t) e = h (turn_of t) e

-- a turn under its key in which it was told before
pub tell_retold : (turns : List Turn) (m : Places) (t : history.Turn) (key : Key) → told_key t ≡ Some key → some_under turns m (retells t) key ≡ true → TellIsFound turns m t
tell_retold turns m t key has before by to x e =
    let k : key ≡ tell_key by to x = one_some (told_key t) key (tell_key by to x) has (told_key_is t by to x e) in
    subst (λ k. some_under turns m (tells by to x) k ≡ true) k
    (any_weaker (at_place turns (retells t)) (at_place turns (tells by to x)) (passes_too (retells t) (tells by to x) (λ u same. retold t u same by to x e) turns) (under m key) before)

-- ---- asks

is_sending_itself : (s : Sending) → is_sending s.0 s.1 s ≡ true
is_sending_itself s = rw (is_same_node-IsSameness.itself s.0) (is_same_ask-IsSameness.itself s.1)

sends_at : (asks : List Sending) (i : ℕ) (s : Sending) → slice_get asks i ≡ Some s → list_any (is_sending s.0 s.1) asks ≡ true
sends_at [] i s e = absurd (cc)
sends_at (r ∷ asks) zero s e = (let k : r ≡ s = cc in or_left (is_sending s.0 s.1 r) (list_any (is_sending s.0 s.1) asks) (ap (is_sending s.0 s.1) k ∙ is_sending_itself s))
sends_at (r ∷ asks) (suc i) s e = or_right (is_sending s.0 s.1 r) (list_any (is_sending s.0 s.1) asks) (sends_at asks i s e)

-- a turn gave each of its asks
pub gives_at : (turns : List Turn) (place : ℕ) (turn : Turn) (i : ℕ) (s : Sending) → slice_get turns place ≡ Some turn → slice_get (asks_of (turn_of turn)) i ≡ Some s → at_place turns (gives (actor_of (turn_of turn)) s.0 s.1) place ≡ true
gives_at turns place turn i s is has =
    passes_at (gives (actor_of (turn_of turn)) s.0 s.1) turns place turn is (rw (is_same_node-IsSameness.itself (actor_of (turn_of turn))) (sends_at (asks_of (turn_of turn)) i s has))

-- what was sent among asks is found, where a node gave them
abbrev pub SentAreFound : List Turn → Places → NodeId → List Sending → Type 0
SentAreFound turns m from asks = (to : NodeId) (a : Ask) → list_any (is_sending to a) asks ≡ true → some_under turns m (gives from to a) (ask_key from to a) ≡ true

pub none_sent : (turns : List Turn) (m : Places) (from : NodeId) → SentAreFound turns m from []
none_sent turns m from to a e = absurd (cc)

either : (x y : Bool) → (x || y) ≡ true → (x ≡ true) ⊎ (y ≡ true)
either true y e = inl refl
either false y e = inr e

last_sent : (p : Sending → Bool) (asks : List Sending) (i : ℕ) (s : Sending) → slice_get asks i ≡ Some s → list_any p (take (suc i) asks) ≡ true → (list_any p (take i asks) ≡ true) ⊎ (p s ≡ true)
last_sent p [] i s e f = absurd (cc)
last_sent p (r ∷ asks) zero s e f = (let k : r ≡ s = cc in elim (either (p r) (list_any p (take 0 asks)) f) [
  | inl h ↦ inr (ap p (sym k) ∙ h)
  | inr h ↦ absurd (cc)
])
last_sent p (r ∷ asks) (suc i) s e f = elim (either (p r) (list_any p (take (suc i) asks)) f) [
  | inl h ↦ inl (or_left (p r) (list_any p (take i asks)) h)
  | inr h ↦ elim (last_sent p asks i s e h) [
    | inl k ↦ inl (or_right (p r) (list_any p (take i asks)) k)
    | inr k ↦ inr k
  ]
]

pub sent_more : (turns : List Turn) (m later : Places) (from : NodeId) (asks : List Sending) (i : ℕ) (s : Sending) → slice_get asks i ≡ Some s → SentAreFound turns m from (take i asks) → Grows m later
    → some_under turns later (gives from s.0 s.1) (ask_key from s.0 s.1) ≡ true → SentAreFound turns later from (take (i + 1) asks)
sent_more turns m later from asks i s has before grows own to a e = elim (last_sent (is_sending to a) asks i s has (subst (λ n. list_any (is_sending to a) (take n asks) ≡ true) (let n : i + 1 ≡ suc i = omega arith in n) e)) [
  | inl k ↦ grows (ask_key from to a) (at_place turns (gives from to a)) (before to a k)
  | inr k ↦ (let j = and_parts (is_same_node s.0 to) (is_same_ask s.1 a) k in
      let n = is_same_node-IsSameness.same s.0 to j.0 in
      let b = is_same_ask-IsSameness.same s.1 a j.1 in
      subst (λ x. some_under turns later (gives from to x) (ask_key from to x) ≡ true) b (subst (λ x. some_under turns later (gives from x s.1) (ask_key from x s.1) ≡ true) n own))
]

-- a turn under the key of an ask that it gave
pub ask_entered : (turns : List Turn) (m : Places) (place : ℕ) (from to : NodeId) (a : Ask) (key : Key) → at_place turns (gives from to a) place ≡ true → key ≡ ask_key from to a → IsUnder m key place → some_under turns m (gives from to a) (ask_key from to a) ≡ true
ask_entered turns m place from to a key gave is there = subst (λ k. some_under turns m (gives from to a) k ≡ true) is (there (at_place turns (gives from to a)) gave)

-- all asks of a turn
pub asks_entered : (turns : List Turn) (m : Places) (t : history.Turn) → SentAreFound turns m (actor_of t) (asks_of t) → AsksAreFound turns m t
asks_entered turns m t all from to a e =
    let k = and_parts (is_same_node (actor_of t) from) (list_any (is_sending to a) (asks_of t)) e in
    subst (λ x. some_under turns m (gives x to a) (ask_key x to a) ≡ true) (is_same_node-IsSameness.same (actor_of t) from k.0) (all to a k.1)

pub take_whole : {X : Type 0} (xs : List X) (i : ℕ) → length xs ≤ i → take i xs ≡ xs
take_whole [] zero l = refl
take_whole [] (suc i) l = refl
take_whole (x ∷ xs) zero l = absurd (let k : ⊥ = omega (arith, l) in k)
take_whole (x ∷ xs) (suc i) l = ap (λ ys. x ∷ ys) (take_whole xs i (omega (arith, l)))

pub take_rest : {X : Type 0} (xs : List X) (n : ℕ) → take (length xs - n) (drop n xs) ≡ drop n xs
take_rest xs n = take_whole (drop n xs) (length xs - n) (let e : length (drop n xs) ≡ length xs - n = length-drop n xs in omega (arith, e))

-- ---- results

pub on_ok : {T E P Q : Type 0} (r : Result T E) → (P → Q) → OnOk r P → OnOk r Q
on_ok (Ok x) f k = f k
on_ok (Err e) f k = k

-- of two tests the first one, or the other where that fails
pub first_finds : (r a b c : Bool) → r ≡ a → r ≡ true → (a || b) ≡ c → r ≡ c
first_finds r a b c is e k = e ∙ (ap (λ x. x || b) (sym e ∙ is) ∙ k)

pub second_finds : (r s a b c : Bool) → r ≡ a → r ≡ false → s ≡ b → (a || b) ≡ c → s ≡ c
second_finds r s a b c is e other k = other ∙ (ap (λ x. x || b) (sym e ∙ is) ∙ k)

or_true : (b : Bool) → (b || true) ≡ true
or_true true = refl
or_true false = refl

or_false : (b : Bool) → (b || false) ≡ b
or_false true = refl
or_false false = refl

-- of two tests the second one first, or the first one where that fails
pub behind_finds : (r a b c : Bool) → r ≡ b → r ≡ true → (a || b) ≡ c → r ≡ c
behind_finds r a b c is e k = e ∙ (sym (or_true a) ∙ (ap (λ x. a || x) (sym e ∙ is) ∙ k))

pub before_finds : (r s a b c : Bool) → s ≡ b → s ≡ false → r ≡ a → (a || b) ≡ c → r ≡ c
before_finds r s a b c is e other k = other ∙ (sym (or_false a) ∙ (ap (λ x. a || x) (sym e ∙ is) ∙ k))
