-- When two asks and two tells are the same.
use Rattle.std.specs.Prelude.{◌≡◌, ℕ, Bool, true, false, ◌==◌, ◌&&◌, refl}
use Rattle.std.proofs.Common.{ap}
use Rattle.std.proofs.lemmas.Bool.{and_parts, eqb-true, eq-eqb}
use Rattle.fr_base.specs.Same.{IsSameness}
use Rattle.fr_state.specs.Same.{is_same_state}
use Rattle.fr_log.specs.Fields.{three, four}
use Rattle.fr_log.specs.States.{is_same_state-IsSameness}
use Rattle.fr_log.specs.Seed.{is_same_seed, is_same_seed-IsSameness}
use Rattle.fr_log.specs.Push.{is_same_push, is_same_push-IsSameness}
use Rattle.fr_log.specs.Left.{is_same_popped, are_same_popped-IsSameness}
use Rattle.std.specs.Cmp.Lexicographic.{pointwise}
use Rattle.fr_log.specs.Peeked.{is_same_peeked, is_same_peeked-IsSameness}
use Rattle.fr_log.specs.declared.ask.LogAsk.{LogAsk}
use Rattle.fr_log.specs.declared.ask.LogAsk.TheVariants.{Seed, Push, Lock, Peek, MarkAsked, Pop}
use Rattle.fr_log.specs.declared.ask.LogTell.{LogTell}
use Rattle.fr_log.specs.declared.ask.LogTell.TheVariants.{Seeded, Held, Locked, Peeked, Marked, Popped, Refused}
use Rattle.fr_log.specs.declared.ask.LogRefusal.{LogRefusal}
use Rattle.fr_log.specs.declared.ask.LogRefusal.TheVariants.{WrongEpoch, Unseeded, Stopped, Stale, Gap, NotMine, TooEarly, SeedDiffers, NoMark, Removed}

-- whether two asks are of one kind and ask for the same
abbrev pub is_same_log_ask : LogAsk → LogAsk → Bool
is_same_log_ask (Seed s) (Seed t) = is_same_seed s t
is_same_log_ask (Push p) (Push q) = is_same_push p q
is_same_log_ask (Lock e) (Lock f) = e == f
is_same_log_ask (Peek e t a m) (Peek f u b n) = (e == f) && ((t == u) && ((a == b) && (m == n)))
is_same_log_ask (MarkAsked e) (MarkAsked f) = e == f
is_same_log_ask (Pop e t v) (Pop f u w) = (e == f) && ((t == u) && (v == w))
is_same_log_ask a b = false

-- whether two refusals have one reason
abbrev pub is_same_refusal : LogRefusal → LogRefusal → Bool
is_same_refusal WrongEpoch WrongEpoch = true
is_same_refusal Unseeded Unseeded = true
is_same_refusal Stopped Stopped = true
is_same_refusal Stale Stale = true
is_same_refusal (Gap d) (Gap e) = d == e
is_same_refusal NotMine NotMine = true
is_same_refusal (TooEarly f) (TooEarly g) = f == g
is_same_refusal SeedDiffers SeedDiffers = true
is_same_refusal NoMark NoMark = true
is_same_refusal (Removed v) (Removed w) = v == w
is_same_refusal a b = false

-- whether two tells are of one kind and tell the same
abbrev pub is_same_log_tell : LogTell → LogTell → Bool
is_same_log_tell Seeded Seeded = true
is_same_log_tell (Held v) (Held w) = v == w
is_same_log_tell (Locked d k p) (Locked e l q) = (d == e) && ((k == l) && pointwise is_same_popped p q)
is_same_log_tell (Peeked p) (Peeked q) = is_same_peeked p q
is_same_log_tell (Marked s) (Marked t) = is_same_state s t
is_same_log_tell (Popped v) (Popped w) = v == w
is_same_log_tell (Refused v) (Refused w) = is_same_refusal v w
is_same_log_tell a b = false

itself : (n : ℕ) → (n == n) ≡ true
itself n = eq-eqb n n refl

-- ---- asks

pub is_same_log_ask-IsSameness : IsSameness is_same_log_ask
is_same_log_ask-IsSameness = record { itself = same_itself; same = same }
  where
    same_itself : (a : LogAsk) → is_same_log_ask a a ≡ true
    same_itself (Seed s) = is_same_seed-IsSameness.itself s
    same_itself (Push p) = is_same_push-IsSameness.itself p
    same_itself (Lock e) = itself e
    same_itself (Peek e t a m) = rw (itself e, itself t, itself a) (itself m)
    same_itself (MarkAsked e) = itself e
    same_itself (Pop e t v) = rw (itself e, itself t) (itself v)

    same : (a b : LogAsk) → is_same_log_ask a b ≡ true → a ≡ b
    same (Seed s) (Seed t) e = ap Seed (is_same_seed-IsSameness.same s t e)
    same (Push p) (Push q) e = ap Push (is_same_push-IsSameness.same p q e)
    same (Lock d) (Lock f) e = ap Lock (eqb-true d f e)
    same (Peek d t a m) (Peek f u b n) e =
        let k = and_parts (d == f) ((t == u) && ((a == b) && (m == n))) e in
        let l = and_parts (t == u) ((a == b) && (m == n)) k.1 in
        let j = and_parts (a == b) (m == n) l.1 in
        four (λ w x y z. Peek w x y z) (eqb-true d f k.0) (eqb-true t u l.0) (eqb-true a b j.0) (eqb-true m n j.1)
    same (MarkAsked d) (MarkAsked f) e = ap MarkAsked (eqb-true d f e)
    same (Pop d t v) (Pop f u w) e =
        let k = and_parts (d == f) ((t == u) && (v == w)) e in
        let j = and_parts (t == u) (v == w) k.1 in
        three (λ x y z. Pop x y z) (eqb-true d f k.0) (eqb-true t u j.0) (eqb-true v w j.1)
    same a b e = absurd (cc)

-- ---- tells

pub is_same_refusal-IsSameness : IsSameness is_same_refusal
is_same_refusal-IsSameness = record { itself = same_itself; same = same }
  where
    same_itself : (a : LogRefusal) → is_same_refusal a a ≡ true
    same_itself WrongEpoch = refl
    same_itself Unseeded = refl
    same_itself Stopped = refl
    same_itself Stale = refl
    same_itself (Gap d) = itself d
    same_itself NotMine = refl
    same_itself (TooEarly f) = itself f
    same_itself SeedDiffers = refl
    same_itself NoMark = refl
    same_itself (Removed v) = itself v

    same : (a b : LogRefusal) → is_same_refusal a b ≡ true → a ≡ b
    same WrongEpoch WrongEpoch e = refl
    same Unseeded Unseeded e = refl
    same Stopped Stopped e = refl
    same Stale Stale e = refl
    same (Gap d) (Gap f) e = ap Gap (eqb-true d f e)
    same NotMine NotMine e = refl
    same (TooEarly f) (TooEarly g) e = ap TooEarly (eqb-true f g e)
    same SeedDiffers SeedDiffers e = refl
    same NoMark NoMark e = refl
    same (Removed v) (Removed w) e = ap Removed (eqb-true v w e)
    same a b e = absurd (cc)

pub is_same_log_tell-IsSameness : IsSameness is_same_log_tell
is_same_log_tell-IsSameness = record { itself = same_itself; same = same }
  where
    same_itself : (a : LogTell) → is_same_log_tell a a ≡ true
    same_itself Seeded = refl
    same_itself (Held v) = itself v
    same_itself (Locked d k p) = rw (itself d, itself k) (are_same_popped-IsSameness.itself p)
    same_itself (Peeked p) = is_same_peeked-IsSameness.itself p
    same_itself (Marked s) = is_same_state-IsSameness.itself s
    same_itself (Popped v) = itself v
    same_itself (Refused why) = is_same_refusal-IsSameness.itself why

    same : (a b : LogTell) → is_same_log_tell a b ≡ true → a ≡ b
    same Seeded Seeded e = refl
    same (Held v) (Held w) e = ap Held (eqb-true v w e)
    same (Locked d k p) (Locked f l q) e =
        let j = and_parts (d == f) ((k == l) && pointwise is_same_popped p q) e in
        let i = and_parts (k == l) (pointwise is_same_popped p q) j.1 in
        three (λ x y z. Locked x y z) (eqb-true d f j.0) (eqb-true k l i.0) (are_same_popped-IsSameness.same p q i.1)
    same (Peeked p) (Peeked q) e = ap Peeked (is_same_peeked-IsSameness.same p q e)
    same (Marked s) (Marked t) e = ap Marked (is_same_state-IsSameness.same s t e)
    same (Popped v) (Popped w) e = ap Popped (eqb-true v w e)
    same (Refused v) (Refused w) e = ap Refused (is_same_refusal-IsSameness.same v w e)
    same a b e = absurd (cc)
