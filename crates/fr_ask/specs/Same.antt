-- When two asks of sequencers, two asks and two tells are the same.
use Rattle.std.specs.Prelude.{◌≡◌, ℕ, Bool, true, false, ◌==◌, ◌&&◌, refl}
use Rattle.std.proofs.Common.{ap}
use Rattle.std.proofs.lemmas.Bool.{and_parts, eqb-true, eq-eqb}
use Rattle.fr_base.specs.Same.{IsSameness}
use Rattle.fr_ask.specs.Cells.{is_same_cell_ask, is_same_cell_ask-IsSameness, is_same_cell_tell, is_same_cell_tell-IsSameness}
use Rattle.fr_log.specs.Fields.{three}
use Rattle.fr_log.specs.Same.{is_same_log_ask, is_same_log_ask-IsSameness, is_same_log_tell, is_same_log_tell-IsSameness}
use Rattle.fr_ask.specs.declared.sequencer.SeqAsk.{SeqAsk}
use Rattle.fr_ask.specs.declared.sequencer.SeqAsk.TheVariants.{Next}
use Rattle.fr_ask.specs.declared.sequencer.SeqTell.{SeqTell}
use Rattle.fr_ask.specs.declared.sequencer.SeqTell.TheVariants as seq
use Rattle.fr_ask.specs.declared.sequencer.SeqRefusal.{SeqRefusal}
use Rattle.fr_ask.specs.declared.sequencer.SeqRefusal.TheVariants.{Spent, OutOfTurn}
use Rattle.fr_ask.specs.declared.ask.Ask.{Ask}
use Rattle.fr_ask.specs.declared.ask.Ask.TheVariants as ask
use Rattle.fr_ask.specs.declared.tell.Tell.{Tell}
use Rattle.fr_ask.specs.declared.tell.Tell.TheVariants as tell

-- ---- asks

-- whether two asks of sequencers are of one request, and of one step
abbrev pub is_same_seq_ask : SeqAsk → SeqAsk → Bool
is_same_seq_ask (Next p r s) (Next q t u) = (p == q) && ((r == t) && (s == u))

-- whether two asks are of one kind of node and ask for the same
abbrev pub is_same_ask : Ask → Ask → Bool
is_same_ask (ask.Cell a) (ask.Cell b) = is_same_cell_ask a b
is_same_ask (ask.Log a) (ask.Log b) = is_same_log_ask a b
is_same_ask (ask.Seq a) (ask.Seq b) = is_same_seq_ask a b
is_same_ask a b = false

-- ---- tells

-- whether two refusals have one reason
abbrev pub is_same_seq_refusal : SeqRefusal → SeqRefusal → Bool
is_same_seq_refusal Spent Spent = true
is_same_seq_refusal OutOfTurn OutOfTurn = true
is_same_seq_refusal a b = false

-- whether two tells of sequencers tell the same
abbrev pub is_same_seq_tell : SeqTell → SeqTell → Bool
is_same_seq_tell (seq.Numbered r p v) (seq.Numbered s q w) = (r == s) && ((p == q) && (v == w))
is_same_seq_tell (seq.Refused v) (seq.Refused w) = is_same_seq_refusal v w
is_same_seq_tell a b = false

-- whether two tells are of one kind of node and tell the same
abbrev pub is_same_tell : Tell → Tell → Bool
is_same_tell (tell.Cell a) (tell.Cell b) = is_same_cell_tell a b
is_same_tell (tell.Log a) (tell.Log b) = is_same_log_tell a b
is_same_tell (tell.Seq a) (tell.Seq b) = is_same_seq_tell a b
is_same_tell a b = false

-- ---- the tests are exact

number : (n : ℕ) → (n == n) ≡ true
number n = eq-eqb n n refl

pub is_same_seq_ask-IsSameness : IsSameness is_same_seq_ask
is_same_seq_ask-IsSameness = record { itself = itself; same = same }
  where
    itself : (a : SeqAsk) → is_same_seq_ask a a ≡ true
    itself (Next p r s) = rw (number p, number r) (number s)

    same : (a b : SeqAsk) → is_same_seq_ask a b ≡ true → a ≡ b
    same (Next p r s) (Next q t u) e =
        let k = and_parts (p == q) ((r == t) && (s == u)) e in
        let l = and_parts (r == t) (s == u) k.1 in
        three (λ x y z. Next x y z) (eqb-true p q k.0) (eqb-true r t l.0) (eqb-true s u l.1)

pub is_same_ask-IsSameness : IsSameness is_same_ask
is_same_ask-IsSameness = record { itself = itself; same = same }
  where
    itself : (a : Ask) → is_same_ask a a ≡ true
    itself (ask.Cell a) = is_same_cell_ask-IsSameness.itself a
    itself (ask.Log a) = is_same_log_ask-IsSameness.itself a
    itself (ask.Seq a) = is_same_seq_ask-IsSameness.itself a

    same : (a b : Ask) → is_same_ask a b ≡ true → a ≡ b
    same (ask.Cell a) (ask.Cell b) e = ap ask.Cell (is_same_cell_ask-IsSameness.same a b e)
    same (ask.Log a) (ask.Log b) e = ap ask.Log (is_same_log_ask-IsSameness.same a b e)
    same (ask.Seq a) (ask.Seq b) e = ap ask.Seq (is_same_seq_ask-IsSameness.same a b e)
    same a b e = absurd (cc)

pub is_same_seq_tell-IsSameness : IsSameness is_same_seq_tell
is_same_seq_tell-IsSameness = record { itself = itself; same = same }
  where
    refusal : (a : SeqRefusal) → is_same_seq_refusal a a ≡ true
    refusal Spent = refl
    refusal OutOfTurn = refl

    one_refusal : (a b : SeqRefusal) → is_same_seq_refusal a b ≡ true → a ≡ b
    one_refusal Spent Spent e = refl
    one_refusal OutOfTurn OutOfTurn e = refl
    one_refusal a b e = absurd (cc)

    itself : (t : SeqTell) → is_same_seq_tell t t ≡ true
    itself (seq.Numbered r p v) = rw (number r, number p) (number v)
    itself (seq.Refused why) = refusal why

    same : (t u : SeqTell) → is_same_seq_tell t u ≡ true → t ≡ u
    same (seq.Numbered r p v) (seq.Numbered s q w) e =
        let k = and_parts (r == s) ((p == q) && (v == w)) e in
        let l = and_parts (p == q) (v == w) k.1 in
        three (λ x y z. seq.Numbered x y z) (eqb-true r s k.0) (eqb-true p q l.0) (eqb-true v w l.1)
    same (seq.Refused a) (seq.Refused b) e = ap seq.Refused (one_refusal a b e)
    same t u e = absurd (cc)

pub is_same_tell-IsSameness : IsSameness is_same_tell
is_same_tell-IsSameness = record { itself = itself; same = same }
  where
    itself : (t : Tell) → is_same_tell t t ≡ true
    itself (tell.Cell t) = is_same_cell_tell-IsSameness.itself t
    itself (tell.Log t) = is_same_log_tell-IsSameness.itself t
    itself (tell.Seq t) = is_same_seq_tell-IsSameness.itself t

    same : (t u : Tell) → is_same_tell t u ≡ true → t ≡ u
    same (tell.Cell t) (tell.Cell u) e = ap tell.Cell (is_same_cell_tell-IsSameness.same t u e)
    same (tell.Log t) (tell.Log u) e = ap tell.Log (is_same_log_tell-IsSameness.same t u e)
    same (tell.Seq t) (tell.Seq u) e = ap tell.Seq (is_same_seq_tell-IsSameness.same t u e)
    same t u e = absurd (cc)
