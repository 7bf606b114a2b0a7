-- The record of a cell leads back to the cell.
use Rattle.std.specs.Prelude.{◌≡◌, ℕ, ◌<◌, ◌^◌, Bool, true, false, ◌==◌, ◌&&◌, ◌||◌, not, nat_le, nat_lt, if◌then◌else◌, List, length, Option, None, Some, refl}
use Rattle.std.specs.Int.{w64, to_be_bytes, from_be_bytes}
use Rattle.std.proofs.Common.{sym, ap, ◌∙◌, subst, arith}
use Rattle.std.proofs.lemmas.Bool.{ltb-true, ltb-false, eqb-true, le-leb, leb-true, eq-eqb}
use Rattle.std.proofs.lemmas.Nat.{from_be_bytes-to_be_bytes_8}
use Rattle.std.proofs.lemmas.Slice.Eq.{bytes_eq-Decides}
use Rattle.fr_base.specs.Bytes.{bytes_eq}
use Rattle.fr_register.specs.CellState.{CellState}
use Rattle.fr_register.specs.Cell.{next_of, is_second}
use Rattle.fr_register.specs.declared.ask.CellAsk.{CellAsk}
use Rattle.fr_register.specs.declared.ask.CellAsk.TheVariants.{Read, Write}
use Rattle.fr_record_node.specs.Replay.{replayed}
use Rattle.fr_record_node.specs.CellFile.{spelled_cell, is_ballot, cell_at, is_sound, replay_cell, is_changed, written_cell, is_cell_ask}

both : (a b : Bool) → (a && b) ≡ true → (a ≡ true) × (b ≡ true)
both true b e = (refl, e)
both false b e = absurd (cc e)

join : (a b : Bool) → a ≡ true → b ≡ true → (a && b) ≡ true
join a b e h = rw (e, h) refl

abbrev cell : ℕ → ℕ → List ℕ → CellState
cell p w v = record { promised = p; written = w; value = v }

same_cell : (p p' w w' : ℕ) (v v' : List ℕ) → p ≡ p' → w ≡ w' → v ≡ v' → cell p w v ≡ cell p' w' v'
same_cell p p' w w' v v' e h k = cc (e, h, k)

ballot_fits : (b : ℕ) → is_ballot b ≡ true → b < 2 ^ 64
ballot_fits b e = let lt = ltb-true b (2 ^ 48) (both (nat_lt b (2 ^ 48)) ((b == 0) || nat_le 256 b) e).0 in omega (arith, lt)

-- a record that spells a cell within its limits leads back to it
cell_back : (n : CellState) → is_sound n ≡ true → cell_at (spelled_cell n) ≡ n
cell_back n sound =
    let p = both (is_ballot n.promised) _ sound in
    let w = both (is_ballot n.written) _ p.1 in
    same_cell (from_be_bytes w64 (to_be_bytes w64 n.promised)) n.promised (from_be_bytes w64 (to_be_bytes w64 n.written)) n.written n.value n.value
    (from_be_bytes-to_be_bytes_8 n.promised (ballot_fits n.promised p.0)) (from_be_bytes-to_be_bytes_8 n.written (ballot_fits n.written w.0)) refl

abbrev picked : Bool → CellState → Option CellState
picked t x = if t then Some x else None

read_back : (c n : CellState) → is_sound n ≡ true → replay_cell c (spelled_cell n) ≡ Some n
read_back c n sound =
    let long : nat_le 16 (length (spelled_cell n)) ≡ true = le-leb 16 (length (spelled_cell n)) (omega arith) in
    let back = cell_back n sound in
    let sound_too : is_sound (cell_at (spelled_cell n)) ≡ true = subst (λ x. is_sound x ≡ true) (sym back) sound in
    ap (λ t. picked t (cell_at (spelled_cell n))) (join (nat_le 16 (length (spelled_cell n))) (is_sound (cell_at (spelled_cell n))) long sound_too) ∙ ap (λ x. Some x) back

-- a cell within its limits stays so
read_stays : (c : CellState) (b : ℕ) → is_sound c ≡ true → is_ballot b ≡ true → is_sound (next_of c (Read b)) ≡ true
read_stays c b sound asks = go (nat_lt b c.promised) refl
  where
    go : (s : Bool) → nat_lt b c.promised ≡ s → is_sound (next_of c (Read b)) ≡ true
    go true e = rw e sound
    go false e =
        let p = both (is_ballot c.promised) _ sound in
        let w = both (is_ballot c.written) _ p.1 in
        let l = both (nat_le c.written c.promised) _ w.1 in
        let le : nat_le c.written b ≡ true = le-leb c.written b (omega (arith, leb-true c.written c.promised l.0, ltb-false b c.promised e)) in
        rw e (join (is_ballot b) _ asks (join (is_ballot c.written) _ w.0 (join (nat_le c.written b) _ le l.1)))

write_stays : (c : CellState) (b : ℕ) (x : List ℕ) → is_sound c ≡ true → is_ballot b ≡ true → nat_le (length x) 4096 ≡ true → is_sound (next_of c (Write b x)) ≡ true
write_stays c b x sound asks short = go (nat_lt b c.promised) refl
  where
    freely : (s : Bool) → nat_lt b c.promised ≡ false → is_second c b x ≡ s → is_sound (next_of c (Write b x)) ≡ true
    freely true e k = rw (e, k) sound
    freely false e k =
        let le : nat_le b b ≡ true = le-leb b b (omega arith) in
        rw (e, k) (join (is_ballot b) _ asks (join (is_ballot b) _ asks (join (nat_le b b) _ le short)))

    go : (s : Bool) → nat_lt b c.promised ≡ s → is_sound (next_of c (Write b x)) ≡ true
    go true e = rw e sound
    go false e = freely (is_second c b x) e refl

pub cell_stays_sound : (c : CellState) (a : CellAsk) → is_sound c ≡ true → is_cell_ask a ≡ true → is_sound (next_of c a) ≡ true
cell_stays_sound c (Read b) sound asks = read_stays c b sound asks
cell_stays_sound c (Write b x) sound asks = let k = both (is_ballot b) (nat_le (length x) 4096) asks in write_stays c b x sound k.0 k.1

-- an ask that changes neither ballot changes nothing
same_ballots : (c n : CellState) → is_changed c n ≡ false → (n.promised ≡ c.promised) × (n.written ≡ c.written)
same_ballots c n e =
    let k = both (n.promised == c.promised) (n.written == c.written) (shut ((n.promised == c.promised) && (n.written == c.written)) e) in
    (eqb-true n.promised c.promised k.0, eqb-true n.written c.written k.1)
  where
    shut : (s : Bool) → not s ≡ false → s ≡ true
    shut true h = refl
    shut false h = absurd (cc h)

unchanged : (c : CellState) (a : CellAsk) → is_changed c (next_of c a) ≡ false → next_of c a ≡ c
unchanged c (Read b) e = go (nat_lt b c.promised) refl
  where
    go : (s : Bool) → nat_lt b c.promised ≡ s → next_of c (Read b) ≡ c
    go true k = rw k refl
    go false k =
        let same : next_of c (Read b) ≡ cell b c.written c.value = rw k refl in
        let p : b ≡ c.promised = ap (λ x. x.promised) (sym same) ∙ (same_ballots c (next_of c (Read b)) e).0 in
        same ∙ same_cell b c.promised c.written c.written c.value c.value p refl refl
unchanged c (Write b x) e = go (nat_lt b c.promised) refl
  where
    freely : (s : Bool) → nat_lt b c.promised ≡ false → is_second c b x ≡ s → next_of c (Write b x) ≡ c
    freely true k second = rw (k, second) refl
    freely false k second =
        let same : next_of c (Write b x) ≡ cell b b x = rw (k, second) refl in
        let ballots = same_ballots c (next_of c (Write b x)) e in
        let p : b ≡ c.promised = ap (λ y. y.promised) (sym same) ∙ ballots.0 in
        let w : c.written ≡ b = sym (ap (λ y. y.written) (sym same) ∙ ballots.1) in
        let value : c.value ≡ x = (bytes_eq-Decides c.value x).0 (held (bytes_eq c.value x) (sym (rw (eq-eqb c.written b w) refl) ∙ second)) in
        same ∙ same_cell b c.promised b c.written x c.value p (sym w) (sym value)
      where
        held : (s : Bool) → (true && not s) ≡ false → s ≡ true
        held true h = refl
        held false h = absurd (cc h)

    go : (s : Bool) → nat_lt b c.promised ≡ s → next_of c (Write b x) ≡ c
    go true k = rw k refl
    go false k = freely (is_second c b x) k refl

pub cell_replays : (c : CellState) (a : CellAsk) → is_sound c ≡ true → is_cell_ask a ≡ true → replayed replay_cell (Some c) (written_cell c a) ≡ Some (next_of c a)
cell_replays c a sound asks = go (is_changed c (next_of c a)) refl
  where
    go : (s : Bool) → is_changed c (next_of c a) ≡ s → replayed replay_cell (Some c) (written_cell c a) ≡ Some (next_of c a)
    go true e = rw e (read_back c (next_of c a) (cell_stays_sound c a sound asks))
    go false e = rw e (ap (λ x. Some x) (sym (unchanged c a e)))
