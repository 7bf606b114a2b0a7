-- A pair that was just opened or made, and devices that hold none.
use Rattle.std.proofs.Common.{◌≡◌, ◌⊎◌, inl, inr, ℕ, ◌+◌, ◌<◌, ◌^◌, false, List, [], ◌∷◌, length, get_or, drop, refl, sym, ap, ◌∙◌, subst, arith}
use Rattle.fr_record.specs.Disk.{Disk, MayLeave, IsDurable, written}
use Rattle.std.specs.Prelude.{Result, Ok, Err, IfOk, OnErr}
use Rattle.fr_segment.specs.declared.first.First.{First}
use Rattle.fr_segment.specs.declared.first.First.TheVariants.{Missing, Closed, File}
use Rattle.fr_segment.specs.declared.first.Turn.{Turn}
use Rattle.fr_segment.specs.declared.first.Turn.TheVariants.{Former, Latter}
use Rattle.fr_segment.specs.declared.health.Health.TheVariants.{Works}
use Rattle.fr_segment.specs.declared.open_fault.OpenFault.{OpenFault}
use Rattle.fr_segment.specs.declared.open_fault.OpenFault.TheVariants.{Unmade, Stranger, Broken}
use Rattle.fr_segment.specs.File.{Group, body, guard, StandsFor, IsAtRest}
use Rattle.fr_segment.specs.First.{IsBelow, IsTurn}
use Rattle.fr_segment.specs.Header.{header}
use Rattle.fr_segment.specs.Health.{AreInTurn}
use Rattle.fr_segment.specs.State.{SegmentFile}
use Rattle.fr_segment.specs.Turns.{IsHeaded, led_by, BeginsWith, HoldsNothing, IsOlder, AreTurns, PairStandsFor, IsForeign}
use Rattle.fr_segment.proofs.Crash.{durable_leaves}
use Rattle.fr_segment.proofs.FileLemmas.{block_once}
use Rattle.fr_segment.proofs.FirstLemmas.{first_is, first_closed, below_older}
use Rattle.fr_segment.proofs.Replacing.{length-header}
use Rattle.fr_segment.proofs.TurnsLemmas.{led_long, led_once, begins_once, never_both, headed_begins}

-- a file that begins with a header stands for groups with it
pub begins_headed : (n : ℕ) (identity : List ℕ) (groups : List Group) (file : List ℕ) → BeginsWith n identity file → StandsFor file groups → IsHeaded n identity groups
begins_headed n identity [] file begins stands =
    absurd (never_both n identity file begins (let e = ap length stands.1 in omega (arith, e), (ap (λ l. get_or l 0 1) stands.1, ap (λ l. get_or l 1 1) stands.1)))
begins_headed n identity ([] ∷ gs) file begins stands =
    let it = stands.1 in
    let bodies = block_once 0 (body []) (led_by (header n identity) begins.more) stands.0 begins.rest it.short begins.short (sym (ap (λ l. drop 2 l) it.split) ∙ begins.split) in
    absurd (let e = ap length bodies.0 in omega (arith, e, led_long (header n identity) begins.more))
begins_headed n identity ((r ∷ rs) ∷ gs) file begins stands =
    let it = stands.1 in
    let bodies = block_once 0 (body (r ∷ rs)) (led_by (header n identity) begins.more) stands.0 begins.rest it.short begins.short (sym (ap (λ l. drop 2 l) it.split) ∙ begins.split) in
    let same = led_once r (header n identity) (body rs) begins.more it.short bodies.0 in
    record { first = rs; others = gs; split = ap (λ (h : List ℕ). (h ∷ rs) ∷ gs) same.0 }

pub begins_brief : (n : ℕ) (identity file : List ℕ) → BeginsWith n identity file → length identity + 19 < 2 ^ 32
begins_brief n identity file begins = omega (arith, begins.short, led_long (header n identity) begins.more, length-header n identity)

-- a file that begins with a number beside which the other is older
pub below : (k l : ℕ) (one other file : List ℕ) → BeginsWith k one file → IsOlder l other file → k < l
below k l one other file begins (inl nothing) = absurd (never_both k one file begins nothing)
below k l one other file begins (inr older) = let same = begins_once k older.0 one other file begins older.2 in omega (arith, same.0, older.1)

module _ {D : Type 0} (disk : D → Disk) (current : SegmentFile D) (other : D) (number : ℕ) (identity : List ℕ) (works : current.is_failed ≡ false) (rests : (left : List ℕ) → MayLeave (disk current.device) left → IsAtRest current.groups left) (durable : IsDurable (disk other)) where
  -- a pair that was opened
  pub opened : (file : List ℕ) → BeginsWith number identity file → StandsFor file current.groups → IsOlder number identity (disk other).content → AreInTurn disk current other number identity Works
  opened file begins stands older = record {
    small = begins.small;
    brief = begins_brief number identity file begins;
    headed = begins_headed number identity current.groups file begins stands;
    fit = tt;
    works = λ w. works;
    durable = λ w. durable;
    current_left = rests;
    other_left = λ left may. subst (λ l. IsOlder number identity l) (sym (durable_leaves (disk other) left durable may)) older;
  }

  -- a pair that was made
  pub made : (old : List ℕ) → number < 2 ^ 64 → length identity + 19 < 2 ^ 32 → current.groups ≡ (header number identity ∷ []) ∷ [] → (disk other).content ≡ written old 0 (0 ∷ 0 ∷ guard 0) → AreInTurn disk current other number identity Works
  made old small brief groups_is is = record {
    small = small;
    brief = brief;
    headed = subst (λ gs. IsHeaded number identity gs) (sym groups_is) (record { first = []; others = []; split = refl });
    fit = tt;
    works = λ w. works;
    durable = λ w. durable;
    current_left = rests;
    other_left = λ left may.
        subst (λ l. IsOlder number identity l) (sym (durable_leaves (disk other) left durable may)) (inl (let e = ap length is in omega (arith, e), (ap (λ l. get_or l 0 1) is, ap (λ l. get_or l 1 1) is)));
  }

-- ---- devices that hold no pair
-- of a pair whose first file begins with the greater number the first stands for groups
pub pair_current : (number : ℕ) (identity : List ℕ) (records : List (List ℕ)) (a b : List ℕ) → BeginsWith number identity a → IsOlder number identity b → PairStandsFor identity records a b → (gs : List Group) × StandsFor a gs
pair_current number identity records a b begins older pair = go pair.turns
  where
    go : AreTurns pair.number identity pair.groups a b ⊎ AreTurns pair.number identity pair.groups b a → (gs : List Group) × StandsFor a gs
    go (inl x) = (pair.groups, x.stands)
    go (inr x) =
        let up = below number pair.number identity identity a begins x.older in
        let down = below pair.number number identity identity b (headed_begins pair.number identity pair.groups b x.small x.headed x.stands) older in
        absurd (omega (arith, up, down))

older_foreign : (l : ℕ) (identity file : List ℕ) → IsForeign identity file → IsOlder l identity file → ⊥
older_foreign l identity file foreign (inl nothing) = foreign.0 nothing
older_foreign l identity file foreign (inr older) = foreign.1 older.0 older.2

-- a file of no pair
pub foreign_none : (identity : List ℕ) (records : List (List ℕ)) (a b : List ℕ) → IsForeign identity a → PairStandsFor identity records a b → ⊥
foreign_none identity records a b foreign pair = go pair.turns
  where
    go : AreTurns pair.number identity pair.groups a b ⊎ AreTurns pair.number identity pair.groups b a → ⊥
    go (inl x) = foreign.1 pair.number (headed_begins pair.number identity pair.groups a x.small x.headed x.stands)
    go (inr x) = older_foreign pair.number identity a foreign x.older

-- what was read of a device
pub record IsReading (identity file : List ℕ) (first : First) : Type 0 where
  pub missing : first ≡ Missing → length file < 2
  pub closed : first ≡ Closed → HoldsNothing file
  pub begins : (n : ℕ) → first ≡ File n → BeginsWith n identity file

pub reading : (whose identity file : List ℕ) (result : Result First OpenFault) (first : First) → whose ≡ identity → result ≡ Ok first → (result ≡ Ok Missing → length file < 2) → (result ≡ Ok Closed → HoldsNothing file) → ((n : ℕ) → result ≡ Ok (File n) → BeginsWith n whose file)
    → IsReading identity file first
reading whose identity file result first same is missing closed begins = record {
  missing = λ e. missing (is ∙ ap (λ f. Ok f) e);
  closed = λ e. closed (is ∙ ap (λ f. Ok f) e);
  begins = λ n e. subst (λ l. BeginsWith n l file) same (begins n (is ∙ ap (λ f. Ok f) e));
}

-- a device that was read, and the other one beside it
pub turn_begins : (n : ℕ) (identity file now : List ℕ) (first : First) → now ≡ file → IsReading identity file first → first ≡ File n → BeginsWith n identity now
turn_begins n identity file now first same reading is = subst (λ l. BeginsWith n identity l) (sym same) (reading.begins n is)

pub turn_older : (n : ℕ) (identity file now : List ℕ) (first : First) → now ≡ file → IsReading identity file first → IsBelow n first → IsOlder n identity now
turn_older n identity file now first same reading below = subst (λ l. IsOlder n identity l) (sym same) (below_older n identity file first below reading.closed reading.begins)

-- the same bytes stand for the same records
pub pair_so : (identity : List ℕ) (records : List (List ℕ)) (a b now_a now_b : List ℕ) → now_a ≡ a → now_b ≡ b → PairStandsFor identity records now_a now_b → PairStandsFor identity records a b
pair_so identity records a b now_a now_b same_a same_b pair = subst (λ l. PairStandsFor identity records l b) same_a (subst (λ l. PairStandsFor identity records now_a l) same_b pair)

older_below : (l : ℕ) (identity file : List ℕ) (first : First) → IsReading identity file first → IsOlder l identity file → IsBelow l first
older_below l identity file first reading (inl nothing) = subst (λ f. IsBelow l f) (sym (first_closed identity file nothing first reading.missing reading.begins)) tt
older_below l identity file first reading (inr older) = subst (λ f. IsBelow l f) (sym (first_is older.0 identity file older.2 first reading.missing reading.closed reading.begins)) older.1

-- two devices of which neither is current
pub no_turn : (identity : List ℕ) (records : List (List ℕ)) (a b : List ℕ) (former latter : First) → IsReading identity a former → IsReading identity b latter → ((turn : Turn) → IsTurn former latter turn → ⊥) → PairStandsFor identity records a b → ⊥
no_turn identity records a b former latter one two none pair = go pair.turns
  where
    go : AreTurns pair.number identity pair.groups a b ⊎ AreTurns pair.number identity pair.groups b a → ⊥
    go (inl x) =
        let begins = headed_begins pair.number identity pair.groups a x.small x.headed x.stands in
        none (Former pair.number) (first_is pair.number identity a begins former one.missing one.closed one.begins, older_below pair.number identity b latter two x.older)
    go (inr x) =
        let begins = headed_begins pair.number identity pair.groups b x.small x.headed x.stands in
        none (Latter pair.number) (first_is pair.number identity b begins latter two.missing two.closed two.begins, older_below pair.number identity a former one x.older)

-- a device that was refused holds nothing that is a pair's
pub refused_foreign : (whose identity file : List ℕ) (result : Result First OpenFault) (fault : OpenFault) → whose ≡ identity → result ≡ Err fault → (result ≡ Err Unmade → ⊥) → ((result ≡ Err Broken) ⊎ (result ≡ Err Stranger) → IsForeign whose file)
    → (fault ≡ Unmade) ⊎ (fault ≡ Stranger) ⊎ (fault ≡ Broken) → IsForeign identity file
refused_foreign whose identity file result fault same is never foreign (inl e) = absurd (never (is ∙ ap (λ f. Err f) e))
refused_foreign whose identity file result fault same is never foreign (inr (inl e)) = subst (λ l. IsForeign l file) same (foreign (inr (is ∙ ap (λ f. Err f) e)))
refused_foreign whose identity file result fault same is never foreign (inr (inr e)) = subst (λ l. IsForeign l file) same (foreign (inl (is ∙ ap (λ f. Err f) e)))

-- ---- what an answer tells
pub ok_both : {X E : Type 0} (r : Result X E) (P Q R : X → Type 0) → ((x : X) → P x → Q x → R x) → IfOk r P → IfOk r Q → IfOk r R
ok_both (Ok x) P Q R joins p q = joins x p q
ok_both (Err e) P Q R joins p q = tt

pub err_so : {X E : Type 0} (r : Result X E) (T U : Type 0) → (T → U) → OnErr r T → OnErr r U
err_so (Ok x) T U so t = tt
err_so (Err e) T U so t = so t

pub same_faults : {X E : Type 0} (e a b d : E) → (◌≡◌ {A = Result X E} (Err e) (Err a)) ⊎ (◌≡◌ {A = Result X E} (Err e) (Err b)) ⊎ (◌≡◌ {A = Result X E} (Err e) (Err d)) → (e ≡ a) ⊎ (e ≡ b) ⊎ (e ≡ d)
same_faults e a b d (inl x) = inl (cc x)
same_faults e a b d (inr (inl x)) = inr (inl (cc x))
same_faults e a b d (inr (inr x)) = inr (inr (cc x))

pub third_alone : {X E : Type 0} (r : Result X E) (a b d : E) → (r ≡ Err a → ⊥) → (r ≡ Err b → ⊥) → (r ≡ Err a) ⊎ (r ≡ Err b) ⊎ (r ≡ Err d) → r ≡ Err d
third_alone r a b d not_a not_b (inl e) = absurd (not_a e)
third_alone r a b d not_a not_b (inr (inl e)) = absurd (not_b e)
third_alone r a b d not_a not_b (inr (inr e)) = e
