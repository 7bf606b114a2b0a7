-- Entries without fault happen in turn, and a fault is that of the first that has one.
use Rattle.std.proofs.Common.{◌≡◌, ℕ, ◌+◌, Bool, true, false, List, [], ◌∷◌, ◌++◌, length, Option, None, Some, Ok, Err, inl, inr, ◌⊎◌, refl, sym, ap, ◌∙◌, subst, arith}
use Rattle.std.specs.Prelude.{Result, if◌then◌else◌}
use Rattle.fr_run.specs.Config.{Config}
use Rattle.fr_run.specs.Turn.{Turn}
use Rattle.fr_run.specs.Step.{answer_of, turn_of}
use Rattle.fr_run.specs.declared.event.Event.{Event}
use Rattle.fr_run.specs.declared.not_enabled.NotEnabled.{NotEnabled}
use Rattle.fr_audit_journal.specs.Merge.{Placed}
use Rattle.fr_audit.specs.Audited.{after_entries, after_entry, is_repeated, then_on, turn_at, turn_if, turn_in, with_turn}
use Rattle.fr_audit.specs.Entry.{event_of, says}
use Rattle.fr_audit.specs.Law.{AreUnrepeated, IsCause, last_of}
use Rattle.fr_audit.specs.Run.{Happen, IsTurnOf}
use Rattle.fr_audit.specs.declared.finding.Cause.{Cause}
use Rattle.fr_audit.specs.declared.finding.Cause.TheVariants as cause
use Rattle.fr_audit.specs.declared.finding.Finding.{Finding}
use Rattle.fr_audit.specs.declared.finding.Finding.TheVariants.{NotARun, TellDiffers}
use Rattle.fr_audit.proofs.Sayings.{says_so, so_says}

abbrev Found : Type 0
Found = Result (List Turn) Finding

abbrev done : List Turn → Found
done h = Ok h

abbrev failed : Finding → Found
failed finding = Err finding

-- ---- one entry

-- an entry without fault
pub record IsEntered (c : Config) (h : List Turn) (before : Option Placed) (p : Placed) (later : List Turn) : Type 0 where
  pub unrepeated : is_repeated before p ≡ false
  pub turn : Turn
  pub is_turn : turn_at c h p ≡ Ok turn
  pub says : says p.entry.act (answer_of turn) ≡ true
  pub later_is : turn ∷ h ≡ later

entered : (c : Config) (h : List Turn) (before : Option Placed) (at : ℕ) (p : Placed) (later : List Turn) → after_entry c h before at p ≡ Ok later → IsEntered c h before p later
entered c h before at p later e = by_place (is_repeated before p) refl e
  where
    by_saying : is_repeated before p ≡ false → (t : Turn) → turn_at c h p ≡ Ok t → (b : Bool) → says p.entry.act (answer_of t) ≡ b →
        (if b then Ok (t ∷ h) else Err (TellDiffers at (answer_of t))) ≡ done later → IsEntered c h before p later
    by_saying apart t is true so k = record { unrepeated = apart; turn = t; is_turn = is; says = so; later_is = cc }
    by_saying apart t is false so k = absurd (cc)

    by_turn : is_repeated before p ≡ false → (o : Result Turn Cause) → turn_at c h p ≡ o → with_turn h at p o ≡ Ok later → IsEntered c h before p later
    by_turn apart (Err why) is k = absurd (cc)
    by_turn apart (Ok t) is k = by_saying apart t is (says p.entry.act (answer_of t)) refl k

    by_place : (b : Bool) → is_repeated before p ≡ b → (if b then Err (NotARun at cause.Repeated) else with_turn h at p (turn_at c h p)) ≡ Ok later → IsEntered c h before p later
    by_place true is k = absurd (cc)
    by_place false is k = by_turn is (turn_at c h p) refl k

enter : (c : Config) (h : List Turn) (before : Option Placed) (at : ℕ) (p : Placed) (t : Turn) → is_repeated before p ≡ false → turn_at c h p ≡ Ok t → says p.entry.act (answer_of t) ≡ true →
    after_entry c h before at p ≡ Ok (t ∷ h)
enter c h before at p t apart is so = rw (apart, is, so) refl

-- the event of an entry's turn
turn_of_entry : (c : Config) (h : List Turn) (p : Placed) (t : Turn) → turn_at c h p ≡ Ok t → says p.entry.act (answer_of t) ≡ true → IsTurnOf c h p t
turn_of_entry c h p t is so = by_event (event_of p.node p.entry.act) refl is
  where
    by_answer : (event : Event) → event_of p.node p.entry.act ≡ Some event → (r : Result Turn NotEnabled) → turn_of c h event ≡ r → turn_in r ≡ Ok t → IsTurnOf c h p t
    by_answer event is_event (Ok u) happens k =
        record { event = event; is_event = is_event; can_happen = happens ∙ ap (λ x. Ok x) (let l : u ≡ t = cc in l); says = says_so p.entry.act (answer_of t) so }
    by_answer event is_event (Err why) happens k = absurd (cc)

    by_event : (o : Option Event) → event_of p.node p.entry.act ≡ o → turn_if c h o ≡ Ok t → IsTurnOf c h p t
    by_event None is_event k = absurd (cc)
    by_event (Some event) is_event k = by_answer event is_event (turn_of c h event) refl k

turn_is_at : (c : Config) (h : List Turn) (p : Placed) (t : Turn) → IsTurnOf c h p t → turn_at c h p ≡ Ok t
turn_is_at c h p t k = ap (turn_if c h) k.is_event ∙ ap turn_in k.can_happen

-- ---- all entries

pub record AreEntered (c : Config) (h : List Turn) (before : Option Placed) (ps : List Placed) (later : List Turn) : Type 0 where
  pub unrepeated : AreUnrepeated before ps
  pub happen : Happen c h ps later

pub all_entered : (c : Config) (h : List Turn) (before : Option Placed) (at : ℕ) (ps : List Placed) (later : List Turn) → after_entries c h before at ps ≡ Ok later → AreEntered c h before ps later
all_entered c h before at [] later e = record { unrepeated = tt; happen = cc }
all_entered c h before at (p ∷ ps) later e = go (λ g k. all_entered c g (Some p) (at + 1) ps later k) (after_entry c h before at p) refl e
  where
    go : ((g : List Turn) → after_entries c g (Some p) (at + 1) ps ≡ Ok later → AreEntered c g (Some p) ps later) → (r : Found) → after_entry c h before at p ≡ r →
        then_on r (λ g. after_entries c g (Some p) (at + 1) ps) ≡ Ok later → AreEntered c h before (p ∷ ps) later
    go rest (Ok g) is k =
        let one = entered c h before at p g is in
        let all = rest g k in
        record {
          unrepeated = (one.unrepeated, all.unrepeated);
          happen = (one.turn, (turn_of_entry c h p one.turn one.is_turn one.says, subst (λ x. Happen c x ps later) (sym one.later_is) all.happen));
        }
    go rest (Err finding) is k = absurd (cc)

pub enter_all : (c : Config) (h : List Turn) (before : Option Placed) (at : ℕ) (ps : List Placed) (later : List Turn) → AreUnrepeated before ps → Happen c h ps later → after_entries c h before at ps ≡ Ok later
enter_all c h before at [] later apart happen = ap (λ x. Ok x) happen
enter_all c h before at (p ∷ ps) later apart happen =
    let t = happen.0 in
    let one = happen.1.0 in
    ap (λ r. then_on r (λ g. after_entries c g (Some p) (at + 1) ps)) (enter c h before at p t apart.0 (turn_is_at c h p t one) (so_says p.entry.act (answer_of t) one.says))
    ∙ enter_all c (t ∷ h) (Some p) (at + 1) ps later apart.1 happen.1.1

-- ---- the first fault

-- the first entry with a fault, after others
pub record IsFirstFault (c : Config) (h : List Turn) (before : Option Placed) (at : ℕ) (ps : List Placed) (finding : Finding) : Type 0 where
  pub front : List Placed
  pub entry : Placed
  pub back : List Placed
  pub entries_are : ps ≡ front ++ (entry ∷ back)
  pub unrepeated : AreUnrepeated before front
  pub turns : List Turn
  pub happen : Happen c h front turns
  pub finding_is : after_entry c turns (last_of before front) (at + length front) entry ≡ Err finding

pub first_fault : (c : Config) (h : List Turn) (before : Option Placed) (at : ℕ) (ps : List Placed) (finding : Finding) → after_entries c h before at ps ≡ Err finding → IsFirstFault c h before at ps finding
first_fault c h before at [] finding e = absurd (cc)
first_fault c h before at (p ∷ ps) finding e = go (λ g k. first_fault c g (Some p) (at + 1) ps finding k) (after_entry c h before at p) refl e
  where
    go : ((g : List Turn) → after_entries c g (Some p) (at + 1) ps ≡ Err finding → IsFirstFault c g (Some p) (at + 1) ps finding) → (r : Found) → after_entry c h before at p ≡ r →
        then_on r (λ g. after_entries c g (Some p) (at + 1) ps) ≡ Err finding → IsFirstFault c h before at (p ∷ ps) finding
    go rest (Ok g) is k =
        let one = entered c h before at p g is in
        let all = rest g k in
        let n : at + 1 + length all.front ≡ at + length (p ∷ all.front) = omega arith in
        record {
          front = p ∷ all.front;
          entry = all.entry;
          back = all.back;
          entries_are = ap (λ l. p ∷ l) all.entries_are;
          unrepeated = (one.unrepeated, all.unrepeated);
          turns = all.turns;
          happen = (one.turn, (turn_of_entry c h p one.turn one.is_turn one.says, subst (λ x. Happen c x all.front all.turns) (sym one.later_is) all.happen));
          finding_is = ap (λ m. after_entry c all.turns (last_of (Some p) all.front) m all.entry) (sym n) ∙ all.finding_is;
        }
    go rest (Err other) is k =
        let n : at + 0 ≡ at = omega arith in
        let same : other ≡ finding = cc in
        record {
          front = [];
          entry = p;
          back = ps;
          entries_are = refl;
          unrepeated = tt;
          turns = h;
          happen = refl;
          finding_is = ap (λ m. after_entry c h before m p) n ∙ is ∙ ap (λ f. Err f) same;
        }

-- what is found at an entry with a fault
abbrev pub Faulty : Config → List Turn → Option Placed → ℕ → Placed → Finding → Type 0
Faulty c h before at p finding =
    ((why : Cause) × ((finding ≡ NotARun at why) × IsCause c h before p why))
    ⊎ ((t : Turn) × ((finding ≡ TellDiffers at (answer_of t)) × ((is_repeated before p ≡ false) × ((turn_at c h p ≡ Ok t) × (says p.entry.act (answer_of t) ≡ false)))))

-- why an entry is no turn
cause_of : (c : Config) (h : List Turn) (before : Option Placed) (p : Placed) (why : Cause) → is_repeated before p ≡ false → turn_at c h p ≡ Err why → IsCause c h before p why
cause_of c h before p why apart e = by_event (event_of p.node p.entry.act) refl e
  where
    by_answer : (event : Event) → event_of p.node p.entry.act ≡ Some event → (r : Result Turn NotEnabled) → turn_of c h event ≡ r → turn_in r ≡ Err why → IsCause c h before p why
    by_answer event is_event (Ok t) happens k = absurd (cc)
    by_answer event is_event (Err reason) happens k = let same : cause.NotEnabled reason ≡ why = cc in subst (IsCause c h before p) same (apart, (event, (is_event, happens)))

    by_event : (o : Option Event) → event_of p.node p.entry.act ≡ o → turn_if c h o ≡ Err why → IsCause c h before p why
    by_event None is_event k = let same : cause.NoSuchAct ≡ why = cc in subst (IsCause c h before p) same (apart, is_event)
    by_event (Some event) is_event k = by_answer event is_event (turn_of c h event) refl k

pub faulty : (c : Config) (h : List Turn) (before : Option Placed) (at : ℕ) (p : Placed) (finding : Finding) → after_entry c h before at p ≡ Err finding → Faulty c h before at p finding
faulty c h before at p finding e = by_place (is_repeated before p) refl e
  where
    by_saying : is_repeated before p ≡ false → (t : Turn) → turn_at c h p ≡ Ok t → (b : Bool) → says p.entry.act (answer_of t) ≡ b →
        (if b then Ok (t ∷ h) else Err (TellDiffers at (answer_of t))) ≡ failed finding → Faulty c h before at p finding
    by_saying apart t is true so k = absurd (cc)
    by_saying apart t is false so k = let same : finding ≡ TellDiffers at (answer_of t) = cc in inr (t, (same, (apart, (is, so))))

    by_turn : is_repeated before p ≡ false → (o : Result Turn Cause) → turn_at c h p ≡ o → with_turn h at p o ≡ Err finding → Faulty c h before at p finding
    by_turn apart (Err why) is k = let same : finding ≡ NotARun at why = cc in inl (why, (same, cause_of c h before p why apart is))
    by_turn apart (Ok t) is k = by_saying apart t is (says p.entry.act (answer_of t)) refl k

    by_place : (b : Bool) → is_repeated before p ≡ b → (if b then Err (NotARun at cause.Repeated) else with_turn h at p (turn_at c h p)) ≡ Err finding → Faulty c h before at p finding
    by_place true is k = let same : finding ≡ NotARun at cause.Repeated = cc in inl (cause.Repeated, (same, is))
    by_place false is k = by_turn is (turn_at c h p) refl k
