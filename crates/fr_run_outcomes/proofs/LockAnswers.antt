-- What a recoverer that locks logs is once it heard one, and the room that there is then.
use Rattle.std.proofs.Common.{◌≡◌, ℕ, ◌+◌, ◌-◌, ◌<◌, ◌≤◌, ◌^◌, Bool, true, false, cond, not, nat_lt, nat_le, min, fold, ◌==◌, ◌&&◌, ◌||◌, List, [], ◌∷◌, ◌++◌, length, drop, Option, None, Some, inl, inr, ◌⊎◌, refl, sym, ◌∙◌, ap, subst, arith}
use Rattle.std.specs.Prelude.{is_some, is_none, Result, Ok, Err}
use Rattle.std.specs.List.{Contains, list_any}
use Rattle.std.proofs.lemmas.Bool.{eq-eqb, lt-ltb, lt-leb, true≢false}
use Rattle.std.proofs.lemmas.List.{length-drop}
use Rattle.std.proofs.lemmas.List.Elements.{Contains-append_cases}
use Rattle.std.proofs.lemmas.List.Folds.{list_any-append}
use Rattle.fr_base.specs.declared.place.NodeId.TheVariants as node
use Rattle.fr_state.specs.Generations.{LogGeneration, CoordinatedState, IsCoordinatedState}
use Rattle.fr_state.specs.Order.{extended, is_ordered}
use Rattle.fr_state.specs.declared.fault.StateFault.{StateFault}
use Rattle.fr_state.specs.declared.fault.StateFault.TheVariants as fault
use Rattle.fr_log.specs.Law.{AskIsChange}
use Rattle.fr_log.specs.LogState.{LogState, durable_of, known_of}
use Rattle.fr_log.specs.Refusal.{lock_refusal}
use Rattle.fr_log.specs.Step.{answer_of, answer_unless}
use Rattle.fr_log.specs.declared.ask.LogAsk.TheVariants.{Lock}
use Rattle.fr_log.specs.declared.ask.LogRefusal.TheVariants.{WrongEpoch, Unseeded}
use Rattle.fr_log.specs.declared.ask.LogTell.TheVariants.{Locked}
use Rattle.fr_log.specs.declared.popped.PoppedTag.{PoppedTag}
use Rattle.fr_ask.specs.declared.tell.Tell.TheVariants as tell
use Rattle.fr_epoch.specs.declared.reply.Reply.{Reply}
use Rattle.fr_epoch.specs.Dropping.{left_by}
use Rattle.fr_epoch.specs.DroppingLaws.{IsLeftBy}
use Rattle.fr_epoch.specs.EndTally.{EndState, has_replied, counts, with_reply, is_covered, least_durable, pev_of, rv_of}
use Rattle.fr_epoch.specs.Recoverer.{RecState, Parent, Locking, Lost}
use Rattle.fr_epoch.specs.Words.{OfLog, Replied, Nothing, heed_in, heed_locked}
use Rattle.fr_epoch.specs.Hear.{lost, with_lock, plan_of, with_plan, ended, left_of, next_generation, after_heed, after_hear}
use Rattle.fr_epoch.specs.Asks.{left}
use Rattle.fr_epoch.specs.declared.why.LostWhy.{LostWhy}
use Rattle.fr_epoch.specs.declared.why.LostWhy.TheVariants as why
use Rattle.fr_run.specs.AskLaws.{SentIsAccounted}
use Rattle.fr_run.specs.Config.{Config}
use Rattle.fr_run.specs.Turn.{Turn}
use Rattle.fr_run.specs.Nodes.{rec_at}
use Rattle.fr_run.specs.Run.{IsRun}
use Rattle.fr_run.specs.StateLaws.{IsConfig}
use Rattle.fr_run.specs.Laws.{Laws}
use Rattle.fr_run.proofs.Growth.{rec_is}
use Rattle.fr_run.proofs.Cells.{Contains-none, Contains-cases}
use Rattle.fr_run.proofs.Parents.{parent_is_planned}
use Rattle.fr_run_headline.specs.SeededLaws.{ChosenIsSeeded, WritingIsSeeded}
use Rattle.fr_run_outcomes.specs.Lost.{LostOnlySo}
use Rattle.fr_run_outcomes.specs.Pending.{PendingIsSent}
use Rattle.fr_run_outcomes.specs.Locking.{HasRoomIn, HasPlan, LacksRoom}
use Rattle.fr_run_outcomes.proofs.Waiting.{never_memory}

-- ---- what is ended

-- there is a plan, or there was no room at an earlier moment
abbrev pub HasEnded : Config → List Turn → Parent → RecState → Type 0
HasEnded c h p n = HasPlan n ⊎ LacksRoom c h p n

-- a list that is left of the parent, and the end that replies tell, in which there is no room for the reason of a loss
pub record IsLostSo (left : CoordinatedState) (end : EndState) (n : RecState) : Type 0 where
  pub reason : LostWhy
  pub is : n.phase ≡ Lost reason
  pub other : reason ≡ why.Outballoted → ⊥
  pub many : reason ≡ why.TooMany → nat_lt (length left.gens) 64 ≡ false
  pub spent : reason ≡ why.Spent → nat_le (2 ^ 62) (rv_of end + 1) ≡ true

-- replies that cover end it: there is a plan, or a reason, which is not that it was outballoted; and its replies stay
pub record IsEndedSo (r : RecState) (p : Parent) (end : EndState) (n : RecState) : Type 0 where
  pub tally_is : n.end ≡ r.end
  pub parent_is : n.parent ≡ r.parent
  pub so : HasPlan n ⊎ IsLostSo (left_of r p) end n

pub too_many : (s : CoordinatedState) (g : LogGeneration) → extended s g ≡ Err fault.TooMany → nat_lt (length s.gens) 64 ≡ false
too_many s g = go (is_ordered (s.gens ++ g ∷ [])) (nat_lt (length s.gens) 64)
  where
    go : (a b : Bool) → cond a (cond b (Ok (record s { gens = s.gens ++ g ∷ [] })) (Err fault.TooMany)) (Err fault.NotLater) ≡ Err fault.TooMany → b ≡ false
    go true true e = absurd (cc)
    go true false e = refl
    go false b e = (let d : fault.NotLater ≡ fault.TooMany = cc in absurd (cc))

plan_so : (r : RecState) (p : Parent) (end : EndState) (o : Result CoordinatedState StateFault) → (o ≡ Err fault.Memory → ⊥) → (o ≡ Err fault.TooMany → nat_lt (length (left_of r p).gens) 64 ≡ false) → IsEndedSo r p end (with_plan r p end o)
plan_so r p end (Ok s) never full = record { tally_is = refl; parent_is = refl; so = inl (refl, (plan_of r p end s, refl)) }
plan_so r p end (Err fault.NotLater) never full = record { tally_is = refl; parent_is = refl; so = inr (record { reason = why.NotLater; is = refl; other = λ e. absurd (cc); many = λ e. absurd (cc); spent = λ e. absurd (cc) }) }
plan_so r p end (Err fault.TooMany) never full = record { tally_is = refl; parent_is = refl; so = inr (record { reason = why.TooMany; is = refl; other = λ e. absurd (cc); many = λ e. full refl; spent = λ e. absurd (cc) }) }
plan_so r p end (Err fault.Memory) never full = absurd (never refl)

pub ended_so : (r : RecState) (p : Parent) (end : EndState) → IsEndedSo r p end (ended r p end)
ended_so r p end = odds (nat_lt (rv_of end) (pev_of end)) (nat_le (2 ^ 62) (rv_of end + 1)) refl
  where
    odds : (a b : Bool) → nat_le (2 ^ 62) (rv_of end + 1) ≡ b → IsEndedSo r p end (cond a (lost r why.Inconsistent) (cond b (lost r why.Spent) (with_plan r p end (extended (left_of r p) (next_generation r p end)))))
    odds true b e = record { tally_is = refl; parent_is = refl; so = inr (record { reason = why.Inconsistent; is = refl; other = λ d. absurd (cc); many = λ d. absurd (cc); spent = λ d. absurd (cc) }) }
    odds false true e = record { tally_is = refl; parent_is = refl; so = inr (record { reason = why.Spent; is = refl; other = λ d. absurd (cc); many = λ d. absurd (cc); spent = λ d. e }) }
    odds false false e = plan_so r p end (extended (left_of r p) (next_generation r p end)) (never_memory (left_of r p) (next_generation r p end)) (too_many (left_of r p) (next_generation r p end))

-- of the reasons none but want of room is left, and where there was room there is none
pub has_ended : LostOnlySo → (c : Config) (h later : List Turn) → IsConfig c → IsRun c later → (b : ℕ) (p : Parent) (left : CoordinatedState) (end : EndState) (n : RecState) → rec_at c later b ≡ Some n
    → (HasRoomIn c h p.state p.last → nat_lt (length left.gens) 64 ≡ true) → (HasRoomIn c h p.state p.last → nat_le (2 ^ 62) (rv_of end + 1) ≡ false) → HasPlan n ⊎ IsLostSo left end n → HasPlan n ⊎ LacksRoom c h p n
has_ended only c h later config run b p left end n at fits unspent (inl copies) = inl copies
has_ended only c h later config run b p left end n at fits unspent (inr k) = elim (only c later config run b n k.reason at k.is) [
  | inl outballoted ↦ absurd (k.other outballoted)
  | inr room ↦ elim room [
    | inl many ↦ inr (record { found = inl (k.is ∙ ap Lost many); never = λ has. true≢false (sym (fits has) ∙ k.many many) })
    | inr spent ↦ inr (record { found = inr (k.is ∙ ap Lost spent); never = λ has. true≢false (sym (k.spent spent) ∙ unspent has) })
  ]
]

-- ---- room

-- what is left of a parent has no more generations
pub left_fits : Laws → (s : CoordinatedState) (shown : List PoppedTag) (tags : List ℕ) → IsCoordinatedState s → length s.gens < 64 → nat_lt (length (left_by s shown tags).gens) 64 ≡ true
left_fits laws s shown tags sound few = lt-ltb (length (left_by s shown tags).gens) 64 (omega (arith, same, short, few))
  where
    less : IsLeftBy s shown tags
    less = laws.left s shown tags sound

    same : length (left_by s shown tags).gens ≡ length (drop less.number s.gens)
    same = ap (λ (x : CoordinatedState). length x.gens) less.is

    short : length (drop less.number s.gens) ≡ length s.gens - less.number
    short = length-drop less.number s.gens

-- the end is no greater than what the last reply told
fold_low : (v : ℕ) (rs : List Reply) (x : Reply) → fold (λ w (q : Reply). min w q.durable) v (rs ++ x ∷ []) ≤ x.durable
fold_low v [] x = omega arith
fold_low v (r ∷ rs) x = fold_low (min v r.durable) rs x

least_last : (rs : List Reply) (x : Reply) → least_durable (rs ++ x ∷ []) ≤ x.durable
least_last [] x = omega arith
least_last (r ∷ rs) x = fold_low r.durable rs x

pub low_enough : (n rv d x : ℕ) → rv ≤ d → d ≡ x → x + 1 < n → rv + 1 < n
low_enough n rv d x low same less = omega (arith, low, same, less)

pub not_spent : (n v : ℕ) → v < n → nat_le n v ≡ false
not_spent n v less = lt-leb n v less

-- the epoch that a recoverer ends is not its own
pub other_last : Laws → (c : Config) (h : List Turn) → IsConfig c → IsRun c h → (b : ℕ) (r : RecState) (p : Parent) → rec_at c h b ≡ Some r → r.parent ≡ Some p → p.last.epoch ≡ b → ⊥
other_last laws c h config run b r p at parent same = elim (parent_is_planned laws c h config run b r p at parent) [
  | inl first ↦ (rec_is laws c h run b r at).other (sym same ∙ first)
  | inr below ↦ (let less = below.below in omega (arith, less, same))
]

-- ---- an answer to a lock

pub some_not_none : {X : Type 0} (o : Option X) → is_some o ≡ true → is_none o ≡ false
some_not_none None e = absurd (true≢false (sym e))
some_not_none (Some x) e = refl

-- a seeded log answers the lock of its epoch
pub locks : (l : LogState) (e : ℕ) → l.epoch ≡ e → is_some l.seed ≡ true → answer_of l (Lock e) ≡ Locked (durable_of l) (known_of l) l.popped
locks l e own seeded = ap (λ o. answer_unless o (Locked (durable_of l) (known_of l) l.popped)) none
  where
    none : lock_refusal l e ≡ None
    none =
        ap (λ x. cond (not x) (Some WrongEpoch) (cond (is_none l.seed) (Some Unseeded) None)) (eq-eqb e l.epoch (sym own))
        ∙ ap (λ x. cond x (Some Unseeded) None) (some_not_none l.seed seeded)

-- what a recoverer that locks is once it heard one
pub lock_heard : (r : RecState) (p : Parent) (end : EndState) (i d k : ℕ) (ps : List PoppedTag) → r.phase ≡ Locking → r.parent ≡ Some p → r.end ≡ Some end → (x : Bool) → is_covered (with_reply end (record { log = i; durable = d; known = k })) ≡ x
    → after_hear r (node.Log p.last.epoch i) (tell.Log (Locked d k ps))
    ≡ cond x (ended (with_lock r end i d k ps) p (with_reply end (record { log = i; durable = d; known = k }))) (with_lock r end i d k ps)
lock_heard r p end i d k ps phase parent tallied x e =
    ap (after_heed r) (
    ap (λ ph. heed_in ph r (OfLog p.last.epoch i (Locked d k ps))) phase
    ∙ ap (λ o. heed_locked o r.end p.last.epoch i d k ps) parent
    ∙ ap (λ o. heed_locked (Some p) o p.last.epoch i d k ps) tallied
    ∙ ap (λ y. cond y (Replied p end i d k ps) Nothing) (eq-eqb p.last.epoch p.last.epoch refl))
    ∙ ap (λ y. cond y (ended (with_lock r end i d k ps) p (with_reply end (record { log = i; durable = d; known = k }))) (with_lock r end i d k ps)) e

-- ---- replies

-- the replies with one more
pub reply_cases : (end : EndState) (x y : Reply) → Contains (with_reply end x).replies y → Contains end.replies y ⊎ (x ≡ y)
reply_cases end x y = go (counts end x.log)
  where
    go : (b : Bool) → Contains (cond b (record end { replies = end.replies ++ x ∷ [] }) end).replies y → Contains end.replies y ⊎ (x ≡ y)
    go false k = inl k
    go true k = elim (Contains-append_cases end.replies (x ∷ []) y k) [
      | inl before ↦ inl before
      | inr now ↦ elim (Contains-cases x [] y now) [ inl same ↦ inr same | inr none ↦ absurd (Contains-none none) ]
    ]

pub or_true : (b : Bool) → (b || true) ≡ true
or_true true = refl
or_true false = refl

counted : (end : EndState) (x : Reply) → x.log < end.m → has_replied end x.log ≡ false → counts end x.log ≡ true
counted end x below fresh = ap (λ b. b && not (has_replied end x.log)) (lt-ltb x.log end.m below) ∙ ap not fresh

-- so the end is no greater than what it told
pub reply_low : (end : EndState) (x : Reply) → x.log < end.m → has_replied end x.log ≡ false → rv_of (with_reply end x) ≤ x.durable
reply_low end x below fresh = subst (λ b. rv_of (cond b (record end { replies = end.replies ++ x ∷ [] }) end) ≤ x.durable) (sym (counted end x below fresh)) (least_last end.replies x)

pub reply_counts : (end : EndState) (x : Reply) → x.log < end.m → has_replied end x.log ≡ false → has_replied (with_reply end x) x.log ≡ true
reply_counts end x below fresh = subst (λ b. has_replied (cond b (record end { replies = end.replies ++ x ∷ [] }) end) x.log ≡ true) (sym (counted end x below fresh)) last
  where
    last : list_any (λ (r : Reply). r.log == x.log) (end.replies ++ x ∷ []) ≡ true
    last = list_any-append (λ (r : Reply). r.log == x.log) end.replies (x ∷ []) ∙ ap (λ b. list_any (λ (r : Reply). r.log == x.log) end.replies || (b || false)) (eq-eqb x.log x.log refl) ∙ or_true (list_any (λ (r : Reply). r.log == x.log) end.replies)

pub reply_shape : (end : EndState) (x : Reply) → ((with_reply end x).m ≡ end.m) × ((with_reply end x).k ≡ end.k)
reply_shape end x = go (counts end x.log)
  where
    go : (b : Bool) → ((cond b (record end { replies = end.replies ++ x ∷ [] }) end).m ≡ end.m) × ((cond b (record end { replies = end.replies ++ x ∷ [] }) end).k ≡ end.k)
    go true = (refl, refl)
    go false = (refl, refl)

-- what holds of the nodes
pub record LockRules : Type 0 where
  pub laws : Laws
  pub changes : AskIsChange
  pub accounted : SentIsAccounted
  pub sent : PendingIsSent
  pub only : LostOnlySo
  pub chosen : ChosenIsSeeded
  pub writing : WritingIsSeeded
