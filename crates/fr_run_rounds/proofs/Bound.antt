-- A recoverer of which enough nodes answer is over after four rounds and those in which it copies.
use Rattle.std.proofs.Common.{◌≡◌, ℕ, zero, suc, ◌+◌, ◌*◌, ◌<◌, ◌≤◌, Bool, true, false, cond, nat_lt, ◌==◌, List, [], ◌∷◌, ◌++◌, append_assoc, length, Option, None, Some, inl, inr, ◌⊎◌, refl, sym, ◌∙◌, ap, subst, arith}
use Rattle.std.specs.Prelude.{is_some}
use Rattle.std.specs.List.{Contains}
use Rattle.std.proofs.lemmas.Bool.{cases_lt, eq-eqb, ltb-true, ltb-false}
use Rattle.std.proofs.lemmas.List.Elements.{Contains-append_left}
use Rattle.fr_base.specs.declared.place.NodeId.{NodeId}
use Rattle.fr_base.specs.declared.place.NodeId.TheVariants as node
use Rattle.fr_log.specs.declared.popped.PoppedTag.{PoppedTag}
use Rattle.fr_state.specs.Generations.{LogGeneration}
use Rattle.fr_tail.specs.Tail.{TagPart, new_part, part_at}
use Rattle.fr_epoch.specs.declared.reply.Reply.{Reply}
use Rattle.fr_epoch.specs.EndTally.{EndState, counts, with_reply}
use Rattle.fr_epoch.specs.Recoverer.{RecState, Phase, Parent, Plan, Reading, Locking, Copying, Writing, Chosen, Lost, is_copied_in, is_copied}
use Rattle.fr_epoch.specs.Words.{Word, word_of}
use Rattle.fr_epoch.specs.Hear.{after_hear}
use Rattle.fr_epoch.specs.Asks.{phase_number}
use Rattle.fr_epoch.specs.Change.{Change, Stands, LosesReads, Reads, Finds, Locks, LosesLocks, Plans, Copies, Seeds, SeedsAll, Writes, LosesWrites, Chooses, Marks, IsReplied}
use Rattle.fr_run.specs.Config.{Config}
use Rattle.fr_run.specs.Turn.{Turn}
use Rattle.fr_run.specs.Nodes.{rec_at}
use Rattle.fr_run.specs.Run.{IsRun}
use Rattle.fr_run.specs.StateLaws.{IsConfig}
use Rattle.fr_run.specs.Laws.{Laws}
use Rattle.fr_run.proofs.Growth.{rec_is}
use Rattle.fr_run_headline.specs.LogLaws.{tally_in, tally}
use Rattle.fr_run_outcomes.proofs.Copying.{all_true}
use Rattle.fr_run_rounds.specs.Rounds.{IsRound, turns_of, AreRounds}
use Rattle.fr_run_rounds.specs.Ending.{EnoughAnswer, ReadingIsOneRound, LockingIsOneRound, HasCopied, CopyingBringsRecords, SeedingIsOneRound, WritingIsOneRound, IsOver, CopiesFewer, EndsInRounds}
use Rattle.fr_run_rounds.proofs.Along.{HoldsOf, holds_at, Keeps, along, run_back, IsFrom, from_change, from_keeps, phase_reading, phase_locking, phase_copying, phase_writing}
use Rattle.fr_run_rounds.proofs.Behind.{HasPlanOf, plan_now, plan_keeps, parent_keeps}
use Rattle.fr_run_rounds.proofs.Found.{copying_parent, copying_plan}
use Rattle.fr_run_rounds.proofs.PeekSteps.{PeekRules, HasMany, many_keeps}

-- ---- what is so at the end was so before

-- a reply that counted stays
record HasReply (x : Reply) (r : RecState) : Type 0 where
  low : IsFrom 1 r
  there : Contains (tally r).replies x

reply_more : (end : EndState) (y x : Reply) → Contains end.replies x → Contains (with_reply end y).replies x
reply_more end y x k = go (counts end y.log)
  where
    go : (b : Bool) → Contains (cond b (record end { replies = end.replies ++ y ∷ [] }) end).replies x
    go true = Contains-append_left end.replies (y ∷ []) x k
    go false = k

tally_more : (x : Reply) (r : RecState) (w : Word) (p : Parent) (end : EndState) (i d f : ℕ) (ps : List PoppedTag) → IsReplied r w p end i d f ps → Contains (tally r).replies x → Contains (with_reply end (record { log = i; durable = d; known = f })).replies x
tally_more x r w p end i d f ps heard k = reply_more end (record { log = i; durable = d; known = f }) x (subst (λ o. Contains (tally_in o).replies x) heard.tally k)

reply_kept : (x : Reply) (r : RecState) (w : Word) (n : RecState) → Change r w n → IsFrom 1 r → Contains (tally r).replies x → Contains (tally n).replies x
reply_kept x r w n Stands low k = k
reply_kept x r w n (LosesReads i t y heard) low k = k
reply_kept x r w n (Reads i t heard) low k = k
reply_kept x r w n (Finds i t s g heard found) low k = absurd (let none : phase_number r.phase ≡ 0 = ap phase_number heard.phase in omega (arith, low, none))
reply_kept x r w n (Locks p end i d f ps heard) low k = tally_more x r w p end i d f ps heard k
reply_kept x r w n (LosesLocks p end i d f ps y heard) low k = tally_more x r w p end i d f ps heard k
reply_kept x r w n (Plans p end i d f ps s heard fixed) low k = tally_more x r w p end i d f ps heard k
reply_kept x r w n (Copies parent p i peeked given) low k = k
reply_kept x r w n (Seeds p i new not_yet) low k = k
reply_kept x r w n (SeedsAll p i new all) low k = k
reply_kept x r w n (Writes i t heard) low k = k
reply_kept x r w n (LosesWrites i t y heard) low k = k
reply_kept x r w n (Chooses i t heard m) low k = k
reply_kept x r w n (Marks p i new) low k = k

reply_keeps : Laws → (c : Config) (b : ℕ) (x : Reply) → Keeps c b (HasReply x)
reply_keeps laws c b x h run r from u at told k = record {
  low = from_change 1 r (word_of from u) (after_hear r from u) (laws.rec_change r from u) k.low;
  there = reply_kept x r (word_of from u) (after_hear r from u) (laws.rec_change r from u) k.low k.there;
}

not_reading : (ph : Phase) → (ph ≡ Reading → ⊥) → 1 ≤ phase_number ph
not_reading Reading never = absurd (never refl)
not_reading Locking never = omega arith
not_reading Copying never = omega arith
not_reading Writing never = omega arith
not_reading Chosen never = omega arith
not_reading (Lost why) never = omega arith

-- one with a parent has read
parent_from : Laws → (c : Config) (h : List Turn) → IsRun c h → (b : ℕ) (r : RecState) (p : Parent) → rec_at c h b ≡ Some r → r.parent ≡ Some p → IsFrom 1 r
parent_from laws c h run b r p at parent = not_reading r.phase (λ e. (let d : None ≡ Some p = sym ((rec_is laws c h run b r at).kept.come_by.reading e) ∙ parent in absurd (cc)))

enough_before : Laws → (c : Config) (h turns : List Turn) → IsRun c (turns ++ h) → (b : ℕ) (answers : NodeId → Bool) (r n : RecState) → rec_at c h b ≡ Some r → rec_at c (turns ++ h) b ≡ Some n → EnoughAnswer c answers n → EnoughAnswer c answers r
enough_before laws c h turns run b answers r n at there k = record {
  cells = k.cells;
  few = λ p parent. k.few p (later_parent p parent);
  replied = λ p parent x has. k.replied p (later_parent p parent) x
      (holds_at (rec_at c (turns ++ h) b) (HasReply x) (along c b (HasReply x) (reply_keeps laws c b x) turns h run r at (record { low = parent_from laws c h run_start b r p at parent; there = has })) n there).there;
  new = λ q plan i below. later_new q (holds_at (rec_at c (turns ++ h) b) (HasPlanOf q) (along c b (HasPlanOf q) (plan_keeps laws c b q) turns h run r at (plan_now r q plan)) n there) i below;
}
  where
    run_start : IsRun c h
    run_start = run_back c turns h run

    later_parent : (p : Parent) → r.parent ≡ Some p → n.parent ≡ Some p
    later_parent p parent = holds_at (rec_at c (turns ++ h) b) (λ x. x.parent ≡ Some p) (along c b (λ x. x.parent ≡ Some p) (parent_keeps laws c b p) turns h run r at parent) n there

    later_new : (q : Plan) → HasPlanOf q n → (i : ℕ) → i < q.generation.m → answers (node.Log r.ballot i) ≡ true
    later_new q has i below =
        let many = ap (λ (g : LogGeneration). g.m) has.same.generation in
        subst (λ x. answers (node.Log x i) ≡ true) ((rec_is laws c (turns ++ h) run b n there).ballot ∙ sym (rec_is laws c h run_start b r at).ballot) (k.new has.plan has.is i (omega (arith, many, below)))

fewer_before : (c : Config) → PeekRules c → (h turns : List Turn) → IsRun c (turns ++ h) → (b : ℕ) (r n : RecState) → rec_at c h b ≡ Some r → rec_at c (turns ++ h) b ≡ Some n → (records : ℕ) → CopiesFewer c n records → CopiesFewer c r records
fewer_before c rules h turns run b r n at there records k q plan tag inside = go (cases_lt (length (part_at q.tail tag).records) records)
  where
    go : (length (part_at q.tail tag).records < records) ⊎ (records ≤ length (part_at q.tail tag).records) → length (part_at q.tail tag).records < records
    go (inl less) = less
    go (inr many) =
        let later = holds_at (rec_at c (turns ++ h) b) (HasMany tag records) (along c b (HasMany tag records) (many_keeps c rules b tag records inside) turns h run r at (record { plan = q; is = plan; many = many })) n there in
        let less = k later.plan later.is tag inside in
        let more = later.many in
        absurd (omega (arith, less, more))

-- ---- one round

-- the laws of the phases
pub record RoundRules : Type 0 where
  pub laws : Laws
  pub peeks : (c : Config) → IsConfig c → PeekRules c
  pub reading : ReadingIsOneRound
  pub locking : LockingIsOneRound
  pub copying : CopyingBringsRecords
  pub seeding : SeedingIsOneRound
  pub writing : WritingIsOneRound

-- a round from one moment to another
record OneRound (c : Config) (answers : NodeId → Bool) (b : ℕ) (h turns : List Turn) (r n : RecState) : Type 0 where
  run : IsRun c (turns ++ h)
  round : IsRound c answers b h turns
  at : rec_at c h b ≡ Some r
  there : rec_at c (turns ++ h) b ≡ Some n
  enough : EnoughAnswer c answers n

later_from : Laws → (c : Config) (answers : NodeId → Bool) (b : ℕ) (h turns : List Turn) (r n : RecState) → OneRound c answers b h turns r n → (k : ℕ) → IsFrom k r → IsFrom k n
later_from laws c answers b h turns r n o k low = holds_at (rec_at c (turns ++ h) b) (IsFrom k) (along c b (IsFrom k) (from_keeps laws c b k) turns h o.run r o.at low) n o.there

not_locking : (ph : Phase) → 1 ≤ phase_number ph → (ph ≡ Locking → ⊥) → 2 ≤ phase_number ph
not_locking Reading low never = absurd (omega (arith, low))
not_locking Locking low never = absurd (never refl)
not_locking Copying low never = omega arith
not_locking Writing low never = omega arith
not_locking Chosen low never = omega arith
not_locking (Lost why) low never = omega arith

not_copying : (ph : Phase) → 2 ≤ phase_number ph → (ph ≡ Copying → ⊥) → 3 ≤ phase_number ph
not_copying Reading low never = absurd (omega (arith, low))
not_copying Locking low never = absurd (omega (arith, low))
not_copying Copying low never = absurd (never refl)
not_copying Writing low never = omega arith
not_copying Chosen low never = omega arith
not_copying (Lost why) low never = omega arith

not_writing : (ph : Phase) → 3 ≤ phase_number ph → (ph ≡ Writing → ⊥) → 4 ≤ phase_number ph
not_writing Reading low never = absurd (omega (arith, low))
not_writing Locking low never = absurd (omega (arith, low))
not_writing Copying low never = absurd (omega (arith, low))
not_writing Writing low never = absurd (never refl)
not_writing Chosen low never = omega arith
not_writing (Lost why) low never = omega arith

one_read : RoundRules → (c : Config) → IsConfig c → (answers : NodeId → Bool) (b : ℕ) (h turns : List Turn) (r n : RecState) → OneRound c answers b h turns r n → IsFrom 1 n
one_read rules c config answers b h turns r n o = go (nat_lt (phase_number r.phase) 1) refl
  where
    go : (x : Bool) → nat_lt (phase_number r.phase) 1 ≡ x → IsFrom 1 n
    go true e = not_reading n.phase (λ still. rules.reading c h turns config o.run b answers o.round o.enough.cells r n o.at (phase_reading r.phase (ltb-true (phase_number r.phase) 1 e)) o.there still)
    go false e = later_from rules.laws c answers b h turns r n o 1 (ltb-false (phase_number r.phase) 1 e)

one_lock : RoundRules → (c : Config) → IsConfig c → (answers : NodeId → Bool) (b : ℕ) (h turns : List Turn) (r n : RecState) → OneRound c answers b h turns r n → IsFrom 1 r → IsFrom 2 n
one_lock rules c config answers b h turns r n o low = go (nat_lt (phase_number r.phase) 2) refl
  where
    go : (x : Bool) → nat_lt (phase_number r.phase) 2 ≡ x → IsFrom 2 n
    go true e =
        not_locking n.phase (later_from rules.laws c answers b h turns r n o 1 low)
        (λ still. rules.locking c h turns config o.run b answers o.round r n o.at (phase_locking r.phase low (ltb-true (phase_number r.phase) 2 e)) o.there o.enough.few still)
    go false e = later_from rules.laws c answers b h turns r n o 2 (ltb-false (phase_number r.phase) 2 e)

-- it copies, and so many records of each tag are copied, or all; or it has copied and seeded
abbrev Carries : Config → ℕ → RecState → Type 0
Carries c records r = ((r.phase ≡ Copying) × HasCopied c r records) ⊎ IsFrom 3 r

copying_or : (r : RecState) → IsFrom 2 r → (r.phase ≡ Copying) ⊎ IsFrom 3 r
copying_or r low = go (nat_lt (phase_number r.phase) 3) refl
  where
    go : (x : Bool) → nat_lt (phase_number r.phase) 3 ≡ x → (r.phase ≡ Copying) ⊎ IsFrom 3 r
    go true e = inl (phase_copying r.phase low (ltb-true (phase_number r.phase) 3 e))
    go false e = inr (ltb-false (phase_number r.phase) 3 e)

one_copy : RoundRules → (c : Config) → IsConfig c → (answers : NodeId → Bool) (b : ℕ) (h turns : List Turn) (r n : RecState) → OneRound c answers b h turns r n → (records : ℕ) → Carries c records r → Carries c (records + 100) n
one_copy rules c config answers b h turns r n o records (inr up) = inr (later_from rules.laws c answers b h turns r n o 3 up)
one_copy rules c config answers b h turns r n o records (inl (phase, copied)) =
    elim (copying_or n (later_from rules.laws c answers b h turns r n o 2 (let two : phase_number r.phase ≡ 2 = ap phase_number phase in omega (arith, two)))) [
      | inl still ↦ inl (still, rules.copying c h turns config o.run b answers o.round r n o.at phase o.there o.enough.replied records copied)
      | inr up ↦ inr up
    ]

-- all is copied, or seeded too
abbrev HasAll : RecState → Type 0
HasAll r = ((r.phase ≡ Copying) × (is_copied r ≡ true)) ⊎ IsFrom 3 r

one_seed : RoundRules → (c : Config) → IsConfig c → (answers : NodeId → Bool) (b : ℕ) (h turns : List Turn) (r n : RecState) → OneRound c answers b h turns r n → HasAll r → IsFrom 3 n
one_seed rules c config answers b h turns r n o (inr up) = later_from rules.laws c answers b h turns r n o 3 up
one_seed rules c config answers b h turns r n o (inl (phase, copied)) =
    not_copying n.phase (later_from rules.laws c answers b h turns r n o 2 (let two : phase_number r.phase ≡ 2 = ap phase_number phase in omega (arith, two)))
    (λ still. rules.seeding c h turns config o.run b answers o.round r n o.at phase copied o.there o.enough.new still)

one_write : RoundRules → (c : Config) → IsConfig c → (answers : NodeId → Bool) (b : ℕ) (h turns : List Turn) (r n : RecState) → OneRound c answers b h turns r n → IsFrom 3 r → IsFrom 4 n
one_write rules c config answers b h turns r n o low = go (nat_lt (phase_number r.phase) 4) refl
  where
    go : (x : Bool) → nat_lt (phase_number r.phase) 4 ≡ x → IsFrom 4 n
    go true e =
        not_writing n.phase (later_from rules.laws c answers b h turns r n o 3 low)
        (λ still. rules.writing c h turns config o.run b answers o.round o.enough.cells r n o.at (phase_writing r.phase low (ltb-true (phase_number r.phase) 4 e)) o.there still)
    go false e = later_from rules.laws c answers b h turns r n o 4 (ltb-false (phase_number r.phase) 4 e)

-- a copy that has fewer records of each tag than were carried has all
is_whole : (c : Config) → PeekRules c → (h : List Turn) → IsRun c h → (b : ℕ) (r : RecState) → rec_at c h b ≡ Some r → (records : ℕ) → CopiesFewer c r records → Carries c records r → HasAll r
is_whole c rules h run b r at records fewer (inr up) = inr up
is_whole c rules h run b r at records fewer (inl (phase, copied)) = inl (phase, whole)
  where
    parts : (p : Parent) (q : Plan) → r.parent ≡ Some p → r.plan ≡ Some q → length q.tail.parts ≡ length c.begins
    parts p q parent plan = (rules.copies c h rules.config run b r p q at parent plan).tags

    full : (q : Plan) → r.plan ≡ Some q → (tag : ℕ) → tag < length c.begins → (part_at q.tail tag).reached ≡ q.tail.rv
    full q plan tag inside = elim (copied q plan tag inside) [ inl all ↦ all | inr many ↦ absurd (let less = fewer q plan tag inside in omega (arith, less, many)) ]

    p : (p : Parent) × (r.parent ≡ Some p)
    p = copying_parent rules.laws c h run b r at phase

    q : (q : Plan) × (r.plan ≡ Some q)
    q = copying_plan rules.laws c h run b r at phase

    whole : is_copied r ≡ true
    whole =
        ap is_copied_in q.1
        ∙ all_true (λ (y : TagPart). y.reached == q.0.tail.rv) q.0.tail.parts (new_part q.0.tail.pev) (λ t below. eq-eqb (part_at q.0.tail t).reached q.0.tail.rv (full q.0 q.1 t (let e = parts p.0 q.0 p.1 q.1 in omega (arith, e, below))))

-- ---- rounds

-- what there is at the end of the last of some rounds
record LastRound (c : Config) (answers : NodeId → Bool) (b : ℕ) (h : List Turn) (round : List Turn) (rounds : List (List Turn)) (n : RecState) : Type 0 where
  run : IsRun c (turns_of rounds ++ h)
  recoverer : RecState
  at : rec_at c (turns_of rounds ++ h) b ≡ Some recoverer
  enough : EnoughAnswer c answers recoverer
  last : OneRound c answers b (turns_of rounds ++ h) round recoverer n

-- the recoverer began before these rounds
record Course (c : Config) (answers : NodeId → Bool) (b : ℕ) (h : List Turn) (rounds : List (List Turn)) (n : RecState) : Type 0 where
  begun : RecState
  start : rec_at c h b ≡ Some begun
  run : IsRun c (turns_of rounds ++ h)
  are : AreRounds c answers b h rounds
  at : rec_at c (turns_of rounds ++ h) b ≡ Some n
  enough : EnoughAnswer c answers n

last_round : Laws → (c : Config) (answers : NodeId → Bool) (b : ℕ) (h round : List Turn) (rounds : List (List Turn)) (n : RecState) → Course c answers b h (round ∷ rounds) n → LastRound c answers b h round rounds n
last_round laws c answers b h round rounds n k = record {
  run = run_back c round (turns_of rounds ++ h) run;
  recoverer = before.recoverer;
  at = before.is;
  enough = enough_before laws c (turns_of rounds ++ h) round run b answers before.recoverer n before.is there k.enough;
  last = record { run = run; round = k.are.0; at = before.is; there = there; enough = k.enough };
}
  where
    same : (round ++ turns_of rounds) ++ h ≡ round ++ (turns_of rounds ++ h)
    same = append_assoc round (turns_of rounds) h

    run : IsRun c (round ++ (turns_of rounds ++ h))
    run = subst (IsRun c) same k.run

    there : rec_at c (round ++ (turns_of rounds ++ h)) b ≡ Some n
    there = subst (λ l. rec_at c l b ≡ Some n) same k.at

    before : HoldsOf (rec_at c (turns_of rounds ++ h) b) (IsFrom 0)
    before = along c b (IsFrom 0) (from_keeps laws c b 0) (turns_of rounds) h (run_back c round (turns_of rounds ++ h) run) k.begun k.start (omega arith)

course_before : Laws → (c : Config) (answers : NodeId → Bool) (b : ℕ) (h round : List Turn) (rounds : List (List Turn)) (n : RecState) → (k : Course c answers b h (round ∷ rounds) n) → (l : LastRound c answers b h round rounds n) → Course c answers b h rounds l.recoverer
course_before laws c answers b h round rounds n k l = record { begun = k.begun; start = k.start; run = l.run; are = k.are.1; at = l.at; enough = l.enough }

after_read : RoundRules → (c : Config) → IsConfig c → (answers : NodeId → Bool) (b : ℕ) (h : List Turn) (rounds : List (List Turn)) (n : RecState) → Course c answers b h rounds n → 1 ≤ length rounds → IsFrom 1 n
after_read rules c config answers b h [] n k many = absurd (omega (arith, many))
after_read rules c config answers b h (round ∷ rounds) n k many =
    (let l = last_round rules.laws c answers b h round rounds n k in one_read rules c config answers b (turns_of rounds ++ h) round l.recoverer n l.last)

after_lock : RoundRules → (c : Config) → IsConfig c → (answers : NodeId → Bool) (b : ℕ) (h : List Turn) (rounds : List (List Turn)) (n : RecState) → Course c answers b h rounds n → 2 ≤ length rounds → IsFrom 2 n
after_lock rules c config answers b h [] n k many = absurd (omega (arith, many))
after_lock rules c config answers b h (round ∷ rounds) n k many =
    let l = last_round rules.laws c answers b h round rounds n k in
    one_lock rules c config answers b (turns_of rounds ++ h) round l.recoverer n l.last
    (after_read rules c config answers b h rounds l.recoverer (course_before rules.laws c answers b h round rounds n k l) (omega (arith, many)))

after_copies : RoundRules → (c : Config) → IsConfig c → (answers : NodeId → Bool) (b : ℕ) (h : List Turn) (peeks : ℕ) (rounds : List (List Turn)) (n : RecState) → Course c answers b h rounds n → 2 + peeks ≤ length rounds → Carries c (100 * peeks) n
after_copies rules c config answers b h zero rounds n k many =
    elim (copying_or n (after_lock rules c config answers b h rounds n k (omega (arith, many)))) [
      | inl phase ↦ inl (phase, (λ q plan tag inside. inr (omega arith)))
      | inr up ↦ inr up
    ]
after_copies rules c config answers b h (suc peeks) [] n k many = absurd (omega (arith, many))
after_copies rules c config answers b h (suc peeks) (round ∷ rounds) n k many =
    let l = last_round rules.laws c answers b h round rounds n k in
    let before = after_copies rules c config answers b h peeks rounds l.recoverer (course_before rules.laws c answers b h round rounds n k l) (omega (arith, many)) in
    let sum : 100 * peeks + 100 ≡ 100 * suc peeks = omega arith in
    subst (λ x. Carries c x n) sum (one_copy rules c config answers b (turns_of rounds ++ h) round l.recoverer n l.last (100 * peeks) before)

after_seeds : RoundRules → (c : Config) → IsConfig c → (answers : NodeId → Bool) (b : ℕ) (h : List Turn) (peeks : ℕ) (rounds : List (List Turn)) (n : RecState) → Course c answers b h rounds n → CopiesFewer c n (100 * peeks) → 3 + peeks ≤ length rounds → IsFrom 3 n
after_seeds rules c config answers b h peeks [] n k fewer many = absurd (omega (arith, many))
after_seeds rules c config answers b h peeks (round ∷ rounds) n k fewer many =
    let l = last_round rules.laws c answers b h round rounds n k in
    let before = after_copies rules c config answers b h peeks rounds l.recoverer (course_before rules.laws c answers b h round rounds n k l) (omega (arith, many)) in
    one_seed rules c config answers b (turns_of rounds ++ h) round l.recoverer n l.last
    (is_whole c (rules.peeks c config) (turns_of rounds ++ h) l.run b l.recoverer l.at (100 * peeks)
    (fewer_before c (rules.peeks c config) (turns_of rounds ++ h) round l.last.run b l.recoverer n l.at l.last.there (100 * peeks) fewer) before)

after_writes : RoundRules → (c : Config) → IsConfig c → (answers : NodeId → Bool) (b : ℕ) (h : List Turn) (peeks : ℕ) (rounds : List (List Turn)) (n : RecState) → Course c answers b h rounds n → CopiesFewer c n (100 * peeks) → 4 + peeks ≤ length rounds → IsFrom 4 n
after_writes rules c config answers b h peeks [] n k fewer many = absurd (omega (arith, many))
after_writes rules c config answers b h peeks (round ∷ rounds) n k fewer many =
    let l = last_round rules.laws c answers b h round rounds n k in
    one_write rules c config answers b (turns_of rounds ++ h) round l.recoverer n l.last
    (after_seeds rules c config answers b h peeks rounds l.recoverer (course_before rules.laws c answers b h round rounds n k l)
    (fewer_before c (rules.peeks c config) (turns_of rounds ++ h) round l.last.run b l.recoverer n l.at l.last.there (100 * peeks) fewer) (omega (arith, many)))

over : (r : RecState) → IsFrom 4 r → IsOver r
over r up = go r.phase refl up
  where
    go : (ph : Phase) → r.phase ≡ ph → 4 ≤ phase_number ph → IsOver r
    go Reading is l = absurd (omega (arith, l))
    go Locking is l = absurd (omega (arith, l))
    go Copying is l = absurd (omega (arith, l))
    go Writing is l = absurd (omega (arith, l))
    go Chosen is l = inl is
    go (Lost why) is l = inr (why, is)

some_of : (o : Option RecState) → is_some o ≡ true → (r : RecState) × (o ≡ Some r)
some_of None e = absurd (cc)
some_of (Some r) e = (r, refl)

pub ends_in_rounds : RoundRules → EndsInRounds
ends_in_rounds rules c h later config run b r at k =
    let start = some_of (rec_at c h b) k.begun in
    over r (after_writes rules c config k.answers b h k.peeks k.rounds r (record {
      begun = start.0;
      start = start.1;
      run = subst (IsRun c) (sym k.is) run;
      are = k.are;
      at = subst (λ l. rec_at c l b ≡ Some r) (sym k.is) at;
      enough = k.enough;
    }) k.fewer k.many)
