-- Each round of copying brings 100 records of each tag, or the rest.
use Rattle.std.proofs.Common.{◌≡◌, ℕ, ◌+◌, ◌<◌, ◌≤◌, Bool, true, nat_lt, ◌&&◌, min, length, List, ◌++◌, Some, inl, inr, ◌⊎◌, refl, sym, ◌∙◌, ap, subst, arith}
use Rattle.std.specs.List.{Contains}
use Rattle.std.proofs.lemmas.Bool.{cases_lt, lt-ltb}
use Rattle.std.proofs.lemmas.List.{get_or-set_same}
use Rattle.fr_base.specs.declared.place.NodeId.{NodeId}
use Rattle.fr_base.specs.declared.place.NodeId.TheVariants as node
use Rattle.fr_tags.specs.Placement.{covers, is_held}
use Rattle.fr_log.specs.declared.ask.LogAsk.TheVariants.{Peek}
use Rattle.fr_log.specs.declared.ask.LogTell.TheVariants.{Peeked}
use Rattle.fr_log.specs.LogState.{durable_of}
use Rattle.fr_log.specs.Peeked.{PeekedContent}
use Rattle.fr_log.specs.Step.{peek_of, answer_of}
use Rattle.fr_ask.specs.declared.ask.Ask.TheVariants as ask
use Rattle.fr_ask.specs.declared.tell.Tell.{Tell}
use Rattle.fr_ask.specs.declared.tell.Tell.TheVariants as tell
use Rattle.fr_tail.specs.Tail.{TagPart, new_part, part_at, is_responder, longer, after_hear as after_peeked}
use Rattle.fr_epoch.specs.declared.reply.Reply.{Reply}
use Rattle.fr_epoch.specs.EndTally.{EndState, responders}
use Rattle.fr_epoch.specs.Recoverer.{RecState, Parent, Plan}
use Rattle.fr_epoch.specs.Hear.{after_hear}
use Rattle.fr_epoch.specs.Going.{goes_on}
use Rattle.fr_epoch.proofs.Goings.{moves}
use Rattle.fr_run.specs.Config.{Config}
use Rattle.fr_run.specs.Turn.{Turn, Told}
use Rattle.fr_run.specs.Nodes.{rec_at, log_at}
use Rattle.fr_run.specs.Run.{IsRun}
use Rattle.fr_run.specs.StateLaws.{IsConfig}
use Rattle.fr_run.proofs.Growth.{rec_is}
use Rattle.fr_run_headline.specs.LogLaws.{tally_in, tally}
use Rattle.fr_run_headline.proofs.Ends.{end_is_of_replies}
use Rattle.fr_run_outcomes.proofs.Counts.{among-from_Contains}
use Rattle.fr_run_outcomes.proofs.Copies.{IsOfReplies, made_from, of_replies, is_source}
use Rattle.fr_run_outcomes.proofs.Copying.{peek_rises, peek_answered, peek_asked, peek_heard, comes_on}
use Rattle.fr_run_rounds.specs.Rounds.{WasAnswered}
use Rattle.fr_run_rounds.specs.Ending.{RepliedAnswer, CopyingBringsRecords}
use Rattle.fr_run_rounds.proofs.Along.{HoldsOf, holds_at, along, through, run_back}
use Rattle.fr_run_rounds.proofs.Behind.{same_plan, HasPlanOf, plan_now, plan_keeps, parent_keeps, IsPeekOf, IsBehindLog, sent_behind}
use Rattle.fr_run_rounds.proofs.Found.{copying_parent, copying_plan, LogAnswer, log_answer}
use Rattle.fr_run_rounds.proofs.PeekAnswers.{brings_whole}
use Rattle.fr_run_rounds.proofs.PeekSteps.{Brought, Further, Steps, goes, peek_steps, PeekRules, HasBrought, brought_keeps, IsStill, still_keeps}

-- ---- an answer to its peek

-- the answer to the peek of a tag that stands still brings it further
hears : (c : Config) → PeekRules c → (b : ℕ) (p : Parent) (q : Plan) (tag v n : ℕ) → tag < length c.begins → (i : ℕ) → Contains q.tail.responders i → is_held tag q.tail.m q.tail.k i ≡ true → q.tail.pev ≤ v → v < q.tail.rv
    → (mid : List Turn) (m : RecState) (u : Tell) → IsRun c mid → rec_at c mid b ≡ Some m → Told mid (node.Log p.last.epoch i) (node.Recoverer b) u → WasAnswered c mid b (node.Log p.last.epoch i) (ask.Log (Peek p.last.epoch tag v 100)) u
    → IsStill p q tag v n m → HasBrought tag (n + 100) (after_hear m (node.Log p.last.epoch i) u)
hears c rules b p q tag v n inside i has held low less mid m u run here told answered k =
    subst (HasBrought tag (n + 100)) (sym (ap (after_hear m (node.Log p.last.epoch i)) says ∙ peek_heard m p x i peeked k.phase k.parent k.plan.is))
    (record { plan = record x { tail = after_peeked x.tail i tag peeked }; is = refl; brought = brought })
  where
    x : Plan
    x = k.plan.plan

    answer : LogAnswer c mid b p.last.epoch i (Peek p.last.epoch tag v 100) u
    answer = log_answer c mid run b p.last.epoch i (Peek p.last.epoch tag v 100) u answered

    peeked : PeekedContent
    peeked = peek_of (log_at c answer.past p.last.epoch i) tag v 100

    behind : HoldsOf (rec_at c answer.past b) (λ r. IsBehindLog r p.last.epoch i (Peek p.last.epoch tag v 100))
    behind = sent_behind rules.laws c answer.past answer.run b p.last.epoch i (Peek p.last.epoch tag v 100) answer.sent

    own : IsPeekOf p.last.epoch i 100 behind.recoverer
    own = behind.holds

    -- the plan was the same when the log answered
    later : HasPlanOf own.plan m
    later =
        holds_at (rec_at c mid b) (HasPlanOf own.plan)
        (subst (λ l. HoldsOf (rec_at c l b) (HasPlanOf own.plan)) answer.later
        (along c b (HasPlanOf own.plan) (plan_keeps rules.laws c b own.plan) answer.more answer.past (subst (IsRun c) (sym answer.later) run) behind.recoverer behind.is (plan_now behind.recoverer own.plan own.plan_is)))
        m here

    one : later.plan ≡ x
    one = (let two : Some later.plan ≡ Some x = sym later.is ∙ k.plan.is in cc)

    same_pev : own.plan.tail.pev ≡ q.tail.pev
    same_pev = sym later.same.pev ∙ ap (λ (y : Plan). y.tail.pev) one ∙ k.plan.same.pev

    same_rv : own.plan.tail.rv ≡ q.tail.rv
    same_rv = sym later.same.rv ∙ ap (λ (y : Plan). y.tail.rv) one ∙ k.plan.same.rv

    held_then : is_held tag own.plan.tail.m own.plan.tail.k i ≡ true
    held_then =
        ap (λ y. is_held tag y own.plan.tail.k i) (sym later.same.m ∙ ap (λ (y : Plan). y.tail.m) one ∙ k.plan.same.m)
        ∙ ap (λ y. is_held tag q.tail.m y i) (sym later.same.k ∙ ap (λ (y : Plan). y.tail.k) one ∙ k.plan.same.k)
        ∙ held

    gives : answer_of (log_at c answer.past p.last.epoch i) (Peek p.last.epoch tag v 100) ≡ Peeked (peek_of (log_at c answer.past p.last.epoch i) tag v 100)
    gives =
        subst (λ e. answer_of (log_at c answer.past e i) (Peek e tag v 100) ≡ Peeked (peek_of (log_at c answer.past e i) tag v 100)) own.epoch
        (peek_answered rules.laws rules.never c answer.past rules.config answer.run b behind.recoverer own.parent own.plan behind.is own.parent_is own.plan_is i own.among tag held_then v (let pev = same_pev in omega (arith, pev, low)))

    says : u ≡ tell.Log (Peeked (peek_of (log_at c answer.past p.last.epoch i) tag v 100))
    says = answer.is ∙ ap tell.Log gives

    far : own.plan.tail.rv ≤ durable_of (log_at c answer.past p.last.epoch i)
    far = subst (λ e. own.plan.tail.rv ≤ durable_of (log_at c answer.past e i)) own.epoch (is_source rules.laws c answer.past rules.config answer.run b behind.recoverer own.parent own.plan behind.is own.parent_is own.plan_is i own.among).holds

    rises : v < (peek_of (log_at c answer.past p.last.epoch i) tag v 100).upto
    rises = peek_rises (log_at c answer.past p.last.epoch i) tag v 100 (let rv = same_rv in let high = far in omega (arith, rv, high, less))

    responds : is_responder x.tail i tag ≡ true
    responds =
        ap (λ y. y && (is_held tag x.tail.m x.tail.k i && nat_lt tag (length x.tail.parts))) (among-from_Contains x.tail.responders i (subst (λ ys. Contains ys i) (sym k.plan.same.responders) has))
        ∙ ap (λ y. y && nat_lt tag (length x.tail.parts)) (ap (λ y. is_held tag y x.tail.k i) k.plan.same.m ∙ ap (λ y. is_held tag q.tail.m y i) k.plan.same.k ∙ held)
        ∙ lt-ltb tag (length x.tail.parts) (let e = (rules.copies c mid rules.config run b m p x here k.parent k.plan.is).tags in omega (arith, e, inside))

    short : (part_at x.tail tag).reached < x.tail.rv
    short = (let at = k.still.reached in let rv = k.plan.same.rv in omega (arith, at, rv, less))

    went : goes_on x.tail i (peek_of (log_at c answer.past p.last.epoch i) tag v 100) ≡ true
    went = comes_on x.tail i (peek_of (log_at c answer.past p.last.epoch i) tag v 100) responds (sym k.still.reached) short rises

    heard : Told mid (node.Log p.last.epoch i) (node.Recoverer b) (tell.Log (Peeked (peek_of (log_at c answer.past p.last.epoch i) tag v 100)))
    heard = subst (Told mid (node.Log p.last.epoch i) (node.Recoverer b)) says told

    steps : Steps tag x (record x { tail = after_peeked x.tail i tag (peek_of (log_at c answer.past p.last.epoch i) tag v 100) })
    steps = peek_steps x i (peek_of (log_at c answer.past p.last.epoch i) tag v 100) (λ e. brings_whole rules.laws rules.truths c mid rules.config run b p.last.epoch i (peek_of (log_at c answer.past p.last.epoch i) tag v 100) heard inside m x here k.plan.is) tag

    moved : (part_at (after_peeked x.tail i tag (peek_of (log_at c answer.past p.last.epoch i) tag v 100)) tag ≡ part_at x.tail tag) → ⊥
    moved same =
        let is : part_at (after_peeked x.tail i tag (peek_of (log_at c answer.past p.last.epoch i) tag v 100)) tag ≡ longer x.tail.rv (part_at x.tail tag) (peek_of (log_at c answer.past p.last.epoch i) tag v 100) =
        ap (λ s. part_at s tag) (moves x.tail i (peek_of (log_at c answer.past p.last.epoch i) tag v 100) went)
        ∙ get_or-set_same x.tail.parts tag (longer x.tail.rv (part_at x.tail tag) (peek_of (log_at c answer.past p.last.epoch i) tag v 100)) (new_part x.tail.pev) (goes x.tail i (peek_of (log_at c answer.past p.last.epoch i) tag v 100) went).there in
        let reached : min (peek_of (log_at c answer.past p.last.epoch i) tag v 100).upto x.tail.rv ≡ (part_at x.tail tag).reached = ap (λ (y : TagPart). y.reached) (sym is ∙ same) in
        let up = rises in let at = k.still.reached in let less_x = short in
        omega (arith, reached, up, at, less_x)

    brought : Brought tag (n + 100) (record x { tail = after_peeked x.tail i tag (peek_of (log_at c answer.past p.last.epoch i) tag v 100) })
    brought = go steps.step
      where
        records : n ≤ length (part_at x.tail tag).records
        records = k.still.records

        go : (part_at (after_peeked x.tail i tag (peek_of (log_at c answer.past p.last.epoch i) tag v 100)) tag ≡ part_at x.tail tag) ⊎ Further tag x (record x { tail = after_peeked x.tail i tag (peek_of (log_at c answer.past p.last.epoch i) tag v 100) })
            → Brought tag (n + 100) (record x { tail = after_peeked x.tail i tag (peek_of (log_at c answer.past p.last.epoch i) tag v 100) })
        go (inl same) = absurd (moved same)
        go (inr (s, inl all)) = inl all
        go (inr (s, inr more)) = inr (omega (arith, more, records))

-- ---- the round

-- of each tag a log that replied holds it, and answers
record Holder (answers : NodeId → Bool) (p : Parent) (q : Plan) (tag : ℕ) : Type 0 where
  log : ℕ
  replied : Contains q.tail.responders log
  holds : is_held tag q.tail.m q.tail.k log ≡ true
  answers_it : answers (node.Log p.last.epoch log) ≡ true

holder : (c : Config) → PeekRules c → (h later : List Turn) → IsRun c h → IsRun c later → (b : ℕ) (answers : NodeId → Bool) (r n : RecState) (p : Parent) (q x : Plan) → rec_at c h b ≡ Some r → r.parent ≡ Some p → r.plan ≡ Some q
    → rec_at c later b ≡ Some n → n.parent ≡ Some p → n.plan ≡ Some x → x.tail.responders ≡ q.tail.responders → RepliedAnswer answers n → (tag : ℕ) → Holder answers p q tag
holder c rules h later run run_later b answers r n p q x at parent plan there parent_then plan_then same replied tag = record {
  log = met.0;
  replied = subst (λ xs. Contains xs met.0) (sym own.responders_are) met.2;
  holds = ap (λ m. is_held tag m q.tail.k met.0) own.m ∙ ap (λ k. is_held tag p.last.m k met.0) own.k ∙ met.3;
  answers_it = subst (λ i. answers (node.Log p.last.epoch i) ≡ true) from.2 (replied p parent_then from.0 from.1);
}
  where
    own : IsOfReplies r p q
    own = of_replies rules.laws c h run b r p q at parent plan

    tallied : (e : EndState) × (r.end ≡ Some e) × (e.m ≡ p.last.m) × (e.k ≡ p.last.k)
    tallied = (rec_is rules.laws c h run b r at).kept.come_by.tallied p parent

    covered : covers p.last.m p.last.k (responders (tally r)) ≡ true
    covered =
        ap (λ m. covers m p.last.k (responders (tally r))) (sym (ap (λ (s : EndState). s.m) (ap tally_in tallied.1) ∙ tallied.2))
        ∙ ap (λ k. covers (tally r).m k (responders (tally r))) (sym (ap (λ (s : EndState). s.k) (ap tally_in tallied.1) ∙ tallied.3))
        ∙ (end_is_of_replies rules.laws c h run b r q at plan).covered

    met : (log : ℕ) × (log < p.last.m) × Contains (responders (tally r)) log × (is_held tag p.last.m p.last.k log ≡ true)
    met = rules.meets tag p.last.m p.last.k (responders (tally r)) ((rec_is rules.laws c h run b r at).kept.parent p parent).k_high covered

    among : Contains (responders (tally n)) met.0
    among = subst (λ xs. Contains xs met.0) (sym own.responders_are ∙ sym same ∙ (of_replies rules.laws c later run_later b n p x there parent_then plan_then).responders_are) met.2

    from : (y : Reply) × Contains (tally n).replies y × (y.log ≡ met.0)
    from = made_from (λ (y : Reply). y.log) (tally n).replies met.0 among

pub copying_brings_records : ((c : Config) → IsConfig c → PeekRules c) → CopyingBringsRecords
copying_brings_records ruled c h turns config run b answers round r n at phase there replied records copied x plan_x tag inside = finish
  where
    rules : PeekRules c
    rules = ruled c config

    run_start : IsRun c h
    run_start = run_back c turns h run

    p : (p : Parent) × (r.parent ≡ Some p)
    p = copying_parent rules.laws c h run_start b r at phase

    q : (q : Plan) × (r.plan ≡ Some q)
    q = copying_plan rules.laws c h run_start b r at phase

    parent_last : n.parent ≡ Some p.0
    parent_last = holds_at (rec_at c (turns ++ h) b) (λ y. y.parent ≡ Some p.0) (along c b (λ y. y.parent ≡ Some p.0) (parent_keeps rules.laws c b p.0) turns h run r at p.1) n there

    plan_last : HasPlanOf q.0 n
    plan_last = holds_at (rec_at c (turns ++ h) b) (HasPlanOf q.0) (along c b (HasPlanOf q.0) (plan_keeps rules.laws c b q.0) turns h run r at (plan_now r q.0 q.1)) n there

    low : q.0.tail.pev ≤ (part_at q.0.tail tag).reached
    low = ((rules.copies c h config run_start b r p.0 q.0 at p.1 q.1).copied tag).low

    high : (part_at q.0.tail tag).reached ≤ q.0.tail.rv
    high = ((rules.copies c h config run_start b r p.0 q.0 at p.1 q.1).copied tag).high

    -- what was there at the beginning and is all stays so
    full : (part_at q.0.tail tag).reached ≡ q.0.tail.rv → HasBrought tag (records + 100) n
    full all =
        holds_at (rec_at c (turns ++ h) b) (HasBrought tag (records + 100))
        (along c b (HasBrought tag (records + 100)) (brought_keeps c rules b tag (records + 100) inside) turns h run r at (record { plan = q.0; is = q.1; brought = inl all })) n there

    -- else its peek is answered
    asked : (part_at q.0.tail tag).reached < q.0.tail.rv → records ≤ length (part_at q.0.tail tag).records → HasBrought tag (records + 100) n
    asked short many =
        holds_at (rec_at c (turns ++ h) b) (HasBrought tag (records + 100))
        (through c b h turns (node.Log p.0.last.epoch k.log) (ask.Log (Peek p.0.last.epoch tag (part_at q.0.tail tag).reached 100)) run
        (round r at (node.Log p.0.last.epoch k.log) (ask.Log (Peek p.0.last.epoch tag (part_at q.0.tail tag).reached 100)) (peek_asked rules.laws rules.copies c h config run_start b r p.0 q.0 at phase p.1 q.1 tag inside k.log k.replied k.holds short) k.answers_it) r at
        (λ y. IsStill p.0 q.0 tag (part_at q.0.tail tag).reached records y ⊎ HasBrought tag (records + 100) y) (HasBrought tag (records + 100))
        (still_keeps c rules b p.0 q.0 tag (part_at q.0.tail tag).reached records inside) (brought_keeps c rules b tag (records + 100) inside)
        (inl (record { phase = phase; parent = p.1; plan = record { plan = q.0; is = q.1; same = same_plan q.0 }; still = record { reached = refl; records = many } }))
        (λ mid m u run_mid here told answered so. brings short mid m u run_mid here told answered so))
        n there
      where
        k : Holder answers p.0 q.0 tag
        k = holder c rules h (turns ++ h) run_start run b answers r n p.0 q.0 plan_last.plan at p.1 q.1 there parent_last plan_last.is plan_last.same.responders replied tag

        brings : (part_at q.0.tail tag).reached < q.0.tail.rv → (mid : List Turn) (m : RecState) (u : Tell) → IsRun c mid → rec_at c mid b ≡ Some m → Told mid (node.Log p.0.last.epoch k.log) (node.Recoverer b) u
            → WasAnswered c mid b (node.Log p.0.last.epoch k.log) (ask.Log (Peek p.0.last.epoch tag (part_at q.0.tail tag).reached 100)) u
            → IsStill p.0 q.0 tag (part_at q.0.tail tag).reached records m ⊎ HasBrought tag (records + 100) m → HasBrought tag (records + 100) (after_hear m (node.Log p.0.last.epoch k.log) u)
        brings less mid m u run_mid here told answered (inl still) = hears c rules b p.0 q.0 tag (part_at q.0.tail tag).reached records inside k.log k.replied k.holds low less mid m u run_mid here told answered still
        brings less mid m u run_mid here told answered (inr done) = brought_keeps c rules b tag (records + 100) inside mid run_mid m (node.Log p.0.last.epoch k.log) u here told done

    brought : HasBrought tag (records + 100) n
    brought = elim (cases_lt (part_at q.0.tail tag).reached q.0.tail.rv) [
      | inr all ↦ full (omega (arith, all, high))
      | inl short ↦ elim (copied q.0 q.1 tag inside) [ inl all ↦ full all | inr many ↦ asked short many ]
    ]

    finish : ((part_at x.tail tag).reached ≡ x.tail.rv) ⊎ (records + 100 ≤ length (part_at x.tail tag).records)
    finish =
        let two : Some brought.plan ≡ Some x = sym brought.is ∙ plan_x in
        let same : brought.plan ≡ x = cc in
        subst (Brought tag (records + 100)) same brought.brought
