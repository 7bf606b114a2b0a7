-- Answers to peeks: a log that replied gives what is asked for, 100 records or all through the end of the copy.
use Rattle.std.proofs.Common.{◌≡◌, ℕ, ◌<◌, ◌≤◌, Bool, true, false, cond, nat_lt, nat_le, map, filter, take, fold, min, length, length-take-le, List, [], ◌∷◌, Some, inl, inr, ◌⊎◌, refl, sym, ◌∙◌, ap, subst, arith}
use Rattle.std.proofs.lemmas.Bool.{cases_lt, ltb-true}
use Rattle.fr_base.specs.declared.place.NodeId.TheVariants as node
use Rattle.fr_log.specs.Answer.{IsPeekedAnswer}
use Rattle.fr_log.specs.Peeked.{PeekedContent}
use Rattle.fr_log.specs.LogState.{LogState, durable_of}
use Rattle.fr_log.specs.Step.{records_above, peek_of}
use Rattle.fr_log.specs.declared.ask.LogAsk.{LogAsk}
use Rattle.fr_log.specs.declared.ask.LogTell.TheVariants.{Peeked}
use Rattle.fr_ask.specs.declared.ask.Ask.TheVariants as ask
use Rattle.fr_ask.specs.declared.tell.Tell.TheVariants as tell
use Rattle.fr_epoch.specs.Recoverer.{RecState, Plan}
use Rattle.fr_run.specs.Config.{Config}
use Rattle.fr_run.specs.Turn.{Turn, LogTurn, Sent, Told}
use Rattle.fr_run.specs.Nodes.{rec_at, log_at}
use Rattle.fr_run.specs.Run.{IsTurn, IsRun, StorageMayAsk}
use Rattle.fr_run.specs.StateLaws.{IsConfig}
use Rattle.fr_run.specs.Laws.{Laws}
use Rattle.fr_run_headline.specs.Issued.{issued}
use Rattle.fr_run_headline.specs.Contents.{IsTrueTell, PeeksAreTrue, part_records}
use Rattle.fr_run_headline.proofs.Marks.{told_turn}
use Rattle.fr_run_headline.proofs.PartLists.{part_of, part_cut}
use Rattle.fr_run_headline.proofs.PeekLists.{record_of, kept_records}
use Rattle.fr_run_outcomes.proofs.Copies.{is_source}
use Rattle.fr_run_rounds.proofs.Along.{HoldsOf, holds_at, Keeps, along}
use Rattle.fr_run_rounds.proofs.Behind.{plan_now, plan_keeps, IsPeekOf, IsBehindLog, sent_behind}

-- ---- it is whole

-- it goes through the end of the copy, or has 100 records
abbrev pub IsWholeTo : ℕ → PeekedContent → Type 0
IsWholeTo rv peeked = (rv ≤ peeked.upto) ⊎ (100 ≤ length peeked.records)

peek_whole : (l : LogState) (tag after rv : ℕ) → rv ≤ durable_of l → IsWholeTo rv (peek_of l tag after 100)
peek_whole l tag after rv high = go (nat_lt 100 (length (records_above l tag after))) refl
  where
    go : (x : Bool) → nat_lt 100 (length (records_above l tag after)) ≡ x
        → (rv ≤ cond x (fold (λ version r. r.version) (durable_of l) (take 100 (records_above l tag after))) (durable_of l)) ⊎ (100 ≤ length (take 100 (records_above l tag after)))
    go true e = inr (
        let many = ltb-true 100 (length (records_above l tag after)) e in
        let size = length-take-le 100 (records_above l tag after) (omega (arith, many)) in
        omega (arith, size))
    go false e = inl high

-- an answer that was told to a recoverer is whole to the end of its plan's copy
record IsWholeFor (peeked : PeekedContent) (r : RecState) : Type 0 where
  plan : Plan
  is : r.plan ≡ Some plan
  whole : IsWholeTo plan.tail.rv peeked

whole_keeps : Laws → (c : Config) (b : ℕ) (peeked : PeekedContent) → Keeps c b (IsWholeFor peeked)
whole_keeps laws c b peeked h run r from u at told k =
    let later = plan_keeps laws c b k.plan h run r from u at told (plan_now r k.plan k.is) in
    record { plan = later.plan; is = later.is; whole = subst (λ v. IsWholeTo v peeked) (sym later.same.rv) k.whole }

pub peeked_is_whole : Laws → (c : Config) (h : List Turn) → IsConfig c → IsRun c h → (b e i : ℕ) (peeked : PeekedContent) → Told h (node.Log e i) (node.Recoverer b) (tell.Log (Peeked peeked)) → (r : RecState) (q : Plan) → rec_at c h b ≡ Some r → r.plan ≡ Some q
    → IsWholeTo q.tail.rv peeked
peeked_is_whole laws c h config run b e i peeked told r q at plan =
    let k = holds_at (rec_at c h b) (IsWholeFor peeked) (told_turn c (λ l. HoldsOf (rec_at c l b) (IsWholeFor peeked)) e i (node.Recoverer b) (Peeked peeked) lasts now h run told) r at in
    let two : Some k.plan ≡ Some q = sym k.is ∙ plan in
    let same : k.plan ≡ q = cc in
    subst (λ (x : Plan). IsWholeTo x.tail.rv peeked) same k.whole
  where
    lasts : (l : List Turn) (t : Turn) → IsRun c l → IsTurn c l t → HoldsOf (rec_at c l b) (IsWholeFor peeked) → HoldsOf (rec_at c (t ∷ l) b) (IsWholeFor peeked)
    lasts l t run_l is k = along c b (IsWholeFor peeked) (whole_keeps laws c b peeked) (t ∷ []) l (is, run_l) k.recoverer k.is k.holds

    now : (l : List Turn) (a : LogAsk) → IsRun c l → IsTurn c l (LogTurn (node.Recoverer b) e i a (Peeked peeked)) → HoldsOf (rec_at c (LogTurn (node.Recoverer b) e i a (Peeked peeked) ∷ l) b) (IsWholeFor peeked)
    now l a run_l is = asked is.1
      where
        asked : Sent l (node.Recoverer b) (node.Log e i) (ask.Log a) ⊎ StorageMayAsk c l (node.Recoverer b) a → HoldsOf (rec_at c l b) (IsWholeFor peeked)
        asked (inr may) = absurd may
        asked (inl sent) = record { recoverer = behind.recoverer; is = behind.is; holds = record { plan = own.plan; is = own.plan_is; whole = whole } }
          where
            behind : HoldsOf (rec_at c l b) (λ x. IsBehindLog x e i a)
            behind = sent_behind laws c l run_l b e i a sent

            answer : IsPeekedAnswer (log_at c l e i) a peeked
            answer = laws.log_answers (log_at c l e i) a (Peeked peeked) (sym is.2)

            own : IsPeekOf e i answer.most behind.recoverer
            own = subst (IsBehindLog behind.recoverer e i) answer.ask behind.holds

            far : own.plan.tail.rv ≤ durable_of (log_at c l e i)
            far = subst (λ x. own.plan.tail.rv ≤ durable_of (log_at c l x i)) own.epoch (is_source laws c l config run_l b behind.recoverer own.parent own.plan behind.is own.parent_is own.plan_is i own.among).holds

            value : peeked ≡ peek_of (log_at c l e i) answer.tag answer.after 100
            value = answer.value ∙ ap (peek_of (log_at c l e i) answer.tag answer.after) own.hundred

            whole : IsWholeTo own.plan.tail.rv peeked
            whole = subst (IsWholeTo own.plan.tail.rv) (sym value) (peek_whole (log_at c l e i) answer.tag answer.after own.plan.tail.rv far)

-- ---- what it brings

part_is_cut : (c : Config) (h : List Turn) (e tag after upto end : ℕ) → filter (λ r. nat_le r.version end) (part_records c h e tag after upto) ≡ part_records c h e tag after (min upto end)
part_is_cut c h e tag after upto end = kept_records (λ v. nat_le v end) (part_of c tag after upto (issued c h e)) ∙ ap (map record_of) (part_cut c tag after upto end (issued c h e))

-- through the end of the copy it brings all, or 100 records
pub brings_whole : Laws → PeeksAreTrue → (c : Config) (h : List Turn) → IsConfig c → IsRun c h → (b e i : ℕ) (peeked : PeekedContent) → Told h (node.Log e i) (node.Recoverer b) (tell.Log (Peeked peeked)) → peeked.tag < length c.begins → (r : RecState) (q : Plan) → rec_at c h b ≡ Some r → r.plan ≡ Some q
    → (q.tail.rv ≤ peeked.upto) ⊎ (100 ≤ length (filter (λ x. nat_le x.version q.tail.rv) peeked.records))
brings_whole laws truths c h config run b e i peeked told inside r q at plan = go (cases_lt peeked.upto q.tail.rv) (peeked_is_whole laws c h config run b e i peeked told r q at plan)
  where
    true_tell : IsTrueTell c h e i peeked
    true_tell = truths c h config run e i (node.Recoverer b) peeked told

    go : (peeked.upto < q.tail.rv) ⊎ (q.tail.rv ≤ peeked.upto) → IsWholeTo q.tail.rv peeked → (q.tail.rv ≤ peeked.upto) ⊎ (100 ≤ length (filter (λ x. nat_le x.version q.tail.rv) peeked.records))
    go (inr far) whole = inl far
    go (inl short) (inl far) = absurd (omega (arith, short, far))
    go (inl short) (inr many) = inr (
        let least : min peeked.upto q.tail.rv ≡ peeked.upto = omega (arith, short) in
        let same : filter (λ x. nat_le x.version q.tail.rv) peeked.records ≡ peeked.records =
        ap (filter (λ x. nat_le x.version q.tail.rv)) (true_tell.records inside)
        ∙ part_is_cut c h e peeked.tag peeked.after peeked.upto q.tail.rv
        ∙ ap (part_records c h e peeked.tag peeked.after) least
        ∙ sym (true_tell.records inside) in
        let size = ap length same in
        omega (arith, size, many))
