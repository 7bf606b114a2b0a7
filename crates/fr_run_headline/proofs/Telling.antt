-- An answer to a peek is a part of what the log's epoch issues, if the log has its parts.
use Rattle.std.proofs.Common.{◌≡◌, ℕ, zero, suc, ◌-◌, ◌<◌, ◌≤◌, true, false, cond, List, [], ◌∷◌, length, map, Option, None, Some, inl, inr, refl, sym, ◌∙◌, ap, subst, arith}
use Rattle.std.specs.Prelude.{IfSome, is_some}
use Rattle.std.proofs.lemmas.Bool.{ltb-true}
use Rattle.fr_base.specs.declared.place.NodeId.{NodeId}
use Rattle.fr_base.specs.declared.place.NodeId.TheVariants as node
use Rattle.fr_state.specs.Generations.{LogGeneration}
use Rattle.fr_tags.specs.Placement.{is_held}
use Rattle.fr_log.specs.declared.ask.LogAsk.{LogAsk}
use Rattle.fr_log.specs.declared.ask.LogTell.TheVariants as ltell
use Rattle.fr_log.specs.Peeked.{PeekedContent}
use Rattle.fr_log.specs.Seed.{SeedContent}
use Rattle.fr_log.specs.LogState.{LogState, first_of, durable_of, known_of, holds, records_of}
use Rattle.fr_log.specs.Step.{answer_of, peek_of}
use Rattle.fr_ask.specs.declared.tell.Tell.TheVariants as tell
use Rattle.fr_run.specs.Config.{Config}
use Rattle.fr_run.specs.Turn.{Turn, Begun, CellTurn, LogTurn, SeqTurn, Submitted, ProxyHeard, RecHeard, StorageHeard, Gone, Crashed, TellsBy, Told}
use Rattle.fr_run.specs.Nodes.{generation_at, logs_at, log_at}
use Rattle.fr_run.specs.Run.{IsTurn, IsRun, WantsSome}
use Rattle.fr_run.specs.StateLaws.{IsConfig}
use Rattle.fr_run.proofs.Growth.{generation_stays, log_grows}
use Rattle.fr_run_headline.specs.Numbers.{top_at}
use Rattle.fr_run_headline.proofs.Ends.{always_chained}
use Rattle.fr_run_headline.proofs.Logs.{durable_below, logs_are_own, logs_stay}
use Rattle.fr_run_headline.proofs.Named.{log_named}
use Rattle.fr_run_headline.specs.Issued.{issued}
use Rattle.fr_run_headline.specs.Contents.{HasParts, IsTrueTell, part_records}
use Rattle.fr_run_headline.specs.ContentsLaws.{Laws}
use Rattle.fr_run_headline.proofs.PeekLists.{record_of, peek_is_part}
use Rattle.fr_run_headline.proofs.Parts.{issued_rises, part_lasts}

-- ---- one answer

-- what a peek that is not refused shows of the log
record IsGranted (l : LogState) (tag after : ℕ) : Type 0 where
  seeded : is_some l.seed ≡ true
  holds_it : holds l tag ≡ true
  low : first_of l.seed - 1 ≤ after

-- ---- one turn

-- a log that has its parts gives the first records of a part
given : Laws → (c : Config) (h : List Turn) → IsConfig c → IsRun c h → (e : ℕ) (g : LogGeneration) → generation_at c h e ≡ Some g → (i : ℕ) (l : LogState) → l.index ≡ i → (tag after : ℕ) → IsGranted l tag after → tag < length c.begins
    → (o : Option SeedContent) → l.seed ≡ o → IfSome o (HasParts c h e i l) → (most : ℕ) → 1 ≤ most → let p = peek_of l tag after most in (p.upto ≤ durable_of l) × (p.records ≡ part_records c h e tag after p.upto)
given laws c h config run e g of i l index tag after k inside None seeded parts most wants = let d : false ≡ true = sym (ap is_some seeded) ∙ k.seeded in absurd (cc)
given laws c h config run e g of i l index tag after k inside (Some s) seeded parts zero wants = absurd (omega (arith, wants))
given laws c h config run e g of i l index tag after k inside (Some s) seeded parts (suc n) wants =
    let held : is_held tag l.m l.k i ≡ true = ap (is_held tag l.m l.k) (sym index) ∙ k.holds_it in
    let all : records_of l tag ≡ part_records c h e tag (s.first - 1) (durable_of l) = parts tag inside ∙ ap (λ b. cond b (part_records c h e tag (s.first - 1) (durable_of l)) []) held in
    let low : s.first - 1 ≤ after = (let f = ap first_of seeded in let b = k.low in omega (arith, f, b)) in
    let is = peek_is_part c tag 0 (top_at c h e) (issued c h e) (issued_rises laws.nodes c h config run e g of) l (s.first - 1) after n all low in
    (is.high, is.records)

-- what a log that has its parts tells is true
pub told_now : Laws → (c : Config) (h : List Turn) → IsConfig c → IsRun c h → (e i : ℕ) → i < logs_at c h e → IfSome (log_at c h e i).seed (HasParts c h e i (log_at c h e i)) → (a : LogAsk) → WantsSome a → (peeked : PeekedContent)
    → answer_of (log_at c h e i) a ≡ ltell.Peeked peeked → IsTrueTell c h e i peeked
told_now laws c h config run e i below parts a some peeked says =
    let l = log_at c h e i in
    let k = laws.nodes.log_answers l a (ltell.Peeked peeked) says in
    let named = log_named laws.nodes c h run e i below in
    let g : IsGranted l k.tag k.after = record { seeded = k.seeded; holds_it = k.held; low = k.early } in
    let tag : peeked.tag ≡ k.tag = ap (λ (p : PeekedContent). p.tag) k.value in
    let known : peeked.known ≡ known_of l = ap (λ (p : PeekedContent). p.known) k.value in
    let wants : 1 ≤ k.most = subst WantsSome k.ask some in
    let held : is_held k.tag named.generation.m named.generation.k i ≡ true = (λ j. is_held k.tag (sym named.m j) (sym named.k j) (sym named.index j)) ∙ g.holds_it in
    record {
      there = below;
      generation = named.generation;
      of = named.of;
      held = ap (λ t. is_held t named.generation.m named.generation.k i) tag ∙ held;
      upto = λ inside. (
          let all = given laws c h config run e named.generation named.of i l named.index k.tag k.after g (subst (λ t. t < length c.begins) tag inside) l.seed refl parts k.most wants in
          subst (λ (p : PeekedContent). p.upto ≤ durable_of l) (sym k.value) all.0);
      known = omega (arith, known);
      records = λ inside. (
          let all = given laws c h config run e named.generation named.of i l named.index k.tag k.after g (subst (λ t. t < length c.begins) tag inside) l.seed refl parts k.most wants in
          subst (λ (p : PeekedContent). p.records ≡ part_records c h e p.tag p.after p.upto) (sym k.value) all.1);
    }

-- ---- later on

pub tell_lasts : Laws → (c : Config) (h : List Turn) (t : Turn) → IsConfig c → IsRun c h → IsTurn c h t → (e i : ℕ) (peeked : PeekedContent) → IsTrueTell c h e i peeked → IsTrueTell c (t ∷ h) e i peeked
tell_lasts laws c h t config run is e i peeked k =
    let grows = log_grows laws.nodes c h t run is e i k.there in
    let durable = grows.durable in
    let known = grows.known in
    let was = k.known in
    let top = durable_below c h e (always_chained laws.nodes c h run e) (log_at c h e i) (logs_are_own laws.nodes c h run e i k.there) in
    record {
      there = subst (λ n. i < n) (sym (logs_stay laws.nodes c h t run is e i k.there)) k.there;
      generation = k.generation;
      of = generation_stays laws.nodes c h t run is e k.generation k.of;
      held = k.held;
      upto = λ inside. (let low = k.upto inside in omega (arith, low, durable));
      known = omega (arith, was, known);
      records = λ inside. (let low = k.upto inside in k.records inside ∙ sym (ap (map record_of) (part_lasts laws.nodes c h t config run is e k.generation k.of peeked.tag peeked.after peeked.upto (omega (arith, low, top)))));
    }

-- what is told after one turn
pub tells_next : Laws → (c : Config) (h : List Turn) (t : Turn) → IsConfig c → IsRun c h → IsTurn c h t → ((e i : ℕ) → i < logs_at c h e → IfSome (log_at c h e i).seed (HasParts c h e i (log_at c h e i)))
    → ((e i : ℕ) (to : NodeId) (peeked : PeekedContent) → Told h (node.Log e i) to (tell.Log (ltell.Peeked peeked)) → IsTrueTell c h e i peeked)
    → (e i : ℕ) (to : NodeId) (peeked : PeekedContent) → Told (t ∷ h) (node.Log e i) to (tell.Log (ltell.Peeked peeked)) → IsTrueTell c (t ∷ h) e i peeked
tells_next laws c h t config run is parts tells e i to peeked (inr k) = tell_lasts laws c h t config run is e i peeked (tells e i to peeked k)
tells_next laws c h t config run is parts tells e i to peeked (inl k) = tell_lasts laws c h t config run is e i peeked (now t is k)
  where
    now : (t : Turn) → IsTurn c h t → TellsBy t (node.Log e i) to (tell.Log (ltell.Peeked peeked)) → IsTrueTell c h e i peeked
    now (Begun b shape asks) is k = absurd k
    now (CellTurn from j a v) is (at, own, same) = let d : node.Cell j ≡ node.Log e i = at in absurd (cc)
    now (LogTurn from x j a v) is (at, own, same) =
        let d : x ≡ e = cc in
        let f : j ≡ i = cc in
        let w : v ≡ ltell.Peeked peeked = cc in
        let below : j < logs_at c h x = ltb-true j (logs_at c h x) is.0.there in
        let here = told_now laws c h config run x j below (parts x j below) a is.3 peeked (sym is.2 ∙ w) in
        subst (λ y. IsTrueTell c h y i peeked) d (subst (λ y. IsTrueTell c h x y peeked) f here)
    now (SeqTurn from x a v) is (at, own, same) = let d : node.Sequencer x ≡ node.Log e i = at in absurd (cc)
    now (Submitted x p step batch asks) is k = absurd k
    now (ProxyHeard x p from v outcome asks) is k = absurd k
    now (RecHeard b from v asks) is k = absurd k
    now (StorageHeard tag from v taken fault) is k = absurd k
    now (Gone who) is k = absurd k
    now (Crashed who) is k = absurd k
