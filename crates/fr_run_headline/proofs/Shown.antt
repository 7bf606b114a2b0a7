-- What recoverers were shown popped is popped, and what they drop by it.
use Rattle.std.proofs.Common.{◌≡◌, ℕ, zero, suc, ◌+◌, ◌-◌, ◌<◌, ◌≤◌, Bool, true, false, cond, eqb, nat_lt, List, [], ◌∷◌, ◌++◌, length, drop, Option, None, Some, inl, inr, ◌⊎◌, refl, sym, ◌∙◌, ap, subst, arith}
use Rattle.std.specs.List.{range_with_len}
use Rattle.std.specs.Prelude.{slice_get, Contains, IfSome}
use Rattle.std.proofs.lemmas.Bool.{eqb-true}
use Rattle.std.proofs.lemmas.List.Elements.{Contains-append_cases}
use Rattle.std.proofs.lemmas.List.FromFn.{get_or-range_with_len, length-range_with_len}
use Rattle.fr_base.specs.Shape.{ShapeContent}
use Rattle.fr_base.specs.declared.place.NodeId.{NodeId}
use Rattle.fr_base.specs.declared.place.NodeId.TheVariants as node
use Rattle.fr_state.specs.Generations.{LogGeneration, CoordinatedState, IsCoordinatedState}
use Rattle.fr_log.specs.declared.popped.PoppedTag.{PoppedTag}
use Rattle.fr_log.specs.Left.{popped_of, popped_at, raised}
use Rattle.fr_log.specs.declared.ask.LogAsk.{LogAsk}
use Rattle.fr_log.specs.declared.ask.LogTell.{LogTell}
use Rattle.fr_log.specs.declared.ask.LogTell.TheVariants as ltell
use Rattle.fr_log.specs.LogState.{LogState}
use Rattle.fr_ask.specs.declared.tell.Tell.{Tell}
use Rattle.fr_ask.specs.declared.tell.Tell.TheVariants as tell
use Rattle.fr_epoch.specs.EndTally.{EndState, counts}
use Rattle.fr_epoch.specs.Recoverer.{RecState, Parent, Plan, new_recoverer}
use Rattle.fr_epoch.specs.Hear as rec
use Rattle.fr_epoch.specs.Hear.{with_lock, left_of, plan_of}
use Rattle.fr_epoch.specs.DroppingLaws.{IsShownFrom}
use Rattle.fr_epoch.specs.Words.{word_of}
use Rattle.fr_epoch.specs.Change.{replied, IsReplied, Change, Stands, LosesReads, Reads, Finds, Locks, LosesLocks, Plans, Copies, Seeds, SeedsAll, Writes, LosesWrites, Chooses, Marks}
use Rattle.fr_tail.specs.Tail.{after_hear as after_peeked}
use Rattle.fr_run.specs.Config.{Config}
use Rattle.fr_run.specs.Turn.{Turn, Begun, CellTurn, LogTurn, SeqTurn, Submitted, ProxyHeard, RecHeard, StorageHeard, Gone, Crashed, TellsBy, Told}
use Rattle.fr_run.specs.Nodes.{rec_at, logs_at, log_at}
use Rattle.fr_run.specs.Run.{IsTurn, IsRun}
use Rattle.fr_run.specs.Laws.{Laws}
use Rattle.fr_run.specs.StateLaws.{IsConfig}
use Rattle.fr_run.proofs.ByTurn.{rec_by_turn}
use Rattle.fr_run.proofs.Growth.{rec_is, log_stays}
use Rattle.fr_run.proofs.Cells.{Contains-here, Contains-later, Contains-none, Contains-cases}
use Rattle.fr_run.proofs.States.{no_plan, recoverers_have_states}
use Rattle.fr_run_headline.specs.ShownLaws.{IsPoppedIn, LockedIsPopped, ShownIsPopped, IsDroppedBy, DropsArePopped}
use Rattle.fr_run_headline.proofs.LogChanges.{popped_change}
use Rattle.fr_run_headline.proofs.Logs.{log_by_own_turn, logs_stay}
use Rattle.fr_run_headline.proofs.Locks.{of_log}

-- ---- entries

-- what is popped of a tag is no less where a tag is popped further
pub raised_keeps : (ps : List PoppedTag) (tag v : ℕ) → popped_at ps tag ≤ v → (t w : ℕ) → IsShownFrom ps t w → IsShownFrom (raised ps tag v) t w
raised_keeps [] tag v le t w k = absurd (Contains-none k.there)
raised_keeps (p ∷ ps) tag v le t w k = go (raised_keeps ps tag v) (nat_lt tag p.tag) (eqb p.tag tag) refl
  where
    new : PoppedTag
    new = record { tag = tag; version = v }

    behind : (x : PoppedTag) (xs : List PoppedTag) → IsShownFrom xs t w → IsShownFrom (x ∷ xs) t w
    behind x xs j = record { entry = j.entry; there = Contains-later x xs j.entry j.there; tag_is = j.tag_is; high = j.high }

    from_rest : Contains ps k.entry → IsShownFrom ps t w
    from_rest there = record { entry = k.entry; there = there; tag_is = k.tag_is; high = k.high }

    go : (popped_at ps tag ≤ v → (t w : ℕ) → IsShownFrom ps t w → IsShownFrom (raised ps tag v) t w) → (a b : Bool) → eqb p.tag tag ≡ b
        → IsShownFrom (cond a (new ∷ p ∷ ps) (cond b (new ∷ ps) (p ∷ raised ps tag v))) t w
    go rest true b e = behind new (p ∷ ps) k
    go rest false true e = elim (Contains-cases p ps k.entry k.there) [
      | inl same ↦ (
          let here : popped_at (p ∷ ps) tag ≡ p.version = ap (λ s. Rattle.std.specs.Prelude.unwrap_or (cond s (Some p.version) (popped_of ps tag)) 0) e in
          let high = k.high in
          let version = ap (λ (x : PoppedTag). x.version) same in
          record {
            entry = new;
            there = Contains-here new ps;
            tag_is = sym (eqb-true p.tag tag e) ∙ ap (λ (x : PoppedTag). x.tag) same ∙ k.tag_is;
            high = omega (arith, here, high, version, le);
          })
      | inr later ↦ behind new ps (from_rest later)
    ]
    go rest false false e = elim (Contains-cases p ps k.entry k.there) [
      | inl same ↦ record { entry = k.entry; there = subst (λ x. Contains (p ∷ raised ps tag v) x) same (Contains-here p (raised ps tag v)); tag_is = k.tag_is; high = k.high }
      | inr later ↦ (
          let here : popped_at (p ∷ ps) tag ≡ popped_at ps tag = ap (λ s. Rattle.std.specs.Prelude.unwrap_or (cond s (Some p.version) (popped_of ps tag)) 0) e in
          behind p (raised ps tag v) (rest (omega (arith, here, le)) t w (from_rest later)))
    ]

-- an entry then is the new one, or one of before
pub raised_has : (ps : List PoppedTag) (tag v : ℕ) (x : PoppedTag) → Contains (raised ps tag v) x → (record { tag = tag; version = v } ≡ x) ⊎ Contains ps x
raised_has [] tag v x k = elim (Contains-cases (record { tag = tag; version = v }) [] x k) [
  | inl same ↦ inl same
  | inr later ↦ absurd (Contains-none later)
]
raised_has (p ∷ ps) tag v x k = go (raised_has ps tag v x) (nat_lt tag p.tag) (eqb p.tag tag) k
  where
    new : PoppedTag
    new = record { tag = tag; version = v }

    go : (Contains (raised ps tag v) x → (new ≡ x) ⊎ Contains ps x) → (a b : Bool) → Contains (cond a (new ∷ p ∷ ps) (cond b (new ∷ ps) (p ∷ raised ps tag v))) x → (new ≡ x) ⊎ Contains (p ∷ ps) x
    go rest true b k = elim (Contains-cases new (p ∷ ps) x k) [ inl same ↦ inl same | inr later ↦ inr later ]
    go rest false true k = elim (Contains-cases new ps x k) [ inl same ↦ inl same | inr later ↦ inr (Contains-later p ps x later) ]
    go rest false false k = elim (Contains-cases p (raised ps tag v) x k) [
      | inl same ↦ inr (subst (Contains (p ∷ ps)) same (Contains-here p ps))
      | inr later ↦ elim (rest later) [ inl same ↦ inl same | inr before ↦ inr (Contains-later p ps x before) ]
    ]

-- ---- logs

pub popped_later : Laws → (c : Config) (h : List Turn) (t : Turn) → IsRun c h → IsTurn c h t → (e tag v : ℕ) → IsPoppedIn c h e tag v → IsPoppedIn c (t ∷ h) e tag v
popped_later laws c h t run is e tag v k = record {
  log = k.log;
  there = subst (λ n. k.log < n) (sym (logs_stay laws c h t run is e k.log k.there)) k.there;
  popped = subst (λ (l : LogState). IsShownFrom l.popped tag v) (sym (log_stays laws c h t run is e k.log k.there))
      (log_by_own_turn c h t is e k.log (log_at c h e k.log) (λ l. IsShownFrom l.popped tag v) k.popped (λ from a came.
      popped_change (λ ps. IsShownFrom ps tag v) (log_at c h e k.log) a k.popped (λ epoch u through at none le. raised_keeps (log_at c h e k.log).popped u _ le tag v k.popped)));
}

pub locked_is_popped : Laws → LockedIsPopped
locked_is_popped laws c [] run e i to durable known popped k x has = absurd k
locked_is_popped laws c (t ∷ h) run e i to durable known popped (inr k) x has = popped_later laws c h t run.1 run.0 e x.tag x.version (locked_is_popped laws c h run.1 e i to durable known popped k x has)
locked_is_popped laws c (t ∷ h) run e i to durable known popped (inl k) x has = popped_later laws c h t run.1 run.0 e x.tag x.version (now t run.0 k)
  where
    at_log : (y j : ℕ) (from : NodeId) (a : LogAsk) (u : LogTell) → IsTurn c h (LogTurn from y j a u) → u ≡ ltell.Locked durable known popped → IsPoppedIn c h y x.tag x.version
    at_log y j from a u is says =
        let answer = laws.log_answers (log_at c h y j) a (ltell.Locked durable known popped) (sym is.2 ∙ says) in
        record {
          log = j;
          there = Rattle.std.proofs.lemmas.Bool.ltb-true j (logs_at c h y) is.0.there;
          popped = record { entry = x; there = subst (λ ps. Contains ps x) answer.popped_is has; tag_is = refl; high = omega arith };
        }

    now : (t : Turn) → IsTurn c h t → TellsBy t (node.Log e i) to (tell.Log (ltell.Locked durable known popped)) → IsPoppedIn c h e x.tag x.version
    now (Begun b shape asks) is k = absurd k
    now (CellTurn from j a u) is (at, own, says) = let d : node.Cell j ≡ node.Log e i = at in absurd (cc)
    now (LogTurn from y j a u) is (at, own, says) =
        let d : y ≡ e = cc in
        let v : u ≡ ltell.Locked durable known popped = cc in
        subst (λ z. IsPoppedIn c h z x.tag x.version) d (at_log y j from a u is v)
    now (SeqTurn from y a u) is (at, own, says) = let d : node.Sequencer y ≡ node.Log e i = at in absurd (cc)
    now (Submitted y p step batch asks) is k = absurd k
    now (ProxyHeard y p from u outcome asks) is k = absurd k
    now (RecHeard b from u asks) is k = absurd k
    now (StorageHeard tag from u taken fault) is k = absurd k
    now (Gone who) is k = absurd k
    now (Crashed who) is k = absurd k

-- ---- recoverers

record HasShown (c : Config) (h : List Turn) (r : RecState) : Type 0 where
  pub begins : r.begins ≡ c.begins
  pub none : r.parent ≡ None → r.shown ≡ []
  pub shown : (p : Parent) → r.parent ≡ Some p → (x : PoppedTag) → Contains r.shown x → IsPoppedIn c h p.last.epoch x.tag x.version
  pub dropped : (p : Parent) (q : Plan) → r.parent ≡ Some p → r.plan ≡ Some q → p.state.dropped < q.state.dropped → (tag : ℕ) → tag < length c.begins → IsDroppedBy c h p q tag

-- the first of what is left
first_of_left : (gens own : List LogGeneration) (n : ℕ) (g : LogGeneration) → slice_get gens n ≡ Some g → slice_get (drop n gens ++ own) 0 ≡ Some g
first_of_left [] own zero g e = absurd (cc)
first_of_left [] own (suc n) g e = absurd (cc)
first_of_left (x ∷ gens) own zero g e = e
first_of_left (x ∷ gens) own (suc n) g e = first_of_left gens own n g e

tag_there : (n tag : ℕ) → tag < n → Contains (range_with_len 0 n) tag
tag_there n tag less =
    let k = length-range_with_len 0 n in
    let same : 0 + tag ≡ tag = omega arith in
    (tag, omega (arith, k, less), get_or-range_with_len 0 n tag tag (omega (arith, k, less)) ∙ same)

module _ (laws : Laws) (c : Config) (h : List Turn) (config : IsConfig c) (run : IsRun c h) (b : ℕ) (from : NodeId) (t : Tell) (told : Told h from (node.Recoverer b) t) (r : RecState) (at : rec_at c h b ≡ Some r) (k : HasShown c h r) where
  no_own_parent : (p : Parent) → r.parent ≡ Some p → r.parent ≡ None → ⊥
  no_own_parent p e none = let d : None ≡ Some p = sym none ∙ e in cc

  -- a reply shows what its log has popped
  more_shown : (p : Parent) (end : EndState) (i durable known : ℕ) (popped : List PoppedTag) → IsReplied r (word_of from t) p end i durable known popped
      → (q : Parent) → r.parent ≡ Some q → (x : PoppedTag) → Contains (with_lock r end i durable known popped).shown x → IsPoppedIn c h q.last.epoch x.tag x.version
  more_shown p end i durable known popped is q e x has = go (counts end i) has
    where
      same : p ≡ q
      same = let d : Some p ≡ Some q = sym is.parent ∙ e in cc

      heard : Told h (node.Log p.last.epoch i) (node.Recoverer b) (tell.Log (ltell.Locked durable known popped))
      heard = let w = of_log from t p.last.epoch i (ltell.Locked durable known popped) is.word in
          subst (λ y. Told h (node.Log p.last.epoch i) (node.Recoverer b) y) w.said (subst (λ y. Told h y (node.Recoverer b) t) w.sender told)

      new : Contains popped x → IsPoppedIn c h q.last.epoch x.tag x.version
      new there = subst (λ (y : Parent). IsPoppedIn c h y.last.epoch x.tag x.version) same (locked_is_popped laws c h run p.last.epoch i (node.Recoverer b) durable known popped heard x there)

      go : (s : Bool) → Contains (cond s (r.shown ++ popped) r.shown) x → IsPoppedIn c h q.last.epoch x.tag x.version
      go true there = elim (Contains-append_cases r.shown popped x there) [
        | inl old ↦ k.shown q e x old
        | inr own ↦ new own
      ]
      go false there = k.shown q e x there

  locked : (p : Parent) (end : EndState) (i durable known : ℕ) (popped : List PoppedTag) → IsReplied r (word_of from t) p end i durable known popped → HasShown c h (with_lock r end i durable known popped)
  locked p end i durable known popped is = record {
    begins = k.begins;
    none = λ none. absurd (no_own_parent p is.parent none);
    shown = more_shown p end i durable known popped is;
    dropped = k.dropped;
  }

  -- a plan drops by what is shown
  plans : (p : Parent) (end : EndState) (i durable known : ℕ) (popped : List PoppedTag) (s : CoordinatedState) → IsReplied r (word_of from t) p end i durable known popped
      → s.dropped ≡ (left_of (with_lock r end i durable known popped) p).dropped → s.gens ≡ (left_of (with_lock r end i durable known popped) p).gens ++ rec.next_generation r p (replied end i durable known) ∷ []
      → p.state.dropped < s.dropped → (tag : ℕ) → tag < length c.begins → IsDroppedBy c h p (plan_of r p (replied end i durable known) s) tag
  plans p end i durable known popped s is dropped_is gens_are less tag inside =
      let states = (recoverers_have_states laws c h config run b r at).parent p is.parent in
      let n = with_lock r end i durable known popped in
      let left = laws.left p.state n.shown (range_with_len 0 (length r.begins)) states.0 in
      let d = ap (λ (x : CoordinatedState). x.dropped) left.is in
      let low = left.starts (omega (arith, dropped_is, d, less)) in
      let gens = ap (λ (x : CoordinatedState). x.gens) left.is in
      let entry = laws.shown n.shown (range_with_len 0 (length r.begins)) low.least tag low.is_least
      (tag_there (length r.begins) tag (subst (λ xs. tag < length xs) (sym k.begins) inside)) in
      let there = more_shown p end i durable known popped is p is.parent entry.entry entry.there in
      let starts = low.starts in
      let high = entry.high in
      let far = there.popped.high in
      record {
        first = low.first;
        left = ap (λ xs. slice_get xs 0) (gens_are ∙ ap (λ xs. xs ++ rec.next_generation r p (replied end i durable known) ∷ []) gens) ∙ first_of_left p.state.gens (rec.next_generation r p (replied end i durable known) ∷ []) left.number low.first low.left;
        starts = record { log = there.log; there = there.there; popped = record { entry = there.popped.entry; there = there.popped.there; tag_is = there.popped.tag_is ∙ entry.tag_is; high = omega (arith, starts, high, far) } };
      }

  change : (n : RecState) → Change r (word_of from t) n → HasShown c h n
  change n Stands = k
  change n (LosesReads i u why is) = record { begins = k.begins; none = k.none; shown = k.shown; dropped = k.dropped }
  change n (Reads i u is) = record { begins = k.begins; none = k.none; shown = k.shown; dropped = k.dropped }
  change n (Finds i u s g heard is) =
      let come_by = (rec_is laws c h run b r at).kept.come_by in
      let none : r.parent ≡ None = come_by.reading heard.phase in
      record {
        begins = k.begins;
        none = λ e. absurd (cc);
        shown = λ p e x has. absurd (Contains-none (subst (λ xs. Contains xs x) (k.none none) has));
        dropped = λ p q e planned less tag inside. absurd (no_plan r come_by heard.phase q planned);
      }
  change n (Locks p end i durable known popped is) = locked p end i durable known popped is
  change n (LosesLocks p end i durable known popped why is) = let j = locked p end i durable known popped is in record { begins = j.begins; none = j.none; shown = j.shown; dropped = j.dropped }
  change n (Plans p end i durable known popped s is ended) =
      let m = replied end i durable known in
      let j = locked p end i durable known popped is in
      let states = (recoverers_have_states laws c h config run b r at).parent p is.parent in
      let locked_rec = with_lock r end i durable known popped in
      let left = laws.left p.state locked_rec.shown (range_with_len 0 (length r.begins)) states.0 in
      let rest : IsCoordinatedState (left_of locked_rec p) = subst IsCoordinatedState (sym left.is) (laws.drop_is_state p.state left.number states.0 left.fewer) in
      record {
        begins = j.begins;
        none = j.none;
        shown = j.shown;
        dropped = λ p' q e planned less tag inside. (
            let f : plan_of r p m s ≡ q = cc in
            let two : Some p ≡ Some p' = sym is.parent ∙ e in
            let same : p ≡ p' = cc in
            let is_state = extended_is (left_of locked_rec p) s (rec.next_generation r p m) ended.state in
            subst (λ y. IsDroppedBy c h y q tag) same
            (subst (λ y. IsDroppedBy c h p y tag) f
            (plans p end i durable known popped s is is_state.0 is_state.1 (subst (λ (y : Plan). p.state.dropped < y.state.dropped) (sym f) (subst (λ (y : Parent). y.state.dropped < q.state.dropped) (sym same) less)) tag inside)));
      }
    where
      extended_is : (x s : CoordinatedState) (g : LogGeneration) → Rattle.fr_state.specs.Order.extended x g ≡ Rattle.std.specs.Prelude.Ok s → (s.dropped ≡ x.dropped) × (s.gens ≡ x.gens ++ g ∷ [])
      extended_is x s g e = go (Rattle.fr_state.specs.Order.is_ordered (x.gens ++ g ∷ [])) (nat_lt (length x.gens) 64) e
        where
          go : (a d : Bool) → cond a (cond d (Rattle.std.specs.Prelude.Ok (record x { gens = x.gens ++ g ∷ [] })) (Rattle.std.specs.Prelude.Err Rattle.fr_state.specs.declared.fault.StateFault.TheVariants.TooMany)) (Rattle.std.specs.Prelude.Err Rattle.fr_state.specs.declared.fault.StateFault.TheVariants.NotLater) ≡ Rattle.std.specs.Prelude.Ok s
              → (s.dropped ≡ x.dropped) × (s.gens ≡ x.gens ++ g ∷ [])
          go true true e = let same : record x { gens = x.gens ++ g ∷ [] } ≡ s = cc in (ap (λ (y : CoordinatedState). y.dropped) (sym same), ap (λ (y : CoordinatedState). y.gens) (sym same))
          go true false e = absurd (cc)
          go false d e = absurd (cc)
  change n (Copies parent p i peeked is) = record {
    begins = k.begins;
    none = k.none;
    shown = k.shown;
    dropped = λ p' q e planned less tag inside. (
        let m : Plan = record { state = p.state; generation = p.generation; tail = after_peeked p.tail i peeked.tag peeked } in
        let f : m ≡ q = cc in
        let was = k.dropped p' p e is.plan (subst (λ (y : Plan). p'.state.dropped < y.state.dropped) (sym f) less) tag inside in
        subst (λ y. IsDroppedBy c h p' y tag) f (record { first = was.first; left = was.left; starts = was.starts }));
  }
  change n (Seeds p i is w) = record { begins = k.begins; none = k.none; shown = k.shown; dropped = k.dropped }
  change n (SeedsAll p i is w) = record { begins = k.begins; none = k.none; shown = k.shown; dropped = k.dropped }
  change n (Writes i u is) = record { begins = k.begins; none = k.none; shown = k.shown; dropped = k.dropped }
  change n (LosesWrites i u why is) = record { begins = k.begins; none = k.none; shown = k.shown; dropped = k.dropped }
  change n (Chooses i u is m) = record { begins = k.begins; none = k.none; shown = k.shown; dropped = k.dropped }
  change n (Marks p i is) = record { begins = k.begins; none = k.none; shown = k.shown; dropped = k.dropped }

-- ---- runs

later : Laws → (c : Config) (h : List Turn) (t : Turn) → IsRun c h → IsTurn c h t → (o : Option RecState) → IfSome o (HasShown c h) → IfSome o (HasShown c (t ∷ h))
later laws c h t run is None k = tt
later laws c h t run is (Some r) k = record {
  begins = k.begins;
  none = k.none;
  shown = λ p e x has. popped_later laws c h t run is p.last.epoch x.tag x.version (k.shown p e x has);
  dropped = λ p q e planned less tag inside. (
      let was = k.dropped p q e planned less tag inside in
      record { first = was.first; left = was.left; starts = popped_later laws c h t run is p.last.epoch tag (was.first.first - 1) was.starts });
}

new_has_shown : (c : Config) (h : List Turn) (b : ℕ) (shape : Option ShapeContent) → HasShown c h (new_recoverer b c.cells c.begins shape)
new_has_shown c h b shape = record { begins = refl; none = λ e. refl; shown = λ p e x has. absurd (cc); dropped = λ p q e planned less tag inside. absurd (cc) }

have_shown : Laws → (c : Config) (h : List Turn) → IsConfig c → IsRun c h → (b : ℕ) → IfSome (rec_at c h b) (HasShown c h)
have_shown laws c [] config run b = tt
have_shown laws c (t ∷ h) config run b =
    rec_by_turn c h t run.0 b (λ o. IfSome o (HasShown c (t ∷ h))) (later laws c h t run.1 run.0 (rec_at c h b) (have_shown laws c h config run.1 b)) (λ shape none may is. new_has_shown c (t ∷ h) b shape) (λ r from u at told.
    later laws c h t run.1 run.0 (Some (rec.after_hear r from u))
    (change laws c h config run.1 b from u told r at (subst (λ o. IfSome o (HasShown c h)) at (have_shown laws c h config run.1 b)) (rec.after_hear r from u) (laws.rec_change r from u)))

has_shown : Laws → (c : Config) (h : List Turn) → IsConfig c → IsRun c h → (b : ℕ) (r : RecState) → rec_at c h b ≡ Some r → HasShown c h r
has_shown laws c h config run b r at = subst (λ o. IfSome o (HasShown c h)) at (have_shown laws c h config run b)

pub shown_is_popped : Laws → ShownIsPopped
shown_is_popped laws c h config run b r p at parent x has = (has_shown laws c h config run b r at).shown p parent x has

pub drops_are_popped : Laws → DropsArePopped
drops_are_popped laws c h config run b r p q at parent planned less tag inside = (has_shown laws c h config run b r at).dropped p q parent planned less tag inside
