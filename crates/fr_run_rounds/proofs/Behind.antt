-- What stands behind the locks and the peeks that a recoverer sent: it has a parent, and for a peek a plan.
use Rattle.std.proofs.Common.{◌≡◌, ℕ, Bool, true, false, cond, nat_lt, map, filter, List, [], ◌∷◌, length, Option, None, Some, inl, inr, refl, sym, ◌∙◌, ap, subst}
use Rattle.std.specs.Prelude.{is_some}
use Rattle.std.specs.List.{Contains, range_with_len}
use Rattle.std.specs.Option.{option_map}
use Rattle.std.proofs.lemmas.Bool.{eq-eqb}
use Rattle.fr_base.specs.declared.place.NodeId.{NodeId}
use Rattle.fr_base.specs.declared.place.NodeId.TheVariants as node
use Rattle.fr_tags.specs.Placement.{is_held}
use Rattle.fr_log.specs.Peeked.{PeekedContent}
use Rattle.fr_log.specs.declared.ask.LogAsk.{LogAsk}
use Rattle.fr_log.specs.declared.ask.LogAsk.TheVariants as lask
use Rattle.fr_log.specs.declared.ask.LogTell.{LogTell}
use Rattle.fr_log.specs.declared.ask.LogTell.TheVariants as ltell
use Rattle.fr_ask.specs.declared.ask.Ask.{Ask}
use Rattle.fr_ask.specs.declared.ask.Ask.TheVariants as ask
use Rattle.fr_ask.specs.declared.tell.Tell.{Tell}
use Rattle.fr_tail.specs.Tail.{TagPart, part_at, after_hear as after_peeked}
use Rattle.fr_epoch.specs.EndTally.{EndState}
use Rattle.fr_epoch.specs.Recoverer.{RecState, Phase, Parent, Plan, Reading, Locking, Copying, Writing, Chosen, Lost, new_recoverer, is_copied}
use Rattle.fr_epoch.specs.Words.{Word, OfCell, OfLog, Other, word_of}
use Rattle.fr_epoch.specs.Hear.{after_hear}
use Rattle.fr_epoch.specs.Asks.{locks_of, peeks_of_tag, peeks_of, seeds_of, writes_of, marks_of, pending, pending_in, has_moved, reached_in, next_peeks, peeks_after, peeks_in, new_asks}
use Rattle.fr_epoch.specs.Change.{Change, Stands, LosesReads, Reads, Finds, Locks, LosesLocks, Plans, Copies, Seeds, SeedsAll, Writes, LosesWrites, Chooses, Marks}
use Rattle.fr_epoch.specs.Law.{IsRecoverer, RecGrows}
use Rattle.fr_run.specs.Config.{Config}
use Rattle.fr_run.specs.Turn.{Turn, Begun, CellTurn, LogTurn, SeqTurn, Submitted, ProxyHeard, RecHeard, StorageHeard, Gone, Crashed, Sent, actor_of, asks_of}
use Rattle.fr_run.specs.Nodes.{rec_at}
use Rattle.fr_run.specs.Run.{IsTurn, IsRun}
use Rattle.fr_run.specs.Laws.{Laws}
use Rattle.fr_run.proofs.Cells.{Contains-here, Contains-later, Contains-none, Contains-cases}
use Rattle.fr_run.proofs.Growth.{rec_is}
use Rattle.fr_run_outcomes.proofs.Lists.{map_from, flat_from}
use Rattle.fr_run_outcomes.proofs.Asked.{peek_takes}
use Rattle.fr_run_rounds.proofs.Along.{HoldsOf, Keeps, along}

-- ---- plans

-- the same plan, perhaps with more copied
pub record SamePlan (q x : Plan) : Type 0 where
  pub responders : x.tail.responders ≡ q.tail.responders
  pub m : x.tail.m ≡ q.tail.m
  pub k : x.tail.k ≡ q.tail.k
  pub pev : x.tail.pev ≡ q.tail.pev
  pub rv : x.tail.rv ≡ q.tail.rv
  pub generation : x.generation ≡ q.generation

pub same_plan : (q : Plan) → SamePlan q q
same_plan q = record { responders = refl; m = refl; k = refl; pev = refl; rv = refl; generation = refl }

pub same_on : (q x y : Plan) → SamePlan q x → SamePlan x y → SamePlan q y
same_on q x y a b = record {
  responders = b.responders ∙ a.responders;
  m = b.m ∙ a.m;
  k = b.k ∙ a.k;
  pev = b.pev ∙ a.pev;
  rv = b.rv ∙ a.rv;
  generation = b.generation ∙ a.generation;
}

-- it has this plan, perhaps with more copied
pub record HasPlanOf (q : Plan) (r : RecState) : Type 0 where
  pub plan : Plan
  pub is : r.plan ≡ Some plan
  pub same : SamePlan q plan

pub plan_now : (r : RecState) (q : Plan) → r.plan ≡ Some q → HasPlanOf q r
plan_now r q at = record { plan = q; is = at; same = same_plan q }

taken_plan : (p : Plan) (i : ℕ) (peeked : PeekedContent) → SamePlan p (record p { tail = after_peeked p.tail i peeked.tag peeked })
taken_plan p i peeked = (let k = peek_takes p.tail i peeked.tag peeked in record { responders = k.responders; m = k.m; k = k.k; pev = k.pev; rv = k.rv; generation = refl })

pub plan_change : (q : Plan) (r : RecState) (w : Word) (n : RecState) → IsRecoverer r → Change r w n → HasPlanOf q r → HasPlanOf q n
plan_change q r w n come_by Stands k = k
plan_change q r w n come_by (LosesReads i t y heard) k = record { plan = k.plan; is = k.is; same = k.same }
plan_change q r w n come_by (Reads i t heard) k = record { plan = k.plan; is = k.is; same = k.same }
plan_change q r w n come_by (Finds i t s g heard found) k = record { plan = k.plan; is = k.is; same = k.same }
plan_change q r w n come_by (Locks p end i d f ps heard) k = record { plan = k.plan; is = k.is; same = k.same }
plan_change q r w n come_by (LosesLocks p end i d f ps y heard) k = record { plan = k.plan; is = k.is; same = k.same }
plan_change q r w n come_by (Plans p end i d f ps s heard fixed) k = (let d : None ≡ Some k.plan = sym (come_by.locking heard.phase) ∙ k.is in absurd (cc))
plan_change q r w n come_by (Copies parent p i peeked given) k =
    let two : Some k.plan ≡ Some p = sym k.is ∙ given.plan in
    let same : k.plan ≡ p = cc in
    record {
      plan = record p { tail = after_peeked p.tail i peeked.tag peeked };
      is = refl;
      same = same_on q p (record p { tail = after_peeked p.tail i peeked.tag peeked }) (subst (SamePlan q) same k.same) (taken_plan p i peeked);
    }
plan_change q r w n come_by (Seeds p i new not_yet) k = record { plan = k.plan; is = k.is; same = k.same }
plan_change q r w n come_by (SeedsAll p i new all) k = record { plan = k.plan; is = k.is; same = k.same }
plan_change q r w n come_by (Writes i t heard) k = record { plan = k.plan; is = k.is; same = k.same }
plan_change q r w n come_by (LosesWrites i t y heard) k = record { plan = k.plan; is = k.is; same = k.same }
plan_change q r w n come_by (Chooses i t heard m) k = record { plan = k.plan; is = k.is; same = k.same }
plan_change q r w n come_by (Marks p i new) k = record { plan = k.plan; is = k.is; same = k.same }

pub plan_keeps : Laws → (c : Config) (b : ℕ) (q : Plan) → Keeps c b (HasPlanOf q)
plan_keeps laws c b q h run r from u at told k = plan_change q r (word_of from u) (after_hear r from u) (rec_is laws c h run b r at).kept.come_by (laws.rec_change r from u) k

-- it has this parent
pub parent_keeps : Laws → (c : Config) (b : ℕ) (p : Parent) → Keeps c b (λ r. r.parent ≡ Some p)
parent_keeps laws c b p h run r from u at told k =
    let grows : RecGrows r (after_hear r from u) = laws.rec_grows r from u (rec_is laws c h run b r at).kept.come_by in
    grows.parent (ap is_some k) ∙ k

-- ---- asks

-- a peek for so many records stands on a plan whose copy reads this log
pub record IsPeekOf (e i most : ℕ) (r : RecState) : Type 0 where
  pub parent : Parent
  pub parent_is : r.parent ≡ Some parent
  pub epoch : parent.last.epoch ≡ e
  pub plan : Plan
  pub plan_is : r.plan ≡ Some plan
  pub among : Contains plan.tail.responders i
  pub hundred : most ≡ 100

abbrev pub IsBehindLog : RecState → ℕ → ℕ → LogAsk → Type 0
IsBehindLog r e i (lask.Lock x) = (p : Parent) × (r.parent ≡ Some p) × (p.last.epoch ≡ e)
IsBehindLog r e i (lask.Peek x tag after most) = IsPeekOf e i most r
IsBehindLog r e i a = Unit {0}

-- what stands behind an ask
abbrev pub IsBehind : NodeId → Ask → RecState → Type 0
IsBehind (node.Log e i) (ask.Log a) r = IsBehindLog r e i a
IsBehind to a r = Unit {0}

abbrev pub Behind : RecState → NodeId × Ask → Type 0
Behind r s = IsBehind s.0 s.1 r

pub filter_within : (f : ℕ → Bool) (xs : List ℕ) (i : ℕ) → Contains (filter f xs) i → Contains xs i
filter_within f [] i k = k
filter_within f (x ∷ xs) i k = go (f x) k (filter_within f xs i)
  where
    go : (b : Bool) → Contains (cond b (x ∷ filter f xs) (filter f xs)) i → (Contains (filter f xs) i → Contains xs i) → Contains (x ∷ xs) i
    go true m rest = elim (Contains-cases x (filter f xs) i m) [ inl same ↦ subst (λ z. Contains (x ∷ xs) z) same (Contains-here x xs) | inr later ↦ Contains-later x xs i (rest later) ]
    go false m rest = Contains-later x xs i (rest m)

mapped : (r : RecState) (f : ℕ → NodeId × Ask) (xs : List ℕ) → ((i : ℕ) → Contains xs i → Behind r (f i)) → (s : NodeId × Ask) → Contains (map f xs) s → Behind r s
mapped r f xs each s k = (let m = map_from f xs s k in subst (Behind r) m.2 (each m.0 m.1))

locks_behind : (r : RecState) (o : Option Parent) (q : Option EndState) → r.parent ≡ o → (s : NodeId × Ask) → Contains (locks_of o q) s → Behind r s
locks_behind r None q at s k = absurd (Contains-none k)
locks_behind r (Some p) None at s k = absurd (Contains-none k)
locks_behind r (Some p) (Some end) at s k = mapped r _ _ (λ i m. (p, at, refl)) s k

peeks_behind : (r : RecState) (o : Option Parent) (q : Option Plan) (tags : List ℕ) → r.parent ≡ o → r.plan ≡ q → (s : NodeId × Ask) → Contains (peeks_of r o q tags) s → Behind r s
peeks_behind r None q tags at planned s k = absurd (Contains-none k)
peeks_behind r (Some parent) None tags at planned s k = absurd (Contains-none k)
peeks_behind r (Some parent) (Some p) tags at planned s k =
    let own = flat_from (peeks_of_tag r parent p) tags s k in
    go own.0 (nat_lt (part own.0).reached p.tail.rv) own.2
  where
    part : ℕ → TagPart
    part tag = part_at p.tail tag

    go : (tag : ℕ) (b : Bool) → Contains (cond b (map (λ i. (node.Log parent.last.epoch i, ask.Log (lask.Peek parent.last.epoch tag (part_at p.tail tag).reached 100))) (filter (λ i. is_held tag p.tail.m p.tail.k i) p.tail.responders)) []) s → Behind r s
    go tag true m = mapped r _ _ (λ i among. record { parent = parent; parent_is = at; epoch = refl; plan = p; plan_is = planned; among = filter_within (λ j. is_held tag p.tail.m p.tail.k j) p.tail.responders i among; hundred = refl }) s m
    go tag false m = absurd (Contains-none m)

seeds_behind : (r : RecState) (q : Option Plan) (s : NodeId × Ask) → Contains (seeds_of r q) s → Behind r s
seeds_behind r None s k = absurd (Contains-none k)
seeds_behind r (Some p) s k = mapped r _ _ (λ i m. tt) s k

writes_behind : (r : RecState) (q : Option Plan) (s : NodeId × Ask) → Contains (writes_of r q) s → Behind r s
writes_behind r None s k = absurd (Contains-none k)
writes_behind r (Some p) s k = mapped r _ _ (λ i m. tt) s k

marks_behind : (r : RecState) (q : Option Plan) (s : NodeId × Ask) → Contains (marks_of r q) s → Behind r s
marks_behind r None s k = absurd (Contains-none k)
marks_behind r (Some p) s k = mapped r _ _ (λ i m. tt) s k

pub behind_in : (ph : Phase) (r : RecState) (s : NodeId × Ask) → Contains (pending_in ph r) s → Behind r s
behind_in Reading r s k = mapped r _ _ (λ i m. tt) s k
behind_in Locking r s k = locks_behind r r.parent r.end refl s k
behind_in Copying r s k = go (is_copied r) k
  where
    go : (b : Bool) → Contains (cond b (seeds_of r r.plan) (peeks_of r r.parent r.plan (range_with_len 0 (length r.begins)))) s → Behind r s
    go true m = seeds_behind r r.plan s m
    go false m = peeks_behind r r.parent r.plan (range_with_len 0 (length r.begins)) refl refl s m
behind_in Writing r s k = writes_behind r r.plan s k
behind_in Chosen r s k = marks_behind r r.plan s k
behind_in (Lost w) r s k = absurd (Contains-none k)

next_behind : (r n : RecState) (t : LogTell) (s : NodeId × Ask) → Contains (next_peeks r n t) s → Behind n s
next_behind r n (ltell.Peeked peeked) s k = go (nat_lt (reached_in r.plan peeked.tag) (reached_in n.plan peeked.tag)) k
  where
    go : (b : Bool) → Contains (cond b (peeks_of n n.parent n.plan (peeked.tag ∷ [])) []) s → Behind n s
    go true m = peeks_behind n n.parent n.plan (peeked.tag ∷ []) refl refl s m
    go false m = absurd (Contains-none m)
next_behind r n ltell.Seeded s k = absurd (Contains-none k)
next_behind r n (ltell.Held version) s k = absurd (Contains-none k)
next_behind r n (ltell.Locked durable known popped) s k = absurd (Contains-none k)
next_behind r n (ltell.Marked state) s k = absurd (Contains-none k)
next_behind r n (ltell.Popped version) s k = absurd (Contains-none k)
next_behind r n (ltell.Refused why) s k = absurd (Contains-none k)

after_behind : (r n : RecState) (w : Word) (s : NodeId × Ask) → Contains (peeks_after r n w) s → Behind n s
after_behind r n (OfCell i t) s k = absurd (Contains-none k)
after_behind r n (OfLog e i t) s k = next_behind r n t s k
after_behind r n Other s k = absurd (Contains-none k)

peeks_in_behind : (ph : Phase) (r n : RecState) (w : Word) (s : NodeId × Ask) → Contains (peeks_in ph r n w) s → Behind n s
peeks_in_behind Reading r n w s k = absurd (Contains-none k)
peeks_in_behind Locking r n w s k = absurd (Contains-none k)
peeks_in_behind Copying r n w s k = after_behind r n w s k
peeks_in_behind Writing r n w s k = absurd (Contains-none k)
peeks_in_behind Chosen r n w s k = absurd (Contains-none k)
peeks_in_behind (Lost y) r n w s k = absurd (Contains-none k)

new_behind : (r : RecState) (from : NodeId) (t : Tell) (s : NodeId × Ask) → Contains (new_asks r from t) s → Behind (after_hear r from t) s
new_behind r from t s = go (has_moved r (after_hear r from t))
  where
    go : (b : Bool) → Contains (cond b (pending (after_hear r from t)) (peeks_in r.phase r (after_hear r from t) (word_of from t))) s → Behind (after_hear r from t) s
    go true k = behind_in (after_hear r from t).phase (after_hear r from t) s k
    go false k = peeks_in_behind r.phase r (after_hear r from t) (word_of from t) s k

-- ---- it stays so

log_behind_keeps : Laws → (c : Config) (b e i : ℕ) (a : LogAsk) → Keeps c b (λ r. IsBehindLog r e i a)
log_behind_keeps laws c b e i (lask.Lock x) h run r from u at told (p, parent, own) = (p, parent_keeps laws c b p h run r from u at told parent, own)
log_behind_keeps laws c b e i (lask.Peek x tag after most) h run r from u at told k =
    let later = plan_keeps laws c b k.plan h run r from u at told (plan_now r k.plan k.plan_is) in
    record {
      parent = k.parent;
      parent_is = parent_keeps laws c b k.parent h run r from u at told k.parent_is;
      epoch = k.epoch;
      plan = later.plan;
      plan_is = later.is;
      among = subst (λ xs. Contains xs i) (sym later.same.responders) k.among;
      hundred = k.hundred;
    }
log_behind_keeps laws c b e i (lask.Seed s) h run r from u at told k = tt
log_behind_keeps laws c b e i (lask.Push p) h run r from u at told k = tt
log_behind_keeps laws c b e i (lask.MarkAsked x) h run r from u at told k = tt
log_behind_keeps laws c b e i (lask.Pop x tag through) h run r from u at told k = tt

-- what stands behind an ask to a log that was sent
pub sent_behind : Laws → (c : Config) (h : List Turn) → IsRun c h → (b e i : ℕ) (a : LogAsk) → Sent h (node.Recoverer b) (node.Log e i) (ask.Log a) → HoldsOf (rec_at c h b) (λ r. IsBehindLog r e i a)
sent_behind laws c [] run b e i a k = absurd k
sent_behind laws c (t ∷ h) run b e i a (inr before) =
    (let k = sent_behind laws c h run.1 b e i a before in along c b (λ r. IsBehindLog r e i a) (log_behind_keeps laws c b e i a) (t ∷ []) h run k.recoverer k.is k.holds)
sent_behind laws c (t ∷ h) run b e i a (inl (who, has)) = now t run.0 who has
  where
    now : (t : Turn) → IsTurn c h t → actor_of t ≡ node.Recoverer b → Contains (asks_of t) (node.Log e i, ask.Log a) → HoldsOf (rec_at c (t ∷ h) b) (λ r. IsBehindLog r e i a)
    now (Begun x shape asks) is at m =
        let d : node.Recoverer x ≡ node.Recoverer b = at in
        let own : x ≡ b = cc in
        record {
          recoverer = new_recoverer x c.cells c.begins shape;
          is = ap (λ y. cond y (Some (new_recoverer x c.cells c.begins shape)) (rec_at c h b)) (eq-eqb x b own);
          holds = behind_in Reading (new_recoverer x c.cells c.begins shape) (node.Log e i, ask.Log a) (subst (λ xs. Contains xs (node.Log e i, ask.Log a)) is.3 m);
        }
    now (CellTurn from j d u) is at m = absurd (Contains-none m)
    now (LogTurn from x j d u) is at m = absurd (Contains-none m)
    now (SeqTurn from x d u) is at m = absurd (Contains-none m)
    now (Submitted x p step batch asks) is at m = (let d : node.Proxy x p ≡ node.Recoverer b = at in absurd (cc))
    now (ProxyHeard x p from u outcome asks) is at m = (let d : node.Proxy x p ≡ node.Recoverer b = at in absurd (cc))
    now (RecHeard x from u asks) is at m =
        let d : node.Recoverer x ≡ node.Recoverer b = at in
        let own : x ≡ b = cc in
        record {
          recoverer = after_hear is.1.0 from u;
          is = ap (λ y. cond y (option_map (λ s. after_hear s from u) (rec_at c h b)) (rec_at c h b)) (eq-eqb x b own) ∙ ap (λ o. option_map (λ s. after_hear s from u) o) (subst (λ y. rec_at c h y ≡ Some is.1.0) own is.1.1);
          holds = new_behind is.1.0 from u (node.Log e i, ask.Log a) (subst (λ xs. Contains xs (node.Log e i, ask.Log a)) is.1.2 m);
        }
    now (StorageHeard tag from u taken fault) is at m = absurd (Contains-none m)
    now (Gone w) is at m = absurd (Contains-none m)
    now (Crashed w) is at m = absurd (Contains-none m)
