-- A journal that is one entry longer.
use Rattle.std.proofs.Common.{arith, refl, subst, sym, ap, ◌∙◌, inl, inr}
use Rattle.std.specs.Prelude.{ℕ, Bool, true, false, ◌≡◌, ◌≤◌, ◌<◌, ◌+◌, ◌^◌, max, ◌⊎◌, ◌++◌, List, [], ◌∷◌, Option, None, Some, if◌then◌else◌}
use Rattle.fr_ask.specs.declared.ask.Ask.{Ask}
use Rattle.fr_ask.specs.declared.tell.Tell.{Tell}
use Rattle.fr_base.specs.declared.place.NodeId.{NodeId}
use Rattle.fr_base.specs.declared.node.NodeFault.{NodeFault}
use Rattle.fr_base.specs.declared.node.NodeFault.TheVariants as node
use Rattle.fr_audit_journal.specs.declared.call_fault.CallFault.TheVariants as call
use Rattle.fr_audit_journal.specs.declared.act.Act.{Act}
use Rattle.fr_audit_journal.specs.declared.act.Act.TheVariants as act
use Rattle.fr_audit_journal.specs.declared.act.Entry.{Entry}
use Rattle.fr_audit_journal.specs.Replays.{Steps, told_at, after_at, after_act, state_after, TellsAre, IsTold, gone_after, gone_at_end, IsThere}
use Rattle.fr_audit_journal.specs.declared.kept.AskInDoubt.{AskInDoubt}
use Rattle.fr_audit_journal.specs.Journal.{last_from, last_stamp}
use Rattle.fr_audit_journal.specs.Housing.{Housing, Asks, IsHoused, IsSettled, Leaves, Stands, StandsBy, before, end_of, found_entry, greatest_stamp, is_gone, kept_stamp, last_number, left_kept, next_stamp, number_or_zero, with_found}

pub state-append : {S A : Type 0} (m : Steps S A) (s : S) (es : List Entry) (e : Entry)
    → state_after m s (es ++ e ∷ []) ≡ after_act m (state_after m s es) e.act
state-append m s [] e = refl
state-append m s (x ∷ es) e = state-append m (after_act m s x.act) es e

tells-append : {S A : Type 0} (m : Steps S A) (s : S) (es : List Entry) (e : Entry)
    → TellsAre m s es → IsTold m (state_after m s es) e.act → TellsAre m s (es ++ e ∷ [])
tells-append m s [] e h t = (t, record {})
tells-append m s (x ∷ es) e h t = (h.0, tells-append m (after_act m s x.act) es e h.1 t)

pub gone-append : (n : NodeId) (gone : Bool) (es : List Entry) (e : Entry)
    → gone_at_end n gone (es ++ e ∷ []) ≡ gone_after n (gone_at_end n gone es) e.act
gone-append n gone [] e = refl
gone-append n gone (x ∷ es) e = gone-append n (gone_after n gone x.act) es e

there-append : (n : NodeId) (gone : Bool) (es : List Entry) (e : Entry)
    → IsThere n gone es → gone_at_end n gone es ≡ false → IsThere n gone (es ++ e ∷ [])
there-append n gone [] e h t = (t, record {})
there-append n gone (x ∷ es) e h t = (h.0, there-append n (gone_after n gone x.act) es e h.1 t)

-- what is true of every state that asks reach is true after an act
reached-act : {S A : Type 0} (m : Steps S A) (R : S → Type 0) (s : S) (a : Act)
    → ((s : S) (a : A) → R s → R (m.after s a)) → R s → R (after_act m s a)
reached-act m R s (act.Asked from ask tell) stays h = go (m.unwrapped ask)
  where
    go : (a : Option _) → R (after_at m s a)
    go None = h
    go (Some a) = stays s a h
reached-act m R s a stays h = h

-- a node that enters an act, as it stands by it, stays one with its journal
pub housed-append : {N S A : Type 0} (m : Steps S A) (R : S → Type 0) (h : Housing N S A) (inner : N) (owed : Option S) (e : Entry) (state : S) (failed : Bool)
    → ((s : S) (a : A) → R s → R (m.after s a)) → IsHoused m R h owed
    → gone_at_end h.place false h.entries ≡ false
    → IsTold m (state_after m h.first h.entries) e.act
    → state ≡ after_act m (state_after m h.first h.entries) e.act
    → IsHoused m R (record { node = inner; place = h.place; first = h.first; entries = h.entries ++ e ∷ []; state = state; is_failed = failed; kept = None }) None
housed-append m R h inner owed e state failed stays is there told after =
    let s = state-append m h.first h.entries e in
    record {
      tells = tells-append m h.first h.entries e is.tells told;
      there = there-append h.place false h.entries e is.there there;
      reached = subst R (sym s) (reached-act m R (state_after m h.first h.entries) e.act stays is.reached);
      stands = (after ∙ sym s, refl);
    }

-- an ask that was found taken stands as found, and where the node works nothing is owed
found-true : {A : Type 0} (k : AskInDoubt A) → left_kept (Some k) ≡ Some k → k.found ≡ true
found-true k e = go k.found refl
  where
    go : (f : Bool) → k.found ≡ f → k.found ≡ true
    go true f = f
    go false f = let n = subst (λ b. (if b then Some k else None) ≡ Some k) f e in absurd (cc)

-- how a node stands by an ask that was found taken
stands-found : {N S A : Type 0} (m : Steps S A) (R : S → Type 0) (h : Housing N S A) (owed : Option S) (k : AskInDoubt A)
    → IsHoused m R h owed → h.kept ≡ Some k → left_kept h.kept ≡ h.kept → StandsBy m (before m h) h.state h.is_failed owed k true
stands-found m R h owed k is e left =
    let f : k.found ≡ true = found-true k (subst (λ o. left_kept o ≡ o) e left) in
    let s = subst (λ o. Stands m (before m h) h.entries h.state h.is_failed owed o) e is.stands in
    subst (λ b. StandsBy m (before m h) h.state h.is_failed owed k b) f s.1

-- a node that works and whose ask was found taken holds no ask
pub found-free : {N S A : Type 0} (m : Steps S A) (R : S → Type 0) (h : Housing N S A) (owed : Option S) (k : AskInDoubt A)
    → IsHoused m R h owed → h.kept ≡ Some k → left_kept h.kept ≡ h.kept → h.is_failed ≡ false → owed ≡ None
found-free m R h owed k is e left works = go (stands-found m R h owed k is e left).1
  where
    go : (owed ≡ None) ⊎ ((owed ≡ Some (m.after h.state k.ask)) × (h.is_failed ≡ true)) → owed ≡ None
    go (inl n) = n
    go (inr x) = absurd (cc)

-- an ask that is entered is no crash
pub gone-asked : (n : NodeId) (es : List Entry) (stamp : ℕ) (from : NodeId) (ask : Ask) (tell : Tell)
    → gone_at_end n false (es ++ record { stamp = stamp; act = act.Asked from ask tell } ∷ []) ≡ gone_at_end n false es
gone-asked n es stamp from ask tell = gone-append n false es (record { stamp = stamp; act = act.Asked from ask tell })

-- what an ask of the machine's own is told, and where it leads
told-own : {S A : Type 0} (m : Steps S A) (s : S) (a : A) → m.unwrapped (m.wrapped a) ≡ Some a → told_at m s (m.unwrapped (m.wrapped a)) ≡ Some (m.told s a)
told-own m s a e = ap (told_at m s) e

after-own : {S A : Type 0} (m : Steps S A) (s : S) (a : A) → m.unwrapped (m.wrapped a) ≡ Some a → after_at m s (m.unwrapped (m.wrapped a)) ≡ m.after s a
after-own m s a e = ap (after_at m s) e

-- a node with its journal is its parts
two-same : {N S A : Type 0} (n : Housing N S A) (place : NodeId) (first : S) (entries : List Entry) → place ≡ n.place → first ≡ n.first → entries ≡ n.entries → None ≡ n.kept
    → record { node = n.node; place = place; first = first; entries = entries; state = n.state; is_failed = n.is_failed; kept = None } ≡ n
two-same n place first entries p f e k = rw (p, f, e, k) refl

-- the ask that was found taken is entered
pub found-housed : {N S A : Type 0} (m : Steps S A) (R : S → Type 0) (h n : Housing N S A) (owed free : Option S) (k : AskInDoubt A)
    → ((s : S) (a : A) → R s → R (m.after s a)) → ((s : S) (a : A) → R s → m.after (m.after s a) a ≡ m.after s a)
    → IsHoused m R h owed → is_gone h ≡ false → h.kept ≡ Some k → left_kept h.kept ≡ h.kept
    → m.unwrapped (m.wrapped k.ask) ≡ Some k.ask
    → n.place ≡ h.place → n.first ≡ h.first → n.entries ≡ h.entries ++ found_entry m (before m h) k ∷ [] → n.state ≡ m.after h.state k.ask → n.kept ≡ None → free ≡ None
    → IsHoused m R n free
found-housed m R h n owed free k stays again is there e left own place first entries state kept none =
    let s = before m h in
    let t = (stands-found m R h owed k is e left).0 in
    let at : n.state ≡ after_at m s (m.unwrapped (m.wrapped k.ask)) = state ∙ (ap (λ x. m.after x k.ask) t ∙ (again s k.ask is.reached ∙ sym (after-own m s k.ask own))) in
    let r = housed-append m R h n.node owed (found_entry m s k) n.state n.is_failed stays is there (told-own m s k.ask own) at in
    subst (λ o. IsHoused m R n o) (sym none) (subst (λ x. IsHoused m R x None) (two-same n h.place h.first (h.entries ++ found_entry m s k ∷ []) (sym place) (sym first) (sym entries) (sym kept)) r)

-- a new ask is entered
pub asked-housed : {N S A : Type 0} (m : Steps S A) (R : S → Type 0) (h n : Housing N S A) (owed free : Option S) (stamp : ℕ) (from : NodeId) (a : A)
    → ((s : S) (a : A) → R s → R (m.after s a))
    → IsHoused m R h owed → is_gone h ≡ false → h.kept ≡ None
    → m.unwrapped (m.wrapped a) ≡ Some a
    → n.place ≡ h.place → n.first ≡ h.first → n.entries ≡ h.entries ++ record { stamp = stamp; act = act.Asked from (m.wrapped a) (m.told h.state a) } ∷ [] → n.state ≡ m.after h.state a → n.kept ≡ None → free ≡ owed
    → IsHoused m R n free
asked-housed m R h n owed free stamp from a stays is there e own place first entries state kept none =
    let s = before m h in
    let w = subst (λ o. Stands m (before m h) h.entries h.state h.is_failed owed o) e is.stands in
    let at : n.state ≡ after_at m s (m.unwrapped (m.wrapped a)) = state ∙ (ap (λ x. m.after x a) w.0 ∙ sym (after-own m s a own)) in
    let told : told_at m s (m.unwrapped (m.wrapped a)) ≡ Some (m.told h.state a) = told-own m s a own ∙ ap (λ x. Some (m.told x a)) (sym w.0) in
    let new : Entry = record { stamp = stamp; act = act.Asked from (m.wrapped a) (m.told h.state a) } in
    let r = housed-append m R h n.node owed new n.state n.is_failed stays is there told at in
    subst (λ o. IsHoused m R n o) (sym (none ∙ w.1)) (subst (λ x. IsHoused m R x None) (two-same n h.place h.first (h.entries ++ new ∷ []) (sym place) (sym first) (sym entries) (sym kept)) r)

-- the ask that was found taken is told again what it would have been
pub found-told : {N S A : Type 0} (m : Steps S A) (R : S → Type 0) (h : Housing N S A) (owed : Option S) (k : AskInDoubt A)
    → IsHoused m R h owed → h.kept ≡ Some k → left_kept h.kept ≡ h.kept
    → ((s : S) (a : A) → R s → m.told (m.after s a) a ≡ m.told s a)
    → m.told h.state k.ask ≡ m.told (before m h) k.ask
found-told m R h owed k is e left again =
    ap (λ x. m.told x k.ask) (stands-found m R h owed k is e left).0 ∙ again (before m h) k.ask is.reached

-- a crash and a loss are told nothing, and change nothing
ended-told : {S A : Type 0} (m : Steps S A) (s : S) (a : Act) → (a ≡ act.Crashed) ⊎ (a ≡ act.Lost) → IsTold m s a × (after_act m s a ≡ s)
ended-told m s act.Crashed x = (record {}, refl)
ended-told m s act.Lost x = (record {}, refl)
ended-told m s a (inl x) = absurd (cc)
ended-told m s a (inr x) = absurd (cc)

pub end-is : (is_lost : Bool) → (end_of is_lost ≡ act.Crashed) ⊎ (end_of is_lost ≡ act.Lost)
end-is true = inr refl
end-is false = inl refl

-- a crash or a loss is entered
pub ended-housed : {N S A : Type 0} (m : Steps S A) (R : S → Type 0) (h n : Housing N S A) (owed : Option S) (e : Entry)
    → IsHoused m R h owed → is_gone h ≡ false → h.kept ≡ None
    → ((e.act ≡ act.Crashed) ⊎ (e.act ≡ act.Lost))
    → n.place ≡ h.place → n.first ≡ h.first → n.entries ≡ h.entries ++ e ∷ [] → n.state ≡ h.state → n.kept ≡ None
    → IsHoused m R n owed
ended-housed m R h n owed e is there none ended place first entries state kept =
    let s = before m h in
    let w = subst (λ o. Stands m (before m h) h.entries h.state h.is_failed owed o) none is.stands in
    let t = ended-told m s e.act ended in
    let moved = state-append m h.first h.entries e in
    let r : IsHoused m R (record { node = n.node; place = h.place; first = h.first; entries = h.entries ++ e ∷ []; state = n.state; is_failed = n.is_failed; kept = None }) owed = record {
      tells = tells-append m h.first h.entries e is.tells t.0;
      there = there-append h.place false h.entries e is.there there;
      reached = subst R (sym (moved ∙ t.1)) is.reached;
      stands = (state ∙ (w.0 ∙ sym (moved ∙ t.1)), w.1);
    } in
    subst (λ x. IsHoused m R x owed) (two-same n h.place h.first (h.entries ++ e ∷ []) (sym place) (sym first) (sym entries) (sym kept)) r

-- ---- settled

-- the stamp of the entry at the end is the last
last-append : (es : List Entry) (e : Entry) → last_number (es ++ e ∷ []) ≡ e.stamp
last-append es e = ap number_or_zero (go es e)
  where
    from : (n : ℕ) (es : List Entry) (e : Entry) → last_from n (es ++ e ∷ []) ≡ e.stamp
    from n [] e = refl
    from n (x ∷ es) e = from x.stamp es e

    go : (es : List Entry) (e : Entry) → last_stamp (es ++ e ∷ []) ≡ Some e.stamp
    go [] e = refl
    go (x ∷ es) e = ap (λ n. Some n) (from x.stamp es e)

last-found : {S A : Type 0} (m : Steps S A) (s : S) (es : List Entry) (k : Option (AskInDoubt A)) → last_number (with_found m s es k) ≤ max (last_number es) (kept_stamp k)
last-found m s es None = omega arith
last-found m s es (Some k) = let e = last-append es (found_entry m s k) in omega (arith, e)

-- once the fault is settled there is a stamp, where there was one above all
pub settled-fits : {N S A : Type 0} (m : Steps S A) (h : Housing N S A) (es : List Entry) (stamp : ℕ)
    → IsSettled m h es → greatest_stamp h stamp + 1 < 2 ^ 40 → next_stamp es stamp < 2 ^ 40
settled-fits m h es stamp (inl x) fits = let e = ap last_number x.1 in omega (arith, e, fits)
settled-fits m h es stamp (inr x) fits = let e = ap last_number x in let l = last-found m (before m h) h.entries h.kept in omega (arith, e, l, fits)

-- a call that fails once the fault is settled leaves the entries, but for the ask that met it
pub settled-leaves : {N S A : Type 0} (m : Steps S A) (old mid new : Housing N S A)
    → IsSettled m old mid.entries → new.entries ≡ mid.entries → Leaves m old new
settled-leaves m old mid new (inl x) e = inl (e ∙ x.1)
settled-leaves m old mid new (inr x) e = inr (e ∙ x)

-- a call whose tell finds no memory has asked the node
pub settled-asks : {N S A : Type 0} (m : Steps S A) (old mid new : Housing N S A) (stamp at : ℕ) (from : NodeId) (a : A)
    → IsSettled m old mid.entries → mid.first ≡ old.first → mid.state ≡ before m mid → at ≡ next_stamp mid.entries stamp
    → new.entries ≡ mid.entries ++ record { stamp = at; act = act.Asked from (m.wrapped a) (m.told mid.state a) } ∷ []
    → (got : ℕ × Tell) × Asks m old new stamp from a got
settled-asks m old mid new stamp at from a settled first state is entries = (
  (at, m.told mid.state a),
  record {
    settled = mid.entries;
    is_settled = settled;
    stamp_is = is;
    tell_is = ap (λ s. m.told s a) (state ∙ ap (λ f. state_after m f mid.entries) first);
    entries_are = entries;
  },
)

-- what a call leaves that fails once the fault is settled
pub settled-fails : {N S A : Type 0} (m : Steps S A) (old mid new : Housing N S A) (stamp at : ℕ) (from : NodeId) (a : A) (fault : NodeFault)
    → IsSettled m old mid.entries → mid.first ≡ old.first → mid.state ≡ before m mid → at ≡ next_stamp mid.entries stamp
    → (new.entries ≡ mid.entries) ⊎ ((fault ≡ node.Memory) × (new.entries ≡ mid.entries ++ record { stamp = at; act = act.Asked from (m.wrapped a) (m.told mid.state a) } ∷ []))
    → Leaves m old new ⊎ ((call.Node fault ≡ call.Node node.Memory) × ((got : ℕ × Tell) × Asks m old new stamp from a got))
settled-fails m old mid new stamp at from a fault settled first state is (inl e) = inl (settled-leaves m old mid new settled e)
settled-fails m old mid new stamp at from a fault settled first state is (inr e) = inr (ap (λ f. call.Node f) e.0, settled-asks m old mid new stamp at from a settled first state is e.1)
