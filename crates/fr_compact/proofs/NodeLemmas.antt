-- Records that lead a machine to a state, and what a crash leaves of a node.
use Rattle.std.proofs.Common.{◌≡◌, ◌⊎◌, inl, inr, ℕ, Bool, true, false, List, [], ◌∷◌, ◌++◌, refl, sym, ap, ◌∙◌, subst, Vec, ◌<◌, ◌≤◌, length, arith, length-append}
use Rattle.std.specs.Prelude.{Option, None, Some, fold, Result, Ok, Err, OnOk, OnErr, IfErr, ◌||◌, nat_lt, ◌+◌}
use Rattle.std.proofs.lemmas.Bool.{ltb-true, ltb-false}
use Rattle.std.specs.declared.alloc.Global.{Global}
use Rattle.std.proofs.lemmas.List.{append-nil}
use Rattle.std.proofs.lemmas.List.Sums.{fold-append}
use Rattle.fr_base.specs.declared.node.NodeFault.{NodeFault}
use Rattle.fr_base.specs.declared.node.NodeFault.TheVariants.{Device, Full, Failed, Memory, Broken}
use Rattle.fr_record.specs.declared.fault.RecordFault.{RecordFault}
use Rattle.fr_record.specs.declared.fault.RecordFault.TheVariants as record_fault
use Rattle.fr_segment.specs.Group.{records_of}
use Rattle.fr_record_node.specs.Replay.{replayed, next_replayed}
use Rattle.fr_record_node.specs.Node.{owed_of}
use Rattle.fr_compact.specs.Leading.{LeadsTo}
use Rattle.fr_compact.specs.Node.{IsNode, LeavesOwn}

module _ {M : Type 0} (replay : M → List ℕ → Option M) (fresh : M) where
  -- the records of a state, and more
  pub replays_more : (before : List (List ℕ)) (m : M) → replayed replay (Some fresh) before ≡ Some m → (group : List (List ℕ)) (n : M) → replayed replay (Some m) group ≡ Some n → replayed replay (Some fresh) (before ++ group) ≡ Some n
  replays_more before m replays group n goes = fold-append (next_replayed replay) (Some fresh) before group ∙ ap (λ o. fold (next_replayed replay) o group) replays ∙ goes

  pub leads : (P : M → Type 0) (before : List (List ℕ)) (m : M) → replayed replay (Some fresh) before ≡ Some m → P m → (rs : List (List ℕ)) → rs ≡ before → LeadsTo replay fresh P rs
  leads P before m replays here rs is = record { state = m; replays = ap (λ l. replayed replay (Some fresh) l) is ∙ replays; holds = here }

  -- one list of records or another
  pub leads_either : (P : M → Type 0) (a b : List (List ℕ)) (m n : M) → replayed replay (Some fresh) a ≡ Some m → P m → replayed replay (Some fresh) b ≡ Some n → P n
      → (rs : List (List ℕ)) → (rs ≡ a) ⊎ (rs ≡ b) → LeadsTo replay fresh P rs
  leads_either P a b m n a_leads here b_leads there rs is = elim is [
    | inl e ↦ leads P a m a_leads here rs e
    | inr e ↦ leads P b n b_leads there rs e
  ]

-- what a file that leaves one list or another leaves, where one is its own and the other it owes
pub own_left : (records before owes : List (List ℕ)) (owed : Option (List (List ℕ))) → records ≡ before → owed ≡ Some owes
    → (rs : List (List ℕ)) → (rs ≡ before) ⊎ (rs ≡ owes) → (rs ≡ records) ⊎ (owed ≡ Some rs)
own_left records before owes owed records_is owed_is rs is = elim is [
  | inl e ↦ inl (e ∙ sym records_is)
  | inr e ↦ inr (owed_is ∙ ap (λ l. Some l) (sym e))
]

-- the same of a file that keeps both
pub own_still : (records before : List (List ℕ)) (owed owed_before : Option (List (List ℕ))) → records ≡ before → owed ≡ owed_before
    → (rs : List (List ℕ)) → (rs ≡ before) ⊎ (owed_before ≡ Some rs) → (rs ≡ records) ⊎ (owed ≡ Some rs)
own_still records before owed owed_before records_is owed_is rs is = elim is [
  | inl e ↦ inl (e ∙ sym records_is)
  | inr e ↦ inr (owed_is ∙ e)
]

-- vectors that hold no record are none
pub no_group : (group : List (Vec ℕ Global)) → records_of group ≡ [] → group ≡ []
no_group [] e = refl
no_group (v ∷ vs) e = absurd (cc e)

pub on_err : {T E : Type 0} (r : Result T E) (P : Type 0) → P → OnErr r P
on_err (Ok x) P p = tt
on_err (Err e) P p = p

-- one way or another
pub ok_or_err : {T E : Type 0} (r : Result T E) (P Q : Type 0) → OnOk r P → OnErr r Q → P ⊎ Q
ok_or_err (Ok x) P Q p q = inl p
ok_or_err (Err e) P Q p q = inr q

pub either_owed : {T : Type 0} (r : Result T NodeFault) (now ours theirs : Option (List (List ℕ))) → (r ≡ Err Device → now ≡ ours) → ((r ≡ Err Device → ⊥) → now ≡ theirs) → (now ≡ ours) ⊎ (now ≡ theirs)
either_owed (Ok x) now ours theirs ours_is theirs_is = inr (theirs_is (λ e. absurd (cc e)))
either_owed (Err Device) now ours theirs ours_is theirs_is = inl (ours_is refl)
either_owed (Err Full) now ours theirs ours_is theirs_is = inr (theirs_is (λ e. absurd (cc e)))
either_owed (Err Failed) now ours theirs ours_is theirs_is = inr (theirs_is (λ e. absurd (cc e)))
either_owed (Err Memory) now ours theirs ours_is theirs_is = inr (theirs_is (λ e. absurd (cc e)))
either_owed (Err Broken) now ours theirs ours_is theirs_is = inr (theirs_is (λ e. absurd (cc e)))

module _ {F M A : Type 0} (records : F → List (List ℕ)) (is_failed : F → Bool) (owed : F → Option (List (List ℕ))) (Throughout : (List (List ℕ) → Type 0) → F → F → Type 0) (fresh : M → M) (replay : M → List ℕ → Option M) (written : M → A → List (List ℕ)) (IsAsk : A → Type 0) (IsSound : M → Type 0) (flies : A → Bool) where
  abbrev pub IsNodeHere : Option A → F → M → Type 0
  IsNodeHere held file m = IsNode records is_failed owed Throughout fresh replay written IsAsk IsSound flies held file m

  -- a node that holds no asks
  pub idle_node : (held : Option A) (file : F) (m : M) → held ≡ None → replayed replay (Some (fresh m)) (records file) ≡ Some m → IsSound m → LeavesOwn records owed Throughout file
      → ((rs : List (List ℕ)) → owed file ≡ Some rs → replayed replay (Some (fresh m)) rs ≡ Some m) → IsNodeHere held file m
  idle_node held file m none replays sound leaves alone = record {
    replays = replays;
    sound = sound;
    leaves = leaves;
    idle = λ _. none;
    asked = λ ask is. absurd (cc (none, is));
    alone = λ _. alone;
    resting = λ ask is. absurd (cc (none, is));
    flying = λ ask is. absurd (cc (none, is));
  }

  -- one whose file owes nothing either
  pub free_node : (held : Option A) (file : F) (m : M) → held ≡ None → replayed replay (Some (fresh m)) (records file) ≡ Some m → IsSound m → LeavesOwn records owed Throughout file → owed file ≡ None → IsNodeHere held file m
  free_node held file m none replays sound leaves free = idle_node held file m none replays sound leaves (λ rs is. absurd (cc (free, is)))

  -- a node whose device failed while asks were served
  pub failed_node : (ask : A) (file : F) (m : M) → IsAsk ask → is_failed file ≡ true → replayed replay (Some (fresh m)) (records file) ≡ Some m → IsSound m → LeavesOwn records owed Throughout file
      → (flies ask ≡ false → (rs : List (List ℕ)) → owed file ≡ Some rs → replayed replay (Some (fresh m)) rs ≡ Some m)
      → (flies ask ≡ true → (rs : List (List ℕ)) → owed file ≡ Some rs → rs ≡ records file ++ written m ask)
      → IsNodeHere (Some ask) file m
  failed_node ask file m asks fails replays sound leaves resting flying = record {
    replays = replays;
    sound = sound;
    leaves = leaves;
    idle = λ works. absurd (cc (fails, works));
    asked = λ a is. let e : a ≡ ask = cc is in subst IsAsk (sym e) asks;
    alone = λ none. absurd (cc none);
    resting = λ a is. let e : a ≡ ask = cc is in λ rests. resting (sym (ap flies e) ∙ rests);
    flying = λ a is. let e : a ≡ ask = cc is in λ flies_a rs owes. flying (sym (ap flies e) ∙ flies_a) rs owes ∙ ap (λ x. records file ++ written m x) (sym e);
  }

  -- a node that could not be opened again
  module _ (held : Option A) (file : F) (m : M) (node : IsNodeHere held file m) where
    pub still_node : (last : F) (n : M) → n ≡ m → records last ≡ records file → owed last ≡ owed file → (is_failed last ≡ false → is_failed file ≡ false) → IsSound n → LeavesOwn records owed Throughout last → IsNodeHere held last n
    still_node last n n_is records_is owed_is works sound leaves = record {
      replays = replays_as (records last) records_is node.replays;
      sound = sound;
      leaves = leaves;
      idle = λ w. node.idle (works w);
      asked = node.asked;
      alone = λ none rs is. as_before rs (node.alone none rs (sym owed_is ∙ is));
      resting = λ ask asks rests rs is. as_before rs (node.resting ask asks rests rs (sym owed_is ∙ is));
      flying = λ ask asks flies_ask rs is. node.flying ask asks flies_ask rs (sym owed_is ∙ is) ∙ ap (λ x. records file ++ written x ask) (sym n_is) ∙ ap (λ l. l ++ written n ask) (sym records_is);
    }
      where
        as_before : (rs : List (List ℕ)) → replayed replay (Some (fresh m)) rs ≡ Some m → replayed replay (Some (fresh n)) rs ≡ Some n
        as_before rs replays = subst (λ x. replayed replay (Some (fresh x)) rs ≡ Some x) (sym n_is) replays

        replays_as : (rs : List (List ℕ)) → rs ≡ records file → replayed replay (Some (fresh m)) (records file) ≡ Some m → replayed replay (Some (fresh n)) rs ≡ Some n
        replays_as rs is replays = as_before rs (ap (λ l. replayed replay (Some (fresh m)) l) is ∙ replays)

    -- what a crash leaves of it leads to its state, or to where the asks lead that are held
    pub own_leads : (after : M → A → M) → ((ask : A) → held ≡ Some ask → replayed replay (Some m) (written m ask) ≡ Some (after m ask))
        → (rs : List (List ℕ)) → (rs ≡ records file) ⊎ (owed file ≡ Some rs) → LeadsTo replay (fresh m) (λ x. (x ≡ m) ⊎ (owed_of after m held ≡ Some x)) rs
    own_leads after goes rs is = elim is [
      | inl e ↦ leads replay (fresh m) _ (records file) m node.replays (inl refl) rs e
      | inr owes ↦ by_held held refl owes
    ]
      where
        here : replayed replay (Some (fresh m)) rs ≡ Some m → LeadsTo replay (fresh m) (λ x. (x ≡ m) ⊎ (owed_of after m held ≡ Some x)) rs
        here replays = leads replay (fresh m) _ rs m replays (inl refl) rs refl

        by_flight : (ask : A) → held ≡ Some ask → owed file ≡ Some rs → (b : Bool) → flies ask ≡ b → LeadsTo replay (fresh m) (λ x. (x ≡ m) ⊎ (owed_of after m held ≡ Some x)) rs
        by_flight ask asks owes false rests = here (node.resting ask asks rests rs owes)
        by_flight ask asks owes true flies_ask =
            leads replay (fresh m) _ (records file ++ written m ask) (after m ask) (replays_more replay (fresh m) (records file) m node.replays (written m ask) (after m ask) (goes ask asks)) (inr (ap (owed_of after m) asks)) rs
            (node.flying ask asks flies_ask rs owes)

        by_held : (h : Option A) → held ≡ h → owed file ≡ Some rs → LeadsTo replay (fresh m) (λ x. (x ≡ m) ⊎ (owed_of after m held ≡ Some x)) rs
        by_held None none owes = here (node.alone none rs owes)
        by_held (Some ask) asks owes = by_flight ask asks owes (flies ask) refl

-- what a crash leaves of a file, before and after a call of it
module _ {F : Type 0} (records : F → List (List ℕ)) (owed : F → Option (List (List ℕ))) (Throughout : (List (List ℕ) → Type 0) → F → F → Type 0)
    (weaker : (P Q : List (List ℕ) → Type 0) (f g : F) → ((rs : List (List ℕ)) → P rs → Q rs) → Throughout P f g → Throughout Q f g) where
  abbrev Own : F → List (List ℕ) → Type 0
  Own file rs = (rs ≡ records file) ⊎ (owed file ≡ Some rs)

  pub left_kept : (file : F) → Throughout (λ rs. rs ≡ records file) file file → LeavesOwn records owed Throughout file
  left_kept file kept = weaker (λ rs. rs ≡ records file) (Own file) file file (λ rs is. inl is) kept

  -- its records lead to a state
  pub kept_leads : {M : Type 0} (replay : M → List ℕ → Option M) (fresh m : M) (P : M → Type 0) (file : F) → replayed replay (Some fresh) (records file) ≡ Some m → P m
      → Throughout (λ rs. rs ≡ records file) file file → Throughout (LeadsTo replay fresh P) file file
  kept_leads replay fresh m P file replays here kept = weaker (λ rs. rs ≡ records file) (LeadsTo replay fresh P) file file (leads replay fresh P (records file) m replays here) kept

  -- and other records lead to another
  pub moved_leads : {M : Type 0} (replay : M → List ℕ → Option M) (fresh m n : M) (P : M → Type 0) (old new : F) (other : List (List ℕ)) → replayed replay (Some fresh) (records old) ≡ Some m → P m → replayed replay (Some fresh) other ≡ Some n → P n
      → Throughout (λ rs. (rs ≡ records old) ⊎ (rs ≡ other)) old new → Throughout (LeadsTo replay fresh P) old new
  moved_leads replay fresh m n P old new other replays here other_replays there moments =
      weaker (λ rs. (rs ≡ records old) ⊎ (rs ≡ other)) (LeadsTo replay fresh P) old new (leads_either replay fresh P (records old) other m n replays here other_replays there) moments

  module _ (ends : (P : List (List ℕ) → Type 0) (f g : F) → Throughout P f g → Throughout P g g) (old new : F) (same : records new ≡ records old) where
    -- its device failed on the way to other records
    pub left_met : (other : List (List ℕ)) → owed new ≡ Some other → Throughout (λ rs. (rs ≡ records old) ⊎ (rs ≡ other)) old new → LeavesOwn records owed Throughout new
    left_met other owes moments =
        weaker (λ rs. (rs ≡ records old) ⊎ (rs ≡ other)) (Own new) new new (own_left (records new) (records old) other (owed new) same owes)
        (ends (λ rs. (rs ≡ records old) ⊎ (rs ≡ other)) old new moments)

    -- the call was refused
    pub left_refused : (fault : RecordFault) → (fault ≡ record_fault.Failed → ⊥) → (fault ≡ record_fault.Broken → ⊥) → LeavesOwn records owed Throughout old
        → ((fault ≡ record_fault.Full) ⊎ (fault ≡ record_fault.Memory) → new ≡ old) → (other : List (List ℕ)) → (fault ≡ record_fault.Device → owed new ≡ Some other)
        → Throughout (λ rs. (rs ≡ records old) ⊎ (rs ≡ other)) old new → LeavesOwn records owed Throughout new
    left_refused record_fault.Device works whole before untouched other owes moments = left_met other (owes refl) moments
    left_refused record_fault.Full works whole before untouched other owes moments = subst (LeavesOwn records owed Throughout) (sym (untouched (inl refl))) before
    left_refused record_fault.Failed works whole before untouched other owes moments = absurd (works refl)
    left_refused record_fault.Memory works whole before untouched other owes moments = subst (LeavesOwn records owed Throughout) (sym (untouched (inr refl))) before
    left_refused record_fault.Broken works whole before untouched other owes moments = absurd (whole refl)

    -- it was opened again in vain
    pub left_again : owed new ≡ owed old → Throughout (Own old) old new → LeavesOwn records owed Throughout new
    left_again owes moments = weaker (Own old) (Own new) new new (own_still (records new) (records old) (owed new) (owed old) same owes) (ends (Own old) old new moments)

-- what a file with the records of asks in flight is found to hold
module _ (before group now : List (List ℕ)) (owed : Option (List (List ℕ))) (flying : (rs : List (List ℕ)) → owed ≡ Some rs → rs ≡ before ++ group) (left : (now ≡ before) ⊎ (owed ≡ Some now)) where
  pub found_more : length before < length now → now ≡ before ++ group
  found_more more = elim left [
    | inl same ↦ (let e = ap length same in absurd (omega (arith, e, more)))
    | inr owes ↦ flying now owes
  ]

  pub found_same : length now ≤ length before → now ≡ before
  found_same less = elim left [
    | inl same ↦ same
    | inr owes ↦ shorter group (flying now owes)
  ]
    where
      shorter : (g : List (List ℕ)) → now ≡ before ++ g → now ≡ before
      shorter [] whole = whole ∙ append-nil before
      shorter (r ∷ rs) whole = let e = ap length whole in absurd (omega (arith, e, less, length-append before (r ∷ rs)))

-- what a file without them is found to hold
module _ {F M : Type 0} (records : F → List (List ℕ)) (owed : F → Option (List (List ℕ))) (replay : M → List ℕ → Option M) (fresh m : M) (old new : F)
    (replays : replayed replay (Some fresh) (records old) ≡ Some m) (alone : (rs : List (List ℕ)) → owed old ≡ Some rs → replayed replay (Some fresh) rs ≡ Some m) where
  found_left : (records new ≡ records old) ⊎ (owed old ≡ Some (records new)) → replayed replay (Some fresh) (records new) ≡ Some m
  found_left left = elim left [
    | inl same ↦ ap (λ l. replayed replay (Some fresh) l) same ∙ replays
    | inr owes ↦ alone (records new) owes
  ]

  pub found_idle : {T E : Type 0} (r : Result T E) → OnOk r ((records new ≡ records old) ⊎ (owed old ≡ Some (records new))) → OnErr r (records new ≡ records old) → replayed replay (Some fresh) (records new) ≡ Some m
  found_idle (Ok x) left same = found_left left
  found_idle (Err e) left same = found_left (inl same)

  pub alone_still : {T E : Type 0} (r : Result T E) → OnOk r (owed new ≡ None) → OnErr r (owed new ≡ owed old) → (rs : List (List ℕ)) → owed new ≡ Some rs → replayed replay (Some fresh) rs ≡ Some m
  alone_still (Ok x) free still rs owes = absurd (cc (free, owes))
  alone_still (Err e) free still rs owes = alone rs (sym still ∙ owes)

-- what follows from a fact at Ok
pub on_ok : {T E : Type 0} (r : Result T E) (P Q : Type 0) → (P → Q) → OnOk r P → OnOk r Q
on_ok (Ok x) P Q f p = f p
on_ok (Err e) P Q f p = p

-- a file that works did not fail before
pub worked : (now before met : Bool) → now ≡ (before || met) → now ≡ false → before ≡ false
worked now false met is works = refl
worked now true met is works = absurd (cc (is, works))

-- what follows from a fact at Err
pub on_if_err : {T E : Type 0} (r : Result T E) (P Q : E → Type 0) → ((e : E) → P e → Q e) → IfErr r P → IfErr r Q
on_if_err (Ok x) P Q f p = tt
on_if_err (Err e) P Q f p = f e p

pub at_err : {T E : Type 0} (r : Result T E) (P : E → Type 0) → ((e : E) → P e) → IfErr r P
at_err (Ok x) P f = tt
at_err (Err e) P f = f e

-- what is free behind a group that had room
pub has_spare : (room used size spare room_now used_now : ℕ) → room_now ≡ room → used_now ≡ used + size → (room < used + size + 10 + spare → ⊥) → used_now + 10 + spare ≤ room_now
has_spare room used size spare room_now used_now room_is used_is fits = go (nat_lt room (used + size + 10 + spare)) refl
  where
    go : (b : Bool) → nat_lt room (used + size + 10 + spare) ≡ b → used_now + 10 + spare ≤ room_now
    go true less = absurd (fits (ltb-true room (used + size + 10 + spare) less))
    go false less = let most = ltb-false room (used + size + 10 + spare) less in omega (arith, room_is, used_is, most)
