-- A node, before and after a call of its file.
use Rattle.std.proofs.Common.{◌≡◌, ◌⊎◌, inl, inr, ℕ, Bool, true, false, List, refl, sym, ap, ◌∙◌, subst}
use Rattle.std.specs.Prelude.{Option, None, Some}
use Rattle.fr_record.specs.Disk.{Disk}
use Rattle.fr_record.specs.Moments.{LeavesOnly, Throughout}
use Rattle.fr_record.specs.File.{IsAtRest}
use Rattle.fr_record.specs.Laws.{WholeOrNot, RestStands}
use Rattle.fr_record_node.specs.Replay.{replayed, Opens}
use Rattle.fr_record_node.specs.Node.{NodeState, InFlight, group_of, owed_of, IsNode}
use Rattle.fr_record_node.proofs.Lemmas.{started, weaker, at_last, rest_opens, flight_opens}

module _ {D M A : Type 0} (Led : D → D → Type 0) (disk : D → Disk) (fresh : M → M) (replay : M → List ℕ → Option M) (written : M → A → List (List ℕ)) (IsAsk : A → Type 0) (IsSound : M → Type 0) (after : M → A → M) where
  abbrev pub IsNodeHere : Option A → NodeState D M → Type 0
  IsNodeHere held n = IsNode Led disk fresh replay written IsAsk IsSound held n

  abbrev pub Replays : Type 0
  Replays = (s : M) (a : A) → IsSound s → IsAsk a → replayed replay (Some s) (written s a) ≡ Some (after s a)

  -- a machine that its records bring back is there after a crash
  pub kept_now : RestStands → (m : M) (records : List (List ℕ)) (device : D) → replayed replay (Some (fresh m)) records ≡ Some m → LeavesOnly Led disk (IsAtRest records) device
      → Throughout Led disk (Opens replay (fresh m) (λ x. x ≡ m)) device device
  kept_now rest_stands m records device replays leaves =
      started Led disk _ device (λ left may. rest_opens replay (fresh m) records m replays (λ x. x ≡ m) refl rest_stands left (leaves left may))

  module _ (held : Option A) (n : NodeState D M) (node : IsNodeHere held n) where
    abbrev pub Claim : A → D → Type 0
    Claim a last = Throughout Led disk (Opens replay (fresh n.machine) (λ x. (x ≡ n.machine) ⊎ (x ≡ after n.machine a))) n.device last

    -- nothing was done yet
    pub still : RestStands → (a : A) → LeavesOnly Led disk (IsAtRest n.records) n.device → Claim a n.device
    still rest_stands a leaves =
        started Led disk _ n.device (λ left may. rest_opens replay (fresh n.machine) n.records n.machine node.replays _ (inl refl) rest_stands left (leaves left may))

    pub same : (m : M) (records : List (List ℕ)) → m ≡ n.machine → records ≡ n.records → replayed replay (Some (fresh m)) records ≡ Some m
    same m records m_is records_is =
        ap (λ x. replayed replay (Some (fresh x)) records) m_is ∙ ap (λ rs. replayed replay (Some (fresh n.machine)) rs) records_is ∙ node.replays ∙ ap (λ x. Some x) (sym m_is)

    -- the node while its device works
    pub working : n.is_failed ≡ false → (device : D) (records : List (List ℕ)) (is_failed : Bool) (m : M) → is_failed ≡ false → replayed replay (Some (fresh m)) records ≡ Some m → IsSound m
        → IsNodeHere held (record { device = device; records = records; is_failed = is_failed; machine = m; owed = owed_of after m held })
    working works device records is_failed m still_works replays sound = record {
      replays = replays;
      sound = sound;
      idle = λ _. node.idle works;
      asked = node.asked;
      owed = λ fails. absurd (cc (fails, still_works));
    }

    -- the node whose device failed in an ask
    pub failing : (a : A) → IsAsk a → (device : D) → LeavesOnly Led disk (InFlight n.records (written n.machine a)) device
        → (records : List (List ℕ)) (is_failed : Bool) (m : M) (b : A) → records ≡ n.records → is_failed ≡ true → m ≡ n.machine → b ≡ a → IsSound m
        → IsNodeHere (Some b) (record { device = device; records = records; is_failed = is_failed; machine = m; owed = owed_of after m (Some b) })
    failing a asks device leaves records is_failed m b records_is fails m_is b_is sound = record {
      replays = same m records m_is records_is;
      sound = sound;
      idle = λ works. absurd (cc (fails, works));
      asked = λ c is. let e : c ≡ a = cc (is, b_is) in subst (λ x. IsAsk x) (sym e) asks;
      owed = λ _.
          subst (λ rs. LeavesOnly Led disk (InFlight rs (written m b)) device) (sym records_is)
          (subst (λ x. LeavesOnly Led disk (InFlight n.records (written x b)) device) (sym m_is)
          (subst (λ x. LeavesOnly Led disk (InFlight n.records (written n.machine x)) device) (sym b_is)
          leaves));
    }

    -- a node in which no ask is held, opened again
    pub idle_again : held ≡ None → (device : D) (records : List (List ℕ)) (is_failed : Bool) → records ≡ n.records → Throughout Led disk (IsAtRest n.records) n.device device
        → IsNodeHere held (record { device = device; records = records; is_failed = is_failed; machine = n.machine; owed = owed_of after n.machine held })
    idle_again none device records is_failed records_is moments = record {
      replays = same n.machine records refl records_is;
      sound = node.sound;
      idle = λ _. none;
      asked = node.asked;
      owed = λ _.
          subst (λ h. LeavesOnly Led disk (InFlight records (group_of (written n.machine) h)) device) (sym none)
          (subst (λ rs. LeavesOnly Led disk (IsAtRest rs) device) (sym records_is) (at_last Led disk (IsAtRest n.records) n.device device moments));
    }

    pub idle_claim : RestStands → (P : M → Type 0) → P n.machine → (last : D) → Throughout Led disk (IsAtRest n.records) n.device last → Throughout Led disk (Opens replay (fresh n.machine) P) n.device last
    idle_claim rest_stands P here last moments =
        weaker Led disk (IsAtRest n.records) _ (rest_opens replay (fresh n.machine) n.records n.machine node.replays P here rest_stands) n.device last moments

    -- a node in which an ask is held, opened again
    module _ (ask : A) (held_is : held ≡ Some ask) where
      pub is_failing : n.is_failed ≡ true
      is_failing = go n.is_failed refl
        where
          go : (b : Bool) → n.is_failed ≡ b → n.is_failed ≡ true
          go true e = e
          go false e = absurd (let none = node.idle e in cc (none, held_is))

      pub held_again : (device : D) (records : List (List ℕ)) (is_failed : Bool) (m : M) → records ≡ n.records → m ≡ n.machine → is_failed ≡ true → IsSound m
          → Throughout Led disk (InFlight n.records (written n.machine ask)) n.device device
          → IsNodeHere held (record { device = device; records = records; is_failed = is_failed; machine = m; owed = owed_of after m held })
      held_again device records is_failed m records_is m_is fails sound moments =
          subst (λ h. IsNodeHere h (record { device = device; records = records; is_failed = is_failed; machine = m; owed = owed_of after m h })) (sym held_is)
          (failing ask (node.asked ask held_is) device (at_last Led disk (InFlight n.records (written n.machine ask)) n.device device moments) records is_failed m ask records_is fails m_is refl sound)

      pub held_claim : Replays → WholeOrNot → RestStands → (last : D) → Throughout Led disk (InFlight n.records (written n.machine ask)) n.device last
          → Throughout Led disk (Opens replay (fresh n.machine) (λ x. (x ≡ n.machine) ⊎ (owed_of after n.machine held ≡ Some x))) n.device last
      held_claim law whole_or_not rest_stands last moments =
          let there : owed_of after n.machine held ≡ Some (after n.machine ask) = ap (owed_of after n.machine) held_is in
          weaker Led disk (InFlight n.records (written n.machine ask)) _
          (flight_opens replay (fresh n.machine) n.records n.machine node.replays _ (inl refl) whole_or_not rest_stands (written n.machine ask) (after n.machine ask) (law n.machine ask node.sound (node.asked ask held_is)) (inr there))
          n.device last moments
