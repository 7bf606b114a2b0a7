-- The law of the register over lists of deliveries in which each write is made from what stands before it.
use Rattle.std.proofs.Common.{◌≡◌, ℕ, ◌<◌, List, [], ◌∷◌, sym, ◌∙◌, ap, subst, inl, inr, arith}
use Rattle.std.proofs.lemmas.Bool.{cases_order}
use Rattle.std.proofs.lemmas.List.Elements.{All-weaker}
use Rattle.fr_register.specs.CellState.{CellState}
use Rattle.fr_register.specs.Cell.{IsWithinPromise}
use Rattle.fr_register.specs.Poll.{Stamped}
use Rattle.fr_register.specs.History.{Turn, IsHistory, IsWritten}
use Rattle.fr_register.specs.Chosen.{IsReadByMajority}
use Rattle.fr_register.specs.Made.{Making, IsToldToRead, parent_of, IsMade, IsMadeAsk, AllMade}
use Rattle.fr_register.specs.Law.{LaterInListDescends, ReadyInListDescends, StartInListIsLeast, OneInListIsChosen, WrittenIsMade, ListHasParents, MadeIsReady}
use Rattle.fr_register.specs.declared.ask.CellAsk.TheVariants.{Write}
use Rattle.fr_register.specs.declared.ask.CellTell.TheVariants.{Written}
use Rattle.fr_base.proofs.ListLemmas.{Contains-none, Contains-later, Contains-cases}
use Rattle.fr_register.proofs.Histories.{promises_are_kept}
use Rattle.fr_register.proofs.Tallied.{read_majority_is_read}
use Rattle.fr_register.proofs.Parents.{later_descends, ready_descends, start_is_least, one_is_chosen}

read_by : (n : ℕ) (first : CellState) (making : ℕ → Making) (turns : List Turn) (b : ℕ) (x : List ℕ) → IsMade n first making turns b x → IsReadByMajority n turns b (parent_of n making b)
read_by n first making turns b x m = read_majority_is_read n b turns (making b).heard m.told m.majority

IsMade-later : (n : ℕ) (first : CellState) (making : ℕ → Making) (t : Turn) (before : List Turn) (b : ℕ) (x : List ℕ) → IsMade n first making before b x → IsMade n first making (t ∷ before) b x
IsMade-later n first making t before b x m = record {
  one_value = m.one_value;
  unused = m.unused;
  majority = m.majority;
  told = All-weaker (IsToldToRead before b) (IsToldToRead (t ∷ before) b) (λ h k p e. Contains-later t before _ (k p e)) (making b).heard m.told;
}

-- each write that has come is made rightly
made_at : (n : ℕ) (first : CellState) (making : ℕ → Making) (turns : List Turn) (p : Stamped) → AllMade n first making turns → IsWritten turns p → IsMade n first making turns p.ballot p.value
made_at n first making [] p a w = absurd (Contains-none w.comes)
made_at n first making (t ∷ before) p a w = elim (Contains-cases t before _ w.comes) [
  | inl e ↦
      let here : IsMadeAsk n first making before (Write p.ballot p.value) = subst (λ (u : Turn). IsMadeAsk n first making before u.ask) e a.0 in
      IsMade-later n first making t before p.ballot p.value here
  | inr r ↦ IsMade-later n first making t before p.ballot p.value (made_at n first making before p a.1 (record { cell = w.cell; tell = w.tell; comes = r }))
]

-- the parent of a ballot that may write is of a lower ballot, if those of all that wrote are
below_from : (n : ℕ) (first : CellState) (making : ℕ → Making) (turns : List Turn) (b : ℕ) (x : List ℕ) → IsWithinPromise first → IsHistory first turns → IsMade n first making turns b x → ((q : Stamped) → IsWritten turns q → (parent_of n making q.ballot).ballot < q.ballot) → (parent_of n making b).ballot < b
below_from n first making turns b x o h m lower =
    let r = read_by n first making turns b x m in
    let kept = promises_are_kept first turns r.found.0 b (parent_of n making b) o h r.found.1 in
    elim (cases_order (parent_of n making b).ballot b) [
      | inl e ↦ elim kept.holds [
        | inl s ↦ absurd (m.unused (sym e ∙ ap (λ (q : Stamped). q.ballot) s))
        | inr w ↦
            let wrote : IsWritten turns (parent_of n making b) = record { cell = r.found.0; tell = Written (parent_of n making b).ballot; comes = w } in
            subst (λ c. (parent_of n making c).ballot < c) e (lower (parent_of n making b) wrote)
      ]
      | inr (inl l) ↦ l
      | inr (inr g) ↦ absurd (omega (arith, kept.below, g))
    ]

-- the parent of each write that has come is of a lower ballot
parent_below : (n : ℕ) (first : CellState) (making : ℕ → Making) (turns : List Turn) (p : Stamped) → IsWithinPromise first → IsHistory first turns → AllMade n first making turns → IsWritten turns p → (parent_of n making p.ballot).ballot < p.ballot
parent_below n first making [] p o h a w = absurd (Contains-none w.comes)
parent_below n first making (t ∷ before) p o h a w = elim (Contains-cases t before _ w.comes) [
  | inl e ↦
      let here : IsMadeAsk n first making before (Write p.ballot p.value) = subst (λ (u : Turn). IsMadeAsk n first making before u.ask) e a.0 in
      below_from n first making before p.ballot p.value o h.1 here (λ q k. parent_below n first making before q o h.1 a.1 k)
  | inr r ↦ parent_below n first making before p o h.1 a.1 (record { cell = w.cell; tell = w.tell; comes = r })
]

stamped_same : (p q : Stamped) → p.ballot ≡ q.ballot → p.value ≡ q.value → p ≡ q
stamped_same p q e k =
    ap (λ (b : ℕ). record { ballot = b; value = p.value }) e ∙ ap (λ (v : List ℕ). record { ballot = q.ballot; value = v }) k

pub written_is_made : WrittenIsMade
written_is_made n first making turns p h w = made_at n first making turns p h.made w

pub made_is_ready : MadeIsReady
made_is_ready n first making turns b x h m = record {
  unused = m.unused;
  below = below_from n first making turns b x h.within h.history m (λ q w. parent_below n first making turns q h.within h.history h.made w);
  read = read_by n first making turns b x m;
}

pub list_has_parents : ListHasParents
list_has_parents n first making turns h = record {
  within = h.within;
  history = h.history;
  ready = λ p w. made_is_ready n first making turns p.ballot p.value h (made_at n first making turns p h.made w);
  one_value = λ p q w v e.
      let one = made_at n first making turns p h.made w in
      let two = made_at n first making turns q h.made v in
      stamped_same p q e (sym one.one_value ∙ ap (λ b. (making b).value) e ∙ two.one_value);
}

pub later_in_list : LaterInListDescends
later_in_list n first making turns chosen later h ch w l =
    later_descends n first (parent_of n making) turns chosen later (list_has_parents n first making turns h) ch w l

pub ready_in_list : ReadyInListDescends
ready_in_list n first making turns chosen later h ch m l =
    ready_descends n first (parent_of n making) turns chosen later.ballot (list_has_parents n first making turns h) ch (made_is_ready n first making turns later.ballot later.value h m) l

pub start_in_list : StartInListIsLeast
start_in_list n first making turns chosen h ch =
    start_is_least n first (parent_of n making) turns chosen (list_has_parents n first making turns h) ch

pub one_in_list : OneInListIsChosen
one_in_list n first making turns p q h cp cq e =
    one_is_chosen n first (parent_of n making) turns p q (list_has_parents n first making turns h) cp cq e
