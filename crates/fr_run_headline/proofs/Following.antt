-- Each storage server of a run follows the chosen epoch whose state it keeps.
use Rattle.std.proofs.Common.{◌≡◌, ◌≢◌, ℕ, ◌<◌, ◌≤◌, Bool, true, false, cond, not, nat_lt, ◌==◌, List, [], ◌∷◌, ◌+◌, Option, None, Some, inl, inr, refl, sym, ◌∙◌, ap, subst, arith}
use Rattle.std.specs.Prelude.{is_some, unwrap_or, length}
use Rattle.std.specs.List.{list_any}
use Rattle.std.specs.Prelude.{Contains}
use Rattle.std.proofs.lemmas.Bool.{eqb-true, ltb-true}
use Rattle.fr_base.specs.declared.place.NodeId.{NodeId}
use Rattle.fr_base.specs.declared.place.NodeId.TheVariants as node
use Rattle.fr_undo.specs.State.{StoreState}
use Rattle.fr_state.specs.Generations.{LogGeneration, CoordinatedState}
use Rattle.fr_state.specs.LookUp.{source_of}
use Rattle.fr_log.specs.Peeked.{PeekedContent}
use Rattle.fr_log.specs.declared.ask.LogTell.{LogTell}
use Rattle.fr_log.specs.declared.ask.LogTell.TheVariants as ltell
use Rattle.fr_ask.specs.declared.tell.Tell.{Tell}
use Rattle.fr_ask.specs.declared.tell.Tell.TheVariants as tell
use Rattle.fr_log.specs.declared.popped.PoppedTag.{PoppedTag}
use Rattle.fr_log.specs.Left.{popped_of, popped_at}
use Rattle.fr_storage.specs.Course.{LeavesOne}
use Rattle.fr_storage.specs.declared.fault.StorageFault.{StorageFault}
use Rattle.fr_storage.specs.declared.fault.StorageFault.TheVariants.{Stranger, BelowFloor, NotMyGeneration, Hole}
use Rattle.fr_storage.specs.Storage.{StorageState, own_epoch, is_epoch, marked_fault, marked_calls, after_marked, peeked_fault, peeked_calls, broken_at, is_broken_at}
use Rattle.fr_run.specs.Config.{Config, first_generation, first_state, first_storage}
use Rattle.fr_run.specs.Turn.{Turn, Begun, CellTurn, LogTurn, SeqTurn, Submitted, ProxyHeard, RecHeard, StorageHeard, Gone, Crashed, Told}
use Rattle.fr_run.specs.Nodes.{storage_hear, part_hear, storage_after, storage_at, logs_at, log_at}
use Rattle.fr_run.specs.Run.{IsTurn, IsRun, fault_of_log, fault_of, MayBreak}
use Rattle.fr_run.specs.States.{state_of, line_of, IsInLine, IsChosenEpoch}
use Rattle.fr_run.specs.StateLaws.{IsConfig}
use Rattle.fr_run.proofs.Cells.{Contains-here, Contains-none, Contains-cases}
use Rattle.fr_run.proofs.States.{first_is}
use Rattle.fr_run_headline.proofs.Lists.{planned_state_stays, planned_line_stays}
use Rattle.fr_run_headline.proofs.Parts.{part_lasts}
use Rattle.fr_run_headline.proofs.Stays.{top_rises}
use Rattle.fr_run_headline.proofs.Truths.{peeks_are_true}
use Rattle.fr_run_headline.specs.Agreement.{pieces_at}
use Rattle.fr_run_headline.specs.Storages.{IsSafeFloor, IsStorageOf, StoragesFollow, HearsAreTaken, EachHearIsTaken}
use Rattle.fr_run_headline.specs.LetGo.{IsPoppedBy, PoppedIsSafe, VisibleIsSafe, NothingRemovedAboveFloor, NeverRemoved}
use Rattle.fr_run_headline.specs.Laws.{Laws}
use Rattle.fr_run.proofs.Chosen.{chosen_is_planned, chosen_lasts}
use Rattle.fr_run_headline.proofs.Agreement.{parts_are_pieces}
use Rattle.fr_run_headline.proofs.Floors.{floor_later}
use Rattle.fr_run_headline.proofs.Visible.{leaves_one, own_in_line, entry_of, visible}
use Rattle.fr_run_headline.specs.Bounds.{IsBelow}
use Rattle.fr_run_headline.proofs.Popping.{IsPop, unpopped, popped_from}
use Rattle.fr_run_headline.proofs.Asked.{marked_is_chosen, peeked_is_own}
use Rattle.fr_run_headline.specs.Issued.{Entry, issued}
use Rattle.fr_run_headline.proofs.Parts.{issued_lasts}
use Rattle.fr_run_headline.proofs.Places.{same_has}
use Rattle.fr_run_headline.proofs.Keeping.{HasIn, mark_keeps, broken_mark_keeps, peek_keeps, broken_peek_keeps, mark_line, mark_floor, peek_floor, broken_peek_floor}
use Rattle.fr_run_headline.proofs.Hears.{mark_leads, after_mark, broken_mark, left_at, after_peek, broken_peek}

-- ---- the start

starts : Laws → (c : Config) → IsConfig c → (tag : ℕ) → IsStorageOf c [] tag (first_storage c tag)
starts laws c config tag = record {
  tag_is = refl;
  chosen = inl refl;
  state = refl;
  follows = laws.first (pieces_at c [] tag) tag (first_state c) (parts_are_pieces laws c [] config tt tag) (first_is c config);
  numbered = omega arith;
  floor = record { generation = first_generation c; there = Contains-here (first_generation c) []; below = record { generation = first_generation c; at = refl; below = inl (omega arith) } };
}

-- ---- later on

lasts : Laws → (c : Config) (h : List Turn) (t : Turn) → IsConfig c → IsRun c h → IsTurn c h t → (tag : ℕ) (s : StorageState) → IsStorageOf c h tag s → IsStorageOf c (t ∷ h) tag s
lasts laws c h t config run is tag s k =
    let nodes = laws.contents.nodes in
    let own = own_epoch s.state in
    let g = chosen_is_planned nodes c h run own k.chosen in
    let top = top_rises nodes c h t run is own g.0 g.1 in
    let was = k.numbered in
    record {
      tag_is = k.tag_is;
      chosen = (chosen_lasts nodes c h t run is own k.chosen).0;
      state = k.state ∙ sym (planned_state_stays nodes c h t run is own g.0 g.1);
      follows = laws.on (pieces_at c h tag) (pieces_at c (t ∷ h) tag) s k.follows (sym (part_lasts nodes c h t config run is own g.0 g.1 tag 0 s.store.applied k.numbered));
      numbered = omega (arith, was, top);
      floor = subst (λ (gens : List LogGeneration). IsSafeFloor c (t ∷ h) gens s.store.floor) (sym (planned_line_stays nodes c h t config run is own g.0 g.1)) (floor_later laws c h t run is (line_of c h own) s.store.floor k.floor);
    }

-- ---- one hear

-- a hear leaves a server that follows, and that has what it had applied of what is below in an ancestor
record Moves (c : Config) (h : List Turn) (tag : ℕ) (s n : StorageState) : Type 0 where
  is : IsStorageOf c h tag n
  keeps : (entry : Entry) → IsBelow c h entry.origin entry.version → HasIn c h s entry → HasIn c h n entry
  floor : s.store.floor ≤ n.store.floor
  line : (e : ℕ) → IsInLine c h (own_epoch s.state) e → IsInLine c h (own_epoch n.state) e

stands : (c : Config) (h : List Turn) (tag : ℕ) (s : StorageState) → IsStorageOf c h tag s → Moves c h tag s s
stands c h tag s k = record { is = k; keeps = λ entry below has. has; floor = omega arith; line = λ e there. there }

-- each later chosen state left one of the server's generations
abbrev Seen : Config → List Turn → StorageState → Type 0
Seen c h s = (x : ℕ) → IsChosenEpoch c h x → LeavesOne s (state_of c h x)

-- a hear that broke off leaves the store that it broke off at
found_at : (o : Option StoreState) → is_some o ≡ true → (s : StoreState) → o ≡ Some (unwrap_or o s)
found_at None some s = absurd (cc)
found_at (Some t) some s = refl

-- a hear without calls changes nothing
unmoved : (s : StorageState) (version : ℕ) → record s { store = unwrap_or (broken_at s.store [] version) s.store } ≡ s
unmoved s version = go (is_broken_at s.store version s.store)
  where
    go : (b : Bool) → record s { store = unwrap_or (cond b (Some s.store) None) s.store } ≡ s
    go true = refl
    go false = refl

hears_log : Laws → (c : Config) (h : List Turn) → IsConfig c → IsRun c h → (tag : ℕ) → tag < length c.begins → (s : StorageState) → IsStorageOf c h tag s → Seen c h s
    → (e i : ℕ) (u : LogTell) → Told h (node.Log e i) (node.Storage tag) (tell.Log u) → (taken : Option ℕ) → MayBreak taken s (node.Log e i) (tell.Log u) → Moves c h tag s (part_hear taken s e u)
hears_log laws c h config run tag inside s k seen e i (ltell.Peeked p) told None may =
    let own = (peeked_is_own laws.contents.nodes c h run e i tag p told).0 in
    let true_tell = peeks_are_true laws.contents c h config run e i (node.Storage tag) p told in
    record {
      is = after_peek laws c h config run tag s k e i p own inside true_tell;
      keeps = λ entry below has. peek_keeps laws c h config run tag s k e i p own inside true_tell entry has;
      floor = peek_floor laws c h config run tag s k e i p own inside true_tell;
      line = λ y there. subst (λ (z : CoordinatedState). IsInLine c h (own_epoch z) y) (sym (laws.keeps_state s e p)) there;
    }
hears_log laws c h config run tag inside s k seen e i (ltell.Peeked p) told (Some v) may =
    let own = (peeked_is_own laws.contents.nodes c h run e i tag p told).0 in
    let true_tell = peeks_are_true laws.contents c h config run e i (node.Storage tag) p told in
    let t = unwrap_or (broken_at s.store (peeked_calls s e p) v) s.store in
    let at : broken_at s.store (peeked_calls s e p) v ≡ Some t = found_at (broken_at s.store (peeked_calls s e p) v) may.1 s.store in
    record {
      is = broken_peek laws c h config run tag s k e i p own inside true_tell may.0 v t at;
      keeps = λ entry below has. broken_peek_keeps laws c h config run tag s k e i p own inside true_tell may.0 v t at entry has;
      floor = broken_peek_floor laws c h config run tag s k e i p own inside true_tell may.0 v t at;
      line = λ y there. there;
    }
hears_log laws c h config run tag inside s k seen e i (ltell.Marked x) told None may =
    let m = marked_is_chosen laws.contents.nodes c h run e i (node.Storage tag) x told in
    subst (λ (y : CoordinatedState). Moves c h tag s (after_marked s y)) (sym m.1)
    (record {
      is = after_mark laws c h config run tag s k e m.0 (seen e m.0);
      keeps = λ entry below has. mark_keeps laws c h config run tag s k e m.0 (seen e m.0) entry below has;
      floor = mark_floor laws c h config run tag s k e m.0 (seen e m.0);
      line = λ z there. mark_line laws c h config run tag s k e m.0 (seen e m.0) z there;
    })
hears_log laws c h config run tag inside s k seen e i (ltell.Marked x) told (Some v) may =
    let m = marked_is_chosen laws.contents.nodes c h run e i (node.Storage tag) x told in
    let y = state_of c h e in
    let taken : marked_fault s y ≡ None = ap (marked_fault s) (sym m.1) ∙ may.0 in
    let t = unwrap_or (broken_at s.store (marked_calls s x) v) s.store in
    let at : broken_at s.store (marked_calls s y) v ≡ Some t = ap (λ (z : CoordinatedState). broken_at s.store (marked_calls s z) v) (sym m.1) ∙ found_at (broken_at s.store (marked_calls s x) v) may.1 s.store in
    let left = broken_mark laws c h config run tag s k e m.0 (seen e m.0) taken v t at in
    let high = left.high in
    let floor = left.floor in
    let was = k.numbered in
    record {
      is = left_at c h tag s k v _ _ t left (omega (arith, high, was));
      keeps = λ entry below has. broken_mark_keeps laws c h config run tag s k e m.0 (seen e m.0) taken v t at entry below has;
      floor = omega (arith, floor);
      line = λ z there. there;
    }
hears_log laws c h config run tag inside s k seen e i t told None may = stands c h tag s k
hears_log laws c h config run tag inside s k seen e i t told (Some v) may = subst (Moves c h tag s) (sym (unmoved s v)) (stands c h tag s k)

hears : Laws → (c : Config) (h : List Turn) → IsConfig c → IsRun c h → (tag : ℕ) → tag < length c.begins → (s : StorageState) → IsStorageOf c h tag s → Seen c h s
    → (from : NodeId) (t : Tell) → Told h from (node.Storage tag) t → (taken : Option ℕ) → MayBreak taken s from t → Moves c h tag s (storage_hear taken s from t)
hears laws c h config run tag inside s k seen (node.Cell i) t told taken may = stands c h tag s k
hears laws c h config run tag inside s k seen (node.Log e i) (tell.Cell u) told taken may = stands c h tag s k
hears laws c h config run tag inside s k seen (node.Log e i) (tell.Log u) told taken may = hears_log laws c h config run tag inside s k seen e i u told taken may
hears laws c h config run tag inside s k seen (node.Log e i) (tell.Seq u) told taken may = stands c h tag s k
hears laws c h config run tag inside s k seen (node.Sequencer e) t told taken may = stands c h tag s k
hears laws c h config run tag inside s k seen (node.Proxy e p) t told taken may = stands c h tag s k
hears laws c h config run tag inside s k seen (node.Recoverer b) t told taken may = stands c h tag s k
hears laws c h config run tag inside s k seen (node.Storage u) t told taken may = stands c h tag s k

-- ---- all turns

step : Laws → (c : Config) (h : List Turn) (t : Turn) → IsConfig c → IsRun c h → IsTurn c h t → (tag : ℕ) → IsStorageOf c h tag (storage_at c h tag) → (tag < length c.begins → Seen c h (storage_at c h tag)) → Moves c h tag (storage_at c h tag) (storage_after t tag (storage_at c h tag))
step laws c h (Begun b shape asks) config run is tag k seen = stands c h tag (storage_at c h tag) k
step laws c h (CellTurn from i a u) config run is tag k seen = stands c h tag (storage_at c h tag) k
step laws c h (LogTurn from x i a u) config run is tag k seen = stands c h tag (storage_at c h tag) k
step laws c h (SeqTurn from x a u) config run is tag k seen = stands c h tag (storage_at c h tag) k
step laws c h (Submitted x p n batch asks) config run is tag k seen = stands c h tag (storage_at c h tag) k
step laws c h (ProxyHeard x p from u outcome asks) config run is tag k seen = stands c h tag (storage_at c h tag) k
step laws c h (RecHeard b from u asks) config run is tag k seen = stands c h tag (storage_at c h tag) k
step laws c h (StorageHeard y from u taken fault) config run is tag k seen = go (y == tag) refl
  where
    go : (b : Bool) → (y == tag) ≡ b → Moves c h tag (storage_at c h tag) (cond b (storage_hear taken (storage_at c h tag) from u) (storage_at c h tag))
    go true at =
        let here : y ≡ tag = eqb-true y tag at in
        let inside : tag < length c.begins = subst (λ z. z < length c.begins) here (ltb-true y (length c.begins) is.0.actor.there) in
        hears laws c h config run tag inside (storage_at c h tag) k (seen inside) from u (subst (λ z. Told h from (node.Storage z) u) here is.0.told) taken (subst (λ z. MayBreak taken (storage_at c h z) from u) here is.2)
    go false at = stands c h tag (storage_at c h tag) k
step laws c h (Gone who) config run is tag k seen = stands c h tag (storage_at c h tag) k
step laws c h (Crashed who) config run is tag k seen = stands c h tag (storage_at c h tag) k

-- every storage server follows, and no log popped more of a tag than its storage server has for good
record Settled (c : Config) (h : List Turn) : Type 0 where
  storages : (tag : ℕ) → IsStorageOf c h tag (storage_at c h tag)
  popped : (e i : ℕ) → i < logs_at c h e → (x : PoppedTag) → Contains (log_at c h e i).popped x → IsPoppedBy c h e x

seen_by : Laws → (c : Config) (h : List Turn) → IsConfig c → IsRun c h → Settled c h → (tag : ℕ) → tag < length c.begins → Seen c h (storage_at c h tag)
seen_by laws c h config run k tag inside x chosen = leaves_one laws c h config run k.storages k.popped tag inside x chosen

step_by : Laws → (c : Config) (h : List Turn) (t : Turn) → IsConfig c → IsRun c h → IsTurn c h t → Settled c h → (tag : ℕ) → Moves c h tag (storage_at c h tag) (storage_after t tag (storage_at c h tag))
step_by laws c h t config run is k tag = step laws c h t config run is tag (k.storages tag) (seen_by laws c h config run k tag)

-- what was popped stays popped by it
popped_on : Laws → (c : Config) (h : List Turn) (t : Turn) → IsConfig c → IsRun c h → IsTurn c h t → Settled c h → (e : ℕ) (x : PoppedTag) → IsPoppedBy c h e x → IsPoppedBy c (t ∷ h) e x
popped_on laws c h t config run is k e x by =
    let moves = step_by laws c h t config run is k x.tag in
    let own = own_epoch (storage_after t x.tag (storage_at c h x.tag)).state in
    let g = chosen_is_planned laws.contents.nodes c h run own moves.is.chosen in
    let low = by.floor in
    let up = moves.floor in
    record {
      inside = by.inside;
      floor = omega (arith, low, up);
      line = subst (λ (gens : List LogGeneration). list_any (λ y. y.epoch == e) gens ≡ true) (sym (planned_line_stays laws.contents.nodes c h t config run is own g.0 g.1)) (moves.line e by.line);
    }

-- a version that is popped of a tag is not above its server's floor
popped_low : (c : Config) (h : List Turn) → Settled c h → (e i : ℕ) → i < logs_at c h e → (tag : ℕ) → popped_at (log_at c h e i).popped tag ≤ (storage_at c h tag).store.floor
popped_low c h k e i there tag = go (popped_of (log_at c h e i).popped tag) refl
  where
    go : (o : Option ℕ) → popped_of (log_at c h e i).popped tag ≡ o → unwrap_or o 0 ≤ (storage_at c h tag).store.floor
    go None at = omega arith
    go (Some v) at =
        let entry = entry_of (log_at c h e i).popped tag v at in
        let by = k.popped e i there entry.0 entry.1 in
        let low = by.floor in
        let version = entry.3 in
        let floor = ap (λ (u : ℕ). (storage_at c h u).store.floor) entry.2 in
        omega (arith, low, version, floor)

-- so a pop brings a tag no further
popped_now : Laws → (c : Config) (h : List Turn) → IsConfig c → IsRun c h → Settled c h → (e i : ℕ) → i < logs_at c h e → (x : PoppedTag) → IsPop c h e i x → IsPoppedBy c h e x
popped_now laws c h config run k e i there x pop =
    let low = popped_low c h k e i there x.tag in
    let high = pop.version in
    record { inside = pop.inside; floor = omega (arith, low, high); line = own_in_line laws c h config run x.tag (storage_at c h x.tag) (k.storages x.tag) e pop.own }

settled_at : Laws → (c : Config) (h : List Turn) → IsConfig c → IsRun c h → Settled c h
settled_at laws c [] config run = record {
  storages = λ tag. starts laws c config tag;
  popped = λ e i there x has. absurd (Contains-none (subst (λ ps. Contains ps x) (unpopped c [] e i) has));
}
settled_at laws c (t ∷ h) config run =
    let before = settled_at laws c h config run.1 in
    record {
      storages = λ tag. lasts laws c h t config run.1 run.0 tag (storage_after t tag (storage_at c h tag)) (step_by laws c h t config run.1 run.0 before tag).is;
      popped = λ e i there x has. popped_next before e i there x has;
    }
  where
    popped_next : Settled c h → (e i : ℕ) → i < logs_at c (t ∷ h) e → (x : PoppedTag) → Contains (log_at c (t ∷ h) e i).popped x → IsPoppedBy c (t ∷ h) e x
    popped_next k e i there x has =
        let from = popped_from laws.contents.nodes c h t run.1 run.0 e i there x has in
        popped_on laws c h t config run.1 run.0 k e x (elim from.1 [
          | inl was ↦ k.popped e i from.0 x was
          | inr now ↦ popped_now laws c h config run.1 k e i from.0 x now
        ])

pub storages_follow : Laws → StoragesFollow
storages_follow laws c h config run tag = (settled_at laws c h config run).storages tag

pub popped_is_safe : Laws → PoppedIsSafe
popped_is_safe laws c h config run e i there x has = (settled_at laws c h config run).popped e i there x has

pub nothing_removed : Laws → NothingRemovedAboveFloor
nothing_removed laws c h config run e i tag there = popped_low c h (settled_at laws c h config run) e i there tag

pub never_removed : Laws → NeverRemoved
never_removed laws c h config run e i tag after most version there above told =
    let k = settled_at laws c h config run in
    let low = popped_low c h k e i there tag in
    let floor = (k.storages tag).follows.store.floor in
    laws.not_removed (log_at c h e i) e tag after most version (omega (arith, low, floor, above)) told

-- each later chosen state left a generation of each storage server
pub seen_at : Laws → (c : Config) (h : List Turn) → IsConfig c → IsRun c h → (tag : ℕ) → tag < length c.begins → (x : ℕ) → IsChosenEpoch c h x → LeavesOne (storage_at c h tag) (state_of c h x)
seen_at laws c h config run tag inside x chosen = seen_by laws c h config run (settled_at laws c h config run) tag inside x chosen

pub visible_is_safe : Laws → VisibleIsSafe
visible_is_safe laws c h config run e g at some tag inside = let k = settled_at laws c h config run in visible laws c h config run k.storages k.popped tag inside e g at some

-- what a server has applied of what is below in an ancestor it has after each turn
pub keeps_applied : Laws → (c : Config) (h : List Turn) (t : Turn) → IsConfig c → IsRun c h → IsTurn c h t → (tag : ℕ) (entry : Entry) → IsBelow c h entry.origin entry.version → HasIn c h (storage_at c h tag) entry
    → HasIn c (t ∷ h) (storage_at c (t ∷ h) tag) entry
keeps_applied laws c h t config run is tag entry below has =
    let n = storage_after t tag (storage_at c h tag) in
    let moves = step_by laws c h t config run is (settled_at laws c h config run) tag in
    let now = moves.keeps entry below has in
    let own = own_epoch n.state in
    let g = chosen_is_planned laws.contents.nodes c h run own moves.is.chosen in
    let applied = now.applied in
    let numbered = moves.is.numbered in
    let same = issued_lasts laws.contents.nodes c h t config run is own g.0 g.1 entry.version (omega (arith, applied, numbered)) in
    record { issued = same_has entry.version (issued c h own) (issued c (t ∷ h) own) entry (sym same) (omega arith) now.issued; applied = applied }

-- ---- refusals

-- no answer of a log is refused in either way
peek_fault : (s : StorageState) (e : ℕ) (p : PeekedContent) → (peeked_fault s e p ≢ Some Stranger) × (peeked_fault s e p ≢ Some BelowFloor)
peek_fault s e p = go (not (is_epoch e (source_of s.state.gens (s.store.applied + 1)))) (nat_lt s.store.applied p.after)
  where
    go : (a b : Bool) → (cond a (Some NotMyGeneration) (cond b (Some Hole) None) ≢ Some Stranger) × (cond a (Some NotMyGeneration) (cond b (Some Hole) None) ≢ Some BelowFloor)
    go true b = ((λ k. absurd (cc)), (λ k. absurd (cc)))
    go false true = ((λ k. absurd (cc)), (λ k. absurd (cc)))
    go false false = ((λ k. absurd (cc)), (λ k. absurd (cc)))

abbrev IsTakenFault : Option StorageFault → Type 0
IsTakenFault o = (o ≢ Some Stranger) × (o ≢ Some BelowFloor)

none_taken : IsTakenFault None
none_taken = ((λ k. absurd (cc)), (λ k. absurd (cc)))

taken_log : Laws → (c : Config) (h : List Turn) → IsConfig c → IsRun c h → (tag : ℕ) → tag < length c.begins → (s : StorageState) → IsStorageOf c h tag s → Seen c h s
    → (e i : ℕ) (u : LogTell) → Told h (node.Log e i) (node.Storage tag) (tell.Log u) → IsTakenFault (fault_of_log s e u)
taken_log laws c h config run tag inside s k seen e i (ltell.Peeked p) told = peek_fault s e p
taken_log laws c h config run tag inside s k seen e i (ltell.Marked x) told =
    let m = marked_is_chosen laws.contents.nodes c h run e i (node.Storage tag) x told in
    let leads = mark_leads laws c h config run tag s k e m.0 (seen e m.0) in
    subst (λ (y : CoordinatedState). IsTakenFault (marked_fault s y)) (sym m.1) (elim leads.taken [
      | inl none ↦ subst IsTakenFault (sym none) none_taken
      | inr older ↦ subst IsTakenFault (sym older) ((λ k. absurd (cc)), (λ k. absurd (cc)))
    ])
taken_log laws c h config run tag inside s k seen e i t told = none_taken

taken_tell : Laws → (c : Config) (h : List Turn) → IsConfig c → IsRun c h → (tag : ℕ) → tag < length c.begins → (s : StorageState) → IsStorageOf c h tag s → Seen c h s
    → (from : NodeId) (t : Tell) → Told h from (node.Storage tag) t → IsTakenFault (fault_of s from t)
taken_tell laws c h config run tag inside s k seen (node.Cell i) t told = none_taken
taken_tell laws c h config run tag inside s k seen (node.Log e i) (tell.Cell u) told = none_taken
taken_tell laws c h config run tag inside s k seen (node.Log e i) (tell.Log u) told = taken_log laws c h config run tag inside s k seen e i u told
taken_tell laws c h config run tag inside s k seen (node.Log e i) (tell.Seq u) told = none_taken
taken_tell laws c h config run tag inside s k seen (node.Sequencer e) t told = none_taken
taken_tell laws c h config run tag inside s k seen (node.Proxy e p) t told = none_taken
taken_tell laws c h config run tag inside s k seen (node.Recoverer b) t told = none_taken
taken_tell laws c h config run tag inside s k seen (node.Storage u) t told = none_taken

pub hears_are_taken : Laws → HearsAreTaken
hears_are_taken laws c h tag from u taken fault config run =
    let is = run.0 in
    let inside : tag < length c.begins = ltb-true tag (length c.begins) is.0.actor.there in
    subst IsTakenFault (sym is.1) (taken_tell laws c h config run.1 tag inside (storage_at c h tag) (storages_follow laws c h config run.1 tag) (seen_at laws c h config run.1 tag inside) from u is.0.told)

pub each_hear_is_taken : Laws → EachHearIsTaken
each_hear_is_taken laws c [] config run tag from u taken fault k = absurd (Contains-none k)
each_hear_is_taken laws c (t ∷ h) config run tag from u taken fault k = elim (Contains-cases t h (StorageHeard tag from u taken fault) k) [
  | inl now ↦ hears_are_taken laws c h tag from u taken fault config (subst (λ x. IsRun c (x ∷ h)) now run)
  | inr before ↦ each_hear_is_taken laws c h config run.1 tag from u taken fault before
]
