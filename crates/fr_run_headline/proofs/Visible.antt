-- What is popped and dropped at one moment: no storage server needs it.
use Rattle.std.proofs.Common.{◌≡◌, ℕ, zero, suc, ◌+◌, ◌<◌, ◌≤◌, Bool, true, false, cond, nat_lt, eqb, ◌==◌, ◌||◌, List, [], ◌∷◌, ◌++◌, length, drop, append_assoc, Some, refl, sym, ◌∙◌, ap, subst, arith}
use Rattle.std.specs.Prelude.{slice_get, Contains}
use Rattle.std.specs.List.{list_any}
use Rattle.std.proofs.lemmas.Bool.{eqb-true, ltb-true, ltb-false}
use Rattle.fr_state.specs.Generations.{LogGeneration, CoordinatedState}
use Rattle.fr_log.specs.declared.popped.PoppedTag.{PoppedTag}
use Rattle.fr_log.specs.Left.{popped_of}
use Rattle.fr_epoch.specs.Recoverer.{RecState, Plan}
use Rattle.fr_storage.specs.Storage.{StorageState, own_epoch}
use Rattle.fr_storage.specs.Course.{LeavesOne}
use Rattle.fr_run.specs.Config.{Config}
use Rattle.fr_run.specs.Turn.{Turn}
use Rattle.fr_run.specs.Nodes.{rec_at, generation_at, logs_at, log_at, storage_at}
use Rattle.fr_run.specs.Run.{IsRun, IsOwnEpoch}
use Rattle.fr_run.specs.States.{state_of, line_of, IsInLine, IsChosenEpoch}
use Rattle.fr_run.specs.StateLaws.{IsConfig, IsFrontOf}
use Rattle.fr_run.specs.LineLaws.{IsView}
use Rattle.fr_run.proofs.Cells.{Contains-here, Contains-later}
use Rattle.fr_run.proofs.Chosen.{chosen_is_planned, state_planned, generation_planned}
use Rattle.fr_run.proofs.Lines.{HasLine, along, states_are_views}
use Rattle.fr_run_headline.specs.ShownLaws.{IsDroppedBy}
use Rattle.fr_run_headline.proofs.Shown.{drops_are_popped}
use Rattle.fr_run_headline.proofs.Behind.{front_is_state}
use Rattle.fr_run_headline.specs.Laws.{Laws}
use Rattle.fr_run_headline.specs.Storages.{IsStorageOf}
use Rattle.fr_run_headline.specs.LetGo.{IsPoppedBy, IsVisibleSafe}

-- ---- lists

pub get_front : {X : Type 0} (xs ys : List X) (n : ℕ) (x : X) → slice_get xs n ≡ Some x → slice_get (xs ++ ys) n ≡ Some x
get_front [] ys n x e = absurd (cc)
get_front (y ∷ xs) ys zero x e = e
get_front (y ∷ xs) ys (suc n) x e = get_front xs ys n x e

get_in_front : {X : Type 0} (xs ys : List X) (n : ℕ) (x : X) → n < length xs → slice_get (xs ++ ys) n ≡ Some x → slice_get xs n ≡ Some x
get_in_front [] ys n x less e = absurd (omega (arith, less))
get_in_front (y ∷ xs) ys zero x less e = e
get_in_front (y ∷ xs) ys (suc n) x less e = get_in_front xs ys n x (omega (arith, less)) e

get_drop : {X : Type 0} (n : ℕ) (xs : List X) (x : X) → slice_get (drop n xs) 0 ≡ Some x → slice_get xs n ≡ Some x
get_drop zero xs x e = e
get_drop (suc n) [] x e = absurd (cc)
get_drop (suc n) (y ∷ xs) x e = get_drop n xs x e

pub get_inside : {X : Type 0} (xs : List X) (n : ℕ) (x : X) → slice_get xs n ≡ Some x → n < length xs
get_inside [] n x e = absurd (cc)
get_inside (y ∷ xs) zero x e = omega arith
get_inside (y ∷ xs) (suc n) x e = let k = get_inside xs n x e in omega (arith, k)

drop_length : {X : Type 0} (n : ℕ) (xs : List X) → n ≤ length xs → n + length (drop n xs) ≡ length xs
drop_length zero xs le = omega arith
drop_length (suc n) [] le = absurd (omega (arith, le))
drop_length (suc n) (x ∷ xs) le = let k = drop_length n xs (omega (arith, le)) in omega (arith, k)

any_drop : {X : Type 0} (f : X → Bool) (n : ℕ) (xs : List X) → list_any f (drop n xs) ≡ true → list_any f xs ≡ true
any_drop f zero xs e = e
any_drop f (suc n) [] e = e
any_drop f (suc n) (x ∷ xs) e = go (f x) (any_drop f n xs e)
  where
    go : (b : Bool) → list_any f xs ≡ true → (b || list_any f xs) ≡ true
    go true k = refl
    go false k = k

pub any_front : {X : Type 0} (f : X → Bool) (xs ys : List X) → list_any f xs ≡ true → list_any f (xs ++ ys) ≡ true
any_front f [] ys e = absurd (cc)
any_front f (x ∷ xs) ys e = go (f x) e (any_front f xs ys)
  where
    go : (b : Bool) → (b || list_any f xs) ≡ true → (list_any f xs ≡ true → list_any f (xs ++ ys) ≡ true) → (b || list_any f (xs ++ ys)) ≡ true
    go true k rest = refl
    go false k rest = rest k

-- a generation of an epoch splits a list
record IsFoundIn (gens : List LogGeneration) (e : ℕ) : Type 0 where
  pub front : List LogGeneration
  pub at : LogGeneration
  pub rest : List LogGeneration
  pub is : gens ≡ front ++ at ∷ rest
  pub epoch : at.epoch ≡ e

found_in : (gens : List LogGeneration) (e : ℕ) → list_any (λ g. g.epoch == e) gens ≡ true → IsFoundIn gens e
found_in [] e k = absurd (cc)
found_in (g ∷ gens) e k = go (g.epoch == e) refl k (found_in gens e)
  where
    go : (b : Bool) → (g.epoch == e) ≡ b → (b || list_any (λ x. x.epoch == e) gens) ≡ true → (list_any (λ x. x.epoch == e) gens ≡ true → IsFoundIn gens e) → IsFoundIn (g ∷ gens) e
    go true here k rest = record { front = []; at = g; rest = gens; is = refl; epoch = eqb-true g.epoch e here }
    go false here k rest = let s = rest k in record { front = g ∷ s.front; at = s.at; rest = s.rest; is = ap (λ (xs : List LogGeneration). g ∷ xs) s.is; epoch = s.epoch }

-- what is popped of a tag is an entry's
pub entry_of : (ps : List PoppedTag) (tag v : ℕ) → popped_of ps tag ≡ Some v → (x : PoppedTag) × Contains ps x × (x.tag ≡ tag) × (x.version ≡ v)
entry_of [] tag v e = absurd (cc)
entry_of (p ∷ ps) tag v e = go (eqb p.tag tag) refl e (entry_of ps tag v)
  where
    go : (b : Bool) → eqb p.tag tag ≡ b → cond b (Some p.version) (popped_of ps tag) ≡ Some v → (popped_of ps tag ≡ Some v → (x : PoppedTag) × Contains ps x × (x.tag ≡ tag) × (x.version ≡ v))
        → (x : PoppedTag) × Contains (p ∷ ps) x × (x.tag ≡ tag) × (x.version ≡ v)
    go true k e rest = let same : p.version ≡ v = cc in (p, Contains-here p ps, eqb-true p.tag tag k, same)
    go false k e rest = let r = rest e in (r.0, Contains-later p ps r.0 r.1, r.2, r.3)

-- ---- one moment, of which storage servers follow and no more is popped than they have

module _ (laws : Laws) (c : Config) (h : List Turn) (config : IsConfig c) (run : IsRun c h) (storages : (tag : ℕ) → IsStorageOf c h tag (storage_at c h tag))
    (popped : (e i : ℕ) → i < logs_at c h e → (x : PoppedTag) → Contains (log_at c h e i).popped x → IsPoppedBy c h e x) where
  -- an epoch in a storage server's line is a front of it
  line_in_own : (tag e : ℕ) → IsInLine c h (own_epoch (storage_at c h tag).state) e → IsFrontOf (line_of c h e) (line_of c h (own_epoch (storage_at c h tag).state))
  line_in_own tag e there =
      let own = own_epoch (storage_at c h tag).state in
      let g = chosen_is_planned laws.contents.nodes c h run own (storages tag).chosen in
      let s = found_in (line_of c h own) e there in
      let mine : line_of c h e ≡ s.front ++ s.at ∷ [] = ap (line_of c h) (sym s.epoch) ∙ front_is_state laws.contents.nodes c h config run own g.0 g.1 s.front s.at s.rest s.is in
      (s.rest, ap (λ (xs : List LogGeneration). xs ++ s.rest) mine ∙ append_assoc s.front (s.at ∷ []) s.rest ∙ sym s.is)

  module _ (tag : ℕ) (inside : tag < length c.begins) where
    abbrev Visible : ℕ → Type 0
    Visible e = 1 ≤ (state_of c h e).dropped → IsVisibleSafe c h e tag

    visible_later : (b : ℕ) (r : RecState) (q : Plan) → rec_at c h b ≡ Some r → r.plan ≡ Some q → (k : HasLine c h b r q) → Visible k.parent.last.epoch → Visible b
    visible_later b r q at planned k was some = go (nat_lt k.parent.state.dropped q.state.dropped) refl
      where
        before : List LogGeneration
        before = line_of c h k.parent.last.epoch

        here : (state_of c h b).dropped ≡ q.state.dropped
        here = ap (λ (s : CoordinatedState). s.dropped) (state_planned laws.contents.nodes c h run b r at q planned)

        gens : (state_of c h b).gens ≡ q.state.gens
        gens = ap (λ (s : CoordinatedState). s.gens) (state_planned laws.contents.nodes c h run b r at q planned)

        more : q.state.dropped ≡ k.parent.state.dropped + k.more.number
        more = ap (λ (s : CoordinatedState). s.dropped) k.more.is

        parent : (state_of c h k.parent.last.epoch).dropped ≡ k.parent.state.dropped
        parent = ap (λ (s : CoordinatedState). s.dropped) k.from.state

        view : IsView (line_of c h k.parent.last.epoch) (state_of c h k.parent.last.epoch)
        view = states_are_views laws.contents.nodes c h config run k.parent.last.epoch k.parent.last k.from.generation

        own_view : IsView (line_of c h b) (state_of c h b)
        own_view = states_are_views laws.contents.nodes c h config run b q.generation (generation_planned laws.contents.nodes c h run b r at q planned)

        short : (state_of c h b).dropped < length (line_of c h k.parent.last.epoch)
        short =
            let a = view.short in
            let few = k.more.fewer in
            let all = drop_length (state_of c h k.parent.last.epoch).dropped before (omega (arith, a)) in
            let same = ap length (ap (λ (s : CoordinatedState). s.gens) (sym k.from.state) ∙ view.is) in
            omega (arith, all, few, same, parent, more, here)

        -- the plan drops some
        drops : (d : IsDroppedBy c h k.parent q tag) → IsVisibleSafe c h b tag
        drops d =
            let entry = d.starts.popped.entry in
            let safe = popped k.parent.last.epoch d.starts.log d.starts.there entry d.starts.popped.there in
            let tag_is = d.starts.popped.tag_is in
            let high = d.starts.popped.high in
            let low = safe.floor in
            let floor : d.first.first ≤ (storage_at c h entry.tag).store.floor + 1 = omega (arith, high, low) in
            let first : slice_get (line_of c h b) (state_of c h b).dropped ≡ Some d.first =
            get_drop (state_of c h b).dropped (line_of c h b) d.first (ap (λ (xs : List LogGeneration). slice_get xs 0) (sym own_view.is ∙ gens) ∙ d.left) in
            let in_parent : slice_get before (state_of c h b).dropped ≡ Some d.first =
            get_in_front before (q.generation ∷ []) (state_of c h b).dropped d.first short (ap (λ (xs : List LogGeneration). slice_get xs (state_of c h b).dropped) (sym k.line) ∙ first) in
            let front = line_in_own entry.tag k.parent.last.epoch safe.line in
            let own : slice_get (line_of c h (own_epoch (storage_at c h entry.tag).state)) (state_of c h b).dropped ≡ Some d.first =
            ap (λ (xs : List LogGeneration). slice_get xs (state_of c h b).dropped) (sym front.1) ∙ get_front before front.0 (state_of c h b).dropped d.first in_parent in
            subst (IsVisibleSafe c h b) tag_is (record { first = d.first; left = first; own = own; floor = floor })

        -- it drops none
        stands : (state_of c h k.parent.last.epoch).dropped ≡ (state_of c h b).dropped → IsVisibleSafe c h k.parent.last.epoch tag → IsVisibleSafe c h b tag
        stands same v = record {
          first = v.first;
          left = ap (λ (xs : List LogGeneration). slice_get xs (state_of c h b).dropped) k.line
              ∙ get_front before (q.generation ∷ []) (state_of c h b).dropped v.first (ap (slice_get before) (sym same) ∙ v.left);
          own = ap (slice_get (line_of c h (own_epoch (storage_at c h tag).state))) (sym same) ∙ v.own;
          floor = v.floor;
        }

        go : (s : Bool) → nat_lt k.parent.state.dropped q.state.dropped ≡ s → IsVisibleSafe c h b tag
        go true e = drops (drops_are_popped laws.contents.nodes c h config run b r k.parent q at k.is planned (ltb-true k.parent.state.dropped q.state.dropped e) tag inside)
        go false e =
            let le = ltb-false k.parent.state.dropped q.state.dropped e in
            let same : (state_of c h k.parent.last.epoch).dropped ≡ (state_of c h b).dropped = omega (arith, le, more, parent, here) in
            stands same (was (omega (arith, same, some)))

    pub visible : (e : ℕ) (g : LogGeneration) → generation_at c h e ≡ Some g → 1 ≤ (state_of c h e).dropped → IsVisibleSafe c h e tag
    visible e g at some = along laws.contents.nodes c h config run Visible (λ none. absurd (omega (arith, none))) visible_later e g at some

    -- so a later chosen state left one of the server's generations
    pub leaves_one : (x : ℕ) → IsChosenEpoch c h x → LeavesOne (storage_at c h tag) (state_of c h x)
    leaves_one x chosen later = go (nat_lt 0 (state_of c h x).dropped) refl
      where
        s : StorageState
        s = storage_at c h tag

        own : ℕ
        own = own_epoch (storage_at c h tag).state

        g : (g : LogGeneration) × (generation_at c h x ≡ Some g)
        g = chosen_is_planned laws.contents.nodes c h run x chosen

        mine : (g : LogGeneration) × (generation_at c h own ≡ Some g)
        mine = chosen_is_planned laws.contents.nodes c h run own (storages tag).chosen

        view : IsView (line_of c h own) (state_of c h own)
        view = states_are_views laws.contents.nodes c h config run own mine.0 mine.1

        all : (storage_at c h tag).state.dropped + length (storage_at c h tag).state.gens ≡ length (line_of c h own)
        all =
            let short = view.short in
            let same = (storages tag).state in
            let d = ap (λ (y : CoordinatedState). y.dropped) same in
            let n = ap (λ (y : CoordinatedState). length y.gens) same ∙ ap length view.is in
            let k = drop_length (state_of c h own).dropped (line_of c h own) (omega (arith, short)) in
            omega (arith, d, n, k)

        go : (b : Bool) → nat_lt 0 (state_of c h x).dropped ≡ b → (state_of c h x).dropped < (storage_at c h tag).state.dropped + length (storage_at c h tag).state.gens
        go true e =
            let v = visible x g.0 g.1 (ltb-true 0 (state_of c h x).dropped e) in
            let k = get_inside (line_of c h own) (state_of c h x).dropped v.first v.own in
            omega (arith, k, all)
        go false e = let none = ltb-false 0 (state_of c h x).dropped e in let some = (storages tag).follows.state.some in omega (arith, none, some)

-- an epoch of a storage server's own list is in its line
pub own_in_line : Laws → (c : Config) (h : List Turn) → IsConfig c → IsRun c h → (tag : ℕ) (s : StorageState) → IsStorageOf c h tag s → (e : ℕ) → IsOwnEpoch s e → IsInLine c h (own_epoch s.state) e
own_in_line laws c h config run tag s k e there =
    let own = own_epoch s.state in
    let g = chosen_is_planned laws.contents.nodes c h run own k.chosen in
    let view = states_are_views laws.contents.nodes c h config run own g.0 g.1 in
    any_drop (λ g. g.epoch == e) (state_of c h own).dropped (line_of c h own) (ap (list_any (λ g. g.epoch == e)) (sym (ap (λ (y : CoordinatedState). y.gens) k.state ∙ view.is)) ∙ there)
