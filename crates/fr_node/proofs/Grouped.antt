-- Several turns as one group.
use Rattle.std.proofs.Common.{refl, sym, subst, ap, ◌∙◌, arith, append_assoc}
use Rattle.std.proofs.lemmas.List.{append-nil, drop_more}
use Rattle.std.specs.Prelude.{ℕ, Bool, true, false, ◌≡◌, ◌<◌, ◌==◌, ◌+◌, ◌-◌, ◌^◌, max, ◌++◌, List, [], ◌∷◌, length, get_or, drop, map, cond, Option, None, Some, IfSome}
use Rattle.std.specs.Option.{option_map, option_and_then}
use Rattle.fr_base.specs.declared.place.NodeId.{NodeId}
use Rattle.fr_ask.specs.declared.ask.Ask.{Ask}
use Rattle.fr_ask.specs.declared.last.Last.{Last}
use Rattle.fr_ask.specs.declared.tell.Tell.{Tell}
use Rattle.fr_audit_journal.specs.declared.act.Act.TheVariants as act
use Rattle.fr_audit_journal.specs.declared.act.Entry.{Entry}
use Rattle.fr_audit_journal.specs.Housing.{last_number}
use Rattle.fr_audit_journal.specs.Journal.{IsAbove}
use Rattle.fr_audit_journal.specs.Replays.{Steps, steps, after_at, after_act, state_after}
use Rattle.fr_node.specs.declared.drafts.Draft.{Draft}
use Rattle.fr_node.specs.declared.turn.NodeTurn.{NodeTurn}
use Rattle.fr_node.specs.declared.turn.NodeTurn.TheVariants as turn
use Rattle.fr_node.specs.Groups.{AreGrouped, AreRising, AreTaken, after_all, told_all, draft_of, drafts_of, entered, owned_all, stood}
use Rattle.fr_node.specs.Passive.{IsServed}
use Rattle.fr_node.specs.Turns.{IsOf}
use Rattle.fr_node.proofs.Served.{served-one, state-append}
use Rattle.fr_node.proofs.Courses.{last-with}

-- ---- what an option of several steps was made of

and-some : {A B : Type 0} (f : A → Option B) (o : Option A) (y : B) → option_and_then f o ≡ Some y → (x : A) × ((o ≡ Some x) × (f x ≡ Some y))
and-some f None y e = absurd (cc e)
and-some f (Some x) y e = (x, (refl, e))

map-some : {A B : Type 0} (f : A → B) (o : Option A) (y : B) → option_map f o ≡ Some y → (x : A) × ((o ≡ Some x) × (f x ≡ y))
map-some f None y e = absurd (cc e)
map-some f (Some x) y e = (x, (refl, cc e))

-- the drafts of a turn and of those behind it
record First (last : ℕ) (t : ℕ × NodeTurn) (ts : List (ℕ × NodeTurn)) (ds : List Draft) : Type 0 where
  head : Draft
  rest : List Draft
  are : ds ≡ head ∷ rest
  one : draft_of last t.0 t.1 ≡ Some head
  others : drafts_of head.stamp ts ≡ Some rest

first-draft : (last : ℕ) (t : ℕ × NodeTurn) (ts : List (ℕ × NodeTurn)) (ds : List Draft) → drafts_of last (t ∷ ts) ≡ Some ds → First last t ts ds
first-draft last t ts ds e =
    let k = and-some (λ (d : Draft). option_map (λ (more : List Draft). d ∷ more) (drafts_of d.stamp ts)) (draft_of last t.0 t.1) ds e in
    let n = map-some (λ (more : List Draft). k.0 ∷ more) (drafts_of k.0.stamp ts) ds k.1.1 in
    record { head = k.0; rest = n.0; are = sym n.1.1; one = k.1.0; others = n.1.0 }

-- the asks of a draft and of those behind it
record FirstAsk {A : Type 0} (owned : Ask → Option A) (d : Draft) (ds : List Draft) (asks : List A) : Type 0 where
  head : A
  rest : List A
  are : asks ≡ head ∷ rest
  one : owned d.ask ≡ Some head
  others : owned_all owned ds ≡ Some rest

first-ask : {A : Type 0} (owned : Ask → Option A) (d : Draft) (ds : List Draft) (asks : List A) → owned_all owned (d ∷ ds) ≡ Some asks → FirstAsk owned d ds asks
first-ask owned d ds asks e =
    let k = and-some (λ a. option_map (λ more. a ∷ more) (owned_all owned ds)) (owned d.ask) asks e in
    let n = map-some (λ more. k.0 ∷ more) (owned_all owned ds) asks k.1.1 in
    record { head = k.0; rest = n.0; are = sym n.1.1; one = k.1.0; others = n.1.0 }

-- a draft is that of its turn, above both stamps
record IsDraft (last at : ℕ) (t : NodeTurn) (d : Draft) : Type 0 where
  later : last < d.stamp
  above : at < d.stamp
  is : t ≡ turn.Ask d.from d.ask

draft-is : (last at : ℕ) (t : NodeTurn) (d : Draft) → draft_of last at t ≡ Some d → IsDraft last at t d
draft-is last at (turn.Hear from tell) d e = absurd (cc e)
draft-is last at (turn.Submit step batch) d e = absurd (cc e)
draft-is last at turn.Begin d e = absurd (cc e)
draft-is last at (turn.Ask from ask) d e = go (max last at == 2 ^ 40 - 1) e
  where
    made : Draft
    made = record { stamp = max last at + 1; from = from; ask = ask }

    go : (spent : Bool) → cond spent None (Some made) ≡ Some d → IsDraft last at (turn.Ask from ask) d
    go true k = absurd (cc k)
    go false k =
        let same : made ≡ d = cc k in
        subst (λ (x : Draft). IsDraft last at (turn.Ask from ask) x) same (record { later = omega arith; above = omega arith; is = refl })

pub drafts-rise : (last : ℕ) (ts : List (ℕ × NodeTurn)) (ds : List Draft) → drafts_of last ts ≡ Some ds → AreRising last ds
drafts-rise last [] [] e = tt
drafts-rise last [] (d ∷ ds) e = absurd (cc e)
drafts-rise last (t ∷ ts) ds e =
    let f = first-draft last t ts ds e in
    let d = draft-is last t.0 t.1 f.head f.one in
    subst (λ (x : List Draft). AreRising last x) (sym f.are) (d.later, drafts-rise f.head.stamp ts f.rest f.others)

pub owned-length : {A : Type 0} (owned : Ask → Option A) (ds : List Draft) (asks : List A) → owned_all owned ds ≡ Some asks → length asks ≡ length ds
owned-length owned [] [] e = refl
owned-length owned [] (a ∷ asks) e = absurd (cc e)
owned-length owned (d ∷ ds) asks e =
    let f = first-ask owned d ds asks e in
    let r = owned-length owned ds f.rest f.others in
    ap length f.are ∙ omega (arith, r)

pub told-length : {M A T : Type 0} (after : M → A → M) (told : M → A → T) (s : M) (asks : List A) → length (told_all after told s asks) ≡ length asks
told-length after told s [] = refl
told-length after told s (a ∷ asks) = let r = told-length after told (after s a) asks in omega (arith, r)

pub told-map : {M A T U : Type 0} (after : M → A → M) (told : M → A → T) (f : T → U) (s : M) (asks : List A)
    → map f (told_all after told s asks) ≡ told_all after (λ m a. f (told m a)) s asks
told-map after told f s [] = refl
told-map after told f s (a ∷ asks) = ap (λ rest. f (told s a) ∷ rest) (told-map after told f (after s a) asks)

-- ---- a group that was served

module _ {S A : Type 0} (m : Steps S A) (owned : Ask → Option A) (is_own : (ask : Ask) (a : A) → owned ask ≡ Some a → m.unwrapped ask ≡ Some a) where
  abbrev entry_of : Draft → S → A → Entry
  entry_of d s a = record { stamp = d.stamp; act = act.Asked d.from d.ask (m.told s a) }

  abbrev entries_of : List Draft → S → List A → List Entry
  entries_of ds s asks = entered ds (told_all m.after m.told s asks)

  after-one : (d : Draft) (s : S) (a : A) → owned d.ask ≡ Some a → after_act m s (entry_of d s a).act ≡ m.after s a
  after-one d s a e = ap (after_at m s) (is_own d.ask a e)

  pub served-all : (place : NodeId) (first : S) (es : List Entry) (s : S) (ds : List Draft) (asks : List A) → owned_all owned ds ≡ Some asks
      → IsServed m place first es s → IsServed m place first (es ++ entries_of ds s asks) (after_all m.after s asks)
  served-all place first es s [] [] e h = subst (λ (x : List Entry). IsServed m place first x s) (sym (append-nil es)) h
  served-all place first es s [] (a ∷ asks) e h = absurd (cc e)
  served-all place first es s (d ∷ ds) asks e h =
      let f = first-ask owned d ds asks e in
      let a = f.head in
      let one = served-one m place first es s d.stamp d.from d.ask a h (is_own d.ask a f.one) in
      let all = served-all place first (es ++ entry_of d s a ∷ []) (m.after s a) ds f.rest f.others one in
      let whole = subst (λ (x : List Entry). IsServed m place first x (after_all m.after (m.after s a) f.rest)) (append_assoc es (entry_of d s a ∷ []) (entries_of ds (m.after s a) f.rest)) all in
      subst (λ (x : List A). IsServed m place first (es ++ entries_of (d ∷ ds) s x) (after_all m.after s x)) (sym f.are) whole

  pub grouped-all : (s : S) (ds : List Draft) (asks : List A) → owned_all owned ds ≡ Some asks → AreGrouped m owned s (entries_of ds s asks)
  grouped-all s [] [] e = tt
  grouped-all s [] (a ∷ asks) e = absurd (cc e)
  grouped-all s (d ∷ ds) asks e =
      let f = first-ask owned d ds asks e in
      let a = f.head in
      let rest = subst (λ (x : S). AreGrouped m owned x (entries_of ds (m.after s a) f.rest)) (sym (after-one d s a f.one)) (grouped-all (m.after s a) ds f.rest f.others) in
      subst (λ (x : List A). AreGrouped m owned s (entries_of (d ∷ ds) s x)) (sym f.are) ((a, (f.one, (is_own d.ask a f.one, refl))), rest)

-- what is entered of turns is taken, as if they had come one by one
abbrev Goes : {S A : Type 0} → Steps S A → (S → Last) → S → List Entry → List (ℕ × NodeTurn) → List Draft → List Tell → Type 0
Goes m show first es ts ds tells = AreTaken (λ (x : List Entry). show (state_after m first x)) es (es ++ entered ds tells) ts (stood show (after_act m) (state_after m first es) (entered ds tells))

pub taken-all : {S A : Type 0} (m : Steps S A) (show : S → Last) (first : S) (es : List Entry) (last : ℕ) (ts : List (ℕ × NodeTurn)) (ds : List Draft) (tells : List Tell)
    → drafts_of last ts ≡ Some ds → length tells ≡ length ds → Goes m show first es ts ds tells
taken-all m show first es last [] [] tells e many = append-nil es
taken-all m show first es last [] (d ∷ ds) tells e many = absurd (cc e)
taken-all m show first es last (t ∷ ts) ds tells e many =
    let f = first-draft last t ts ds e in
    subst (λ (x : List Draft). Goes m show first es (t ∷ ts) x tells) (sym f.are)
    (go f.head f.rest tells (λ longer stamp ds tells. taken-all m show first longer stamp ts ds tells) (draft-is last t.0 t.1 f.head f.one) f.others (many ∙ ap length f.are))
  where
    -- what is so of the turns behind the first one
    Behind : Type 0
    Behind = (longer : List Entry) (stamp : ℕ) (ds : List Draft) (tells : List Tell) → drafts_of stamp ts ≡ Some ds → length tells ≡ length ds → Goes m show first longer ts ds tells

    go : (d : Draft) (ds : List Draft) (tells : List Tell) → Behind → IsDraft last t.0 t.1 d → drafts_of d.stamp ts ≡ Some ds → length tells ≡ length (d ∷ ds)
        → Goes m show first es (t ∷ ts) (d ∷ ds) tells
    go d ds [] behind is others many = absurd (omega (arith, many))
    go d ds (x ∷ tells) behind is others many =
        let e : Entry = record { stamp = d.stamp; act = act.Asked d.from d.ask x } in
        let longer = es ++ e ∷ [] in
        let step : state_after m first longer ≡ after_act m (state_after m first es) e.act = state-append m first es e in
        let rest = behind longer d.stamp ds tells others (omega (arith, many)) in
        let whole = subst (λ (n : List Entry). AreTaken (λ (y : List Entry). show (state_after m first y)) longer n ts (stood show (after_act m) (state_after m first longer) (entered ds tells))) (append_assoc es (e ∷ []) (entered ds tells)) rest in
        let stands = subst (λ s. AreTaken (λ (y : List Entry). show (state_after m first y)) longer (es ++ e ∷ entered ds tells) ts (stood show (after_act m) s (entered ds tells))) step whole in
        (record { entries = refl; above = is.above; act = subst (λ (y : NodeTurn). IsOf y e.act) (sym is.is) (refl, refl) }, (ap show (sym step), stands))

-- ---- what is entered, entry by entry

pub above-last : (es : List Entry) (stamp : ℕ) → last_number es < stamp → IsAbove es stamp
above-last [] stamp h = tt
above-last (e ∷ es) stamp h = h

pub last-entered : (es longer : List Entry) (e : Entry) → longer ≡ es ++ e ∷ [] → last_number longer ≡ e.stamp
last-entered es longer e is = ap last_number is ∙ ap Rattle.fr_audit_journal.specs.Housing.number_or_zero (last-with es e)

-- ---- loops whose result is there or not

pub map-none : {A : Type 0} (xs : List A) (o : Option (List A)) → xs ≡ [] → option_map (λ ys. xs ++ ys) o ≡ o
map-none xs None none = refl
map-none xs (Some ys) none = ap (λ l. Some (l ++ ys)) none

pub map-step : {A : Type 0} (done longer : List A) (x : A) (o : Option (List A)) → longer ≡ done ++ x ∷ []
    → option_map (λ ys. longer ++ ys) o ≡ option_map (λ ys. done ++ ys) (option_map (λ ys. x ∷ ys) o)
map-step done longer x None is = refl
map-step done longer x (Some ys) is = ap Some (ap (λ l. l ++ ys) is ∙ append_assoc done (x ∷ []) ys)

pub map-end : {A : Type 0} (done : List A) → option_map (λ ys. done ++ ys) (Some []) ≡ Some done
map-end done = ap Some (append-nil done)

next-of : {X : Type 0} (xs : List X) (i : ℕ) (x : X) → i < length xs → x ≡ get_or xs i x → drop i xs ≡ x ∷ drop (i + 1) xs
next-of xs i x h is = drop_more xs i x h ∙ ap (λ y. y ∷ drop (i + 1) xs) (sym is)

pub drafts-step : (last i : ℕ) (ts : List (ℕ × NodeTurn)) (t : ℕ × NodeTurn) (d : Draft) → i < length ts → t ≡ get_or ts i t → draft_of last t.0 t.1 ≡ Some d
    → drafts_of last (drop i ts) ≡ option_map (λ ds. d ∷ ds) (drafts_of d.stamp (drop (i + 1) ts))
drafts-step last i ts t d h is one =
    ap (drafts_of last) (next-of ts i t h is)
    ∙ ap (option_and_then (λ (x : Draft). option_map (λ ds. x ∷ ds) (drafts_of x.stamp (drop (i + 1) ts)))) one

pub drafts-none : (last i : ℕ) (ts : List (ℕ × NodeTurn)) (t : ℕ × NodeTurn) → i < length ts → t ≡ get_or ts i t → draft_of last t.0 t.1 ≡ None
    → drafts_of last (drop i ts) ≡ None
drafts-none last i ts t h is one =
    ap (drafts_of last) (next-of ts i t h is)
    ∙ ap (option_and_then (λ (x : Draft). option_map (λ ds. x ∷ ds) (drafts_of x.stamp (drop (i + 1) ts)))) one

pub owned-step : {A : Type 0} (owned : Ask → Option A) (i : ℕ) (ds : List Draft) (d : Draft) (a : A) → i < length ds → d ≡ get_or ds i d → owned d.ask ≡ Some a
    → owned_all owned (drop i ds) ≡ option_map (λ rest. a ∷ rest) (owned_all owned (drop (i + 1) ds))
owned-step owned i ds d a h is one =
    ap (owned_all owned) (next-of ds i d h is)
    ∙ ap (option_and_then (λ x. option_map (λ rest. x ∷ rest) (owned_all owned (drop (i + 1) ds)))) one

pub owned-none : {A : Type 0} (owned : Ask → Option A) (i : ℕ) (ds : List Draft) (d : Draft) → i < length ds → d ≡ get_or ds i d → owned d.ask ≡ None
    → owned_all owned (drop i ds) ≡ None
owned-none owned i ds d h is one =
    ap (owned_all owned) (next-of ds i d h is)
    ∙ ap (option_and_then (λ x. option_map (λ rest. x ∷ rest) (owned_all owned (drop (i + 1) ds)))) one

-- ---- loops that put entries behind others

pub entered-step : (ds rest : List Draft) (xs more : List Tell) (d : Draft) (x : Tell) (es longer total : List Entry)
    → ds ≡ d ∷ rest → xs ≡ x ∷ more → longer ≡ es ++ record { stamp = d.stamp; act = act.Asked d.from d.ask x } ∷ []
    → es ++ entered ds xs ≡ total → longer ++ entered rest more ≡ total
entered-step ds rest xs more d x es longer total is told put inv =
    let e : Entry = record { stamp = d.stamp; act = act.Asked d.from d.ask x } in
    ap (λ l. l ++ entered rest more) put ∙ (append_assoc es (e ∷ []) (entered rest more) ∙ (ap (λ l. es ++ l) (sym (ap (λ l. entered l xs) is ∙ ap (entered (d ∷ rest)) told)) ∙ inv))

-- ---- what an option has that is there

pub found-some : {A V : Type 0} (items : V → A) (o : Option V) (v : V) (w : Option A) → option_map items o ≡ w → o ≡ Some v → w ≡ Some (items v)
found-some items o v w e is = sym e ∙ ap (option_map items) is

pub if-some : {V : Type 0} (P : V → Type 0) (o : Option V) (v : V) → IfSome o P → o ≡ Some v → P v
if-some P o v h is = subst (λ x. IfSome x P) is h

-- ---- a node that took a group

module _ {S A T : Type 0} (wrapped : A → Ask) (unwrapped : Ask → Option A) (wrapped_tell : T → Tell) (told : S → A → T) (after : S → A → S) (owned : Ask → Option A)
    (is_own : (ask : Ask) (a : A) → owned ask ≡ Some a → unwrapped ask ≡ Some a) where
  abbrev m : Steps S A
  m = steps wrapped unwrapped wrapped_tell told after

  tells-are : (s : S) (asks : List A) (tells : List T) → tells ≡ told_all after told s asks → map wrapped_tell tells ≡ told_all after m.told s asks
  tells-are s asks tells are = ap (map wrapped_tell) are ∙ told-map after told wrapped_tell s asks

  -- what it did leads where it is
  pub served-group : (place now : NodeId) (first : S) (es longer : List Entry) (s t : S) (ds : List Draft) (asks : List A) (tells : List T)
      → IsServed m place first es s → now ≡ place → owned_all owned ds ≡ Some asks → tells ≡ told_all after told s asks
      → longer ≡ es ++ entered ds (map wrapped_tell tells) → t ≡ after_all after s asks
      → IsServed m now first longer t
  served-group place now first es longer s t ds asks tells h p own are is later =
      let k : longer ≡ es ++ entered ds (told_all after m.told s asks) = is ∙ ap (λ (l : List Tell). es ++ entered ds l) (tells-are s asks tells are) in
      rw (p, k, later) (served-all m owned is_own place first es s ds asks own h)

  -- and each turn was taken as if it had come alone
  pub taken-group : (show : S → Last) (place : NodeId) (first : S) (es longer : List Entry) (s : S) (ts : List (ℕ × NodeTurn)) (ds : List Draft) (asks : List A) (tells : List T) (made : List Entry) (all : List (Entry × Last))
      → IsServed m place first es s → drafts_of (last_number es) ts ≡ Some ds → owned_all owned ds ≡ Some asks → tells ≡ told_all after told s asks
      → made ≡ entered ds (map wrapped_tell tells) → longer ≡ es ++ entered ds (map wrapped_tell tells)
      → (AreGrouped m owned s made → all ≡ stood show (after_act m) s made)
      → AreTaken (λ (x : List Entry). show (state_after m first x)) es longer ts all
  taken-group show place first es longer s ts ds asks tells made all h drafted own are makes is stands =
      let k = tells-are s asks tells are in
      let g : AreGrouped m owned s made = subst (λ (l : List Entry). AreGrouped m owned s l) (sym (makes ∙ ap (entered ds) k)) (grouped-all m owned is_own s ds asks own) in
      let many : length (map wrapped_tell tells) ≡ length ds = ap length k ∙ (told-length after m.told s asks ∙ owned-length owned ds asks own) in
      let all_is : all ≡ stood show (after_act m) (state_after m first es) (entered ds (map wrapped_tell tells)) =
      stands g ∙ (ap (stood show (after_act m) s) makes ∙ ap (λ (x : S). stood show (after_act m) x (entered ds (map wrapped_tell tells))) h.state_is) in
      rw (is, all_is) (taken-all m show first es (last_number es) ts ds (map wrapped_tell tells) drafted many)
