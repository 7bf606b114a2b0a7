-- The numbers of each open epoch are one chain from its mark on.
use Rattle.std.proofs.Common.{◌≡◌, ℕ, ◌+◌, ◌<◌, ◌≤◌, Bool, true, false, cond, ◌==◌, List, [], ◌∷◌, Option, None, Some, inl, inr, refl, sym, ◌∙◌, ap, subst, arith}
use Rattle.std.specs.Prelude.{IfSome}
use Rattle.std.specs.List.{Contains}
use Rattle.std.specs.Ordering.{nat_cmp, eq_by_cmp}
use Rattle.std.specs.Cmp.{Equal-is}
use Rattle.std.proofs.lemmas.Cmp.{nat_cmp_total}
use Rattle.std.specs.FinMap.{get, insert, get-insert, get-empty, nat_cmp-IsAntisymmetric}
use Rattle.std.proofs.lemmas.Bool.{eqb-true, eq-eqb, lt-ltb, le-ltb}
use Rattle.fr_base.specs.declared.place.NodeId.{NodeId}
use Rattle.fr_base.specs.declared.place.NodeId.TheVariants as node
use Rattle.fr_ask.specs.declared.ask.Ask.TheVariants as ask
use Rattle.fr_ask.specs.declared.sequencer.SeqAsk.TheVariants.{Next}
use Rattle.fr_ask.specs.declared.sequencer.SeqTell.{SeqTell}
use Rattle.fr_ask.specs.declared.sequencer.SeqTell.TheVariants as stell
use Rattle.fr_ask.specs.declared.tell.Tell.TheVariants as tell
use Rattle.fr_log.specs.Fields.{three}
use Rattle.fr_ask.specs.declared.sequencer.SeqRefusal.{SeqRefusal}
use Rattle.fr_proxy.specs.Sequencer.{SeqState, new_sequencer, is_of, new_number, new_refusal, told, told_unless, told_before, next_unless, answer_of, next_of}
use Rattle.fr_proxy.specs.declared.number.Number.{Number}
use Rattle.fr_run.specs.Config.{Config}
use Rattle.fr_run.specs.Turn.{Turn, Begun, CellTurn, LogTurn, SeqTurn, Submitted, ProxyHeard, RecHeard, StorageHeard, Gone, Crashed, Sent, TellsBy}
use Rattle.fr_run.specs.Nodes.{generation_at, mark_version, is_open, seq_at, seq_from, seq_after}
use Rattle.fr_run.specs.Run.{IsTurn, IsRun}
use Rattle.fr_run_headline.specs.Numbers.{Numbering, is_above, with_number, with_tell, numbers_after, numbers, top_of, AreChained, numbering_of, IsNumbered}
use Rattle.fr_run.specs.Laws.{Laws}
use Rattle.fr_run.specs.AskLaws.{SenderAccounts}
use Rattle.fr_run_headline.specs.NumberLaws.{NumbersChain, NumbersTold}
use Rattle.fr_run.proofs.Growth.{open_stays, open_generation, generation_stays}
use Rattle.fr_run.proofs.Accounts.{sent_is_accounted}
use Rattle.fr_run.proofs.Cells.{Contains-here, Contains-later, Contains-none, Contains-cases}

-- ---- one ask

-- each number is above the mark, and not above the last one
pub chained_below : (base : ℕ) (ns : List Numbering) → AreChained base ns → (x : Numbering) → Contains ns x → (base ≤ x.prev) × (x.prev < x.version) × (x.version ≤ top_of base ns)
chained_below base [] k x l = absurd (Contains-none l)
chained_below base (n ∷ ns) (follows, rises, rest) x l = elim (Contains-cases n ns x l) [
  | inl e ↦ (let top = top_above base ns rest in let p = ap (λ (y : Numbering). y.prev) e in let v = ap (λ (y : Numbering). y.version) e in ((omega arith), (omega arith), (omega arith)))
  | inr m ↦ (let k = chained_below base ns rest x m in (k.0, k.1, (omega (arith, k.2, follows, rises))))
]
  where
    top_above : (base : ℕ) (ns : List Numbering) → AreChained base ns → base ≤ top_of base ns
    top_above base [] k = omega arith
    top_above base (n ∷ ns) (follows, rises, rest) = let k = top_above base ns rest in omega (arith, k, follows, rises)

-- an old version is no new number
pub old_is_below : (base : ℕ) (ns : List Numbering) → AreChained base ns → (x : Numbering) → Contains ns x → is_above x.version ns ≡ false
old_is_below base [] k x l = absurd (Contains-none l)
old_is_below base (n ∷ ns) k x l = le-ltb n.version x.version (chained_below base (n ∷ ns) k x l).2

-- a version above the last one is a new one
pub new_is_above : (base : ℕ) (ns : List Numbering) (version : ℕ) → top_of base ns < version → is_above version ns ≡ true
new_is_above base [] version l = refl
new_is_above base (n ∷ ns) version l = lt-ltb n.version version l

given_more : (s : SeqState) (ns : List Numbering) (proxy : ℕ) (m : Number) → ((q : ℕ) → IfSome (get s.given q) (λ x. Contains ns (numbering_of q x))) → (q : ℕ)
    → IfSome (get (insert s.given proxy m) q) (λ x. Contains (numbering_of proxy m ∷ ns) (numbering_of q x))
given_more s ns proxy m k q = subst (λ o. IfSome o (λ x. Contains (numbering_of proxy m ∷ ns) (numbering_of q x))) (sym (get-insert nat_cmp_total s.given proxy m q)) (go (eq_by_cmp nat_cmp q proxy) refl)
  where
    old : (o : Option Number) → IfSome o (λ x. Contains ns (numbering_of q x)) → IfSome o (λ x. Contains (numbering_of proxy m ∷ ns) (numbering_of q x))
    old None j = tt
    old (Some x) j = Contains-later (numbering_of proxy m) ns (numbering_of q x) j

    go : (b : Bool) → eq_by_cmp nat_cmp q proxy ≡ b → IfSome (cond b (Some m) (get s.given q)) (λ x. Contains (numbering_of proxy m ∷ ns) (numbering_of q x))
    go true e =
        let same : q ≡ proxy = nat_cmp-IsAntisymmetric q proxy ((Equal-is (nat_cmp q proxy)).0 e) in
        subst (λ y. Contains (numbering_of proxy m ∷ ns) (numbering_of y m)) (sym same) (Contains-here (numbering_of proxy m) ns)
    go false e = old (get s.given q) (k q)

-- a sequencer and its numbers after one ask
numbered_next : (base : ℕ) (s : SeqState) (ns : List Numbering) → IsNumbered base s ns → (p r step : ℕ) → 1 ≤ step → IsNumbered base (next_of s (Next p r step)) (with_number p (answer_of s (Next p r step)) ns)
numbered_next base s ns k p r step l = go (is_of r (get s.given p))
  where
    again : (o : Option Number) → IfSome o (λ x. Contains ns (numbering_of p x)) → IsNumbered base s (with_number p (told_before o) ns)
    again None j = k
    again (Some n) j = rw (old_is_below base ns k.chain (numbering_of p n) j) k

    unless : (o : Option SeqRefusal) → IsNumbered base (next_unless o s p (new_number s r step)) (with_number p (told_unless o (new_number s r step)) ns)
    unless (Some why) = k
    unless None =
        let n : Numbering = record { proxy = p; request = r; prev = s.last; version = s.last + step } in
        let fresh : IsNumbered base (record { epoch = s.epoch; last = s.last + step; given = insert s.given p (new_number s r step) }) (n ∷ ns) = record {
          chain = (k.last, (omega (arith, l)), k.chain);
          last = refl;
          given = given_more s ns p (new_number s r step) k.given;
        } in
        rw (new_is_above base ns (s.last + step) (let e = k.last in omega (arith, l))) fresh

    go : (b : Bool) → IsNumbered base (cond b s (next_unless (new_refusal s (get s.given p) r step) s p (new_number s r step))) (with_number p (cond b (told_before (get s.given p)) (told_unless (new_refusal s (get s.given p) r step) (new_number s r step))) ns)
    go true = again (get s.given p) (k.given p)
    go false = unless (new_refusal s (get s.given p) r step)

-- a number that is told is among them from then on
pub told_is_given : (base : ℕ) (s : SeqState) (ns : List Numbering) → IsNumbered base s ns → (p r step : ℕ) → 1 ≤ step → (n : Number) → answer_of s (Next p r step) ≡ told n
    → Contains (with_number p (told n) ns) (numbering_of p n)
told_is_given base s ns k p r step l n = go (is_of r (get s.given p))
  where
    same : (m : Number) → told m ≡ told n → m ≡ n
    same m e = let a : m.request ≡ n.request = cc in let b : m.prev ≡ n.prev = cc in let c : m.version ≡ n.version = cc in three (λ x y z. let u : Number = record { request = x; prev = y; version = z } in u) a b c

    again : (o : Option Number) → IfSome o (λ x. Contains ns (numbering_of p x)) → told_before o ≡ told n → Contains (with_number p (told n) ns) (numbering_of p n)
    again None j e = absurd (cc)
    again (Some m) j e =
        let own : Contains ns (numbering_of p n) = subst (λ x. Contains ns (numbering_of p x)) (same m e) j in
        rw (old_is_below base ns k.chain (numbering_of p n) own) own

    unless : (o : Option SeqRefusal) → told_unless o (new_number s r step) ≡ told n → Contains (with_number p (told n) ns) (numbering_of p n)
    unless (Some why) e = absurd (cc)
    unless None e =
        let d = same (new_number s r step) e in
        let v : s.last + step ≡ n.version = ap (λ (x : Number). x.version) d in
        let last = k.last in
        rw (new_is_above base ns n.version (omega (arith, l, v, last))) (Contains-here (numbering_of p n) ns)

    go : (b : Bool) → cond b (told_before (get s.given p)) (told_unless (new_refusal s (get s.given p) r step) (new_number s r step)) ≡ told n → Contains (with_number p (told n) ns) (numbering_of p n)
    go true e = again (get s.given p) (k.given p) e
    go false e = unless (new_refusal s (get s.given p) r step) e

-- ---- one turn

-- the step of each ask for a number that was sent is at least 1
pub step_is_positive : Laws → (c : Config) (h : List Turn) → IsRun c h → (from : NodeId) (e p r step : ℕ) → Sent h from (node.Sequencer e) (ask.Seq (Next p r step)) → 1 ≤ step
step_is_positive laws c h run from e p r step s = go from (sent_is_accounted laws c h run from (node.Sequencer e) (ask.Seq (Next p r step)) s)
  where
    go : (from : NodeId) → SenderAccounts c h from (node.Sequencer e) (ask.Seq (Next p r step)) → 1 ≤ step
    go (node.Cell i) k = absurd k
    go (node.Log x i) k = absurd k
    go (node.Sequencer x) k = absurd k
    go (node.Proxy x q) k = k.1.1.3
    go (node.Recoverer b) k = absurd k.2
    go (node.Storage t) k = absurd k

by_turn : Laws → (c : Config) (h : List Turn) (t : Turn) → IsRun c h → IsTurn c h t → (base e : ℕ) (s : SeqState) → ((x : ℕ) → (x == e) ≡ true → seq_at c h x ≡ s) → (ns : List Numbering) → IsNumbered base s ns
    → IsNumbered base (seq_after t e s) (numbers_after t e ns)
by_turn laws c h (Begun b shape asks) run is base e s same ns k = k
by_turn laws c h (CellTurn from i a t) run is base e s same ns k = k
by_turn laws c h (LogTurn from x i a t) run is base e s same ns k = k
by_turn laws c h (SeqTurn from x (Next p r step) t) run is base e s same ns k = go (x == e) refl
  where
    go : (b : Bool) → (x == e) ≡ b → IsNumbered base (cond b (next_of s (Next p r step)) s) (cond b (with_number p t ns) ns)
    go true at =
        let says : t ≡ answer_of s (Next p r step) = is.2 ∙ ap (λ u. answer_of u (Next p r step)) (same x at) in
        subst (λ u. IsNumbered base (next_of s (Next p r step)) (with_number p u ns)) (sym says) (numbered_next base s ns k p r step (step_is_positive laws c h run from x p r step is.1))
    go false at = k
by_turn laws c h (Submitted x p step batch asks) run is base e s same ns k = k
by_turn laws c h (ProxyHeard x p from t outcome asks) run is base e s same ns k = k
by_turn laws c h (RecHeard b from t asks) run is base e s same ns k = k
by_turn laws c h (StorageHeard tag from t taken fault) run is base e s same ns k = k
by_turn laws c h (Gone who) run is base e s same ns k = k
by_turn laws c h (Crashed who) run is base e s same ns k = k

-- ---- epochs that are not open yet

-- a turn of an epoch's sequencer wants the epoch open
pub closed_turn : (c : Config) (h : List Turn) (t : Turn) → IsTurn c h t → (e : ℕ) → is_open c h e ≡ false → (s : SeqState) (ns : List Numbering) → (seq_after t e s ≡ s) × (numbers_after t e ns ≡ ns)
closed_turn c h (Begun b shape asks) is e shut s ns = (refl, refl)
closed_turn c h (CellTurn from i a t) is e shut s ns = (refl, refl)
closed_turn c h (LogTurn from x i a t) is e shut s ns = (refl, refl)
closed_turn c h (SeqTurn from x a t) is e shut s ns = go (x == e) refl
  where
    go : (b : Bool) → (x == e) ≡ b → (cond b (next_of s a) s ≡ s) × (cond b (with_tell a t ns) ns ≡ ns)
    go true at = let k : false ≡ true = sym shut ∙ (ap (is_open c h) (sym (eqb-true x e at)) ∙ is.0.there) in absurd (cc)
    go false at = (refl, refl)
closed_turn c h (Submitted x p step batch asks) is e shut s ns = (refl, refl)
closed_turn c h (ProxyHeard x p from t outcome asks) is e shut s ns = (refl, refl)
closed_turn c h (RecHeard b from t asks) is e shut s ns = (refl, refl)
closed_turn c h (StorageHeard tag from t taken fault) is e shut s ns = (refl, refl)
closed_turn c h (Gone who) is e shut s ns = (refl, refl)
closed_turn c h (Crashed who) is e shut s ns = (refl, refl)

-- was closed before
pub shut_before : Laws → (c : Config) (h : List Turn) (t : Turn) → IsRun c h → IsTurn c h t → (e : ℕ) → is_open c (t ∷ h) e ≡ false → is_open c h e ≡ false
shut_before laws c h t run is e shut = go (is_open c h e) refl
  where
    go : (b : Bool) → is_open c h e ≡ b → b ≡ false
    go true at = sym (open_stays laws c h t run is e at) ∙ shut
    go false at = refl

-- an epoch that is not open has no number, and its sequencer would be new
pub closed : Laws → (c : Config) (h : List Turn) → IsRun c h → (e : ℕ) → is_open c h e ≡ false → (s : SeqState) → (seq_from s h e ≡ s) × (numbers h e ≡ [])
closed laws c [] run e shut s = (refl, refl)
closed laws c (t ∷ h) run e shut s =
    let before = shut_before laws c h t run.1 run.0 e shut in
    let k = closed laws c h run.1 e before s in
    let turn = closed_turn c h t run.0 e before s [] in
    (ap (seq_after t e) k.0 ∙ turn.0, ap (numbers_after t e) k.1 ∙ turn.1)

new_is_numbered : (e base : ℕ) → IsNumbered base (new_sequencer e base) []
new_is_numbered e base = record { chain = tt; last = refl; given = λ q. subst (λ o. IfSome o (λ x. Contains [] (numbering_of q x))) (sym (get-empty nat_cmp q)) tt }

-- ---- runs

chain_next : Laws → (c : Config) (h : List Turn) (t : Turn) → IsRun c h → IsTurn c h t → (e : ℕ) → (is_open c h e ≡ true → IsNumbered (mark_version (generation_at c h e)) (seq_at c h e) (numbers h e))
    → IsNumbered (mark_version (generation_at c (t ∷ h) e)) (seq_at c (t ∷ h) e) (numbers (t ∷ h) e)
chain_next laws c h t run is e before = go (is_open c h e) refl
  where
    go : (b : Bool) → is_open c h e ≡ b → IsNumbered (mark_version (generation_at c (t ∷ h) e)) (seq_at c (t ∷ h) e) (numbers (t ∷ h) e)
    go true was =
        let g = open_generation laws c h run e was in
        let same : generation_at c (t ∷ h) e ≡ generation_at c h e = generation_stays laws c h t run is e g.generation g.is ∙ sym g.is in
        subst (λ o. IsNumbered (mark_version o) (seq_after t e (seq_from (new_sequencer e (mark_version o)) h e)) (numbers (t ∷ h) e)) (sym same)
        (by_turn laws c h t run is (mark_version (generation_at c h e)) e (seq_at c h e) (λ x at. ap (seq_at c h) (eqb-true x e at)) (numbers h e) (before was))
    go false shut =
        let first = new_sequencer e (mark_version (generation_at c (t ∷ h) e)) in
        let k = closed laws c h run e shut first in
        let turn = closed_turn c h t is e shut first [] in
        subst (λ s. IsNumbered (mark_version (generation_at c (t ∷ h) e)) s (numbers (t ∷ h) e)) (sym (ap (seq_after t e) k.0 ∙ turn.0))
        (subst (λ ns. IsNumbered (mark_version (generation_at c (t ∷ h) e)) first ns) (sym (ap (numbers_after t e) k.1 ∙ turn.1)) (new_is_numbered e (mark_version (generation_at c (t ∷ h) e))))

pub numbers_chain : Laws → NumbersChain
numbers_chain laws c [] run e is = new_is_numbered e (mark_version (generation_at c [] e))
numbers_chain laws c (t ∷ h) run e is = chain_next laws c h t run.1 run.0 e (λ was. numbers_chain laws c h run.1 e was)

-- ---- what was told

with_number_stays : (p : ℕ) (t : SeqTell) (ns : List Numbering) (x : Numbering) → Contains ns x → Contains (with_number p t ns) x
with_number_stays p (stell.Numbered r prev v) ns x k = go (is_above v ns)
  where
    go : (b : Bool) → Contains (cond b (record { proxy = p; request = r; prev = prev; version = v } ∷ ns) ns) x
    go true = Contains-later (record { proxy = p; request = r; prev = prev; version = v }) ns x k
    go false = k
with_number_stays p (stell.Refused why) ns x k = k

-- numbers stay
pub numbers_stay : (t : Turn) (e : ℕ) (ns : List Numbering) (x : Numbering) → Contains ns x → Contains (numbers_after t e ns) x
numbers_stay (Begun b shape asks) e ns x k = k
numbers_stay (CellTurn from i a t) e ns x k = k
numbers_stay (LogTurn from e' i a t) e ns x k = k
numbers_stay (SeqTurn from e' (Next p r s) t) e ns x k = go (e' == e)
  where
    go : (b : Bool) → Contains (cond b (with_number p t ns) ns) x
    go true = with_number_stays p t ns x k
    go false = k
numbers_stay (Submitted e' p step batch asks) e ns x k = k
numbers_stay (ProxyHeard e' p from t outcome asks) e ns x k = k
numbers_stay (RecHeard b from t asks) e ns x k = k
numbers_stay (StorageHeard tag from t taken fault) e ns x k = k
numbers_stay (Gone who) e ns x k = k
numbers_stay (Crashed who) e ns x k = k

pub numbers_told : Laws → NumbersTold
numbers_told laws c [] run e to n k = absurd k
numbers_told laws c (t ∷ h) run e to n (inr k) = let r = numbers_told laws c h run.1 e to n k in (r.0, numbers_stay t e (numbers h e) (numbering_of r.0 n) r.1)
numbers_told laws c (t ∷ h) run e to n (inl k) = now t run.0 k
  where
    now : (t : Turn) → IsTurn c h t → TellsBy t (node.Sequencer e) to (tell.Seq (told n)) → (p : ℕ) × Contains (numbers (t ∷ h) e) (numbering_of p n)
    now (Begun b shape asks) is k = absurd k
    now (CellTurn from j a u) is (at, own, says) = let d : node.Cell j ≡ node.Sequencer e = at in absurd (cc)
    now (LogTurn from x j a u) is (at, own, says) = let d : node.Log x j ≡ node.Sequencer e = at in absurd (cc)
    now (SeqTurn from x (Next p r step) u) is (at, own, says) =
        let d : x ≡ e = cc in
        let v : u ≡ told n = cc in
        let open' : is_open c h x ≡ true = is.0.there in
        let chain = numbers_chain laws c h run.1 x open' in
        let given = told_is_given (mark_version (generation_at c h x)) (seq_at c h x) (numbers h x) chain p r step (step_is_positive laws c h run.1 from x p r step is.1) n (sym is.2 ∙ v) in
        let here : Contains (numbers (SeqTurn from x (Next p r step) u ∷ h) x) (numbering_of p n) = rw (eq-eqb x x refl) (subst (λ y. Contains (with_number p y (numbers h x)) (numbering_of p n)) (sym v) given) in
        (p, subst (λ y. Contains (numbers (SeqTurn from x (Next p r step) u ∷ h) y) (numbering_of p n)) d here)
    now (Submitted x p step batch asks) is k = absurd k
    now (ProxyHeard x p from u outcome asks) is k = absurd k
    now (RecHeard b from u asks) is k = absurd k
    now (StorageHeard tag from u taken fault) is k = absurd k
    now (Gone who) is k = absurd k
    now (Crashed who) is k = absurd k
