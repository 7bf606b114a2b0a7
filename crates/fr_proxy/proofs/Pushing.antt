-- The pushes of a batch, one log after the other.
use Rattle.std.proofs.Common.{◌≡◌, ℕ, ◌+◌, ◌<◌, Bool, true, false, cond, not, List, [], ◌∷◌, ◌++◌, length, map, drop, get_or, IsTrue, refl, sym, ap, ◌∙◌, arith, suc}
use Rattle.std.specs.Prelude.{filter}
use Rattle.std.specs.List.{range_with_len}
use Rattle.std.proofs.Math.Seq.{drop-cons}
use Rattle.std.proofs.lemmas.List.{map-append}
use Rattle.std.proofs.lemmas.List.Elements.{filter-append}
use Rattle.std.proofs.lemmas.List.FromFn.{map-range_with_len_more, length-map-range_with_len}
use Rattle.fr_base.specs.declared.place.NodeId.{NodeId}
use Rattle.fr_base.specs.declared.place.NodeId.TheVariants as node
use Rattle.fr_tags.specs.declared.body.Body.{Body}
use Rattle.fr_tags.specs.Bodies.{is_rising_from}
use Rattle.fr_tags.specs.Split.{split, bodies, bodies_for}
use Rattle.fr_tags.specs.SplitLaw.{bodies_at, EachLogHasItsBodies}
use Rattle.fr_ask.specs.declared.ask.Ask.{Ask}
use Rattle.fr_proxy.specs.Proxy.{ProxyState, Open, Place, is_in, push_with}

-- the push of the batch to a log
abbrev pub ask_at : ProxyState → Open → Place → ℕ → NodeId × Ask
ask_at p o at log = (node.Log p.epoch log, push_with p at (bodies_at p.begins o.batch p.m p.k log))

-- the asks to the logs below this one that are not known to hold the batch
abbrev pub asks_below : ProxyState → Open → Place → ℕ → List (NodeId × Ask)
asks_below p o at log = map (ask_at p o at) (filter (λ i. not (is_in o.held i)) (range_with_len 0 log))

map_itself : {X : Type 0} (xs : List X) → map (λ x. x) xs ≡ xs
map_itself [] = refl
map_itself (x ∷ xs) = ap (λ ys. x ∷ ys) (map_itself xs)

one_more : (n : ℕ) → range_with_len 0 (n + 1) ≡ range_with_len 0 n ++ n ∷ []
one_more n = sym (map_itself (range_with_len 0 (n + 1))) ∙ map-range_with_len_more (λ x. x) 0 n n (omega arith) ∙ ap (λ xs. xs ++ n ∷ []) (map_itself (range_with_len 0 n))

pub asks_below-more : (p : ProxyState) (o : Open) (at : Place) (n : ℕ) → asks_below p o at (n + 1) ≡ asks_below p o at n ++ cond (is_in o.held n) [] (ask_at p o at n ∷ [])
asks_below-more p o at n =
    ap (λ r. map f (filter q r)) (one_more n)
    ∙ ap (map f) (filter-append q (range_with_len 0 n) (n ∷ []))
    ∙ map-append f (filter q (range_with_len 0 n)) (filter q (n ∷ []))
    ∙ ap (λ xs. map f (filter q (range_with_len 0 n)) ++ xs) (last (is_in o.held n))
  where
    f : ℕ → NodeId × Ask
    f = ask_at p o at

    q : ℕ → Bool
    q = λ i. not (is_in o.held i)

    last : (b : Bool) → map f (cond (not b) (n ∷ []) []) ≡ cond b [] (f n ∷ [])
    last true = refl
    last false = refl

pub length-split : (p : ProxyState) (o : Open) → length (split p.begins o.batch p.m p.k) ≡ p.m
length-split p o = length-map-range_with_len (bodies_for (bodies p.begins o.batch) p.m p.k) 0 p.m

-- the next bodies are those of this log
pub next_bodies : (p : ProxyState) (o : Open) (log : ℕ) (first : List Body) (rest : List (List Body)) → log < p.m → first ∷ rest ≡ drop log (split p.begins o.batch p.m p.k) →
    (first ≡ bodies_at p.begins o.batch p.m p.k log) × (rest ≡ drop (log + 1) (split p.begins o.batch p.m p.k))
next_bodies p o log first rest l e =
    let s : List (List Body) = split p.begins o.batch p.m p.k in
    let n : length s ≡ p.m = length-split p o in
    let both : first ∷ rest ≡ get_or s log [] ∷ drop (suc log) s = e ∙ drop-cons s log [] (omega (arith, l, n)) in
    let head : first ≡ get_or s log [] = cc in
    let tail : rest ≡ drop (suc log) s = cc in
    let next : suc log ≡ log + 1 = omega arith in
    (head, tail ∙ ap (λ i. drop i s) next)

-- the bodies of a log rise
pub bodies_rise : EachLogHasItsBodies → (p : ProxyState) (o : Open) (log : ℕ) → log < p.m → IsTrue (is_rising_from 0 (bodies_at p.begins o.batch p.m p.k log))
bodies_rise law p o log l = (law p.begins o.batch p.m p.k log l).rising

-- one more log has its push, unless it is known to hold the batch
pub pushes_so_far : (p : ProxyState) (o : Open) (at : Place) (log : ℕ) (before after : List (NodeId × Ask)) (bodies : List Body) → bodies ≡ bodies_at p.begins o.batch p.m p.k log → before ≡ asks_below p o at log →
    after ≡ before ++ cond (is_in o.held log) [] ((node.Log p.epoch log, push_with p at bodies) ∷ []) → after ≡ asks_below p o at (log + 1)
pushes_so_far p o at log before after bodies own so_far added =
    added
    ∙ ap (λ b. before ++ cond (is_in o.held log) [] ((node.Log p.epoch log, push_with p at b) ∷ [])) own
    ∙ ap (λ xs. xs ++ cond (is_in o.held log) [] (ask_at p o at log ∷ [])) so_far
    ∙ sym (asks_below-more p o at log)
