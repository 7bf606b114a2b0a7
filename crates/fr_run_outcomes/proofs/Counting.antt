-- Each request has one number.
use Rattle.std.proofs.Common.{◌≡◌, ℕ, ◌≤◌, Bool, true, false, cond, ◌==◌, List, [], ◌∷◌, inl, inr, refl, sym, ◌∙◌, ap, subst, arith}
use Rattle.std.specs.List.{Contains}
use Rattle.std.proofs.lemmas.Bool.{eqb-true, eq-eqb}
use Rattle.fr_run.specs.Config.{Config}
use Rattle.fr_run.specs.Turn.{Turn}
use Rattle.fr_run.specs.Nodes.{generation_at, mark_version, is_open}
use Rattle.fr_run.specs.Run.{IsRun}
use Rattle.fr_run.specs.Laws.{Laws}
use Rattle.fr_run.proofs.Cells.{Contains-none, Contains-cases}
use Rattle.fr_run_headline.specs.Numbers.{Numbering, numbers, requests_in, AreCounted}
use Rattle.fr_run_headline.specs.BoundLaws.{NumbersAreCounted}
use Rattle.fr_run_headline.proofs.Numbers.{closed}
use Rattle.fr_proxy.specs.Sequencer.{new_sequencer}
use Rattle.fr_run_outcomes.specs.Once.{RequestHasOneNumber}

-- a request that has a number is not above its proxy's last one
pub counted_below : (ns : List Numbering) → AreCounted ns → (x : Numbering) → Contains ns x → x.request ≤ requests_in x.proxy ns
counted_below [] all x k = absurd (Contains-none k)
counted_below (n ∷ ns) (next, all) x k = elim (Contains-cases n ns x k) [
  | inl same ↦ subst (λ (y : Numbering). y.request ≤ requests_in y.proxy (n ∷ ns)) same (here n.proxy refl)
  | inr later ↦ there (x.proxy == n.proxy) refl (counted_below ns all x later)
]
  where
    here : (p : ℕ) → p ≡ n.proxy → n.request ≤ cond (p == n.proxy) n.request (requests_in p ns)
    here p e = rw (eq-eqb p n.proxy e) (omega arith)

    there : (b : Bool) → (x.proxy == n.proxy) ≡ b → x.request ≤ requests_in x.proxy ns → x.request ≤ cond b n.request (requests_in x.proxy ns)
    there true e le = let same : requests_in x.proxy ns ≡ requests_in n.proxy ns = ap (λ p. requests_in p ns) (eqb-true x.proxy n.proxy e) in omega (arith, le, same, next)
    there false e le = le

-- so none has two
counted_once : (ns : List Numbering) → AreCounted ns → (x y : Numbering) → Contains ns x → Contains ns y → x.proxy ≡ y.proxy → x.request ≡ y.request → x ≡ y
counted_once [] all x y k l p r = absurd (Contains-none k)
counted_once (n ∷ ns) (next, all) x y k l p r = elim (Contains-cases n ns x k) [
  | inl one ↦ elim (Contains-cases n ns y l) [
    | inl other ↦ sym one ∙ other
    | inr later ↦ absurd (above y later (ap (λ (z : Numbering). z.proxy) one ∙ p) (ap (λ (z : Numbering). z.request) one ∙ r))
  ]
  | inr later ↦ elim (Contains-cases n ns y l) [
    | inl other ↦ absurd (above x later (ap (λ (z : Numbering). z.proxy) other ∙ sym p) (ap (λ (z : Numbering). z.request) other ∙ sym r))
    | inr both ↦ counted_once ns all x y later both p r
  ]
]
  where
    above : (z : Numbering) → Contains ns z → n.proxy ≡ z.proxy → n.request ≡ z.request → ⊥
    above z there by asked =
        let low = counted_below ns all z there in
        let same : requests_in n.proxy ns ≡ requests_in z.proxy ns = ap (λ q. requests_in q ns) by in
        omega (arith, low, same, next, asked)

-- an epoch that is not open numbered nothing
all_counted : Laws → NumbersAreCounted → (c : Config) (h : List Turn) → IsRun c h → (e : ℕ) → AreCounted (numbers h e)
all_counted laws counted c h run e = go (is_open c h e) refl
  where
    go : (b : Bool) → is_open c h e ≡ b → AreCounted (numbers h e)
    go true is = (counted c h run e is).counted
    go false shut = subst AreCounted (sym (closed laws c h run e shut (new_sequencer e (mark_version (generation_at c h e)))).1) tt

pub request_has_one_number : Laws → NumbersAreCounted → RequestHasOneNumber
request_has_one_number laws counted c h run e proxy request n m k l =
    counted_once (numbers h e) (all_counted laws counted c h run e) n m k.given l.given (k.by ∙ sym l.by) (k.asked ∙ sym l.asked)
