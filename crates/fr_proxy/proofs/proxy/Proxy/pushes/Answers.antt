use Rattle.std.proofs.Common.{rules, ◌≡◌, ◌<◌, ◌≤◌, map, length, List, sym, ap, ap₂, subst, ◌∙◌, arith, IsTrue}
use Rattle.std.proofs.lemmas.List.{length-map}
use Rattle.std.specs.Vec.{vec_len}
use Rattle.std.specs.Vec.Iter.{into_iter_items}
use Rattle.fr_tags.specs.declared.body.Body.{Body}
use Rattle.fr_tags.specs.Bodies.{is_rising_from}
use Rattle.fr_tags.specs.Split.{split}
use Rattle.fr_proxy.specs.Proxy.{ProxyState}
use Rattle.fr_proxy.specs.UnderWay.{open_of}
use Rattle.fr_proxy.proofs.Pushing.{next_bodies, bodies_rise, length-split, asks_below, pushes_so_far}
use Rattle.fr_proxy.proofs.proxy.Proxy.pushes.Goals as goal

pub loop-bodies-init : goal.loop-bodies-init
loop-bodies-init c =
    let o = open_of c.args.under_way.now in
    let parts = c.in_ok-split.ensures ∙ ap₂ (λ m k. split c.self.inside.map c.args.under_way.now.batch m k) c.m.ensures.value c.k.ensures.value ∙ ap (λ (s : ProxyState). split s.begins c.args.under_way.now.batch s.m s.k) c.self.view_is in
    let items = c.into_iter-bodies-iterator.ensures.into_iter_gives in
    record {
      can = tt;
      ends = tt;
      rest = ap (map (λ b. b.items)) items.0 ∙ parts;
      count =
          let n : length (map (λ b. b.items) c.in_ok-split.split.items) ≡ c.args.self.now.m = ap length parts ∙ length-split c.args.self.now o in
          let l : length (map (λ b. b.items) c.in_ok-split.split.items) ≡ length c.in_ok-split.split.items = length-map _ _ in
          let v : length c.in_ok-split.split.items ≡ vec_len c.in_ok-split.split = search (rules, c.in_ok-split.split.ok) in
          omega (arith, items.1, n, l, v);
      limit = subst (λ (s : ProxyState). s.m ≤ 16) c.self.view_is c.self.invariant.limit;
      asks = c.in_ok-asks.ensures.items;
    }

pub add_push-requires-clause-rising : goal.add_push-requires-clause-rising
add_push-requires-clause-rising c =
    let o = open_of c.args.under_way.now in
    let step = c.in-Some.ensures.steps in
    let below : c.loop-bodies.log < c.args.self.now.m = omega (arith, step.1, c.loop-bodies.invariant.count) in
    let next = next_bodies c.args.self.now o c.loop-bodies.log c.in-Some.bodies.items (map (λ b. b.items) (into_iter_items c.next.new.self)) below (sym (ap (map (λ b. b.items)) step.0) ∙ c.loop-bodies.invariant.rest) in
    subst (λ (b : List Body). IsTrue (is_rising_from 0 b)) (sym next.0) (bodies_rise c.split_law.ensures.bodies c.args.self.now o c.loop-bodies.log below)

pub loop-bodies-preserved : goal.loop-bodies-preserved
loop-bodies-preserved c =
    let p = c.args.self.now in
    let o = open_of c.args.under_way.now in
    let step = c.in-Some.ensures.steps in
    let inv = c.loop-bodies.invariant in
    let below : c.loop-bodies.log < c.args.self.now.m = omega (arith, step.1, inv.count) in
    let next = next_bodies p o c.loop-bodies.log c.in-Some.bodies.items (map (λ b. b.items) (into_iter_items c.next.new.self)) below (sym (ap (map (λ b. b.items)) step.0) ∙ inv.rest) in
    record {
      can = tt;
      ends = tt;
      rest = next.1;
      count = omega (arith, step.1, inv.count);
      limit = inv.limit;
      asks = pushes_so_far p o c.args.place.now c.loop-bodies.log c.loop-bodies.asks.items c.add_push.new.asks.items c.in-Some.bodies.items next.0 inv.asks c.in_ok-add_push.ensures;
    }

pub returns : goal.returns
returns c =
    let inv = c.loop-bodies.invariant in
    let all : c.loop-bodies.log ≡ c.args.self.now.m = omega (arith, c.in-None.ensures.steps.0, inv.count) in
    inv.asks ∙ ap (asks_below c.args.self.now (open_of c.args.under_way.now) c.args.place.now) all
