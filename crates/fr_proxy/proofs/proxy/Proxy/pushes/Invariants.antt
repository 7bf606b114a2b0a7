use Rattle.std.proofs.Common.{◌≡◌, ◌+◌, ◌≤◌, map, drop}
use Rattle.std.specs.Vec.Iter.{into_iter_items, into_iter_len}
use Rattle.fr_tags.specs.Split.{split}
use Rattle.fr_proxy.specs.UnderWay.{open_of}
use Rattle.fr_proxy.proofs.Pushing.{asks_below}
use Rattle.fr_proxy.proofs.proxy.Proxy.pushes.Given as goal

-- the logs so far have their pushes, and the bodies that are left are those of the others
pub record IsSoFar (l : goal.Live-loop-bodies) : Type 0 where
  pub can : (goal.iterator-loop-bodies).can_next l.bodies-iterator
  pub ends : (goal.iterator-loop-bodies).is_finite l.bodies-iterator
  pub rest : map (λ b. b.items) (into_iter_items l.bodies-iterator) ≡ drop l.log (split l.self.begins l.under_way.batch l.self.m l.self.k)
  pub count : l.log + into_iter_len l.bodies-iterator ≡ l.self.m
  pub limit : l.self.m ≤ 16
  pub asks : l.asks.items ≡ asks_below l.self (open_of l.under_way) l.place l.log

abbrev pub invariant-loop-bodies : goal.invariant-loop-bodies
invariant-loop-bodies l = IsSoFar l
