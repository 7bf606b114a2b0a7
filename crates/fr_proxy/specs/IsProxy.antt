-- What holds of every proxy.
use Rattle.std.specs.Prelude.{◌≡◌, ℕ, ◌+◌, ◌<◌, ◌≤◌, ◌^◌, Bool, true, ◌&&◌, not, List, [], ◌∷◌, length, None, IsTrue, IfSome}
use Rattle.fr_proxy.specs.Proxy.{ProxyState, Open, Place, is_in}

-- a place from which a push can be made: above the one before by a step, and no commit above that one is known
pub record IsPlace (committed : ℕ) (at : Place) : Type 0 where
  pub known : committed ≤ at.prev
  pub rises : at.prev < at.version
  pub step : at.version ≤ at.prev + 1000000

-- whether no log stands twice
abbrev pub are_distinct : List ℕ → Bool
are_distinct [] = true
are_distinct (log ∷ logs) = not (is_in logs log) && are_distinct logs

-- the batch under way is that of the last request; fewer than m logs told to hold it, each a log of the generation and each
-- once, and none before it had its number
pub record IsOpenOf (p : ProxyState) (o : Open) : Type 0 where
  pub request : o.request ≡ p.requests
  pub fewer : length o.held < p.m
  pub distinct : IsTrue (are_distinct o.held)
  pub below : (log : ℕ) → IsTrue (is_in o.held log) → log < p.m
  pub unplaced : o.place ≡ None → o.held ≡ []
  pub place : IfSome o.place (IsPlace p.known)

pub record IsProxy (p : ProxyState) : Type 0 where
  pub some : 1 ≤ p.k
  pub fits : p.k ≤ p.m
  pub limit : p.m ≤ 16
  pub spent : p.requests < 2 ^ 62
  pub open_batch : IfSome p.under_way (IsOpenOf p)
  pub over : IsTrue p.over → p.under_way ≡ None
