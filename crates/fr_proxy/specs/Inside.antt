-- What the fields of a proxy stand for.
use Rattle.std.specs.Option.{option_map}
use Rattle.fr_proxy.specs.declared.proxy.Proxy.TheInside.{Inside}
use Rattle.fr_proxy.specs.Proxy.{ProxyState}
use Rattle.fr_proxy.specs.IsProxy.{IsProxy}
use Rattle.fr_proxy.specs.UnderWay.{open_of}

abbrev pub state_of : Inside → ProxyState
state_of a = record {
  epoch = a.epoch;
  number = a.number;
  m = a.shape.m;
  k = a.shape.k;
  begins = a.map;
  known = a.known;
  requests = a.requests;
  under_way = option_map open_of a.under_way;
  over = a.over;
}

-- the invariant
abbrev pub IsKept : Inside → Type 0
IsKept a = IsProxy (state_of a)
