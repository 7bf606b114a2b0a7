-- What the fields of a batch under way stand for.
use Rattle.fr_proxy.specs.declared.under_way.UnderWay.{UnderWay}
use Rattle.fr_proxy.specs.Proxy.{Open}

abbrev pub open_of : UnderWay → Open
open_of u = record { request = u.request; step = u.step; batch = u.batch; place = u.place; held = u.held.items }
