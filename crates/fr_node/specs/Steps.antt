-- What each act makes of a proxy, of a recoverer and of a storage server.
use Rattle.std.specs.Prelude.{◌≡◌, Bool, true, false, Option, None, Some}
use Rattle.fr_base.specs.Shape.{ShapeContent}
use Rattle.fr_audit_journal.specs.declared.act.Act.{Act}
use Rattle.fr_audit_journal.specs.declared.act.Act.TheVariants as act
use Rattle.fr_proxy.specs.Proxy as proxy
use Rattle.fr_proxy.specs.Proxy.{ProxyState}
use Rattle.fr_epoch.specs.Hear as rec
use Rattle.fr_epoch.specs.Recoverer.{RecState}
use Rattle.fr_storage.specs.Storage.{StorageState}
use Rattle.fr_run.specs.Told.{IsTold}

-- a proxy takes a batch, which it does not refuse, or hears a tell, and says of its batch what it is then to say
abbrev pub ProxyStep : ProxyState → Act → ProxyState → Type 0
ProxyStep p (act.Submitted step batch) q = (proxy.submit_fault p ≡ None) × (q ≡ proxy.submitted p step batch)
ProxyStep p (act.Heard from tell taken outcome) q =
    (taken ≡ None) × ((outcome ≡ Some (proxy.outcome_of p from tell)) × (q ≡ proxy.after_hear p from tell))
ProxyStep p a q = ⊥

-- a recoverer, and whether it began
pub record Recovering : Type 0 where
  pub recoverer : RecState
  pub has_begun : Bool

-- a recoverer begins once, to open a generation of the shape that it was given, and then hears tells
abbrev pub RecStep : Option ShapeContent → Recovering → Act → Recovering → Type 0
RecStep given r (act.Begun shape) q = (r.has_begun ≡ false) × ((shape ≡ given) × (q ≡ record { recoverer = r.recoverer; has_begun = true }))
RecStep given r (act.Heard from tell taken outcome) q =
    (r.has_begun ≡ true) × ((taken ≡ None) × ((outcome ≡ None) × (q ≡ record { recoverer = rec.after_hear r.recoverer from tell; has_begun = true })))
RecStep given r a q = ⊥

-- a storage server hears a tell, whole or as far as it took it; a crash leaves it as it was
abbrev pub StorageStep : StorageState → Act → StorageState → Type 0
StorageStep s (act.Heard from tell taken outcome) n = (outcome ≡ None) × IsTold s from tell taken n
StorageStep s act.Crashed n = n ≡ s
StorageStep s a n = ⊥
