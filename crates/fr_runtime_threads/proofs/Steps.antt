-- Accounts once a proxy hears or takes a batch.
use Rattle.std.proofs.Common.{ap, ◌∙◌}
use Rattle.std.proofs.lemmas.List.{append-nil}
use Rattle.std.specs.Prelude.{◌≡◌, ◌++◌, List, [], ◌∷◌, Option, Some, None}
use Rattle.fr_proxy.specs.declared.outcome.Outcome.{Outcome}
use Rattle.fr_audit_journal.specs.declared.act.Entry.{Entry}
use Rattle.fr_runtime_threads.specs.declared.order.Order.{Order}
use Rattle.fr_runtime_threads.specs.declared.order.UnderWay.{UnderWay}
use Rattle.fr_runtime_threads.specs.declared.order.UnderWay.TheVariants.{Nothing, Open}
use Rattle.fr_runtime_threads.specs.Account.{Account, account, after_act, after_saying, is_open_in, left_over, said, waiting_if, with_outcome}
use Rattle.fr_runtime_threads.proofs.Accounts.{account-append, open-append, told-append}

-- what a proxy hears and says of it
pub heard : (es new : List Entry) (e : Entry) (o : Outcome) → new ≡ es ++ e ∷ [] → after_act (account es) e.act ≡ with_outcome (account es) o → account new ≡ with_outcome (account es) o
heard es new e o n a = ap account n ∙ (account-append es e ∙ a)

pub heard-told : (es new : List Entry) (o : Outcome) (told : List Outcome) (u v : UnderWay) → account new ≡ with_outcome (account es) o
    → (account es).told ≡ told ++ said u → (account es).is_open ≡ is_open_in u → v ≡ after_saying u o → (account new).told ≡ told ++ said v
heard-told es new o told u v n t p s = ap (λ (a : Account). a.told) n ∙ (rw (t, p, s) (told-append told u o))

pub heard-open : (es new : List Entry) (o : Outcome) (u v : UnderWay) → account new ≡ with_outcome (account es) o
    → (account es).is_open ≡ is_open_in u → v ≡ after_saying u o → (account new).is_open ≡ is_open_in v
heard-open es new o u v n p s = ap (λ (a : Account). a.is_open) n ∙ (rw (p, s) (open-append u o))

-- a proxy with nothing under way takes a batch
pub submitted : (es new : List Entry) (e : Entry) → new ≡ es ++ e ∷ [] → account new ≡ after_act (account es) e.act
submitted es new e n = ap account n ∙ account-append es e

pub submitted-given : (es new : List Entry) (o : Order) (kept left : Option Order) → (account new).given ≡ (account es).given ++ o ∷ []
    → kept ≡ Some o → left ≡ None → (account new).given ++ left_over left ≡ (account es).given ++ left_over kept
submitted-given es new o kept left n k l = rw (k, l) (append-nil (account new).given ∙ n)

pub submitted-told : (es new : List Entry) (told : List Outcome) (u v : UnderWay) → (account new).told ≡ (account es).told ++ waiting_if (account es).is_open
    → (account es).told ≡ told ++ said u → (account es).is_open ≡ is_open_in u → u ≡ Nothing → v ≡ Open → (account new).told ≡ told ++ said v
submitted-told es new told u v n t p z w = n ∙ (rw (t, p, z, w) (append-nil (told ++ [])))
