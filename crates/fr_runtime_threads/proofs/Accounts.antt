-- Accounts of journals that are one entry longer, and of several journals.
use Rattle.std.proofs.Common.{refl, sym, ap, ◌∙◌}
use Rattle.std.proofs.lemmas.List.{append-nil, append_assoc}
use Rattle.std.specs.Prelude.{ℕ, Bool, true, false, ◌≡◌, ◌&&◌, ◌++◌, List, [], ◌∷◌, Option, Some}
use Rattle.fr_proxy.specs.declared.outcome.Outcome.{Outcome}
use Rattle.fr_proxy.specs.declared.outcome.Outcome.TheVariants.{Waiting, Committed, Ended}
use Rattle.fr_audit_journal.specs.declared.act.Entry.{Entry}
use Rattle.fr_audit_journal.specs.Journal.{JournalState, last_from, last_stamp}
use Rattle.fr_audit_journal.specs.Housing.{last_number, number_or_zero}
use Rattle.fr_runtime_threads.specs.declared.order.Order.{Order}
use Rattle.fr_runtime_threads.specs.declared.order.UnderWay.{UnderWay}
use Rattle.fr_runtime_threads.specs.declared.order.UnderWay.TheVariants.{Nothing, Open, Said}
use Rattle.fr_runtime_threads.specs.Account.{Account, account, after_act, after_entries, after_saying, all_given, all_outcomes, are_proxies, is_open_in, is_proxy, nothing, open_after, outcomes, said, told_after, waiting_if}
use Rattle.fr_base.specs.Shape.{ShapeContent}
use Rattle.fr_runtime_threads.specs.Begins.{StartsWithBegun}

after-append : (a : Account) (es : List Entry) (e : Entry) → after_entries a (es ++ e ∷ []) ≡ after_act (after_entries a es) e.act
after-append a [] e = refl
after-append a (x ∷ es) e = after-append (after_act a x.act) es e

-- the account of a journal that is one entry longer
pub account-append : (es : List Entry) (e : Entry) → account (es ++ e ∷ []) ≡ after_act (account es) e.act
account-append es e = after-append nothing es e

-- what was said stays what the journal comes to
pub told-append : (told : List Outcome) (u : UnderWay) (o : Outcome) → told_after (told ++ said u) (is_open_in u) o ≡ told ++ said (after_saying u o)
told-append told Nothing Waiting = refl
told-append told Nothing (Committed v) = refl
told-append told Nothing Ended = refl
told-append told Open Waiting = refl
told-append told Open (Committed v) = ap (λ t. t ++ Committed v ∷ []) (append-nil told)
told-append told Open Ended = ap (λ t. t ++ Ended ∷ []) (append-nil told)
told-append told (Said p) Waiting = refl
told-append told (Said p) (Committed v) = refl
told-append told (Said p) Ended = refl

pub open-append : (u : UnderWay) (o : Outcome) → open_after (is_open_in u) o ≡ is_open_in (after_saying u o)
open-append Nothing Waiting = refl
open-append Nothing (Committed v) = refl
open-append Nothing Ended = refl
open-append Open Waiting = refl
open-append Open (Committed v) = refl
open-append Open Ended = refl
open-append (Said p) Waiting = refl
open-append (Said p) (Committed v) = refl
open-append (Said p) Ended = refl

-- a journal that starts with the beginning goes on to
pub begun-append : (shape : Option ShapeContent) (es : List Entry) (e : Entry) → StartsWithBegun shape es → StartsWithBegun shape (es ++ e ∷ [])
begun-append shape [] e h = absurd (cc)
begun-append shape (x ∷ es) e h = h

pub all-given-append : (js : List JournalState) (j : JournalState) → all_given (js ++ j ∷ []) ≡ all_given js ++ (account j.entries).given
all-given-append [] j = append-nil (account j.entries).given
all-given-append (x ∷ js) j = ap (λ l. (account x.entries).given ++ l) (all-given-append js j) ∙ sym (append_assoc (account x.entries).given (all_given js) (account j.entries).given)

pub all-outcomes-append : (js : List JournalState) (j : JournalState) → all_outcomes (js ++ j ∷ []) ≡ all_outcomes js ++ outcomes j.entries
all-outcomes-append [] j = append-nil (outcomes j.entries)
all-outcomes-append (x ∷ js) j = ap (λ l. outcomes x.entries ++ l) (all-outcomes-append js j) ∙ sym (append_assoc (outcomes x.entries) (all_outcomes js) (outcomes j.entries))

-- the stamp of the entry at the end is the last
last-append : (es : List Entry) (e : Entry) → last_number (es ++ e ∷ []) ≡ e.stamp
last-append es e = ap number_or_zero (go es e)
  where
    from : (n : ℕ) (es : List Entry) (e : Entry) → last_from n (es ++ e ∷ []) ≡ e.stamp
    from n [] e = refl
    from n (x ∷ es) e = from x.stamp es e

    go : (es : List Entry) (e : Entry) → last_stamp (es ++ e ∷ []) ≡ Some e.stamp
    go [] e = refl
    go (x ∷ es) e = ap (λ n. Some n) (from x.stamp es e)

pub last-is : (es new : List Entry) (e : Entry) → new ≡ es ++ e ∷ [] → last_number new ≡ e.stamp
last-is es new e n = ap last_number n ∙ last-append es e

-- what was taken goes over to the proxy's journal, where a proxy is over and the next is fresh
pub given-moved : (js : List JournalState) (j : JournalState) (all : List JournalState) (es fresh : List Entry) (left : List Order)
    → all ≡ js ++ j ∷ [] → j.entries ≡ es → fresh ≡ []
    → all_given js ++ ((account es).given ++ left) ≡ all_given all ++ ((account fresh).given ++ left)
given-moved js j all es fresh left a e f =
    rw (a, sym e, f) (sym (ap (λ l. l ++ left) (all-given-append js j) ∙ append_assoc (all_given js) (account j.entries).given left))

-- and where no other follows
pub given-ended : (js : List JournalState) (j : JournalState) (all : List JournalState) (es : List Entry) (left : List Order)
    → all ≡ js ++ j ∷ [] → j.entries ≡ es
    → all_given js ++ ((account es).given ++ left) ≡ all_given all ++ left
given-ended js j all es left a e =
    rw (a, sym e) (sym (ap (λ l. l ++ left) (all-given-append js j) ∙ append_assoc (all_given js) (account j.entries).given left))

-- what is said of the batches of a proxy is what was told, and Waiting where one is open
pub told-open : (es : List Entry) (told : List Outcome) (u : UnderWay)
    → (account es).told ≡ told ++ said u → (account es).is_open ≡ is_open_in u → said u ≡ []
    → outcomes es ≡ told ++ waiting_if (is_open_in u)
told-open es told u t o n = rw (t, o, n) (ap (λ l. l ++ waiting_if (is_open_in u)) (append-nil told))

-- what was told stays what the proxies said, where a proxy is over and the next is fresh
pub told-moved : (js : List JournalState) (j : JournalState) (all : List JournalState) (told fresh : List Outcome)
    → all ≡ js ++ j ∷ [] → outcomes j.entries ≡ told ++ [] → fresh ≡ []
    → all_outcomes js ++ told ≡ all_outcomes all ++ fresh
told-moved js j all told fresh a o f =
    rw (a, f) (ap (λ l. all_outcomes js ++ l) (sym (append-nil told) ∙ sym o) ∙ (sym (all-outcomes-append js j) ∙ sym (append-nil (all_outcomes (js ++ j ∷ [])))))

-- and where no other follows, and the workload is told that what is open or left over is waiting
pub told-ended : (js : List JournalState) (j : JournalState) (all : List JournalState) (start told more most rest end : List Outcome) (is_open : Bool)
    → all ≡ js ++ j ∷ [] → outcomes j.entries ≡ told ++ waiting_if is_open
    → start ≡ all_outcomes js ++ told → more ≡ start ++ waiting_if is_open → most ≡ more ++ rest → rest ≡ end
    → most ≡ all_outcomes all ++ end
told-ended js j all start told more most rest end is_open a o s m n r =
    let one : (all_outcomes js ++ told) ++ waiting_if is_open ≡ all_outcomes (js ++ j ∷ []) =
    append_assoc (all_outcomes js) told (waiting_if is_open) ∙ (ap (λ l. all_outcomes js ++ l) (sym o) ∙ sym (all-outcomes-append js j)) in
    rw (n, m, s, a, r) (ap (λ l. l ++ end) one)

pub places-append : (number : ℕ) (js : List JournalState) (j : JournalState) (all : List JournalState)
    → all ≡ js ++ j ∷ [] → are_proxies number js ≡ true → is_proxy number j.node ≡ true → are_proxies number all ≡ true
places-append number js j all a h p = rw a (go js h)
  where
    at : (b : Bool) (js : List JournalState) → (are_proxies number js ≡ true → are_proxies number (js ++ j ∷ []) ≡ true) → (b && are_proxies number js) ≡ true → (b && are_proxies number (js ++ j ∷ [])) ≡ true
    at true js f h = f h
    at false js f h = absurd (cc)

    go : (js : List JournalState) → are_proxies number js ≡ true → are_proxies number (js ++ j ∷ []) ≡ true
    go [] h = rw p refl
    go (x ∷ js) h = at (is_proxy number x.node) js (go js) h
