-- What a sequencer stores.
use Rattle.std.proofs.Common.{◌≡◌, ◌≢◌, ℕ, Bool, true, false, cond, Option, None, Some, refl, ap, ◌∙◌}
use Rattle.std.specs.Ordering.{nat_cmp, eq_by_cmp}
use Rattle.std.specs.Cmp.{nat_cmp_total, eq_by_cmp_equiv}
use Rattle.std.specs.FinMap.{get, insert, get-insert, nat_cmp-IsAntisymmetric}
use Rattle.fr_base.proofs.MapLemmas.{one_key}
use Rattle.fr_log.specs.Fields.{three}
use Rattle.fr_ask.specs.declared.sequencer.SeqTell.TheVariants.{Numbered}
use Rattle.fr_ask.specs.declared.sequencer.SeqRefusal.{SeqRefusal}
use Rattle.fr_proxy.specs.declared.number.Number.{Number}
use Rattle.fr_proxy.specs.Sequencer.{SeqState, is_of, new_number, new_refusal, next_unless, told_unless, told_before, told}
use Rattle.fr_proxy.specs.KeptLaw.{ToldIsStored, GivenIsStored, OthersKeepTheirs}

get_given : (s : SeqState) (proxy q : ℕ) (n : Number) → get (insert s.given proxy n) q ≡ cond (eq_by_cmp nat_cmp q proxy) (Some n) (get s.given q)
get_given s proxy q n = get-insert nat_cmp_total s.given proxy n q

same_number : (n : Number) (r prev version : ℕ) → told n ≡ Numbered r prev version → Some n ≡ Some (record { request = r; prev = prev; version = version })
same_number n r prev version e =
    let a : n.request ≡ r = cc in
    let b : n.prev ≡ prev = cc in
    let d : n.version ≡ version = cc in
    let make : ℕ → ℕ → ℕ → Number = λ x y z. record { request = x; prev = y; version = z } in
    ap Some (three make a b d)

stored : (o : Option Number) (r prev version : ℕ) → told_before o ≡ Numbered r prev version → o ≡ Some (record { request = r; prev = prev; version = version })
stored None r prev version e = absurd (cc)
stored (Some n) r prev version e = same_number n r prev version e

new_stored : (s : SeqState) (proxy request step r prev version : ℕ) (why : Option SeqRefusal) → told_unless why (new_number s request step) ≡ Numbered r prev version →
    get (next_unless why s proxy (new_number s request step)).given proxy ≡ Some (record { request = r; prev = prev; version = version })
new_stored s proxy request step r prev version (Some why) e = absurd (cc)
new_stored s proxy request step r prev version None e =
    get_given s proxy proxy (new_number s request step)
    ∙ ap (λ b. cond b (Some (new_number s request step)) (get s.given proxy)) ((eq_by_cmp_equiv nat_cmp_total).refl proxy)
    ∙ same_number (new_number s request step) r prev version e

pub told_is_stored : ToldIsStored
told_is_stored s proxy request step r prev version e = go (is_of request (get s.given proxy)) e
  where
    go : (b : Bool) → cond b (told_before (get s.given proxy)) (told_unless (new_refusal s (get s.given proxy) request step) (new_number s request step)) ≡ Numbered r prev version →
        get (cond b s (next_unless (new_refusal s (get s.given proxy) request step) s proxy (new_number s request step))).given proxy ≡ Some (record { request = r; prev = prev; version = version })
    go true h = stored (get s.given proxy) r prev version h
    go false h = new_stored s proxy request step r prev version (new_refusal s (get s.given proxy) request step) h

pub given_is_stored : GivenIsStored
given_is_stored s proxy request step old none = (rw (old, none) refl, rw (old, none) refl)

other_key : (b : Bool) (q proxy : ℕ) (n : Number) (o : Option Number) → (eq_by_cmp nat_cmp q proxy) ≡ b → q ≢ proxy → cond b (Some n) o ≡ o
other_key true q proxy n o e differ = absurd (differ (one_key nat_cmp-IsAntisymmetric q proxy e))
other_key false q proxy n o e differ = refl

others_stay : (s : SeqState) (proxy q : ℕ) (n : Number) (why : Option SeqRefusal) → q ≢ proxy → get (next_unless why s proxy n).given q ≡ get s.given q
others_stay s proxy q n (Some why) differ = refl
others_stay s proxy q n None differ = get_given s proxy q n ∙ other_key (eq_by_cmp nat_cmp q proxy) q proxy n (get s.given q) refl differ

pub others_keep_theirs : OthersKeepTheirs
others_keep_theirs s proxy request step q differ = go (is_of request (get s.given proxy))
  where
    go : (b : Bool) → get (cond b s (next_unless (new_refusal s (get s.given proxy) request step) s proxy (new_number s request step))).given q ≡ get s.given q
    go true = refl
    go false = others_stay s proxy q (new_number s request step) (new_refusal s (get s.given proxy) request step) differ
