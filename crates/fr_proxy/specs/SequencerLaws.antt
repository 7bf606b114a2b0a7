-- That a sequencer told the same ask twice at once tells the same and stays as it is, and never goes back.
use Rattle.std.specs.Prelude.{◌≡◌, ℕ, ◌+◌, ◌<◌, ◌^◌, ◌==◌, Bool, true, false, nat_le, List, [], ◌∷◌, Option, None, Some, refl, cond}
use Rattle.std.specs.Cmp.{nat_cmp_total, eq_by_cmp_equiv}
use Rattle.std.specs.FinMap.{get, insert, get-insert}
use Rattle.std.proofs.Common.{arith, ap, ◌∙◌}
use Rattle.std.proofs.lemmas.Bool.{eq-eqb, leb-false}
use Rattle.fr_base.specs.HighWater.{NoneFell}
use Rattle.fr_ask.specs.declared.sequencer.SeqAsk.{SeqAsk}
use Rattle.fr_ask.specs.declared.sequencer.SeqAsk.TheVariants.{Next}
use Rattle.fr_ask.specs.declared.sequencer.SeqRefusal.{SeqRefusal}
use Rattle.fr_ask.specs.declared.sequencer.SeqRefusal.TheVariants.{Spent, OutOfTurn}
use Rattle.fr_proxy.specs.declared.number.Number.{Number}
use Rattle.fr_proxy.specs.Sequencer.{SeqState, answer_of, next_of, is_of, last_request, new_refusal, new_number, IsWithinLimit}

-- the values that never go back
abbrev pub sequencer_high_water : SeqState → List ℕ
sequencer_high_water s = s.last ∷ []

pub record Repeats (s : SeqState) (a : SeqAsk) : Type 0 where
  pub within : IsWithinLimit (next_of s a)
  pub told : answer_of (next_of s a) a ≡ answer_of s a
  pub after : next_of (next_of s a) a ≡ next_of s a
  pub high : NoneFell (sequencer_high_water s) (sequencer_high_water (next_of s a))

-- the number that a proxy was given just now is its last one
given_last : (s : SeqState) (proxy : ℕ) (n : Number) → get (insert s.given proxy n) proxy ≡ Some n
given_last s proxy n = get-insert nat_cmp_total s.given proxy n proxy ∙ ap (λ b. cond b (Some n) (get s.given proxy)) ((eq_by_cmp_equiv nat_cmp_total).refl proxy)

-- a new number is below the limit
within_limit : (s : SeqState) (o : Option Number) (request step : ℕ) → new_refusal s o request step ≡ None → s.last + step < 2 ^ 62
within_limit s o request step e = go (request == last_request o + 1) e
  where
    limit : (b : Bool) → nat_le (2 ^ 62) (s.last + step) ≡ b → cond b (Some Spent) None ≡ None → s.last + step < 2 ^ 62
    limit true k h = absurd (cc)
    limit false k h = leb-false (2 ^ 62) (s.last + step) k

    go : (b : Bool) → cond b (cond (nat_le (2 ^ 62) (s.last + step)) (Some Spent) None) (Some OutOfTurn) ≡ None → s.last + step < 2 ^ 62
    go true h = limit (nat_le (2 ^ 62) (s.last + step)) refl h
    go false h = absurd (cc)

repeats_new : (s : SeqState) (proxy request step : ℕ) (why : Option SeqRefusal) → new_refusal s (get s.given proxy) request step ≡ why → is_of request (get s.given proxy) ≡ false → IsWithinLimit s →
    Repeats s (Next proxy request step)
repeats_new s proxy request step (Some why) e old h = record {
  within = rw (old, e) h;
  told = rw (old, e) (rw (old, e) refl);
  after = rw (old, e) (rw (old, e) refl);
  high = rw (old, e) (omega arith, tt);
}
repeats_new s proxy request step None e old h =
    let n = new_number s request step in
    let last = given_last s proxy n in
    let own : (request == request) ≡ true = eq-eqb request request refl in
    record {
      within = rw (old, e) (within_limit s (get s.given proxy) request step e);
      told = rw (old, e) (rw last (rw own refl));
      after = rw (old, e) (rw last (rw own refl));
      high = rw (old, e) (omega arith, tt);
    }

pub repeats : (s : SeqState) (a : SeqAsk) → IsWithinLimit s → Repeats s a
repeats s (Next proxy request step) h = go (is_of request (get s.given proxy)) refl
  where
    go : (b : Bool) → is_of request (get s.given proxy) ≡ b → Repeats s (Next proxy request step)
    go true e = record {
      within = rw e h;
      told = rw e (rw e refl);
      after = rw e (rw e refl);
      high = rw e (omega arith, tt);
    }
    go false e = repeats_new s proxy request step (new_refusal s (get s.given proxy) request step) refl e h
