-- What a proxy or a recoverer pushes to a log.
use Rattle.std.specs.Prelude.{◌≡◌, ℕ, ◌+◌, ◌<◌, ◌≤◌, Bool, true, false, ◌==◌, ◌&&◌, List, [], Option, None, Some, IsTrue, IsSome, refl}
use Rattle.std.specs.Cmp.Lexicographic.{pointwise}
use Rattle.std.proofs.lemmas.Bool.{and_parts, eq-eqb, eqb-true}
use Rattle.fr_base.specs.Same.{IsSameness, pointwise-IsSameness}
use Rattle.fr_tags.specs.declared.body.Body.{Body}
use Rattle.fr_tags.specs.Bodies.{is_rising_from, is_same_body, is_same_body-IsSameness}
use Rattle.fr_state.specs.Generations.{CoordinatedState}
use Rattle.fr_state.specs.Same.{is_same_state}
use Rattle.fr_log.specs.Fields.{six}
use Rattle.fr_log.specs.States.{is_same_state-IsSameness}

-- one commit: the version before it in the chain, its own version, the greatest version that the sender knows to be
-- committed, the bodies of the log's tags, and in a mark, which begins a chain, the coordinated state
pub record PushContent : Type 0 where
  pub epoch : ℕ
  pub prev : ℕ
  pub version : ℕ
  pub known : ℕ
  pub bodies : List Body
  pub mark : Option CoordinatedState

-- the limits of a push; a mark has no bodies and is one version above the one before it
pub record IsPush (p : PushContent) : Type 0 where
  pub rises : p.prev < p.version
  pub step : p.version ≤ p.prev + 1000000
  pub known : p.known ≤ p.prev
  pub rising : IsTrue (is_rising_from 0 p.bodies)
  pub mark_bodies : IsSome p.mark → p.bodies ≡ []
  pub mark_step : IsSome p.mark → p.version ≡ p.prev + 1

-- whether both are no mark, or marks of one state
abbrev pub is_same_mark : Option CoordinatedState → Option CoordinatedState → Bool
is_same_mark None None = true
is_same_mark None (Some t) = false
is_same_mark (Some s) None = false
is_same_mark (Some s) (Some t) = is_same_state s t

-- whether two pushes are one, whatever they tell of what is known
abbrev pub is_one_push : PushContent → PushContent → Bool
is_one_push p q =
    (p.epoch == q.epoch)
    && ((p.prev == q.prev) && ((p.version == q.version) && (pointwise is_same_body p.bodies q.bodies && is_same_mark p.mark q.mark)))

-- whether two pushes are the same
abbrev pub is_same_push : PushContent → PushContent → Bool
is_same_push p q = (p.known == q.known) && is_one_push p q

-- the two have all but known in common
pub record AreOnePush (p q : PushContent) : Type 0 where
  pub epoch : p.epoch ≡ q.epoch
  pub prev : p.prev ≡ q.prev
  pub version : p.version ≡ q.version
  pub bodies : p.bodies ≡ q.bodies
  pub mark : p.mark ≡ q.mark

is_same_mark-IsSameness : IsSameness is_same_mark
is_same_mark-IsSameness = record { itself = itself; same = same }
  where
    itself : (m : Option CoordinatedState) → is_same_mark m m ≡ true
    itself None = refl
    itself (Some s) = is_same_state-IsSameness.itself s

    same : (m n : Option CoordinatedState) → is_same_mark m n ≡ true → m ≡ n
    same None None e = refl
    same None (Some t) e = absurd (cc)
    same (Some s) None e = absurd (cc)
    same (Some s) (Some t) e = let k = is_same_state-IsSameness.same s t e in cc

lists : IsSameness (pointwise is_same_body)
lists = pointwise-IsSameness is_same_body-IsSameness

pub is_one_push-itself : (p : PushContent) → is_one_push p p ≡ true
is_one_push-itself p =
    rw (eq-eqb p.epoch p.epoch refl, eq-eqb p.prev p.prev refl, eq-eqb p.version p.version refl, lists.itself p.bodies) (is_same_mark-IsSameness.itself p.mark)

pub is_one_push-parts : (p q : PushContent) → is_one_push p q ≡ true → AreOnePush p q
is_one_push-parts p q e =
    let a = and_parts (p.epoch == q.epoch) ((p.prev == q.prev) && ((p.version == q.version) && (pointwise is_same_body p.bodies q.bodies && is_same_mark p.mark q.mark))) e in
    let b = and_parts (p.prev == q.prev) ((p.version == q.version) && (pointwise is_same_body p.bodies q.bodies && is_same_mark p.mark q.mark)) a.1 in
    let c = and_parts (p.version == q.version) (pointwise is_same_body p.bodies q.bodies && is_same_mark p.mark q.mark) b.1 in
    let d = and_parts (pointwise is_same_body p.bodies q.bodies) (is_same_mark p.mark q.mark) c.1 in
    record {
      epoch = eqb-true p.epoch q.epoch a.0;
      prev = eqb-true p.prev q.prev b.0;
      version = eqb-true p.version q.version c.0;
      bodies = lists.same p.bodies q.bodies d.0;
      mark = is_same_mark-IsSameness.same p.mark q.mark d.1;
    }

pub is_same_push-IsSameness : IsSameness is_same_push
is_same_push-IsSameness = record { itself = itself; same = same }
  where
    itself : (p : PushContent) → is_same_push p p ≡ true
    itself p = rw (eq-eqb p.known p.known refl) (is_one_push-itself p)

    same : (p q : PushContent) → is_same_push p q ≡ true → p ≡ q
    same p q e =
        let a = and_parts (p.known == q.known) (is_one_push p q) e in
        let one = is_one_push-parts p q a.1 in
        six (λ epoch prev version known bodies mark. record { epoch = epoch; prev = prev; version = version; known = known; bodies = bodies; mark = mark })
        one.epoch one.prev one.version (eqb-true p.known q.known a.0) one.bodies one.mark
