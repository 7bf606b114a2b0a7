-- Storage servers that keep the latest state, and have come to its last generation, have each log of that pop what is before it.
use Rattle.std.proofs.Common.{◌≡◌, ℕ, ◌-◌, ◌<◌, Bool, true, false, cond, nat_lt, ◌==◌, List, [], ◌∷◌, length, Some, inl, refl, sym, ◌∙◌, ap, subst, arith}
use Rattle.std.specs.List.{Contains, All, range_with_len}
use Rattle.std.proofs.lemmas.Bool.{ltb-true, true≢false}
use Rattle.std.proofs.lemmas.List.Elements.{All-nil, All-cons, All-contains, All-head, All-tail, All-weaker, Contains-append_right}
use Rattle.fr_base.specs.declared.place.NodeId.TheVariants as node
use Rattle.fr_state.specs.Generations.{LogGeneration}
use Rattle.fr_tags.specs.Placement.{is_among, is_held}
use Rattle.fr_run.specs.Config.{Config, first_epoch, first_generation}
use Rattle.fr_run.specs.Nodes.{plan_in, generation_in, generation_at, logs_in, logs_at}
use Rattle.fr_run.specs.Run.{IsUp, IsRun}
use Rattle.fr_run.specs.StateLaws.{IsConfig}
use Rattle.fr_run.specs.States.{IsLatest}
use Rattle.fr_run.specs.Turn.{Turn, Gone}
use Rattle.fr_run_headline.specs.Retrievable.{lost_logs}
use Rattle.fr_run_headline.proofs.Durables.{below_is_least, logs_within}
use Rattle.fr_run_headline.proofs.Lists.{planned_list}
use Rattle.fr_run_outcomes.specs.Full.{PopsOn, MarkedIsPopped}
use Rattle.fr_run_outcomes.specs.Going.{GoesOn, LeavesChosen}
use Rattle.fr_run_outcomes.specs.Pulling.{AllServed, MarkedIsServed}
use Rattle.fr_run_outcomes.proofs.Counts.{Contains-from_among, below_all}
use Rattle.fr_run_outcomes.proofs.Going.{stands, goes_further}
use Rattle.fr_run_outcomes.proofs.Lists.{in_range}
use Rattle.fr_run_outcomes.proofs.Lose.{gone_of_lost, lost_is_among}
use Rattle.fr_run_outcomes.proofs.Popped.{HasPopped, popped_more}
use Rattle.fr_run_outcomes.proofs.Left.{all_left, left_further, left_latest}
use Rattle.fr_run_outcomes.proofs.Popping.{EmptyRules, HaveCome, EmptiesSo, pop_one}

-- ---- each log, for each tag

-- a log of the generation, if it is up and holds a tag, has it popped so far
abbrev IsPoppedOf : Config → LogGeneration → ℕ → List Turn → ℕ → Type 0
IsPoppedOf c g tag h i = IsUp c h (node.Log g.epoch i) → is_held tag g.m g.k i ≡ true → HasPopped c h g.epoch i tag (g.first - 1)

was_up : (c : Config) (b : ℕ) (h later : List Turn) → GoesOn c b h later → LeavesChosen c h later → (e i : ℕ) → IsUp c later (node.Log e i) → IsUp c h (node.Log e i)
was_up c b h later k leaves e i up = record {
  there = ap (λ o. nat_lt i (cond (e == first_epoch) c.m (logs_in (plan_in o)))) (sym (leaves.recoverers e)) ∙ up.there;
  up = λ gone. up.up (subst (λ l. Contains l (Gone (node.Log e i))) k.is (Contains-append_right k.more h (Gone (node.Log e i)) gone));
}

still_popped : EmptyRules → (c : Config) (g : LogGeneration) (tag b : ℕ) (h later : List Turn) → GoesOn c b h later → LeavesChosen c h later → (i : ℕ) → IsPoppedOf c g tag h i → IsPoppedOf c g tag later i
still_popped rules c g tag b h later k leaves i was up held =
    subst (λ l. HasPopped c l g.epoch i tag (g.first - 1)) k.is
    (popped_more rules.laws.contents.nodes c k.more h (subst (IsRun c) (sym k.is) k.is_run) g.epoch i tag (g.first - 1) (was (was_up c b h later k leaves g.epoch i up) held))

pop_more : EmptyRules → (c : Config) → IsConfig c → (g : LogGeneration) (tag : ℕ) → tag < length c.begins → (h : List Turn) (i : ℕ) (logs : List ℕ) → EmptiesSo c g h (λ later. All (IsPoppedOf c g tag later) logs)
    → EmptiesSo c g h (λ later. All (IsPoppedOf c g tag later) (i ∷ logs))
pop_more rules c config g tag inside h i logs rest =
    ask (is_held tag g.m g.k i) refl (nat_lt i (logs_at c rest.later g.epoch)) refl (is_among (lost_logs rest.later g.epoch) i) refl
  where
    same : IsPoppedOf c g tag rest.later i → EmptiesSo c g h (λ later. All (IsPoppedOf c g tag later) (i ∷ logs))
    same first = record { later = rest.later; goes_on = rest.goes_on; leaves = rest.leaves; come = rest.come; passes = All-cons (IsPoppedOf c g tag rest.later) i logs first rest.passes }

    further : EmptiesSo c g rest.later (λ later. HasPopped c later g.epoch i tag (g.first - 1)) → EmptiesSo c g h (λ later. All (IsPoppedOf c g tag later) (i ∷ logs))
    further o = record {
      later = o.later;
      goes_on = λ b. goes_further c b h rest.later o.later (rest.goes_on b) (o.goes_on b);
      leaves = left_further c h rest.later o.later rest.leaves o.leaves;
      come = o.come;
      passes = All-cons (IsPoppedOf c g tag o.later) i logs (λ up held. o.passes)
          (All-weaker (IsPoppedOf c g tag rest.later) (IsPoppedOf c g tag o.later) (λ j was. still_popped rules c g tag 0 rest.later o.later (o.goes_on 0) o.leaves j was) logs rest.passes);
    }

    ask : (x : Bool) → is_held tag g.m g.k i ≡ x → (y : Bool) → nat_lt i (logs_at c rest.later g.epoch) ≡ y → (z : Bool) → is_among (lost_logs rest.later g.epoch) i ≡ z → EmptiesSo c g h (λ later. All (IsPoppedOf c g tag later) (i ∷ logs))
    ask false e y f z d = same (λ up held. absurd (true≢false (sym held ∙ e)))
    ask true e false f z d = same (λ up held. absurd (true≢false (sym up.there ∙ f)))
    ask true e true f true d = same (λ up held. absurd (up.up (gone_of_lost rest.later g.epoch i (Contains-from_among (lost_logs rest.later g.epoch) i d))))
    ask true e true f false d = further (pop_one rules c rest.later config g rest.come i tag inside
        (record { there = f; up = λ gone. true≢false (sym (lost_is_among rest.later g.epoch i gone) ∙ d) }) e)

pop_logs : EmptyRules → (c : Config) → IsConfig c → (g : LogGeneration) (tag : ℕ) → tag < length c.begins → (h : List Turn) → HaveCome c g h → (logs : List ℕ) → EmptiesSo c g h (λ later. All (IsPoppedOf c g tag later) logs)
pop_logs rules c config g tag inside h k [] = record { later = h; goes_on = λ b. stands c b h k.run; leaves = all_left c h; come = k; passes = All-nil (IsPoppedOf c g tag h) }
pop_logs rules c config g tag inside h k (i ∷ logs) = pop_more rules c config g tag inside h i logs (pop_logs rules c config g tag inside h k logs)

-- each log has a tag popped
abbrev IsPoppedTag : Config → LogGeneration → List Turn → ℕ → Type 0
IsPoppedTag c g h tag = All (IsPoppedOf c g tag h) (range_with_len 0 g.m)

tag_more : EmptyRules → (c : Config) → IsConfig c → (g : LogGeneration) (h : List Turn) (tag : ℕ) (tags : List ℕ) → tag < length c.begins → EmptiesSo c g h (λ later. All (IsPoppedTag c g later) tags)
    → EmptiesSo c g h (λ later. All (IsPoppedTag c g later) (tag ∷ tags))
tag_more rules c config g h tag tags inside rest = further (pop_logs rules c config g tag inside rest.later rest.come (range_with_len 0 g.m))
  where
    further : EmptiesSo c g rest.later (λ later. IsPoppedTag c g later tag) → EmptiesSo c g h (λ later. All (IsPoppedTag c g later) (tag ∷ tags))
    further o = record {
      later = o.later;
      goes_on = λ b. goes_further c b h rest.later o.later (rest.goes_on b) (o.goes_on b);
      leaves = left_further c h rest.later o.later rest.leaves o.leaves;
      come = o.come;
      passes = All-cons (IsPoppedTag c g o.later) tag tags o.passes (All-weaker (IsPoppedTag c g rest.later) (IsPoppedTag c g o.later) kept tags rest.passes);
    }
      where
        kept : (u : ℕ) → IsPoppedTag c g rest.later u → IsPoppedTag c g o.later u
        kept u was = All-weaker (IsPoppedOf c g u rest.later) (IsPoppedOf c g u o.later) (λ j one. still_popped rules c g u 0 rest.later o.later (o.goes_on 0) o.leaves j one) (range_with_len 0 g.m) was

pop_tags : EmptyRules → (c : Config) → IsConfig c → (g : LogGeneration) (h : List Turn) → HaveCome c g h → (tags : List ℕ) → All (λ t. t < length c.begins) tags → EmptiesSo c g h (λ later. All (IsPoppedTag c g later) tags)
pop_tags rules c config g h k [] inside = record { later = h; goes_on = λ b. stands c b h k.run; leaves = all_left c h; come = k; passes = All-nil (IsPoppedTag c g h) }
pop_tags rules c config g h k (t ∷ tags) inside =
    tag_more rules c config g h t tags (All-head (λ u. u < length c.begins) t tags inside) (pop_tags rules c config g h k tags (All-tail (λ u. u < length c.begins) t tags inside))

-- ---- from a mark on

pub generation_left : (c : Config) (h later : List Turn) → LeavesChosen c h later → (e : ℕ) → generation_at c later e ≡ generation_at c h e
generation_left c h later k e = ap (λ o. cond (e == first_epoch) (Some (first_generation c)) (generation_in (plan_in o))) (k.recoverers e)

popped_after : EmptyRules → (c : Config) (h : List Turn) → IsConfig c → (g : LogGeneration) → IsLatest c h g.epoch → generation_at c h g.epoch ≡ Some g → AllServed c h g.epoch → PopsOn c h g
popped_after rules c h config g latest of served = all (pop_tags rules c config g served.later come (range_with_len 0 (length c.begins)) (below_all (length c.begins)))
  where
    run : IsRun c served.later
    run = (served.goes_on 0).is_run

    still : IsLatest c served.later g.epoch
    still = left_latest c h served.later served.leaves g.epoch latest

    own : generation_at c served.later g.epoch ≡ Some g
    own = generation_left c h served.later served.leaves g.epoch ∙ of

    come : HaveCome c g served.later
    come = record {
      run = run;
      latest = still;
      of = own;
      each = λ tag inside. record {
        keeps = (served.each tag inside).keeps;
        come = (
            let low = below_is_least rules.laws c served.later config run g.epoch g still.chosen own (g.first - 1) (record { generation = g; at = own; below = inl (omega arith) }) in
            let high = (served.each tag inside).applied in
            omega (arith, low, high));
      };
    }

    all : EmptiesSo c g served.later (λ later. All (IsPoppedTag c g later) (range_with_len 0 (length c.begins))) → PopsOn c h g
    all o = record {
      later = o.later;
      goes_on = λ b. goes_further c b h served.later o.later (served.goes_on b) (o.goes_on b);
      leaves = left_further c h served.later o.later served.leaves o.leaves;
      popped = λ i tag up inside held. (
          let of_tag : IsPoppedTag c g o.later tag = All-contains (IsPoppedTag c g o.later) (range_with_len 0 (length c.begins)) tag o.passes (in_range (length c.begins) tag inside) in
          let within = logs_within c o.later g.epoch g o.come.of in
          let there = ltb-true i (logs_at c o.later g.epoch) up.there in
          let of_log : IsPoppedOf c g tag o.later i = All-contains (IsPoppedOf c g tag o.later) (range_with_len 0 g.m) i of_tag (in_range g.m i (omega (arith, within, there))) in
          (of_log up held).popped);
    }

pub marked_is_popped : EmptyRules → MarkedIsServed → MarkedIsPopped
marked_is_popped rules served c h config run e i x g latest few of up mark =
    popped_after rules c h config g (subst (IsLatest c h) (sym own) latest) (subst (λ y. generation_at c h y ≡ Some g) (sym own) of)
    (subst (AllServed c h) (sym own) (served c h config run e i x latest few up mark))
  where
    own : g.epoch ≡ e
    own = (planned_list rules.laws.contents.nodes c h config run e g of).own
