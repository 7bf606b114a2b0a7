-- What a workload gave once it gives one batch more.
use Rattle.std.proofs.Common.{◌≡◌, ℕ, suc, List, [], ◌∷◌, ◌++◌, length, refl, sym, ap, ◌∙◌}
use Rattle.std.proofs.lemmas.List.{length_push}
use Rattle.std.proofs.Math.Numerals.{add-one}
use Rattle.rand_pcg.specs.Lcg.{Lcg}
use Rattle.rand_pcg.specs.Pcg.{pcg32}
use Rattle.fr_mutation.specs.declared.mutation.Mutation.{Mutation}
use Rattle.fr_runtime_threads.specs.declared.order.Order.{Order}
use Rattle.fr_runtime_storm.specs.Draws.{generator_of}
use Rattle.fr_runtime_storm.specs.Orders.{after_batch, after_batches, batch_of, drawn_orders, mutation_of}

more : (given : List Order) (o : Order) → length (given ++ o ∷ []) ≡ suc (length given)
more given o = length_push given o ∙ add-one (length given)

pub stands_after : (given : List Order) (o : Order) (rng g : Lcg) → rng ≡ after_batches (length given) g
    → after_batch rng ≡ after_batches (length (given ++ o ∷ [])) g
unfolding after_batches
stands_after given o rng g e = rw (more given o) (ap after_batch e)

pub gave_after : (shards : ℕ) (given : List Order) (o : Order) (rng g : Lcg) → given ≡ drawn_orders shards (length given) g
    → rng ≡ after_batches (length given) g → o ≡ record { step = 1; batch = batch_of shards rng }
    → given ++ o ∷ [] ≡ drawn_orders shards (length (given ++ o ∷ [])) g
unfolding drawn_orders
gave_after shards given o rng g e stands f =
    let same : o ≡ record { step = 1; batch = batch_of shards (after_batches (length given) g) } =
    f ∙ ap (λ (r : Lcg). record { step = 1; batch = batch_of shards r }) stands in
    rw (more given o) (ap (λ (s : List Order). s ++ o ∷ []) e ∙ ap (λ (x : Order). drawn_orders shards (length given) g ++ x ∷ []) same)

pub stands_first : (n : ℕ) (given : List Order) (rng : Lcg) → given ≡ [] → rng ≡ generator_of n → rng ≡ after_batches (length given) (generator_of n)
unfolding after_batches
stands_first n given rng e f = rw e f

pub gave_first : (shards n : ℕ) (given : List Order) → given ≡ [] → given ≡ drawn_orders shards (length given) (generator_of n)
unfolding drawn_orders
gave_first shards n given e = rw e refl

-- the generator once it gave two words
moved : (rng copy one two : Lcg) (x y : ℕ) → copy ≡ rng → (x, one) ≡ pcg32 copy → (y, two) ≡ pcg32 one → two ≡ after_batch rng
moved rng copy one two x y e first second =
    ap (λ (p : ℕ × Lcg). p.1) second
    ∙ ap (λ (g : Lcg). (pcg32 g).1) (ap (λ (p : ℕ × Lcg). p.1) first ∙ ap (λ (g : Lcg). (pcg32 g).1) e)

pub stands_next : (given after : List Order) (o : Order) (rng copy one two g : Lcg) (x y : ℕ) → copy ≡ rng → (x, one) ≡ pcg32 copy → (y, two) ≡ pcg32 one
    → after ≡ given ++ o ∷ [] → rng ≡ after_batches (length given) g → two ≡ after_batches (length after) g
stands_next given after o rng copy one two g x y e first second grows stands =
    rw grows (moved rng copy one two x y e first second ∙ stands_after given o rng g stands)

-- the batch of two words
drew : (shards : ℕ) (rng copy one two : Lcg) (x y : ℕ) (b : List Mutation) → copy ≡ rng → (x, one) ≡ pcg32 copy → (y, two) ≡ pcg32 one
    → b ≡ mutation_of shards x y ∷ [] → b ≡ batch_of shards rng
drew shards rng copy one two x y b e first second made =
    let step : one ≡ (pcg32 rng).1 = ap (λ (p : ℕ × Lcg). p.1) first ∙ ap (λ (g : Lcg). (pcg32 g).1) e in
    let word : x ≡ (pcg32 rng).0 = ap (λ (p : ℕ × Lcg). p.0) first ∙ ap (λ (g : Lcg). (pcg32 g).0) e in
    let operand : y ≡ (pcg32 (pcg32 rng).1).0 = ap (λ (p : ℕ × Lcg). p.0) second ∙ ap (λ (g : Lcg). (pcg32 g).0) step in
    made ∙ ap (λ (w : ℕ). mutation_of shards w y ∷ []) word ∙ ap (λ (w : ℕ). mutation_of shards (pcg32 rng).0 w ∷ []) operand

pub gave_next : (shards s : ℕ) (b : List Mutation) (given after : List Order) (rng copy one two g : Lcg) (x y : ℕ)
    → copy ≡ rng → (x, one) ≡ pcg32 copy → (y, two) ≡ pcg32 one → s ≡ 1 → b ≡ mutation_of shards x y ∷ []
    → after ≡ given ++ record { step = s; batch = b } ∷ [] → rng ≡ after_batches (length given) g
    → given ≡ drawn_orders shards (length given) g → after ≡ drawn_orders shards (length after) g
gave_next shards s b given after rng copy one two g x y e first second is_one made grows stands gave =
    let o : Order = record { step = s; batch = b } in
    let same : o ≡ record { step = 1; batch = batch_of shards rng } =
    ap (λ (n : ℕ). record { step = n; batch = b }) is_one
    ∙ ap (λ (ms : List Mutation). record { step = 1; batch = ms }) (drew shards rng copy one two x y b e first second made) in
    rw grows (gave_after shards given o rng g gave stands same)

two : {A : Type 0} {a b c d : ℕ} (f : ℕ → ℕ → A) → a ≡ b → c ≡ d → f a c ≡ f b d
two f e k = cc

-- a generator whose fields are those of another one is the same
pub cloned : {a b c d : ℕ} {rng copy : Lcg} → record { state = a; increment = c } ≡ rng → record { state = b; increment = d } ≡ copy → b ≡ a → d ≡ c → copy ≡ rng
cloned of_rng of_copy state increment =
    let lcg : ℕ → ℕ → Lcg = λ s i. record { state = s; increment = i } in
    sym of_copy ∙ two lcg state increment ∙ of_rng
