-- What a workload of numbered batches gave once it gives one more.
use Rattle.std.proofs.Common.{◌≡◌, ◌+◌, ℕ, zero, List, [], ◌∷◌, ◌++◌, ap, ◌∙◌}
use Rattle.std.proofs.Math.Numerals.{add-one}
use Rattle.fr_mutation.specs.declared.mutation.Mutation.{Mutation}
use Rattle.fr_runtime_threads.specs.declared.order.Order.{Order}
use Rattle.fr_runtime.specs.Orders.{order_of, orders_of}

pub gave-first : (number shards : ℕ) (given : List Order) → given ≡ [] → given ≡ orders_of number shards zero
unfolding orders_of
gave-first number shards given e = e

pub gave-next : (number shards k s : ℕ) (b : List Mutation) (given after : List Order) → given ≡ orders_of number shards k → s ≡ 1
    → b ≡ (order_of number shards k).batch → after ≡ given ++ record { step = s; batch = b } ∷ [] → after ≡ orders_of number shards (k + 1)
unfolding orders_of
gave-next number shards k s b given after gave is-one made grows =
    let o : Order = record { step = s; batch = b } in
    let same : o ≡ order_of number shards k =
    ap (λ (n : ℕ). record { step = n; batch = b }) is-one ∙ ap (λ (ms : List Mutation). record { step = 1; batch = ms }) made in
    rw (add-one k) (grows ∙ ap (λ (before : List Order). before ++ o ∷ []) gave ∙ ap (λ (x : Order). orders_of number shards k ++ x ∷ []) same)
