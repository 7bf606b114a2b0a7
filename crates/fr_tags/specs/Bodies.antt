-- What a batch is for one shard.
use Rattle.std.specs.Prelude.{◌≡◌, ℕ, ◌+◌, Bool, true, nat_lt, nat_le, ◌==◌, ◌&&◌, List, [], ◌∷◌, length, Option, None, Some, if◌then◌else◌, refl}
use Rattle.std.proofs.Common.{ap₂}
use Rattle.std.proofs.lemmas.Bool.{and_parts, eq-eqb, eqb-true}
use Rattle.fr_mutation.specs.declared.mutation.Mutation.{Mutation}
use Rattle.fr_base.specs.Same.{IsSameness}
use Rattle.fr_mutation.specs.Equal.{is_same_batch, is_same_batch-IsSameness}
use Rattle.fr_tags.specs.declared.body.Body.{Body}

-- the batch of a tag among bodies, if the tag has one
abbrev pub batch_of : ℕ → List Body → Option (List Mutation)
batch_of tag [] = None
batch_of tag (b ∷ bs) = if b.tag == tag then Some b.batch else batch_of tag bs

-- whether the tags of bodies rise strictly, and none is below this one
abbrev pub is_rising_from : ℕ → List Body → Bool
is_rising_from tag [] = true
is_rising_from tag (b ∷ bs) = nat_le tag b.tag && is_rising_from (b.tag + 1) bs

abbrev pub is_filled : List Mutation → Bool
is_filled batch = nat_lt 0 (length batch)

-- a batch, unless it is empty
abbrev pub filled : List Mutation → Option (List Mutation)
filled batch = if is_filled batch then Some batch else None

-- whether two bodies are the same
abbrev pub is_same_body : Body → Body → Bool
is_same_body a b = (a.tag == b.tag) && is_same_batch a.batch b.batch

pub is_same_body-IsSameness : IsSameness is_same_body
is_same_body-IsSameness = record { itself = itself; same = same }
  where
    itself : (a : Body) → is_same_body a a ≡ true
    itself a = rw (eq-eqb a.tag a.tag refl) (is_same_batch-IsSameness.itself a.batch)

    same : (a b : Body) → is_same_body a b ≡ true → a ≡ b
    same a b e =
        let p = and_parts (a.tag == b.tag) (is_same_batch a.batch b.batch) e in
        ap₂ (λ tag batch. record { tag = tag; batch = batch }) (eqb-true a.tag b.tag p.0) (is_same_batch-IsSameness.same a.batch b.batch p.1)
