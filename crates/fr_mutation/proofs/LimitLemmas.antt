-- Mutations within the limits of a batch.
use Rattle.std.proofs.Common.{◌≡◌, ℕ, zero, suc, ◌<◌, Bool, true, false, cond, List, [], ◌∷◌, Option, None, Some, refl, ap, ◌∙◌, length, get_or, arith}
use Rattle.std.specs.Option.{option_or}
use Rattle.fr_mutation.specs.declared.mutation.Mutation.{Mutation}
use Rattle.fr_mutation.specs.declared.fault.BatchFault.TheVariants.{TooMany}
use Rattle.fr_mutation.specs.Limits.{mutation_fault, first_fault, batch_fault}

pub cond_none : {X : Type 0} (b : Bool) (x : X) (o : Option X) → cond b (Some x) o ≡ None → (b ≡ false) × (o ≡ None)
cond_none true x o e = cc
cond_none false x o e = (refl, e)

pub option_or_none : {X : Type 0} (o p : Option X) → option_or o p ≡ None → (o ≡ None) × (p ≡ None)
option_or_none None p e = (refl, e)
option_or_none (Some x) p e = cc

item_within : (mutations : List Mutation) (i : ℕ) (default : Mutation) → first_fault mutations ≡ None → i < length mutations → mutation_fault (get_or mutations i default) ≡ None
item_within [] i default e h = absurd (omega arith)
item_within (mutation ∷ mutations) zero default e h = (option_or_none (mutation_fault mutation) (first_fault mutations) e).0
item_within (mutation ∷ mutations) (suc i) default e h = item_within mutations i default (option_or_none (mutation_fault mutation) (first_fault mutations) e).1 (omega arith)

-- each mutation of a batch is within the limits
pub mutation_within : (mutations : List Mutation) (i : ℕ) (mutation : Mutation) → batch_fault mutations ≡ None → i < length mutations → mutation ≡ get_or mutations i mutation → mutation_fault mutation ≡ None
mutation_within mutations i mutation e h is = ap mutation_fault is ∙ item_within mutations i mutation (cond_none _ TooMany (first_fault mutations) e).1 h
