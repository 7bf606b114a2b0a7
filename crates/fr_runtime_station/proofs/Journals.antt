-- Journals of nodes that answer asks.
use Rattle.std.proofs.Common.{ℕ, suc, ◌≡◌, ◌+◌, ◌++◌, ◌∷◌, [], List, ◌&&◌, Bool, true, false, refl, arith}
use Rattle.fr_audit_journal.specs.Journal.{JournalState}
use Rattle.fr_runtime_station.specs.Answering.{all_answer, answers}

and-true : (a b : Bool) → a ≡ true → b ≡ true → (a && b) ≡ true
and-true true true one other = refl
and-true true false one other = other
and-true false b one other = one

and-left : (a b : Bool) → (a && b) ≡ true → a ≡ true
and-left true b both = refl
and-left false b both = both

and-right : (a b : Bool) → (a && b) ≡ true → b ≡ true
and-right true b both = both
and-right false true both = refl
and-right false false both = both

-- a journal more, of a node that answers asks
pub answer-more : (js : List JournalState) (j : JournalState) → all_answer js ≡ true → answers j.node ≡ true → all_answer (js ++ j ∷ []) ≡ true
answer-more [] j all here = and-true (answers j.node) true here refl
answer-more (k ∷ ks) j all here =
    and-true (answers k.node) (all_answer (ks ++ j ∷ [])) (and-left (answers k.node) (all_answer ks) all) (answer-more ks j (and-right (answers k.node) (all_answer ks) all) here)

-- one of those that are left is one more
pub each-more : (old new rest next all : ℕ) → rest ≡ suc next → new ≡ old + 1 → old + rest ≡ all → new + next ≡ all
each-more old new rest next all one more before = grind (arith)
