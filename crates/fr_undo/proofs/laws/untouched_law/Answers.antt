use Rattle.std.proofs.Common.{◌≡◌, ℕ, Bool, true, false, ◌||◌, List, [], ◌∷◌, Option, refl, ap, ◌∙◌}
use Rattle.std.specs.Prelude.{cond}
use Rattle.fr_mutation.specs.declared.mutation.Mutation.{Mutation}
use Rattle.fr_mutation.specs.Mutation.{touches, touched, new_value, value_after_all}
use Rattle.fr_undo.proofs.laws.untouched_law.Goals as goal

neither : (a b : Bool) → (a || b) ≡ false → (a ≡ false) × (b ≡ false)
neither true b e = cc
neither false b e = (refl, e)

untouched : (batch : List Mutation) (q : List ℕ) (old : Option (List ℕ)) → touched batch q ≡ false → value_after_all batch q old ≡ old
untouched [] q old e = refl
untouched (m ∷ ms) q old e =
    let p = neither (touches m q) (touched ms q) e in
    ap (λ b. value_after_all ms q (cond b (new_value m old) old)) p.0
    ∙ untouched ms q old p.1

pub returns : goal.returns
returns c = untouched
