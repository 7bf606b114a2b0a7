-- Loops that put items behind others.
use Rattle.std.proofs.Common.{sym, ap, ◌∙◌}
use Rattle.std.proofs.lemmas.List.{append-nil, append_assoc}
use Rattle.std.specs.Prelude.{◌≡◌, ◌++◌, ◌∷◌, List, []}

-- what is put, and what comes of those that are left, are what came of them before
pub put-more : {A B : Type 0} (f : List A → List B) (zs more y total : List B) (x : A) (xs rest : List A)
    → more ≡ zs ++ y → xs ≡ x ∷ rest → f (x ∷ rest) ≡ y ++ f rest → zs ++ f xs ≡ total → more ++ f rest ≡ total
put-more f zs more y total x xs rest put next step inv =
    ap (λ (l : List _). l ++ f rest) put
    ∙ (append_assoc zs y (f rest)
    ∙ (ap (λ (l : List _). zs ++ l) (sym step)
    ∙ (ap (λ (l : List _). zs ++ f l) (sym next) ∙ inv)))

-- where none is left
pub put-all : {A B : Type 0} (f : List A → List B) (zs total : List B) (xs : List A) → xs ≡ [] → f [] ≡ [] → zs ++ f xs ≡ total → zs ≡ total
put-all f zs total xs none nothing inv =
    sym (append-nil zs) ∙ (ap (λ (l : List _). zs ++ l) (sym nothing) ∙ (ap (λ (l : List _). zs ++ f l) (sym none) ∙ inv))
