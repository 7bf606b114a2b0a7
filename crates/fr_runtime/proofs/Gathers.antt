-- Loops that put items behind others.
use Rattle.std.proofs.Common.{refl, sym, ap, ◌∙◌}
use Rattle.std.proofs.lemmas.List.{append-nil, append_assoc, take_more}
use Rattle.std.specs.Prelude.{◌≡◌, ◌<◌, ◌+◌, ◌++◌, ◌∷◌, ℕ, List, [], Option, get_or, length, take}
use Rattle.fr_base.specs.Shape.{ShapeContent}
use Rattle.fr_runtime.specs.declared.job.Job.{Job}
use Rattle.fr_runtime.specs.declared.job.Job.TheVariants.{Serve, Recover}
use Rattle.fr_runtime.specs.Job.{recover_jobs, serve_jobs}

-- what is put, and what comes of those that are left, are what came of them before
pub put-more : {A B : Type 0} (f g : List A → List B) (zs more y total : List B) (x : A) (xs rest : List A)
    → more ≡ zs ++ y → xs ≡ x ∷ rest → f (x ∷ rest) ≡ y ++ g rest → zs ++ f xs ≡ total → more ++ g rest ≡ total
put-more f g zs more y total x xs rest put next step inv =
    ap (λ (l : List _). l ++ g rest) put
    ∙ (append_assoc zs y (g rest)
    ∙ (ap (λ (l : List _). zs ++ l) (sym step)
    ∙ (ap (λ (l : List _). zs ++ f l) (sym next) ∙ inv)))

-- where none is left
pub put-all : {A B : Type 0} (f : List A → List B) (zs total : List B) (xs : List A) → xs ≡ [] → f [] ≡ [] → zs ++ f xs ≡ total → zs ≡ total
put-all f zs total xs none nothing inv =
    sym (append-nil zs) ∙ (ap (λ (l : List _). zs ++ l) (sym nothing) ∙ (ap (λ (l : List _). zs ++ f l) (sym none) ∙ inv))

-- a ballot and the shape that its recoverer is given
abbrev Given : Type 0
Given = ℕ × Option ShapeContent

-- the number of the next
pub serve-step : {W T : Type 0} (n m : ℕ) (w : W) (ws : List W) → m ≡ n + 1 → serve_jobs {W = W} {T = T} n (w ∷ ws) ≡ (Serve n w ∷ []) ++ serve_jobs m ws
serve-step {W} {T} n m w ws next = ap (λ (k : ℕ). Serve n w ∷ serve_jobs {W = W} {T = T} k ws) (sym next)

recover-append : {W T : Type 0} (xs : List Given) (b : Given) → recover_jobs {W = W} {T = T} (xs ++ b ∷ []) ≡ recover_jobs xs ++ Recover b.0 b.1 ∷ []
recover-append [] b = refl
recover-append {W} {T} (x ∷ xs) b = ap (λ (l : List (Job W T)). Recover x.0 x.1 ∷ l) (recover-append xs b)

-- one ballot more
pub recover-more : {W T : Type 0} (bs : List Given) (i : ℕ) (b : Given) (zs more total : List (Job W T)) → i < length bs → b ≡ get_or bs i b
    → more ≡ zs ++ Recover b.0 b.1 ∷ [] → zs ≡ total ++ recover_jobs (take i bs) → more ≡ total ++ recover_jobs (take (i + 1) bs)
recover-more {W} {T} bs i b zs more total low is put inv =
    put
    ∙ (ap (λ (l : List (Job W T)). l ++ Recover b.0 b.1 ∷ []) inv
    ∙ (append_assoc total (recover_jobs (take i bs)) (Recover b.0 b.1 ∷ [])
    ∙ ap (λ (l : List (Job W T)). total ++ l) (sym (ap recover_jobs (take_more bs i b low ∙ ap (λ (c : Given). take i bs ++ c ∷ []) (sym is)) ∙ recover-append (take i bs) b))))
