-- What is done of each job, where calls say more of it than is asked.
use Rattle.std.specs.Prelude.{List, [], ◌∷◌, Result, Ok, Err, IfOk}
use Rattle.std.specs.Global.{Vec}
use Rattle.fr_runtime.specs.Sworn.{AllDone}

pub done-so : {J D : Type 0} (P Q : J → D → Type 0) (js : List J) (ds : List D) → ((j : J) (d : D) → P j d → Q j d) → AllDone P js ds → AllDone Q js ds
done-so P Q [] [] so done = tt
done-so P Q [] (d ∷ ds) so done = absurd cc
done-so P Q (j ∷ js) [] so done = absurd cc
done-so P Q (j ∷ js) (d ∷ ds) so done = (so j d done.0, done-so P Q js ds so done.1)

pub each-so : {J D E : Type 0} (P Q : J → D → Type 0) (js : List J) (result : Result (Vec D) E) → ((j : J) (d : D) → P j d → Q j d)
    → IfOk result (λ all. AllDone P js all.items) → IfOk result (λ all. AllDone Q js all.items)
each-so P Q js (Ok all) so done = done-so P Q js all.items so done
each-so P Q js (Err fault) so done = tt
