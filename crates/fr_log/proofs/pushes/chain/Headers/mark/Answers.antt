use Rattle.std.proofs.Common.{sym, ◌∙◌, ap}
use Rattle.std.specs.List.{slice_get}
use Rattle.std.specs.Option.{option_copied}
use Rattle.fr_log.specs.Headers.{first_mark}
use Rattle.fr_log.proofs.Chaining.{mark_first, mark_none}
use Rattle.fr_log.proofs.pushes.chain.Headers.mark.Goals as goal

pub returns-in-Some : goal.returns-in-Some
returns-in-Some c =
    c.mark.ensures
    ∙ mark_first c.self.inside.runs.items c.in-Some.run'.now c.self.invariant.0 (sym (ap option_copied c.in-Some.is) ∙ c.first.ensures.value ∙ ap (λ rs. slice_get rs 0) c.deref.ensures.value)
    ∙ ap first_mark c.self.view_is

pub returns-in-None : goal.returns-in-None
returns-in-None c =
    mark_none c.self.inside.runs.items (sym (ap option_copied c.in-None.is) ∙ c.first.ensures.value ∙ ap (λ rs. slice_get rs 0) c.deref.ensures.value)
    ∙ ap first_mark c.self.view_is
