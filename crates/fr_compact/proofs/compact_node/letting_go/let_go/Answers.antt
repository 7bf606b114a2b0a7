use Rattle.std.proofs.Common.{◌≡◌, ◌⊎◌, inl, inr, Err, List, ℕ, ap, ◌∙◌, subst}
use Rattle.fr_record.specs.declared.fault.RecordFault.TheVariants as record_fault
use Rattle.fr_segment.specs.Group.{records_of}
use Rattle.fr_compact.proofs.NodeLemmas.{left_kept, left_refused}
use Rattle.fr_compact.proofs.compact_node.letting_go.let_go.Goals as goal

pub returns-in_default-clause-leaves : goal.returns-in_default-clause-leaves
returns-in_default-clause-leaves g c works =
    left_kept g.F.GroupFile.records g.F.GroupFile.owed g.F.GroupFile.Throughout g.F.GroupFile.weaker c.args.file.now (c.is_failed.ensures.kept works)

pub returns-in_default-clause-any_moment : goal.returns-in_default-clause-any_moment
returns-in_default-clause-any_moment g c works =
    g.F.GroupFile.weaker (λ rs. rs ≡ g.F.GroupFile.records c.args.file.now) (λ rs. (rs ≡ g.F.GroupFile.records c.args.file.now) ⊎ (rs ≡ g.M.Compact.spelled c.args.machine.now)) c.args.file.now c.args.file.now (λ rs is. inl is) (c.is_failed.ensures.kept works)

pub returns-in-Ok-replace-clause-leaves : goal.returns-in-Ok-replace-clause-leaves
returns-in-Ok-replace-clause-leaves g c works =
    left_kept g.F.GroupFile.records g.F.GroupFile.owed g.F.GroupFile.Throughout g.F.GroupFile.weaker c.replace.new.self c.in-Ok-replace.ensures.kept

pub returns-in-Ok-replace-clause-any_moment : goal.returns-in-Ok-replace-clause-any_moment
returns-in-Ok-replace-clause-any_moment g c works =
    let is : records_of c.as_slice.result.now ≡ g.M.Compact.spelled c.args.machine.now = ap records_of c.as_slice.ensures.value ∙ c.in-Ok.ensures.records in
    subst (λ (l : List (List ℕ)). g.F.GroupFile.Throughout (λ rs. (rs ≡ g.F.GroupFile.records c.args.file.now) ⊎ (rs ≡ l)) c.args.file.now c.replace.new.self) is (c.replace.ensures.any_moment works)

pub returns-clause-leaves : goal.returns-clause-leaves
returns-clause-leaves g c works =
    let failed : c.replace.result ≡ Err record_fault.Failed → ⊥ = λ e. let fails = c.replace.ensures.failed.0 e in cc (fails, works) in
    left_refused g.F.GroupFile.records g.F.GroupFile.owed g.F.GroupFile.Throughout g.F.GroupFile.weaker g.F.GroupFile.ends c.args.file.now c.replace.new.self c.in-Err.ensures.err c.in-Err.fault
    (λ e. failed (c.in-Err.is ∙ ap (λ f. Err f) e)) (λ e. c.replace.ensures.never_broken (c.in-Err.is ∙ ap (λ f. Err f) e))
    (left_kept g.F.GroupFile.records g.F.GroupFile.owed g.F.GroupFile.Throughout g.F.GroupFile.weaker c.args.file.now (c.is_failed.ensures.kept works))
    (λ e. c.replace.ensures.untouched (elim e [ inl x ↦ inl (c.in-Err.is ∙ ap (λ f. Err f) x) | inr x ↦ inr (c.in-Err.is ∙ ap (λ f. Err f) x) ]))
    (records_of c.as_slice.result.now) (λ e. c.replace.ensures.owes (c.in-Err.is ∙ ap (λ f. Err f) e)) (c.replace.ensures.any_moment works)

pub returns-clause-any_moment : goal.returns-clause-any_moment
returns-clause-any_moment g c works =
    let is : records_of c.as_slice.result.now ≡ g.M.Compact.spelled c.args.machine.now = ap records_of c.as_slice.ensures.value ∙ c.in-Ok.ensures.records in
    subst (λ (l : List (List ℕ)). g.F.GroupFile.Throughout (λ rs. (rs ≡ g.F.GroupFile.records c.args.file.now) ⊎ (rs ≡ l)) c.args.file.now c.replace.new.self) is (c.replace.ensures.any_moment works)
