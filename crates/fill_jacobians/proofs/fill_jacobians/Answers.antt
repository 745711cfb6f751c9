-- `fill_jacobians`: a refusal ends it.
use Rattle.std.proofs.Common.{refl}
use Rattle.unit_multibody_joint.proofs.Answers.{some, exit_is, refused_first}
use Rattle.fill_jacobians.specs.Sums.{sums_as, refused_sums, sums_answer}
use Rattle.fill_jacobians.specs.Fill.{fill_answer}
use Rattle.fill_jacobians.proofs.fill_jacobians.Goals as goal

pub returns-in_err-fill_refusal : goal.returns-in_err-fill_refusal
unfolding fill_answer sums_answer
returns-in_err-fill_refusal c =
    let was = c.in_err-fill_refusal.was in
    let e = c.fill_refusal.ensures in
    refused_first _ _ _ _ _ _ _ _ _ (some sums_as refused_sums (λ e. refl) was e) _ (exit_is sums_as refused_sums (λ e. refl) was e _ c.from_residual.ensures.1)
