-- `sum_up`: the local wj is the definition's; each way out is its case of the refusals after the tests.
use mathlib.Core.Path.{◌∙◌, ap, ap₂, sym, refl}
use mathlib.Core.Bool.{Bool, ◌&&◌}
use mathlib.Core.List.{List}
use lib.ListN.{length, take}
use lib.Ieee.{Float}
use Rattle.refusal.specs.Refusal.{unless_of}
use Rattle.floats.specs.Floats.{all_finite}
use Rattle.unit_multibody_joint.proofs.Answers.{some, exit_is, ready, in_trouble, not_finite, all_made}
use Rattle.fill_jacobians.specs.declared.Sums.{Sums}
use Rattle.fill_jacobians.specs.Sums.{sums_of, sums_as, refused_sums, finite_sums, sums_answer}
use Rattle.fill_jacobians.proofs.Rows.{sums_front}
use borrow.Author.Rules.{rules}
use Rattle.fill_jacobians.proofs.sum_up.Goals as goal

-- the sums that are made of WJ, and their test
abbrev made : List Float → List Float → List Float → Sums
made row velocities w = sums_of row w velocities

abbrev fine : List Float → Sums → Bool
fine row x = all_finite row && finite_sums x

pub returns-in_err-solved-clause-answer : goal.returns-in_err-solved-clause-answer
unfolding sums_answer
returns-in_err-solved-clause-answer c =
    let row = c.args.row.now in
    let l = c.args.lent.now in
    let was = c.in_err-solved.was in
    let e = c.solve.ensures.refusal in
    let on = ready row l.mass.now c.requires.0 c.requires.1 in
    in_trouble refused_sums (fine row) (made row (take (length row) c.args.velocities.now)) on l.j.now l.wj.now _ refl
    (some sums_as refused_sums (λ e. refl) was e) _ (exit_is sums_as refused_sums (λ e. refl) was e _ c.from_residual.ensures.1)

pub returns-in_err-unless-clause-answer : goal.returns-in_err-unless-clause-answer
unfolding sums_answer
returns-in_err-unless-clause-answer c =
    let row = c.args.row.now in
    let l = c.args.lent.now in
    let was = c.in_err-unless.was in
    let e = c.unless.ensures in
    let on = ready row l.mass.now c.requires.0 c.requires.1 in
    not_finite refused_sums (fine row) (made row (take (length row) c.args.velocities.now)) on l.j.now l.wj.now c.in_ok-solved.solved c.in_ok-solved.ensures.solved (search rules) _
    (c.of-made.ensures ∙ sums_front row _ _) _ (ap (λ (b : Bool). unless_of b 12) (sym (ap₂ ◌&&◌ c.all_finite.ensures c.is_finite.ensures)))
    (some sums_as refused_sums (λ e. refl) was e) _ (exit_is sums_as refused_sums (λ e. refl) was e _ c.from_residual-in_err-unless.ensures.1)

pub returns-clause-answer : goal.returns-clause-answer
unfolding sums_answer
returns-clause-answer c =
    let row = c.args.row.now in
    let l = c.args.lent.now in
    let on = ready row l.mass.now c.requires.0 c.requires.1 in
    all_made refused_sums (fine row) (made row (take (length row) c.args.velocities.now)) on l.j.now l.wj.now c.in_ok-solved.solved c.in_ok-solved.ensures.solved (search rules) _
    (c.of-made.ensures ∙ sums_front row _ _) (sym (c.in_ok-unless.ensures ∙ ap (λ (b : Bool). unless_of b 12) (ap₂ ◌&&◌ c.all_finite.ensures c.is_finite.ensures)))
    c.requires.2 c.requires.3 c.lay.new.self.j.now c.lay.new.self.wj.now c.lay.ensures.j c.lay.ensures.wj
