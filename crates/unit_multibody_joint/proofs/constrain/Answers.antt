-- `constrain`: the local WJ is the definition's; each way out is its case of the refusals after the tests.
use Prim.Native.Nat.{ℕ, ◌<◌}
use mathlib.Core.Path.{◌≡◌, ◌∙◌, ap, sym, refl}
use mathlib.Core.List.{List}
use lib.ListN.{length, take, get_or}
use lib.Ieee.{Float, nan}
use lib.Seq.{get_or-take}
use mathlib.Core.Bool.{Bool}
use Rattle.refusal.specs.Refusal.{unless_of}
use Rattle.unit_multibody_joint.specs.declared.ConstraintRow.{ConstraintRow}
use Rattle.unit_multibody_joint.specs.declared.Bounds.{Bounds}
use Rattle.unit_multibody_joint.specs.Rows.{row_of, row_as, refused_row, finite_row, row_answer, lhs_at}
use Rattle.unit_multibody_joint.proofs.Answers.{some, exit_is, ready, in_trouble, not_finite, all_made}
use borrow.Author.Rules.{rules}
use Rattle.unit_multibody_joint.proofs.constrain.Goals as goal

-- the row that is made of WJ
abbrev made : Bounds → Float → ℕ → List Float → ConstraintRow
made b cfm at w = row_of b cfm (lhs_at at w)

read : (b : Bounds) (cfm : Float) (at n : ℕ) (z : List Float) → at < n → row_of b cfm (get_or z at nan) ≡ made b cfm at (take n z)
unfolding lhs_at
read b cfm at n z h = ap (row_of b cfm) (sym (get_or-take n z at nan h))

pub returns-in_err-solved-clause-answer : goal.returns-in_err-solved-clause-answer
unfolding row_answer
returns-in_err-solved-clause-answer c =
    let l = c.args.lent.now in
    let w = c.args.wanted in
    let was = c.in_err-solved.was in
    let e = c.solve.ensures.refusal in
    let on = ready c.args.row.now l.mass.now c.requires.0 c.requires.2 in
    in_trouble refused_row finite_row (made w.bounds w.cfm_coeff c.args.at) on l.j.now l.wj.now _ refl
    (some row_as refused_row (λ e. refl) was e) _ (exit_is row_as refused_row (λ e. refl) was e _ c.from_residual.ensures.1)

pub returns-in_err-unless-clause-answer : goal.returns-in_err-unless-clause-answer
unfolding row_answer
returns-in_err-unless-clause-answer c =
    let l = c.args.lent.now in
    let w = c.args.wanted in
    let z = c.in_ok-solved.solved in
    let was = c.in_err-unless.was in
    let e = c.unless.ensures in
    let on = ready c.args.row.now l.mass.now c.requires.0 c.requires.2 in
    not_finite refused_row finite_row (made w.bounds w.cfm_coeff c.args.at) on l.j.now l.wj.now z c.in_ok-solved.ensures.solved (search rules) _
    (c.of-made.ensures ∙ read w.bounds w.cfm_coeff c.args.at (length c.args.row.now) z c.requires.1) _ (sym (ap (λ (b : Bool). unless_of b 12) c.is_finite.ensures))
    (some row_as refused_row (λ e. refl) was e) _ (exit_is row_as refused_row (λ e. refl) was e _ c.from_residual-in_err-unless.ensures.1)

pub returns-clause-answer : goal.returns-clause-answer
unfolding row_answer
returns-clause-answer c =
    let l = c.args.lent.now in
    let w = c.args.wanted in
    let z = c.in_ok-solved.solved in
    let on = ready c.args.row.now l.mass.now c.requires.0 c.requires.2 in
    all_made refused_row finite_row (made w.bounds w.cfm_coeff c.args.at) on l.j.now l.wj.now z c.in_ok-solved.ensures.solved (search rules) _
    (c.of-made.ensures ∙ read w.bounds w.cfm_coeff c.args.at (length c.args.row.now) z c.requires.1)
    (sym (c.in_ok-unless.ensures ∙ ap (λ (b : Bool). unless_of b 12) c.is_finite.ensures))
    c.requires.3 c.requires.4 c.lay.new.self.j.now c.lay.new.self.wj.now c.lay.ensures.j c.lay.ensures.wj
