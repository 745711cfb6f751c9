-- `add_link`: a refusal, or the new link worked out. Assumes nothing.
use mathlib.Core.Path.{refl}
use mathlib.Core.Bool.{true, false}
use native.Mathlib.Omega.{arith}
use borrow.Author.Rules.{rules}
use Rattle.refusal.proofs.Answers.{passed as allowed}
use Rattle.full_working.proofs.Exits.{overflown}
use Rattle.full_working.proofs.Refused.{refused_exit}
use Rattle.addition.specs.Addition.{link_added}
use Rattle.addition.proofs.Placed.{few, start_fits, parent_small, added_on, added_off}
use Rattle.addition.proofs.Tests.{passed, small}
use Rattle.addition.proofs.add_link.Goals as goal

pub returns-in_err-add_refusal : goal.returns-in_err-add_refusal
unfolding link_added
returns-in_err-add_refusal c = refused_exit c.add_refusal.ensures _ _ c.in_err-add_refusal.was _ c.from_residual.ensures.1 _

pub link_of-link-requires : goal.link_of-link-requires
link_of-link-requires c =
    let own = c.args in
    small own.arm.now own.tables.now own.new (passed own.arm.now own.tables.now own.new (allowed c.in_ok-add_refusal.was c.add_refusal.ensures))

pub bounds-arm-from : goal.bounds-arm-from
bounds-arm-from c =
    let own = c.args in
    let none = allowed c.in_ok-add_refusal.was c.add_refusal.ensures in
    omega (arith, few own.arm.now (search rules) own.tables.now own.new none, parent_small own.arm.now (search rules) own.tables.now own.new none _ c.link_of-link.ensures, c.from.ensures)

pub returns-in_err-refresh_one : goal.returns-in_err-refresh_one
returns-in_err-refresh_one c =
    let own = c.args in
    added_off own.arm.now (search rules) own.tables.now own.new (allowed c.in_ok-add_refusal.was c.add_refusal.ensures) _ c.link_of-link.ensures _ c.from.ensures
    _ c.dof_count-start.ensures _ _ _ false c.in_err-refresh_one.ensures.answer refl
    (overflown c.in_err-refresh_one.ensures.refusal _ c.from_residual-in_err-refresh_one.ensures.1)

pub overflow_cast-new : goal.overflow_cast-new
overflow_cast-new c =
    let own = c.args in
    omega (arith, (small own.arm.now own.tables.now own.new (passed own.arm.now own.tables.now own.new (allowed c.in_ok-add_refusal.was c.add_refusal.ensures))).locked)

pub set_new_entries-requires : goal.set_new_entries-requires
set_new_entries-requires c =
    let own = c.args in
    let none = allowed c.in_ok-add_refusal.was c.add_refusal.ensures in (
      (small own.arm.now own.tables.now own.new (passed own.arm.now own.tables.now own.new none)).locked,
      omega (arith, start_fits own.arm.now (search rules) own.tables.now own.new none, c.dof_count-start.ensures),
    )

pub offset_bounds-arm-n : goal.offset_bounds-arm-n
offset_bounds-arm-n c = omega (arith, few c.args.arm.now (search rules) c.args.tables.now c.args.new (allowed c.in_ok-add_refusal.was c.add_refusal.ensures))

pub bounds-arm-n : goal.bounds-arm-n
bounds-arm-n c = omega (arith, few c.args.arm.now (search rules) c.args.tables.now c.args.new (allowed c.in_ok-add_refusal.was c.add_refusal.ensures))

pub overflow_add-arm : goal.overflow_add-arm
overflow_add-arm c = omega (arith, few c.args.arm.now (search rules) c.args.tables.now c.args.new (allowed c.in_ok-add_refusal.was c.add_refusal.ensures))

pub returns : goal.returns
returns c =
    let own = c.args in
    added_on own.arm.now (search rules) own.tables.now own.new (allowed c.in_ok-add_refusal.was c.add_refusal.ensures) _ c.link_of-link.ensures _ c.from.ensures
    _ c.dof_count-start.ensures _ _ _ true c.in_ok-refresh_one.ensures.answer refl _ c.set_new_entries.ensures
