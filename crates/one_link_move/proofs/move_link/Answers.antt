-- `move_link`: a refusal, or the link worked out alone or with those below it. Assumes nothing.
use mathlib.Core.Path.{◌∙◌, refl, sym}
use mathlib.Core.Bool.{true, false}
use native.Mathlib.Omega.{arith}
use borrow.Author.Rules.{rules}
use lib.Seq.{length-take-le}
use Rattle.refusal.proofs.Answers.{passed}
use Rattle.full_working.proofs.Exits.{overflown}
use Rattle.full_working.proofs.Refused.{refused_exit}
use Rattle.one_link_move.specs.Move.{link_moved}
use Rattle.one_link_move.proofs.Move.{within_limit, parent_small}
use Rattle.one_link_move.proofs.Moved.{fits, alone_on, alone_off, below-on, below-off}
use Rattle.one_link_move.proofs.move_link.Goals as goal

pub returns-in_err-move_refusal : goal.returns-in_err-move_refusal
unfolding link_moved
returns-in_err-move_refusal c = refused_exit c.move_refusal.ensures _ _ c.in_err-move_refusal.was _ c.from_residual.ensures.1 _

pub bounds-arm-at : goal.bounds-arm-at
bounds-arm-at c = within_limit c.args.arm.now c.args.tables.now c.args.link c.args.change (passed c.in_ok-move_refusal.was c.move_refusal.ensures)

pub bounds-arm-from : goal.bounds-arm-from
bounds-arm-from c =
    let none = passed c.in_ok-move_refusal.was c.move_refusal.ensures in
    omega (
      arith,
      within_limit c.args.arm.now c.args.tables.now c.args.link c.args.change none,
      parent_small c.args.arm.now c.args.tables.now c.args.link c.args.change none (search rules) _ _ c.applied-moved.ensures,
    )

pub returns-in_err-refresh_one : goal.returns-in_err-refresh_one
returns-in_err-refresh_one c =
    let own = c.args in
    let none = passed c.in_ok-move_refusal.was c.move_refusal.ensures in
    alone_off own.arm.now (search rules) own.tables.now own.link own.change none _ _ c.applied-moved.ensures
    _ c.live_links.ensures (sym c.is_leaf.ensures ∙ c.if-is_leaf.true) c.from.result c.from.ensures _ _ c.start_of-start.ensures
    _ _ false c.in_err-refresh_one.ensures.answer refl (overflown c.in_err-refresh_one.ensures.refusal _ c.from_residual-in_err-refresh_one.ensures.1)

pub bounds-arm-at-then-is_leaf : goal.bounds-arm-at-then-is_leaf
bounds-arm-at-then-is_leaf c = within_limit c.args.arm.now c.args.tables.now c.args.link c.args.change (passed c.in_ok-move_refusal.was c.move_refusal.ensures)

pub returns-then-is_leaf : goal.returns-then-is_leaf
returns-then-is_leaf c =
    let own = c.args in
    let none = passed c.in_ok-move_refusal.was c.move_refusal.ensures in
    alone_on own.arm.now (search rules) own.tables.now own.link own.change none _ _ c.applied-moved.ensures
    _ c.live_links.ensures (sym c.is_leaf.ensures ∙ c.if-is_leaf.true) c.from.result c.from.ensures _ _ c.start_of-start.ensures
    _ _ true c.in_ok-refresh_one.ensures.answer refl

pub slice_bounds-parents-end : goal.slice_bounds-parents-end
slice_bounds-parents-end c =
    let own = c.args in
    fits own.arm.now (search rules) own.tables.now own.link own.change (passed c.in_ok-move_refusal.was c.move_refusal.ensures) _ _ c.applied-moved.ensures
    _ c.parents-parents.ensures

pub slice_bounds-at_or_below-end : goal.slice_bounds-at_or_below-end
slice_bounds-at_or_below-end c =
    let own = c.args in
    let within = fits own.arm.now (search rules) own.tables.now own.link own.change (passed c.in_ok-move_refusal.was c.move_refusal.ensures) _ _ c.applied-moved.ensures
    _ c.parents-parents.ensures in
    sym (length-take-le own.arm.now.link_count c.parents-parents.result within)

pub bounds-links-at : goal.bounds-links-at
bounds-links-at c = within_limit c.args.arm.now c.args.tables.now c.args.link c.args.change (passed c.in_ok-move_refusal.was c.move_refusal.ensures)

pub returns-in_err-refresh_marked : goal.returns-in_err-refresh_marked
returns-in_err-refresh_marked c =
    let own = c.args in
    let none = passed c.in_ok-move_refusal.was c.move_refusal.ensures in
    below-off own.arm.now (search rules) own.tables.now own.link own.change none _ _ c.applied-moved.ensures
    _ c.parents-parents.ensures _ c.at_or_below-marks.ensures _ _ c.in_err-refresh_marked.ensures.answer refl (overflown c.in_err-refresh_marked.ensures.refusal _ c.from_residual-in_err-refresh_marked.ensures.1)

pub returns : goal.returns
returns c =
    let own = c.args in
    let none = passed c.in_ok-move_refusal.was c.move_refusal.ensures in
    below-on own.arm.now (search rules) own.tables.now own.link own.change none _ _ c.applied-moved.ensures
    _ c.parents-parents.ensures _ c.at_or_below-marks.ensures _ _ c.in_ok-refresh_marked.ensures.answer refl
