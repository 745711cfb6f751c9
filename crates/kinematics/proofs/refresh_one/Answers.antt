-- `refresh_one`: its turn is over a block of its own, which is written where all is finite. Assumes nothing.
use Rattle.std.proofs.Common.{◌∙◌, sym, ap, List, ◌++◌, drop}
use lib.Ieee.{Float}
use Rattle.limits.specs.Limits.{table_size}
use Rattle.kinematics.specs.Blocks.{with_block}
use Rattle.kinematics.specs.Inner.{kept_block}
use Rattle.std.specs.Prelude.{is_ok}
use Rattle.kinematics.proofs.Front.{front_short, front_found, front_back, parent_kept, block_put}
use Rattle.kinematics.proofs.One.{one_no, one_unfit, one_yes, unfit_short, fits_test, place_fits}
use Rattle.kinematics.proofs.Refused.{not_ok, test_holds, test_fails}
use Rattle.kinematics.proofs.refresh_one.Goals as goal

pub returns-in_err-front-clause-answer : goal.returns-in_err-front-clause-answer
returns-in_err-front-clause-answer c =
    rw (not_ok c.from_residual.result c.from_residual.ensures.0)
    (one_unfit c.args.link.now c.args.above.now c.args.start c.args.j c.args.tables.now
    (unfit_short c.args.start c.args.j c.args.tables.now (front_short _ _ c.args.tables.now c.first_chunk_mut.ensures.variant (sym c.ok_or.ensures.value ∙ c.in_err-front.was))))

pub returns-in_err-unless-clause-answer : goal.returns-in_err-unless-clause-answer
returns-in_err-unless-clause-answer c =
    let front = front_found _ _ _ _ c.first_chunk_mut.ensures.cases (sym c.ok_or.ensures.value ∙ c.in_ok-front.was) in
    rw (not_ok c.from_residual-in_err-unless.result c.from_residual-in_err-unless.ensures.0)
    (rw (front_back c.args.tables.now front.enough c.in_ok-front.front.now front.same)
    (one_unfit c.args.link.now c.args.above.now c.args.start c.args.j c.args.tables.now
    (fits_test c.args.start c.args.j c.args.tables.now front.enough ∙ test_fails 11 _ c.unless.ensures c.in_err-unless.was)))

pub returns-in_err-refresh_link-clause-answer : goal.returns-in_err-refresh_link-clause-answer
returns-in_err-refresh_link-clause-answer c =
    let front = front_found _ _ _ _ c.first_chunk_mut.ensures.cases (sym c.ok_or.ensures.value ∙ c.in_ok-front.was) in
    let room = place_fits c.args.start c.args.j (test_holds 11 _ c.unless.ensures c.in_ok-unless.was) in
    rw (not_ok c.from_residual-in_err-refresh_link.result c.from_residual-in_err-refresh_link.ensures.0)
    (rw (front_back c.args.tables.now front.enough c.in_ok-front.front.now front.same)
    (one_no c.args.link.now c.args.above.now c.args.start c.args.j c.args.tables.now c.parent_before-parent.result c.parent_before-parent.ensures
    c.and.result c.and.ensures c.kept_block-block.result
    (c.kept_block-block.ensures ∙ ap (kept_block c.parent_before-parent.result) front.same ∙ parent_kept c.args.tables.now front.enough c.args.link.now c.args.j _ c.parent_before-parent.ensures room.0)
    c.refresh_link.new.block _ c.refresh_link.ensures.turn (ap is_ok c.in_err-refresh_link.was)))

pub returns-clause-answer : goal.returns-clause-answer
returns-clause-answer c =
    let front = front_found _ _ _ _ c.first_chunk_mut.ensures.cases (sym c.ok_or.ensures.value ∙ c.in_ok-front.was) in
    let room = place_fits c.args.start c.args.j (test_holds 11 _ c.unless.ensures c.in_ok-unless.was) in
    one_yes c.args.link.now c.args.above.now c.args.start c.args.j c.args.tables.now c.parent_before-parent.result c.parent_before-parent.ensures
    c.and.result c.and.ensures c.kept_block-block.result
    (c.kept_block-block.ensures ∙ ap (kept_block c.parent_before-parent.result) front.same ∙ parent_kept c.args.tables.now front.enough c.args.link.now c.args.j _ c.parent_before-parent.ensures room.0)
    c.refresh_link.new.block _ c.refresh_link.ensures.turn
    (fits_test c.args.start c.args.j c.args.tables.now front.enough ∙ test_holds 11 _ c.unless.ensures c.in_ok-unless.was) (ap is_ok c.in_ok-refresh_link.was) _
    (ap (λ (y : List Float). y ++ drop table_size c.args.tables.now) (c.put_block.ensures ∙ ap (with_block c.args.j c.refresh_link.new.block) front.same) ∙ block_put c.args.tables.now front.enough c.args.j c.refresh_link.new.block room.0)
