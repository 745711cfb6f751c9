-- `refresh_marked`: the marked links are worked out, and their blocks alone are written back. Assumes nothing.
use Rattle.std.proofs.Common.{◌∙◌, sym, ap}
use Rattle.std.specs.Prelude.{is_ok}
use Rattle.kinematics.specs.State.{marked}
use Rattle.kinematics.proofs.Ends.{marked_no, marked_short, marked_yes}
use Rattle.kinematics.proofs.Front.{front_short, front_found, front_back}
use Rattle.kinematics.proofs.Refused.{not_ok}
use Rattle.kinematics.proofs.refresh_marked.Goals as goal

pub returns-in_err-front-clause-answer : goal.returns-in_err-front-clause-answer
returns-in_err-front-clause-answer c =
    rw (not_ok c.from_residual.result c.from_residual.ensures.0)
    (marked_short c.args.links.now c.args.n c.args.tables.now (marked c.args.marks.now)
    (front_short _ _ c.args.tables.now c.first_chunk_mut.ensures.variant (sym c.ok_or.ensures.value ∙ c.in_err-front.was)))

pub returns-in_err-worked-clause-answer : goal.returns-in_err-worked-clause-answer
returns-in_err-worked-clause-answer c =
    let front = front_found _ _ _ _ c.first_chunk_mut.ensures.cases (sym c.ok_or.ensures.value ∙ c.in_ok-front.was) in
    rw (not_ok c.from_residual-in_err-worked.result c.from_residual-in_err-worked.ensures.0)
    (rw (front_back c.args.tables.now front.enough c.in_ok-front.front.now front.same)
    (marked_no c.args.links.now c.args.n c.args.tables.now c.told-links front.enough c.in_ok-front.front.now front.same
    c.min-count.result c.min-count.ensures c.work_out-worked.new.work _ (marked c.args.marks.now) c.work_out-worked.ensures.worked (ap is_ok c.in_err-worked.was)))

pub returns-clause-answer : goal.returns-clause-answer
returns-clause-answer c =
    let front = front_found _ _ _ _ c.first_chunk_mut.ensures.cases (sym c.ok_or.ensures.value ∙ c.in_ok-front.was) in
    marked_yes c.args.links.now c.args.n c.args.tables.now c.told-links front.enough c.in_ok-front.front.now front.same
    c.min-count.result c.min-count.ensures c.work_out-worked.new.work _ (marked c.args.marks.now) c.work_out-worked.ensures.worked (ap is_ok c.in_ok-worked.was) c.commit.new.tables c.commit.ensures
