-- `refresh_all`: every link is worked out, and every block is written. Assumes nothing.
use Rattle.std.proofs.Common.{◌∙◌, sym, ap}
use Rattle.std.specs.Prelude.{is_ok}
use Rattle.kinematics.proofs.Ends.{all_no, all_short, all_yes}
use Rattle.kinematics.proofs.Front.{front_short, front_found, front_back}
use Rattle.kinematics.proofs.Refused.{not_ok}
use Rattle.kinematics.proofs.refresh_all.Goals as goal

pub returns-in_err-front-clause-answer : goal.returns-in_err-front-clause-answer
returns-in_err-front-clause-answer c =
    rw (not_ok c.from_residual.result c.from_residual.ensures.0)
    (all_short c.args.links.now c.args.n c.args.tables.now (front_short _ _ c.args.tables.now c.first_chunk_mut.ensures.variant (sym c.ok_or.ensures.value ∙ c.in_err-front.was)))

pub returns-in_err-work_out-clause-answer : goal.returns-in_err-work_out-clause-answer
returns-in_err-work_out-clause-answer c =
    let front = front_found _ _ _ _ c.first_chunk_mut.ensures.cases (sym c.ok_or.ensures.value ∙ c.in_ok-front.was) in
    rw (not_ok c.from_residual-in_err-work_out.result c.from_residual-in_err-work_out.ensures.0)
    (rw (front_back c.args.tables.now front.enough c.in_ok-front.front.now front.same)
    (all_no c.args.links.now c.args.n c.args.tables.now c.told-links front.enough c.in_ok-front.front.now front.same
    c.min.result c.min.ensures c.work_out.new.work _ c.work_out.ensures.worked (ap is_ok c.in_err-work_out.was)))

pub returns-clause-answer : goal.returns-clause-answer
returns-clause-answer c =
    let front = front_found _ _ _ _ c.first_chunk_mut.ensures.cases (sym c.ok_or.ensures.value ∙ c.in_ok-front.was) in
    all_yes c.args.links.now c.args.n c.args.tables.now c.told-links front.enough c.in_ok-front.front.now front.same
    c.min.result c.min.ensures c.work_out.new.work _ c.work_out.ensures.worked (ap is_ok c.in_ok-work_out.was) c.commit.new.tables c.commit.ensures
