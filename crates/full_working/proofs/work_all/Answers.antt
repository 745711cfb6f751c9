-- `work_all`: what the pass over all links left. Assumes nothing.
use Rattle.full_working.proofs.Passed.{passed_on}
use Rattle.full_working.proofs.work_all.Goals as goal

pub returns : goal.returns
returns c = passed_on c.args.arm.now c.refresh_all.new.links c.refresh_all.result _ _ c.refresh_all.ensures.answer c.refresh_all.ensures.refusal
