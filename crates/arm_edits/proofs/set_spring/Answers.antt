-- `set_spring`: an accepted call's link is stored with the spring set. Assumes nothing.
use Rattle.arm_edits.proofs.Stores.{spring_answered}
use Rattle.arm_edits.proofs.set_spring.Goals as goal

pub returns : goal.returns
returns c =
    spring_answered _ c.in_ok-spring_refusal.was _ _ _ _ _ c.spring_refusal.ensures c.set_spring.ensures
