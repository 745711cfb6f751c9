-- `split`: what is written is the bare list's map. Assumes nothing.
use mathlib.Core.Path.{ap, ◌∙◌}
use Rattle.refusal.specs.Refusal.{code}
use Rattle.arm_split.proofs.Refused.{split_given}
use Rattle.arm_split.proofs.split.Goals as goal

pub returns : goal.returns
returns c =
    c.map_of.ensures.answer ∙ split_given c.args.arm.now c.map_of.ensures.whole c.args.s c.args.map.now _ c.split_refusal.ensures (ap code c.in_ok-split_refusal.was)
