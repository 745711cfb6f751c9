use Rattle.std.proofs.Common.{◌∙◌, map, get_or, refl, ap, arith}
use lib.ListN.{length-map}
use Rattle.lists.proofs.Lists.{map_at}
use Rattle.masks.specs.Masks.{dofs_of}
use Rattle.masks.specs.Starts.{start_of, total_of}
use Rattle.masks.proofs.Laws.{dofs_le}
use Rattle.masks.proofs.Totals.{start_le, start_next, start_all}
use Rattle.arm.specs.Arm.{locked_of, no_link}
use Rattle.arm.proofs.total_dofs.Goals as goal

pub loop-link-init : goal.loop-link-init
unfolding start_of total_of
loop-link-init c = refl

pub overflow_add-total : goal.overflow_add-total
overflow_add-total c =
    let k = c.loop-link in
    omega (arith, start_le (map locked_of c.args.links.now) k.link-index, dofs_le (get_or c.args.links.now k.link-index no_link).joint.locked)

pub loop-link-preserved : goal.loop-link-preserved
loop-link-preserved c =
    let k = c.loop-link in
    let ls = c.args.links.now in
    omega (arith, start_next (map locked_of ls) k.link-index 7 (simp length-map (omega arith)), ap dofs_of (map_at locked_of ls k.link-index no_link 7 (omega arith)))

pub returns : goal.returns
returns c = c.loop-link.invariant ∙ start_all (map locked_of c.args.links.now) c.loop-link.link-index (simp length-map (omega arith))
