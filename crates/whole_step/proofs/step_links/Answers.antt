-- `step_links`: link after link, where the start runs along. Assumes nothing.
use mathlib.Core.Path.{◌≡◌, ap, ◌∙◌}
use native.Mathlib.Omega.{arith}
use borrow.Author.Rules.{rules}
use Prim.Native.Nat.{ℕ}
use mathlib.Core.List.{◌++◌}
use lib.ListN.{length, drop}
use Rattle.lists.specs.Numbers.{each}
use Rattle.limits.specs.Limits.{link_limit, dof_limit}
use Rattle.arm.proofs.Live.{dofs_small}
use Rattle.whole_step.specs.Inner.{integrated_at, front_integrated}
use Rattle.whole_step.proofs.Links.{done_none, start_small, done_more, stepped}
use Rattle.whole_step.proofs.step_links.Goals as goal

pub loop-i-init : goal.loop-i-init
loop-i-init c = let d = done_none c.args.n c.args.links.now c.args.velocities.now c.args.dt in record { begins = d.0; done = d.1 }

pub offset_bounds-velocities-start : goal.offset_bounds-velocities-start
offset_bounds-velocities-start c = omega (arith, start_small _ _ _ c.loop-i.invariant.begins)

pub slice_bounds-own-count : goal.slice_bounds-own-count
slice_bounds-own-count c = omega (arith, start_small _ _ _ c.loop-i.invariant.begins)

pub slice_bounds-own-start : goal.slice_bounds-own-start
slice_bounds-own-start c = omega (arith, start_small _ _ _ c.loop-i.invariant.begins)

pub overflow_add-start : goal.overflow_add-start
overflow_add-start c = omega (arith, start_small _ _ _ c.loop-i.invariant.begins, dofs_small _ _ c.dofs-start.ensures)

pub loop-i-preserved : goal.loop-i-preserved
loop-i-preserved c =
    let row : length c.args.velocities.now ≡ dof_limit = search rules in
    let whole : length c.args.links.now ≡ link_limit = search rules in
    let d = done_more c.args.n c.args.links.now c.args.velocities.now c.args.dt (omega arith) _ _ c.loop-i.links (c.loop-i.invariant.begins, c.loop-i.invariant.done) (omega arith)
    _ c.dofs-start.ensures _ (stepped _ _ _ _ row _ c.integrate.ensures) in
    record { begins = d.0; done = d.1 }

pub returns : goal.returns
unfolding front_integrated
returns c =
    let e : c.loop-i.i ≡ c.args.n = omega arith in
    let own = c.args in
    c.loop-i.invariant.done ∙ ap (λ (k : ℕ). each k (integrated_at own.n own.links.now own.velocities.now own.dt) ++ drop k own.links.now) e
