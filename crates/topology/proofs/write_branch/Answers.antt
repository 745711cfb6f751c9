use Rattle.topology.proofs.Written.{written_more, written_none, written_all}
use Rattle.topology.specs.Parents.{branch}
use Prim.Native.Nat.{◌-◌}
use native.Mathlib.Omega.{arith}
use Rattle.topology.proofs.write_branch.Goals as goal

pub loop-at-init : goal.loop-at-init
loop-at-init c = written_none c.args.parents.now c.args.link c.args.n c.args.to.now c.requires.n_value

pub overflow_cast-to : goal.overflow_cast-to
overflow_cast-to c = omega (arith, c.requires.parents_len_bound, c.loop-at.invariant.link (omega arith))

pub bounds-to-at : goal.bounds-to-at
bounds-to-at c = omega (arith, c.loop-at.invariant.within, c.loop-at.invariant.same_length, c.requires.n_value, c.requires.n_in_bounds)

pub bounds-parents-j : goal.bounds-parents-j
bounds-parents-j c = c.loop-at.invariant.link (omega arith)

pub overflow_cast-j : goal.overflow_cast-j
overflow_cast-j c = omega (arith, c.type_inv.parents c.loop-at.j)

pub loop-at-preserved : goal.loop-at-preserved
loop-at-preserved c = written_more c.args.parents.now (branch c.args.parents.now c.args.link) c.args.to.now c.loop-at.at (c.loop-at.at - 1) c.loop-at.j c.loop-at.to (omega arith) (omega (arith, c.requires.n_value, c.requires.n_in_bounds)) c.loop-at.invariant

pub shape_of-to : goal.shape_of-to
shape_of-to c = c.loop-at.invariant.same_length

pub returns : goal.returns
returns c = written_all c.args.parents.now (branch c.args.parents.now c.args.link) c.args.to.now c.args.n c.loop-at.at c.loop-at.j c.loop-at.to c.requires.n_value (omega arith) c.loop-at.invariant
