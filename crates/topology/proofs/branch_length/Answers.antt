use Rattle.topology.proofs.Branch.{branch_alone, branch_longer, branch_none}
use Rattle.topology.specs.Parents.{branch}
use lib.ListN.{length}
use Prim.Native.Nat.{ℕ}
use mathlib.Core.Path.{ap, refl}
use native.Mathlib.Omega.{arith}
use Rattle.topology.proofs.branch_length.Goals as goal

pub returns-then-parents-link : goal.returns-then-parents-link
returns-then-parents-link c = rw (branch_none c.args.parents.now c.args.link c.if-parents-link.true)

pub overflow_cast-p : goal.overflow_cast-p
overflow_cast-p c = omega (arith, c.type_inv.parents c.args.link)

pub overflow_cast-p-in-loop-p : goal.overflow_cast-p-in-loop-p
overflow_cast-p-in-loop-p c = omega (arith, c.type_inv.parents c.loop-p.p)

pub loop-p-preserved : goal.loop-p-preserved
loop-p-preserved c = let l = branch_longer c.args.parents.now c.loop-p.j c.loop-p.invariant.0 (omega arith) in let e = ap (λ (k : ℕ). length (branch c.args.parents.now k)) c.loop-p.invariant.1 in (omega arith, refl, omega arith, omega arith, omega arith)

pub returns : goal.returns
returns c = let l = ap length (branch_alone c.args.parents.now c.loop-p.j c.loop-p.invariant.0 (omega arith)) in omega arith
