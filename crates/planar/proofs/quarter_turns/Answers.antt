use Prim.Native.Nat.{◌+◌, ◌/◌}
use native.Mathlib.Omega.{arith}
use mathlib.Core.Path.{sym, ◌∙◌}
use borrow.Author.Tests.{leb-true, leb-false}
use Rattle.planar.specs.Rotation.{quarter_turns}
use Rattle.planar.proofs.Turns.{turns_le}
use Rattle.planar.proofs.quarter_turns.Goals as goal
use Rattle.planar.proofs.quarter_turns.Goals.{then-k-eq0+then-comes_to, then-k-eq0+else-comes_to, else-k-eq0+then-k-half-le163+then-comes_to-2, else-k-eq0+else-k-half-le163, else-k-half-le163-via-then-k-half-le163+else-comes_to-2, else-k-half-le163-via-else-k-half-le163}

pub loop-size-init : goal.loop-size-init
loop-size-init c = omega (arith, turns_le c.args.a)

-- while k is 0, a middle that the count comes to, and one that it doesn't; later on the same two, and a middle past the last threshold
pub loop-size-preserved : goal.loop-size-preserved
loop-size-preserved c =
    let count = quarter_turns c.args.a in
    let most = turns_le c.args.a in
    let half = c.loop-size.size / 2 in
    let middle = c.loop-size.k + half in
    elim c.if-k-eq0.branch [
      | then-k-eq0+then-comes_to w ↦
          let h = leb-true half count (sym w.comes_to.ensures ∙ w.if-comes_to.true) in
          omega arith
      | then-k-eq0+else-comes_to w ↦
          let h = leb-false half count (sym w.comes_to.ensures ∙ w.if-comes_to.false) in
          omega arith
      | else-k-eq0+then-k-half-le163+then-comes_to-2 w ↦
          let h = leb-true middle count (sym w.comes_to-then-k-half-le163.ensures ∙ w.if-comes_to-2.true) in
          omega arith
      | else-k-eq0+else-k-half-le163 w ↦ elim w.else-k-half-le163.branch [
        | else-k-half-le163-via-then-k-half-le163+else-comes_to-2 v ↦
            let h = leb-false middle count (sym v.comes_to-then-k-half-le163.ensures ∙ v.if-comes_to-2.false) in
            omega arith
        | else-k-half-le163-via-else-k-half-le163 v ↦ omega arith
      ]
    ]

pub returns : goal.returns
returns c = omega arith
