use Rattle.std.proofs.Common.{Option, List, ℕ}
use Rattle.topology.specs.Split.{is_head}
use mathlib.Core.Path.{◌≡◌, ◌∙◌, sym}
use Rattle.topology.proofs.Pass.{passed_none, rank_le, parent_earlier, passed_body, passed_gone, passed_head, passed_all}
use lib.ListN.{length}
use Prim.Native.Nat.{◌+◌, ◌-◌, ◌≤◌, ◌<◌}
use native.Mathlib.Omega.{arith}
use Rattle.topology.proofs.parts_of.Goals as goal
use Rattle.topology.proofs.parts_of.Goals.{then-is_head, else-is_head+then-is_survivor, else-is_head+else-is_survivor}

pub loop-j-init : goal.loop-j-init
loop-j-init c = passed_none c.args.parents.now c.args.s c.args.of.now

pub overflow_add-count : goal.overflow_add-count
overflow_add-count c = omega (arith, rank_le c.args.parents.now c.args.s c.loop-j.j, c.loop-j.invariant.counted, c.requires.parents_len_bound)

pub overflow_cast-of : goal.overflow_cast-of
overflow_cast-of c = omega (arith, rank_le c.args.parents.now c.args.s c.loop-j.j, c.loop-j.invariant.counted, c.requires.parents_len_bound)

pub bounds-of-p : goal.bounds-of-p
unfolding is_head
bounds-of-p c =
    let e = sym c.is_head.ensures ∙ c.if-is_head.false in
    let a = sym c.is_survivor.ensures ∙ c.if-is_survivor.true in
    let pre = c.requires in
    omega (arith, parent_earlier c.args.parents.now c.args.s pre.parents_value c.loop-j.j (omega arith) a e, pre.parents_len_bound)

pub loop-j-preserved : goal.loop-j-preserved
unfolding is_head
loop-j-preserved c =
    let ps = c.args.parents.now in
    let s = c.args.s in
    let j = c.loop-j.j in
    let h : j < length ps = omega arith in
    let z : List (Option ℕ) = c.args.of.now in
    let of = c.loop-j.of in
    let n = c.loop-j.count in
    let t = c.loop-j.invariant in
    let few : length ps ≤ length c.args.of.now = omega (arith, c.requires.parents_len_bound) in
    let head = c.is_head.ensures in
    elim c.if-is_head.branch [
      | then-is_head w ↦ let back : n + 1 - 1 ≡ n = omega arith in rw (w.of-is, w.count-is, back) (passed_head ps s z few j h of n t (sym head ∙ w.if-is_head.true))
      | else-is_head+then-is_survivor w ↦ rw (w.of-is, w.count-is)
          (passed_body ps s z few j h of n t c.requires.parents_value (sym head ∙ w.if-is_head.false) (sym w.is_survivor.ensures ∙ w.if-is_survivor.true))
      | else-is_head+else-is_survivor w ↦ rw (w.of-is, w.count-is)
          (passed_gone ps s z few j h of n t (sym head ∙ w.if-is_head.false) (sym w.is_survivor.ensures ∙ w.if-is_survivor.false))
    ]

pub returns : goal.returns
returns c = passed_all c.args.parents.now c.args.s c.args.of.now c.loop-j.j c.loop-j.of c.loop-j.count c.loop-j.invariant (omega arith)
