use Rattle.lists.proofs.Numbers.{filled_at, filled_more, filled_none}
use Rattle.topology.proofs.Branch.{mark_alone, mark_more, mark_itself, marks_full}
use mathlib.Core.Bool.{false}
use Rattle.limits.specs.Limits.{link_limit}
use Rattle.topology.specs.Parents.{at_or_below, parent_in}
use lib.ListN.{replicate}
use mathlib.Core.Path.{sym, ◌∙◌}
use borrow.Author.Tests.{eq-eqb, ne_eqb, le-ltb}
use native.Mathlib.Omega.{arith}
use Rattle.topology.proofs.at_or_below.Goals as goal
use Rattle.topology.proofs.at_or_below.Goals.{then-j-link, else-j-link+then-p-j, else-j-link+else-p-j}

pub loop-j-init : goal.loop-j-init
loop-j-init c = filled_none (at_or_below c.args.parents.now c.args.link) (replicate link_limit false)

pub loop-j-preserved : goal.loop-j-preserved
loop-j-preserved c =
    let ps = c.args.parents.now in
    let i = c.args.link in
    let j = c.loop-j.j in
    let t = c.loop-j.invariant in
    let more = filled_more (at_or_below ps i) (replicate link_limit false) j c.loop-j.marks in
    let rest = filled_at (at_or_below ps i) (replicate link_limit false) j c.loop-j.marks (parent_in ps j) false t in
    more _ (omega arith) t (elim c.if-j-link.branch [
      | then-j-link w ↦ w.marks-is ∙ eq-eqb j i w.if-j-link.true ∙ sym (mark_itself ps i j (omega arith) w.if-j-link.true)
      | else-j-link+then-p-j w ↦ w.marks-is ∙ rest w.if-p-j.true ∙ sym (mark_more ps i j (omega arith) w.if-p-j.true ∙ rw (ne_eqb j i w.if-j-link.false))
      | else-j-link+else-p-j w ↦ w.marks-is ∙ le-ltb (parent_in ps j) j w.if-p-j.false ∙ sym (mark_alone ps i j (omega arith) w.if-p-j.false ∙ ne_eqb j i w.if-j-link.false)
    ])

pub returns : goal.returns
returns c = marks_full c.args.parents.now c.args.link _ c.loop-j.j c.loop-j.marks c.min-j-end.ensures (omega arith) c.loop-j.invariant
