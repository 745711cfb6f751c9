use native.Mathlib.Omega.{arith}
use mathlib.Core.Path.{◌≡◌, sym, ap, ◌∙◌}
use mathlib.Core.List.{List}
use Prim.Native.Nat.{◌+◌, ◌-◌, ◌≤◌, ◌<◌}
use lib.ListN.{length}
use lib.Seq.{drop-drop}
use Rattle.part_arm.specs.Inner.{seen_by}
use Rattle.arm.specs.declared.Link.{Link}
use Rattle.arm.specs.Arm.{links_of}
use Rattle.arm.proofs.Live.{links_le, start_none}
use Rattle.lists.specs.Lists.{part, with_part}
use Rattle.lists.proofs.Gathered.{laid_none}
use Rattle.part_arm.proofs.Turns.{dofs_small, row_next, entries_kept, entries_lost, row_done}
use Rattle.part_arm.proofs.PartMap.row.Goals as goal
use Rattle.part_arm.proofs.PartMap.row.Goals.{then-goes_on, else-goes_on}

pub loop-j-init : goal.loop-j-init
loop-j-init c = record {
  links = c.live_links-l-items.ensures;
  begins = start_none c.args.arm.now;
  within = omega arith;
  behind = omega arith;
  so_far = laid_none _ _;
}

pub loop-j-preserved : goal.loop-j-preserved
loop-j-preserved c =
    let k = c.loop-j in
    let own = k.invariant in
    let a = c.args.arm.now in
    let old = c.args.row.now.entries in
    let p = seen_by c.args.self.now in
    let d = c.dofs-d.result in
    let small = dofs_small d _ c.dofs-d.ensures in
    let there : k.j < length (links_of a) = rw own.links at c.loop-j-test.true in
    let dofs = rw own.links at c.dofs-d.ensures in
    let room : k.start + d ≤ length old = omega (arith, links_le a) in
    let next = row_next a k.j d _ there dofs k.start own.begins in
    elim c.if-goes_on.branch [
      | then-goes_on w ↦
          let put : k.at + d - k.at ≡ d = omega arith in
          let taken : k.start + d - k.start ≡ d = omega arith in
          let made : c.if-goes_on.entries ≡ with_part k.at d (part k.start d old) k.entries = w.entries-is ∙ rw (w.copy_from_slice.ensures.after, put, taken, drop-drop d k.at k.entries) in
          record {
            links = own.links;
            begins = next;
            within = omega arith;
            behind = omega arith;
            so_far = rw (made, w.at-is)
                (entries_kept a k.j d _ there dofs k.start own.begins p old room k.entries k.at own.so_far (sym c.goes_on.ensures ∙ w.if-goes_on.true));
          }
      | else-goes_on w ↦ record {
        links = own.links;
        begins = next;
        within = omega arith;
        behind = omega arith;
        so_far = rw (w.entries-is, w.at-is)
            (entries_lost a k.j d _ there dofs k.start own.begins p old room k.entries k.at own.so_far (sym c.goes_on.ensures ∙ w.if-goes_on.false));
      }
    ]

pub returns : goal.returns
returns c = λ whole.
    let k = c.loop-j in
    row_done (seen_by c.args.self.now) c.args.arm.now c.args.row.now k.j k.entries k.at k.invariant.so_far
    (omega (arith, ap (λ (ls : List Link). length ls) k.invariant.links))
