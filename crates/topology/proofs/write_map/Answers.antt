use Rattle.topology.proofs.Mapped.{mapped_gone, mapped_none, mapped_part, seen_le}
use lib.ListN.{length}
use Prim.Native.Nat.{◌*◌, ◌+◌, ◌<◌}
use native.Mathlib.Omega.{arith}
use Rattle.topology.proofs.write_map.Goals as goal
use Rattle.topology.proofs.write_map.Goals.{in-Some, in-None}

pub loop-j-init : goal.loop-j-init
loop-j-init c = mapped_none c.args.of.now c.args.map.now

pub overflow_add-seen : goal.overflow_add-seen
overflow_add-seen c =
    let small = rw c.in-Some.is at (c.requires.parts_below c.loop-j.j (omega arith)) in
    omega (arith, seen_le c.args.of.now c.args.map.now c.loop-j.j c.loop-j.map c.loop-j.seen c.loop-j.invariant c.in-Some.part small, c.requires.n_le_link_limit)

pub loop-j-preserved : goal.loop-j-preserved
loop-j-preserved c =
    let k = c.loop-j in
    let qs = c.args.of.now in
    let map₀ = c.args.map.now in
    let room : 2 * k.j + 1 < length map₀ = omega (arith, c.requires.n_in_bounds) in
    elim c.match-of-j.branch [
      | in-Some w ↦
          let small = rw w.in-Some.is at (c.requires.parts_below k.j (omega arith)) in
          rw (w.part-is, w.seen-is) (mapped_part qs map₀ k.j k.map k.seen k.invariant w.in-Some.part w.in-Some.is room small)
      | in-None w ↦ rw (w.part-is, w.seen-is) (mapped_gone qs map₀ k.j k.map k.seen k.invariant w.in-None.is room)
    ]
