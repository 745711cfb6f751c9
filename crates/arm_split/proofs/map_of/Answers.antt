-- `map_of`: the bare list's answer, the parents that count being the front of the array. Assumes nothing.
use Prim.Native.Nat.{ℕ}
use mathlib.Core.Path.{◌≡◌, ap, ◌∙◌}
use mathlib.Core.List.{List}
use native.Mathlib.Omega.{arith}
use lib.ListN.{length, length-take, length-map}
use Rattle.limits.specs.Limits.{link_limit}
use Rattle.arm.specs.declared.Link.{Link}
use Rattle.arm.specs.Arm.{parent_of}
use Rattle.arm.proofs.Live.{links_le, links_live, parents_front}
use Rattle.topology.specs.Answers.{split_answer}
use Rattle.arm_split.proofs.map_of.Goals as goal

pub slice_bounds-parents-end : goal.slice_bounds-parents-end
slice_bounds-parents-end c = omega (arith, ap (λ (ls : List Link). length ls) c.live_links.ensures, links_le c.args.arm.now)

pub slice_bounds-split_map-end : goal.slice_bounds-split_map-end
slice_bounds-split_map-end c =
    let n = ap (λ (ls : List Link). length ls) c.live_links.ensures in
    rw length-take (omega (arith, n, links_le c.args.arm.now))

pub returns-clause-answer : goal.returns-clause-answer
returns-clause-answer c =
    let a = c.args.arm.now in
    let whole : length a.links ≡ link_limit = omega (arith, ap (λ (ps : List ℕ). length ps) c.parents-parents.ensures, length-map a.links parent_of) in
    c.split_map.ensures
    ∙ ap (λ (ps : List ℕ). split_answer ps c.args.s c.args.map.now)
    (rw (c.live_links.ensures, c.parents-parents.ensures, links_live a whole) (parents_front a whole))
