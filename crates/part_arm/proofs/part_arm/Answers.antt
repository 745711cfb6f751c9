-- `part_arm`: links, couplings and rows put together. Assumes nothing.
use native.Mathlib.Omega.{arith}
use mathlib.Core.Path.{◌≡◌}
use lib.ListN.{length}
use Rattle.std.proofs.Common.{rules}
use Rattle.limits.specs.Limits.{link_limit}
use Rattle.arm.proofs.Live.{links_live}
use Rattle.part_arm.specs.Inner.{places_in}
use Rattle.part_arm.proofs.Turns.{link_turn, coupling_turn, link_given, coupling_given, assembled}
use Rattle.part_arm.proofs.part_arm.Goals as goal

pub returns : goal.returns
returns c =
    let p = places_in c.args.places.now c.args.k in
    let a = c.args.arm.now in
    let few : length a.links ≡ link_limit = omega arith in
    let links = c.lay.ensures (link_turn p a) (λ j l r h e q. link_given p a j l r h e (search rules)) in
    let couplings = c.lay-2.ensures (coupling_turn p a) (λ i o r h e q. coupling_given p a i o r h e (search rules)) in
    assembled p a _ _ _ _ _ _ c.empty-new.ensures few (omega arith) links couplings (c.rows-new.ensures (links_live a few))
