use Rattle.std.proofs.Common.{arith}
use lib.ListN.{length-take}
use Rattle.arm.proofs.Live.{links_le}
use Rattle.arm.proofs.Arm.start_of.Goals as goal

pub total_dofs-requires : goal.total_dofs-requires
total_dofs-requires c = simp length-take (rw c.live_links-links.ensures (omega (arith, links_le c.args.self.now)))
