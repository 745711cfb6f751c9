use Rattle.std.proofs.Common.{rules, arith}
use Rattle.arm.specs.Arm.{parent_of, no_link}
use Rattle.lists.proofs.Mapped.{mapped}
use Rattle.arm.proofs.Arm.parents.Goals as goal

pub returns : goal.returns
returns c =
    mapped _ parent_of _ (λ x y q k. (search rules, search rules)) c.args.self.now.links _ no_link (omega arith) c.map.ensures.items
