-- `rows`: each is the part's, where the arm is whole. Assumes nothing.
use native.Mathlib.Omega.{arith}
use Rattle.std.proofs.Common.{rules}
use Rattle.lists.proofs.Mapped.{mapped}
use Rattle.arm.specs.Empty.{blank_row}
use Rattle.part_arm.specs.Inner.{seen_by}
use Rattle.part_arm.specs.Part.{part_row}
use Rattle.part_arm.proofs.PartMap.rows.Goals as goal

pub returns : goal.returns
returns c = λ whole.
    mapped _ (part_row (seen_by c.args.self.now) c.args.arm.now) _ (λ x y q k. (search rules, search rules)) c.args.rows.now _ blank_row (omega arith)
    c.map.ensures.items
