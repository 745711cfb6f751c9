-- `root_changed`: every row is changed alike, and the root's joint. Assumes nothing.
use mathlib.Core.Path.{◌≡◌, ap}
use mathlib.Core.List.{[]}
use borrow.Author.Rules.{rules}
use Rattle.lists.proofs.Mapped.{mapped}
use Rattle.arm.specs.Setters.{with_joint}
use Rattle.arm.specs.Arm.{link_at}
use Rattle.root_change.specs.Root.{locked_by, root_row, root_mask, root_rows, root_link}
use Rattle.root_change.proofs.Changed.{changed_is}
use Rattle.root_change.proofs.root_changed.Goals as goal

pub returns : goal.returns
unfolding root_rows root_link
returns c =
    let a = c.args.arm.now in
    let root = c.args.root.now in
    let rows : c.map-new.result ≡ root_rows a root =
    mapped _ (root_row (root_mask a) (locked_by root)) _ (λ x y q k. (search rules, search rules)) a.rows c.map-new.result (record { entries = [] }) (search rules) c.map-new.ensures.items in
    changed_is a root _ _ rows (ap (with_joint (link_at a.links 0)) c.joint.ensures)
