use Rattle.std.proofs.Common.{◌∙◌, ap, arith}
use lib.ListN.{length, length-take}
use Rattle.arm.specs.HandedIn.{unique, tags_unique}
use Rattle.arm.proofs.Live.{links_le, tags_counted}
use Rattle.arm.proofs.Arm.tags_unique.Goals as goal

pub slice_bounds-tags-end : goal.slice_bounds-tags-end
slice_bounds-tags-end c = omega (arith, links_le c.args.self.now, ap length c.live_links.ensures)

pub slice_bounds-all_unique-end : goal.slice_bounds-all_unique-end
slice_bounds-all_unique-end c =
    simp length-take (omega (arith, links_le c.args.self.now, ap length c.live_links.ensures))

pub returns : goal.returns
unfolding tags_unique
returns c = c.all_unique.ensures ∙ ap unique (tags_counted c.args.self.now (omega arith) _ c.live_links.ensures _ c.tags-tags.ensures)
