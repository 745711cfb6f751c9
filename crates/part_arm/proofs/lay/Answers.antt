use Rattle.std.proofs.Common.{arith, ◌≡◌, ◌<◌, ◌∙◌, get_or, length}
use lib.Seq.{get_or-take, length-take-le}
use Rattle.lists.proofs.Gathered.{laid_none}
use Rattle.part_arm.proofs.Turns.{kept_one, kept_none, kept_all}
use Rattle.part_arm.proofs.lay.Goals as goal
use Rattle.part_arm.proofs.lay.Goals.{in-Some, in_default}

pub loop-j-init : goal.loop-j-init
loop-j-init g c = record { few = omega arith; so_far = λ f h. laid_none f c.args.to.now }

pub loop-j-preserved : goal.loop-j-preserved
loop-j-preserved g c =
    let k = c.loop-j in
    let xs = c.args.items.now in
    let x = c.index-live-j.result in
    let long = length-take-le c.min.result xs (omega arith) in
    let below : k.j < c.min.result = omega arith in
    let there : k.j < length xs = omega arith in
    let item : x ≡ get_or xs k.j x = c.index-live-j.is ∙ get_or-take c.min.result xs k.j x below in
    elim c.match-kept.branch [
      | in-Some w ↦ record {
        few = omega arith;
        so_far = λ f h. rw (w.to-is, w.count-is)
            (kept_one f c.args.to.now k.j k.to k.count (k.invariant.so_far f h) w.in-Some.new w.in-Some.is (h k.j x c.kept.result there item c.kept.ensures)
            (omega arith));
      }
      | in_default w ↦ record {
        few = omega arith;
        so_far = λ f h. rw (w.to-is, w.count-is)
            (kept_none f c.args.to.now k.j k.to k.count (k.invariant.so_far f h) w.in_default.is (h k.j x c.kept.result there item c.kept.ensures));
      }
    ]

pub returns : goal.returns
returns g c = λ f h.
    let k = c.loop-j in
    let long = length-take-le c.min.result c.args.items.now (omega arith) in
    kept_all f c.args.to.now k.j k.to k.count (k.invariant.so_far f h) _ (omega arith)
