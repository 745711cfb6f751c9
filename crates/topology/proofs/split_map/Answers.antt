-- `split_map`: refused as defined, or the map is written. Assumes nothing.
use Rattle.topology.proofs.Mapped.{map-to, parts_below}
use Rattle.topology.proofs.Refused.{split_accepted, split_done, split_refused}
use borrow.Author.Tests.{leb-true}
use lib.ListN.{drop, length}
use Prim.Native.Nat.{◌*◌, ℕ}
use mathlib.Core.List.{List, ◌++◌}
use mathlib.Core.Path.{◌∙◌, ap}
use native.Mathlib.Omega.{arith}
use Rattle.topology.proofs.split_map.Goals as goal

pub returns-in_err-refusal_of : goal.returns-in_err-refusal_of
returns-in_err-refusal_of c =
    split_refused _ c.args.parents.now c.args.s c.args.map.now c.link.result c.link.ensures c.refusal_of.ensures c.in_err-refusal_of.was _ c.from_residual.ensures.1

pub parts_of-count-requires : goal.parts_of-count-requires
parts_of-count-requires c =
    let a = split_accepted _ c.args.parents.now c.args.s c.args.map.now c.link.result c.link.ensures c.refusal_of.ensures c.in_ok-refusal_of.was in
    record { parents_len_bound = a.few; parents_value = a.fit }

pub write_map-requires : goal.write_map-requires
write_map-requires c =
    let a = split_accepted _ c.args.parents.now c.args.s c.args.map.now c.link.result c.link.ensures c.refusal_of.ensures c.in_ok-refusal_of.was in
    record {
      n_le_link_limit = a.few;
      n_in_bounds = leb-true _ _ a.room;
      parts_below = parts_below c.args.parents.now c.args.s _ c.parts_of-count.ensures.1 a.fit a.few;
    }

pub returns : goal.returns
returns c =
    let ps = c.args.parents.now in
    let parts = c.parts_of-count.ensures in
    let written = map-to ps c.args.s c.parts_of-count.new.of parts.1 (length ps) (omega arith) in
    split_done _ ps c.args.s c.args.map.now c.link.result c.link.ensures c.refusal_of.ensures c.in_ok-refusal_of.was _ _ parts.0
    (c.write_map.ensures ∙ ap (λ (l : List ℕ). l ++ drop (2 * length ps) c.args.map.now) written)
