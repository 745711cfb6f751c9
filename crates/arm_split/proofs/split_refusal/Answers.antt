-- `split_refusal`: the refusals are the definition's. Assumes nothing.
use mathlib.Core.Path.{ap, ◌∙◌}
use mathlib.Core.List.{List}
use native.Mathlib.Omega.{arith}
use lib.ListN.{length}
use Rattle.arm.specs.declared.Link.{Link}
use Rattle.arm.proofs.Live.{links_live}
use Rattle.arm_split.proofs.Refused.{code_mapped, code_counted, is_split_refusal}
use Rattle.arm_split.proofs.split_refusal.Goals as goal

pub returns : goal.returns
returns c =
    let a = c.args.arm.now in
    let bare = c.map_of-bare in
    let whole = bare.ensures.whole in
    let n = ap (λ (ls : List Link). length ls) c.live_links.ensures ∙ links_live a whole in
    let left_out = code_mapped bare.result c.map.result _ c.map.ensures.cases ∙ code_counted bare.result in
    is_split_refusal a whole c.args.s _ _ (omega arith) _ bare.ensures.answer _ c.refusal.ensures _ _ _ c.lowest.ensures _ c.args.map.now n c.unless.ensures left_out
