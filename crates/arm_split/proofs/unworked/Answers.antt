-- `unworked`: the refusals are the definition's; else the part read off the map is the split rule's. Assumes nothing.
use mathlib.Core.Path.{◌≡◌, sym, ◌∙◌}
use native.Mathlib.Omega.{arith}
use Rattle.refusal.specs.Refusal.{code}
use Rattle.refusal.proofs.Answers.{code_exit, passed}
use Rattle.arm_split.specs.Answers.{part_refusal}
use Rattle.arm_split.proofs.Chosen.{part_chosen}
use Rattle.arm_split.proofs.Refused.{count_counted, is_part_refusal}
use Rattle.arm_split.proofs.unworked.Goals as goal

pub returns-in_err-lowest-clause-refusal : goal.returns-in_err-lowest-clause-refusal
returns-in_err-lowest-clause-refusal c =
    let a = c.args.arm.now in
    let bare = c.map_of in
    let counts = rw (c.unwrap_or-count.ensures ∙ count_counted bare.result) at c.unless-2.ensures in
    let refusal : code c.lowest.result ≡ part_refusal a c.args.s c.args.k c.args.tables.now =
    is_part_refusal a bare.ensures.whole c.args.s _ _ (omega arith) _ bare.ensures.answer _ c.refusal.ensures _ _ _ c.lowest.ensures c.args.k c.args.tables.now _
    c.tables_fit.ensures c.unless.ensures counts in
    code_exit c.in_err-lowest.was refusal _ c.from_residual.ensures.1

pub returns : goal.returns
returns c =
    let a = c.args.arm.now in
    let bare = c.map_of in
    let counts = rw (c.unwrap_or-count.ensures ∙ count_counted bare.result) at c.unless-2.ensures in
    let refusal : code c.lowest.result ≡ part_refusal a c.args.s c.args.k c.args.tables.now =
    is_part_refusal a bare.ensures.whole c.args.s _ _ (omega arith) _ bare.ensures.answer _ c.refusal.ensures _ _ _ c.lowest.ensures c.args.k c.args.tables.now _
    c.tables_fit.ensures c.unless.ensures counts in
    let none = passed c.in_ok-lowest.was refusal in
    record {
      refusal = sym none;
      part = c.part_arm.ensures ∙ part_chosen a bare.ensures.whole c.args.s c.args.k c.args.tables.now none _ _ _ (omega arith) bare.ensures.answer;
    }
