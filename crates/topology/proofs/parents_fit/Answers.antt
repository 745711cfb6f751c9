-- `parents_fit`: each link is tested beside its number. Assumes nothing.
use Prim.Native.Nat.{ℕ}
use mathlib.Core.Path.{◌∙◌}
use Rattle.std.proofs.Common.{rules, tests}
use Rattle.std.proofs.lemmas.Iterator.{YieldsList-from_slice}
use Rattle.std.proofs.lemmas.Iterator.Consumers.{YieldsList-from_enumerate}
use Rattle.std.proofs.lemmas.Iterator.Search.{all_from_yields_List}
use Rattle.topology.specs.Parents.{parent_fits}
use Rattle.topology.proofs.Fitting.{fit_each}
use Rattle.topology.proofs.parents_fit.Goals as goal

pub returns : goal.returns
returns c =
    all_from_yields_List (λ (p : ℕ × ℕ). parent_fits p.0 p.1) _ _ c.all.result c.all.ensures.ran
    (YieldsList-from_enumerate (YieldsList-from_slice c.args.parents.now (cc)) (cc)) (λ x b q k. search (rules, tests))
    ∙ fit_each c.args.parents.now
