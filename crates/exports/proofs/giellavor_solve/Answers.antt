-- `giellavor_solve`: the inner call's refusal and result, with the count. Assumes nothing.
use Rattle.std.proofs.Common.{ℕ, ◌≡◌, refl, ap, List, Float, Result, Ok, Err}
use Rattle.std.specs.Result.{result_and}
use Rattle.refusal.specs.declared.Counted.{Counted}
use Rattle.refusal.specs.declared.Refusal.{Refusal}
use Rattle.refusal.specs.Refusal.{code}
use Rattle.refusal.specs.Counted.{out, counted_of, counted}
use Rattle.refusal.proofs.Number.{number-suc}
use Rattle.solve.specs.Solve.{Answer, answer}
use Rattle.exports.specs.Solved.{solved_by}
use Rattle.exports.proofs.giellavor_solve.Goals as goal

count_of : (n : ℕ) (t : Result Unit Refusal) → counted (result_and t (Ok n)) ≡ counted_of (code t) n
unfolding counted_of
count_of n (Ok x) = refl
count_of n (Err r) = rw (number-suc r)

with_count : (n : ℕ) (t : Result Unit Refusal) (x : List Float) (a : Answer) (r : Counted) (u : Result ℕ Refusal)
    → r ≡ counted u → u ≡ result_and t (Ok n) → answer (code t) x ≡ a → out r x ≡ solved_by n a
with_count n t x a r u p q e = rw (p, q, count_of n t) (ap (solved_by n) e)

pub returns : goal.returns
returns c = with_count _ c.solve.result _ _ _ _ c.into.ensures c.and.ensures c.solve.ensures
