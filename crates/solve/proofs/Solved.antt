-- What a solve that nothing refused before leaves: its answer is that of the solution, and with 0 the solution stands in the front of the result's memory.
use Prim.Native.Nat.{ℕ, zero, suc, ◌≤◌}
use mathlib.Core.Path.{◌≡◌, refl, sym, ap, ◌∙◌}
use mathlib.Core.Bool.{cond}
use mathlib.Core.List.{List, ◌++◌}
use native.Mathlib.Omega.{arith}
use borrow.Author.Tests.{ne_eqb}
use lib.Dec.{eqb}
use lib.ListN.{length, take, drop, length-append, length-drop}
use lib.Seq.{take_at}
use lib.Ieee.{Float}
use Rattle.solve.specs.Solve.{Answer, answer, into}

picked_refusal : (k : ℕ) (l m : List Float) → (cond (eqb k 0) (answer 0 l) (answer k m)).refusal ≡ k
picked_refusal zero l m = refl
picked_refusal (suc k) l m = rw (ne_eqb (suc k) 0 (λ e. omega arith))

picked_result : (k : ℕ) (l m : List Float) → k ≡ 0 → (cond (eqb k 0) (answer 0 l) (answer k m)).result ≡ l
picked_result zero l m h = refl
picked_result (suc k) l m h = absurd (omega arith)

-- o is the solution, t the answer, r the memory and z what it then holds
module _ (n : ℕ) (o : Answer) (r z : List Float) (t : ℕ) (e : answer t z ≡ into n 0 o r) where
  pub trouble_is : t ≡ o.refusal
  unfolding into
  trouble_is = ap (λ (x : Answer). x.refusal) e ∙ picked_refusal o.refusal (o.result ++ drop n r) r

  module _ (good : t ≡ 0) (room : n ≤ length r) (same : length z ≡ length r) where
    whole : z ≡ o.result ++ drop n r
    unfolding into
    whole = ap (λ (x : Answer). x.result) e ∙ picked_result o.refusal (o.result ++ drop n r) r (sym trouble_is ∙ good)

    pub result_length : length o.result ≡ n
    result_length = omega (arith, ap length whole ∙ length-append o.result (drop n r), length-drop n r)

    pub result_is : take n z ≡ o.result
    result_is = rw whole (take_at o.result (drop n r) n result_length)
