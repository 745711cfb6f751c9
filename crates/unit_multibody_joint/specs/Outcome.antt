-- What a call answers that solves J by the mass matrix, and what the two memories lent for J and WJ then hold.
use Rattle.std.specs.Prelude.{ℕ, zero, suc, ◌*◌, Bool, List, take, Float}
use Rattle.lists.specs.Lists.{laid}
use Rattle.refusal.specs.Refusal.{unless_of}
use Rattle.solve.specs.Solve.{solution}

pub record Outcome (A : Type 0) : Type 0 where
  pub answer : A
  pub j : List Float
  pub wj : List Float

abbrev pub out : {A : Type 0} → A → List Float → List Float → Outcome A
out answer j wj = record { answer = answer; j = j; wj = wj }

-- a refusal; where it is none, the next
unfoldable pub or_then : ℕ → ℕ → ℕ
or_then zero next = next
or_then (suc k) next = suc k

-- not refused: the answer, and J and WJ laid over the fronts of the memories; refused: the answer of the number, and both memories as they were
unfoldable pub answered : {A : Type 0} → ℕ → (ℕ → A) → A → List Float → List Float → List Float → List Float → Outcome A
answered zero refused answer row solved j wj = out answer (laid row j) (laid solved wj)
answered (suc k) refused answer row solved j wj = out (refused (suc k)) j wj

-- WJ solves M·WJ = J, and the answer is made of WJ. After the refusal k: the solve's own 11 or 12, then 12 if the answer isn't finite
unfoldable pub solved_answer : {A : Type 0} → (ℕ → A) → (A → Bool) → (List Float → A) → ℕ → ℕ → List Float → List Float → List Float → List Float → Outcome A
solved_answer refused fine made k n row mass j wj =
    let o = solution n (take (n * n) mass) row in
    let a = made o.result in
    answered (or_then k (or_then o.refusal (unless_of (fine a) 12))) refused a row o.result j wj
