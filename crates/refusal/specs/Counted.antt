-- What a call that counts answers: a refusal and a zero count, or 0 and what was counted; and what the memory lent to it then holds.
use Rattle.std.specs.Prelude.{ℕ, zero, suc, List, Result, Ok, Err}
use Rattle.lists.specs.Lists.{laid}
use Rattle.refusal.specs.declared.Counted.{Counted}
use Rattle.refusal.specs.declared.Refusal.{Refusal}
use Rattle.refusal.specs.Refusal.{number}

-- a count, unless there is a refusal
unfoldable pub counted_of : ℕ → ℕ → Counted
counted_of zero n = record { refusal = 0; count = n }
counted_of (suc k) n = record { refusal = suc k; count = 0 }

-- the answer, and what the lent memory then holds
pub record Outcome (A : Type 0) : Type 0 where
  pub answer : Counted
  pub memory : List A

abbrev pub out : {A : Type 0} → Counted → List A → Outcome A
out answer memory = record { answer = answer; memory = memory }

-- n was counted and the row is laid over the memory; a refusal leaves the memory
unfoldable pub filled : {A : Type 0} → ℕ → ℕ → List A → List A → Outcome A
filled zero n row lent = out (counted_of 0 n) (laid row lent)
filled (suc k) n row lent = out (counted_of (suc k) n) lent

-- what C is told of a count
abbrev pub counted : Result ℕ Refusal → Counted
counted (Ok n) = record { refusal = 0; count = n }
counted (Err r) = record { refusal = number r; count = 0 }
