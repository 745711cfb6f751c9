-- `decimal_of`: the digits in place are the last of the number, and those of the rest come before them. Assumes nothing.
use mathlib.Core.List.{◌++◌}
use lib.ListN.{drop, length}
use Prim.Native.Nat.{◌+◌, ◌≤◌}
use mathlib.Core.Path.{◌≡◌}
use Rattle.numerals.specs.Decimal.{digits_of, decimal}
use Rattle.numerals.proofs.decimal_of.Given as goal

abbrev pub invariant-loop-rest : goal.invariant-loop-rest
invariant-loop-rest l =
    (l.first ≤ 9) × (length l.digits ≡ 10) × (decimal l.number ≡ digits_of l.first l.rest ++ drop (l.first + 1) l.digits)

abbrev pub decreases-loop-rest : goal.decreases-loop-rest
decreases-loop-rest l = l.first
