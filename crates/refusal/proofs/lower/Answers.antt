-- `lower` is the lower of two: each of its answers is that of the law for its case.
use Rattle.std.proofs.Common.{sym, arith}
use Rattle.refusal.specs.Refusal.{lower_of}
use Rattle.refusal.proofs.Laws.{is_less, is_least, without_second}
use Rattle.refusal.proofs.Number.{number_positive}
use Rattle.refusal.proofs.lower.Goals as goal

pub returns-in-Ok-default : goal.returns-in-Ok-default
unfolding lower_of
returns-in-Ok-default c = rw c.in-Ok-default.is-0

pub returns-in_default-Ok : goal.returns-in_default-Ok
returns-in_default-Ok c = rw c.in_default-Ok.is-1 (sym (without_second _))

pub returns-then-number : goal.returns-then-number
returns-then-number c =
    rw (c.in-Err-Err.is-0, c.in-Err-Err.is-1)
    (sym (is_less _ _ (number_positive c.in-Err-Err.x) (omega arith)))

pub returns-else-number : goal.returns-else-number
returns-else-number c =
    rw (c.in-Err-Err.is-0, c.in-Err-Err.is-1)
    (sym (is_least _ _ (number_positive c.in-Err-Err.y) (omega arith)))
