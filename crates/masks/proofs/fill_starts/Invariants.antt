-- `fill_starts`: the starts of the masks so far are laid over the memory, and the next start is their total. Assumes nothing.
use Rattle.std.proofs.Common.{◌≡◌, length}
use Rattle.lists.specs.Lists.{laid}
use Rattle.masks.specs.Starts.{start_of, starts_to}
use Rattle.masks.proofs.fill_starts.Given as goal

abbrev pub invariant-loop-i : goal.invariant-loop-i
invariant-loop-i l =
    (l.start ≡ start_of l.masks l.i) × (length l.lent ≡ length l.initial.lent) × (l.lent ≡ laid (starts_to l.masks l.i) l.initial.lent)
