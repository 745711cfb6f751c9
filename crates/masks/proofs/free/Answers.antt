-- `free`: the axis that the number names has a clear bit. Assumes nothing.
use Rattle.masks.proofs.Laws.{free_named}
use Rattle.masks.proofs.free.Goals as goal

pub returns : goal.returns
returns c =
    free_named _ _ c.try_from.result _ c.try_from.ensures
    (λ a e. let h = rw e at c.is_ok_and.ensures in cc)
    (λ r e. rw e at c.is_ok_and.ensures)
