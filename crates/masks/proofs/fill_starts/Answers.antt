use Rattle.std.proofs.Common.{ℕ, ◌≡◌, ◌∙◌, refl, ap, arith, length, get_or, length-set}
use Rattle.lists.specs.Lists.{laid}
use Rattle.masks.specs.Starts.{start_of, starts_to, starts_of, total_of}
use Rattle.masks.proofs.Fills.{starts_more, laid_none}
use Rattle.masks.proofs.Laws.{dofs_le}
use Rattle.masks.proofs.Totals.{start_all, start_le, start_next}
use Rattle.masks.proofs.fill_starts.Goals as goal

pub loop-i-init : goal.loop-i-init
unfolding start_of starts_to total_of
loop-i-init c = (refl, refl, laid_none c.args.lent.now)

pub overflow_cast-lent : goal.overflow_cast-lent
overflow_cast-lent c = omega (arith, start_le c.args.masks.now c.loop-i.i)

pub overflow_add-start : goal.overflow_add-start
overflow_add-start c =
    let k = c.loop-i in
    let ms = c.args.masks.now in
    omega (arith, start_le ms k.i, dofs_le (get_or ms k.i 0))

pub loop-i-preserved : goal.loop-i-preserved
loop-i-preserved c =
    let k = c.loop-i in
    let ms = c.args.masks.now in (
      omega (arith, start_next ms k.i 0 (omega arith)),
      simp length-set k.invariant.1,
      starts_more ms c.args.lent.now k.lent k.i k.start k.invariant.2 k.invariant.0 (omega arith),
    )

pub returns : goal.returns
unfolding starts_of
returns c =
    let k = c.loop-i in
    let ms = c.args.masks.now in
    let e : k.i ≡ length ms = omega arith in
    (k.invariant.0 ∙ start_all ms k.i (omega arith), k.invariant.2 ∙ ap (λ (n : ℕ). laid (starts_to ms n) c.args.lent.now) e)
