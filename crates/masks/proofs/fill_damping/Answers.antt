use native.Mathlib.Omega.{arith}
use mathlib.Core.Path.{◌≡◌, ◌∙◌, sym, ap}
use Prim.Native.Nat.{ℕ}
use Rattle.lists.specs.Lists.{laid}
use Rattle.masks.specs.Masks.{dofs_below, dofs_of, damping_below, damping_row}
use Rattle.masks.proofs.Fills.{damped_none, damped_free, damped_locked}
use Rattle.masks.proofs.Laws.{below_free, dofs_le}
use Rattle.masks.proofs.fill_damping.Goals as goal
use Rattle.masks.proofs.fill_damping.Goals.{then-free, else-free}

pub loop-axis-init : goal.loop-axis-init
loop-axis-init c = (omega arith, damped_none c.args.mask c.args.lent.now)

pub offset_bounds-lent-at : goal.offset_bounds-lent-at
offset_bounds-lent-at c =
    let k = c.loop-axis in
    let m = c.args.mask in
    omega (arith, dofs_le m, below_free m k.axis (sym c.free.ensures ∙ c.if-free.true))

pub bounds-lent-at : goal.bounds-lent-at
bounds-lent-at c =
    let k = c.loop-axis in
    let m = c.args.mask in
    omega (arith, dofs_le m, below_free m k.axis (sym c.free.ensures ∙ c.if-free.true))

pub overflow_add-at : goal.overflow_add-at
overflow_add-at c =
    let k = c.loop-axis in
    let m = c.args.mask in
    omega (arith, dofs_le m, below_free m k.axis (sym c.free.ensures ∙ c.if-free.true))

pub loop-axis-preserved : goal.loop-axis-preserved
loop-axis-preserved c =
    let k = c.loop-axis in
    let m = c.args.mask in
    let old = c.args.lent.now in
    let e = sym c.free.ensures in (
      omega arith,
      elim c.if-free.branch [
        | then-free w ↦ damped_free m k.axis k.at _ old k.lent _ k.invariant.1 _ (e ∙ w.if-free.true) (omega (arith, below_free m k.axis (e ∙ w.if-free.true))) w.axis_damping.ensures w.lent-is w.at-is
        | else-free w ↦ damped_locked m k.axis k.at _ old k.lent _ k.invariant.1 (e ∙ w.if-free.false) w.lent-is w.at-is
      ],
    )

pub returns : goal.returns
unfolding damping_row dofs_of
returns c =
    let k = c.loop-axis in
    let a = c.args in
    let e : k.axis ≡ 3 = omega arith in (
      k.invariant.1.place ∙ ap (λ (n : ℕ). dofs_below a.mask n) e,
      k.invariant.1.row ∙ ap (λ (n : ℕ). laid (damping_below a.mask n) a.lent.now) e,
    )
