-- Over a settled arm every unused place of the tables holds +0: the tables are what the full pass left, and its results were finite. Assumes nothing.
use Prim.Native.Nat.{ℕ, zero, suc}
use mathlib.Core.Path.{◌≡◌, sym, ap, subst, ◌∙◌}
use mathlib.Core.List.{List}
use native.Mathlib.Omega.{arith}
use lib.ListN.{length}
use lib.Ieee.{Float}
use Rattle.limits.specs.Limits.{link_limit}
use Rattle.arm.specs.declared.Arm.{Arm}
use Rattle.arm.specs.Arm.{live_links}
use Rattle.kinematics.specs.Blocks.{block_at}
use Rattle.kinematics.specs.State.{state_after, cleared, every_link}
use Rattle.kinematics.specs.Unused.{ZeroAt, UnusedZero}
use Rattle.kinematics.proofs.Columns.{unused_left}
use Rattle.full_working.specs.Outcome.{Outcome, says, unless_refused, worked_all}
use Rattle.full_working.specs.Full.{full_refusal, full_working, Settled}
use Rattle.full_working.proofs.Again.{worked}

module _ (a : Arm) (sized : length a.links ≡ link_limit) (t : List Float) where
  pub unused_zero : Settled a t → UnusedZero a.links a.link_count t
  unfolding full_working unless_refused
  unused_zero = go (full_refusal a t)
    where
      go : (k : ℕ) → unless_refused k a t (worked_all a a t) ≡ says 0 a t → UnusedZero a.links a.link_count t
      go zero e j c l h unused =
          let w = worked a a t (ap (λ (o : Outcome). o.answer.refusal) e) in
          let same : (state_after a.links (live_links a) every_link (cleared t)).tables ≡ t = ap (λ (o : Outcome). o.memory) (sym w.leaves ∙ e) in
          subst (λ (u : List Float). ZeroAt c (block_at j u)) same
          (unused_left a.links (live_links a) t (record { places = sized; few = omega arith; long = w.long }) w.fine j c l h (λ u.
          unused (record { counted = omega (arith, u.counted); link = u.link; above = u.above; own = u.own })))
      go (suc k) e j c l h unused =
          let z : suc k ≡ 0 = ap (λ (o : Outcome). o.answer.refusal) e in
          absurd (omega arith)
