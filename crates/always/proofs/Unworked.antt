-- An edit of what no link's results are worked out from is a call that works no link out, and so keeps the promise of a call on one link. Assumes nothing.
use Prim.Native.Nat.{ℕ, zero, suc, ◌≤◌}
use mathlib.Core.Path.{◌≡◌, refl, ap₂, subst, ◌∙◌}
use mathlib.Core.Bool.{Bool}
use mathlib.Core.List.{List}
use lib.ListN.{length}
use lib.Ieee.{Float}
use Rattle.arm.specs.Sized.{Sized}
use Rattle.limits.specs.Limits.{link_limit, table_size}
use Rattle.arm.specs.declared.Arm.{Arm}
use Rattle.arm.specs.Edits.{edited}
use Rattle.kinematics.specs.State.{State}
use Rattle.kinematics.specs.Promises.{Ready}
use Rattle.full_working.specs.Outcome.{out, says, unless_refused, worked_marked}
use Rattle.full_working.specs.Full.{Settled}
use Rattle.one_link.specs.Promise.{Right}
use Rattle.one_link.proofs.Settles.{worked_to, worked_marked_lem, nowhere, left_alone, untested, Facts, facts}
use Rattle.one_link.proofs.Right.{Edit, right}

-- links that stay are as fresh as they were
pub still_ready : (a : Arm) (t : List Float) → Facts a t → Ready a.links a.link_count nowhere t
still_ready a t k = record { closed = λ j h q z. z; fresh = λ j h z. k.fresh j h; finite = λ j h z. k.finite j h; unused = k.unused }

unworked : (a new : Arm) (t : List Float) → new.link_count ≤ link_limit → table_size ≤ length t → worked_marked a new nowhere t ≡ says 0 new t
unworked a new t few long =
    worked_marked_lem a new t few long nowhere
    ∙ ap₂ (λ (f : Bool) (s : State). worked_to f a new s t) (untested new.links new.link_count t) (left_alone new.links new.link_count t)

pub edit_right : (a : Arm) (t : List Float) → Sized a → Settled a t → (own : ℕ) (new : Arm) (Below : ℕ → Type 0) → (own ≡ 0 → Edit a t new nowhere Below)
    → Right a t own new Below (out (edited own a new) t)
unfolding edited unless_refused
edit_right a t sized settled own new Below e = subst (Right a t own new Below) (is own e) (right a t sized settled own new nowhere Below e)
  where
    is : (k : ℕ) → (k ≡ 0 → Edit a t new nowhere Below) → unless_refused k a t (worked_marked a new nowhere t) ≡ out (edited k a new) t
    is zero e = unworked a new t (e refl).few (facts a t sized.links settled).long
    is (suc k) e = refl
