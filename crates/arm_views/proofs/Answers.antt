-- What the calls answer, accepted or refused, from what their parts give. Assumes nothing.
use Prim.Native.Nat.{ℕ, ◌<◌}
use mathlib.Core.Path.{◌≡◌, sym, ap, ◌∙◌}
use mathlib.Core.List.{List}
use native.Mathlib.Omega.{arith}
use lib.ListN.{length, take, get_or}
use lib.Seq.{get_or-take}
use lib.Ieee.{Float}
use Rattle.lists.proofs.Lists.{map_at}
use Rattle.limits.specs.Limits.{link_limit}
use Rattle.multibody_joint.specs.declared.Spring.{Spring}
use Rattle.arm.specs.declared.Link.{Link}
use Rattle.arm.specs.declared.Arm.{Arm}
use Rattle.arm.specs.Arm.{live_links, links_of}
use Rattle.arm.proofs.Live.{links_live}
use Rattle.std.proofs.Common.{Result, Ok, Err}
use Rattle.std.specs.Result.{IsErrAnd}
use Rattle.refusal.specs.declared.Refusal.{Refusal}
use Rattle.refusal.specs.Refusal.{code}
use Rattle.refusal.proofs.Answers.{passed, refused}
use Rattle.refusal.proofs.Number.{number-suc}
use Rattle.multibody_joint.specs.Joint.{zeros}
use Rattle.multibody_joint.specs.Springs.{spring_of}
use Rattle.multibody_joint.specs.Motion.{on_axes}
use Rattle.arm_views.specs.Links.{of_link, spring_refusal, no_spring, spring_in, spring_as, spring_answer, mul_refusal, axes_in, axes_as, mul_answer}
use Rattle.arm_views.proofs.Accepted.{spring_live, mul_live}

-- ---- what is read of a link that counts

pub of_link_lem : {B : Type 0} (f : Link → B) (e : B) (a : Arm) (link : ℕ) (d : Link) → length a.links ≡ link_limit → link < live_links a
    → f (get_or a.links link d) ≡ of_link f e a link
unfolding links_of
of_link_lem f e a link d w h =
    ap f (sym (get_or-take (live_links a) a.links link d h))
    ∙ sym (map_at f (take (live_links a) a.links) link d e (omega (arith, links_live a w)))

module _ {A : Type 0} {t : Result A Refusal} where
  -- ---- a spring

  pub spring_exit : {e : Refusal} → t ≡ Err e → (a : Arm) (link axis : ℕ) → code t ≡ spring_refusal a link axis → (r : Result Spring Refusal)
      → IsErrAnd r (λ y. y ≡ e) → spring_as r ≡ spring_answer a link axis
  unfolding spring_answer
  spring_exit p a link axis h (Ok x) q = absurd q
  spring_exit p a link axis h (Err y) q = rw (q, refused p h, number-suc _)

  pub spring_read : {x : A} → t ≡ Ok x → (a : Arm) (link axis : ℕ) → code t ≡ spring_refusal a link axis → length a.links ≡ link_limit → (d : Link) (s : Spring)
      → s ≡ spring_of (get_or a.links link d).joint axis → spring_as (Ok s) ≡ spring_answer a link axis
  unfolding spring_answer
  spring_read p a link axis e w d s h =
      rw (passed p e, h) (ap (λ (q : Spring). spring_as (Ok q)) (of_link_lem (spring_in axis) no_spring a link d w (spring_live a link p axis e)))

  -- ---- an entry for each axis

  pub axes_exit : {e : Refusal} → t ≡ Err e → (a : Arm) (link : ℕ) (row : List Float) → code t ≡ mul_refusal a link row → (r : Result (List Float) Refusal)
      → IsErrAnd r (λ y. y ≡ e) → axes_as r ≡ mul_answer a link row
  unfolding mul_answer
  axes_exit p a link row h (Ok x) q = absurd q
  axes_exit p a link row h (Err y) q = rw (q, refused p h, number-suc _)

  pub axes_read : {x : A} → t ≡ Ok x → (a : Arm) (link : ℕ) (row : List Float) → code t ≡ mul_refusal a link row → length a.links ≡ link_limit → (d : Link) (xs : List Float)
      → xs ≡ on_axes (get_or a.links link d).joint row → axes_as (Ok xs) ≡ mul_answer a link row
  unfolding mul_answer
  axes_read p a link row e w d xs h =
      rw (passed p e, h) (ap (λ (ys : List Float). axes_as (Ok ys)) (of_link_lem (axes_in row) zeros a link d w (mul_live a link p row e)))
