-- What an accepted call knows: its link is there, by its place in the list of tests. Assumes nothing.
use Prim.Native.Nat.{ℕ, ◌<◌}
use mathlib.Core.Path.{◌≡◌, refl}
use mathlib.Core.Logic.{inl, inr}
use native.Mathlib.Omega.{arith}
use mathlib.Core.List.{List}
use lib.Ieee.{Float}
use Rattle.std.proofs.Common.{Result, Ok}
use Rattle.refusal.specs.declared.Refusal.{Refusal}
use Rattle.refusal.specs.Refusal.{code}
use Rattle.refusal.proofs.Answers.{passed}
use Rattle.refusal.proofs.Laws.{is_lowest, holds_in}
use Rattle.limits.specs.Limits.{link_limit}
use Rattle.arm.specs.declared.Arm.{Arm}
use Rattle.arm.specs.Arm.{is_link, live_links}
use Rattle.arm.specs.HandedIn.{arm_refusal}
use Rattle.arm.proofs.Accepted.{Link-there, there, live}
use Rattle.arm_views.specs.Links.{spring_entries, spring_refusal, mul_entries, mul_refusal}

module _ (a : Arm) (link axis : ℕ) (e : spring_refusal a link axis ≡ 0) where
  pub spring_there : Link-there a link
  unfolding spring_refusal
  spring_there =
      let ks = spring_entries a link axis in
      there a link (holds_in ks e (is_link a link) 3 (inl refl)) ((is_lowest ks).none e (arm_refusal a) (inr (inr (inl refl))))

pub mul-there : (a : Arm) (link : ℕ) (acc : List Float) → mul_refusal a link acc ≡ 0 → Link-there a link
unfolding mul_refusal
mul-there a link acc e =
    let ks = mul_entries a link acc in
    there a link (holds_in ks e (is_link a link) 3 (inr (inl refl))) ((is_lowest ks).none e (arm_refusal a) (inr (inr (inr (inl refl)))))

-- ---- what a call knows once its tests passed

module _ {A : Type 0} {t : Result A Refusal} {x : A} (a : Arm) (link : ℕ) (passes : t ≡ Ok x) where
  pub spring_live : (axis : ℕ) → code t ≡ spring_refusal a link axis → link < live_links a
  spring_live axis e = live a link (spring_there a link axis (passed passes e))

  pub mul_live : (row : List Float) → code t ≡ mul_refusal a link row → link < live_links a
  mul_live row e = live a link (mul-there a link row (passed passes e))

  -- the link's place is in the array
  pub spring_placed : (axis : ℕ) → code t ≡ spring_refusal a link axis → link < link_limit
  spring_placed axis e = let l = spring_live axis e in omega arith

  pub mul_placed : (row : List Float) → code t ≡ mul_refusal a link row → link < link_limit
  mul_placed row e = let l = mul_live row e in omega arith
