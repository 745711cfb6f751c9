-- The branch of a link of an arm: an accepted call is accepted for the bare parents. Assumes nothing.
use Prim.Native.Nat.{ℕ, ◌≤◌, ◌<◌}
use mathlib.Core.Path.{◌≡◌, refl, sym, ap, ◌∙◌}
use mathlib.Core.Bool.{Bool, true}
use mathlib.Core.Logic.{inl, inr}
use mathlib.Core.List.{List, map}
use native.Mathlib.Omega.{arith}
use borrow.Author.Tests.{le-leb, ltb-true, lt-ltb}
use lib.Dec.{leb}
use lib.ListN.{length, length-map}
use Rattle.refusal.proofs.Laws.{is_lowest, holds_in}
use Rattle.refusal.specs.Counted.{filled}
use Rattle.limits.specs.Limits.{link_limit}
use Rattle.refusal.specs.Refusal.{lower_of}
use Rattle.topology.specs.Parents.{parents_fit, branch}
use Rattle.topology.specs.Answers.{refusal_of, branch_answer}
use Rattle.arm.specs.declared.Arm.{Arm}
use Rattle.arm.specs.Arm.{is_link, parents_of, parent_of}
use Rattle.arm.specs.HandedIn.{parents_earlier, arm_refusal}
use Rattle.arm.proofs.Accepted.{accepted, counts_accepted}
use Rattle.arm.proofs.Live.{parents_live}
use Rattle.arm_views.specs.Branch.{branch_needed, branch_entries, branch_refusal, arm_branch}

-- ---- the bare parents

-- all tests hold
bare_accepted : (ps : List ℕ) (link : ℕ) (enough : Bool) → enough ≡ true → length ps ≤ link_limit → link < length ps → parents_fit ps ≡ true
    → refusal_of ps link enough ≡ 0
unfolding refusal_of lower_of
bare_accepted ps link enough p q l f = rw (p, le-leb (length ps) link_limit q, lt-ltb link (length ps) l, f)

-- ---- the arm

pub arm_needed : (a : Arm) (link n : ℕ) (ps : List ℕ) → n ≡ length (branch ps link) → ps ≡ parents_of a → n ≡ branch_needed a link
unfolding branch_needed
arm_needed a link n ps e p = e ∙ ap (λ (l : List ℕ). length (branch l link)) p

-- an accepted call is accepted for the bare parents
pub branch_accepted : (a : Arm) (link : ℕ) (ps m : List ℕ) → length a.links ≡ link_limit → branch_refusal a link (length m) ≡ 0
    → ps ≡ parents_of a → branch_answer ps link m ≡ arm_branch a link m
unfolding arm_branch branch_answer branch_refusal branch_needed parents_earlier
branch_accepted a link ps m w e q =
    let b = branch (parents_of a) link in
    let ks = branch_entries a link (length m) in
    let arm = (is_lowest ks).none e (arm_refusal a) (inr (inr (inl refl))) in
    let below = ltb-true link a.link_count (holds_in ks e (is_link a link) 3 (inr (inl refl))) in
    let room = (counts_accepted a arm).0 in
    let l : link < length (parents_of a) = omega (arith, parents_live a w) in
    let few : length (parents_of a) ≤ link_limit = omega (arith, parents_live a w) in
    let enough = holds_in ks e (leb (length b) (length m)) 0 (inl refl) in
    rw q
    (ap (λ (k : ℕ). filled k (length b) b m)
    (bare_accepted (parents_of a) link (leb (length b) (length m)) enough few l (accepted a arm).parents ∙ sym e))

-- the array of all parents tells how long the array of links is
pub whole_by_parents : (a : Arm) (ps : List ℕ) → length ps ≡ link_limit → ps ≡ map parent_of a.links → length a.links ≡ link_limit
whole_by_parents a ps w e = sym (length-map a.links parent_of) ∙ ap length (sym e) ∙ w
