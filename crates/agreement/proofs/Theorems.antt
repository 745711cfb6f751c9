-- Every call on arms that agree up to their counts: the same refusal, the same lent memory, and arms that agree. Assumes nothing.
use Prim.Native.Nat.{ℕ, ◌≤◌}
use mathlib.Core.Path.{◌≡◌, refl, sym, ap, ◌∙◌}
use mathlib.Core.List.{List}
use borrow.Author.Tests.{leb-true, ltb-true}
use lib.Dec.{ltb}
use lib.ListN.{length}
use lib.Ieee.{Float}
use Rattle.arm.specs.Sized.{Sized}
use Rattle.limits.specs.Limits.{table_size}
use Rattle.refusal.specs.Refusal.{unless_of}
use Rattle.refusal.proofs.Laws.{none_of}
use Rattle.refusal.proofs.Tests.{holds}
use Rattle.topology.specs.declared.Split.{Split}
use Rattle.topology.specs.Parents.{marks}
use Rattle.arm.specs.declared.Arm.{Arm}
use Rattle.arm.specs.Arm.{tags_of}
use Rattle.arm.specs.HandedIn.{arm_refusal}
use Rattle.arm.specs.Agree.{Agree}
use Rattle.arm.proofs.Agree.{same_parents, same_mask_at, same_arm_refusal}
use Rattle.kinematics.specs.State.{marked, only}
use Rattle.full_working.specs.Outcome.{tables_fit}
use Rattle.full_working.specs.Full.{full_refusal, full_working}
use Rattle.one_link_move.specs.declared.Change.{Change}
use Rattle.one_link_move.specs.Move.{move_refusal, link_moved}
use Rattle.addition.specs.declared.NewLink.{NewLink}
use Rattle.addition.specs.Addition.{add_refusal, link_added}
use Rattle.addition.proofs.Tests.{passed}
use Rattle.whole_step.specs.Step.{arm_after, step_refusal, whole_step}
use Rattle.root_change.specs.declared.Root.{Root}
use Rattle.root_change.specs.Root.{root_refusal, changed_root}
use Rattle.arm_split.specs.Answers.{split_refusal, arm_split, part_refusal, arm_part}
use Rattle.agreement.specs.Respects.{Respects, AllRespect}
use Rattle.agreement.proofs.Worked.{call_alike, workable, marked_alike, all_alike}
use Rattle.agreement.proofs.Moved.{workable_moved}
use Rattle.agreement.proofs.Added.{workable_added}
use Rattle.agreement.proofs.Stepped.{agree_stepped, workable_stepped}
use Rattle.agreement.proofs.Rooted.{Passed, workable_rooted}
use Rattle.agreement.proofs.Parted.{part_same}

-- the test of the tables
fitting : (t : List Float) → unless_of (tables_fit t) 1 ≡ 0 → table_size ≤ length t
fitting t e = leb-true table_size (length t) (holds (tables_fit t) 0 e)

-- ---- the full working

full_refused : (a b : Arm) (t : List Float) → Agree a b → full_refusal a t ≡ full_refusal b t
unfolding full_refusal
full_refused a b t g = rw (same_arm_refusal a b g)

full_passed : (a : Arm) (t : List Float) → full_refusal a t ≡ 0 → (table_size ≤ length t) × (arm_refusal a ≡ 0)
unfolding full_refusal
full_passed a t e = let p = none_of _ _ e in (fitting t p.0, p.1)

pub full_respects : Respects full_working
unfolding full_working
full_respects a b t s r g =
    call_alike a b t _ _ _ _ g (full_refused a b t g) (λ e.
    let p = full_passed a t e in
    all_alike a b a b t g (workable a a b p.1 refl refl g s.links r.links) p.0)

-- ---- the one-link move

move_refused : (a b : Arm) (t : List Float) (link : ℕ) (change : Change) → Agree a b → move_refusal a t link change ≡ move_refusal b t link change
unfolding move_refusal
move_refused a b t link change g = cc (g.link_count, same_mask_at a b g link, same_parents a b g, same_arm_refusal a b g)

move_passed : (a : Arm) (t : List Float) (link : ℕ) (change : Change) → move_refusal a t link change ≡ 0 → (table_size ≤ length t) × (arm_refusal a ≡ 0)
unfolding move_refusal
move_passed a t link change e =
    let p₁ = none_of _ _ e in
    let p₆ = none_of _ _ (none_of _ _ (none_of _ _ p₁.1).1).1 in
    let p₉ = none_of _ _ (none_of _ _ (none_of _ _ p₆.1).1).1 in
    (fitting t p₁.0, p₉.1)

pub move_respects : (link : ℕ) (change : Change) → Respects (λ a t. link_moved a t link change)
unfolding link_moved
move_respects link change a b t s r g =
    call_alike a b t _ _ _ _ g (move_refused a b t link change g) (λ e.
    let p = move_passed a t link change e in
    marked_alike a b _ _ t g (workable_moved link change a b s r g p.1) p.0 _ _ (ap (λ (ps : List ℕ). marked (marks ps link)) (same_parents a b g)))

-- ---- the addition

add-refused : (a b : Arm) (t : List Float) (new : NewLink) → Agree a b → add_refusal a t new ≡ add_refusal b t new
unfolding add_refusal tags_of
add-refused a b t new g = cc (g.link_count, g.links, same_arm_refusal a b g)

pub addition_respects : (new : NewLink) → Respects (λ a t. link_added a t new)
unfolding link_added
addition_respects new a b t s r g =
    call_alike a b t _ _ _ _ g (add-refused a b t new g) (λ e.
    let k = passed a t new e in
    let l = passed b t new (sym (add-refused a b t new g) ∙ e) in
    marked_alike a b _ _ t g (workable_added a b s r g t new k l) (leb-true _ _ k.fits) _ _ (ap only g.link_count))

-- ---- the whole step

step_refused : (a b : Arm) → Sized a → Sized b → Agree a b → (t : List Float) (dt : Float) → step_refusal a (arm_after a dt) t dt ≡ step_refusal b (arm_after b dt) t dt
unfolding step_refusal
step_refused a b s r g t dt = cc ((agree_stepped a b s.links r.links g dt).links, same_arm_refusal a b g)

step_passed : (a : Arm) (t : List Float) (dt : Float) → step_refusal a (arm_after a dt) t dt ≡ 0 → (table_size ≤ length t) × (arm_refusal a ≡ 0)
unfolding step_refusal
step_passed a t dt e =
    let p₁ = none_of _ _ e in
    let p₉ = none_of _ _ (none_of _ _ p₁.1).1 in
    (fitting t p₁.0, (none_of _ _ p₉.1).0)

pub step_respects : (dt : Float) → Respects (λ a t. whole_step a t dt)
unfolding whole_step
step_respects dt a b t s r g =
    call_alike a b t _ _ _ _ g (step_refused a b s r g t dt) (λ e.
    let p = step_passed a t dt e in
    all_alike a b _ _ t g (workable_stepped a b s.links r.links g dt p.1) p.0)

-- ---- the root change

root_refused : (a b : Arm) (t : List Float) (root : Root) → Agree a b → root_refusal a t root ≡ root_refusal b t root
unfolding root_refusal
root_refused a b t root g = cc (g.link_count, same_arm_refusal a b g)

root_passed : (a : Arm) (t : List Float) (root : Root) → root_refusal a t root ≡ 0 → (table_size ≤ length t) × Passed a
unfolding root_refusal
root_passed a t root e =
    let p₁ = none_of _ _ e in
    let p₄ = none_of _ _ p₁.1 in
    let p₈ = none_of _ _ (none_of _ _ p₄.1).1 in
    (fitting t p₁.0, record { some = ltb-true 0 a.link_count (holds (ltb 0 a.link_count) 3 p₄.0); arm = p₈.1 })

pub root_respects : (root : Root) → Respects (λ a t. changed_root a t root)
unfolding changed_root
root_respects root a b t s r g =
    call_alike a b t _ _ _ _ g (root_refused a b t root g) (λ e.
    let k = root_passed a t root e in
    let l = root_passed b t root (sym (root_refused a b t root g) ∙ e) in
    all_alike a b _ _ t g (workable_rooted a b s r g root k.1 l.1) k.0)

-- ---- the parts of a split

part_refused : (a b : Arm) (s : Split) (k : ℕ) (t : List Float) → Agree a b → part_refusal a s k t ≡ part_refusal b s k t
unfolding part_refusal
part_refused a b s k t g = cc (g.link_count, same_parents a b g, same_arm_refusal a b g)

pub part_alike : (s : Split) (k : ℕ) (t : List Float) (a b : Arm) → Sized a → Sized b → Agree a b → arm_part a s k t ≡ arm_part b s k t
unfolding arm_part
part_alike s k t a b x y g = rw (part_refused a b s k t g, part_same a b x y g s k)

pub split_same : (s : Split) (m : List ℕ) (a b : Arm) → Agree a b → arm_split a s m ≡ arm_split b s m
unfolding arm_split split_refusal
split_same s m a b g = cc (g.link_count, same_parents a b g, same_arm_refusal a b g)

-- ---- all of them

pub all_respect : AllRespect
all_respect = record {
  full = full_respects;
  move = move_respects;
  addition = addition_respects;
  step = step_respects;
  root = root_respects;
  part = part_alike;
  split = split_same;
}
