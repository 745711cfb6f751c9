-- Theorems about an arm's degrees of freedom: starts rise by DoF counts, and no two free axes share an entry. Assumes nothing.
use Prim.Native.Nat.{ℕ, zero, suc, ◌+◌, ◌≤◌, ◌<◌}
use mathlib.Core.Path.{◌≡◌, refl, sym, ap, ◌∙◌}
use mathlib.Core.Bool.{true}
use native.Mathlib.Omega.{arith}
use native.Mathlib.Decide.{dec_lt}
use lib.ListN.{length, length-map}
use Rattle.refusal.specs.Refusal.{Lowest}
use Rattle.refusal.proofs.Laws.{is_lowest}
use Rattle.masks.specs.Masks.{one, is_free, dofs_below, dofs_of}
use Rattle.masks.proofs.Laws.{below_suc, below_free}
use Rattle.masks.proofs.Totals.{start_next, start_room}
use Rattle.arm.specs.declared.Arm.{Arm}
use Rattle.arm.specs.Arm.{links_of, locked_of, masks_of, mask_at, start_at}
use Rattle.arm.specs.Edits.{edited, dof_at}
use Rattle.arm.specs.HandedIn.{arm_rules, arm_refusal}
use Rattle.arm.specs.Words.{FreeAxis}

-- ---- the refusal of an arm handed in is the lowest of its six entries

pub arm_lowest : (a : Arm) → Lowest (arm_rules a) (arm_refusal a)
unfolding arm_refusal
arm_lowest a = is_lowest (arm_rules a)

-- ---- a refusal returns the arm as it came, an accepted edit the new one

pub refused_still : (k : ℕ) (old new : Arm) → ((edited k old new).refusal ≡ 0 → ⊥) → (edited k old new).arm ≡ old
unfolding edited
refused_still zero old new h = absurd (h refl)
refused_still (suc k) old new h = refl

pub accepted_made : (k : ℕ) (old new : Arm) → k ≡ 0 → (edited k old new).arm ≡ new
unfolding edited
accepted_made zero old new e = refl
accepted_made (suc k) old new e = absurd (omega arith)

-- ---- starts

module _ (a : Arm) where
  masks_long : length (masks_of a) ≡ length (links_of a)
  unfolding masks_of
  masks_long = length-map (links_of a) locked_of

  -- a link's start and its DoFs give the next link's start
  pub starts_rise : (link : ℕ) → link < length (links_of a) → start_at a (link + 1) ≡ start_at a link + dofs_of (mask_at a link)
  unfolding start_at mask_at
  starts_rise link h = start_next (masks_of a) link 7 (omega (arith, masks_long))

  -- the entries of a link end where those of a later one start, or earlier
  pub parts_apart : (i j : ℕ) → i < length (links_of a) → i < j → start_at a i + dofs_of (mask_at a i) ≤ start_at a j
  unfolding start_at mask_at
  parts_apart i j h l = start_room (masks_of a) i j 7 (omega (arith, masks_long)) l

  -- within a link, free axes have rising entries
  below-rises : (m x y : ℕ) → is_free m x ≡ true → x < y → dofs_below m x < dofs_below m y
  below-rises m x zero f l = absurd (omega arith)
  below-rises m x (suc y) f l = elim (dec_lt x y) [
    | yes k ↦ omega (arith, below-rises m x y f k, below_suc m y)
    | no k ↦ let e : x ≡ y = omega arith in omega (arith, below_suc m y, ap one (sym (ap (is_free m) e) ∙ f), ap (dofs_below m) e)
  ]

  -- no two free axes share an entry
  pub dofs_apart : (i x j y : ℕ) → FreeAxis a i x → FreeAxis a j y → dof_at a i x ≡ dof_at a j y → (i ≡ j) × (x ≡ y)
  unfolding dof_at
  dofs_apart i x j y p q e = elim (dec_lt i j) [
    | yes l ↦ absurd (omega (arith, parts_apart i j p.link_there l, below_free (mask_at a i) x p.free))
    | no l ↦ elim (dec_lt j i) [
      | yes k ↦ absurd (omega (arith, parts_apart j i q.link_there k, below_free (mask_at a j) y q.free))
      | no k ↦ let s : i ≡ j = omega arith in (s, axes s)
    ]
  ]
    where
      axes : i ≡ j → x ≡ y
      axes s =
          let f : is_free (mask_at a j) x ≡ true = sym (ap (λ (k : ℕ). is_free (mask_at a k) x) s) ∙ p.free in
          let d : dofs_below (mask_at a i) x ≡ dofs_below (mask_at a j) x = ap (λ (k : ℕ). dofs_below (mask_at a k) x) s in
          let t : start_at a i ≡ start_at a j = ap (start_at a) s in
          elim (dec_lt x y) [
            | yes l ↦ absurd (omega (arith, below-rises (mask_at a j) x y f l))
            | no l ↦ elim (dec_lt y x) [
              | yes k ↦ absurd (omega (arith, below-rises (mask_at a j) y x q.free k))
              | no k ↦ omega arith
            ]
          ]
