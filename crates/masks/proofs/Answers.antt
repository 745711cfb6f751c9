-- What a passed list of refusals says. Assumes nothing.
use Prim.Native.Nat.{ℕ, ◌≤◌}
use mathlib.Core.Path.{◌≡◌, refl}
use mathlib.Core.Logic.{inl, inr}
use mathlib.Core.List.{List, [], ◌∷◌}
use borrow.Author.Tests.{leb-true}
use lib.Dec.{leb}
use lib.ListN.{length}
use Rattle.limits.specs.Limits.{link_limit}
use Rattle.refusal.specs.Refusal.{unless_of}
use Rattle.refusal.proofs.Laws.{is_lowest}
use Rattle.refusal.proofs.Tests.{holds}
use Rattle.masks.specs.Masks.{is_mask, dofs_of}
use Rattle.masks.specs.Starts.{all_masks}
use Rattle.masks.specs.Answers.{starts_refusal, damping_refusal}

-- accepted starts fit the lent memory, and an arm
pub starts_fit : (masks : List ℕ) (room : ℕ) → starts_refusal masks room ≡ 0 → (length masks ≤ link_limit) × (length masks ≤ room)
unfolding starts_refusal
starts_fit masks room h =
    let low =
    is_lowest
    (unless_of (leb (length masks) room) 1 ∷ unless_of (leb (length masks) link_limit) 2 ∷ unless_of (all_masks masks) 5 ∷ []) in
    (leb-true _ _ (holds _ 1 (low.none h _ (inr (inl refl)))), leb-true _ _ (holds _ 0 (low.none h _ (inl refl))))

-- an accepted damping row fits the lent memory
pub damping_fits : (mask room : ℕ) → damping_refusal mask room ≡ 0 → dofs_of mask ≤ room
unfolding damping_refusal
damping_fits mask room h =
    let low = is_lowest (unless_of (leb (dofs_of mask) room) 1 ∷ unless_of (is_mask mask) 5 ∷ []) in
    leb-true _ _ (holds _ 0 (low.none h _ (inl refl)))
