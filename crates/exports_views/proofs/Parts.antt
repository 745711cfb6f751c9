-- A part by its place: `row_part` puts a view's answer as offset and length, and the asked row cut there is the view's own part. Assumes nothing.
use Prim.Native.Nat.{ℕ, zero, suc}
use mathlib.Core.Path.{◌≡◌, refl, ap}
use mathlib.Core.List.{List, [], ◌∷◌}
use lib.ListN.{length, take, drop}
use lib.Ieee.{Float}
use Rattle.std.specs.Prelude.{Result, Ok, Err}
use Rattle.std.specs.Borrow.{Bor}
use Rattle.refusal.specs.declared.Refusal.{Refusal}
use Rattle.refusal.specs.Refusal.{number}
use Rattle.refusal.proofs.Number.{number-suc}
use Rattle.masks.specs.Masks.{dofs_of}
use Rattle.arm.specs.declared.Arm.{Arm}
use Rattle.arm.specs.Arm.{mask_at, start_at, own_part}
use Rattle.arm_views.specs.declared.Role.{Role}
use Rattle.arm_views.specs.View.{Seen, seen_as, row_of, view_refusal, view_by, view_answer}
use Rattle.arm_views.specs.declared.RowPart.{RowPart}
use Rattle.exports_views.specs.Place.{placed, place_of}

-- what the view answers, by its place
module _ (a : Arm) (role : Role) (link : ℕ) (v w : List Float) (t : Result (Bor (List Float)) Refusal) (e : seen_as t ≡ view_answer a role link v w) where
  placed_as : placed (seen_as t).refusal (start_at a link) (length (seen_as t).part) ≡ place_of a role link v w
  unfolding place_of
  placed_as = ap (λ (s : Seen). placed s.refusal (start_at a link) (length s.part)) e

  pub refused_part : (r : Refusal) → t ≡ Err r → (k : ℕ) → k ≡ number r → ◌≡◌ {A = RowPart} (record { refusal = k; offset = 0; length = 0 }) (place_of a role link v w)
  unfolding placed
  refused_part r p k q = rw (q, number-suc r) (rw (p, number-suc r) at placed_as)

  pub seen_part : (part : Bor (List Float)) → t ≡ Ok part → (start : ℕ) → start ≡ start_at a link
      → ◌≡◌ {A = RowPart} (record { refusal = 0; offset = start; length = length part.now }) (place_of a role link v w)
  unfolding placed
  seen_part part p start q = rw q (rw p at placed_as)

-- ---- the asked row, cut at the place, is the part that the view returns

take_own : {A : Type 0} (n : ℕ) (xs : List A) → take (length (take n xs)) xs ≡ take n xs
take_own zero xs = refl
take_own (suc n) [] = refl
take_own (suc n) (x ∷ xs) = rw (take_own n xs)

cut_by : (k : ℕ) (a : Arm) (link : ℕ) (row : List Float)
    → let s = view_by k (own_part a link row) in
    let p = placed s.refusal (start_at a link) (length s.part) in
    take p.length (drop p.offset row) ≡ s.part
unfolding view_by placed own_part
cut_by zero a link row = take_own (dofs_of (mask_at a link)) (drop (start_at a link) row)
cut_by (suc k) a link row = refl

pub cut_there : (a : Arm) (role : Role) (link : ℕ) (v w : List Float)
    → let p = place_of a role link v w in
    take p.length (drop p.offset (row_of role v w)) ≡ (view_answer a role link v w).part
unfolding place_of view_answer
cut_there a role link v w = cut_by (view_refusal a link (length v) (length w)) a link (row_of role v w)
