-- Places that agree on the links that count give the same part. Assumes nothing.
use Prim.Native.Nat.{ℕ, zero, suc, min, ◌<◌}
use mathlib.Core.Path.{◌≡◌, refl, ap, ap₂}
use mathlib.Core.Bool.{Bool, true, false, cond, not, ◌&&◌}
use mathlib.Core.List.{List, [], ◌∷◌, ◌++◌, map}
use native.Mathlib.Omega.{arith}
use lib.Ieee.{Float}
use Rattle.arm.specs.Setters.{with_inputs}
use Rattle.lists.specs.Numbers.{gathered}
use Rattle.lists.proofs.Bools.{both_hold}
use Rattle.limits.specs.Limits.{coupling_limit}
use Rattle.arm.specs.declared.Link.{Link}
use Rattle.arm.specs.declared.Coupling.{Coupling}
use Rattle.arm.specs.declared.Row.{Row}
use Rattle.arm.specs.declared.Arm.{Arm}
use Rattle.arm.specs.Arm.{live_links, link_at, coupling_at, own_part}
use Rattle.part_arm.specs.Places.{Places, goes_on}
use Rattle.part_arm.specs.Part.{new_link, part_links, part_entries, part_row, coupling_stays, new_coupling, part_couplings, part_arm}

pub gathered_same : {A : Type 0} (n : ℕ) (f g : ℕ → List A) → ((j : ℕ) → j < n → f j ≡ g j) → gathered n f ≡ gathered n g
unfolding gathered
gathered_same zero f g h = refl
gathered_same (suc n) f g h = ap₂ ◌++◌ (gathered_same n f g (λ j l. h j (omega arith))) (h n (omega arith))

map_same : {A B : Type 0} (f g : A → B) → ((x : A) → f x ≡ g x) → (xs : List A) → map f xs ≡ map g xs
map_same f g h [] = refl
map_same f g h (x ∷ xs) = ap₂ ◌∷◌ (h x) (map_same f g h xs)

-- p and q agree on the first n links, and the parent of one that goes on is here too
pub record Agree (a : Arm) (p q : Places) : Type 0 where
  pub here : (j : ℕ) → j < live_links a → p.here j ≡ q.here j
  pub head : (j : ℕ) → j < live_links a → q.here j ≡ true → p.head j ≡ q.head j
  pub number : (j : ℕ) → j < live_links a → q.here j ≡ true → p.number j ≡ q.number j
  pub parent : (j : ℕ) → j < live_links a → q.here j ≡ true → q.head j ≡ false
      → ((link_at a.links j).parent < live_links a) × (q.here (link_at a.links j).parent ≡ true)
  pub links : (i : ℕ) → i < min a.coupling_count coupling_limit → ((coupling_at a i).link1 < live_links a) × ((coupling_at a i).link2 < live_links a)

module _ (a : Arm) (p q : Places) (same : Agree a p q) where
  goes_same : (j : ℕ) → j < live_links a → goes_on p j ≡ goes_on q j
  goes_same j h = rw (same.here j h) (go (q.here j) refl)
    where
      go : (b : Bool) → q.here j ≡ b → (b && not (p.head j)) ≡ (b && not (q.head j))
      go true e = ap not (same.head j h e)
      go false e = refl

  link_same : (j : ℕ) → j < live_links a → q.here j ≡ true → (b : Bool) → q.head j ≡ b
      → new_link b (p.number (link_at a.links j).parent) (link_at a.links j) ≡ new_link b (q.number (link_at a.links j).parent) (link_at a.links j)
  unfolding new_link
  link_same j h e true f = refl
  link_same j h e false f =
      let up = same.parent j h e f in
      ap (λ (x : ℕ). let l = link_at a.links j in with_inputs l x l.joint l.centre) (same.number _ up.0 up.1)

  links_same : part_links p a ≡ part_links q a
  unfolding part_links
  links_same = gathered_same (live_links a) _ _ (λ j h. rw (same.here j h) (go j h (q.here j) refl))
    where
      go : (j : ℕ) → j < live_links a → (b : Bool) → q.here j ≡ b
          → cond b (new_link (p.head j) (p.number (link_at a.links j).parent) (link_at a.links j) ∷ []) []
          ≡ cond b (new_link (q.head j) (q.number (link_at a.links j).parent) (link_at a.links j) ∷ []) []
      go j h true e = rw (same.head j h e) (ap (λ (l : Link). l ∷ []) (link_same j h e (q.head j) refl))
      go j h false e = refl

  entries_same : (entries : List Float) → part_entries p a entries ≡ part_entries q a entries
  unfolding part_entries
  entries_same entries = gathered_same (live_links a) _ _ (λ j h. ap (λ (b : Bool). cond b (own_part a j entries) []) (goes_same j h))

  row_same : (row : Row) → part_row p a row ≡ part_row q a row
  unfolding part_row
  row_same row = rw (entries_same row.entries)

  -- the couplings that count
  module _ (i : ℕ) (h : i < min a.coupling_count coupling_limit) where
    stays_same : coupling_stays p (coupling_at a i) ≡ coupling_stays q (coupling_at a i)
    unfolding coupling_stays
    stays_same = ap₂ ◌&&◌ (goes_same _ (same.links i h).0) (goes_same _ (same.links i h).1)

    both_here : coupling_stays q (coupling_at a i) ≡ true → (q.here (coupling_at a i).link1 ≡ true) × (q.here (coupling_at a i).link2 ≡ true)
    unfolding coupling_stays
    both_here e = let h = both_hold (goes_on q (coupling_at a i).link1) _ e in ((both_hold _ _ h.0).0, (both_hold _ _ h.1).0)

    coupling_same : coupling_stays q (coupling_at a i) ≡ true → new_coupling p.number (coupling_at a i) ≡ new_coupling q.number (coupling_at a i)
    unfolding new_coupling
    coupling_same e = rw (same.number _ (same.links i h).0 (both_here e).0, same.number _ (same.links i h).1 (both_here e).1)

  couplings_same : part_couplings p a ≡ part_couplings q a
  unfolding part_couplings
  couplings_same = gathered_same (min a.coupling_count coupling_limit) _ _ (λ i h. rw (stays_same i h) (go i h (coupling_stays q (coupling_at a i)) refl))
    where
      go : (i : ℕ) → i < min a.coupling_count coupling_limit → (b : Bool) → coupling_stays q (coupling_at a i) ≡ b
          → cond b (new_coupling p.number (coupling_at a i) ∷ []) [] ≡ cond b (new_coupling q.number (coupling_at a i) ∷ []) []
      go i h true e = ap (λ (c : Coupling). c ∷ []) (coupling_same i h e)
      go i h false e = refl

  pub part_same : part_arm p a ≡ part_arm q a
  unfolding part_arm
  part_same = cc (links_same, couplings_same, map_same (part_row p a) (part_row q a) row_same a.rows)
