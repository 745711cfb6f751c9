-- A list with one element changed. Assumes nothing.
use Prim.Native.Nat.{ℕ, zero, suc, ◌<◌}
use mathlib.Core.Path.{◌≡◌, refl, sym, ap, ◌∙◌}
use mathlib.Core.Logic.{◌≢◌}
use mathlib.Core.Bool.{Bool, true}
use mathlib.Core.List.{List, [], ◌∷◌, map}
use native.Mathlib.Omega.{arith}
use lib.ListN.{length, take, get_or, set}
use lib.Seq.{take_all}
use Rattle.lists.specs.Lists.{modify}
use Rattle.lists.specs.Tests.{every}
use Rattle.lists.proofs.Bools.{both_hold, both}

module _ {A : Type 0} (f : A → A) where
  pub length-modify : (i : ℕ) (xs : List A) → length (modify f i xs) ≡ length xs
  unfolding modify
  length-modify i [] = refl
  length-modify zero (x ∷ xs) = refl
  length-modify (suc i) (x ∷ xs) = ap suc (length-modify i xs)

  pub modify_same : (i : ℕ) (xs : List A) (d : A) → i < length xs → get_or (modify f i xs) i d ≡ f (get_or xs i d)
  unfolding modify
  modify_same i [] d h = absurd (omega arith)
  modify_same zero (x ∷ xs) d h = refl
  modify_same (suc i) (x ∷ xs) d h = modify_same i xs d (omega arith)

  pub modify_other : (i j : ℕ) (xs : List A) (d : A) → j ≢ i → get_or (modify f i xs) j d ≡ get_or xs j d
  unfolding modify
  modify_other i j [] d h = refl
  modify_other zero zero (x ∷ xs) d h = absurd (h refl)
  modify_other zero (suc j) (x ∷ xs) d h = refl
  modify_other (suc i) zero (x ∷ xs) d h = refl
  modify_other (suc i) (suc j) (x ∷ xs) d h = modify_other i j xs d (λ e. h (ap suc e))

  -- as a store, of a front, of g of each
  pub set-modify : (xs : List A) (i : ℕ) (d y : A) → y ≡ f (get_or xs i d) → set xs i y ≡ modify f i xs
  unfolding modify
  set-modify [] i d y e = refl
  set-modify (x ∷ xs) zero d y e = ap (λ (z : A). z ∷ xs) e
  set-modify (x ∷ xs) (suc i) d y e = ap (λ (l : List A). x ∷ l) (set-modify xs i d y e)

  pub take-modify : (n : ℕ) (xs : List A) (i : ℕ) → take n (modify f i xs) ≡ modify f i (take n xs)
  unfolding modify
  take-modify zero xs i = refl
  take-modify (suc n) [] i = refl
  take-modify (suc n) (x ∷ xs) zero = refl
  take-modify (suc n) (x ∷ xs) (suc i) = ap (λ (l : List A). x ∷ l) (take-modify n xs i)

  -- seen through g, the change is h
  pub map-modify : {B : Type 0} (g : A → B) (h : B → B) → ((x : A) → g (f x) ≡ h (g x)) → (xs : List A) (i : ℕ)
      → map g (modify f i xs) ≡ modify h i (map g xs)
  unfolding modify
  map-modify g h e [] i = refl
  map-modify {B} g h e (x ∷ xs) zero = ap (λ (y : B). y ∷ map g xs) (e x)
  map-modify {B} g h e (x ∷ xs) (suc i) = ap (λ (l : List B). g x ∷ l) (map-modify g h e xs i)

  -- what g does not see
  pub map_modify_same : {B : Type 0} (g : A → B) → ((x : A) → g (f x) ≡ g x) → (xs : List A) (i : ℕ) → map g (modify f i xs) ≡ map g xs
  unfolding modify
  map_modify_same g e [] i = refl
  map_modify_same {B} g e (x ∷ xs) zero = ap (λ (y : B). y ∷ map g xs) (e x)
  map_modify_same {B} g e (x ∷ xs) (suc i) = ap (λ (l : List B). g x ∷ l) (map_modify_same g e xs i)

  -- what the change leaves of each
  pub modify_field : {B : Type 0} (g : A → B) → ((x : A) → g (f x) ≡ g x) → (i j : ℕ) (xs : List A) (d : A) → g (get_or (modify f i xs) j d) ≡ g (get_or xs j d)
  unfolding modify
  modify_field g h i j [] d = refl
  modify_field g h zero zero (x ∷ xs) d = h x
  modify_field g h zero (suc j) (x ∷ xs) d = refl
  modify_field g h (suc i) zero (x ∷ xs) d = refl
  modify_field g h (suc i) (suc j) (x ∷ xs) d = modify_field g h i j xs d

  -- a test that the changed one passes
  pub modify_tests : (test : A → Bool) (n i : ℕ) (xs : List A) (d : A) → every test (take n xs) ≡ true → (test (get_or xs i d) ≡ true → test (f (get_or xs i d)) ≡ true)
      → every test (take n (modify f i xs)) ≡ true
  unfolding modify
  modify_tests test zero i xs d e h = refl
  modify_tests test (suc n) i [] d e h = refl
  modify_tests test (suc n) zero (x ∷ xs) d e h = let p = both_hold (test x) (every test (take n xs)) e in both (h p.0) p.1
  modify_tests test (suc n) (suc i) (x ∷ xs) d e h =
      let p = both_hold (test x) (every test (take n xs)) e in
      both p.0 (modify_tests test n i xs d p.1 h)

  pub modify_every : (test : A → Bool) (i : ℕ) (xs : List A) (d : A) → every test xs ≡ true → (test (get_or xs i d) ≡ true → test (f (get_or xs i d)) ≡ true)
      → every test (modify f i xs) ≡ true
  modify_every test i xs d e h =
      ap (every test) (sym (take_all (length xs) (modify f i xs) (omega (arith, length-modify i xs))))
      ∙ modify_tests test (length xs) i xs d (ap (every test) (take_all (length xs) xs (omega arith)) ∙ e) h
