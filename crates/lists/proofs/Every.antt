-- A test of each of a list: as a loop makes it, what is tested so far, with what is left, is the whole test; at each place; of the list's parts, of a list
-- joined, changed or seen through f. By the list.
use Prim.Native.Nat.{ℕ, zero, suc, ◌+◌, ◌≤◌, ◌<◌}
use mathlib.Core.Path.{◌≡◌, refl, sym, subst, ◌∙◌, ap}
use mathlib.Core.Bool.{Bool, true, false, ◌&&◌, and-true, and_assoc}
use mathlib.Core.List.{List, [], ◌∷◌, ◌++◌, map}
use native.Mathlib.Omega.{arith}
use native.Mathlib.Numerals.{add-one}
use lib.ListN.{length, take, drop, get_or, set, replicate, drop_of_length-le}
use lib.Seq.{drop-cons, get_or-take, length-take-le}
use Rattle.lists.specs.Tests.{every}
use Rattle.lists.proofs.Bools.{both_hold, both}
use Rattle.lists.proofs.Lists.{same_front}

module _ {A : Type 0} (test : A → Bool) where
  -- ---- as a loop makes it

  -- the whole test: ok is what is tested of the first i
  abbrev pub Tested : List A → ℕ → Bool → Type 0
  Tested xs i ok = every test xs ≡ (ok && every test (drop i xs))

  pub tested_more : (xs : List A) (i : ℕ) (ok r : Bool) (d : A) → i < length xs → r ≡ test (get_or xs i d) → Tested xs i ok
      → Tested xs (i + 1) (ok && r)
  tested_more xs i ok r d h e t = t ∙ rw (add-one, drop-cons xs i d h, e) (sym (and_assoc ok _ _))

  pub tested_all : (xs : List A) (i : ℕ) (ok : Bool) → length xs ≤ i → Tested xs i ok → ok ≡ every test xs
  tested_all xs i ok h t = sym (t ∙ rw (drop_of_length-le xs h) (and-true ok))

  -- where one has failed, no more need be tested
  pub tested_failed : (xs : List A) (i j : ℕ) (ok f : Bool) → ok ≡ false → f ≡ ok → Tested xs i ok → Tested xs j f
  tested_failed xs i j ok f e q t = t ∙ rw (q, e)

  -- the same of the first n of a list
  module _ (xs : List A) (n : ℕ) (fits : n ≤ length xs) where
    pub front_more : (i : ℕ) (ok r : Bool) (d : A) → i < n → r ≡ test (get_or xs i d) → Tested (take n xs) i ok
        → Tested (take n xs) (i + 1) (ok && r)
    front_more i ok r d h e t =
        tested_more (take n xs) i ok r d (omega (arith, length-take-le n xs fits)) (e ∙ ap test (sym (get_or-take n xs i d h))) t

    -- of the next, where none has failed
    pub front_next : (i : ℕ) (ok f : Bool) (d : A) → i < n → ok ≡ true → f ≡ test (get_or xs i d) → Tested (take n xs) i ok → Tested (take n xs) (i + 1) f
    front_next i ok f d h o e t = subst (λ (b : Bool). Tested (take n xs) (i + 1) (b && f)) o (front_more i ok f d h e t)

    pub front_all : (i : ℕ) (ok : Bool) → n ≤ i → Tested (take n xs) i ok → ok ≡ every test (take n xs)
    front_all i ok h t = tested_all (take n xs) i ok (omega (arith, length-take-le n xs fits)) t

  -- ---- at each place

  pub every_at : (xs : List A) (d : A) → every test xs ≡ true → (j : ℕ) → j < length xs → test (get_or xs j d) ≡ true
  every_at [] d e j h = absurd (omega arith)
  every_at (x ∷ xs) d e zero h = (both_hold (test x) (every test xs) e).0
  every_at (x ∷ xs) d e (suc j) h = every_at xs d (both_hold (test x) (every test xs) e).1 j (omega arith)

  pub every_of : (xs : List A) (d : A) → ((j : ℕ) → j < length xs → test (get_or xs j d) ≡ true) → every test xs ≡ true
  every_of [] d f = refl
  every_of (x ∷ xs) d f = both (f 0 (omega arith)) (every_of xs d (λ j h. f (suc j) (omega arith)))

  -- ---- of parts, and joined

  pub every_take : (n : ℕ) (xs : List A) → every test xs ≡ true → every test (take n xs) ≡ true
  every_take zero xs e = refl
  every_take (suc n) [] e = refl
  every_take (suc n) (x ∷ xs) e = let h = both_hold (test x) (every test xs) e in both h.0 (every_take n xs h.1)

  pub every_drop : (n : ℕ) (xs : List A) → every test xs ≡ true → every test (drop n xs) ≡ true
  every_drop zero xs e = e
  every_drop (suc n) [] e = refl
  every_drop (suc n) (x ∷ xs) e = every_drop n xs (both_hold (test x) (every test xs) e).1

  pub every_join : (xs ys : List A) → every test xs ≡ true → every test ys ≡ true → every test (xs ++ ys) ≡ true
  every_join [] ys e f = f
  every_join (x ∷ xs) ys e f = let h = both_hold (test x) (every test xs) e in both h.0 (every_join xs ys h.1 f)

  pub every_snoc : (xs : List A) (x : A) → every test xs ≡ true → test x ≡ true → every test (xs ++ (x ∷ [])) ≡ true
  every_snoc xs x e h = every_join xs (x ∷ []) e (both h refl)

  pub every_left : (xs ys : List A) → every test (xs ++ ys) ≡ true → every test xs ≡ true
  every_left [] ys h = refl
  every_left (x ∷ xs) ys h = both (both_hold (test x) _ h).0 (every_left xs ys (both_hold (test x) _ h).1)

  pub every_right : (xs ys : List A) → every test (xs ++ ys) ≡ true → every test ys ≡ true
  every_right [] ys h = h
  every_right (x ∷ xs) ys h = every_right xs ys (both_hold (test x) _ h).1

  pub every_cut : (i : ℕ) (xs : List A) → every test (take i xs) ≡ true → every test (drop i xs) ≡ true → every test xs ≡ true
  every_cut zero xs h g = g
  every_cut (suc i) [] h g = refl
  every_cut (suc i) (x ∷ xs) h g = both (both_hold (test x) _ h).0 (every_cut i xs (both_hold (test x) _ h).1 g)

  pub every_replicate : (n : ℕ) (x : A) → test x ≡ true → every test (replicate n x) ≡ true
  every_replicate zero x e = refl
  every_replicate (suc n) x e = both e (every_replicate n x e)

  -- of a list before one of its elements was changed
  pub every_before_set : (d : A) (i : ℕ) (xs : List A) (v : A) → (test v ≡ true → test (get_or xs i d) ≡ true) → every test (set xs i v) ≡ true → every test xs ≡ true
  every_before_set d i [] v g h = refl
  every_before_set d zero (x ∷ xs) v g h = both (g (both_hold (test v) _ h).0) (both_hold (test v) _ h).1
  every_before_set d (suc i) (x ∷ xs) v g h = both (both_hold (test x) _ h).0 (every_before_set d i xs v g (both_hold (test x) _ h).1)

-- ---- of f of each, and of lists that agree

pub every_map : {A B : Type 0} (test : B → Bool) (f : A → B) (xs : List A) → every test (map f xs) ≡ every (λ (x : A). test (f x)) xs
every_map test f [] = refl
every_map test f (x ∷ xs) = ap (λ (b : Bool). test (f x) && b) (every_map test f xs)

pub same_tests : {A : Type 0} (test : A → Bool) (d : A) (n : ℕ) (xs ys : List A) → length xs ≡ length ys → ((j : ℕ) → test (get_or xs j d) ≡ test (get_or ys j d))
    → every test (take n xs) ≡ every test (take n ys)
same_tests test d n xs ys l e =
    sym (every_map (λ (b : Bool). b) test (take n xs))
    ∙ ap (every (λ (b : Bool). b)) (same_front test d n xs ys l e)
    ∙ every_map (λ (b : Bool). b) test (take n ys)
