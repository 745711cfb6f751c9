-- Lists chosen from the first n: what holds of each chosen one, where each stands, and that what differs still differs. Assumes nothing.
use Prim.Native.Nat.{ℕ, zero, suc, ◌<◌}
use mathlib.Core.Path.{◌≡◌, refl, sym, ap, ap₂, subst, ◌∙◌}
use mathlib.Core.Bool.{Bool, true, false, cond}
use mathlib.Core.List.{List, [], ◌∷◌, ◌++◌, map, map-append, append-nil}
use native.Mathlib.Omega.{arith}
use native.Mathlib.Decide.{dec_lt}
use lib.ListN.{length, get_or, get_or-append}
use lib.Seq.{get_or_at, ext_get_or}
use Rattle.lists.proofs.Gathered.{length-chosen}
use Rattle.lists.specs.Tests.{every}
use Rattle.lists.proofs.Every.{every_join, every_left, every_right}
use Rattle.lists.proofs.Numbers.{count_lt, length-each, get_or-each}
use Rattle.lists.specs.Numbers.{each, count_below, gathered, chosen}
use Rattle.lists.proofs.Bools.{both_hold, both}
use Rattle.arm.specs.HandedIn.{differs, is_new, unique}

-- ---- every, of lists joined

module _ {A : Type 0} (test : A → Bool) where
  pub every_last : (xs : List A) (y : A) → every test (xs ++ (y ∷ [])) ≡ true → test y ≡ true
  every_last xs y e = (both_hold (test y) true (every_right test xs (y ∷ []) e)).0

  one : (y : A) → test y ≡ true → every test (y ∷ []) ≡ true
  one y e = both e refl

  -- what each of the first n gives
  pub every_gathered : (n : ℕ) (f : ℕ → List A) → ((j : ℕ) → j < n → every test (f j) ≡ true) → every test (gathered n f) ≡ true
  unfolding gathered
  every_gathered zero f h = refl
  every_gathered (suc n) f h = every_join test (gathered n f) (f n) (every_gathered n f (λ j l. h j (omega arith))) (h n (omega arith))

  pub every_chosen : (n : ℕ) (pick : ℕ → Bool) (f : ℕ → A) → ((j : ℕ) → j < n → pick j ≡ true → test (f j) ≡ true) → every test (chosen n pick f) ≡ true
  every_chosen n pick f h = every_gathered n _ (λ j l. go j l (pick j) refl)
    where
      go : (j : ℕ) → j < n → (b : Bool) → pick j ≡ b → every test (cond b (f j ∷ []) []) ≡ true
      go j l true e = one (f j) (h j l e)
      go j l false e = refl

-- ---- where each stands

module _ {A : Type 0} (pick : ℕ → Bool) (f : ℕ → A) where
  pub chosen_at : (n j : ℕ) (d : A) → j < n → pick j ≡ true → get_or (chosen n pick f) (count_below j pick) d ≡ f j
  unfolding gathered
  chosen_at zero j d h e = absurd (omega arith)
  chosen_at (suc n) j d h e = elim (dec_lt j n) [
    | yes l ↦ get_or-append (chosen n pick f) _ d (count_below j pick) (rw (length-chosen pick f n) (count_lt pick j n l e)) ∙ chosen_at n j d l e
    | no l ↦
        let q : j ≡ n = omega arith in
        let p : pick n ≡ true = subst (λ (i : ℕ). pick i ≡ true) q e in
        rw (q, p) (get_or_at (chosen n pick f) (f n) [] d (count_below n pick) (length-chosen pick f n))
  ]

  pub map-chosen : {B : Type 0} (g : A → B) (n : ℕ) → map g (chosen n pick f) ≡ chosen n pick (λ j. g (f j))
  unfolding gathered
  map-chosen g zero = refl
  map-chosen g (suc n) = map-append g (chosen n pick f) _ ∙ ap₂ ◌++◌ (map-chosen g n) (go (pick n))
    where
      go : (b : Bool) → map g (cond b (f n ∷ []) []) ≡ cond b (g (f n) ∷ []) []
      go true = refl
      go false = refl

-- ---- what differs

unique_snoc : (xs : List ℕ) (t : ℕ) → unique xs ≡ true → every (λ x. differs x t) xs ≡ true → unique (xs ++ (t ∷ [])) ≡ true
unfolding unique
unique_snoc [] t e f = refl
unique_snoc (x ∷ xs) t e f =
    let u = both_hold (is_new x xs) (unique xs) e in
    let d = both_hold (differs x t) (every (λ y. differs y t) xs) f in
    both (every_join (differs x) xs (t ∷ []) u.0 (both d.0 refl)) (unique_snoc xs t u.1 d.1)

unique_front : (xs : List ℕ) (t : ℕ) → unique (xs ++ (t ∷ [])) ≡ true → (unique xs ≡ true) × (every (λ x. differs x t) xs ≡ true)
unfolding unique
unique_front [] t e = (refl, refl)
unique_front (x ∷ xs) t e =
    let u = both_hold (is_new x (xs ++ (t ∷ []))) (unique (xs ++ (t ∷ []))) e in
    let r = unique_front xs t u.1 in
    (both (every_left (differs x) xs (t ∷ []) u.0) r.0, both (every_last (differs x) xs t u.0) r.1)

-- some of a list that passes pass
some_pass : (test : ℕ → Bool) (pick : ℕ → Bool) (f : ℕ → ℕ) (n : ℕ) → every test (each n f) ≡ true → every test (chosen n pick f) ≡ true
unfolding each gathered
some_pass test pick f zero e = refl
some_pass test pick f (suc n) e =
    every_join test (chosen n pick f) _ (some_pass test pick f n (every_left test (each n f) (f n ∷ []) e)) (go (pick n) (every_last test (each n f) (f n) e))
  where
    go : (b : Bool) → test (f n) ≡ true → every test (cond b (f n ∷ []) []) ≡ true
    go true p = both p refl
    go false p = refl

pub some_unique : (pick : ℕ → Bool) (f : ℕ → ℕ) (n : ℕ) → unique (each n f) ≡ true → unique (chosen n pick f) ≡ true
unfolding each gathered unique
some_unique pick f zero e = refl
some_unique pick f (suc n) e =
    let u = unique_front (each n f) (f n) e in
    go (pick n) (some_unique pick f n u.0) (some_pass (λ x. differs x (f n)) pick f n u.1)
  where
    go : (b : Bool) → unique (chosen n pick f) ≡ true → every (λ x. differs x (f n)) (chosen n pick f) ≡ true → unique (chosen n pick f ++ cond b (f n ∷ []) []) ≡ true
    go true p q = unique_snoc (chosen n pick f) (f n) p q
    go false p q = ap unique (append-nil (chosen n pick f)) ∙ p

-- a list by its entries
pub is_each : {A : Type 0} (xs : List A) (n : ℕ) (f : ℕ → A) (d : A) → length xs ≡ n → ((j : ℕ) → j < n → get_or xs j d ≡ f j) → xs ≡ each n f
is_each xs n f d e h = ext_get_or d xs (each n f) (e ∙ sym (length-each f n)) (λ i l. h i (omega arith) ∙ sym (get_or-each f n i d (omega arith)))
