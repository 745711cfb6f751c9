-- A pass over marks that are closed downward, from results that are fresh where unmarked, leaves what the full pass leaves; over any store. Each result
-- is by its parent's alone, which the pass has left before it. Assumes nothing.
use mathlib.Core.Path.{◌≡◌, refl, sym, ap, ap₂, ◌∙◌}
use mathlib.Core.Logic.{◌≢◌}
use Prim.Native.Nat.{ℕ, zero, suc, ◌≤◌, ◌<◌}
use mathlib.Core.Bool.{Bool, true, false, cond}
use native.Mathlib.Omega.{arith}
use native.Mathlib.Decide.{le_ind}
use borrow.Author.Tests.{ltb-true}
use lib.Dec.{ltb}
use Rattle.kinematics.specs.Promises.{Closed}
use Rattle.lists.proofs.Bools.{not_then, pick}
use Rattle.lists.proofs.Numbers.{all_same}
use Rattle.lists.specs.Numbers.{all_below}
use Rattle.kinematics.specs.Pass.{Ops, new_at, run}

-- link j's results are those that its parent's give
abbrev pub FreshAt : {In Out Store : Type 0} → Ops In Out Store → (ℕ → ℕ) → (ℕ → In) → Store → ℕ → Type 0
FreshAt O par xs s j = O.at s j ≡ new_at O par xs s j

-- what a store of N entries owes, where it is long enough (`Good`) and what is written has the right shape (`Shape`): an entry that is put is read
-- back, the others stay
pub record Laws {In Out Store : Type 0} (O : Ops In Out Store) (N : ℕ) : Type 1 where
  pub Good : Store → Type 0
  pub Shape : Out → Type 0
  pub shape_root : (x : In) → Shape (O.root x)
  pub shape_later : (o : Out) (x : In) → Shape o → Shape (O.later o x)
  pub shape_at : (s : Store) (j : ℕ) → Good s → j < N → Shape (O.at s j)
  pub same : (s : Store) (j : ℕ) (o : Out) → Good s → Shape o → j < N → O.at (O.put s j o) j ≡ o
  pub other : (s : Store) (j k : ℕ) (o : Out) → Good s → Shape o → j < N → k ≢ j → O.at (O.put s j o) k ≡ O.at s k
  pub keep : (s : Store) (j : ℕ) (o : Out) → Good s → Shape o → j < N → Good (O.put s j o)

module _ {In Out Store : Type 0} (O : Ops In Out Store) (par : ℕ → ℕ) (xs : ℕ → In) where
  -- ---- one result

  -- parents, inputs and parents' results that agree give one result
  pub new_same : (par' : ℕ → ℕ) (xs' : ℕ → In) (s t : Store) (j : ℕ) → par j ≡ par' j → xs j ≡ xs' j → (par j < j → O.at s (par j) ≡ O.at t (par j))
      → new_at O par xs s j ≡ new_at O par' xs' t j
  new_same par' xs' s t j p x f = go (ltb (par j) j) refl ∙ ap₂ (λ (k : ℕ) (y : In). cond (ltb k j) (O.later (O.at t k) y) (O.root y)) p x
    where
      go : (e : Bool) → ltb (par j) j ≡ e → cond e (O.later (O.at s (par j)) (xs j)) (O.root (xs j)) ≡ cond e (O.later (O.at t (par j)) (xs j)) (O.root (xs j))
      go true e = ap (λ (o : Out). O.later o (xs j)) (f (ltb-true (par j) j e))
      go false e = refl

  -- fresh results are determined
  only_to : (n : ℕ) (s t : Store) → ((j : ℕ) → j < n → FreshAt O par xs s j) → ((j : ℕ) → j < n → FreshAt O par xs t j)
      → (m j : ℕ) → j < m → j < n → O.at s j ≡ O.at t j
  only_to n s t f g zero j l h = absurd (omega arith)
  only_to n s t f g (suc m) j l h = f j h ∙ new_same par xs s t j refl refl (λ q. only_to n s t f g m (par j) (omega arith) (omega arith)) ∙ sym (g j h)

  pub only : (n : ℕ) (s t : Store) → ((j : ℕ) → j < n → FreshAt O par xs s j) → ((j : ℕ) → j < n → FreshAt O par xs t j)
      → (j : ℕ) → j < n → O.at s j ≡ O.at t j
  only n s t f g j h = only_to n s t f g (suc j) j (omega arith) h

  -- ---- the pass

  -- marks that agree give one pass
  pub run_same : (s : Store) (b b' : ℕ → Bool) (n : ℕ) → ((j : ℕ) → j < n → b j ≡ b' j) → run O par xs b n s ≡ run O par xs b' n s
  unfolding run
  run_same s b b' zero h = refl
  run_same s b b' (suc n) h = rw (h n (omega arith), run_same s b b' n (λ j l. h j (omega arith)))

  -- what no write at a marked link changes is as it was
  pub run_view : {A : Type 0} (v : Store → A) (s : Store) (b : ℕ → Bool) → ((t : Store) (k : ℕ) (o : Out) → b k ≡ true → v (O.put t k o) ≡ v t) → (n : ℕ)
      → v (run O par xs b n s) ≡ v s
  unfolding run
  run_view {A = A} v s b h zero = refl
  run_view {A = A} v s b h (suc n) = go (b n) refl (run_view v s b h n)
    where
      go : (m : Bool) → b n ≡ m → v (run O par xs b n s) ≡ v s
          → v (cond m (O.put (run O par xs b n s) n (new_at O par xs (run O par xs b n s) n)) (run O par xs b n s)) ≡ v s
      go true e ih = h _ n _ e ∙ ih
      go false e ih = ih

  module _ (N n : ℕ) (fit : n ≤ N) (L : Laws O N) (b : ℕ → Bool) (s : Store) (g : L.Good s) where
    abbrev r : ℕ → Store
    r k = run O par xs b k s

    shape : (t : Store) (k : ℕ) → L.Good t → k < n → L.Shape (new_at O par xs t k)
    shape t k y h = go (ltb (par k) k) refl
      where
        go : (e : Bool) → ltb (par k) k ≡ e → L.Shape (cond e (O.later (O.at t (par k)) (xs k)) (O.root (xs k)))
        go true e = L.shape_later _ (xs k) (L.shape_at t (par k) y (omega (arith, ltb-true (par k) k e)))
        go false e = L.shape_root (xs k)

    good : (k : ℕ) → k ≤ n → L.Good (r k)
    unfolding run
    good zero h = g
    good (suc k) h = go (b k) (good k (omega arith))
      where
        go : (m : Bool) → L.Good (r k) → L.Good (cond m (O.put (r k) k (new_at O par xs (r k) k)) (r k))
        go true y = L.keep (r k) k _ y (shape (r k) k y h) (omega arith)
        go false y = y

    -- what a turn works out has the right shape
    pub turn_shape : (k : ℕ) → k < n → L.Shape (new_at O par xs (r k) k)
    turn_shape k h = shape (r k) k (good k (omega arith)) h

    -- turn k writes at k alone
    turn_other : (k j : ℕ) → k < n → j ≢ k → O.at (r (suc k)) j ≡ O.at (r k) j
    unfolding run
    turn_other k j h ne = go (b k)
      where
        go : (m : Bool) → O.at (cond m (O.put (r k) k (new_at O par xs (r k) k)) (r k)) j ≡ O.at (r k) j
        go true = L.other (r k) k j _ (good k (omega arith)) (turn_shape k h) (omega arith) ne
        go false = refl

    turn_same : (k : ℕ) → k < n → O.at (r (suc k)) k ≡ cond (b k) (new_at O par xs (r k) k) (O.at (r k) k)
    unfolding run
    turn_same k h = go (b k)
      where
        go : (m : Bool) → O.at (cond m (O.put (r k) k (new_at O par xs (r k) k)) (r k)) k ≡ cond m (new_at O par xs (r k) k) (O.at (r k) k)
        go true = L.same (r k) k _ (good k (omega arith)) (turn_shape k h) (omega arith)
        go false = refl

    -- before its turn an entry is as it was, and after its turn it stays
    before : (k j : ℕ) → k ≤ n → k ≤ j → O.at (r k) j ≡ O.at s j
    unfolding run
    before zero j h l = refl
    before (suc k) j h l = turn_other k j h (omega arith) ∙ before k j (omega arith) (omega arith)

    after : (j m : ℕ) → suc j ≤ m → m ≤ n → O.at (r m) j ≡ O.at (r (suc j)) j
    after j = le_ind (λ m. m ≤ n → O.at (r m) j ≡ O.at (r (suc j)) j) (λ h. refl) (λ m l f h. turn_other m j h (omega arith) ∙ f (omega arith))

    -- a link's turn finds of its parent what the pass leaves of it
    pub turn_result : (j : ℕ) → j < n → new_at O par xs (r j) j ≡ new_at O par xs (r n) j
    turn_result j h = new_same par xs (r j) (r n) j refl refl (λ q. after (par j) j q (omega arith) ∙ sym (after (par j) n (omega arith) (omega arith)))

    -- what the pass leaves at j: where marked, what its parent's results give; else what was there
    pub left : (j : ℕ) → j < n → O.at (r n) j ≡ cond (b j) (new_at O par xs (r n) j) (O.at s j)
    left j h = after j n h (omega arith) ∙ turn_same j h ∙ ap₂ (cond (b j)) (turn_result j h) (before j j (omega arith) (omega arith))

    -- unmarked results are untouched, and so are those past the first n
    pub untouched : (j : ℕ) → j < n → b j ≡ false → O.at (r n) j ≡ O.at s j
    untouched j h e = rw e at (left j h)

    pub beyond : (j : ℕ) → n ≤ j → O.at (r n) j ≡ O.at s j
    beyond j h = before n j (omega arith) h

    pub stays_good : L.Good (r n)
    stays_good = good n (omega arith)

    -- a result tested as it is worked out is tested as it is left
    pub tests_run : (ok : Out → Bool) → all_below n (λ j. cond (b j) (ok (new_at O par xs (r j) j)) true) ≡ all_below n (λ j. cond (b j) (ok (O.at (r n) j)) true)
    tests_run ok = all_same n _ _ (λ j h. go j (b j) (after j n h (omega arith) ∙ turn_same j h))
      where
        go : (j : ℕ) (m : Bool) → O.at (r n) j ≡ cond m (new_at O par xs (r j) j) (O.at (r j) j)
            → cond m (ok (new_at O par xs (r j) j)) true ≡ cond m (ok (O.at (r n) j)) true
        go j true e = ap ok (sym e)
        go j false e = refl

  -- ---- the full pass, and a pass over what changed

  module _ (N n : ℕ) (fit : n ≤ N) (L : Laws O N) where
    abbrev full : Store → Store
    full s = run O par xs (λ j. true) n s

    pub full_fresh : (s : Store) → L.Good s → (j : ℕ) → j < n → FreshAt O par xs (full s) j
    full_fresh s g j h = left N n fit L (λ j. true) s g j h

    module _ (b : ℕ → Bool) (closed : Closed par b n) (s : Store) (g : L.Good s) (old : (j : ℕ) → j < n → b j ≡ false → FreshAt O par xs s j) where
      clear : (j : ℕ) → j < n → b j ≡ false → par j < j → b (par j) ≡ false
      clear j h e q = not_then (b (par j)) (b j) (closed j h q) e

      -- every result is fresh
      pub pass_fresh : (j : ℕ) → j < n → FreshAt O par xs (run O par xs b n s) j
      pass_fresh j h = left N n fit L b s g j h ∙ pick (b j) _ (O.at s j) (λ e.
          old j h e ∙ new_same par xs s _ j refl refl (λ q. sym (untouched N n fit L b s g (par j) (omega arith) (clear j h e q))))

      -- so it is what the full pass leaves, whatever that starts from
      pub pass_full : (s' : Store) → L.Good s' → (j : ℕ) → j < n → O.at (run O par xs b n s) j ≡ O.at (full s') j
      pass_full s' g' = only n _ _ pass_fresh (full_fresh s' g')

      -- and where every unmarked result passes a test, the marked ones pass it exactly when all of the full pass do
      pub pass_tests : (s' : Store) → L.Good s' → (ok : Out → Bool) → ((j : ℕ) → j < n → b j ≡ false → ok (O.at s j) ≡ true)
          → all_below n (λ j. cond (b j) (ok (O.at (run O par xs b n s) j)) true) ≡ all_below n (λ j. ok (O.at (full s') j))
      pass_tests s' g' ok fine = all_same n _ _ (λ j h.
          untested (b j) _ (λ e. ap ok (untouched N n fit L b s g j h e) ∙ fine j h e) ∙ ap ok (pass_full s' g' j h))
        where
          untested : (m y : Bool) → (m ≡ false → y ≡ true) → cond m y true ≡ y
          untested true y h = refl
          untested false y h = sym (h refl)
