-- A link's branch is its parent's with the link behind it: j steps up from link j are enough, as each goes to an earlier link.
use Prim.Native.Nat.{ℕ, zero, suc, min, ◌+◌, ◌≤◌, ◌<◌}
use mathlib.Core.Path.{◌≡◌, refl, sym, ◌∙◌}
use mathlib.Core.Bool.{Bool, true, false, cond, ◌||◌, or-false, or_comm}
use mathlib.Core.List.{List, [], ◌∷◌, ◌++◌}
use native.Mathlib.Omega.{arith}
use native.Mathlib.Decide.{dec_lt}
use borrow.Author.Tests.{ltb-true, lt-ltb, le-ltb, eq-eqb}
use lib.ListN.{length, replicate, length-append}
use Rattle.lists.proofs.Numbers.{Filled, filled_all, stands_snoc}
use Rattle.lists.specs.Numbers.{stands_in}
use Rattle.limits.specs.Limits.{link_limit}
use lib.Dec.{eqb, ltb}
use Rattle.topology.specs.Parents.{way_to, branch, at_or_below, marks, parent_in}

module _ (ps : List ℕ) where
  alone : (k j : ℕ) → j ≤ parent_in ps j → way_to ps k j ≡ j ∷ []
  unfolding way_to
  alone zero j h = refl
  alone (suc k) j h = rw (le-ltb (parent_in ps j) j h)

  same : (k l j : ℕ) → j ≤ k → j ≤ l → way_to ps k j ≡ way_to ps l j
  unfolding way_to
  same zero l j h g = sym (alone l j (omega arith))
  same (suc k) zero j h g = alone (suc k) j (omega arith)
  same (suc k) (suc l) j h g = go (ltb (parent_in ps j) j) refl (λ p. same k l (parent_in ps j) (omega arith) (omega arith))
    where
      go : (b : Bool) → ltb (parent_in ps j) j ≡ b → (parent_in ps j < j → way_to ps k (parent_in ps j) ≡ way_to ps l (parent_in ps j))
          → cond b (way_to ps k (parent_in ps j)) [] ++ (j ∷ []) ≡ cond b (way_to ps l (parent_in ps j)) [] ++ (j ∷ [])
      go true e ih = rw (ih (ltb-true (parent_in ps j) j e))
      go false e ih = refl

  -- a number that isn't below the count has no branch
  pub branch_none : (j : ℕ) → length ps ≤ j → branch ps j ≡ []
  unfolding branch
  branch_none j h = rw (le-ltb j (length ps) h)

  -- a link with no earlier parent is its own branch
  pub branch_alone : (j : ℕ) → j < length ps → j ≤ parent_in ps j → branch ps j ≡ j ∷ []
  unfolding branch
  branch_alone j h g = rw (lt-ltb j (length ps) h) (alone j j g)

  -- any other link's is its parent's with the link behind it
  pub branch_more : (j : ℕ) → j < length ps → parent_in ps j < j → branch ps j ≡ branch ps (parent_in ps j) ++ (j ∷ [])
  unfolding branch way_to
  branch_more zero h g = absurd (omega arith)
  branch_more (suc j) h g =
      rw (lt-ltb (suc j) (length ps) h, lt-ltb (parent_in ps (suc j)) (length ps) (omega arith), lt-ltb (parent_in ps (suc j)) (suc j) g, same j (parent_in ps (suc j)) (parent_in ps (suc j)) (omega arith) (omega arith))

  pub branch_longer : (j : ℕ) → j < length ps → parent_in ps j < j → length (branch ps j) ≡ length (branch ps (parent_in ps j)) + 1
  branch_longer j h g = rw (branch_more j h g, length-append)

  -- ---- the marks of a link, in one rising pass

  module _ (i j : ℕ) where
    pub mark_none : length ps ≤ j → at_or_below ps i j ≡ false
    unfolding at_or_below stands_in
    mark_none h = rw (branch_none j h)

    pub mark_alone : j < length ps → j ≤ parent_in ps j → at_or_below ps i j ≡ eqb j i
    unfolding at_or_below stands_in
    mark_alone h g = rw (branch_alone j h g) (or-false (eqb j i))

    pub mark_more : j < length ps → parent_in ps j < j → at_or_below ps i j ≡ (eqb j i || at_or_below ps i (parent_in ps j))
    unfolding at_or_below
    mark_more h g = rw (branch_more j h g, stands_snoc) (or_comm _ (eqb j i))

    -- a link is at or below itself
    pub mark_itself : j < length ps → j ≡ i → at_or_below ps i j ≡ true
    mark_itself h e = elim (dec_lt (parent_in ps j) j) [
      | yes p ↦ mark_more h p ∙ rw (eq-eqb j i e)
      | no p ↦ mark_alone h (omega arith) ∙ eq-eqb j i e
    ]

  -- the marks of an arm are full once the shorter of list and limit is passed
  pub marks_full : (i n j : ℕ) (m : List Bool) → n ≡ min (length ps) link_limit → n ≤ j → Filled (at_or_below ps i) (replicate link_limit false) j m → m ≡ marks ps i
  unfolding marks
  marks_full i n j m e h t = filled_all (at_or_below ps i) link_limit j m t (λ k l g. mark_none i k (omega arith))
