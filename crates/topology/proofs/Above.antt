-- At or above by the parents, against the branch: a link is at or above another exactly if it stands on the other's branch.
use Prim.Native.Nat.{ℕ, zero, suc, ◌+◌, ◌≤◌, ◌<◌}
use mathlib.Core.Path.{◌≡◌, refl, sym, ap, subst, ◌∙◌}
use mathlib.Core.Bool.{Bool, true, false, ◌||◌, or-true}
use mathlib.Core.List.{List, [], ◌∷◌, ◌++◌}
use native.Mathlib.Omega.{arith}
use native.Mathlib.Decide.{dec_lt}
use borrow.Author.Tests.{eqb-true, eq-eqb}
use lib.ListN.{length, get_or, length-append, get_or-append}
use lib.Seq.{get_or_at}
use lib.Dec.{eqb}
use Rattle.topology.specs.Above.{AtOrAbove, itself, above}
use Rattle.topology.specs.Parents.{parents_fit, branch, at_or_below, parent_in}
use Rattle.topology.specs.Words.{FromRoot}
use Rattle.topology.proofs.Fitting.{earlier}
use Rattle.topology.proofs.Branch.{branch_alone, branch_more, mark_alone, mark_more}

-- where each parent is earlier, what is at or above a link isn't later
pub above_le : (par : ℕ → ℕ) (n : ℕ) → ((k : ℕ) → 0 < k → k < n → par k < k) → {i j : ℕ} → AtOrAbove par i j → j < n → i ≤ j
above_le par n early itself h = omega arith
above_le par n early (above {j} l u) h =
    let p = early j l h in
    let r = above_le par n early u (omega arith) in
    omega arith

-- a branch with a link behind it, whose parent is its end
longer : (par : ℕ → ℕ) (b : List ℕ) (j : ℕ) → FromRoot par b (par j) → FromRoot par (b ++ (j ∷ [])) j
longer par b j r = record {
  starts = (r.starts.0 ++ (j ∷ []), rw r.starts.1);
  ends = (b, refl);
  next = λ i g. next i g;
}
  where
    next : (i : ℕ) → suc i < length (b ++ (j ∷ [])) → par (get_or (b ++ (j ∷ [])) (suc i) 0) ≡ get_or (b ++ (j ∷ [])) i 0
    next i g =
        let n : length (b ++ (j ∷ [])) ≡ length b + 1 = length-append b (j ∷ []) in
        let front = r.ends.0 in
        let m : length b ≡ length front + 1 = ap length r.ends.1 ∙ length-append front _ in
        elim (dec_lt (suc i) (length b)) [
          | yes l ↦ ap par (get_or-append b _ 0 (suc i) l) ∙ r.next i l ∙ sym (get_or-append b _ 0 i (omega arith))
          | no l ↦
              let mine : get_or (b ++ (j ∷ [])) (suc i) 0 ≡ j = get_or_at b j [] 0 (suc i) (omega arith) in
              let its : get_or b i 0 ≡ par j = ap (λ (t : List ℕ). get_or t i 0) r.ends.1 ∙ get_or_at front (par j) [] 0 i (omega arith) in
              ap par mine ∙ sym its ∙ sym (get_or-append b _ 0 i (omega arith))
        ]

module _ (ps : List ℕ) (fit : parents_fit ps ≡ true) where
  -- ---- marks

  pub marked_above : (m i j : ℕ) → j < m → j < length ps → at_or_below ps i j ≡ true → AtOrAbove (parent_in ps) i j
  marked_above zero i j l h t = absurd (omega arith)
  marked_above (suc m) i j l h t = elim (dec_lt (parent_in ps j) j) [
    | yes p ↦ go (eqb j i) refl p (sym (mark_more ps i j h p) ∙ t) (marked_above m i (parent_in ps j) (omega arith) (omega arith))
    | no p ↦ subst (λ (k : ℕ). AtOrAbove (parent_in ps) i k) (sym (eqb-true j i (sym (mark_alone ps i j h (omega arith)) ∙ t))) itself
  ]
    where
      go : (b : Bool) → eqb j i ≡ b → parent_in ps j < j → (b || at_or_below ps i (parent_in ps j)) ≡ true → (at_or_below ps i (parent_in ps j) ≡ true → AtOrAbove (parent_in ps) i (parent_in ps j)) → AtOrAbove (parent_in ps) i j
      go true e p q ih = subst (λ (k : ℕ). AtOrAbove (parent_in ps) i k) (sym (eqb-true j i e)) itself
      go false e p q ih = above {j = j} (omega arith) (ih q)

  pub above_marked : {i j : ℕ} → AtOrAbove (parent_in ps) i j → j < length ps → at_or_below ps i j ≡ true
  above_marked {i} itself h = elim (dec_lt (parent_in ps i) i) [
    | yes p ↦ mark_more ps i i h p ∙ rw (eq-eqb i i refl)
    | no p ↦ mark_alone ps i i h (omega arith) ∙ eq-eqb i i refl
  ]
  above_marked {i} (above {j} l u) h =
      let p = earlier ps fit j l h in
      mark_more ps i j h p ∙ rw (above_marked u (omega arith)) (or-true (eqb j i))

  -- ---- branches

  pub from_root : (m j : ℕ) → j < m → j < length ps → FromRoot (parent_in ps) (branch ps j) j
  from_root zero j l h = absurd (omega arith)
  from_root (suc m) zero l h = rw (branch_alone ps 0 h (omega arith)) (record {
    starts = ([], refl);
    ends = ([], refl);
    next = λ i g. absurd (omega arith);
  })
  from_root (suc m) (suc j) l h =
      let p = earlier ps fit (suc j) (omega arith) h in
      rw (branch_more ps (suc j) h p) (longer (parent_in ps) (branch ps (parent_in ps (suc j))) (suc j) (from_root m (parent_in ps (suc j)) (omega arith) (omega arith)))
