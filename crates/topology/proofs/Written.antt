-- A branch written from its link up to the root: behind place `at` it stands already, before it lies the branch of the link that is next.
use Prim.Native.Nat.{ℕ, suc, ◌+◌, ◌≤◌, ◌<◌}
use mathlib.Core.Path.{◌≡◌, refl, sym, ap, ap₂, ◌∙◌}
use mathlib.Core.List.{List, [], ◌∷◌, ◌++◌}
use native.Mathlib.Omega.{arith}
use native.Mathlib.Decide.{dec_lt}
use lib.ListN.{length, take, drop, get_or, set, length-append, length-set}
use lib.Seq.{take-append_seam, take_at, get_or-append_seam, get_or_at, take-suc, take-length, drop-length, drop-cons, get_or-set_same, drop-set-lt, length-take-le}
use Rattle.topology.specs.Parents.{branch, parent_in}
use Rattle.topology.proofs.Branch.{branch_none, branch_alone, branch_more}

snoc_front : (xs ys : List ℕ) (x y : ℕ) → xs ++ (x ∷ []) ≡ ys ++ (y ∷ []) → xs ≡ ys
snoc_front xs ys x y e =
    let n : length xs ≡ length ys = omega (arith, simp length-append at (ap length e)) in
    sym (take-append_seam xs (x ∷ [])) ∙ ap (take (length xs)) e ∙ take_at ys (y ∷ []) (length xs) (sym n)

snoc_last : (xs ys : List ℕ) (x y : ℕ) → xs ++ (x ∷ []) ≡ ys ++ (y ∷ []) → x ≡ y
snoc_last xs ys x y e =
    let n : length xs ≡ length ys = omega (arith, simp length-append at (ap length e)) in
    sym (get_or-append_seam xs x [] 0) ∙ ap (λ (l : List ℕ). get_or l (length xs) 0) e ∙ get_or_at ys y [] 0 (length xs) (sym n)

pub record Written (ps b to₀ : List ℕ) (at j : ℕ) (to : List ℕ) : Type 0 where
  pub within : at ≤ length b
  pub same_length : length to ≡ length to₀
  pub link : 0 < at → j < length ps
  pub next : 0 < at → take at b ≡ branch ps j
  pub behind : drop at to ≡ drop at b ++ drop (length b) to₀

module _ (ps : List ℕ) where
  some_branch : (j : ℕ) → 0 < length (branch ps j) → j < length ps
  some_branch j h = elim (dec_lt j (length ps)) [
    | yes l ↦ l
    | no l ↦ let e = ap length (branch_none ps j (omega arith)) in absurd (omega arith)
  ]

  pub written_none : (j n : ℕ) (to : List ℕ) → n ≡ length (branch ps j) → Written ps (branch ps j) to n j to
  written_none j n to e = record {
    within = omega arith;
    same_length = refl;
    link = λ h. some_branch j (omega arith);
    next = λ h. rw e (take-length (branch ps j));
    behind = rw (e, drop-length (branch ps j));
  }

  module _ (b : List ℕ) (m j : ℕ) (h : m < length b) (l : j < length ps) (e : take (suc m) b ≡ branch ps j) where
    parted : take m b ++ (get_or b m 0 ∷ []) ≡ branch ps j
    parted = sym (take-suc b m 0 h) ∙ e

    this_link : get_or b m 0 ≡ j
    this_link = elim (dec_lt (parent_in ps j) j) [
      | yes p ↦ snoc_last (take m b) (branch ps (parent_in ps j)) _ j (parted ∙ branch_more ps j l p)
      | no p ↦ snoc_last (take m b) [] _ j (parted ∙ branch_alone ps j l (omega arith))
    ]

    next_branch : 0 < m → (parent_in ps j < length ps) × (take m b ≡ branch ps (parent_in ps j))
    next_branch g = elim (dec_lt (parent_in ps j) j) [
      | yes p ↦ (omega arith, snoc_front (take m b) (branch ps (parent_in ps j)) _ j (parted ∙ branch_more ps j l p))
      | no p ↦
          let z = ap length (snoc_front (take m b) [] _ j (parted ∙ branch_alone ps j l (omega arith))) in
          absurd (omega (arith, length-take-le m b (omega arith)))
    ]

  -- a turn of the loop
  pub written_more : (b to₀ : List ℕ) (at m j : ℕ) (to : List ℕ) → at ≡ m + 1 → length b ≤ length to₀ → Written ps b to₀ at j to → Written ps b to₀ m (parent_in ps j) (set to m j)
  written_more b to₀ at m j to q long w =
      let s : at ≡ suc m = omega arith in
      let h : m < length b = omega (arith, w.within) in
      let l = w.link (omega arith) in
      let e : take (suc m) b ≡ branch ps j = rw s at (w.next (omega arith)) in
      let same = w.same_length in
      let below : m < length to = omega arith in
      record {
        within = omega arith;
        same_length = length-set to m j ∙ same;
        link = λ g. (next_branch b m j h l e g).0;
        next = λ g. (next_branch b m j h l e g).1;
        behind =
            drop-cons (set to m j) m 0 (rw length-set below)
            ∙ ap₂ ◌∷◌ (get_or-set_same to m j 0 below ∙ sym (this_link b m j h l e)) (drop-set-lt (suc m) to m j (omega arith) ∙ rw s at w.behind)
            ∙ rw (drop-cons b m 0 h);
      }

  pub written_all : (b to₀ : List ℕ) (n at j : ℕ) (to : List ℕ) → n ≡ length b → at ≡ 0 → Written ps b to₀ at j to → to ≡ b ++ drop n to₀
  written_all b to₀ n at j to e q w = rw e (rw q at w.behind)
