-- Parts in one rising pass: a head's part is its rank, any other survivor's is its parent's, which survives too. By the link's number.
use Prim.Native.Nat.{ℕ, zero, suc, ◌+◌, ◌≤◌, ◌<◌}
use mathlib.Core.Path.{◌≡◌, refl, sym, ap, ◌∙◌}
use mathlib.Core.Bool.{Bool, true, false, not, ◌||◌, true≢false}
use mathlib.Core.List.{List}
use native.Mathlib.Omega.{arith}
use native.Mathlib.Numerals.{add-one}
use native.Mathlib.Decide.{dec_lt}
use lib.ListN.{length, take, get_or, set}
use lib.Dec.{eqb}
use Rattle.lists.proofs.Numbers.{Filled, filled_none, filled_more, filled_at, count_le, count_lt, last_snoc}
use Rattle.lists.specs.Numbers.{each, count_below, last_that}
use Rattle.lists.proofs.Bools.{both_hold}
use Rattle.topology.specs.declared.Split.{Split}
use Rattle.topology.specs.declared.Split.TheVariants.{Delete, Cut}
use Rattle.topology.specs.Parents.{parents_fit, parent_in}
use Rattle.topology.specs.Split.{survives, head_of, is_head, rank, part_count, nearest_head, part_of}
use Rattle.topology.specs.Numbered.{part_if_any}
use Rattle.std.proofs.Common.{Option, Some, None}
use Rattle.topology.specs.Words.{Survivor}
use Rattle.topology.proofs.Fitting.{earlier}
use Rattle.topology.proofs.Branch.{branch_alone, branch_more}

-- ---- survivors and heads, by the case of the split

-- a survivor that is no head is a later link
body_later : (s : Split) (j p : ℕ) → survives s j ≡ true → head_of s j p ≡ false → 0 < j
body_later (Delete k) zero p a h = absurd (true≢false (rw a at h))
body_later (Delete k) (suc j) p a h = omega arith
body_later (Cut k) zero p a h = absurd (true≢false h)
body_later (Cut k) (suc j) p a h = omega arith

or_right : (a b : Bool) → (a || b) ≡ false → b ≡ false
or_right true b h = absurd (true≢false h)
or_right false b h = h

-- and its parent survives
body_parent : (s : Split) (j p : ℕ) → survives s j ≡ true → head_of s j p ≡ false → survives s p ≡ true
body_parent (Delete k) j p a h =
    let e : (eqb j 0 || eqb p k) ≡ false = rw a at h in
    rw (or_right (eqb j 0) (eqb p k) e)
body_parent (Cut k) j p a h = refl

-- a head survives
pub head_survives : (s : Split) (j p : ℕ) → head_of s j p ≡ true → survives s j ≡ true
head_survives (Delete k) j p h = (both_hold (not (eqb j k)) _ h).0
head_survives (Cut k) j p h = refl

module _ (ps : List ℕ) (s : Split) where
  -- a head's part is its rank
  pub nearest_self : (j : ℕ) → j < length ps → is_head ps s j ≡ true → nearest_head ps s j ≡ j
  unfolding nearest_head last_that
  nearest_self j l h = elim (dec_lt (parent_in ps j) j) [
    | yes p ↦ rw (branch_more ps j l p, last_snoc, h)
    | no p ↦ rw (branch_alone ps j l (omega arith), h)
  ]

  pub part_head : (j : ℕ) → j < length ps → is_head ps s j ≡ true → part_of ps s j ≡ rank ps s j
  unfolding part_of
  part_head j l h = rw (nearest_self j l h)

  module _ (fit : parents_fit ps ≡ true) (j : ℕ) (l : j < length ps) (a : survives s j ≡ true) (b : is_head ps s j ≡ false) where
    pub later_link : 0 < j
    unfolding is_head
    later_link = body_later s j (parent_in ps j) a b

    pub parent_survives : survives s (parent_in ps j) ≡ true
    unfolding is_head
    parent_survives = body_parent s j (parent_in ps j) a b

    pub parent_earlier : parent_in ps j < j
    parent_earlier = earlier ps fit j later_link l

    pub nearest-parent : nearest_head ps s j ≡ nearest_head ps s (parent_in ps j)
    unfolding nearest_head
    nearest-parent = rw (branch_more ps j l parent_earlier, last_snoc, b)

    pub part_body : part_of ps s j ≡ part_of ps s (parent_in ps j)
    unfolding part_of
    part_body = rw nearest-parent

  -- what holds of heads, and of any other survivor where it holds of its parent, holds of every survivor
  module _ (fit : parents_fit ps ≡ true) (P : ℕ → Type 0) (at_head : (j : ℕ) → Survivor ps s j → is_head ps s j ≡ true → P j)
      (at_body : (j : ℕ) → Survivor ps s j → is_head ps s j ≡ false → P (parent_in ps j) → P j) where
    rising : (m j : ℕ) → j < m → Survivor ps s j → P j
    rising zero j h v = absurd (omega arith)
    rising (suc m) j h v = go (is_head ps s j) refl (λ e l g. rising m (parent_in ps j) (omega arith) (g, e))
      where
        go : (b : Bool) → is_head ps s j ≡ b → (survives s (parent_in ps j) ≡ true → parent_in ps j < j → parent_in ps j < length ps → P (parent_in ps j)) → P j
        go true e ih = at_head j v e
        go false e ih =
            let l = parent_earlier fit j v.0 v.1 e in
            at_body j v e (ih (parent_survives fit j v.0 v.1 e) l (omega arith))

    pub by_parents : (j : ℕ) → Survivor ps s j → P j
    by_parents j v = rising (suc j) j (omega arith) v

  -- a survivor's part is one of those counted
  pub part_below : parents_fit ps ≡ true → (j : ℕ) → Survivor ps s j → part_of ps s j < part_count ps s
  unfolding rank part_count
  part_below fit =
      by_parents fit (λ j. part_of ps s j < part_count ps s)
      (λ j v h. rw (part_head j v.0 h) (count_lt (is_head ps s) j (length ps) v.0 h))
      (λ j v h ih. rw (part_body fit j v.0 v.1 h) ih)

  -- ---- one rising pass over a table l₀ that is long enough: the first j links have their parts, and the heads among them are counted

  pub record Passed (l₀ : List (Option ℕ)) (j : ℕ) (l : List (Option ℕ)) (count : ℕ) : Type 0 where
    pub counted : count ≡ rank ps s j
    pub filled : Filled (part_if_any ps s) l₀ j l

  pub passed_none : (l₀ : List (Option ℕ)) → Passed l₀ 0 l₀ 0
  unfolding rank count_below
  passed_none l₀ = record { counted = refl; filled = filled_none (part_if_any ps s) l₀ }

  pub rank_le : (j : ℕ) → rank ps s j ≤ j
  unfolding rank
  rank_le j = count_le (is_head ps s) j

  module _ (l₀ : List (Option ℕ)) (long : length ps ≤ length l₀) (j : ℕ) (h : j < length ps) (l : List (Option ℕ)) (count : ℕ) (t : Passed l₀ j l count) where
    pub passed_head : is_head ps s j ≡ true → Passed l₀ (j + 1) (set l j (Some count)) (count + 1)
    unfolding rank count_below part_if_any is_head
    passed_head e = record {
      counted = rw (add-one count, add-one j, t.counted, e);
      filled = filled_more (part_if_any ps s) l₀ j l (Some count) (omega arith) t.filled
          (ap Some t.counted ∙ sym (rw (head_survives s j (parent_in ps j) e) (ap Some (part_head j h e))));
    }

    pub passed_body : parents_fit ps ≡ true → is_head ps s j ≡ false → survives s j ≡ true → Passed l₀ (j + 1) (set l j (get_or l (parent_in ps j) None)) count
    unfolding rank count_below part_if_any
    passed_body fit e a =
        let p = parent_earlier fit j h a e in
        let above : get_or l (parent_in ps j) None ≡ part_if_any ps s j =
        filled_at (part_if_any ps s) l₀ j l (parent_in ps j) None t.filled p ∙ rw (a, parent_survives fit j h a e) (ap Some (sym (part_body fit j h a e))) in
        record {
          counted = rw (add-one j, t.counted, e);
          filled = filled_more (part_if_any ps s) l₀ j l (get_or l (parent_in ps j) None) (omega arith) t.filled above;
        }

    pub passed_gone : is_head ps s j ≡ false → survives s j ≡ false → Passed l₀ (j + 1) (set l j None) count
    unfolding rank count_below part_if_any
    passed_gone e a = record {
      counted = rw (add-one j, t.counted, e);
      filled = filled_more (part_if_any ps s) l₀ j l None (omega arith) t.filled (rw a);
    }

  pub passed_all : (l₀ : List (Option ℕ)) (j : ℕ) (l : List (Option ℕ)) (count : ℕ) → Passed l₀ j l count → j ≡ length ps
      → (count ≡ part_count ps s) × (take (length ps) l ≡ each (length ps) (part_if_any ps s))
  unfolding rank part_count
  passed_all l₀ j l count t e = (rw e at t.counted, rw e at t.filled.front)
