-- What a reader wants to know of branches, marks and splits. Each is shown by the links' numbers, as each parent is earlier.
use Prim.Native.Nat.{ℕ, zero, suc, ◌+◌, ◌*◌, ◌≤◌, ◌<◌}
use mathlib.Core.Path.{◌≡◌, refl, sym, ◌∙◌}
use mathlib.Core.Bool.{Bool, true, false, cond, true≢false}
use mathlib.Core.Logic.{◌↔◌}
use mathlib.Core.List.{List, [], ◌∷◌, ◌++◌, append-nil}
use native.Mathlib.Nat.{add-zero}
use native.Mathlib.Omega.{arith}
use native.Mathlib.Decide.{dec_lt}
use borrow.Author.Tests.{eqb-true, eq-eqb}
use lib.ListN.{length, get_or, get_or-append}
use lib.Seq.{get_or-append-add}
use Rattle.lists.proofs.Numbers.{get_or-each, count_lt, count_at}
use Rattle.lists.specs.Numbers.{each, one_more, count_below}
use Rattle.lists.proofs.Bools.{both_hold}
use Rattle.limits.specs.Limits.{link_limit}
use Rattle.topology.specs.declared.Split.{Split}
use Rattle.topology.specs.Above.{AtOrAbove, itself, above}
use Rattle.topology.specs.Parents.{parents_fit, branch, at_or_below, marks, parent_in}
use Rattle.topology.specs.Split.{survives, is_head, rank, part_count, nearest_head, part_of, is_in, number_of, part_byte, number_byte, split_map}
use Rattle.topology.specs.Words.{FromRoot, Nearest, Survivor, RisingPass, WithParent, numbers_in, size_of, up_to}
use Rattle.topology.proofs.Fitting.{earlier}
use Rattle.topology.proofs.Pass.{head_survives, nearest_self, part_head, later_link, parent_survives, parent_earlier, nearest-parent, part_body, by_parents, part_below}
use Rattle.topology.proofs.Mapped.{map-length}
use Rattle.topology.proofs.Above.{above_le, marked_above, above_marked, from_root}

module _ (ps : List ℕ) (fit : parents_fit ps ≡ true) where
  -- a branch starts at the root and ends at its link, and each next one's parent is the one before
  pub branch_from_root : (j : ℕ) → j < length ps → FromRoot (parent_in ps) (branch ps j) j
  branch_from_root j h = from_root ps fit (suc j) j (omega arith) h

  -- the marks of a link are exactly the links at or below it
  pub marks_right : length ps ≤ link_limit → (i j : ℕ) → j < length ps → (get_or (marks ps i) j false ≡ true) ↔ AtOrAbove (parent_in ps) i j
  unfolding marks
  marks_right few i j h =
      let e = get_or-each (at_or_below ps i) link_limit j false (omega arith) in
      (λ t. marked_above ps fit (suc j) i j (omega arith) h (sym e ∙ t), λ u. e ∙ above_marked ps fit u h)

module _ (ps : List ℕ) (s : Split) where
  -- the map holds a link's part and, behind it, its number
  pub map_at : (n j : ℕ) → j < n → (get_or (split_map ps s n) (2 * j) 0 ≡ part_byte ps s j) × (get_or (split_map ps s n) (2 * j + 1) 0 ≡ number_byte ps s j)
  unfolding split_map
  map_at zero j h = absurd (omega arith)
  map_at (suc n) j h =
      let front = split_map ps s n in
      let long = map-length ps s n in
      elim (dec_lt j n) [
        | yes l ↦
            let ih = map_at n j l in
            (get_or-append front _ 0 (2 * j) (omega arith) ∙ ih.0, get_or-append front _ 0 (2 * j + 1) (omega arith) ∙ ih.1)
        | no l ↦
            let e : n ≡ j = omega arith in
            let at : (k : ℕ) → get_or (front ++ (part_byte ps s n ∷ number_byte ps s n ∷ [])) (2 * n + k) 0 ≡ get_or (part_byte ps s n ∷ number_byte ps s n ∷ []) k 0 = λ k. rw long at (get_or-append-add front (part_byte ps s n ∷ number_byte ps s n ∷ []) k 0) in
            rw (← e) (rw add-zero at (at 0), at 1)
      ]

  pub in_part : (q j : ℕ) → is_in ps s q j ≡ true → part_of ps s j ≡ q
  unfolding is_in
  in_part q j h = eqb-true (part_of ps s j) q (both_hold (survives s j) _ h).1

  -- each part's new numbers are 0, 1, 2 .. without gaps
  pub no_gaps : (q n : ℕ) → numbers_in ps s q n ≡ up_to (size_of ps s q n)
  unfolding numbers_in each count_below number_of
  no_gaps q zero = refl
  no_gaps q (suc n) = go (is_in ps s q n) refl (no_gaps q n)
    where
      go : (b : Bool) → is_in ps s q n ≡ b → numbers_in ps s q n ≡ up_to (size_of ps s q n)
          → numbers_in ps s q n ++ cond b (number_of ps s n ∷ []) [] ≡ up_to (one_more b (size_of ps s q n))
      go true e ih = rw (ih, in_part q n e)
      go false e ih = append-nil _ ∙ ih

  module _ (fit : parents_fit ps ≡ true) where
    -- a survivor that is no head lies in its parent's part, with a greater number
    pub with_parent : (j : ℕ) → Survivor ps s j → is_head ps s j ≡ false → WithParent ps s j
    unfolding number_of is_in
    with_parent j v h =
        let l = parent_earlier ps s fit j v.0 v.1 h in
        let a = parent_survives ps s fit j v.0 v.1 h in
        let same = part_body ps s fit j v.0 v.1 h in
        record {
          survivor = (omega arith, a);
          same_part = same;
          greater = rw (← same) (count_lt (is_in ps s (part_of ps s j)) (parent_in ps j) j l (rw a (eq-eqb _ _ (sym same))));
        }

    -- every part number is below the part count
    pub part_in_count : (j : ℕ) → Survivor ps s j → part_of ps s j < part_count ps s
    part_in_count = part_below ps s fit

    -- every part has a link: its head
    pub part_has_head : (q : ℕ) → q < part_count ps s → (h : ℕ) × Survivor ps s h × (is_head ps s h ≡ true) × (part_of ps s h ≡ q)
    unfolding part_count rank is_head
    part_has_head q l =
        let r = count_at (is_head ps s) (length ps) q l in
        (r.0, (r.1, head_survives s r.0 (parent_in ps r.0) r.2), r.2, part_head ps s r.0 r.1 r.2 ∙ r.3)

    -- the head that the definition takes is the nearest at or above
    climb : {g j : ℕ} → AtOrAbove (parent_in ps) g j → is_head ps s g ≡ true → is_head ps s j ≡ false → AtOrAbove (parent_in ps) g (parent_in ps j)
    climb itself e h = absurd (true≢false (sym e ∙ h))
    climb (above l u) e h = u

    pub nearest-head : (j : ℕ) → Survivor ps s j → Nearest (parent_in ps) (is_head ps s) (nearest_head ps s j) j
    nearest-head =
        by_parents ps s fit (λ j. Nearest (parent_in ps) (is_head ps s) (nearest_head ps s j) j)
        (λ j v h. rw (nearest_self ps s j v.0 h) (record { head_there = h; there = itself; nearest = λ g e u. u }))
        (λ j v h ih. rw (nearest-parent ps s fit j v.0 v.1 h) (record {
          head_there = ih.head_there;
          there = above (later_link ps s fit j v.0 v.1 h) ih.there;
          nearest = λ g e u. ih.nearest g e (climb u e h);
        }))

    not-later : {i j : ℕ} → AtOrAbove (parent_in ps) i j → j < length ps → i ≤ j
    not-later u h = above_le (parent_in ps) (length ps) (earlier ps fit) u h

    -- the part that one rising pass finds is the rank of the nearest head at or above
    module _ (f : ℕ → ℕ) (pass : RisingPass ps s f) where
      pass_part : (j : ℕ) → Survivor ps s j → f j ≡ part_of ps s j
      pass_part =
          by_parents ps s fit (λ j. f j ≡ part_of ps s j)
          (λ j v h. pass j v ∙ rw h (sym (part_head ps s j v.0 h)))
          (λ j v h ih. pass j v ∙ rw h (ih ∙ sym (part_body ps s fit j v.0 v.1 h)))

      pub rising_pass : (h j : ℕ) → Survivor ps s j → Nearest (parent_in ps) (is_head ps s) h j → f j ≡ rank ps s h
      unfolding part_of
      rising_pass h j v m =
          let n = nearest-head j v in
          let below = not-later m.there v.0 in
          let near = not-later n.there v.0 in
          let a = not-later (m.nearest (nearest_head ps s j) n.head_there n.there) (omega arith) in
          let b = not-later (n.nearest h m.head_there m.there) (omega arith) in
          let e : nearest_head ps s j ≡ h = omega arith in
          pass_part j v ∙ rw e
