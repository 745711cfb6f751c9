-- The first of a part is its head: any other survivor comes after its parent, and no earlier link has a head's rank. Assumes nothing.
use Prim.Native.Nat.{ℕ, zero, suc, ◌+◌, ◌*◌, ◌≤◌, ◌<◌}
use mathlib.Core.Path.{◌≡◌, refl, sym, ap, ◌∙◌}
use mathlib.Core.Bool.{Bool, true, false, cond, ◌&&◌}
use mathlib.Core.List.{List, ◌++◌}
use native.Mathlib.Omega.{arith}
use borrow.Author.Tests.{eq-eqb, ne_eqb}
use lib.Dec.{eqb}
use lib.ListN.{length, get_or-append}
use Rattle.part_arm.specs.Inner.{part_in, number_in, here_in, head_in}
use Rattle.lists.proofs.Numbers.{count_le, count_lt}
use Rattle.lists.specs.Numbers.{one_more, count_below}
use Rattle.lists.proofs.Lists.{any_default}
use Rattle.lists.proofs.Bools.{both_hold}
use Rattle.limits.specs.Limits.{link_limit}
use Rattle.topology.specs.declared.Split.{Split}
use Rattle.topology.specs.Parents.{parents_fit, parent_in}
use Rattle.topology.specs.Split.{survives, is_head, rank, part_count, nearest_head, part_of, is_in, number_of, gone, part_byte, number_byte, split_map}
use Rattle.topology.specs.Words.{Survivor}
use Rattle.topology.proofs.Fitting.{earlier}
use Rattle.topology.proofs.Pass.{part_head}
use Rattle.topology.proofs.Mapped.{map-length}
use Rattle.topology.proofs.Above.{above_le}
use Rattle.topology.proofs.Theorems.{map_at, with_parent, nearest-head, in_part}

none_below : (n : ℕ) (test : ℕ → Bool) → ((j : ℕ) → j < n → test j ≡ true → ⊥) → count_below n test ≡ 0
unfolding count_below
none_below zero test h = refl
none_below (suc n) test h = go (test n) refl (none_below n test (λ j l. h j (omega arith)))
  where
    go : (b : Bool) → test n ≡ b → count_below n test ≡ 0 → one_more b (count_below n test) ≡ 0
    go true e q = absurd (h n (omega arith) e)
    go false e q = q

module _ (ps : List ℕ) (s : Split) (fit : parents_fit ps ≡ true) where
  pub in_survives : (q j : ℕ) → is_in ps s q j ≡ true → survives s j ≡ true
  unfolding is_in
  in_survives q j e = (both_hold (survives s j) _ e).0

  pub is_in_lem : (j : ℕ) → survives s j ≡ true → is_in ps s (part_of ps s j) j ≡ true
  unfolding is_in
  is_in_lem j a = rw (a, eq-eqb (part_of ps s j) (part_of ps s j) refl)

  -- no earlier link is in a head's part
  pub head_first : (j : ℕ) → j < length ps → is_head ps s j ≡ true → number_of ps s j ≡ 0
  unfolding number_of part_of rank
  head_first j h e = none_below j (is_in ps s (part_of ps s j)) (λ i l q.
      (let v : Survivor ps s i = (omega arith, in_survives (part_of ps s j) i q) in
      let n = nearest-head ps s fit i v in
      let near = above_le (parent_in ps) (length ps) (earlier ps fit) n.there (omega arith) in
      let same : count_below (nearest_head ps s i) (is_head ps s) ≡ count_below j (is_head ps s) = in_part ps s (part_of ps s j) i q ∙ part_head ps s j h e in
      let less = count_lt (is_head ps s) (nearest_head ps s i) j (omega arith) n.head_there in
      omega arith))

  pub body_later : (j : ℕ) → Survivor ps s j → is_head ps s j ≡ false → 0 < number_of ps s j
  body_later j v e = omega (arith, (with_parent ps s fit j v e).greater)

  pub first_head : (j : ℕ) → Survivor ps s j → eqb (number_of ps s j) 0 ≡ is_head ps s j
  first_head j v = go (is_head ps s j) refl
    where
      go : (b : Bool) → is_head ps s j ≡ b → eqb (number_of ps s j) 0 ≡ is_head ps s j
      go true e = eq-eqb (number_of ps s j) 0 (head_first j v.0 e) ∙ sym e
      go false e = ne_eqb (number_of ps s j) 0 (λ z. omega (arith, body_later j v e)) ∙ sym e

  -- ---- what is read of the split's map

  module _ (k : ℕ) (below : k < part_count ps s) (few : length ps ≤ link_limit) (rest : List ℕ) where
    map : List ℕ
    map = split_map ps s (length ps) ++ rest

    reads_part : (j : ℕ) → j < length ps → part_in map j ≡ part_byte ps s j
    unfolding part_in map
    reads_part j h =
        let long = map-length ps s (length ps) in
        get_or-append (split_map ps s (length ps)) rest gone (2 * j) (omega arith)
        ∙ any_default (split_map ps s (length ps)) (2 * j) gone 0 (omega arith)
        ∙ (map_at ps s (length ps) j h).0

    reads_number : (j : ℕ) → j < length ps → number_in map j ≡ number_byte ps s j
    unfolding number_in map
    reads_number j h =
        let long = map-length ps s (length ps) in
        get_or-append (split_map ps s (length ps)) rest gone (2 * j + 1) (omega arith)
        ∙ any_default (split_map ps s (length ps)) (2 * j + 1) gone 0 (omega arith)
        ∙ (map_at ps s (length ps) j h).1

    pub here_read : (j : ℕ) → j < length ps → here_in (split_map ps s (length ps) ++ rest) k j ≡ is_in ps s k j
    unfolding here_in is_in part_byte part_count map
    here_read j h = ap (λ (x : ℕ). eqb x k) (reads_part j h) ∙ go (survives s j)
      where
        go : (b : Bool) → eqb (cond b (part_of ps s j) gone) k ≡ (b && eqb (part_of ps s j) k)
        go true = refl
        go false = ne_eqb gone k (λ e. omega (arith, count_le (is_head ps s) (length ps)))

    pub number_read : (j : ℕ) → j < length ps → survives s j ≡ true → number_in (split_map ps s (length ps) ++ rest) j ≡ number_of ps s j
    unfolding number_byte map
    number_read j h a = reads_number j h ∙ rw a

    pub head_read : (j : ℕ) → j < length ps → survives s j ≡ true → head_in (split_map ps s (length ps) ++ rest) j ≡ is_head ps s j
    unfolding head_in
    head_read j h a = ap (λ (x : ℕ). eqb x 0) (number_read j h a) ∙ first_head j (h, a)
