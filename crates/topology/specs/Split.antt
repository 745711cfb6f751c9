-- The split of an arm at a link: heads, parts and new numbers.
use Rattle.std.specs.Prelude.{ℕ, zero, suc, Bool, true, cond, not, ◌&&◌, ◌||◌, List, [], ◌∷◌, ◌++◌, length, eqb}
use Rattle.lists.specs.Numbers.{count_below, last_that}
use Rattle.topology.specs.declared.Split.{Split}
use Rattle.topology.specs.declared.Split.TheVariants.{Delete, Cut}
use Rattle.topology.specs.Parents.{branch, parent_in}

-- the link that is deleted, or whose joint is cut
abbrev pub link_of : Split → ℕ
link_of (Delete k) = k
link_of (Cut k) = k

-- does link j survive?
abbrev pub survives : Split → ℕ → Bool
survives (Delete k) j = not (eqb j k)
survives (Cut k) j = true

-- is link j of parent p a head? Link 0 if it survives; on deletion, whose parent is deleted; on a cut, the cut link
abbrev pub head_of : Split → ℕ → ℕ → Bool
head_of (Delete k) j p = not (eqb j k) && (eqb j 0 || eqb p k)
head_of (Cut k) j p = eqb j 0 || eqb j k

module _ (ps : List ℕ) (s : Split) where
  -- is link j a head?
  unfoldable pub is_head : ℕ → Bool
  is_head j = head_of s j (parent_in ps j)

  -- how many heads come before link h: the rank of a head, heads in rising order
  unfoldable pub rank : ℕ → ℕ
  rank h = count_below h is_head

  -- a part for each head
  unfoldable pub part_count : ℕ
  part_count = count_below (length ps) is_head

  -- the nearest head at or above link j: the last on its branch
  unfoldable pub nearest_head : ℕ → ℕ
  nearest_head j = last_that is_head 0 (branch ps j)

  -- a survivor's part
  unfoldable pub part_of : ℕ → ℕ
  part_of j = rank (nearest_head j)

  -- is link j a survivor in part q?
  unfoldable pub is_in : ℕ → ℕ → Bool
  is_in q j = survives s j && eqb (part_of j) q

  -- a survivor's new number: how many earlier survivors are in its part
  unfoldable pub number_of : ℕ → ℕ
  number_of j = count_below j (is_in (part_of j))

-- what stands for part and number of the deleted link
abbrev pub gone : ℕ
gone = 255

module _ (ps : List ℕ) (s : Split) where
  -- part and number of a link as the map has them
  unfoldable pub part_byte : ℕ → ℕ
  part_byte j = cond (survives s j) (part_of ps s j) gone

  unfoldable pub number_byte : ℕ → ℕ
  number_byte j = cond (survives s j) (number_of ps s j) gone

  -- two bytes for each of the first n links: part and number
  unfoldable pub split_map : ℕ → List ℕ
  split_map zero = []
  split_map (suc j) = split_map j ++ (part_byte j ∷ number_byte j ∷ [])
