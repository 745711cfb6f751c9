-- The words of the theorems about branches, marks and splits.
use Rattle.std.specs.Prelude.{ℕ, zero, suc, ◌<◌, ◌≡◌, Bool, true, cond, List, [], ◌∷◌, ◌++◌, length, get_or}
use Rattle.topology.specs.Parents.{parent_in}
use Rattle.lists.specs.Numbers.{each, count_below}
use Rattle.topology.specs.declared.Split.{Split}
use Rattle.topology.specs.Above.{AtOrAbove}
use Rattle.topology.specs.Split.{survives, is_head, rank, part_of, is_in, number_of}

-- b goes from the root to link j: it starts with 0 and ends with j, and each next one's parent is the one before
pub record FromRoot (par : ℕ → ℕ) (b : List ℕ) (j : ℕ) : Type 0 where
  pub starts : (rest : List ℕ) × (b ≡ 0 ∷ rest)
  pub ends : (front : List ℕ) × (b ≡ front ++ (j ∷ []))
  pub next : (i : ℕ) → suc i < length b → par (get_or b (suc i) 0) ≡ get_or b i 0

-- h is the nearest head at or above link j: every head there is at or above h
pub record Nearest (par : ℕ → ℕ) (head : ℕ → Bool) (h j : ℕ) : Type 0 where
  pub head_there : head h ≡ true
  pub there : AtOrAbove par h j
  pub nearest : (g : ℕ) → head g ≡ true → AtOrAbove par g j → AtOrAbove par g h

module _ (ps : List ℕ) (s : Split) where
  -- a survivor of the list
  abbrev pub Survivor : ℕ → Type 0
  Survivor j = (j < length ps) × (survives s j ≡ true)

  -- f holds the parts that one rising pass finds: a head's is its rank, any other survivor's is its parent's
  abbrev pub RisingPass : (ℕ → ℕ) → Type 0
  RisingPass f = (j : ℕ) → Survivor j → f j ≡ cond (is_head ps s j) (rank ps s j) (f (parent_in ps j))

  -- link j lies in its parent's part, with a greater number
  pub record WithParent (j : ℕ) : Type 0 where
    pub survivor : Survivor (parent_in ps j)
    pub same_part : part_of ps s j ≡ part_of ps s (parent_in ps j)
    pub greater : number_of ps s (parent_in ps j) < number_of ps s j

  -- the new numbers of part q, links in rising order, among the first n
  unfoldable pub numbers_in : ℕ → ℕ → List ℕ
  numbers_in q zero = []
  numbers_in q (suc j) = numbers_in q j ++ cond (is_in ps s q j) (number_of ps s j ∷ []) []

  -- how many of the first n are in part q
  abbrev pub size_of : ℕ → ℕ → ℕ
  size_of q n = count_below n (is_in ps s q)

-- 0, 1, 2 .. , n of them
abbrev pub up_to : ℕ → List ℕ
up_to n = each n (λ k. k)
