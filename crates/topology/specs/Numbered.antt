-- Links numbered within their parts, over a list of parts: what the code that writes the split map is shown to do.
use Rattle.std.specs.Prelude.{ℕ, zero, suc, ◌<◌, Bool, false, cond, Option, Some, None, MatchOption, ⊤, List, [], ◌∷◌, ◌++◌, get_or, eqb}
use Rattle.lists.specs.Numbers.{count_below}
use Rattle.limits.specs.Limits.{link_limit}
use Rattle.topology.specs.declared.Split.{Split}
use Rattle.topology.specs.Split.{survives, part_of, gone}

-- a survivor's part
unfoldable pub part_if_any : List ℕ → Split → ℕ → Option ℕ
part_if_any ps s j = cond (survives s j) (Some (part_of ps s j)) None

-- the part at place j
abbrev pub part_at : List (Option ℕ) → ℕ → Option ℕ
part_at qs j = get_or qs j None

-- is it part q?
abbrev pub is_part : ℕ → Option ℕ → Bool
is_part q None = false
is_part q (Some p) = eqb p q

-- a part as the map has it
abbrev pub byte_of : Option ℕ → ℕ
byte_of None = gone
byte_of (Some q) = q

-- how many places before j hold part q; 255 where it is none
abbrev pub number_for : List (Option ℕ) → ℕ → Option ℕ → ℕ
number_for qs j None = gone
number_for qs j (Some q) = count_below j (λ i. is_part q (part_at qs i))

-- part and number of the first n
unfoldable pub numbered : List (Option ℕ) → ℕ → List ℕ
numbered qs zero = []
numbered qs (suc j) = numbered qs j ++ (byte_of (part_at qs j) ∷ number_for qs j (part_at qs j) ∷ [])

-- each of the first n parts is one that an arm may have
abbrev pub PartsBelow : ℕ → List (Option ℕ) → Type 0
PartsBelow n qs = (j : ℕ) → j < n → MatchOption (part_at qs j) ⊤ (λ q. q < link_limit)
