-- A list of masks: each one's start is the sum of the DoFs of all earlier ones.
use Rattle.std.specs.Prelude.{ℕ, zero, suc, ◌+◌, Bool, List, [], ◌∷◌, ◌++◌, length, take}
use Rattle.lists.specs.Tests.{every}
use Rattle.masks.specs.Masks.{is_mask, dofs_of}

-- each is a mask
abbrev pub all_masks : List ℕ → Bool
all_masks ms = every is_mask ms

-- the sum of the DoFs
unfoldable pub total_of : List ℕ → ℕ
total_of [] = 0
total_of (m ∷ ms) = dofs_of m + total_of ms

-- the start of mask i
unfoldable pub start_of : List ℕ → ℕ → ℕ
start_of ms i = total_of (take i ms)

-- the starts of the first n masks
unfoldable pub starts_to : List ℕ → ℕ → List ℕ
starts_to ms zero = []
starts_to ms (suc i) = starts_to ms i ++ (start_of ms i ∷ [])

-- the start of each mask
unfoldable pub starts_of : List ℕ → List ℕ
starts_of ms = starts_to ms (length ms)
