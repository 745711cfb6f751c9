-- What inner functions are shown to do: no entry point's promise cites it.
use Rattle.std.specs.Prelude.{ℕ, ◌+◌, cond, ◌&&◌, List, leb, length, Float}
use Rattle.lists.specs.Lists.{part, with_part}
use Rattle.floats.specs.Floats.{zip_to}

abbrev pub second : Float → Float → Float
second x y = y

-- s laid over the front of d
abbrev pub overlaid : List Float → List Float → List Float
overlaid d s = zip_to second d s

-- the n floats from `start` of s for those from `at` of d; where either list is too short, d stays
unfoldable pub copied_part : ℕ → ℕ → ℕ → List Float → List Float → List Float
copied_part at start n d s = cond (leb (at + n) (length d) && leb (start + n) (length s)) (with_part at n (part start n s) d) d

-- the n floats from `from` of a list copied further back in it; where they would overlap or not fit, the list stays
unfoldable pub moved_part : ℕ → ℕ → ℕ → List Float → List Float
moved_part from to n s = cond (leb (from + n) to && leb (to + n) (length s)) (with_part to n (part from n s) s) s
