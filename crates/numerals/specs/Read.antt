-- A number read back from its bytes, lowest first.
use Rattle.std.specs.Prelude.{ℕ, ◌+◌, ◌*◌, Bool, true, ◌&&◌, List, [], ◌∷◌, ltb, take, drop}

-- the number of bytes
unfoldable pub number_of : List ℕ → ℕ
number_of [] = 0
number_of (b ∷ bs) = b + number_of bs * 256

-- the number of as many bytes as its width at a position; those that are missing count as 0
abbrev pub number_at : ℕ → List ℕ → ℕ → ℕ
number_at width bytes at = number_of (take width (drop at bytes))

unfoldable pub are_bytes : List ℕ → Bool
are_bytes [] = true
are_bytes (b ∷ bs) = ltb b 256 && are_bytes bs
