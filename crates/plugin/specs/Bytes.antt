-- Floats as bytes.
use Rattle.std.specs.Prelude.{ℕ, ◌/◌, List, [], ◌∷◌, ◌++◌, length, Float}
use Rattle.std.specs.Float.{binary32}
use Rattle.std.specs.Float.Ieee.{to_bits}
use Rattle.refusal.specs.Counted.{Outcome, filled}
use Rattle.numerals.specs.Bytes.{little_endian}
use Rattle.masks.specs.Masks.{dofs_of, damping_row}
use Rattle.masks.specs.Answers.{damping_refusal}

-- a row of f32 by its bits
unfoldable pub bytes_of : List Float → List ℕ
bytes_of [] = []
bytes_of (x ∷ xs) = little_endian 4 (to_bits binary32 x) ++ bytes_of xs

-- `default_damping` with bytes for floats: the lent memory has room for a quarter as many
unfoldable pub damping_bytes : ℕ → List ℕ → Outcome ℕ
damping_bytes mask lent = filled (damping_refusal mask (length lent / 4)) (dofs_of mask) (bytes_of (damping_row mask)) lent
