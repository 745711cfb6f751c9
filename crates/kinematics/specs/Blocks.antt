-- Jacobian blocks, by document 01's 'Kinematics': three rows of floats, one after the other, with a column for each degree of freedom.
use Rattle.std.specs.Prelude.{ℕ, ◌+◌, ◌*◌, cond, List, ◌++◌, get_or, set, replicate, Float}
use Rattle.std.specs.Float.{nan}
use Rattle.std.specs.Float.Ieee.{neg}
use Rattle.lists.specs.Lists.{part, with_part}
use Rattle.limits.specs.Limits.{dof_limit, block_size}
use Rattle.floats.specs.Floats.{zero32, one32, plus, times, zip_to}
use Rattle.masks.specs.Masks.{is_free, dofs_below}
use Rattle.planar.specs.declared.Rotation.{Rotation}
use Rattle.planar.specs.declared.Point.{Point}

-- ---- the tables

-- link j's block in the tables, read and written
abbrev pub block_at : ℕ → List Float → List Float
block_at j t = part (j * block_size) block_size t

abbrev pub with_block : ℕ → List Float → List Float → List Float
with_block j b t = with_part (j * block_size) block_size b t

abbrev pub zero_block : List Float
zero_block = replicate block_size zero32

-- ---- one block

-- row 0, 1 or 2
abbrev pub row : ℕ → List Float → List Float
row i b = part (i * dof_limit) dof_limit b

-- x + k·w
abbrev pub plus_times : Float → Float → Float → Float
plus_times k x w = plus x (times k w)

-- for each column v0 + (−shift.y)·w and v1 + shift.x·w
unfoldable pub shifted : Point → List Float → List Float
shifted shift b =
    zip_to (plus_times (neg shift.y)) (row 0 b) (row 2 b)
    ++ (zip_to (plus_times shift.x) (row 1 b) (row 2 b) ++ row 2 b)

-- the entry at i with v added
abbrev pub plus_at : ℕ → Float → List Float → List Float
plus_at i v b = set b i (plus (get_or b i nan) v)

-- (x, y, w) added to column c
unfoldable pub column_added : ℕ → Float → Float → Float → List Float → List Float
column_added c x y w b = plus_at (2 * dof_limit + c) w (plus_at (dof_limit + c) y (plus_at c x b))

-- the column of an axis added, if it is free: it stands at its place among the joint's own
unfoldable pub axis_added : ℕ → ℕ → ℕ → Float → Float → Float → List Float → List Float
axis_added locked start axis x y w b = cond (is_free locked axis) (column_added (start + dofs_below locked axis) x y w b) b

-- the joint's own columns added: X (R.re, R.im, 0), Y (−R.im, R.re, 0), angle (0, 0, 1)
unfoldable pub own_added : ℕ → ℕ → Rotation → List Float → List Float
own_added locked start r b =
    axis_added locked start 2 zero32 zero32 one32
    (axis_added locked start 1 (neg r.im) r.re zero32
    (axis_added locked start 0 r.re r.im zero32 b))
