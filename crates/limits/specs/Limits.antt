-- How large an arm may be.
use Rattle.std.specs.Prelude.{ℕ, ◌*◌}

abbrev pub link_limit : ℕ
link_limit = 16

abbrev pub coupling_limit : ℕ
coupling_limit = 8

-- degrees of freedom: three for each link
abbrev pub dof_limit : ℕ
dof_limit = 3 * link_limit

-- a Jacobian block: three rows, a column for each degree of freedom
abbrev pub block_size : ℕ
block_size = 3 * dof_limit

-- the tables: a block for each link
abbrev pub table_size : ℕ
table_size = link_limit * block_size
