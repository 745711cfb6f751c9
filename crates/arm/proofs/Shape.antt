-- What owning an arm tells of its arrays: their lengths. A field's place is counted by the `.1` after the first two. Assumes nothing.
use mathlib.Core.Path.{◌≡◌}
use mathlib.Core.List.{List}
use lib.ListN.{length}
use mir.Val.{Val}
use denote.Laws.{Is}
use denote.Struct.Declared.{row}
use Rattle.limits.specs.Limits.{link_limit, coupling_limit, dof_limit}
use Rattle.arm.specs.declared.Arm.{Arm}
use Rattle.arm.specs.declared.Row.{Row}
use Rattle.arm.specs.contracts.Arm.{the_type}
use Rattle.arm.specs.contracts.Row as row_type

module _ (a : Arm) {vs : List Val} (p : Is (row the_type) a vs) where
  pub links_length : length a.links ≡ link_limit
  links_length = p.1.1.1.1.0.1.0.1

  pub couplings_length : length a.couplings ≡ coupling_limit
  couplings_length = p.1.1.1.1.1.0.1.0.1

  pub rows_length : length a.rows ≡ 5
  rows_length = p.1.1.1.1.1.1.0.1.0.1

pub row-length : (r : Row) {vs : List Val} → Is (row row_type.the_type) r vs → length r.entries ≡ dof_limit
row-length r p = p.1.1.0.1.0.1
