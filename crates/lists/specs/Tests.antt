-- A test of every element of a list.
use Rattle.std.specs.Prelude.{Bool, List}
use Rattle.std.specs.List.{list_all}

-- does each pass?
abbrev pub every : {A : Type 0} → (A → Bool) → List A → Bool
every test xs = list_all test xs
