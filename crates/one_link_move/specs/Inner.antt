-- What inner functions are shown to do: no entry point's promise cites it.
use Rattle.std.specs.Prelude.{ℕ, ◌+◌, Bool, not, List, eqb, drop}
use Rattle.lists.specs.Tests.{every}
use Rattle.arm.specs.declared.Link.{Link}

-- a link has another parent
abbrev pub parent_differs : ℕ → Link → Bool
parent_differs link l = not (eqb l.parent link)

-- no link is below it: none after it has it for a parent
abbrev pub leaf : List Link → ℕ → Bool
leaf ls link = every (parent_differs link) (drop (link + 1) ls)
