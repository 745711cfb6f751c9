-- What inner functions are shown to do: no entry point's promise cites it.
use Rattle.std.specs.Prelude.{ℕ, List, ◌++◌, map, take, drop, Float}
use Rattle.lists.specs.Numbers.{each}
use Rattle.masks.specs.Starts.{start_of}
use Rattle.arm.specs.declared.Link.{Link}
use Rattle.arm.specs.Arm.{link_at, locked_of}
use Rattle.whole_step.specs.Step.{link_integrated}

-- link i of the first n: its joint is handed the velocities from the link's start onward
abbrev pub integrated_at : ℕ → List Link → List Float → Float → ℕ → Link
integrated_at n ls velocities dt i = link_integrated (link_at ls i) (drop (start_of (map locked_of (take n ls)) i) velocities) dt

-- the first n of the links; the others stay
unfoldable pub front_integrated : ℕ → List Link → List Float → Float → List Link
front_integrated n ls velocities dt = each n (integrated_at n ls velocities dt) ++ drop n ls
