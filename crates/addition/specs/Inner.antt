-- What inner functions ask, and are shown to do: no entry point's promise cites it.
use Rattle.std.specs.Prelude.{ℕ, ◌≤◌, Bool}
use Rattle.limits.specs.Limits.{link_limit}
use Rattle.arm.specs.declared.Link.{Link}
use Rattle.arm.specs.HandedIn.{differs}
use Rattle.addition.specs.declared.NewLink.{NewLink}

-- parent and masks are small: each fits a byte, and none is cut
pub record Small (new : NewLink) : Type 0 where
  pub parent : new.parent ≤ link_limit
  pub locked : new.locked ≤ 7
  pub limit : new.limit ≤ 7
  pub motor : new.motor ≤ 7

-- a link has another tag
abbrev pub tag_differs : ℕ → Link → Bool
tag_differs tag l = differs tag l.tag
