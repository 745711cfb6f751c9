-- The parent of a link, in the array and in the list of parents; of an accepted arm it is no later than its link. Assumes nothing.
use Prim.Native.Nat.{ℕ, zero, suc, ◌≤◌, ◌<◌}
use mathlib.Core.Path.{◌≡◌, sym, ap, ◌∙◌}
use mathlib.Core.Bool.{true}
use native.Mathlib.Omega.{arith}
use lib.ListN.{length, take, get_or, length-map}
use lib.Seq.{get_or-take, length-take-le}
use Rattle.kinematics.specs.State.{parent_at}
use Rattle.lists.proofs.Lists.{map_at}
use Rattle.lists.proofs.Numbers.{all_at}
use Rattle.limits.specs.Limits.{link_limit}
use borrow.Author.Tests.{eqb-true}
use mathlib.Core.List.{List}
use Rattle.topology.specs.Parents.{parent_fits, parents_fit, parent_in}
use Rattle.topology.proofs.Fitting.{earlier}
use Rattle.arm.specs.declared.Link.{Link}
use Rattle.arm.specs.declared.Arm.{Arm}
use Rattle.arm.specs.Arm.{live_links, links_of, parents_of, no_link, parent_of}
use Rattle.arm.specs.HandedIn.{parents_earlier}
use Rattle.arm.proofs.Live.{links_live}

-- a first link's parent is 0
root : (ps : List ℕ) → parents_fit ps ≡ true → 0 < length ps → parent_in ps 0 ≡ 0
unfolding parents_fit parent_fits
root ps fit h = eqb-true (parent_in ps 0) 0 (all_at (length ps) (λ k. parent_fits k (parent_in ps k)) fit 0 h)

module _ (a : Arm) (whole : length a.links ≡ link_limit) where
  -- a link that counts, and one that does not
  pub parent_there : (link : ℕ) (d : Link) → link < live_links a → (get_or a.links link d).parent ≡ parent_in (parents_of a) link
  unfolding parents_of links_of
  parent_there link d h =
      sym
      (map_at parent_of (take (live_links a) a.links) link d 0 (omega (arith, length-take-le (live_links a) a.links (omega arith)))
      ∙ ap parent_of (get_or-take (live_links a) a.links link d h))

  module _ (few : a.link_count ≤ link_limit) where
    pub live : live_links a ≡ a.link_count
    live = omega arith

    pub parents_count : length (parents_of a) ≡ a.link_count
    unfolding parents_of
    parents_count = length-map (links_of a) parent_of ∙ links_live a whole ∙ live

    -- as the pass has it
    pub parent_of_lem : (j : ℕ) → j < a.link_count → parent_at a.links j ≡ parent_in (parents_of a) j
    unfolding parent_at
    parent_of_lem j h = parent_there j no_link (omega (arith, live))

    pub parent_le : parents_earlier a ≡ true → (j : ℕ) → j < a.link_count → parent_at a.links j ≤ j
    unfolding parents_earlier
    parent_le ok zero h = omega (arith, parent_of_lem 0 h, root (parents_of a) ok (omega (arith, parents_count)))
    parent_le ok (suc j) h = omega (arith, parent_of_lem (suc j) h, earlier (parents_of a) ok (suc j) (omega arith) (omega (arith, parents_count)))
