-- The pass over one link that is put in its place, as a call has its parts. Assumes nothing.
use Prim.Native.Nat.{ℕ, min, ◌≤◌, ◌<◌}
use mathlib.Core.Path.{◌≡◌, sym, ap, ◌∙◌}
use mathlib.Core.List.{List, map}
use native.Mathlib.Omega.{arith}
use lib.ListN.{length, length-set, take, get_or, set}
use lib.Seq.{get_or-set_same, get_or-set_other, take-set-le, take-take}
use lib.Ieee.{Float}
use Rattle.kinematics.specs.Inner.{Turned, turned_out, refresh_one}
use Rattle.lists.proofs.Lists.{any_default, map-take}
use Rattle.limits.specs.Limits.{link_limit}
use Rattle.masks.specs.Starts.{total_of, start_of}
use Rattle.arm.specs.declared.Arm.{Arm}
use Rattle.arm.specs.declared.Link.{Link}
use Rattle.arm.specs.Arm.{live_links, links_of, masks_of, locked_of, no_link, link_at}
use Rattle.kinematics.specs.State.{only}
use Rattle.kinematics.specs.Answers.{refresh_marked}
use Rattle.kinematics.proofs.One.{as_marked, one_marked}

-- l takes the place `link`; `above` is read where its parent stands, or at its own place
module _ (a : Arm) (whole : length a.links ≡ link_limit) (link : ℕ) (fits : link ≤ live_links a) (room : link < link_limit) (l above : Link) (p : ℕ)
    (d : Link) (ep : p ≡ min l.parent link) (ea : above ≡ get_or a.links p d) (start : ℕ) (es : start ≡ start_of (masks_of a) link) where
  abbrev ls : List Link
  ls = set a.links link l

  itself : link_at ls link ≡ l
  itself = get_or-set_same a.links link l no_link (omega arith)

  parent : (link_at ls link).parent < link → above ≡ link_at ls (link_at ls link).parent
  parent h =
      let e : (link_at ls link).parent ≡ l.parent = ap (λ (k : Link). k.parent) itself in
      let q : p ≡ (link_at ls link).parent = omega arith in
      ea
      ∙ any_default a.links p d no_link (omega arith)
      ∙ sym (get_or-set_other a.links link p l no_link (omega arith))
      ∙ ap (link_at ls) q

  begins : start ≡ start_of (map locked_of ls) link
  unfolding start_of masks_of links_of
  begins =
      es
      ∙ ap total_of
      (map-take locked_of link (take (live_links a) a.links)
      ∙ ap (map locked_of) (take-take link (live_links a) a.links fits ∙ sym (take-set-le link a.links link l (omega arith)))
      ∙ sym (map-take locked_of link ls))

  -- what the turn of the link leaves, the pass over it alone does
  pub one_placed : (count : ℕ) → link < min count link_limit → (t m : List Float) (r : Turned) → turned_out r m ≡ refresh_one l above start link t
      → refresh_marked ls count (only link) t ≡ as_marked ls link (turned_out r m)
  one_placed count there t m r e =
      one_marked ls (length-set a.links link l ∙ whole) t count link there above parent start begins
      ∙ ap (λ (k : Link). as_marked ls link (refresh_one k above start link t)) itself
      ∙ ap (as_marked ls link) (sym e)
