-- The loop that integrates every joint: the links passed are done, the others are as they were, and the start runs along. Assumes nothing.
use Prim.Native.Nat.{ℕ, suc, ◌+◌, ◌-◌, ◌*◌, ◌≤◌, ◌<◌}
use mathlib.Core.Path.{◌≡◌, refl, sym, ap, ap₂, ◌∙◌}
use mathlib.Core.List.{List, [], ◌∷◌, ◌++◌, map, append_assoc}
use native.Mathlib.Omega.{arith}
use native.Mathlib.Numerals.{add-one}
use lib.ListN.{length, take, drop, get_or, set, length-map, get_or-map}
use lib.Seq.{drop-cons, set_at, get_or_at, get_or-take, length-take-le}
use lib.Ieee.{Float}
use Rattle.arm.specs.Setters.{with_links, with_joint}
use Rattle.arm.specs.declared.RowName.TheVariants.{Velocities}
use Rattle.multibody_joint.specs.declared.Joint.{Joint}
use Rattle.multibody_joint.specs.Motion.{integrated}
use Rattle.lists.proofs.Lists.{map_at, tail}
use Rattle.lists.proofs.Numbers.{length-each}
use Rattle.lists.specs.Numbers.{each}
use Rattle.limits.specs.Limits.{dof_limit}
use Rattle.masks.specs.Masks.{dofs_of}
use Rattle.masks.specs.Starts.{start_of, total_of}
use Rattle.masks.proofs.Totals.{start_next, start_le}
use Rattle.arm.specs.declared.Link.{Link}
use Rattle.arm.specs.declared.Arm.{Arm}
use Rattle.arm.specs.Arm.{live_links, links_of, locked_of, masks_of, start_at, row_in, entries_of, no_link, link_at}
use Rattle.whole_step.specs.Inner.{integrated_at, front_integrated}
use Rattle.whole_step.specs.Step.{link_integrated, velocities_of, link_after, links_after, arm_after}

module _ (n : ℕ) (ls : List Link) (vs : List Float) (dt : Float) (fits : n ≤ length ls) where
  abbrev starts : ℕ → ℕ
  starts i = start_of (map locked_of (take n ls)) i

  abbrev after : ℕ → Link
  after = integrated_at n ls vs dt

  -- before turn i
  abbrev pub Done : ℕ → ℕ → List Link → Type 0
  Done i start links = (start ≡ start_of (map locked_of (take n ls)) i) × (links ≡ each i (integrated_at n ls vs dt) ++ drop i ls)

  module _ (i start : ℕ) (links : List Link) (k : Done i start links) where
    module _ (h : i < n) where
      next : links ≡ each i after ++ (link_at ls i ∷ drop (suc i) ls)
      next = k.1 ∙ ap (λ (l : List Link). each i after ++ l) (drop-cons ls i no_link (omega arith))

      link_next : link_at links i ≡ link_at ls i
      link_next = ap (λ (l : List Link). link_at l i) next ∙ get_or_at (each i after) (link_at ls i) (drop (suc i) ls) no_link i (length-each after i)

      each_more : each (suc i) after ≡ each i after ++ (after i ∷ [])
      unfolding each
      each_more = refl

      start_more : (d : ℕ) → d ≡ dofs_of (link_at links i).joint.locked → start + d ≡ starts (i + 1)
      start_more d e =
          let l : length (take n ls) ≡ n = length-take-le n ls fits in
          let m : get_or (map locked_of (take n ls)) i 7 ≡ (link_at links i).joint.locked =
          map_at locked_of (take n ls) i no_link 7 (omega arith) ∙ ap locked_of (get_or-take n ls i no_link h ∙ sym link_next) in
          let q : dofs_of (get_or (map locked_of (take n ls)) i 7) ≡ dofs_of (link_at links i).joint.locked = ap dofs_of m in
          omega (arith, start_next (map locked_of (take n ls)) i 7 (omega (arith, length-map (take n ls) locked_of)), k.0)

      pub done_more : (d : ℕ) → d ≡ dofs_of (link_at links i).joint.locked → (link : Link) → link ≡ link_integrated (link_at links i) (drop start vs) dt
          → Done (i + 1) (start + d) (set links i link)
      done_more d e link q = (
        start_more d e,
        rw (add-one, each_more, append_assoc)
            (ap (λ (l : List Link). set l i link) next
            ∙ set_at (each i after) (link_at ls i) (drop (suc i) ls) link i (length-each after i)
            ∙ ap (λ (l : Link). each i after ++ (l ∷ drop (suc i) ls)) (q ∙ ap₂ (λ (l : Link) (s : ℕ). link_integrated l (drop s vs) dt) link_next k.0)),
      )

pub done_none : (n : ℕ) (ls : List Link) (vs : List Float) (dt : Float) → (0 ≡ start_of (map locked_of (take n ls)) 0) × (ls ≡ each 0 (integrated_at n ls vs dt) ++ drop 0 ls)
unfolding each start_of total_of
done_none n ls vs dt = (refl, refl)

-- no start lies further than three entries a link
pub start_small : (ms : List ℕ) (i start : ℕ) → start ≡ start_of ms i → start ≤ 3 * i
start_small ms i start e = omega (arith, e, start_le ms i)

-- a link whose joint is handed the part of the row from its start on
pub stepped : (l : Link) (vs : List Float) (start : ℕ) (dt : Float) → length vs ≡ dof_limit → (j : Joint)
    → j ≡ integrated l.joint (take (dof_limit - start) (drop start vs)) dt → with_joint l j ≡ link_integrated l (drop start vs) dt
unfolding link_integrated
stepped l vs start dt w j e =
    ap (with_joint l)
    (e
    ∙ ap (λ (n : ℕ). integrated l.joint (take (n - start) (drop start vs)) dt) (sym w)
    ∙ ap (λ (r : List Float). integrated l.joint r dt) (tail vs start))

-- ---- the arm

pub arm_stepped : (a : Arm) (dt : Float) (n : ℕ) → n ≡ live_links a → (vs : List Float) → vs ≡ row_in a Velocities → (ls : List Link)
    → ls ≡ front_integrated n a.links vs dt → with_links a ls ≡ arm_after a dt
unfolding arm_after links_after velocities_of link_after start_at masks_of links_of row_in front_integrated
arm_stepped a dt n en vs ev ls e =
    let row : vs ≡ (get_or a.rows 0 (record { entries = [] })).entries = ev ∙ get_or-map entries_of a.rows 0 (record { entries = [] }) in
    ap (with_links a) e ∙ (λ r. with_links a (each (en r) (integrated_at (en r) a.links (row r) dt) ++ drop (en r) a.links))
