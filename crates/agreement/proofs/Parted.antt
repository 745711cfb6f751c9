-- Arms that agree have the same parts: links, couplings and entries are gathered from those that count. Assumes nothing.
use Prim.Native.Nat.{ℕ, zero, suc, min, ◌+◌, ◌≤◌, ◌<◌}
use mathlib.Core.Path.{◌≡◌, refl, sym, ap, ◌∙◌}
use mathlib.Core.Bool.{cond}
use mathlib.Core.List.{List, [], ◌∷◌, map}
use native.Mathlib.Omega.{arith}
use lib.ListN.{length, take, drop, get_or}
use lib.Seq.{take-take, get_or-take}
use lib.Ieee.{Float}
use Rattle.arm.specs.Empty.{blank_row, empty_arm}
use Rattle.lists.specs.Lists.{laid}
use Rattle.lists.specs.Numbers.{gathered, chosen}
use Rattle.arm.specs.Sized.{Sized}
use Rattle.limits.specs.Limits.{link_limit, coupling_limit}
use Rattle.topology.specs.declared.Split.{Split}
use Rattle.topology.specs.Split.{is_head, is_in, number_of}
use Rattle.masks.specs.Masks.{dofs_of}
use Rattle.arm.specs.declared.Link.{Link}
use Rattle.arm.specs.declared.Coupling.{Coupling}
use Rattle.arm.specs.declared.Row.{Row}
use Rattle.arm.specs.declared.Arm.{Arm}
use Rattle.arm.specs.Arm.{live_links, couplings_of, mask_at, start_at, dof_count_of, rows_of, link_at, no_coupling, coupling_at, own_part}
use Rattle.arm.specs.Agree.{Agree}
use Rattle.arm.specs.Setters.{arm_with}
use Rattle.arm.proofs.Live.{part_within}
use Rattle.arm.proofs.Agree.{same_parents, same_mask_at, same_start}
use Rattle.part_arm.specs.Places.{Places, places_of, goes_on}
use Rattle.part_arm.specs.Part.{new_link, part_links, part_entries, part_row, coupling_stays, new_coupling, part_couplings, part_arm}
use Rattle.arm_split.proofs.Same.{gathered_same}
use Rattle.agreement.proofs.Rows.{of_rows}
use Rattle.agreement.proofs.Worked.{same_link}

-- ---- a link's own entries lie among those that count

within : (at n d : ℕ) (l : List Float) → at + n ≤ d → take n (drop at l) ≡ take n (drop at (take d l))
within zero n d l h = sym (take-take n d l (omega arith))
within (suc at) n zero l h = absurd (omega arith)
within (suc at) n (suc d) [] h = refl
within (suc at) n (suc d) (x ∷ l) h = within at n d l (omega arith)

-- a row of these entries
abbrev row_of : List Float → Row
row_of l = record { entries = l }

module _ (p : Places) (a : Arm) (s : Sized a) where
  own_seen : (l : List Float) (j : ℕ) → j < live_links a → own_part a j l ≡ own_part a j (take (dof_count_of a) l)
  unfolding own_part
  own_seen l j h = within (start_at a j) (dofs_of (mask_at a j)) (dof_count_of a) l (part_within a s.links j h)

  row_seen : (row : Row) → part_row p a row ≡ part_row p a (row_of (take (dof_count_of a) row.entries))
  unfolding part_row part_entries
  row_seen row =
      ap (λ (l : List Float). row_of (laid l blank_row.entries))
      (gathered_same (live_links a) _ _ (λ j h. ap (λ (l : List Float). cond (goes_on p j) l []) (own_seen row.entries j h)))

  rows_seen : map (part_row p a) a.rows ≡ map (λ (l : List Float). part_row p a (row_of l)) (rows_of a)
  rows_seen = of_rows a s (part_row p a) (λ (l : List Float). part_row p a (row_of l)) (λ row e. row_seen row)

-- ---- two arms, to the same places

module _ (p : Places) (a b : Arm) (s : Sized a) (r : Sized b) (g : Agree a b) where
  same_live : live_links a ≡ live_links b
  same_live = ap (λ (n : ℕ). min n link_limit) g.link_count

  links_same : part_links p a ≡ part_links p b
  unfolding part_links
  links_same =
      gathered_same (live_links a) _ _ (λ j h.
      ap (λ (l : Link). cond (p.here j) (new_link (p.head j) (p.number l.parent) l ∷ []) []) (same_link a b g j h))
      ∙ ap (λ (n : ℕ). chosen n p.here (λ j. let l = link_at b.links j in new_link (p.head j) (p.number l.parent) l)) same_live

  coupling_same : (i : ℕ) → i < min a.coupling_count coupling_limit → coupling_at a i ≡ coupling_at b i
  unfolding couplings_of
  coupling_same i h =
      sym (get_or-take (min a.coupling_count coupling_limit) a.couplings i no_coupling h)
      ∙ ap (λ (cs : List Coupling). get_or cs i no_coupling) g.couplings
      ∙ get_or-take (min b.coupling_count coupling_limit) b.couplings i no_coupling (omega (arith, g.coupling_count))

  couplings_same : part_couplings p a ≡ part_couplings p b
  unfolding part_couplings
  couplings_same =
      gathered_same (min a.coupling_count coupling_limit) _ _ (λ i h.
      ap (λ (c : Coupling). cond (coupling_stays p c) (new_coupling p.number c ∷ []) []) (coupling_same i h))
      ∙ ap (λ (n : ℕ). chosen (min n coupling_limit) (λ i. coupling_stays p (coupling_at b i)) (λ i. new_coupling p.number (coupling_at b i))) g.coupling_count

  row_same : (row : Row) → part_row p a row ≡ part_row p b row
  unfolding part_row part_entries own_part
  row_same row =
      ap (λ (l : List Float). row_of (laid l blank_row.entries))
      (gathered_same (live_links a) _ _ (λ j h. rw (same_mask_at a b g j, same_start a b g j))
      ∙ ap (λ (n : ℕ). gathered n (λ j. cond (goes_on p j) (own_part b j row.entries) [])) same_live)

  rows_same : map (part_row p a) a.rows ≡ map (part_row p b) b.rows
  rows_same =
      rows_seen p a s
      ∙ (λ i. map (λ (l : List Float). row_same (row_of l) i) (g.rows i))
      ∙ sym (rows_seen p b r)

  arm_same : part_arm p a ≡ part_arm p b
  unfolding part_arm
  arm_same =
      let ls = part_links p a in
      let cs = part_couplings p a in
      ap (λ (x : Arm). arm_with x (length ls) (length cs) (laid ls empty_arm.links) (laid cs empty_arm.couplings) (map (part_row p a) a.rows)) g.rest
      ∙ cc (links_same, couplings_same, rows_same)

-- ---- the part of a split

pub part_same : (a b : Arm) → Sized a → Sized b → Agree a b → (s : Split) (k : ℕ) → part_arm (places_of a s k) a ≡ part_arm (places_of b s k) b
part_same a b x y g s k =
    arm_same (places_of a s k) a b x y g
    ∙ ap (λ (ps : List ℕ). part_arm (record { here = is_in ps s k; head = is_head ps s; number = number_of ps s }) b) (same_parents a b g)
