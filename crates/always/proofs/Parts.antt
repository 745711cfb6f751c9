-- An empty arm and a part of a split have arrays of their lengths. Assumes nothing.
use Prim.Native.Nat.{ℕ, min, ◌≤◌, ◌<◌}
use mathlib.Core.Path.{◌≡◌, refl, sym, ap, subst, ◌∙◌}
use mathlib.Core.Bool.{Bool, true, false}
use mathlib.Core.List.{[]}
use native.Mathlib.Omega.{arith}
use lib.ListN.{length, get_or, replicate, length-map, length-replicate, get_or-replicate}
use Rattle.arm.specs.Setters.{unplaced}
use Rattle.arm.specs.Empty.{blank_link, blank_coupling, blank_row, empty_arm}
use Rattle.lists.proofs.Gathered.{length-laid, length-chosen, chosen_le}
use Rattle.lists.specs.Numbers.{chosen}
use Rattle.lists.proofs.Lists.{map_at}
use Rattle.lists.proofs.Numbers.{count_at}
use Rattle.limits.specs.Limits.{link_limit, coupling_limit, dof_limit}
use Rattle.floats.specs.Floats.{zero32}
use Rattle.multibody_joint.specs.Joint.{fixed_joint, new_joint}
use Rattle.topology.specs.declared.Split.{Split}
use Rattle.arm.specs.declared.Link.{Link}
use Rattle.arm.specs.declared.Arm.{Arm}
use Rattle.arm.specs.Arm.{live_links, entries_of, no_link, link_at, coupling_at}
use Rattle.arm.proofs.Live.{dof_count_le}
use Rattle.part_arm.specs.Places.{Places, places_of}
use Rattle.part_arm.specs.Part.{new_link, part_links, part_entries, part_row, coupling_stays, new_coupling, part_couplings, part_arm}
use Rattle.arm_split.proofs.Picked.{chosen_at}
use Rattle.arm_split.proofs.Passing.{links_few}
use Rattle.arm_split.proofs.Theorems as of_part
use Rattle.always.proofs.Shapes.{coordinates, Shaped, front_of, rows_sized}

-- what holds of each that may be chosen
chosen_holds : {A : Type 0} (P : A → Type 0) (n : ℕ) (pick : ℕ → Bool) (f : ℕ → A) (d : A) → ((j : ℕ) → j < n → P (f j)) → (i : ℕ) → i < length (chosen n pick f) → P (get_or (chosen n pick f) i d)
chosen_holds P n pick f d h i l =
    let r = count_at pick n i (omega (arith, length-chosen pick f n)) in
    subst P (sym (ap (λ (k : ℕ). get_or (chosen n pick f) k d) (sym r.3) ∙ chosen_at pick f n r.0 d r.1 r.2)) (h r.0 r.1)

new_three : (head : Bool) (parent : ℕ) (l : Link) → coordinates l ≡ 3 → coordinates (new_link head parent l) ≡ 3
unfolding new_link fixed_joint new_joint
new_three true parent l e = refl
new_three false parent l e = e

pub blank_shaped : Shaped empty_arm
unfolding empty_arm unplaced fixed_joint new_joint
blank_shaped = record {
  sized = record {
    links = length-replicate link_limit blank_link;
    couplings = length-replicate coupling_limit blank_coupling;
    rows = refl;
    entries = λ k h. ap length (map_at entries_of (replicate 5 blank_row) k blank_row [] h ∙ ap entries_of (get_or-replicate 5 k blank_row blank_row h)) ∙ length-replicate dof_limit zero32;
  };
  three = λ j h. ap coordinates (get_or-replicate link_limit j blank_link no_link h);
}

pub part_shaped : (a : Arm) (s : Split) (k : ℕ) → Shaped a → Shaped (part_arm (places_of a s k) a)
unfolding part_arm part_links part_couplings part_row
part_shaped a s k w =
    let p = places_of a s k in
    record {
      sized = record {
        links = length-laid (part_links p a) empty_arm.links (omega (arith, links_few p a, blank_shaped.sized.links)) ∙ blank_shaped.sized.links;
        couplings = length-laid (part_couplings p a) empty_arm.couplings (omega (arith, couplings_few p, blank_shaped.sized.couplings)) ∙ blank_shaped.sized.couplings;
        rows = length-map a.rows (part_row p a) ∙ w.sized.rows;
        entries = rows_sized a w.sized (part_row p a) (λ r e.
            length-laid (part_entries p a r.entries) blank_row.entries (omega (arith, length-replicate dof_limit zero32, of_part.rows a s k w.sized r.entries e, dof_count_le (part_arm p a)))
            ∙ length-replicate dof_limit zero32);
      };
      three = λ j h.
          front_of (λ (l : Link). coordinates l ≡ 3) (part_links p a) empty_arm.links j no_link
          (chosen_holds (λ (l : Link). coordinates l ≡ 3) (live_links a) p.here _ no_link (λ i q. new_three (p.head i) _ (link_at a.links i) (w.three i (omega arith))))
          (blank_shaped.three j h);
    }
  where
    couplings_few : (p : Places) → length (part_couplings p a) ≤ coupling_limit
    couplings_few p = omega (arith, chosen_le (λ i. coupling_stays p (coupling_at a i)) (λ i. new_coupling p.number (coupling_at a i)) (min a.coupling_count coupling_limit))
