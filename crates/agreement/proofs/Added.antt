-- A new link behind the last of arms that agree: arms that agree. Its row entries stand behind those that count. Assumes nothing.
use Prim.Native.Nat.{ℕ, zero, suc, ◌+◌, ◌≤◌}
use mathlib.Core.Path.{◌≡◌, sym, ap, ap₂, ◌∙◌}
use mathlib.Core.List.{List, [], ◌∷◌, ◌++◌, map, map-map, append-nil}
use native.Mathlib.Omega.{arith}
use native.Mathlib.Nat.{zero-add, suc-add}
use lib.ListN.{length, take, drop, length-set}
use lib.Seq.{take_at, take_all, take-take, length-take-le}
use lib.Ieee.{Float}
use Rattle.arm.proofs.Accepted.{accepted}
use Rattle.lists.proofs.Modified.{map-modify}
use Rattle.multibody_joint.specs.Joint.{zeros}
use Rattle.arm.specs.Sized.{Sized}
use Rattle.lists.specs.Lists.{laid, modify, with_part}
use Rattle.limits.specs.Limits.{link_limit}
use Rattle.masks.specs.Masks.{dofs_of, damping_row}
use Rattle.arm.specs.declared.Link.{Link}
use Rattle.arm.specs.declared.Row.{Row}
use Rattle.arm.specs.declared.Arm.{Arm}
use Rattle.arm.specs.Arm.{couplings_of, dof_count_of, entries_to, rows_of}
use Rattle.arm.specs.Agree.{Agree}
use Rattle.arm.proofs.Agree.{same_dofs}
use Rattle.addition.specs.declared.NewLink.{NewLink}
use Rattle.addition.specs.NewLink.{link_of, entries_set, rows_with, added_inputs}
use Rattle.addition.proofs.Tests.{Passed}
use Rattle.addition.proofs.Added.{zeros_enough, laid_enough, links_added, dofs_added, still_ok}
use Rattle.agreement.proofs.Rows.{of_rows}
use Rattle.agreement.proofs.Worked.{Workable}

-- ---- one row

set_front : (d n : ℕ) (s p : List Float) → length p ≡ n → take (d + n) (with_part d n p s) ≡ take d s ++ p
set_front zero n s p e = rw (zero-add n) (take_at p (drop n s) n e)
set_front (suc d) n [] p e = rw (suc-add d n) (ap (take (suc (d + n))) (append-nil p) ∙ take_all (suc (d + n)) p (omega arith))
set_front (suc d) n (x ∷ s) p e = rw (suc-add d n) (ap (λ (l : List Float). x ∷ l) (set_front d n s p e))

module _ (d n : ℕ) (values : List Float) (enough : n ≤ length values) (row : Row) where
  -- the entries that counted, and the new ones
  entries_new : entries_to (d + n) (entries_set d n values row) ≡ entries_to d row ++ take n values
  unfolding entries_set
  entries_new = set_front d n row.entries (take n values) (length-take-le n values enough)

  -- set over those of another link
  entries_over : entries_to (d + n) (entries_set d n values row) ≡ take d (entries_to (d + n) row) ++ take n values
  entries_over = entries_new ∙ ap (λ (l : List Float). l ++ take n values) (sym (take-take d (d + n) row.entries (omega arith)))

-- ---- the rows

-- as `rows_with` has it, of entries that count
abbrev grown : ℕ → ℕ → List (List Float) → List (List Float)
grown mask d rows =
    let n = dofs_of mask in
    let damping = take n (laid (damping_row mask) zeros) in
    modify (λ (l : List Float). take d l ++ damping) 1 (map (λ (l : List Float). l ++ take n zeros) rows)

module _ (a : Arm) (s : Sized a) (t : List Float) (new : NewLink) (k : Passed a t new) where
  abbrev d : ℕ
  d = dof_count_of a

  abbrev n : ℕ
  n = dofs_of new.locked

  rows_grown : rows_of (added_inputs a new) ≡ grown new.locked (dof_count_of a) (rows_of a)
  unfolding rows_of added_inputs rows_with
  rows_grown =
      let damping = laid (damping_row new.locked) zeros in
      ap (λ (i : ℕ). map (entries_to i) (rows_with a new.locked)) (dofs_added a s.links t new k (accepted a k.arm))
      ∙ map-modify (entries_set d n damping) (entries_to (d + n)) _ (entries_over d n damping (laid_enough new.locked)) (map (entries_set d n zeros) a.rows) 1
      ∙ ap (modify (λ (l : List Float). take d l ++ take n damping) 1)
      (map-map (entries_to (d + n)) (entries_set d n zeros) a.rows
      ∙ of_rows a s (λ (row : Row). entries_to (d + n) (entries_set d n zeros row)) (λ (l : List Float). l ++ take n zeros) (λ row e. entries_new d n zeros (zeros_enough new.locked) row))

  places_added : length (added_inputs a new).links ≡ link_limit
  unfolding added_inputs
  places_added = length-set a.links a.link_count (link_of new) ∙ s.links

-- ---- the arm

module _ (a b : Arm) (s : Sized a) (r : Sized b) (g : Agree a b) (t : List Float) (new : NewLink) (k : Passed a t new) (l : Passed b t new) where
  agree_added : Agree (added_inputs a new) (added_inputs b new)
  unfolding added_inputs couplings_of
  agree_added = record {
    link_count = ap (λ (i : ℕ). i + 1) g.link_count;
    coupling_count = g.coupling_count;
    links =
        links_added a s.links t new k (accepted a k.arm)
        ∙ ap (λ (ls : List Link). ls ++ (link_of new ∷ [])) g.links
        ∙ sym (links_added b r.links t new l (accepted b l.arm));
    couplings = g.couplings;
    rows =
        rows_grown a s t new k
        ∙ ap₂ (grown new.locked) (same_dofs a b g) g.rows
        ∙ sym (rows_grown b r t new l);
    rest = g.rest;
  }

  pub workable_added : Workable (added_inputs a new) (added_inputs b new)
  unfolding added_inputs
  workable_added = record {
    same = agree_added;
    places = places_added a s t new k;
    places' = places_added b r t new l;
    few = omega (arith, k.room);
    rising = (still_ok a s.links t new k (accepted a k.arm)).parents;
  }
