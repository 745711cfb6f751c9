-- A row write changes no link, and leaves rows that an arm handed in may have. Assumes nothing.
use Prim.Native.Nat.{ℕ, zero, suc, ◌<◌}
use mathlib.Core.Path.{◌≡◌, refl, sym, ap, ◌∙◌}
use mathlib.Core.Bool.{true}
use mathlib.Core.Logic.{inl, inr}
use mathlib.Core.List.{List, [], ◌∷◌, map}
use lib.ListN.{length, take, get_or, set, length-set, get_or-map}
use lib.Ieee.{Float}
use Rattle.refusal.proofs.Laws.{holds_in}
use Rattle.lists.proofs.Modified.{length-modify, modify_field, modify_every}
use Rattle.lists.proofs.Every.{every_map}
use Rattle.arm.specs.Sized.{Sized}
use Rattle.lists.specs.Lists.{modify}
use Rattle.lists.proofs.Bools.{both_hold, both}
use Rattle.limits.specs.Limits.{dof_limit}
use Rattle.floats.specs.Floats.{is_finite, all_finite}
use Rattle.arm.specs.declared.Row.{Row}
use Rattle.arm.specs.declared.RowName.{RowName}
use Rattle.arm.specs.declared.Arm.{Arm}
use Rattle.arm.specs.Arm.{links_of, couplings_of, tags_of, parents_of, masks_of, dof_count_of, row_number, entries_of, entries_to, rows_of}
use Rattle.arm.specs.Edits.{dof_at}
use Rattle.arm.specs.HandedIn.{tags_unique, parents_earlier, root_fits, rows_finite}
use Rattle.arm_edits.specs.Rows.{write_entries, write_refusal, entry_set, with_entry, row_written}
use Rattle.full_working.specs.Outcome.{out}
use Rattle.full_working.specs.Full.{Settled}
use Rattle.one_link.specs.Promise.{Right}
use Rattle.one_link.proofs.Settles.{facts, nowhere}
use Rattle.one_link.proofs.Right.{Edit}
use Rattle.always.proofs.Unworked.{still_ready, edit_right}

-- a finite float stored among finite ones
pub set-finite : (n : ℕ) (xs : List Float) (i : ℕ) (v : Float) → is_finite v ≡ true → all_finite (take n xs) ≡ true → all_finite (take n (set xs i v)) ≡ true
set-finite zero xs i v h e = refl
set-finite (suc n) [] i v h e = refl
set-finite (suc n) (x ∷ xs) zero v h e = both h (both_hold (is_finite x) (all_finite (take n xs)) e).1
set-finite (suc n) (x ∷ xs) (suc i) v h e = let p = both_hold (is_finite x) (all_finite (take n xs)) e in both p.0 (set-finite n xs i v h p.1)

module _ (a : Arm) (t : List Float) (sized : Sized a) (settled : Settled a t) (name : RowName) (link axis : ℕ) (value : Float) where
  abbrev new : Arm
  new = with_entry a name link axis value

  abbrev f : Row → Row
  f = entry_set (dof_at a link axis) value

  entries : (k : ℕ) → k < 5 → length (get_or (map entries_of (modify f (row_number name) a.rows)) k []) ≡ dof_limit
  unfolding entry_set
  entries k h =
      let none : Row = record { entries = [] } in
      ap length (get_or-map entries_of (modify f (row_number name) a.rows) k none)
      ∙ modify_field f (λ (r : Row). length r.entries) (λ r. length-set r.entries (dof_at a link axis) value) (row_number name) k a.rows none
      ∙ ap length (sym (get_or-map entries_of a.rows k none))
      ∙ sized.entries k h

  finite : is_finite value ≡ true → rows_finite a ≡ true → rows_finite new ≡ true
  unfolding rows_finite rows_of dof_count_of masks_of links_of with_entry entry_set
  finite v e =
      every_map all_finite (entries_to (dof_count_of a)) (modify f (row_number name) a.rows)
      ∙ modify_every f (λ (r : Row). all_finite (entries_to (dof_count_of a) r)) (row_number name) a.rows (record { entries = [] })
      (sym (every_map all_finite (entries_to (dof_count_of a)) a.rows) ∙ e)
      (λ h. set-finite (dof_count_of a) _ (dof_at a link axis) value v h)

  edit : write_refusal a link axis value ≡ 0 → Edit a t new nowhere (λ j. ⊥)
  unfolding write_refusal with_entry links_of couplings_of tags_of parents_of masks_of tags_unique parents_earlier root_fits
  edit e =
      let k = facts a t sized.links settled in
      record {
        sized = record {
          links = sized.links;
          couplings = sized.couplings;
          rows = length-modify f (row_number name) a.rows ∙ sized.rows;
          entries = entries;
        };
        few = k.few;
        ready = still_ready a t k;
        ok = λ z. record {
          counts = k.ok.counts;
          tags = k.ok.tags;
          parents = k.ok.parents;
          coupled = k.ok.coupled;
          masks = k.ok.masks;
          root = k.ok.root;
          axes = k.ok.axes;
          links = k.ok.links;
          couplings = k.ok.couplings;
          rows = finite (holds_in (write_entries a link axis value) e (is_finite value) 6 (inr (inr (inr (inl refl))))) k.ok.rows;
          angles = k.ok.angles;
        };
        apart = λ j h z. (λ q. refl, refl);
      }

  pub write_right : Right a t (write_refusal a link axis value) (with_entry a name link axis value) (λ j. ⊥) (out (row_written a name link axis value) t)
  unfolding row_written
  write_right = edit_right a t sized settled (write_refusal a link axis value) new (λ j. ⊥) edit
