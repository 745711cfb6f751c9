-- Demand 3 of the addition: only the new link is marked, and no earlier one has it for a parent. Assumes nothing.
use Prim.Native.Nat.{ℕ, ◌+◌, ◌≤◌, ◌<◌}
use mathlib.Core.Path.{◌≡◌, refl, sym, ap, ap₂, ◌∙◌}
use mathlib.Core.Bool.{Bool, true, false}
use mathlib.Core.List.{List, [], ◌∷◌, ◌++◌, map}
use native.Mathlib.Omega.{arith}
use native.Mathlib.Decide.{dec_lt}
use borrow.Author.Tests.{eqb-true, eqb-false, ne_eqb}
use lib.Dec.{eqb}
use lib.ListN.{length, get_or, set, take, length-set, length-map, get_or-map, get_or-append}
use lib.Seq.{get_or-set_other, take-set-le, length-take-le, take-append-le, take_at}
use lib.Ieee.{Float}
use Rattle.multibody_joint.specs.Joint.{zeros}
use Rattle.arm.specs.Sized.{Sized}
use Rattle.lists.proofs.Parts.{with_length, take_drop_take}
use Rattle.lists.proofs.Modified.{length-modify, modify_same, modify_other}
use Rattle.lists.proofs.Lists.{map-take, map_at}
use Rattle.lists.specs.Lists.{part, laid, modify}
use Rattle.limits.specs.Limits.{link_limit, dof_limit}
use Rattle.masks.specs.Masks.{dofs_of, damping_row}
use Rattle.masks.specs.Starts.{total_of, start_of}
use Rattle.masks.proofs.Laws.{dofs_le}
use Rattle.arm.specs.declared.Link.{Link}
use Rattle.arm.specs.declared.Row.{Row}
use Rattle.arm.specs.declared.Arm.{Arm}
use Rattle.arm.specs.Arm.{couplings_of, row_in, own_part, masks_of, mask_at, start_at, dof_count_of, row_number, entries_of, entries_to, no_link, link_at, locked_of}
use Rattle.arm.proofs.Edits.{row-there}
use Rattle.arm.proofs.Live.{masks_live, part_within}
use Rattle.kinematics.specs.Blocks.{block_at}
use Rattle.kinematics.specs.Link.{finite_kept}
use Rattle.kinematics.specs.State.{state, inputs_of, kept_at, kept_ops, parent_at}
use Rattle.kinematics.proofs.Pass.{new_same}
use Rattle.full_working.specs.Full.{Settled}
use Rattle.kinematics.specs.Promises.{Fresh, Ready}
use Rattle.one_link.specs.Promise.{RestKept, Right}
use Rattle.one_link.proofs.Parents.{parent_le}
use Rattle.one_link.proofs.Settles.{Facts, facts}
use Rattle.one_link.proofs.Right.{Edit, right, call_keeps}
use Rattle.addition.specs.declared.NewLink.{NewLink}
use Rattle.addition.specs.NewLink.{link_of, entries_set, rows_with, added_inputs}
use Rattle.kinematics.specs.State.{only}
use Rattle.addition.specs.Addition.{add_refusal, link_added}
use Rattle.addition.specs.Promise.{IsAdded}
use Rattle.addition.proofs.Entries.{room}
use Rattle.addition.proofs.Tests.{Passed, passed}
use Rattle.addition.proofs.Added.{zeros_enough, laid_enough, mapped, still_ok}

-- ---- the rows keep their lengths

abbrev no_row : Row
no_row = record { entries = [] }

set-length : (start n : ℕ) (values : List Float) (row : Row) → start + n ≤ length row.entries → n ≤ length values → length (entries_set start n values row).entries ≡ length row.entries
unfolding entries_set
set-length start n values row h l = with_length row.entries start n (take n values) h (length-take-le n values l)

set_front : (start n : ℕ) (values : List Float) (row : Row) → start ≤ length row.entries → entries_to start (entries_set start n values row) ≡ entries_to start row
unfolding entries_set
set_front start n values row h = take_at (take start row.entries) _ start (length-take-le start row.entries h)

module _ (a : Arm) (sized : Sized a) (few : a.link_count < link_limit) (mask : ℕ) where
  row-of : (k : ℕ) → k < 5 → length (get_or a.rows k no_row).entries ≡ dof_limit
  row-of k h = ap length (sym (get_or-map entries_of a.rows k no_row)) ∙ sized.entries k h

  abbrev start : ℕ
  start = dof_count_of a

  abbrev m : ℕ
  m = dofs_of mask

  fits : dof_count_of a + dofs_of mask ≤ dof_limit
  fits = omega (arith, room a sized.links few, dofs_le mask)

  abbrev xs : List Row
  xs = map (entries_set start m zeros) a.rows

  zeroed : (k : ℕ) → k < 5 → length (get_or xs k no_row).entries ≡ dof_limit
  zeroed k h =
      ap (λ (r : Row). length r.entries) (map_at (entries_set start m zeros) a.rows k no_row no_row (omega (arith, sized.rows)))
      ∙ set-length start m zeros (get_or a.rows k no_row) (omega (arith, fits, row-of k h)) (zeros_enough mask)
      ∙ row-of k h

  damped : (k : ℕ) → k < 5 → length (get_or (rows_with a mask) k no_row).entries ≡ dof_limit
  unfolding rows_with
  damped k h = go (eqb k 1) refl
    where
      go : (b : Bool) → eqb k 1 ≡ b → length (get_or (modify (entries_set start m (laid (damping_row mask) zeros)) 1 xs) k no_row).entries ≡ dof_limit
      go true e =
          let q : k ≡ 1 = eqb-true k 1 e in
          ap (λ (i : ℕ). length (get_or (modify (entries_set start m (laid (damping_row mask) zeros)) 1 xs) i no_row).entries) q
          ∙ ap (λ (r : Row). length r.entries) (modify_same (entries_set start m (laid (damping_row mask) zeros)) 1 xs no_row
          (omega (arith, length-map a.rows (entries_set start m zeros), sized.rows)))
          ∙ set-length start m (laid (damping_row mask) zeros) (get_or xs 1 no_row) (omega (arith, fits, zeroed 1 (omega arith))) (laid_enough mask)
          ∙ zeroed 1 (omega arith)
      go false e = ap (λ (r : Row). length r.entries) (modify_other (entries_set start m (laid (damping_row mask) zeros)) 1 k xs no_row (eqb-false k 1 e)) ∙ zeroed k h

  rows_entries : (k : ℕ) → k < 5 → length (get_or (map entries_of (rows_with a mask)) k []) ≡ dof_limit
  rows_entries k h = ap length (get_or-map entries_of (rows_with a mask) k no_row) ∙ damped k h

  rows_count : length (rows_with a mask) ≡ 5
  unfolding rows_with
  rows_count = length-modify (entries_set start m (laid (damping_row mask) zeros)) 1 xs ∙ length-map a.rows (entries_set start m zeros) ∙ sized.rows

  -- the entries that were there stay: the new ones lie behind them

  zeroed_front : (k : ℕ) → k < 5 → entries_to start (get_or xs k no_row) ≡ entries_to start (get_or a.rows k no_row)
  zeroed_front k h =
      ap (entries_to start) (map_at (entries_set start m zeros) a.rows k no_row no_row (omega (arith, sized.rows)))
      ∙ set_front start m zeros (get_or a.rows k no_row) (omega (arith, fits, row-of k h))

  damped_front : (k : ℕ) → k < 5 → entries_to start (get_or (rows_with a mask) k no_row) ≡ entries_to start (get_or a.rows k no_row)
  unfolding rows_with
  damped_front k h = go (eqb k 1) refl
    where
      f : Row → Row
      f = entries_set start m (laid (damping_row mask) zeros)

      go : (b : Bool) → eqb k 1 ≡ b → entries_to start (get_or (modify f 1 xs) k no_row) ≡ entries_to start (get_or a.rows k no_row)
      go true e =
          let q : k ≡ 1 = eqb-true k 1 e in
          ap (λ (i : ℕ). entries_to start (get_or (modify f 1 xs) i no_row)) q
          ∙ ap (entries_to start) (modify_same f 1 xs no_row (omega (arith, length-map a.rows (entries_set start m zeros), sized.rows)))
          ∙ set_front start m (laid (damping_row mask) zeros) (get_or xs 1 no_row) (omega (arith, fits, zeroed 1 (omega arith)))
          ∙ zeroed_front 1 (omega arith)
          ∙ ap (λ (i : ℕ). entries_to start (get_or a.rows i no_row)) (sym q)
      go false e = ap (entries_to start) (modify_other f 1 k xs no_row (eqb-false k 1 e)) ∙ zeroed_front k h

  -- so does any part of them
  rows_part : (k at w : ℕ) → k < 5 → at + w ≤ start → part at w (get_or (map entries_of (rows_with a mask)) k []) ≡ part at w (get_or (map entries_of a.rows) k [])
  rows_part k at w h l =
      ap (part at w) (get_or-map entries_of (rows_with a mask) k no_row)
      ∙ sym (take_drop_take at w start (get_or (rows_with a mask) k no_row).entries l)
      ∙ ap (part at w) (damped_front k h)
      ∙ take_drop_take at w start (get_or a.rows k no_row).entries l
      ∙ ap (part at w) (sym (get_or-map entries_of a.rows k no_row))

-- ---- one mask more

module _ (ms : List ℕ) (m : ℕ) where
  start_stays : (j : ℕ) → j ≤ length ms → start_of (ms ++ (m ∷ [])) j ≡ start_of ms j
  unfolding start_of
  start_stays j h = ap total_of (take-append-le j ms (m ∷ []) h)

-- ---- the addition

module _ (a : Arm) (t : List Float) (sized : Sized a) (settled : Settled a t) (new : NewLink) (k : Passed a t new) where
  facts_of : Facts a t
  facts_of = facts a t sized.links settled

  abbrev n : ℕ
  n = a.link_count

  abbrev ls : List Link
  ls = a.links

  abbrev ls' : List Link
  ls' = set ls n (link_of new)

  before : (j : ℕ) → j < n + 1 → only n j ≡ false → j < n
  before j h e = elim (dec_lt j n) [
    | yes q ↦ q
    | no q ↦ absurd (eqb-false j n e (omega arith))
  ]

  early_link : (j : ℕ) → j < n → link_at ls' j ≡ link_at ls j
  early_link j h = get_or-set_other ls n j (link_of new) no_link (omega arith)

  early_parent : (j : ℕ) → j < n → parent_at ls j ≡ parent_at ls' j
  unfolding parent_at
  early_parent j h = ap (λ (l : Link). l.parent) (sym (early_link j h))

  -- no earlier link has a parent past the last
  parent_before : (j : ℕ) → j < n → parent_at ls j < n
  parent_before j h = omega (arith, parent_le a sized.links facts_of.few facts_of.ok.parents j h)

  as_was : (j : ℕ) → j < n → kept_at (state ls' t) j ≡ kept_at (state ls t) j
  unfolding kept_at
  as_was j h = ap (λ (l : Link). record { world = l.world; shift02 = l.shift02; shift23 = l.shift23; block = block_at j t }) (early_link j h)

  starts : (j : ℕ) → j < n → start_of (map locked_of ls) j ≡ start_of (map locked_of ls') j
  unfolding start_of
  starts j h =
      ap total_of
      (map-take locked_of j ls
      ∙ ap (map locked_of) (sym (take-set-le j ls n (link_of new) (omega arith)))
      ∙ sym (map-take locked_of j ls'))

  inputs_kept : (j : ℕ) → j < n → inputs_of ls j ≡ inputs_of ls' j
  unfolding inputs_of
  inputs_kept j h =
      let p = sym (early_link j h) in
      let s = starts j h in
      let u = ap (λ (x : Link). x.centre) (sym (early_link (parent_at ls j) (parent_before j h))) ∙ ap (λ (i : ℕ). (link_at ls' i).centre) (early_parent j h) in
      λ i. record { joint = (p i).joint; centre = (p i).centre; start = s i; above = u i }

  fresh : (j : ℕ) → j < n → Fresh ls' t j
  fresh j h =
      as_was j h
      ∙ facts_of.fresh j h
      ∙ new_same kept_ops (parent_at ls) (inputs_of ls) (parent_at ls') (inputs_of ls') (state ls t) (state ls' t) j (early_parent j h) (inputs_kept j h)
      (λ q. sym (as_was (parent_at ls j) (parent_before j h)))

  ready : Ready ls' (n + 1) (only n) t
  ready = record {
    closed = λ j h q e. absurd (omega (arith, eqb-true (parent_at ls' j) n e));
    fresh = λ j h e. fresh j (before j h e);
    finite = λ j h e. ap finite_kept (as_was j (before j h e)) ∙ facts_of.finite j (before j h e);
    unused = λ j h l. facts_of.unused j (omega arith) l;
  }

  -- ---- row entries

  abbrev ms : List ℕ
  ms = masks_of a

  masks_added : masks_of (added_inputs a new) ≡ ms ++ ((link_of new).joint.locked ∷ [])
  unfolding masks_of
  masks_added = mapped a sized.links t new k facts_of.ok locked_of

  masks_length : length ms ≡ n
  masks_length = omega (arith, masks_live a sized.links, k.room)

  start_kept : (j : ℕ) → j < n → start_at (added_inputs a new) j ≡ start_at a j
  unfolding start_at
  start_kept j h = ap (λ (xs : List ℕ). start_of xs j) masks_added ∙ start_stays ms _ j (omega (arith, masks_length))

  dofs_kept : (j : ℕ) → j < n → dofs_of (mask_at (added_inputs a new) j) ≡ dofs_of (mask_at a j)
  unfolding mask_at
  dofs_kept j h = ap (λ (xs : List ℕ). dofs_of (get_or xs j 7)) masks_added ∙ ap dofs_of (get_or-append ms _ 7 j (omega (arith, masks_length)))

  -- a link that was there has its start and its mask
  kept : RestKept a (added_inputs a new)
  unfolding added_inputs couplings_of own_part row_in
  kept = record {
    couplings = refl;
    entries = λ name j h.
        ap₂ (λ (at w : ℕ). part at w (get_or (map entries_of (rows_with a new.locked)) (row_number name) [])) (start_kept j h) (dofs_kept j h)
        ∙ rows_part a sized k.room new.locked (row_number name) (start_at a j) (dofs_of (mask_at a j)) (row-there name)
        (part_within a sized.links j (omega (arith, k.room)));
  }

  edit : Edit a t (added_inputs a new) (only n) (IsAdded a)
  unfolding added_inputs
  edit = record {
    sized = record {
      links = length-set ls n (link_of new) ∙ sized.links;
      couplings = sized.couplings;
      rows = rows_count a sized k.room new.locked;
      entries = rows_entries a sized k.room new.locked;
    };
    few = omega (arith, k.room);
    ready = ready;
    ok = λ f. still_ok a sized.links t new k facts_of.ok;
    apart = λ j h z. (λ q. ne_eqb j n z, get_or-set_other ls n j (link_of new) no_link z);
  }

pub the_addition : (a : Arm) (t : List Float) → Sized a → Settled a t → (new : NewLink)
    → Right a t (add_refusal a t new) (added_inputs a new) (IsAdded a) (link_added a t new)
unfolding link_added
the_addition a t sized settled new =
    right a t sized settled (add_refusal a t new) (added_inputs a new) (only a.link_count) (IsAdded a) (λ e.
    edit a t sized settled new (passed a t new e))

pub addition_keeps : (a : Arm) (t : List Float) → Sized a → Settled a t → (new : NewLink) → RestKept a (link_added a t new).answer.arm
unfolding link_added
addition_keeps a t sized settled new =
    call_keeps a t sized settled (add_refusal a t new) (added_inputs a new) (only a.link_count) (IsAdded a)
    (λ e. edit a t sized settled new (passed a t new e))
    (λ e. kept a t sized settled new (passed a t new e))
