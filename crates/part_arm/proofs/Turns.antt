-- One turn of each pass over an arm: what it gathers, and that there is room for it. Assumes nothing.
use Prim.Native.Nat.{ℕ, min, ◌+◌, ◌≤◌, ◌<◌}
use mathlib.Core.Path.{◌≡◌, refl, sym, ap, ◌∙◌}
use mathlib.Core.Bool.{Bool, true, false, cond}
use mathlib.Core.List.{List, [], ◌∷◌, map}
use native.Mathlib.Omega.{arith}
use lib.ListN.{length, drop, get_or, set, length-drop, length-map}
use lib.Seq.{length-take-le}
use lib.Ieee.{Float}
use Rattle.std.proofs.Common.{Option, Some, None}
use Rattle.std.specs.Option.{option_to_list}
use Rattle.lists.specs.Lists.{laid}
use Rattle.lists.specs.Numbers.{gathered}
use Rattle.arm.specs.Setters.{arm_with}
use Rattle.arm.specs.Empty.{blank_row, empty_arm}
use Rattle.lists.proofs.Gathered.{Laid, laid_skip, laid_one, laid_part}
use Rattle.lists.specs.Lists.{part, with_part}
use Rattle.limits.specs.Limits.{link_limit, coupling_limit}
use Rattle.masks.specs.Masks.{dofs_of}
use Rattle.arm.specs.declared.Link.{Link}
use Rattle.arm.specs.declared.Coupling.{Coupling}
use Rattle.arm.specs.declared.Row.{Row}
use Rattle.arm.specs.declared.Arm.{Arm}
use Rattle.arm.specs.Arm.{live_links, links_of, locked_of, masks_of, mask_at, start_at, link_at, coupling_at, own_part}
use Rattle.masks.proofs.Totals.{start_next}
use Rattle.masks.proofs.Laws.{dofs_le}
use Rattle.lists.proofs.Lists.{map_at, any_default}
use Rattle.part_arm.specs.Inner.{link_if_here, coupling_if_stays}
use Rattle.part_arm.specs.Places.{Places, goes_on}
use Rattle.part_arm.specs.Part.{new_link, part_links, part_entries, part_row, coupling_stays, new_coupling, part_couplings, part_arm}

if_so : {A : Type 0} (b : Bool) (x y : A) → b ≡ true → cond b x y ≡ x
if_so b x y e = rw e

if_not : {A : Type 0} (b : Bool) (x y : A) → b ≡ false → cond b x y ≡ y
if_not b x y e = rw e

-- ---- what is kept of an item, if anything, is laid behind what was kept before

module _ {A : Type 0} (f : ℕ → List A) (to : List A) (j : ℕ) (out : List A) (count : ℕ) (t : Laid f to j out count) where
  pub kept_one : (x : A) {r : Option A} → r ≡ Some x → option_to_list r ≡ f j → count < length to → Laid f to (j + 1) (set out count x) (count + 1)
  kept_one x p e h = laid_one f to j out count t x (sym e ∙ ap option_to_list p) h

  pub kept_none : {r : Option A} → r ≡ None → option_to_list r ≡ f j → Laid f to (j + 1) out count
  kept_none p e = laid_skip f to j out count t (sym e ∙ ap option_to_list p)

  pub kept_all : (n : ℕ) → j ≡ n → (count ≡ length (gathered n f)) × (out ≡ laid (gathered n f) to)
  kept_all n e = rw (← e) (t.counted, t.list)

one_or_none : {A : Type 0} (b : Bool) (x : A) → option_to_list (cond b (Some x) None) ≡ cond b (x ∷ []) []
one_or_none true x = refl
one_or_none false x = refl

module _ (p : Places) (a : Arm) where
  -- ---- links and couplings

  abbrev pub link_turn : ℕ → List Link
  link_turn j = let l = link_at a.links j in cond (p.here j) (new_link (p.head j) (p.number l.parent) l ∷ []) []

  abbrev pub coupling_turn : ℕ → List Coupling
  coupling_turn i = cond (coupling_stays p (coupling_at a i)) (new_coupling p.number (coupling_at a i) ∷ []) []

  pub link_given : (j : ℕ) (l : Link) (r : Option Link) → j < length a.links → l ≡ get_or a.links j l → r ≡ link_if_here p j l → option_to_list r ≡ link_turn j
  unfolding link_if_here
  link_given j l r h e q =
      let same : l ≡ link_at a.links j = e ∙ any_default a.links j l _ h in
      ap option_to_list q ∙ rw same (one_or_none (p.here j) _)

  pub coupling_given : (i : ℕ) (c : Coupling) (r : Option Coupling) → i < length a.couplings → c ≡ get_or a.couplings i c → r ≡ coupling_if_stays p c
      → option_to_list r ≡ coupling_turn i
  unfolding coupling_if_stays
  coupling_given i c r h e q =
      let same : c ≡ coupling_at a i = e ∙ any_default a.couplings i c _ h in
      ap option_to_list q ∙ rw same (one_or_none (coupling_stays p (coupling_at a i)) _)

-- ---- a row

abbrev pub entries_turn : Places → Arm → List Float → ℕ → List Float
entries_turn p a old j = cond (goes_on p j) (own_part a j old) []

pub dofs_small : (d mask : ℕ) → d ≡ dofs_of mask → d ≤ 3
dofs_small d mask e = omega (arith, dofs_le mask)

module _ (a : Arm) (j d : ℕ) (l : Link) (there : j < length (links_of a)) (dofs : d ≡ dofs_of (get_or (links_of a) j l).joint.locked)
    (start : ℕ) (begins : start ≡ start_at a j) where
  mask : d ≡ dofs_of (mask_at a j)
  unfolding mask_at masks_of
  mask = dofs ∙ ap dofs_of (sym (map_at locked_of (links_of a) j l 7 there))

  pub row_next : start + d ≡ start_at a (j + 1)
  unfolding start_at mask_at masks_of
  row_next = omega (arith, start_next (masks_of a) j 7 (rw length-map there), mask)

  module _ (p : Places) (old : List Float) (room : start + d ≤ length old) (entries : List Float) (at : ℕ) (t : Laid (entries_turn p a old) blank_row.entries j entries at) where
    own : part start d old ≡ own_part a j old
    unfolding own_part
    own = rw (mask, begins)

    own_length : length (part start d old) ≡ d
    own_length = length-take-le d (drop start old) (rw length-drop (omega arith))

    pub entries_kept : goes_on p j ≡ true → Laid (entries_turn p a old) blank_row.entries (j + 1) (with_part at d (part start d old) entries) (at + d)
    entries_kept e = laid_part (entries_turn p a old) blank_row.entries j entries at t d (part start d old) (if_so (goes_on p j) _ _ e ∙ sym own) own_length

    pub entries_lost : goes_on p j ≡ false → Laid (entries_turn p a old) blank_row.entries (j + 1) entries at
    entries_lost e = laid_skip (entries_turn p a old) blank_row.entries j entries at t (if_not (goes_on p j) _ _ e)

pub row_done : (p : Places) (a : Arm) (row : Row) (j : ℕ) (entries : List Float) (at : ℕ) → Laid (entries_turn p a row.entries) blank_row.entries j entries at → j ≡ live_links a
    → ◌≡◌ {A = Row} (record { entries = entries }) (part_row p a row)
unfolding part_row part_entries
row_done p a row j entries at t e = cc (t.list, e)

-- ---- all of it

module _ (p : Places) (a blank : Arm) (n m : ℕ) (ls : List Link) (cs : List Coupling) (rows : List Row) where
  pub assembled : blank ≡ empty_arm → length a.links ≡ link_limit → length a.couplings ≡ coupling_limit
      → (n ≡ length (gathered (min a.link_count (length a.links)) (link_turn p a))) × (ls ≡ laid (gathered (min a.link_count (length a.links)) (link_turn p a)) blank.links)
      → (m ≡ length (gathered (min a.coupling_count (length a.couplings)) (coupling_turn p a)))
      × (cs ≡ laid (gathered (min a.coupling_count (length a.couplings)) (coupling_turn p a)) blank.couplings)
      → rows ≡ map (part_row p a) a.rows → arm_with a n m ls cs rows ≡ part_arm p a
  unfolding part_arm part_links part_couplings
  assembled e few some l c r = rw (l.0, l.1, c.0, c.1, few, some, r, e)
