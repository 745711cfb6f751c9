-- Each edit of arms that agree up to their counts: the same refusal, and arms that agree. Assumes nothing.
use Prim.Native.Nat.{ℕ, suc, min, ◌+◌, ◌<◌}
use mathlib.Core.Path.{◌≡◌, refl, sym, ap, ◌∙◌}
use mathlib.Core.List.{List, [], ◌∷◌, ◌++◌, map}
use mathlib.Core.Bool.{Bool, true, false, cond}
use native.Mathlib.Omega.{arith}
use native.Mathlib.Decide.{dec_lt}
use lib.Dec.{leb}
use lib.ListN.{length, take, set, length-take}
use lib.Seq.{take-set-lt, take-set-le, set_out, take-suc-set}
use lib.Ieee.{Float}
use Rattle.lists.proofs.Modified.{take-modify, map-modify, map_modify_same}
use Rattle.arm.specs.Sized.{Sized}
use Rattle.lists.specs.Lists.{modify}
use Rattle.limits.specs.Limits.{coupling_limit}
use Rattle.masks.specs.Starts.{total_of}
use Rattle.multibody_joint.specs.declared.Spring.{Spring}
use Rattle.multibody_joint.specs.declared.Joint.{Joint}
use Rattle.multibody_joint.specs.Joint.{with_springs}
use Rattle.multibody_joint.specs.Springs.{spring_set}
use Rattle.arm.specs.declared.Link.{Link}
use Rattle.arm.specs.declared.Coupling.{Coupling}
use Rattle.arm.specs.declared.Row.{Row}
use Rattle.arm.specs.declared.RowName.{RowName}
use Rattle.arm.specs.declared.Arm.{Arm}
use Rattle.arm.specs.Arm.{live_links, links_of, couplings_of, locked_of, masks_of, dof_count_of, row_number, entries_to, rows_of}
use Rattle.arm.specs.Edits.{dof_at}
use Rattle.arm.specs.Agree.{Agree, AlikeEdited}
use Rattle.arm.proofs.Agree.{same_mask_at, same_dof_at, same_arm_refusal, alike}
use Rattle.arm_edits.specs.declared.NewCoupling.{NewCoupling}
use Rattle.arm_edits.specs.Rows.{write_refusal, entry_set, with_entry, row_written}
use Rattle.arm_edits.specs.Springs.{spring_refusal, link_spring_set, with_link_spring, arm_spring_set}
use Rattle.arm_edits.specs.Couplings.{coupling_refusal, coupling_of, with_coupling, coupling_added}
use Rattle.arm_edits.proofs.Accepted.{coupling_fits}

-- ---- rows: a store seen up to a count

front_set : (n : ℕ) (xs : List Float) (i : ℕ) (v : Float) → take n (set xs i v) ≡ set (take n xs) i v
front_set n xs i v = elim (dec_lt i n) [
  | yes l ↦ take-set-lt n xs i v l
  | no l ↦ take-set-le n xs i v (omega arith) ∙ sym (set_out (take n xs) i v (omega (arith, length-take n xs)))
]

abbrev set_at : ℕ → Float → List Float → List Float
set_at i v xs = set xs i v

rows_written : (a : Arm) (name : RowName) (link axis : ℕ) (v : Float)
    → rows_of (with_entry a name link axis v) ≡ modify (set_at (dof_at a link axis) v) (row_number name) (rows_of a)
unfolding rows_of with_entry dof_count_of masks_of links_of entry_set
rows_written a name link axis v =
    map-modify (entry_set (dof_at a link axis) v) (entries_to (dof_count_of a)) (set_at (dof_at a link axis) v)
    (λ (r : Row). front_set (dof_count_of a) r.entries (dof_at a link axis) v) a.rows (row_number name)

module _ (a b : Arm) (g : Agree a b) where
  same_write_refusal : (link axis : ℕ) (v : Float) → write_refusal a link axis v ≡ write_refusal b link axis v
  unfolding write_refusal
  same_write_refusal link axis v = rw (same_arm_refusal a b g, same_mask_at a b g link, g.link_count)

  agree_written : (name : RowName) (link axis : ℕ) (v : Float) → Agree (with_entry a name link axis v) (with_entry b name link axis v)
  unfolding with_entry links_of couplings_of
  agree_written name link axis v = record {
    link_count = g.link_count;
    coupling_count = g.coupling_count;
    links = g.links;
    couplings = g.couplings;
    rows = rows_written a name link axis v
        ∙ rw (same_dof_at a b g link axis, g.rows) (sym (rows_written b name link axis v));
    rest = g.rest;
  }

  pub write_alike : (name : RowName) (link axis : ℕ) (v : Float) → AlikeEdited (row_written a name link axis v) (row_written b name link axis v)
  unfolding row_written
  write_alike name link axis v =
      alike a b _ _ _ _ g (same_write_refusal link axis v) (λ z. agree_written name link axis v)

-- ---- springs: a link's masks stay

locked_kept : (axis : ℕ) (s : Spring) (l : Link) → locked_of (link_spring_set axis s l) ≡ locked_of l
unfolding link_spring_set spring_set
locked_kept axis s l = by_axis (leb axis 2) (with_springs l.joint (set l.joint.stiffness axis s.stiffness) (set l.joint.rest axis s.rest)) refl
  where
    by_axis : (t : Bool) (new : Joint) → new.locked ≡ l.joint.locked → (cond t new l.joint).locked ≡ l.joint.locked
    by_axis true new h = h
    by_axis false new h = refl

links_sprung : (a : Arm) (link axis : ℕ) (s : Spring) → links_of (with_link_spring a link axis s) ≡ modify (link_spring_set axis s) link (links_of a)
unfolding with_link_spring links_of
links_sprung a link axis s = take-modify (link_spring_set axis s) (live_links a) a.links link

masks_sprung : (a : Arm) (link axis : ℕ) (s : Spring) → masks_of (with_link_spring a link axis s) ≡ masks_of a
unfolding masks_of
masks_sprung a link axis s =
    ap (map locked_of) (links_sprung a link axis s) ∙ map_modify_same (link_spring_set axis s) locked_of (locked_kept axis s) (links_of a) link

rows_sprung : (a : Arm) (link axis : ℕ) (s : Spring) → rows_of (with_link_spring a link axis s) ≡ rows_of a
unfolding rows_of dof_count_of with_link_spring
rows_sprung a link axis s = ap (λ (ms : List ℕ). map (entries_to (total_of ms)) a.rows) (masks_sprung a link axis s)

module _ (a b : Arm) (g : Agree a b) where
  same_set_spring_refusal : (link axis : ℕ) (s : Spring) → spring_refusal a link axis s ≡ spring_refusal b link axis s
  unfolding spring_refusal
  same_set_spring_refusal link axis s = rw (same_arm_refusal a b g, g.link_count)

  agree_sprung : (link axis : ℕ) (s : Spring) → Agree (with_link_spring a link axis s) (with_link_spring b link axis s)
  unfolding with_link_spring couplings_of
  agree_sprung link axis s = record {
    link_count = g.link_count;
    coupling_count = g.coupling_count;
    links = links_sprung a link axis s ∙ ap (modify (link_spring_set axis s) link) g.links ∙ sym (links_sprung b link axis s);
    couplings = g.couplings;
    rows = rows_sprung a link axis s ∙ g.rows ∙ sym (rows_sprung b link axis s);
    rest = g.rest;
  }

  pub set_spring_alike : (link axis : ℕ) (s : Spring) → AlikeEdited (arm_spring_set a link axis s) (arm_spring_set b link axis s)
  unfolding arm_spring_set
  set_spring_alike link axis s = alike a b _ _ _ _ g (same_set_spring_refusal link axis s) (λ z. agree_sprung link axis s)

-- ---- couplings: one more at the end

couplings_more : (a : Arm) (c : NewCoupling) → length a.couplings ≡ coupling_limit → a.coupling_count < coupling_limit
    → couplings_of (with_coupling a c) ≡ couplings_of a ++ (coupling_of c ∷ [])
unfolding couplings_of with_coupling
couplings_more a c w h =
    let n = a.coupling_count in
    let p : min (n + 1) coupling_limit ≡ suc n = omega arith in
    let q : min n coupling_limit ≡ n = omega arith in
    rw (p, q) (take-suc-set a.couplings n (coupling_of c) (omega arith))

module _ (a b : Arm) (g : Agree a b) where
  same_coupling_refusal : (c : NewCoupling) → coupling_refusal a c ≡ coupling_refusal b c
  unfolding coupling_refusal
  same_coupling_refusal c = rw (same_arm_refusal a b g, g.link_count, g.coupling_count)

  agree_coupled : (c : NewCoupling) → Sized a → Sized b → coupling_refusal a c ≡ 0 → Agree (with_coupling a c) (with_coupling b c)
  unfolding with_coupling links_of rows_of dof_count_of masks_of
  agree_coupled c s t z = record {
    link_count = g.link_count;
    coupling_count = ap (λ (n : ℕ). n + 1) g.coupling_count;
    links = g.links;
    couplings =
        couplings_more a c s.couplings (coupling_fits a c z).place
        ∙ ap (λ (l : List Coupling). l ++ (coupling_of c ∷ [])) g.couplings
        ∙ sym (couplings_more b c t.couplings (coupling_fits b c (sym (same_coupling_refusal c) ∙ z)).place);
    rows = g.rows;
    rest = g.rest;
  }

  pub coupling_alike : (c : NewCoupling) → Sized a → Sized b → AlikeEdited (coupling_added a c) (coupling_added b c)
  unfolding coupling_added
  coupling_alike c s t = alike a b _ _ _ _ g (same_coupling_refusal c) (agree_coupled c s t)
