-- Every call leaves an arm whose arrays have their lengths, and whose joints have three coordinates each. Assumes nothing.
use Prim.Native.Nat.{ℕ, zero, suc, ◌+◌, ◌-◌, ◌<◌}
use mathlib.Core.Path.{◌≡◌, refl, sym, ap, subst, ◌∙◌}
use mathlib.Core.Bool.{Bool, true, false, cond, ◌&&◌}
use mathlib.Core.List.{List, [], ◌++◌, map}
use native.Mathlib.Omega.{arith}
use native.Mathlib.Decide.{dec_lt}
use lib.Dec.{eqb, ltb}
use lib.ListN.{length, take, drop, get_or, set, replicate, length-set, length-map, length-append, length-drop, get_or-map, get_or-append}
use lib.Seq.{get_or-append-add, get_or-drop, length-take-le}
use lib.Ieee.{Float}
use Rattle.arm.specs.Setters.{unplaced, with_links, with_place}
use Rattle.lists.proofs.Modified.{length-modify, modify_same, modify_other, modify_field}
use Rattle.lists.proofs.Lists.{map_at}
use Rattle.arm.specs.Sized.{Sized}
use Rattle.lists.specs.Lists.{modify}
use Rattle.lists.proofs.Numbers.{length-each, get_or-each}
use Rattle.lists.specs.Numbers.{each}
use Rattle.limits.specs.Limits.{link_limit, dof_limit}
use Rattle.floats.specs.Floats.{zero32}
use Rattle.planar.specs.Rotation.{rotation_at}
use Rattle.multibody_joint.specs.Joint.{with_motion, free_joint, fixed_joint, free_pos_set, with_frames, new_joint}
use Rattle.multibody_joint.specs.Motion.{integrated}
use Rattle.arm.specs.declared.Link.{Link}
use Rattle.arm.specs.declared.Row.{Row}
use Rattle.arm.specs.declared.Arm.{Arm}
use Rattle.arm.specs.Arm.{live_links, entries_of, no_link, link_at}
use Rattle.kinematics.specs.State.{State, state, inputs_of, put_kept, kept_ops, state_after, fine_after, cleared, parent_at, every_link}
use Rattle.kinematics.specs.Answers.{passed, refresh_all}
use Rattle.kinematics.proofs.Pass.{run_view}
use Rattle.kinematics.proofs.Store.{blank, set_field, after_blank}
use Rattle.full_working.specs.Outcome.{Outcome, out, says, unless_refused, tables_fit, worked_by, worked_all}
use Rattle.one_link.specs.Promise.{Right}
use Rattle.one_link_move.specs.declared.Change.{Change}
use Rattle.one_link_move.specs.declared.Change.TheVariants.{Coordinate, Frames, Centre}
use Rattle.one_link_move.specs.Change.{coordinate_set, changed, moved_inputs}
use Rattle.addition.specs.declared.NewLink.{NewLink}
use Rattle.addition.specs.NewLink.{link_of, added_inputs}
use Rattle.whole_step.specs.Step.{link_integrated, link_after, links_after, velocities_of, arm_after}
use Rattle.root_change.specs.declared.Root.{Root}
use Rattle.root_change.specs.declared.Root.TheVariants.{Free, Fixed}
use Rattle.root_change.specs.Root.{locked_by, root_joint, root_link, widened, narrowed, root_row, root_mask, root_rows, root_changed}

-- how many coordinates a link's joint has
abbrev pub coordinates : Link → ℕ
coordinates l = length l.joint.coordinates

-- three each: a free root that is set anew keeps its third
abbrev pub Threes : Arm → Type 0
Threes a = (j : ℕ) → j < link_limit → coordinates (link_at a.links j) ≡ 3

pub record Shaped (a : Arm) : Type 0 where
  pub sized : Sized a
  pub three : Threes a

-- ---- an arm worked out

after_length : (ls : List Link) (n : ℕ) (b : ℕ → Bool) (t : List Float) → length (state_after ls n b t).links ≡ length ls
unfolding state_after put_kept
after_length ls n b t = run_view kept_ops (parent_at ls) (inputs_of ls) (λ (s : State). length s.links) (state ls t) b (λ s k o e. length-set s.links k _) n

-- what holds of a refusal by 12, and of the new arm with any results
worked : (P : Outcome → Type 0) (old new : Arm) (t : List Float) → P (says 12 old t)
    → ((s : State) → length s.links ≡ length new.links → ((j : ℕ) → blank (link_at s.links j) ≡ blank (link_at new.links j)) → P (says 0 (with_links new s.links) s.tables))
    → P (worked_all old new t)
unfolding worked_all worked_by refresh_all passed
worked P old new t no_result results = go (tables_fit t && fine_after new.links (live_links new) every_link (cleared t))
  where
    s : State
    s = state_after new.links (live_links new) every_link (cleared t)

    go : (b : Bool) → P (out (worked_by old new (passed b s new.links t).answer) (passed b s new.links t).memory)
    go true = results s (after_length new.links (live_links new) every_link (cleared t)) (after_blank new.links (live_links new) every_link (cleared t))
    go false = no_result

three_after : (old new : Arm) (t : List Float) → Threes old → Threes new → Threes (worked_all old new t).answer.arm
unfolding with_place
three_after old new t was is = worked (λ (o : Outcome). Threes o.answer.arm) old new t was (λ s l e j h. ap coordinates (e j) ∙ is j h)

sized_after : (old new : Arm) (t : List Float) → Sized old → Sized new → Sized (worked_all old new t).answer.arm
sized_after old new t was is =
    worked (λ (o : Outcome). Sized o.answer.arm) old new t was (λ s l e. record { links = l ∙ is.links; couplings = is.couplings; rows = is.rows; entries = is.entries })

-- a call that ends in the working of a changed arm
pub call_shaped : (k : ℕ) (old new : Arm) (t : List Float) → Shaped old → Shaped new → Shaped (unless_refused k old t (worked_all old new t)).answer.arm
unfolding unless_refused
call_shaped zero old new t was is = record { sized = sized_after old new t was.sized is.sized; three = three_after old new t was.three is.three }
call_shaped (suc k) old new t was is = was

-- refused, it leaves all as it came
abbrev pub Left : Arm → List Float → Outcome → Type 0
Left a t o = (o.answer.refusal ≡ 0 → ⊥) → (o.answer.arm ≡ a) × (o.memory ≡ t)

pub call_left : (k : ℕ) (old new : Arm) (t : List Float) → Left old t (unless_refused k old t (worked_all old new t))
unfolding unless_refused
call_left zero old new t = worked (Left old t) old new t (λ r. (refl, refl)) (λ s l e r. absurd (r refl))
call_left (suc k) old new t = λ r. (refl, refl)

-- a call on one link
pub right_shaped : (a : Arm) (t : List Float) (own : ℕ) (new : Arm) (Below : ℕ → Type 0) (r : Outcome) → Right a t own new Below r → Threes a → (own ≡ 0 → Threes new)
    → Shaped r.answer.arm
right_shaped a t zero new Below r h was is = record {
  sized = h.sized;
  three = subst (λ (o : Outcome). Threes o.answer.arm) (sym (h.as_all refl)) (three_after a new t was (is refl));
}
right_shaped a t (suc k) new Below r h was is = record {
  sized = h.sized;
  three = subst Threes (sym (h.left (λ z. let e : suc k ≡ 0 = sym (h.refused (λ q. omega arith)) ∙ z in omega arith)).0) was;
}

-- ---- a move, an addition

pub coordinates_stay : (f : Link → Link) → ((l : Link) → coordinates (f l) ≡ coordinates l) → (a : Arm) (i : ℕ) → Threes a → Threes (with_links a (modify f i a.links))
coordinates_stay f e a i three j h = modify_field f coordinates e i j a.links no_link ∙ three j h

changed_coordinates : (change : Change) (l : Link) → coordinates (changed change l) ≡ coordinates l
unfolding changed coordinate_set
changed_coordinates (Coordinate axis value) l = go (ltb 2 axis)
  where
    go : (b : Bool) → length (cond b l.joint (with_motion l.joint (set l.joint.coordinates axis value) (cond (eqb axis 2) (rotation_at value) l.joint.rotation))).coordinates ≡ coordinates l
    go true = refl
    go false = length-set l.joint.coordinates axis value
changed_coordinates (Frames first second) l = refl
changed_coordinates (Centre centre) l = refl

pub move_three : (a : Arm) (link : ℕ) (change : Change) → Threes a → Threes (moved_inputs a link change)
unfolding moved_inputs
move_three a link change = coordinates_stay (changed change) (changed_coordinates change) a link

pub addition_three : (a : Arm) (new : NewLink) → a.link_count < link_limit → Threes a → Threes (added_inputs a new)
unfolding added_inputs link_of unplaced new_joint
addition_three a new room three j h = set_field coordinates a.links a.link_count (link_of new) (sym (three a.link_count room)) j ∙ three j h

-- ---- a list in front of what stays of another

pub front_of : {A : Type 0} (P : A → Type 0) (xs ys : List A) (j : ℕ) (d : A) → ((i : ℕ) → i < length xs → P (get_or xs i d)) → P (get_or ys j d) → P (get_or (xs ++ drop (length xs) ys) j d)
front_of P xs ys j d f g = elim (dec_lt j (length xs)) [
  | yes h ↦ subst P (sym (get_or-append xs (drop (length xs) ys) d j h)) (f j h)
  | no h ↦
      let n = length xs in
      let e : j ≡ n + (j - n) = omega arith in
      subst P (sym (ap (λ (k : ℕ). get_or (xs ++ drop n ys) k d) e ∙ get_or-append-add xs (drop n ys) (j - n) d ∙ get_or-drop n ys (j - n) d ∙ ap (λ (k : ℕ). get_or ys k d) (sym e))) g
]

-- ---- a step

integrated_three : (a : Arm) (vs : List Float) (dt : Float) (i : ℕ) → coordinates (link_after a vs dt i) ≡ 3
unfolding link_after link_integrated integrated
integrated_three a vs dt i = refl

pub step_shaped : (a : Arm) (dt : Float) → Shaped a → Shaped (arm_after a dt)
unfolding arm_after links_after
step_shaped a dt k =
    let n = live_links a in
    let f = link_after a (velocities_of a) dt in
    let m : length (each n f) ≡ n = length-each f n in
    record {
      sized = record {
        links = length-append (each n f) (drop n a.links) ∙ omega (arith, k.sized.links, length-drop n a.links);
        couplings = k.sized.couplings;
        rows = k.sized.rows;
        entries = k.sized.entries;
      };
      three = λ j h.
          subst (λ (i : ℕ). coordinates (link_at (each n f ++ drop i a.links) j) ≡ 3) m
          (front_of (λ (l : Link). coordinates l ≡ 3) (each n f) a.links j no_link (λ i q. ap coordinates (get_or-each f n i no_link (omega arith)) ∙ integrated_three a (velocities_of a) dt i) (k.three j h));
    }

-- ---- a root change

abbrev no_row : Row
no_row = record { entries = [] }

-- rows that keep their lengths
pub rows_sized : (a : Arm) → Sized a → (g : Row → Row) → ((r : Row) → length r.entries ≡ dof_limit → length (g r).entries ≡ dof_limit)
    → (k : ℕ) → k < 5 → length (get_or (map entries_of (map g a.rows)) k []) ≡ dof_limit
rows_sized a sized g f k h =
    ap length (get_or-map entries_of (map g a.rows) k no_row)
    ∙ ap (λ (r : Row). length r.entries) (map_at g a.rows k no_row no_row (omega (arith, sized.rows)))
    ∙ f (get_or a.rows k no_row) (ap length (sym (get_or-map entries_of a.rows k no_row)) ∙ sized.entries k h)

root_row_lem : (from to : ℕ) (r : Row) → length r.entries ≡ dof_limit → length (root_row from to r).entries ≡ dof_limit
unfolding root_row widened narrowed
root_row_lem from to r e = go (eqb from to) (eqb to 0)
  where
    go : (s f : Bool) → length (cond s r (cond f (widened r) (narrowed r))).entries ≡ dof_limit
    go true f = e
    go false true = length-append (replicate 3 zero32) (take (dof_limit - 3) r.entries) ∙ omega (arith, length-take-le (dof_limit - 3) r.entries (omega arith))
    go false false = length-append (drop 3 r.entries) (replicate 3 zero32) ∙ omega (arith, length-drop 3 r.entries)

root_three : (root : Root) (l : Link) → coordinates l ≡ 3 → coordinates (root_link root l) ≡ 3
unfolding root_link root_joint free_pos_set free_joint fixed_joint new_joint
root_three (Free p) l e = go (eqb l.joint.locked 0)
  where
    go : (s : Bool) → length (cond s (free_pos_set l.joint p) (free_joint p)).coordinates ≡ 3
    go true = refl
    go false = refl
root_three (Fixed p) l e = go (eqb l.joint.locked 7)
  where
    go : (s : Bool) → length (cond s (with_frames l.joint p l.joint.frame2) (fixed_joint p)).coordinates ≡ 3
    go true = e
    go false = refl

pub root_shaped : (a : Arm) (root : Root) → Shaped a → Shaped (root_changed a root)
unfolding root_changed root_rows
root_shaped a root k = record {
  sized = record {
    links = length-modify (root_link root) 0 a.links ∙ k.sized.links;
    couplings = k.sized.couplings;
    rows = length-map a.rows (root_row (root_mask a) (locked_by root)) ∙ k.sized.rows;
    entries = rows_sized a k.sized (root_row (root_mask a) (locked_by root)) (root_row_lem (root_mask a) (locked_by root));
  };
  three = each_three;
}
  where
    each_three : (j : ℕ) → j < link_limit → coordinates (link_at (modify (root_link root) 0 a.links) j) ≡ 3
    each_three zero h =
        ap coordinates (modify_same (root_link root) 0 a.links no_link (omega (arith, k.sized.links))) ∙ root_three root (link_at a.links 0) (k.three 0 h)
    each_three (suc j) h = ap coordinates (modify_other (root_link root) 0 (suc j) a.links no_link (λ z. omega arith)) ∙ k.three (suc j) h
