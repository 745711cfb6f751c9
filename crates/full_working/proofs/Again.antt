-- What the full working leaves, it leaves again: a pass changes no link's inputs, so over what it left every result is as it is. Hence what a call that
-- ends in the working of an accepted arm leaves is settled. Assumes nothing.
use Prim.Native.Nat.{ℕ, zero, suc, ◌*◌, ◌≤◌, ◌<◌}
use mathlib.Core.Path.{◌≡◌, refl, sym, ap, ap₂, ◌∙◌, subst}
use mathlib.Core.Bool.{Bool, true, false, ◌&&◌}
use mathlib.Core.List.{List, [], ◌∷◌, ◌++◌, map}
use native.Mathlib.Omega.{arith}
use native.Mathlib.Decide.{dec_lt}
use borrow.Author.Tests.{leb-true, le-leb}
use lib.ListN.{length, drop, replicate, length-map, length-append, length-replicate, get_or-map}
use lib.Seq.{ext_get_or, drop_at}
use lib.Ieee.{Float}
use Rattle.kinematics.specs.Inner.{new_block, blocks_laid}
use Rattle.arm.proofs.Accepted.{accepted, not-refused}
use Rattle.arm.proofs.Relinked.{standing, link_passes, links_pass, still_accepted}
use Rattle.refusal.proofs.Laws.{rest_accepted}
use Rattle.arm.specs.Setters.{with_links, with_place}
use Rattle.lists.proofs.Numbers.{all_at, all_same}
use Rattle.lists.proofs.Bools.{both_hold, both}
use Rattle.limits.specs.Limits.{link_limit, block_size, table_size}
use Rattle.refusal.specs.Refusal.{unless_of, lower_of}
use Rattle.floats.specs.Floats.{zero32}
use Rattle.planar.specs.Poses.{finite_point, finite_pose}
use Rattle.multibody_joint.specs.declared.Joint.{Joint}
use Rattle.arm.specs.declared.Link.{Link}
use Rattle.arm.specs.declared.Arm.{Arm}
use Rattle.arm.specs.Arm.{live_links, no_link, link_at, locked_of}
use Rattle.multibody_joint.specs.Joint.{joint_finite}
use Rattle.arm.specs.HandedIn.{link_finite, link_angle_fits, arm_refusal}
use Rattle.kinematics.specs.Link.{Kept, finite_place, finite_kept}
use Rattle.kinematics.specs.State.{State, state, inputs_of, kept_at, kept_ops, state_after, fine_after, cleared, parent_at, every_link}
use Rattle.kinematics.specs.Answers.{passed, refresh_all}
use Rattle.kinematics.proofs.Pass.{new_same, only, turn_result, beyond, stays_good}
use Rattle.kinematics.proofs.Laid.{laid_same, laid_length}
use Rattle.kinematics.proofs.Store.{Good, laws, blank, after_blank}
use Rattle.kinematics.proofs.Turns.{tables_after, new_size}
use Rattle.kinematics.proofs.Same.{every_fresh, every_tables}
use Rattle.kinematics.proofs.Promises.{link_back}
use Rattle.full_working.specs.Outcome.{Outcome, says, out, unless_refused, tables_fit, worked_by, worked_all}
use Rattle.full_working.specs.Full.{full_refusal, full_working, Settled}
use Rattle.full_working.proofs.Refused.{goes_on}

-- ---- the full pass

module _ (n : ℕ) (fit : n ≤ link_limit) (ls : List Link) (sized : length ls ≡ link_limit) (t : List Float) (long : table_size ≤ length t) where
  pass_good : Good (state_after ls n every_link t)
  unfolding state_after laws
  pass_good = stays_good kept_ops (parent_at ls) (inputs_of ls) link_limit n fit laws every_link (state ls t) (sized, long)

  pass_beyond : (j : ℕ) → n ≤ j → kept_at (state_after ls n every_link t) j ≡ kept_at (state ls t) j
  unfolding state_after laws
  pass_beyond = beyond kept_ops (parent_at ls) (inputs_of ls) link_limit n fit laws every_link (state ls t) (sized, long)

  -- a block as its turn works it out is the one that is left
  new_left : (j : ℕ) → j < n → new_block ls every_link t j ≡ (kept_at (state_after ls n every_link t) j).block
  unfolding new_block state_after laws
  new_left j h =
      ap (λ (k : Kept). k.block)
      (turn_result kept_ops (parent_at ls) (inputs_of ls) link_limit n fit laws every_link (state ls t) (sized, long) j h
      ∙ sym (every_fresh ls sized n fit t long j h))

module _ (n : ℕ) (fit : n ≤ link_limit) (ls : List Link) (sized : length ls ≡ link_limit) (t : List Float) (long : table_size ≤ length t) where
  zeros_length : length (replicate table_size zero32) ≡ table_size
  zeros_length = length-replicate table_size zero32

  cleared_long : table_size ≤ length (cleared t)
  cleared_long = omega (arith, length-append (replicate table_size zero32) (drop table_size t), zeros_length)

  -- what the pass over cleared tables leaves
  abbrev s : State
  s = state_after ls n every_link (cleared t)

  good : Good s
  good = pass_good n fit ls sized (cleared t) cleared_long

  -- it leaves the inputs
  same : (j : ℕ) → blank (link_at s.links j) ≡ blank (link_at ls j)
  same j = after_blank ls n every_link (cleared t) j

  parent_same : (j : ℕ) → parent_at s.links j ≡ parent_at ls j
  unfolding parent_at with_place
  parent_same j = ap (λ (l : Link). l.parent) (same j)

  masks_same : map locked_of s.links ≡ map locked_of ls
  unfolding with_place
  masks_same =
      ext_get_or (locked_of no_link) _ _ (length-map s.links locked_of ∙ good.0 ∙ sym sized ∙ sym (length-map ls locked_of)) (λ j h.
      get_or-map locked_of s.links j no_link ∙ ap locked_of (same j) ∙ sym (get_or-map locked_of ls j no_link))

  inputs_same : (j : ℕ) → inputs_of s.links j ≡ inputs_of ls j
  unfolding inputs_of with_place
  inputs_same j =
      let e = same j in
      let m : (inputs_of s.links j).start ≡ (inputs_of ls j).start = rw masks_same in
      let u = ap (λ (l : Link). l.centre) (same (parent_at s.links j)) ∙ ap (λ (k : ℕ). (link_at ls k).centre) (parent_same j) in
      λ i. record { joint = (e i).joint; centre = (e i).centre; start = m i; above = u i }

  -- the memory behind the tables
  behind : drop table_size s.tables ≡ drop table_size t
  behind =
      ap (drop table_size) (sym (every_tables ls sized n fit t long))
      ∙ drop_at (blocks_laid every_link (new_block ls every_link t) n (replicate table_size zero32)) (drop table_size t) table_size
      (laid_length every_link (new_block ls every_link t) n (new_size ls every_link t n fit sized long) (replicate table_size zero32) (omega (arith, zeros_length, rise n fit)) n (omega arith) ∙ zeros_length)
    where
      rise : (n : ℕ) → n ≤ link_limit → n * block_size ≤ table_size
      rise n h = omega arith

  cleared_again : cleared s.tables ≡ cleared t
  cleared_again = ap (λ (m : List Float). replicate table_size zero32 ++ m) behind

  -- the pass over what it left
  abbrev s' : State
  s' = state_after s.links n every_link (cleared s.tables)

  again_long : table_size ≤ length (cleared s.tables)
  again_long = omega (arith, length-append (replicate table_size zero32) (drop table_size s.tables), zeros_length)

  kept_again : (j : ℕ) → j < n → kept_at s' j ≡ kept_at s j
  kept_again =
      only kept_ops (parent_at s.links) (inputs_of s.links) n s' s (every_fresh s.links good.0 n fit (cleared s.tables) again_long) (λ j h.
      every_fresh ls sized n fit (cleared t) cleared_long j h
      ∙ new_same kept_ops (parent_at ls) (inputs_of ls) (parent_at s.links) (inputs_of s.links) s s j (sym (parent_same j)) (sym (inputs_same j)) (λ q. refl))

  links_again : s'.links ≡ s.links
  links_again =
      ext_get_or no_link _ _ ((pass_good n fit s.links good.0 (cleared s.tables) again_long).0 ∙ sym good.0) (λ j h.
      elim (dec_lt j n) [
        | yes q ↦ link_back s' s j (after_blank s.links n every_link (cleared s.tables) j) (kept_again j q)
        | no q ↦
            link_back s' (state s.links (cleared s.tables)) j (after_blank s.links n every_link (cleared s.tables) j)
            (pass_beyond n fit s.links good.0 (cleared s.tables) again_long j (omega arith))
      ])

  tables_again : s'.tables ≡ s.tables
  tables_again =
      tables_after s.links every_link (cleared s.tables) n
      ∙ ap (blocks_laid every_link (new_block s.links every_link (cleared s.tables)) n) cleared_again
      ∙ laid_same every_link _ _ (cleared t) n (λ j h m.
      new_left n fit s.links good.0 (cleared s.tables) again_long j h
      ∙ ap (λ (k : Kept). k.block) (kept_again j h)
      ∙ sym (new_left n fit ls sized (cleared t) cleared_long j h))
      ∙ sym (tables_after ls every_link (cleared t) n)

  fine_again : fine_after s.links n every_link (cleared s.tables) ≡ fine_after ls n every_link (cleared t)
  unfolding fine_after
  fine_again = all_same n _ _ (λ j h. ap finite_kept (kept_again j h))

-- ---- an arm worked out

-- what is left of an arm whose results are all finite
abbrev left : Arm → List Float → State
left a t = state_after a.links (live_links a) every_link (cleared t)

-- the end of a working, by its test
abbrev ended : Arm → Arm → List Float → Bool → Outcome
ended old new t b = let p = passed b (left new t) new.links t in out (worked_by old new p.answer) p.memory

pub record Worked (new : Arm) (t : List Float) (o : Outcome) : Type 0 where
  pub long : table_size ≤ length t
  pub fine : fine_after new.links (live_links new) every_link (cleared t) ≡ true
  pub leaves : o ≡ says 0 (with_links new (left new t).links) (left new t).tables

pub worked : (old new : Arm) (t : List Float) → (worked_all old new t).answer.refusal ≡ 0 → Worked new t (worked_all old new t)
unfolding worked_all worked_by refresh_all passed
worked old new t = go (tables_fit t) refl (fine_after new.links (live_links new) every_link (cleared t)) refl
  where
    go : (b : Bool) → tables_fit t ≡ b → (f : Bool) → fine_after new.links (live_links new) every_link (cleared t) ≡ f → (ended old new t (b && f)).answer.refusal ≡ 0
        → Worked new t (ended old new t (b && f))
    go true e true h r = record { long = leb-true table_size (length t) e; fine = h; leaves = refl }
    go true e false h r = absurd (omega arith)
    go false e f h r = absurd (omega arith)

works : (old new : Arm) (t : List Float) → table_size ≤ length t → fine_after new.links (live_links new) every_link (cleared t) ≡ true
    → says 0 (with_links new (left new t).links) (left new t).tables ≡ worked_all old new t
unfolding worked_all worked_by refresh_all passed
works old new t h f = rw (le-leb table_size (length t) h, f)

module _ (a : Arm) (sized : length a.links ≡ link_limit) (t : List Float) (long : table_size ≤ length t) (passed : arm_refusal a ≡ 0)
    (fine : fine_after a.links (live_links a) every_link (cleared t) ≡ true) where
  few : live_links a ≤ link_limit
  few = omega arith

  abbrev m : State
  m = left a t

  abbrev after : Arm
  after = with_links a m.links

  sized_after : length m.links ≡ link_limit
  sized_after = (good (live_links a) few a.links sized t long).0

  same_inputs : (j : ℕ) → blank (link_at m.links j) ≡ blank (link_at a.links j)
  same_inputs = same (live_links a) few a.links sized t long

  stands : (j : ℕ) → j < live_links a → standing (link_at m.links j) ≡ standing (link_at a.links j)
  unfolding with_place
  stands j h = ap standing (same_inputs j)

  -- its links are finite: their inputs were, and their results are
  finite_after : (j : ℕ) → j < live_links a → link_finite (link_at m.links j) ≡ true
  unfolding link_finite finite_kept finite_place kept_at with_place fine_after
  finite_after j h =
      let l = link_at m.links j in
      let x = link_at a.links j in
      let inputs = both_hold _ (finite_point x.shift02) (both_hold _ (finite_point x.shift23) (link_passes a sized link_finite (accepted a passed).links j h)).0 in
      let own : (joint_finite x.joint && finite_point x.centre) ≡ true = (both_hold _ (finite_pose x.world) inputs.0).0 in
      let kept = both_hold _ _ (both_hold _ _ (all_at (live_links a) _ fine j h)).0 in
      let places = both_hold _ _ kept.0 in
      let e : (joint_finite l.joint && finite_point l.centre) ≡ (joint_finite x.joint && finite_point x.centre) = ap (λ (y : Link). joint_finite y.joint && finite_point y.centre) (same_inputs j) in
      both (both (both (e ∙ own) places.0) places.1) kept.1

  angles_after : (j : ℕ) → j < live_links a → link_angle_fits (link_at m.links j) ≡ true
  unfolding with_place
  angles_after j h = ap link_angle_fits (same_inputs j) ∙ link_passes a sized link_angle_fits (accepted a passed).angles j h

  accepted_after : arm_refusal after ≡ 0
  accepted_after =
      not-refused after
      (still_accepted a sized m.links sized_after stands (accepted a passed)
      (links_pass after sized_after link_finite finite_after)
      (links_pass after sized_after link_angle_fits angles_after))

  long_after : table_size ≤ length m.tables
  long_after = (good (live_links a) few a.links sized t long).1

  not_refused_after : full_refusal after m.tables ≡ 0
  unfolding full_refusal lower_of
  not_refused_after = rw (le-leb table_size (length m.tables) long_after, accepted_after)

  pub settled_after : Settled after m.tables
  unfolding full_working
  settled_after =
      sym
      (ap₂ (λ (ls : List Link) (u : List Float). says 0 (with_links a ls) u)
      (sym (links_again (live_links a) few a.links sized t long))
      (sym (tables_again (live_links a) few a.links sized t long))
      ∙ works after after m.tables long_after (fine_again (live_links a) few a.links sized t long ∙ fine)
      ∙ goes_on refl after m.tables not_refused_after (worked_all after after m.tables))

-- ---- calls that end in the working of a changed arm

abbrev pub Leaves : Outcome → Type 0
Leaves o = (length o.answer.arm.links ≡ link_limit) × Settled o.answer.arm o.memory

module _ (old new : Arm) (sized : length new.links ≡ link_limit) (t : List Float) where
  -- the working of an accepted arm, where it isn't refused
  pub all_settles : arm_refusal new ≡ 0 → (worked_all old new t).answer.refusal ≡ 0 → Leaves (worked_all old new t)
  all_settles p r =
      let w = worked old new t r in
      subst Leaves (sym w.leaves) (sized_after new sized t w.long p w.fine, settled_after new sized t w.long p w.fine)

  -- it leaves every joint
  joint_left : (worked_all old new t).answer.refusal ≡ 0 → (j : ℕ) → (link_at (worked_all old new t).answer.arm.links j).joint ≡ (link_at new.links j).joint
  unfolding with_place
  joint_left r j =
      ap (λ (o : Outcome). (link_at o.answer.arm.links j).joint) (worked old new t r).leaves
      ∙ ap (λ (l : Link). l.joint) (after_blank new.links (live_links new) every_link (cleared t) j)

  module _ (k : ℕ) (changed : k ≡ 0 → arm_refusal new ≡ 0) where
    abbrev call : Outcome
    call = unless_refused k old t (worked_all old new t)

    pub call_settles : call.answer.refusal ≡ 0 → Leaves call
    unfolding unless_refused
    call_settles = go k changed
      where
        go : (k : ℕ) → (k ≡ 0 → arm_refusal new ≡ 0) → (unless_refused k old t (worked_all old new t)).answer.refusal ≡ 0 → Leaves (unless_refused k old t (worked_all old new t))
        go zero f r = all_settles (f refl) r
        go (suc k) f r = absurd (omega arith)

    -- a refusal answers `old`, and leaves the memory
    pub call_stays : (call.answer.refusal ≡ 0 → ⊥) → (call.answer.arm ≡ old) × (call.memory ≡ t)
    unfolding unless_refused worked_all worked_by refresh_all passed
    call_stays = go k
      where
        ends : (b : Bool) → ((ended old new t b).answer.refusal ≡ 0 → ⊥) → ((ended old new t b).answer.arm ≡ old) × ((ended old new t b).memory ≡ t)
        ends true r = absurd (r refl)
        ends false r = (refl, refl)

        go : (k : ℕ) → ((unless_refused k old t (worked_all old new t)).answer.refusal ≡ 0 → ⊥) → ((unless_refused k old t (worked_all old new t)).answer.arm ≡ old) × ((unless_refused k old t (worked_all old new t)).memory ≡ t)
        go zero r = ends (tables_fit t && fine_after new.links (live_links new) every_link (cleared t)) r
        go (suc k) r = (refl, refl)

    -- so over a settled arm the call leaves a settled one, refused or not
    pub call_keeps : length old.links ≡ link_limit → Settled old t → Leaves call
    call_keeps places settled = go call.answer.refusal refl
      where
        go : (r : ℕ) → call.answer.refusal ≡ r → Leaves call
        go zero e = call_settles e
        go (suc r) e =
            let s = call_stays (λ z. let q : suc r ≡ 0 = sym e ∙ z in omega arith) in
            (ap (λ (x : Arm). length x.links) s.0 ∙ places, subst (λ (x : Arm). Settled x call.memory) (sym s.0) (subst (λ (u : List Float). Settled old u) (sym s.1) settled))

    -- what holds of a joint before and after the change holds of it after the call
    pub call_joint : (P : Joint → Type 0) (j : ℕ) → P (link_at old.links j).joint → P (link_at new.links j).joint → P (link_at call.answer.arm.links j).joint
    unfolding unless_refused
    call_joint P j was is = go call.answer.refusal refl
      where
        first : (k : ℕ) → (unless_refused k old t (worked_all old new t)).answer.refusal ≡ 0 → (link_at (unless_refused k old t (worked_all old new t)).answer.arm.links j).joint ≡ (link_at new.links j).joint
        first zero r = joint_left r j
        first (suc k) r = absurd (omega arith)

        go : (r : ℕ) → call.answer.refusal ≡ r → P (link_at call.answer.arm.links j).joint
        go zero e = subst P (sym (first k e)) is
        go (suc r) e = subst (λ (x : Arm). P (link_at x.links j).joint) (sym (call_stays (λ z. let q : suc r ≡ 0 = sym e ∙ z in omega arith)).0) was

-- ---- the full working

arm_accepted : (a : Arm) (t : List Float) → full_refusal a t ≡ 0 → arm_refusal a ≡ 0
unfolding full_refusal
arm_accepted a t e = rest_accepted (unless_of (tables_fit t) 1) (arm_refusal a ∷ []) e

pub full_settles : (a : Arm) → length a.links ≡ link_limit → (t : List Float) → (full_working a t).answer.refusal ≡ 0 → Leaves (full_working a t)
unfolding full_working
full_settles a sized t = call_settles a a sized t (full_refusal a t) (arm_accepted a t)
