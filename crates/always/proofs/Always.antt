-- Demand 3 over any sequence of calls: an empty arm is settled, so is a part that is handed out, and each call leaves a settled arm settled. Assumes nothing.
use Prim.Native.Nat.{ℕ, ◌≤◌}
use mathlib.Core.Path.{◌≡◌, refl, sym, subst}
use mathlib.Core.List.{List, [], ◌∷◌}
use native.Mathlib.Omega.{arith}
use borrow.Author.Tests.{le-leb, lt-leb}
use lib.ListN.{length}
use lib.Ieee.{Float}
use Rattle.arm.proofs.Accepted.{accepted}
use Rattle.arm.specs.Empty.{empty_arm}
use Rattle.lists.specs.Numbers.{all_below}
use Rattle.limits.specs.Limits.{table_size}
use Rattle.refusal.specs.Refusal.{lower_of}
use Rattle.masks.specs.Starts.{total_of}
use Rattle.topology.specs.declared.Split.{Split}
use Rattle.topology.specs.Parents.{parents_fit}
use Rattle.arm.specs.declared.Arm.{Arm}
use Rattle.arm.specs.Arm.{links_of, couplings_of, tags_of, parents_of, masks_of, dof_count_of, rows_of}
use Rattle.arm.specs.HandedIn.{unique, tags_unique, parents_earlier, root_fits, rows_finite, arm_rules, arm_refusal}
use Rattle.kinematics.specs.Pass.{run as pass}
use Rattle.kinematics.specs.State.{state_after, fine_after, cleared}
use Rattle.full_working.specs.Outcome.{Outcome}
use Rattle.full_working.specs.Full.{full_refusal, full_working, Settled}
use Rattle.full_working.specs.Empty.{emptied}
use Rattle.full_working.proofs.Unused.{unused_zero}
use Rattle.arm_edits.specs.Rows.{write_refusal, with_entry}
use Rattle.arm_edits.specs.Springs.{spring_refusal, with_link_spring}
use Rattle.arm_edits.specs.Couplings.{coupling_refusal, with_coupling}
use Rattle.one_link.specs.Promise.{Right}
use Rattle.one_link.proofs.Settles.{settles}
use Rattle.one_link_move.specs.Change.{moved_inputs}
use Rattle.one_link_move.specs.Move.{move_refusal}
use Rattle.one_link_move.proofs.Move.{the_move, move_keeps}
use Rattle.addition.specs.NewLink.{added_inputs}
use Rattle.addition.specs.Addition.{add_refusal}
use Rattle.addition.proofs.Tests.{passed}
use Rattle.addition.proofs.Addition.{the_addition, addition_keeps}
use Rattle.whole_step.specs.Step.{arm_after, step_refusal, whole_step}
use Rattle.whole_step.proofs.Settled.{step_keeps}
use Rattle.root_change.specs.Root.{root_changed, root_refusal, changed_root}
use Rattle.root_change.proofs.Settled.{root_keeps}
use Rattle.arm_split.specs.Answers.{part_refusal, arm_part}
use Rattle.part_arm.specs.Places.{places_of}
use Rattle.part_arm.specs.Part.{part_arm}
use Rattle.arm_split.proofs.Theorems as of_part
use Rattle.always.specs.Calls.{Call, addition, row_write, spring, coupling, move, step, root_change, working, called, run}
use Rattle.always.specs.Promise.{NeverStale, Begins, empty, part, Always, Short}
use Rattle.always.proofs.Rows.{write_right}
use Rattle.always.proofs.Springs.{spring_right, spring_three}
use Rattle.always.proofs.Couplings.{coupling_right}
use Rattle.always.proofs.Shapes.{Threes, Shaped, Left, call_shaped, call_left, right_shaped, move_three, addition_three, step_shaped, root_shaped}
use Rattle.always.proofs.Parts.{blank_shaped, part_shaped}

-- what every call hands on
record Held (a : Arm) (t : List Float) : Type 0 where
  shaped : Shaped a
  settled : Settled a t

abbrev Holds : Outcome → Type 0
Holds o = Held o.answer.arm o.memory

-- ---- the beginning

empty_accepted : arm_refusal empty_arm ≡ 0
unfolding empty_arm arm_refusal arm_rules lower_of links_of couplings_of tags_of parents_of masks_of dof_count_of rows_of total_of unique tags_unique parents_earlier parents_fit all_below root_fits rows_finite
empty_accepted = refl

empty_settled : (t : List Float) → Settled empty_arm (cleared t)
unfolding empty_arm state_after fine_after pass all_below
empty_settled t = settles empty_arm blank_shaped.sized.links t (omega arith) (accepted empty_arm empty_accepted) refl

empty_holds : (t : List Float) → table_size ≤ length t → Holds (emptied t)
unfolding emptied
empty_holds t h = rw (le-leb table_size (length t) h) (record { shaped = blank_shaped; settled = empty_settled t })

pub short : Short
unfolding emptied
short t h = rw (lt-leb table_size (length t) h)

-- ---- a call

module _ (a : Arm) (t : List Float) (k : Held a t) where
  abbrev w : Shaped a
  w = k.shaped

  -- a call on one link, or on none
  by_right : (own : ℕ) (new : Arm) (Below : ℕ → Type 0) (r : Outcome) → Right a t own new Below r → (own ≡ 0 → Threes new) → Holds r
  by_right own new Below r h three = record { shaped = right_shaped a t own new Below r h w.three three; settled = h.settled }

  holds : (c : Call) → Holds (called a t c)
  unfolding with_entry with_coupling whole_step changed_root
  holds (addition new) =
      by_right (add_refusal a t new) (added_inputs a new) _ _ (the_addition a t w.sized k.settled new) (λ e. addition_three a new (passed a t new e).room w.three)
  holds (row_write name link axis value) =
      by_right (write_refusal a link axis value) (with_entry a name link axis value) _ _ (write_right a t w.sized k.settled name link axis value) (λ e. w.three)
  holds (spring link axis s) =
      by_right (spring_refusal a link axis s) (with_link_spring a link axis s) _ _ (spring_right a t w.sized k.settled link axis s) (λ e. spring_three a link axis s w.three)
  holds (coupling c) = by_right (coupling_refusal a c) (with_coupling a c) _ _ (coupling_right a t w.sized k.settled c) (λ e. w.three)
  holds (move link change) =
      by_right (move_refusal a t link change) (moved_inputs a link change) _ _ (the_move a t w.sized k.settled link change) (λ e. move_three a link change w.three)
  holds (step dt) = record {
    shaped = call_shaped (step_refusal a (arm_after a dt) t dt) a (arm_after a dt) t w (step_shaped a dt w);
    settled = (step_keeps a t dt w.sized.links (w.three 0 (omega arith)) k.settled).2;
  }
  holds (root_change root) = record {
    shaped = call_shaped (root_refusal a t root) a (root_changed a root) t w (root_shaped a root w);
    settled = (root_keeps a t root w.sized.links (w.three 0 (omega arith)) k.settled).2;
  }
  holds working = subst Holds (sym k.settled) k

  left : (c : Call) → Left a t (called a t c)
  unfolding whole_step changed_root full_working
  left (addition new) = (the_addition a t w.sized k.settled new).left
  left (row_write name link axis value) = (write_right a t w.sized k.settled name link axis value).left
  left (spring link axis s) = (spring_right a t w.sized k.settled link axis s).left
  left (coupling c) = (coupling_right a t w.sized k.settled c).left
  left (move link change) = (the_move a t w.sized k.settled link change).left
  left (step dt) = call_left (step_refusal a (arm_after a dt) t dt) a (arm_after a dt) t
  left (root_change root) = call_left (root_refusal a t root) a (root_changed a root) t
  left working = call_left (full_refusal a t) a a t

  never_stale : NeverStale a t
  never_stale = record {
    settled = k.settled;
    unused = unused_zero a w.sized.links t k.settled;
    move = the_move a t w.sized k.settled;
    move_keeps = move_keeps a t w.sized k.settled;
    addition = the_addition a t w.sized k.settled;
    addition_keeps = addition_keeps a t w.sized k.settled;
    refused = left;
  }

-- ---- calls one after the other

run_holds : (o : Outcome) → Holds o → (calls : List Call) → Holds (run o calls)
run_holds o h [] = h
run_holds o h (c ∷ calls) = run_holds (called o.answer.arm o.memory c) (holds o.answer.arm o.memory h c) calls

part_holds : (a : Arm) (t : List Float) → Held a t → (s : Split) (k : ℕ) (u : List Float) → (arm_part a s k u).answer.refusal ≡ 0 → Holds (arm_part a s k u)
unfolding arm_part
part_holds a t h s k u e = record {
  shaped = call_shaped (part_refusal a s k u) empty_arm (part_arm (places_of a s k) a) u blank_shaped (part_shaped a s k h.shaped);
  settled = of_part.settles a s k u h.shaped.sized e;
}

begins_hold : (o : Outcome) → Begins o → Holds o
begins_hold o (empty t h) = empty_holds t h
begins_hold o (part {o = p} b calls s k t e) =
    let r = run p calls in
    part_holds r.answer.arm r.memory (run_holds p (begins_hold p b) calls) s k t e

pub always : Always
always o b calls = let r = run o calls in never_stale r.answer.arm r.memory (run_holds o (begins_hold o b) calls)
