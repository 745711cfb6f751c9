-- Demand 3 of the one-link move: its marks are the links at or below the moved one, so that every other link keeps its inputs and its parent's results.
-- Assumes nothing.
use Prim.Native.Nat.{ℕ, ◌≤◌, ◌<◌}
use mathlib.Core.Path.{◌≡◌, refl, sym, ap, subst, ◌∙◌}
use mathlib.Core.Logic.{◌≢◌}
use mathlib.Core.Bool.{Bool, true, false, ◌&&◌, true≢false}
use mathlib.Core.List.{List, map}
use native.Mathlib.Omega.{arith}
use native.Mathlib.Decide.{dec_lt}
use borrow.Author.Tests.{ltb-true}
use lib.Dec.{ltb}
use lib.ListN.{length, get_or}
use lib.Ieee.{Float}
use Rattle.one_link.specs.Promise.{RestKept, Right}
use Rattle.arm.specs.Setters.{with_links}
use Rattle.lists.proofs.Every.{same_tests}
use Rattle.lists.proofs.Lists.{any_default, same_map, same_front}
use Rattle.arm.specs.Sized.{Sized}
use Rattle.lists.proofs.Modified.{length-modify, modify_same, modify_other, modify_field, modify_tests}
use Rattle.lists.specs.Tests.{every}
use Rattle.lists.specs.Lists.{modify}
use Rattle.lists.proofs.Bools.{both_hold}
use Rattle.refusal.proofs.Tests.{holds}
use Rattle.refusal.proofs.Laws.{none_of}
use Rattle.planar.specs.Poses.{finite_rotation}
use Rattle.masks.specs.Starts.{total_of, start_of}
use Rattle.floats.specs.Floats.{all_finite}
use Rattle.topology.specs.Above.{AtOrAbove, itself, above}
use Rattle.topology.specs.Parents.{parents_fit, marks, parent_in}
use Rattle.topology.proofs.Theorems.{marks_right}
use Rattle.arm.specs.declared.Link.{Link}
use Rattle.arm.specs.declared.Arm.{Arm}
use Rattle.arm.specs.Arm.{live_links, links_of, couplings_of, tag_of, tags_of, parents_of, masks_of, dof_count_of, entries_to, rows_of, no_link, link_at, locked_of, parent_of}
use Rattle.limits.specs.Limits.{link_limit}
use Rattle.arm.specs.HandedIn.{unique, tags_unique, parents_earlier, link_masks_fit, root_mask_fits, root_fits, link_finite, rows_finite, link_angle_fits, arm_refusal}
use Rattle.arm.proofs.Accepted.{counts_accepted, accepted, Accepted}
use Rattle.kinematics.specs.Blocks.{block_at}
use Rattle.kinematics.specs.Link.{finite_kept}
use Rattle.kinematics.specs.State.{state, inputs_of, kept_at, kept_ops, marked, parent_at}
use Rattle.kinematics.proofs.Pass.{new_same}
use Rattle.full_working.specs.Full.{Settled}
use Rattle.one_link.specs.Above.{above_finite}
use Rattle.kinematics.specs.Promises.{Fresh, Ready}
use Rattle.one_link.proofs.Parents.{parents_count, parent_of_lem, parent_le}
use Rattle.one_link.proofs.Settles.{all_fine, Facts, facts}
use Rattle.one_link.proofs.Sticky.{rotations_finite}
use Rattle.one_link.proofs.Right.{Edit, same_entries, right, call_keeps}
use Rattle.one_link_move.specs.declared.Change.{Change}
use Rattle.one_link_move.specs.Change.{changed, moved_inputs}
use Rattle.one_link_move.specs.Move.{change_finite, angle_within, move_refusal, link_moved}
use Rattle.one_link_move.specs.Promise.{AtOrBelow}
use Rattle.one_link_move.proofs.Changed.{same_tag, same_parent, same_locked, same_masks, results_of, same_results, still_finite, still_within}

-- what a move that is not refused passed
pub record Passed (a : Arm) (link : ℕ) (change : Change) : Type 0 where
  pub there : link < a.link_count
  floats : change_finite change ≡ true
  angle : angle_within change ≡ true
  pub arm : arm_refusal a ≡ 0

pub passed : (a : Arm) (t : List Float) (link : ℕ) (change : Change) → move_refusal a t link change ≡ 0 → Passed a link change
unfolding move_refusal
passed a t link change e =
    let p₄ = none_of _ _ (none_of _ _ e).1 in
    let p₇ = none_of _ _ (none_of _ _ (none_of _ _ p₄.1).1).1 in
    let p₉ = none_of _ _ (none_of _ _ p₇.1).1 in
    record {
      there = ltb-true link a.link_count (holds (ltb link a.link_count) 3 p₄.0);
      floats = (both_hold _ _ (holds (change_finite change && above_finite link (parent_in (parents_of a) link) t) 6 p₇.0)).0;
      angle = holds (angle_within change) 8 p₉.0;
      arm = p₉.1;
    }

-- so the link is one that an arm may have, as its parent is
module _ (a : Arm) (t : List Float) (link : ℕ) (change : Change) (none : move_refusal a t link change ≡ 0) where
  pub count_small : a.link_count ≤ link_limit
  count_small = (counts_accepted a (passed a t link change none).arm).0

  pub within_limit : link < link_limit
  within_limit = omega (arith, (passed a t link change none).there, count_small)

  pub parent_small : length a.links ≡ link_limit → (d l : Link) → l ≡ changed change (get_or a.links link d) → l.parent ≤ link
  unfolding parent_at
  parent_small whole d l e =
      let k = passed a t link change none in
      let same : l.parent ≡ (get_or a.links link d).parent = ap (λ (x : Link). x.parent) e ∙ same_parent change (get_or a.links link d) in
      let real = any_default a.links link d no_link (omega (arith, within_limit)) in
      omega (arith, same, ap (λ (x : Link). x.parent) real, parent_le a whole count_small (accepted a k.arm).parents link k.there)

module _ (a : Arm) (t : List Float) (sized : Sized a) (settled : Settled a t) (link : ℕ) (change : Change) (k : Passed a link change) where
  facts_of : Facts a t
  facts_of = facts a t sized.links settled

  abbrev n : ℕ
  n = a.link_count

  abbrev ls : List Link
  ls = a.links

  abbrev ls' : List Link
  ls' = modify (changed change) link ls

  abbrev new : Arm
  new = with_links a ls'

  abbrev b : ℕ → Bool
  b = marked (marks (parents_of a) link)

  same_length : length ls' ≡ length ls
  same_length = length-modify (changed change) link ls

  -- ---- parents

  parents_length : length (parents_of a) ≡ n
  parents_length = parents_count a sized.links facts_of.few

  fit : parents_fit (parents_of a) ≡ true
  unfolding parents_earlier
  fit = facts_of.ok.parents

  parent_after : (j : ℕ) → parent_at ls' j ≡ parent_at ls j
  unfolding parent_at
  parent_after j = modify_field (changed change) (λ (l : Link). l.parent) (same_parent change) link j ls no_link

  -- ---- marks

  mark_of : (j : ℕ) → j < n → AtOrAbove (parent_in (parents_of a)) link j → b j ≡ true
  mark_of j h u = (marks_right (parents_of a) fit (omega (arith, parents_length, facts_of.few)) link j (omega (arith, parents_length))).1 u

  of_mark : (j : ℕ) → j < n → b j ≡ true → AtOrAbove (parent_in (parents_of a)) link j
  of_mark j h e = (marks_right (parents_of a) fit (omega (arith, parents_length, facts_of.few)) link j (omega (arith, parents_length))).0 e

  closed : (j : ℕ) → j < n → parent_at ls' j < j → b (parent_at ls' j) ≡ true → b j ≡ true
  closed j h q e =
      let p : parent_at ls' j ≡ parent_in (parents_of a) j = parent_after j ∙ parent_of_lem a sized.links facts_of.few j h in
      mark_of j h (above (omega arith) (of_mark (parent_in (parents_of a) j) (omega arith) (subst (λ (i : ℕ). b i ≡ true) p e)))

  not-link : (j : ℕ) → j < n → b j ≡ false → j ≢ link
  not-link j h e q = absurd (true≢false (sym (subst (λ (i : ℕ). b i ≡ true) (sym q) (mark_of link k.there itself)) ∙ e))

  not_child : (j : ℕ) → j < n → b j ≡ false → parent_at ls j ≢ link
  not_child j h e q = elim (dec_lt (parent_at ls j) j) [
    | yes l ↦
        let l' : parent_at ls' j < j = omega (arith, parent_after j) in
        absurd (true≢false (sym (closed j h l' (subst (λ (i : ℕ). b i ≡ true) (sym (parent_after j ∙ q)) (mark_of link k.there itself))) ∙ e))
    | no l ↦
        let own : parent_at ls j ≡ j = omega (arith, parent_le a sized.links facts_of.few facts_of.ok.parents j h) in
        not-link j h e (sym own ∙ q)
  ]

  -- ---- unmarked links keep their inputs, and all their results

  as_was : (j : ℕ) → kept_at (state ls' t) j ≡ kept_at (state ls t) j
  unfolding kept_at
  as_was j = modify_field (changed change) (results_of (block_at j t)) (λ l. same_results change l (block_at j t)) link j ls no_link

  starts : map locked_of ls ≡ map locked_of ls'
  starts = sym (same_map locked_of no_link ls' ls same_length (λ j. modify_field (changed change) locked_of (same_locked change) link j ls no_link))

  inputs_kept : (j : ℕ) → j ≢ link → parent_at ls j ≢ link → inputs_of ls j ≡ inputs_of ls' j
  unfolding inputs_of
  inputs_kept j h q =
      let p = sym (modify_other (changed change) link j ls no_link h) in
      let s = ap (λ (ms : List ℕ). start_of ms j) starts in
      let u = ap (λ (x : Link). x.centre) (sym (modify_other (changed change) link (parent_at ls j) ls no_link q)) ∙ ap (λ (i : ℕ). (link_at ls' i).centre) (sym (parent_after j)) in
      λ i. record { joint = (p i).joint; centre = (p i).centre; start = s i; above = u i }

  fresh : (j : ℕ) → j < n → b j ≡ false → Fresh ls' t j
  fresh j h e =
      as_was j
      ∙ facts_of.fresh j h
      ∙ new_same kept_ops (parent_at ls) (inputs_of ls) (parent_at ls') (inputs_of ls') (state ls t) (state ls' t) j (sym (parent_after j))
      (inputs_kept j (not-link j h e) (not_child j h e)) (λ q. sym (as_was (parent_at ls j)))

  ready : Ready ls' n b t
  ready = record {
    closed = closed;
    fresh = fresh;
    finite = λ j h e. ap finite_kept (as_was j) ∙ facts_of.finite j h;
    unused = facts_of.unused;
  }

  -- ---- the arm with the new inputs is accepted, where its results are finite

  new_masks : masks_of new ≡ masks_of a
  unfolding masks_of links_of
  new_masks = same_front locked_of no_link (live_links a) ls' ls same_length (λ j. modify_field (changed change) locked_of (same_locked change) link j ls no_link)

  new_tags : tags_of new ≡ tags_of a
  unfolding tags_of links_of
  new_tags = same_front tag_of no_link (live_links a) ls' ls same_length (λ j. modify_field (changed change) tag_of (same_tag change) link j ls no_link)

  new_parents : parents_of new ≡ parents_of a
  unfolding parents_of links_of
  new_parents = same_front parent_of no_link (live_links a) ls' ls same_length (λ j. modify_field (changed change) parent_of (same_parent change) link j ls no_link)

  new_rows : rows_of new ≡ rows_of a
  unfolding rows_of dof_count_of
  new_rows = ap (λ (ms : List ℕ). map (entries_to (total_of ms)) a.rows) new_masks

  rotation : all_fine new t ≡ true → finite_rotation (changed change (link_at ls link)).joint.rotation ≡ true
  rotation f =
      ap (λ (l : Link). finite_rotation l.joint.rotation) (sym (modify_same (changed change) link ls no_link (omega (arith, sized.links, k.there, facts_of.few))))
      ∙ rotations_finite new (same_length ∙ sized.links) t facts_of.few f link k.there

  still_ok : all_fine new t ≡ true → Accepted new
  unfolding tags_unique parents_earlier root_fits rows_finite couplings_of links_of
  still_ok f =
      let ok = facts_of.ok in
      record {
        counts = ok.counts;
        tags = ap unique new_tags ∙ ok.tags;
        parents = ap parents_fit new_parents ∙ ok.parents;
        coupled = ok.coupled;
        masks = same_tests link_masks_fit no_link (live_links a) ls' ls same_length (λ j. modify_field (changed change) link_masks_fit (same_masks change) link j ls no_link) ∙ ok.masks;
        root = ap root_mask_fits new_masks ∙ ok.root;
        axes = ok.axes;
        links = modify_tests (changed change) link_finite (live_links a) link ls no_link ok.links (λ h. still_finite change (link_at ls link) k.floats (rotation f) h);
        couplings = ok.couplings;
        rows = ap (every all_finite) new_rows ∙ ok.rows;
        angles = modify_tests (changed change) link_angle_fits (live_links a) link ls no_link ok.angles (λ h. still_within change (link_at ls link) k.angle h);
      }

  unmarked : (j : ℕ) → j < n → (AtOrBelow a link j → ⊥) → b j ≡ false
  unmarked j h z = go (b j) refl
    where
      go : (y : Bool) → b j ≡ y → y ≡ false
      go true e = absurd (z (h, of_mark j h e))
      go false e = refl

  edit : Edit a t (moved_inputs a link change) b (AtOrBelow a link)
  unfolding moved_inputs
  edit = record {
    sized = record { links = same_length ∙ sized.links; couplings = sized.couplings; rows = sized.rows; entries = sized.entries };
    few = facts_of.few;
    ready = ready;
    ok = still_ok;
    apart = λ j h z. (λ q. unmarked j q z, modify_other (changed change) link j ls no_link (λ q. z (subst (AtOrBelow a link) (sym q) (k.there, itself))));
  }

  kept : RestKept a (moved_inputs a link change)
  unfolding moved_inputs couplings_of
  kept = record { couplings = refl; entries = λ name j h. same_entries new a new_masks refl name j }

pub the_move : (a : Arm) (t : List Float) → Sized a → Settled a t → (link : ℕ) (change : Change)
    → Right a t (move_refusal a t link change) (moved_inputs a link change) (AtOrBelow a link) (link_moved a t link change)
unfolding link_moved
the_move a t sized settled link change =
    right a t sized settled (move_refusal a t link change) (moved_inputs a link change) (marked (marks (parents_of a) link)) (AtOrBelow a link) (λ e.
    edit a t sized settled link change (passed a t link change e))

pub move_keeps : (a : Arm) (t : List Float) → Sized a → Settled a t → (link : ℕ) (change : Change) → RestKept a (link_moved a t link change).answer.arm
unfolding link_moved
move_keeps a t sized settled link change =
    call_keeps a t sized settled (move_refusal a t link change) (moved_inputs a link change) (marked (marks (parents_of a) link)) (AtOrBelow a link)
    (λ e. edit a t sized settled link change (passed a t link change e))
    (λ e. kept a t sized settled link change (passed a t link change e))
