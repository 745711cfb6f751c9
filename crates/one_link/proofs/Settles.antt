-- What the full working leaves is settled, and what a settled arm keeps is fresh and finite: a pass over no links leaves what the full pass leaves.
-- Assumes nothing.
use Prim.Native.Nat.{ℕ, zero, suc, min, ◌≤◌, ◌<◌}
use mathlib.Core.Path.{◌≡◌, refl, sym, ap, ap₂, subst, ◌∙◌}
use mathlib.Core.Bool.{Bool, true, false, cond}
use mathlib.Core.List.{List}
use native.Mathlib.Omega.{arith}
use borrow.Author.Tests.{le-leb, leb-true}
use lib.ListN.{length, take, drop, replicate, length-replicate, length-append}
use lib.Seq.{get_or-take, length-take-le}
use lib.Ieee.{Float}
use Rattle.kinematics.specs.Inner.{result_of}
use Rattle.arm.proofs.Accepted.{Accepted, accepted, not-refused}
use Rattle.arm.specs.Setters.{with_links, with_place}
use Rattle.lists.proofs.Lists.{same_map}
use Rattle.lists.specs.Tests.{every}
use Rattle.lists.proofs.Every.{every_at, every_of}
use Rattle.lists.proofs.Numbers.{all_at, all_below_lem}
use Rattle.lists.proofs.Bools.{both_hold}
use Rattle.limits.specs.Limits.{link_limit, table_size}
use Rattle.refusal.specs.Refusal.{lower_of}
use Rattle.refusal.proofs.Tests.{holds}
use Rattle.refusal.proofs.Laws.{none_of}
use Rattle.floats.specs.Floats.{zero32}
use Rattle.masks.specs.Starts.{start_of}
use Rattle.arm.specs.declared.Link.{Link}
use Rattle.arm.specs.declared.Arm.{Arm}
use Rattle.arm.specs.Arm.{live_links, links_of, no_link, link_at, locked_of}
use Rattle.arm.specs.HandedIn.{link_finite, arm_refusal}
use Rattle.kinematics.specs.Blocks.{block_at, zero_block}
use Rattle.kinematics.specs.Link.{finite_place, finite_kept}
use Rattle.kinematics.specs.State.{State, state, inputs_of, kept_at, kept_ops, state_after, fine_after, cleared, parent_at, every_link}
use Rattle.kinematics.specs.Answers.{passed, refresh_marked, refresh_all}
use Rattle.kinematics.proofs.Pass.{new_same}
use Rattle.kinematics.proofs.Store.{Good, blank, after_blank}
use Rattle.kinematics.specs.Pass.{run}
use Rattle.full_working.specs.Outcome.{Outcome, out, says, unless_refused, tables_fit, worked_by, worked_all, worked_marked}
use Rattle.full_working.specs.Full.{full_refusal, full_working, Settled}
use Rattle.kinematics.specs.Promises.{Fresh, Fits, Ready}
use Rattle.kinematics.proofs.Promises.{cleared_block, after_good, all_fresh, stays, like_full}
use Rattle.one_link.proofs.Relinked.{relinked, link_finite_lem}

-- ---- the working of an arm, by the test of its results

abbrev pub all_state : Arm → List Float → State
all_state a t = state_after a.links a.link_count every_link (cleared t)

abbrev pub all_fine : Arm → List Float → Bool
all_fine a t = fine_after a.links a.link_count every_link (cleared t)

-- the new arm with what a pass left, or 12 and the old one
abbrev pub worked_to : Bool → Arm → Arm → State → List Float → Outcome
worked_to f old new s t = cond f (says 0 (with_links new s.links) s.tables) (says 12 old t)

module _ (old new : Arm) (t : List Float) (few : new.link_count ≤ link_limit) (long : table_size ≤ length t) where
  count : min new.link_count link_limit ≡ new.link_count
  count = omega arith

  -- as the definition has it
  abbrev worked_end : Bool → State → Outcome
  worked_end f s = out (worked_by old new (passed f s new.links t).answer) (passed f s new.links t).memory

  end_is : (f : Bool) (s : State) → worked_end f s ≡ worked_to f old new s t
  unfolding passed worked_by
  end_is true s = refl
  end_is false s = refl

  pub worked_all_lem : worked_all old new t ≡ worked_to (all_fine new t) old new (all_state new t) t
  unfolding worked_all refresh_all
  worked_all_lem = rw (count, le-leb table_size (length t) long) (end_is (all_fine new t) (all_state new t))

  pub worked_marked_lem : (b : ℕ → Bool)
      → worked_marked old new b t ≡ worked_to (fine_after new.links new.link_count b t) old new (state_after new.links new.link_count b t) t
  unfolding worked_marked refresh_marked
  worked_marked_lem b = rw (count, le-leb table_size (length t) long) (end_is _ (state_after new.links new.link_count b t))

-- the full working of an arm that is not refused
pub full_is : (a : Arm) (t : List Float) → table_size ≤ length t → arm_refusal a ≡ 0 → full_working a t ≡ worked_all a a t
unfolding full_working full_refusal unless_refused lower_of
full_is a t long e = rw (le-leb table_size (length t) long, e)

-- ---- what the full working leaves is settled

-- a pass over no links
abbrev pub nowhere : ℕ → Bool
nowhere j = false

pub left_alone : (ls : List Link) (n : ℕ) (t : List Float) → state_after ls n nowhere t ≡ state ls t
unfolding state_after run
left_alone ls zero t = refl
left_alone ls (suc n) t = left_alone ls n t

pub untested : (ls : List Link) (n : ℕ) (t : List Float) → fine_after ls n nowhere t ≡ true
unfolding fine_after
untested ls n t = all_below_lem n _ (λ j h. refl)

pub cleared_long : (t : List Float) → table_size ≤ length (cleared t)
cleared_long t = omega (arith, length-append (replicate table_size zero32) (drop table_size t), length-replicate table_size zero32)

-- parents and inputs are those of the links without their results
module _ (ls gs : List Link) (l : length ls ≡ length gs) (e : (j : ℕ) → blank (link_at ls j) ≡ blank (link_at gs j)) where
  blank_parent : (j : ℕ) → parent_at ls j ≡ parent_at gs j
  unfolding parent_at with_place
  blank_parent j = ap (λ (x : Link). x.parent) (e j)

  blank_inputs : (j : ℕ) → inputs_of ls j ≡ inputs_of gs j
  unfolding inputs_of with_place
  blank_inputs j =
      let p = ap (λ (x : Link). x.joint) (e j) in
      let q = ap (λ (x : Link). x.centre) (e j) in
      let s = ap (λ (ms : List ℕ). start_of ms j) (same_map locked_of no_link ls gs l (λ k. ap (λ (x : Link). x.joint.locked) (e k))) in
      let u = ap (λ (x : Link). x.centre) (e (parent_at ls j)) ∙ ap (λ (k : ℕ). (link_at gs k).centre) (blank_parent j) in
      λ i. record { joint = p i; centre = q i; start = s i; above = u i }

  -- so the same store gives the same results
  pub blank_result : (s : State) (j : ℕ) → result_of ls s j ≡ result_of gs s j
  blank_result s j = new_same kept_ops (parent_at ls) (inputs_of ls) (parent_at gs) (inputs_of gs) s s j (blank_parent j) (blank_inputs j) (λ q. refl)

module _ (a : Arm) (sized : length a.links ≡ link_limit) (t : List Float) (few : a.link_count ≤ link_limit) where
  abbrev ls : List Link
  ls = a.links

  abbrev n : ℕ
  n = a.link_count

  abbrev s : State
  s = all_state a t

  fits : Fits ls n (cleared t)
  fits = record { places = sized; few = few; long = cleared_long t }

  good : Good (all_state a t)
  good = after_good ls n every_link (cleared t) fits

  pub fine_at : all_fine a t ≡ true → (j : ℕ) → j < n → finite_kept (kept_at (all_state a t) j) ≡ true
  unfolding fine_after
  fine_at f j h = all_at n _ f j h

  place_finite : (j : ℕ) → finite_kept (kept_at (all_state a t) j) ≡ true → finite_place (link_at s.links j).world (link_at s.links j).shift02 (link_at s.links j).shift23 ≡ true
  unfolding finite_kept kept_at
  place_finite j e = (both_hold _ _ e).0

  module _ (ok : Accepted a) (f : all_fine a t ≡ true) where
    links_finite : every link_finite (links_of (with_links a s.links)) ≡ true
    unfolding links_of
    links_finite =
        let m : live_links a ≡ n = omega arith in
        let r : length (take (live_links a) s.links) ≡ live_links a = length-take-le (live_links a) s.links (omega (arith, good.0)) in
        let r₀ : length (take (live_links a) ls) ≡ live_links a = length-take-le (live_links a) ls (omega arith) in
        every_of link_finite (take (live_links a) s.links) no_link (λ j h.
        ap link_finite (get_or-take (live_links a) s.links j no_link (omega arith))
        ∙ link_finite_lem (link_at s.links j) (link_at ls j) (after_blank ls n every_link (cleared t) j)
        (ap link_finite (sym (get_or-take (live_links a) ls j no_link (omega arith))) ∙ every_at link_finite (take (live_links a) ls) no_link ok.links j (omega arith))
        (place_finite j (fine_at f j (omega arith))))

    pub ok_after : Accepted (with_links a s.links)
    ok_after = relinked a s.links (good.0 ∙ sym sized) (after_blank ls n every_link (cleared t)) sized ok links_finite

    fresh : (j : ℕ) → j < n → Fresh s.links s.tables j
    fresh j h = all_fresh ls n (cleared t) fits j h ∙ sym (blank_result s.links ls (good.0 ∙ sym sized) (after_blank ls n every_link (cleared t)) s j)

    fits_after : Fits s.links n s.tables
    fits_after = record { places = good.0; few = few; long = good.1 }

    ready : Ready s.links n nowhere s.tables
    ready = record {
      closed = λ j h q e. e;
      fresh = λ j h e. fresh j h;
      finite = λ j h e. fine_at f j h;
      unused = λ j h l. ((stays ls n every_link (cleared t) fits).0 j l (λ q. absurd (omega arith))).1 ∙ cleared_block t j l;
    }

    pub settles : Settled (with_links a s.links) s.tables
    settles =
        let a' = with_links a s.links in
        let like = like_full s.links n nowhere s.tables fits_after ready in
        full_is a' s.tables good.1 (not-refused a' ok_after)
        ∙ worked_all_lem a' a' s.tables few good.1
        ∙ ap₂ (λ (y : Bool) (x : State). worked_to y a' a' x s.tables) (sym (sym (untested s.links n s.tables) ∙ like.1)) (sym like.0 ∙ left_alone s.links n s.tables)

-- ---- what a settled arm keeps

pub record Facts (a : Arm) (t : List Float) : Type 0 where
  pub long : table_size ≤ length t
  pub ok : Accepted a
  pub few : a.link_count ≤ link_limit
  pub fresh : (j : ℕ) → j < a.link_count → Fresh a.links t j
  pub finite : (j : ℕ) → j < a.link_count → finite_kept (kept_at (state a.links t) j) ≡ true
  pub unused : (j : ℕ) → a.link_count ≤ j → j < link_limit → block_at j t ≡ zero_block

not_said : (k : ℕ) (a : Arm) (t : List Float) (next : Outcome) → unless_refused k a t next ≡ says 0 a t → (k ≡ 0) × (next ≡ says 0 a t)
unfolding unless_refused
not_said zero a t next e = (refl, e)
not_said (suc k) a t next e = let z : suc k ≡ 0 = ap (λ (o : Outcome). o.answer.refusal) e in absurd (omega arith)

worked_said : (f : Bool) (a : Arm) (s : State) (t : List Float) → worked_to f a a s t ≡ says 0 a t → (f ≡ true) × (s ≡ state a.links t)
worked_said true a s t e = (refl, ap₂ state (ap (λ (o : Outcome). o.answer.arm.links) e) (ap (λ (o : Outcome). o.memory) e))
worked_said false a s t e = let z : ◌≡◌ {A = ℕ} 12 0 = ap (λ (o : Outcome). o.answer.refusal) e in absurd (omega arith)

few_of : (a : Arm) → Accepted a → a.link_count ≤ link_limit
few_of a k = leb-true _ _ (both_hold _ _ k.counts).0

pub facts : (a : Arm) (t : List Float) → length a.links ≡ link_limit → Settled a t → Facts a t
unfolding full_working full_refusal
facts a t sized e =
    let p = not_said (full_refusal a t) a t (worked_all a a t) e in
    let q = none_of _ _ p.0 in
    let long : table_size ≤ length t = leb-true table_size (length t) (holds (tables_fit t) 0 q.0) in
    let ok = accepted a q.1 in
    let few = few_of a ok in
    let r = worked_said (all_fine a t) a (all_state a t) t (sym (worked_all_lem a a t few long) ∙ p.1) in
    let fits : Fits a.links a.link_count (cleared t) = record { places = sized; few = few; long = cleared_long t } in
    record {
      long = long;
      ok = ok;
      few = few;
      fresh = λ j h. subst (λ (x : State). kept_at x j ≡ result_of a.links x j) r.1 (all_fresh a.links a.link_count (cleared t) fits j h);
      finite = λ j h. subst (λ (x : State). finite_kept (kept_at x j) ≡ true) r.1 (fine_at a sized t few r.0 j h);
      unused = λ j h l. ap (λ (x : State). block_at j x.tables) (sym r.1) ∙ ((stays a.links a.link_count every_link (cleared t) fits).0 j l (λ q. absurd (omega arith))).1 ∙ cleared_block t j l;
    }
