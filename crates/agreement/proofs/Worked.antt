-- A call on arms that agree up to their counts: refused alike, or the pass over links that agree, which gives the same results and tables. Assumes
-- nothing.
use Prim.Native.Nat.{ℕ, zero, suc, ◌≤◌, ◌<◌}
use mathlib.Core.Path.{◌≡◌, refl, sym, ap, subst, ◌∙◌}
use mathlib.Core.Bool.{Bool, true, false}
use mathlib.Core.List.{List, map}
use native.Mathlib.Omega.{arith}
use lib.ListN.{length, take}
use lib.Seq.{ext_get_or, get_or-take, length-take-le}
use lib.Ieee.{Float}
use Rattle.arm.specs.Setters.{with_links}
use Rattle.limits.specs.Limits.{link_limit, table_size}
use Rattle.masks.specs.Starts.{total_of}
use Rattle.topology.specs.Parents.{parents_fit}
use Rattle.arm.specs.declared.Link.{Link}
use Rattle.arm.specs.declared.Arm.{Arm}
use Rattle.arm.specs.Arm.{live_links, links_of, couplings_of, locked_of, parents_of, masks_of, dof_count_of, entries_to, rows_of, no_link, link_at}
use Rattle.arm.specs.HandedIn.{parents_earlier, arm_refusal}
use Rattle.arm.specs.Agree.{Agree}
use Rattle.arm.proofs.Accepted.{accepted, counts_accepted}
use Rattle.arm.proofs.Agree.{same_masks}
use Rattle.kinematics.specs.State.{State, state_after, fine_after, cleared, every_link}
use Rattle.kinematics.specs.Promises.{Fits}
use Rattle.kinematics.proofs.Store.{after_blank}
use Rattle.kinematics.proofs.Promises.{after_good, up_to}
use Rattle.full_working.specs.Outcome.{Outcome, unless_refused, worked_all, worked_marked}
use Rattle.one_link.proofs.Parents.{parent_le}
use Rattle.one_link.proofs.Relinked as relinked
use Rattle.one_link.proofs.Settles.{worked_to, worked_all_lem, worked_marked_lem, cleared_long}
use Rattle.agreement.specs.Respects.{Alike}

-- ---- refused, or not

pub call_alike : (a b : Arm) (t : List Float) (k n : ℕ) (x y : Outcome) → Agree a b → k ≡ n → (k ≡ 0 → Alike x y)
    → Alike (unless_refused k a t x) (unless_refused n b t y)
unfolding unless_refused
call_alike a b t k n x y g e next = rw (← e) (by_number k next)
  where
    by_number : (k : ℕ) → (k ≡ 0 → Alike x y) → Alike (unless_refused k a t x) (unless_refused k b t y)
    by_number zero next = next refl
    by_number (suc k) next = record { answer = record { refusal = refl; arm = g }; memory = refl }

-- ---- links that count, one by one

pub same_link : (a b : Arm) → Agree a b → (j : ℕ) → j < live_links a → link_at a.links j ≡ link_at b.links j
unfolding links_of
same_link a b g j h =
    sym (get_or-take (live_links a) a.links j no_link h)
    ∙ ap (λ (ls : List Link). link_at ls j) g.links
    ∙ get_or-take (live_links b) b.links j no_link (omega (arith, g.link_count))

pub same_links : (a b : Arm) → a.link_count ≡ b.link_count → length a.links ≡ link_limit → length b.links ≡ link_limit
    → ((j : ℕ) → j < live_links a → link_at a.links j ≡ link_at b.links j) → links_of a ≡ links_of b
unfolding links_of
same_links a b e p q h =
    let n = live_links a in
    let m = live_links b in
    let l : length (take n a.links) ≡ n = length-take-le n a.links (omega arith) in
    let k : length (take m b.links) ≡ m = length-take-le m b.links (omega arith) in
    ext_get_or no_link (take n a.links) (take m b.links) (omega arith) (λ j i.
    get_or-take n a.links j no_link (omega arith) ∙ h j (omega arith) ∙ sym (get_or-take m b.links j no_link (omega arith)))

-- ---- other links with the same masks

rows_stay : (a : Arm) (ls : List Link) → masks_of (with_links a ls) ≡ masks_of a → rows_of (with_links a ls) ≡ rows_of a
unfolding rows_of dof_count_of
rows_stay a ls e = ap (λ (ms : List ℕ). map (entries_to (total_of ms)) a.rows) e

pub agree_relinked : (a b : Arm) (ls ms : List Link) → Agree a b → masks_of (with_links a ls) ≡ masks_of a → links_of (with_links a ls) ≡ links_of (with_links b ms)
    → Agree (with_links a ls) (with_links b ms)
unfolding masks_of couplings_of
agree_relinked a b ls ms g e l = record {
  link_count = g.link_count;
  coupling_count = g.coupling_count;
  links = l;
  couplings = g.couplings;
  rows = rows_stay a ls e ∙ g.rows ∙ sym (rows_stay b ms (ap (map locked_of) (sym l) ∙ e ∙ same_masks a b g));
  rest = g.rest;
}

-- ---- the working

-- what a pass left, or 12
worked_to_lem : (a b new new' : Arm) (t : List Float) → Agree a b → (f f' : Bool) → f ≡ f' → (s s' : State) → Agree (with_links new s.links) (with_links new' s'.links) → s.tables ≡ s'.tables
    → Alike (worked_to f a new s t) (worked_to f' b new' s' t)
worked_to_lem a b new new' t g f f' p s s' h e = rw (← p) (by_test f)
  where
    by_test : (f : Bool) → Alike (worked_to f a new s t) (worked_to f b new' s' t)
    by_test true = record { answer = record { refusal = refl; arm = h }; memory = e }
    by_test false = record { answer = record { refusal = refl; arm = g }; memory = refl }

-- two new arms that agree, the links within their places and rising
pub record Workable (new new' : Arm) : Type 0 where
  pub same : Agree new new'
  pub places : length new.links ≡ link_limit
  pub places' : length new'.links ≡ link_limit
  pub few : new.link_count ≤ link_limit
  pub rising : parents_earlier new ≡ true

-- those of an accepted arm whose link count and parents they keep
pub workable : (a new new' : Arm) → arm_refusal a ≡ 0 → new.link_count ≡ a.link_count → parents_of new ≡ parents_of a → Agree new new'
    → length new.links ≡ link_limit → length new'.links ≡ link_limit → Workable new new'
unfolding arm_refusal parents_earlier
workable a new new' z n p g l l' = record {
  same = g;
  places = l;
  places' = l';
  few = omega (arith, (counts_accepted a z).0);
  rising = ap parents_fit p ∙ (accepted a z).parents;
}

module _ (a b new new' : Arm) (t : List Float) (g : Agree a b) (w : Workable new new') (long : table_size ≤ length t) where
  few' : new'.link_count ≤ link_limit
  few' = omega (arith, w.few, w.same.link_count)

  module _ (m : ℕ → Bool) (u : List Float) (room : table_size ≤ length u) where
    abbrev n : ℕ
    n = new.link_count

    abbrev after : State
    after = state_after new.links n m u

    abbrev after' : State
    after' = state_after new'.links n m u

    fits : Fits new.links n u
    fits = record { places = w.places; few = w.few; long = room }

    fits' : Fits new'.links n u
    fits' = record { places = w.places'; few = w.few; long = room }

    pass : ((j : ℕ) → j < n → link_at after.links j ≡ link_at after'.links j) × (after.tables ≡ after'.tables) × (fine_after new.links n m u ≡ fine_after new'.links n m u)
    pass =
        up_to new.links new'.links n m u fits fits' (parent_le new w.places w.few w.rising) (λ j h.
        same_link new new' w.same j (omega (arith, w.few)))

    good : length after.links ≡ link_limit
    good = (after_good new.links n m u fits).0

    good' : length after'.links ≡ link_limit
    good' = (after_good new'.links n m u fits').0

    agree_after : Agree (with_links new after.links) (with_links new' after'.links)
    agree_after =
        agree_relinked new new' after.links after'.links w.same
        (relinked.same_masks new after.links (good ∙ sym w.places) (after_blank new.links n m u))
        (same_links (with_links new after.links) (with_links new' after'.links) w.same.link_count good good' (λ j h. pass.0 j (omega arith)))

    pass_alike : Alike (worked_to (fine_after new.links n m u) a new after t) (worked_to (fine_after new'.links new'.link_count m u) b new' (state_after new'.links new'.link_count m u) t)
    pass_alike =
        subst (λ (k : ℕ). Alike (worked_to (fine_after new.links n m u) a new after t) (worked_to (fine_after new'.links k m u) b new' (state_after new'.links k m u) t)) w.same.link_count
        (worked_to_lem a b new new' t g (fine_after new.links n m u) (fine_after new'.links n m u) pass.2 after after' agree_after pass.1)

  pub marked_alike : (m m' : ℕ → Bool) → m ≡ m' → Alike (worked_marked a new m t) (worked_marked b new' m' t)
  marked_alike m m' e = rw (← e, worked_marked_lem a new t w.few long m, worked_marked_lem b new' t few' long m) (pass_alike m t long)

  pub all_alike : Alike (worked_all a new t) (worked_all b new' t)
  all_alike = rw (worked_all_lem a new t w.few long, worked_all_lem b new' t few' long) (pass_alike every_link (cleared t) (cleared_long t))
