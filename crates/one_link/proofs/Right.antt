-- The promise of a call on one link: over marks that are closed downward, from links that are fresh where unmarked, it is the full working. Assumes nothing.
use Prim.Native.Nat.{ℕ, zero, suc, ◌≤◌, ◌<◌}
use mathlib.Core.Path.{◌≡◌, refl, sym, ap, ap₂, subst, ◌∙◌}
use mathlib.Core.Bool.{Bool, true, false}
use mathlib.Core.List.{List, [], map}
use native.Mathlib.Omega.{arith}
use lib.ListN.{length, drop, get_or}
use lib.Ieee.{Float}
use Rattle.arm.proofs.Accepted.{Accepted, not-refused}
use Rattle.arm.specs.Setters.{with_links}
use Rattle.arm.specs.Sized.{Sized}
use Rattle.lists.specs.Lists.{part}
use Rattle.masks.specs.Masks.{dofs_of}
use Rattle.masks.specs.Starts.{start_of}
use Rattle.arm.specs.declared.Row.{Row}
use Rattle.arm.specs.declared.RowName.{RowName}
use Rattle.arm.specs.Arm.{link_at, couplings_of, masks_of, mask_at, start_at, entries_of, row_number, row_in, own_part}
use Rattle.limits.specs.Limits.{link_limit, table_size}
use Rattle.arm.specs.declared.Arm.{Arm}
use Rattle.kinematics.specs.Blocks.{block_at}
use Rattle.kinematics.specs.State.{State, state_after, fine_after, cleared, every_link}
use Rattle.full_working.specs.Outcome.{Outcome, says, unless_refused, worked_all, worked_marked}
use Rattle.full_working.specs.Full.{full_refusal, full_working, Settled}
use Rattle.kinematics.specs.Promises.{Fits, Ready}
use Rattle.one_link.specs.Promise.{RestKept, Untouched, Right}
use Rattle.kinematics.proofs.Store.{after_blank}
use Rattle.kinematics.proofs.Promises.{after_good, stays, like_full}
use Rattle.one_link.proofs.Relinked.{same_masks}
use Rattle.one_link.proofs.Settles.{all_state, all_fine, worked_to, worked_all_lem, worked_marked_lem, full_is, settles, facts}

-- what a call owes of the arm with the new inputs, and of its marks
pub record Edit (a : Arm) (t : List Float) (new : Arm) (b : ℕ → Bool) (Below : ℕ → Type 0) : Type 0 where
  pub sized : Sized new
  pub few : new.link_count ≤ link_limit
  pub ready : Ready new.links new.link_count b t
  pub ok : all_fine new t ≡ true → Accepted new
  pub apart : (j : ℕ) → j < link_limit → (Below j → ⊥) → (j < new.link_count → b j ≡ false) × (link_at new.links j ≡ link_at a.links j)

-- a link's own part of a row is found by the masks alone
pub same_entries : (a b : Arm) → masks_of a ≡ masks_of b → a.rows ≡ b.rows → (name : RowName) (j : ℕ) → own_part a j (row_in a name) ≡ own_part b j (row_in b name)
unfolding own_part row_in start_at mask_at
same_entries a b e q name j =
    ap₂ (λ (ms : List ℕ) (rows : List Row). part (start_of ms j) (dofs_of (get_or ms j 7)) (get_or (map entries_of rows) (row_number name) [])) e q

refused_full : (k : ℕ) (a : Arm) (t : List Float) (next : Outcome) → next ≡ says 12 a t → (unless_refused k a t next).answer.refusal ≡ 0 → ⊥
unfolding unless_refused
refused_full zero a t next e z = let y : ◌≡◌ {A = ℕ} 12 0 = ap (λ (o : Outcome). o.answer.refusal) (sym e) ∙ z in omega arith
refused_full (suc k) a t next e z = omega arith

module _ (a : Arm) (t : List Float) (sized : Sized a) (settled : Settled a t) (new : Arm) (b : ℕ → Bool) (Below : ℕ → Type 0) (e : Edit a t new b Below) where
  abbrev n : ℕ
  n = new.link_count

  abbrev s : State
  s = all_state new t

  long : table_size ≤ length t
  long = (facts a t sized.links settled).long

  fits : Fits new.links n t
  fits = record { places = e.sized.links; few = e.few; long = long }

  same_state : state_after new.links n b t ≡ s
  same_state = (like_full new.links n b t fits e.ready).0

  same_fine : fine_after new.links n b t ≡ all_fine new t
  same_fine = (like_full new.links n b t fits e.ready).1

  as_all : worked_marked a new b t ≡ worked_all a new t
  as_all =
      worked_marked_lem a new t e.few long b
      ∙ ap₂ (λ (f : Bool) (x : State). worked_to f a new x t) same_fine same_state
      ∙ sym (worked_all_lem a new t e.few long)

  -- a pass leaves the masks
  masks_left : masks_of (with_links new s.links) ≡ masks_of new
  masks_left =
      same_masks new s.links
      (ap (λ (x : State). length x.links) (sym same_state) ∙ (after_good new.links n b t fits).0 ∙ sym e.sized.links)
      (after_blank new.links n every_link (cleared t))

  stay : (j : ℕ) → j < link_limit → (Below j → ⊥) → Untouched a t (says 0 (with_links new s.links) s.tables) j
  stay j h z =
      let p = e.apart j h z in
      let q = (stays new.links n b t fits).0 j h p.0 in
      (ap (λ (x : State). link_at x.links j) (sym same_state) ∙ q.0 ∙ p.1, ap (λ (x : State). block_at j x.tables) (sym same_state) ∙ q.1)

  not_full : all_fine new t ≡ false → (full_working new t).answer.refusal ≡ 0 → ⊥
  unfolding full_working
  not_full g = refused_full (full_refusal new t) new t (worked_all new new t) (worked_all_lem new new t e.few long ∙ ap (λ (f : Bool). worked_to f new new s t) g)

  by_test : (f : Bool) → all_fine new t ≡ f → Right a t 0 new Below (worked_to f a new s t)
  by_test true g =
      let ok = e.ok g in
      let full : full_working new t ≡ says 0 (with_links new s.links) s.tables =
      full_is new t long (not-refused new ok) ∙ worked_all_lem new new t e.few long ∙ ap (λ (f : Bool). worked_to f new new s t) g in
      record {
        refused = λ h. absurd (h refl);
        as_all = λ z. sym (worked_all_lem a new t e.few long ∙ ap (λ (f : Bool). worked_to f a new s t) g);
        exactly = λ z. (λ y. absurd (omega arith), λ h. absurd (h (ap (λ (o : Outcome). o.answer.refusal) full)));
        as_full = λ z. sym full;
        left = λ h. absurd (h refl);
        untouched = stay;
        behind = ap (λ (x : State). drop table_size x.tables) (sym same_state) ∙ (stays new.links n b t fits).1;
        settled = settles new e.sized.links t e.few ok g;
        sized = record {
          links = ap (λ (x : State). length x.links) (sym same_state) ∙ (after_good new.links n b t fits).0;
          couplings = e.sized.couplings;
          rows = e.sized.rows;
          entries = e.sized.entries;
        };
      }
  by_test false g =
      record {
        refused = λ h. absurd (h refl);
        as_all = λ z. sym (worked_all_lem a new t e.few long ∙ ap (λ (f : Bool). worked_to f a new s t) g);
        exactly = λ z. (λ y. not_full g, λ h. refl);
        as_full = λ z. absurd (omega arith);
        left = λ h. (refl, refl);
        untouched = λ j h z. (refl, refl);
        behind = refl;
        settled = settled;
        sized = sized;
      }

  keeps : RestKept a new → (f : Bool) → RestKept a (worked_to f a new s t).answer.arm
  unfolding couplings_of
  keeps k true = record {
    couplings = k.couplings;
    entries = λ name j h. same_entries (with_links new s.links) new masks_left refl name j ∙ k.entries name j h;
  }
  keeps k false = record { couplings = refl; entries = λ name j h. refl }

  kept : RestKept a new → RestKept a (worked_marked a new b t).answer.arm
  kept k = subst (λ (r : Outcome). RestKept a r.answer.arm) (sym (as_all ∙ worked_all_lem a new t e.few long)) (keeps k (all_fine new t))

  done : Right a t 0 new Below (worked_marked a new b t)
  done = subst (Right a t 0 new Below) (sym (as_all ∙ worked_all_lem a new t e.few long)) (by_test (all_fine new t) refl)

pub right : (a : Arm) (t : List Float) → Sized a → Settled a t → (own : ℕ) (new : Arm) (b : ℕ → Bool) (Below : ℕ → Type 0) → (own ≡ 0 → Edit a t new b Below)
    → Right a t own new Below (unless_refused own a t (worked_marked a new b t))
unfolding unless_refused
right a t sized settled zero new b Below e = done a t sized settled new b Below (e refl)
right a t sized settled (suc k) new b Below e = record {
  refused = λ h. refl;
  as_all = λ z. absurd (omega arith);
  exactly = λ z. absurd (omega arith);
  as_full = λ z. absurd (omega arith);
  left = λ h. (refl, refl);
  untouched = λ j h z. (refl, refl);
  behind = refl;
  settled = settled;
  sized = sized;
}

pub call_keeps : (a : Arm) (t : List Float) → Sized a → Settled a t → (own : ℕ) (new : Arm) (b : ℕ → Bool) (Below : ℕ → Type 0) → (own ≡ 0 → Edit a t new b Below)
    → (own ≡ 0 → RestKept a new) → RestKept a (unless_refused own a t (worked_marked a new b t)).answer.arm
unfolding unless_refused
call_keeps a t sized settled zero new b Below e k = kept a t sized settled new b Below (e refl) (k refl)
call_keeps a t sized settled (suc own) new b Below e k = record { couplings = refl; entries = λ name j h. refl }
