-- One more coupling changes no link, and leaves couplings that an arm handed in may have. Assumes nothing.
use Prim.Native.Nat.{ℕ, zero, suc, min, ◌+◌, ◌<◌}
use mathlib.Core.Path.{◌≡◌, refl, ap, ◌∙◌}
use mathlib.Core.Bool.{Bool, true, ◌&&◌}
use mathlib.Core.Logic.{inl, inr}
use mathlib.Core.List.{List, [], ◌∷◌}
use native.Mathlib.Omega.{arith}
use borrow.Author.Tests.{le-leb}
use lib.Dec.{leb}
use lib.ListN.{take, set, length-set}
use lib.Ieee.{Float}
use Rattle.refusal.proofs.Laws.{holds_in}
use Rattle.arm.specs.Sized.{Sized}
use Rattle.lists.specs.Tests.{every}
use Rattle.lists.proofs.Bools.{both_hold, both}
use Rattle.limits.specs.Limits.{link_limit, coupling_limit}
use Rattle.floats.specs.Floats.{is_finite}
use Rattle.masks.specs.Masks.{is_axis}
use Rattle.arm.specs.declared.Coupling.{Coupling}
use Rattle.arm.specs.declared.Arm.{Arm}
use Rattle.arm.specs.Arm.{links_of, couplings_of, is_link, tags_of, parents_of, masks_of, dof_count_of, rows_of}
use Rattle.arm.specs.HandedIn.{tags_unique, parents_earlier, coupling_links_fit, root_fits, coupling_axes_fit, coupling_finite, rows_finite}
use Rattle.arm_edits.specs.declared.NewCoupling.{NewCoupling}
use Rattle.arm_edits.specs.Couplings.{coupling_entries, coupling_refusal, coupling_of, with_coupling, coupling_added}
use Rattle.arm_edits.proofs.Accepted.{coupling_fits}
use Rattle.full_working.specs.Outcome.{out}
use Rattle.full_working.specs.Full.{Settled}
use Rattle.one_link.specs.Promise.{Right}
use Rattle.one_link.proofs.Settles.{facts, nowhere}
use Rattle.one_link.proofs.Right.{Edit}
use Rattle.always.proofs.Unworked.{still_ready, edit_right}

-- a test of each, and of one that is stored behind them
one_more : {A : Type 0} (test : A → Bool) (n : ℕ) (xs : List A) (x : A) → every test (take n xs) ≡ true → test x ≡ true → every test (take (suc n) (set xs n x)) ≡ true
one_more test n [] x e h = refl
one_more test zero (y ∷ xs) x e h = both h refl
one_more test (suc n) (y ∷ xs) x e h = let p = both_hold (test y) (every test (take n xs)) e in both p.0 (one_more test n xs x p.1 h)

module _ (a : Arm) (t : List Float) (sized : Sized a) (settled : Settled a t) (c : NewCoupling) where
  abbrev n : ℕ
  n = a.coupling_count

  abbrev new : Arm
  new = with_coupling a c

  -- a test of each coupling that counts
  each : n < coupling_limit → (test : Coupling → Bool) → every test (couplings_of a) ≡ true → test (coupling_of c) ≡ true → every test (couplings_of new) ≡ true
  unfolding couplings_of with_coupling
  each room test e h =
      let before : n ≡ min n coupling_limit = omega arith in
      let after : min (n + 1) coupling_limit ≡ suc n = omega arith in
      ap (λ (k : ℕ). every test (take k (set a.couplings n (coupling_of c)))) after
      ∙ one_more test n a.couplings (coupling_of c) (ap (λ (k : ℕ). every test (take k a.couplings)) before ∙ e) h

  edit : coupling_refusal a c ≡ 0 → Edit a t new nowhere (λ j. ⊥)
  unfolding coupling_refusal with_coupling links_of tags_of parents_of masks_of dof_count_of rows_of tags_unique parents_earlier root_fits rows_finite coupling_links_fit coupling_axes_fit coupling_finite
  edit e =
      let k = facts a t sized.links settled in
      let room = (coupling_fits a c e).place in
      let own = coupling_entries a c in
      record {
        sized = record { links = sized.links; couplings = length-set a.couplings n (coupling_of c) ∙ sized.couplings; rows = sized.rows; entries = sized.entries };
        few = k.few;
        ready = still_ready a t k;
        ok = λ z. record {
          counts = both (both_hold (leb a.link_count link_limit) (leb n coupling_limit) k.ok.counts).0 (le-leb (n + 1) coupling_limit (omega arith));
          tags = k.ok.tags;
          parents = k.ok.parents;
          coupled = each room (coupling_links_fit a.link_count) k.ok.coupled (holds_in own e (is_link a c.link1 && is_link a c.link2) 3 (inr (inl refl)));
          masks = k.ok.masks;
          root = k.ok.root;
          axes = each room coupling_axes_fit k.ok.axes (holds_in own e (is_axis c.axis1 && is_axis c.axis2) 4 (inr (inr (inl refl))));
          links = k.ok.links;
          couplings = each room coupling_finite k.ok.couplings (holds_in own e (is_finite c.coefficient && is_finite c.offset) 6 (inr (inr (inr (inl refl)))));
          rows = k.ok.rows;
          angles = k.ok.angles;
        };
        apart = λ j h z. (λ q. refl, refl);
      }

  pub coupling_right : Right a t (coupling_refusal a c) (with_coupling a c) (λ j. ⊥) (out (coupling_added a c) t)
  unfolding coupling_added
  coupling_right = edit_right a t sized settled (coupling_refusal a c) new (λ j. ⊥) edit
