-- The addition's ends, as the code has their parts: all finite, or 12. Assumes nothing.
use Prim.Native.Nat.{ℕ, ◌+◌, ◌≤◌, ◌<◌}
use mathlib.Core.Path.{◌≡◌, refl, sym, ap, ◌∙◌}
use mathlib.Core.Bool.{Bool, true, false}
use mathlib.Core.List.{List}
use native.Mathlib.Omega.{arith}
use lib.ListN.{length, get_or, set}
use lib.Seq.{set-set}
use lib.Ieee.{Float}
use Rattle.limits.specs.Limits.{link_limit, dof_limit}
use Rattle.arm.specs.Setters.{unplaced, arm_with}
use Rattle.arm.specs.declared.Arm.{Arm}
use Rattle.arm.specs.declared.Link.{Link}
use Rattle.arm.specs.declared.Row.{Row}
use Rattle.arm.specs.Arm.{dof_count_of, start_at}
use Rattle.arm.proofs.Live.{start_whole}
use Rattle.kinematics.specs.Inner.{turned_out, refresh_one}
use Rattle.kinematics.specs.State.{only}
use Rattle.kinematics.specs.Answers.{refresh_marked}
use Rattle.kinematics.proofs.One.{as_marked}
use Rattle.full_working.specs.Outcome.{says}
use Rattle.full_working.proofs.Refused.{goes_on}
use Rattle.full_working.proofs.Passed.{one_on, one_off}
use Rattle.one_link.proofs.One.{one_placed}
use Rattle.addition.specs.declared.NewLink.{NewLink}
use Rattle.addition.specs.NewLink.{link_of, rows_from, rows_with, added_inputs}
use Rattle.addition.specs.Addition.{add_refusal, link_added}
use Rattle.addition.proofs.Entries.{room}
use Rattle.addition.proofs.Tests.{passed, parent_le}

module _ (a : Arm) (whole : length a.links ≡ link_limit) (t : List Float) (new : NewLink) (none : add_refusal a t new ≡ 0) where
  abbrev n : ℕ
  n = a.link_count

  pub few : a.link_count < link_limit
  few = (passed a t new none).room

  pub start_fits : dof_count_of a + 3 ≤ dof_limit
  start_fits = room a whole few

  pub parent_small : (l : Link) → l ≡ link_of new → l.parent ≤ a.link_count
  unfolding link_of unplaced
  parent_small l e = omega (arith, ap (λ (x : Link). x.parent) e, parent_le a.link_count new.parent (passed a t new none).parent)

  module _ (l : Link) (el : l ≡ link_of new) (p : ℕ) (ep : p ≡ l.parent) (start : ℕ) (es : start ≡ dof_count_of a) (d turned : Link) (m : List Float) (f : Bool)
      (turn : turned_out (record { link = turned; fine = f }) m ≡ refresh_one l (get_or a.links p d) start n t) where
    abbrev ls : List Link
    ls = set a.links n (link_of new)

    pass : refresh_marked ls (n + 1) (only n) t ≡ as_marked ls n (turned_out (record { link = turned; fine = f }) m)
    unfolding start_at
    pass =
        one_placed a whole n (omega (arith, few)) few (link_of new) _ p d
        (let same : l.parent ≡ (link_of new).parent = ap (λ (x : Link). x.parent) el in omega (arith, parent_small l el))
        refl start (es ∙ sym (start_whole a whole n (omega (arith, few)))) (n + 1) (omega (arith, few)) t m _
        (turn ∙ ap (λ (x : Link). refresh_one x (get_or a.links p d) start n t) el)

    pub added_on : f ≡ true → (rows : List Row) → rows ≡ rows_from start new.locked a.rows
        → says 0 (arm_with a (a.link_count + 1) a.coupling_count (set a.links a.link_count turned) a.couplings rows) m ≡ link_added a t new
    unfolding link_added added_inputs rows_with
    added_on q rows er =
        one_on a (added_inputs a new) n t m _ pass q _
        (λ i. arm_with a (n + 1) a.coupling_count (sym (set-set a.links n (link_of new) turned) i) a.couplings
        ((er ∙ ap (λ (s : ℕ). rows_from s new.locked a.rows) es) i))
        ∙ goes_on refl a t none _

    pub added_off : f ≡ false → {k : ℕ} → k ≡ 12 → says k a m ≡ link_added a t new
    unfolding link_added added_inputs
    added_off q h = rw h (one_off a (added_inputs a new) n t m _ pass q) ∙ goes_on refl a t none _
