-- What a pass left is what the call leaves: its links in the arm, or 12, and the tables. Assumes nothing.
use Prim.Native.Nat.{ℕ}
use mathlib.Core.Path.{◌≡◌, sym, ap, ◌∙◌}
use mathlib.Core.Bool.{true, false}
use mathlib.Core.List.{List}
use lib.ListN.{set}
use lib.Ieee.{Float}
use Rattle.std.specs.Prelude.{Result, Ok, Err, IsOkUnless}
use Rattle.refusal.specs.declared.Refusal.{Refusal}
use Rattle.refusal.specs.Refusal.{number}
use Rattle.kinematics.specs.Inner.{Turned, turned_out, refreshed}
use Rattle.arm.specs.Setters.{with_links}
use Rattle.arm.specs.Edits.{edited_as}
use Rattle.arm.specs.declared.Arm.{Arm}
use Rattle.arm.specs.declared.Link.{Link}
use Rattle.kinematics.specs.State.{only}
use Rattle.kinematics.specs.Answers.{Outcome as Pass, out as left, refresh_marked, refresh_all}
use Rattle.kinematics.proofs.Ends.{all_stays}
use Rattle.kinematics.proofs.One.{as_marked}
use Rattle.full_working.specs.Outcome.{out, worked_by, worked_all, worked_marked}

-- of every link
pub passed_on : (a : Arm) (ls : List Link) (r : Result Unit Refusal) (t m : List Float) → left (refreshed ls r) m ≡ refresh_all a.links a.link_count t → IsOkUnless r Refusal.Overflow
    → out (edited_as (with_links a ls) r) m ≡ worked_all a a t
unfolding worked_all worked_by
passed_on a ls (Ok u) t m e h = ap (λ (p : Pass). out (worked_by a a p.answer) p.memory) e
passed_on a ls (Err y) t m e h =
    (λ i. out (record { refusal = number (h i); arm = with_links a (same i) }) m) ∙ ap (λ (p : Pass). out (worked_by a a p.answer) p.memory) e
  where
    same : ls ≡ a.links
    same = ap (λ (p : Pass). p.answer.links) (e ∙ all_stays a.links a.link_count t (ap (λ (p : Pass). p.answer.fine) (sym e)))

-- of one link alone
module _ (old new : Arm) (link : ℕ) (t m : List Float) (r : Turned)
    (pass : refresh_marked new.links new.link_count (only link) t ≡ as_marked new.links link (turned_out r m)) where
  pub one_on : r.fine ≡ true → (a : Arm) → a ≡ with_links new (set new.links link r.link)
      → out (record { refusal = 0; arm = a }) m ≡ worked_marked old new (only link) t
  unfolding worked_marked worked_by
  one_on h a e = rw (pass, h) (ap (λ (b : Arm). out (record { refusal = 0; arm = b }) m) e)

  pub one_off : r.fine ≡ false → out (record { refusal = 12; arm = old }) m ≡ worked_marked old new (only link) t
  unfolding worked_marked worked_by
  one_off h = rw (pass, h)
