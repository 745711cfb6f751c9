-- The move's ends, as the code has their parts: the link worked out alone, or with those below it; all finite, or 12. Assumes nothing.
use Prim.Native.Nat.{ℕ, ◌≤◌, ◌<◌}
use mathlib.Core.Path.{◌≡◌, refl, sym, ap, ◌∙◌}
use mathlib.Core.Bool.{Bool, true, false}
use mathlib.Core.List.{List, map}
use native.Mathlib.Omega.{arith}
use lib.ListN.{length, take, get_or, set, length-map}
use lib.Seq.{set-set}
use lib.Ieee.{Float}
use Rattle.limits.specs.Limits.{link_limit}
use Rattle.lists.proofs.Modified.{set-modify}
use Rattle.topology.specs.Parents.{marks}
use Rattle.arm.specs.Setters.{with_links}
use Rattle.arm.specs.declared.Arm.{Arm}
use Rattle.arm.specs.declared.Link.{Link}
use Rattle.arm.specs.Arm.{live_links, links_of, parent_of, parents_of, start_at}
use Rattle.arm.proofs.Live.{links_live, parents_front}
use Rattle.kinematics.specs.Inner.{turned_out, refresh_one}
use Rattle.kinematics.specs.State.{marked, only}
use Rattle.kinematics.specs.Answers.{Outcome as Pass, Refreshed, out as left, refresh_marked}
use Rattle.kinematics.proofs.One.{as_marked}
use Rattle.full_working.specs.Outcome.{Outcome, out, says, worked_by, worked_marked}
use Rattle.full_working.proofs.Refused.{goes_on}
use Rattle.full_working.proofs.Passed.{one_on, one_off}
use Rattle.one_link.proofs.One.{one_placed}
use Rattle.one_link_move.specs.declared.Change.{Change}
use Rattle.one_link_move.specs.Change.{changed, moved_inputs}
use Rattle.one_link_move.specs.Inner.{leaf}
use Rattle.one_link_move.specs.Move.{move_refusal, link_moved}
use Rattle.one_link_move.proofs.Leaf.{leaf_marks}
use Rattle.one_link_move.proofs.Move.{passed, count_small, within_limit, parent_small}

module _ (a : Arm) (whole : length a.links ≡ link_limit) (t : List Float) (link : ℕ) (change : Change) (none : move_refusal a t link change ≡ 0) (d new : Link)
    (en : new ≡ changed change (get_or a.links link d)) where
  abbrev ls : List Link
  ls = set a.links link new

  room : link < link_limit
  room = within_limit a t link change none

  there : link < live_links a
  there = omega (arith, room, (passed a t link change none).there)

  inputs : with_links a ls ≡ moved_inputs a link change
  unfolding moved_inputs
  inputs = ap (with_links a) (set-modify (changed change) a.links link d new en)

  -- the parents of as many as count
  pub fits : (ps : List ℕ) → ps ≡ map parent_of a.links → a.link_count ≤ length ps
  fits ps e = omega (arith, ap length e, length-map a.links parent_of, count_small a t link change none)

  -- a pass over the arm with the new inputs, by these marks
  by_marks : (b : ℕ → Bool) → b ≡ marked (marks (parents_of a) link) → {o : Outcome} → o ≡ worked_marked a (with_links a ls) b t → o ≡ link_moved a t link change
  unfolding link_moved
  by_marks b eb p = p ∙ (λ i. worked_marked a (inputs i) (eb i) t) ∙ goes_on refl a t none _

  -- ---- the link alone

  module _ (counted : List Link) (el : counted ≡ links_of a) (alone : leaf counted link ≡ true) (p : ℕ) (ep : p ≡ new.parent) (e : Link) (start : ℕ)
      (es : start ≡ start_at a link) (l : Link) (m : List Float) where
    marks_one : only link ≡ marked (marks (parents_of a) link)
    unfolding parents_of
    marks_one = sym (leaf_marks (links_of a) link (rw el at alone) (omega (arith, there, links_live a whole)) room)

    module _ (f : Bool) (turn : turned_out (record { link = l; fine = f }) m ≡ refresh_one new (get_or a.links p e) start link t) where
      pass : refresh_marked ls a.link_count (only link) t ≡ as_marked ls link (turned_out (record { link = l; fine = f }) m)
      unfolding start_at
      pass = one_placed a whole link (omega (arith, there)) room new _ p e (omega (arith, parent_small a t link change none whole d new en)) refl start es a.link_count there t m _ turn

      pub alone_on : f ≡ true → says 0 (with_links a (set a.links link l)) m ≡ link_moved a t link change
      alone_on q =
          by_marks (only link) marks_one (one_on a (with_links a ls) link t m _ pass q _ (ap (with_links a) (sym (set-set a.links link new l))))

      pub alone_off : f ≡ false → {k : ℕ} → k ≡ 12 → says k a m ≡ link_moved a t link change
      alone_off q h = by_marks (only link) marks_one (rw h (one_off a (with_links a ls) link t m _ pass q))

  -- ---- the link and those below it

  module _ (ps : List ℕ) (ep : ps ≡ map parent_of a.links) (ms : List Bool) (em : ms ≡ marks (take a.link_count ps) link) (r : Refreshed) (m : List Float)
      (pass : left r m ≡ refresh_marked ls a.link_count (marked ms) t) where
    parents : take a.link_count ps ≡ parents_of a
    parents =
        let n : a.link_count ≡ live_links a = omega (arith, count_small a t link change none) in
        (λ i. take (n i) (ep i)) ∙ parents_front a whole

    told : out (worked_by a (with_links a ls) r) m ≡ link_moved a t link change
    unfolding worked_marked
    told =
        by_marks (marked ms) (ap marked (em ∙ ap (λ (qs : List ℕ). marks qs link) parents))
        (ap (λ (p : Pass). out (worked_by a (with_links a ls) p.answer) p.memory) pass)

    pub below-on : r.fine ≡ true → says 0 (with_links a r.links) m ≡ link_moved a t link change
    unfolding worked_by
    below-on f = let e : says 0 (with_links a r.links) m ≡ out (worked_by a (with_links a ls) r) m = rw f in e ∙ told

    pub below-off : r.fine ≡ false → {k : ℕ} → k ≡ 12 → says k a m ≡ link_moved a t link change
    unfolding worked_by
    below-off f {k} h = let e : says k a m ≡ out (worked_by a (with_links a ls) r) m = rw (f, h) in e ∙ told
