-- Below a link that no later one has for a parent there is none: it is marked alone. Assumes nothing.
use Prim.Native.Nat.{ℕ, zero, suc, ◌+◌, ◌-◌, ◌<◌}
use mathlib.Core.Path.{◌≡◌, sym, ap, ◌∙◌}
use mathlib.Core.Bool.{Bool, true, false, ◌||◌, or-false}
use mathlib.Core.List.{List, map}
use native.Mathlib.Omega.{arith}
use native.Mathlib.Decide.{dec_lt}
use borrow.Author.Tests.{ne_eqb, not-true}
use lib.Dec.{eqb}
use lib.ListN.{length, drop, get_or, get_or-eq_default, length-drop, length-map}
use Rattle.std.proofs.Common.{get_or-drop}
use Rattle.one_link_move.specs.Inner.{leaf, parent_differs}
use Rattle.lists.proofs.Every.{every_at}
use Rattle.lists.proofs.Lists.{map_at}
use Rattle.lists.proofs.Numbers.{length-each, get_or-each}
use Rattle.limits.specs.Limits.{link_limit}
use Rattle.topology.specs.Parents.{at_or_below, marks, parent_in}
use Rattle.topology.proofs.Branch.{mark_none, mark_alone, mark_more}
use Rattle.arm.specs.declared.Link.{Link}
use Rattle.arm.specs.Arm.{no_link, parent_of}
use Rattle.kinematics.specs.State.{marked, only}

module _ (ls : List Link) (link : ℕ) (alone : leaf ls link ≡ true) where
  abbrev ps : List ℕ
  ps = map parent_of ls

  -- a later link has another parent
  later : (j : ℕ) → link < j → j < length ls → eqb (parent_in ps j) link ≡ false
  later j l h =
      let i = j - (link + 1) in
      let e : (link + 1) + i ≡ j = omega arith in
      let r = every_at (parent_differs link) (drop (link + 1) ls) no_link alone i (omega (arith, length-drop (link + 1) ls)) in
      ap (λ (p : ℕ). eqb p link) (map_at parent_of ls j no_link 0 h)
      ∙ ap (λ (k : ℕ). eqb (get_or ls k no_link).parent link) (sym e)
      ∙ ap (λ (x : Link). eqb x.parent link) (sym (get_or-drop (link + 1) ls i no_link))
      ∙ not-true _ r

  no_child : (j : ℕ) → j < length ls → parent_in ps j < j → eqb (parent_in ps j) link ≡ false
  no_child j h q = elim (dec_lt link j) [
    | yes l ↦ later j l h
    | no l ↦ ne_eqb (parent_in ps j) link (omega arith)
  ]

  mark : (m j : ℕ) → j < m → j < length ps → at_or_below ps link j ≡ eqb j link
  mark zero j l h = absurd (omega arith)
  mark (suc m) j l h = elim (dec_lt (parent_in ps j) j) [
    | yes q ↦
        mark_more ps link j h q
        ∙ ap (λ (b : Bool). eqb j link || b) (mark m (parent_in ps j) (omega arith) (omega arith) ∙ no_child j (omega (arith, length-map ls parent_of)) q)
        ∙ or-false (eqb j link)
    | no q ↦ mark_alone ps link j h (omega arith)
  ]

  pub leaf_marks : link < length ls → link < link_limit → marked (marks (map parent_of ls) link) ≡ only link
  unfolding marks
  leaf_marks there fits = λ i j. each j i
    where
      each : (j : ℕ) → marked (marks ps link) j ≡ only link j
      each j = elim (dec_lt j link_limit) [
        | yes l ↦
            get_or-each (at_or_below ps link) link_limit j false l
            ∙ elim (dec_lt j (length ps)) [
              | yes h ↦ mark (suc j) j (omega arith) h
              | no h ↦ mark_none ps link j (omega arith) ∙ sym (ne_eqb j link (omega (arith, length-map ls parent_of)))
            ]
        | no l ↦
            let w = length-each (at_or_below ps link) link_limit in
            get_or-eq_default (marks ps link) false (omega arith) ∙ sym (ne_eqb j link (omega arith))
      ]
