-- The places that the code reads off the map are those of the split rule, on every link and coupling that counts. Assumes nothing.
use Prim.Native.Nat.{ℕ, min, ◌*◌, ◌≤◌, ◌<◌}
use mathlib.Core.Path.{◌≡◌, sym, ap, subst, ◌∙◌}
use mathlib.Core.Bool.{true, false}
use mathlib.Core.List.{List, ◌++◌}
use native.Mathlib.Omega.{arith}
use borrow.Author.Tests.{ltb-true}
use native.Mathlib.Decide.{dec_lt}
use lib.ListN.{length, take, length-take, get_or-eq_default}
use Rattle.lists.proofs.Numbers.{count_le}
use lib.Seq.{get_or-take, length-take-le}
use Rattle.part_arm.specs.Inner.{places_in}
use Rattle.arm.proofs.Accepted.{accepted}
use Rattle.refusal.specs.Counted.{out as mapped}
use Rattle.refusal.specs.declared.Counted.{Counted}
use Rattle.lists.proofs.Every.{every_at}
use Rattle.lists.proofs.Lists.{map_at}
use Rattle.topology.specs.Parents.{parent_in}
use Rattle.lists.proofs.Bools.{both_hold}
use Rattle.limits.specs.Limits.{link_limit, coupling_limit}
use Rattle.topology.specs.declared.Split.{Split}
use Rattle.topology.specs.Split.{is_head, part_count, is_in, split_map}
use Rattle.topology.proofs.Theorems.{with_parent, in_part}
use Rattle.arm.specs.declared.Arm.{Arm}
use Rattle.arm.specs.Arm.{live_links, links_of, couplings_of, parents_of, link_at, no_link, no_coupling, coupling_at, parent_of}
use Rattle.arm.specs.HandedIn.{coupling_links_fit, arm_refusal}
use Rattle.arm.proofs.Live.{parents_live}
use Rattle.part_arm.specs.Places.{places_of}
use Rattle.part_arm.specs.Part.{part_arm}
use Rattle.arm_split.proofs.Heads.{in_survives, is_in_lem, here_read, number_read, head_read}
use Rattle.arm_split.proofs.Same.{Agree, part_same}
use Rattle.arm_split.proofs.Refused.{Whole, accepted_whole, part_accepted, part_map}
use Rattle.arm_split.specs.Answers.{part_refusal}
use Rattle.topology.specs.Answers.{split_answer}
use lib.Ieee.{Float}

module _ (a : Arm) (whole : length a.links ≡ link_limit) where
  pub link_parent : (j : ℕ) → j < live_links a → parent_in (parents_of a) j ≡ (link_at a.links j).parent
  unfolding parents_of links_of
  link_parent j h =
      map_at parent_of (take (live_links a) a.links) j no_link 0 (omega (arith, length-take-le (live_links a) a.links (omega arith)))
      ∙ ap parent_of (get_or-take (live_links a) a.links j no_link h)

  -- a coupling that counts names links of the arm, in its place or past the array
  module _ (e : arm_refusal a ≡ 0) (i : ℕ) (h : i < min a.coupling_count coupling_limit) where
    pub coupling_links : i < length a.couplings → ((coupling_at a i).link1 < a.link_count) × ((coupling_at a i).link2 < a.link_count)
    unfolding couplings_of coupling_links_fit
    coupling_links l =
        let n = min a.coupling_count coupling_limit in
        let one = every_at (coupling_links_fit a.link_count) (take n a.couplings) no_coupling (accepted a e).coupled i (simp length-take (omega arith)) in
        let both = both_hold _ _ (rw (get_or-take n a.couplings i no_coupling h) at one) in
        (ltb-true _ _ both.0, ltb-true _ _ both.1)

    any_links : 0 < a.link_count → ((coupling_at a i).link1 < a.link_count) × ((coupling_at a i).link2 < a.link_count)
    any_links some = elim (dec_lt i (length a.couplings)) [
      | yes l ↦ coupling_links l
      | no l ↦
          let past : coupling_at a i ≡ no_coupling = get_or-eq_default a.couplings no_coupling (omega arith) in
          rw past (some, some)
    ]

  module _ (s : Split) (k : ℕ) (accepted : arm_refusal a ≡ 0) (w : Whole a whole s) (below : k < part_count (parents_of a) s) (rest : List ℕ) where
    here_too : (j : ℕ) → j < live_links a → is_in (parents_of a) s k j ≡ true → is_head (parents_of a) s j ≡ false
        → ((link_at a.links j).parent < live_links a) × (is_in (parents_of a) s k (link_at a.links j).parent ≡ true)
    here_too j h e f =
        let ps = parents_of a in
        let n = parents_live a whole in
        let v = with_parent ps s w.fit j (omega arith, in_survives ps s w.fit k j e) f in
        let here : is_in ps s k (parent_in ps j) ≡ true =
        subst (λ (q : ℕ). is_in ps s q (parent_in ps j) ≡ true) (sym v.same_part ∙ in_part ps s k j e) (is_in_lem ps s w.fit (parent_in ps j) v.survivor.1) in
        rw (← link_parent j h) (omega (arith, v.survivor.0), here)

    part_heads : 0 < length (parents_of a)
    unfolding part_count
    part_heads = omega (arith, count_le (is_head (parents_of a) s) (length (parents_of a)))

    agree : Agree a (places_in (split_map (parents_of a) s (length (parents_of a)) ++ rest) k) (places_of a s k)
    agree =
        let ps = parents_of a in
        let n = parents_live a whole in
        let few : length ps ≤ link_limit = omega arith in
        record {
          here = λ j h. here_read ps s w.fit k below few rest j (omega arith);
          head = λ j h e. head_read ps s w.fit k below few rest j (omega arith) (in_survives ps s w.fit k j e);
          number = λ j h e. number_read ps s w.fit k below few rest j (omega arith) (in_survives ps s w.fit k j e);
          parent = here_too;
          links = λ i h.
              (let some : 0 < a.link_count = omega (arith, part_heads) in
              let c = any_links accepted i h some in
              (omega (arith, w.few), omega (arith, w.few)));
        }

    pub part_read : (m : List ℕ) → m ≡ split_map (parents_of a) s (length (parents_of a)) ++ rest → part_arm (places_in m k) a ≡ part_arm (places_of a s k) a
    part_read m e = rw e (part_same a _ _ agree)

  -- the part, once nothing is refused
  pub part_chosen : (s : Split) (k : ℕ) (tables : List Float) → part_refusal a s k tables ≡ 0 → (m m' : List ℕ) (r : Counted) → 2 * link_limit ≤ length m
      → mapped r m' ≡ split_answer (parents_of a) s m → part_arm (places_in m' k) a ≡ part_arm (places_of a s k) a
  part_chosen s k tables e m m' r room b =
      let x = part_accepted a whole s k tables e in
      part_read s k x.0.arm (accepted_whole a whole s x.0.arm) x.1 _ m' (part_map a whole s k tables x.0 m m' r room b)
