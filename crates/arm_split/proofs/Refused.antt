-- The refusals: the bare list's own, an arm that breaks rule 4 or an earlier one being refused by no more than 4 in any case. Assumes nothing.
use Prim.Native.Nat.{ℕ, zero, suc, min, ◌*◌, ◌/◌, ◌≤◌, ◌<◌}
use mathlib.Core.Path.{◌≡◌, refl, sym, ap, ◌∙◌}
use mathlib.Core.Bool.{Bool, true, false, ◌&&◌, and-true}
use mathlib.Core.Logic.{◌⊎◌, inl, inr}
use mathlib.Core.List.{List, [], ◌∷◌, ◌++◌}
use native.Mathlib.Omega.{arith}
use borrow.Author.Tests.{leb-true, ltb-true, le-leb, le-ltb, lt-ltb}
use lib.Dec.{leb, ltb}
use lib.ListN.{length, drop}
use lib.Ieee.{Float}
use Rattle.std.proofs.Common.{Result, Ok, Err, MatchResult}
use Rattle.std.specs.Result.{IsOkAnd, result_unwrap_or}
use Rattle.refusal.specs.declared.Refusal.{Refusal}
use Rattle.refusal.specs.Counted.{counted_of, counted, Outcome, out, filled}
use Rattle.refusal.specs.declared.Counted.{Counted}
use Rattle.limits.specs.Limits.{link_limit}
use Rattle.refusal.specs.Refusal.{code, unless_of, lower_of, lowest, In}
use Rattle.refusal.proofs.Laws.{is_lowest, first_holds, rest_accepted}
use Rattle.topology.specs.declared.Split.{Split}
use Rattle.topology.specs.Parents.{parents_fit}
use Rattle.topology.specs.Split.{link_of, part_count, split_map}
use Rattle.topology.proofs.Mapped.{map-length}
use Rattle.topology.proofs.Refused.{half}
use Rattle.full_working.specs.Outcome.{tables_fit}
use Rattle.topology.specs.Answers.{refusal_of, split_answer}
use Rattle.arm.specs.declared.Arm.{Arm}
use Rattle.arm.specs.Arm.{live_links, parents_of}
use Rattle.arm.specs.HandedIn.{counts_fit, parents_earlier, arm_rules, arm_refusal}
use Rattle.arm.proofs.Live.{parents_live}
use Rattle.arm_split.specs.Answers.{split_refusal, arm_split, part_refusal}

-- ---- an answer of the bare list, in its fields

module _ (k n : ℕ) (bytes m : List ℕ) where
  given_refusal : (filled k n bytes m).answer.refusal ≡ k
  unfolding filled counted_of
  given_refusal = go k
    where
      go : (k : ℕ) → (filled k n bytes m).answer.refusal ≡ k
      go zero = refl
      go (suc k) = refl

pub given_none : (k n : ℕ) (bytes m : List ℕ) → k ≡ 0 → filled k n bytes m ≡ out (record { refusal = 0; count = n }) (bytes ++ drop (length bytes) m)
unfolding filled counted_of
given_none zero n bytes m e = refl
given_none (suc k) n bytes m e = absurd (omega arith)

pub given_some : (k n : ℕ) (bytes m : List ℕ) → (k ≡ 0 → ⊥) → filled k n bytes m ≡ out (record { refusal = k; count = 0 }) m
unfolding filled counted_of
given_some zero n bytes m e = absurd (e refl)
given_some (suc k) n bytes m e = refl

-- ---- what the calls are told: of a count that is left out, and of one that is 0 where there is none

pub code_mapped : (t : Result ℕ Refusal) (r : Result Unit Refusal) (P : ℕ → Unit → Type 0) → MatchResult t (λ n. IsOkAnd r (P n)) (λ e. r ≡ Err e) → code r ≡ code t
code_mapped (Ok n) (Ok u) P h = refl
code_mapped (Ok n) (Err e) P h = absurd h
code_mapped (Err e) r P h = rw h

pub code_counted : (t : Result ℕ Refusal) → code t ≡ (counted t).refusal
code_counted (Ok n) = refl
code_counted (Err e) = refl

pub count_counted : (t : Result ℕ Refusal) → result_unwrap_or t 0 ≡ (counted t).count
count_counted (Ok n) = refl
count_counted (Err e) = refl

-- ---- small laws of the lowest

absorbed : (b : Bool) (r : ℕ) → (r ≡ 0 → ⊥) → r ≤ 4 → lower_of (unless_of b 4) r ≡ r
unfolding lower_of
absorbed true r h l = refl
absorbed false zero h l = absurd (h refl)
absorbed false (suc r) h l = omega arith

both : (a b : ℕ) → (a ≡ 0 → ⊥) → (b ≡ 0 → ⊥) → lower_of a b ≡ min a b
unfolding lower_of
both zero b h g = absurd (h refl)
both (suc a) zero h g = absurd (g refl)
both (suc a) (suc b) h g = refl

twice : (b : Bool) (r : ℕ) → lower_of 4 (lower_of (unless_of b 4) r) ≡ lower_of 4 r
unfolding lower_of
twice true r = refl
twice false zero = refl
twice false (suc r) = both 4 (min 4 (suc r)) (λ z. omega arith) (λ z. omega arith) ∙ omega arith

module _ (a : Arm) (whole : length a.links ≡ link_limit) (s : Split) where
  -- refused by no more than 4
  Low : Type 0
  Low = (arm_refusal a ≡ 0 → ⊥) × (arm_refusal a ≤ 4)

  low : (k : ℕ) → In (suc k) (arm_rules a) → suc k ≤ 4 → Low
  unfolding arm_refusal Low
  low k i h =
      let least = is_lowest (arm_rules a) in
      (λ z. (let e = least.none z (suc k) i in omega arith), omega (arith, least.least (suc k) i (λ z. omega arith)))

  low_counts : counts_fit a ≡ false → Low
  unfolding arm_rules
  low_counts e = low 1 (inl (rw e)) (omega arith)

  low_numbers : parents_fit (parents_of a) ≡ false → Low
  unfolding arm_rules parents_earlier
  low_numbers e = low 3 (inr (inr (inl (rw e)))) (omega arith)

  -- the links fit, and each parent is earlier
  pub record Whole : Type 0 where
    pub few : a.link_count ≤ link_limit
    pub fit : parents_fit (parents_of a) ≡ true

  either : Low ⊎ Whole
  either = go (leb a.link_count link_limit) refl (parents_fit (parents_of a)) refl
    where
      go : (b : Bool) → leb a.link_count link_limit ≡ b → (f : Bool) → parents_fit (parents_of a) ≡ f → Low ⊎ Whole
      go true e true q = inr (record { few = leb-true a.link_count link_limit e; fit = q })
      go true e false q = inl (low_numbers q)
      go false e f q = inl (low_counts (rw e))

  pub accepted_whole : arm_refusal a ≡ 0 → Whole
  unfolding Low
  accepted_whole e = elim either [ inl l ↦ absurd (l.0 e) | inr w ↦ w ]

  -- the bare list's refusal, with room for its map
  bare_refusal : (m : List ℕ) → 2 * link_limit ≤ length m
      → refusal_of (parents_of a) (link_of s) (leb (2 * length (parents_of a)) (length m)) ≡ unless_of (ltb (link_of s) (length (parents_of a)) && parents_fit (parents_of a)) 4
  unfolding refusal_of lower_of
  bare_refusal m h =
      let n = parents_live a whole in
      rw (le-leb (2 * length (parents_of a)) (length m) (omega arith), le-leb (length (parents_of a)) link_limit (omega arith))
      (go (ltb (link_of s) (length (parents_of a))) (parents_fit (parents_of a)))
    where
      go : (b f : Bool) → lower_of (unless_of b 4) (unless_of f 4) ≡ unless_of (b && f) 4
      go true f = refl
      go false true = refl
      go false false = refl

  module _ (m m' : List ℕ) (room : 2 * link_limit ≤ length m) (r : Counted) (bare : out r m' ≡ split_answer (parents_of a) s m) where
    refused_by : r.refusal ≡ unless_of (ltb (link_of s) (length (parents_of a)) && parents_fit (parents_of a)) 4
    unfolding split_answer
    refused_by = ap (λ (o : Outcome ℕ). o.answer.refusal) bare ∙ given_refusal _ _ _ m ∙ bare_refusal m room

    -- with the arm's own it is the test of the link alone
    pub split_tests : lower_of r.refusal (arm_refusal a) ≡ lower_of (unless_of (ltb (link_of s) a.link_count) 4) (arm_refusal a)
    unfolding Low
    split_tests = elim either [
      | inl l ↦ rw refused_by (absorbed (ltb (link_of s) (length (parents_of a)) && parents_fit (parents_of a)) (arm_refusal a) l.0 l.1
          ∙ sym (absorbed (ltb (link_of s) a.link_count) (arm_refusal a) l.0 l.1))
      | inr w ↦
          let n : length (parents_of a) ≡ a.link_count = parents_live a whole ∙ omega (arith, w.few) in
          rw (refused_by, n, w.fit, and-true)
    ]

    -- the part count is the bare list's, or the link is refused
    pub part_tests : (k : ℕ)
        → lower_of (unless_of (ltb k r.count) 4) (arm_refusal a)
        ≡ lower_of (unless_of (ltb (link_of s) a.link_count) 4) (lower_of (unless_of (ltb k (part_count (parents_of a) s)) 4) (arm_refusal a))
    unfolding Low split_answer lower_of
    part_tests k = elim either [
      | inl l ↦
          let ab : (b : Bool) → lower_of (unless_of b 4) (arm_refusal a) ≡ arm_refusal a = λ b. absorbed b (arm_refusal a) l.0 l.1 in
          ab (ltb k r.count) ∙ sym (ap (lower_of (unless_of (ltb (link_of s) a.link_count) 4)) (ab (ltb k (part_count (parents_of a) s))) ∙ ab (ltb (link_of s) a.link_count))
      | inr w ↦
          let n : length (parents_of a) ≡ a.link_count = parents_live a whole ∙ omega (arith, w.few) in
          counted w (ltb (link_of s) a.link_count) (ap (ltb (link_of s)) n)
    ]
      where
        counted : Whole → (b : Bool) → ltb (link_of s) (length (parents_of a)) ≡ b
            → lower_of (unless_of (ltb k r.count) 4) (arm_refusal a) ≡ lower_of (unless_of b 4) (lower_of (unless_of (ltb k (part_count (parents_of a) s)) 4) (arm_refusal a))
        counted w true e =
            let z : r.count ≡ part_count (parents_of a) s = ap (λ (o : Outcome ℕ). o.answer.count) (bare ∙ given_none _ _ _ m (bare_refusal m room ∙ rw (e, w.fit))) in
            rw z
        counted w false e =
            let q : refusal_of (parents_of a) (link_of s) (leb (2 * length (parents_of a)) (length m)) ≡ 4 = bare_refusal m room ∙ rw e in
            let z : r.count ≡ 0 = ap (λ (o : Outcome ℕ). o.answer.count) (bare ∙ given_some _ _ _ m (λ x. omega arith)) in
            rw (z, le-ltb k 0 (omega arith)) (sym (twice (ltb k (part_count (parents_of a) s)) (arm_refusal a)))

    -- the code's refusals
    module _ (own : ℕ) (mine : own ≡ arm_refusal a) (first second k : ℕ) (e : k ≡ lowest (first ∷ second ∷ own ∷ [])) where
      pub is_split_refusal : (n : ℕ) (to : List ℕ) → n ≡ live_links a → first ≡ unless_of (leb n (length to / 2)) 1 → second ≡ r.refusal → k ≡ split_refusal a s to
      unfolding split_refusal
      is_split_refusal n to q x y = rw (e, x, y, mine, half, q, split_tests)

      pub is_part_refusal : (q : ℕ) (tables : List Float) (fits : Bool) → fits ≡ tables_fit tables → first ≡ unless_of fits 1 → second ≡ unless_of (ltb q r.count) 4
          → k ≡ part_refusal a s q tables
      unfolding part_refusal
      is_part_refusal q tables fits f x z = rw (e, x, f, z, mine, part_tests q)

  -- ---- the calls

  pub record Accepted : Type 0 where
    pub arm : arm_refusal a ≡ 0
    pub link : link_of s < a.link_count

  -- the bare list's answer then
  bare_answer : (m : List ℕ) → Accepted → 2 * live_links a ≤ length m
      → split_answer (parents_of a) s m ≡ filled 0 (part_count (parents_of a) s) (split_map (parents_of a) s (live_links a)) m
  unfolding split_answer refusal_of lower_of
  bare_answer m x h =
      let w = accepted_whole x.arm in
      let n = parents_live a whole in
      let l = x.link in
      let few = w.few in
      rw (le-leb (2 * length (parents_of a)) (length m) (omega arith), le-leb (length (parents_of a)) link_limit (omega arith), lt-ltb (link_of s) (length (parents_of a)) (omega arith), w.fit, n)

  -- the map
  module _ (to : List ℕ) where
    pub split_accepted : split_refusal a s to ≡ 0 → Accepted × (2 * live_links a ≤ length to)
    unfolding split_refusal
    split_accepted e =
        let later = rest_accepted _ (unless_of (ltb (link_of s) a.link_count) 4 ∷ arm_refusal a ∷ []) e in (
          record {
            arm = rest_accepted _ (arm_refusal a ∷ []) later;
            link = ltb-true (link_of s) a.link_count (first_holds _ 3 (arm_refusal a ∷ []) later);
          },
          leb-true _ _ (first_holds _ 0 (unless_of (ltb (link_of s) a.link_count) 4 ∷ arm_refusal a ∷ []) e),
        )

    pub split_given : (k : ℕ) → k ≡ split_refusal a s to → k ≡ 0 → split_answer (parents_of a) s to ≡ arm_split a s to
    unfolding arm_split
    split_given k e z = let x = split_accepted (sym e ∙ z) in bare_answer to x.0 x.1 ∙ rw (← e, z)

  -- a part
  module _ (k : ℕ) (tables : List Float) where
    pub part_accepted : part_refusal a s k tables ≡ 0 → Accepted × (k < part_count (parents_of a) s) × (tables_fit tables ≡ true)
    unfolding part_refusal
    part_accepted e =
        let fourth = unless_of (ltb k (part_count (parents_of a) s)) 4 in
        let later = rest_accepted _ (unless_of (ltb (link_of s) a.link_count) 4 ∷ fourth ∷ arm_refusal a ∷ []) e in
        let last = rest_accepted _ (fourth ∷ arm_refusal a ∷ []) later in (
          record {
            arm = rest_accepted _ (arm_refusal a ∷ []) last;
            link = ltb-true (link_of s) a.link_count (first_holds _ 3 (fourth ∷ arm_refusal a ∷ []) later);
          },
          ltb-true _ _ (first_holds _ 3 (arm_refusal a ∷ []) last),
          first_holds _ 0 (unless_of (ltb (link_of s) a.link_count) 4 ∷ fourth ∷ arm_refusal a ∷ []) e,
        )

    -- the bare list's map then
    pub part_map : Accepted → (m m' : List ℕ) (r : Counted) → 2 * link_limit ≤ length m → out r m' ≡ split_answer (parents_of a) s m
        → m' ≡ split_map (parents_of a) s (length (parents_of a)) ++ drop (2 * live_links a) m
    part_map x m m' r room e =
        let n = parents_live a whole in
        ap (λ (o : Outcome ℕ). o.memory) (e ∙ bare_answer m x (omega arith) ∙ given_none 0 _ _ m refl)
        ∙ rw (map-length (parents_of a) s (live_links a), n)
