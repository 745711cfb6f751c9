-- The two calls' answers: a refusal is the lowest of four tests, none where all of them hold.
use Prim.Native.Nat.{ℕ, ◌*◌, ◌/◌, ◌≤◌, ◌<◌}
use mathlib.Core.Path.{◌≡◌, refl, sym, ◌∙◌}
use mathlib.Core.Bool.{Bool, true}
use mathlib.Core.Logic.{inl, inr}
use mathlib.Core.List.{List, [], ◌∷◌, ◌++◌}
use native.Mathlib.Omega.{arith}
use native.Mathlib.Decide.{dec_lt}
use borrow.Author.Tests.{leb-true, ltb-true, le-leb, lt-leb}
use lib.ListN.{length, drop}
use lib.Dec.{leb, ltb}
use Rattle.std.proofs.Common.{Result, Ok, Err}
use Rattle.std.specs.Result.{IsErrAnd}
use Rattle.refusal.specs.declared.Refusal.{Refusal}
use Rattle.refusal.specs.Counted.{counted, out}
use Rattle.limits.specs.Limits.{link_limit}
use Rattle.refusal.specs.Refusal.{code, unless_of}
use Rattle.refusal.proofs.Laws.{is_lowest}
use Rattle.refusal.proofs.Tests.{holds}
use Rattle.refusal.proofs.Answers.{passed, filled_passed, filled_exit}
use Rattle.topology.specs.declared.Split.{Split}
use Rattle.topology.specs.Parents.{parents_fit, branch}
use Rattle.topology.specs.Split.{link_of, part_count, split_map}
use Rattle.topology.specs.Answers.{refusal_of, branch_answer, split_answer}
use Rattle.topology.proofs.Mapped.{map-length}

pub record Accepted (ps : List ℕ) (link : ℕ) (enough : Bool) : Type 0 where
  pub room : enough ≡ true
  pub few : length ps ≤ link_limit
  pub below : link < length ps
  pub fit : parents_fit ps ≡ true

module _ {A : Type 0} {t : Result A Refusal} where
  pub accepted : {x : A} → t ≡ Ok x → (ps : List ℕ) (link : ℕ) (enough : Bool) → code t ≡ refusal_of ps link enough → Accepted ps link enough
  unfolding refusal_of
  accepted p ps link enough e =
      let none = (is_lowest (unless_of enough 1 ∷ unless_of (leb (length ps) link_limit) 2 ∷ unless_of (ltb link (length ps)) 4 ∷ unless_of (parents_fit ps) 4 ∷ [])).none (passed p e) in
      record {
        room = holds enough 0 (none _ (inl refl));
        few = leb-true (length ps) link_limit (holds _ 1 (none _ (inr (inl refl))));
        below = ltb-true link (length ps) (holds _ 3 (none _ (inr (inr (inl refl)))));
        fit = holds (parents_fit ps) 3 (none _ (inr (inr (inr (inl refl)))));
      }

  module _ (ps : List ℕ) (link : ℕ) (m : List ℕ) (n : ℕ) (long : n ≡ length (branch ps link)) (e : code t ≡ refusal_of ps link (leb n (length m))) where
    pub branch_refused : {x : Refusal} → t ≡ Err x → (r : Result ℕ Refusal) → IsErrAnd r (λ y. y ≡ x) → out (counted r) m ≡ branch_answer ps link m
    unfolding branch_answer
    branch_refused p r q = filled_exit p (rw long at e) (length (branch ps link)) (branch ps link) m r q

    pub branch_done : {x : A} → t ≡ Ok x → (to : List ℕ) → to ≡ branch ps link ++ drop n m → out (counted (Ok n)) to ≡ branch_answer ps link m
    unfolding branch_answer
    branch_done p to q = filled_passed p (rw long at e) (length (branch ps link)) (branch ps link) m long (rw long at q)

-- two bytes for each of n
pub half : (n m : ℕ) → leb n (m / 2) ≡ leb (2 * n) m
half n m = elim (dec_lt (m / 2) n) [
  | yes l ↦ lt-leb n (m / 2) l ∙ sym (lt-leb (2 * n) m (omega arith))
  | no l ↦ le-leb n (m / 2) (omega arith) ∙ sym (le-leb (2 * n) m (omega arith))
]

module _ {A : Type 0} (t : Result A Refusal) (ps : List ℕ) (s : Split) (m : List ℕ) (link : ℕ) (at : link ≡ link_of s)
    (e : code t ≡ refusal_of ps link (leb (length ps) (length m / 2))) where
  same_test : code t ≡ refusal_of ps (link_of s) (leb (2 * length ps) (length m))
  same_test = rw (← at, ← half (length ps) (length m)) e

  pub split_accepted : {x : A} → t ≡ Ok x → Accepted ps (link_of s) (leb (2 * length ps) (length m))
  split_accepted p = accepted p ps (link_of s) (leb (2 * length ps) (length m)) same_test

  pub split_refused : {x : Refusal} → t ≡ Err x → (r : Result ℕ Refusal) → IsErrAnd r (λ y. y ≡ x) → out (counted r) m ≡ split_answer ps s m
  unfolding split_answer
  split_refused p r q = filled_exit p same_test (part_count ps s) (split_map ps s (length ps)) m r q

  pub split_done : {x : A} → t ≡ Ok x → (n : ℕ) (to : List ℕ) → n ≡ part_count ps s → to ≡ split_map ps s (length ps) ++ drop (2 * length ps) m
      → out (counted (Ok n)) to ≡ split_answer ps s m
  unfolding split_answer
  split_done p n to c q = filled_passed p same_test (part_count ps s) (split_map ps s (length ps)) m c (rw (map-length ps s (length ps)) q)
