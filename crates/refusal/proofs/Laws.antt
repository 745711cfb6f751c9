-- `lowest` is the lowest: none where every one is none, else one of the list that no other undercuts. By the list's length.
use Prim.Native.Nat.{ℕ, zero, suc, min, ◌-◌, ◌≤◌, ◌<◌}
use mathlib.Core.Path.{◌≡◌, refl, sym, ap, subst, ◌∙◌}
use mathlib.Core.Logic.{◌⊎◌, inl, inr}
use mathlib.Core.List.{List, [], ◌∷◌, ◌++◌}
use native.Mathlib.Nat.{eq-zero-or-pos}
use native.Mathlib.Omega.{arith}
use mathlib.Core.Bool.{Bool, true}
use Rattle.refusal.specs.Refusal.{unless_of, lower_of, lowest, In, Lowest}
use Rattle.refusal.proofs.Tests.{holds}

-- ---- which of two is the lower

pub without_second : (a : ℕ) → lower_of a 0 ≡ a
unfolding lower_of
without_second zero = refl
without_second (suc a) = refl

without_first : (b : ℕ) → lower_of zero b ≡ b
unfolding lower_of
without_first b = refl

of_two : (a b : ℕ) → 0 < a → 0 < b → lower_of a b ≡ min a b
unfolding lower_of
of_two zero b h k = absurd (omega arith)
of_two (suc a) zero h k = absurd (omega arith)
of_two (suc a) (suc b) h k = refl

lower_assoc : (a b c : ℕ) → lower_of (lower_of a b) c ≡ lower_of a (lower_of b c)
unfolding lower_of
lower_assoc zero b c = refl
lower_assoc (suc a) zero c = refl
lower_assoc (suc a) (suc b) zero = without_second (min (suc a) (suc b))
lower_assoc (suc a) (suc b) (suc c) =
    of_two (min (suc a) (suc b)) (suc c) (omega arith) (omega arith) ∙ omega arith ∙ sym (of_two (suc a) (min (suc b) (suc c)) (omega arith) (omega arith))

pub is_less : (a b : ℕ) → (a ≡ 0 → ⊥) → a < b → lower_of a b ≡ a
unfolding lower_of
is_less zero b h l = absurd (h refl)
is_less (suc a) zero h l = absurd (omega arith)
is_less (suc a) (suc b) h l = omega arith

pub is_least : (a b : ℕ) → (b ≡ 0 → ⊥) → b ≤ a → lower_of a b ≡ b
unfolding lower_of
is_least zero b h l = refl
is_least (suc a) zero h l = absurd (h refl)
is_least (suc a) (suc b) h l = omega arith

-- ---- the lowest of a list

pub none_of : (a b : ℕ) → lower_of a b ≡ 0 → (a ≡ 0) × (b ≡ 0)
unfolding lower_of
none_of zero b e = (refl, e)
none_of (suc a) zero e = absurd (omega arith)
none_of (suc a) (suc b) e = absurd (omega arith)

least_first : (a b : ℕ) → (a ≡ 0 → ⊥) → lower_of a b ≤ a
unfolding lower_of
least_first zero b h = absurd (h refl)
least_first (suc a) zero h = omega arith
least_first (suc a) (suc b) h = omega arith

least_second : (a b : ℕ) → (b ≡ 0 → ⊥) → lower_of a b ≤ b
unfolding lower_of
least_second zero b h = omega arith
least_second (suc a) zero h = absurd (h refl)
least_second (suc a) (suc b) h = omega arith

either : (a b : ℕ) → (lower_of a b ≡ a) ⊎ (lower_of a b ≡ b)
unfolding lower_of
either zero b = inr refl
either (suc a) zero = inl refl
either (suc a) (suc b) = elim (eq-zero-or-pos (suc a - b)) [ inl e ↦ inl (omega arith) | inr l ↦ inr (omega arith) ]

-- the lower of k and the lowest of the others is the lowest of all
more : (k r : ℕ) (ks : List ℕ) → Lowest ks r → Lowest (k ∷ ks) (lower_of k r)
more k r ks low = record {
  none = λ e j i. elim i [ inl p ↦ p ∙ (none_of k r e).0 | inr q ↦ low.none (none_of k r e).1 j q ];
  given = λ h. elim (either k r) [ inl e ↦ inl e | inr e ↦ inr (subst (λ (n : ℕ). In n ks) (sym e) (low.given (λ z. h (e ∙ z)))) ];
  least = λ j i h. elim i [
    | inl p ↦ subst (λ (n : ℕ). lower_of k r ≤ n) (sym p) (least_first k r (λ z. h (p ∙ z)))
    | inr q ↦ below j (low.least j q h) (λ z. h (low.none z j q))
  ];
}
  where
    below : (j : ℕ) → r ≤ j → (r ≡ 0 → ⊥) → lower_of k r ≤ j
    below j l h = let s = least_second k r h in omega arith

pub first_then_rest : (k : ℕ) (ks : List ℕ) → lower_of k (lowest ks) ≡ lowest (k ∷ ks)
unfolding lower_of
first_then_rest zero [] = refl
first_then_rest (suc k) [] = refl
first_then_rest k (j ∷ ks) = refl

pub is_lowest : (ks : List ℕ) → Lowest ks (lowest ks)
is_lowest [] = record { none = λ e k i. absurd i; given = λ h. absurd (h refl); least = λ k i. absurd i }
is_lowest (k ∷ ks) = rw first_then_rest at (more k (lowest ks) ks (is_lowest ks))

-- one more at the end
pub lowest-push : (ks : List ℕ) (k : ℕ) → lowest (ks ++ k ∷ []) ≡ lower_of (lowest ks) k
lowest-push [] k = sym (without_first k)
lowest-push (j ∷ ks) k =
    sym (first_then_rest j (ks ++ k ∷ [])) ∙ ap (lower_of j) (lowest-push ks k) ∙ sym (lower_assoc j (lowest ks) k) ∙ ap (λ (n : ℕ). lower_of n k) (first_then_rest j ks)

-- ---- a list of tests that gives no refusal: each test holds

pub holds_in : (ks : List ℕ) → lowest ks ≡ 0 → (b : Bool) (k : ℕ) → In (unless_of b (suc k)) ks → b ≡ true
holds_in ks e b k i = holds b k ((is_lowest ks).none e (unless_of b (suc k)) i)

pub first_holds : (b : Bool) (k : ℕ) (ks : List ℕ) → lowest (unless_of b (suc k) ∷ ks) ≡ 0 → b ≡ true
first_holds b k ks e = holds_in (unless_of b (suc k) ∷ ks) e b k (inl refl)

pub rest_accepted : (k : ℕ) (ks : List ℕ) → lowest (k ∷ ks) ≡ 0 → lowest ks ≡ 0
rest_accepted k ks e = (none_of k (lowest ks) (first_then_rest k ks ∙ e)).1
