-- Laws of tables, tests and counts over the first n numbers, and of lists that grow at their end. By the count, or the list.
use Prim.Native.Nat.{ℕ, zero, suc, ◌+◌, ◌-◌, ◌≤◌, ◌<◌}
use mathlib.Core.Path.{◌≡◌, refl, sym, ap, ap₂, subst, ◌∙◌}
use mathlib.Core.Bool.{Bool, true, false, cond, ◌&&◌, ◌||◌, or-false, or_assoc}
use mathlib.Core.List.{List, [], ◌∷◌, ◌++◌}
use native.Mathlib.Omega.{arith}
use native.Mathlib.Numerals.{add-one}
use native.Mathlib.Decide.{dec_lt}
use lib.ListN.{length, take, drop, get_or, set, replicate, length-append, length-set, length-replicate, get_or-append, get_or-replicate}
use lib.Seq.{take-suc-set, get_or_at, drop-set-lt, drop-drop, get_or-take, get_or-drop, ext_get_or}
use lib.Dec.{eqb}
use Rattle.lists.proofs.Bools.{both_hold, both}
use Rattle.lists.specs.Numbers.{each, all_below, one_more, count_below, stands_in, last_that}

-- ---- tables

module _ {A : Type 0} (f : ℕ → A) where
  pub length-each : (n : ℕ) → length (each n f) ≡ n
  unfolding each
  length-each zero = refl
  length-each (suc n) = rw (length-append, length-each n) (omega arith)

  pub get_or-each : (n j : ℕ) (d : A) → j < n → get_or (each n f) j d ≡ f j
  unfolding each
  get_or-each zero j d h = absurd (omega arith)
  get_or-each (suc n) j d h = elim (dec_lt j n) [
    | yes l ↦ get_or-append (each n f) _ d j (rw (length-each n) l) ∙ get_or-each n j d l
    | no l ↦ let e : n ≡ j = omega arith in subst (λ (k : ℕ). get_or (each n f ++ (f n ∷ [])) k d ≡ f k) e (get_or_at (each n f) (f n) [] d n (length-each n))
  ]

-- ---- a loop that fills a table: the first j entries are f's, and the rest is as it was

pub record Filled {A : Type 0} (f : ℕ → A) (l₀ : List A) (j : ℕ) (l : List A) : Type 0 where
  pub same_length : length l ≡ length l₀
  pub front : take j l ≡ each j f
  pub rest : drop j l ≡ drop j l₀

module _ {A : Type 0} (f : ℕ → A) (l₀ : List A) where
  pub filled_none : Filled f l₀ 0 l₀
  unfolding each
  filled_none = record { same_length = refl; front = refl; rest = refl }

  pub filled_more : (j : ℕ) (l : List A) (v : A) → j < length l₀ → Filled f l₀ j l → v ≡ f j → Filled f l₀ (j + 1) (set l j v)
  unfolding each
  filled_more j l v h t e = record {
    same_length = length-set l j v ∙ t.same_length;
    front = rw (add-one, take-suc-set l j v (rw t.same_length h), t.front, e);
    rest = drop-set-lt (j + 1) l j v (omega arith) ∙ sym (drop-drop 1 j l) ∙ ap (drop 1) t.rest ∙ drop-drop 1 j l₀;
  }

  pub filled_at : (j : ℕ) (l : List A) (i : ℕ) (d : A) → Filled f l₀ j l → i < j → get_or l i d ≡ f i
  filled_at j l i d t h = sym (get_or-take j l i d h) ∙ ap (λ (m : List A). get_or m i d) t.front ∙ get_or-each f j i d h

-- a table of n that was false is full where no later entry is true
pub filled_all : (f : ℕ → Bool) (n j : ℕ) (l : List Bool) → Filled f (replicate n false) j l → ((k : ℕ) → j ≤ k → k < n → f k ≡ false) → l ≡ each n f
filled_all f n j l t none =
    let long : length l ≡ n = t.same_length ∙ length-replicate n false in
    ext_get_or false l (each n f) (long ∙ sym (length-each f n)) (λ i h. at i (omega arith) ∙ sym (get_or-each f n i false (omega arith)))
  where
    at : (i : ℕ) → i < n → get_or l i false ≡ f i
    at i h = elim (dec_lt i j) [
      | yes q ↦ filled_at f (replicate n false) j l i false t q
      | no q ↦
          let e : j + (i - j) ≡ i = omega arith in
          let mine : get_or (drop j l) (i - j) false ≡ get_or l i false = get_or-drop j l (i - j) false ∙ ap (λ (k : ℕ). get_or l k false) e in
          let made : get_or (drop j (replicate n false)) (i - j) false ≡ false = get_or-drop j (replicate n false) (i - j) false ∙ rw e (get_or-replicate n i false false h) in
          sym mine ∙ ap (λ (m : List Bool). get_or m (i - j) false) t.rest ∙ made ∙ sym (none i (omega arith) h)
    ]

-- ---- tests

pub all_at : (n : ℕ) (test : ℕ → Bool) → all_below n test ≡ true → (j : ℕ) → j < n → test j ≡ true
unfolding all_below
all_at zero test h j l = absurd (omega arith)
all_at (suc n) test h j l = elim (dec_lt j n) [
  | yes q ↦ all_at n test (both_hold _ (test n) h).0 j q
  | no q ↦ subst (λ (k : ℕ). test k ≡ true) (omega arith) (both_hold (all_below n test) _ h).1
]

pub all_below_lem : (n : ℕ) (test : ℕ → Bool) → ((j : ℕ) → j < n → test j ≡ true) → all_below n test ≡ true
unfolding all_below
all_below_lem zero test h = refl
all_below_lem (suc n) test h = both (all_below_lem n test (λ j l. h j (omega arith))) (h n (omega arith))

pub all_same : (n : ℕ) (f g : ℕ → Bool) → ((j : ℕ) → j < n → f j ≡ g j) → all_below n f ≡ all_below n g
unfolding all_below
all_same zero f g h = refl
all_same (suc n) f g h = ap₂ ◌&&◌ (all_same n f g (λ j l. h j (omega arith))) (h n (omega arith))

-- ---- counts

one_le : (b : Bool) (n : ℕ) → n ≤ one_more b n
one_le true n = omega arith
one_le false n = omega arith

le-one : (b : Bool) (n : ℕ) → one_more b n ≤ suc n
le-one true n = omega arith
le-one false n = omega arith

module _ (test : ℕ → Bool) where
  pub count_le : (n : ℕ) → count_below n test ≤ n
  unfolding count_below
  count_le zero = omega arith
  count_le (suc n) = omega (arith, count_le n, le-one (test n) (count_below n test))

  count_mono : (m n : ℕ) → m ≤ n → count_below m test ≤ count_below n test
  unfolding count_below
  count_mono m zero h = let e : m ≡ 0 = omega arith in rw e (omega arith)
  count_mono m (suc n) h = elim (dec_lt m (suc n)) [
    | yes l ↦ omega (arith, count_mono m n (omega arith), one_le (test n) (count_below n test))
    | no l ↦ let e : m ≡ suc n = omega arith in rw e (omega arith)
  ]

  count_suc : (h : ℕ) → test h ≡ true → count_below (suc h) test ≡ suc (count_below h test)
  unfolding count_below
  count_suc h e = rw e

  -- one that passes counts for those after it
  pub count_lt : (h n : ℕ) → h < n → test h ≡ true → count_below h test < count_below n test
  count_lt h n l e = subst (λ (k : ℕ). k ≤ count_below n test) (count_suc h e) (count_mono (suc h) n (omega arith))

  -- each count below that of n is the count before one that passes
  pub count_at : (n q : ℕ) → q < count_below n test → (h : ℕ) × (h < n) × (test h ≡ true) × (count_below h test ≡ q)
  unfolding count_below
  count_at zero q l = absurd (omega arith)
  count_at (suc n) q l = elim (dec_lt q (count_below n test)) [
    | yes m ↦ let r = count_at n q m in (r.0, omega arith, r.2, r.3)
    | no m ↦ last (test n) refl l m
  ]
    where
      last : (b : Bool) → test n ≡ b → q < one_more b (count_below n test) → (q < count_below n test → ⊥) → (h : ℕ) × (h < suc n) × (test h ≡ true) × (count_below h test ≡ q)
      last true e l m = (n, omega arith, e, omega arith)
      last false e l m = absurd (m l)

pub count_same : (n : ℕ) (f g : ℕ → Bool) → ((j : ℕ) → j < n → f j ≡ g j) → count_below n f ≡ count_below n g
unfolding count_below
count_same zero f g h = refl
count_same (suc n) f g h = rw (h n (omega arith), count_same n f g (λ j l. h j (omega arith)))

-- ---- lists that grow at their end

pub stands_snoc : (x : ℕ) (ys : List ℕ) (y : ℕ) → stands_in x (ys ++ (y ∷ [])) ≡ (stands_in x ys || eqb y x)
unfolding stands_in
stands_snoc x [] y = or-false (eqb y x)
stands_snoc x (z ∷ ys) y = rw (stands_snoc x ys y) (sym (or_assoc (eqb z x) _ _))

pub last_snoc : (test : ℕ → Bool) (d : ℕ) (xs : List ℕ) (x : ℕ) → last_that test d (xs ++ (x ∷ [])) ≡ cond (test x) x (last_that test d xs)
unfolding last_that
last_snoc test d [] x = refl
last_snoc test d (y ∷ xs) x = last_snoc test (cond (test y) y d) xs x
