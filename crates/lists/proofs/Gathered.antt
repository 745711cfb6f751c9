-- A list gathered into blank places, one turn after the other: what is gathered stands in front, and the next place is its length. Assumes nothing.
use Prim.Native.Nat.{ℕ, zero, suc, ◌+◌, ◌≤◌, ◌<◌}
use mathlib.Core.Path.{◌≡◌, refl, sym, ap, ◌∙◌}
use mathlib.Core.Bool.{Bool, true, false, cond}
use mathlib.Core.List.{List, [], ◌∷◌, ◌++◌, append-nil, append_assoc}
use native.Mathlib.Omega.{arith}
use native.Mathlib.Numerals.{add-one}
use lib.ListN.{length, take, drop, set, length-append, length-drop}
use lib.Seq.{drop-cons, set_at, take_at, drop-append-add, drop-drop}
use Rattle.lists.specs.Lists.{laid}
use Rattle.lists.specs.Numbers.{one_more, count_below, gathered, chosen}
use Rattle.lists.proofs.Numbers.{count_le}

pub length-laid : {A : Type 0} (xs blanks : List A) → length xs ≤ length blanks → length (laid xs blanks) ≡ length blanks
length-laid xs blanks h = rw (length-append, length-drop) (omega arith)

pub record Laid {A : Type 0} (g : ℕ → List A) (blanks : List A) (j : ℕ) (out : List A) (count : ℕ) : Type 0 where
  pub list : out ≡ laid (gathered j g) blanks
  pub counted : count ≡ length (gathered j g)

module _ {A : Type 0} (g : ℕ → List A) where
  pub gathered_more : (j : ℕ) → gathered (j + 1) g ≡ gathered j g ++ g j
  unfolding gathered
  gathered_more j = rw add-one

  module _ (blanks : List A) where
    pub laid_none : Laid g blanks 0 blanks 0
    unfolding gathered
    laid_none = record { list = refl; counted = refl }

    module _ (j : ℕ) (out : List A) (count : ℕ) (t : Laid g blanks j out count) where
      -- the same under other names
      pub laid_as : (out' : List A) (count' : ℕ) → out' ≡ out → count' ≡ count → Laid g blanks j out' count'
      laid_as out' count' e f = record { list = e ∙ t.list; counted = f ∙ t.counted }

      pub laid_length : count ≤ length blanks → length out ≡ length blanks
      laid_length h = ap length t.list ∙ length-laid (gathered j g) blanks (omega (arith, t.counted))

      pub laid_skip : g j ≡ [] → Laid g blanks (j + 1) out count
      laid_skip e =
          let same : gathered j g ≡ gathered (j + 1) g = sym (gathered_more j ∙ rw e (append-nil (gathered j g))) in
          record {
            list = t.list ∙ ap (λ (l : List A). laid l blanks) same;
            counted = t.counted ∙ ap length same;
          }

      -- a part of d more
      pub laid_part : (d : ℕ) (ys : List A) → g j ≡ ys → length ys ≡ d → Laid g blanks (j + 1) (take count out ++ (ys ++ drop (count + d) out)) (count + d)
      laid_part d ys e q =
          let xs = gathered j g in
          let long : length (xs ++ ys) ≡ count + d = length-append xs ys ∙ omega (arith, t.counted) in
          let rest : drop (count + d) (laid xs blanks) ≡ drop (count + d) blanks = rw t.counted (drop-append-add xs (drop (length xs) blanks) d ∙ drop-drop d (length xs) blanks) in
          record {
            list =
                rw (t.list, gathered_more j, e, take_at xs (drop (length xs) blanks) count (sym t.counted))
                (rw (append_assoc, long, rest));
            counted = sym (ap length (gathered_more j) ∙ rw e long);
          }

      -- one more
      pub laid_one : (v : A) → g j ≡ v ∷ [] → count < length blanks → Laid g blanks (j + 1) (set out count v) (count + 1)
      laid_one v e h =
          let xs = gathered j g in
          let long : length (xs ++ (v ∷ [])) ≡ suc (length xs) = length-append xs (v ∷ []) ∙ omega arith in
          record {
            list =
                rw (t.list, gathered_more j, e, append_assoc, long, t.counted, drop-cons blanks (length xs) v (omega (arith, t.counted)))
                (set_at xs _ (drop (suc (length xs)) blanks) v (length xs) refl);
            counted = sym (ap length (gathered_more j) ∙ rw e (long ∙ omega (arith, t.counted)));
          }

-- ---- those of a test

module _ {A : Type 0} (test : ℕ → Bool) (f : ℕ → A) where
  pub length-chosen : (n : ℕ) → length (chosen n test f) ≡ count_below n test
  unfolding gathered count_below
  length-chosen zero = refl
  length-chosen (suc n) = length-append (chosen n test f) _ ∙ go (test n) (length-chosen n)
    where
      go : (b : Bool) → length (chosen n test f) ≡ count_below n test → length (chosen n test f) + length (cond b (f n ∷ []) []) ≡ one_more b (count_below n test)
      go true h = omega arith
      go false h = omega arith

  pub chosen_le : (n : ℕ) → length (chosen n test f) ≤ n
  chosen_le n = omega (arith, length-chosen n, count_le test n)
