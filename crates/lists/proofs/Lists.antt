-- Lists that a loop fills from the front, lists taken up to a count, f of each, and lists that agree at each place. Assumes nothing.
use Prim.Native.Nat.{ℕ, zero, suc, ◌+◌, ◌-◌, ◌≤◌, ◌<◌}
use mathlib.Core.Path.{◌≡◌, refl, sym, ◌∙◌, ap, ap₂}
use mathlib.Core.List.{List, [], ◌∷◌, map}
use native.Mathlib.Omega.{arith}
use native.Mathlib.Numerals.{add-one}
use native.Mathlib.Nat.{sub-zero}
use lib.ListN.{length, take, drop, get_or, set, length-drop}
use lib.Seq.{take-suc, take-suc-set, take_all}

-- ---- an array that a loop fills, to be the list s

module _ {A : Type 0} (s : List A) where
  pub filled_more : (out : List A) (i : ℕ) (d v : A) → i < length out → i < length s → take i out ≡ take i s → v ≡ get_or s i d
      → take (i + 1) (set out i v) ≡ take (i + 1) s
  filled_more out i d v h k p e = rw (add-one i, take-suc-set out i v h, p, e, ← take-suc s i d k)

  pub filled_all : (out : List A) (n : ℕ) → length out ≤ n → length s ≤ n → take n out ≡ take n s → out ≡ s
  filled_all out n h k p = sym (take_all n out h) ∙ p ∙ take_all n s k

-- ---- a part that runs to the end

pub tail : {A : Type 0} (xs : List A) (k : ℕ) → take (length xs - k) (drop k xs) ≡ drop k xs
tail xs k = take_all (length xs - k) (drop k xs) (simp length-drop (omega arith))

-- a part from the front of an array that is known
pub front : {A : Type 0} {n m : ℕ} (xs ys : List A) → n ≡ m → xs ≡ ys → take (n - 0) xs ≡ take m ys
front xs ys e f = rw (sub-zero, e, f)

-- within a list no default is read
pub any_default : {A : Type 0} (xs : List A) (i : ℕ) (d e : A) → i < length xs → get_or xs i d ≡ get_or xs i e
any_default [] i d e h = absurd (omega arith)
any_default (x ∷ xs) zero d e h = refl
any_default (x ∷ xs) (suc i) d e h = any_default xs i d e (omega arith)

-- ---- f of each

module _ {A B : Type 0} (f : A → B) where
  pub map-take : (n : ℕ) (xs : List A) → take n (map f xs) ≡ map f (take n xs)
  map-take zero xs = refl
  map-take (suc n) [] = refl
  map-take (suc n) (x ∷ xs) = ap (λ (l : List B). f x ∷ l) (map-take n xs)

  pub map_at : (xs : List A) (i : ℕ) (d : A) (e : B) → i < length xs → get_or (map f xs) i e ≡ f (get_or xs i d)
  map_at [] i d e h = absurd (omega arith)
  map_at (x ∷ xs) zero d e h = refl
  map_at (x ∷ xs) (suc i) d e h = map_at xs i d e (omega arith)

  pub map-set : (xs : List A) (i : ℕ) (v : A) → map f (set xs i v) ≡ set (map f xs) i (f v)
  map-set [] i v = refl
  map-set (x ∷ xs) zero v = refl
  map-set (x ∷ xs) (suc i) v = ap (λ (l : List B). f x ∷ l) (map-set xs i v)

-- ---- lists that agree at each place, seen through f

module _ {A B : Type 0} (f : A → B) (d : A) where
  pub same_map : (xs ys : List A) → length xs ≡ length ys → ((j : ℕ) → f (get_or xs j d) ≡ f (get_or ys j d)) → map f xs ≡ map f ys
  same_map [] [] l e = refl
  same_map [] (y ∷ ys) l e = absurd (omega arith)
  same_map (x ∷ xs) [] l e = absurd (omega arith)
  same_map (x ∷ xs) (y ∷ ys) l e = ap₂ ◌∷◌ (e 0) (same_map xs ys (omega arith) (λ j. e (suc j)))

  pub same_front : (n : ℕ) (xs ys : List A) → length xs ≡ length ys → ((j : ℕ) → f (get_or xs j d) ≡ f (get_or ys j d)) → map f (take n xs) ≡ map f (take n ys)
  same_front n xs ys l e = sym (map-take f n xs) ∙ ap (take n) (same_map xs ys l e) ∙ map-take f n ys
