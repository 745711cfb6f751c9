-- The shift of a block, column by column: the first c columns of rows 0 and 1 are done, the rest is as it was. Over any width and any two functions. Assumes nothing.
use mathlib.Core.Path.{◌≡◌, refl, sym, ap, ◌∙◌}
use mathlib.Core.List.{List, [], ◌∷◌, ◌++◌}
use Prim.Native.Nat.{ℕ, suc, ◌+◌, ◌*◌, ◌≤◌, ◌<◌}
use native.Mathlib.Omega.{arith}
use lib.ListN.{length, take, drop, get_or, set, length-append, length-take, length-drop, take-append-drop, get_or-append}
use lib.Seq.{get_or-append-add, set-append_left, take_all, drop-drop, length-take-le}
use lib.Ieee.{Float, nan}
use Rattle.limits.specs.Limits.{dof_limit, block_size}
use Rattle.floats.specs.Floats.{zip_to}
use Rattle.floats.proofs.Rows.{zipped, zipped_more, zipped_all, length-zip_to}
use Rattle.kinematics.specs.Blocks.{row}

set-right : (xs ys : List Float) (i : ℕ) (a : Float) → set (xs ++ ys) (length xs + i) a ≡ xs ++ set ys i a
set-right [] ys i a = let e : 0 + i ≡ i = omega arith in ap (λ (k : ℕ). set ys k a) e
set-right (x ∷ xs) ys i a =
    let e : suc (length xs) + i ≡ suc (length xs + i) = omega arith in
    ap (λ (k : ℕ). set (x ∷ (xs ++ ys)) k a) e ∙ ap (λ (l : List Float). x ∷ l) (set-right xs ys i a)

zipped_length : (f : Float → Float → Float) (i : ℕ) (d s : List Float) → length (zipped f i d s) ≡ length d
zipped_length f i d s = omega (arith, length-append (zip_to f (take i d) (take i s)) (drop i d), length-zip_to f (take i d) (take i s), length-take i d, length-drop i d)

-- rows of width w, with f along row 0 and g along row 1
module _ (f g : Float → Float → Float) (w : ℕ) (r₀ r₁ r₂ : List Float) (e₀ : length r₀ ≡ w) (e₁ : length r₁ ≡ w) (e₂ : length r₂ ≡ w) where
  abbrev done : ℕ → List Float
  done c = zipped f c r₀ r₂ ++ (zipped g c r₁ r₂ ++ r₂)

  module _ (c : ℕ) (h : c < w) where
    abbrev a : List Float
    a = zipped f c r₀ r₂

    abbrev b : List Float
    b = zipped g c r₁ r₂

    third : get_or (done c) (2 * w + c) nan ≡ get_or r₂ c nan
    third =
        let p : 2 * w + c ≡ length a + (length b + c) = omega (arith, zipped_length f c r₀ r₂, zipped_length g c r₁ r₂) in
        ap (λ (k : ℕ). get_or (done c) k nan) p ∙ get_or-append-add a (b ++ r₂) (length b + c) nan ∙ get_or-append-add b r₂ c nan

    first : set (done c) c (f (get_or (done c) c nan) (get_or r₂ c nan)) ≡ zipped f (c + 1) r₀ r₂ ++ (b ++ r₂)
    first =
        let p : c < length a = omega (arith, zipped_length f c r₀ r₂) in
        rw (get_or-append a (b ++ r₂) nan c p, set-append_left a (b ++ r₂) c _ p, zipped_more f c r₀ r₂ nan a refl (omega arith) (omega arith))

    second : (l : List Float) → l ≡ zipped f (c + 1) r₀ r₂ ++ (b ++ r₂) → set l (w + c) (g (get_or l (w + c) nan) (get_or r₂ c nan)) ≡ done (c + 1)
    second l e =
        let x = zipped f (c + 1) r₀ r₂ in
        let q : c < length b = omega (arith, zipped_length g c r₁ r₂) in
        let p : w + c ≡ length x + c = omega (arith, zipped_length f (c + 1) r₀ r₂) in
        rw (e, p, get_or-append-add x (b ++ r₂) c nan, get_or-append b r₂ nan c q, set-right x (b ++ r₂) c _, set-append_left b r₂ c _ q, zipped_more g c r₁ r₂ nan b refl (omega arith) (omega arith))

  -- a turn of the loop
  column_more : (c : ℕ) → c < w → (l : List Float) → l ≡ done c → (v : Float) → v ≡ get_or l (2 * w + c) nan
      → (m : List Float) → m ≡ set l c (f (get_or l c nan) v) → set m (w + c) (g (get_or m (w + c) nan) v) ≡ done (c + 1)
  column_more c h l e v p m q =
      let k : v ≡ get_or r₂ c nan = p ∙ ap (λ (x : List Float). get_or x (2 * w + c) nan) e ∙ third c h in
      rw (k) (second c h m (q ∙ rw (e, k) (first c h)))

  columns_all : done w ≡ zip_to f r₀ r₂ ++ (zip_to g r₁ r₂ ++ r₂)
  columns_all = rw (zipped_all f w r₀ r₂ (omega arith), zipped_all g w r₁ r₂ (omega arith))

-- a list is its three rows
thirds : (w : ℕ) (b : List Float) → length b ≡ w + w + w → take w b ++ (take w (drop w b) ++ take w (drop (w + w) b)) ≡ b
thirds w b e =
    ap (λ (y : List Float). take w b ++ (take w (drop w b) ++ y)) (take_all w (drop (w + w) b) (omega (arith, length-drop (w + w) b)) ∙ sym (drop-drop w w b))
    ∙ ap (λ (x : List Float). take w b ++ x) (take-append-drop w (drop w b))
    ∙ take-append-drop w b

-- ---- the block's own rows

pub row-length : (i : ℕ) (b : List Float) → length b ≡ block_size → i * dof_limit + dof_limit ≤ block_size → length (row i b) ≡ dof_limit
row-length i b e h = length-take-le dof_limit (drop (i * dof_limit) b) (omega (arith, length-drop (i * dof_limit) b))

-- the first c columns are done
abbrev pub columns_to : (Float → Float → Float) → (Float → Float → Float) → ℕ → List Float → List Float
columns_to f g c b = zipped f c (row 0 b) (row 2 b) ++ (zipped g c (row 1 b) (row 2 b) ++ row 2 b)

module _ (f g : Float → Float → Float) (b : List Float) (e : length b ≡ block_size) where
  pub columns_none : b ≡ columns_to f g 0 b
  columns_none = sym (thirds dof_limit b e)

  pub columns_more : (c : ℕ) → c < dof_limit → (l : List Float) → l ≡ columns_to f g c b → (v : Float) → v ≡ get_or l (2 * dof_limit + c) nan
      → (m : List Float) → m ≡ set l c (f (get_or l c nan) v) → set m (dof_limit + c) (g (get_or m (dof_limit + c) nan) v) ≡ columns_to f g (c + 1) b
  columns_more = column_more f g dof_limit (row 0 b) (row 1 b) (row 2 b) (row-length 0 b e (omega arith)) (row-length 1 b e (omega arith)) (row-length 2 b e (omega arith))

  pub columns_done : columns_to f g dof_limit b ≡ zip_to f (row 0 b) (row 2 b) ++ (zip_to g (row 1 b) (row 2 b) ++ row 2 b)
  columns_done = columns_all f g dof_limit (row 0 b) (row 1 b) (row 2 b) (row-length 0 b e (omega arith)) (row-length 1 b e (omega arith)) (row-length 2 b e (omega arith))
