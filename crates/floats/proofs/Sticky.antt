-- A float that isn't finite stays so: where a difference, a quotient or a row made of such is finite, so is what it was made of.
use mathlib.Core.Path.{◌≡◌, refl}
use mathlib.Core.Bool.{true, false}
use mathlib.Core.List.{List, [], ◌∷◌}
use lib.Ieee.{Float, nan, inf, fin, binary32, add, sub, neg, div}
use Rattle.lists.proofs.Bools.{both_hold, both}
use Rattle.std.specs.Float.{float_is_finite}
use Rattle.floats.specs.Floats.{is_finite, all_finite, zip_to}

-- ---- floats

pub finite_sub : (x y : Float) → is_finite (sub binary32 x y) ≡ true → is_finite x ≡ true
unfolding sub add neg float_is_finite
finite_sub nan y h = h
finite_sub (inf s) nan h = h
finite_sub (inf true) (inf true) h = h
finite_sub (inf true) (inf false) h = h
finite_sub (inf false) (inf true) h = h
finite_sub (inf false) (inf false) h = h
finite_sub (inf s) (fin t n d) h = h
finite_sub (fin s m e) y h = refl

pub finite_taken : (x y : Float) → is_finite (sub binary32 x y) ≡ true → is_finite y ≡ true
unfolding sub add neg float_is_finite
finite_taken nan nan h = h
finite_taken nan (inf s) h = h
finite_taken x (fin s m e) h = refl
finite_taken (inf s) nan h = h
finite_taken (inf true) (inf true) h = h
finite_taken (inf true) (inf false) h = h
finite_taken (inf false) (inf true) h = h
finite_taken (inf false) (inf false) h = h
finite_taken (fin s m e) nan h = h
finite_taken (fin s m e) (inf t) h = h

pub finite_div : (x y : Float) → is_finite (div binary32 x y) ≡ true → is_finite x ≡ true
unfolding div float_is_finite
finite_div nan y h = h
finite_div (inf s) nan h = h
finite_div (inf s) (inf t) h = h
finite_div (inf s) (fin t n d) h = h
finite_div (fin s m e) y h = refl

-- a row that was worked entry by entry
pub finite_zip : (f : Float → Float → Float) → ((x y : Float) → is_finite (f x y) ≡ true → is_finite x ≡ true)
    → (d s : List Float) → all_finite (zip_to f d s) ≡ true → all_finite d ≡ true
finite_zip f g [] s h = refl
finite_zip f g (x ∷ xs) [] h = h
finite_zip f g (x ∷ xs) (y ∷ ys) h =
    both (g x y (both_hold (is_finite (f x y)) _ h).0) (finite_zip f g xs ys (both_hold (is_finite (f x y)) _ h).1)
