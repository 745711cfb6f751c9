-- A test of two, what it says of each and how it is made of them; what a test that fails says of others. By cases.
use mathlib.Core.Path.{◌≡◌, refl, sym, ◌∙◌}
use mathlib.Core.Bool.{Bool, true, false, cond, ◌&&◌, false≢true}

pub both_hold : (a b : Bool) → (a && b) ≡ true → (a ≡ true) × (b ≡ true)
both_hold true b e = (refl, e)
both_hold false b e = absurd (false≢true e)

pub both : {p q : Bool} → p ≡ true → q ≡ true → (p && q) ≡ true
both {p} {q} e f = rw (e, f)

-- where one test would make another hold, a failure of the other is one of the first
pub not_then : (a b : Bool) → (a ≡ true → b ≡ true) → b ≡ false → a ≡ false
not_then true b f h = sym (f refl) ∙ h
not_then false b f h = refl

pub pick : {A : Type 0} (m : Bool) (x y : A) → (m ≡ false → y ≡ x) → cond m x y ≡ x
pick true x y h = refl
pick false x y h = h refl
