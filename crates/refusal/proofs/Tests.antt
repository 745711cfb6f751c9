-- A test and the refusal that it gives. By cases.
use mathlib.Core.Path.{◌≡◌, refl, ap}
use mathlib.Core.Bool.{Bool, true, false}
use Prim.Native.Nat.{ℕ, suc}
use native.Mathlib.Omega.{arith}
use Rattle.refusal.specs.Refusal.{unless_of}

pub holds : (b : Bool) (k : ℕ) → unless_of b (suc k) ≡ 0 → b ≡ true
holds true k e = refl
holds false k e = absurd (omega arith)

pub tested : (k : ℕ) {a b : Bool} → a ≡ b → unless_of a k ≡ unless_of b k
tested k p = ap (λ (b : Bool). unless_of b k) p
