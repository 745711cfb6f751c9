-- A rule's number is never 0. By cases.
use Rattle.std.proofs.Common.{ℕ, suc, ◌≡◌, refl, arith}
use Rattle.refusal.specs.declared.Refusal.{Refusal}
use Rattle.refusal.specs.declared.Refusal.TheVariants.{Memory, Limit, Tag, Link, Mask, Locked, NotFinite, NotATurn, Beyond, Reversed, Singular, Overflow}
use Rattle.refusal.specs.Refusal.{number}

-- the number before a rule's
abbrev pub before : Refusal → ℕ
before Memory = 0
before Limit = 1
before Tag = 2
before Link = 3
before Mask = 4
before Locked = 5
before NotFinite = 6
before NotATurn = 7
before Beyond = 8
before Reversed = 9
before Singular = 10
before Overflow = 11

pub number-suc : (r : Refusal) → number r ≡ suc (before r)
number-suc Memory = refl
number-suc Limit = refl
number-suc Tag = refl
number-suc Link = refl
number-suc Mask = refl
number-suc Locked = refl
number-suc NotFinite = refl
number-suc NotATurn = refl
number-suc Beyond = refl
number-suc Reversed = refl
number-suc Singular = refl
number-suc Overflow = refl

pub number_positive : (r : Refusal) → number r ≡ 0 → ⊥
number_positive r h = let e = number-suc r in absurd (omega arith)
