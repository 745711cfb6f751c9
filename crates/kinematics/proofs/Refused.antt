-- What is refused isn't fine, and a test that refuses doesn't hold. By cases.
use Rattle.std.proofs.Common.{ℕ, suc, ◌≡◌, sym, refl, Bool, true, false, Result, Ok, Err}
use Rattle.std.specs.Prelude.{is_ok, IsErr}
use Rattle.std.proofs.lemmas.Bool.{true≢false}
use Rattle.refusal.specs.declared.Refusal.{Refusal}
use Rattle.refusal.specs.Refusal.{number, code, unless_of}
use Rattle.refusal.proofs.Answers.{passed, refused}
use Rattle.refusal.proofs.Number.{number_positive}
use Rattle.refusal.proofs.Tests.{holds}

pub not_ok : (r : Result Unit Refusal) → IsErr r → is_ok r ≡ false
not_ok (Ok x) h = absurd (true≢false (sym h))
not_ok (Err e) h = refl

module _ {t : Result Unit Refusal} (k : ℕ) (b : Bool) (e : code t ≡ unless_of b (suc k)) where
  pub test_holds : {x : Unit} → t ≡ Ok x → b ≡ true
  test_holds p = holds b k (passed p e)

  pub test_fails : {r : Refusal} → t ≡ Err r → b ≡ false
  test_fails {r} p = go b (refused p e)
    where
      go : (m : Bool) → unless_of m (suc k) ≡ number r → m ≡ false
      go true q = absurd (number_positive r (sym q))
      go false q = refl
