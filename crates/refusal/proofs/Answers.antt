-- What a call answers once its tests passed, or refused it: a count, and what is laid over lent memory. By what the tests gave.
use Rattle.std.proofs.Common.{ℕ, ◌≡◌, ◌∙◌, sym, ap, Result, Ok, Err, List}
use Rattle.std.specs.Result.{IsErrAnd}
use Rattle.lists.specs.Lists.{laid}
use Rattle.refusal.specs.declared.Refusal.{Refusal}
use Rattle.refusal.specs.Refusal.{number, code}
use Rattle.refusal.specs.Counted.{counted_of, counted, out, filled}
use Rattle.refusal.proofs.Number.{number-suc}

-- ---- the refusal

pub passed : {A : Type 0} {t : Result A Refusal} {x : A} {k : ℕ} → t ≡ Ok x → code t ≡ k → k ≡ 0
passed p e = sym e ∙ rw p

pub refused : {A : Type 0} {t : Result A Refusal} {r : Refusal} {k : ℕ} → t ≡ Err r → code t ≡ k → k ≡ number r
refused p e = sym e ∙ rw p

-- ---- a count

pub counted_passed : {A : Type 0} {t : Result A Refusal} {x : A} {k : ℕ} → t ≡ Ok x → code t ≡ k → (n : ℕ) → counted (Ok n) ≡ counted_of k n
unfolding counted_of
counted_passed p e n = rw (passed p e)

pub counted_refused : {A : Type 0} {t : Result A Refusal} {r : Refusal} {k : ℕ} → t ≡ Err r → code t ≡ k → (n : ℕ) → counted (Err r) ≡ counted_of k n
unfolding counted_of
counted_refused {r = r} p e n = rw (refused p e, number-suc r)

-- ---- the exit of a `?`: r is what is given there, of what t gave

pub code_exit : {A B : Type 0} {t : Result A Refusal} {e : Refusal} {k : ℕ} → t ≡ Err e → code t ≡ k → (r : Result B Refusal) → IsErrAnd r (λ y. y ≡ e) → code r ≡ k
code_exit p h (Ok x) q = absurd q
code_exit p h (Err y) q = ap number q ∙ sym (refused p h)

pub counted_exit : {A : Type 0} {t : Result A Refusal} {e : Refusal} {k : ℕ} → t ≡ Err e → code t ≡ k → (n : ℕ) (r : Result ℕ Refusal) → IsErrAnd r (λ y. y ≡ e) → counted r ≡ counted_of k n
counted_exit p h n (Ok x) q = absurd q
counted_exit p h n (Err y) q = rw q (counted_refused p h n)

-- ---- what is laid over lent memory

pub filled_passed : {A B : Type 0} {t : Result A Refusal} {x : A} {k m : ℕ} → t ≡ Ok x → code t ≡ k → (n : ℕ) (row lent : List B) {l : List B} → m ≡ n → l ≡ laid row lent → out (counted (Ok m)) l ≡ filled k n row lent
unfolding filled counted_of
filled_passed p e n row lent q h = rw (passed p e, q, h)

pub filled_refused : {A B : Type 0} {t : Result A Refusal} {r : Refusal} {k : ℕ} → t ≡ Err r → code t ≡ k → (n : ℕ) (row lent : List B) → out (counted (Err r)) lent ≡ filled k n row lent
unfolding filled counted_of
filled_refused {r = r} p e n row lent = rw (refused p e, number-suc r)

pub filled_exit : {A B : Type 0} {t : Result A Refusal} {e : Refusal} {k : ℕ} → t ≡ Err e → code t ≡ k → (n : ℕ) (row lent : List B) (r : Result ℕ Refusal) → IsErrAnd r (λ y. y ≡ e) → out (counted r) lent ≡ filled k n row lent
filled_exit p h n row lent (Ok x) q = absurd q
filled_exit p h n row lent (Err y) q = rw q (filled_refused p h n row lent)
