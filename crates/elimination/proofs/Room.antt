-- The refusals 1 and 2, and the parts of lent memory that are worked.
use mathlib.Core.Path.{◌≡◌, sym, ap, ◌∙◌}
use mathlib.Core.Bool.{Bool, true, ◌&&◌}
use mathlib.Core.List.{List, [], ◌∷◌, ◌++◌}
use Prim.Native.Nat.{ℕ, ◌*◌, ◌≤◌}
use borrow.Author.Tests.{le-leb, leb-true, ne_eqb}
use lib.Dec.{leb}
use lib.ListN.{length, take, drop}
use lib.Seq.{length-take-le}
use lib.Ieee.{Float}
use Rattle.std.specs.Prelude.{Result, Err}
use Rattle.std.specs.Result.{IsErrAnd}
use Rattle.lists.proofs.Bools.{both_hold}
use Rattle.limits.specs.Limits.{dof_limit}
use Rattle.refusal.specs.declared.Refusal.{Refusal}
use Rattle.refusal.specs.Refusal.{number, code, lower_of, unless_of}
use Rattle.refusal.proofs.Answers.{code_exit, refused}
use Rattle.refusal.proofs.Laws.{first_holds, rest_accepted}
use Rattle.refusal.proofs.Number.{number_positive}
use Rattle.elimination.specs.Elimination.{Factors, factors, factored}
use Rattle.elimination.specs.Inner.{room_refusal, over_front, factored_in}

-- accepted: there is room, and n is in the limit
pub room_accepted : (n : ℕ) (room : Bool) → room_refusal n room ≡ 0 → (room ≡ true) × (n ≤ dof_limit)
unfolding room_refusal
room_accepted n room e =
    let large = unless_of (leb n dof_limit) 2 in
    (first_holds room 0 (large ∷ []) e, leb-true n dof_limit (first_holds (leb n dof_limit) 1 [] (rest_accepted (unless_of room 1) (large ∷ []) e)))

pub room_none : (n : ℕ) → n ≤ dof_limit → room_refusal n true ≡ 0
unfolding room_refusal lower_of
room_none n h = rw (le-leb n dof_limit h)

module _ (n : ℕ) (a : List Float) (s : List ℕ) where
  abbrev room : Bool
  room = leb (n * n) (length a) && leb n (length s)

  -- what is worked of the lent slices; r is the code's test of the rows
  pub room_fits : (r : Bool) → r ≡ leb (n * n) (length a) → room_refusal n (r && leb n (length s)) ≡ 0
      → (n ≤ dof_limit) × (n * n ≤ length a) × (length (take (n * n) a) ≡ n * n) × (n ≤ length s) × (length (take n s) ≡ n) × (room_refusal n room ≡ 0)
  room_fits r er e =
      let h = room_accepted n (r && leb n (length s)) e in
      let b = both_hold r (leb n (length s)) h.0 in
      let la = leb-true (n * n) (length a) (sym er ∙ b.0) in
      let ls = leb-true n (length s) b.1 in
      (h.1, la, length-take-le (n * n) a la, ls, length-take-le n s ls, rw (← er) e)

  pub factor_fits : room_refusal n room ≡ 0 → factored_in n a s ≡ over_front n (factored n (take (n * n) a)) a s
  unfolding factored_in
  factor_fits e = rw e

  pub factor_front : room_refusal n room ≡ 0 → (k : ℕ) (y : List Float) (z : List ℕ) → factors k y z ≡ factored n (take (n * n) a)
      → factors k (y ++ drop (n * n) a) (z ++ drop n s) ≡ factored_in n a s
  factor_front h k y z e = ap (λ (f : Factors). over_front n f a s) e ∙ sym (factor_fits h)

  pub factor_exit : {A : Type 0} {t : Result A Refusal} {e : Refusal} → t ≡ Err e → code t ≡ room_refusal n room → (r : Result A Refusal) → IsErrAnd r (λ y. y ≡ e)
      → factors (code r) a s ≡ factored_in n a s
  unfolding factored_in
  factor_exit {e = e} p h r q = rw (code_exit p h r q, refused p h, ne_eqb (number e) 0 (number_positive e))
