-- What a call answers that solves J by the mass matrix: refused, in trouble or made, from what its parts give. Assumes nothing.
use Prim.Native.Nat.{ℕ, zero, suc, ◌*◌, ◌≤◌}
use mathlib.Core.Path.{◌≡◌, refl, sym, ap, ◌∙◌}
use mathlib.Core.Bool.{Bool}
use mathlib.Core.List.{List}
use native.Mathlib.Omega.{arith}
use native.Mathlib.Nat.{zero-add}
use lib.ListN.{length, take, replicate, length-replicate}
use lib.Seq.{take_all}
use lib.Ieee.{Float}
use Rattle.lists.specs.Lists.{laid}
use Rattle.limits.specs.Limits.{dof_limit}
use Rattle.std.specs.Prelude.{Result, Ok, Err}
use Rattle.std.specs.Result.{IsErrAnd}
use Rattle.refusal.specs.declared.Refusal.{Refusal}
use Rattle.refusal.specs.Refusal.{number, code, unless_of}
use Rattle.refusal.proofs.Answers.{refused as code_refused}
use Rattle.refusal.proofs.Number.{number_positive}
use Rattle.floats.specs.Floats.{zero32}
use Rattle.floats.specs.Inner.{overlaid, copied_part}
use Rattle.floats.proofs.Rows.{overlaid_front}
use Rattle.floats.proofs.Parts.{copied_fits}
use Rattle.solve.specs.Solve.{Answer, answer, solution, into}
use Rattle.solve.specs.Inner.{solve_any}
use Rattle.solve.proofs.Answers.{any_fits}
use Rattle.solve.proofs.Solved.{trouble_is, result_is, result_length}
use Rattle.unit_multibody_joint.specs.Outcome.{out, or_then, answered, solved_answer}

-- ---- any call: a refusal, met first or later

module _ {A : Type 0} (refused : ℕ → A) (r q : A) (x y j wj : List Float) where
  says : (n k : ℕ) → n ≡ k → (n ≡ 0 → ⊥) → r ≡ refused n → out r j wj ≡ answered k refused q x y j wj
  unfolding answered
  says n zero p h e = absurd (h p)
  says n (suc k) p h e = rw (e, p)

  gives : (k : ℕ) → k ≡ 0 → r ≡ q → (j₁ wj₁ : List Float) → j₁ ≡ laid x j → wj₁ ≡ laid y wj → out r j₁ wj₁ ≡ answered k refused q x y j wj
  unfolding answered
  gives zero h e j₁ wj₁ f g = rw (e, f, g)
  gives (suc k) h e j₁ wj₁ f g = absurd (omega arith)

or_first : (n k l : ℕ) → n ≡ k → (n ≡ 0 → ⊥) → n ≡ or_then k l
unfolding or_then
or_first n zero l p h = absurd (h p)
or_first n (suc k) l p h = p

or_second : (k l : ℕ) → k ≡ 0 → or_then k l ≡ l
unfolding or_then
or_second zero l h = refl
or_second (suc k) l h = absurd (omega arith)

-- the exit of a `?`: r is what is given there, of what t gave
module _ {A B C : Type 0} (told : Result B Refusal → A) (refused : ℕ → A) (errs : (e : Refusal) → told (Err e) ≡ refused (number e))
    {t : Result C Refusal} {e : Refusal} {k : ℕ} (p : t ≡ Err e) (h : code t ≡ k) where
  pub some : k ≡ 0 → ⊥
  some z = number_positive e (sym (code_refused p h) ∙ z)

  pub exit_is : (r : Result B Refusal) → IsErrAnd r (λ y. y ≡ e) → told r ≡ refused k
  exit_is (Ok x) q = absurd q
  exit_is (Err y) q = errs y ∙ ap (λ (x : Refusal). refused (number x)) q ∙ ap refused (sym (code_refused p h))

-- ---- a call that solves J

-- J, n long, can be solved by the matrix m
pub record Ready (n : ℕ) (row m : List Float) : Type 0 where
  pub few : n ≤ dof_limit
  pub long : length row ≡ n
  pub matrix : n * n ≤ length m

-- a row that is as long as there are unknowns
pub ready : (row m : List Float) → length row ≤ dof_limit → length row * length row ≤ length m → Ready (length row) row m
ready row m f h = record { few = f; long = refl; matrix = h }

module _ {n : ℕ} {row m : List Float} (on : Ready n row m) where
  abbrev zeros : List Float
  zeros = replicate dof_limit zero32

  abbrev o : Answer
  o = solution n (take (n * n) m) row

  room : n ≤ length zeros
  room = omega (arith, length-replicate dof_limit zero32, on.few)

  solved : solve_any n m row zeros ≡ into n 0 o zeros
  solved = any_fits n m row zeros on.few on.matrix (omega (arith, on.long)) room ∙ rw (take_all n row (omega (arith, on.long)))

  trouble : (solve_any n m row zeros).refusal ≡ o.refusal
  trouble = trouble_is n o zeros (solve_any n m row zeros).result (solve_any n m row zeros).refusal solved

  -- z is what came of the zeros
  module _ (z : List Float) (left : answer 0 z ≡ solve_any n m row zeros) (same : length z ≡ dof_limit) where
    good : o.refusal ≡ 0
    good = sym (trouble_is n o zeros z 0 (left ∙ solved))

    front : take n z ≡ o.result
    front = result_is n o zeros z 0 (left ∙ solved) refl room (same ∙ sym (length-replicate dof_limit zero32))

    front_length : length o.result ≡ n
    front_length = result_length n o zeros z 0 (left ∙ solved) refl room (same ∙ sym (length-replicate dof_limit zero32))

module _ {A : Type 0} (refused : ℕ → A) (fine : A → Bool) (made : List Float → A) where
  -- refused before
  pub refused_first : (n : ℕ) (row m j wj : List Float) (k : ℕ) → (k ≡ 0 → ⊥) → (r : A) → r ≡ refused k → out r j wj ≡ solved_answer refused fine made k n row m j wj
  unfolding solved_answer
  refused_first n row m j wj k h r e = says refused r _ _ _ j wj k _ (or_first k k _ refl h) h e

  module _ {n : ℕ} {row m : List Float} (on : Ready n row m) (j wj : List Float) where
    pub in_trouble : (k : ℕ) → (solve_any n m row (replicate dof_limit zero32)).refusal ≡ k → (k ≡ 0 → ⊥) → (r : A) → r ≡ refused k → out r j wj ≡ solved_answer refused fine made 0 n row m j wj
    unfolding solved_answer or_then
    in_trouble k e h r er = says refused r _ _ _ j wj k _ (or_first k (o on).refusal _ (sym e ∙ trouble on) h) h er

    -- r is what the code makes of z
    module _ (z : List Float) (left : answer 0 z ≡ solve_any n m row (replicate dof_limit zero32)) (same : length z ≡ dof_limit) (r : A) (er : r ≡ made (take n z)) where
      made_is : r ≡ made (o on).result
      made_is = er ∙ ap made (front on z left same)

      refusal_is : or_then (o on).refusal (unless_of (fine (made (o on).result)) 12) ≡ unless_of (fine r) 12
      refusal_is = or_second (o on).refusal _ (good on z left same) ∙ ap (λ (a : A). unless_of (fine a) 12) (sym made_is)

      pub not_finite : (k : ℕ) → unless_of (fine r) 12 ≡ k → (k ≡ 0 → ⊥) → (q : A) → q ≡ refused k → out q j wj ≡ solved_answer refused fine made 0 n row m j wj
      unfolding solved_answer or_then
      not_finite k e h q eq = says refused q _ _ _ j wj k _ (sym e ∙ sym refusal_is) h eq

      pub all_made : unless_of (fine r) 12 ≡ 0 → n ≤ length j → n ≤ length wj → (j₁ wj₁ : List Float) → j₁ ≡ overlaid j row → wj₁ ≡ copied_part 0 0 n wj z
          → out r j₁ wj₁ ≡ solved_answer refused fine made 0 n row m j wj
      unfolding solved_answer or_then
      all_made h lj lwj j₁ wj₁ ej ewj =
          let over : overlaid j row ≡ laid row j = overlaid_front n j row on.long lj ∙ rw on.long in
          let fits = copied_fits 0 0 n wj z (omega arith) (omega (arith, on.few, same)) in
          let copied : copied_part 0 0 n wj z ≡ laid (o on).result wj = fits ∙ rw (zero-add, front on z left same, front_length on z left same) in
          gives refused r _ _ _ j wj _ (refusal_is ∙ h) made_is j₁ wj₁ (ej ∙ over) (ewj ∙ copied)
