-- The ends of the solve: what each refusal and the result make of lent memory. By cases of the refusals.
use mathlib.Core.Path.{◌≡◌, refl, sym, ap, ◌∙◌}
use mathlib.Core.Bool.{Bool, true, false, ◌&&◌, and-false}
use mathlib.Core.List.{List, [], ◌∷◌, ◌++◌}
use Prim.Native.Nat.{ℕ, min, ◌*◌, ◌≤◌}
use native.Mathlib.Nat.{zero-add}
use native.Mathlib.Omega.{arith}
use native.Mathlib.Decide.{dec_lt}
use borrow.Author.Tests.{leb-true, le-leb, lt-leb, ne_eqb}
use lib.Dec.{leb}
use lib.ListN.{length, take, drop, replicate, length-append, length-drop, length-replicate}
use lib.Seq.{take_at, length-take-le}
use lib.Ieee.{Float}
use Rattle.std.specs.Prelude.{Result, Err}
use Rattle.std.specs.Result.{IsErrAnd}
use Rattle.lists.proofs.Bools.{both_hold}
use Rattle.limits.specs.Limits.{dof_limit}
use Rattle.refusal.specs.declared.Refusal.{Refusal}
use Rattle.refusal.specs.Refusal.{code, lowest, lower_of, unless_of}
use Rattle.refusal.proofs.Answers.{code_exit, refused}
use Rattle.refusal.proofs.Laws.{first_holds, rest_accepted}
use Rattle.refusal.proofs.Number.{number_positive}
use Rattle.refusal.proofs.Tests.{holds}
use Rattle.floats.specs.Floats.{all_finite}
use Rattle.floats.specs.Inner.{overlaid, copied_part}
use Rattle.floats.proofs.Rows.{overlaid_front}
use Rattle.floats.proofs.Parts.{copied_fits}
use Rattle.elimination.specs.Elimination.{Factors, factors, factored}
use Rattle.elimination.specs.Inner.{room_refusal, over_front, factored_in}
use Rattle.elimination.proofs.Rows.{square_mono}
use Rattle.elimination.proofs.Room.{room_accepted, room_none, factor_fits}
use Rattle.solve.specs.Solve.{permuted, forward, backward, Answer, answer, substituted, solution, into, solve_refusal, solve_of}
use Rattle.solve.specs.Inner.{substitute_of, solve_any}
use Rattle.solve.proofs.Sticky.{finite_backward}

-- ---- tests together

three : (p q r : Bool) → (p && q && r) ≡ true → (p ≡ true) × (q ≡ true) × (r ≡ true)
three p q r h = let a = both_hold (p && q) r h in ((both_hold p q a.0).0, (both_hold p q a.0).1, a.1)

four : (p q r s : Bool) → (p && q && r && s) ≡ true → (p ≡ true) × (q ≡ true) × (r ≡ true) × (s ≡ true)
four p q r s h = let a = both_hold (p && q && r) s h in let b = three p q r a.0 in (b.0, b.1, b.2, a.1)

fails : (b : Bool) (k : ℕ) → (unless_of b k ≡ 0 → ⊥) → b ≡ false
fails true k h = absurd (h refl)
fails false k h = refl

-- ---- lent memory

into_refused : (n k : ℕ) (o : Answer) (x : List Float) → (k ≡ 0 → ⊥) → into n k o x ≡ answer k x
unfolding into
into_refused n k o x h = rw (ne_eqb k 0 h)

into_trouble : (n k : ℕ) (l x : List Float) → (k ≡ 0 → ⊥) → into n 0 (answer k l) x ≡ answer k x
unfolding into
into_trouble n k l x h = rw (ne_eqb k 0 h)

into_good : (n : ℕ) (l x : List Float) → into n 0 (answer 0 l) x ≡ answer 0 (l ++ drop n x)
unfolding into
into_good n l x = refl

-- the exit of a `?`: r is what is given there, of what t gave
module _ {A : Type 0} {t : Result A Refusal} {e : Refusal} {k : ℕ} (p : t ≡ Err e) (h : code t ≡ k) where
  some : k ≡ 0 → ⊥
  some z = number_positive e (sym (refused p h) ∙ z)

  pub into_exit : (n : ℕ) (o : Answer) (x : List Float) (r : Result A Refusal) → IsErrAnd r (λ y. y ≡ e) → answer (code r) x ≡ into n k o x
  into_exit n o x r q = ap (λ (j : ℕ). answer j x) (code_exit p h r q) ∙ sym (into_refused n k o x some)

  -- o is in trouble by k
  pub trouble_exit : (n : ℕ) (o : Answer) (x : List Float) → o ≡ answer k [] → (r : Result A Refusal) → IsErrAnd r (λ y. y ≡ e) → answer (code r) x ≡ into n 0 o x
  trouble_exit n o x eo r q = ap (λ (j : ℕ). answer j x) (code_exit p h r q) ∙ sym (ap (λ (o : Answer). into n 0 o x) eo ∙ into_trouble n k [] x some)

-- ---- one right side

-- y is all unknowns, and f the code's test of them
module _ (n : ℕ) (a : List Float) (s : List ℕ) (b y : List Float) (e : y ≡ backward n a n (forward n a n 0 (permuted 0 s b))) (f : Bool) (ef : f ≡ all_finite y) where
  abbrev begun : List Float
  begun = forward n a n 0 (permuted 0 s b)

  pub substituted_wild : (unless_of f 12 ≡ 0 → ⊥) → substituted n a s b ≡ answer (unless_of f 12) []
  unfolding substituted
  substituted_wild h =
      let g = fails f 12 h in
      rw (← e, ← ef, g, and-false (all_finite begun))

  pub substituted_good : unless_of f 12 ≡ 0 → length y ≡ n → (r w : List Float) → n ≤ length r → w ≡ overlaid r y → answer 0 w ≡ into n 0 (substituted n a s b) r
  unfolding substituted
  substituted_good h ly r w l ew =
      let fine : all_finite (backward n a n begun) ≡ true = sym (ef ∙ ap all_finite e) ∙ holds f 11 h in
      let t : substituted n a s b ≡ answer 0 y = rw (fine, finite_backward n a n begun fine, e) in
      rw (t, into_good, ew, overlaid_front n r y ly l)

module _ (n : ℕ) (a : List Float) (s : List ℕ) (b x : List Float) where
  -- what is used of what is handed in; r is the code's test of the factors
  pub substitute_fits : (r : Bool) → r ≡ leb (n * n) (length a) → room_refusal n (r && leb n (length s) && leb n (length b) && leb n (length x)) ≡ 0
      → (n ≤ dof_limit) × (n * n ≤ length a) × (length (take (n * n) a) ≡ n * n) × (n ≤ length s) × (length (take n s) ≡ n) × (n ≤ length b) × (length (take n b) ≡ n) × (n ≤ length x)
  substitute_fits r er e =
      let h = room_accepted n _ e in
      let w = four r (leb n (length s)) (leb n (length b)) (leb n (length x)) h.0 in
      let la = leb-true (n * n) (length a) (sym er ∙ w.0) in
      let ls = leb-true n (length s) w.1 in
      let lb = leb-true n (length b) w.2 in
      (h.1, la, length-take-le (n * n) a la, ls, length-take-le n s ls, lb, length-take-le n b lb, leb-true n (length x) w.3)

  pub substitute_on : n ≤ dof_limit → n * n ≤ length a → n ≤ length s → n ≤ length b → n ≤ length x
      → substitute_of n a s b x ≡ into n 0 (substituted n (take (n * n) a) (take n s) (take n b)) x
  substitute_on l la ls lb lx = rw (le-leb (n * n) (length a) la, le-leb n (length s) ls, le-leb n (length b) lb, le-leb n (length x) lx, room_none n l)

-- ---- the solution

module _ (n : ℕ) (a b x : List Float) where
  abbrev found : Answer
  found = solution n (take (n * n) a) (take n b)

  pub any_fits : n ≤ dof_limit → n * n ≤ length a → n ≤ length b → n ≤ length x → solve_any n a b x ≡ into n 0 found x
  any_fits l la lb lx = rw (le-leb (n * n) (length a) la, le-leb n (length b) lb, le-leb n (length x) lx, room_none n l)

  -- r is the code's test of the matrix
  pub any_room : (r : Bool) → r ≡ leb (n * n) (length a) → room_refusal n (r && leb n (length b) && leb n (length x)) ≡ 0
      → (n ≤ dof_limit) × (n * n ≤ length a) × (n ≤ length b) × (n ≤ length x)
  any_room r er e =
      let h = room_accepted n _ e in
      let w = three r (leb n (length b)) (leb n (length x)) h.0 in
      (h.1, leb-true (n * n) (length a) (sym er ∙ w.0), leb-true n (length b) w.1, leb-true n (length x) w.2)

solution_trouble : (n : ℕ) (a b : List Float) (k : ℕ) → (factored n a).refusal ≡ k → (k ≡ 0 → ⊥) → solution n a b ≡ answer k []
unfolding solution
solution_trouble n a b k e h = rw (e, ne_eqb k 0 h)

solution_good : (n : ℕ) (a b : List Float) → (factored n a).refusal ≡ 0 → solution n a b ≡ substituted n (factored n a).rows (factored n a).swaps b
unfolding solution
solution_good n a b e = rw e

-- the front of a list whose rest is that of d
front_of : {A : Type 0} (k : ℕ) (l r d : List A) → l ≡ r ++ drop k d → length l ≡ length d → k ≤ length d → take k l ≡ r
front_of k l r d e g h =
    let q : length r ≡ k = omega (arith, ap length e ∙ length-append r (drop k d), length-drop k d) in
    rw e (take_at r (drop k d) k q)

-- the matrix m was copied over the room rows₀, and factored there: t, rows and swaps are what came of it
module _ (n : ℕ) (m b x rows₀ copied rows : List Float) (swaps₀ swaps : List ℕ) (t : ℕ) (hn : n ≤ dof_limit) (lm : n * n ≤ length m) (lr : n * n ≤ length rows₀) (ls : n ≤ length swaps₀)
    (ec : copied ≡ copied_part 0 0 (n * n) rows₀ m) (lc : length copied ≡ length rows₀) (lrows : length rows ≡ length copied) (lswaps : length swaps ≡ length swaps₀)
    (ef : factors t rows swaps ≡ factored_in n copied swaps₀) where
  copied_front : take (n * n) copied ≡ take (n * n) m
  copied_front =
      front_of (n * n) copied (take (n * n) m) rows₀ (ec ∙ copied_fits 0 0 (n * n) rows₀ m (omega arith) (omega arith) ∙ rw zero-add) lc lr

  factors_are : factors t rows swaps ≡ over_front n (factored n (take (n * n) m)) copied swaps₀
  factors_are =
      let room : room_refusal n (leb (n * n) (length copied) && leb n (length swaps₀)) ≡ 0 = rw (le-leb (n * n) (length copied) (omega arith), le-leb n (length swaps₀) ls, room_none n hn) in
      ef ∙ factor_fits n copied swaps₀ room ∙ ap (λ (l : List Float). over_front n (factored n l) copied swaps₀) copied_front

  trouble_is : t ≡ (factored n (take (n * n) m)).refusal
  trouble_is = ap (λ (f : Factors). f.refusal) factors_are

  rows_are : take (n * n) rows ≡ (factored n (take (n * n) m)).rows
  rows_are = front_of (n * n) rows _ copied (ap (λ (f : Factors). f.rows) factors_are) lrows (omega arith)

  swaps_are : take n swaps ≡ (factored n (take (n * n) m)).swaps
  swaps_are = front_of n swaps _ swaps₀ (ap (λ (f : Factors). f.swaps) factors_are) lswaps ls

  pub solve_trouble : (t ≡ 0 → ⊥) → solution n (take (n * n) m) (take n b) ≡ answer t []
  solve_trouble h = solution_trouble n (take (n * n) m) (take n b) t (sym trouble_is) h

  pub solve_good : t ≡ 0 → n ≤ length b → n ≤ length x → (o : Answer) → o ≡ substitute_of n rows swaps b x → o ≡ into n 0 (solution n (take (n * n) m) (take n b)) x
  solve_good h lb lx o e =
      let z : (factored n (take (n * n) m)).refusal ≡ 0 = sym trouble_is ∙ h in
      e ∙ substitute_on n rows swaps b x hn (omega arith) (omega arith) lb lx ∙ rw (rows_are, swaps_are, solution_good n (take (n * n) m) (take n b) z)

-- a buffer of c rows of c floats has room; l is its length
pub buffer_room : {A : Type 0} (n c l : ℕ) (r : A) → n ≤ c → l ≡ length (replicate c r) * c → n * n ≤ l
buffer_room n c l r h e = rw (e, length-replicate) (square_mono h)

pub swaps_room : (n c : ℕ) → n ≤ c → n ≤ length {A = ℕ} (replicate c 0)
swaps_room n c h = rw length-replicate h

-- ---- rules 1, 2 and 7

two_first : (d : Bool) → lowest (2 ∷ unless_of d 7 ∷ []) ≡ 2
unfolding lower_of
two_first true = refl
two_first false = refl

-- few is n cut to the limit: past it 2 is lower than 7
pub refusal_is : (n few : ℕ) (m b : List Float) (room : ℕ) → few ≡ min n dof_limit
    → lowest (unless_of (leb (n * n) (length m) && leb n (length b) && leb n room) 1 ∷ unless_of (leb n dof_limit) 2 ∷ unless_of (all_finite (take (few * few) m) && all_finite (take few b)) 7 ∷ [])
    ≡ solve_refusal n m b room
refusal_is n few m b room e = elim (dec_lt dof_limit n) [
  | yes l ↦ rw (lt-leb n dof_limit l, two_first (all_finite (take (few * few) m) && all_finite (take few b)), two_first (all_finite (take (n * n) m) && all_finite (take n b)))
  | no l ↦ let z : few ≡ n = omega arith in rw z
]

-- ---- the solve that rules 1, 2 and 7 let on
pub solve_on : (n : ℕ) (m b x : List Float) → solve_refusal n m b (length x) ≡ 0 → solve_any n m b x ≡ solve_of n m b x
solve_on n m b x none =
    let room = leb (n * n) (length m) && leb n (length b) && leb n (length x) in
    let seven = unless_of (all_finite (take (n * n) m) && all_finite (take n b)) 7 ∷ [] in
    let rest = unless_of (leb n dof_limit) 2 ∷ seven in
    let roomy = first_holds room 0 rest none in
    let few = first_holds (leb n dof_limit) 1 seven (rest_accepted (unless_of room 1) rest none) in
    let w = three (leb (n * n) (length m)) (leb n (length b)) (leb n (length x)) roomy in
    any_fits n m b x (leb-true n dof_limit few) (leb-true (n * n) (length m) w.0) (leb-true n (length b) w.1) (leb-true n (length x) w.2)
    ∙ ap (λ (j : ℕ). into n j (solution n (take (n * n) m) (take n b)) x) (sym none)
