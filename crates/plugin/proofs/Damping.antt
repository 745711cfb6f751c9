-- Default damping as bytes: the floats' answer, with each float's bytes for the float.
use Prim.Native.Nat.{ℕ, zero, suc, min, ◌+◌, ◌*◌, ◌/◌, ◌≤◌}
use mathlib.Core.Path.{◌≡◌, refl, sym, ap, ◌∙◌}
use mathlib.Core.List.{List, [], ◌∷◌, ◌++◌, append_assoc}
use native.Mathlib.Omega.{arith}
use native.Mathlib.Decide.{dec_lt}
use borrow.Author.Tests.{le-leb, lt-leb}
use lib.Dec.{leb}
use lib.ListN.{length, take, drop, length-append, length-take}
use lib.Seq.{take_at}
use lib.Ieee.{Float}
use Rattle.lists.specs.Lists.{laid}
use Rattle.std.specs.Prelude.{Result, Ok, Err}
use Rattle.std.specs.Result.{IsErrAnd}
use Rattle.refusal.specs.Counted.{Outcome, counted_of, counted, out, filled}
use Rattle.refusal.specs.declared.Counted.{Counted}
use Rattle.refusal.specs.declared.Refusal.{Refusal}
use Rattle.refusal.proofs.Number.{number_positive}
use Rattle.masks.specs.Masks.{dofs_of, damping_row}
use Rattle.masks.specs.Answers.{damping_refusal, damping_answer}
use Rattle.masks.proofs.Laws.{dofs_le}
use Rattle.masks.proofs.Fills.{length-damping}
use Rattle.masks.proofs.Answers.{damping_fits}
use Rattle.plugin.specs.Bytes.{bytes_of, damping_bytes}

-- no mask has more than three DoFs, so room for three is room enough
same_room : (n room : ℕ) → n ≤ 3 → leb n (min room 3) ≡ leb n room
same_room n room h = elim (dec_lt room n) [
  | yes l ↦ lt-leb n (min room 3) (omega arith) ∙ sym (lt-leb n room l)
  | no l ↦ le-leb n (min room 3) (omega arith) ∙ sym (le-leb n room (omega arith))
]

same_refusal : (mask room : ℕ) → damping_refusal mask (min room 3) ≡ damping_refusal mask room
unfolding damping_refusal
same_refusal mask room = rw (same_room (dofs_of mask) room (dofs_le mask))

length-row : (mask : ℕ) → length (damping_row mask) ≡ dofs_of mask
unfolding damping_row dofs_of
length-row mask = length-damping mask 3

-- a row of three, down to its room
three_long : (k room : ℕ) (x : Float) → k ≡ min room 3 → length (take k (x ∷ x ∷ x ∷ [])) ≡ min room 3
three_long k room x e =
    let least : min k 3 ≡ min room 3 = omega arith in
    length-take k (x ∷ x ∷ x ∷ []) ∙ least

module _ (n : ℕ) (row old part : List Float) (a : Counted) (long : length row ≡ n) where
  count_within : (k : ℕ) → out a part ≡ filled k n row old → (k ≡ 0 → n ≤ length old) → (a.count ≤ length old) × (a.count ≤ length part)
  unfolding filled counted_of
  count_within zero e h =
      let memory : part ≡ row ++ drop (length row) old = ap (λ (o : Outcome Float). o.memory) e in
      let whole : length part ≡ length row + length (drop (length row) old) = ap length memory ∙ length-append row _ in
      rw (ap (λ (o : Outcome Float). o.answer.count) e) (h refl, omega arith)
  count_within (suc k) e h = rw (ap (λ (o : Outcome Float). o.answer.count) e) (omega arith, omega arith)

  -- the floats that were laid over a row are written; a refusal writes none
  as_bytes : (k : ℕ) → out a part ≡ filled k n row old → (rest : List Float) (lent bytes : List ℕ)
      → bytes ≡ laid (bytes_of (take a.count (part ++ rest))) lent → out a bytes ≡ filled k n (bytes_of row) lent
  unfolding filled counted_of bytes_of
  as_bytes zero e rest lent bytes q =
      let answer : a ≡ counted_of 0 n = ap (λ (o : Outcome Float). o.answer) e in
      let memory : part ≡ row ++ drop (length row) old = ap (λ (o : Outcome Float). o.memory) e in
      let whole : take n (part ++ rest) ≡ row =
      ap (λ (p : List Float). take n (p ++ rest)) memory ∙ ap (take n) (append_assoc row _ rest) ∙ take_at row _ n long in
      rw (q, answer, whole)
  as_bytes (suc k) e rest lent bytes q =
      let answer : a ≡ counted_of (suc k) n = ap (λ (o : Outcome Float). o.answer) e in
      rw (q, answer)

  -- a refusal leaves the memory
  as_refused : (k : ℕ) → out a part ≡ filled k n row old → (a.refusal ≡ 0 → ⊥) → (lent : List ℕ) → out a lent ≡ filled k n (bytes_of row) lent
  unfolding filled counted_of
  as_refused zero e h lent = absurd (h (ap (λ (o : Outcome Float). o.answer.refusal) e))
  as_refused (suc k) e h lent = ap (λ (o : Outcome Float). out o.answer lent) e

-- the call over a row of three floats, down to as many as the lent bytes have room for
module _ (mask : ℕ) (lent : List ℕ) (room : ℕ) (x : Float) (part rest : List Float) (t : Result ℕ Refusal) (small : room ≡ min (length lent / 4) 3)
    (e : out (counted t) part ≡ damping_answer mask (take room (x ∷ x ∷ x ∷ []))) where
  abbrev old : List Float
  old = take room (x ∷ x ∷ x ∷ [])

  long : length old ≡ min (length lent / 4) 3
  long = three_long room (length lent / 4) x small

  same : damping_refusal mask (length old) ≡ damping_refusal mask (length lent / 4)
  same = ap (damping_refusal mask) long ∙ same_refusal mask (length lent / 4)

  fits : ((counted t).count ≤ length old) × ((counted t).count ≤ length part)
  unfolding damping_answer
  fits = count_within (dofs_of mask) (damping_row mask) old part (counted t) (length-row mask) (damping_refusal mask (length old)) e (damping_fits mask (length old))

  pub count_fits : (n : ℕ) → t ≡ Ok n → n ≤ length (part ++ rest)
  count_fits n p = let h : n ≤ length part = (rw p at fits).1 in omega (arith, length-append part rest)

  pub count_taken : (n : ℕ) → t ≡ Ok n → n ≡ length (take n (part ++ rest))
  count_taken n p = omega (arith, count_fits n p, length-take n (part ++ rest))

  pub bytes_fit : (n : ℕ) → t ≡ Ok n → 4 * length (take n (part ++ rest)) ≤ length lent
  bytes_fit n p = let h : n ≤ length old = (rw p at fits).0 in omega (arith, long, length-take n (part ++ rest))

  pub as_written : (n : ℕ) → t ≡ Ok n → (bytes : List ℕ) → bytes ≡ laid (bytes_of (take n (part ++ rest))) lent → out (counted (Ok n)) bytes ≡ damping_bytes mask lent
  unfolding damping_answer damping_bytes
  as_written n p bytes q =
      rw (← same) (as_bytes (dofs_of mask) (damping_row mask) old part (counted (Ok n)) (length-row mask) (damping_refusal mask (length old)) (rw p at e) rest lent bytes q)

  pub stays : (r : Refusal) → t ≡ Err r → (u : Result ℕ Refusal) → IsErrAnd u (λ y. y ≡ r) → out (counted u) lent ≡ damping_bytes mask lent
  unfolding damping_answer damping_bytes
  stays r p (Ok n) q = absurd q
  stays r p (Err y) q =
      rw (q, ← same) (as_refused (dofs_of mask) (damping_row mask) old part (counted (Err r)) (length-row mask) (damping_refusal mask (length old)) (rw p at e) (number_positive r) lent)
