-- A number's bytes, over their width: they give the number back, and bytes give themselves back. Assumes nothing.
use mathlib.Core.Path.{◌≡◌, refl, sym, ap, ◌∙◌}
use mathlib.Core.Bool.{true}
use mathlib.Core.List.{List, [], ◌∷◌, ◌++◌, append_assoc}
use Prim.Native.Nat.{ℕ, zero, suc, min, ◌+◌, ◌-◌, ◌*◌, ◌/◌, ◌%◌, ◌^◌, ◌≤◌, ◌<◌}
use native.Mathlib.Nat.{mod-lt, div-add-mod', div-lt_iff_lt-mul, pow-suc}
use native.Mathlib.Omega.{arith}
use borrow.Author.Tests.{ltb-true, lt-ltb}
use lib.Dec.{ltb}
use lib.ListN.{length, take, drop, length-drop, take-append-drop}
use lib.Seq.{take_at, drop_at, drop-drop, length-take-le, take_all}
use Rattle.numerals.specs.Read.{number_of, number_at, are_bytes}
use Rattle.lists.proofs.Bools.{both_hold, both}
use Rattle.numerals.proofs.Storing.{room}
use Rattle.numerals.specs.Written.{Written, written, bytes_written}
use Rattle.numerals.specs.Bytes.{little_endian}
use Rattle.std.specs.Prelude.{replicate}
use Rattle.std.proofs.lemmas.List.{drop_min}
use borrow.Author.Rules.{part_to_end}
use Rattle.std.specs.Int.{w16, w32, from_le_bytes}

pub as_wide : (width n : ℕ) → length (little_endian width n) ≡ width
as_wide zero n = refl
as_wide (suc width) n = ap suc (as_wide width (n / 256))

pub are_bytes_lem : (width n : ℕ) → are_bytes (little_endian width n) ≡ true
unfolding are_bytes
are_bytes_lem zero n = refl
are_bytes_lem (suc width) n = both (lt-ltb (n % 256) 256 (mod-lt n (omega arith))) (are_bytes_lem width (n / 256))

-- reading what was written gives the number
pub number_back : (width n : ℕ) → n < 256 ^ width → number_of (little_endian width n) ≡ n
unfolding number_of
number_back zero n h = omega arith
number_back (suc width) n h =
    let l : n / 256 < 256 ^ width = (div-lt_iff_lt-mul {k = 256} {x = n} {y = 256 ^ width} (omega arith)).1 (rw pow-suc at h) in
    let d = div-add-mod' n 256 in
    rw (number_back width (n / 256) l) (omega arith)

-- writing what was read gives the bytes
pub bytes_back : (bs : List ℕ) → are_bytes bs ≡ true → little_endian (length bs) (number_of bs) ≡ bs
unfolding number_of are_bytes
bytes_back [] e = refl
bytes_back (b ∷ bs) e =
    let p = both_hold (ltb b 256) (are_bytes bs) e in
    let l = ltb-true b 256 p.0 in
    let low : (b + number_of bs * 256) % 256 ≡ b = omega arith in
    let high : (b + number_of bs * 256) / 256 ≡ number_of bs = omega arith in
    rw (low, high, bytes_back bs p.1)

-- a number that bytes stand for is as wide as they are
pub number_fits : (bs : List ℕ) → are_bytes bs ≡ true → number_of bs < 256 ^ length bs
unfolding number_of are_bytes
number_fits [] e = omega arith
number_fits (b ∷ bs) e =
    let p = both_hold (ltb b 256) (are_bytes bs) e in
    let l = ltb-true b 256 p.0 in
    let h = number_fits bs p.1 in
    rw pow-suc (omega arith)

-- ---- in a buffer, where they fit

module _ (width at : ℕ) (out : List ℕ) (fits : at + width ≤ length out) where
  -- a number that was written is read there
  pub read_back : (n : ℕ) → n < 256 ^ width → number_at width (bytes_written (written at out) (little_endian width n)).buffer at ≡ n
  read_back n h =
      let bytes = little_endian width n in
      let wide : length bytes ≡ width = as_wide width n in
      let stored = ap (λ (w : Written). w.buffer) (room out at bytes (omega arith)) in
      let there : drop at (bytes_written (written at out) bytes).buffer ≡ bytes ++ drop (at + length bytes) out =
      ap (drop at) (stored ∙ append_assoc (take at out) bytes _) ∙ drop_at (take at out) _ at (length-take-le at out (omega arith)) in
      ap (λ (l : List ℕ). number_of (take width l)) there ∙ ap number_of (take_at bytes _ width wide) ∙ number_back width n h

  -- a number that was read there is written as it stood
  pub write_back : are_bytes (take width (drop at out)) ≡ true → bytes_written (written at out) (little_endian width (number_at width out at)) ≡ written (at + width) out
  write_back e =
      let bytes = take width (drop at out) in
      let rest : length (drop at out) ≡ length out - at = length-drop at out in
      let wide : length bytes ≡ width = length-take-le width (drop at out) (omega arith) in
      let same : little_endian width (number_of bytes) ≡ bytes = ap (λ (k : ℕ). little_endian k (number_of bytes)) (sym wide) ∙ bytes_back bytes e in
      let whole : bytes ++ drop (at + width) out ≡ drop at out =
      ap (λ (l : List ℕ). bytes ++ l) (sym (drop-drop width at out)) ∙ take-append-drop width (drop at out) in
      ap (bytes_written (written at out)) same
      ∙ room out at bytes (omega arith)
      ∙ ap (λ (k : ℕ). written (at + k) (take at out ++ bytes ++ drop (at + k) out)) wide
      ∙ ap (written (at + width)) (append_assoc (take at out) bytes _ ∙ ap (λ (l : List ℕ). take at out ++ l) whole ∙ take-append-drop at out)

-- ---- bytes that are missing count as 0

zeros : (n : ℕ) → number_of (replicate n 0) ≡ 0
unfolding number_of
zeros zero = refl
zeros (suc n) = rw (zeros n) refl

over_zeros : (there : List ℕ) (width n : ℕ) → n ≡ min (length there) width → number_of (take n there ++ drop n (replicate width 0)) ≡ number_of (take width there)
unfolding number_of
over_zeros there zero zero e = refl
over_zeros there zero (suc n) e = absurd (omega arith)
over_zeros [] (suc width) zero e = zeros (suc width)
over_zeros [] (suc width) (suc n) e = absurd (omega arith)
over_zeros (b ∷ bs) (suc width) zero e = absurd (omega arith)
over_zeros (b ∷ bs) (suc width) (suc n) e = rw (over_zeros bs width n (omega arith)) refl

-- as many zeros, with the bytes that are there copied over their front
pub number_of_front : (bytes : List ℕ) (at k width n : ℕ) (front : List ℕ) → k ≡ min at (length bytes) → n ≡ min (length bytes - k) width
    → front ≡ take n (take (length bytes - k) (drop k bytes)) → number_of (front ++ drop n (replicate width 0)) ≡ number_at width bytes at
number_of_front bytes at k width n front p q f =
    let there = part_to_end bytes k in
    let l = length-drop k bytes in
    rw (f, there) (over_zeros (drop k bytes) width n (omega arith) ∙ rw (p, drop_min) refl)

-- std's numbers of two bytes and of four are these

first_two : (bytes : List ℕ) → from_le_bytes w16 bytes ≡ number_of (take 2 bytes)
unfolding number_of
first_two [] = refl
first_two (a ∷ []) = omega arith
first_two (a ∷ b ∷ l) = omega arith

first_four : (bytes : List ℕ) → from_le_bytes w32 bytes ≡ number_of (take 4 bytes)
unfolding number_of
first_four [] = refl
first_four (a ∷ []) = omega arith
first_four (a ∷ b ∷ []) = omega arith
first_four (a ∷ b ∷ c ∷ []) = omega arith
first_four (a ∷ b ∷ c ∷ d ∷ l) = omega arith

pub number_of_two : (bytes : List ℕ) → length bytes ≡ 2 → from_le_bytes w16 bytes ≡ number_of bytes
number_of_two bytes l = first_two bytes ∙ ap number_of (take_all 2 bytes (omega arith))

pub number_of_four : (bytes : List ℕ) → length bytes ≡ 4 → from_le_bytes w32 bytes ≡ number_of bytes
number_of_four bytes l = first_four bytes ∙ ap number_of (take_all 4 bytes (omega arith))
