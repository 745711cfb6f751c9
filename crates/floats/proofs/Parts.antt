-- What a copy and a move do where the parts fit. By arithmetic on the lengths.
use mathlib.Core.Path.{◌≡◌, sym, ap, ◌∙◌}
use mathlib.Core.Bool.{Bool, true, ◌&&◌}
use Prim.Native.Nat.{ℕ, ◌+◌, ◌≤◌}
use mathlib.Core.List.{List, append-nil}
use native.Mathlib.Omega.{arith}
use borrow.Author.Tests.{le-leb, leb-true}
use lib.Dec.{leb}
use lib.ListN.{length, drop_of_length-le}
use lib.Seq.{take_all}
use lib.Ieee.{Float}
use Rattle.floats.specs.Inner.{copied_part, moved_part}
use Rattle.lists.specs.Lists.{part, with_part}
use Rattle.lists.proofs.Bools.{both_hold}

-- two tests of parts, as the code makes them
module _ (at n l start k m : ℕ) (p q : Bool) (e : p ≡ leb (at + n) l) (f : q ≡ leb (start + k) m) where
  pub both_fit : (p && q) ≡ true → (at + n ≤ l) × (start + k ≤ m)
  both_fit h = let b = both_hold p q h in (leb-true (at + n) l (sym e ∙ b.0), leb-true (start + k) m (sym f ∙ b.1))

pub copied_fits : (at start n : ℕ) (d s : List Float) → at + n ≤ length d → start + n ≤ length s → copied_part at start n d s ≡ with_part at n (part start n s) d
unfolding copied_part
copied_fits at start n d s h g = rw (le-leb (at + n) (length d) h, le-leb (start + n) (length s) g)

pub moved_fits : (from to n : ℕ) (s : List Float) → from + n ≤ to → to + n ≤ length s → moved_part from to n s ≡ with_part to n (part from n s) s
unfolding moved_part
moved_fits from to n s h g = rw (le-leb (from + n) to h, le-leb (to + n) (length s) g)

-- all of a list goes into the part, or all of a list is the part
pub copied_whole : (at n : ℕ) (d s : List Float) → at + n ≤ length d → length s ≡ n → copied_part at 0 n d s ≡ with_part at n s d
copied_whole at n d s h e =
    copied_fits at 0 n d s h (omega arith) ∙ ap (λ (b : List Float). with_part at n b d) (take_all n s (omega arith))

pub copied_over : (start n : ℕ) (d s : List Float) → length d ≡ n → start + n ≤ length s → copied_part 0 start n d s ≡ part start n s
copied_over start n d s e h =
    copied_fits 0 start n d s (omega arith) h ∙ rw (drop_of_length-le d {i = 0 + n} (omega arith)) (append-nil (part start n s))
