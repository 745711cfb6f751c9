-- Loops that fill lent memory: the row so far is laid over its front. Assumes nothing.
use Prim.Native.Nat.{ℕ, zero, suc, ◌+◌, ◌<◌}
use mathlib.Core.Path.{◌≡◌, refl, sym, ap, ◌∙◌}
use mathlib.Core.Bool.{true, false, cond}
use mathlib.Core.List.{List, [], ◌∷◌, ◌++◌, append_assoc, append-nil}
use native.Mathlib.Omega.{arith}
use native.Mathlib.Numerals.{add-one}
use lib.ListN.{length, set, length-append, length-set}
use lib.Seq.{drop-cons, set_at}
use lib.Ieee.{Float, nan}
use Rattle.lists.specs.Lists.{laid}
use Rattle.masks.specs.Masks.{is_free, dofs_below, damping_of, damping_below}
use Rattle.masks.specs.Starts.{start_of, starts_to}
use Rattle.masks.proofs.Laws.{below_suc, one_entry}
use Rattle.masks.proofs.Totals.{length-starts_to}

-- at first nothing is laid
pub laid_none : {A : Type 0} (old : List A) → old ≡ laid [] old
laid_none old = refl

-- one entry more
laid_more : {A : Type 0} (row old l : List A) (i : ℕ) (x d : A) → l ≡ laid row old → length row ≡ i → i < length old
    → set l i x ≡ laid (row ++ (x ∷ [])) old
laid_more row old l i x d e n h =
    let m : length (row ++ (x ∷ [])) ≡ suc i = simp length-append (omega arith) in
    rw (e, n, m, drop-cons old i d h, set_at row _ _ x i n, append_assoc)

-- ---- starts

pub starts_more : (ms old l : List ℕ) (i start : ℕ) → l ≡ laid (starts_to ms i) old → start ≡ start_of ms i → i < length old
    → set l i start ≡ laid (starts_to ms (i + 1)) old
unfolding starts_to
starts_more ms old l i start e s h = rw (s, add-one) (laid_more (starts_to ms i) old l i (start_of ms i) 0 e (length-starts_to ms i) h)

-- ---- damping

damping_suc : (m a : ℕ) → damping_below m (suc a) ≡ damping_below m a ++ cond (is_free m a) (damping_of a ∷ []) []
unfolding damping_below
damping_suc m a = refl

-- an entry for each DoF
pub length-damping : (m a : ℕ) → length (damping_below m a) ≡ dofs_below m a
unfolding damping_below dofs_below
length-damping m zero = refl
length-damping m (suc a) = simp length-append (omega (arith, length-damping m a, one_entry (damping_of a) (is_free m a)))

-- the axes below a are done: the next entry stands at their DoF count
pub record Damped (m a at : ℕ) (old l : List Float) : Type 0 where
  pub place : at ≡ dofs_below m a
  pub room : length l ≡ length old
  pub row : l ≡ laid (damping_below m a) old

pub damped_none : (m : ℕ) (old : List Float) → Damped m 0 0 old old
unfolding dofs_below damping_below
damped_none m old = record { place = refl; room = refl; row = laid_none old }

-- a turn of the loop at a free axis, and at a locked one
module _ (m a at next : ℕ) (old l new : List Float) (k : Damped m a at old l) where
  pub damped_free : (x : Float) → is_free m a ≡ true → at < length old → x ≡ damping_of a → new ≡ set l at x → next ≡ at + 1
      → Damped m (a + 1) next old new
  damped_free x f h e p q = record {
    place = rw (add-one a, below_suc m a, f) (omega (arith, k.place));
    room = ap length p ∙ length-set l at x ∙ k.room;
    row = rw (p, e, add-one a, damping_suc m a, f)
        (laid_more (damping_below m a) old l at (damping_of a) nan k.row (length-damping m a ∙ sym k.place) h);
  }

  pub damped_locked : is_free m a ≡ false → new ≡ l → next ≡ at → Damped m (a + 1) next old new
  damped_locked f p q = record {
    place = rw (add-one a, below_suc m a, f) (omega (arith, k.place));
    room = ap length p ∙ k.room;
    row = rw (p, add-one a, damping_suc m a, f, append-nil (damping_below m a)) k.row;
  }
