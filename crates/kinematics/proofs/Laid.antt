-- Blocks laid over a list of blocks: the marked ones are the new, the others are as they were. Assumes nothing.
use mathlib.Core.Path.{◌≡◌, refl, sym, ap, ap₂, ◌∙◌}
use Prim.Native.Nat.{ℕ, zero, suc, ◌+◌, ◌*◌, ◌≤◌, ◌<◌}
use mathlib.Core.Bool.{Bool, true, false, cond}
use mathlib.Core.List.{List, ◌++◌, append_assoc}
use native.Mathlib.Omega.{arith}
use native.Mathlib.Numerals.{add-one}
use native.Mathlib.Decide.{dec_lt}
use lib.ListN.{length, take, drop}
use lib.Seq.{take-append-le, drop-append-le}
use lib.Ieee.{Float}
use Rattle.kinematics.specs.Inner.{blocks_laid}
use Rattle.lists.proofs.Parts.{room, block_same, block_other, block_length}
use Rattle.lists.specs.Lists.{with_part}
use Rattle.limits.specs.Limits.{block_size}
use Rattle.kinematics.specs.Blocks.{block_at, with_block}

pub laid_none : (b : ℕ → Bool) (new : ℕ → List Float) (t : List Float) → t ≡ blocks_laid b new 0 t
unfolding blocks_laid
laid_none b new t = refl

-- a turn of a loop that lays blocks
module _ (b : ℕ → Bool) (new : ℕ → List Float) (j : ℕ) (t l : List Float) (e : l ≡ blocks_laid b new j t) where
  pub laid_more : b j ≡ true → (p : List Float) → p ≡ new j → with_block j p l ≡ blocks_laid b new (j + 1) t
  unfolding blocks_laid
  laid_more h p q = rw (add-one, h, e, q)

  pub laid_skip : b j ≡ false → l ≡ blocks_laid b new (j + 1) t
  unfolding blocks_laid
  laid_skip h = rw (add-one, h, e)

-- blocks that agree where they are marked
pub laid_same : (b : ℕ → Bool) (new new' : ℕ → List Float) (t : List Float) (n : ℕ) → ((j : ℕ) → j < n → b j ≡ true → new j ≡ new' j) → blocks_laid b new n t ≡ blocks_laid b new' n t
unfolding blocks_laid
laid_same b new new' t zero h = refl
laid_same b new new' t (suc n) h = go (b n) refl (laid_same b new new' t n (λ j l. h j (omega arith)))
  where
    go : (m : Bool) → b n ≡ m → blocks_laid b new n t ≡ blocks_laid b new' n t
        → cond m (with_block n (new n) (blocks_laid b new n t)) (blocks_laid b new n t) ≡ cond m (with_block n (new' n) (blocks_laid b new' n t)) (blocks_laid b new' n t)
    go true e ih = ap₂ (with_block n) (h n (omega arith) e) ih
    go false e ih = ih

-- over a list of N blocks or longer
module _ (b : ℕ → Bool) (new : ℕ → List Float) (N : ℕ) (sized : (j : ℕ) → j < N → length (new j) ≡ block_size) (t : List Float) (long : N * block_size ≤ length t) where
  pub laid_length : (n : ℕ) → n ≤ N → length (blocks_laid b new n t) ≡ length t
  unfolding blocks_laid
  laid_length zero h = refl
  laid_length (suc n) h = go (b n) (laid_length n (omega arith))
    where
      go : (m : Bool) → length (blocks_laid b new n t) ≡ length t → length (cond m (with_block n (new n) (blocks_laid b new n t)) (blocks_laid b new n t)) ≡ length t
      go true e = block_length block_size N (blocks_laid b new n t) (omega arith) n (new n) h (sized n h) ∙ e
      go false e = e

  long_n : (n : ℕ) → n ≤ N → N * block_size ≤ length (blocks_laid b new n t)
  long_n n h = omega (arith, laid_length n h)

  -- past the first n the blocks are as they were
  pub laid_beyond : (n : ℕ) → n ≤ N → (k : ℕ) → n ≤ k → block_at k (blocks_laid b new n t) ≡ block_at k t
  unfolding blocks_laid
  laid_beyond zero h k l = refl
  laid_beyond (suc n) h k l = go (b n) (laid_beyond n (omega arith) k (omega arith))
    where
      go : (m : Bool) → block_at k (blocks_laid b new n t) ≡ block_at k t → block_at k (cond m (with_block n (new n) (blocks_laid b new n t)) (blocks_laid b new n t)) ≡ block_at k t
      go true e = block_other block_size N (blocks_laid b new n t) (long_n n (omega arith)) n k (new n) h (omega arith) (sized n h) ∙ e
      go false e = e

  -- of the first n, a marked block is the new one, any other as it was
  pub laid_block : (n : ℕ) → n ≤ N → (k : ℕ) → k < n → block_at k (blocks_laid b new n t) ≡ cond (b k) (new k) (block_at k t)
  unfolding blocks_laid
  laid_block zero h k l = absurd (omega arith)
  laid_block (suc n) h k l = elim (dec_lt k n) [
    | yes q ↦ kept (b n) q ∙ laid_block n (omega arith) k q
    | no q ↦ let e : k ≡ n = omega arith in rw e (own (b n))
  ]
    where
      kept : (m : Bool) → k < n → block_at k (cond m (with_block n (new n) (blocks_laid b new n t)) (blocks_laid b new n t)) ≡ block_at k (blocks_laid b new n t)
      kept true q = block_other block_size N (blocks_laid b new n t) (long_n n (omega arith)) n k (new n) h (omega arith) (sized n h)
      kept false q = refl

      own : (m : Bool) → block_at n (cond m (with_block n (new n) (blocks_laid b new n t)) (blocks_laid b new n t)) ≡ cond m (new n) (block_at n t)
      own true = block_same block_size N (blocks_laid b new n t) (long_n n (omega arith)) n (new n) h (sized n h)
      own false = laid_beyond n (omega arith) n (omega arith)

-- what lies behind the blocks stays
pub with_front : (a w : ℕ) (p s r : List Float) → a + w ≤ length s → with_part a w p (s ++ r) ≡ with_part a w p s ++ r
with_front a w p s r h =
    let x : a ≤ length s = omega arith in
    rw (take-append-le a s r x, drop-append-le (a + w) s r h) (sym (append_assoc (take a s) (p ++ drop (a + w) s) r ∙ ap (λ (y : List Float). take a s ++ y) (append_assoc p (drop (a + w) s) r)))

pub laid_front : (b : ℕ → Bool) (new : ℕ → List Float) (N : ℕ) → ((j : ℕ) → j < N → length (new j) ≡ block_size) → (s r : List Float) → N * block_size ≤ length s → (n : ℕ) → n ≤ N
    → blocks_laid b new n (s ++ r) ≡ blocks_laid b new n s ++ r
unfolding blocks_laid
laid_front b new N sized s r long zero h = refl
laid_front b new N sized s r long (suc n) h = go (b n) (laid_front b new N sized s r long n (omega arith))
  where
    go : (m : Bool) → blocks_laid b new n (s ++ r) ≡ blocks_laid b new n s ++ r
        → cond m (with_block n (new n) (blocks_laid b new n (s ++ r))) (blocks_laid b new n (s ++ r)) ≡ cond m (with_block n (new n) (blocks_laid b new n s)) (blocks_laid b new n s) ++ r
    go true e = ap (with_block n (new n)) e ∙ with_front (n * block_size) block_size (new n) (blocks_laid b new n s) r (omega (arith, room block_size h, laid_length b new N sized s long n (omega arith)))
    go false e = e
