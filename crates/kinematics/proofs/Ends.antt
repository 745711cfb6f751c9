-- The two passes' ends: too short, not finite, or done. Assumes nothing.
use mathlib.Core.Path.{◌≡◌, refl, sym, ap, subst, ◌∙◌}
use Prim.Native.Nat.{ℕ, min, ◌*◌, ◌≤◌, ◌<◌}
use mathlib.Core.Bool.{Bool, true, false}
use Rattle.std.proofs.lemmas.Bool.{true≢false}
use mathlib.Core.List.{List, [], ◌++◌}
use native.Mathlib.Omega.{arith}
use native.Mathlib.Decide.{dec_lt}
use borrow.Author.Tests.{le-leb}
use lib.Dec.{leb}
use lib.ListN.{length, take, drop, replicate, length-replicate, get_or-replicate, length-append}
use lib.Ieee.{Float}
use Rattle.kinematics.specs.Inner.{new_block, WorkedOut, blocks_laid, work_at}
use Rattle.lists.proofs.Parts.{blocks_same, replicated}
use Rattle.limits.specs.Limits.{link_limit, block_size, table_size}
use Rattle.floats.specs.Floats.{zero32}
use Rattle.arm.specs.declared.Link.{Link}
use Rattle.kinematics.specs.Blocks.{zero_block, block_at}
use Rattle.kinematics.specs.State.{State, marked, state_after, fine_after, cleared, every_link}
use Rattle.kinematics.specs.Answers.{Refreshed, out, passed, refresh_marked, refresh_all}
use Rattle.kinematics.proofs.Laid.{laid_same, laid_block, laid_beyond, laid_length}
use Rattle.kinematics.proofs.Front.{front_length, worked_front, tables_front}
use Rattle.kinematics.proofs.Turns.{new_size}
use Rattle.kinematics.proofs.Same.{laid_marks, worked_marks, every_links, every_fine, every_tables}

abbrev pub zeros : List Float
zeros = replicate table_size zero32

zeros_length : length zeros ≡ table_size
zeros_length = length-replicate table_size zero32

-- a work area that has yet to be written
abbrev pub no_work : List (List Float)
no_work = replicate link_limit zero_block

module _ (f : Bool) (s : State) (ls : List Link) (t : List Float) where
  pub passed_no : f ≡ false → out (record { fine = false; links = ls }) t ≡ passed f s ls t
  unfolding passed
  passed_no h = rw h

  pub passed_yes : f ≡ true → (r : Refreshed) (m : List Float) → r.fine ≡ true → r.links ≡ s.links → m ≡ s.tables → out r m ≡ passed f s ls t
  unfolding passed
  passed_yes h r m p q e = rw h (λ i. out (record { fine = p i; links = q i }) (e i))

-- each block of a list laid over, by blocks that agree where either is laid: what stood there counts for nothing
laid_over : (n : ℕ) → n ≤ link_limit → (f new : ℕ → List Float) (t : List Float) → length t ≡ table_size → ((j : ℕ) → j < n → length (new j) ≡ block_size)
    → ((j : ℕ) → j < n → f j ≡ new j) → ((j : ℕ) → n ≤ j → j < link_limit → f j ≡ zero_block)
    → blocks_laid every_link f link_limit t ≡ blocks_laid every_link new n zeros
laid_over n fit f new t long size same past =
    blocks_same block_size link_limit _ _
    (laid_length every_link f link_limit f_size t (omega (arith, long)) link_limit (omega arith) ∙ long)
    (laid_length every_link new n size zeros (omega (arith, enough, zeros_length)) n (omega arith) ∙ zeros_length)
    (λ j h. laid_block every_link f link_limit f_size t (omega (arith, long)) link_limit (omega arith) j h ∙ go j h)
  where
    enough : n * block_size ≤ table_size
    enough = omega (arith, fit)

    f_size : (j : ℕ) → j < link_limit → length (f j) ≡ block_size
    f_size j h = elim (dec_lt j n) [
      | yes q ↦ ap length (same j q) ∙ size j q
      | no q ↦ ap length (past j (omega arith) h) ∙ length-replicate block_size zero32
    ]

    go : (j : ℕ) → j < link_limit → f j ≡ block_at j (blocks_laid every_link new n zeros)
    go j h = elim (dec_lt j n) [
      | yes q ↦ same j q ∙ sym (laid_block every_link new n size zeros (omega (arith, enough, zeros_length)) n (omega arith) j q)
      | no q ↦
          past j (omega arith) h
          ∙ sym
          (laid_beyond every_link new n size zeros (omega (arith, enough, zeros_length)) n (omega arith) j (omega arith)
          ∙ replicated block_size link_limit zero32 j h)
    ]

module _ (ls : List Link) (count : ℕ) (t : List Float) where
  pub marked_short : (b : ℕ → Bool) → leb table_size (length t) ≡ false → out (record { fine = false; links = ls }) t ≡ refresh_marked ls count b t
  unfolding refresh_marked
  marked_short b h = passed_no _ _ ls t (rw h)

  pub all_short : leb table_size (length t) ≡ false → out (record { fine = false; links = ls }) t ≡ refresh_all ls count t
  unfolding refresh_all
  all_short h = passed_no _ _ ls t (rw h)

  pub is_marked : (b : ℕ → Bool) (n : ℕ) → n ≡ min count link_limit → table_size ≤ length t
      → passed (fine_after ls n b t) (state_after ls n b t) ls t ≡ refresh_marked ls count b t
  unfolding refresh_marked
  is_marked b n e long = rw (e, le-leb table_size (length t) long)

  -- over the front of the memory
  module _ (sized : length ls ≡ link_limit) (long : table_size ≤ length t) (front : List Float) (ef : front ≡ take table_size t) (n : ℕ) (e : n ≡ min count link_limit)
      (work : List (List Float)) (r : Refreshed) where
    fit : n ≤ link_limit
    fit = omega arith

    abbrev rest : List Float
    rest = drop table_size t

    module _ (b : ℕ → Bool) (k : WorkedOut ls n b front no_work work r) where
      over_front : WorkedOut ls n b (take table_size t) no_work work r
      over_front = subst (λ (f : List Float). WorkedOut ls n b f no_work work r) ef k

      over_all : WorkedOut ls n b t no_work work r
      over_all = worked_front ls sized b t long n fit no_work work r over_front

    -- ---- the marked links

    module _ (b : ℕ → Bool) (k : WorkedOut ls n b front no_work work r) where
      pub marked_no : r.fine ≡ false → out (record { fine = false; links = ls }) t ≡ refresh_marked ls count b t
      marked_no h = passed_no _ _ ls t (sym (over_all b k).test ∙ h) ∙ is_marked b n e long

      pub marked_yes : r.fine ≡ true → (m : List Float) → m ≡ blocks_laid b (work_at work) n front → out (record { fine = true; links = r.links }) (m ++ rest) ≡ refresh_marked ls count b t
      marked_yes h m q =
          passed_yes _ _ ls t (sym (over_all b k).test ∙ h) _ (m ++ rest) refl ((over_all b k).links h)
          (ap (λ (y : List Float). y ++ rest)
          (q ∙ ap (blocks_laid b (work_at work) n) ef ∙ laid_same b (work_at work) (new_block ls b (take table_size t)) (take table_size t) n ((over_front b k).marked h))
          ∙ tables_front ls sized b t long n fit)
          ∙ is_marked b n e long

    -- ---- all links

    abbrev every : ℕ → Bool
    every = marked (replicate link_limit true)

    is_every : (j : ℕ) → j < link_limit → every j ≡ every_link j
    is_every j h = get_or-replicate link_limit j true false h

    module _ (k : WorkedOut ls n every front no_work work r) where
      k' : WorkedOut ls n every_link t no_work work r
      k' = worked_marks ls every every_link t n (λ j h. is_every j (omega (arith, fit))) no_work work r (over_all every k)

      is_all : passed (fine_after ls n every_link (cleared t)) (state_after ls n every_link (cleared t)) ls t ≡ refresh_all ls count t
      unfolding refresh_all
      is_all = rw (e, le-leb table_size (length t) long)

      long' : table_size ≤ length (cleared t)
      long' = omega (arith, length-append zeros rest, zeros_length)

      test_all : r.fine ≡ fine_after ls n every_link (cleared t)
      test_all = k'.test ∙ every_fine ls sized t (cleared t) long long' n fit

      pub all_no : r.fine ≡ false → out (record { fine = false; links = ls }) t ≡ refresh_all ls count t
      all_no h = passed_no _ _ ls t (sym test_all ∙ h) ∙ is_all

      all_tables : r.fine ≡ true → blocks_laid every (work_at work) link_limit front ++ rest ≡ (state_after ls n every_link (cleared t)).tables
      all_tables h =
          ap (λ (y : List Float). y ++ rest)
          (laid_marks ls every every_link t (work_at work) front link_limit is_every
          ∙ laid_over n fit (work_at work) (new_block ls every_link t) front (ap length ef ∙ front_length t long) (new_size ls every_link t n fit sized long)
          (λ j l. k'.marked h j l refl) (λ j l m. k'.beyond h j l ∙ get_or-replicate link_limit j zero_block [] m))
          ∙ every_tables ls sized n fit t long

      pub all_yes : r.fine ≡ true → (m : List Float) → m ≡ blocks_laid every (work_at work) link_limit front
          → out (record { fine = true; links = r.links }) (m ++ rest) ≡ refresh_all ls count t
      all_yes h m q =
          passed_yes _ _ ls t (sym test_all ∙ h) _ (m ++ rest) refl
          (k'.links h ∙ every_links ls sized t (cleared t) long long' n fit)
          (ap (λ (y : List Float). y ++ rest) q ∙ all_tables h)
          ∙ is_all

-- ---- where a result isn't finite all is as it was

passed_stays : (f : Bool) (s : State) (ls : List Link) (t : List Float) → (passed f s ls t).answer.fine ≡ false → passed f s ls t ≡ out (record { fine = false; links = ls }) t
unfolding passed
passed_stays true s ls t h = absurd (true≢false h)
passed_stays false s ls t h = refl

pub marked_stays : (ls : List Link) (count : ℕ) (b : ℕ → Bool) (t : List Float) → (refresh_marked ls count b t).answer.fine ≡ false → refresh_marked ls count b t ≡ out (record { fine = false; links = ls }) t
unfolding refresh_marked
marked_stays ls count b t h = passed_stays _ _ ls t h

pub all_stays : (ls : List Link) (count : ℕ) (t : List Float) → (refresh_all ls count t).answer.fine ≡ false → refresh_all ls count t ≡ out (record { fine = false; links = ls }) t
unfolding refresh_all
all_stays ls count t h = passed_stays _ _ ls t h
