-- The pass over an arm's links, as demand 3 needs it: from links that are fresh where unmarked it leaves what the full pass leaves, and unmarked links and
-- blocks stay. Each law is that of any store. Assumes nothing.
use mathlib.Core.Path.{◌≡◌, refl, sym, ap, ap₂, ◌∙◌}
use Prim.Native.Nat.{ℕ, zero, suc, ◌*◌, ◌≤◌, ◌<◌}
use mathlib.Core.Bool.{Bool}
use mathlib.Core.List.{List, ◌++◌}
use native.Mathlib.Omega.{arith}
use lib.ListN.{length, set, drop, replicate, length-replicate, length-append}
use lib.Ieee.{Float}
use Rattle.kinematics.specs.Inner.{result_of, new_block, WorkedOut, blocks_laid}
use Rattle.arm.specs.Arm.{link_at}
use Rattle.lists.proofs.Numbers.{all_same}
use Rattle.limits.specs.Limits.{link_limit, block_size, table_size}
use Rattle.floats.specs.Floats.{zero32}
use Rattle.arm.specs.declared.Link.{Link}
use Rattle.kinematics.specs.Link.{Kept, finite_kept, with_kept}
use Rattle.kinematics.specs.Answers.{Refreshed}
use Rattle.kinematics.specs.Pass.{run}
use Rattle.kinematics.specs.State.{State, state, inputs_of, kept_at, put_kept, kept_ops, state_after, fine_after, cleared, parent_at, every_link}
use Rattle.kinematics.proofs.Pass.{new_same, only, run_same, full_fresh}
use Rattle.kinematics.proofs.Laid.{laid_same, laid_front}
use Rattle.kinematics.proofs.Store.{laws}
use Rattle.kinematics.proofs.Turns.{new_of, tables_after, new_size}

-- ---- marks that agree

module _ (ls : List Link) (b b' : ℕ → Bool) (t : List Float) where
  pub state_marks : (n : ℕ) → ((j : ℕ) → j < n → b j ≡ b' j) → state_after ls n b t ≡ state_after ls n b' t
  unfolding state_after
  state_marks n h = run_same kept_ops (parent_at ls) (inputs_of ls) (state ls t) b b' n h

  pub fine_marks : (n : ℕ) → ((j : ℕ) → j < n → b j ≡ b' j) → fine_after ls n b t ≡ fine_after ls n b' t
  unfolding fine_after
  fine_marks n h = all_same n _ _ (λ j l. rw (h j l, state_marks n h))

  pub laid_marks : (new : ℕ → List Float) (w : List Float) (n : ℕ) → ((j : ℕ) → j < n → b j ≡ b' j) → blocks_laid b new n w ≡ blocks_laid b' new n w
  unfolding blocks_laid
  laid_marks new w zero h = refl
  laid_marks new w (suc n) h = rw (h n (omega arith), laid_marks new w n (λ j l. h j (omega arith)))

  pub worked_marks : (n : ℕ) → ((j : ℕ) → j < n → b j ≡ b' j) → (work work' : List (List Float)) (new : Refreshed) → WorkedOut ls n b t work work' new → WorkedOut ls n b' t work work' new
  unfolding new_block
  worked_marks n h work work' new k = record {
    test = k.test ∙ fine_marks n h;
    links = λ f. k.links f ∙ ap (λ (s : State). s.links) (state_marks n h);
    marked = λ f j l m. k.marked f j l (h j l ∙ m) ∙ ap (λ (s : State). (result_of ls s j).block) (state_marks j (λ i q. h i (omega arith)));
    beyond = k.beyond;
  }

-- ---- the full pass

module _ (ls : List Link) (sized : length ls ≡ link_limit) where
  -- every result is what its parent's gives
  pub every_fresh : (n : ℕ) → n ≤ link_limit → (t : List Float) → table_size ≤ length t → (j : ℕ) → j < n → kept_at (state_after ls n every_link t) j ≡ result_of ls (state_after ls n every_link t) j
  unfolding state_after laws
  every_fresh n fit t long = full_fresh kept_ops (parent_at ls) (inputs_of ls) link_limit n fit laws (state ls t) (sized, long)

  module _ (t t' : List Float) (long : table_size ≤ length t) (long' : table_size ≤ length t') where
    -- so it is the same over any tables
    pub every_kept : (n : ℕ) → n ≤ link_limit → (j : ℕ) → j < n → kept_at (state_after ls n every_link t) j ≡ kept_at (state_after ls n every_link t') j
    every_kept n fit = only kept_ops (parent_at ls) (inputs_of ls) n _ _ (every_fresh n fit t long) (every_fresh n fit t' long')

    every_new : (j : ℕ) → j ≤ link_limit → new_of ls every_link t j ≡ new_of ls every_link t' j
    every_new j h = new_same kept_ops (parent_at ls) (inputs_of ls) (parent_at ls) (inputs_of ls) _ _ j refl refl (λ q. every_kept j h (parent_at ls j) q)

    pub every_links : (n : ℕ) → n ≤ link_limit → (state_after ls n every_link t).links ≡ (state_after ls n every_link t').links
    unfolding state_after run put_kept
    every_links zero h = refl
    every_links (suc n) h = ap₂ (λ (l : List Link) (k : Kept). set l n (with_kept (link_at l n) k)) (every_links n (omega arith)) (every_new n (omega arith))

    pub every_fine : (n : ℕ) → n ≤ link_limit → fine_after ls n every_link t ≡ fine_after ls n every_link t'
    unfolding fine_after
    every_fine n fit = all_same n _ _ (λ j h. ap finite_kept (every_kept n fit j h))

  -- what a work area of zeros holds in the end, with the memory behind the tables, is the full pass over cleared tables
  pub every_tables : (n : ℕ) → n ≤ link_limit → (t : List Float) → table_size ≤ length t
      → blocks_laid every_link (new_block ls every_link t) n (replicate table_size zero32) ++ drop table_size t ≡ (state_after ls n every_link (cleared t)).tables
  unfolding new_block
  every_tables n fit t long =
      let z = replicate table_size zero32 in
      let e : length z ≡ table_size = length-replicate table_size zero32 in
      let c : table_size ≤ length (cleared t) = omega (arith, length-append z (drop table_size t)) in
      sym
      (tables_after ls every_link (cleared t) n
      ∙ laid_front every_link (new_block ls every_link (cleared t)) n (λ j h. new_size ls every_link (cleared t) n fit sized c j h) z (drop table_size t) (omega (arith, rise n fit)) n (omega arith)
      ∙ ap (λ (y : List Float). y ++ drop table_size t) (laid_same every_link _ _ z n (λ j h m. ap (λ (k : Kept). k.block) (every_new (cleared t) t c long j (omega arith)))))
    where
      rise : (n : ℕ) → n ≤ link_limit → n * block_size ≤ table_size
      rise n h = omega arith
