-- The tables are the front of the lent memory: a pass over the front alone leaves what the pass over all of the memory leaves there, and the rest stays. By turns.
use Rattle.std.proofs.Common.{ℕ, zero, suc, ◌*◌, ◌≤◌, ◌<◌, ◌≡◌, ◌∙◌, refl, sym, ap, arith, Bool, true, false, cond, List, ◌++◌, length, take, drop, set}
use mathlib.Core.Path.{ap₂, subst}
use native.Mathlib.Decide.{dec_lt}
use borrow.Author.Tests.{lt-leb, ltb-true}
use lib.Dec.{leb, ltb}
use Rattle.std.specs.Prelude.{Option, None, Some, IsSome, MatchOption, ◌↔◌, Ok, Err}
use Rattle.std.specs.Option.{ok_or}
use Rattle.std.proofs.lemmas.Bool.{true≢false}
use lib.ListN.{take-append-drop}
use lib.Seq.{length-take-le}
use lib.Ieee.{Float}
use Rattle.limits.specs.Limits.{link_limit, block_size, table_size}
use Rattle.lists.proofs.Numbers.{all_same}
use Rattle.lists.proofs.Parts.{block_front, take_drop_take}
use Rattle.arm.specs.declared.Link.{Link}
use Rattle.arm.specs.Arm.{link_at}
use Rattle.kinematics.specs.Answers.{Refreshed}
use Rattle.kinematics.specs.Blocks.{block_at, with_block}
use Rattle.kinematics.specs.Inner.{parent_before, kept_block, new_block, WorkedOut, blocks_laid}
use Rattle.kinematics.specs.Link.{Kept, finite_kept, with_kept}
use Rattle.kinematics.specs.Pass.{run}
use Rattle.kinematics.specs.State.{inputs_of, kept_at, put_kept, kept_ops, state_after, fine_after, parent_at}
use Rattle.kinematics.proofs.Laid.{laid_length, with_front}
use Rattle.kinematics.proofs.Pass.{new_same}
use Rattle.kinematics.proofs.Turns.{new_of, tables_after, new_size}

-- ---- one block

module _ (t : List Float) (long : table_size ≤ length t) where
  pub front_length : length (take table_size t) ≡ table_size
  front_length = length-take-le table_size t long

  pub front_back : (f : List Float) → f ≡ take table_size t → f ++ drop table_size t ≡ t
  front_back f e = ap (λ (y : List Float). y ++ drop table_size t) e ∙ take-append-drop table_size t

  pub block_kept : (j : ℕ) → j < link_limit → block_at j (take table_size t) ≡ block_at j t
  block_kept j h = take_drop_take (j * block_size) block_size table_size t (omega arith)

  pub block_put : (j : ℕ) (b : List Float) → j < link_limit → with_block j b (take table_size t) ++ drop table_size t ≡ with_block j b t
  block_put j b h =
      sym (with_front (j * block_size) block_size b (take table_size t) (drop table_size t) (omega (arith, front_length)))
      ∙ ap (with_block j b) (take-append-drop table_size t)

  -- the parent's, where there is one
  pub parent_kept : (l : Link) (j : ℕ) (parent : Option ℕ) → parent ≡ parent_before l j → j < link_limit → kept_block parent (take table_size t) ≡ kept_block parent t
  parent_kept l j parent e h = go (ltb l.parent j) refl ∙ ap (λ (o : Option ℕ). kept_block o t) (sym e)
    where
      go : (m : Bool) → ltb l.parent j ≡ m → kept_block parent (take table_size t) ≡ kept_block (parent_before l j) t
      go true q =
          ap (λ (o : Option ℕ). kept_block o (take table_size t)) (e ∙ ap (λ (m : Bool). cond m (Some l.parent) None) q)
          ∙ block_kept l.parent (omega (arith, ltb-true l.parent j q))
          ∙ ap (λ (m : Bool). kept_block (cond m (Some l.parent) None) t) (sym q)
      go false q =
          ap (λ (o : Option ℕ). kept_block o (take table_size t)) (e ∙ ap (λ (m : Bool). cond m (Some l.parent) None) q)
          ∙ ap (λ (m : Bool). kept_block (cond m (Some l.parent) None) t) (sym q)

-- ---- whether there is a front

pub front_short : {X E : Type 0} (o : Option X) (e : E) {y : E} (t : List Float) → IsSome o ↔ (table_size ≤ length t) → ok_or o e ≡ Err y → leb table_size (length t) ≡ false
front_short None e t v h = elim (dec_lt (length t) table_size) [ yes q ↦ lt-leb table_size (length t) q | no q ↦ absurd (true≢false (sym (v.1 (omega arith)))) ]
front_short (Some x) e t v h = absurd (cc)

pub front_found : {X E : Type 0} (o : Option X) (e : E) {x : X} (P : Type 0) (Q : X → Type 0) → MatchOption o P Q → ok_or o e ≡ Ok x → Q x
front_found None e P Q m h = absurd (cc)
front_found (Some y) e {x} P Q m h = let z : y ≡ x = cc in subst Q z m

-- ---- the pass

module _ (ls : List Link) (sized : length ls ≡ link_limit) (b : ℕ → Bool) (t : List Float) (long : table_size ≤ length t) where
  abbrev front : List Float
  front = take table_size t

  abbrev rest : List Float
  rest = drop table_size t

  left_length : (n : ℕ) → n ≤ link_limit → length (state_after ls n b front).tables ≡ table_size
  left_length n fit =
      ap length (tables_after ls b front n)
      ∙ laid_length b (new_block ls b front) n (new_size ls b front n fit sized (omega (arith, front_length t long))) front (omega (arith, front_length t long)) n (omega arith)
      ∙ front_length t long

  abbrev Agree : ℕ → Type 0
  Agree n = ((state_after ls n b front).links ≡ (state_after ls n b t).links) × ((state_after ls n b t).tables ≡ (state_after ls n b front).tables ++ rest)

  kept_same : (n : ℕ) → n ≤ link_limit → Agree n → (j : ℕ) → j < link_limit → kept_at (state_after ls n b front) j ≡ kept_at (state_after ls n b t) j
  unfolding kept_at
  kept_same n fit a j h =
      let e : block_at j (state_after ls n b front).tables ≡ block_at j (state_after ls n b t).tables =
      sym (ap (block_at j) a.1 ∙ block_front block_size link_limit (state_after ls n b front).tables rest (left_length n fit) j h) in
      let k = ap (λ (l : List Link). link_at l j) a.0 in
      λ i. record { world = (k i).world; shift02 = (k i).shift02; shift23 = (k i).shift23; block = e i }

  new_agree : (n : ℕ) → n < link_limit → Agree n → new_of ls b front n ≡ new_of ls b t n
  new_agree n h a = new_same kept_ops (parent_at ls) (inputs_of ls) (parent_at ls) (inputs_of ls) (state_after ls n b front) (state_after ls n b t) n refl refl (λ q. kept_same n (omega arith) a (parent_at ls n) (omega arith))

  pub agree : (n : ℕ) → n ≤ link_limit → Agree n
  unfolding state_after run put_kept
  agree zero h = (refl, sym (take-append-drop table_size t))
  agree (suc n) h = go (b n) (agree n (omega arith))
    where
      go : (m : Bool) → Agree n
          → ((cond m (put_kept (state_after ls n b front) n (new_of ls b front n)) (state_after ls n b front)).links ≡ (cond m (put_kept (state_after ls n b t) n (new_of ls b t n)) (state_after ls n b t)).links)
          × ((cond m (put_kept (state_after ls n b t) n (new_of ls b t n)) (state_after ls n b t)).tables ≡ (cond m (put_kept (state_after ls n b front) n (new_of ls b front n)) (state_after ls n b front)).tables ++ rest)
      go true a =
          let k = new_agree n h a in (
            ap₂ (λ (l : List Link) (o : Kept). set l n (with_kept (link_at l n) o)) a.0 k,
            ap₂ (with_block n) (ap (λ (o : Kept). o.block) (sym k)) a.1
                ∙ with_front (n * block_size) block_size (new_of ls b front n).block (state_after ls n b front).tables rest (omega (arith, left_length n (omega arith))),
          )
      go false a = a

  pub worked_front : (n : ℕ) → n ≤ link_limit → (work work' : List (List Float)) (new : Refreshed) → WorkedOut ls n b front work work' new → WorkedOut ls n b t work work' new
  unfolding new_block fine_after
  worked_front n fit work work' new k = record {
    test = k.test ∙ all_same n _ _ (λ j h. ap (λ (o : Kept). cond (b j) (finite_kept o) true) (kept_same n fit (agree n fit) j (omega arith)));
    links = λ f. k.links f ∙ (agree n fit).0;
    marked = λ f j h m. k.marked f j h m ∙ ap (λ (o : Kept). o.block) (new_agree j (omega arith) (agree j (omega arith)));
    beyond = k.beyond;
  }

  -- the tables that are left
  pub tables_front : (n : ℕ) → n ≤ link_limit → blocks_laid b (new_block ls b front) n front ++ rest ≡ (state_after ls n b t).tables
  tables_front n fit = ap (λ (y : List Float). y ++ rest) (sym (tables_after ls b front n)) ∙ sym (agree n fit).1
