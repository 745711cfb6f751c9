-- The promises of the pass: states that keep the same of every link are equal, and the laws of any store say what is kept. Assumes nothing.
use mathlib.Core.Path.{◌≡◌, refl, sym, ap, ap₂, ◌∙◌}
use Prim.Native.Nat.{ℕ, zero, suc, ◌+◌, ◌*◌, ◌≤◌, ◌<◌}
use mathlib.Core.Bool.{Bool, true, false, cond}
use mathlib.Core.List.{List, [], ◌∷◌, ◌++◌, map}
use native.Mathlib.Omega.{arith}
use native.Mathlib.Decide.{dec_lt}
use native.Mathlib.Numerals.{add-one}
use lib.ListN.{length, set, take, drop, replicate, length-replicate, length-append, take-append-drop}
use lib.Seq.{ext_get_or, drop_at, length-take-le}
use lib.Ieee.{Float}
use Rattle.kinematics.specs.Inner.{result_of, new_block, blocks_laid}
use Rattle.arm.specs.Setters.{with_place}
use Rattle.lists.proofs.Parts.{blocks_same, block_front, replicated}
use Rattle.arm.specs.Arm.{no_link, link_at, locked_of}
use Rattle.lists.proofs.Numbers.{all_same}
use Rattle.limits.specs.Limits.{link_limit, block_size, table_size}
use Rattle.floats.specs.Floats.{zero32}
use Rattle.masks.specs.Masks.{dofs_of}
use Rattle.masks.specs.Starts.{start_of, total_of}
use Rattle.arm.specs.declared.Link.{Link}
use Rattle.kinematics.specs.Blocks.{block_at, zero_block, with_block}
use Rattle.kinematics.specs.Link.{Kept, finite_kept, with_kept}
use Rattle.kinematics.specs.Pass.{run}
use Rattle.kinematics.specs.State.{State, state, inputs_of, kept_at, put_kept, kept_ops, state_after, fine_after, cleared, parent_at, every_link}
use Rattle.kinematics.specs.Promises.{Fits, Ready, LikeFull, AllFresh, Stays, Rising, UpTo}
use Rattle.kinematics.proofs.Pass.{new_same, untouched, beyond, stays_good, pass_full, pass_tests}
use Rattle.kinematics.proofs.Laid.{laid_front, laid_length}
use Rattle.kinematics.proofs.Store.{Good, laws, blank, after_blank}
use Rattle.kinematics.proofs.Turns.{tables_after, new_size, start_more}
use Rattle.kinematics.proofs.Same.{every_fresh}

pub all_fresh : AllFresh
all_fresh ls n t f = every_fresh ls f.places n f.few t f.long

-- ---- what is kept, with the inputs, is the link and its block

pub link_back : (m g : State) (j : ℕ) → blank (link_at m.links j) ≡ blank (link_at g.links j) → kept_at m j ≡ kept_at g j → link_at m.links j ≡ link_at g.links j
unfolding kept_at with_place
link_back m g j e k = ap₂ with_kept e k

pub kept_block : (m g : State) (j : ℕ) → kept_at m j ≡ kept_at g j → block_at j m.tables ≡ block_at j g.tables
unfolding kept_at
kept_block m g j e = ap (λ (k : Kept). k.block) e

same_kept : (ls : List Link) (t t' : List Float) (j : ℕ) → block_at j t ≡ block_at j t' → kept_at (state ls t) j ≡ kept_at (state ls t') j
unfolding kept_at
same_kept ls t t' j e = λ i. record { world = (link_at ls j).world; shift02 = (link_at ls j).shift02; shift23 = (link_at ls j).shift23; block = e i }

-- ---- the pass from links and tables that fit

module _ (ls : List Link) (n : ℕ) (b : ℕ → Bool) (t : List Float) (f : Fits ls n t) where
  abbrev s : State
  s = state_after ls n b t

  pub after_good : Good (state_after ls n b t)
  unfolding state_after laws
  after_good = stays_good kept_ops (parent_at ls) (inputs_of ls) link_limit n f.few laws b (state ls t) (f.places, f.long)

  pub after_beyond : (j : ℕ) → n ≤ j → kept_at (state_after ls n b t) j ≡ kept_at (state ls t) j
  unfolding state_after laws
  after_beyond = beyond kept_ops (parent_at ls) (inputs_of ls) link_limit n f.few laws b (state ls t) (f.places, f.long)

  after_unmarked : (j : ℕ) → j < n → b j ≡ false → kept_at (state_after ls n b t) j ≡ kept_at (state ls t) j
  unfolding state_after laws
  after_unmarked = untouched kept_ops (parent_at ls) (inputs_of ls) link_limit n f.few laws b (state ls t) (f.places, f.long)

  -- its tables: as many blocks as there are links, and the memory behind them
  abbrev front : List Float
  front = blocks_laid b (new_block ls b t) n (take table_size t)

  enough : n * block_size ≤ length (take table_size t)
  enough = omega (arith, length-take-le table_size t f.long, f.few)

  front_length : length front ≡ table_size
  front_length = laid_length b (new_block ls b t) n (new_size ls b t n f.few f.places f.long) (take table_size t) enough n (omega arith) ∙ length-take-le table_size t f.long

  split : (state_after ls n b t).tables ≡ front ++ drop table_size t
  split =
      tables_after ls b t n
      ∙ ap (blocks_laid b (new_block ls b t) n) (sym (take-append-drop table_size t))
      ∙ laid_front b (new_block ls b t) n (new_size ls b t n f.few f.places f.long) (take table_size t) (drop table_size t) enough n (omega arith)

  front_block : (j : ℕ) → j < link_limit → block_at j front ≡ block_at j (state_after ls n b t).tables
  front_block j h = sym (ap (block_at j) split ∙ block_front block_size link_limit front (drop table_size t) front_length j h)

pub stays : Stays
stays ls n b t f = (
  λ j h e.
      let k : kept_at (state_after ls n b t) j ≡ kept_at (state ls t) j = elim (dec_lt j n) [
        | yes q ↦ after_unmarked ls n b t f j q (e q)
        | no q ↦ after_beyond ls n b t f j (omega arith)
      ] in
      (link_back (state_after ls n b t) (state ls t) j (after_blank ls n b t j) k, kept_block (state_after ls n b t) (state ls t) j k),
  ap (drop table_size) (split ls n b t f) ∙ drop_at (front ls n b t f) (drop table_size t) table_size (front_length ls n b t f),
)

-- ---- cleared tables

zeros_length : length (replicate table_size zero32) ≡ table_size
zeros_length = length-replicate table_size zero32

pub cleared_fits : (ls : List Link) (n : ℕ) (t : List Float) → Fits ls n t → Fits ls n (cleared t)
cleared_fits ls n t f = record {
  places = f.places;
  few = f.few;
  long = omega (arith, length-append (replicate table_size zero32) (drop table_size t), zeros_length);
}

pub cleared_block : (t : List Float) (j : ℕ) → j < link_limit → block_at j (cleared t) ≡ zero_block
cleared_block t j h =
    block_front block_size link_limit (replicate table_size zero32) (drop table_size t) zeros_length j h ∙ replicated block_size link_limit zero32 j h

-- ---- like the full pass

module _ (ls : List Link) (n : ℕ) (b : ℕ → Bool) (t : List Float) (f : Fits ls n t) (r : Ready ls n b t) where
  f' : Fits ls n (cleared t)
  f' = cleared_fits ls n t f

  full_kept : (j : ℕ) → j < n → kept_at (state_after ls n b t) j ≡ kept_at (state_after ls n every_link (cleared t)) j
  unfolding state_after laws
  full_kept = pass_full kept_ops (parent_at ls) (inputs_of ls) link_limit n f.few laws b r.closed (state ls t) (f.places, f.long) r.fresh (state ls (cleared t)) (f'.places, f'.long)

  full_fine : fine_after ls n b t ≡ fine_after ls n every_link (cleared t)
  unfolding fine_after state_after laws
  full_fine =
      pass_tests kept_ops (parent_at ls) (inputs_of ls) link_limit n f.few laws b r.closed (state ls t) (f.places, f.long) r.fresh
      (state ls (cleared t)) (f'.places, f'.long) finite_kept r.finite

  same_all : (j : ℕ) → j < link_limit → kept_at (state_after ls n b t) j ≡ kept_at (state_after ls n every_link (cleared t)) j
  same_all j h = elim (dec_lt j n) [
    | yes q ↦ full_kept j q
    | no q ↦
        after_beyond ls n b t f j (omega arith)
        ∙ same_kept ls t (cleared t) j (r.unused j (omega arith) h ∙ sym (cleared_block t j h))
        ∙ sym (after_beyond ls n every_link (cleared t) f' j (omega arith))
  ]

  same_links : (state_after ls n b t).links ≡ (state_after ls n every_link (cleared t)).links
  same_links =
      ext_get_or no_link _ _ ((after_good ls n b t f).0 ∙ sym (after_good ls n every_link (cleared t) f').0) (λ j h.
      link_back (state_after ls n b t) (state_after ls n every_link (cleared t)) j
      (after_blank ls n b t j ∙ sym (after_blank ls n every_link (cleared t) j))
      (same_all j (omega (arith, (after_good ls n b t f).0))))

  same_tables : (state_after ls n b t).tables ≡ (state_after ls n every_link (cleared t)).tables
  same_tables =
      split ls n b t f
      ∙ ap₂ ◌++◌
      (blocks_same block_size link_limit _ _ (front_length ls n b t f) (front_length ls n every_link (cleared t) f') (λ j h.
      front_block ls n b t f j h
      ∙ kept_block (state_after ls n b t) (state_after ls n every_link (cleared t)) j (same_all j h)
      ∙ sym (front_block ls n every_link (cleared t) f' j h)))
      (sym (drop_at (replicate table_size zero32) (drop table_size t) table_size zeros_length))
      ∙ sym (split ls n every_link (cleared t) f')

pub like_full : LikeFull
like_full ls n b t f r = (ap₂ state (same_links ls n b t f r) (same_tables ls n b t f r), full_fine ls n b t f r)

-- ---- links that agree up to n

module _ (ls ls' : List Link) (n : ℕ) (b : ℕ → Bool) (t : List Float) (f : Fits ls n t) (f' : Fits ls' n t) (rising : Rising ls n) (same : (j : ℕ) → j < n → link_at ls j ≡ link_at ls' j) where
  parents : (j : ℕ) → j < n → parent_at ls j ≡ parent_at ls' j
  unfolding parent_at
  parents j h = ap (λ (l : Link). l.parent) (same j h)

  starts : (j : ℕ) → j ≤ n → start_of (map locked_of ls) j ≡ start_of (map locked_of ls') j
  unfolding start_of total_of
  starts zero h = refl
  starts (suc j) h =
      ap (start_of (map locked_of ls)) (sym (add-one j))
      ∙ sym (start_more ls j _ _ (omega (arith, f.places, f.few)) refl refl)
      ∙ ap₂ ◌+◌ (starts j (omega arith)) (ap (λ (l : Link). dofs_of l.joint.locked) (same j h))
      ∙ start_more ls' j _ _ (omega (arith, f'.places, f'.few)) refl refl
      ∙ ap (start_of (map locked_of ls')) (add-one j)

  inputs : (j : ℕ) → j < n → inputs_of ls j ≡ inputs_of ls' j
  unfolding inputs_of
  inputs j h =
      let p = same j h in
      let q = starts j (omega arith) in
      let u = ap (λ (l : Link). l.centre) (same (parent_at ls j) (omega (arith, rising j h))) ∙ ap (λ (k : ℕ). (link_at ls' k).centre) (parents j h) in
      λ r. record { joint = (p r).joint; centre = (p r).centre; start = q r; above = u r }

  same_put : (l l' : List Link) (k : ℕ) (x x' : Link) → length l ≡ length l' → x ≡ x' → (j : ℕ) → link_at l j ≡ link_at l' j → link_at (set l k x) j ≡ link_at (set l' k x') j
  same_put [] [] k x x' e p j q = q
  same_put [] (y ∷ l') k x x' e p j q = absurd (omega arith)
  same_put (y ∷ l) [] k x x' e p j q = absurd (omega arith)
  same_put (y ∷ l) (z ∷ l') zero x x' e p zero q = p
  same_put (y ∷ l) (z ∷ l') zero x x' e p (suc j) q = q
  same_put (y ∷ l) (z ∷ l') (suc k) x x' e p zero q = q
  same_put (y ∷ l) (z ∷ l') (suc k) x x' e p (suc j) q = same_put l l' k x x' (omega arith) p j q

  kept_same : (s s' : State) (j : ℕ) → link_at s.links j ≡ link_at s'.links j → s.tables ≡ s'.tables → kept_at s j ≡ kept_at s' j
  unfolding kept_at
  kept_same s s' j e q = λ r. record { world = (e r).world; shift02 = (e r).shift02; shift23 = (e r).shift23; block = block_at j (q r) }

  abbrev Agree : State → State → Type 0
  Agree s s' = ((j : ℕ) → j < n → link_at s.links j ≡ link_at s'.links j) × (s.tables ≡ s'.tables)

  put_agree : (s s' : State) (k : ℕ) (o o' : Kept) → k < n → length s.links ≡ length s'.links → Agree s s' → o ≡ o' → Agree (put_kept s k o) (put_kept s' k o')
  unfolding put_kept
  put_agree s s' k o o' h e a p = (
    λ j l. same_put s.links s'.links k _ _ e (ap₂ with_kept (a.0 k h) p) j (a.0 j l),
    ap₂ (with_block k) (ap (λ (x : Kept). x.block) p) a.1,
  )

  fits_at : (l : List Link) (k : ℕ) → k ≤ n → Fits l n t → Fits l k t
  fits_at l k h g = record { places = g.places; few = omega (arith, g.few); long = g.long }

  agree : (k : ℕ) → k ≤ n → Agree (state_after ls k b t) (state_after ls' k b t)
  unfolding state_after run
  agree zero h = (same, refl)
  agree (suc k) h = go (b k) (agree k (omega arith))
    where
      go : (m : Bool) → Agree (state_after ls k b t) (state_after ls' k b t)
          → Agree
          (cond m (put_kept (state_after ls k b t) k (result_of ls (state_after ls k b t) k)) (state_after ls k b t))
          (cond m (put_kept (state_after ls' k b t) k (result_of ls' (state_after ls' k b t) k)) (state_after ls' k b t))
      go true a =
          put_agree (state_after ls k b t) (state_after ls' k b t) k _ _ h
          ((after_good ls k b t (fits_at ls k (omega arith) f)).0 ∙ sym (after_good ls' k b t (fits_at ls' k (omega arith) f')).0)
          a
          (new_same kept_ops (parent_at ls) (inputs_of ls) (parent_at ls') (inputs_of ls') (state_after ls k b t) (state_after ls' k b t) k (parents k h) (inputs k h) (λ q.
          kept_same (state_after ls k b t) (state_after ls' k b t) (parent_at ls k) (a.0 (parent_at ls k) (omega arith)) a.1))
      go false a = a

  agree_fine : fine_after ls n b t ≡ fine_after ls' n b t
  unfolding fine_after
  agree_fine =
      let a = agree n (omega arith) in
      all_same n _ _ (λ j h. ap (λ (k : Kept). cond (b j) (finite_kept k) true) (kept_same (state_after ls n b t) (state_after ls' n b t) j (a.0 j h) a.1))

pub up_to : UpTo
up_to ls ls' n b t f f' rising same =
    let a = agree ls ls' n b t f f' rising same n (omega arith) in
    (a.0, a.1, agree_fine ls ls' n b t f f' rising same)
