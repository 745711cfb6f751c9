-- A turn of the pass, whose blocks go into a work area: the link and its block are what the definition works out, as the parent's block is found where it
-- was laid. Assumes nothing.
use mathlib.Core.Path.{◌≡◌, refl, sym, ap, ap₂, ◌∙◌, subst}
use Prim.Native.Nat.{ℕ, zero, suc, ◌+◌, ◌*◌, ◌≤◌, ◌<◌}
use mathlib.Core.Bool.{Bool, true, false, cond, ◌&&◌, and-true}
use Rattle.std.proofs.lemmas.Bool.{true≢false}
use mathlib.Core.List.{List, [], map}
use Rattle.std.specs.Prelude.{◌≢◌, Option, None, Some}
use Rattle.std.specs.Option.{option_map}
use native.Mathlib.Omega.{arith}
use native.Mathlib.Numerals.{add-one}
use native.Mathlib.Decide.{dec_lt}
use borrow.Author.Tests.{lt-ltb, le-ltb}
use lib.Dec.{ltb}
use lib.ListN.{length, set, length-set, length-map, get_or-map}
use lib.Seq.{get_or-set_same, get_or-set_other}
use lib.Ieee.{Float}
use Rattle.kinematics.specs.Inner.{copied_from, posed_of, parent_before, work_at, Turned, TurnedTo, result_of, new_block, WorkedOut, blocks_laid}
use Rattle.kinematics.specs.Answers.{Refreshed}
use Rattle.arm.specs.Setters.{with_place}
use Rattle.arm.specs.Arm.{no_link, link_at, locked_of}
use Rattle.lists.specs.Numbers.{all_below}
use Rattle.limits.specs.Limits.{link_limit, dof_limit, block_size, table_size}
use Rattle.floats.specs.Floats.{all_finite}
use Rattle.masks.specs.Masks.{dofs_of}
use Rattle.masks.specs.Starts.{start_of, total_of}
use Rattle.masks.proofs.Totals.{start_next, start_le}
use Rattle.arm.specs.declared.Link.{Link}
use Rattle.kinematics.specs.declared.Posed.{Posed}
use Rattle.kinematics.specs.Blocks.{block_at, with_block}
use Rattle.kinematics.specs.Link.{Kept, Inputs, later_posed, root_posed, block_from, kept_of, root_kept, later_kept, finite_place, finite_kept, with_kept}
use Rattle.kinematics.specs.Pass.{run}
use Rattle.kinematics.specs.State.{State, state, inputs_of, kept_at, put_kept, kept_ops, state_after, fine_after, parent_at}
use Rattle.kinematics.proofs.Pass.{turn_shape, tests_run}
use Rattle.kinematics.proofs.Laid.{laid_block}
use Rattle.kinematics.proofs.Store.{laws, blank, after_blank}

-- ---- starts, along the links' masks

pub start_more : (ls : List Link) (j start d : ℕ) → j < length ls → start ≡ start_of (map locked_of ls) j → d ≡ dofs_of (link_at ls j).joint.locked
    → start + d ≡ start_of (map locked_of ls) (j + 1)
start_more ls j start d h e q =
    ap₂ ◌+◌ e (q ∙ ap dofs_of (sym (get_or-map locked_of ls j no_link)))
    ∙ sym (start_next (map locked_of ls) j (locked_of no_link) (rw (length-map ls locked_of) h))

pub start_room : (ls : List Link) (j start n : ℕ) → j < n → n ≤ link_limit → start ≡ start_of (map locked_of ls) j → start + 3 ≤ dof_limit
start_room ls j start n h l e = omega (arith, start_le (map locked_of ls) j)

-- ---- the pass, turn by turn

module _ (ls : List Link) (b : ℕ → Bool) (t : List Float) where
  -- what link j's turn works out
  abbrev pub new_of : ℕ → Kept
  new_of j = result_of ls (state_after ls j b t) j

  -- the results so far are finite
  abbrev pub fine_to : ℕ → Bool
  fine_to j = all_below j (λ i. cond (b i) (finite_kept (new_of i)) true)

  pub none_links : ls ≡ (state_after ls 0 b t).links
  unfolding state_after run
  none_links = refl

  pub skip_links : (j : ℕ) (links : List Link) → links ≡ (state_after ls j b t).links → b j ≡ false → links ≡ (state_after ls (j + 1) b t).links
  unfolding state_after run
  skip_links j links e h = rw (add-one, h, e)

  pub more_links : (j : ℕ) (links : List Link) → links ≡ (state_after ls j b t).links → b j ≡ true → (l : Link) → l ≡ with_kept (link_at links j) (new_of j)
      → set links j l ≡ (state_after ls (j + 1) b t).links
  unfolding state_after run put_kept
  more_links j links e h l q = rw (add-one, h, q, e)

  pub fine_skip : (j : ℕ) (f : Bool) → f ≡ fine_to j → b j ≡ false → f ≡ fine_to (j + 1)
  unfolding all_below
  fine_skip j f e h = e ∙ rw (add-one, h) (sym (and-true _))

  pub fine_more : (j : ℕ) (f g : Bool) → f ≡ fine_to j → b j ≡ true → g ≡ finite_kept (new_of j) → (f && g) ≡ fine_to (j + 1)
  unfolding all_below
  fine_more j f g e h q = rw (add-one, h, e, q)

  -- the tables that the pass leaves are the blocks laid over them
  pub tables_after : (n : ℕ) → (state_after ls n b t).tables ≡ blocks_laid b (new_block ls b t) n t
  unfolding state_after run blocks_laid new_block put_kept
  tables_after zero = refl
  tables_after (suc n) = go (b n) (tables_after n)
    where
      go : (m : Bool) → (state_after ls n b t).tables ≡ blocks_laid b (new_block ls b t) n t
          → (cond m (put_kept (state_after ls n b t) n (new_of n)) (state_after ls n b t)).tables
          ≡ cond m (with_block n (new_of n).block (blocks_laid b (new_block ls b t) n t)) (blocks_laid b (new_block ls b t) n t)
      go true e = ap (with_block n (new_of n).block) e
      go false e = e

  module _ (n : ℕ) (fit : n ≤ link_limit) (sized : length ls ≡ link_limit) (long : table_size ≤ length t) where
    pub new_size : (j : ℕ) → j < n → length (new_block ls b t j) ≡ block_size
    unfolding new_block state_after laws
    new_size j h = turn_shape kept_ops (parent_at ls) (inputs_of ls) link_limit n fit laws b (state ls t) (sized, long) j h

    pub fine_all : fine_to n ≡ fine_after ls n b t
    unfolding fine_after state_after laws
    fine_all = tests_run kept_ops (parent_at ls) (inputs_of ls) link_limit n fit laws b (state ls t) (sized, long) finite_kept

-- ---- where turns stop: a result that isn't finite ends all

none_below : (m n : ℕ) (test : ℕ → Bool) → m ≤ n → all_below m test ≡ false → all_below n test ≡ false
unfolding all_below
none_below m zero test h e = let z : m ≡ 0 = omega arith in absurd (true≢false (sym (ap (λ (k : ℕ). all_below k test) z) ∙ e))
none_below m (suc n) test h e = elim (dec_lt m (suc n)) [
  | yes q ↦ rw (none_below m n test (omega arith) e)
  | no q ↦ let z : m ≡ suc n = omega arith in sym (ap (λ (k : ℕ). all_below k test) z) ∙ e
]

module _ (ls : List Link) (b : ℕ → Bool) (t : List Float) where
  -- a link that has yet to have its turn is as it was
  pub not_yet : (j k : ℕ) → j ≤ k → link_at (state_after ls j b t).links k ≡ link_at ls k
  unfolding state_after run put_kept
  not_yet zero k h = refl
  not_yet (suc j) k h = go (b j) (not_yet j k (omega arith))
    where
      go : (m : Bool) → link_at (state_after ls j b t).links k ≡ link_at ls k → link_at (cond m (put_kept (state_after ls j b t) j (new_of ls b t j)) (state_after ls j b t)).links k ≡ link_at ls k
      go true e = get_or-set_other (state_after ls j b t).links j k _ no_link (omega arith) ∙ e
      go false e = e

  pub fine_stops : (j n : ℕ) → j < n → fine_to ls b t (j + 1) ≡ false → fine_to ls b t n ≡ false
  fine_stops j n h e = none_below (j + 1) n (λ i. cond (b i) (finite_kept (new_of ls b t i)) true) (omega arith) e

-- ---- one turn

-- a link and its blank share the centre
blank_centre : (l m : Link) → blank l ≡ blank m → l.centre ≡ m.centre
unfolding with_place
blank_centre l m e = ap (λ (x : Link). x.centre) e

-- what a turn leaves of a link is k, where that is finite
pub record Turn (l : Link) (own : List Float) (new : Turned) (k : Kept) : Type 0 where
  pub block : own ≡ k.block
  pub test : new.fine ≡ finite_kept k
  pub place : new.link ≡ cond new.fine (with_kept l k) l

pub turned_kept : (p p' : Posed) (l : Link) (x : Inputs) (start : ℕ) (c c' own : List Float) (new : Turned) → p ≡ p' → c ≡ c' → start ≡ x.start → l.joint ≡ x.joint
    → TurnedTo p l start c own new → Turn l own new (kept_of p' x c')
unfolding kept_of finite_kept
turned_kept p p' l x start c c' own new ep ec es ej t =
    let o : own ≡ block_from p' x.joint.locked x.start c' = t.own ∙ (λ i. block_from (ep i) (ej i).locked (es i) (ec i)) in
    record {
      block = o;
      test = t.test ∙ (λ i. finite_place (ep i).world (ep i).shift02 (ep i).shift23 && all_finite (o i));
      place = t.place ∙ (λ i. cond new.fine (with_place l (ep i).world (ep i).shift02 (ep i).shift23) l);
    }

-- link j's parent, as a list has it, where link j is no root
abbrev pub above_of : List Link → Link → ℕ → Option Link
above_of links l j = option_map (link_at links) (parent_before l j)

-- ---- what the loop holds before turn j

pub record Held (ls : List Link) (n : ℕ) (b : ℕ → Bool) (t : List Float) (work₀ : List (List Float)) (j start : ℕ) (work : List (List Float)) (links : List Link) : Type 0 where
  pub places : length links ≡ link_limit
  pub room : length work ≡ link_limit
  pub begins : start ≡ start_of (map locked_of ls) j
  pub low : start ≤ 3 * j
  pub refreshed : links ≡ (state_after ls j b t).links
  pub marked : (k : ℕ) → k < j → b k ≡ true → work_at work k ≡ new_block ls b t k
  pub beyond : (k : ℕ) → j ≤ k → work_at work k ≡ work_at work₀ k
  pub tested : fine_to ls b t j ≡ true

pub held_none : (ls : List Link) (n : ℕ) (b : ℕ → Bool) (t : List Float) (work₀ : List (List Float)) → length ls ≡ link_limit → length work₀ ≡ link_limit → Held ls n b t work₀ 0 0 work₀ ls
unfolding start_of total_of all_below
held_none ls n b t work₀ p q = record {
  places = p;
  room = q;
  begins = refl;
  low = omega arith;
  refreshed = none_links ls b t;
  marked = λ k h m. absurd (omega arith);
  beyond = λ k h. refl;
  tested = refl;
}

module _ (ls : List Link) (n : ℕ) (fit : n ≤ link_limit) (sized : length ls ≡ link_limit) (b : ℕ → Bool) (t : List Float) (work₀ : List (List Float)) (long : table_size ≤ length t)
    (j start : ℕ) (work : List (List Float)) (links : List Link) (held : Held ls n b t work₀ j start work links) (h : j < n) where
  abbrev par : ℕ
  par = parent_at ls j

  abbrev x : Inputs
  x = inputs_of ls j

  abbrev s : State
  s = state_after ls j b t

  same_blank : (k : ℕ) → blank (link_at links k) ≡ blank (link_at ls k)
  same_blank k = ap (λ (l : List Link). blank (link_at l k)) held.refreshed ∙ after_blank ls j b t k

  -- before its turn link j is as it was
  pub given : link_at links j ≡ link_at ls j
  given = ap (λ (l : List Link). link_at l j) held.refreshed ∙ not_yet ls b t j j (omega arith)

  pub next_start : (d : ℕ) → d ≡ dofs_of (link_at links j).joint.locked → start + d ≡ start_of (map locked_of ls) (j + 1)
  next_start d e = start_more ls j start d (omega arith) held.begins (e ∙ ap (λ (l : Link). dofs_of l.joint.locked) given)

  -- ---- an unmarked link

  pub held_skip : b j ≡ false → (d : ℕ) → d ≡ dofs_of (link_at links j).joint.locked → Held ls n b t work₀ (j + 1) (start + d) work links
  held_skip m d ed = record {
    places = held.places;
    room = held.room;
    begins = next_start d ed;
    low = omega (arith, next_start d ed, start_le (map locked_of ls) (j + 1));
    refreshed = skip_links ls b t j links held.refreshed m;
    marked = λ k l q. elim (dec_lt k j) [
      | yes g ↦ held.marked k g q
      | no g ↦ let e : k ≡ j = omega arith in absurd (true≢false (sym q ∙ ap b e ∙ m))
    ];
    beyond = λ k l. held.beyond k (omega arith);
    tested = sym (fine_skip ls b t j true (sym held.tested) m);
  }

  -- ---- a marked one: its place in the work area took the block that it copies, and then its own

  -- a parent's block, in the work area where the parent is marked, else in the tables
  above_block : (k : ℕ) → k < j → copied_from (Some k) b t work ≡ (kept_at s k).block
  unfolding kept_at copied_from
  above_block k q =
      sym
      (ap (block_at k) (tables_after ls b t j)
      ∙ laid_block b (new_block ls b t) j (λ i l. new_size ls b t n fit sized long i (omega arith)) t (omega arith) j (omega arith) k q
      ∙ go (b k) refl)
    where
      go : (m : Bool) → b k ≡ m → cond m (new_block ls b t k) (block_at k t) ≡ cond m (work_at work k) (block_at k t)
      go true e = sym (held.marked k q e)
      go false e = refl

  -- the link is posed and its block copied as the definition has it
  posed_later : posed_of (Some (link_at links par)) (link_at ls j) ≡ later_posed (kept_at s par).world x.above x.joint x.centre
  unfolding posed_of kept_at inputs_of
  posed_later = rw (blank_centre (link_at links par) (link_at ls par) (same_blank par), held.refreshed)

  posed_root : posed_of None (link_at ls j) ≡ root_posed x.joint x.centre
  unfolding posed_of inputs_of
  posed_root = refl

  abbrev copied : List Float
  copied = copied_from (parent_before (link_at ls j) j) b t work

  module _ (own : List Float) (new : Turned) (turn : TurnedTo (posed_of (above_of links (link_at ls j) j) (link_at ls j)) (link_at ls j) start copied own new) where
    at_start : start ≡ x.start
    unfolding inputs_of
    at_start = held.begins

    at_joint : (link_at ls j).joint ≡ x.joint
    unfolding inputs_of
    at_joint = refl

    own_parent : (link_at ls j).parent ≡ par
    unfolding parent_at
    own_parent = refl

    root : ltb par j ≡ false → Turn (link_at ls j) own new (root_kept x)
    unfolding root_kept copied_from parent_at
    root q =
        turned_kept _ _ (link_at ls j) x start copied _ own new
        (ap (λ (m : Bool). posed_of (option_map (link_at links) (cond m (Some par) None)) (link_at ls j)) q ∙ posed_root)
        (ap (λ (m : Bool). copied_from (cond m (Some par) None) b t work) q)
        at_start at_joint turn

    later : par < j → Turn (link_at ls j) own new (later_kept (kept_at s par) x)
    unfolding later_kept parent_at
    later q =
        let m : ltb par j ≡ true = lt-ltb par j q in
        turned_kept _ _ (link_at ls j) x start copied _ own new
        (ap (λ (m : Bool). posed_of (option_map (link_at links) (cond m (Some par) None)) (link_at ls j)) m ∙ posed_later)
        (ap (λ (m : Bool). copied_from (cond m (Some par) None) b t work) m ∙ above_block par q)
        at_start at_joint turn

    pub turned_lem : Turn (link_at ls j) own new (new_of ls b t j)
    turned_lem = elim (dec_lt par j) [
      | yes q ↦ subst (Turn (link_at ls j) own new) (sym (ap (λ (m : Bool). cond m (later_kept (kept_at s par) x) (root_kept x)) (lt-ltb par j q))) (later q)
      | no q ↦
          let e : ltb par j ≡ false = le-ltb par j (omega arith) in
          subst (Turn (link_at ls j) own new) (sym (ap (λ (m : Bool). cond m (later_kept (kept_at s par) x) (root_kept x)) e)) (root e)
    ]

  -- the turn, as the code has its parts
  module _ (m : b j ≡ true) (parent : Option ℕ) (ep : parent ≡ parent_before (link_at links j) j) (work₁ : List (List Float)) (e₁ : work₁ ≡ set work j (copied_from parent b t work))
      (above : Option Link) (ea : above ≡ option_map (link_at links) parent)
      (own : List Float) (new : Turned) (turn : TurnedTo (posed_of above (link_at links j)) (link_at links j) start (work_at work₁ j) own new) where
    its_block : work_at work₁ j ≡ copied_from (parent_before (link_at links j) j) b t work
    its_block = ap (work_at work₁) refl ∙ ap (λ (w : List (List Float)). work_at w j) e₁ ∙ get_or-set_same work j _ [] (omega (arith, held.room)) ∙ ap (λ (o : Option ℕ). copied_from o b t work) ep

    its_above : above ≡ above_of links (link_at links j) j
    its_above = ea ∙ ap (option_map (link_at links)) ep

    its : Turn (link_at ls j) own new (new_of ls b t j)
    its =
        turned_lem own new
        (subst (λ (l : Link). TurnedTo (posed_of (above_of links l j) l) l start (copied_from (parent_before l j) b t work) own new) given
        (subst (λ (o : Option Link). TurnedTo (posed_of o (link_at links j)) (link_at links j) start (copied_from (parent_before (link_at links j) j) b t work) own new) its_above
        (subst (λ (y : List Float). TurnedTo (posed_of above (link_at links j)) (link_at links j) start y own new) its_block turn)))

    -- a result isn't finite: so the pass isn't
    pub not_fine : new.fine ≡ false → fine_after ls n b t ≡ false
    not_fine e =
        sym (fine_all ls b t n fit sized long)
        ∙ fine_stops ls b t j n h (sym (fine_more ls b t j true new.fine (sym held.tested) m its.test) ∙ e)

    pub held_more : new.fine ≡ true → (d : ℕ) → d ≡ dofs_of (link_at links j).joint.locked → (work' : List (List Float)) → work' ≡ set work₁ j own → (links' : List Link) → links' ≡ set links j new.link
        → Held ls n b t work₀ (j + 1) (start + d) work' links'
    unfolding new_block
    held_more f d ed work' ew links' el =
        let c = copied_from parent b t work in
        let room₁ : length work₁ ≡ link_limit = ap length e₁ ∙ length-set work j c ∙ held.room in
        let away : (k : ℕ) → k ≢ j → work_at work' k ≡ work_at work k =
        λ k q. ap (λ (w : List (List Float)). work_at w k) ew ∙ get_or-set_other work₁ j k own [] q ∙ ap (λ (w : List (List Float)). work_at w k) e₁ ∙ get_or-set_other work j k c [] q in
        record {
          places = ap length el ∙ length-set links j new.link ∙ held.places;
          room = ap length ew ∙ length-set work₁ j own ∙ room₁;
          begins = next_start d ed;
          low = omega (arith, next_start d ed, start_le (map locked_of ls) (j + 1));
          refreshed = el ∙ more_links ls b t j links held.refreshed m new.link (its.place ∙ ap₂ (λ (y : Bool) (l : Link). cond y (with_kept l (new_of ls b t j)) l) f (sym given));
          marked = λ k l q. elim (dec_lt k j) [
            | yes g ↦ away k (omega arith) ∙ held.marked k g q
            | no g ↦ let e : k ≡ j = omega arith in ap₂ work_at ew e ∙ get_or-set_same work₁ j own [] (omega arith) ∙ its.block ∙ ap (new_block ls b t) (sym e)
          ];
          beyond = λ k l. away k (omega arith) ∙ held.beyond k (omega arith);
          tested = sym (fine_more ls b t j true new.fine (sym held.tested) m its.test) ∙ f;
        }

-- all turns are done
pub held_all : (ls : List Link) (n : ℕ) → n ≤ link_limit → length ls ≡ link_limit → (b : ℕ → Bool) (t : List Float) (work₀ : List (List Float)) → table_size ≤ length t
    → (start : ℕ) (work : List (List Float)) (links : List Link) → Held ls n b t work₀ n start work links → WorkedOut ls n b t work₀ work (record { links = links; fine = true })
held_all ls n fit sized b t work₀ long start work links k = record {
  test = sym k.tested ∙ fine_all ls b t n fit sized long;
  links = λ f. k.refreshed;
  marked = λ f. k.marked;
  beyond = λ f. k.beyond;
}

-- a turn gave up
pub worked_no : (ls : List Link) (n : ℕ) (b : ℕ → Bool) (t : List Float) (work₀ work : List (List Float)) (new : Refreshed) → new.fine ≡ false → fine_after ls n b t ≡ false → WorkedOut ls n b t work₀ work new
worked_no ls n b t work₀ work new e f = record {
  test = e ∙ sym f;
  links = λ y. absurd (true≢false (sym y ∙ e));
  marked = λ y. absurd (true≢false (sym y ∙ e));
  beyond = λ y. absurd (true≢false (sym y ∙ e));
}
