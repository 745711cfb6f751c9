-- One link alone: its turn is what is stated of it; and so is the pass over it, as before its turn nothing has changed and after it nothing does. Assumes
-- nothing.
use mathlib.Core.Path.{◌≡◌, refl, sym, ap, ◌∙◌}
use mathlib.Core.Logic.{◌≢◌}
use Prim.Native.Nat.{ℕ, zero, suc, min, ◌-◌, ◌≤◌, ◌<◌}
use mathlib.Core.Bool.{Bool, true, false, cond, and-true, and-false, ◌&&◌}
use mathlib.Core.List.{List, map}
use native.Mathlib.Omega.{arith}
use native.Mathlib.Decide.{dec_lt}
use borrow.Author.Tests.{eq-eqb, ne_eqb, ltb-true, leb-true, lt-ltb, le-ltb, le-leb, lt-leb}
use lib.Dec.{leb, ltb}
use lib.ListN.{length, set}
use lib.Seq.{set-get_or}
use lib.Ieee.{Float}
use Rattle.std.specs.Prelude.{Option, None, Some}
use Rattle.std.proofs.lemmas.Bool.{true≢false}
use Rattle.std.specs.Option.{option_and}
use Rattle.kinematics.specs.Inner.{posed_of, parent_before, kept_block, Turned, TurnedTo, result_of, TurnedOutcome, turned_out, one_kept, one_fits, refresh_one}
use Rattle.arm.specs.Arm.{no_link, link_at, locked_of}
use Rattle.lists.proofs.Numbers.{all_below_lem}
use Rattle.lists.specs.Numbers.{all_below}
use Rattle.lists.proofs.Bools.{both_hold}
use Rattle.limits.specs.Limits.{link_limit, dof_limit, table_size}
use Rattle.masks.specs.Starts.{start_of}
use Rattle.arm.specs.declared.Link.{Link}
use Rattle.kinematics.specs.Blocks.{zero_block, block_at, with_block}
use Rattle.kinematics.specs.Link.{Kept, Inputs, root_posed, kept_of, root_kept, later_kept, finite_kept, with_kept}
use Rattle.kinematics.specs.Pass.{run}
use Rattle.kinematics.specs.State.{State, state, inputs_of, kept_in, kept_at, only, put_kept, state_after, parent_at}
use Rattle.kinematics.specs.Answers.{Outcome, out, passed, refresh_marked}
use Rattle.kinematics.proofs.Turns.{start_room, new_of, fine_to, fine_all, Turn, turned_kept}
use Rattle.kinematics.proofs.Ends.{marked_short, is_marked}

-- ---- its turn

-- what the code tests of it: the memory, and then its place and its start
fits_all : (l a b : Bool) → l ≡ true → ((l && a) && b) ≡ (a && b)
fits_all l a b e = rw e

pub unfit_short : (start j : ℕ) (t : List Float) → leb table_size (length t) ≡ false → one_fits start j t ≡ false
unfit_short start j t h = rw h

pub place_fits : (start j : ℕ) → (ltb j link_limit && leb start (dof_limit - 3)) ≡ true → (j < link_limit) × (start ≤ dof_limit - 3)
place_fits start j h = let b = both_hold _ _ h in (ltb-true _ _ b.0, leb-true _ _ b.1)

pub fits_test : (start j : ℕ) (t : List Float) → table_size ≤ length t → one_fits start j t ≡ (ltb j link_limit && leb start (dof_limit - 3))
fits_test start j t h = fits_all (leb table_size (length t)) (ltb j link_limit) (leb start (dof_limit - 3)) (le-leb table_size (length t) h)

module _ (l above : Link) (start j : ℕ) (t : List Float) where
  abbrev x : Inputs
  x = record { joint = l.joint; centre = l.centre; start = start; above = above.centre }

  abbrev up : Kept
  up = kept_in above (block_at l.parent t)

  pub one_unfit : one_fits start j t ≡ false → turned_out (record { link = l; fine = false }) t ≡ refresh_one l above start j t
  unfolding refresh_one
  one_unfit h = rw h

  module _ (parent : Option ℕ) (ep : parent ≡ parent_before l j) (o : Option Link) (eo : o ≡ option_and parent (Some above)) (c : List Float) (ec : c ≡ kept_block parent t)
      (own : List Float) (new : Turned) (turn : TurnedTo (posed_of o l) l start c own new) where
    its : Turn l own new (one_kept l above start j t)
    unfolding one_kept root_kept later_kept posed_of
    its = go (ltb l.parent j) ep
      where
        go : (m : Bool) → parent ≡ cond m (Some l.parent) None → Turn l own new (cond m (later_kept up x) (root_kept x))
        go true e = turned_kept _ _ l x start c _ own new (ap (λ (y : Option Link). posed_of y l) (eo ∙ ap (λ (y : Option ℕ). option_and y (Some above)) e)) (ec ∙ ap (λ (y : Option ℕ). kept_block y t) e) refl refl turn
        go false e = turned_kept _ _ l x start c _ own new (ap (λ (y : Option Link). posed_of y l) (eo ∙ ap (λ (y : Option ℕ). option_and y (Some above)) e)) (ec ∙ ap (λ (y : Option ℕ). kept_block y t) e) refl refl turn

    its_link : (f : Bool) → new.fine ≡ f → new.link ≡ cond f (with_kept l (one_kept l above start j t)) l
    its_link f q = its.place ∙ ap (λ (y : Bool). cond y (with_kept l (one_kept l above start j t)) l) q

    pub one_no : new.fine ≡ false → turned_out (record { link = new.link; fine = false }) t ≡ refresh_one l above start j t
    unfolding refresh_one
    one_no q = rw (sym its.test ∙ q, and-false (one_fits start j t)) (λ i. turned_out (record { link = its_link false q i; fine = false }) t)

    pub one_yes : one_fits start j t ≡ true → new.fine ≡ true → (m : List Float) → m ≡ with_block j own t → turned_out (record { link = new.link; fine = true }) m ≡ refresh_one l above start j t
    unfolding refresh_one
    one_yes h q m e = rw (h, sym its.test ∙ q) (λ i. turned_out (record { link = its_link true q i; fine = true }) ((e ∙ ap (λ (b : List Float). with_block j b t) its.block) i))

chosen : (f : Bool) (y n : TurnedOutcome) → y.answer.fine ≡ true → (cond f y n).answer.fine ≡ false → cond f y n ≡ n
chosen true y n e h = absurd (true≢false (sym e ∙ h))
chosen false y n e h = refl

pub one_stays : (l above : Link) (start j : ℕ) (t : List Float) → (refresh_one l above start j t).answer.fine ≡ false → refresh_one l above start j t ≡ turned_out (record { link = l; fine = false }) t
unfolding refresh_one
one_stays l above start j t h = chosen _ _ _ refl h

-- ---- the pass over it

module _ (j : ℕ) where
  own : only j j ≡ true
  own = eq-eqb j j refl

  other : (k : ℕ) → k ≢ j → only j k ≡ false
  other k ne = ne_eqb k j ne

  module _ (ls : List Link) (t : List Float) where
    before : (n : ℕ) → n ≤ j → state_after ls n (only j) t ≡ state ls t
    unfolding state_after run
    before zero h = refl
    before (suc n) h = rw (other n (omega arith)) (before n (omega arith))

    at : state_after ls (suc j) (only j) t ≡ put_kept (state ls t) j (new_of ls (only j) t j)
    unfolding state_after run
    at = rw own (ap (λ (s : State). put_kept s j (new_of ls (only j) t j)) (before j (omega arith)))

    after : (n : ℕ) → j < n → state_after ls n (only j) t ≡ put_kept (state ls t) j (new_of ls (only j) t j)
    unfolding state_after run
    after zero h = absurd (omega arith)
    after (suc n) h = elim (dec_lt j n) [
      | yes q ↦ rw (other n (omega arith)) (after n q)
      | no q ↦ let e : n ≡ j = omega arith in ap (λ (k : ℕ). state_after ls (suc k) (only j) t) e ∙ at
    ]

    fine_before : (n : ℕ) → n ≤ j → fine_to ls (only j) t n ≡ true
    fine_before n h = all_below_lem n _ (λ i l. rw (other i (omega arith)))

    fine_at : fine_to ls (only j) t (suc j) ≡ finite_kept (new_of ls (only j) t j)
    unfolding all_below
    fine_at = rw (own, fine_before j (omega arith))

    fine_after_lem : (n : ℕ) → j < n → fine_to ls (only j) t n ≡ finite_kept (new_of ls (only j) t j)
    unfolding all_below
    fine_after_lem zero h = absurd (omega arith)
    fine_after_lem (suc n) h = elim (dec_lt j n) [
      | yes q ↦ rw (other n (omega arith), fine_after_lem n q) (and-true _)
      | no q ↦ let e : n ≡ j = omega arith in ap (λ (k : ℕ). fine_to ls (only j) t (suc k)) e ∙ fine_at
    ]

-- a root's results don't depend on what stands for its parent
root_same : (x y : Inputs) → x.joint ≡ y.joint → x.centre ≡ y.centre → x.start ≡ y.start → root_kept x ≡ root_kept y
unfolding root_kept kept_of
root_same x y a b c = λ i. kept_of (root_posed (a i) (b i)) (record { joint = a i; centre = b i; start = c i; above = x.above }) zero_block

-- what is told of one link, as it is told of all
abbrev pub as_marked : List Link → ℕ → TurnedOutcome → Outcome
as_marked ls j o = out (record { fine = o.answer.fine; links = set ls j o.answer.link }) o.memory

-- l stands in link j's place, and `above` in its parent's
module _ (ls : List Link) (sized : length ls ≡ link_limit) (t : List Float) (count j : ℕ) (there : j < min count link_limit) (above : Link)
    (ea : (link_at ls j).parent < j → above ≡ link_at ls (link_at ls j).parent) (start : ℕ) (es : start ≡ start_of (map locked_of ls) j) where
  abbrev n : ℕ
  n = min count link_limit

  abbrev p : ℕ
  p = (link_at ls j).parent

  abbrev k : Kept
  k = one_kept (link_at ls j) above start j t

  kept : result_of ls (state ls t) j ≡ k
  unfolding one_kept inputs_of kept_at parent_at
  kept = elim (dec_lt p j) [
    | yes q ↦
        let e : link_at ls p ≡ above = sym (ea q) in
        rw (lt-ltb p j q)
        (λ i. later_kept (kept_in (e i) (block_at p t)) (record { joint = (link_at ls j).joint; centre = (link_at ls j).centre; start = sym es i; above = (e i).centre }))
    | no q ↦ rw (le-ltb p j (omega arith)) (root_same _ _ refl refl (sym es))
  ]

  kept_new : new_of ls (only j) t j ≡ k
  kept_new = ap (λ (s : State). result_of ls s j) (before j ls t j (omega arith)) ∙ kept

  left : state_after ls n (only j) t ≡ put_kept (state ls t) j k
  left = after j ls t n there ∙ ap (put_kept (state ls t) j) kept_new

  long_marked : table_size ≤ length t → passed (finite_kept k) (put_kept (state ls t) j k) ls t ≡ refresh_marked ls count (only j) t
  long_marked long =
      sym
      (λ i. passed
      ((sym (fine_all ls (only j) t n (omega arith) sized long) ∙ fine_after_lem j ls t n there ∙ ap finite_kept kept_new) i)
      (left i) ls t)
      ∙ is_marked ls count t (only j) n refl long

  told : (f : Bool) → passed f (put_kept (state ls t) j k) ls t
      ≡ as_marked ls j (cond f (turned_out (record { link = with_kept (link_at ls j) k; fine = true }) (with_block j k.block t)) (turned_out (record { link = link_at ls j; fine = false }) t))
  unfolding passed put_kept
  told true = refl
  told false = λ i. out (record { fine = false; links = sym (set-get_or ls j no_link) i }) t

  -- the pass over link j alone leaves what its turn does
  pub one_marked : refresh_marked ls count (only j) t ≡ as_marked ls j (refresh_one (link_at ls j) above start j t)
  unfolding refresh_one
  one_marked = elim (dec_lt (length t) table_size) [
    | yes q ↦
        sym (marked_short ls count t (only j) (lt-leb table_size (length t) q))
        ∙ (λ i. out (record { fine = false; links = sym (set-get_or ls j no_link) i }) t)
        ∙ ap (as_marked ls j) (one_unfit (link_at ls j) above start j t (rw (lt-leb table_size (length t) q)))
    | no q ↦
        let room = start_room ls j start link_limit (omega arith) (omega arith) es in
        sym (long_marked (omega arith))
        ∙ told (finite_kept k)
        ∙ rw (le-leb table_size (length t) (omega arith), lt-ltb j link_limit (omega arith), le-leb start 45 (omega (arith, room)))
  ]
