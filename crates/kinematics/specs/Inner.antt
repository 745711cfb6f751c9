-- What inner functions are shown to do: no entry point's promise cites it.
use Rattle.std.specs.Prelude.{ℕ, zero, suc, ◌-◌, ◌≡◌, ◌≤◌, ◌<◌, Bool, true, false, cond, ◌&&◌, List, [], get_or, leb, ltb, length, Float, Option, None, Some, Result, is_ok}
use Rattle.limits.specs.Limits.{link_limit, dof_limit, table_size}
use Rattle.floats.specs.Floats.{all_finite}
use Rattle.refusal.specs.declared.Refusal.{Refusal}
use Rattle.arm.specs.declared.Link.{Link}
use Rattle.arm.specs.Setters.{with_place}
use Rattle.kinematics.specs.declared.Posed.{Posed}
use Rattle.kinematics.specs.Blocks.{block_at, with_block, zero_block}
use Rattle.kinematics.specs.Link.{Kept, Inputs, root_posed, later_posed, block_from, root_kept, later_kept, finite_place, finite_kept, with_kept}
use Rattle.kinematics.specs.Pass.{new_at}
use Rattle.kinematics.specs.State.{State, parent_at, inputs_of, kept_in, kept_ops, state_after, fine_after}
use Rattle.kinematics.specs.Answers.{Refreshed}

-- the parent of link j, unless link j is a root
abbrev pub parent_before : Link → ℕ → Option ℕ
parent_before l j = cond (ltb l.parent j) (Some l.parent) None

-- link k's place in a work area
abbrev pub work_at : List (List Float) → ℕ → List Float
work_at work k = get_or work k []

-- what a link copies: a later one its parent's block, from the work area where that was just worked out, else from the tables; a root zeros
unfoldable pub copied_from : Option ℕ → (ℕ → Bool) → List Float → List (List Float) → List Float
copied_from None fresh tables work = zero_block
copied_from (Some p) fresh tables work = cond (fresh p) (work_at work p) (block_at p tables)

-- of the tables alone
abbrev pub kept_block : Option ℕ → List Float → List Float
kept_block None tables = zero_block
kept_block (Some p) tables = block_at p tables

-- where a link is: a later one's by its parent's link, a root's by itself
unfoldable pub posed_of : Option Link → Link → Posed
posed_of (Some above) l = later_posed above.world above.centre l.joint l.centre
posed_of None l = root_posed l.joint l.centre

-- the links that a pass leaves, and that it isn't refused
abbrev pub refreshed : List Link → Result Unit Refusal → Refreshed
refreshed ls answer = record { links = ls; fine = is_ok answer }

-- a link as its turn leaves it, and whether every result is finite
pub record Turned : Type 0 where
  pub link : Link
  pub fine : Bool

-- as it leaves it, and that it isn't refused
abbrev pub turned : Link → Result Unit Refusal → Turned
turned l answer = record { link = l; fine = is_ok answer }

-- a turn of link l, given where it is: from the copied block to its own, in its link where all results are finite, and the test of these
pub record TurnedTo (p : Posed) (l : Link) (start : ℕ) (copied block : List Float) (new : Turned) : Type 0 where
  pub own : block ≡ block_from p l.joint.locked start copied
  pub test : new.fine ≡ (finite_place p.world p.shift02 p.shift23 && all_finite block)
  pub place : new.link ≡ cond new.fine (with_place l p.world p.shift02 p.shift23) l

-- link j's results by what a state keeps of its parent, its inputs being those of the links ls
abbrev pub result_of : List Link → State → ℕ → Kept
result_of ls s j = new_at kept_ops (parent_at ls) (inputs_of ls) s j

-- the blocks `new` of the first n links that are marked, laid over t
unfoldable pub blocks_laid : (ℕ → Bool) → (ℕ → List Float) → ℕ → List Float → List Float
blocks_laid b new zero t = t
blocks_laid b new (suc j) t = cond (b j) (with_block j (new j) (blocks_laid b new j t)) (blocks_laid b new j t)

-- link j's block as its turn works it out
unfoldable pub new_block : List Link → (ℕ → Bool) → List Float → ℕ → List Float
new_block ls b t j = (result_of ls (state_after ls j b t) j).block

-- what a pass leaves whose blocks go into a work area
pub record WorkedOut (ls : List Link) (n : ℕ) (b : ℕ → Bool) (t : List Float) (work work' : List (List Float)) (new : Refreshed) : Type 0 where
  pub test : new.fine ≡ fine_after ls n b t
  pub links : new.fine ≡ true → new.links ≡ (state_after ls n b t).links
  pub marked : new.fine ≡ true → (j : ℕ) → j < n → b j ≡ true → work_at work' j ≡ new_block ls b t j
  pub beyond : new.fine ≡ true → (j : ℕ) → n ≤ j → work_at work' j ≡ work_at work j

-- a link, whether its results are finite, and the memory
pub record TurnedOutcome : Type 0 where
  pub answer : Turned
  pub memory : List Float

abbrev pub turned_out : Turned → List Float → TurnedOutcome
turned_out r t = record { answer = r; memory = t }

-- what link j works out as, l standing in its place and `above` in its parent's
unfoldable pub one_kept : Link → Link → ℕ → ℕ → List Float → Kept
one_kept l above start j t =
    let x : Inputs = record { joint = l.joint; centre = l.centre; start = start; above = above.centre } in
    cond (ltb l.parent j) (later_kept (kept_in above (block_at l.parent t)) x) (root_kept x)

-- there are tables, a place for it, and three columns from its start on
abbrev pub one_fits : ℕ → ℕ → List Float → Bool
one_fits start j t = (leb table_size (length t) && ltb j link_limit) && leb start (dof_limit - 3)

-- link j alone, over what is kept of its parent
unfoldable pub refresh_one : Link → Link → ℕ → ℕ → List Float → TurnedOutcome
refresh_one l above start j t =
    let k = one_kept l above start j t in
    cond (one_fits start j t && finite_kept k)
    (turned_out (record { link = with_kept l k; fine = true }) (with_block j k.block t))
    (turned_out (record { link = l; fine = false }) t)
