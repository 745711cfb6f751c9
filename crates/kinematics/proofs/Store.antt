-- What is kept of an arm is a store: what is put of a link is read back, the others stay; and a pass leaves every link's inputs. Assumes nothing.
use mathlib.Core.Path.{◌≡◌, refl, ◌∙◌}
use mathlib.Core.Logic.{◌≢◌}
use Prim.Native.Nat.{ℕ, zero, suc, ◌+◌, ◌≤◌, ◌<◌}
use mathlib.Core.Bool.{Bool, true, false, cond}
use mathlib.Core.List.{List, [], ◌∷◌, ◌++◌}
use native.Mathlib.Omega.{arith}
use lib.ListN.{length, set, length-set, length-append, length-replicate}
use lib.Seq.{get_or-set_same, get_or-set_other}
use lib.Ieee.{Float, neg}
use Rattle.arm.specs.Setters.{with_place}
use Rattle.lists.proofs.Parts.{block_same, block_other, block_length, part_length}
use Rattle.arm.specs.Arm.{no_link, link_at}
use Rattle.limits.specs.Limits.{link_limit, block_size, table_size}
use Rattle.floats.specs.Floats.{zero32, zip_to}
use Rattle.floats.proofs.Rows.{length-zip_to}
use Rattle.planar.specs.declared.Point.{Point}
use Rattle.planar.specs.declared.Rotation.{Rotation}
use Rattle.arm.specs.declared.Link.{Link}
use Rattle.kinematics.specs.declared.Posed.{Posed}
use Rattle.kinematics.specs.Blocks.{row, plus_times, shifted, column_added, axis_added, own_added}
use Rattle.masks.specs.Masks.{is_free, dofs_below}
use Rattle.kinematics.specs.Link.{Kept, Inputs, block_from, kept_of, root_kept, later_kept, with_kept}
use Rattle.kinematics.specs.State.{State, state, inputs_of, kept_at, put_kept, kept_ops, state_after, parent_at}
use Rattle.kinematics.proofs.Shift.{row-length}
use Rattle.kinematics.proofs.Pass.{run_view, Laws}

-- ---- a block keeps its size

pub shifted_size : (s : Point) (b : List Float) → length b ≡ block_size → length (shifted s b) ≡ block_size
unfolding shifted
shifted_size s b h =
    let x = zip_to (plus_times (neg s.y)) (row 0 b) (row 2 b) in
    let y = zip_to (plus_times s.x) (row 1 b) (row 2 b) in
    omega (
      arith,
      length-append x (y ++ row 2 b),
      length-append y (row 2 b),
      length-zip_to (plus_times (neg s.y)) (row 0 b) (row 2 b),
      length-zip_to (plus_times s.x) (row 1 b) (row 2 b),
      row-length 0 b h (omega arith),
      row-length 1 b h (omega arith),
      row-length 2 b h (omega arith),
    )

axis_size : (locked start axis : ℕ) (x y w : Float) (b : List Float) → length (axis_added locked start axis x y w b) ≡ length b
unfolding axis_added column_added
axis_size locked start axis x y w b = go (is_free locked axis)
  where
    go : (m : Bool) → length (cond m (column_added (start + dofs_below locked axis) x y w b) b) ≡ length b
    go true = simp length-set
    go false = refl

pub own_size : (locked start : ℕ) (r : Rotation) (b : List Float) → length (own_added locked start r b) ≡ length b
unfolding own_added
own_size locked start r b = simp axis_size

pub block_size_lem : (p : Posed) (locked start : ℕ) (b : List Float) → length b ≡ block_size → length (block_from p locked start b) ≡ block_size
unfolding block_from
block_size_lem p locked start b h =
    let s = shifted p.shift02 b in
    shifted_size p.shift23 (own_added locked start p.turn s) (own_size locked start p.turn s ∙ shifted_size p.shift02 b h)

abbrev pub Shape : Kept → Type 0
Shape k = length k.block ≡ block_size

pub root_shape : (x : Inputs) → Shape (root_kept x)
unfolding root_kept kept_of
root_shape x = block_size_lem _ _ _ _ (length-replicate block_size zero32)

pub later_shape : (o : Kept) (x : Inputs) → Shape o → Shape (later_kept o x)
unfolding later_kept kept_of
later_shape o x h = block_size_lem _ _ _ _ h

-- ---- the store: as many links as fit, and tables that are long enough

abbrev pub Good : State → Type 0
Good s = (length s.links ≡ link_limit) × (table_size ≤ length s.tables)

pub at_same : (s : State) (j : ℕ) (k : Kept) → Good s → Shape k → j < link_limit → kept_at (put_kept s j k) j ≡ k
unfolding kept_at put_kept with_place
at_same s j k g e h = rw (get_or-set_same s.links j _ no_link (omega arith), block_same block_size link_limit s.tables (omega arith) j k.block h e)

pub at_other : (s : State) (j i : ℕ) (k : Kept) → Good s → Shape k → j < link_limit → i ≢ j → kept_at (put_kept s j k) i ≡ kept_at s i
unfolding kept_at put_kept
at_other s j i k g e h ne = rw (get_or-set_other s.links j i _ no_link ne, block_other block_size link_limit s.tables (omega arith) j i k.block h ne e)

pub put_good : (s : State) (j : ℕ) (k : Kept) → Good s → Shape k → j < link_limit → Good (put_kept s j k)
unfolding put_kept
put_good s j k g e h = (length-set s.links j _ ∙ g.0, omega (arith, block_length block_size link_limit s.tables (omega arith) j k.block h e))

pub at_shape : (s : State) (j : ℕ) → Good s → j < link_limit → Shape (kept_at s j)
unfolding kept_at
at_shape s j g h = part_length block_size link_limit s.tables (omega arith) j h

unfoldable pub laws : Laws kept_ops link_limit
laws = record {
  Good = Good;
  Shape = Shape;
  shape_root = root_shape;
  shape_later = later_shape;
  shape_at = at_shape;
  same = at_same;
  other = at_other;
  keep = put_good;
}

-- ---- inputs: a link without its results

abbrev pub blank : Link → Link
blank l = with_place l no_link.world no_link.shift02 no_link.shift23

-- what is set of a link, if it is not what f reads
pub set_field : {A : Type 0} (f : Link → A) (ls : List Link) (i : ℕ) (l : Link) → f l ≡ f (link_at ls i) → (j : ℕ) → f (link_at (set ls i l) j) ≡ f (link_at ls j)
set_field f [] i l e j = refl
set_field f (x ∷ ls) zero l e zero = e
set_field f (x ∷ ls) zero l e (suc j) = refl
set_field f (x ∷ ls) (suc i) l e zero = refl
set_field f (x ∷ ls) (suc i) l e (suc j) = set_field f ls i l e j

put_blank : (s : State) (k : ℕ) (o : Kept) (j : ℕ) → blank (link_at (put_kept s k o).links j) ≡ blank (link_at s.links j)
unfolding put_kept with_place
put_blank s k o j = set_field blank s.links k (with_kept (link_at s.links k) o) refl j

pub after_blank : (ls : List Link) (n : ℕ) (b : ℕ → Bool) (t : List Float) (j : ℕ) → blank (link_at (state_after ls n b t).links j) ≡ blank (link_at ls j)
unfolding state_after
after_blank ls n b t j = run_view kept_ops (parent_at ls) (inputs_of ls) (λ s. blank (link_at s.links j)) (state ls t) b (λ s k o e. put_blank s k o j) n
