-- Unused places hold +0. A column that is no link's own on the way up from a link stays +0 down that way: a finite multiple of +0 is a zero, and +0 with any
-- zero is +0. The full pass leaves the cleared blocks past its links. Assumes nothing.
use mathlib.Core.Path.{◌≡◌, refl, sym, ap, ap₂, ◌∙◌, subst}
use mathlib.Core.Logic.{◌≢◌}
use Prim.Native.Nat.{ℕ, zero, suc, ◌+◌, ◌*◌, ◌≤◌, ◌<◌}
use mathlib.Core.Bool.{Bool, true, false, cond, ◌&&◌}
use mathlib.Core.List.{List, [], ◌∷◌, ◌++◌, map}
use native.Mathlib.Omega.{arith}
use native.Mathlib.Decide.{dec_lt}
use native.Mathlib.Nat.{mul-zero, mul-one}
use lib.Pow.{pow_pos}
use borrow.Author.Tests.{ltb-true}
use lib.Dec.{ltb}
use lib.IntN.{ℤ, pos, negsuc}
use lib.ListN.{length, drop, get_or, set, get_or-append, length-replicate, get_or-replicate}
use lib.Seq.{get_or-append-add, get_or-take, get_or-drop, get_or-set_other}
use Rattle.std.specs.Float.{float_is_finite}
use lib.Ieee.{Float, nan, inf, fin, binary32, add, mul, neg, round, units, odd, sum, size, span, climb, up, down, unlike}
use Rattle.kinematics.specs.Inner.{result_of}
use Rattle.arm.specs.Arm.{link_at, locked_of}
use Rattle.lists.proofs.Numbers.{all_at}
use Rattle.lists.proofs.Bools.{both_hold}
use Rattle.limits.specs.Limits.{dof_limit, block_size}
use Rattle.floats.specs.Floats.{zero32, is_finite, all_finite, zip_to}
use Rattle.floats.proofs.Rows.{length-zip_to}
use Rattle.floats.proofs.Zeros.{nought, zero_is, positive}
use Rattle.masks.specs.Masks.{is_free, dofs_below}
use Rattle.masks.specs.Starts.{start_of}
use Rattle.masks.proofs.Laws.{below_free, dofs_le}
use Rattle.masks.proofs.Totals.{start_le}
use Rattle.topology.specs.Above.{AtOrAbove, itself, above}
use Rattle.planar.specs.declared.Point.{Point}
use Rattle.planar.specs.declared.Rotation.{Rotation}
use Rattle.planar.specs.Poses.{finite_point, finite_pose}
use Rattle.arm.specs.declared.Link.{Link}
use Rattle.kinematics.specs.declared.Posed.{Posed}
use Rattle.kinematics.specs.Blocks.{row, plus_times, shifted, column_added, axis_added, own_added, zero_block}
use Rattle.kinematics.specs.Link.{Kept, Inputs, block_from, kept_of, root_kept, later_kept, finite_place, finite_kept}
use Rattle.kinematics.specs.State.{State, state, inputs_of, kept_at, state_after, fine_after, cleared, parent_at, every_link}
use Rattle.kinematics.specs.Promises.{Fits, ZerosStay, UnusedLeft}
use Rattle.kinematics.specs.Unused.{ZeroAt, OwnColumn}
use Rattle.kinematics.proofs.Shift.{row-length}
use Rattle.kinematics.proofs.Store.{shifted_size, own_size, at_shape}
use Rattle.kinematics.proofs.Promises.{all_fresh, after_good, after_beyond, kept_block, cleared_fits, cleared_block}

-- ---- zeros

-- a finite float times +0 is a zero
times_zero : (s : Bool) (m : ℕ) (e : ℤ) → mul binary32 (fin s m e) (nought false) ≡ nought (unlike s false)
unfolding mul
times_zero s m e =
    ap (λ (k : ℕ). round binary32 (unlike s false) k (down e * 1)) (mul-zero (m * up e))
    ∙ positive (down e * 1) (rw (mul-one (down e)) (down_pos e)) (unlike s false)
  where
    down_pos : (e : ℤ) → 0 < down e
    down_pos (pos k) = omega arith
    down_pos (negsuc k) = pow_pos (suc k)

plus_zero : (s : Bool) → add binary32 (nought false) (nought s) ≡ nought false
unfolding add sum round size span climb units odd
plus_zero true = refl
plus_zero false = refl

stays_zero : (k : Float) → is_finite k ≡ true → plus_times k zero32 zero32 ≡ zero32
unfolding float_is_finite
stays_zero nan h = cc
stays_zero (inf s) h = cc
stays_zero (fin s m e) h = rw (zero_is, times_zero s m e) (plus_zero (unlike s false))

neg-finite : (k : Float) → is_finite (neg k) ≡ is_finite k
unfolding neg float_is_finite
neg-finite nan = refl
neg-finite (inf s) = refl
neg-finite (fin s m e) = refl

-- ---- a shift

zip_at : (f : Float → Float → Float) (xs ys : List Float) (c : ℕ) (z : Float) → c < length xs → c < length ys → get_or (zip_to f xs ys) c z ≡ f (get_or xs c z) (get_or ys c z)
zip_at f [] ys c z h g = absurd (omega arith)
zip_at f (x ∷ xs) [] c z h g = absurd (omega arith)
zip_at f (x ∷ xs) (y ∷ ys) zero z h g = refl
zip_at f (x ∷ xs) (y ∷ ys) (suc c) z h g = zip_at f xs ys c z (omega arith) (omega arith)

row_at : (i : ℕ) (b : List Float) (c : ℕ) → c < dof_limit → get_or (row i b) c nan ≡ get_or b (i * dof_limit + c) nan
row_at i b c h = get_or-take dof_limit (drop (i * dof_limit) b) c nan h ∙ get_or-drop (i * dof_limit) b c nan

module _ (s : Point) (b : List Float) (e : length b ≡ block_size) (ok : finite_point s ≡ true) (c : ℕ) (h : c < dof_limit) (z : ZeroAt c b) where
  abbrev x : List Float
  x = zip_to (plus_times (neg s.y)) (row 0 b) (row 2 b)

  abbrev y : List Float
  y = zip_to (plus_times s.x) (row 1 b) (row 2 b)

  x_length : length x ≡ dof_limit
  x_length = length-zip_to (plus_times (neg s.y)) (row 0 b) (row 2 b) ∙ row-length 0 b e (omega arith)

  y_length : length y ≡ dof_limit
  y_length = length-zip_to (plus_times s.x) (row 1 b) (row 2 b) ∙ row-length 1 b e (omega arith)

  w_zero : get_or (row 2 b) c nan ≡ zero32
  w_zero = row_at 2 b c h ∙ z.2

  zip_zero : (k : Float) → is_finite k ≡ true → (i : ℕ) → i * dof_limit + dof_limit ≤ block_size → get_or (row i b) c nan ≡ zero32
      → get_or (zip_to (plus_times k) (row i b) (row 2 b)) c nan ≡ zero32
  zip_zero k f i g q =
      zip_at (plus_times k) (row i b) (row 2 b) c nan (omega (arith, row-length i b e g)) (omega (arith, row-length 2 b e (omega arith)))
      ∙ ap₂ (plus_times k) q w_zero
      ∙ stays_zero k f

  shifted_zero : ZeroAt c (shifted s b)
  unfolding shifted finite_point
  shifted_zero =
      let o : 0 * dof_limit + c ≡ c = omega arith in
      let p : dof_limit + c ≡ length x + c = omega (arith, x_length) in
      let q : 2 * dof_limit + c ≡ length x + (length y + c) = omega (arith, x_length, y_length) in
      let fine = both_hold (is_finite s.x) _ ok in (
        get_or-append x (y ++ row 2 b) nan c (omega (arith, x_length))
            ∙ zip_zero (neg s.y) (neg-finite s.y ∙ fine.1) 0 (omega arith) (row_at 0 b c h ∙ ap (λ (k : ℕ). get_or b k nan) o ∙ z.0),
        ap (λ (k : ℕ). get_or (x ++ (y ++ row 2 b)) k nan) p
            ∙ get_or-append-add x (y ++ row 2 b) c nan
            ∙ get_or-append y (row 2 b) nan c (omega (arith, y_length))
            ∙ zip_zero s.x fine.0 1 (omega arith) (row_at 1 b c h ∙ z.1),
        ap (λ (k : ℕ). get_or (x ++ (y ++ row 2 b)) k nan) q
            ∙ get_or-append-add x (y ++ row 2 b) (length y + c) nan
            ∙ get_or-append-add y (row 2 b) c nan
            ∙ w_zero,
      )

-- ---- own columns

three_sets : (b : List Float) (i j k at : ℕ) (x y w : Float) → at ≢ i → at ≢ j → at ≢ k → get_or (set (set (set b i x) j y) k w) at nan ≡ get_or b at nan
three_sets b i j k at x y w p q r =
    get_or-set_other (set (set b i x) j y) k at w nan r ∙ get_or-set_other (set b i x) j at y nan q ∙ get_or-set_other b i at x nan p

module _ (c : ℕ) (h : c < dof_limit) where
  column_zero : (k : ℕ) (x y w : Float) (b : List Float) → c ≢ k → k < dof_limit → ZeroAt c b → ZeroAt c (column_added k x y w b)
  unfolding column_added
  column_zero k x y w b other m z = (
    three_sets b k (dof_limit + k) (2 * dof_limit + k) c _ _ _ (λ e. other (omega arith)) (λ e. omega arith) (λ e. omega arith) ∙ z.0,
    three_sets b k (dof_limit + k) (2 * dof_limit + k) (dof_limit + c) _ _ _ (λ e. omega arith) (λ e. other (omega arith)) (λ e. omega arith) ∙ z.1,
    three_sets b k (dof_limit + k) (2 * dof_limit + k) (2 * dof_limit + c) _ _ _ (λ e. omega arith) (λ e. omega arith) (λ e. other (omega arith)) ∙ z.2,
  )

  module _ (locked start : ℕ) (room : start + 3 ≤ dof_limit) (other : OwnColumn start locked c → ⊥) where
    axis_zero : (axis : ℕ) (x y w : Float) (b : List Float) → ZeroAt c b → ZeroAt c (axis_added locked start axis x y w b)
    unfolding axis_added
    axis_zero axis x y w b z = go (is_free locked axis) refl
      where
        go : (m : Bool) → is_free locked axis ≡ m → ZeroAt c (cond m (column_added (start + dofs_below locked axis) x y w b) b)
        go true e =
            let l = below_free locked axis e in
            column_zero (start + dofs_below locked axis) x y w b (λ q. other (omega arith, omega arith)) (omega (arith, dofs_le locked)) z
        go false e = z

    own_zero : (r : Rotation) (b : List Float) → ZeroAt c b → ZeroAt c (own_added locked start r b)
    unfolding own_added
    own_zero r b z = axis_zero 2 _ _ _ _ (axis_zero 1 _ _ _ _ (axis_zero 0 _ _ _ b z))

pub zeros_stay : ZerosStay
unfolding block_from
zeros_stay p locked start c b e room h other f₂ f₃ z =
    let s = shifted p.shift02 b in
    let o = own_added locked start p.turn s in
    shifted_zero p.shift23 o (own_size locked start p.turn s ∙ shifted_size p.shift02 b e) f₃ c h
    (own_zero c h locked start room other p.turn s (shifted_zero p.shift02 b e f₂ c h z))

-- ---- one link

-- finite results have finite shifts
module _ (p : Posed) (x : Inputs) (b : List Float) (ok : finite_kept (kept_of p x b) ≡ true) where
  place_finite : finite_place p.world p.shift02 p.shift23 ≡ true
  unfolding kept_of finite_kept
  place_finite = (both_hold _ (all_finite (block_from p x.joint.locked x.start b)) ok).0

  first_finite : finite_point p.shift02 ≡ true
  unfolding finite_place
  first_finite = (both_hold (finite_pose p.world) _ (both_hold _ (finite_point p.shift23) place_finite).0).1

  second_finite : finite_point p.shift23 ≡ true
  unfolding finite_place
  second_finite = (both_hold (finite_pose p.world && finite_point p.shift02) _ place_finite).1

zero-at : (c : ℕ) → c < dof_limit → ZeroAt c zero_block
zero-at c h = (
  get_or-replicate block_size c zero32 nan (omega arith),
  get_or-replicate block_size (dof_limit + c) zero32 nan (omega arith),
  get_or-replicate block_size (2 * dof_limit + c) zero32 nan (omega arith),
)

module _ (x : Inputs) (c : ℕ) (room : x.start + 3 ≤ dof_limit) (h : c < dof_limit) (other : OwnColumn x.start x.joint.locked c → ⊥) where
  kept_zero : (p : Posed) (b : List Float) → length b ≡ block_size → finite_kept (kept_of p x b) ≡ true → ZeroAt c b → ZeroAt c (kept_of p x b).block
  unfolding kept_of
  kept_zero p b e ok z = zeros_stay p x.joint.locked x.start c b e room h other (first_finite p x b ok) (second_finite p x b ok) z

  later_zero : (up : Kept) → length up.block ≡ block_size → finite_kept (later_kept up x) ≡ true → ZeroAt c up.block → ZeroAt c (later_kept up x).block
  unfolding later_kept
  later_zero up e ok z = kept_zero _ up.block e ok z

  root_zero : finite_kept (root_kept x) ≡ true → ZeroAt c (root_kept x).block
  unfolding root_kept
  root_zero ok = kept_zero _ zero_block (length-replicate block_size zero32) ok (zero-at c h)

-- ---- the full pass

module _ (ls : List Link) (n : ℕ) (t : List Float) (f : Fits ls n t) (ok : fine_after ls n every_link t ≡ true) (c : ℕ) (h : c < dof_limit) where
  abbrev s : State
  s = state_after ls n every_link t

  finite_at : (j : ℕ) → j < n → finite_kept (result_of ls (state_after ls n every_link t) j) ≡ true
  unfolding fine_after
  finite_at j l = ap finite_kept (sym (all_fresh ls n t f j l)) ∙ all_at n _ ok j l

  -- column c is no DoF of a link at or above link j
  abbrev Apart : ℕ → Type 0
  Apart j = (i : ℕ) → AtOrAbove (parent_at ls) i j → OwnColumn (start_of (map locked_of ls) i) (link_at ls i).joint.locked c → ⊥

  module _ (j : ℕ) (l : j < n) (apart : Apart j) where
    room : (inputs_of ls j).start + 3 ≤ dof_limit
    unfolding inputs_of
    room = omega (arith, start_le (map locked_of ls) j, f.few)

    other : OwnColumn (inputs_of ls j).start (inputs_of ls j).joint.locked c → ⊥
    unfolding inputs_of
    other = apart j itself

    result_zero : (parent_at ls j < j → ZeroAt c (kept_at (state_after ls n every_link t) (parent_at ls j)).block) → ZeroAt c (result_of ls (state_after ls n every_link t) j).block
    result_zero z = go (ltb (parent_at ls j) j) refl (finite_at j l)
      where
        up : Kept
        up = kept_at (state_after ls n every_link t) (parent_at ls j)

        go : (m : Bool) → ltb (parent_at ls j) j ≡ m → finite_kept (cond m (later_kept up (inputs_of ls j)) (root_kept (inputs_of ls j))) ≡ true
            → ZeroAt c (cond m (later_kept up (inputs_of ls j)) (root_kept (inputs_of ls j))).block
        go true e q =
            let k = ltb-true (parent_at ls j) j e in
            later_zero (inputs_of ls j) c room h other up (at_shape (state_after ls n every_link t) (parent_at ls j) (after_good ls n every_link t f) (omega (arith, f.few))) q (z k)
        go false e q = root_zero (inputs_of ls j) c room h other q

  -- a link that isn't a root is below its parent, so what is apart from it is apart from that
  zero-to : (m j : ℕ) → j < m → j < n → Apart j → ZeroAt c (kept_at (state_after ls n every_link t) j).block
  zero-to zero j k l apart = absurd (omega arith)
  zero-to (suc m) j k l apart =
      subst (λ (o : Kept). ZeroAt c o.block) (sym (all_fresh ls n t f j l))
      (result_zero j l apart (λ q. zero-to m (parent_at ls j) (omega arith) (omega arith) (λ i u. apart i (above {j = j} (omega arith) u))))

pub unused_left : UnusedLeft
unfolding kept_at
unused_left ls n t f ok j c l h unused =
    let f' = cleared_fits ls n t f in
    elim (dec_lt j n) [
      | yes q ↦ zero-to ls n (cleared t) f' ok c h (suc j) j (omega arith) q (λ i u o. unused (record { counted = q; link = i; above = u; own = o }))
      | no q ↦
          subst (ZeroAt c)
          (sym (kept_block (state_after ls n every_link (cleared t)) (state ls (cleared t)) j (after_beyond ls n every_link (cleared t) f' j (omega arith)) ∙ cleared_block t j l))
          (zero-at c h)
    ]
