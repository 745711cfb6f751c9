-- Rule 4 as numbers: a later link's parent is earlier. Each test is one of the list's.
use Prim.Native.Nat.{ℕ, zero, suc, ◌+◌, ◌≤◌, ◌<◌}
use mathlib.Core.Path.{◌≡◌, refl, sym, ap, ap₂, ◌∙◌}
use mathlib.Core.Bool.{Bool, true, ◌&&◌}
use mathlib.Core.List.{List}
use native.Mathlib.Omega.{arith}
use native.Mathlib.Numerals.{add-one}
use borrow.Author.Tests.{ltb-true}
use lib.ListN.{length, take, get_or}
use lib.Seq.{take_all}
use Rattle.std.specs.List.{list_all, enumerate_from}
use Rattle.std.proofs.lemmas.List.Folds.{list_all_more}
use Rattle.std.proofs.lemmas.List.FromFn.{length-enumerate_from, get_or-enumerate_from}
use lib.Dec.{eqb, ltb}
use Rattle.lists.proofs.Numbers.{all_at}
use Rattle.lists.specs.Numbers.{all_below}
use Rattle.topology.specs.Parents.{parent_fits, parents_fit, parent_in}

pub first : (j p : ℕ) → j ≡ 0 → eqb p 0 ≡ parent_fits j p
unfolding parent_fits
first zero p h = refl
first (suc j) p h = absurd (omega arith)

pub later : (j p : ℕ) → (j ≡ 0 → ⊥) → ltb p j ≡ parent_fits j p
unfolding parent_fits
later zero p h = absurd (h refl)
later (suc j) p h = refl

-- the first j links fit
abbrev pub fit_to : List ℕ → ℕ → Bool
fit_to ps n = all_below n (λ j. parent_fits j (parent_in ps j))

fit_front : (ps : List ℕ) (n : ℕ) → n ≤ length ps → list_all (λ (p : ℕ × ℕ). parent_fits p.0 p.1) (take n (enumerate_from 0 ps)) ≡ fit_to ps n
unfolding all_below
fit_front ps zero h = refl
fit_front ps (suc n) h =
    let test = λ (p : ℕ × ℕ). parent_fits p.0 p.1 in
    let l : n < length (enumerate_from 0 ps) = rw length-enumerate_from (omega arith) in
    let same : 0 + n ≡ n = omega arith in
    let at : get_or (enumerate_from 0 ps) n (0, 0) ≡ (n, get_or ps n 0) = rw same at (get_or-enumerate_from 0 ps n (0, 0) (omega arith)) in
    rw add-one at (list_all_more test (enumerate_from 0 ps) n (0, 0) l)
    ∙ ap₂ ◌&&◌ (fit_front ps n (omega arith)) (ap test at)

-- each link tested beside its number
pub fit_each : (ps : List ℕ) → list_all (λ (p : ℕ × ℕ). parent_fits p.0 p.1) (enumerate_from 0 ps) ≡ parents_fit ps
unfolding parents_fit
fit_each ps =
    ap (list_all (λ (p : ℕ × ℕ). parent_fits p.0 p.1)) (sym (take_all (length ps) (enumerate_from 0 ps) (rw length-enumerate_from (omega arith))))
    ∙ fit_front ps (length ps) (omega arith)

module _ (ps : List ℕ) (fit : parents_fit ps ≡ true) where
  at : (j : ℕ) → j < length ps → parent_fits j (parent_in ps j) ≡ true
  unfolding parents_fit
  at j h = all_at (length ps) (λ k. parent_fits k (parent_in ps k)) fit j h

  pub earlier : (j : ℕ) → 0 < j → j < length ps → parent_in ps j < j
  unfolding parent_fits
  earlier zero l h = absurd (omega arith)
  earlier (suc j) l h = ltb-true (parent_in ps (suc j)) (suc j) (at (suc j) h)
