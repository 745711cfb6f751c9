-- A pass over the links of a tree, in place, over any store of results: entry j is read by `at` and written by `put`.
use Rattle.std.specs.Prelude.{ℕ, zero, suc, Bool, cond, ltb}

pub record Ops (In Out Store : Type 0) : Type 0 where
  -- a root's results, from its inputs
  pub root : In → Out
  -- any other link's, from its parent's results and its inputs
  pub later : Out → In → Out
  pub at : Store → ℕ → Out
  pub put : Store → ℕ → Out → Store

-- par gives each link's parent, xs its inputs
module _ {In Out Store : Type 0} (O : Ops In Out Store) (par : ℕ → ℕ) (xs : ℕ → In) where
  -- link j's results by what the store keeps of its parent; a link whose parent isn't earlier is a root
  abbrev pub new_at : Store → ℕ → Out
  new_at s j = cond (ltb (par j) j) (O.later (O.at s (par j)) (xs j)) (O.root (xs j))

  -- the first n links, rising: those marked are worked out, the others are left
  unfoldable pub run : (ℕ → Bool) → ℕ → Store → Store
  run b zero s = s
  run b (suc j) s = let r = run b j s in cond (b j) (O.put r j (new_at r j)) r
