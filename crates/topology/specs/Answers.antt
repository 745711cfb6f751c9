-- What the calls over a bare list of parents answer, and what the lent memory then holds.
use Rattle.std.specs.Prelude.{ℕ, ◌*◌, Bool, List, [], ◌∷◌, length, leb, ltb}
use Rattle.limits.specs.Limits.{link_limit}
use Rattle.refusal.specs.Refusal.{unless_of, lowest}
use Rattle.refusal.specs.Counted.{Outcome, filled}
use Rattle.topology.specs.declared.Split.{Split}
use Rattle.topology.specs.Parents.{parents_fit, branch}
use Rattle.topology.specs.Split.{link_of, part_count, split_map}

-- a link is asked for in a list of parents, and the lent memory is long enough or not
unfoldable pub refusal_of : List ℕ → ℕ → Bool → ℕ
refusal_of ps link enough =
    lowest
    (unless_of enough 1
    ∷ unless_of (leb (length ps) link_limit) 2
    ∷ unless_of (ltb link (length ps)) 4
    ∷ unless_of (parents_fit ps) 4
    ∷ [])

-- the branch of a link, a byte for each of its links
unfoldable pub branch_answer : List ℕ → ℕ → List ℕ → Outcome ℕ
branch_answer ps link m =
    let b = branch ps link in
    filled (refusal_of ps link (leb (length b) (length m))) (length b) b m

-- a split: the part count, two bytes for each link
unfoldable pub split_answer : List ℕ → Split → List ℕ → Outcome ℕ
split_answer ps s m =
    let n = length ps in
    filled (refusal_of ps (link_of s) (leb (2 * n) (length m))) (part_count ps s) (split_map ps s n) m
