-- What the passes answer, and what the lent tables then hold.
use Rattle.std.specs.Prelude.{ℕ, min, Bool, true, false, ◌&&◌, List, leb, length, Float}
use Rattle.limits.specs.Limits.{link_limit, table_size}
use Rattle.arm.specs.declared.Link.{Link}
use Rattle.kinematics.specs.State.{State, state_after, fine_after, cleared, every_link}

-- the links that a pass leaves, and whether every result that it worked out is finite
pub record Refreshed : Type 0 where
  pub links : List Link
  pub fine : Bool

pub record Outcome : Type 0 where
  pub answer : Refreshed
  pub memory : List Float

abbrev pub out : Refreshed → List Float → Outcome
out r t = record { answer = r; memory = t }

-- the new state where all is fine, else everything as it was
unfoldable pub passed : Bool → State → List Link → List Float → Outcome
passed true s ls t = out (record { fine = true; links = s.links }) s.tables
passed false s ls t = out (record { fine = false; links = ls }) t

-- the marked links, over what is kept
unfoldable pub refresh_marked : List Link → ℕ → (ℕ → Bool) → List Float → Outcome
refresh_marked ls n b t =
    let count = min n link_limit in
    passed (leb table_size (length t) && fine_after ls count b t) (state_after ls count b t) ls t

-- every link, over cleared tables
unfoldable pub refresh_all : List Link → ℕ → List Float → Outcome
refresh_all ls n t =
    let count = min n link_limit in
    passed (leb table_size (length t) && fine_after ls count every_link (cleared t)) (state_after ls count every_link (cleared t)) ls t
