-- What a call on an arm and its lent tables answers, and what the tables then hold.
use Rattle.std.specs.Prelude.{ℕ, zero, suc, Bool, cond, List, leb, length, Float}
use Rattle.arm.specs.Setters.{with_links}
use Rattle.limits.specs.Limits.{table_size}
use Rattle.arm.specs.declared.Arm.{Arm}
use Rattle.arm.specs.declared.Edited.{Edited}
use Rattle.kinematics.specs.Answers.{Refreshed, refresh_marked, refresh_all}

pub record Outcome : Type 0 where
  pub answer : Edited
  pub memory : List Float

abbrev pub out : Edited → List Float → Outcome
out e t = record { answer = e; memory = t }

-- a refusal, or 0, with an arm and the memory
abbrev pub says : ℕ → Arm → List Float → Outcome
says k a t = out (record { refusal = k; arm = a }) t

-- refused: the number, the arm given for that, and the memory as it was; else what follows
unfoldable pub unless_refused : ℕ → Arm → List Float → Outcome → Outcome
unless_refused zero a t next = next
unless_refused (suc k) a t next = says (suc k) a t

-- the tables' memory is long enough
abbrev pub tables_fit : List Float → Bool
tables_fit t = leb table_size (length t)

-- ---- an arm worked out: 12 where a result isn't finite

-- the new arm with the links that a pass left, or 12 and the arm given for that
unfoldable pub worked_by : Arm → Arm → Refreshed → Edited
worked_by old new r = cond r.fine (record { refusal = 0; arm = with_links new r.links }) (record { refusal = 12; arm = old })

-- every link of the new arm
unfoldable pub worked_all : Arm → Arm → List Float → Outcome
worked_all old new t =
    let p = refresh_all new.links new.link_count t in
    out (worked_by old new p.answer) p.memory

-- those marked, over what is kept
unfoldable pub worked_marked : Arm → Arm → (ℕ → Bool) → List Float → Outcome
worked_marked old new marks t =
    let p = refresh_marked new.links new.link_count marks t in
    out (worked_by old new p.answer) p.memory
