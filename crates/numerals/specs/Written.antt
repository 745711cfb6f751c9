-- What is written into a lent buffer at a position, where it fits; else nothing is.
use Rattle.std.specs.Prelude.{ℕ, ◌+◌, cond, List, ◌++◌, leb, length, take, drop}

-- the next position, and what the buffer then holds
pub record Written : Type 0 where
  pub next : ℕ
  pub buffer : List ℕ

abbrev pub written : ℕ → List ℕ → Written
written next buffer = record { next = next; buffer = buffer }

-- the bytes in the place of as many, where there are as many
unfoldable pub bytes_written : Written → List ℕ → Written
bytes_written w bytes =
    let next = w.next + length bytes in
    cond (leb next (length w.buffer)) (written next (take w.next w.buffer ++ bytes ++ drop next w.buffer)) w
