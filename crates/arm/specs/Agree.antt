-- Arms are compared up to their counts.
use Rattle.std.specs.Prelude.{◌≡◌, []}
use Rattle.arm.specs.declared.Arm.{Arm}
use Rattle.arm.specs.declared.Edited.{Edited}
use Rattle.arm.specs.Arm.{links_of, couplings_of, rows_of}
use Rattle.arm.specs.Setters.{arm_with}

-- the same counts; the same links, couplings and row entries up to them; and the same in whatever else an arm has
pub record Agree (a b : Arm) : Type 0 where
  pub link_count : a.link_count ≡ b.link_count
  pub coupling_count : a.coupling_count ≡ b.coupling_count
  pub links : links_of a ≡ links_of b
  pub couplings : couplings_of a ≡ couplings_of b
  pub rows : rows_of a ≡ rows_of b
  pub rest : arm_with a 0 0 [] [] [] ≡ arm_with b 0 0 [] [] []

-- two edits are refused alike, and leave arms that agree
pub record AlikeEdited (x y : Edited) : Type 0 where
  pub refusal : x.refusal ≡ y.refusal
  pub arm : Agree x.arm y.arm
