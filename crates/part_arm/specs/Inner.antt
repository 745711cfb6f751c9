-- What inner functions are shown to do: no entry point's promise cites it.
use Rattle.std.specs.Prelude.{ℕ, ◌+◌, ◌*◌, ◌<◌, ◌≡◌, min, Bool, cond, Option, Some, None, List, eqb, length, get_or}
use Rattle.std.specs.Option.{option_to_list}
use Rattle.topology.specs.Split.{gone}
use Rattle.lists.specs.Lists.{laid}
use Rattle.lists.specs.Numbers.{gathered}
use Rattle.arm.specs.declared.Arm.{Arm}
use Rattle.arm.specs.Arm.{live_links, links_of}
use Rattle.arm.specs.declared.Link.{Link}
use Rattle.arm.specs.declared.Coupling.{Coupling}
use Rattle.part_arm.specs.declared.PartMap.{PartMap}
use Rattle.part_arm.specs.Places.{Places}
use Rattle.part_arm.specs.Part.{new_link, coupling_stays, new_coupling}

-- ---- where links go, as a split map tells it: two bytes a link, and who has number 0 is the head

unfoldable pub part_in : List ℕ → ℕ → ℕ
part_in map j = get_or map (2 * j) gone

unfoldable pub number_in : List ℕ → ℕ → ℕ
number_in map j = get_or map (2 * j + 1) gone

unfoldable pub here_in : List ℕ → ℕ → ℕ → Bool
here_in map k j = eqb (part_in map j) k

unfoldable pub head_in : List ℕ → ℕ → Bool
head_in map j = eqb (number_in map j) 0

abbrev pub places_in : List ℕ → ℕ → Places
places_in map k = record { here = here_in map k; head = head_in map; number = number_in map }

abbrev pub seen_by : PartMap → Places
seen_by m = places_in m.places m.k

-- ---- a link and a coupling of the arm as the part has them, if it does

unfoldable pub link_if_here : Places → ℕ → Link → Option Link
link_if_here p j l = cond (p.here j) (Some (new_link (p.head j) (p.number l.parent) l)) None

unfoldable pub coupling_if_stays : Places → Coupling → Option Coupling
coupling_if_stays p c = cond (coupling_stays p c) (Some (new_coupling p.number c)) None

-- ---- a pass over a list, of whose items each is kept as something or not

-- what may be answered of each item is as g has it: one, or none
abbrev pub Gives : {A : Type 0} → (ℕ → A → Option A → Type 0) → List A → (ℕ → List A) → Type 0
Gives may xs g = (j : ℕ) (x : _) (r : _) → j < length xs → x ≡ get_or xs j x → may j x r → option_to_list r ≡ g j

-- what g has of the first n items is laid over the front of a list, and was counted
abbrev pub Lays : {A : Type 0} → (ℕ → A → Option A → Type 0) → List A → ℕ → List A → ℕ → List A → Type 0
Lays may xs n old count new = (g : _) → Gives may xs g
    → (count ≡ length (gathered (min n (length xs)) g)) × (new ≡ laid (gathered (min n (length xs)) g) old)

-- the arm has as many links as count
abbrev pub IsWhole : Arm → Type 0
IsWhole a = length (links_of a) ≡ live_links a
