-- What crosses to C: its version, and the size of every struct by its fields and C's rule. A field stands at the next multiple of its alignment, and a
-- struct ends at the next multiple of the largest.
use Rattle.std.specs.Prelude.{ℕ, ◌+◌, ◌-◌, ◌*◌, ◌/◌, max, List, [], ◌∷◌, map, get_or}
use Rattle.limits.specs.Limits.{link_limit, coupling_limit, dof_limit}

-- a type as C lays it out
pub record Laid : Type 0 where
  pub size : ℕ
  pub align : ℕ

abbrev pub laid : ℕ → ℕ → Laid
laid size align = record { size = size; align = align }

-- the least multiple of an alignment that isn't below n
abbrev pub up : ℕ → ℕ → ℕ
up n align = (n + align - 1) / align * align

-- where fields end that begin at a place, and the largest alignment
abbrev pub ends : List Laid → ℕ → ℕ → Laid
ends [] at align = laid at align
ends (f ∷ fs) at align = ends fs (up at f.align + f.size) (max align f.align)

abbrev pub struct : List Laid → Laid
struct fs = let e = ends fs 0 1 in laid (up e.size e.align) e.align

abbrev pub array : ℕ → Laid → Laid
array n each = laid (n * each.size) each.align

-- ---- Numbers

abbrev pub byte : Laid
byte = laid 1 1

-- an f32 or a u32
abbrev pub word : Laid
word = laid 4 4

abbrev pub usize : Laid
usize = laid 8 8

-- ---- Structs, field by field

abbrev pub rotation : Laid
rotation = struct (word ∷ word ∷ [])

abbrev pub point : Laid
point = struct (word ∷ word ∷ [])

abbrev pub pose : Laid
pose = struct (word ∷ word ∷ word ∷ word ∷ [])

abbrev pub joint : Laid
joint = struct (byte ∷ byte ∷ byte ∷ pose ∷ pose ∷ array 3 word ∷ rotation ∷ array 3 word ∷ array 3 word ∷ [])

abbrev pub spring : Laid
spring = struct (word ∷ word ∷ [])

abbrev pub link : Laid
link = struct (word ∷ byte ∷ joint ∷ point ∷ pose ∷ point ∷ point ∷ [])

abbrev pub coupling : Laid
coupling = struct (byte ∷ byte ∷ byte ∷ byte ∷ word ∷ word ∷ [])

abbrev pub row : Laid
row = struct (array dof_limit word ∷ [])

abbrev pub arm : Laid
arm = struct (usize ∷ usize ∷ array link_limit link ∷ array coupling_limit coupling ∷ array 5 row ∷ [])

abbrev pub new_link : Laid
new_link = struct (word ∷ word ∷ word ∷ word ∷ word ∷ pose ∷ pose ∷ point ∷ [])

abbrev pub new_coupling : Laid
new_coupling = struct (word ∷ word ∷ word ∷ word ∷ word ∷ word ∷ [])

abbrev pub limits : Laid
limits = struct (word ∷ word ∷ word ∷ word ∷ word ∷ word ∷ [])

abbrev pub force : Laid
force = struct (word ∷ word ∷ word ∷ [])

abbrev pub edited : Laid
edited = struct (arm ∷ byte ∷ [])

abbrev pub rotated : Laid
rotated = struct (byte ∷ rotation ∷ [])

abbrev pub counted : Laid
counted = struct (byte ∷ usize ∷ [])

abbrev pub row_part : Laid
row_part = struct (byte ∷ usize ∷ usize ∷ [])

abbrev pub spring_answer : Laid
spring_answer = struct (byte ∷ spring ∷ [])

abbrev pub axes_answer : Laid
axes_answer = struct (byte ∷ array 3 word ∷ [])

abbrev pub constraint_row : Laid
constraint_row = struct (byte ∷ word ∷ word ∷ word ∷ word ∷ word ∷ [])

abbrev pub sums : Laid
sums = struct (byte ∷ word ∷ word ∷ [])

-- in the order of the C header
abbrev pub sizes : List ℕ
sizes =
    map (λ each. each.size)
    (rotation ∷ point ∷ pose ∷ joint ∷ spring ∷ link ∷ coupling ∷ row ∷ arm ∷ new_link ∷ new_coupling ∷ limits ∷ force ∷ edited ∷ rotated ∷
    counted ∷ row_part ∷ spring_answer ∷ axes_answer ∷ constraint_row ∷ sums ∷ [])

-- the size of the struct at a place, from 0; past the last it is 0
unfoldable pub size_of : ℕ → ℕ
size_of place = get_or sizes place 0

abbrev pub version_number : ℕ
version_number = 2
