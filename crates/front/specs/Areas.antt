-- The two areas, and the part of one of them that a block names. Defines RULES, Areas.
use Rattle.std.specs.Prelude.{Bool, true, false, List, ℕ, ◌+◌, ◌-◌, ◌/◌, ◌%◌, eqb, leb, ltb, length}
use Rattle.lists.specs.Lists.{◌and◌}
use Rattle.lists.specs.Parts.{part, put}

-- RULES, Areas: an address with its top bit set names the shared segment; its other 31 bits count from the area's start
abbrev pub top_bit : ℕ
top_bit = 0x80000000

abbrev pub names_shared : ℕ → Bool
names_shared a = leb top_bit a

abbrev pub offset : ℕ → ℕ
offset a = a % top_bit

-- the area of the two that is meant
abbrev pub area : Bool → List ℕ → List ℕ → List ℕ
area true task shared = shared
area false task shared = task

-- RULES, Areas: the part from start to end, both included, lies wholly inside the named area: start and end have the same top bit, the
-- end is not before the start, and it is inside
unfoldable pub inside : ℕ → ℕ → List ℕ → List ℕ → Bool
inside a e task shared =
    eqb (a / top_bit) (e / top_bit) and leb (offset a) (offset e) and ltb (offset e) (length (area (names_shared a) task shared))

unfoldable pub part_named : ℕ → ℕ → List ℕ → List ℕ → List ℕ
part_named a e task shared = part (offset a) (offset e + 1 - offset a) (area (names_shared a) task shared)

-- the areas with bytes put at the start address
unfoldable pub task_after : ℕ → List ℕ → List ℕ → List ℕ
task_after a bs task = area (names_shared a) (put (offset a) bs task) task

unfoldable pub shared_after : ℕ → List ℕ → List ℕ → List ℕ
shared_after a bs shared = area (names_shared a) shared (put (offset a) bs shared)

unfoldable pub areas_open : Unit {0}
unfolding inside part_named task_after shared_after
areas_open = tt
