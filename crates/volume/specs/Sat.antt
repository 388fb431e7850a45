-- The SAT: its bits, free sectors and the lowest run of them, and the table of given owners. Defines RULES, The sector allocation table.
use Rattle.std.specs.Prelude.{Bool, not, true, false, List, [], ◌∷◌, map, ℕ, ◌+◌, ◌-◌, ◌/◌, ◌%◌, ◌^◌, ◌*◌, length, take, set, leb, eqb}
use Rattle.lists.specs.Lists.{range, kept, ◌and◌, all, first, ◌or◌, among}
use Rattle.lists.specs.Parts.{sectors, put_sector, byte}
use Rattle.volume.specs.Volume.{sat, sat_at}

-- RULES, The sector allocation table: the bit of sector s is 1 if it is allocated; sector 0 has the top bit of byte 0
unfoldable pub marked : List ℕ → ℕ → Bool
marked b s = eqb (byte b (s / 8) / 2 ^ (7 - s % 8) % 2) 1

unfoldable pub is_free : List ℕ → ℕ → Bool
is_free b s = not (marked b s)

unfoldable pub free_sectors : List ℕ → List ℕ
free_sectors img = kept (is_free (sat img)) (range 0 (sectors img))

unfoldable pub free : List ℕ → ℕ
free img = length (free_sectors img)

-- RULES, Write: the new sectors are the lowest free ones in rising order
unfoldable pub lowest : ℕ → List ℕ → List ℕ
lowest n img = take n (free_sectors img)

-- RULES, The sector allocation table: a free run of n sectors from s on; where the lowest one starts, or T
unfoldable pub run_at : List ℕ → ℕ → ℕ → ℕ → Bool
run_at b t n s = leb (s + n) t and all (is_free b) (range s n)

unfoldable pub lowest_run : ℕ → List ℕ → ℕ
lowest_run n img = first (run_at (sat img) (sectors img) n) 0 (sectors img)

-- the SAT written where the volume v has it
unfoldable pub put_sat : List ℕ → List ℕ → List ℕ → List ℕ
put_sat v b img = put_sector (sat_at v) b img

-- b with the bit of s made v, and so the bit of each of the sectors
unfoldable pub with_bit : ℕ → List ℕ → ℕ → List ℕ
with_bit v b s =
    set b (s / 8) (byte b (s / 8) - byte b (s / 8) / 2 ^ (7 - s % 8) % 2 * 2 ^ (7 - s % 8) + v * 2 ^ (7 - s % 8))

unfoldable pub with_bits : ℕ → List ℕ → List ℕ → List ℕ
with_bits v b [] = b
with_bits v b (s ∷ ss) = with_bits v (with_bit v b s) ss

-- the SAT of t sectors that marks those of the list; RULES, The sector allocation table: the bits of numbers from T on are 1
unfoldable pub owns : ℕ → List ℕ → ℕ → Bool
owns t own s = leb t s or among s own

abbrev pub one : Bool → ℕ
one true = 1
one false = 0

unfoldable pub packed : (ℕ → Bool) → ℕ → ℕ
packed f s =
    128 * one (f s) + 64 * one (f (s + 1)) + 32 * one (f (s + 2)) + 16 * one (f (s + 3)) + 8 * one (f (s + 4)) + 4 * one (f (s + 5))
    + 2 * one (f (s + 6)) + one (f (s + 7))

unfoldable pub sat_of : ℕ → List ℕ → List ℕ
sat_of t own = map (λ i. packed (owns t own) (8 * i)) (range 0 256)

unfoldable pub sat_open : Unit {0}
unfolding marked is_free free_sectors free lowest run_at lowest_run put_sat with_bit with_bits owns packed sat_of
sat_open = tt
