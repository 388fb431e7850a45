-- Closing up a volume: which sector a step moves and where to, and steps up to a quota. Defines RULES, Compact (what it does).
use Rattle.std.specs.Prelude.{if◌then◌else◌, Bool, true, false, List, [], ℕ, zero, suc, ◌+◌, eqb, leb, ltb, length}
use Rattle.numbers.specs.Numbers.{most_segments}
use Rattle.lists.specs.Lists.{◌or◌, first, topmost, some, index, among}
use Rattle.lists.specs.Parts.{sectors}
use Rattle.volume.specs.Volume.{sat}
use Rattle.volume.specs.Directory.{entries, entry_at, unused, contiguous}
use Rattle.volume.specs.Sat.{is_free}
use Rattle.ownership.specs.Owners.{logical}
use Rattle.moves.specs.Moves.{rerouted_pairs, relocated}
use Rattle.compaction.specs.declared.Ending.{Ending}
use Rattle.compaction.specs.declared.Ending.TheVariants.{Settled, QuotaUsed, SegmentNeeded}

-- the data sectors of an entry's file: those of a sequential one, and none of any other entry
unfoldable pub data_of : List ℕ → List ℕ → List ℕ
data_of img e = if unused e or contiguous e then [] else logical img e

-- whether sector x holds data of a sequential file; the slot of that file
unfoldable pub holds_data : List ℕ → ℕ → Bool
holds_data img x = some (λ e. among x (data_of img e)) (entries img)

unfoldable pub holder_of : List ℕ → ℕ → ℕ
holder_of img x = index (λ e. among x (data_of img e)) (entries img)

-- RULES, Compact: the highest-numbered data sector of any sequential file, or 0; the lowest free sector, or T
unfoldable pub highest_data : List ℕ → ℕ
highest_data img = topmost (holds_data img) (sectors img)

unfoldable pub lowest_free : List ℕ → ℕ
lowest_free img = first (is_free (sat img)) 0 (sectors img)

-- RULES, Compact: the volume is closed up unless the free one is lower
unfoldable pub closed_up : List ℕ → Bool
closed_up img = leb (highest_data img) (lowest_free img)

-- the file of the sector that a step moves, and the sector's number in it
unfoldable pub step_file : List ℕ → List ℕ
step_file img = entry_at img (holder_of img (highest_data img))

unfoldable pub step_number : List ℕ → ℕ
step_number img = index (eqb (highest_data img)) (logical img (step_file img))

-- RULES, Compact: a step; whether it would need a 63rd segment
unfoldable pub stepped : List ℕ → List ℕ
stepped img = relocated (step_file img) (step_number img) (lowest_free img) img

unfoldable pub overfull : List ℕ → Bool
overfull img = ltb most_segments (length (rerouted_pairs img (step_file img) (step_number img) (lowest_free img)))

-- What a compaction comes to: the sectors moved, why it ended, and the image after it
pub record Closing : Type 0 where
  pub moved : ℕ
  pub ending : Ending
  pub image : List ℕ

abbrev pub closing : ℕ → Ending → List ℕ → Closing
closing n why img = record { moved = n; ending = why; image = img }

-- the same with one sector more moved
unfoldable pub after_one : Closing → Closing
after_one c = closing (c.moved + 1) c.ending c.image

-- RULES, Compact: steps up to a quota; settled is named before the quota, the quota before the segments
unfoldable pub compacted : ℕ → List ℕ → Closing
compacted zero img = closing 0 (if closed_up img then Settled else QuotaUsed) img
compacted (suc n) img = elim (closed_up img) [
  | true ↦ closing 0 Settled img
  | false ↦ elim (overfull img) [
    | true ↦ closing 0 SegmentNeeded img
    | false ↦ after_one (compacted n (stepped img))
  ]
]

unfoldable pub compaction_open : Unit {0}
unfolding data_of holds_data holder_of highest_data lowest_free closed_up step_file step_number stepped overfull after_one compacted
compaction_open = tt
