-- A computed example of this layer's definitions: an edit of a definition that breaks it is refused here.
use mathlib.Core.List.{List, [], ◌∷◌, ◌++◌}
use mathlib.Core.Path.{◌≡◌, refl}
use Prim.Native.Nat.{ℕ}
use lib.ListN.{replicate}
use Rattle.lists.specs.Lists.{lists_open}
use Rattle.lists.specs.Parts.{parts_open}
use Rattle.volume.specs.Directory.{directory_open}
use Rattle.volume.specs.Sat.{sat_open}
use Rattle.volume.specs.Formatted.{formatted, formatted_open}
use Rattle.volume.specs.Names.{names_open}
use Rattle.volume.specs.Volume.{volume_open}
use Rattle.records.specs.Records.{records_open}
use Rattle.records.specs.Streams.{streams_open}
use Rattle.ownership.specs.Blocks.{blocks_open}
use Rattle.ownership.specs.Owners.{owners_open}
use Rattle.files.specs.Files.{files_open}
use Rattle.files.specs.Changes.{allocated, appended, changes_open}
use Rattle.compaction.specs.Compaction.{data_of, holds_data, holder_of}
use Rattle.picture.specs.Picture.{drawn, picture_open}

-- a contiguous file of 3 sectors in slot 0, and in slot 1 a variable one, whose access block takes sector 6 and whose record takes sector 7
desc : ℕ → List ℕ
desc letter = 0 ∷ 5 ∷ (replicate 8 32 ++ (letter ∷ replicate 7 32 ++ (65 ∷ 32 ∷ [])))

volume : List ℕ
volume = appended 1 (1 ∷ 2 ∷ 3 ∷ []) (allocated 1 (desc 89) 1 0 0 7 6 (allocated 0 (desc 88) 0 3 0 7 3 (formatted (86 ∷ 79 ∷ 76 ∷ 49 ∷ []) 1 16)))

-- "###===@B.......#", and the lent byte after it is as it was
small_drawn : drawn volume (replicate 17 0) ≡ 35 ∷ 35 ∷ 35 ∷ 61 ∷ 61 ∷ 61 ∷ 64 ∷ 66 ∷ 46 ∷ 46 ∷ 46 ∷ 46 ∷ 46 ∷ 46 ∷ 46 ∷ 35 ∷ 0 ∷ []
unfolding volume desc lists_open parts_open names_open volume_open directory_open blocks_open owners_open sat_open formatted_open records_open files_open streams_open
    changes_open picture_open data_of holds_data holder_of
small_drawn = refl
