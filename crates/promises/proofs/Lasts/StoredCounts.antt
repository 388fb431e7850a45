-- The counts that entries have are those of the records: of a sound volume, and from a formatted one on.
use mathlib.Core.Path.{sym, ◌∙◌}
use Rattle.files.specs.Files.{records_in}
use Rattle.files.proofs.slot.SlotInUse.{count_right}
use Rattle.files.proofs.SoundFacts.{facts, counts_true}
use Rattle.promises.specs.BroughtUp.{StoredCounts, StoredCountsStay}
use Rattle.promises.proofs.Preserved.{stays_sound}
use Rattle.promises.proofs.Units.{extent-records}

pub stored_counts : StoredCounts
unfolding records_in
stored_counts img h k f c =
    let n = count_right img (facts img h) (records_in img) (counts_true img h) k f.slot f.used c in
    record { of_records = n; is_extent = extent-records img _ c ∙ sym n }

pub stored_counts_stay : StoredCountsStay
stored_counts_stay s id n h vs b k f c = stored_counts _ (stays_sound s id n h vs b).0.is_sound k f c
