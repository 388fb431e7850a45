-- What the search for a record of a sequential file told of it.
use mathlib.Core.Path.{◌≡◌, sym}
use mathlib.Core.List.{List, []}
use mathlib.Core.Bool.{true, false}
use Prim.Native.Nat.{ℕ, ◌+◌, ◌≤◌, ◌<◌}
use native.Mathlib.Omega.{arith}
use lib.ListN.{length}
use Rattle.numbers.specs.Numbers.{record_limit}
use Rattle.lists.specs.Parts.{part}
use Rattle.lists.proofs.AreBytes.{Bytes}
use Rattle.lists.proofs.Lists.{all_at}
use Rattle.volume.specs.Directory.{entry_at, contiguous, record_length}
use Rattle.volume.specs.declared.locate.Layout.{Layout}
use Rattle.records.specs.Records.{allowed, records_of}
use Rattle.records.specs.Code.Spots.{spot_of}
use Rattle.records.specs.declared.record.Extent.{Extent}
use Rattle.std.specs.Prelude.{Some}
use Rattle.records.proofs.RecordStreams.{allowed_small, records_allowed}
use Rattle.ownership.specs.Blocks.{block}
use Rattle.files.specs.Files.{stream, records, record_at}
use Rattle.files.specs.Code.Slots.{InUse}
use Rattle.files.proofs.replace.UpdateIs.{spot_there, spot_long, spot_fits, spot_data}
use Rattle.files.proofs.SequentialFile.{stream_whole, record_length_lem}
use Rattle.files.proofs.slot.SlotInUse.{slot_in, used_Facts}
use Rattle.files.proofs.Bounds.{stream_long}

-- len bytes from `from` on of the stream are record i
pub record Told (img e : List ℕ) (i from len : ℕ) : Type 0 where
  pub there : i < length (records img e)
  pub long : len ≡ length (record_at img e i)
  pub fits : from + len ≤ length (stream img e)
  pub is : part from len (stream img e) ≡ record_at img e i
  pub short : len ≤ record_limit

pub told : (img : List ℕ) (p : Layout) (k : ℕ) → InUse img p k → contiguous (entry_at img k) ≡ false → Bytes img → (i : ℕ) (q : Extent)
    → spot_of (record_length (entry_at img k)) (stream img (entry_at img k)) i ≡ Some q → Told img (entry_at img k) i q.from q.len
unfolding block record_at records
told img p k u c b i q e = record {
  there = spot_there img p k u c b i q e;
  long = spot_long img p k u c b i q e;
  short =
      let F = used_Facts img p k u in
      let l : ℕ = record_length (entry_at img k) in
      let s : List ℕ = stream img (entry_at img k) in
      let h = slot_in img p k u in
      let fine : allowed l (record_at img (entry_at img k) i) ≡ true =
      all_at (allowed l) (records_of l s) i [] (records_allowed l s (record_length_lem img F k h u.used c) (stream_whole img F k h u.used c))
      (spot_there img p k u c b i q e) in
      omega (arith, spot_long img p k u c b i q e, allowed_small l (record_at img (entry_at img k) i) fine);
  fits = omega (arith, spot_fits img p k u c b i q e, stream_long img p k u c);
  is = sym (spot_data img p k u c b i q e);
}
