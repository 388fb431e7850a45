-- The free sectors after each call.
use Rattle.std.specs.Prelude.{if◌then◌else◌}
use mathlib.Core.Path.{◌≡◌, refl, ap, sym, ◌∙◌}
use mathlib.Core.Bool.{true, false, Bool}
use mathlib.Core.List.{List}
use Prim.Native.Nat.{ℕ, ◌+◌, ◌*◌, ◌<◌, ◌≤◌}
use native.Mathlib.Omega.{arith}
use lib.ListN.{length}
use Rattle.numbers.specs.Numbers.{record_limit, most_new}
use Rattle.lists.specs.Parts.{blanks, in_sectors}
use Rattle.lists.specs.Lists.{index}
use Rattle.lists.proofs.Tests.{zeros-blanks}
use Rattle.lists.proofs.Ranges.{length-range}
use Rattle.volume.specs.Volume.{dirs}
use Rattle.volume.specs.Directory.{entries, entry_at, unused, contiguous, record_length}
use Rattle.volume.specs.Sat.{free, lowest_run}
use Rattle.records.proofs.RecordStreams.{allowed_small}
use Rattle.ownership.specs.Blocks.{block, stream_length, total}
use Rattle.ownership.specs.Owners.{owned}
use Rattle.files.specs.Files.{sound}
use Rattle.files.specs.Changes.{taken, needed, overwritten, deleted}
use Rattle.files.proofs.SoundFacts.{facts}
use Rattle.files.proofs.appending.GrownBlock.{needed_few}
use Rattle.files.proofs.appending.NeededSectors.{most_new_lem}
use Rattle.keeping.proofs.AllocateKeeps.{allocate_Changed, allocate_sound, allocate_owned}
use Rattle.keeping.proofs.DeleteKeeps.{delete_Changed, delete_sound}
use Rattle.keeping.proofs.OverwriteKeeps.{overwritten-free}
use Rattle.files.proofs.Kept.FreeAndOwned.{Changed-free}
use Rattle.keeping.proofs.FreeCounts.{unused_count, run_count, records_count, appended-free, encoded_count, needed_count}
use Rattle.work.specs.Volumes.{slot_of, new_file}
use Rattle.work.specs.Transfers.{written, writing, updating, reading, moving}
use Rattle.desk.specs.Desk.{State, file_of, aimed}
use Rattle.desk.specs.Answers.{Outcome}
use Rattle.desk.specs.Calls.{Call, format, check, bring_up, compact, allocate, assign, close, rewind, delete, read, write, update, quietly, transferred, checked, closed_up_to, done}
use Rattle.promises.specs.Sectors.{Bytes}
use Rattle.promises.specs.Contents.{slot_held}
use Rattle.promises.specs.Answers.{NoFormat}
use Rattle.promises.specs.Counts.{sectors_held, growth, trade, FreeCount, MostTaken}
use Rattle.promises.proofs.Passing.{Accepted, accepted}
use Rattle.promises.proofs.Told.{compact_told, AllocateTold, allocate_told, DeleteTold, delete_told, WriteTold, write_told, update_told}
use Rattle.promises.proofs.Held.{entry_of, ready_sound}
use Rattle.compaction.proofs.StepsRearrange.{compacted-Rearranged}
use Rattle.promises.proofs.Filing.{can_allocate}
use Rattle.promises.proofs.NamedFile.{file_there, file_used}
use Rattle.promises.proofs.Effects.BroughtUp.{bring_up_told, up_free}
use Rattle.promises.proofs.Appending.{Appending, appending}
use Rattle.promises.proofs.Overwriting.{Overwriting, overwriting}
use Rattle.promises.proofs.Updating.{update_free}
use Rattle.promises.proofs.Writing.{written_run, written_records}

-- Allocate takes the run
free_allocate : (caller : ℕ) (desc : List ℕ) (k n l rc : ℕ) (s : State) → AllocateTold s caller desc k n l rc
    → free (new_file s.image desc k n l rc) + taken k n ≡ free s.image
unfolding new_file
free_allocate caller desc k n l rc s T =
    let v : List ℕ = s.image in
    let A = can_allocate caller desc k n l rc s T in
    let c = Changed-free v _ _ _ _ (allocate_Changed A) (facts v (ready_sound s T.is_ready)) (facts _ (allocate_sound A)) in
    let new = ap length (allocate_owned A) ∙ length-range (lowest_run (taken k n) v) (taken k n) in
    omega (arith, c, new, unused_count v (entry_at v (index unused (entries v))) A.slot_unused)

-- Delete gives back what the file has
held_count : (v : List ℕ) → sound v ≡ true → (k : ℕ) → k < 8 * dirs v → unused (entry_at v k) ≡ false → length (owned v (entry_at v k)) ≡ sectors_held v (entry_at v k)
unfolding sectors_held
held_count v h k l u = go (contiguous (entry_at v k)) refl
  where
    go : (b : Bool) → contiguous (entry_at v k) ≡ b → length (owned v (entry_at v k)) ≡ sectors_held v (entry_at v k)
    go true q = rw q (run_count v (entry_at v k) u q)
    go false q = rw q (records_count v (facts v h) k l u q)

free_delete : (caller : ℕ) (desc : List ℕ) (s : State) → DeleteTold s caller desc
    → free (deleted (slot_of s.image desc) s.image) ≡ free s.image + sectors_held s.image (entry_at s.image (slot_of s.image desc))
free_delete caller desc s T =
    let v : List ℕ = s.image in
    let k : ℕ = slot_of v desc in
    let h = ready_sound s T.is_ready in
    let l = file_there T.named_file in
    let c = Changed-free v _ k _ _ (delete_Changed v k h l) (facts v h) (facts _ (delete_sound v k h l)) in
    omega (arith, c, unused_count (deleted k v) (blanks 32) (zeros-blanks 32), held_count v h k l (file_used T.named_file))

-- Write: an append takes the sectors that it needs
module _ (caller lun sel num : ℕ) (bs : List ℕ) (s : State) (T : WriteTold s caller lun sel num bs) where
  abbrev v : List ℕ
  v = s.image

  abbrev e : List ℕ
  e = entry_of s lun

  abbrev i : ℕ
  i = aimed s lun sel num

  -- what `trade` says of it
  abbrev takes_now : ℕ
  takes_now = if contiguous e then 0 else growth v e (length bs)

  needs : contiguous e ≡ false → needed v e bs ≡ growth v e (length bs)
  unfolding growth
  needs q =
      let A : Appending s lun i bs = appending caller lun sel num bs s T q in
      let H = A.held_file in
      rw (sym (encoded_count (record_length e) bs)) (needed_count v H.facts_of (slot_held s lun) H.slot_in H.lun_ok.used q bs)

  free_write : free (written (slot_held s lun) i bs v) + takes_now ≡ free v + 0
  free_write = go (contiguous e) refl
    where
      go : (b : Bool) → contiguous e ≡ b → free (written (slot_held s lun) i bs v) + takes_now ≡ free v + 0
      go true q =
          let O : Overwriting s lun i bs = overwriting caller lun sel num bs s T q in
          let H = O.held_file in
          let f : free (overwritten e i bs v) ≡ free v =
          overwritten-free v H.facts_of (slot_held s lun) H.slot_in H.lun_ok.used O.runs i _ bs O.inside O.in_sectors.whole in
          rw (q, written_run (slot_held s lun) i bs v q) (omega (arith, f))
      go false q =
          let A : Appending s lun i bs = appending caller lun sel num bs s T q in
          let H = A.held_file in
          let f = appended-free v H.facts_of (slot_held s lun) H.slot_in H.lun_ok.used A.sequential bs A.fine A.enough A.few in
          rw (q, written_records (slot_held s lun) i bs v q, sym (needs q)) (omega (arith, f))

  -- .. and never more than data of their length can need
  takes_most : (m : ℕ) → (contiguous e ≡ false → length bs ≤ m) → takes_now ≤ in_sectors (2 + m)
  takes_most m h = go (contiguous e) refl
    where
      go : (b : Bool) → contiguous e ≡ b → takes_now ≤ in_sectors (2 + m)
      go true q = rw q (omega arith)
      go false q =
          let H = (appending caller lun sel num bs s T q).held_file in
          rw (q, sym (needs q)) (needed_few v H.facts_of (slot_held s lun) H.slot_in H.lun_ok.used q bs m (h q))

  takes_few : takes_now ≤ most_new
  takes_few = rw most_new_lem (takes_most record_limit (λ q. allowed_small (record_length e) bs (appending caller lun sel num bs s T q).fine))

counted : (c : Call) (s : State) → Bytes s.image → NoFormat c → Accepted c s → free (done c s).image + (trade c s).takes ≡ free s.image + (trade c s).gives
unfolding done quietly checked closed_up_to transferred trade file_of reading writing updating moving
counted (format id n) s b h a = absurd (h id n refl)
counted check s b h a = refl
counted bring_up s b h a = ap (λ (n : ℕ). n + 0) (up_free s (bring_up_told s a))
counted (compact n) s b h a =
    ap (λ (m : ℕ). m + 0) (compacted-Rearranged n s.image (ready_sound s (compact_told n s a).is_ready)).as_many_free
counted (allocate caller desc k n l rc) s b h a = free_allocate caller desc k n l rc s (allocate_told caller desc k n l rc s a) ∙ omega arith
counted (assign caller lun desc mode end offered) s b h a = refl
counted (close caller lun) s b h a = refl
counted (rewind caller lun) s b h a = refl
counted (delete caller desc) s b h a = omega (arith, free_delete caller desc s (delete_told caller desc s a))
counted (read caller lun sel num fmt buf) s b h a = refl
counted (write caller lun sel num fmt bs) s b h a = free_write caller lun sel num _ s (write_told caller lun sel num fmt bs s a)
counted (update caller lun sel num fmt bs) s b h a = omega (arith, update_free caller lun sel num fmt bs s b (update_told caller lun sel num fmt bs s a))

pub free_count : FreeCount
free_count s b c n h =
    let a = accepted c s h in
    ap (λ (o : Outcome). free o.image + (trade c s).takes) a.is ∙ counted c s b n a

-- The longest record in an empty file
reached : (img e : List ℕ) → record_length e ≡ 0 → stream_length (block img e) ≡ 0 → total (block img e) ≡ 0 → growth img e record_limit ≡ most_new
unfolding growth in_sectors
reached img e l m t = rw (l, m, t)

pub most_taken : MostTaken
unfolding trade file_of
most_taken = record {
  by_length = λ s caller lun sel num fmt bs h. takes_most caller lun sel num _ s (write_told caller lun sel num fmt bs s (accepted _ s h)) _ (λ q. omega arith);
  never_more = λ s caller lun sel num fmt bs h. takes_few caller lun sel num _ s (write_told caller lun sel num fmt bs s (accepted _ s h));
  is_reached = reached;
}
