-- How many sectors a file owns and an append needs, and how many are free after a format and after an append.
use Rattle.std.specs.Prelude.{if◌then◌else◌}
use mathlib.Core.Path.{◌≡◌, refl, ap, ◌∙◌}
use mathlib.Core.Bool.{Bool, true, false}
use mathlib.Core.List.{List, ◌++◌}
use Prim.Native.Nat.{ℕ, ◌+◌, ◌-◌, ◌*◌, ◌%◌, ◌≤◌, ◌<◌}
use native.Mathlib.Omega.{arith}
use lib.ListN.{length, length-append}
use lib.Dec.{eqb}
use Rattle.numbers.specs.Numbers.{most_segments}
use Rattle.lists.specs.Parts.{bytes2, blanks, in_sectors, sectors}
use Rattle.lists.proofs.Puts.{length-blanks}
use Rattle.lists.proofs.Ranges.{length-range}
use Rattle.volume.specs.Names.{volume_id}
use Rattle.volume.specs.Volume.{dirs, system_of, in_range}
use Rattle.volume.specs.Directory.{entry_at, unused, contiguous, size, record_length}
use Rattle.volume.specs.Sat.{free}
use Rattle.volume.specs.Formatted.{fresh_layout, formatted}
use Rattle.records.specs.Records.{allowed, encoded}
use Rattle.ownership.specs.Blocks.{block, total, stream_length}
use Rattle.ownership.specs.Owners.{owned}
use Rattle.ownership.proofs.OwnedRuns.{owned-unused, owned_run}
use Rattle.files.specs.Changes.{longer, needed, new_sectors, new_pairs, one_more, appended}
use Rattle.files.proofs.SoundFacts.{Facts, facts}
use Rattle.files.proofs.Kept.FreeAndOwned.{free_and_owned, Changed-free}
use Rattle.files.proofs.SequentialFile.{owned_is, length-logical, length-stream}
use Rattle.files.proofs.appending.GrownBlock.{length_new}
use Rattle.keeping.proofs.FormatSound.{format_sound, format_sectors, format_owned}
use Rattle.keeping.proofs.AppendKeeps.{appended-Changed, appended-Facts, appended-owned}

-- how many sectors a file owns
pub unused_count : (v e : List ℕ) → unused e ≡ true → length (owned v e) ≡ 0
unused_count v e u = rw (owned-unused v e u)

pub run_count : (v e : List ℕ) → unused e ≡ false → contiguous e ≡ true → length (owned v e) ≡ size e
run_count v e u c = ap length (owned_run v e _ _ u c refl refl) ∙ length-range _ _

pub records_count : (v : List ℕ) → Facts v → (k : ℕ) → k < 8 * dirs v → unused (entry_at v k) ≡ false → contiguous (entry_at v k) ≡ false
    → length (owned v (entry_at v k)) ≡ 1 + total (block v (entry_at v k))
records_count v F k hk u c = ap length (owned_is (entry_at v k) u c v) ∙ omega (arith, length-logical v F k hk u c)

-- after a format: all but the system's sectors
pub format_free : (id : List ℕ) (d t : ℕ) → volume_id id ≡ true → in_range t d ≡ true → free (formatted id d t) + (3 + d) ≡ t
format_free id d t hid hr =
    omega (
      arith,
      free_and_owned (formatted id d t) (facts (formatted id d t) (format_sound id d t hid hr)),
      format_sectors id d t hid hr,
      ap length (format_owned id d t hid hr),
      systems,
    )
  where
    systems : length (system_of (fresh_layout t d)) ≡ 3 + d
    systems = unfold system_of in (omega (arith, length-range 2 d))

-- after an append: the sectors that it needed are gone
pub appended-free : (v : List ℕ) (F : Facts v) (k : ℕ) (hk : k < 8 * dirs v) (used : unused (entry_at v k) ≡ false) (seq : contiguous (entry_at v k) ≡ false)
    (r : List ℕ) (fine : allowed (record_length (entry_at v k)) r ≡ true) (enough : needed v (entry_at v k) r ≤ free v)
    (few : length (new_pairs v (entry_at v k) r) ≤ most_segments) → free (appended k r v) + needed v (entry_at v k) r ≡ free v
appended-free v F k hk used seq r fine enough few =
    let e : List ℕ = entry_at v k in
    let now : length (owned (appended k r v) (one_more e)) ≡ length (owned v e) + needed v e r =
    ap length (appended-owned v F k hk used seq r fine enough few) ∙ length-append (owned v e) (new_sectors v e r)
    ∙ ap (λ (n : ℕ). length (owned v e) + n) (length_new v F k hk used seq r enough) in
    omega (
      arith,
      Changed-free v (appended k r v) k (one_more e) _ (appended-Changed v F k hk used seq r fine enough few) F (appended-Facts v F k hk used seq r fine enough few),
    )

-- the sectors that an append needs, in numbers
pub encoded_count : (l : ℕ) (r : List ℕ) → length (encoded l r) ≡ (if eqb l 0 then 2 + length r + length r % 2 else length r)
unfolding encoded
encoded_count l r = by (eqb l 0)
  where
    by : (c : Bool) → length (if c then bytes2 (length r) ++ (r ++ blanks (length r % 2)) else r) ≡ (if c then 2 + length r + length r % 2 else length r)
    by true = simp (length-append, length-blanks) (omega arith)
    by false = refl

pub needed_count : (v : List ℕ) → Facts v → (k : ℕ) → k < 8 * dirs v → unused (entry_at v k) ≡ false → contiguous (entry_at v k) ≡ false → (r : List ℕ)
    → needed v (entry_at v k) r ≡ in_sectors (stream_length (block v (entry_at v k)) + length (encoded (record_length (entry_at v k)) r)) - total (block v (entry_at v k))
unfolding needed longer
needed_count v F k hk u c r = rw (length-append, length-stream v F k hk u c)
