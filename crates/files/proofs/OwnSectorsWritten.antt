-- Only sectors that one file owns are written: no owner changes, and the volume is sound where that file is.
use mathlib.Core.List.{List, ◌++◌, []}
use mathlib.Core.Path.{◌≡◌, ap, sym, ◌∙◌}
use mathlib.Core.Bool.{true}
use Prim.Native.Nat.{ℕ, ◌*◌, ◌<◌}
use native.Mathlib.Omega.{arith}
use lib.ListN.{length, set}
use lib.Seq.{set-get_or}
use Rattle.lists.specs.Lists.{among, ◌and◌, ◌or◌, range, distinct}
use Rattle.lists.specs.Parts.{sectors}
use Rattle.lists.proofs.Keeps.{Keeps, among-append_left}
use Rattle.lists.proofs.Lists.{all_at}
use Rattle.volume.specs.Volume.{dirs, sat_at, sat, system, layout_of}
use Rattle.volume.specs.Directory.{entries, entry_at, unused, valid, names_differ}
use Rattle.volume.specs.Sat.{sat_of, free_sectors, free}
use Rattle.volume.proofs.Located.{Located-sound}
use Rattle.volume.proofs.Slots.{length-entries, length_entry}
use Rattle.ownership.specs.Blocks.{placed}
use Rattle.ownership.specs.Owners.{owned, all_owned}
use Rattle.files.specs.Files.{tail_sound, records_sound, count_is, counts_are, records_in, sound}
use Rattle.files.proofs.Kept.FileSame.{clear}
use Rattle.files.proofs.OwnersApart.{clear_by, clear_at, clear_flip, system_apart, slots_apart}
use Rattle.files.proofs.SoundFacts.{Facts, CountsTrue}
use Rattle.files.proofs.OneFileChanged.{Changed, change_sound, owned_was, ahead, behind, sat_at_kept, sectors_kept}
use Rattle.files.proofs.EntryAndSatWritten.{Changed-file, in_sat}

pub Keeps-more : (ws vs a b : List ℕ) → Keeps ws a b → Keeps (ws ++ vs) a b
Keeps-more ws vs a b k = record {
  long = k.long;
  at = λ u h. k.at u (among-append_left u ws vs h);
}

-- each of these sectors is one of those
abbrev pub Part : List ℕ → List ℕ → Type 0
Part ds ss = (u : ℕ) → among u ds ≡ true → among u ss ≡ true

pub clear-Part : (ws ds ss : List ℕ) → Part ds ss → clear ws ss ≡ true → clear ws ds ≡ true
clear-Part ws ds ss p h = clear_by ws ds (λ u m. clear_at ws ss u h (p u m))

-- what the directory says of a slot
module _ (v : List ℕ) (F : Facts v) (k : ℕ) (hk : k < 8 * dirs v) where
  pub slot_valid : unused (entry_at v k) or valid (entry_at v k) ≡ true
  unfolding entry_at
  slot_valid = all_at (λ e. unused e or valid e) (entries v) k [] F.each_valid (omega (arith, length-entries v))

  pub slot_length : length (entry_at v k) ≡ 32
  unfolding layout_of
  slot_length = length_entry v (layout_of v) (Located-sound v F.one) k hk

  pub slot_placed : placed v (entry_at v k) ≡ true
  unfolding entry_at
  slot_placed = all_at (placed v) (entries v) k [] F.each_placed (omega (arith, length-entries v))

  pub slot_content : tail_sound v (entry_at v k) and records_sound v (entry_at v k) ≡ true
  unfolding entry_at
  slot_content = all_at (λ e. tail_sound v e and records_sound v e) (entries v) k [] F.each_content (omega (arith, length-entries v))

  pub slot_count : (f : List ℕ → ℕ) → counts_are f v ≡ true → count_is f (entry_at v k) ≡ true
  unfolding entry_at counts_are
  slot_count f t = all_at (count_is f) (entries v) k [] t (omega (arith, length-entries v))

  pub slot_names : names_differ (set (entries v) k (entry_at v k)) ≡ true
  unfolding entry_at
  slot_names = rw (set-get_or (entries v) k []) F.names

module _ (v : List ℕ) (F : Facts v) (k : ℕ) (hk : k < 8 * dirs v) (ds v' : List ℕ) (kw : Keeps ds v v') (own : Part ds (owned v (entry_at v k))) where
  system_out : clear (system v) ds ≡ true
  system_out = clear-Part (system v) ds (owned v (entry_at v k)) own (system_apart v F k hk)

  pub Changed-within : Changed v v' k (entry_at v k) (ds ++ range (sat_at v) 1)
  Changed-within =
      Changed-file v F v' ds (Keeps-more ds (range (sat_at v) 1) v v' kw) system_out k hk
      (λ i h n. clear_flip (owned v (entry_at v i)) ds (clear-Part (owned v (entry_at v i)) ds (owned v (entry_at v k)) own (slots_apart v F k i hk h (λ q. n (sym q)))))

  -- the SAT, and so the free sectors
  pub sat_within : sat v' ≡ sat v
  unfolding sat
  sat_within =
      rw (sat_at_kept v v' k (entry_at v k) (ds ++ range (sat_at v) 1) Changed-within)
      (kw.at (sat_at v) (clear_at ds (system v) (sat_at v) (clear_flip (system v) ds system_out) (in_sat v)))

  pub sectors_within : sectors v' ≡ sectors v
  sectors_within = sectors_kept v v' k (entry_at v k) (ds ++ range (sat_at v) 1) Changed-within

  pub free_sectors_within : free_sectors v' ≡ free_sectors v
  unfolding free_sectors
  free_sectors_within = rw (sat_within, sectors_within)

  pub free_within : free v' ≡ free v
  unfolding free
  free_within = rw free_sectors_within

  pub sound_within : CountsTrue v → owned v' (entry_at v k) ≡ owned v (entry_at v k) → placed v' (entry_at v k) ≡ true
      → tail_sound v' (entry_at v k) and records_sound v' (entry_at v k) ≡ true → count_is (records_in v') (entry_at v k) ≡ true → sound v' ≡ true
  sound_within t o p c m =
      let ws : List ℕ = ds ++ range (sat_at v) 1 in
      let e : List ℕ = entry_at v k in
      let was : all_owned v ≡ ahead v v' k e ws Changed-within ++ (owned v' e ++ behind v v' k e ws Changed-within) =
      rw o (owned_was v v' k e ws Changed-within) in
      change_sound v v' k e ws Changed-within F t (slot_valid v F k hk) (slot_names v F k hk) p c m
      (ap distinct (sym was) ∙ F.none_twice) (sat_within ∙ F.sat_right ∙ ap (sat_of (sectors v)) was)
