-- Delete keeps a volume sound: it empties one entry and frees that file's sectors, whose bytes stay.
use mathlib.Core.Path.{refl, ◌≡◌, ◌∙◌}
use mathlib.Core.List.{List, [], ◌++◌}
use mathlib.Core.Bool.{true, false, not}
use Prim.Native.Nat.{ℕ, ◌+◌, ◌*◌, ◌<◌}
use native.Mathlib.Omega.{arith}
use lib.ListN.{length}
use lib.Dec.{ltb}
use Rattle.lists.specs.Lists.{among, all, distinct}
use Rattle.lists.specs.Parts.{sector, blanks, sectors}
use Rattle.lists.proofs.Keeps.{Keeps-refl}
use Rattle.lists.proofs.Tests.{or_first, zeros-blanks}
use Rattle.lists.proofs.Lists.{all-nil, distinct_out}
use Rattle.lists.proofs.Puts.{length-blanks}
use Rattle.lists.proofs.AreBytes.{Bytes}
use Rattle.lists.proofs.Walks.{all_yes}
use Rattle.volume.specs.Volume.{sat_at, dir_at, dirs, sat, system}
use Rattle.volume.specs.Directory.{entries, entry_at, put_entry}
use Rattle.volume.specs.Sat.{with_bits, sat_of, put_sat}
use Rattle.volume.proofs.BitsSet.{length-with_bits, Bytes-with_bits}
use Rattle.volume.proofs.clashes.EntryClashes.{unused_before, unused_after, names_differ-set}
use Rattle.volume.proofs.SatAccounts.{sat_cleared}
use Rattle.lists.proofs.ByteLists.{Bytes-put, Bytes-put_sector, Bytes-blanks}
use Rattle.ownership.specs.Owners.{owned, all_owned}
use Rattle.ownership.proofs.OwnedRuns.{owned-unused}
use Rattle.files.specs.Files.{records_in, sound}
use Rattle.files.specs.Changes.{deleted}
use Rattle.files.proofs.Kept.FileSame.{clear}
use Rattle.files.proofs.OwnersApart.{clear_by}
use Rattle.ownership.proofs.BlockTests.{placed-unused}
use Rattle.files.proofs.SoundFacts.{Facts, facts, counts_true, content_unused, count_unused}
use Rattle.files.proofs.OneFileChanged.{Changed, ahead, behind, owned_was, entry_here, change_sound}
use Rattle.files.proofs.EntryAndSatWritten.{tables}
use Rattle.files.proofs.SoundSat.{length-sat, Bytes-sat, below_table, slot_below}
use Rattle.keeping.proofs.SlotWritten.{Changed-entry, sat_written}

nothing_clear : (ss : List ℕ) → clear [] ss ≡ true
unfolding among
nothing_clear ss = clear_by [] ss (λ u m. refl)

module _ (v : List ℕ) (k : ℕ) (s : sound v ≡ true) (hk : k < 8 * dirs v) where
  F : Facts v
  F = facts v s

  gone : List ℕ
  gone = owned v (entry_at v k)

  bits : List ℕ
  bits = with_bits 0 (sat v) gone

  length-bits : length bits ≡ 256
  unfolding bits
  length-bits = length-with_bits 0 (sat v) gone ∙ length-sat v F

  gone_below : all (λ u. ltb u (sectors v)) gone ≡ true
  unfolding gone
  gone_below = slot_below v F k hk

  nothing : clear (system v) [] ≡ true
  unfolding clear
  nothing = all-nil (λ u. not (among u (system v)))

  pub delete_Changed : Changed v (deleted k v) k (blanks 32) (tables v)
  unfolding deleted bits gone
  delete_Changed =
      Changed-entry v F v [] (Keeps-refl v) nothing bits length-bits k hk (blanks 32) (length-blanks 32)
      (λ i h n. nothing_clear (owned v (entry_at v i)))

  pub delete_entry : entry_at (deleted k v) k ≡ blanks 32
  delete_entry = entry_here v (deleted k v) k (blanks 32) (tables v) delete_Changed

  -- "their bytes stay": only the SAT and the directory are written
  pub delete_elsewhere : (u : ℕ) → among u (tables v) ≡ false → sector u (deleted k v) ≡ sector u v
  delete_elsewhere u h = delete_Changed.keeps.at u h

  delete_sat : sat (deleted k v) ≡ bits
  unfolding deleted bits gone
  delete_sat =
      sat_written v F v [] (Keeps-refl v) nothing bits length-bits k hk (blanks 32) (length-blanks 32)
      (λ i h n. nothing_clear (owned v (entry_at v i)))

  -- the owners around those of slot k
  p : List ℕ
  p = ahead v (deleted k v) k (blanks 32) (tables v) delete_Changed

  b : List ℕ
  b = behind v (deleted k v) k (blanks 32) (tables v) delete_Changed

  was : all_owned v ≡ p ++ (gone ++ b)
  unfolding p b gone
  was = owned_was v (deleted k v) k (blanks 32) (tables v) delete_Changed

  was_distinct : distinct (p ++ (gone ++ b)) ≡ true
  was_distinct = rw was at F.none_twice

  bits_are : bits ≡ sat_of (sectors v) (p ++ b)
  unfolding bits
  bits_are = sat_cleared (sectors v) p gone b (sat v) (below_table v F gone gone_below) (F.sat_right ∙ rw was) was_distinct gone_below

  pub delete_sound : sound (deleted k v) ≡ true
  unfolding p b
  delete_sound =
      let none : owned (deleted k v) (blanks 32) ≡ [] = owned-unused (deleted k v) (blanks 32) (zeros-blanks 32) in
      change_sound v (deleted k v) k (blanks 32) (tables v) delete_Changed F (counts_true v s) (or_first _ _ (zeros-blanks 32))
      (names_differ-set (entries v) k (blanks 32) (all_yes _ (entries v) (λ e. unused_before (blanks 32) e (zeros-blanks 32)))
      (all_yes _ (entries v) (λ e. unused_after e (blanks 32) (zeros-blanks 32))) F.names)
      (placed-unused (deleted k v) (blanks 32) (zeros-blanks 32))
      (content_unused (deleted k v) (blanks 32) (zeros-blanks 32))
      (count_unused (records_in (deleted k v)) (blanks 32) (zeros-blanks 32))
      (rw none (distinct_out p gone b was_distinct))
      (rw none (delete_sat ∙ bits_are))

  pub delete_Bytes : Bytes v → Bytes (deleted k v)
  unfolding deleted put_entry put_sat bits gone
  delete_Bytes h =
      Bytes-put (256 * dir_at v + 32 * k) (blanks 32) _ (Bytes-blanks 32)
      (Bytes-put_sector (sat_at v) bits v (Bytes-with_bits 0 (sat v) gone (omega arith) (Bytes-sat v F) (length-sat v F) (below_table v F gone gone_below)) h)
