-- A record appended: the file lengthened, and its entry with a record count of one more. The records are the old ones and then it, the
-- sectors the old ones and then the new, every other file is as it was, and the volume is sound.
use mathlib.Core.Path.{◌≡◌, ap, sym, ◌∙◌}
use mathlib.Core.Logic.{◌≢◌}
use mathlib.Core.Bool.{true, false}
use mathlib.Core.List.{List, [], ◌∷◌, ◌++◌}
use Prim.Native.Nat.{ℕ, ◌+◌, ◌-◌, ◌*◌, ◌≤◌, ◌<◌}
use native.Mathlib.Decide.{ℕ_discrete}
use native.Mathlib.Omega.{arith}
use lib.ListN.{length, length-append, set}
use lib.Seq.{get_or-set_same, get_or-set_other, set-set}
use borrow.Author.Tests.{eq-eqb}
use Rattle.numbers.specs.Numbers.{most_segments}
use Rattle.lists.specs.Lists.{range}
use Rattle.lists.specs.Parts.{sectors}
use Rattle.lists.proofs.Keeps.{Keeps, Keeps-trans}
use Rattle.lists.proofs.Lists.{among-append}
use Rattle.lists.proofs.Tests.{not_both, or_second, or_cases}
use Rattle.volume.specs.Directory.{entries, entry_at, unused, contiguous, valid, record_length, record_count, put_entry, SameButCount}
use Rattle.volume.specs.Sat.{free}
use Rattle.volume.specs.Volume.{sat_at, dir_at, dirs, layout_of}
use Rattle.volume.specs.Code.Located.{Located}
use Rattle.volume.proofs.EntryCounted.{length-with_count, count_with_count, alike_with_count, alike_entry, valid_first, valid-with_count}
use Rattle.volume.proofs.LayoutKept.{keeps_dir_at, keeps_dirs}
use Rattle.volume.proofs.Located.{Located-sound}
use Rattle.volume.proofs.Slots.{length-entries, length_entry, entry_Keeps, entries_put}
use Rattle.records.specs.Records.{allowed}
use Rattle.ownership.specs.Owners.{owned}
use Rattle.files.specs.Files.{records, records_in, count_is, sound}
use Rattle.files.specs.Changes.{needed, new_sectors, new_pairs, lengthened, one_more, appended}
use Rattle.files.proofs.Kept.EntryAlike.{owned_alike, records_alike}
use Rattle.files.proofs.EntryAndSatWritten.{owned_not_dir}
use Rattle.files.proofs.OneFileChanged.{Changed, counts_kept}
use Rattle.files.proofs.OwnersApart.{clear_join, zero_not, last_not}
use Rattle.files.proofs.OwnSectorsWritten.{slot_valid}
use Rattle.files.proofs.Kept.Recounted.{Recounted, recounted_but, recounted_records, recounted_file}
use Rattle.files.proofs.slot.SlotInUse.{count_right}
use Rattle.files.proofs.SoundFacts.{Facts, CountsTrue, Facts-but, sound_is}
use Rattle.files.proofs.appending.FileLengthened.{lengthened-Changed, lengthened_sound, lengthened_entry, lengthened-owned, records-lengthened}

module _ (v : List ℕ) (F : Facts v) (k : ℕ) (hk : k < 8 * dirs v) (used : unused (entry_at v k) ≡ false) (seq : contiguous (entry_at v k) ≡ false)
    (r : List ℕ) (fine : allowed (record_length (entry_at v k)) r ≡ true) (enough : needed v (entry_at v k) r ≤ free v)
    (few : length (new_pairs v (entry_at v k) r) ≤ most_segments) where
  abbrev e : List ℕ
  e = entry_at v k

  abbrev e' : List ℕ
  e' = one_more e

  abbrev w : List ℕ
  w = lengthened e r v

  abbrev v' : List ℕ
  v' = appended k r v

  abbrev ds : List ℕ
  ds = (owned v e ++ new_sectors v e r) ++ range (sat_at v) 1

  abbrev dir : List ℕ
  dir = range (dir_at v) (dirs v)

  -- the file lengthened
  C : Changed v w k e ds
  C = lengthened-Changed v F k hk used seq r fine enough few

  G : Facts w
  G = Facts-but w (lengthened_sound v F k hk used seq r fine enough few)

  dir_at-w : dir_at w ≡ dir_at v
  dir_at-w = keeps_dir_at ds v w C.keeps C.last_out

  dirs-w : dirs w ≡ dirs v
  dirs-w = keeps_dirs ds v w C.keeps C.last_out

  slot_w : k < 8 * dirs w
  slot_w = omega (arith, hk, dirs-w)

  entry_w : entry_at w k ≡ e
  entry_w = lengthened_entry v F k hk used seq r fine enough few

  -- the entry with its count
  long_e : length e ≡ 32
  unfolding layout_of
  long_e = length_entry v (layout_of v) (Located-sound v F.one) k hk

  long_e' : length e' ≡ 32
  unfolding one_more
  long_e' = length-with_count (record_count e + 1) e long_e

  valid-e : valid e ≡ true
  valid-e = or_cases _ _ (slot_valid v F k hk) used

  pub one_more_same : SameButCount (entry_at v k) (one_more (entry_at v k))
  unfolding one_more
  one_more_same = alike_with_count (record_count e + 1) e long_e (valid_first e valid-e) seq

  is_put : v' ≡ put_entry w k e' w
  unfolding appended put_entry
  is_put = rw dir_at-w

  at_w : Located w (layout_of w)
  at_w = Located-sound w G.one

  Keeps-w : Keeps dir w v'
  unfolding layout_of
  Keeps-w = rw (is_put, sym dir_at-w, sym dirs-w) (entry_Keeps w (layout_of w) at_w k slot_w e' long_e')

  entries-w : entries v' ≡ set (entries w) k e'
  unfolding layout_of
  entries-w = rw is_put (entries_put w (layout_of w) at_w k slot_w e' long_e' (last_not w G).0)

  at_k : entry_at v' k ≡ e'
  unfolding entry_at
  at_k = rw entries-w (get_or-set_same (entries w) k e' [] (omega (arith, length-entries w, slot_w)))

  at_other : (i : ℕ) → i ≢ k → entry_at v' i ≡ entry_at w i
  unfolding entry_at
  at_other i n = rw entries-w (get_or-set_other (entries w) k i e' [] n)

  R : Recounted w v'
  R = record {
    keeps = rw (dir_at-w, dirs-w) Keeps-w;
    each = λ i h. elim (ℕ_discrete i k) [
      | yes q ↦ rw (q, at_k, entry_w) one_more_same
      | no n ↦ alike_entry (entry_at w i) (entry_at v' i) (at_other i n)
    ];
    each_valid = λ i h. elim (ℕ_discrete i k) [
      | yes q ↦ rw (q, at_k) (or_second _ _ (unfold one_more in valid-with_count (record_count e + 1) e long_e seq valid-e))
      | no n ↦ rw (at_other i n) (slot_valid w G i h)
    ];
  }

  -- both together change one slot
  pub appended-Changed : Changed v (appended k r v) k (one_more (entry_at v k)) (((owned v (entry_at v k) ++ new_sectors v (entry_at v k) r) ++ range (sat_at v) 1)
      ++ range (dir_at v) (dirs v))
  appended-Changed = record {
    keeps = Keeps-trans ds dir v w v' C.keeps Keeps-w;
    vid_out = among-append 0 ds dir ∙ not_both _ _ C.vid_out (zero_not v F).0;
    last_out = among-append (sectors v - 1) ds dir ∙ not_both _ _ C.last_out (last_not v F).0;
    slot = hk;
    entries_are = entries-w ∙ ap (λ (l : List (List ℕ)). set l k e') C.entries_are ∙ set-set (entries v) k e e';
    others_out = λ i h n. clear_join ds dir (owned v (entry_at v i)) (C.others_out i h n) (owned_not_dir v F i h);
  }

  -- what an append makes of the file
  pub appended_entry : entry_at (appended k r v) k ≡ one_more (entry_at v k)
  appended_entry = at_k

  used_w : unused (entry_at w k) ≡ false
  used_w = ap unused entry_w ∙ used

  seq_w : contiguous (entry_at w k) ≡ false
  seq_w = ap contiguous entry_w ∙ seq

  pub appended-owned : owned (appended k r v) (one_more (entry_at v k)) ≡ owned v (entry_at v k) ++ new_sectors v (entry_at v k) r
  appended-owned =
      owned_alike e e' one_more_same v'
      ∙ ap (owned v') (sym entry_w) ∙ (recounted_file w v' G R k slot_w used_w).owned_same ∙ ap (owned w) entry_w
      ∙ lengthened-owned v F k hk used seq r fine enough few

  records_now : records v' e' ≡ records v e ++ (r ∷ [])
  records_now =
      ap (records v') (sym at_k) ∙ recounted_records w v' G R k slot_w used_w seq_w ∙ ap (records w) entry_w
      ∙ records-lengthened v F k hk used seq r fine enough few

  pub records-appended : records (appended k r v) (entry_at v k) ≡ records v (entry_at v k) ++ (r ∷ [])
  records-appended = sym (records_alike e e' one_more_same v') ∙ records_now

  -- its count is right if it was
  pub appended_count : record_count (one_more (entry_at v k)) ≡ record_count (entry_at v k) + 1
  unfolding one_more
  appended_count = count_with_count (record_count e + 1) e long_e

  count_now : CountsTrue v → count_is (records_in v') e' ≡ true
  unfolding count_is records_in
  count_now t =
      let was : record_count e ≡ length (records v e) = count_right v F (records_in v) t k hk used seq in
      let now : record_count e' ≡ length (records v' e') =
      omega (arith, appended_count, was, ap length records_now, length-append (records v e) (r ∷ [])) in
      or_second _ _ (eq-eqb (record_count e') (length (records v' e')) now)

  pub appended-Facts : Facts (appended k r v)
  appended-Facts = Facts-but v' (recounted_but w v' G R)

  pub appended-sound : CountsTrue v → sound (appended k r v) ≡ true
  appended-sound t = sound_is v' (recounted_but w v' G R) (counts_kept v v' k e' _ appended-Changed t (count_now t))
