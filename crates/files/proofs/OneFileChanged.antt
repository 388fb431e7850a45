-- One file changed: an image that keeps everything but one entry, that entry's sectors and the SAT's account of them is sound again.
-- Every change of a volume is proved sound by this one law.
use mathlib.Core.Path.{◌≡◌, refl, ap, sym, ◌∙◌}
use mathlib.Core.Bool.{true, false, Bool}
use mathlib.Core.List.{List, [], ◌++◌, append_assoc}
use mathlib.Core.Logic.{◌≢◌}
use Prim.Native.Nat.{ℕ, ◌-◌, ◌*◌, ◌<◌}
use native.Mathlib.Omega.{arith}
use lib.ListN.{set, length, get_or}
use lib.Seq.{get_or-set_same, get_or-set_other}
use Rattle.lists.specs.Lists.{◌and◌, among, ◌or◌, all, distinct}
use Rattle.lists.specs.Parts.{sectors}
use Rattle.lists.proofs.Keeps.{Keeps}
use Rattle.lists.proofs.Tests.{both_true}
use Rattle.lists.proofs.JoinedLists.{all-set}
use Rattle.lists.proofs.Replaced.{all_replaced, Split, split}
use Rattle.lists.proofs.Lists.{same_refl}
use Rattle.volume.specs.Volume.{dirs, sat_at, sat, system, sound1}
use Rattle.volume.specs.Directory.{entries, entry_at, unused, valid, names_differ, sound2}
use Rattle.volume.specs.Sat.{sat_of}
use Rattle.volume.proofs.LayoutKept.{keeps_sectors, keeps_sat_at}
use Rattle.volume.proofs.Slots.{length-entries}
use Rattle.ownership.specs.Owners.{owned, all_owned, sound5}
use Rattle.ownership.specs.Blocks.{placed, sound3}
use Rattle.ownership.proofs.OwnedRuns.{owned-unused}
use Rattle.files.specs.Files.{tail_sound, records_sound, sound4, sound_but_counts, count_is, counts_are, records_in, sound}
use Rattle.files.proofs.Kept.FileSame.{clear, Same, Same-file}
use Rattle.files.proofs.Kept.FrameKept.{frame_system, frame_1}
use Rattle.files.proofs.Kept.RecordsSame.{count_Same}
use Rattle.ownership.proofs.BlockTests.{placed-unused}
use Rattle.files.proofs.SoundFacts.{Facts, CountsTrue, sound_but, sound_is, content_unused, count_unused}

-- v' is v with slot k made e', writing no sectors but ws
pub record Changed (v v' : List ℕ) (k : ℕ) (e' ws : List ℕ) : Type 0 where
  pub keeps : Keeps ws v v'
  pub vid_out : among 0 ws ≡ false
  pub last_out : among (sectors v - 1) ws ≡ false
  pub slot : k < 8 * dirs v
  pub entries_are : entries v' ≡ set (entries v) k e'
  pub others_out : (i : ℕ) → i < 8 * dirs v → i ≢ k → clear ws (owned v (entry_at v i)) ≡ true

module _ (v v' : List ℕ) (k : ℕ) (e' ws : List ℕ) (C : Changed v v' k e' ws) where
  pub sectors_kept : sectors v' ≡ sectors v
  sectors_kept = keeps_sectors ws v v' C.keeps C.last_out

  pub sat_at_kept : sat_at v' ≡ sat_at v
  sat_at_kept = keeps_sat_at ws v v' C.keeps C.last_out

  pub system_kept : system v' ≡ system v
  system_kept = frame_system ws v v' C.keeps C.vid_out C.last_out

  pub point_1 : sound1 v ≡ true → sound1 v' ≡ true
  point_1 = frame_1 ws v v' C.keeps C.vid_out C.last_out

  -- every other entry, and the file behind it
  pub entry_other : (i : ℕ) → i ≢ k → entry_at v' i ≡ entry_at v i
  unfolding entry_at
  entry_other i n = rw C.entries_are (get_or-set_other (entries v) k i e' [] n)

  pub entry_here : entry_at v' k ≡ e'
  unfolding entry_at
  entry_here = rw C.entries_are (get_or-set_same (entries v) k e' [] (omega (arith, length-entries v, C.slot)))

  pub file_other : (i : ℕ) → i < 8 * dirs v → i ≢ k → unused (entry_at v i) ≡ false → Same v v' (entry_at v i)
  file_other i h n u = Same-file ws v v' C.keeps sectors_kept (entry_at v i) u (C.others_out i h n)

  -- a test that an unused entry passes, and that a file as it was passes as it did
  other : (p q : List ℕ → Bool) → ((e : List ℕ) → unused e ≡ true → p e ≡ true) → ((e : List ℕ) → unused e ≡ true → q e ≡ true)
      → ((e : List ℕ) → Same v v' e → q e ≡ p e) → (i : ℕ) → i < length (entries v) → i ≢ k → q (get_or (entries v) i []) ≡ p (get_or (entries v) i [])
  unfolding entry_at
  other p q pu qu s i h n = go (unused (get_or (entries v) i [])) refl
    where
      go : (b : Bool) → unused (get_or (entries v) i []) ≡ b → q (get_or (entries v) i []) ≡ p (get_or (entries v) i [])
      go true u = qu _ u ∙ sym (pu _ u)
      go false u = s _ (file_other i (omega (arith, length-entries v)) n u)

  pub point_3 : sound3 v ≡ true → placed v' e' ≡ true → sound3 v' ≡ true
  unfolding sound3
  point_3 h p =
      rw C.entries_are
      (all_replaced (placed v) (placed v') (entries v) k [] e'
      (other (placed v) (placed v') (placed-unused v) (placed-unused v') (λ e s. s.placed_same)) h p)

  pub point_4 : sound4 v ≡ true → tail_sound v' e' and records_sound v' e' ≡ true → sound4 v' ≡ true
  unfolding sound4
  point_4 h p =
      rw C.entries_are
      (all_replaced (λ e. tail_sound v e and records_sound v e) (λ e. tail_sound v' e and records_sound v' e) (entries v) k [] e'
      (other (λ e. tail_sound v e and records_sound v e) (λ e. tail_sound v' e and records_sound v' e) (content_unused v) (content_unused v') (λ e s. s.content_same)) h p)

  owned_other : (i : ℕ) → i < length (entries v) → i ≢ k → owned v' (get_or (entries v) i []) ≡ owned v (get_or (entries v) i [])
  unfolding entry_at
  owned_other i h n = go (unused (get_or (entries v) i [])) refl
    where
      go : (b : Bool) → unused (get_or (entries v) i []) ≡ b → owned v' (get_or (entries v) i []) ≡ owned v (get_or (entries v) i [])
      go true u = owned-unused v' _ u ∙ sym (owned-unused v _ u)
      go false u = (file_other i (omega (arith, length-entries v)) n u).owned_same

  pub owners : Split (owned v) (owned v') (entries v) k [] e'
  owners = split (owned v) (owned v') (entries v) k [] e' (omega (arith, length-entries v, C.slot)) owned_other

  -- all owners, before and after: the others' stand around those of slot k
  pub ahead : List ℕ
  ahead = system v ++ owners.before

  pub behind : List ℕ
  behind = owners.after

  pub owned_was : all_owned v ≡ ahead ++ (owned v (entry_at v k) ++ behind)
  unfolding all_owned entry_at ahead behind
  owned_was = ap (λ (l : List ℕ). system v ++ l) owners.was ∙ sym (append_assoc (system v) owners.before (owned v (get_or (entries v) k []) ++ owners.after))

  pub owned_now : all_owned v' ≡ ahead ++ (owned v' e' ++ behind)
  unfolding all_owned ahead behind
  owned_now =
      rw (system_kept, C.entries_are)
      (ap (λ (l : List ℕ). system v ++ l) owners.now_is ∙ sym (append_assoc (system v) owners.before (owned v' e' ++ owners.after)))

  pub point_5 : distinct (ahead ++ (owned v' e' ++ behind)) ≡ true → sat v' ≡ sat_of (sectors v) (ahead ++ (owned v' e' ++ behind)) → sound5 v' ≡ true
  unfolding sound5
  point_5 d s = rw (owned_now, d, s, sectors_kept) (both_true true _ refl (same_refl (sat_of (sectors v) (ahead ++ (owned v' e' ++ behind)))))

  pub point_2 : unused e' or valid e' ≡ true → names_differ (set (entries v) k e') ≡ true → all (λ e. unused e or valid e) (entries v) ≡ true → sound2 v' ≡ true
  unfolding sound2
  point_2 g n h = rw C.entries_are (both_true _ _ (all-set (λ e. unused e or valid e) (entries v) k e' h g) n)

  -- the volume is sound but for the counts; and they are right, if those of the others were and the one of slot k is
  pub change_but : Facts v → unused e' or valid e' ≡ true → names_differ (set (entries v) k e') ≡ true → placed v' e' ≡ true → tail_sound v' e' and records_sound v' e' ≡ true
      → distinct (ahead ++ (owned v' e' ++ behind)) ≡ true → sat v' ≡ sat_of (sectors v) (ahead ++ (owned v' e' ++ behind)) → sound_but_counts v' ≡ true
  change_but F g n p c d s =
      sound_but v' (point_1 F.one) (point_2 g n F.each_valid) (point_3 F.three p) (point_4 F.four c) (point_5 d s)

  pub counts_kept : CountsTrue v → count_is (records_in v') e' ≡ true → CountsTrue v'
  unfolding counts_are
  counts_kept h p =
      rw C.entries_are
      (all_replaced (count_is (records_in v)) (count_is (records_in v')) (entries v) k [] e'
      (other (count_is (records_in v)) (count_is (records_in v')) (count_unused (records_in v)) (count_unused (records_in v')) (λ e s. count_Same v v' e s)) h p)

  pub change_sound : Facts v → CountsTrue v → unused e' or valid e' ≡ true → names_differ (set (entries v) k e') ≡ true → placed v' e' ≡ true
      → tail_sound v' e' and records_sound v' e' ≡ true → count_is (records_in v') e' ≡ true → distinct (ahead ++ (owned v' e' ++ behind)) ≡ true
      → sat v' ≡ sat_of (sectors v) (ahead ++ (owned v' e' ++ behind)) → sound v' ≡ true
  change_sound F t g n p c m d s = sound_is v' (change_but F g n p c d s) (counts_kept t m)
