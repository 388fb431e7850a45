-- An entry written beside the SAT is a change of one slot; what a blank access block says, and a name that no other entry has.
use mathlib.Core.Path.{◌≡◌, refl, ap, sym, ◌∙◌}
use mathlib.Core.Bool.{true, Bool, false, not, true≢false}
use mathlib.Core.List.{[], List, ◌++◌}
use mathlib.Core.Logic.{◌≢◌}
use Prim.Native.Nat.{ℕ, ◌+◌, ◌-◌, ◌*◌, ◌<◌}
use native.Mathlib.Omega.{arith}
use lib.ListN.{length, set, length-take, length-drop}
use borrow.Author.Tests.{not-true}
use Rattle.lists.specs.Parts.{blanks, parts_open, part, sector, put_sector, sectors}
use Rattle.lists.specs.Lists.{lists_open, ◌and◌, same, range, among}
use Rattle.lists.proofs.Tests.{is_false, not_both}
use Rattle.lists.proofs.Lists.{same-true, among-append, same_refl}
use Rattle.lists.proofs.Puts.{sector_same}
use Rattle.lists.proofs.Keeps.{Keeps, Keeps-trans, Keeps-put, among-append_left, among-append_right}
use Rattle.lists.proofs.RangeParts.{Keeps-range}
use Rattle.lists.proofs.Pieces.{part-put_inside, pieces-put}
use Rattle.volume.specs.Directory.{described, named, clashes, entries, entry_at, put_entry}
use Rattle.volume.specs.Volume.{sat_at, dir_at, dirs, sat, system}
use Rattle.volume.specs.Sat.{put_sat}
use Rattle.volume.proofs.LayoutKept.{keeps_dir_at, keeps_dirs, keeps_sat_at}
use Rattle.ownership.specs.Blocks.{block_sound, blocks_open, sectors_of, stream_length}
use Rattle.ownership.specs.Owners.{owned}
use Rattle.files.proofs.OneFileChanged.{Changed}
use Rattle.files.proofs.SoundFacts.{Facts}
use Rattle.files.proofs.Kept.FileSame.{clear}
use Rattle.files.proofs.OwnersApart.{clear_by, clear_at, clear_flip, clear_join, sat_not_dir, zero_not, last_not}
use Rattle.files.proofs.EntryAndSatWritten.{in_zero, in_last, in_dir, tables, not_tables, dir_not_sat, owned_not_tables, one-among}

-- an access block of zeros
pub blank_block : (t : ℕ) → block_sound t (blanks 256) ≡ true
unfolding lists_open parts_open blocks_open
blank_block t = refl

pub blank_sectors : sectors_of (blanks 256) ≡ []
unfolding lists_open parts_open blocks_open
blank_sectors = refl

pub blank_length : stream_length (blanks 256) ≡ 0
unfolding lists_open parts_open
blank_length = refl

-- no records make whole records
-- an entry whose name no other has clashes with none
module _ (d e x : List ℕ) (is : described e ≡ d) (new : not (named d x) ≡ true) where
  and_no : (a b : Bool) → b ≡ false → not (a and b) ≡ true
  unfolding ◌and◌
  and_no true b q = ap not q
  and_no false b q = refl

  pub clash_before : not (clashes e x) ≡ true
  unfolding clashes
  clash_before = and_no _ _ (rw is (not-true _ new))

  pub clash_after : not (clashes x e) ≡ true
  unfolding clashes named
  clash_after =
      and_no _ _
      (rw is (is_false _ (λ q.
      let z : described x ≡ d = same-true _ _ q in
      true≢false (sym (same_refl d) ∙ ap (same d) (sym z) ∙ not-true _ new))))

-- an entry written too, over an image w that keeps all but ds
module _ (v : List ℕ) (F : Facts v) (w ds : List ℕ) (kw : Keeps ds v w) (out : clear (system v) ds ≡ true) (b : List ℕ) (hb : length b ≡ 256) (k : ℕ) (hk : k < 8 * dirs v)
    (e : List ℕ) (he : length e ≡ 32) (apart : (i : ℕ) → i < 8 * dirs v → i ≢ k → clear ds (owned v (entry_at v i)) ≡ true) where
  w1 : List ℕ
  w1 = put_sat v b w

  w2 : List ℕ
  w2 = put_entry v k e w1

  Keeps-1 : Keeps (range (sat_at v) 1) w w1
  unfolding w1 put_sat put_sector
  Keeps-1 = Keeps-put (sat_at v) 1 (256 * sat_at v) b w (omega arith) (omega arith) (omega (arith, kw.long, F.sat_in, F.long))

  Keeps-2 : Keeps (range (dir_at v) (dirs v)) w1 w2
  unfolding w2 put_entry
  Keeps-2 = Keeps-put (dir_at v) (dirs v) (256 * dir_at v + 32 * k) e w1 (omega arith) (omega arith) (omega (arith, Keeps-1.long, kw.long, F.dir_in, F.long))

  -- the sectors outside SAT and directory are w's
  pub elsewhere : (u : ℕ) → among u (tables v) ≡ false → sector u (put_entry v k e (put_sat v b w)) ≡ sector u w
  unfolding w1 w2 tables
  elsewhere u h =
      Keeps-2.at u (among-append_right u (range (sat_at v) 1) (range (dir_at v) (dirs v)) h) ∙ Keeps-1.at u (among-append_left u (range (sat_at v) 1) (range (dir_at v) (dirs v)) h)

  Keeps-all : Keeps (ds ++ tables v) v w2
  unfolding tables
  Keeps-all = Keeps-trans ds (range (sat_at v) 1 ++ range (dir_at v) (dirs v)) v w w2 kw (Keeps-trans (range (sat_at v) 1) (range (dir_at v) (dirs v)) w w1 w2 Keeps-1 Keeps-2)

  system_out : (u : ℕ) → among u (system v) ≡ true → among u (tables v) ≡ false → among u (ds ++ tables v) ≡ false
  system_out u m n = among-append u ds (tables v) ∙ not_both _ _ (clear_at ds (system v) u (clear_flip (system v) ds out) m) n

  last_out' : among (sectors v - 1) (ds ++ tables v) ≡ false
  last_out' = system_out (sectors v - 1) (in_last v) (not_tables v (sectors v - 1) (last_not v F).1 (last_not v F).0)

  pub sat_written : sat (put_entry v k e (put_sat v b w)) ≡ b
  unfolding w1 w2 sat put_sat
  sat_written =
      rw (keeps_sat_at (ds ++ tables v) v w2 Keeps-all last_out')
      (Keeps-2.at (sat_at v) (sat_not_dir v F) ∙ sector_same (sat_at v) b w hb (omega (arith, kw.long, F.sat_in, F.long)))

  dir_kept : part (256 * dir_at v) (256 * dirs v) w1 ≡ part (256 * dir_at v) (256 * dirs v) v
  unfolding clear
  dir_kept =
      Keeps-range (ds ++ range (sat_at v) 1) v w1 (Keeps-trans ds (range (sat_at v) 1) v w w1 kw Keeps-1) (dir_at v) (dirs v)
      (clear_by (ds ++ range (sat_at v) 1) (range (dir_at v) (dirs v)) (λ u m.
      among-append u ds (range (sat_at v) 1) ∙ not_both _ _ (clear_at ds (system v) u (clear_flip (system v) ds out) (in_dir v u m)) (one-among u (sat_at v) (dir_not_sat v F u m))))

  length_dir : length (part (256 * dir_at v) (256 * dirs v) v) ≡ 256 * dirs v
  unfolding part
  length_dir = simp (length-take, length-drop) (omega (arith, F.dir_in, F.long))

  entries_written : entries w2 ≡ set (entries v) k e
  unfolding entries w2 put_entry
  entries_written =
      let n : (256 * dir_at v + 32 * k) - 256 * dir_at v ≡ 32 * k = omega arith in
      rw (
        keeps_dirs (ds ++ tables v) v w2 Keeps-all last_out',
        keeps_dir_at (ds ++ tables v) v w2 Keeps-all last_out',
        part-put_inside (256 * dir_at v + 32 * k) (256 * dir_at v) (256 * dirs v) e w1 (omega arith) (omega arith) (omega (arith, Keeps-1.long, kw.long, F.dir_in, F.long)),
        n,
        dir_kept,
      )
      (pieces-put (8 * dirs v) k e (part (256 * dir_at v) (256 * dirs v) v) he hk (omega (arith, length_dir)))

  pub Changed-entry : Changed v (put_entry v k e (put_sat v b w)) k e (ds ++ tables v)
  unfolding w1 w2
  Changed-entry = record {
    keeps = Keeps-all;
    vid_out = system_out 0 (in_zero v) (not_tables v 0 (zero_not v F).1 (zero_not v F).0);
    last_out = last_out';
    slot = hk;
    entries_are = entries_written;
    others_out = λ i h n. clear_join ds (tables v) (owned v (entry_at v i)) (apart i h n) (owned_not_tables v F i h);
  }
