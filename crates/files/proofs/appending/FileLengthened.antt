-- A file with a record after its stream, whose entry is as it was: the records are the old ones and then it, the sectors the old ones and
-- then the new, every other file is as it was, and the volume is sound but for the counts.
use Rattle.std.specs.Prelude.{if◌then◌else◌}
use mathlib.Core.Path.{◌≡◌, refl, ap, sym, ◌∙◌}
use mathlib.Core.Logic.{◌≢◌}
use mathlib.Core.Bool.{true, false, true≢false, not, Bool}
use mathlib.Core.List.{List, [], ◌∷◌, ◌++◌, append_assoc}
use Prim.Native.Nat.{ℕ, ◌-◌, ◌*◌, ◌≤◌, ◌<◌}
use native.Mathlib.Omega.{arith}
use lib.ListN.{length}
use lib.Dec.{eqb, leb}
use borrow.Author.Tests.{lt-ltb, eq-eqb, ne_eqb, eqb-false, not-true}
use Rattle.numbers.specs.Numbers.{most_segments}
use Rattle.lists.specs.Lists.{◌and◌, ◌or◌, range, among, distinct}
use Rattle.lists.specs.Parts.{put_sector, blanks, filled, zeros, sectors}
use Rattle.lists.proofs.Tests.{both_true, or_first, or_second, or_left, or_right, not_both, zeros-blanks, and_left, and_right}
use Rattle.lists.proofs.Lists.{among-append, all-append}
use Rattle.lists.proofs.Puts.{sector_same}
use Rattle.lists.proofs.Keeps.{Keeps, among-append_left, among-append_right, Keeps-trans, Keeps-put, flat-Keeps}
use Rattle.volume.specs.Volume.{sat_at, dirs, sat, system}
use Rattle.volume.specs.Directory.{entry_at, unused, contiguous, start, record_length}
use Rattle.volume.specs.Sat.{sat_of, with_bits, free, put_sat, owns}
use Rattle.volume.proofs.Bits.{length-sat_of}
use Rattle.volume.proofs.BitsSet.{length-with_bits, sat_numbers}
use Rattle.volume.proofs.SatChanged.{sat_changed}
use Rattle.records.specs.Records.{allowed, whole_records, records_of}
use Rattle.records.specs.Streams.{laid_out, laid}
use Rattle.records.proofs.RecordStreams.{appended_records}
use Rattle.records.proofs.LaidStream.{laid-Keeps, laid_read, take-filled, drop-filled}
use Rattle.ownership.specs.Blocks.{block, stream_length, sectors_of, placed}
use Rattle.ownership.specs.Owners.{logical, owned, all_owned}
use Rattle.files.specs.Files.{stored, stream, tail, records, tail_sound, records_sound, sound_but_counts}
use Rattle.files.specs.Changes.{longer, needed, new_sectors, new_pairs, lengthened}
use Rattle.files.proofs.SoundFacts.{Facts}
use Rattle.files.proofs.Kept.FileSame.{clear}
use Rattle.files.proofs.OwnersApart.{clear_by, clear_at, clear_flip, clear_join, slots_apart, system_apart}
use Rattle.files.proofs.OneFileChanged.{Changed, change_but, entry_here, owned_was, ahead, behind, sat_at_kept, sectors_kept}
use Rattle.files.proofs.EntryAndSatWritten.{Changed-file, in_sat, owned_not_sat}
use Rattle.files.proofs.OwnSectorsWritten.{slot_valid, slot_names}
use Rattle.files.proofs.SequentialFile.{logical_is, owned_is, placed_is, content_is, fab_inside, fab_apart, stream_whole}
use Rattle.files.proofs.appending.OwnersJoined.{inside_table, clear_narrow, distinct_join}
use Rattle.files.proofs.appending.GrownBlock.{grown_block, new_inside, new_distinct, new_unowned, new_not_system, new_not_owned, grown_inside, grown_distinct, grown_holds}
use Rattle.files.proofs.appending.GrownBlock.{length-grown_block, grown_stream_length, grown_sectors_of, grown_sound}

pub clear_both : (ws ss ts : List ℕ) → clear ws ss ≡ true → clear ws ts ≡ true → clear ws (ss ++ ts) ≡ true
unfolding clear
clear_both ws ss ts p q = all-append (λ u. not (among u ws)) ss ts p q

-- new ones put between others
pub distinct_insert : (p n q : List ℕ) → distinct (p ++ q) ≡ true → distinct n ≡ true → clear (p ++ q) n ≡ true → distinct (p ++ (n ++ q)) ≡ true
unfolding distinct among
distinct_insert [] n q d dn c = distinct_join n q dn d c
distinct_insert (x ∷ p) n q d dn c =
    let old : among x (p ++ q) ≡ false = not-true _ (and_left _ _ d) in
    let new : among x n ≡ false = clear_at n (x ∷ (p ++ q)) x (clear_flip (x ∷ (p ++ q)) n c) (here x (p ++ q)) in
    let out : among x (p ++ (n ++ q)) ≡ false =
    among-append x p (n ++ q) ∙ not_both _ _ (among-append_left x p q old) (among-append x n q ∙ not_both _ _ new (among-append_right x p q old)) in
    both_true _ _ (ap not out) (distinct_insert p n q (and_right _ _ d) dn (clear_narrow (p ++ q) (x ∷ (p ++ q)) n (λ u m. or_second _ _ m) c))
  where
    here : (y : ℕ) (l : List ℕ) → among y (y ∷ l) ≡ true
    here y l = or_first _ _ (eq-eqb y y refl)

among_insert : (u : ℕ) (p n q : List ℕ) → among u (p ++ (n ++ q)) ≡ (if among u n then true else among u (p ++ q))
among_insert u p n q =
    among-append u p (n ++ q) ∙ ap (λ (b : Bool). among u p or b) (among-append u n q) ∙ pick (among u p) (among u n) (among u q)
    ∙ ap (λ (b : Bool). if among u n then true else b) (sym (among-append u p q))
  where
    pick : (a b c : Bool) → a or (b or c) ≡ (if b then true else a or c)
    pick true true c = unfold ◌or◌ in refl
    pick true false c = unfold ◌or◌ in refl
    pick false true c = unfold ◌or◌ in refl
    pick false false c = unfold ◌or◌ in refl

pub sat_insert : (t : ℕ) (p n q b : List ℕ) → b ≡ sat_of t (p ++ q) → sat_numbers n ≡ true → with_bits 1 b n ≡ sat_of t (p ++ (n ++ q))
unfolding owns
sat_insert t p n q b h s =
    sat_changed 1 t (p ++ q) (p ++ (n ++ q)) n b (omega arith) h s
    (λ u l. pick (leb t u) (among u n) (among u (p ++ q)) ∙ ap (λ (x : Bool). leb t u or x) (sym (among_insert u p n q)))
  where
    pick : (a c m : Bool) → (if c then true else a or m) ≡ (a or (if c then true else m))
    pick true true m = unfold ◌or◌ in refl
    pick true false m = refl
    pick false true m = unfold ◌or◌ in refl
    pick false false m = refl

module _ (v : List ℕ) (F : Facts v) (k : ℕ) (hk : k < 8 * dirs v) (used : unused (entry_at v k) ≡ false) (seq : contiguous (entry_at v k) ≡ false)
    (r : List ℕ) (fine : allowed (record_length (entry_at v k)) r ≡ true) (enough : needed v (entry_at v k) r ≤ free v)
    (few : length (new_pairs v (entry_at v k) r) ≤ most_segments) where
  abbrev e : List ℕ
  e = entry_at v k

  abbrev new : List ℕ
  new = new_sectors v e r

  abbrev ss : List ℕ
  ss = logical v e ++ new

  -- what is written, in three steps
  w0 : List ℕ
  w0 = laid ss (longer v e r) v

  w1 : List ℕ
  w1 = put_sat v (with_bits 1 (sat v) new) w0

  v' : List ℕ
  v' = put_sector (start e) (grown_block v e r) w1

  is_v' : lengthened e r v ≡ v'
  unfolding lengthened w0 w1 v'
  is_v' = refl

  long_bits : length (with_bits 1 (sat v) new) ≡ 256
  long_bits = length-with_bits 1 (sat v) new ∙ ap length F.sat_right ∙ length-sat_of (sectors v) (all_owned v)

  Keeps-0 : Keeps ss v w0
  unfolding w0
  Keeps-0 = laid-Keeps (sectors v) ss (longer v e r) v F.long (grown_inside v F k hk used seq r)

  Keeps-1 : Keeps (range (sat_at v) 1) w0 w1
  unfolding w1 put_sat put_sector
  Keeps-1 = Keeps-put (sat_at v) 1 (256 * sat_at v) (with_bits 1 (sat v) new) w0 (omega arith) (omega (arith, long_bits)) (omega (arith, long_bits, Keeps-0.long, F.sat_in, F.long))

  long_1 : length w1 ≡ 256 * sectors v
  long_1 = Keeps-1.long ∙ Keeps-0.long ∙ F.long

  Keeps-2 : Keeps (range (start e) 1) w1 v'
  unfolding v' put_sector
  Keeps-2 =
      Keeps-put (start e) 1 (256 * start e) (grown_block v e r) w1 (omega arith) (omega (arith, length-grown_block v F k hk used seq r enough few))
      (omega (arith, length-grown_block v F k hk used seq r enough few, long_1, fab_inside v F k hk used seq))

  -- the sectors written, but for the SAT: those owned, and the new ones
  abbrev ds : List ℕ
  ds = owned v e ++ new

  ds_is : ds ≡ start e ∷ ss
  ds_is = ap (λ (l : List ℕ). l ++ new) (owned_is e used seq v)

  kw : Keeps (ds ++ range (sat_at v) 1) v v'
  unfolding range among
  kw = record {
    long = Keeps-2.long ∙ Keeps-1.long ∙ Keeps-0.long;
    at = λ u h.
        let m : eqb u (start e) or among u ss ≡ false = ap (among u) (sym ds_is) ∙ among-append_left u ds (range (sat_at v) 1) h in
        Keeps-2.at u (not_both _ _ (or_left _ _ m) refl) ∙ Keeps-1.at u (among-append_right u ds (range (sat_at v) 1) h) ∙ Keeps-0.at u (or_right _ _ m);
  }

  system_out : clear (system v) ds ≡ true
  system_out = clear_both (system v) (owned v e) new (system_apart v F k hk) (new_not_system v F k hk used seq r)

  others_out : (i : ℕ) → i < 8 * dirs v → i ≢ k → clear ds (owned v (entry_at v i)) ≡ true
  others_out i h n =
      clear_join (owned v e) new (owned v (entry_at v i)) (slots_apart v F i k h hk n)
      (clear_flip (owned v (entry_at v i)) new (new_not_owned v F k hk used seq r i h))

  C : Changed v v' k e (ds ++ range (sat_at v) 1)
  C = Changed-file v F v' ds kw system_out k hk others_out

  pub lengthened-Changed : Changed v (lengthened (entry_at v k) r v) k (entry_at v k) ((owned v (entry_at v k) ++ new_sectors v (entry_at v k) r) ++ range (sat_at v) 1)
  lengthened-Changed = rw is_v' C

  -- the access block, the SAT and the data sectors are apart
  fab_owned : among (start e) (owned v e) ≡ true
  unfolding among
  fab_owned = rw (owned_is e used seq v) (or_first _ _ (eq-eqb (start e) (start e) refl))

  fab_out : among (start e) ss ≡ false
  fab_out =
      among-append (start e) (logical v e) new
      ∙ not_both _ _ (fab_apart v F k hk used seq) (clear_at new (owned v e) (start e) (clear_flip (owned v e) new (new_not_owned v F k hk used seq r k hk)) fab_owned)

  sat_not_fab : among (sat_at v) (range (start e) 1) ≡ false
  unfolding range among
  sat_not_fab = not_both _ _ (ne_eqb (sat_at v) (start e) (λ q. eqb-false (start e) (sat_at v) (owned_not_sat v F k hk (start e) fab_owned) (sym q))) refl

  data_apart : clear (range (sat_at v) 1 ++ range (start e) 1) ss ≡ true
  unfolding range among
  data_apart = clear_by (sat_at v ∷ start e ∷ []) ss (λ u m.
      let o : among u (system v) ≡ false = clear_at (system v) ds u system_out (ap (among u) ds_is ∙ or_second _ _ m) in
      not_both _ _ (ne_eqb u (sat_at v) (λ q. true≢false (sym (in_sat v) ∙ ap (λ (x : ℕ). among x (system v)) (sym q) ∙ o)))
      (not_both _ _ (ne_eqb u (start e) (λ q. true≢false (sym m ∙ ap (λ (x : ℕ). among x ss) q ∙ fab_out))) refl))

  -- what is read where it was written
  block_now : block v' e ≡ grown_block v e r
  unfolding block v'
  block_now = sector_same (start e) (grown_block v e r) w1 (length-grown_block v F k hk used seq r enough few) (omega (arith, long_1, fab_inside v F k hk used seq))

  sat_now : sat v' ≡ with_bits 1 (sat v) new
  unfolding sat
  sat_now =
      rw (sat_at_kept v v' k e (ds ++ range (sat_at v) 1) C)
      (Keeps-2.at (sat_at v) sat_not_fab ∙ (unfold w1 put_sat in sector_same (sat_at v) (with_bits 1 (sat v) new) w0 long_bits (omega (arith, Keeps-0.long, F.sat_in, F.long))))

  logical_now : logical v' e ≡ ss
  logical_now = logical_is e used seq v' ∙ ap sectors_of block_now ∙ grown_sectors_of v F k hk used seq r enough few

  stored_now : stored v' e ≡ filled (256 * length ss) (longer v e r)
  unfolding stored laid_out clear
  stored_now =
      rw logical_now
      (flat-Keeps (range (sat_at v) 1 ++ range (start e) 1) w0 v' (Keeps-trans (range (sat_at v) 1) (range (start e) 1) w0 w1 v' Keeps-1 Keeps-2) ss data_apart
      ∙ (unfold w0 in laid_read (sectors v) ss (longer v e r) v F.long (grown_inside v F k hk used seq r) (grown_distinct v F k hk used seq r)
      (grown_holds v F k hk used seq r enough)))

  length_now : stream_length (block v' e) ≡ length (longer v e r)
  length_now = ap (λ (b : List ℕ). stream_length b) block_now ∙ grown_stream_length v F k hk used seq r enough few

  stream_now : stream v' e ≡ longer v e r
  unfolding stream
  stream_now = rw (length_now, stored_now) (take-filled (256 * length ss) (longer v e r))

  tail_now : tail v' e ≡ blanks (256 * length ss - length (longer v e r))
  unfolding tail
  tail_now = rw (length_now, stored_now) (drop-filled (256 * length ss) (longer v e r))

  -- the volume is sound but for the counts
  owned_is_now : owned v' e ≡ owned v e ++ new
  owned_is_now = owned_is e used seq v' ∙ ap (λ (l : List ℕ). start e ∷ l) logical_now ∙ sym ds_is

  placed_now : placed v' e ≡ true
  placed_now =
      placed_is e used seq v'
      ∙ rw (sectors_kept v v' k e (ds ++ range (sat_at v) 1) C, block_now)
      (both_true _ _ (lt-ltb _ _ (fab_inside v F k hk used seq)) (grown_sound v F k hk used seq r enough few))

  whole_now : (records_of (record_length e) (longer v e r) ≡ records v e ++ (r ∷ [])) × (whole_records (record_length e) (longer v e r) ≡ true)
  unfolding longer records
  whole_now = appended_records (record_length e) (stream v e) r (stream_whole v F k hk used seq) fine

  content_now : tail_sound v' e and records_sound v' e ≡ true
  content_now =
      content_is e used seq v'
      ∙ both_true _ _ (ap zeros tail_now ∙ zeros-blanks (256 * length ss - length (longer v e r))) (ap (whole_records (record_length e)) stream_now ∙ whole_now.1)

  a : List ℕ
  a = ahead v v' k e (ds ++ range (sat_at v) 1) C

  b : List ℕ
  b = behind v v' k e (ds ++ range (sat_at v) 1) C

  all_was : all_owned v ≡ (a ++ owned v e) ++ b
  unfolding a b
  all_was =
      owned_was v v' k e (ds ++ range (sat_at v) 1) C ∙ sym (append_assoc (ahead v v' k e (ds ++ range (sat_at v) 1) C) (owned v e) (behind v v' k e (ds ++ range (sat_at v) 1) C))

  all_now : a ++ (owned v' e ++ b) ≡ (a ++ owned v e) ++ (new ++ b)
  all_now = ap (λ (l : List ℕ). a ++ (l ++ b)) owned_is_now ∙ ap (λ (l : List ℕ). a ++ l) (append_assoc (owned v e) new b) ∙ sym (append_assoc a (owned v e) (new ++ b))

  sound_now : sound_but_counts v' ≡ true
  unfolding a b
  sound_now =
      change_but v v' k e (ds ++ range (sat_at v) 1) C F (slot_valid v F k hk) (slot_names v F k hk) placed_now content_now
      (ap distinct all_now ∙ distinct_insert (a ++ owned v e) new b (ap distinct (sym all_was) ∙ F.none_twice) (new_distinct v F k hk used seq r)
      (ap (λ (l : List ℕ). clear l new) (sym all_was) ∙ new_unowned v F k hk used seq r))
      (sat_now ∙ sat_insert (sectors v) (a ++ owned v e) new b (sat v) (F.sat_right ∙ ap (sat_of (sectors v)) all_was)
      (inside_table (sectors v) new F.high (new_inside v F k hk used seq r)) ∙ ap (sat_of (sectors v)) (sym all_now))

  pub lengthened_sound : sound_but_counts (lengthened (entry_at v k) r v) ≡ true
  lengthened_sound = rw is_v' sound_now

  -- what becomes of the file
  pub lengthened_entry : entry_at (lengthened (entry_at v k) r v) k ≡ entry_at v k
  lengthened_entry = rw is_v' (entry_here v v' k e (ds ++ range (sat_at v) 1) C)

  pub lengthened-owned : owned (lengthened (entry_at v k) r v) (entry_at v k) ≡ owned v (entry_at v k) ++ new_sectors v (entry_at v k) r
  lengthened-owned = rw is_v' owned_is_now

  pub records-lengthened : records (lengthened (entry_at v k) r v) (entry_at v k) ≡ records v (entry_at v k) ++ (r ∷ [])
  records-lengthened = rw is_v' (unfold records in ap (records_of (record_length e)) stream_now) ∙ whole_now.0
