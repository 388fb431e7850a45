-- A file lengthened as the code does it is the file lengthened: the access block, the table and the new sectors first, then the record alone after the
-- stream; the sectors that hold the old stream are not written again.
use mathlib.Core.Path.{◌≡◌, refl, ap, sym, ◌∙◌}
use mathlib.Core.Logic.{◌≢◌}
use mathlib.Core.Bool.{true, false, true≢false}
use mathlib.Core.List.{List, [], ◌++◌, append_assoc}
use Prim.Native.Nat.{ℕ, ◌+◌, ◌-◌, ◌*◌, ◌≤◌, ◌<◌}
use native.Mathlib.Nat.{sub-zero}
use native.Mathlib.Omega.{arith}
use lib.ListN.{length, length-append, take-append-drop}
use lib.Dec.{eqb}
use borrow.Author.Tests.{eqb-false, eq-eqb}
use Rattle.numbers.specs.Numbers.{most_sectors}
use Rattle.lists.specs.Parts.{put, sector, put_sector, blanks, filled, sectors}
use Rattle.lists.specs.Lists.{among}
use Rattle.lists.proofs.Tests.{and_left, and_right, or_first, or_second, or_right, not_both, zeros_are}
use Rattle.lists.proofs.Lists.{among-append}
use Rattle.lists.proofs.Puts.{sector_same, sector_other, long_sector}
use Rattle.lists.proofs.Blanks.{blanks-add}
use Rattle.lists.proofs.LentParts.{length-sector}
use Rattle.lists.proofs.Keeps.{Keeps, among-append_right}
use Rattle.volume.specs.Volume.{sat_at, dirs, sat, system}
use Rattle.volume.specs.Directory.{entry_at, unused, contiguous, start, record_length}
use Rattle.volume.specs.Sat.{with_bits, put_sat}
use Rattle.volume.specs.declared.locate.Layout.{Layout}
use Rattle.volume.proofs.BitsSet.{length-with_bits}
use Rattle.records.specs.Records.{encoded}
use Rattle.records.specs.Streams.{laid_out, laid}
use Rattle.records.proofs.RecordStreams.{allowed_small}
use Rattle.records.proofs.LaidStream.{inside, laid-length, laid_other, laid-Keeps, laid_read}
use Rattle.records.proofs.ImageBySectors.{laid-filled}
use Rattle.records.proofs.WritesCommute.{sectors_swap, laid_swap, laid_over, put_after, laid_out-append, laid_out_agree}
use Rattle.ownership.specs.Blocks.{block, stream_length, sectors_of, block_sound}
use Rattle.ownership.specs.Code.Shapes.{BlockShaped}
use Rattle.ownership.specs.Owners.{logical, owned}
use Rattle.files.specs.Files.{stored, stream, tail}
use Rattle.files.specs.Changes.{longer, new_sectors, new_pairs, lengthened}
use Rattle.files.specs.Code.Growing.{Grows, grown_with, Taking, RecordFits, Takes}
use Rattle.files.proofs.SoundFacts.{Facts}
use Rattle.files.proofs.OwnersApart.{clear_at, clear_flip, system_apart}
use Rattle.files.proofs.EntryAndSatWritten.{in_sat, owned_not_sat}
use Rattle.files.proofs.SequentialFile.{owned_is, fab_inside, fab_apart, block_sound_lem, length-stored, length-stream, tail_zero}
use Rattle.files.proofs.taking.LowestFree.{below_few}
use Rattle.files.proofs.appending.OwnersJoined.{inside_table}
use Rattle.files.proofs.appending.GrownBlock.{grown_block, block_sound_shaped, new_inside, new_distinct, new_not_system, new_not_owned, grown_inside, grown_distinct}
use Rattle.files.proofs.appending.GrownBlock.{grown_holds, length-grown_block, grown_sectors_of, grown_sound}
use Rattle.files.proofs.SoundSat.{length-sat}
use Rattle.files.proofs.map.OpenBlock.{block_larger, Mapped-inside, opens}
use Rattle.files.proofs.slot.SlotInUse.{slot_in, used_Facts}

module _ (v : List ℕ) (p : Layout) (k : ℕ) (r : List ℕ) (T : Takes v p k r) where
  abbrev e : List ℕ
  e = entry_at v k

  abbrev t : ℕ
  t = sectors v

  abbrev s : ℕ
  s = start e

  abbrev new : List ℕ
  new = new_sectors v e r

  abbrev ss : List ℕ
  ss = logical v e ++ new

  abbrev used : unused e ≡ false
  used = T.adds.file.used

  abbrev seq : contiguous e ≡ false
  seq = T.adds.sequential

  F : Facts v
  F = used_Facts v p k T.adds.file

  hk : k < 8 * dirs v
  hk = slot_in v p k T.adds.file

  -- the access block, the table and the data sectors are apart
  fab_owned : among s (owned v e) ≡ true
  unfolding among
  fab_owned = rw (owned_is e used seq v) (or_first _ _ (eq-eqb s s refl))

  fab_new : among s new ≡ false
  fab_new = clear_at new (owned v e) s (clear_flip (owned v e) new (new_not_owned v F k hk used seq r k hk)) fab_owned

  pub fab_out : among (start (entry_at v k)) (logical v (entry_at v k) ++ new_sectors v (entry_at v k) r) ≡ false
  fab_out = among-append s (logical v e) new ∙ not_both _ _ (fab_apart v F k hk used seq) fab_new

  sat_new : among (sat_at v) new ≡ false
  sat_new = clear_at new (system v) (sat_at v) (clear_flip (system v) new (new_not_system v F k hk used seq r)) (in_sat v)

  sat_logical : among (sat_at v) (logical v e) ≡ false
  unfolding among
  sat_logical =
      let o : among (sat_at v) (owned v e) ≡ false = clear_at (owned v e) (system v) (sat_at v) (clear_flip (system v) (owned v e) (system_apart v F k hk)) (in_sat v) in
      or_right _ _ (rw (owned_is e used seq v) at o)

  sat_out : among (sat_at v) ss ≡ false
  sat_out = among-append (sat_at v) (logical v e) new ∙ not_both _ _ sat_logical sat_new

  two : eqb s (sat_at v) ≡ false
  two = owned_not_sat v F k hk s fab_owned

  fab_in : s < t
  fab_in = fab_inside v F k hk used seq

  -- what the code's steps ask: the new sectors can be taken
  shaped : BlockShaped (sector s v)
  unfolding block
  shaped = block_sound_shaped t (sector s v) (length-sector s v (omega (arith, fab_in, F.long))) (block_sound_lem v F k hk used seq)

  pub takes_Grows : Grows (sector (start (entry_at v k)) v) (new_sectors v (entry_at v k) r)
  unfolding new_pairs block block_sound
  takes_Grows = record {
    shaped = shaped;
    inside = and_right _ _ (and_left _ _ (and_left _ _ (block_larger t most_sectors (sector s v) F.high (block_sound_lem v F k hk used seq))));
    room = T.few;
    below = inside_table t new F.high (new_inside v F k hk used seq r);
  }

  few_new : length new ≤ t
  few_new = below_few t new (new_distinct v F k hk used seq r) (new_inside v F k hk used seq r)

  pub takes_Taking : Taking v p.sat (start (entry_at v k)) (new_sectors v (entry_at v k) r)
  takes_Taking = record {
    table = omega (arith, T.adds.file.located.is_sat, F.sat_in, F.long);
    block = omega (arith, fab_in, F.long);
    two = rw T.adds.file.located.is_sat two;
    mapped = Mapped-inside t v new F.high F.long (new_inside v F k hk used seq r) few_new;
    grows = takes_Grows;
  }

  -- the image with the new sectors in it
  abbrev bits : List ℕ
  bits = with_bits 1 (sat v) new

  abbrev grown : List ℕ
  grown = grown_block v e r

  long_bits : length bits ≡ 256
  long_bits = length-with_bits 1 (sat v) new ∙ length-sat v F

  long_grown : length grown ≡ 256
  long_grown = length-grown_block v F k hk used seq r T.enough T.few

  x0 : List ℕ
  x0 = put_sector (sat_at v) bits (put_sector s grown v)

  x1 : List ℕ
  x1 = laid new [] x0

  long_s : length (put_sector s grown v) ≡ 256 * t
  long_s = long_sector t s grown v long_grown F.long fab_in

  long_0 : length x0 ≡ 256 * t
  unfolding x0
  long_0 = long_sector t (sat_at v) bits (put_sector s grown v) long_bits long_s F.sat_in

  long_1 : length x1 ≡ 256 * t
  unfolding x1
  long_1 = laid-length t new [] x0 long_0 (new_inside v F k hk used seq r) ∙ long_0

  is_x1 : (x : List ℕ) → x ≡ grown_with p.sat s (length (longer v e r)) new v → x ≡ x1
  unfolding grown_with x0 x1 sat new_pairs block
  is_x1 x ex = ex ∙ rw T.adds.file.located.is_sat

  block_1 : sector s x1 ≡ grown
  unfolding x0 x1
  block_1 =
      laid_other t s new [] x0 long_0 (new_inside v F k hk used seq r) fab_new
      ∙ sector_other (sat_at v) bits (put_sector s grown v) long_bits (omega (arith, long_s, F.sat_in)) s (λ q. eqb-false s (sat_at v) two (sym q))
      ∙ sector_same s grown v long_grown (omega (arith, F.long, fab_in))

  sectors_1 : sectors_of (sector s x1) ≡ ss
  sectors_1 = ap sectors_of block_1 ∙ grown_sectors_of v F k hk used seq r T.enough T.few

  -- the old sectors hold the stream and zeros, the new ones zeros
  other_1 : (u : ℕ) → among u new ≡ false → u ≢ s → u ≢ sat_at v → sector u x1 ≡ sector u v
  unfolding x0 x1
  other_1 u n a b =
      laid_other t u new [] x0 long_0 (new_inside v F k hk used seq r) n
      ∙ sector_other (sat_at v) bits (put_sector s grown v) long_bits (omega (arith, long_s, F.sat_in)) u (λ q. b (sym q))
      ∙ sector_other s grown v long_grown (omega (arith, F.long, fab_in)) u (λ q. a (sym q))

  old_1 : (u : ℕ) → among u (logical v e) ≡ true → sector u x1 ≡ sector u v
  unfolding among
  old_1 u m =
      let o : among u (owned v e) ≡ true = rw (owned_is e used seq v) (or_second _ _ m) in
      other_1 u (clear_at new (owned v e) u (clear_flip (owned v e) new (new_not_owned v F k hk used seq r k hk)) o)
      (λ q. true≢false (sym m ∙ ap (λ (x : ℕ). among x (logical v e)) q ∙ fab_apart v F k hk used seq))
      (λ q. true≢false (sym m ∙ ap (λ (x : ℕ). among x (logical v e)) q ∙ sat_logical))

  zeros_1 : laid_out x1 new ≡ blanks (256 * length new)
  unfolding x1 filled
  zeros_1 = laid_read t new [] x0 long_0 (new_inside v F k hk used seq r) (new_distinct v F k hk used seq r) (omega arith) ∙ rw (sub-zero (256 * length new))

  abbrev spare : ℕ
  spare = length (tail v e) + 256 * length new

  tail_1 : tail v e ≡ blanks (length (tail v e))
  unfolding blanks
  tail_1 = zeros_are (tail v e) (tail_zero v F k hk used seq)

  split_1 : stored v e ≡ stream v e ++ tail v e
  unfolding stream tail
  split_1 = sym (take-append-drop (stream_length (block v e)) (stored v e))

  laid_out_1 : laid_out x1 ss ≡ stream v e ++ blanks spare
  unfolding stored
  laid_out_1 =
      laid_out-append x1 (logical v e) new
      ∙ rw (laid_out_agree (logical v e) x1 v old_1, zeros_1)
      (ap (λ (l : List ℕ). l ++ blanks (256 * length new)) split_1 ∙ append_assoc (stream v e) (tail v e) (blanks (256 * length new))
      ∙ ap (λ (l : List ℕ). stream v e ++ l) (ap (λ (l : List ℕ). l ++ blanks (256 * length new)) tail_1 ∙ sym (blanks-add (length (tail v e)) (256 * length new))))

  room_1 : length (stream v e) + spare ≡ 256 * length ss
  room_1 = omega (arith, ap length split_1 ∙ length-append (stream v e) (tail v e), length-stored v F k hk used seq, length-append (logical v e) new)

  abbrev enc : List ℕ
  enc = encoded (record_length e) r

  long_longer : length (longer v e r) ≡ length (stream v e) + length enc
  unfolding longer
  long_longer = length-append (stream v e) enc

  enc_fits : length enc ≤ spare
  enc_fits = omega (arith, room_1, long_longer, grown_holds v F k hk used seq r T.enough)

  -- the record after the stream makes the longer stream, zeros behind it
  longer_1 : put (stream_length (block v e)) enc (laid_out x1 ss) ≡ filled (256 * length ss) (longer v e r)
  unfolding filled longer
  longer_1 =
      let n : spare - length enc ≡ 256 * length ss - length (stream v e ++ enc) = omega (arith, room_1, length-append (stream v e) enc) in
      ap (put (stream_length (block v e)) enc) laid_out_1 ∙ put_after (stream v e) enc spare (stream_length (block v e)) (length-stream v F k hk used seq) enc_fits
      ∙ ap (λ (m : ℕ). (stream v e ++ enc) ++ blanks m) n

  Keeps-1 : Keeps ss x0 x1
  unfolding x1
  Keeps-1 =
      let g : Keeps new x0 (laid new [] x0) = laid-Keeps t new [] x0 long_0 (new_inside v F k hk used seq r) in
      record { long = g.long; at = λ u h. g.at u (among-append_right u (logical v e) new h) }

  in_ss : inside t ss ≡ true
  in_ss = grown_inside v F k hk used seq r

  holds : length (longer v e r) ≤ 256 * length ss
  holds = grown_holds v F k hk used seq r T.enough

  laid_1 : laid ss (longer v e r) x1 ≡ lengthened e r v
  unfolding lengthened put_sat x0
  laid_1 =
      laid_over t ss x0 long_0 in_ss (grown_distinct v F k hk used seq r) x1 (longer v e r) Keeps-1 holds
      ∙ laid_swap t ss (longer v e r) (put_sector s grown v) (sat_at v) bits long_s in_ss F.sat_in long_bits sat_out
      ∙ ap (put_sector (sat_at v) bits) (laid_swap t ss (longer v e r) v s grown F.long in_ss fab_in long_grown fab_out)
      ∙ sectors_swap t (laid ss (longer v e r) v) (laid-length t ss (longer v e r) v F.long in_ss ∙ F.long) (sat_at v) s bits grown F.sat_in fab_in long_bits long_grown
      (λ q. eqb-false s (sat_at v) two (sym q))

  -- what the last step asks
  module _ (x : List ℕ) (ex : x ≡ grown_with p.sat (start (entry_at v k)) (length (longer v (entry_at v k) r)) (new_sectors v (entry_at v k) r) v) where
    pub takes_fits : RecordFits x (start (entry_at v k)) (stream_length (block v (entry_at v k))) (record_length (entry_at v k)) r
    unfolding sectors
    takes_fits = rw (is_x1 x ex) (record {
      opens = opens t x1 s F.high long_1 fab_in (rw block_1 (grown_sound v F k hk used seq r T.enough T.few)) (rw sectors_1 (grown_distinct v F k hk used seq r));
      once = rw sectors_1 (grown_distinct v F k hk used seq r);
      whole = omega (arith, long_1);
      short = omega (arith, allowed_small (record_length e) r T.adds.fine);
      room = rw sectors_1 (omega (arith, length-stream v F k hk used seq, long_longer, holds));
    })

    -- and what it makes
    pub append_is : (z : List ℕ) → z ≡ laid (sectors_of (sector (start (entry_at v k)) x))
        (put (stream_length (block v (entry_at v k))) (encoded (record_length (entry_at v k)) r) (laid_out x (sectors_of (sector (start (entry_at v k)) x)))) x
        → z ≡ lengthened (entry_at v k) r v
    append_is z ez =
        ez ∙ rw (is_x1 x ex, sectors_1, longer_1)
        (sym (laid-filled t ss x1 long_1 in_ss (grown_distinct v F k hk used seq r) (longer v e r) holds) ∙ laid_1)
