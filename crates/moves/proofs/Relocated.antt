-- One sector moved: what is written, the file's sectors, bytes and records after it, and the SAT. Every other file is as it was.
use mathlib.Core.Path.{◌≡◌, refl, ap, sym, ◌∙◌}
use mathlib.Core.Logic.{◌≢◌}
use mathlib.Core.Bool.{true, false, true≢false}
use mathlib.Core.List.{List, [], ◌∷◌, ◌++◌}
use Prim.Native.Nat.{ℕ, suc, ◌*◌, ◌<◌, ◌≤◌}
use native.Mathlib.Omega.{arith}
use lib.Dec.{eqb, ltb}
use lib.ListN.{length, set}
use lib.Seq.{set-get_or}
use borrow.Author.Tests.{lt-ltb, ltb-true, eq-eqb, ne_eqb, eqb-false}
use Rattle.numbers.specs.Numbers.{most_segments}
use Rattle.lists.specs.Lists.{all, among, range}
use Rattle.lists.specs.Parts.{sector, put_sector, sectors}
use Rattle.lists.proofs.Tests.{or_first, or_second, or_left, or_right, not_both}
use Rattle.lists.proofs.Bools.{or-false}
use Rattle.lists.proofs.Lists.{all-nil, all-cons, all-among, among-append}
use Rattle.lists.proofs.LentParts.{length-sector}
use Rattle.lists.proofs.Puts.{sector_same}
use Rattle.lists.proofs.Keeps.{Keeps, Keeps-put, flat-Keeps}
use Rattle.volume.specs.Volume.{dirs, sat, sat_at, system, layout_of}
use Rattle.volume.specs.Directory.{entries, entry_at, unused, contiguous, start, record_length}
use Rattle.volume.specs.Sat.{is_free, put_sat, with_bit, with_bits}
use Rattle.volume.proofs.LayoutKept.{keeps_dir_at, keeps_dirs}
use Rattle.volume.proofs.BitsSet.{length-with_bits}
use Rattle.records.specs.Records.{records_of}
use Rattle.records.specs.Streams.{laid_out}
use Rattle.ownership.specs.Blocks.{block, total, stream_length, sectors_of, block_of}
use Rattle.ownership.specs.Owners.{logical, owned}
use Rattle.files.specs.Files.{stored, stream, records}
use Rattle.files.proofs.SoundFacts.{Facts}
use Rattle.files.proofs.SoundSat.{length-sat, frees_not_system, frees_not_slot}
use Rattle.files.proofs.Kept.FileSame.{clear}
use Rattle.files.proofs.OwnersApart.{clear_by, clear_at, clear_flip, clear_join, system_apart, slots_apart}
use Rattle.files.proofs.OwnSectorsWritten.{Part, clear-Part}
use Rattle.files.proofs.OneFileChanged.{Changed, sat_at_kept, sectors_kept}
use Rattle.files.proofs.EntryAndSatWritten.{Changed-file, in_sat, owned_not_sat, one-among}
use Rattle.files.proofs.SequentialFile.{logical_is, owned_is, fab_inside, fab_apart, logical-inside}
use Rattle.files.proofs.appending.OwnersJoined.{clear_narrow}
use Rattle.files.proofs.appending.FileLengthened.{clear_both}
use Rattle.moves.specs.Moves.{sector_of, rerouted, rerouted_pairs, relocated}
use Rattle.lists.proofs.Members.{among_at}
use Rattle.lists.proofs.MembersReplaced.{flat-set_same}
use Rattle.moves.proofs.ReroutedBlock.{rerouted_block, length-rerouted_block, sectors_of-rerouted, stream_length_rerouted}

module _ (v : List ℕ) (F : Facts v) (k : ℕ) (hk : k < 8 * dirs v) (used : unused (entry_at v k) ≡ false) (seq : contiguous (entry_at v k) ≡ false) (i q : ℕ)
    (hi : i < length (logical v (entry_at v k))) (hq : q < sectors v) (fr : is_free (sat v) q ≡ true)
    (few : length (rerouted_pairs v (entry_at v k) i q) ≤ most_segments) where
  abbrev e : List ℕ
  e = entry_at v k

  abbrev x : ℕ
  x = sector_of v e i

  abbrev bits : List ℕ
  bits = with_bit 0 (with_bit 1 (sat v) q) x

  -- what is written, in three steps
  w0 : List ℕ
  w0 = put_sector q (sector x v) v

  w1 : List ℕ
  w1 = put_sat v bits w0

  abbrev v' : List ℕ
  v' = relocated e i q v

  -- the old sector is the file's, and so is that of the access block; the new one is nobody's
  old_in : among x (logical v e) ≡ true
  unfolding sector_of
  old_in = among_at (logical v e) i hi

  logical-owned : Part (logical v e) (owned v e)
  unfolding among
  logical-owned u m = rw (owned_is e used seq v) (or_second _ _ m)

  start-owned : Part (start e ∷ []) (owned v e)
  unfolding among
  start-owned u m = rw (owned_is e used seq v) (or_first _ _ (sym (or-false _) ∙ m))

  below : all (λ u. ltb u (sectors v)) (q ∷ []) ≡ true
  below = all-cons (λ u. ltb u (sectors v)) q [] (lt-ltb q (sectors v) hq) (all-nil _)

  is_free_lem : all (is_free (sat v)) (q ∷ []) ≡ true
  is_free_lem = all-cons (is_free (sat v)) q [] fr (all-nil _)

  own_not_new : (u : ℕ) → among u (owned v e) ≡ true → eqb u q ≡ false
  unfolding among
  own_not_new u m = or_left _ _ (clear_at (q ∷ []) (owned v e) u (frees_not_slot v F (q ∷ []) below is_free_lem k hk) m)

  system_not_new : (u : ℕ) → among u (system v) ≡ true → eqb u q ≡ false
  unfolding among
  system_not_new u m = or_left _ _ (clear_at (q ∷ []) (system v) u (clear_flip (system v) (q ∷ []) (frees_not_system v F (q ∷ []) below is_free_lem)) m)

  flip : (a b : ℕ) → eqb a b ≡ false → eqb b a ≡ false
  flip a b h = ne_eqb b a (λ z. eqb-false a b h (sym z))

  start_in : among (start e) (owned v e) ≡ true
  unfolding among
  start_in = start-owned (start e) (or_first _ _ (eq-eqb (start e) (start e) refl))

  -- the sectors that are written, and what they are not
  abbrev ds : List ℕ
  ds = start e ∷ q ∷ []

  abbrev ws : List ℕ
  ws = ds ++ range (sat_at v) 1

  length-bits : length bits ≡ 256
  unfolding with_bits
  length-bits = length-with_bits 0 (with_bit 1 (sat v) q) (x ∷ []) ∙ length-with_bits 1 (sat v) (q ∷ []) ∙ length-sat v F

  length_data : length (sector x v) ≡ 256
  length_data =
      let l : x < sectors v = ltb-true _ _ (all-among (λ u. ltb u (sectors v)) (logical v e) x (logical-inside v F k hk used seq) old_in) in
      length-sector x v (omega (arith, F.long))

  Keeps-0 : Keeps (range q 1) v w0
  unfolding w0 put_sector
  Keeps-0 = Keeps-put q 1 (256 * q) (sector x v) v (omega arith) (omega (arith, length_data)) (omega (arith, length_data, F.long))

  Keeps-1 : Keeps (range (sat_at v) 1) w0 w1
  unfolding w1 put_sat put_sector
  Keeps-1 = Keeps-put (sat_at v) 1 (256 * sat_at v) bits w0 (omega arith) (omega (arith, length-bits)) (omega (arith, length-bits, Keeps-0.long, F.sat_in, F.long))

  long_1 : length w1 ≡ 256 * sectors v
  long_1 = Keeps-1.long ∙ Keeps-0.long ∙ F.long

  long_block : length (rerouted_block v e i q) ≡ 256
  long_block = length-rerouted_block v F k hk used seq i q hq few

  Keeps-2 : Keeps (range (start e) 1) w1 v'
  unfolding relocated w1 w0 put_sector
  Keeps-2 =
      Keeps-put (start e) 1 (256 * start e) (rerouted_block v e i q) w1 (omega arith) (omega (arith, long_block))
      (omega (arith, long_block, long_1, fab_inside v F k hk used seq))

  kw : Keeps ws v v'
  unfolding among
  kw = record {
    long = Keeps-2.long ∙ Keeps-1.long ∙ Keeps-0.long;
    at = λ u h.
        let m = or_right _ _ h in
        Keeps-2.at u (one-among u (start e) (or_left _ _ h)) ∙ Keeps-1.at u (or_right _ _ m) ∙ Keeps-0.at u (one-among u q (or_left _ _ m));
  }

  system_out : clear (system v) ds ≡ true
  system_out =
      clear_both (system v) (start e ∷ []) (q ∷ []) (clear-Part (system v) (start e ∷ []) (owned v e) start-owned (system_apart v F k hk))
      (frees_not_system v F (q ∷ []) below is_free_lem)

  others_out : (j : ℕ) → j < 8 * dirs v → j ≢ k → clear ds (owned v (entry_at v j)) ≡ true
  others_out j h n =
      clear_join (start e ∷ []) (q ∷ []) (owned v (entry_at v j)) (clear_narrow (start e ∷ []) (owned v e) (owned v (entry_at v j)) start-owned (slots_apart v F j k h hk n))
      (frees_not_slot v F (q ∷ []) below is_free_lem j h)

  pub relocated-Changed : Changed v (relocated (entry_at v k) i q v) k (entry_at v k) ((start (entry_at v k) ∷ q ∷ []) ++ range (sat_at v) 1)
  relocated-Changed = Changed-file v F v' ds kw system_out k hk others_out

  -- of the system's sectors only the SAT is written
  pub relocated-system : (u : ℕ) → among u (system v) ≡ true → eqb u (sat_at v) ≡ false → sector u (relocated (entry_at v k) i q v) ≡ sector u v
  relocated-system u m n =
      kw.at u (among-append u ds (range (sat_at v) 1) ∙ not_both _ _ (clear_at ds (system v) u (clear_flip (system v) ds system_out) m) (one-among u (sat_at v) n))

  -- no sector of the file's data is written
  data_apart : clear ws (logical v e) ≡ true
  unfolding among range
  data_apart = clear_by ws (logical v e) (λ u m.
      not_both _ _ (ne_eqb u (start e) (λ z. true≢false (sym m ∙ ap (λ (y : ℕ). among y (logical v e)) z ∙ fab_apart v F k hk used seq)))
      (not_both _ _ (own_not_new u (logical-owned u m)) (not_both _ _ (owned_not_sat v F k hk u (logical-owned u m)) refl)))

  pub relocated_old : sector (sector_of v (entry_at v k) i) (relocated (entry_at v k) i q v) ≡ sector (sector_of v (entry_at v k) i) v
  relocated_old = kw.at x (clear_at ws (logical v e) x data_apart old_in)

  pub relocated_new : sector q (relocated (entry_at v k) i q v) ≡ sector (sector_of v (entry_at v k) i) v
  unfolding w0
  relocated_new =
      Keeps-2.at q (one-among q (start e) (flip (start e) q (own_not_new (start e) start_in)))
      ∙ Keeps-1.at q (one-among q (sat_at v) (flip (sat_at v) q (system_not_new (sat_at v) (in_sat v))))
      ∙ sector_same q (sector x v) v length_data (omega (arith, F.long))

  -- what is read where it was written
  pub relocated-block : block (relocated (entry_at v k) i q v) (entry_at v k)
      ≡ block_of (rerouted_pairs v (entry_at v k) i q) (total (block v (entry_at v k))) (stream_length (block v (entry_at v k)))
  unfolding block relocated w1 w0
  relocated-block = sector_same (start e) (rerouted_block v e i q) w1 long_block (omega (arith, long_1, fab_inside v F k hk used seq))

  pub relocated-sat : sat (relocated (entry_at v k) i q v) ≡ with_bit 0 (with_bit 1 (sat v) q) (sector_of v (entry_at v k) i)
  unfolding sat
  relocated-sat =
      rw (sat_at_kept v v' k e ws relocated-Changed)
      (Keeps-2.at (sat_at v) (one-among (sat_at v) (start e) (flip (start e) (sat_at v) (owned_not_sat v F k hk (start e) start_in)))
      ∙ (unfold w1 put_sat in sector_same (sat_at v) bits w0 length-bits (omega (arith, Keeps-0.long, F.sat_in, F.long))))

  pub relocated-logical : logical (relocated (entry_at v k) i q v) (entry_at v k) ≡ rerouted v (entry_at v k) i q
  relocated-logical = logical_is e used seq v' ∙ ap sectors_of relocated-block ∙ sectors_of-rerouted v F k hk used seq i q hq few

  pub relocated-stored : stored (relocated (entry_at v k) i q v) (entry_at v k) ≡ stored v (entry_at v k)
  unfolding stored laid_out rerouted sector_of clear
  relocated-stored =
      rw relocated-logical
      (flat-set_same (λ s. sector s v') (logical v e) i q (relocated_new ∙ sym relocated_old) ∙ flat-Keeps ws v v' kw (logical v e) data_apart)

  pub relocated_long : stream_length (block (relocated (entry_at v k) i q v) (entry_at v k)) ≡ stream_length (block v (entry_at v k))
  relocated_long = ap (λ (b : List ℕ). stream_length b) relocated-block ∙ stream_length_rerouted v F k hk used seq i q hq few

  pub relocated-stream : stream (relocated (entry_at v k) i q v) (entry_at v k) ≡ stream v (entry_at v k)
  unfolding stream
  relocated-stream = rw (relocated_long, relocated-stored)

  pub relocated-records : records (relocated (entry_at v k) i q v) (entry_at v k) ≡ records v (entry_at v k)
  unfolding records
  relocated-records = ap (records_of (record_length e)) relocated-stream

  pub relocated-owned : owned (relocated (entry_at v k) i q v) (entry_at v k) ≡ set (owned v (entry_at v k)) (suc i) q
  unfolding rerouted
  relocated-owned = owned_is e used seq v' ∙ ap (λ (l : List ℕ). start e ∷ l) relocated-logical ∙ ap (λ (l : List ℕ). set l (suc i) q) (sym (owned_is e used seq v))

  -- the directory, and where things are
  pub relocated-entries : entries (relocated (entry_at v k) i q v) ≡ entries v
  unfolding entry_at
  relocated-entries = relocated-Changed.entries_are ∙ set-get_or (entries v) k []

  pub relocated_layout : layout_of (relocated (entry_at v k) i q v) ≡ layout_of v
  unfolding layout_of
  relocated_layout =
      rw (
        sectors_kept v v' k e ws relocated-Changed,
        sat_at_kept v v' k e ws relocated-Changed,
        keeps_dir_at ws v v' kw relocated-Changed.last_out,
        keeps_dirs ws v v' kw relocated-Changed.last_out,
      )
