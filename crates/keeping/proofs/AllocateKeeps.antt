-- Allocate keeps a volume sound: a new entry in an unused slot, and the free sectors that it takes, zero-filled and marked.
use Rattle.std.specs.Prelude.{if◌then◌else◌}
use mathlib.Core.Path.{◌≡◌, ap, sym, ◌∙◌}
use mathlib.Core.Logic.{◌≢◌}
use mathlib.Core.Bool.{true, false, not}
use mathlib.Core.List.{List, [], ◌++◌}
use Prim.Native.Nat.{ℕ, ◌+◌, ◌*◌, ◌<◌}
use native.Mathlib.Omega.{arith}
use lib.ListN.{length, set}
use lib.Dec.{eqb, leb, ltb}
use borrow.Author.Tests.{le-leb, lt-ltb, eq-eqb}
use Rattle.numbers.specs.Numbers.{record_limit}
use Rattle.lists.specs.Lists.{◌and◌, ◌or◌, range, all, flat, distinct}
use Rattle.lists.specs.Parts.{part, put, sector, blanks, sectors}
use Rattle.lists.proofs.Tests.{both_true, or_first, or_second}
use Rattle.lists.proofs.Lists.{all_ext}
use Rattle.lists.proofs.Puts.{length-blanks, part-put_same}
use Rattle.lists.proofs.AreBytes.{Bytes}
use Rattle.lists.proofs.Keeps.{Keeps, Keeps-put}
use Rattle.lists.proofs.RangeParts.{distinct-range, Keeps-range}
use Rattle.lists.proofs.IndexFound.{none_all}
use Rattle.lists.proofs.Ranges.{range_below}
use Rattle.volume.specs.Volume.{sat_at, dir_at, dirs, sat, system}
use Rattle.volume.specs.Directory.{entries, entry_at, record_length, entry, fields, valid, named, clashes, names_differ, put_entry}
use Rattle.volume.specs.Sat.{with_bits, sat_of, is_free, put_sat}
use Rattle.volume.proofs.BitsSet.{length-with_bits, Bytes-with_bits}
use Rattle.volume.proofs.clashes.EntryClashes.{names_differ-set}
use Rattle.volume.proofs.RunFound.{sectors_part}
use Rattle.volume.proofs.SatAccounts.{distinct_in, sat_marked}
use Rattle.volume.proofs.EntryFields.{descriptor-length, entry-length, entry-contiguous, entry_used, entry-described, entry-start, entry-size, entry_count, entry-valid}
use Rattle.lists.proofs.ByteLists.{Bytes-put, Bytes-put_sector, Bytes-blanks}
use Rattle.volume.proofs.EntryBytes.{Bytes-entry}
use Rattle.records.specs.Streams.{laid_out}
use Rattle.ownership.specs.Blocks.{block, stream_length, placed}
use Rattle.ownership.specs.Owners.{logical, owned, all_owned}
use Rattle.ownership.proofs.OwnedRuns.{owned-unused}
use Rattle.files.specs.Files.{stored, stream, tail, records, tail_sound, records_sound, count_is, records_in, sound}
use Rattle.files.specs.Changes.{taken, allocated}
use Rattle.files.proofs.SoundFacts.{Facts, facts, counts_true}
use Rattle.files.proofs.Kept.FileSame.{clear}
use Rattle.files.proofs.OneFileChanged.{Changed, sectors_kept, ahead, behind, owned_was, entry_here, change_sound}
use Rattle.files.proofs.OwnersApart.{clear_by, clear_at}
use Rattle.files.proofs.EntryAndSatWritten.{tables, not_system}
use Rattle.files.proofs.SoundSat.{length-sat, Bytes-sat, below_table, frees_unowned, frees_not_system, frees_not_slot}
use Rattle.files.proofs.allocation.Allocatable.{Allocatable, Sized, run_of, records_of, sizes}
use Rattle.keeping.proofs.SlotWritten.{Changed-entry, sat_written, elsewhere, blank_block, blank_sectors, blank_length, clash_before, clash_after}
use Rattle.records.proofs.RecordStreams as none_in

module _ {v : List ℕ} {at : ℕ} {d : List ℕ} {k n l rc s : ℕ} (A : Allocatable v at d k n l rc s) where
  F : Facts v
  F = facts v A.is_sound

  long : length d ≡ 20
  long = descriptor-length d A.well_described

  e : List ℕ
  e = entry (fields k d rc l s n)

  new : List ℕ
  new = range s (taken k n)

  bits : List ℕ
  bits = with_bits 1 (sat v) new

  w : List ℕ
  w = put (256 * s) (blanks (256 * taken k n)) v

  v' : List ℕ
  v' = allocated at d k n l rc s v

  Keeps-w : Keeps new v w
  unfolding w new
  Keeps-w =
      Keeps-put s (taken k n) (256 * s) (blanks (256 * taken k n)) v (omega arith) (omega (arith, length-blanks (256 * taken k n)))
      (omega (arith, length-blanks (256 * taken k n), A.inside, F.long))

  new_below : all (λ u. ltb u (sectors v)) new ≡ true
  unfolding new
  new_below = range_below (sectors v) s (taken k n) A.inside

  new_free : all (is_free (sat v)) new ≡ true
  unfolding new
  new_free = A.all_free

  length-bits : length bits ≡ 256
  unfolding bits
  length-bits = length-with_bits 1 (sat v) new ∙ length-sat v F

  length-e : length e ≡ 32
  unfolding e
  length-e = entry-length (fields k d rc l s n) long

  not_slot : (i : ℕ) → i < 8 * dirs v → i ≢ at → clear new (owned v (entry_at v i)) ≡ true
  not_slot i h c = frees_not_slot v F new new_below new_free i h

  pub allocate_Changed : Changed v (allocated at d k n l rc s v) at (entry (fields k d rc l s n)) (range s (taken k n) ++ tables v)
  unfolding allocated bits new w e
  allocate_Changed = Changed-entry v F w new Keeps-w (frees_not_system v F new new_below new_free) bits length-bits at A.slot_in e length-e not_slot

  pub allocate_entry : entry_at (allocated at d k n l rc s v) at ≡ entry (fields k d rc l s n)
  allocate_entry = entry_here v (allocated at d k n l rc s v) at (entry (fields k d rc l s n)) (range s (taken k n) ++ tables v) allocate_Changed

  allocate_sat : sat v' ≡ bits
  unfolding allocated v' bits new w e
  allocate_sat = sat_written v F w new Keeps-w (frees_not_system v F new new_below new_free) bits length-bits at A.slot_in e length-e not_slot

  t_kept : sectors v' ≡ sectors v
  unfolding v'
  t_kept = sectors_kept v (allocated at d k n l rc s v) at (entry (fields k d rc l s n)) (range s (taken k n) ++ tables v) allocate_Changed

  -- the sectors taken are blank
  Keeps-v' : Keeps (tables v) w v'
  unfolding allocated v' bits new w e
  Keeps-v' = record {
    long = allocate_Changed.keeps.long ∙ sym Keeps-w.long;
    at = elsewhere v F w new Keeps-w (frees_not_system v F new new_below new_free) bits length-bits at A.slot_in e length-e not_slot;
  }

  pub allocate_blank : part (256 * s) (256 * taken k n) (allocated at d k n l rc s v) ≡ blanks (256 * taken k n)
  unfolding v' new w clear
  allocate_blank =
      Keeps-range (tables v) w v' Keeps-v' s (taken k n)
      (clear_by (tables v) new (λ u m. not_system v u (clear_at (system v) new u (frees_not_system v F new new_below new_free) m)))
      ∙ ap (λ (q : ℕ). part (256 * s) q w) (sym (length-blanks (256 * taken k n)))
      ∙ part-put_same (256 * s) (blanks (256 * taken k n)) v (omega (arith, length-blanks (256 * taken k n), A.inside, F.long))

  -- a contiguous file
  module _ (c : k ≡ 0) where
    is_run : eqb k 0 ≡ true
    is_run = eq-eqb k 0 c

    takes_n : taken k n ≡ n
    unfolding taken
    takes_n = rw is_run

    pub run_logical : logical (allocated at d k n l rc s v) (entry (fields k d rc l s n)) ≡ range s n
    unfolding logical
    run_logical = rw (entry-contiguous (fields k d rc l s n), is_run, entry-start (fields k d rc l s n) long, entry-size (fields k d rc l s n) long)

    -- "zero-filled"
    pub run_stored : stored (allocated at d k n l rc s v) (entry (fields k d rc l s n)) ≡ blanks (256 * n)
    unfolding stored laid_out
    run_stored = rw run_logical (sectors_part s n (allocated at d k n l rc s v) ∙ rw takes_n at allocate_blank)

    run_owned : owned v' e ≡ new
    unfolding owned v' e new
    run_owned = rw (entry_used (fields k d rc l s n), entry-contiguous (fields k d rc l s n), is_run, run_logical, takes_n)

    run_placed : placed v' e ≡ true
    unfolding placed e
    run_placed =
        rw (entry_used (fields k d rc l s n), entry-contiguous (fields k d rc l s n), is_run, entry-start (fields k d rc l s n) long, entry-size (fields k d rc l s n) long, t_kept)
        (le-leb (s + n) (sectors v) (rw takes_n at A.inside))

    run_content : tail_sound v' e and records_sound v' e ≡ true
    unfolding tail_sound records_sound e ◌and◌ ◌or◌
    run_content = rw (entry_used (fields k d rc l s n), entry-contiguous (fields k d rc l s n), is_run)

  -- a sequential one
  module _ (c : eqb k 0 ≡ false) where
    takes_one : taken k n ≡ 1
    unfolding taken
    takes_one = rw c

    pub records_block : block (allocated at d k n l rc s v) (entry (fields k d rc l s n)) ≡ blanks 256
    unfolding block sector
    records_block = rw (entry-start (fields k d rc l s n) long) (rw takes_one at allocate_blank)

    pub records_logical : logical (allocated at d k n l rc s v) (entry (fields k d rc l s n)) ≡ []
    unfolding logical
    records_logical = rw (entry-contiguous (fields k d rc l s n), c, records_block) blank_sectors

    pub records_stream_length : stream_length (block (allocated at d k n l rc s v) (entry (fields k d rc l s n))) ≡ 0
    records_stream_length = rw records_block blank_length

    pub records_stored : stored (allocated at d k n l rc s v) (entry (fields k d rc l s n)) ≡ []
    unfolding stored laid_out flat
    records_stored = rw records_logical

    pub records_stream : stream (allocated at d k n l rc s v) (entry (fields k d rc l s n)) ≡ []
    unfolding stream
    records_stream = rw records_stream_length

    pub records_none : records (allocated at d k n l rc s v) (entry (fields k d rc l s n)) ≡ []
    unfolding records
    records_none = rw records_stream (none_in.records_none (record_length (entry (fields k d rc l s n))))

    records_owned : owned v' e ≡ new
    unfolding owned v' e new range
    records_owned = rw (entry_used (fields k d rc l s n), entry-contiguous (fields k d rc l s n), c, records_logical, takes_one, entry-start (fields k d rc l s n) long)

    records_placed : placed v' e ≡ true
    unfolding placed v' e
    records_placed =
        rw (entry_used (fields k d rc l s n), entry-contiguous (fields k d rc l s n), c, entry-start (fields k d rc l s n) long, t_kept, records_block)
        (both_true _ _ (lt-ltb s (sectors v) (omega (arith, takes_one, A.inside))) (blank_block (sectors v)))

    records_content : tail_sound v' e and records_sound v' e ≡ true
    unfolding tail_sound records_sound tail v' e all ◌and◌ ◌or◌
    records_content =
        rw (entry_used (fields k d rc l s n), entry-contiguous (fields k d rc l s n), c, records_stream_length, records_stored, records_stream)
        (none_in.whole_none (record_length (entry (fields k d rc l s n))))

    records_counted : n ≡ 0 → count_is (records_in v') e ≡ true
    unfolding count_is records_in v' e
    records_counted z = or_second _ _ (eq-eqb _ _ (entry_count (fields k d rc l s n) long z ∙ sym (ap length records_none)))

  run_counted : k ≡ 0 → count_is (records_in v') e ≡ true
  unfolding count_is e
  run_counted c = or_first _ _ (or_second _ _ (entry-contiguous (fields k d rc l s n) ∙ eq-eqb k 0 c))

  entry_good : valid e ≡ true
  unfolding e
  entry_good = entry-valid (fields k d rc l s n) A.well_described A.known_kind A.code_allowed (by (sizes k n l A.numbers))
    where
      by : Sized k n l → (if eqb k 0 then leb 1 n and eqb l 0 else eqb n 0 and leb l record_limit) ≡ true
      by (run_of c a b q) = rw (eq-eqb k 0 c) (both_true _ _ (le-leb 1 n a) (eq-eqb l 0 q))
      by (records_of c a b) = rw c (both_true _ _ (eq-eqb n 0 a) (le-leb l record_limit b))

  record Made : Type 0 where
    owns_new : owned v' e ≡ new
    is_placed : placed v' e ≡ true
    has_content : tail_sound v' e and records_sound v' e ≡ true
    has_count : count_is (records_in v') e ≡ true

  made : Made
  made = by (sizes k n l A.numbers)
    where
      by : Sized k n l → Made
      by (run_of c a b q) = record { owns_new = run_owned c; is_placed = run_placed c; has_content = run_content c; has_count = run_counted c }
      by (records_of c a b) = record { owns_new = records_owned c; is_placed = records_placed c; has_content = records_content c; has_count = records_counted c a }

  -- what the file owns
  pub allocate_owned : owned (allocated at d k n l rc s v) (entry (fields k d rc l s n)) ≡ range s (taken k n)
  unfolding v' e new
  allocate_owned = made.owns_new

  p : List ℕ
  p = ahead v (allocated at d k n l rc s v) at (entry (fields k d rc l s n)) (range s (taken k n) ++ tables v) allocate_Changed

  b : List ℕ
  b = behind v (allocated at d k n l rc s v) at (entry (fields k d rc l s n)) (range s (taken k n) ++ tables v) allocate_Changed

  was : all_owned v ≡ p ++ b
  unfolding p b
  was =
      owned_was v (allocated at d k n l rc s v) at (entry (fields k d rc l s n)) (range s (taken k n) ++ tables v) allocate_Changed
      ∙ rw (owned-unused v (entry_at v at) A.slot_unused)

  now_distinct : distinct (p ++ (new ++ b)) ≡ true
  unfolding new clear
  now_distinct =
      distinct_in p new b (rw was at F.none_twice) (distinct-range s (taken k n)) (rw was at (frees_unowned v F new new_below new_free))

  now_sat : sat v' ≡ sat_of (sectors v) (p ++ (new ++ b))
  unfolding bits
  now_sat = allocate_sat ∙ sat_marked (sectors v) p new b (sat v) (below_table v F new new_below) (F.sat_right ∙ rw was)

  unnamed : all (λ x. not (named d x)) (entries v) ≡ true
  unnamed = none_all (named d) (entries v) A.new_name

  names_differ_lem : names_differ (set (entries v) at e) ≡ true
  unfolding e
  names_differ_lem =
      names_differ-set (entries v) at e
      (all_ext _ _ (λ x. not (clashes e x)) (entries v) (λ x a q. clash_before d e x (entry-described (fields k d rc l s n) long) a) unnamed unnamed)
      (all_ext _ _ (λ x. not (clashes x e)) (entries v) (λ x a q. clash_after d e x (entry-described (fields k d rc l s n) long) a) unnamed unnamed)
      F.names

  pub allocate_sound : sound (allocated at d k n l rc s v) ≡ true
  unfolding v' e p b
  allocate_sound =
      change_sound v (allocated at d k n l rc s v) at (entry (fields k d rc l s n)) (range s (taken k n) ++ tables v) allocate_Changed F (counts_true v A.is_sound)
      (or_second _ _ entry_good) names_differ_lem made.is_placed made.has_content made.has_count (rw made.owns_new now_distinct) (rw made.owns_new now_sat)

  pub allocate_Bytes : Bytes v → Bytes d → rc < 256 → Bytes (allocated at d k n l rc s v)
  unfolding allocated put_entry put_sat new
  allocate_Bytes hv hd hc =
      Bytes-put (256 * dir_at v + 32 * at) (entry (fields k d rc l s n)) _ (by (sizes k n l A.numbers))
      (Bytes-put_sector (sat_at v) _ (put (256 * s) (blanks (256 * taken k n)) v)
      (Bytes-with_bits 1 (sat v) new (omega arith) (Bytes-sat v F) (length-sat v F) (below_table v F new new_below))
      (Bytes-put (256 * s) (blanks (256 * taken k n)) v (Bytes-blanks (256 * taken k n)) hv))
    where
      by : Sized k n l → Bytes (entry (fields k d rc l s n))
      by (run_of c a q z) = Bytes-entry (fields k d rc l s n) (omega arith) hd hc (omega arith) (omega (arith, A.inside, F.high)) (omega arith)
      by (records_of c a q) = Bytes-entry (fields k d rc l s n) (omega (arith, A.known_kind)) hd hc (omega arith) (omega (arith, A.inside, F.high)) (omega arith)
