-- A record's data written to its place in the stream is the record replaced; what the walk to it told.
use Rattle.std.specs.Prelude.{if◌then◌else◌}
use mathlib.Core.Path.{◌≡◌, refl, sym, ap, ◌∙◌}
use mathlib.Core.List.{List, [], ◌++◌}
use mathlib.Core.Bool.{Bool, true, false}
use Prim.Native.Nat.{ℕ, ◌+◌, ◌<◌, ◌≤◌, ◌-◌, ◌*◌}
use native.Mathlib.Omega.{arith}
use lib.ListN.{length, get_or, set, take-append-drop, length-append}
use lib.Dec.{ltb}
use borrow.Author.Tests.{ltb-true, ltb-false, lt-ltb, le-ltb, eq-eqb, ne_eqb}
use Rattle.lists.specs.Lists.{distinct, ◌and◌}
use Rattle.lists.specs.Parts.{put, blanks, filled, zeros, part, sector, sectors}
use Rattle.lists.proofs.Tests.{zeros_are}
use Rattle.lists.proofs.Puts.{length-put}
use Rattle.lists.proofs.Lists.{all_at}
use Rattle.lists.proofs.AreBytes.{Bytes}
use Rattle.volume.specs.Volume.{dirs}
use Rattle.volume.specs.Directory.{entry_at, contiguous, start, record_length}
use Rattle.volume.specs.declared.locate.Layout.{Layout}
use Rattle.records.specs.Records.{records_of, allowed, stream_of}
use Rattle.records.specs.Code.Walk.{head_of, place_of}
use Rattle.records.specs.Code.Spots.{spot_of, extent_at}
use Rattle.records.specs.declared.record.Extent.{Extent}
use Rattle.std.specs.Prelude.{Some, None, Ok, Err}
use Rattle.records.specs.Streams.{laid_out, laid}
use Rattle.records.proofs.ChunkWritten.{put_front, relaid}
use Rattle.records.proofs.RecordStreams.{records_allowed}
use Rattle.records.proofs.RecordReplaced.{Updated}
use Rattle.records.proofs.LaidStream.{laid-Keeps, laid_read}
use Rattle.records.proofs.RecordPlaces.{record_at_lem, data_fits}
use Rattle.ownership.specs.Blocks.{block, stream_length, sectors_of}
use Rattle.ownership.specs.Owners.{logical}
use Rattle.files.specs.Files.{stored, stream, tail, records, record_at}
use Rattle.files.specs.Changes.{updated}
use Rattle.files.specs.Code.Opens.{stored_at}
use Rattle.files.specs.Code.Slots.{InUse}
use Rattle.files.specs.Code.Outcomes.{is_long, replaced_of}
use Rattle.files.proofs.SoundFacts.{Facts}
use Rattle.files.proofs.FileBytes.{Bytes-stream}
use Rattle.files.proofs.SequentialFile.{logical_is, logical-inside, logical-distinct, length-stored, length-stream, tail_zero, stream_whole, record_length_lem}
use Rattle.files.proofs.replace.RecordUpdated.{Updated-stream}
use Rattle.files.proofs.map.OpenBlock.{stored_at_lem}
use Rattle.files.proofs.slot.SlotInUse.{slot_in, used_Facts}
use Rattle.files.specs.declared.replace.ReplaceError.TheVariants.{PastEnd, OtherLength}

-- what a spot says
pub record Spotted (l : ℕ) (s : List ℕ) (i from n : ℕ) : Type 0 where
  pub there : i < length (records_of l s)
  pub place : from ≡ place_of l s i + head_of l
  pub long : n ≡ length (get_or (records_of l s) i [])

pub spotted : (l : ℕ) (s : List ℕ) (i : ℕ) (q : Extent) → spot_of l s i ≡ Some q → Spotted l s i q.from q.len
unfolding spot_of
spotted l s i q e = go (ltb i (length (records_of l s))) refl e
  where
    go : (b : Bool) → ltb i (length (records_of l s)) ≡ b
        → (if b then Some (extent_at l s i) else None) ≡ Some q → Spotted l s i q.from q.len
    go true h e =
        let is : extent_at l s i ≡ q = cc in
        record { there = ltb-true _ _ h; place = sym (ap (λ (x : Extent). x.from) is); long = sym (ap (λ (x : Extent). x.len) is) }
    go false h e = absurd (let z : ◌≡◌ {A = ℕ} 0 1 = cc in omega arith)

pub spotted_past : (l : ℕ) (s : List ℕ) (i : ℕ) → spot_of l s i ≡ None → length (records_of l s) ≤ i
unfolding spot_of
spotted_past l s i e = go (ltb i (length (records_of l s))) refl e
  where
    go : (b : Bool) → ltb i (length (records_of l s)) ≡ b
        → (if b then Some (extent_at l s i) else None) ≡ None
        → length (records_of l s) ≤ i
    go true h e = absurd (let z : ◌≡◌ {A = ℕ} 0 1 = cc in omega arith)
    go false h e = ltb-false _ _ h

-- a record's length is all that makes it allowed
pub allowed_long : (l : ℕ) (r q : List ℕ) → length r ≡ length q → allowed l q ≡ true → allowed l r ≡ true
unfolding allowed
allowed_long l r q e h = rw e h

-- a stream with zeros after it, written in its front
filled-put : (n p : ℕ) (r s z : List ℕ) → p + length r ≤ length s → zeros z ≡ true → n ≡ length s + length z → filled n (put p r s) ≡ put p r (s ++ z)
unfolding filled blanks
filled-put n p r s z h e k =
    let m : n - length (put p r s) ≡ length z = omega (arith, length-put p r s h) in
    rw (m, ← zeros_are z e) (sym (put_front p r s z h))

module _ (img : List ℕ) (p : Layout) (k : ℕ) (u : InUse img p k) (c : contiguous (entry_at img k) ≡ false) where
  abbrev e : List ℕ
  e = entry_at img k

  abbrev l : ℕ
  l = record_length e

  F : Facts img
  F = used_Facts img p k u

  hk : k < 8 * dirs img
  hk = slot_in img p k u

  pub used_distinct : distinct (sectors_of (sector (start (entry_at img k)) img)) ≡ true
  unfolding block
  used_distinct = ap distinct (sym (logical_is e u.used c img)) ∙ logical-distinct img F k hk u.used c

  pub spot_past : (i : ℕ) → spot_of (record_length (entry_at img k)) (stream img (entry_at img k)) i ≡ None → length (records img (entry_at img k)) ≤ i
  unfolding records
  spot_past i at = spotted_past l (stream img e) i at

  module _ (bytes : Bytes img) (i : ℕ) (q : Extent) (at : spot_of (record_length (entry_at img k)) (stream img (entry_at img k)) i ≡ Some q) where
    g : Spotted l (stream img e) i q.from q.len
    g = spotted l (stream img e) i q at

    pub spot_there : i < length (records img (entry_at img k))
    unfolding records
    spot_there = g.there

    pub spot_long : q.len ≡ length (record_at img (entry_at img k) i)
    unfolding record_at records
    spot_long = g.long

    -- the data lies in the stream, and is the record
    pub spot_fits : q.from + q.len ≤ stream_length (block img (entry_at img k))
    spot_fits =
        omega (
          arith,
          g.place,
          g.long,
          length-stream img F k hk u.used c,
          data_fits l (stream img e) (Bytes-stream img e bytes) (record_length_lem img F k hk u.used c) (stream_whole img F k hk u.used c) i g.there,
        )

    pub spot_data : record_at img (entry_at img k) i ≡ part q.from q.len (stream img (entry_at img k))
    unfolding record_at records
    spot_data =
        record_at_lem l (stream img e) (Bytes-stream img e bytes) (record_length_lem img F k hk u.used c) (stream_whole img F k hk u.used c) i g.there
        ∙ rw (← g.place, ← g.long)

    module _ (r : List ℕ) (long : length r ≡ q.len) where
      same_long : length r ≡ length (record_at img e i)
      same_long = long ∙ spot_long

      fine : allowed l r ≡ true
      unfolding record_at records
      fine =
          allowed_long l r (record_at img e i) same_long (all_at (allowed l) (records_of l (stream img e)) i []
          (records_allowed l (stream img e) (record_length_lem img F k hk u.used c) (stream_whole img F k hk u.used c)) g.there)

      t : List ℕ
      t = stream_of l (set (records img e) i r)

      now_is : Updated l (stream img e) i r t
      unfolding t
      now_is = Updated-stream img F k hk u.used c bytes i r spot_there fine same_long

      ss : List ℕ
      ss = logical img e

      parts : stored img e ≡ stream img e ++ tail img e
      unfolding stream tail
      parts = sym (take-append-drop (stream_length (block img e)) (stored img e))

      filled_is : filled (256 * length ss) t ≡ put q.from r (stored img e)
      unfolding ss
      filled_is =
          let f : q.from + length r ≤ length (stream img e) = omega (arith, spot_fits, length-stream img F k hk u.used c) in
          let m : 256 * length ss ≡ length (stream img e) + length (tail img e) = sym (length-stored img F k hk u.used c) ∙ ap length parts
          ∙ length-append (stream img e) (tail img e) in
          rw (parts, now_is.at_data, ← g.place) (filled-put (256 * length ss) q.from r (stream img e) (tail img e) f (tail_zero img F k hk u.used c) m)

      pub put-updated : laid (sectors_of (sector (start (entry_at img k)) img)) (put q.from r (stored_at img (start (entry_at img k)))) img ≡ updated (entry_at img k) i r img
      unfolding updated ss t block
      put-updated =
          let v : List ℕ = laid ss t img in
          let w = logical-inside img F k hk u.used c in
          let h : length t ≤ 256 * length ss = omega (arith, now_is.long, length-stored img F k hk u.used c, ap length parts, length-append (stream img e) (tail img e)) in
          let q : v ≡ laid ss (laid_out v ss) img = relaid ss img v
          (λ j o. omega (arith, F.long, ltb-true (get_or ss j 0) (sectors img) (all_at (λ x. ltb x (sectors img)) ss j 0 w o))) (laid-Keeps (sectors img) ss t img F.long w) in
          let rd : laid_out v ss ≡ filled (256 * length ss) t = laid_read (sectors img) ss t img F.long w (logical-distinct img F k hk u.used c) h in
          sym (q ∙ rw (rd, filled_is, stored_at_lem img e u.used c, logical_is e u.used c img))

-- the outcomes of a replacement, with the image b that stays and the x that comes
module _ (img e : List ℕ) (i n : ℕ) (b x : List ℕ) where
  pub replaced_past : length (records img e) ≤ i → (Err PastEnd ≡ replaced_of img e i n) × (b ≡ (if is_long img e i n then x else b))
  unfolding replaced_of is_long ◌and◌
  replaced_past h = rw (le-ltb i (length (records img e)) h) (refl, refl)

  module _ (there : i < length (records img e)) (m : ℕ) (long : m ≡ length (record_at img e i)) where
    pub replaced_other : (n ≡ m → ⊥) → (Err OtherLength ≡ replaced_of img e i n) × (b ≡ (if is_long img e i n then x else b))
    unfolding replaced_of is_long ◌and◌
    replaced_other h = rw (lt-ltb i (length (records img e)) there, ← long, ne_eqb n m h) (refl, refl)

    pub replaced_done : n ≡ m → (Ok tt ≡ replaced_of img e i n) × (x ≡ (if is_long img e i n then x else b))
    unfolding replaced_of is_long ◌and◌
    replaced_done h = rw (lt-ltb i (length (records img e)) there, ← long, eq-eqb n m h) (refl, refl)
