-- A file's units, records or sectors, and how far it goes; the same file, from one image to another, has the same units.
use mathlib.Core.Path.{◌≡◌, ap, ◌∙◌, sym, refl}
use mathlib.Core.Bool.{true, false, Bool}
use mathlib.Core.List.{List, [], ◌∷◌, ◌++◌}
use mathlib.Core.Logic.{◌≢◌}
use Prim.Native.Nat.{ℕ, ◌+◌, ◌*◌, ◌≤◌, ◌<◌}
use native.Mathlib.Omega.{arith}
use lib.ListN.{length, get_or, set, get_or-append}
use lib.Seq.{get_or-set_other, get_or-append-add}
use Rattle.lists.specs.Parts.{part}
use Rattle.volume.specs.Directory.{contiguous, size, start, entry_at, unused, SameButCount}
use Rattle.volume.proofs.EntryCounted.{contiguous_is, alike_entry, alike_trans}
use Rattle.volume.proofs.Slots.{part-part}
use Rattle.volume.proofs.RunFound.{sectors_part}
use Rattle.records.specs.Streams.{laid_out}
use Rattle.ownership.specs.Owners.{logical}
use Rattle.files.specs.Files.{records, record_at, extent, stored}
use Rattle.files.specs.Changes.{sectors_at}
use Rattle.files.proofs.Kept.EntryAlike.{records_alike, extent_alike}
use Rattle.files.proofs.OneFileChanged.{Changed, entry_other, file_other}
use Rattle.files.proofs.Kept.RecordsSame.{records_same}
use Rattle.files.proofs.slot.UsedSlots.{used_slot}
use Rattle.promises.specs.Contents.{unit_of, SameFile, SameFrame}
use Rattle.promises.specs.Lasting.{Lasting}
use Rattle.promises.specs.Sectors.{File}

-- by the kind of the file
module _ (v e : List ℕ) where
  pub extent_run : contiguous e ≡ true → extent v e ≡ size e
  unfolding extent
  extent_run q = rw q

  pub extent-records : contiguous e ≡ false → extent v e ≡ length (records v e)
  unfolding extent
  extent-records q = rw q

  pub unit_record : (i : ℕ) → contiguous e ≡ false → unit_of v e i ≡ record_at v e i
  unfolding unit_of
  unit_record i q = rw q

  pub unit_sector : (i : ℕ) → contiguous e ≡ true → unit_of v e i ≡ sectors_at e i 1 v
  unfolding unit_of
  unit_sector i q = rw q

-- a sector out of several
pub sector_of : (e : List ℕ) (i n j : ℕ) (v : List ℕ) → j < n → part (256 * j) 256 (sectors_at e i n v) ≡ sectors_at e (i + j) 1 v
unfolding sectors_at
sector_of e i n j v h =
    let a : 256 * (start e + i) + 256 * j ≡ 256 * (start e + (i + j)) = omega arith in
    part-part (256 * (start e + i)) (256 * n) (256 * j) 256 v (omega arith) ∙ ap (λ (x : ℕ). part x 256 v) a

-- a contiguous file's sectors are one part of the image
stored_run : (v e : List ℕ) → contiguous e ≡ true → stored v e ≡ part (256 * start e) (256 * size e) v
unfolding stored laid_out logical
stored_run v e q = rw q (sectors_part (start e) (size e) v)

pub sectors_stored : (v e : List ℕ) (i n : ℕ) → contiguous e ≡ true → i + n ≤ size e → sectors_at e i n v ≡ part (256 * i) (256 * n) (stored v e)
unfolding sectors_at
sectors_stored v e i n q h =
    let a : 256 * start e + 256 * i ≡ 256 * (start e + i) = omega arith in
    sym (ap (part (256 * i) (256 * n)) (stored_run v e q)
    ∙ part-part (256 * start e) (256 * size e) (256 * i) (256 * n) v (omega arith)
    ∙ ap (λ (x : ℕ). part x (256 * n) v) a)

-- the records after a change of them: the same, one more, one replaced
module _ (v v' e : List ℕ) where
  record_same : (i : ℕ) → records v' e ≡ records v e → record_at v' e i ≡ record_at v e i
  unfolding record_at
  record_same i h = ap (λ (rs : List (List ℕ)). get_or rs i []) h

  pub record_before : (i : ℕ) (r : List ℕ) → i < length (records v e) → records v' e ≡ records v e ++ (r ∷ []) → record_at v' e i ≡ record_at v e i
  unfolding record_at
  record_before i r l h = ap (λ (rs : List (List ℕ)). get_or rs i []) h ∙ get_or-append (records v e) (r ∷ []) [] i l

  pub record_last : (i : ℕ) (r : List ℕ) → i ≡ length (records v e) → records v' e ≡ records v e ++ (r ∷ []) → record_at v' e i ≡ r
  unfolding record_at
  record_last i r n h =
      let z : i ≡ length (records v e) + 0 = omega arith in
      ap (λ (rs : List (List ℕ)). get_or rs i []) h
      ∙ ap (λ (j : ℕ). get_or (records v e ++ (r ∷ [])) j []) z
      ∙ get_or-append-add (records v e) (r ∷ []) 0 []

  pub record_other : (i j : ℕ) (r : List ℕ) → i ≢ j → records v' e ≡ set (records v e) j r → record_at v' e i ≡ record_at v e i
  unfolding record_at
  record_other i j r n h = ap (λ (rs : List (List ℕ)). get_or rs i []) h ∙ get_or-set_other (records v e) j i r [] n

-- the records and units of entries that are the same but for the count
record_alike : (e d : List ℕ) → SameButCount e d → (img : List ℕ) (i : ℕ) → record_at img d i ≡ record_at img e i
unfolding record_at
record_alike e d S img i = ap (λ (rs : List (List ℕ)). get_or rs i []) (records_alike e d S img)

pub unit_alike : (e d : List ℕ) → SameButCount e d → (img : List ℕ) (i : ℕ) → unit_of img d i ≡ unit_of img e i
unit_alike e d S img i = go (contiguous e) refl
  where
    go : (b : Bool) → contiguous e ≡ b → unit_of img d i ≡ unit_of img e i
    go true q = ap (λ (x : List ℕ). unit_of img x i) (S.contiguous_same q)
    go false q =
        unit_record img d i (contiguous_is e d S ∙ q) ∙ record_alike e d S img i ∙ sym (unit_record img e i q)

-- a file whose bytes and records stay has the extent and the units that it had
module _ (v v' e : List ℕ) where
  pub extent_kept : (contiguous e ≡ false → records v' e ≡ records v e) → extent v' e ≡ extent v e
  extent_kept r = go (contiguous e) refl
    where
      go : (b : Bool) → contiguous e ≡ b → extent v' e ≡ extent v e
      go true q = extent_run v' e q ∙ sym (extent_run v e q)
      go false q = extent-records v' e q ∙ ap length (r q) ∙ sym (extent-records v e q)

  pub unit_kept : (i : ℕ) → stored v' e ≡ stored v e → (contiguous e ≡ false → records v' e ≡ records v e) → i < extent v e → unit_of v' e i ≡ unit_of v e i
  unit_kept i bytes r h = go (contiguous e) refl
    where
      go : (b : Bool) → contiguous e ≡ b → unit_of v' e i ≡ unit_of v e i
      go true q =
          let l : i + 1 ≤ size e = omega (arith, h, extent_run v e q) in
          unit_sector v' e i q ∙ sectors_stored v' e i 1 q l ∙ ap (part (256 * i) 256) bytes ∙ sym (sectors_stored v e i 1 q l) ∙ sym (unit_sector v e i q)
      go false q = unit_record v' e i q ∙ record_same v v' e i (r q) ∙ sym (unit_record v e i q)

-- a unit that stays, in a file whose entry stays but for the count
module _ (v v' : List ℕ) (k i : ℕ) where
  pub Lasting-by : SameButCount (entry_at v k) (entry_at v' k) → i < extent v' (entry_at v k) → unit_of v' (entry_at v k) i ≡ unit_of v (entry_at v k) i → Lasting v v' k i
  Lasting-by S h u = record { same_but_count = S; still_there = h; same_unit = unit_alike (entry_at v k) (entry_at v' k) S v' i ∙ u }

  -- the same file has the same units
  pub Lasting-same : SameFile v v' k → i < extent v (entry_at v k) → Lasting v v' k i
  Lasting-same S h =
      Lasting-by (alike_entry (entry_at v k) (entry_at v' k) S.entry_same) (omega (arith, h, extent_kept v v' (entry_at v k) S.contents_same.records_same))
      (unit_kept v v' (entry_at v k) i S.contents_same.bytes_same S.contents_same.records_same h)

-- nothing happened to the image; one change after the other
pub same_file : (v : List ℕ) (k : ℕ) → SameFile v v k
same_file v k = record {
  entry_same = refl;
  contents_same = record { bytes_same = refl; records_same = λ q. refl };
  places_same = record { block_same = λ q. refl; sectors_same = refl };
}

-- nor to another file than the one that changed
pub same_other : (v v' : List ℕ) (j : ℕ) (e ws : List ℕ) → Changed v v' j e ws → (k : ℕ) → File v k → k ≢ j → SameFile v v' k
same_other v v' j e ws C k f n =
    let S = file_other v v' j e ws C k f.slot n f.used in
    record {
      entry_same = entry_other v v' j e ws C k n;
      contents_same = record { bytes_same = S.stored_same; records_same = records_same v v' (entry_at v k) S f.used };
      places_same = record { block_same = S.block_same f.used; sectors_same = S.logical_same };
    }

pub same_frame : (v : List ℕ) → SameFrame v v
same_frame v = record { as_long = refl; vid_same = refl; trailer_same = refl }

pub Lasting-image : (v : List ℕ) (k i : ℕ) → i < extent v (entry_at v k) → Lasting v v k i
Lasting-image v k i h = Lasting-same v v k i (same_file v k) h

pub Lasting-trans : (u v w : List ℕ) (k i : ℕ) → Lasting u v k i → Lasting v w k i → Lasting u w k i
Lasting-trans u v w k i a b = record {
  same_but_count = alike_trans (entry_at u k) (entry_at v k) (entry_at w k) a.same_but_count b.same_but_count;
  still_there = rw (extent_alike (entry_at u k) (entry_at v k) a.same_but_count w) at b.still_there;
  same_unit = b.same_unit ∙ a.same_unit;
}

pub File-after : (v v' : List ℕ) (k : ℕ) → unused (entry_at v k) ≡ false → SameButCount (entry_at v k) (entry_at v' k) → File v' k
File-after v v' k f S =
    let u : unused (entry_at v' k) ≡ false = S.use_same ∙ f in
    record { slot = used_slot v' k u; used = u }
