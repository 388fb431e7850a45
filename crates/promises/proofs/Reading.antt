-- Read: what it hands over, where the place then is, and that it keeps everything.
use Rattle.std.specs.Prelude.{if◌then◌else◌}
use mathlib.Core.Path.{◌≡◌, refl, ap, ◌∙◌, sym}
use mathlib.Core.List.{List, []}
use mathlib.Core.Bool.{Bool, true, false}
use Prim.Native.Nat.{ℕ, ◌+◌, ◌*◌, ◌≤◌, ◌/◌, ◌-◌, ◌<◌}
use native.Mathlib.Omega.{arith}
use lib.ListN.{length, length-take, length-drop}
use lib.Dec.{leb}
use borrow.Author.Tests.{leb-true, leb-false, le-leb, lt-leb}
use Rattle.lists.specs.Parts.{part, sectors}
use Rattle.volume.specs.Directory.{start, size, contiguous}
use Rattle.files.specs.Changes.{sectors_at}
use Rattle.files.specs.Files.{record_at, extent}
use Rattle.keeping.proofs.OverwriteKeeps.{run_inside}
use Rattle.luns.specs.declared.Place.TheVariants.{At}
use Rattle.luns.specs.Luns.{place_exists}
use Rattle.work.specs.Transfers.{Moving, handed_as, readable, data_at, units, moving, reading}
use Rattle.desk.specs.Desk.{State, file_of, aimed}
use Rattle.desk.specs.Calls.{nothing, after, read, transferred, done}
use Rattle.desk.proofs.DeskFitting.{moved_Fitting}
use Rattle.promises.specs.Contents.{slot_held, least, HandedOver, AcceptedRead}
use Rattle.promises.proofs.Told.{ReadTold, read_told}
use Rattle.promises.proofs.Units.{extent_run, sector_of, unit_record, unit_sector}
use Rattle.promises.proofs.PlacesExist.{place_run, place_one, units_run, units-one, sectored}
use Rattle.promises.proofs.Held.{entry_of, Held, Held-by}
use Rattle.promises.proofs.Preserving.{Preserves, Preserves-Desk, Good-Desk, transferred_to}
use Rattle.promises.proofs.Passing.{accepted, carried}
use Rattle.promises.proofs.OneLun.{only_moved}

length-sectors_at : (v e : List ℕ) (i n : ℕ) → 256 * (start e + i) + 256 * n ≤ length v → length (sectors_at e i n v) ≡ 256 * n
unfolding sectors_at part
length-sectors_at v e i n h = simp (length-take, length-drop) (omega arith)

-- how far a contiguous read goes
record Readable (e : List ℕ) (i m r : ℕ) : Type 0 where
  at_least : 1 ≤ r
  at_most : r ≤ m / 256
  inside : i + r ≤ size e

Readable-is : (e : List ℕ) (i m : ℕ) → i < size e → 1 ≤ m / 256 → Readable e i m (readable e i m)
unfolding readable
Readable-is e i m l o = go (leb (i + m / 256) (size e)) refl
  where
    go : (b : Bool) → leb (i + m / 256) (size e) ≡ b → Readable e i m (if leb (i + m / 256) (size e) then m / 256 else size e - i)
    go true q =
        let h : i + m / 256 ≤ size e = leb-true _ _ q in
        rw q (record { at_least = o; at_most = omega arith; inside = h })
    go false q =
        let h : size e < i + m / 256 = leb-false _ _ q in
        rw q (record { at_least = omega arith; at_most = omega arith; inside = omega arith })

-- as many sectors as the buffer has room for, or fewer if the end comes first
readable-least : (v e : List ℕ) (i m : ℕ) → contiguous e ≡ true → i < extent v e → readable e i m ≡ least (m / 256) (extent v e - i)
unfolding readable
readable-least v e i m q l = go (leb (i + m / 256) (size e)) refl
  where
    go : (b : Bool) → leb (i + m / 256) (size e) ≡ b → (if leb (i + m / 256) (size e) then m / 256 else size e - i) ≡ least (m / 256) (extent v e - i)
    go true p =
        let h : i + m / 256 ≤ size e = leb-true _ _ p in
        let x : m / 256 ≤ extent v e - i = omega (arith, h, extent_run v e q) in
        rw (p, le-leb (m / 256) (extent v e - i) x)
    go false p =
        let h : size e < i + m / 256 = leb-false _ _ p in
        let x : extent v e - i < m / 256 = omega (arith, h, l, extent_run v e q) in
        rw (p, lt-leb (m / 256) (extent v e - i) x, extent_run v e q)

-- the data, by the kind of the file
data_record : (v e : List ℕ) (i : ℕ) (fmt : Bool) (n : ℕ) → contiguous e ≡ false → data_at v e i fmt n ≡ handed_as fmt e (record_at v e i)
unfolding data_at
data_record v e i fmt n q = rw q

data_run : (v e : List ℕ) (i : ℕ) (fmt : Bool) (n : ℕ) → contiguous e ≡ true → data_at v e i fmt n ≡ sectors_at e i (readable e i n) v
unfolding data_at
data_run v e i fmt n q = rw q

module _ (caller lun sel num : ℕ) (fmt : Bool) (buf : List ℕ) (s : State) (T : ReadTold s caller lun sel num fmt (length buf)) where
  abbrev v : List ℕ
  v = s.image

  abbrev e : List ℕ
  e = entry_of s lun

  abbrev i : ℕ
  i = aimed s lun sel num

  abbrev r : ℕ
  r = readable e i (length buf)

  H : Held s lun
  H = Held-by s caller lun T.opened.is_ready T.opened.is_mine

  there : i < extent v e
  unfolding file_of
  there = T.there

  -- a contiguous read: so many whole sectors
  run_Readable : contiguous e ≡ true → Readable e i (length buf) r
  unfolding file_of
  run_Readable q = Readable-is e i (length buf) (omega (arith, there, extent_run v e q)) (sectored (length buf) (T.long_ok q)).some

  run_length : contiguous e ≡ true → length (data_at v e i fmt (length buf)) ≡ 256 * r
  run_length q =
      let w : start e + size e ≤ sectors v = run_inside v H.facts_of (slot_held s lun) H.slot_in H.lun_ok.used q 0 0 [] (omega arith) refl in
      ap length (data_run v e i fmt (length buf) q) ∙ length-sectors_at v e i r (omega (arith, (run_Readable q).inside, H.facts_of.long))

  -- the place after it
  pub place_after : place_exists s.image (entry_of s lun)
      (At (aimed s lun sel num) (units (entry_of s lun) (length (data_at s.image (entry_of s lun) (aimed s lun sel num) fmt (length buf)))))
      ≡ true
  unfolding file_of
  place_after = go (contiguous e) refl
    where
      go : (b : Bool) → contiguous e ≡ b → place_exists v e (At i (units e (length (data_at v e i fmt (length buf))))) ≡ true
      go true q =
          let R = run_Readable q in
          let n : length (data_at v e i fmt (length buf)) / 256 ≡ r = omega (arith, run_length q) in
          rw (units_run e (length (data_at v e i fmt (length buf))) q, n)
          (place_run v e i r q R.at_least (omega (arith, R.at_most, (sectored (length buf) (T.long_ok q)).few)) R.inside)
      go false q = rw (units-one e (length (data_at v e i fmt (length buf))) q) (place_one v e i q there)

  abbrev read_at : Moving
  read_at = reading v (file_of s lun) i fmt buf

  pub Preserves-read : (bs : List ℕ) → Preserves bs nothing s (transferred_to s lun (reading s.image (file_of s lun) (aimed s lun sel num) fmt buf))
  unfolding after reading moving file_of
  Preserves-read bs =
      Preserves-Desk bs nothing s (after s.desk lun read_at) (λ g.
      Good-Desk s (after s.desk lun read_at) g (moved_Fitting v s.desk lun _ H.lun_in H.is_held place_after H.fits_of))

  -- what it hands over
  abbrev bs : List ℕ
  bs = data_at v e i fmt (length buf)

  sector_read : contiguous e ≡ true → (j : ℕ) → 256 * j < length bs → part (256 * j) 256 bs ≡ sectors_at e (i + j) 1 v
  sector_read q j l = ap (part (256 * j) 256) (data_run v e i fmt (length buf) q) ∙ sector_of e i r j v (omega (arith, run_length q))

  fits_in : length bs ≤ length buf
  unfolding file_of
  fits_in = go (contiguous e) refl
    where
      go : (b : Bool) → contiguous e ≡ b → length bs ≤ length buf
      go true q = omega (arith, run_length q, (run_Readable q).at_most)
      go false q = rw (data_record v e i fmt (length buf) q) (T.holds_it q)

  hands_over : HandedOver s (carried (read caller lun sel num fmt buf) s) lun (aimed s lun sel num) fmt buf
      (data_at s.image (entry_of s lun) (aimed s lun sel num) fmt (length buf))
  unfolding file_of done transferred reading moving
  hands_over = record {
    answered = refl;
    image_kept = refl;
    room = fits_in;
    buffer_has = refl;
    one_record = λ q. (data_record v e i fmt (length buf) q ∙ ap (handed_as fmt e) (sym (unit_record v e i q)), only_moved s lun read_at 1 (units-one e (length bs) q) H);
    how_many = λ q. run_length q ∙ ap (λ (m : ℕ). 256 * m) (readable-least v e i (length buf) q there);
    each_sector = λ q j l. sector_read q j l ∙ sym (unit_sector v e (i + j) q);
    sectors_moved = λ q. only_moved s lun read_at (length bs / 256) (units_run e (length bs) q) H;
  }

pub accepted_read : AcceptedRead
accepted_read s caller lun sel num fmt buf h =
    let a = accepted (read caller lun sel num fmt buf) s h in
    let T = read_told caller lun sel num fmt buf s a in
    (data_at s.image (entry_of s lun) (aimed s lun sel num) fmt (length buf), rw a.is (hands_over caller lun sel num fmt buf s T))
