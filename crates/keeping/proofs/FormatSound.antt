-- A formatted volume is sound, and all its entries are unused.
use mathlib.Core.List.{List, ◌++◌, [], append_assoc, append-nil}
use mathlib.Core.Path.{◌≡◌, refl, ap, sym, ◌∙◌}
use mathlib.Core.Bool.{true, false}
use mathlib.Core.Logic.{inl, inr}
use Prim.Native.Nat.{ℕ, ◌-◌, ◌≤◌, zero, suc, ◌+◌, ◌*◌}
use native.Mathlib.Omega.{arith}
use lib.ListN.{length, get_or, take, drop, replicate, length-append}
use lib.Seq.{drop_at, take_at, take_all, drop-drop, take-append-le}
use lib.Dec.{eqb}
use borrow.Author.Tests.{leb-true, eqb-true, eq-eqb, ne_eqb, le-leb, lt-ltb}
use Rattle.numbers.specs.Numbers.{fewest_sectors, most_dirs, most_sectors}
use Rattle.lists.specs.Parts.{bytes2, word, part, sector, blanks, filled, zeros, sectors}
use Rattle.lists.specs.Lists.{◌and◌, ◌or◌, all, among, distinct}
use Rattle.lists.proofs.Tests.{and_left, and_right, both_true, or_first, zeros-blanks}
use Rattle.lists.proofs.Puts.{length-blanks}
use Rattle.lists.proofs.AreBytes.{Bytes}
use Rattle.lists.proofs.RangeParts.{among-range, distinct-range}
use Rattle.lists.proofs.Blanks.{length-filled, take-blanks, pieces-blanks, all-replicate, flat-replicate}
use Rattle.lists.proofs.Lists.{same_refl}
use Rattle.volume.specs.Names.{volume_id}
use Rattle.volume.specs.Volume.{in_range, trailer, sat_at, dir_at, dirs, sat, system_of, system, layout_of, sound1}
use Rattle.volume.specs.Directory.{entries, entry_at, unused, valid, sound2}
use Rattle.volume.specs.Sat.{sat_of}
use Rattle.volume.specs.Formatted.{fresh_layout, trailer_of, formatted}
use Rattle.volume.proofs.Bits.{length-sat_of}
use Rattle.volume.proofs.SatChanged.{Bytes-sat_of}
use Rattle.volume.proofs.clashes.EntryClashes.{names_replicate}
use Rattle.lists.proofs.ByteLists.{Bytes-append, Bytes-blanks, Bytes-bytes2, Bytes-filled}
use Rattle.ownership.specs.Blocks.{placed, sound3}
use Rattle.ownership.specs.Owners.{owned, all_owned, sound5}
use Rattle.ownership.proofs.OwnedRuns.{owned-unused}
use Rattle.files.specs.Files.{tail_sound, records_sound, sound4, count_is, counts_are, records_in, sound}
use Rattle.ownership.proofs.BlockTests.{placed-unused}
use Rattle.files.proofs.SoundFacts.{CountsTrue, sound_but, sound_is, content_unused, count_unused}

-- what the tests of a volume ID and of the numbers say
record Numbers (id : List ℕ) (d t : ℕ) : Type 0 where
  four : length id ≡ 4
  low : fewest_sectors ≤ t
  high : t ≤ most_sectors
  one_dir : 1 ≤ d
  few_dirs : d ≤ most_dirs

numbers : (id : List ℕ) (d t : ℕ) → volume_id id ≡ true → in_range t d ≡ true → Numbers id d t
unfolding volume_id in_range
numbers id d t a b = record {
  four = eqb-true _ _ (and_left _ _ a);
  low = leb-true _ _ (and_left _ _ (and_left _ _ (and_left _ _ b)));
  high = leb-true _ _ (and_right _ _ (and_left _ _ (and_left _ _ b)));
  one_dir = leb-true _ _ (and_right _ _ (and_left _ _ b));
  few_dirs = leb-true _ _ (and_right _ _ b);
}

module _ (id : List ℕ) (d t : ℕ) (hid : volume_id id ≡ true) (hr : in_range t d ≡ true) where
  N : Numbers id d t
  N = numbers id d t hid hr

  -- its four parts
  vid : List ℕ
  vid = filled 256 id

  tab : List ℕ
  tab = sat_of t (system_of (fresh_layout t d))

  mid : List ℕ
  mid = blanks (256 * (t - 3))

  end : List ℕ
  end = trailer_of (fresh_layout t d)

  img : List ℕ
  img = vid ++ (tab ++ (mid ++ end))

  img_is : formatted id d t ≡ img
  unfolding formatted img vid tab mid end
  img_is = refl

  length-vid : length vid ≡ 256
  unfolding vid
  length-vid = length-filled 256 id (omega (arith, N.four))

  length-tab : length tab ≡ 256
  unfolding tab
  length-tab = length-sat_of t (system_of (fresh_layout t d))

  length-mid : length mid ≡ 256 * (t - 3)
  unfolding mid
  length-mid = length-blanks (256 * (t - 3))

  length-end : length end ≡ 256
  unfolding end trailer_of
  length-end = length-filled 256 (bytes2 t ++ (bytes2 (t - 1 - 1) ++ (bytes2 (t - 1 - 2) ++ bytes2 d))) (omega arith)

  length-img : length img ≡ 256 * t
  unfolding img
  length-img = simp (length-append, length-vid, length-tab, length-mid, length-end) (omega (arith, N.low))

  sectors-img : sectors img ≡ t
  unfolding sectors
  sectors-img = rw length-img (omega arith)

  trailer-img : trailer img ≡ end
  unfolding trailer sector part img
  trailer-img =
      let p : List ℕ = vid ++ (tab ++ mid) in
      let hp : length p ≡ 256 * (t - 1) = simp (length-append, length-vid, length-tab, length-mid) (omega (arith, N.low)) in
      let g : vid ++ (tab ++ (mid ++ end)) ≡ p ++ end = simp append_assoc in
      rw (sectors-img, g, drop_at p end (256 * (t - 1)) hp, take_all 256 end (omega (arith, length-end)))

  words : (word end 0 ≡ t) × (word end 2 ≡ t - 1 - 1) × (word end 4 ≡ t - 1 - 2) × (word end 6 ≡ d) × (zeros (drop 8 end) ≡ true)
  unfolding end trailer_of filled
  words = (omega arith, omega arith, omega arith, omega arith, zeros-blanks 248)

  sat_at-img : sat_at img ≡ 1
  unfolding sat_at
  sat_at-img = rw (sectors-img, trailer-img, words.1) (omega (arith, N.low))

  dir_at-img : dir_at img ≡ 2
  unfolding dir_at
  dir_at-img = rw (sectors-img, trailer-img, words.2) (omega (arith, N.low))

  dirs-img : dirs img ≡ d
  unfolding dirs
  dirs-img = rw (trailer-img, words.3)

  sat-img : sat img ≡ tab
  unfolding sat sector part img
  sat-img = rw (sat_at-img, drop_at vid (tab ++ (mid ++ end)) 256 length-vid, take_at tab (mid ++ end) 256 length-tab)

  system-img : system img ≡ system_of (fresh_layout t d)
  unfolding system layout_of
  system-img = rw (sectors-img, sat_at-img, dir_at-img, dirs-img)

  after_two : drop 512 img ≡ mid ++ end
  unfolding img
  after_two =
      sym (drop-drop 256 256 (vid ++ (tab ++ (mid ++ end)))) ∙ ap (drop 256) (drop_at vid (tab ++ (mid ++ end)) 256 length-vid)
      ∙ drop_at tab (mid ++ end) 256 length-tab

  entries-img : entries img ≡ replicate (8 * d) (blanks 32)
  unfolding entries part mid
  entries-img =
      rw (
        dir_at-img,
        dirs-img,
        after_two,
        take-append-le (256 * d) mid end (omega (arith, length-mid, N.low, N.few_dirs)),
        take-blanks (256 * d) (256 * (t - 3)) (omega (arith, N.low, N.few_dirs)),
        ← append-nil (blanks (256 * d)),
      )
      (pieces-blanks 32 (8 * d) (256 * d) [] (omega arith))

  vid_img : take 4 img ≡ id
  unfolding img vid filled
  vid_img = rw append_assoc (take_at id _ 4 N.four)

  point_1 : sound1 img ≡ true
  unfolding sound1 ◌and◌
  point_1 =
      rw (
        length-img,
        sectors-img,
        trailer-img,
        dirs-img,
        dir_at-img,
        vid_img,
        hid,
        hr,
        words.0,
        words.1,
        words.2,
        words.4,
        eq-eqb (256 * t) (256 * t) refl,
        eq-eqb t t refl,
        lt-ltb (t - 1 - 1) t (omega (arith, N.low)),
        lt-ltb (t - 1 - 2) t (omega (arith, N.low)),
      )
      (le-leb (2 + d) t (omega (arith, N.low, N.few_dirs)))

  point_2 : sound2 img ≡ true
  unfolding sound2
  point_2 =
      rw entries-img
      (both_true _ _ (all-replicate (λ e. unused e or valid e) (8 * d) (blanks 32) (or_first _ _ (zeros-blanks 32))) (names_replicate (8 * d) (blanks 32) (zeros-blanks 32)))

  point_3 : sound3 img ≡ true
  unfolding sound3
  point_3 = rw entries-img (all-replicate (placed img) (8 * d) (blanks 32) (placed-unused img (blanks 32) (zeros-blanks 32)))

  point_4 : sound4 img ≡ true
  unfolding sound4
  point_4 = rw entries-img (all-replicate (λ e. tail_sound img e and records_sound img e) (8 * d) (blanks 32) (content_unused img (blanks 32) (zeros-blanks 32)))

  no_counts : CountsTrue img
  unfolding counts_are
  no_counts = rw entries-img (all-replicate (count_is (records_in img)) (8 * d) (blanks 32) (count_unused (records_in img) (blanks 32) (zeros-blanks 32)))

  owned_img : all_owned img ≡ system_of (fresh_layout t d)
  unfolding all_owned
  owned_img = rw (entries-img, flat-replicate (owned img) (8 * d) (blanks 32) (owned-unused img (blanks 32) (zeros-blanks 32)), system-img, append-nil)

  distinct_img : distinct (system_of (fresh_layout t d)) ≡ true
  unfolding distinct system_of among ◌and◌ ◌or◌
  distinct_img =
      let a : eqb 0 (t - 1) ≡ false = ne_eqb 0 (t - 1) (λ q. omega (arith, N.low)) in
      let b : eqb 1 (t - 1) ≡ false = ne_eqb 1 (t - 1) (λ q. omega (arith, N.low)) in
      rw
      (a, b, among-range 0 2 d (inl (omega arith)), among-range 1 2 d (inl (omega arith)), among-range (t - 1) 2 d (inr (omega (arith, N.low, N.few_dirs))))
      (distinct-range 2 d)

  point_5 : sound5 img ≡ true
  unfolding sound5 tab
  point_5 = rw (owned_img, sat-img, sectors-img, distinct_img) (both_true true _ refl (same_refl (sat_of t (system_of (fresh_layout t d)))))

  pub format_sound : sound (formatted id d t) ≡ true
  format_sound = rw img_is (sound_is img (sound_but img point_1 point_2 point_3 point_4 point_5) no_counts)

  -- its sectors, and those of the system
  pub format_sectors : sectors (formatted id d t) ≡ t
  format_sectors = rw img_is sectors-img

  pub format_system : system (formatted id d t) ≡ system_of (fresh_layout t d)
  format_system = rw img_is system-img

  pub format_length : length (formatted id d t) ≡ 256 * t
  format_length = rw img_is length-img

  pub format_entries : entries (formatted id d t) ≡ replicate (8 * d) (blanks 32)
  format_entries = rw img_is entries-img

  pub format_unused : (k : ℕ) → unused (entry_at (formatted id d t) k) ≡ true
  unfolding entry_at
  format_unused k = rw format_entries (unused-at (8 * d) k)
    where
      unused-at : (n i : ℕ) → unused (get_or (replicate n (blanks 32)) i []) ≡ true
      unused-at zero i = unfold all in refl
      unused-at (suc n) zero = zeros-blanks 32
      unused-at (suc n) (suc i) = unused-at n i

  -- only the system's sectors are owned
  pub format_owned : all_owned (formatted id d t) ≡ system_of (fresh_layout t d)
  format_owned = rw img_is owned_img

  pub format_id : take 4 (formatted id d t) ≡ id
  format_id = rw img_is vid_img

  pub format_Bytes : Bytes id → Bytes (formatted id d t)
  unfolding formatted trailer_of
  format_Bytes b =
      let w2 : ℕ = t - 1 - 1 in
      let w4 : ℕ = t - 1 - 2 in
      let ws : Bytes (bytes2 t ++ (bytes2 w2 ++ (bytes2 w4 ++ bytes2 d))) =
      Bytes-append (bytes2 t) (bytes2 w2 ++ (bytes2 w4 ++ bytes2 d)) (Bytes-bytes2 t (omega (arith, N.high)))
      (Bytes-append (bytes2 w2) (bytes2 w4 ++ bytes2 d) (Bytes-bytes2 w2 (omega (arith, N.high)))
      (Bytes-append (bytes2 w4) (bytes2 d) (Bytes-bytes2 w4 (omega (arith, N.high))) (Bytes-bytes2 d (omega (arith, N.few_dirs))))) in
      let e : List ℕ = filled 256 (bytes2 t ++ (bytes2 w2 ++ (bytes2 w4 ++ bytes2 d))) in
      let m : List ℕ = blanks (256 * (t - 3)) in
      let s : List ℕ = sat_of t (system_of (fresh_layout t d)) in
      Bytes-append (filled 256 id) (s ++ (m ++ e)) (Bytes-filled 256 id b)
      (Bytes-append s (m ++ e) (Bytes-sat_of t (system_of (fresh_layout t d)))
      (Bytes-append m e (Bytes-blanks (256 * (t - 3))) (Bytes-filled 256 (bytes2 t ++ (bytes2 w2 ++ (bytes2 w4 ++ bytes2 d))) ws)))
