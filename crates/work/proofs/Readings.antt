-- Read, in the numbers that the code has: of a contiguous file its first sector and its size, of a sequential one the record's data or
-- its text.
use mathlib.Core.Path.{◌≡◌, refl}
use mathlib.Core.Bool.{Bool, true, false}
use mathlib.Core.List.{List}
use Prim.Native.Nat.{ℕ, ◌+◌, ◌-◌, ◌≤◌, ◌<◌, ◌/◌, ◌*◌}
use native.Mathlib.Omega.{arith}
use native.Mathlib.Nat.{mul-div_cancel_left}
use lib.Dec.{leb, ltb}
use lib.ListN.{length}
use borrow.Author.Tests.{le-leb, lt-leb, leb-true, leb-false, lt-ltb, le-ltb, ltb-true, ltb-false}
use Rattle.lists.specs.Lists.{◌and◌}
use Rattle.lists.specs.Parts.{part, over}
use Rattle.lists.proofs.LentParts.{length-part}
use Rattle.volume.specs.Directory.{size, contiguous, start}
use Rattle.files.specs.Files.{extent, records, record_at}
use Rattle.files.specs.Changes.{sectors_at}
use Rattle.work.specs.Code.Runs.{fewer, ran_read, read_run}
use Rattle.work.specs.Transfers.{readable, units, moving, ended, as_text, handed_as, data_at, read_rules, reading}
use Rattle.work.specs.Refusals.{ruled}
use Rattle.work.specs.Code.Deeds.{deed, done, done_by, moved, read_deed}
use Rattle.work.specs.declared.Refusal.TheVariants.{BadLength, PastEnd}
use Rattle.std.specs.Prelude.{Result, Ok, Err}
use Rattle.work.specs.declared.Refusal.{Refusal}
use Rattle.work.specs.declared.Transfer.{Transfer}
use Rattle.work.specs.Code.Codings.{handed, buffer_after}
use Rattle.work.proofs.TextRules.{plain_handed, sent_handed}

-- as many as there are
module _ (n i m : ℕ) where
  pub fewer_all : i + m ≤ n → m ≡ fewer n i m
  unfolding fewer
  fewer_all h = rw (le-leb (i + m) n h)

  pub fewer_left : n < i + m → n - i ≡ fewer n i m
  unfolding fewer
  fewer_left h = rw (lt-leb (i + m) n h)

  fewer_fits : i < n → i + fewer n i m ≤ n
  fewer_fits h = go (leb (i + m) n) refl
    where
      go : (b : Bool) → leb (i + m) n ≡ b → i + fewer n i m ≤ n
      go true q = omega (arith, leb-true (i + m) n q, fewer_all (leb-true (i + m) n q))
      go false q = omega (arith, leb-false (i + m) n q, fewer_left (leb-false (i + m) n q))

readable-fewer : (e : List ℕ) (i n : ℕ) → readable e i n ≡ fewer (size e) i (n / 256)
unfolding readable fewer
readable-fewer e i n = refl

-- the answer of a record of which n bytes were handed over
abbrev pub answered : Result ℕ Refusal → ℕ → Result Transfer Refusal
answered (Ok n) i = done n i 1
answered (Err why) i = Err why

module _ (img e : List ℕ) (i : ℕ) (fmt : Bool) (buf : List ℕ) where
  -- in a contiguous file
  module _ (c : contiguous e ≡ true) where
    run_data : 256 * (start e + size e) ≤ length img → i < size e
        → moved (reading img e i fmt buf) ≡ ran_read img (start e) i (fewer (size e) i (length buf / 256)) buf
    unfolding moved reading moving data_at units ran_read sectors_at
    run_data h l =
        let k : ℕ = fewer (size e) i (length buf / 256) in
        let long : length (part (256 * (start e + i)) (256 * k) img) ≡ 256 * k =
        length-part (256 * (start e + i)) (256 * k) img (omega (arith, fewer_fits (size e) i (length buf / 256) l)) in
        let back : 256 * k / 256 ≡ k = mul-div_cancel_left k (omega arith) in
        rw (c, readable-fewer e i (length buf), long, back)

    run_past : leb (size e) i ≡ true → read_run img (start e) (size e) i buf ≡ read_deed img e i fmt buf
    unfolding read_run read_deed read_rules ended extent done_by ruled ◌and◌
    run_past q = rw (c, q)

    run_inside : leb (size e) i ≡ false → moved (reading img e i fmt buf) ≡ ran_read img (start e) i (fewer (size e) i (length buf / 256)) buf
        → read_run img (start e) (size e) i buf ≡ read_deed img e i fmt buf
    unfolding read_run read_deed read_rules ended extent done_by ruled ◌and◌
    run_inside q same = rw (same, c, q)

    pub run_read : 256 * (start e + size e) ≤ length img → read_run img (start e) (size e) i buf ≡ read_deed img e i fmt buf
    run_read h = go (leb (size e) i) refl
      where
        go : (b : Bool) → leb (size e) i ≡ b → read_run img (start e) (size e) i buf ≡ read_deed img e i fmt buf
        go true q = run_past q
        go false q = run_inside q (run_data h (leb-false _ _ q))

  -- of a sequential one: what is handed over of the record is bs
  module _ (c : contiguous e ≡ false) where
    pub record_past : length (records img e) ≤ i → deed (Err PastEnd) img buf ≡ read_deed img e i fmt buf
    unfolding read_deed read_rules ended extent done_by ruled ◌and◌
    record_past l = rw (c, le-leb (length (records img e)) i l)

    module _ (bs : List ℕ) (h : handed_as fmt e (record_at img e i) ≡ bs) (l : i < length (records img e)) where
      record_short : length buf < length bs → deed (Err BadLength) img buf ≡ read_deed img e i fmt buf
      unfolding read_deed read_rules ended extent done_by ruled ◌and◌
      record_short s = rw (c, h, lt-leb (length (records img e)) i l, lt-ltb (length buf) (length bs) s)

      record_read : length bs ≤ length buf → deed (done (length bs) i 1) img (over bs buf) ≡ read_deed img e i fmt buf
      unfolding read_deed read_rules ended extent reading moving moved data_at units done_by ruled ◌and◌
      record_read s = rw (c, h, lt-leb (length (records img e)) i l, le-ltb (length buf) (length bs) s)

      -- handed over to the buffer, as many bytes as it answers
      pub record_handed : (r : Result ℕ Refusal) → r ≡ handed bs buf → deed (answered r i) img (buffer_after bs buf) ≡ read_deed img e i fmt buf
      unfolding handed buffer_after
      record_handed r is = rw is (go (ltb (length buf) (length bs)) refl)
        where
          go : (b : Bool) → ltb (length buf) (length bs) ≡ b → deed (answered (handed bs buf) i) img (buffer_after bs buf) ≡ read_deed img e i fmt buf
          go true q = rw q (record_short (ltb-true _ _ q))
          go false q = rw q (record_read (ltb-false _ _ q))

-- a transfer that is not of text is one that was not asked for as such
pub plain_read : (img e : List ℕ) (i : ℕ) (fmt : Bool) (buf : List ℕ) → as_text fmt e ≡ false → read_deed img e i false buf ≡ read_deed img e i fmt buf
unfolding read_deed read_rules reading data_at
plain_read img e i fmt buf t = rw (plain_handed fmt e t (record_at img e i), sent_handed e (record_at img e i)) refl
