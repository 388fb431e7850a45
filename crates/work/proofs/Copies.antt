-- Bytes of a sequential file's stream, copied through the map of its sectors.
use mathlib.Core.Path.{◌≡◌, sym}
use mathlib.Core.List.{List}
use mathlib.Core.Bool.{false}
use Prim.Native.Nat.{ℕ, ◌+◌, ◌-◌, ◌≤◌, ◌*◌}
use native.Mathlib.Omega.{arith}
use lib.ListN.{take, drop, length}
use lib.Seq.{take-take}
use Rattle.lists.specs.Parts.{part, sector}
use Rattle.lists.proofs.Pieces.{drop-take}
use Rattle.volume.specs.Directory.{entry_at, contiguous, start}
use Rattle.volume.specs.declared.locate.Layout.{Layout}
use Rattle.records.specs.Streams.{laid_out}
use Rattle.records.specs.Code.Mapped.{Mapped, stream_in}
use Rattle.ownership.specs.Blocks.{stream_length, sectors_of}
use Rattle.files.specs.Files.{stream}
use Rattle.files.specs.Code.Opens.{Opens, stream_at}
use Rattle.files.specs.Code.Slots.{InUse}
use Rattle.files.proofs.slot.SlotInUse.{used_Opens, used_stream}
use Rattle.files.proofs.Bounds.{stream_long}

-- bytes of a list's front are its own
part_front : (from len n : ℕ) (x : List ℕ) → from + len ≤ n → part from len (take n x) ≡ part from len x
unfolding part
part_front from len n x h = rw (drop-take from n x) (take-take len (n - from) (drop from x) (omega arith))

-- the access block of the file in slot k is in sector s, and m is its map
module _
    (img : List ℕ) (p : Layout) (k : ℕ) (u : InUse img p k) (c : contiguous (entry_at img k) ≡ false)
    (s : ℕ) (at : s ≡ start (entry_at img k)) where
  pub opened : Opens img s
  opened = rw at (used_Opens img p k u c)

  module _
      (m : List ℕ) (em : m ≡ sectors_of (sector s img)) (from len : ℕ) (h : from + len ≤ length (stream img (entry_at img k))) where
    in_stream : from + len ≤ stream_length (sector s img)
    in_stream = rw (at, ← stream_long img p k u c) h

    pub copy_mapped : Mapped img m
    copy_mapped = rw em opened.mapped

    pub copy_inside : from + len ≤ 256 * length m
    copy_inside = rw em (omega (arith, in_stream, opened.ends))

    pub copied : part from len (laid_out img m) ≡ part from len (stream img (entry_at img k))
    unfolding stream_at stream_in
    copied =
        rw (em, used_stream img p k u c, ← at)
        (sym (part_front from len (stream_length (sector s img)) (laid_out img (sectors_of (sector s img))) in_stream))
