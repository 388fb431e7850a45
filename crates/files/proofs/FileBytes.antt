-- What is made of bytes is bytes: a file's bytes, and an image with bytes laid over sectors of it.
use mathlib.Core.List.{List, [], ◌∷◌}
use Prim.Native.Nat.{ℕ}
use lib.ListN.{get_or, take, drop}
use Rattle.lists.specs.Parts.{sector, put_sector, filled}
use Rattle.lists.proofs.AreBytes.{Bytes}
use Rattle.lists.proofs.ByteLists.{Bytes-flat, Bytes-sector, Bytes-take, Bytes-drop, Bytes-filled, Bytes-put_sector}
use Rattle.records.specs.Streams.{laid_out, laid}
use Rattle.ownership.specs.Blocks.{block, stream_length}
use Rattle.ownership.specs.Owners.{logical}
use Rattle.files.specs.Files.{stored, stream}

pub Bytes-laid_out : (v ss : List ℕ) → Bytes v → Bytes (laid_out v ss)
unfolding laid_out
Bytes-laid_out v ss h = Bytes-flat (λ s. sector s v) ss 0 (λ i l. Bytes-sector (get_or ss i 0) v h)

pub Bytes-stream : (v e : List ℕ) → Bytes v → Bytes (stream v e)
unfolding stream stored
Bytes-stream v e h = Bytes-take (stream_length (block v e)) (laid_out v (logical v e)) (Bytes-laid_out v (logical v e) h)

pub Bytes-laid : (ss bs v : List ℕ) → Bytes bs → Bytes v → Bytes (laid ss bs v)
unfolding laid
Bytes-laid [] bs v hb hv = hv
Bytes-laid (s ∷ ss) bs v hb hv =
    Bytes-laid ss (drop 256 bs) (put_sector s (filled 256 (take 256 bs)) v) (Bytes-drop 256 bs hb)
    (Bytes-put_sector s (filled 256 (take 256 bs)) v (Bytes-filled 256 (take 256 bs) (Bytes-take 256 bs hb)) hv)
