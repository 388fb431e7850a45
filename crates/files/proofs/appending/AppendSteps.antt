-- The steps of an append, as the code takes them.
use mathlib.Core.Path.{◌≡◌, ◌∙◌}
use mathlib.Core.List.{List, []}
use Prim.Native.Nat.{ℕ, ◌<◌, ◌*◌}
use native.Mathlib.Omega.{arith}
use lib.ListN.{length}
use borrow.Author.Tests.{eqb-false}
use Rattle.numbers.specs.Numbers.{most_sectors}
use Rattle.lists.specs.Parts.{sector, put_sector, in_sectors, put}
use Rattle.lists.proofs.Puts.{sector_other}
use Rattle.volume.specs.Sat.{with_bits, lowest}
use Rattle.volume.specs.Directory.{entry_at, start, record_length}
use Rattle.volume.specs.declared.locate.Layout.{Layout}
use Rattle.records.specs.Streams.{laid, laid_out}
use Rattle.records.specs.Records.{encoded}
use Rattle.ownership.specs.Blocks.{block, pairs, extended_by, block_of, stream_length, sectors_of}
use Rattle.ownership.proofs.AccessBlocks.{length-block_of, fours-pairs}
use Rattle.ownership.proofs.Segments.{fours-extended_by}
use Rattle.files.specs.Code.Growing.{grown_with, Taking, RecordFits, Takes}
use Rattle.files.specs.Changes.{longer, needed, new_sectors, lengthened}
use Rattle.files.proofs.appending.AppendNumbers.{adds_low, adds_new}
use Rattle.files.proofs.appending.AppendIs.{takes_Taking, takes_fits, append_is}

-- the access block, the table, the zeros
module _ (img : List ℕ) (sat s : ℕ) (ss : List ℕ) (g : Taking img sat s ss) (e : ℕ) where
  abbrev grown : List ℕ
  grown = block_of (extended_by (pairs (sector s img)) ss) (in_sectors e) e

  long : length grown ≡ 256
  long =
      length-block_of (extended_by (pairs (sector s img)) ss) (in_sectors e) e (fours-extended_by (pairs (sector s img)) ss (fours-pairs (sector s img) g.grows.shaped))
      g.grows.room

  pub taken_all : (x y z : List ℕ) → x ≡ put_sector s (block_of (extended_by (pairs (sector s img)) ss) (in_sectors e) e) img → y ≡ put_sector sat (with_bits 1 (sector sat x) ss) x
      → z ≡ laid ss [] y
      → z ≡ grown_with sat s e ss img
  unfolding grown_with
  taken_all x y z ex ey ez = ez ∙ rw (ey, ex, sector_other s grown img long g.block sat (eqb-false s sat g.two))

-- with what was read before: the block's sector, the longer stream's length, the record length, the stream's end, and the new sectors
module _ (v : List ℕ) (p : Layout) (k : ℕ) (r : List ℕ) (T : Takes v p k r) (n e s l a : ℕ) (ss : List ℕ) (en : n ≡ needed v (entry_at v k) r)
    (ee : e ≡ length (longer v (entry_at v k) r))
    (es : s ≡ start (entry_at v k)) (el : l ≡ record_length (entry_at v k)) (ea : a ≡ stream_length (sector s v)) (eq : ss ≡ lowest n v) where
  new_is : ss ≡ new_sectors v (entry_at v k) r
  new_is = adds_new v p k r T.adds n ss en eq

  pub steps_Taking : Taking v p.sat s ss
  steps_Taking = rw (new_is, es) (takes_Taking v p k r T)

  pub steps_low : e < 512 * most_sectors
  steps_low = omega (arith, adds_low v p k r T.adds)

  module _ (x : List ℕ) (ex : x ≡ grown_with p.sat s e ss v) where
    is : x ≡ grown_with p.sat (start (entry_at v k)) (length (longer v (entry_at v k) r)) (new_sectors v (entry_at v k) r) v
    is = ex ∙ rw (es, ee, new_is)

    pub steps_fits : RecordFits x s a l r
    unfolding block
    steps_fits = rw (ea, es, el) (takes_fits v p k r T x is)

    pub steps_done : (z : List ℕ) → z ≡ laid (sectors_of (sector s x)) (put a (encoded l r) (laid_out x (sectors_of (sector s x)))) x → z ≡ lengthened (entry_at v k) r v
    unfolding block
    steps_done z ez = append_is v p k r T x is z (ez ∙ rw (ea, es, el))
