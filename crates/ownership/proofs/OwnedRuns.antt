-- What an entry, an access block and the system own, as the runs that the code walks.
use mathlib.Core.Path.{◌≡◌, sym, ◌∙◌, refl}
use mathlib.Core.Bool.{true, false}
use mathlib.Core.List.{List, [], ◌++◌}
use Prim.Native.Nat.{ℕ, ◌<◌, ◌≤◌, ◌+◌, ◌*◌, ◌-◌}
use native.Mathlib.Omega.{arith}
use lib.ListN.{get_or, length}
use borrow.Author.Tests.{leb-true}
use Rattle.lists.specs.Parts.{sector}
use Rattle.lists.specs.Lists.{range}
use Rattle.lists.proofs.Tests.{and_right}
use Rattle.lists.proofs.Lists.{all_at}
use Rattle.volume.specs.Directory.{unused, contiguous, start, size, entries, entry_at}
use Rattle.volume.specs.Volume.{system_of}
use Rattle.volume.specs.Code.Used.{used_entries}
use Rattle.volume.proofs.used.UsedSlots.{all_used}
use Rattle.volume.specs.declared.locate.Layout.{Layout}
use Rattle.ownership.specs.Blocks.{segments, pairs, seg_start, seg_length, segment, segment_sound, block_sound, block, sectors_of, placed, sound3}
use Rattle.ownership.specs.Owners.{logical, owned}
use Rattle.ownership.proofs.BlockTests.{segment_at, pairs-length, sectors_are, placed-unused}
use Rattle.ownership.proofs.BlockFacts.{block_facts, placed_run, placed_start, placed_block}

-- segment i, by its two words
module _ (f : List ℕ) (i s n : ℕ) (h : i < segments f) (es : s ≡ seg_start (get_or (pairs f) i [])) (en : n ≡ seg_length (get_or (pairs f) i [])) where
  pub run_segment : range s n ≡ segment (get_or (pairs f) i [])
  unfolding segment
  run_segment = rw (es, en)

  pub segment_fits : (t : ℕ) → block_sound t f ≡ true → s + n ≤ t
  segment_fits t b =
      let g = all_at (segment_sound t) (pairs f) i [] (block_facts t f b).inside (omega (arith, pairs-length f)) in
      leb-true _ _ (and_right _ _ (sym (segment_at t (get_or (pairs f) i []) s n es en) ∙ g))

-- an entry
module _ (img e : List ℕ) where
  pub owned-unused : unused e ≡ true → owned img e ≡ []
  unfolding owned
  owned-unused u = rw u

  pub owned_run : (s n : ℕ) → unused e ≡ false → contiguous e ≡ true → s ≡ start e → n ≡ size e → owned img e ≡ range s n
  unfolding owned logical
  owned_run s n u k es en = rw (u, k, ← es, ← en)

  pub owned_chain : (s : ℕ) → unused e ≡ false → contiguous e ≡ false → s ≡ start e → owned img e ≡ range s 1 ++ sectors_of (sector s img)
  unfolding owned logical block range
  owned_chain s u k es = rw (u, k, ← es)

  module _ (t : ℕ) (long : length img ≡ 256 * t) (h : placed img e ≡ true) (u : unused e ≡ false) where
    pub run_fits : (s n : ℕ) → contiguous e ≡ true → s ≡ start e → n ≡ size e → s + n ≤ t
    run_fits s n k es en = let q = placed_run img e h u k in omega (arith, sectors_are img t long, es, en, q)

    pub chain_fits : (s : ℕ) → contiguous e ≡ false → s ≡ start e → s < t
    chain_fits s k es = let q = placed_start img e h u k in omega (arith, sectors_are img t long, es, q)

    pub chain_sound : (s : ℕ) → contiguous e ≡ false → s ≡ start e → block_sound t (sector s img) ≡ true
    unfolding block
    chain_sound s k es = rw (es, ← (sectors_are img t long)) (placed_block img e h u k)

-- the system sectors
pub system_runs : (p : Layout) → system_of p ≡ range 0 1 ++ (range p.sat 1 ++ (range (p.t - 1) 1 ++ range p.dir p.dirs))
unfolding system_of range
system_runs p = refl

-- the entry in a slot of a volume on which all is placed
pub placed_entry : (img : List ℕ) (k : ℕ) → sound3 img ≡ true → k < length (entries img) → placed img (entry_at img k) ≡ true
unfolding sound3 entry_at
placed_entry img k h l = all_at (placed img) (entries img) k [] h l

pub placed_used : (img : List ℕ) (i : ℕ) → sound3 img ≡ true → i < length (used_entries img) → placed img (get_or (used_entries img) i []) ≡ true
unfolding sound3 used_entries
placed_used img i h l = all_at (placed img) (used_entries img) i [] (sym (all_used (placed img) (entries img) (λ e u. placed-unused img e u)) ∙ h) l
