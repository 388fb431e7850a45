-- Point 3 of soundness as facts, and the sectors of whatever is placed: they lie inside the volume.
use mathlib.Core.Path.{◌≡◌, refl}
use mathlib.Core.Bool.{true, false, Bool}
use mathlib.Core.List.{List, map, [], ◌∷◌}
use Prim.Native.Nat.{ℕ, ◌≤◌, ◌+◌, ◌*◌, ◌<◌, ◌-◌}
use native.Mathlib.Omega.{arith}
use lib.ListN.{drop}
use lib.Dec.{ltb}
use borrow.Author.Tests.{leb-true, eqb-true, ltb-true, lt-ltb}
use Rattle.numbers.specs.Numbers.{most_segments}
use Rattle.lists.specs.Lists.{all, sum, ◌and◌, flat}
use Rattle.lists.specs.Parts.{zeros, in_sectors, sectors}
use Rattle.lists.proofs.Tests.{and_left, and_right, both_true}
use Rattle.lists.proofs.Ranges.{range_below}
use Rattle.lists.proofs.Lists.{all-append}
use Rattle.volume.specs.Directory.{unused, contiguous, start, size, entries}
use Rattle.volume.specs.Volume.{sat_at, dir_at, dirs, system_of, system, layout_of}
use Rattle.volume.specs.Code.Located.{Located}
use Rattle.volume.specs.declared.locate.Layout.{Layout}
use Rattle.ownership.specs.Blocks.{segments, total, stream_length, pairs, seg_length, segment_sound, block_sound, block, placed, seg_start, segment, sectors_of, sound3}
use Rattle.ownership.specs.Owners.{logical, owned, all_owned}
use Rattle.ownership.proofs.ClaimMeaning.{within}

pub record BlockFacts (t : ℕ) (f : List ℕ) : Type 0 where
  pub few : segments f ≤ most_segments
  pub rest : zeros (drop (8 + 4 * segments f) f) ≡ true
  pub inside : all (segment_sound t) (pairs f) ≡ true
  pub sums : sum (map (λ p. seg_length p) (pairs f)) ≡ total f
  pub rounded : total f ≡ in_sectors (stream_length f)

pub block_facts : (t : ℕ) (f : List ℕ) → block_sound t f ≡ true → BlockFacts t f
unfolding block_sound
block_facts t f h =
    let h4 = and_left _ _ h in
    let h3 = and_left _ _ h4 in
    let h2 = and_left _ _ h3 in
    record {
      few = leb-true _ _ (and_left _ _ h2);
      rest = and_right _ _ h2;
      inside = and_right _ _ h3;
      sums = eqb-true _ _ (and_right _ _ h4);
      rounded = eqb-true _ _ (and_right _ _ h);
    }

-- a used entry that is placed
module _ (img e : List ℕ) (h : placed img e ≡ true) (u : unused e ≡ false) where
  pub placed_run : contiguous e ≡ true → start e + size e ≤ sectors img
  unfolding placed
  placed_run k = leb-true _ _ (rw (u, k) at h)

  chain : contiguous e ≡ false → ltb (start e) (sectors img) and block_sound (sectors img) (block img e) ≡ true
  unfolding placed
  chain k = rw (u, k) at h

  pub placed_start : contiguous e ≡ false → start e < sectors img
  placed_start k = ltb-true _ _ (and_left _ _ (chain k))

  pub placed_block : contiguous e ≡ false → block_sound (sectors img) (block img e) ≡ true
  placed_block k = and_right _ _ (chain k)

-- numbers below t
pub within-flat : {A : Type 0} (t : ℕ) (c : A → Bool) (f : A → List ℕ) (xs : List A) → ((x : A) → c x ≡ true → within t (f x) ≡ true) → all c xs ≡ true
    → within t (flat f xs) ≡ true
unfolding all flat
within-flat t c f [] g h = refl
within-flat t c f (x ∷ xs) g h = all-append (λ u. ltb u t) (f x) (flat f xs) (g x (and_left _ _ h)) (within-flat t c f xs g (and_right _ _ h))

pub segment-within : (t : ℕ) (p : List ℕ) → segment_sound t p ≡ true → within t (segment p) ≡ true
unfolding segment_sound segment
segment-within t p h = range_below t (seg_start p) (seg_length p) (leb-true _ _ (and_right _ _ h))

pub block_within : (t : ℕ) (f : List ℕ) → block_sound t f ≡ true → within t (sectors_of f) ≡ true
unfolding sectors_of
block_within t f h = within-flat t (segment_sound t) segment (pairs f) (segment-within t) (block_facts t f h).inside

-- what an entry owns, and what the volume has owned
owned_by : (img e : List ℕ) → placed img e ≡ true → (u k : Bool) → unused e ≡ u → contiguous e ≡ k → within (sectors img) (owned img e) ≡ true
unfolding owned logical all
owned_by img e h true k eu ek = rw eu
owned_by img e h false true eu ek = rw (eu, ek) (range_below (sectors img) (start e) (size e) (placed_run img e h eu ek))
owned_by img e h false false eu ek =
    rw (eu, ek) (both_true _ _ (lt-ltb _ _ (placed_start img e h eu ek)) (block_within (sectors img) (block img e) (placed_block img e h eu ek)))

pub owned-within : (img e : List ℕ) → placed img e ≡ true → within (sectors img) (owned img e) ≡ true
owned-within img e h = owned_by img e h (unused e) (contiguous e) refl refl

pub system-within : (img : List ℕ) (p : Layout) → Located img p → within (sectors img) (system img) ≡ true
unfolding system layout_of system_of all
system-within img p l =
    let a : 0 < sectors img = omega (arith, l.is_t, l.low) in
    let b : sat_at img < sectors img = omega (arith, l.is_t, l.is_sat, l.sat_in) in
    let c : sectors img - 1 < sectors img = omega arith in
    let d : dir_at img + dirs img ≤ sectors img = omega (arith, l.is_t, l.is_dir, l.is_dirs, l.dir_in) in
    both_true _ _ (lt-ltb _ _ a) (both_true _ _ (lt-ltb _ _ b) (both_true _ _ (lt-ltb _ _ c) (range_below (sectors img) (dir_at img) (dirs img) d)))

pub entries-within : (img : List ℕ) → sound3 img ≡ true → within (sectors img) (flat (owned img) (entries img)) ≡ true
unfolding sound3
entries-within img h = within-flat (sectors img) (placed img) (owned img) (entries img) (owned-within img) h

pub all_owned-within : (img : List ℕ) (p : Layout) → Located img p → sound3 img ≡ true → within (sectors img) (all_owned img) ≡ true
unfolding all_owned
all_owned-within img p l h = all-append (λ u. ltb u (sectors img)) (system img) (flat (owned img) (entries img)) (system-within img p l) (entries-within img h)
