-- A file none of whose sectors is written: its sectors, its bytes and the verdicts on it are as they were.
use mathlib.Core.Bool.{Bool, not, false, true, true≢false}
use mathlib.Core.List.{List, ◌∷◌}
use mathlib.Core.Path.{◌≡◌, refl, sym, ◌∙◌}
use Prim.Native.Nat.{ℕ}
use borrow.Author.Tests.{not-true}
use Rattle.lists.specs.Lists.{all, among, ◌and◌, ◌or◌, range}
use Rattle.lists.specs.Parts.{sectors}
use Rattle.lists.proofs.Lists.{all_head, all_tail}
use Rattle.lists.proofs.Keeps.{Keeps, flat-Keeps}
use Rattle.volume.specs.Directory.{unused, contiguous, start, size}
use Rattle.records.specs.Streams.{laid_out}
use Rattle.ownership.specs.Blocks.{block, placed, sectors_of}
use Rattle.ownership.specs.Owners.{logical, owned}
use Rattle.files.specs.Files.{stored, tail_sound, records_sound, stream, tail}

-- none of these sectors is among ws
unfoldable pub clear : List ℕ → List ℕ → Bool
clear ws ss = all (λ u. not (among u ws)) ss

pub record Same (v v' e : List ℕ) : Type 0 where
  pub logical_same : logical v' e ≡ logical v e
  pub stored_same : stored v' e ≡ stored v e
  pub placed_same : placed v' e ≡ placed v e
  pub owned_same : owned v' e ≡ owned v e
  pub content_same : (tail_sound v' e and records_sound v' e) ≡ (tail_sound v e and records_sound v e)
  -- of a sequential file
  pub block_same : unused e ≡ false → contiguous e ≡ false → block v' e ≡ block v e

module _ (ws v v' : List ℕ) (k : Keeps ws v v') (t : sectors v' ≡ sectors v) where
  pub laid_same : (ss : List ℕ) → clear ws ss ≡ true → laid_out v' ss ≡ laid_out v ss
  unfolding laid_out clear
  laid_same ss h = flat-Keeps ws v v' k ss h

  pub block_kept : (e : List ℕ) → among (start e) ws ≡ false → block v' e ≡ block v e
  unfolding block
  block_kept e h = k.at (start e) h

  Same-run : (e : List ℕ) → unused e ≡ false → contiguous e ≡ true → clear ws (owned v e) ≡ true → Same v v' e
  unfolding placed tail_sound records_sound owned logical stored ◌or◌
  Same-run e p q c =
      let o : clear ws (range (start e) (size e)) ≡ true = rw (p, q) at c in
      let z : laid_out v' (range (start e) (size e)) ≡ laid_out v (range (start e) (size e)) = laid_same (range (start e) (size e)) o in
      record {
        logical_same = rw q;
        stored_same = rw q z;
        placed_same = rw (p, q, t);
        owned_same = rw (p, q);
        content_same = rw (p, q);
        block_same = λ a b. absurd (true≢false (sym q ∙ b));
      }

  Same-records : (e : List ℕ) → unused e ≡ false → contiguous e ≡ false → clear ws (owned v e) ≡ true → Same v v' e
  unfolding placed tail_sound records_sound owned logical stored stream tail clear ◌or◌
  Same-records e p q c =
      let o : clear ws (start e ∷ sectors_of (block v e)) ≡ true = rw (p, q) at c in
      let h : among (start e) ws ≡ false = not-true _ (all_head (λ u. not (among u ws)) (start e) (sectors_of (block v e)) o) in
      let b : block v' e ≡ block v e = block_kept e h in
      let z : laid_out v' (sectors_of (block v e)) ≡ laid_out v (sectors_of (block v e)) =
      laid_same (sectors_of (block v e)) (all_tail (λ u. not (among u ws)) (start e) (sectors_of (block v e)) o) in
      record {
        logical_same = rw (q, b);
        stored_same = rw (q, b, z);
        placed_same = rw (p, q, t, b);
        owned_same = rw (p, q, b);
        content_same = rw (p, q, b, z);
        block_same = λ x y. b;
      }

  pub Same-file : (e : List ℕ) → unused e ≡ false → clear ws (owned v e) ≡ true → Same v v' e
  Same-file e u c = go (contiguous e) refl
    where
      go : (b : Bool) → contiguous e ≡ b → Same v v' e
      go true q = Same-run e u q c
      go false q = Same-records e u q c
