-- A quad read as a number of eight bytes, the highest first.
use Rattle.std.proofs.Common.{◌≡◌, ℕ, zero, suc, ◌+◌, ◌*◌, ◌<◌, List, [], ◌∷◌, get_or, refl, arith, ap, ◌∙◌, take, drop}
use Rattle.std.specs.Simd.{first_chunks}
use Rattle.std.specs.Int.{from_be_bytes, w64}
use Rattle.lists.specs.Lists.{pieces}
use Rattle.lists.specs.Parts.{part, byte}
use Rattle.lists.proofs.LentParts.{byte-part}
use Rattle.lists.proofs.Pieces.{get_or-pieces}
use Rattle.volume.specs.Code.Searches.{quad}

chunks_pieces : (n k : ℕ) (xs : List ℕ) → first_chunks n k xs ≡ pieces k n xs
unfolding pieces
chunks_pieces n zero xs = refl
chunks_pieces n (suc k) xs = ap (λ ps. take n xs ∷ ps) (chunks_pieces n k (drop n xs))

eight_bytes : (p b : List ℕ) (q : ℕ) → ((i : ℕ) → i < 8 → byte p i ≡ byte b (8 * q + i)) → from_be_bytes w64 p ≡ quad b q
unfolding quad
eight_bytes p b q f =
    let at : (i k : ℕ) → i ≡ k → byte b i ≡ byte b k = λ i k e. ap (byte b) e in
    omega (
      arith,
      f 0 (omega arith) ∙ at _ (8 * q) (omega arith),
      f 1 (omega arith),
      f 2 (omega arith),
      f 3 (omega arith) ∙ at _ (8 * q + 2 + 1) (omega arith),
      f 4 (omega arith),
      f 5 (omega arith) ∙ at _ (8 * q + 4 + 1) (omega arith),
      f 6 (omega arith) ∙ at _ (8 * q + 4 + 2) (omega arith),
      f 7 (omega arith) ∙ at _ (8 * q + 4 + 2 + 1) (omega arith),
    )

pub quad_is : (b : List ℕ) (n q : ℕ) → q < n → from_be_bytes w64 (get_or (first_chunks 8 n b) q []) ≡ quad b q
quad_is b n q h =
    let e : get_or (first_chunks 8 n b) q [] ≡ part (8 * q) 8 b = rw (chunks_pieces 8 n b) (get_or-pieces 8 n q b h) in
    rw e (eight_bytes (part (8 * q) 8 b) b q (λ i l. byte-part (8 * q) 8 b i l))
