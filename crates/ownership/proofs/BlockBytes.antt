-- An access block whose numbers fit their words is bytes, and so are its pairs with sectors added.
use Rattle.std.specs.Prelude.{if◌then◌else◌}
use mathlib.Core.List.{List, [], ◌∷◌, ◌++◌}
use mathlib.Core.Path.{◌≡◌}
use mathlib.Core.Bool.{true, Bool, false}
use Prim.Native.Nat.{ℕ, zero, suc, ◌%◌, ◌<◌, ◌+◌, ◌≤◌, ◌*◌, ◌/◌}
use native.Mathlib.Omega.{arith}
use lib.ListN.{length, take, drop}
use lib.Dec.{eqb, ltb}
use borrow.Author.Tests.{leb-true, ltb-true}
use Rattle.numbers.specs.Numbers.{most_sectors}
use Rattle.lists.specs.Parts.{bytes2}
use Rattle.lists.specs.Lists.{flat, pieces, all}
use Rattle.lists.proofs.AreBytes.{Bytes}
use Rattle.lists.proofs.ByteLists.{Bytes-append, Bytes-bytes2, Bytes-nil, Bytes-take, Bytes-drop, Bytes-filled}
use Rattle.lists.proofs.Tests.{and_left, and_right}
use Rattle.ownership.specs.Blocks.{seg_start, seg_length, extended, extended_by, segment_sound, block_of}
use Rattle.ownership.proofs.AccessBlocks.{joined}
use Rattle.ownership.proofs.Segments.{sound_extended}

-- of a join that is bytes, each side is
Bytes-left : (a b : List ℕ) → Bytes (a ++ b) → Bytes a
Bytes-left [] b h i = omega arith
Bytes-left (x ∷ a) b h zero = h 0
Bytes-left (x ∷ a) b h (suc i) = Bytes-left a b (λ j. h (suc j)) i

Bytes-right : (a b : List ℕ) → Bytes (a ++ b) → Bytes b
Bytes-right [] b h i = h i
Bytes-right (x ∷ a) b h i = Bytes-right a b (λ j. h (suc j)) i

Bytes-pair : (s n : ℕ) → s < 65536 → n < 65536 → Bytes (bytes2 s ++ bytes2 n)
Bytes-pair s n hs hn = Bytes-append (bytes2 s) (bytes2 n) (Bytes-bytes2 s hs) (Bytes-bytes2 n hn)

pub Bytes-pieces : (k : ℕ) (l : List ℕ) → Bytes l → Bytes (joined (pieces k 4 l))
unfolding flat pieces
Bytes-pieces zero l h = Bytes-nil
Bytes-pieces (suc k) l h = Bytes-append (take 4 l) (joined (pieces k 4 (drop 4 l))) (Bytes-take 4 l h) (Bytes-pieces k (drop 4 l) (Bytes-drop 4 l h))

module _ (t : ℕ) (small : t ≤ most_sectors) where
  pair_low : (p : List ℕ) → segment_sound t p ≡ true → seg_start p + seg_length p ≤ t
  unfolding segment_sound
  pair_low p h = leb-true _ _ (and_right _ _ h)

  Bytes-extended : (ps : List (List ℕ)) (s : ℕ) → s < t → all (segment_sound t) ps ≡ true → Bytes (joined ps) → Bytes (joined (extended ps s))
  unfolding flat extended all
  Bytes-extended [] s hs g h = Bytes-append (bytes2 s ++ bytes2 1) [] (Bytes-pair s 1 (omega arith) (omega arith)) Bytes-nil
  Bytes-extended (p ∷ []) s hs g h = go (eqb (seg_start p + seg_length p) s)
    where
      go : (b : Bool) → Bytes (flat (λ q. q) (if b then (bytes2 (seg_start p) ++ bytes2 (seg_length p + 1)) ∷ [] else p ∷ (bytes2 s ++ bytes2 1) ∷ []))
      go true =
          let l : seg_start p + seg_length p ≤ t = pair_low p (and_left _ _ g) in
          Bytes-append (bytes2 (seg_start p) ++ bytes2 (seg_length p + 1)) [] (Bytes-pair (seg_start p) (seg_length p + 1) (omega arith) (omega arith)) Bytes-nil
      go false = Bytes-append p ((bytes2 s ++ bytes2 1) ++ []) (Bytes-left p [] h) (Bytes-append (bytes2 s ++ bytes2 1) [] (Bytes-pair s 1 (omega arith) (omega arith)) Bytes-nil)
  Bytes-extended (p ∷ q ∷ ps) s hs g h =
      Bytes-append p (joined (extended (q ∷ ps) s)) (Bytes-left p (joined (q ∷ ps)) h)
      (Bytes-extended (q ∷ ps) s hs (and_right _ _ g) (Bytes-right p (joined (q ∷ ps)) h))

  pub Bytes-extended_by : (ps : List (List ℕ)) (ss : List ℕ) → all (λ s. ltb s t) ss ≡ true → all (segment_sound t) ps ≡ true → Bytes (joined ps) → Bytes (joined (extended_by ps ss))
  unfolding extended_by all
  Bytes-extended_by ps [] i g h = h
  Bytes-extended_by ps (s ∷ ss) i g h =
      let l : s < t = ltb-true s t (and_left _ _ i) in
      Bytes-extended_by (extended ps s) ss (and_right _ _ i) (sound_extended t ps s l g) (Bytes-extended ps s l g h)

pub Bytes-block_of : (ps : List (List ℕ)) (n e : ℕ) → length ps < 65536 → n < 65536 → e < 65536 * 65536 → Bytes (joined ps) → Bytes (block_of ps n e)
unfolding block_of
Bytes-block_of ps n e hp hn he h =
    let m : ℕ = e / 65536 in
    let l : ℕ = e % 65536 in
    Bytes-filled 256 (bytes2 (length ps) ++ (bytes2 n ++ (bytes2 m ++ (bytes2 l ++ flat (λ p. p) ps))))
    (Bytes-append (bytes2 (length ps)) (bytes2 n ++ (bytes2 m ++ (bytes2 l ++ flat (λ p. p) ps))) (Bytes-bytes2 (length ps) hp)
    (Bytes-append (bytes2 n) (bytes2 m ++ (bytes2 l ++ flat (λ p. p) ps)) (Bytes-bytes2 n hn)
    (Bytes-append (bytes2 m) (bytes2 l ++ flat (λ p. p) ps) (Bytes-bytes2 m (omega arith))
    (Bytes-append (bytes2 l) (flat (λ p. p) ps) (Bytes-bytes2 l (omega arith)) h))))
