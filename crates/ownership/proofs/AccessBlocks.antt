-- An access block that `block_of` makes reads back, and a well-formed one is what `block_of` makes of its parts.
use mathlib.Core.List.{List, [], ◌∷◌, ◌++◌, append_assoc}
use mathlib.Core.Path.{◌≡◌, refl, ◌∙◌, ap, sym}
use mathlib.Core.Bool.{true}
use Prim.Native.Nat.{ℕ, ◌+◌, ◌*◌, ◌/◌, ◌%◌, ◌-◌, ◌≤◌, zero, suc, ◌<◌}
use native.Mathlib.Omega.{arith}
use lib.ListN.{length, length-append, drop, take, length-drop, length-take, take-append-drop, replicate, get_or}
use lib.Seq.{take_at, drop_at, drop-drop, take-add, drop-cons}
use borrow.Author.Tests.{eqb-true, eq-eqb}
use Rattle.numbers.specs.Numbers.{most_segments}
use Rattle.lists.specs.Lists.{flat, all, pieces}
use Rattle.lists.specs.Parts.{filled, bytes2, blanks, byte, word, part}
use Rattle.lists.proofs.Tests.{and_left, and_right, both_true, zeros_are, zeros-blanks}
use Rattle.lists.proofs.Puts.{length-blanks}
use Rattle.lists.proofs.AreBytes.{Bytes}
use Rattle.lists.proofs.Pieces.{get_or-pieces, length-pieces}
use Rattle.lists.proofs.LentParts.{byte-part, word_back}
use Rattle.ownership.specs.Blocks.{segments, block_of, total, stream_length, pairs, seg_start, seg_length}
use Rattle.ownership.specs.Code.Shapes.{fours, BlockShaped}

abbrev pub joined : List (List ℕ) → List ℕ
joined ps = flat (λ p. p) ps

pub segments-block_of : (ps : List (List ℕ)) (n e : ℕ) → segments (block_of ps n e) ≡ length ps
unfolding block_of filled
segments-block_of ps n e = word_back (length ps)

pub total-block_of : (ps : List (List ℕ)) (n e : ℕ) → total (block_of ps n e) ≡ n
unfolding block_of filled
total-block_of ps n e = word_back n

pub stream_length-block_of : (ps : List (List ℕ)) (n e : ℕ) → stream_length (block_of ps n e) ≡ e
unfolding block_of filled
stream_length-block_of ps n e =
    let a = word_back (e / 65536) in
    let b = word_back (e % 65536) in
    omega (arith, a, b)

pub length-joined : (ps : List (List ℕ)) → fours ps ≡ true → length (joined ps) ≡ 4 * length ps
unfolding fours all flat
length-joined [] h = refl
length-joined (p ∷ ps) h =
    let l : length p ≡ 4 = eqb-true _ _ (and_left _ _ h) in
    length-append p (joined ps) ∙ omega (arith, l, length-joined ps (and_right _ _ h))

-- the eight bytes in front, and what follows them
abbrev pub front : ℕ → ℕ → ℕ → List ℕ
front k n e = bytes2 k ++ (bytes2 n ++ (bytes2 (e / 65536) ++ bytes2 (e % 65536)))

pub block_of_parts : (ps : List (List ℕ)) (n e : ℕ) → fours ps ≡ true → block_of ps n e ≡ front (length ps) n e ++ (joined ps ++ blanks (248 - 4 * length ps))
unfolding block_of filled
block_of_parts ps n e h =
    let l : 256 - length (front (length ps) n e ++ joined ps) ≡ 248 - 4 * length ps = omega (arith, length-joined ps h) in
    ap (λ (k : ℕ). front (length ps) n e ++ (joined ps ++ blanks k)) l

pub length-block_of : (ps : List (List ℕ)) (n e : ℕ) → fours ps ≡ true → length ps ≤ most_segments → length (block_of ps n e) ≡ 256
length-block_of ps n e h l =
    let m = length-append (joined ps) (blanks (248 - 4 * length ps)) in
    omega (arith, ap length (block_of_parts ps n e h), m, length-joined ps h, length-blanks (248 - 4 * length ps))

pieces-joined : (ps : List (List ℕ)) (r : List ℕ) → fours ps ≡ true → pieces (length ps) 4 (joined ps ++ r) ≡ ps
unfolding fours all flat pieces
pieces-joined [] r h = refl
pieces-joined (p ∷ ps) r h =
    let l : length p ≡ 4 = eqb-true _ _ (and_left _ _ h) in
    let a : (p ++ joined ps) ++ r ≡ p ++ (joined ps ++ r) = append_assoc p (joined ps) r in
    rw (a, take_at p (joined ps ++ r) 4 l, drop_at p (joined ps ++ r) 4 l, pieces-joined ps r (and_right _ _ h))

pub pairs-block_of : (ps : List (List ℕ)) (n e : ℕ) → fours ps ≡ true → pairs (block_of ps n e) ≡ ps
unfolding pairs
pairs-block_of ps n e h = rw (segments-block_of ps n e, block_of_parts ps n e h) (pieces-joined ps (blanks (248 - 4 * length ps)) h)

-- unused pairs are zero
pub rest_block_of : (ps : List (List ℕ)) (n e : ℕ) → fours ps ≡ true → drop (8 + 4 * length ps) (block_of ps n e) ≡ blanks (248 - 4 * length ps)
rest_block_of ps n e h =
    rw (block_of_parts ps n e h)
    (sym (drop-drop (4 * length ps) 8 (front (length ps) n e ++ (joined ps ++ blanks (248 - 4 * length ps))))
    ∙ drop_at (joined ps) (blanks (248 - 4 * length ps)) (4 * length ps) (length-joined ps h))

pub shaped_block_of : (ps : List (List ℕ)) (n e : ℕ) → fours ps ≡ true → length ps ≤ most_segments → BlockShaped (block_of ps n e)
shaped_block_of ps n e h l = record {
  whole = length-block_of ps n e h l;
  few = rw (segments-block_of ps n e) l;
  rest = rw (segments-block_of ps n e, rest_block_of ps n e h) (zeros-blanks (248 - 4 * length ps));
}

-- the pairs of a block are four bytes each
fours-pieces : (k : ℕ) (l : List ℕ) → 4 * k ≤ length l → fours (pieces k 4 l) ≡ true
unfolding fours all pieces
fours-pieces zero l h = refl
fours-pieces (suc k) l h =
    let t : length (take 4 l) ≡ 4 = simp length-take (omega arith) in
    let d : 4 * k ≤ length (drop 4 l) = simp length-drop (omega arith) in
    both_true _ _ (eq-eqb _ _ t) (fours-pieces k (drop 4 l) d)

joined-pieces : (k : ℕ) (l : List ℕ) → joined (pieces k 4 l) ≡ take (4 * k) l
unfolding flat pieces
joined-pieces zero l = refl
joined-pieces (suc k) l =
    let m : 4 * suc k ≡ 4 + 4 * k = omega arith in
    rw (m, take-add 4 (4 * k) l, joined-pieces k (drop 4 l))

-- the first eight bytes
abbrev heads : List ℕ → List ℕ
heads f = byte f 0 ∷ byte f 1 ∷ byte f 2 ∷ byte f 3 ∷ byte f 4 ∷ byte f 5 ∷ byte f 6 ∷ byte f 7 ∷ []

eight : (f : List ℕ) → 8 ≤ length f → f ≡ heads f ++ drop 8 f
eight f h =
    drop-cons f 0 0 (omega arith) ∙ ap (λ (l : List ℕ). byte f 0 ∷ l) (drop-cons f 1 0 (omega arith) ∙ ap (λ (l : List ℕ). byte f 1 ∷ l) (drop-cons f 2 0 (omega arith)
    ∙ ap (λ (l : List ℕ). byte f 2 ∷ l) (drop-cons f 3 0 (omega arith)
    ∙ ap (λ (l : List ℕ). byte f 3 ∷ l) (drop-cons f 4 0 (omega arith) ∙ ap (λ (l : List ℕ). byte f 4 ∷ l) (drop-cons f 5 0 (omega arith)
    ∙ ap (λ (l : List ℕ). byte f 5 ∷ l) (drop-cons f 6 0 (omega arith) ∙ ap (λ (l : List ℕ). byte f 6 ∷ l) (drop-cons f 7 0 (omega arith))))))))

pub bytes2_word : (x y : ℕ) → y < 256 → bytes2 (256 * x + y) ≡ x ∷ y ∷ []
bytes2_word x y h =
    let a : (256 * x + y) / 256 ≡ x = omega arith in
    let b : (256 * x + y) % 256 ≡ y = omega arith in
    rw (a, b)

front-heads : (f : List ℕ) → Bytes f → front (segments f) (total f) (stream_length f) ≡ heads f
front-heads f b =
    let h7 : byte f 7 < 256 = b 7 in
    let h6 : byte f 6 < 256 = b 6 in
    let hi : stream_length f / 65536 ≡ word f 4 = omega arith in
    let lo : stream_length f % 65536 ≡ word f 6 = omega arith in
    let p0 : bytes2 (segments f) ≡ byte f 0 ∷ byte f 1 ∷ [] = bytes2_word (byte f 0) (byte f 1) (b 1) in
    let p2 : bytes2 (total f) ≡ byte f 2 ∷ byte f 3 ∷ [] = bytes2_word (byte f 2) (byte f 3) (b 3) in
    let p4 : bytes2 (stream_length f / 65536) ≡ byte f 4 ∷ byte f 5 ∷ [] = ap bytes2 hi ∙ bytes2_word (byte f 4) (byte f 5) (b 5) in
    let p6 : bytes2 (stream_length f % 65536) ≡ byte f 6 ∷ byte f 7 ∷ [] = ap bytes2 lo ∙ bytes2_word (byte f 6) (byte f 7) h7 in
    joins p0 (joins p2 (joins p4 p6))
  where
    joins : {a b c d : List ℕ} → a ≡ b → c ≡ d → a ++ c ≡ b ++ d
    joins p q = cc

module _ (f : List ℕ) (s : BlockShaped f) where
  pub fours-pairs : fours (pairs f) ≡ true
  unfolding pairs
  fours-pairs = fours-pieces (segments f) (drop 8 f) (simp length-drop (omega (arith, s.whole, s.few)))

  pub length-pairs : length (pairs f) ≡ segments f
  unfolding pairs
  length-pairs = length-pieces (segments f) 4 (drop 8 f)

  -- what follows the eight bytes in front
  behind : drop 8 f ≡ joined (pairs f) ++ blanks (248 - 4 * length (pairs f))
  unfolding pairs blanks
  behind =
      let k : ℕ = segments f in
      let j : joined (pairs f) ≡ take (4 * k) (drop 8 f) = joined-pieces k (drop 8 f) in
      let d : drop (4 * k) (drop 8 f) ≡ drop (8 + 4 * k) f = drop-drop (4 * k) 8 f in
      let z : drop (8 + 4 * k) f ≡ replicate (length (drop (8 + 4 * k) f)) 0 = zeros_are (drop (8 + 4 * k) f) s.rest in
      let n : length (drop (8 + 4 * k) f) ≡ 248 - 4 * length (pairs f) = length-drop (8 + 4 * k) f ∙ omega (arith, s.whole, length-pairs) in
      sym (take-append-drop (4 * k) (drop 8 f)) ∙ ap (λ (l : List ℕ). take (4 * k) (drop 8 f) ++ l) (d ∙ z ∙ ap (λ (m : ℕ). replicate m 0) n)
      ∙ ap (λ (l : List ℕ). l ++ blanks (248 - 4 * length (pairs f))) (sym j)

  pub block_is : Bytes f → f ≡ block_of (pairs f) (total f) (stream_length f)
  block_is b =
      let h : front (length (pairs f)) (total f) (stream_length f) ≡ heads f = rw length-pairs (front-heads f b) in
      eight f (omega (arith, s.whole))
      ∙ ap (λ (l : List ℕ). heads f ++ l) behind
      ∙ ap (λ (l : List ℕ). l ++ (joined (pairs f) ++ blanks (248 - 4 * length (pairs f)))) (sym h)
      ∙ sym (block_of_parts (pairs f) (total f) (stream_length f) fours-pairs)

-- the words of a pair, where the block has them
module _ (f : List ℕ) (i : ℕ) (h : i < segments f) where
  pub pair_at : get_or (pairs f) i [] ≡ part (8 + 4 * i) 4 f
  unfolding pairs part
  pair_at = get_or-pieces 4 (segments f) i (drop 8 f) h ∙ ap (take 4) (drop-drop (4 * i) 8 f)

  byte_at : (j : ℕ) → j < 4 → byte (get_or (pairs f) i []) j ≡ byte f (8 + 4 * i + j)
  byte_at j l = ap (λ (q : List ℕ). byte q j) pair_at ∙ byte-part (8 + 4 * i) 4 f j l

  pub second_at : byte (get_or (pairs f) i []) 1 ≡ byte f (9 + 4 * i)
  second_at = let z : 8 + 4 * i + 1 ≡ 9 + 4 * i = omega arith in byte_at 1 (omega arith) ∙ ap (byte f) z

  pub seg_start_at : seg_start (get_or (pairs f) i []) ≡ word f (8 + 4 * i)
  seg_start_at =
      let a = byte_at 0 (omega arith) in
      let b = byte_at 1 (omega arith) in
      let z : 8 + 4 * i + 0 ≡ 8 + 4 * i = omega arith in
      rw (a, b, z)

  pub seg_length_at : seg_length (get_or (pairs f) i []) ≡ word f (10 + 4 * i)
  seg_length_at =
      let a = byte_at 2 (omega arith) in
      let b = byte_at 3 (omega arith) in
      let y : 8 + 4 * i + 2 ≡ 10 + 4 * i = omega arith in
      let z : 8 + 4 * i + 3 ≡ 10 + 4 * i + 1 = omega arith in
      rw (a, b, y, z)
