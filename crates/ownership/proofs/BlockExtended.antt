-- An access block with words written into it is what `block_of` makes of the changed parts.
use mathlib.Core.Path.{◌≡◌, refl, sym, ap, ◌∙◌}
use mathlib.Core.List.{List, ◌++◌, [], ◌∷◌, append_assoc, append-nil}
use mathlib.Core.Bool.{true}
use Prim.Native.Nat.{ℕ, ◌/◌, ◌%◌, ◌+◌, ◌-◌, ◌≤◌, ◌*◌, ◌<◌, suc}
use native.Mathlib.Omega.{arith}
use lib.ListN.{replicate, replicate-append-replicate, length, length-append, take}
use lib.Seq.{take-suc, take-length, length-take-le}
use lib.Dec.{eqb}
use borrow.Author.Tests.{eqb-true}
use Rattle.numbers.specs.Numbers.{most_segments}
use Rattle.lists.specs.Parts.{bytes2, put, filled, blanks, byte}
use Rattle.lists.specs.Lists.{flat, all}
use Rattle.lists.proofs.Puts.{length-blanks}
use Rattle.lists.proofs.Tests.{and_left, and_right, both_true}
use Rattle.lists.proofs.Lists.{all_at}
use Rattle.volume.proofs.Formatted.{put_seam}
use Rattle.ownership.specs.Blocks.{block_of, seg_start, seg_length}
use Rattle.ownership.specs.Code.Shapes.{fours, pair, lengthened, last_pair, follows}
use Rattle.ownership.proofs.AccessBlocks.{joined, front, block_of_parts, length-joined, bytes2_word}
use Rattle.ownership.proofs.Segments.{fours-append, fours_one, last_pair-cons}

-- the words in front
pub put_total : (ps : List (List ℕ)) (n e m : ℕ) → put 2 (bytes2 m) (block_of ps n e) ≡ block_of ps m e
unfolding put block_of filled
put_total ps n e m = refl

pub put_stream_length : (ps : List (List ℕ)) (n e m : ℕ) → put 4 (bytes2 (m / 65536) ++ bytes2 (m % 65536)) (block_of ps n e) ≡ block_of ps n m
unfolding put block_of filled
put_stream_length ps n e m = refl

joined_snoc : (ps : List (List ℕ)) (p : List ℕ) → joined (ps ++ (p ∷ [])) ≡ joined ps ++ p
unfolding flat
joined_snoc [] p = append-nil p
joined_snoc (q ∷ ps) p = rw (joined_snoc ps p) (sym (append_assoc q (joined ps) p))

blanks_four : (n : ℕ) → 4 ≤ n → blanks n ≡ blanks 4 ++ blanks (n - 4)
unfolding blanks
blanks_four n h = let z : n ≡ 4 + (n - 4) = omega arith in ap (λ (k : ℕ). replicate k 0) z ∙ sym (replicate-append-replicate 4 (n - 4) 0)

put_count : (k j n e : ℕ) (r : List ℕ) → put 0 (bytes2 j) (front k n e ++ r) ≡ front j n e ++ r
unfolding put
put_count k j n e r = refl

-- the last pair in its place
block_of_snoc : (qs : List (List ℕ)) (p : List ℕ) (n e : ℕ) → fours (qs ++ (p ∷ [])) ≡ true
    → block_of (qs ++ (p ∷ [])) n e ≡ front (length qs + 1) n e ++ (joined qs ++ (p ++ blanks (248 - 4 * (length qs + 1))))
block_of_snoc qs p n e h =
    block_of_parts (qs ++ (p ∷ [])) n e h
    ∙ ap (λ (m : ℕ). front m n e ++ (joined (qs ++ (p ∷ [])) ++ blanks (248 - 4 * m))) (length-append qs (p ∷ []))
    ∙ ap (λ (x : List ℕ). front (length qs + 1) n e ++ (x ++ blanks (248 - 4 * (length qs + 1)))) (joined_snoc qs p)
    ∙ ap (λ (x : List ℕ). front (length qs + 1) n e ++ x) (append_assoc (joined qs) p (blanks (248 - 4 * (length qs + 1))))

-- a new segment of m sectors
module _ (ps : List (List ℕ)) (n e s m : ℕ) (h : fours ps ≡ true) (l : length ps < most_segments) where
  new_before : block_of ps n e ≡ (front (length ps) n e ++ joined ps) ++ (blanks 4 ++ blanks (248 - 4 * (length ps + 1)))
  new_before =
      let z : 248 - 4 * length ps - 4 ≡ 248 - 4 * (length ps + 1) = omega arith in
      block_of_parts ps n e h
      ∙ ap (λ (x : List ℕ). front (length ps) n e ++ (joined ps ++ x)) (blanks_four (248 - 4 * length ps) (omega arith) ∙ ap (λ (m : ℕ). blanks 4 ++ blanks m) z)

  pub put_new : put 0 (bytes2 (length ps + 1)) (put (8 + 4 * length ps) (pair s m) (block_of ps n e)) ≡ block_of (ps ++ (pair s m ∷ [])) n e
  put_new =
      let l : length (front (length ps) n e ++ joined ps) ≡ 8 + 4 * length ps = omega (arith, length-joined ps h) in
      let z : List ℕ = blanks (248 - 4 * (length ps + 1)) in
      ap (λ (x : List ℕ). put 0 (bytes2 (length ps + 1)) (put (8 + 4 * length ps) (pair s m) x)) new_before
      ∙ ap (put 0 (bytes2 (length ps + 1))) (put_seam (front (length ps) n e ++ joined ps) (pair s m) (blanks 4) z (8 + 4 * length ps) l (length-blanks 4))
      ∙ put_count (length ps) (length ps + 1) n e (joined ps ++ (pair s m ++ z))
      ∙ sym (block_of_snoc ps (pair s m) n e (fours-append ps (pair s m ∷ []) h (fours_one s m)))

-- the last segment m sectors longer
pub lengthened_snoc : (ps : List (List ℕ)) (p : List ℕ) (m : ℕ) → lengthened (ps ++ (p ∷ [])) m ≡ ps ++ (pair (seg_start p) (seg_length p + m) ∷ [])
unfolding lengthened
lengthened_snoc [] p m = refl
lengthened_snoc (q ∷ []) p m = refl
lengthened_snoc (q ∷ r ∷ ps) p m = rw (lengthened_snoc (r ∷ ps) p m)

pub snoc_view : (ps : List (List ℕ)) → 1 ≤ length ps → ps ≡ take (length ps - 1) ps ++ (last_pair ps ∷ [])
snoc_view ps h =
    let z : length ps ≡ suc (length ps - 1) = omega arith in
    sym (take-length ps) ∙ ap (λ (k : ℕ). take k ps) z ∙ take-suc ps (length ps - 1) [] (omega arith)

pub follows_last : (ps : List (List ℕ)) (s : ℕ) → 1 ≤ length ps → follows ps s ≡ eqb (seg_start (last_pair ps) + seg_length (last_pair ps)) s
unfolding follows
follows_last [] s h = absurd (omega arith)
follows_last (p ∷ []) s h = refl
follows_last (p ∷ q ∷ ps) s h = follows_last (q ∷ ps) s (omega arith) ∙ rw (last_pair-cons p (q ∷ ps) (omega arith))

-- a pair whose length is written anew
four_bytes : (p : List ℕ) → length p ≡ 4 → byte p 1 < 256 → p ≡ bytes2 (seg_start p) ++ (byte p 2 ∷ byte p 3 ∷ [])
four_bytes [] l b = absurd (omega arith)
four_bytes (w ∷ []) l b = absurd (omega arith)
four_bytes (w ∷ x ∷ []) l b = absurd (omega arith)
four_bytes (w ∷ x ∷ y ∷ []) l b = absurd (omega arith)
four_bytes (w ∷ x ∷ y ∷ z ∷ []) l b = ap (λ (h : List ℕ). h ++ (y ∷ z ∷ [])) (sym (bytes2_word w x b))
four_bytes (w ∷ x ∷ y ∷ z ∷ v ∷ r) l b = absurd (omega arith)

fours_left : (ps qs : List (List ℕ)) → fours (ps ++ qs) ≡ true → fours ps ≡ true
unfolding fours all
fours_left [] qs h = refl
fours_left (p ∷ ps) qs h = both_true _ _ (and_left _ _ h) (fours_left ps qs (and_right _ _ h))

module _ (qs : List (List ℕ)) (p : List ℕ) (n e w : ℕ) (h : fours (qs ++ (p ∷ [])) ≡ true) (l : length p ≡ 4) (b : byte p 1 < 256) where
  put_longer_at : put (10 + 4 * length qs) (bytes2 w) (block_of (qs ++ (p ∷ [])) n e) ≡ block_of (qs ++ (pair (seg_start p) w ∷ [])) n e
  put_longer_at =
      let k : fours qs ≡ true = fours_left qs (p ∷ []) h in
      let f : List ℕ = front (length qs + 1) n e in
      let a : List ℕ = bytes2 (seg_start p) in
      let c : List ℕ = byte p 2 ∷ byte p 3 ∷ [] in
      let z : List ℕ = blanks (248 - 4 * (length qs + 1)) in
      let m : length (f ++ (joined qs ++ a)) ≡ 10 + 4 * length qs = omega (arith, length-append (joined qs) a, length-joined qs k) in
      let before : block_of (qs ++ (p ∷ [])) n e ≡ (f ++ (joined qs ++ a)) ++ (c ++ z) =
      block_of_snoc qs p n e h ∙ ap (λ (x : List ℕ). f ++ (joined qs ++ (x ++ z))) (four_bytes p l b) ∙ ap (λ (x : List ℕ). f ++ x) (sym (append_assoc (joined qs) a (c ++ z))) in
      ap (put (10 + 4 * length qs) (bytes2 w)) before
      ∙ put_seam (f ++ (joined qs ++ a)) (bytes2 w) c z (10 + 4 * length qs) m refl
      ∙ ap (λ (x : List ℕ). f ++ x) (append_assoc (joined qs) a (bytes2 w ++ z))
      ∙ sym (block_of_snoc qs (pair (seg_start p) w) n e (fours-append qs (pair (seg_start p) w ∷ []) k (fours_one (seg_start p) w)))

pub put_longer : (ps : List (List ℕ)) (n e m : ℕ) → fours ps ≡ true → 1 ≤ length ps → byte (last_pair ps) 1 < 256
    → put (6 + 4 * length ps) (bytes2 (seg_length (last_pair ps) + m)) (block_of ps n e) ≡ block_of (lengthened ps m) n e
unfolding fours
put_longer ps n e m h l b =
    let qs : List (List ℕ) = take (length ps - 1) ps in
    let p : List ℕ = last_pair ps in
    let w : ℕ = seg_length p + m in
    let v : ps ≡ qs ++ (p ∷ []) = snoc_view ps l in
    let hv : fours (qs ++ (p ∷ [])) ≡ true = sym (ap fours v) ∙ h in
    let lp : length p ≡ 4 = eqb-true _ _ (all_at (λ q. eqb (length q) 4) ps (length ps - 1) [] h (omega arith)) in
    let i : 6 + 4 * length ps ≡ 10 + 4 * length qs = omega (arith, length-take-le (length ps - 1) ps (omega arith)) in
    ap (λ (j : ℕ). put j (bytes2 w) (block_of ps n e)) i
    ∙ ap (λ (x : List (List ℕ)). put (10 + 4 * length qs) (bytes2 w) (block_of x n e)) v
    ∙ put_longer_at qs p n e w hv lp b
    ∙ ap (λ (x : List (List ℕ)). block_of x n e) (sym (ap (λ (x : List (List ℕ)). lengthened x m) v ∙ lengthened_snoc qs p m))
