-- A volume laid out part by part is `formatted`: its table, its trailer, and what lies between.
use Rattle.std.specs.Prelude.{if◌then◌else◌}
use mathlib.Core.Path.{◌≡◌, ap, sym, ◌∙◌, refl}
use mathlib.Core.List.{List, ◌++◌, [], ◌∷◌, append_assoc, append-nil}
use mathlib.Core.Bool.{Bool, false, true}
use Prim.Native.Nat.{ℕ, ◌+◌, ◌≤◌, ◌/◌, zero, suc, ◌<◌, ◌-◌, ◌*◌}
use native.Mathlib.Decide.{dec_le, ℕ_discrete}
use native.Mathlib.Omega.{arith}
use native.Mathlib.Nat.{zero-div}
use lib.ListN.{length, take, drop, length-append}
use lib.Seq.{take-append_seam, drop-append-add, drop_at, take_at}
use lib.Dec.{eqb, leb, ltb}
use borrow.Author.Tests.{lt-ltb, ne_eqb, eq-eqb, le-leb, lt-leb}
use borrow.Rule.Slice.PartMut.{put_mid}
use Rattle.numbers.specs.Numbers.{fewest_sectors, most_dirs, most_sectors}
use Rattle.lists.specs.Parts.{put, blanks, bytes2, filled, part, over}
use Rattle.lists.specs.Lists.{range, all, among, ◌or◌}
use Rattle.lists.proofs.Tests.{both_true, not_both, or_first, or_second}
use Rattle.lists.proofs.Puts.{length-blanks}
use Rattle.lists.proofs.Keeps.{range_out}
use Rattle.lists.proofs.Lists.{among-append, all-append}
use Rattle.lists.proofs.LentParts.{lent, wrote}
use Rattle.lists.proofs.Blanks.{length-filled, blanks-add, get_or-blanks}
use Rattle.lists.proofs.Ranges.{range_below}
use Rattle.volume.specs.Sat.{marked, with_bit, with_bits, owns, sat_of}
use Rattle.volume.specs.Volume.{system_of}
use Rattle.volume.specs.Formatted.{fresh_layout, trailer_of, formatted}
use Rattle.volume.specs.Code.Located.{LaidOut}
use Rattle.volume.specs.declared.locate.Layout.{Layout}
use Rattle.volume.proofs.BitsSet.{sat_numbers, marked-with_bits, Bytes-with_bits, length-with_bits, with_bits-append}
use Rattle.volume.proofs.Bits.{sat_is, length-sat_of}
use Rattle.lists.proofs.ByteLists.{Bytes-blanks}

-- a write over a part of the same length
pub put_seam : (a b c d : List ℕ) (i : ℕ) → length a ≡ i → length c ≡ length b → put i b (a ++ (c ++ d)) ≡ a ++ (b ++ d)
unfolding put
put_seam a b c d i e l =
    let t : take i (a ++ (c ++ d)) ≡ a = ap (λ (k : ℕ). take k (a ++ (c ++ d))) (sym e) ∙ take-append_seam a (c ++ d) in
    let r : drop (i + length b) (a ++ (c ++ d)) ≡ d = ap (λ (k : ℕ). drop (k + length b) (a ++ (c ++ d))) (sym e) ∙ drop-append-add a (c ++ d) (length b)
    ∙ drop_at c d (length b) l in
    rw (t, r)

-- the table: nothing marked at first
marked-blanks : (n s : ℕ) → marked (blanks n) s ≡ false
unfolding marked
marked-blanks n s = rw (get_or-blanks n (s / 8), zero-div)

pub among_not : (u i n : ℕ) → (i ≤ u → u < i + n → ⊥) → among u (range i n) ≡ false
unfolding among range
among_not u i zero h = refl
among_not u i (suc n) h = not_both _ _ (ne_eqb u i (λ e. h (omega arith) (omega arith))) (among_not u (suc i) n (λ a b. h (omega arith) (omega arith)))

in_either : (l z s e d : Bool) → l or (z or (s or (e or d))) ≡ z or (s or (d or (l or e)))
unfolding ◌or◌
in_either true true s e d = refl
in_either true false true e d = refl
in_either true false false e true = refl
in_either true false false e false = refl
in_either false true s e d = refl
in_either false false true e d = refl
in_either false false false true true = refl
in_either false false false true false = refl
in_either false false false false true = refl
in_either false false false false false = refl

by_if : (b : Bool) → (if b then true else false) ≡ b
by_if true = refl
by_if false = refl

module _ (p : Layout) (l : LaidOut p) where
  -- from the trailer on
  past : List ℕ
  past = range (p.t - 1) (most_sectors + 1 - p.t)

  -- the sectors that the code marks, in its order
  marks : List ℕ
  marks = 0 ∷ p.sat ∷ (range p.dir p.dirs ++ past)

  marks_in : sat_numbers marks ≡ true
  unfolding marks past all
  marks_in =
      both_true _ _ refl
      (both_true _ _ (lt-ltb p.sat most_sectors (omega arith))
      (all-append (λ s. ltb s most_sectors) (range p.dir p.dirs) past (range_below most_sectors p.dir p.dirs (omega arith))
      (range_below most_sectors (p.t - 1) (most_sectors + 1 - p.t) (omega arith))))

  past_is : (u : ℕ) → u < most_sectors → among u past ≡ leb p.t u or eqb u (p.t - 1)
  unfolding past
  past_is u h = elim (dec_le p.t u) [
    | yes a ↦ range_out u (p.t - 1) (most_sectors + 1 - p.t) (omega arith) (omega arith) ∙ sym (or_first (leb p.t u) _ (le-leb p.t u a))
    | no a ↦ elim (ℕ_discrete u (p.t - 1)) [
      | yes b ↦ range_out u (p.t - 1) (most_sectors + 1 - p.t) (omega arith) (omega arith) ∙ sym (or_second (leb p.t u) _ (eq-eqb u (p.t - 1) b))
      | no b ↦ among_not u (p.t - 1) (most_sectors + 1 - p.t) (λ x y. b (omega arith)) ∙ sym (not_both _ _ (lt-leb p.t u (omega arith)) (ne_eqb u (p.t - 1) b))
    ]
  ]

  marks_are : (u : ℕ) → u < most_sectors → marked (with_bits 1 (blanks 256) marks) u ≡ owns p.t (system_of p) u
  unfolding owns system_of among marks
  marks_are u h =
      marked-with_bits 1 (blanks 256) marks u (omega arith) (Bytes-blanks 256) (length-blanks 256) marks_in
      ∙ rw (marked-blanks 256 u) (by_if (among u marks))
      ∙ ap (λ (b : Bool). eqb u 0 or (eqb u p.sat or b)) (among-append u (range p.dir p.dirs) past
      ∙ ap (λ (b : Bool). among u (range p.dir p.dirs) or b) (past_is u h))
      ∙ sym (in_either (leb p.t u) (eqb u 0) (eqb u p.sat) (eqb u (p.t - 1)) (among u (range p.dir p.dirs)))

  pub system_sat : with_bits 1 (with_bits 1 (with_bit 1 (with_bit 1 (blanks 256) 0) p.sat) (range p.dir p.dirs)) (range (p.t - 1) (most_sectors + 1 - p.t)) ≡ sat_of p.t
      (system_of p)
  unfolding with_bits marks past
  system_sat =
      sym (with_bits-append 1 (with_bit 1 (with_bit 1 (blanks 256) 0) p.sat) (range p.dir p.dirs) past)
      ∙ sat_is p.t (system_of p) (with_bits 1 (blanks 256) marks) (length-with_bits 1 (blanks 256) marks ∙ length-blanks 256)
      (Bytes-with_bits 1 (blanks 256) marks (omega arith) (Bytes-blanks 256) (length-blanks 256) marks_in) marks_are

-- a new volume's places are in range
pub laid_fresh : (t d : ℕ) → fewest_sectors ≤ t → t ≤ most_sectors → d ≤ most_dirs → LaidOut (fresh_layout t d)
laid_fresh t d low high few = record {
  some = omega arith;
  high = high;
  sat_in = omega arith;
  dir_in = omega arith;
  dir_low = omega arith;
}

-- the trailer's words over zeros
pub trailer_filled : (p : Layout)
    → put 6 (bytes2 p.dirs) (put 4 (bytes2 (p.t - 1 - p.dir)) (put 2 (bytes2 (p.t - 1 - p.sat)) (put 0 (bytes2 p.t) (blanks 256)))) ≡ trailer_of p
unfolding trailer_of put filled blanks
trailer_filled p = refl

-- a part between others
pub part_seam : (a b r : List ℕ) (i n : ℕ) → length a ≡ i → length b ≡ n → part i n (a ++ (b ++ r)) ≡ b
unfolding part
part_seam a b r i n h l = rw (drop_at a (b ++ r) i h, take_at b r n l)

-- the image as it is laid out, from zeros on: the ID, the table, the trailer
module _ (id : List ℕ) (t d : ℕ) (four : length id ≡ 4) (low : fewest_sectors ≤ t) where
  abbrev p : Layout
  p = fresh_layout t d

  abbrev pub laid : List ℕ → List ℕ → List ℕ
  laid s r = filled 256 id ++ (s ++ (blanks (256 * (t - 3)) ++ r))

  id_length : length (filled 256 id) ≡ 256
  id_length = length-filled 256 id (omega arith)

  pub with_id : over id (blanks (256 * t)) ≡ laid (blanks 256) (blanks 256)
  unfolding over filled
  with_id =
      let n : 256 * t ≡ 4 + (252 + (256 + (256 * (t - 3) + 256))) = omega arith in
      let m : 256 - length id ≡ 252 = omega arith in
      let z : List ℕ = blanks 256 ++ (blanks (256 * (t - 3)) ++ blanks 256) in
      let e : blanks (256 * t) ≡ blanks 4 ++ (blanks 252 ++ z) =
      ap blanks n ∙ blanks-add 4 (252 + (256 + (256 * (t - 3) + 256)))
      ∙ rw (blanks-add 252 (256 + (256 * (t - 3) + 256)), blanks-add 256 (256 * (t - 3) + 256), blanks-add (256 * (t - 3)) 256) in
      rw (m, four, e, drop_at (blanks 4) (blanks 252 ++ z) 4 (length-blanks 4)) (sym (append_assoc id (blanks 252) z))

  module _ (s r : List ℕ) (whole : length s ≡ 256) (last : length r ≡ 256) where
    pub laid_sat : part 256 256 (laid s r) ≡ s
    laid_sat = part_seam (filled 256 id) s (blanks (256 * (t - 3)) ++ r) 256 256 id_length whole

    pub put_sat : (x : List ℕ) → length x ≡ 256 → put 256 x (laid s r) ≡ laid x r
    put_sat x h = put_seam (filled 256 id) x s (blanks (256 * (t - 3)) ++ r) 256 id_length (whole ∙ sym h)

    fronted : laid s r ≡ (filled 256 id ++ (s ++ blanks (256 * (t - 3)))) ++ (r ++ [])
    fronted = simp (append_assoc, append-nil)

    front_length : length (filled 256 id ++ (s ++ blanks (256 * (t - 3)))) ≡ 256 * (t - 1)
    front_length = simp length-append (omega (arith, id_length, length-blanks (256 * (t - 3))))

    pub laid_trailer : part (256 * (t - 1)) 256 (laid s r) ≡ r
    laid_trailer = rw fronted (part_seam (filled 256 id ++ (s ++ blanks (256 * (t - 3)))) r [] (256 * (t - 1)) 256 front_length last)

    pub put_trailer : (x : List ℕ) → length x ≡ 256 → put (256 * (t - 1)) x (laid s r) ≡ laid s x
    put_trailer x h =
        ap (put (256 * (t - 1)) x) fronted ∙ put_seam (filled 256 id ++ (s ++ blanks (256 * (t - 3)))) x r [] (256 * (t - 1)) front_length (last ∙ sym h)
        ∙ simp (append_assoc, append-nil)

  -- what the code's parts are, and what the image is once each has come back
  table : List ℕ
  table = sat_of t (system_of (fresh_layout t d))

  table-length : length table ≡ 256
  unfolding table
  table-length = length-sat_of t (system_of (fresh_layout t d))

  trailer_length : length (trailer_of p) ≡ 256
  unfolding trailer_of
  trailer_length = length-filled 256 (bytes2 t ++ (bytes2 (t - 1 - 1) ++ (bytes2 (t - 1 - 2) ++ bytes2 d))) (omega arith)

  module _ (x : List ℕ) (e : x ≡ over id (blanks (256 * t))) where
    pub sat_lent : take 256 (drop 256 x) ≡ blanks 256
    unfolding part
    sat_lent = rw (e, with_id) (laid_sat (blanks 256) (blanks 256) (length-blanks 256) (length-blanks 256))

    pub sat_back : (b : List ℕ) → b ≡ sat_of t (system_of (fresh_layout t d)) → put_mid 256 256 x b ≡ laid (sat_of t (system_of (fresh_layout t d))) (blanks 256)
    unfolding table
    sat_back b q =
        wrote 256 512 x b table (omega arith) q table-length ∙ ap (put 256 table) (e ∙ with_id)
        ∙ put_sat (blanks 256) (blanks 256) (length-blanks 256) (length-blanks 256) table table-length

  module _ (x : List ℕ) (e : x ≡ laid (sat_of t (system_of (fresh_layout t d))) (blanks 256)) where
    pub trailer_lent : take (256 * (t - 1) + 256 - 256 * (t - 1)) (drop (256 * (t - 1)) x) ≡ blanks 256
    unfolding table
    trailer_lent =
        lent (256 * (t - 1)) (256 * (t - 1) + 256) 256 x refl ∙ ap (part (256 * (t - 1)) 256) e ∙ laid_trailer table (blanks 256) table-length (length-blanks 256)

    pub trailer_back : (b : List ℕ) → b ≡ trailer_of (fresh_layout t d) → put_mid (256 * (t - 1)) (256 * (t - 1) + 256 - 256 * (t - 1)) x b ≡ formatted id d t
    unfolding table formatted
    trailer_back b q =
        wrote (256 * (t - 1)) (256 * (t - 1) + 256) x b (trailer_of p) (omega arith) q (trailer_length ∙ omega arith) ∙ ap (put (256 * (t - 1)) (trailer_of p)) e
        ∙ put_trailer table (blanks 256) table-length (length-blanks 256) (trailer_of p) trailer_length
