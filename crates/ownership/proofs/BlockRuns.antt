-- What is told of an access block that sectors were to join: by a run of them, and by one run after the other.
use mathlib.Core.Path.{◌≡◌, refl, sym, ap, ◌∙◌}
use mathlib.Core.Bool.{Bool, true, false}
use mathlib.Core.List.{List, [], ◌∷◌, ◌++◌}
use Prim.Native.Nat.{ℕ, suc, ◌-◌, ◌≤◌, ◌<◌}
use native.Mathlib.Omega.{arith}
use lib.ListN.{length, length-append}
use lib.Dec.{leb, ltb}
use borrow.Author.Tests.{le-leb, lt-leb, leb-true, leb-false}
use Rattle.numbers.specs.Numbers.{most_segments}
use Rattle.lists.specs.Lists.{range, all}
use Rattle.lists.proofs.AreBytes.{Bytes}
use Rattle.ownership.specs.Blocks.{extended_by, pairs, segments, total, stream_length, segment_sound}
use Rattle.ownership.specs.Code.Shapes.{pair, follows, lengthened, with_pairs, fours, BlockShaped, Extended}
use Rattle.ownership.proofs.AccessBlocks.{length-pairs, fours-pairs, block_is, pairs-block_of, total-block_of, stream_length-block_of, shaped_block_of}
use Rattle.ownership.proofs.Segments.{length-lengthened, length-extended_by, fours-extended_by, sound_extended_by}
use Rattle.ownership.proofs.SegmentRuns.{extended_by-append, run_on, run_new}

-- if 62 segments are not enough for some sectors, they are not enough with more of them
pub Extended-fails : (f a b g h : List ℕ) → Extended f a false g → Extended f (a ++ b) false h
Extended-fails f a b g h x =
    let l = leb-false (length (extended_by (pairs f) a)) most_segments (sym x.answer) in
    let m = (length-extended_by (extended_by (pairs f) a) b).0 in
    let e = ap length (extended_by-append (pairs f) a b) in
    record {
      answer = sym (lt-leb (length (extended_by (pairs f) (a ++ b))) most_segments (omega arith));
      made = λ t. absurd (let z : ◌≡◌ {A = ℕ} 0 1 = cc in omega arith);
    }

module _ (f : List ℕ) (sh : BlockShaped f) where
  -- the pairs that the sectors make are these, and few enough or not
  told : (ss : List ℕ) (ps : List (List ℕ)) (r : Bool) (x : List ℕ) → extended_by (pairs f) ss ≡ ps → r ≡ leb (length ps) most_segments → (r ≡ true → x ≡ with_pairs f ps)
      → Extended f ss r x
  told ss ps r x e a m = record { answer = rw e a; made = rw e m }

  pub Extended-none : Bytes f → Extended f [] true f
  unfolding extended_by
  Extended-none b =
      told [] (pairs f) true f refl (sym (le-leb (length (pairs f)) most_segments (omega (arith, length-pairs f sh, sh.few)))) (λ h. block_is f sh b)

  -- some that were enough, and the block with them
  module _ (a g : List ℕ) (x : Extended f a true g) where
    four : fours (extended_by (pairs f) a) ≡ true
    four = fours-extended_by (pairs f) a (fours-pairs f sh)

    now_pairs : pairs g ≡ extended_by (pairs f) a
    now_pairs = ap pairs (x.made refl) ∙ pairs-block_of (extended_by (pairs f) a) (total f) (stream_length f) four

    pub extended_shaped : BlockShaped g
    extended_shaped =
        rw (x.made refl)
        (shaped_block_of (extended_by (pairs f) a) (total f) (stream_length f) four (leb-true (length (extended_by (pairs f) a)) most_segments (sym x.answer)))

    pub extended_inside : (t : ℕ) → all (λ s. ltb s t) a ≡ true → all (segment_sound t) (pairs f) ≡ true → all (segment_sound t) (pairs g) ≡ true
    extended_inside t l h = rw now_pairs (sound_extended_by t (pairs f) a l h)

    -- then others
    pub Extended-then : (b : List ℕ) (r : Bool) (h : List ℕ) → Extended g b r h → Extended f (a ++ b) r h
    Extended-then b r h y =
        let n : total g ≡ total f = ap (λ (l : List ℕ). total l) (x.made refl) ∙ total-block_of (extended_by (pairs f) a) (total f) (stream_length f) in
        let m : stream_length g ≡ stream_length f = ap (λ (l : List ℕ). stream_length l) (x.made refl)
        ∙ stream_length-block_of (extended_by (pairs f) a) (total f) (stream_length f) in
        told (a ++ b) (extended_by (pairs g) b) r h (extended_by-append (pairs f) a b ∙ rw now_pairs) y.answer (λ t. rw (n, m) at (y.made t))

  -- a run of n sectors from s on
  module _ (s n : ℕ) where
    pub ran_none : Bytes f → n ≡ 0 → Extended f (range s n) true f
    unfolding range
    ran_none b z = rw z (Extended-none b)

    module _ (some : n ≡ 0 → ⊥) where
      joined_on : follows (pairs f) s ≡ true → extended_by (pairs f) (range s n) ≡ lengthened (pairs f) n
      joined_on h = let z : n ≡ suc (n - 1) = omega arith in rw z (run_on (pairs f) s (n - 1) h)

      joined_new : follows (pairs f) s ≡ false → extended_by (pairs f) (range s n) ≡ pairs f ++ (pair s n ∷ [])
      joined_new h = let z : n ≡ suc (n - 1) = omega arith in rw z (run_new (pairs f) s (n - 1) h)

      pub ran_on : (x : List ℕ) → follows (pairs f) s ≡ true → x ≡ with_pairs f (lengthened (pairs f) n) → Extended f (range s n) true x
      ran_on x h e =
          told (range s n) (lengthened (pairs f) n) true x (joined_on h)
          (sym (le-leb (length (lengthened (pairs f) n)) most_segments (omega (arith, length-lengthened (pairs f) n, length-pairs f sh, sh.few)))) (λ t. e)

      pub ran_full : (x : List ℕ) → follows (pairs f) s ≡ false → most_segments ≤ segments f → Extended f (range s n) false x
      ran_full x h l =
          told (range s n) (pairs f ++ (pair s n ∷ [])) false x (joined_new h)
          (sym (lt-leb (length (pairs f ++ (pair s n ∷ []))) most_segments (omega (arith, length-append (pairs f) (pair s n ∷ []), length-pairs f sh))))
          (λ t. absurd (let z : ◌≡◌ {A = ℕ} 0 1 = cc in omega arith))

      pub ran_new : (x : List ℕ) → follows (pairs f) s ≡ false → segments f < most_segments → x ≡ with_pairs f (pairs f ++ (pair s n ∷ [])) → Extended f (range s n) true x
      ran_new x h l e =
          told (range s n) (pairs f ++ (pair s n ∷ [])) true x (joined_new h)
          (sym (le-leb (length (pairs f ++ (pair s n ∷ []))) most_segments (omega (arith, length-append (pairs f) (pair s n ∷ []), length-pairs f sh)))) (λ t. e)
