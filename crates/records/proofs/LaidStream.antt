-- A stream laid over its sectors is read back from them, and every other sector is as it was.
use mathlib.Core.Path.{◌≡◌, refl, sym, ◌∙◌}
use mathlib.Core.List.{List, [], append-nil, ◌++◌, append_assoc, ◌∷◌}
use mathlib.Core.Bool.{Bool, true, false}
use mathlib.Core.Logic.{◌≢◌}
use Prim.Native.Nat.{ℕ, ◌-◌, ◌+◌, suc, ◌*◌, ◌≤◌, ◌<◌}
use native.Mathlib.Omega.{arith}
use native.Mathlib.Decide.{dec_le}
use lib.ListN.{length, take, drop, length-take, length-drop, take-append-drop, drop_of_length-le}
use lib.Seq.{take_at, drop_at, take_all}
use lib.Dec.{ltb}
use borrow.Author.Tests.{eqb-false, not-true, ltb-true}
use Rattle.lists.specs.Parts.{blanks, filled, sector, put_sector}
use Rattle.lists.specs.Lists.{all, flat, among, distinct}
use Rattle.lists.proofs.Blanks.{blanks-add, length-filled}
use Rattle.lists.proofs.Puts.{sector_same, sector_other, long_sector}
use Rattle.lists.proofs.Tests.{and_left, and_right, or_left, or_right}
use Rattle.lists.proofs.Keeps.{Keeps}
use Rattle.records.specs.Streams.{laid_out, laid}

-- `filled`
pub take-filled : (n : ℕ) (b : List ℕ) → take (length b) (filled n b) ≡ b
unfolding filled
take-filled n b = take_at b (blanks (n - length b)) (length b) refl

pub drop-filled : (n : ℕ) (b : List ℕ) → drop (length b) (filled n b) ≡ blanks (n - length b)
unfolding filled
drop-filled n b = drop_at b (blanks (n - length b)) (length b) refl

blanks_none : blanks 0 ≡ []
unfolding blanks
blanks_none = refl

pub filled_none : filled 0 [] ≡ []
unfolding filled blanks
filled_none = refl

-- what fills it already stays
pub filled_all : (n : ℕ) (b : List ℕ) → length b ≡ n → filled n b ≡ b
unfolding filled
filled_all n b h =
    let z : n - length b ≡ 0 = omega arith in
    rw (z, blanks_none) (append-nil b)

-- filled piece by piece
filled_pieces : (m : ℕ) (b : List ℕ) → filled 256 (take 256 b) ++ filled m (drop 256 b) ≡ filled (256 + m) b
unfolding filled
filled_pieces m b = elim (dec_le (length b) 256) [
  | yes h ↦
      let n : (256 - length b) + (m - 0) ≡ (256 + m) - length b = omega arith in
      rw (take_all 256 b h, drop_of_length-le b h, append_assoc, ← blanks-add, n)
  | no h ↦
      let full : length (take 256 b) ≡ 256 = simp length-take (omega arith) in
      let n : m - (length b - 256) ≡ (256 + m) - length b = omega arith in
      rw (full, blanks_none, append-nil, length-drop 256 b, n, ← append_assoc, take-append-drop)
]

-- sectors inside a volume of t
abbrev pub inside : ℕ → List ℕ → Bool
inside t ss = all (λ s. ltb s t) ss

module _ (t : ℕ) where
  one : (bs : List ℕ) → length (filled 256 (take 256 bs)) ≡ 256
  one bs = length-filled 256 (take 256 bs) (simp length-take (omega arith))

  pub laid-length : (ss bs img : List ℕ) → length img ≡ 256 * t → inside t ss ≡ true → length (laid ss bs img) ≡ length img
  unfolding laid all
  laid-length [] bs img hi hs = refl
  laid-length (s ∷ ss) bs img hi hs =
      let b : List ℕ = filled 256 (take 256 bs) in
      let hi2 : length (put_sector s b img) ≡ 256 * t = long_sector t s b img (one bs) hi (ltb-true s t (and_left _ _ hs)) in
      laid-length ss (drop 256 bs) (put_sector s b img) hi2 (and_right _ _ hs) ∙ hi2 ∙ sym hi

  pub laid_other : (u : ℕ) (ss bs img : List ℕ) → length img ≡ 256 * t → inside t ss ≡ true → among u ss ≡ false → sector u (laid ss bs img) ≡ sector u img
  unfolding laid all among
  laid_other u [] bs img hi hs hu = refl
  laid_other u (s ∷ ss) bs img hi hs hu =
      let b : List ℕ = filled 256 (take 256 bs) in
      let hb : length b ≡ 256 = one bs in
      let st : s < t = ltb-true s t (and_left _ _ hs) in
      let ne : s ≢ u = λ q. eqb-false u s (or_left _ _ hu) (sym q) in
      laid_other u ss (drop 256 bs) (put_sector s b img) (long_sector t s b img hb hi st) (and_right _ _ hs) (or_right _ _ hu)
      ∙ sector_other s b img hb (omega arith) u ne

  pub laid-Keeps : (ss bs img : List ℕ) → length img ≡ 256 * t → inside t ss ≡ true → Keeps ss img (laid ss bs img)
  laid-Keeps ss bs img hi hs = record {
    long = laid-length ss bs img hi hs;
    at = λ u h. laid_other u ss bs img hi hs h;
  }

  pub laid_read : (ss bs img : List ℕ) → length img ≡ 256 * t → inside t ss ≡ true → distinct ss ≡ true → length bs ≤ 256 * length ss
      → laid_out (laid ss bs img) ss ≡ filled (256 * length ss) bs
  unfolding laid_out laid flat all distinct
  laid_read [] [] img hi hs hd hl = sym filled_none
  laid_read [] (b ∷ bs) img hi hs hd hl = absurd (omega arith)
  laid_read (s ∷ ss) bs img hi hs hd hl =
      let b : List ℕ = filled 256 (take 256 bs) in
      let hb : length b ≡ 256 = one bs in
      let st : s < t = ltb-true s t (and_left _ _ hs) in
      let hss : inside t ss ≡ true = and_right _ _ hs in
      let hi2 : length (put_sector s b img) ≡ 256 * t = long_sector t s b img hb hi st in
      let here : sector s (laid ss (drop 256 bs) (put_sector s b img)) ≡ b =
      laid_other s ss (drop 256 bs) (put_sector s b img) hi2 hss (not-true _ (and_left _ _ hd)) ∙ sector_same s b img hb (omega arith) in
      let rest : flat (λ u. sector u (laid ss (drop 256 bs) (put_sector s b img))) ss ≡ filled (256 * length ss) (drop 256 bs) =
      laid_read ss (drop 256 bs) (put_sector s b img) hi2 hss (and_right _ _ hd) (simp length-drop (omega arith)) in
      let n : 256 * suc (length ss) ≡ 256 + 256 * length ss = omega arith in
      rw (here, rest, n) (filled_pieces (256 * length ss) bs)
