-- Writes of different sectors in any order; bytes laid over what was changed only where they lie.
use mathlib.Core.Path.{◌≡◌, refl, ap, sym, ◌∙◌}
use mathlib.Core.Logic.{◌≢◌}
use mathlib.Core.Bool.{true, false}
use mathlib.Core.List.{List, [], ◌∷◌, ◌++◌, append_assoc}
use Prim.Native.Nat.{ℕ, ◌*◌, ◌≤◌, ◌<◌, ◌+◌, ◌-◌}
use native.Mathlib.Decide.{ℕ_discrete}
use native.Mathlib.Omega.{arith}
use lib.ListN.{length, take, drop, length-take}
use lib.Seq.{take_at, drop_at, drop-append-add}
use borrow.Author.Tests.{ltb-true, eqb-false, eq-eqb}
use Rattle.lists.specs.Parts.{sector, put_sector, filled, put, blanks}
use Rattle.lists.specs.Lists.{all, among, distinct, flat}
use Rattle.lists.proofs.Tests.{and_left, and_right, or_left, or_right, or_first, or_second}
use Rattle.lists.proofs.Puts.{sector_same, sector_other, length-blanks, long_sector}
use Rattle.lists.proofs.Blanks.{length-filled, blanks-add}
use Rattle.lists.proofs.Keeps.{Keeps}
use Rattle.records.specs.Streams.{laid, laid_out}
use Rattle.records.proofs.LaidStream.{inside, laid-length, laid_other, laid_read}
use Rattle.records.proofs.ImageBySectors.{ext_sectors, laid_is, laid-filled}

module _ (t : ℕ) where
  module _ (img : List ℕ) (hi : length img ≡ 256 * t) (s u : ℕ) (a b : List ℕ) (hs : s < t) (hu : u < t) (ha : length a ≡ 256) (hb : length b ≡ 256) (ne : s ≢ u) where
    ls : length (put_sector s a img) ≡ 256 * t
    ls = long_sector t s a img ha hi hs

    lu : length (put_sector u b img) ≡ 256 * t
    lu = long_sector t u b img hb hi hu

    pub sectors_swap : put_sector s a (put_sector u b img) ≡ put_sector u b (put_sector s a img)
    sectors_swap =
        ext_sectors t (put_sector s a (put_sector u b img)) (put_sector u b (put_sector s a img)) (long_sector t s a (put_sector u b img) ha lu hs)
        (long_sector t u b (put_sector s a img) hb ls hu)
        (λ w h. elim (ℕ_discrete s w) [
          | yes q ↦
              rw (← q)
              (sector_same s a (put_sector u b img) ha (omega (arith, lu))
              ∙ sym (sector_other u b (put_sector s a img) hb (omega (arith, ls)) s (λ z. ne (sym z)) ∙ sector_same s a img ha (omega arith)))
          | no n ↦ sector_other s a (put_sector u b img) ha (omega (arith, lu)) w n ∙ rest w n
        ])
      where
        rest : (w : ℕ) → s ≢ w → sector w (put_sector u b img) ≡ sector w (put_sector u b (put_sector s a img))
        rest w n = elim (ℕ_discrete u w) [
          | yes q ↦ rw (← q) (sector_same u b img hb (omega arith) ∙ sym (sector_same u b (put_sector s a img) hb (omega (arith, ls))))
          | no m ↦ sector_other u b img hb (omega arith) w m ∙ sym (sector_other u b (put_sector s a img) hb (omega (arith, ls)) w m ∙ sector_other s a img ha (omega arith) w n)
        ]

  -- a sector that is none of those laid over
  pub laid_swap : (ss bs img : List ℕ) (s : ℕ) (a : List ℕ) → length img ≡ 256 * t → inside t ss ≡ true → s < t → length a ≡ 256 → among s ss ≡ false
      → laid ss bs (put_sector s a img) ≡ put_sector s a (laid ss bs img)
  unfolding laid all among
  laid_swap [] bs img s a hi hs h ha out = refl
  laid_swap (u ∷ ss) bs img s a hi hs h ha out =
      let b : List ℕ = filled 256 (take 256 bs) in
      let hb : length b ≡ 256 = length-filled 256 (take 256 bs) (omega (arith, length-take 256 bs)) in
      let hu : u < t = ltb-true u t (and_left _ _ hs) in
      let ne : u ≢ s = λ q. eqb-false s u (or_left _ _ out) (sym q) in
      ap (laid ss (drop 256 bs)) (sectors_swap img hi u s b a hu h hb ha ne)
      ∙ laid_swap ss (drop 256 bs) (put_sector u b img) s a (long_sector t u b img hb hi hu) (and_right _ _ hs) h ha (or_right _ _ out)

  -- what was there is laid over
  module _ (ss img : List ℕ) (hi : length img ≡ 256 * t) (hs : inside t ss ≡ true) (hd : distinct ss ≡ true) where
    pub laid_over : (w bs : List ℕ) → Keeps ss img w → length bs ≤ 256 * length ss → laid ss bs w ≡ laid ss bs img
    laid_over w bs k h =
        let hw : length w ≡ 256 * t = k.long ∙ hi in
        laid_is t ss img hi hs hd (laid ss bs w) (filled (256 * length ss) bs)
        (record { long = laid-length t ss bs w hw hs ∙ k.long; at = λ u q. laid_other t u ss bs w hw hs q ∙ k.at u q })
        (laid_read t ss bs w hw hs hd h)
        ∙ sym (laid-filled t ss img hi hs hd bs h)

-- bytes written over the first of the zeros that follow a stream
pub put_after : (s x : List ℕ) (m e : ℕ) → length s ≡ e → length x ≤ m → put e x (s ++ blanks m) ≡ (s ++ x) ++ blanks (m - length x)
unfolding put
put_after s x m e h f =
    let z : length x + (m - length x) ≡ m = omega arith in
    let b : blanks m ≡ blanks (length x) ++ blanks (m - length x) = ap blanks (sym z) ∙ blanks-add (length x) (m - length x) in
    rw (take_at s (blanks m) e h, ← h, drop-append-add s (blanks m) (length x), b)
    (rw (drop_at (blanks (length x)) (blanks (m - length x)) (length x) (length-blanks (length x))) (sym (append_assoc s x (blanks (m - length x)))))

pub laid_out-append : (v ss rs : List ℕ) → laid_out v (ss ++ rs) ≡ laid_out v ss ++ laid_out v rs
unfolding laid_out flat
laid_out-append v [] rs = refl
laid_out-append v (s ∷ ss) rs = rw (laid_out-append v ss rs) (sym (append_assoc (sector s v) (laid_out v ss) (laid_out v rs)))

-- images that agree on each of some sectors read the same over them
pub laid_out_agree : (ss a b : List ℕ) → ((u : ℕ) → among u ss ≡ true → sector u a ≡ sector u b) → laid_out a ss ≡ laid_out b ss
unfolding laid_out flat among
laid_out_agree [] a b h = refl
laid_out_agree (s ∷ ss) a b h = rw (h s (or_first _ _ (eq-eqb s s refl)), laid_out_agree ss a b (λ u m. h u (or_second _ _ m)))
