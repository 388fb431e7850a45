-- An image is its sectors: one that keeps all but some sectors, and reads as bytes there, is those bytes laid over them.
use mathlib.Core.Path.{◌≡◌, ap, sym, ◌∙◌, refl}
use mathlib.Core.List.{List, [], ◌∷◌}
use mathlib.Core.Bool.{Bool, true, false}
use Prim.Native.Nat.{ℕ, ◌+◌, ◌*◌, ◌/◌, ◌%◌, ◌<◌, ◌≤◌}
use native.Mathlib.Omega.{arith}
use lib.ListN.{length, take, drop}
use lib.Seq.{ext_get_or, take_at, drop_at}
use lib.Dec.{eqb}
use borrow.Author.Tests.{eqb-true, ltb-true}
use Rattle.lists.specs.Parts.{byte, sector, filled}
use Rattle.lists.specs.Lists.{flat, all, among, distinct}
use Rattle.lists.proofs.Tests.{and_left, and_right, or_cases}
use Rattle.lists.proofs.LentParts.{length-sector}
use Rattle.lists.proofs.Keeps.{Keeps}
use Rattle.records.specs.Streams.{laid_out, laid}
use Rattle.records.proofs.StreamBytes.{byte-sector}
use Rattle.records.proofs.LaidStream.{inside, laid-length, laid_other, laid_read, filled_all}
use Rattle.records.proofs.LaidLength.{length-laid_out}

byte_of : (a : List ℕ) (i : ℕ) → byte a i ≡ byte (sector (i / 256) a) (i % 256)
byte_of a i =
    let e : 256 * (i / 256) + i % 256 ≡ i = omega arith in
    sym (byte-sector (i / 256) (i % 256) a (omega arith) ∙ ap (byte a) e)

-- two images of t sectors with the same sectors are one
pub ext_sectors : (t : ℕ) (a b : List ℕ) → length a ≡ 256 * t → length b ≡ 256 * t → ((u : ℕ) → u < t → sector u a ≡ sector u b) → a ≡ b
ext_sectors t a b ha hb h =
    ext_get_or 0 a b (ha ∙ sym hb) (λ i l.
    byte_of a i ∙ ap (λ (s : List ℕ). byte s (i % 256)) (h (i / 256) (omega arith)) ∙ sym (byte_of b i))

module _ (t : ℕ) where
  -- images that read the same over some sectors agree on each of them
  pub agree_at : (ss a b : List ℕ) → length a ≡ 256 * t → length b ≡ 256 * t → inside t ss ≡ true → laid_out a ss ≡ laid_out b ss
      → (u : ℕ) → among u ss ≡ true → sector u a ≡ sector u b
  unfolding laid_out flat all among
  agree_at [] a b ha hb hs e u m = absurd (let z : ◌≡◌ {A = ℕ} 0 1 = cc in omega arith)
  agree_at (s ∷ ss) a b ha hb hs e u m = by (eqb u s) refl (agree_at ss a b ha hb (and_right _ _ hs) rest u)
    where
      st : s < t
      st = ltb-true s t (and_left _ _ hs)

      la : length (sector s a) ≡ 256
      la = length-sector s a (omega (arith, st))

      lb : length (sector s b) ≡ 256
      lb = length-sector s b (omega (arith, st))

      rest : flat (λ s. sector s a) ss ≡ flat (λ s. sector s b) ss
      rest = sym (drop_at (sector s a) (flat (λ s. sector s a) ss) 256 la) ∙ ap (drop 256) e ∙ drop_at (sector s b) (flat (λ s. sector s b) ss) 256 lb

      here : sector s a ≡ sector s b
      here = sym (take_at (sector s a) (flat (λ s. sector s a) ss) 256 la) ∙ ap (take 256) e ∙ take_at (sector s b) (flat (λ s. sector s b) ss) 256 lb

      by : (c : Bool) → eqb u s ≡ c → (among u ss ≡ true → sector u a ≡ sector u b) → sector u a ≡ sector u b
      by true q f = rw (eqb-true u s q) here
      by false q f = f (or_cases _ _ m q)

  module _ (ss img : List ℕ) (hi : length img ≡ 256 * t) (hs : inside t ss ≡ true) (hd : distinct ss ≡ true) where
    pub laid_is : (x bs : List ℕ) → Keeps ss img x → laid_out x ss ≡ bs → x ≡ laid ss bs img
    laid_is x bs k e =
        let hx : length x ≡ 256 * t = k.long ∙ hi in
        let n : length bs ≡ 256 * length ss = ap length (sym e) ∙ length-laid_out t x ss hx hs in
        let hl : length (laid ss bs img) ≡ 256 * t = laid-length t ss bs img hi hs ∙ hi in
        let read : laid_out (laid ss bs img) ss ≡ bs = laid_read t ss bs img hi hs hd (omega arith) ∙ filled_all (256 * length ss) bs n in
        ext_sectors t x (laid ss bs img) hx hl (λ u h. by x bs k hx hl (e ∙ sym read) u (among u ss) refl)
      where
        by : (x bs : List ℕ) → Keeps ss img x → length x ≡ 256 * t → length (laid ss bs img) ≡ 256 * t → laid_out x ss ≡ laid_out (laid ss bs img) ss
            → (u : ℕ) (c : Bool) → among u ss ≡ c → sector u x ≡ sector u (laid ss bs img)
        by x bs k hx hl e u true q = agree_at ss x (laid ss bs img) hx hl hs e u q
        by x bs k hx hl e u false q = k.at u q ∙ sym (laid_other t u ss bs img hi hs q)

    -- bytes laid, and the zeros that fill the last sector laid with them
    pub laid-filled : (bs : List ℕ) → length bs ≤ 256 * length ss → laid ss bs img ≡ laid ss (filled (256 * length ss) bs) img
    laid-filled bs h =
        laid_is (laid ss bs img) (filled (256 * length ss) bs)
        (record { long = laid-length t ss bs img hi hs; at = λ u q. laid_other t u ss bs img hi hs q }) (laid_read t ss bs img hi hs hd h)
