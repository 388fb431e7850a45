-- Writes to one stream, one after the other.
use mathlib.Core.Path.{◌≡◌, refl, ◌∙◌, ap}
use mathlib.Core.Bool.{true}
use mathlib.Core.List.{List, [], ◌∷◌, ◌++◌, append_assoc}
use Prim.Native.Nat.{ℕ, suc, ◌<◌, ◌*◌, ◌+◌, ◌≤◌, ◌%◌}
use native.Mathlib.Omega.{arith}
use lib.ListN.{length, get_or, length-append}
use borrow.Author.Tests.{lt-ltb, ne_eqb}
use Rattle.lists.specs.Lists.{all}
use Rattle.lists.specs.Parts.{sectors, put, bytes2, blanks}
use Rattle.lists.proofs.Tests.{both_true}
use Rattle.lists.proofs.Keeps.{Keeps}
use Rattle.lists.proofs.Puts.{length-put, length-blanks}
use Rattle.lists.proofs.LentParts.{put_next}
use Rattle.records.specs.Streams.{laid_out, laid}
use Rattle.records.specs.Code.Mapped.{Spread}
use Rattle.records.specs.Records.{encoded}
use Rattle.records.proofs.LaidStream.{inside, laid-length, laid_other, laid_read, filled_all}
use Rattle.records.proofs.ImageBySectors.{laid_is}
use Rattle.records.proofs.StreamBytes.{length-laid_out}
use Rattle.records.proofs.RecordReplaced.{length_variable}

inside_by : (t : ℕ) (ss : List ℕ) → ((k : ℕ) → k < length ss → get_or ss k 0 < t) → inside t ss ≡ true
unfolding all
inside_by t [] h = refl
inside_by t (s ∷ ss) h = both_true _ _ (lt-ltb s t (h 0 (omega arith))) (inside_by t ss (λ k l. h (suc k) (omega arith)))

module _ (img ss : List ℕ) (sp : Spread img ss) where
  pub spread_inside : inside (sectors img) ss ≡ true
  spread_inside = inside_by (sectors img) ss (λ k h. omega (arith, sp.mapped.inside k h, sp.whole))

  long_laid : (bs : List ℕ) → length (laid ss bs img) ≡ length img
  long_laid bs = laid-length (sectors img) ss bs img sp.whole spread_inside

  Keeps-laid : (bs : List ℕ) → Keeps ss img (laid ss bs img)
  Keeps-laid bs = record { long = long_laid bs; at = λ u h. laid_other (sectors img) u ss bs img sp.whole spread_inside h }

  -- an image with bytes laid over the sectors serves as the image did
  pub Spread-long : (x : List ℕ) → length x ≡ length img → Spread x ss
  unfolding sectors
  Spread-long x e = record {
    mapped = record { inside = λ k h. rw e (sp.mapped.inside k h); few = sp.mapped.few };
    once = sp.once;
    whole = rw e sp.whole;
  }

  pub Spread-laid : (bs : List ℕ) → Spread (laid ss bs img) ss
  Spread-laid bs = Spread-long (laid ss bs img) (long_laid bs)

  pub laid_out-laid : (bs : List ℕ) → length bs ≡ 256 * length ss → laid_out (laid ss bs img) ss ≡ bs
  laid_out-laid bs h = laid_read (sectors img) ss bs img sp.whole spread_inside sp.once (omega arith) ∙ filled_all (256 * length ss) bs h

-- bytes laid over bytes laid
pub laid-laid : (img ss : List ℕ) → Spread img ss → (os bs : List ℕ) → length bs ≡ 256 * length ss → laid ss bs (laid ss os img) ≡ laid ss bs img
laid-laid img ss sp os bs h =
    let y : List ℕ = laid ss os img in
    let k : Keeps ss img (laid ss bs y) = record {
      long = (Keeps-laid y ss (Spread-laid img ss sp os) bs).long ∙ (Keeps-laid img ss sp os).long;
      at = λ u q. (Keeps-laid y ss (Spread-laid img ss sp os) bs).at u q ∙ (Keeps-laid img ss sp os).at u q;
    } in
    laid_is (sectors img) ss img sp.whole (spread_inside img ss sp) sp.once (laid ss bs y) bs k (laid_out-laid y ss (Spread-laid img ss sp os) bs h)

-- a write, and one that goes on where it ended, are one write
pub write_on : (img ss x y : List ℕ) (p q : ℕ) (a b : List ℕ) → Spread img ss → q ≡ p + length a → p + (length a + length b) ≤ 256 * length ss
    → x ≡ laid ss (put p a (laid_out img ss)) img → y ≡ laid ss (put q b (laid_out x ss)) x → y ≡ laid ss (put p (a ++ b) (laid_out img ss)) img
write_on img ss x y p q a b sp eq fits ex ey =
    let d : List ℕ = laid_out img ss in
    let n : length d ≡ 256 * length ss = length-laid_out img ss sp.mapped in
    let la : length (put p a d) ≡ 256 * length ss = length-put p a d (omega arith) ∙ n in
    let r : laid_out x ss ≡ put p a d = ap (λ (l : List ℕ). laid_out l ss) ex ∙ laid_out-laid img ss sp (put p a d) la in
    let w : put q b (laid_out x ss) ≡ put p (a ++ b) d = rw (r, eq) (put_next p a b d (omega arith)) in
    let lw : length (put p (a ++ b) d) ≡ 256 * length ss = length-put p (a ++ b) d (omega (arith, length-append a b)) ∙ n in
    ey ∙ rw (w, ex) (laid-laid img ss sp (put p a d) (put p (a ++ b) d) lw)

-- a fixed record is its data
pub encoded_fixed : (l : ℕ) (r : List ℕ) → (l ≡ 0 → ⊥) → encoded l r ≡ r
unfolding encoded
encoded_fixed l r n = rw (ne_eqb l 0 n)

-- a variable record: head, data and pad
pub variable_written : (img ss x y z : List ℕ) (p n : ℕ) (h r b : List ℕ) → Spread img ss → n ≡ length r → p + length (encoded 0 r) ≤ 256 * length ss → h ≡ bytes2 n
    → b ≡ blanks (n % 2)
    → x ≡ laid ss (put p h (laid_out img ss)) img → y ≡ laid ss (put (p + 2) r (laid_out x ss)) x → z ≡ laid ss (put (p + 2 + n) b (laid_out y ss)) y
    → z ≡ laid ss (put p (encoded 0 r) (laid_out img ss)) img
unfolding encoded
variable_written img ss x y z p n h r b sp en fits eh eb ex ey ez =
    let l = length_variable r in
    let m : length (blanks (n % 2)) ≡ n % 2 = length-blanks (n % 2) in
    let nm : n % 2 ≡ length r % 2 = ap (λ (k : ℕ). k % 2) en in
    let x2 : x ≡ laid ss (put p (bytes2 n) (laid_out img ss)) img = rw eh at ex in
    let y2 : y ≡ laid ss (put p (bytes2 n ++ r) (laid_out img ss)) img = write_on img ss x y p (p + 2) (bytes2 n) r sp refl (omega arith) x2 ey in
    let z2 : z ≡ laid ss (put p ((bytes2 n ++ r) ++ b) (laid_out img ss)) img = write_on img ss y z p (p + 2 + n) (bytes2 n ++ r) b sp
    (omega (arith, length-append (bytes2 n) r)) (rw eb (omega (arith, length-append (bytes2 n) r))) y2 ez in
    z2 ∙ rw (append_assoc (bytes2 n) r b, eb, en)
