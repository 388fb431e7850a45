-- Bytes written into a stream through its sectors: a chunk in one sector is a chunk of the stream, and an image that differs from
-- another in some sectors alone is the other with their bytes laid over it.
use mathlib.Core.Path.{◌≡◌, ap, sym, ◌∙◌, refl}
use mathlib.Core.List.{List, ◌++◌, append_assoc, ◌∷◌, []}
use mathlib.Core.Bool.{true, false, true≢false}
use mathlib.Core.Logic.{◌≢◌}
use Prim.Native.Nat.{ℕ, ◌+◌, ◌≤◌, ◌*◌, ◌/◌, ◌%◌, ◌<◌, suc, zero}
use native.Mathlib.Omega.{arith}
use native.Mathlib.Nat.{not-suc-le-zero}
use native.Mathlib.Decide.{ℕ_discrete}
use lib.ListN.{length, take, drop, get_or, length-drop}
use lib.Seq.{take-append-le, drop-append-le, take-append-add, drop-append-add, ext_get_or, take_at, drop_at, take-add, take_all, length-take-le}
use borrow.Author.Tests.{eq-eqb, eqb-false, not-true, ne_eqb}
use Rattle.lists.specs.Parts.{put, byte, sector, put_sector}
use Rattle.lists.specs.Lists.{among, flat, distinct}
use Rattle.lists.proofs.Tests.{or_first, or_second, or_left, or_right, and_left, and_right, not_both}
use Rattle.lists.proofs.Puts.{put_none, length-put, sector_same, sector_other}
use Rattle.lists.proofs.LentParts.{length-sector, put_next}
use Rattle.lists.proofs.Keeps.{Keeps}
use Rattle.records.specs.Streams.{laid_out, laid}
use Rattle.records.specs.Code.Mapped.{Mapped}
use Rattle.records.proofs.StreamBytes.{byte-sector, length-laid_out}
use Rattle.records.proofs.LaidStream.{filled_all}

-- a write in the first of two lists, or in the second
pub put_front : (r : ℕ) (c a b : List ℕ) → r + length c ≤ length a → put r c (a ++ b) ≡ put r c a ++ b
unfolding put
put_front r c a b h =
    let hr : r ≤ length a = omega arith in
    let hc : r + length c ≤ length a = h in
    rw (take-append-le r a b, drop-append-le (r + length c) a b) (simp append_assoc)

pub put_behind : (x : ℕ) (c a b : List ℕ) → put (length a + x) c (a ++ b) ≡ a ++ put x c b
unfolding put
put_behind x c a b =
    let z : length a + x + length c ≡ length a + (x + length c) = omega arith in
    rw (z, take-append-add a b x, drop-append-add a b (x + length c)) (append_assoc a (take x b) (c ++ drop (x + length c) b))

-- images that agree in every sector
pub same_image : (a b : List ℕ) → length a ≡ length b → ((u : ℕ) → sector u a ≡ sector u b) → a ≡ b
same_image a b n h =
    ext_get_or 0 a b n (λ i l.
    let e : i ≡ 256 * (i / 256) + i % 256 = omega arith in
    ap (byte a) e
    ∙ sym (byte-sector (i / 256) (i % 256) a (omega arith))
    ∙ ap (λ (x : List ℕ). byte x (i % 256)) (h (i / 256))
    ∙ byte-sector (i / 256) (i % 256) b (omega arith)
    ∙ ap (byte b) (sym e))

-- every sector of the list lies in an image of n bytes
abbrev pub Within : ℕ → List ℕ → Type 0
Within n ss = (k : ℕ) → k < length ss → 256 * get_or ss k 0 + 256 ≤ n

Within-tail : (n s : ℕ) (ss : List ℕ) → Within n (s ∷ ss) → Within n ss
Within-tail n s ss w k h = w (suc k) (omega arith)

pub member : (ss : List ℕ) (k : ℕ) → k < length ss → among (get_or ss k 0) ss ≡ true
unfolding among
member [] k h = absurd (not-suc-le-zero h)
member (s ∷ ss) zero h = or_first _ _ (eq-eqb s s refl)
member (s ∷ ss) (suc k) h = or_second _ _ (member ss k (omega arith))

-- not a member, not the same
pub not_member : (ss : List ℕ) (k u : ℕ) → k < length ss → among u ss ≡ false → get_or ss k 0 ≢ u
not_member ss k u h n q = true≢false (sym (member ss k h) ∙ ap (λ (x : ℕ). among x ss) q ∙ n)

-- a chunk c written at r of sector s
abbrev pub chunked : ℕ → ℕ → List ℕ → List ℕ → List ℕ
chunked s r c img = put_sector s (put r c (sector s img)) img

module _ (s r : ℕ) (c img : List ℕ) (inside : 256 * s + 256 ≤ length img) (fits : r + length c ≤ 256) where
  one : length (put r c (sector s img)) ≡ 256
  one =
      let n : length (sector s img) ≡ 256 = length-sector s img inside in
      length-put r c (sector s img) (omega arith) ∙ n

  pub chunked-length : length (chunked s r c img) ≡ length img
  unfolding put_sector
  chunked-length = length-put (256 * s) (put r c (sector s img)) img (omega (arith, one))

  pub chunked_same : sector s (chunked s r c img) ≡ put r c (sector s img)
  chunked_same = sector_same s (put r c (sector s img)) img one inside

  pub chunked_other : (u : ℕ) → s ≢ u → sector u (chunked s r c img) ≡ sector u img
  chunked_other u ne = sector_other s (put r c (sector s img)) img one inside u ne

  pub chunked-Keeps : (ss : List ℕ) (j : ℕ) → j < length ss → get_or ss j 0 ≡ s → Keeps ss img (chunked s r c img)
  chunked-Keeps ss j h e = record {
    long = chunked-length;
    at = λ u n. chunked_other u (λ q. not_member ss j u h n (e ∙ q));
  }

  -- sectors that are not s read as before
  pub chunked_rest : (ss : List ℕ) → among s ss ≡ false → laid_out (chunked s r c img) ss ≡ laid_out img ss
  unfolding laid_out flat among
  chunked_rest [] n = refl
  chunked_rest (x ∷ ss) n = rw (chunked_other x (λ q. eqb-false s x (or_left _ _ n) q), chunked_rest ss (or_right _ _ n))

-- and it is a chunk of the stream
pub chunked_stream : (ss : List ℕ) (j r : ℕ) (c img : List ℕ) → Within (length img) ss → distinct ss ≡ true → j < length ss → r + length c ≤ 256
    → laid_out (chunked (get_or ss j 0) r c img) ss ≡ put (256 * j + r) c (laid_out img ss)
unfolding distinct laid_out flat
chunked_stream [] j r c img w d h f = absurd (not-suc-le-zero h)
chunked_stream (s ∷ ss) zero r c img w d h f =
    let n : length (sector s img) ≡ 256 = length-sector s img (w 0 h) in
    let z : 256 * 0 + r ≡ r = omega arith in
    let rest : laid_out (chunked s r c img) ss ≡ laid_out img ss = chunked_rest s r c img (w 0 h) f ss (not-true _ (and_left _ _ d)) in
    rw (chunked_same s r c img (w 0 h) f, z, put_front r c (sector s img) (laid_out img ss) (omega arith)) (ap (λ (l : List ℕ). put r c (sector s img) ++ l) rest)
chunked_stream (s ∷ ss) (suc j) r c img w d h f =
    let l : j < length ss = omega arith in
    let t : ℕ = get_or ss j 0 in
    let n : length (sector s img) ≡ 256 = length-sector s img (w 0 (omega arith)) in
    let z : 256 * suc j + r ≡ length (sector s img) + (256 * j + r) = omega arith in
    let ne : t ≢ s = not_member ss j s l (not-true _ (and_left _ _ d)) in
    let rest : laid_out (chunked t r c img) ss ≡ put (256 * j + r) c (laid_out img ss) = chunked_stream ss j r c img (Within-tail (length img) s ss w) (and_right _ _ d) l f in
    rw (chunked_other t r c img (w (suc j) h) f s ne, z, put_behind (256 * j + r) c (sector s img) (laid_out img ss)) (ap (λ (x : List ℕ). sector s img ++ x) rest)

-- what differs in some sectors alone
put_Keeps : (s : ℕ) (ss a b : List ℕ) → 256 * s + 256 ≤ length a → Keeps (s ∷ ss) a b → Keeps ss (put_sector s (sector s b) a) b
unfolding among
put_Keeps s ss a b w k =
    let n : length (sector s b) ≡ 256 = length-sector s b (omega (arith, k.long)) in
    record {
      long = k.long ∙ sym (put-length s (sector s b) a n w);
      at = λ u e. at u e (ℕ_discrete s u) n;
    }
  where
    put-length : (s : ℕ) (c a : List ℕ) → length c ≡ 256 → 256 * s + 256 ≤ length a → length (put_sector s c a) ≡ length a
    put-length s c a n w = unfold put_sector in (length-put (256 * s) c a (omega arith))

    at : (u : ℕ) → among u ss ≡ false → Dec (s ≡ u) → length (sector s b) ≡ 256 → sector u b ≡ sector u (put_sector s (sector s b) a)
    at u e (yes q) n = rw (← q) (sym (sector_same s (sector s b) a n w))
    at u e (no ne) n = k.at u (not_both _ _ (ne_eqb u s (λ q. ne (sym q))) e) ∙ sym (sector_other s (sector s b) a n w u ne)

pub relaid : (ss a b : List ℕ) → Within (length a) ss → Keeps ss a b → b ≡ laid ss (laid_out b ss) a
unfolding laid laid_out flat among
relaid [] a b w k = same_image b a k.long (λ u. k.at u refl)
relaid (s ∷ ss) a b w k =
    let h : 256 * s + 256 ≤ length a = w 0 (omega arith) in
    let n : length (sector s b) ≡ 256 = length-sector s b (omega (arith, k.long)) in
    let a2 : List ℕ = put_sector s (sector s b) a in
    let k2 : Keeps ss a2 b = put_Keeps s ss a b h k in
    let r : b ≡ laid ss (laid_out b ss) a2 = relaid ss a2 b (λ j g. omega (arith, w (suc j) (omega arith), k2.long, k.long)) k2 in
    r ∙ sym (rw (take_at (sector s b) (laid_out b ss) 256 n, drop_at (sector s b) (laid_out b ss) 256 n, filled_all 256 (sector s b) n))

-- the first i bytes of src written to the stream of a from `from` on, which makes b
pub record Wrote (ss : List ℕ) (from : ℕ) (src a b : List ℕ) (i : ℕ) : Type 0 where
  pub keeps : Keeps ss a b
  pub reads : laid_out b ss ≡ put from (take i src) (laid_out a ss)

pub Wrote-none : (ss : List ℕ) (from : ℕ) (src a : List ℕ) → Wrote ss from src a a 0
Wrote-none ss from src a = record { keeps = record { long = refl; at = λ u h. refl }; reads = sym (put_none from (laid_out a ss)) }

module _ (ss : List ℕ) (from : ℕ) (src a b : List ℕ) (i : ℕ) (m : Mapped a ss) (d : distinct ss ≡ true) (fits : from + length src ≤ 256 * length ss)
    (w : Wrote ss from src a b i) where
  abbrev q : ℕ
  q = from + i

  -- one chunk more
  module _ (n : ℕ) (more : i + n ≤ length src) (some : i < length src) (within : q % 256 + n ≤ 256) where
    c : List ℕ
    c = take n (drop i src)

    long_c : length c ≡ n
    unfolding c
    long_c = length-take-le n (drop i src) (simp length-drop (omega arith))

    s : ℕ
    s = get_or ss (q / 256) 0

    place : q / 256 < length ss
    place = omega arith

    inside_b : Within (length b) ss
    inside_b k h = omega (arith, m.inside k h, w.keeps.long)

    pub turn_asks : (256 * get_or ss (q / 256) 0 + 256 ≤ length b) × (q % 256 + length (take n (drop i src)) ≤ 256)
    unfolding c
    turn_asks = (inside_b (q / 256) place, omega (arith, long_c))

    joined : put q c (put from (take i src) (laid_out a ss)) ≡ put from (take (i + n) src) (laid_out a ss)
    unfolding c
    joined =
        let t : length (take i src) ≡ i = length-take-le i src (omega arith) in
        let l : length (laid_out a ss) ≡ 256 * length ss = length-laid_out a ss m in
        let z : q ≡ from + length (take i src) = omega arith in
        rw (z, put_next from (take i src) c (laid_out a ss) (omega (arith, long_c)), take-add i n src)

    pub Wrote-more : Wrote ss from src a (chunked (get_or ss (q / 256) 0) (q % 256) (take n (drop i src)) b) (i + n)
    unfolding c s
    Wrote-more =
        let h : q % 256 + length c ≤ 256 = turn_asks.1 in
        let k : Keeps ss b (chunked s (q % 256) c b) = chunked-Keeps s (q % 256) c b turn_asks.0 h ss (q / 256) place refl in
        let e : 256 * (q / 256) + q % 256 ≡ q = omega arith in
        record {
          keeps = record { long = k.long ∙ w.keeps.long; at = λ u o. k.at u o ∙ w.keeps.at u o };
          reads =
              chunked_stream ss (q / 256) (q % 256) c b inside_b d place h ∙ rw (e, w.reads) joined;
        }

  pub wrote_all : length src ≤ i → b ≡ laid ss (put from src (laid_out a ss)) a
  wrote_all h = relaid ss a b m.inside w.keeps ∙ rw (w.reads, take_all i src h)
