-- A part of an image that was lent, read, and came back written; its bytes and words.
use mathlib.Core.Path.{◌≡◌, refl, ap, ◌∙◌, sym}
use mathlib.Core.List.{List, append_assoc, ◌++◌}
use Prim.Native.Nat.{ℕ, ◌+◌, ◌≤◌, ◌<◌, ◌*◌, ◌-◌, ◌/◌, ◌%◌}
use native.Mathlib.Omega.{arith}
use lib.ListN.{length, length-take, length-drop, take, drop, length-append, replicate, length-replicate}
use lib.Seq.{take_all, take_at, drop-append-add, drop-drop, get_or-take, get_or-drop}
use borrow.Rule.Slice.PartMut.{put_mid, mid_len}
use Rattle.lists.specs.Parts.{byte, part, sector, put, put_sector}
use Rattle.lists.proofs.Puts.{put_mid_lem}

-- a part of n bytes has n bytes
pub length-part : (i n : ℕ) (l : List ℕ) → i + n ≤ length l → length (part i n l) ≡ n
unfolding part
length-part i n l h = simp (length-take, length-drop) (omega arith)

pub length-sector : (s : ℕ) (l : List ℕ) → 256 * s + 256 ≤ length l → length (sector s l) ≡ 256
unfolding sector
length-sector s l h = length-part (256 * s) 256 l h

-- what the checker says of a part from a to e that was lent, and came back as b
pub lent : (a e n : ℕ) (l : List ℕ) → e ≡ a + n → take (e - a) (drop a l) ≡ part a n l
unfolding part
lent a e n l q = let z : e - a ≡ n = omega arith in rw z

pub lent_rest : (a : ℕ) (l : List ℕ) → take (length l - a) (drop a l) ≡ drop a l
lent_rest a l = take_all (length l - a) (drop a l) (simp length-drop (omega arith))

pub lent_sector : (s : ℕ) (l : List ℕ) → take (256 * s + 256 - 256 * s) (drop (256 * s) l) ≡ sector s l
unfolding sector
lent_sector s l = lent (256 * s) (256 * s + 256) 256 l refl

pub wrote : (a e : ℕ) (l b c : List ℕ) → a ≤ e → b ≡ c → length c ≡ e - a → put_mid a (e - a) l b ≡ put a c l
wrote a e l b c h q n = rw q (put_mid_lem a e l c h n)

-- the same, where each of its bytes came back as v
pub wrote_fill : (a e v : ℕ) (l b : List ℕ) → a ≤ e → e ≤ length l → b ≡ replicate (length (take (e - a) (drop a l))) v
    → put_mid a (e - a) l b ≡ put a (replicate (e - a) v) l
wrote_fill a e v l b h g q = wrote a e l b (replicate (e - a) v) h (q ∙ ap (λ (n : ℕ). replicate n v) (mid_len a e l g)) (length-replicate (e - a) v)

pub wrote_sector : (s : ℕ) (l b c : List ℕ) → b ≡ c → length c ≡ 256 → put_mid (256 * s) (256 * s + 256 - 256 * s) l b ≡ put_sector s c l
unfolding put_sector
wrote_sector s l b c q n = wrote (256 * s) (256 * s + 256) l b c (omega arith) q (omega arith)

-- a sector, where the callee's contract says what it makes of the part
pub wrote_by : (f : List ℕ → List ℕ) (s : ℕ) (l b : List ℕ) → b ≡ f (take (256 * s + 256 - 256 * s) (drop (256 * s) l)) → length (f (sector s l)) ≡ 256
    → put_mid (256 * s) (256 * s + 256 - 256 * s) l b ≡ put_sector s (f (sector s l)) l
wrote_by f s l b q n = wrote_sector s l b (f (sector s l)) (q ∙ ap f (lent_sector s l)) n

-- two writes side by side
pub put_next : (i : ℕ) (x y l : List ℕ) → i + (length x + length y) ≤ length l → put (i + length x) y (put i x l) ≡ put i (x ++ y) l
unfolding put
put_next i x y l h =
    let p : List ℕ = take i l ++ x in
    let d : List ℕ = drop (i + length x) l in
    let n : length p ≡ i + length x = simp (length-append, length-take) (omega arith) in
    let m : i + length x + length y ≡ length p + length y = omega arith in
    let k : i + length x + length y ≡ i + length (x ++ y) = simp length-append (omega arith) in
    let a : take i l ++ (x ++ d) ≡ p ++ d = sym (append_assoc (take i l) x d) in
    let t : take (i + length x) (p ++ d) ≡ p = take_at p d (i + length x) n in
    let e : drop (i + length x + length y) (p ++ d) ≡ drop (i + length (x ++ y)) l =
    ap (λ (j : ℕ). drop j (p ++ d)) m ∙ drop-append-add p d (length y) ∙ drop-drop (length y) (i + length x) l ∙ ap (λ (j : ℕ). drop j l) k in
    rw (a, t, e) (append_assoc (take i l) x (y ++ drop (i + length (x ++ y)) l) ∙ ap (λ (z : List ℕ). take i l ++ z) (sym (append_assoc x y (drop (i + length (x ++ y)) l))))

-- a byte of a part, and a word of its two bytes
pub byte-part : (i n : ℕ) (l : List ℕ) (j : ℕ) → j < n → byte (part i n l) j ≡ byte l (i + j)
unfolding part
byte-part i n l j h = get_or-take n (drop i l) j 0 h ∙ get_or-drop i l j 0

pub word_back : (w : ℕ) → 256 * (w / 256) + w % 256 ≡ w
word_back w = omega arith
