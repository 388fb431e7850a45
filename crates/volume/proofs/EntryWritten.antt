-- The words of a new entry, written one after the other, make the entry of these fields.
use mathlib.Core.Path.{◌≡◌, ap, ◌∙◌}
use mathlib.Core.List.{List, append-nil, [], ◌∷◌, ◌++◌}
use Prim.Native.Nat.{ℕ, ◌+◌, ◌≤◌, ◌<◌, ◌/◌, ◌%◌}
use native.Mathlib.Omega.{arith}
use lib.ListN.{length, drop_of_length-le, length-append}
use Rattle.lists.specs.Parts.{put, bytes2}
use Rattle.lists.proofs.LentParts.{put_next}
use Rattle.volume.specs.Directory.{entry, fields}

-- a write over the whole
put_whole : (x l : List ℕ) → length x ≡ length l → put 0 x l ≡ x
unfolding put
put_whole x l h = let n : length l ≤ 0 + length x = omega arith in rw (drop_of_length-le l n) (append-nil x)

pub numbers_are : (a b c d e f : List ℕ) (rc l s n : ℕ) → length a ≡ 32 → rc < 256
    → b ≡ put 22 (bytes2 rc) a → c ≡ put 24 (bytes2 l) b → d ≡ put 26 (bytes2 s) c → e ≡ put 28 (bytes2 n) d → f ≡ put 30 (bytes2 0) e
    → f ≡ put 22 (0 ∷ rc ∷ (bytes2 l ++ (bytes2 s ++ (bytes2 n ++ (0 ∷ 0 ∷ []))))) a
numbers_are a b c d e f rc l s n h hc p q r t u =
    let high : rc / 256 ≡ 0 = omega arith in
    let low : rc % 256 ≡ rc = omega arith in
    let code : List ℕ = 0 ∷ rc ∷ [] in
    let w : bytes2 rc ≡ code = rw (high, low) in
    u ∙ rw (t, r, q, p, w)
    (ap (λ (x : List ℕ). put 30 (bytes2 0) (put 28 (bytes2 n) (put 26 (bytes2 s) x))) (put_next 22 code (bytes2 l) a (omega arith))
    ∙ ap (λ (x : List ℕ). put 30 (bytes2 0) (put 28 (bytes2 n) x)) (put_next 22 (code ++ bytes2 l) (bytes2 s) a (omega arith))
    ∙ ap (put 30 (bytes2 0)) (put_next 22 ((code ++ bytes2 l) ++ bytes2 s) (bytes2 n) a (omega arith))
    ∙ put_next 22 (((code ++ bytes2 l) ++ bytes2 s) ++ bytes2 n) (bytes2 0) a (omega arith))

pub fields_are : (a b c f d : List ℕ) (k rc l s n : ℕ) → length a ≡ 32 → length d ≡ 20 → k ≤ 1 → b ≡ put 0 (bytes2 (256 + k)) a → c ≡ put 2 d b
    → f ≡ put 22 (0 ∷ rc ∷ (bytes2 l ++ (bytes2 s ++ (bytes2 n ++ (0 ∷ 0 ∷ []))))) c → f ≡ entry (fields k d rc l s n)
unfolding entry
fields_are a b c f d k rc l s n h hd hk p q r =
    let rest : List ℕ = 0 ∷ rc ∷ (bytes2 l ++ (bytes2 s ++ (bytes2 n ++ (0 ∷ 0 ∷ [])))) in
    let z : (256 + k) / 256 ≡ 1 = omega arith in
    let y : (256 + k) % 256 ≡ k = omega arith in
    let w : bytes2 (256 + k) ≡ 1 ∷ k ∷ [] = rw (z, y) in
    let m : 22 ≡ 0 + length (1 ∷ k ∷ d) = omega arith in
    let cs : c ≡ put 0 (1 ∷ k ∷ d) a = q ∙ rw (p, w) (put_next 0 (1 ∷ k ∷ []) d a (omega arith)) in
    r ∙ rw (cs, m)
    (put_next 0 (1 ∷ k ∷ d) rest a (omega arith) ∙ put_whole (1 ∷ k ∷ (d ++ rest)) a (omega (arith, length-append d rest)))
