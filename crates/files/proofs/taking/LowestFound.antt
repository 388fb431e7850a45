-- The lowest free sectors, found one after the other.
use mathlib.Core.Path.{◌≡◌, ap, sym, ◌∙◌, refl}
use mathlib.Core.List.{List, [], ◌∷◌}
use mathlib.Core.Bool.{Bool}
use Prim.Native.Nat.{ℕ, ◌+◌, ◌≤◌, ◌<◌, ◌-◌}
use native.Mathlib.Numerals.{add-one}
use native.Mathlib.Omega.{arith}
use native.Mathlib.Nat.{sub-zero}
use native.Mathlib.Decide.{dec_lt}
use lib.ListN.{length, get_or, take, set, drop, length-drop}
use lib.Seq.{length-take-le, take-suc, get_or-take, take-length}
use Rattle.lists.specs.Parts.{put, over}
use Rattle.lists.specs.Lists.{range, kept, first}
use Rattle.lists.proofs.Puts.{length-put}
use Rattle.lists.proofs.LentParts.{put_next}
use Rattle.lists.proofs.Ranges.{kept_next, kept_none, drop_get_or, drop_rest}
use Rattle.lists.proofs.Puts.{put_none, put_one}
use Rattle.files.proofs.map.MapFilled.{put-over}

-- one place more stored
put_more : (p i : ℕ) (src d : List ℕ) → i < length src → p + length src ≤ length d → set (put p (take i src) d) (p + i) (get_or src i 0) ≡ put p (take (i + 1) src) d
put_more p i src d h f =
    let n : length (take i src) ≡ i = length-take-le i src (omega arith) in
    let l : length (put p (take i src) d) ≡ length d = length-put p (take i src) d (omega arith) in
    put_one (p + i) (get_or src i 0) (put p (take i src) d) (omega arith)
    ∙ ap (λ (k : ℕ). put (p + k) (get_or src i 0 ∷ []) (put p (take i src) d)) (sym n)
    ∙ put_next p (take i src) (get_or src i 0 ∷ []) d (omega arith)
    ∙ ap (λ (x : List ℕ). put p x d) (sym (ap (λ (k : ℕ). take k src) (add-one i) ∙ take-suc src i 0 h))

-- the first k of the n lowest numbers below t that pass stand in the list, and the search goes on at `from`
pub record Found (p : ℕ → Bool) (t n : ℕ) (d : List ℕ) (k from : ℕ) (m : List ℕ) : Type 0 where
  pub some : k ≤ n
  pub left : drop k (kept p (range 0 t)) ≡ kept p (range from (t - from))
  pub stored : m ≡ put 0 (take k (take n (kept p (range 0 t)))) d
  pub long : length m ≡ length d

module _ (p : ℕ → Bool) (t n : ℕ) (d : List ℕ) (enough : n ≤ length (kept p (range 0 t))) (room : n ≤ length d) where
  length_taken : length (take n (kept p (range 0 t))) ≡ n
  length_taken = length-take-le n (kept p (range 0 t)) enough

  pub Found-none : Found p t n d 0 0 d
  Found-none = record {
    some = omega arith;
    left = rw (sub-zero t);
    stored = sym (put_none 0 d);
    long = refl;
  }

  module _ (k from : ℕ) (m : List ℕ) (f : Found p t n d k from m) (h : k < n) (s : ℕ) (e : s ≡ first p from (t - from)) where
    pub found_below : s < t
    found_below = elim (dec_lt s t) [
      | yes l ↦ l
      | no g ↦ absurd (omega (arith, length-drop k (kept p (range 0 t)), ap length (f.left ∙ kept_none p from t (omega arith))))
    ]

    next : drop k (kept p (range 0 t)) ≡ s ∷ kept p (range (s + 1) (t - (s + 1)))
    next = f.left ∙ kept_next p from t s e found_below

    here : get_or (take n (kept p (range 0 t))) k 0 ≡ s
    here = get_or-take n (kept p (range 0 t)) k 0 h ∙ drop_get_or (kept p (range 0 t)) k s _ next

    pub Found-more : (x : List ℕ) → x ≡ set m k s → length x ≡ length d → Found p t n d (k + 1) (s + 1) x
    Found-more x ex l = record {
      some = omega arith;
      left = drop_rest (kept p (range 0 t)) k s _ next;
      stored =
          let z : k ≡ 0 + k = omega arith in
          ex ∙ rw f.stored (ap (λ (v : ℕ). set (put 0 (take k (take n (kept p (range 0 t)))) d) k v) (sym here)
          ∙ ap (λ (i : ℕ). set (put 0 (take k (take n (kept p (range 0 t)))) d) i (get_or (take n (kept p (range 0 t))) k 0)) z
          ∙ put_more 0 k (take n (kept p (range 0 t))) d (omega (arith, length_taken)) (omega (arith, length_taken)));
      long = l;
    }

  pub Found-all : (k from : ℕ) (m : List ℕ) → n ≤ k → Found p t n d k from m → m ≡ over (take n (kept p (range 0 t))) d
  Found-all k from m h f =
      let e : k ≡ length (take n (kept p (range 0 t))) = omega (arith, length_taken, f.some) in
      f.stored ∙ ap (λ (i : ℕ). put 0 (take i (take n (kept p (range 0 t)))) d) e ∙ rw (take-length (take n (kept p (range 0 t)))) (put-over (take n (kept p (range 0 t))) d)
