-- How many numbers of a range pass a test: counted in two parts, alike for tests that agree, and by the language's count of ones.
use mathlib.Core.Path.{◌≡◌, refl, sym, ap, ◌∙◌}
use mathlib.Core.Bool.{Bool, true, false}
use mathlib.Core.List.{List}
use Prim.Native.Nat.{ℕ, zero, suc, ◌+◌, ◌-◌, ◌*◌, ◌/◌, ◌%◌, ◌^◌, ◌≤◌, ◌<◌}
use native.Mathlib.Nat.{add-zero, zero-add, sub-zero, pow-suc, div-one, mod-lt}
use native.Mathlib.Omega.{arith}
use lib.Arith.{lt-one}
use lib.Count.{ones, ones_step}
use lib.Dec.{eqb}
use lib.ListN.{length, take}
use Rattle.std.specs.List.{sum_by}
use Rattle.std.proofs.lemmas.List.Sums.{sum_by_more}
use lib.Pow.{shr_lt}
use Rattle.lists.specs.Lists.{range, kept}
use Rattle.lists.specs.Parts.{byte}
use Rattle.lists.proofs.AreBytes.{Bytes}
use Rattle.volume.specs.Sat.{is_free}
use Rattle.volume.specs.Code.Searches.{bit_at, clear_at, clear_bits}
use Rattle.volume.proofs.Searches.TableQuads.{byte_clear}
use Rattle.volume.proofs.Searches.NumberBits.{first_bits, not_bit}

abbrev pub count : (ℕ → Bool) → ℕ → ℕ → ℕ
count p a n = length (kept p (range a n))

-- the first number, and the rest
abbrev weight : Bool → ℕ
weight true = 1
weight false = 0

count_cons : (p : ℕ → Bool) (a n : ℕ) → count p a (suc n) ≡ weight (p a) + count p (suc a) n
unfolding kept range
count_cons p a n = by (p a) refl
  where
    by : (b : Bool) → p a ≡ b → count p a (suc n) ≡ weight (p a) + count p (suc a) n
    by true e = rw (kept, e) (omega arith)
    by false e = rw (kept, e) (omega arith)

pub count-le : (p : ℕ → Bool) (a n : ℕ) → count p a n ≤ n
unfolding kept range
count-le p a zero = omega arith
count-le p a (suc n) = omega (arith, count_cons p a n, count-le p (suc a) n, weight-le (p a))
  where
    weight-le : (b : Bool) → weight b ≤ 1
    weight-le true = omega arith
    weight-le false = omega arith

count_split : (p : ℕ → Bool) (a m n : ℕ) → count p a (m + n) ≡ count p a m + count p (a + m) n
unfolding kept range
count_split p a zero n = rw (zero-add n, add-zero a) (sym (zero-add (count p a n)))
count_split p a (suc m) n =
    let e : suc m + n ≡ suc (m + n) = omega arith in
    let f : suc a + m ≡ a + suc m = omega arith in
    ap (count p a) e ∙ count_cons p a (m + n) ∙ omega (arith, count_cons p a m, rw f at (count_split p (suc a) m n))

count_same : (p q : ℕ → Bool) (a c n : ℕ) → ((k : ℕ) → k < n → p (a + k) ≡ q (c + k)) → count p a n ≡ count q c n
unfolding kept range
count_same p q a c zero e = refl
count_same p q a c (suc n) e =
    count_cons p a n ∙ rw (here, count_same p q (suc a) (suc c) n later) (sym (count_cons q c n))
  where
    here : p a ≡ q c
    here = rw (add-zero a, add-zero c) at (e 0 (omega arith))

    later : (k : ℕ) → k < n → p (suc a + k) ≡ q (suc c + k)
    later k l =
        let f : suc a + k ≡ a + suc k = omega arith in
        let g : suc c + k ≡ c + suc k = omega arith in
        rw (f, g) (e (suc k) (omega arith))

-- a number of w bits has as many ones as set bits
weight_is : (d : ℕ) → d < 2 → weight (eqb d 1) ≡ d
weight_is zero h = refl
weight_is (suc zero) h = refl
weight_is (suc (suc d)) h = absurd (omega arith)

last_bit : (w x : ℕ) → count (bit_at (suc w) x) (0 + w) 1 ≡ x % 2
unfolding kept range bit_at
last_bit w x =
    let e : suc w - (0 + w + 1) ≡ 0 = omega arith in
    count_cons (bit_at (suc w) x) (0 + w) 0 ∙ add-zero (weight (bit_at (suc w) x (0 + w)))
    ∙ ap (λ (n : ℕ). weight (eqb (x / 2 ^ n % 2) 1)) e ∙ ap (λ (n : ℕ). weight (eqb (n % 2) 1)) (div-one x) ∙ weight_is (x % 2) (mod-lt x (omega arith))

ones_bits : (w x : ℕ) → x < 2 ^ w → ones x ≡ count (bit_at w x) 0 w
unfolding ones kept range
ones_bits zero x h = ap ones (lt-one h)
ones_bits (suc w) x h =
    let p : 2 ^ suc w ≡ 2 ^ w * 2 = pow-suc 2 w in
    let d : suc w - w ≡ 1 = omega arith in
    let e : suc w ≡ w + 1 = omega arith in
    let f : (k : ℕ) → k < w → bit_at w (x / 2) (0 + k) ≡ bit_at (suc w) x (0 + k) =
    λ k l. rw zero-add (rw d at (first_bits (suc w) w x k (omega arith) l)) in
    let high = ones_bits w (x / 2) (omega arith) ∙ count_same (bit_at w (x / 2)) (bit_at (suc w) x) 0 0 w f in
    ones_step x ∙ omega (arith, high, last_bit w x, count_split (bit_at (suc w) x) 0 w 1, ap (count (bit_at (suc w) x) 0) e)

pub ones_first : (w r x : ℕ) → x < 2 ^ w → r ≤ w → ones (x / 2 ^ (w - r)) ≡ count (bit_at w x) 0 r
ones_first w r x h g =
    let e : w ≡ r + (w - r) = omega arith in
    ones_bits r (x / 2 ^ (w - r)) (shr_lt r (w - r) (rw (← e) h))
    ∙ count_same (bit_at r (x / 2 ^ (w - r))) (bit_at w x) 0 0 r (λ k l. rw zero-add (first_bits w r x k g l))

-- the free sectors of a byte, and those of the table from a byte on
module _ (b : List ℕ) (h : Bytes b) where
  byte-count : (q r : ℕ) → r ≤ 8 → count (bit_at 8 ((2 ^ 8 - 1) - byte b q)) 0 r ≡ count (is_free b) (8 * q) r
  unfolding clear_at
  byte-count q r g =
      count_same _ _ 0 (8 * q) r (λ k l.
      let d : (8 * q + k) / 8 ≡ q = omega arith in
      let m : (8 * q + k) % 8 ≡ k = omega arith in
      rw zero-add (not_bit 8 (byte b q) k (h q) (omega arith) ∙ rw (d, m) at (byte_clear b h (8 * q + k))))

  pub more_counted : (t q n m : ℕ) → 8 * q + 8 ≤ t → m ≡ count (bit_at 8 ((2 ^ 8 - 1) - byte b q)) 0 8 → count (is_free b) 0 t ≡ n + count (is_free b) (8 * q) (t - 8 * q)
      → count (is_free b) 0 t ≡ n + m + count (is_free b) (8 * (q + 1)) (t - 8 * (q + 1))
  more_counted t q n m l e p =
      let a : t - 8 * q ≡ 8 + (t - 8 * (q + 1)) = omega arith in
      let c : 8 * q + 8 ≡ 8 * (q + 1) = omega arith in
      let s = count_split (is_free b) (8 * q) 8 (t - 8 * (q + 1)) in
      p ∙ omega (arith, e ∙ byte-count q 8 (omega arith), ap (count (is_free b) (8 * q)) a ∙ rw c at s)

  pub all_counted : (t q n m : ℕ) → t - 8 * q ≤ 8 → m ≡ count (bit_at 8 ((2 ^ 8 - 1) - byte b q)) 0 (t - 8 * q)
      → count (is_free b) 0 t ≡ n + count (is_free b) (8 * q) (t - 8 * q) → n + m ≡ count (is_free b) 0 t
  all_counted t q n m l e p = omega (arith, p, e ∙ byte-count q (t - 8 * q) l)

  -- the clear bits of the first q bytes, and the free sectors from there on
  pub counted_so_far : (t q : ℕ) → 8 * q ≤ t → q ≤ length b → count (is_free b) 0 t ≡ sum_by clear_bits (take q b) + count (is_free b) (8 * q) (t - 8 * q)
  unfolding clear_bits
  counted_so_far t zero l m = rw sub-zero (sym (zero-add (count (is_free b) 0 t)))
  counted_so_far t (suc q) l m =
      let e : suc q ≡ q + 1 = omega arith in
      let more = more_counted t q (sum_by clear_bits (take q b)) (clear_bits (byte b q)) (omega arith) refl (counted_so_far t q (omega arith) (omega arith)) in
      rw (e, sum_by_more clear_bits b q 0 m) more
