-- Variable records: `whole` and `cut` over a stream and what follows it, and back from the records to the stream.
use mathlib.Core.Path.{◌≡◌, refl, sym, ◌∙◌, ap}
use mathlib.Core.List.{List, [], ◌∷◌, ◌++◌}
use mathlib.Core.Bool.{true, true≢false}
use Prim.Native.Nat.{ℕ, zero, suc, ◌≤◌, zero-le, suc-le-suc, ◌+◌, ◌%◌, ◌*◌, ◌/◌, ◌<◌}
use native.Mathlib.Omega.{arith}
use lib.ListN.{drop, length, length-drop, drop_of_length-le, length-append, length-take, take-append-drop, take, replicate}
use lib.Dec.{eqb-suc-zero, leb}
use lib.Seq.{take-append-le, drop-append-le, take_at, drop_at, take_all, take-add}
use borrow.Author.Tests.{leb-true, le-leb}
use Rattle.numbers.specs.Numbers.{record_limit}
use Rattle.lists.specs.Parts.{part, zeros, blanks}
use Rattle.lists.specs.Lists.{◌and◌, all, flat}
use Rattle.lists.proofs.Tests.{and_left, and_right, both_true, zeros_are, or_first, zeros-blanks}
use Rattle.lists.proofs.Puts.{length-blanks}
use Rattle.lists.proofs.AreBytes.{Bytes}
use Rattle.lists.proofs.LentParts.{word_back}
use Rattle.records.specs.Records.{cut, whole, encoded, stream_of, allowed}

-- passing over k bytes is dropping them
pub cut_skip : (k : ℕ) (s : List ℕ) → cut k s ≡ cut 0 (drop k s)
unfolding cut
cut_skip zero [] = refl
cut_skip (suc k) [] = refl
cut_skip zero (x ∷ s) = refl
cut_skip (suc k) (x ∷ s) = cut_skip k s

pub whole_skip : (k : ℕ) (s : List ℕ) → k ≤ length s → whole k s ≡ whole 0 (drop k s)
unfolding whole
whole_skip zero [] h = refl
whole_skip (suc k) [] h = absurd (omega arith)
whole_skip zero (x ∷ s) h = refl
whole_skip (suc k) (x ∷ s) h = whole_skip k s (omega arith)

pub whole_long : (k : ℕ) (s : List ℕ) → whole k s ≡ true → k ≤ length s
unfolding whole
whole_long zero s e = zero-le
whole_long (suc k) [] e = absurd (true≢false (sym e ∙ eqb-suc-zero k))
whole_long (suc k) (x ∷ s) e = suc-le-suc (whole_long k s e)

-- what the count word n at the front of whole records says of the bytes s after it
pub record Head (n : ℕ) (s : List ℕ) : Type 0 where
  pub small : n ≤ record_limit
  pub room : n + n % 2 ≤ length s
  pub pad : zeros (part n (n % 2) s) ≡ true
  pub rest : whole (n + n % 2) s ≡ true

pub Head-of : (a b : ℕ) (s : List ℕ) → whole 0 (a ∷ b ∷ s) ≡ true → Head (256 * a + b) s
unfolding whole
Head-of a b s e =
    let n : ℕ = 256 * a + b in
    let r : whole (n + n % 2) s ≡ true = and_right _ _ e in
    record {
      small = leb-true n record_limit (and_left _ _ (and_left _ _ e));
      room = whole_long (n + n % 2) s r;
      pad = and_right _ _ (and_left _ _ e);
      rest = r;
    }

part_front : (j n : ℕ) (s t : List ℕ) → j + n ≤ length s → part j n (s ++ t) ≡ part j n s
unfolding part
part_front j n s t h =
    let hj : j ≤ length s = omega arith in
    let hn : n ≤ length (drop j s) = simp length-drop (omega arith) in
    rw (drop-append-le j s t, take-append-le n (drop j s) t)

-- whole records, and then t
pub cut-append : (k : ℕ) (s t : List ℕ) → whole k s ≡ true → cut k (s ++ t) ≡ cut k s ++ cut 0 t
unfolding whole cut
cut-append zero [] t e = refl
cut-append (suc k) [] t e = absurd (true≢false (sym e ∙ eqb-suc-zero k))
cut-append (suc k) (x ∷ s) t e = cut-append k s t e
cut-append zero (a ∷ []) t e = absurd (true≢false (sym e))
cut-append zero (a ∷ b ∷ s) t e =
    let n : ℕ = 256 * a + b in
    let h : Head n s = Head-of a b s e in
    let l : n ≤ length s = omega (arith, h.room) in
    rw (cut-append (n + n % 2) s t h.rest, take-append-le n s t)

pub whole-append : (k : ℕ) (s t : List ℕ) → whole k s ≡ true → whole k (s ++ t) ≡ whole 0 t
unfolding whole ◌and◌
whole-append zero [] t e = refl
whole-append (suc k) [] t e = absurd (true≢false (sym e ∙ eqb-suc-zero k))
whole-append (suc k) (x ∷ s) t e = whole-append k s t e
whole-append zero (a ∷ []) t e = absurd (true≢false (sym e))
whole-append zero (a ∷ b ∷ s) t e =
    let n : ℕ = 256 * a + b in
    let h : Head n s = Head-of a b s e in
    rw (whole-append (n + n % 2) s t h.rest, part_front n (n % 2) s t h.room, h.pad, le-leb n record_limit h.small)

-- one record
module _ (r : List ℕ) where
  abbrev n : ℕ
  n = length r

  abbrev text : List ℕ
  text = r ++ blanks (n % 2)

  long : length text ≡ n + n % 2
  long = simp (length-append, length-blanks)

  past : drop (n + n % 2) text ≡ []
  past = drop_of_length-le text {i = n + n % 2} (omega (arith, long))

  pub cut-encoded : cut 0 (encoded 0 r) ≡ r ∷ []
  unfolding cut encoded
  cut-encoded = rw (word_back n, cut_skip (n + n % 2) text, past, take_at r (blanks (n % 2)) n refl)

  pad : zeros (part n (n % 2) text) ≡ true
  unfolding part
  pad = rw (drop_at r (blanks (n % 2)) n refl, take_all (n % 2) (blanks (n % 2)) (omega (arith, length-blanks (n % 2)))) (zeros-blanks (n % 2))

  ends : whole (n + n % 2) text ≡ true
  unfolding whole
  ends = whole_skip (n + n % 2) text (omega (arith, long)) ∙ rw past

  pub whole-encoded : n ≤ record_limit → whole 0 (encoded 0 r) ≡ true
  unfolding whole encoded
  whole-encoded h = rw (word_back n) (both_true _ _ (both_true _ _ (le-leb n record_limit h) pad) ends)

-- back: whole records are the stream that they make
one_record : (a b : ℕ) (s : List ℕ) → b < 256 → Head (256 * a + b) s → (f : List ℕ) → f ≡ drop ((256 * a + b) + (256 * a + b) % 2) s
    → encoded 0 (take (256 * a + b) s) ++ f ≡ a ∷ b ∷ s
unfolding encoded part blanks
one_record a b s h1 h f ef =
    let n : ℕ = 256 * a + b in
    let p : ℕ = n % 2 in
    let lt : length (take n s) ≡ n = simp length-take (omega (arith, h.room)) in
    let da : (256 * a + b) / 256 ≡ a = omega arith in
    let mb : (256 * a + b) % 256 ≡ b = omega arith in
    let lp : length (take p (drop n s)) ≡ p = simp (length-take, length-drop) (omega (arith, h.room)) in
    let pad : take p (drop n s) ≡ replicate p 0 = zeros_are (take p (drop n s)) h.pad ∙ ap (λ (k : ℕ). replicate k 0) lp in
    rw (lt, da, mb, ef, ← pad, ← take-add n p s, take-append-drop (n + p) s)

pub stream_of-cut : (k : ℕ) (s : List ℕ) → Bytes s → whole k s ≡ true → stream_of 0 (cut k s) ≡ drop k s
unfolding whole cut stream_of flat
stream_of-cut zero [] h e = refl
stream_of-cut (suc k) [] h e = refl
stream_of-cut (suc k) (x ∷ s) h e = stream_of-cut k s (λ i. h (suc i)) e
stream_of-cut zero (a ∷ []) h e = absurd (true≢false (sym e))
stream_of-cut zero (a ∷ b ∷ s) h e =
    let n : ℕ = 256 * a + b in
    let w : Head n s = Head-of a b s e in
    one_record a b s (h 1) w (stream_of 0 (cut (n + n % 2) s)) (stream_of-cut (n + n % 2) s (λ i. h (suc (suc i))) w.rest)

pub cut-allowed : (k : ℕ) (s : List ℕ) → whole k s ≡ true → all (allowed 0) (cut k s) ≡ true
unfolding whole cut all allowed
cut-allowed zero [] e = refl
cut-allowed (suc k) [] e = refl
cut-allowed (suc k) (x ∷ s) e = cut-allowed k s e
cut-allowed zero (a ∷ []) e = refl
cut-allowed zero (a ∷ b ∷ s) e =
    let n : ℕ = 256 * a + b in
    let w : Head n s = Head-of a b s e in
    let small : leb (length (take n s)) record_limit ≡ true = le-leb (length (take n s)) record_limit (omega (arith, length-take n s, w.small)) in
    both_true _ _ (both_true _ _ small (or_first _ _ refl)) (cut-allowed (n + n % 2) s w.rest)
