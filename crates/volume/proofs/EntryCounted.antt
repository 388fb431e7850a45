-- An entry with another record count: what its fields are then, and that nothing else of it changes.
use mathlib.Core.Path.{◌≡◌, refl, ap, sym, ◌∙◌}
use mathlib.Core.Bool.{Bool, true, false, not, true≢false}
use mathlib.Core.List.{List, [], ◌∷◌}
use mathlib.Core.Logic.{inl}
use Prim.Native.Nat.{ℕ, zero, suc, ◌+◌, ◌/◌, ◌%◌, ◌<◌}
use native.Mathlib.Omega.{arith}
use lib.ListN.{length, get_or}
use lib.Seq.{ext_get_or}
use borrow.Author.Tests.{eqb-true}
use Rattle.lists.specs.Lists.{◌or◌, ◌and◌, all}
use Rattle.lists.specs.Parts.{byte, bytes2, bytes4, part, put}
use Rattle.lists.proofs.Alike.{all_alike}
use Rattle.lists.proofs.AreBytes.{Bytes}
use Rattle.lists.proofs.ByteLists.{Bytes-append, Bytes-bytes2, Bytes-put}
use Rattle.lists.proofs.LentParts.{length-part, byte-part}
use Rattle.lists.proofs.Puts.{length-put, part-put_before, put-part}
use Rattle.lists.proofs.PutBytes.{byte-put_outside, long-put}
use Rattle.lists.proofs.Tests.{and_left, or_left, or_right, not_both}
use Rattle.volume.specs.Directory.{unused, contiguous, owner, described, record_count}
use Rattle.volume.specs.Directory.{with_count, counted_as, valid, named, clashes, names_differ, SameButCount}
use Rattle.volume.proofs.EntryFields.{described-owner}

-- a valid entry begins with 1, and an unused one does not
pub valid_first : (e : List ℕ) → valid e ≡ true → byte e 0 ≡ 1
unfolding valid
valid_first e h = eqb-true _ _ (and_left _ _ (and_left _ _ (and_left _ _ (and_left _ _ (and_left _ _ h)))))

pub first_used : (e : List ℕ) → byte e 0 ≡ 1 → unused e ≡ false
unfolding all ◌and◌
first_used [] h = absurd (omega (arith, h))
first_used (x ∷ e) h = rw h

module _ (n : ℕ) (e : List ℕ) (long : length e ≡ 32) where
  pub length-with_count : length (with_count n e) ≡ 32
  unfolding with_count
  length-with_count = length-put 28 (bytes4 n) e (omega arith) ∙ long

  pub count_with_count : record_count (with_count n e) ≡ n
  unfolding with_count
  count_with_count = long-put 28 n e (omega arith)

  pub byte_before : (j : ℕ) → j < 28 → byte (with_count n e) j ≡ byte e j
  unfolding with_count
  byte_before j h = byte-put_outside 28 (bytes4 n) e (omega arith) j (inl h)

  -- all that stands before the count
  pub alike_with_count : byte e 0 ≡ 1 → contiguous e ≡ false → SameButCount e (with_count n e)
  unfolding described with_count
  alike_with_count one seq = record {
    use_same = first_used (with_count n e) (byte_before 0 (omega arith) ∙ one) ∙ sym (first_used e one);
    kind_same = byte_before 1 (omega arith);
    name_same = part-put_before 28 (bytes4 n) e (omega arith) 2 20 (omega arith);
    code_same = byte_before 23 (omega arith);
    length_same = rw (byte_before 24 (omega arith), byte_before 25 (omega arith));
    start_same = rw (byte_before 26 (omega arith), byte_before 27 (omega arith));
    contiguous_same = λ q. absurd (true≢false (sym q ∙ seq));
  }

-- an entry that has no records and gets that count
pub none_again : (e : List ℕ) → length e ≡ 32 → record_count e ≡ 0 → with_count 0 e ≡ e
unfolding with_count
none_again e h z =
    let same : part 28 4 e ≡ bytes4 0 = ext_get_or 0 (part 28 4 e) (bytes4 0) (length-part 28 4 e (omega arith)) (λ i l.
    byte-part 28 4 e i (omega (arith, l, length-part 28 4 e (omega arith))) ∙ zero-at i (omega (arith, l, length-part 28 4 e (omega arith)))) in
    ap (λ (b : List ℕ). put 28 b e) (sym same) ∙ put-part 28 4 e (omega arith)
  where
    zero-at : (i : ℕ) → i < 4 → byte e (28 + i) ≡ get_or (bytes4 0) i 0
    zero-at zero l = omega (arith, z)
    zero-at (suc zero) l = omega (arith, z)
    zero-at (suc (suc zero)) l = omega (arith, z)
    zero-at (suc (suc (suc zero))) l = omega (arith, z)
    zero-at (suc (suc (suc (suc i)))) l = absurd (omega arith)

-- what follows of entries that are the same but for the count
module _ (e d : List ℕ) (S : SameButCount e d) where
  pub contiguous_is : contiguous d ≡ contiguous e
  unfolding contiguous
  contiguous_is = rw S.kind_same

  pub owner_is : owner d ≡ owner e
  owner_is = sym (described-owner d) ∙ rw S.name_same (described-owner e)

-- a valid entry stays valid
pub valid-with_count : (n : ℕ) (e : List ℕ) → length e ≡ 32 → contiguous e ≡ false → valid e ≡ true → valid (with_count n e) ≡ true
unfolding valid
valid-with_count n e long seq h =
    let S : SameButCount e (with_count n e) = alike_with_count n e long (valid_first e h) seq in
    rw (
      byte_before n e long 0 (omega arith),
      S.kind_same,
      S.name_same,
      byte_before n e long 22 (omega arith),
      owner_is e (with_count n e) S,
      S.code_same,
      contiguous_is e (with_count n e) S,
      seq,
      S.length_same,
    ) (rw seq at h)

pub Bytes-with_count : (n : ℕ) (e : List ℕ) → n < 4294967296 → Bytes e → Bytes (with_count n e)
unfolding with_count
Bytes-with_count n e h b =
    Bytes-put 28 (bytes4 n) e
    (Bytes-append (bytes2 (n / 65536)) (bytes2 (n % 65536)) (Bytes-bytes2 (n / 65536) (omega arith)) (Bytes-bytes2 (n % 65536) (omega arith))) b

-- which entries are given a count
module _ (n : ℕ) (e : List ℕ) where
  pub counted_other : unused e or contiguous e ≡ true → counted_as n e ≡ e
  unfolding counted_as
  counted_other h = rw h

  pub counted_sequential : unused e ≡ false → contiguous e ≡ false → counted_as n e ≡ with_count n e
  unfolding counted_as
  counted_sequential u c = rw (not_both _ _ u c)

pub length-counted_as : (n : ℕ) (e : List ℕ) → length e ≡ 32 → length (counted_as n e) ≡ 32
length-counted_as n e h = go (unused e or contiguous e) refl
  where
    go : (b : Bool) → unused e or contiguous e ≡ b → length (counted_as n e) ≡ 32
    go true q = ap length (counted_other n e q) ∙ h
    go false q = ap length (counted_sequential n e (or_left _ _ q) (or_right _ _ q)) ∙ length-with_count n e h

pub Bytes-counted_as : (n : ℕ) (e : List ℕ) → n < 4294967296 → Bytes e → Bytes (counted_as n e)
Bytes-counted_as n e h b = go (unused e or contiguous e) refl
  where
    go : (x : Bool) → unused e or contiguous e ≡ x → Bytes (counted_as n e)
    go true q = rw (counted_other n e q) b
    go false q = rw (counted_sequential n e (or_left _ _ q) (or_right _ _ q)) (Bytes-with_count n e h b)

-- entries that are the same but for the count
pub alike_refl : (e : List ℕ) → SameButCount e e
alike_refl e = record {
  use_same = refl;
  kind_same = refl;
  name_same = refl;
  code_same = refl;
  length_same = refl;
  start_same = refl;
  contiguous_same = λ q. refl;
}

pub alike_entry : (e d : List ℕ) → d ≡ e → SameButCount e d
alike_entry e d q = rw q (alike_refl e)

pub alike_trans : (e d c : List ℕ) → SameButCount e d → SameButCount d c → SameButCount e c
alike_trans e d c p q = record {
  use_same = q.use_same ∙ p.use_same;
  kind_same = q.kind_same ∙ p.kind_same;
  name_same = q.name_same ∙ p.name_same;
  code_same = q.code_same ∙ p.code_same;
  length_same = q.length_same ∙ p.length_same;
  start_same = q.start_same ∙ p.start_same;
  contiguous_same = λ x. q.contiguous_same (contiguous_is e d p ∙ x) ∙ p.contiguous_same x;
}

-- names clash among entries as they do among others that are the same but for the count
module _ (c d e f : List ℕ) (p : SameButCount c e) (q : SameButCount d f) where
  clashes_same : clashes e f ≡ clashes c d
  unfolding clashes named
  clashes_same = rw (p.use_same, q.use_same, p.name_same, q.name_same)

pub names_alike : (xs ys : List (List ℕ)) → length ys ≡ length xs → ((i : ℕ) → i < length xs → SameButCount (get_or xs i []) (get_or ys i [])) → names_differ ys ≡ names_differ xs
unfolding names_differ
names_alike [] [] n h = refl
names_alike [] (y ∷ ys) n h = absurd (omega arith)
names_alike (x ∷ xs) [] n h = absurd (omega arith)
names_alike (x ∷ xs) (y ∷ ys) n h =
    let first : all (λ d. not (clashes y d)) ys ≡ all (λ d. not (clashes x d)) xs =
    all_alike [] (λ d. not (clashes x d)) (λ d. not (clashes y d)) xs ys (omega arith)
    (λ i l. ap not (clashes_same x (get_or xs i []) y (get_or ys i []) (h 0 (omega arith)) (h (suc i) (omega arith)))) in
    rw (first, names_alike xs ys (omega arith) (λ i l. h (suc i) (omega arith)))
