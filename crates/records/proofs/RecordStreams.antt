-- Records and their stream, for each record length l, 0 for variable ones: what is encoded is cut back, and whole records are the
-- stream that they make.
use mathlib.Core.Path.{◌≡◌, sym, ◌∙◌, refl, ap}
use mathlib.Core.Bool.{true}
use mathlib.Core.List.{List, [], ◌++◌, ◌∷◌}
use Prim.Native.Nat.{ℕ, suc, ◌*◌, ◌/◌, ◌%◌, zero, ◌<◌, ◌≤◌}
use native.Mathlib.Nat.{div-add-mod, zero-div, zero-mod, zero-lt-suc, div_self, mod_self}
use native.Mathlib.Omega.{arith}
use lib.ListN.{length}
use lib.Dec.{eqb, eqb-suc-zero}
use lib.Seq.{take_all}
use borrow.Author.Tests.{eqb-true, leb-true, ne_eqb, eq-eqb, le-leb}
use Rattle.numbers.specs.Numbers.{record_limit}
use Rattle.lists.specs.Lists.{pieces, flat, all}
use Rattle.lists.proofs.Tests.{and_left, and_right, or_cases, both_true, or_second}
use Rattle.lists.proofs.AreBytes.{Bytes}
use Rattle.records.specs.Records.{encoded, whole_records, records_of, whole, cut, allowed, stream_of}
use Rattle.records.proofs.VariableRecords.{cut-append, whole-append, cut-encoded, whole-encoded, stream_of-cut, cut-allowed}
use Rattle.records.proofs.FixedRecords.{length-div, pieces-append, length-mod, flat-pieces, all-pieces}

-- the definitions at a fixed length
module _ (l : ℕ) where
  fixed_whole : (s : List ℕ) → whole_records (suc l) s ≡ eqb (length s % suc l) 0
  unfolding whole_records
  fixed_whole s = rw (eqb-suc-zero l)

  fixed_records : (s : List ℕ) → records_of (suc l) s ≡ pieces (length s / suc l) (suc l) s
  unfolding records_of
  fixed_records s = rw (eqb-suc-zero l)

  fixed_encoded : (r : List ℕ) → encoded (suc l) r ≡ r
  unfolding encoded
  fixed_encoded r = rw (eqb-suc-zero l)

  fixed_length : (s : List ℕ) → whole_records (suc l) s ≡ true → length s ≡ suc l * (length s / suc l)
  fixed_length s h =
      let z : length s % suc l ≡ 0 = eqb-true (length s % suc l) 0 (sym (fixed_whole s) ∙ h) in
      omega (arith, div-add-mod (length s) (suc l))

-- the definitions by the kind of record
pub whole_variable : (s : List ℕ) → whole_records 0 s ≡ whole 0 s
unfolding whole_records
whole_variable s = refl

pub records_variable : (s : List ℕ) → records_of 0 s ≡ cut 0 s
unfolding records_of
records_variable s = refl

pub whole_fixed : (l : ℕ) (s : List ℕ) → 0 < l → whole_records l s ≡ eqb (length s % l) 0
whole_fixed zero s h = absurd (omega arith)
whole_fixed (suc l) s h = fixed_whole l s

pub records_fixed : (l : ℕ) (s : List ℕ) → 0 < l → records_of l s ≡ pieces (length s / l) l s
records_fixed zero s h = absurd (omega arith)
records_fixed (suc l) s h = fixed_records l s

pub allowed_small : (l : ℕ) (r : List ℕ) → allowed l r ≡ true → length r ≤ record_limit
unfolding allowed
allowed_small l r h = leb-true (length r) record_limit (and_left _ _ h)

pub allowed_fixed : (l : ℕ) (r : List ℕ) → (l ≡ 0 → ⊥) → allowed l r ≡ true → length r ≡ l
unfolding allowed
allowed_fixed l r n h = eqb-true (length r) l (or_cases _ _ (and_right _ _ h) (ne_eqb l 0 n))

pub fixed_allowed : (l : ℕ) (r : List ℕ) → l ≤ record_limit → length r ≡ l → allowed l r ≡ true
unfolding allowed
fixed_allowed l r m e = both_true _ _ (le-leb (length r) record_limit (omega arith)) (or_second _ _ (eq-eqb (length r) l e))

-- no records
pub records_none : (l : ℕ) → records_of l [] ≡ []
unfolding records_of pieces cut
records_none zero = refl
records_none (suc l) = fixed_records l [] ∙ rw zero-div

pub whole_none : (l : ℕ) → whole_records l [] ≡ true
unfolding whole_records whole
whole_none zero = refl
whole_none (suc l) = fixed_whole l [] ∙ rw zero-mod

-- whole records, and then t
pub records_append : (l : ℕ) (s t : List ℕ) → whole_records l s ≡ true → records_of l (s ++ t) ≡ records_of l s ++ records_of l t
unfolding whole_records records_of
records_append zero s t h = cut-append 0 s t h
records_append (suc l) s t h =
    let e : length s ≡ suc l * (length s / suc l) = fixed_length l s h in
    rw (fixed_records l (s ++ t), fixed_records l s, fixed_records l t, length-div (suc l) (length s / suc l) s t (zero-lt-suc l) e)
    (pieces-append (suc l) (length s / suc l) (length t / suc l) s t e)

pub whole_records-append : (l : ℕ) (s t : List ℕ) → whole_records l s ≡ true → whole_records l (s ++ t) ≡ whole_records l t
unfolding whole_records
whole_records-append zero s t h = whole-append 0 s t h
whole_records-append (suc l) s t h =
    rw (fixed_whole l (s ++ t), fixed_whole l t, length-mod (suc l) (length s / suc l) s t (fixed_length l s h))

-- one record
pub records_encoded : (l : ℕ) (r : List ℕ) → allowed l r ≡ true → records_of l (encoded l r) ≡ r ∷ []
unfolding records_of pieces
records_encoded zero r h = cut-encoded r
records_encoded (suc l) r h =
    let e : length r ≡ suc l = allowed_fixed (suc l) r (λ z. omega arith) h in
    rw (fixed_encoded l r, fixed_records l r, e, div_self (zero-lt-suc l), take_all (suc l) r (omega arith))

pub whole_records-encoded : (l : ℕ) (r : List ℕ) → allowed l r ≡ true → whole_records l (encoded l r) ≡ true
unfolding whole_records
whole_records-encoded zero r h = whole-encoded r (allowed_small 0 r h)
whole_records-encoded (suc l) r h =
    let e : length r ≡ suc l = allowed_fixed (suc l) r (λ z. omega arith) h in
    rw (fixed_encoded l r, fixed_whole l r, e, mod_self)

-- what is encoded is whole, and is cut back
module _ (l : ℕ) where
  pub whole_stream_of : (rs : List (List ℕ)) → all (allowed l) rs ≡ true → whole_records l (stream_of l rs) ≡ true
  unfolding stream_of flat all
  whole_stream_of [] h = whole_none l
  whole_stream_of (r ∷ rs) h =
      whole_records-append l (encoded l r) (flat (encoded l) rs) (whole_records-encoded l r (and_left _ _ h)) ∙ whole_stream_of rs (and_right _ _ h)

  pub records_stream_of : (rs : List (List ℕ)) → all (allowed l) rs ≡ true → records_of l (stream_of l rs) ≡ rs
  unfolding stream_of flat all
  records_stream_of [] h = records_none l
  records_stream_of (r ∷ rs) h =
      let a : allowed l r ≡ true = and_left _ _ h in
      records_append l (encoded l r) (flat (encoded l) rs) (whole_records-encoded l r a)
      ∙ rw (records_encoded l r a, records_stream_of rs (and_right _ _ h))

  pub stream_of_injective : (rs qs : List (List ℕ)) → all (allowed l) rs ≡ true → all (allowed l) qs ≡ true → stream_of l rs ≡ stream_of l qs → rs ≡ qs
  stream_of_injective rs qs h k e = sym (records_stream_of rs h) ∙ ap (records_of l) e ∙ records_stream_of qs k

-- whole records are allowed, and are the stream that they make
pub stream_of_records : (l : ℕ) (s : List ℕ) → Bytes s → whole_records l s ≡ true → stream_of l (records_of l s) ≡ s
unfolding whole_records records_of stream_of
stream_of_records zero s b h = stream_of-cut 0 s b h
stream_of_records (suc l) s b h = rw (fixed_records l s) (flat-pieces (suc l) (encoded (suc l)) (length s / suc l) s (fixed_encoded l) (fixed_length l s h))

pub records_allowed : (l : ℕ) (s : List ℕ) → l ≤ record_limit → whole_records l s ≡ true → all (allowed l) (records_of l s) ≡ true
unfolding whole_records records_of
records_allowed zero s m h = cut-allowed 0 s h
records_allowed (suc l) s m h = rw (fixed_records l s) (all-pieces (suc l) (allowed (suc l)) (length s / suc l) s fits (fixed_length l s h))
  where
    fits : (r : List ℕ) → length r ≡ suc l → allowed (suc l) r ≡ true
    fits r e = fixed_allowed (suc l) r m e

-- append
pub appended_records : (l : ℕ) (s r : List ℕ) → whole_records l s ≡ true → allowed l r ≡ true
    → (records_of l (s ++ encoded l r) ≡ records_of l s ++ (r ∷ [])) × (whole_records l (s ++ encoded l r) ≡ true)
appended_records l s r h a =
    (records_append l s (encoded l r) h ∙ rw (records_encoded l r a), whole_records-append l s (encoded l r) h ∙ whole_records-encoded l r a)
