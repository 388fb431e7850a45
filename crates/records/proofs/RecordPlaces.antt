-- Where the records of a whole stream start, and what stands there. A loop that walks to record i has for its invariant that its
-- place is `place_of l s k` after k steps.
use mathlib.Core.Path.{◌≡◌, refl, ap, ◌∙◌, sym}
use mathlib.Core.List.{List, [], ◌∷◌, ◌++◌, append-nil, append_assoc}
use mathlib.Core.Bool.{Bool, true}
use Prim.Native.Nat.{ℕ, zero, suc, ◌/◌, ◌<◌, ◌*◌, ◌+◌, ◌≤◌, zero-le}
use native.Mathlib.Omega.{arith}
use native.Mathlib.Decide.{dec_lt}
use native.Mathlib.Nat.{mul-zero, mul-suc}
use lib.ListN.{length, drop, get_or, take, length-append, take-append-drop, length-drop}
use lib.Seq.{take-suc, drop-cons, drop-drop, take-length, drop_at, take_at, length-take-le}
use Rattle.numbers.specs.Numbers.{record_limit}
use Rattle.lists.specs.Lists.{flat, all}
use Rattle.lists.specs.Parts.{part, word}
use Rattle.lists.proofs.Pieces.{get_or-pieces, length-pieces}
use Rattle.lists.proofs.Tests.{and_right}
use Rattle.lists.proofs.Lists.{all_at}
use Rattle.lists.proofs.AreBytes.{Bytes}
use Rattle.records.specs.Records.{records_of, stream_of, encoded, allowed, whole_records, cut}
use Rattle.records.specs.Code.Walk.{place_of, head_of, good_at, next_at}
use Rattle.records.proofs.RecordStreams.{records_fixed, allowed_fixed, whole_stream_of, records_stream_of, stream_of_records, records_allowed}
use Rattle.records.proofs.RecordReplaced.{stream_of-append, length_variable, length_fixed, before, after, encoded_is, length-before, head_fits}
use Rattle.records.proofs.RecordWalk.{Good, Good-facts, good_whole, cut_good}

-- fixed records: how many, and each
pub count_fixed : (l : ℕ) (s : List ℕ) → 0 < l → length (records_of l s) ≡ length s / l
count_fixed l s h = rw (records_fixed l s h) (length-pieces (length s / l) l s)

pub record_fixed : (l : ℕ) (s : List ℕ) (i : ℕ) → 0 < l → i < length s / l → get_or (records_of l s) i [] ≡ part (l * i) l s
record_fixed l s i h k = rw (records_fixed l s h) (get_or-pieces l (length s / l) i s k)

-- places
pub place_zero : (l : ℕ) (s : List ℕ) → place_of l s 0 ≡ 0
unfolding place_of stream_of flat
place_zero l s = refl

stream_of-cons : (l : ℕ) (r : List ℕ) (rs : List (List ℕ)) → stream_of l (r ∷ rs) ≡ encoded l r ++ stream_of l rs
unfolding stream_of flat
stream_of-cons l r rs = refl

stream_of_one : (l : ℕ) (r : List ℕ) → stream_of l (r ∷ []) ≡ encoded l r
unfolding stream_of flat
stream_of_one l r = append-nil (encoded l r)

pub place_suc : (l : ℕ) (s : List ℕ) (i : ℕ) → i < length (records_of l s) → place_of l s (suc i) ≡ place_of l s i + length (encoded l (get_or (records_of l s) i []))
unfolding place_of
place_suc l s i h =
    let rs : List (List ℕ) = records_of l s in
    ap (λ (x : List (List ℕ)). length (stream_of l x)) (take-suc rs i [] h)
    ∙ ap length (stream_of-append l (take i rs) (get_or rs i [] ∷ []))
    ∙ length-append (stream_of l (take i rs)) (stream_of l (get_or rs i [] ∷ []))
    ∙ ap (λ (x : List ℕ). length (stream_of l (take i rs)) + length x) (stream_of_one l (get_or rs i []))

all-drop : {A : Type 0} (p : A → Bool) (i : ℕ) (xs : List A) → all p xs ≡ true → all p (drop i xs) ≡ true
unfolding all
all-drop p zero xs h = h
all-drop p (suc i) [] h = h
all-drop p (suc i) (x ∷ xs) h = all-drop p i xs (and_right _ _ h)

encoded_some : (l : ℕ) (r : List ℕ) → allowed l r ≡ true → 0 < length (encoded l r)
encoded_some zero r a = omega (arith, length_variable r)
encoded_some (suc l) r a = omega (arith, length_fixed (suc l) r (omega arith), allowed_fixed (suc l) r (λ z. omega arith) a)

module _ (l : ℕ) (s : List ℕ) (b : Bytes s) (m : l ≤ record_limit) (w : whole_records l s ≡ true) where
  abbrev rs : List (List ℕ)
  rs = records_of l s

  split : (i : ℕ) → s ≡ stream_of l (take i rs) ++ stream_of l (drop i rs)
  split i = sym (stream_of_records l s b w) ∙ ap (stream_of l) (sym (take-append-drop i rs)) ∙ stream_of-append l (take i rs) (drop i rs)

  left : (i : ℕ) → drop (place_of l s i) s ≡ stream_of l (drop i rs)
  unfolding place_of
  left i = ap (drop (length (stream_of l (take i rs)))) (split i) ∙ drop_at (stream_of l (take i rs)) (stream_of l (drop i rs)) _ refl

  fine : (i : ℕ) → all (allowed l) (drop i rs) ≡ true
  fine i = all-drop (allowed l) i rs (records_allowed l s m w)

  pub place_rest : (i : ℕ) → records_of l (drop (place_of l s i) s) ≡ drop i rs
  place_rest i = rw (left i) (records_stream_of l (drop i rs) (fine i))

  pub place_whole : (i : ℕ) → whole_records l (drop (place_of l s i) s) ≡ true
  place_whole i = rw (left i) (whole_stream_of l (drop i rs) (fine i))

  pub place_end : place_of l s (length rs) ≡ length s
  unfolding place_of
  place_end = rw (take-length rs) (ap length (stream_of_records l s b w))

  pub place_fits : (i : ℕ) → place_of l s i ≤ length s
  unfolding place_of
  place_fits i = omega (arith, ap length (split i) ∙ length-append (stream_of l (take i rs)) (stream_of l (drop i rs)))

  -- the record at a place
  module _ (i : ℕ) (h : i < length rs) where
    abbrev p : ℕ
    p = place_of l s i

    abbrev o : List ℕ
    o = get_or rs i []

    next_fits : p + length (encoded l o) ≤ length s
    next_fits = omega (arith, place_suc l s i h, place_fits (suc i))

    pub place_lt : p < length s
    place_lt = omega (arith, next_fits, encoded_some l o (all_at (allowed l) rs i [] (records_allowed l s m w) h))

    pub data_fits : p + head_of l + length o ≤ length s
    data_fits = omega (arith, next_fits, head_fits l o)

    pub record_at_lem : o ≡ part (p + head_of l) (length o) s
    unfolding part
    record_at_lem =
        let y : List ℕ = stream_of l (drop (suc i) rs) in
        let d : drop p s ≡ before l (length o) ++ (o ++ (after l (length o) ++ y)) =
        left i ∙ ap (stream_of l) (drop-cons rs i [] h) ∙ stream_of-cons l o (drop (suc i) rs) ∙ rw (encoded_is l o) (simp append_assoc) in
        sym (rw (
          ← drop-drop (head_of l) p s,
          d,
          drop_at (before l (length o)) (o ++ (after l (length o) ++ y)) (head_of l) (length-before l (length o)),
          take_at o (after l (length o) ++ y) (length o) refl,
        ))

  -- the end is reached with the last record, and not before
  pub place_done : (i : ℕ) → i ≤ length rs → length s ≤ place_of l s i → i ≡ length rs
  place_done i h k = elim (dec_lt i (length rs)) [
    | yes c ↦ absurd (omega (arith, place_lt i c))
    | no c ↦ omega arith
  ]

  pub place_more : (i : ℕ) → i ≤ length rs → place_of l s i < length s → i < length rs
  place_more i h k = elim (dec_lt i (length rs)) [
    | yes c ↦ c
    | no c ↦
        let e : i ≡ length rs = omega arith in
        absurd (omega (arith, ap (place_of l s) e ∙ place_end))
  ]

pub place_fixed : (l : ℕ) (s : List ℕ) (i : ℕ) → 0 < l → l ≤ record_limit → whole_records l s ≡ true → i ≤ length (records_of l s) → place_of l s i ≡ l * i
place_fixed l s zero p m w h = place_zero l s ∙ sym (mul-zero l)
place_fixed l s (suc i) p m w h =
    let a : allowed l (get_or (records_of l s) i []) ≡ true = all_at (allowed l) (records_of l s) i [] (records_allowed l s m w) h in
    let e : length (get_or (records_of l s) i []) ≡ l = allowed_fixed l (get_or (records_of l s) i []) (λ z. omega arith) a in
    rw (place_suc l s i h, length_fixed l (get_or (records_of l s) i []) p, e, place_fixed l s i p m w (omega arith)) (sym (mul-suc l i))

-- variable records: the count word at a record's place, and the step to the next
module _ (s : List ℕ) (b : Bytes s) (w : whole_records 0 s ≡ true) (i : ℕ) (h : i < length (records_of 0 s)) where
  abbrev at : ℕ
  at = place_of 0 s i

  pub place_good : good_at s at ≡ true
  unfolding whole_records
  place_good = (good_whole s at (place_lt 0 s b zero-le w i h) (place_whole 0 s b zero-le w i)).0

  pub record_variable : get_or (records_of 0 s) i [] ≡ part (at + 2) (word s at) s
  unfolding records_of part
  record_variable =
      let e : drop i (records_of 0 s) ≡ take (word s at) (drop (at + 2) s) ∷ cut 0 (drop (next_at s at) s) = sym (place_rest 0 s b zero-le w i) ∙ cut_good s at place_good in
      ap (λ (x : List (List ℕ)). get_or x 0 []) (sym (drop-cons (records_of 0 s) i [] h) ∙ e)

  pub count_at : length (get_or (records_of 0 s) i []) ≡ word s at
  unfolding part
  count_at =
      let g : Good s at = Good-facts s at place_good in
      ap length record_variable ∙ length-take-le (word s at) (drop (at + 2) s) (omega (arith, length-drop (at + 2) s, g.room))

  pub place_next : place_of 0 s (suc i) ≡ next_at s at
  place_next =
      let o : List ℕ = get_or (records_of 0 s) i [] in
      let g : Good s at = Good-facts s at place_good in
      let n : length (get_or (records_of 0 s) i []) ≡ word s at = count_at in
      place_suc 0 s i h ∙ rw (length_variable o, n, g.next) (omega arith)
