-- A record replaced by one as long: the stream keeps its length, and only the data bytes differ. The length of a record in the stream.
use Rattle.std.specs.Prelude.{if◌then◌else◌}
use mathlib.Core.List.{List, [], ◌++◌, append-nil, ◌∷◌, append_assoc}
use mathlib.Core.Path.{◌≡◌, refl, sym, ap, ◌∙◌}
use mathlib.Core.Bool.{true}
use Prim.Native.Nat.{ℕ, ◌%◌, zero, suc, ◌<◌, ◌+◌, ◌≤◌}
use native.Mathlib.Omega.{arith}
use lib.Dec.{eqb, eqb-suc-zero}
use lib.ListN.{length, length-append, set, get_or, take, drop}
use lib.Seq.{take_at, drop-append-add, drop_at, split_at, set_split}
use Rattle.numbers.specs.Numbers.{record_limit}
use Rattle.lists.specs.Lists.{flat, all}
use Rattle.lists.specs.Parts.{bytes2, blanks, put}
use Rattle.lists.proofs.Puts.{length-blanks}
use Rattle.lists.proofs.AreBytes.{Bytes}
use Rattle.lists.proofs.JoinedLists.{all-set}
use Rattle.records.specs.Code.Walk.{head_of, place_of}
use Rattle.records.specs.Records.{encoded, allowed, stream_of, whole_records, records_of}
use Rattle.records.proofs.RecordStreams.{whole_stream_of, records_stream_of, stream_of_records, records_allowed}

-- a record in the stream: what stands before its data and after it depends on its length alone
unfoldable pub before : ℕ → ℕ → List ℕ
before l n = if eqb l 0 then bytes2 n else []

unfoldable pub after : ℕ → ℕ → List ℕ
after l n = if eqb l 0 then blanks (n % 2) else []

pub head_variable : head_of 0 ≡ 2
unfolding head_of
head_variable = refl

pub head_fixed : (l : ℕ) → 0 < l → head_of l ≡ 0
unfolding head_of
head_fixed zero h = absurd (omega arith)
head_fixed (suc l) h = rw (eqb-suc-zero l)

pub encoded_is : (l : ℕ) (r : List ℕ) → encoded l r ≡ before l (length r) ++ (r ++ after l (length r))
unfolding encoded before after
encoded_is zero r = refl
encoded_is (suc l) r = rw (eqb-suc-zero l) (sym (append-nil r))

pub length-before : (l n : ℕ) → length (before l n) ≡ head_of l
unfolding before head_of
length-before zero n = refl
length-before (suc l) n = rw (eqb-suc-zero l)

pub length_variable : (r : List ℕ) → length (encoded 0 r) ≡ 2 + length r + length r % 2
unfolding encoded
length_variable r = simp (length-append, length-blanks) (omega arith)

pub length_fixed : (l : ℕ) (r : List ℕ) → 0 < l → length (encoded l r) ≡ length r
unfolding encoded
length_fixed zero r h = absurd (omega arith)
length_fixed (suc l) r h = rw (eqb-suc-zero l)

pub length-encoded : (l : ℕ) (r q : List ℕ) → length r ≡ length q → length (encoded l r) ≡ length (encoded l q)
length-encoded zero r q h = rw (length_variable r, length_variable q, h)
length-encoded (suc l) r q h = rw (length_fixed (suc l) r (omega arith), length_fixed (suc l) q (omega arith)) h

-- of a record of at most m data bytes, whatever the limit m is
pub encoded_most : (m l : ℕ) (r : List ℕ) → length r ≤ m → length (encoded l r) ≤ 2 + m + m % 2
encoded_most m zero r h = omega (arith, length_variable r)
encoded_most m (suc l) r h = omega (arith, length_fixed (suc l) r (omega arith))

-- lists with a part replaced by one as long
pub put_at : (x o b y : List ℕ) → length b ≡ length o → put (length x) b (x ++ (o ++ y)) ≡ x ++ (b ++ y)
unfolding put
put_at x o b y h = rw (take_at x (o ++ y) (length x) refl, drop-append-add x (o ++ y) (length b), drop_at o y (length b) (sym h))

pub stream_of-append : (l : ℕ) (rs qs : List (List ℕ)) → stream_of l (rs ++ qs) ≡ stream_of l rs ++ stream_of l qs
unfolding stream_of flat
stream_of-append l [] qs = refl
stream_of-append l (r ∷ rs) qs = ap (λ (t : List ℕ). encoded l r ++ t) (stream_of-append l rs qs) ∙ sym (append_assoc (encoded l r) (stream_of l rs) (stream_of l qs))

-- the stream around record i
around : (l : ℕ) (rs qs : List (List ℕ)) (r : List ℕ) → stream_of l (rs ++ r ∷ qs) ≡ stream_of l rs ++ (encoded l r ++ stream_of l qs)
unfolding stream_of flat
around l rs qs r = stream_of-append l rs (r ∷ qs)

length_around : (a b c : List ℕ) → length (a ++ (b ++ c)) ≡ length a + (length b + length c)
length_around a b c = simp length-append

pub head_fits : (l : ℕ) (r : List ℕ) → head_of l + length r ≤ length (encoded l r)
head_fits l r =
    rw (encoded_is l r, length_around (before l (length r)) r (after l (length r)), length-before l (length r)) (omega arith)

spliced : (l : ℕ) (a c o r : List ℕ) → length r ≡ length o → a ++ (encoded l r ++ c) ≡ put (length a + head_of l) r (a ++ (encoded l o ++ c))
spliced l a c o r e =
    let x : List ℕ = a ++ before l (length o) in
    let y : List ℕ = after l (length o) ++ c in
    let n : length a + head_of l ≡ length x = sym (length-append a (before l (length o)) ∙ ap (λ (k : ℕ). length a + k) (length-before l (length o))) in
    let f : (q : List ℕ) → length q ≡ length o → a ++ (encoded l q ++ c) ≡ x ++ (q ++ y) =
    λ q h. rw (encoded_is l q, h) (simp append_assoc) in
    f r e ∙ sym (put_at x o r y e) ∙ rw (n, f o refl)

-- t is the stream s with its record i replaced by r
pub record Updated (l : ℕ) (s : List ℕ) (i : ℕ) (r t : List ℕ) : Type 0 where
  pub records : records_of l t ≡ set (records_of l s) i r
  pub whole : whole_records l t ≡ true
  pub long : length t ≡ length s
  pub at_record : t ≡ put (place_of l s i) (encoded l r) s
  pub at_data : t ≡ put (place_of l s i + head_of l) r s
  pub fits : place_of l s i + head_of l + length r ≤ length s

pub Updated-records : (l : ℕ) (s : List ℕ) (i : ℕ) (r : List ℕ) → Bytes s → l ≤ record_limit → whole_records l s ≡ true → i < length (records_of l s)
    → length r ≡ length (get_or (records_of l s) i []) → allowed l r ≡ true → Updated l s i r (stream_of l (set (records_of l s) i r))
unfolding place_of
Updated-records l s i r b m w h e a =
    let rs : List (List ℕ) = records_of l s in
    let o : List ℕ = get_or rs i [] in
    let x : List ℕ = stream_of l (take i rs) in
    let y : List ℕ = stream_of l (drop (suc i) rs) in
    let fine : all (allowed l) (set rs i r) ≡ true = all-set (allowed l) rs i r (records_allowed l s m w) a in
    let old : s ≡ x ++ (encoded l o ++ y) = sym (stream_of_records l s b w) ∙ ap (stream_of l) (split_at rs i [] h) ∙ around l (take i rs) (drop (suc i) rs) o in
    let new : stream_of l (set rs i r) ≡ x ++ (encoded l r ++ y) = ap (stream_of l) (set_split rs i r h) ∙ around l (take i rs) (drop (suc i) rs) r in
    let lo : length s ≡ length x + (length (encoded l o) + length y) = ap length old ∙ length_around x (encoded l o) y in
    let ln : length (stream_of l (set rs i r)) ≡ length x + (length (encoded l r) + length y) = ap length new ∙ length_around x (encoded l r) y in
    let le : length (encoded l r) ≡ length (encoded l o) = length-encoded l r o e in
    record {
      records = records_stream_of l (set rs i r) fine;
      whole = whole_stream_of l (set rs i r) fine;
      long = omega arith;
      at_record = new ∙ sym (put_at x (encoded l o) (encoded l r) y le) ∙ ap (put (length x) (encoded l r)) (sym old);
      at_data = new ∙ spliced l x y o r e ∙ ap (put (length x + head_of l) r) (sym old);
      fits = omega (arith, head_fits l r);
    }
