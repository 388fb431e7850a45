-- The walks' steps and ends, as the code meets them: at a place of a mapped stream.
use Rattle.std.specs.Prelude.{if◌then◌else◌, Some, None}
use mathlib.Core.Path.{◌≡◌, ap, sym, ◌∙◌, refl}
use mathlib.Core.Bool.{true, false, Bool}
use mathlib.Core.List.{List, []}
use Prim.Native.Nat.{ℕ, ◌+◌, ◌*◌, ◌-◌, ◌%◌, ◌≤◌, ◌<◌, ◌/◌, suc, zero-le}
use native.Mathlib.Omega.{arith}
use native.Mathlib.Decide.{dec_lt, ℕ_discrete}
use native.Mathlib.Nat.{zero-mul, mul-suc, mul-le-mul_left, div-add-mod}
use lib.ListN.{length, get_or-eq_default, drop, get_or, length-drop}
use lib.Seq.{length-take-le, get_or-take}
use lib.Dec.{eqb}
use borrow.Author.Tests.{eq-eqb, ne_eqb, lt-ltb, le-ltb}
use Rattle.numbers.specs.Numbers.{record_limit}
use Rattle.lists.specs.Parts.{word, byte, part}
use Rattle.lists.proofs.AreBytes.{Bytes}
use Rattle.records.specs.Code.Walk.{past_of, good_at, next_at, place_of, head_of}
use Rattle.records.specs.Code.Spots.{step_at, counted_of, spot_of}
use Rattle.records.specs.Streams.{laid_out}
use Rattle.records.specs.Code.Mapped.{Mapped, stream_in}
use Rattle.records.specs.Code.Runs.{address_of}
use Rattle.records.specs.Records.{whole, cut, whole_records, records_of}
use Rattle.records.proofs.RecordWalk.{next_is, good_short, good_large, good_past, good_pads, Good, Good-facts, whole_good, count_good, whole_bad}
use Rattle.records.proofs.RecordWalk.{whole_end, cut_end}
use Rattle.records.proofs.StreamBytes.{length-laid_out, laid_out_at}
use Rattle.records.proofs.RecordStreams.{whole_variable, records_variable, whole_fixed}
use Rattle.records.proofs.RecordPlaces.{count_fixed, place_next, place_more, place_done, place_good, count_at, record_fixed, place_fixed}
use Rattle.records.proofs.RecordReplaced.{head_variable, head_fixed}

-- a test that was made, on either side
pub step_good : (s : List ℕ) (p q n : ℕ) → n ≡ word s p → q ≡ past_of p n → good_at s p ≡ true → Some q ≡ step_at s p
unfolding step_at
step_good s p q n is e g = rw g (ap Some (e ∙ sym (next_is s p n is)))

pub step_bad : (s : List ℕ) (p : ℕ) → good_at s p ≡ false → None ≡ step_at s p
unfolding step_at
step_bad s p g = rw g

pub next_good : (s : List ℕ) (p q : ℕ) → step_at s p ≡ Some q → (good_at s p ≡ true) × (q ≡ next_at s p)
unfolding step_at
next_good s p q e = go (good_at s p) refl e
  where
    go : (b : Bool) → good_at s p ≡ b → (if b then Some (next_at s p) else None) ≡ Some q → (good_at s p ≡ true) × (q ≡ next_at s p)
    go true h e = (h, (cc))
    go false h e = absurd (let z : ◌≡◌ {A = ℕ} 0 1 = cc in omega arith)

pub next_bad : (s : List ℕ) (p : ℕ) → step_at s p ≡ None → good_at s p ≡ false
unfolding step_at
next_bad s p e = go (good_at s p) refl e
  where
    go : (b : Bool) → good_at s p ≡ b → (if b then Some (next_at s p) else None) ≡ None → good_at s p ≡ false
    go true h e = absurd (let z : ◌≡◌ {A = ℕ} 0 1 = cc in omega arith)
    go false h e = h

-- the first e bytes of a mapped stream
module _ (img ss : List ℕ) (m : Mapped img ss) (e : ℕ) (fits : e ≤ 256 * length ss) where
  abbrev all_of : List ℕ
  all_of = laid_out img ss

  pub length-stream_in : length (stream_in img ss e) ≡ e
  unfolding stream_in
  length-stream_in = length-take-le e all_of (omega (arith, length-laid_out img ss m))

  pub byte-stream_in : (p : ℕ) → p < e → byte (stream_in img ss e) p ≡ byte all_of p
  unfolding stream_in
  byte-stream_in p h = get_or-take e all_of p 0 h

  pub word-stream_in : (p : ℕ) → p + 2 ≤ e → word (stream_in img ss e) p ≡ word all_of p
  word-stream_in p h = rw (byte-stream_in p (omega arith), byte-stream_in (p + 1) (omega arith))

  pub Bytes-stream_in : Bytes img → Bytes (stream_in img ss e)
  Bytes-stream_in b p = elim (dec_lt p e) [
    | yes h ↦ rw (byte-stream_in p h, laid_out_at img ss m p (omega arith)) (b (address_of ss p))
    | no h ↦ rw (get_or-eq_default (stream_in img ss e) 0 {n = p} (omega (arith, length-stream_in))) (omega arith)
  ]

  -- a step leads on, within the stream, by an even number of bytes
  pub step_within : (p q : ℕ) → step_at (stream_in img ss e) p ≡ Some q → (p + 2 ≤ q) × (q ≤ e) × (q % 2 ≡ p % 2)
  step_within p q h =
      let g : (good_at (stream_in img ss e) p ≡ true) × (q ≡ next_at (stream_in img ss e) p) = next_good (stream_in img ss e) p q h in
      let f : Good (stream_in img ss e) p = Good-facts (stream_in img ss e) p g.0 in
      (omega (arith, f.next), omega (arith, f.next, f.room, length-stream_in), omega (arith, f.next))

  -- the outcomes of a step at p
  module _ (p : ℕ) where
    abbrev s : List ℕ
    s = stream_in img ss e

    pub at_short : e < p + 2 → None ≡ step_at s p
    at_short h = step_bad s p (good_short s p (omega (arith, length-stream_in)))

    module _ (n : ℕ) (is : n ≡ word all_of p) (room : p + 2 ≤ e) where
      here : n ≡ word s p
      here = is ∙ sym (word-stream_in p room)

      room_s : p + 2 ≤ length s
      room_s = omega (arith, length-stream_in)

      -- a count over the limit; a record's end past that of the stream
      pub at_large : record_limit < n → None ≡ step_at s p
      at_large h = step_bad s p (good_large s p (omega (arith, here)))

      pub at_past : e < p + (2 + n + n % 2) → None ≡ step_at s p
      at_past h = step_bad s p (good_past s p n here room_s (omega (arith, length-stream_in)))

      module _ (ends : p + (2 + n + n % 2) ≤ e) where
        abbrev last : ℕ
        last = byte all_of (p + (2 + n + n % 2) - 1)

        -- the byte before the record's end is its pad, where it has one
        pad_is : n % 2 * byte s (p + 2 + n) ≡ n % 2 * last
        pad_is = elim (ℕ_discrete (n % 2) 0) [
          | yes z ↦ simp (z, zero-mul)
          | no z ↦
              let q : p + (2 + n + n % 2) - 1 ≡ p + 2 + n = omega arith in
              rw (q, byte-stream_in (p + 2 + n) (omega arith))
        ]

        good_as : n ≤ record_limit → good_at s p ≡ eqb (n % 2 * last) 0
        good_as few = good_pads s p n here room_s (omega (arith, length-stream_in)) few ∙ ap (λ (y : ℕ). eqb y 0) pad_is

        -- whatever the count
        pub at_pad : (n % 2 * last ≡ 0 → ⊥) → None ≡ step_at s p
        at_pad g = elim (dec_lt record_limit n) [
          | yes h ↦ at_large h
          | no h ↦ step_bad s p (good_as (omega arith) ∙ ne_eqb _ _ g)
        ]

        pub at_good : n ≤ record_limit → n % 2 * last ≡ 0 → Some (p + (2 + n + n % 2)) ≡ step_at s p
        at_good few g = step_good s p _ n here (omega arith) (good_as few ∙ eq-eqb _ _ g)

-- n records up to p: what is left is whole if the stream is, and has the other records
pub record Walked (s : List ℕ) (p n : ℕ) : Type 0 where
  pub rest : whole 0 (drop p s) ≡ whole 0 s
  pub count : n + length (cut 0 (drop p s)) ≡ length (cut 0 s)

pub Walked-none : (s : List ℕ) → Walked s 0 0
Walked-none s = record { rest = refl; count = omega arith }

pub Walked-next : (s : List ℕ) (p n q : ℕ) → Walked s p n → step_at s p ≡ Some q → Walked s q (n + 1)
Walked-next s p n q w e =
    let g : (good_at s p ≡ true) × (q ≡ next_at s p) = next_good s p q e in
    record { rest = rw g.1 (sym (whole_good s p g.0) ∙ w.rest); count = rw g.1 (omega (arith, count_good s p g.0, w.count)) }

counted_broken : (s : List ℕ) → whole 0 s ≡ false → None ≡ counted_of 0 s
unfolding counted_of
counted_broken s h = rw (whole_variable s, h)

pub Walked-bad : (s : List ℕ) (p n : ℕ) → Walked s p n → p < length s → step_at s p ≡ None → None ≡ counted_of 0 s
Walked-bad s p n w h e = counted_broken s (sym w.rest ∙ whole_bad s p h (next_bad s p e))

pub Walked-end : (s : List ℕ) (p n : ℕ) → Walked s p n → length s ≤ p → Some n ≡ counted_of 0 s
unfolding counted_of
Walked-end s p n w h =
    let c : n ≡ length (cut 0 s) = omega (arith, w.count, ap length (cut_end s p h)) in
    rw (whole_variable s, sym w.rest ∙ whole_end s p h, records_variable s) (ap Some c)

-- fixed records are counted by their length
module _ (l : ℕ) (s : List ℕ) (some : 0 < l) (e : ℕ) (long : length s ≡ e) where
  pub fixed_whole : e % l ≡ 0 → Some (e / l) ≡ counted_of l s
  unfolding counted_of
  fixed_whole h = rw (whole_fixed l s some, count_fixed l s some, long, eq-eqb (e % l) 0 h)

  pub fixed_broken : (e % l ≡ 0 → ⊥) → None ≡ counted_of l s
  unfolding counted_of
  fixed_broken h = rw (whole_fixed l s some, long, ne_eqb (e % l) 0 h)

-- the walk to record i of variable ones: after k records
module _ (s : List ℕ) (b : Bytes s) (w : whole_records 0 s ≡ true) (i k p : ℕ) (at : p ≡ place_of 0 s k) (few : k ≤ length (records_of 0 s)) where
  more : p < length s → k < length (records_of 0 s)
  more h = place_more 0 s b zero-le w k few (omega arith)

  pub found_next : (n : ℕ) → n ≡ word s p → p < length s → (p + 2 + n + n % 2 ≡ place_of 0 s (k + 1)) × (k + 1 ≤ length (records_of 0 s))
  found_next n is h =
      let z : k + 1 ≡ suc k = omega arith in
      (rw z (sym (place_next s b w k (more h) ∙ next_is s (place_of 0 s k) n (is ∙ ap (word s) at) ∙ ap (λ (x : ℕ). past_of x n) (sym at))), omega (arith, more h))

  pub found_past : k ≤ i → length s ≤ p → None ≡ spot_of 0 s i
  unfolding spot_of
  found_past h g =
      let e : k ≡ length (records_of 0 s) = place_done 0 s b zero-le w k few (omega arith) in
      rw (le-ltb i (length (records_of 0 s)) (omega arith))

  pub found_at : (n : ℕ) → n ≡ word s p → k ≡ i → p < length s → Some (record { from = p + 2; len = n }) ≡ spot_of 0 s i
  unfolding spot_of
  found_at n is e h =
      let r : i < length (records_of 0 s) = omega (arith, more h) in
      let q : p ≡ place_of 0 s i = at ∙ ap (place_of 0 s) e in
      let c : length (get_or (records_of 0 s) i []) ≡ n = count_at s b w i r ∙ sym (is ∙ ap (word s) q) in
      rw (lt-ltb i (length (records_of 0 s)) r, head_variable, c, ← q)

  pub found_room : p < length s → p + 2 + word s p + word s p % 2 ≤ length s
  found_room h =
      let g : good_at s p ≡ true = rw at (place_good s b w k (more h)) in
      (Good-facts s p g).room

-- the same of a mapped stream
module _ (img ss : List ℕ) (m : Mapped img ss) (e : ℕ) (fits : e ≤ 256 * length ss) (b : Bytes img) (w : whole_records 0 (stream_in img ss e) ≡ true) (i k p : ℕ)
    (at : p ≡ place_of 0 (stream_in img ss e) k) (few : k ≤ length (records_of 0 (stream_in img ss e))) where
  abbrev t : List ℕ
  t = stream_in img ss e

  long : length t ≡ e
  long = length-stream_in img ss m e fits

  bs : Bytes t
  bs = Bytes-stream_in img ss m e fits b

  room : p < e → p + 2 + word t p + word t p % 2 ≤ e
  room h = omega (arith, long, found_room t bs w i k p at few (omega (arith, long)))

  finds_room : p < e → p + 2 ≤ e
  finds_room h = omega (arith, room h)

  module _ (n : ℕ) (is : n ≡ word (laid_out img ss) p) (h : p < e) where
    word_here : n ≡ word t p
    word_here = is ∙ sym (word-stream_in img ss m e fits p (finds_room h))

    pub finds_next : (p + (2 + n + n % 2) ≡ place_of 0 (stream_in img ss e) (k + 1)) × (k + 1 ≤ length (records_of 0 (stream_in img ss e))) × (p + (2 + n + n % 2) ≤ e)
    finds_next =
        let f = found_next t bs w i k p at few n word_here (omega (arith, long)) in
        (omega (arith, f.0), f.1, omega (arith, rw (← word_here) at (room h)))

    pub finds_at : k ≡ i → Some (record { from = p + 2; len = n }) ≡ spot_of 0 (stream_in img ss e) i
    finds_at q = found_at t bs w i k p at few n word_here q (omega (arith, long))

  pub finds_past : k ≤ i → e ≤ p → None ≡ spot_of 0 (stream_in img ss e) i
  finds_past h g = found_past t bs w i k p at few h (omega (arith, long))

-- fixed records stand side by side
module _ (l : ℕ) (s : List ℕ) (some : 0 < l) (i e : ℕ) (long : length s ≡ e) where
  inside : i < e / l → l * i + l ≤ e
  inside h = omega (arith, mul-suc l i, mul-le-mul_left l h, div-add-mod e l)

  pub spot_fixed : l ≤ record_limit → whole_records l s ≡ true → i < e / l → (Some (record { from = l * i; len = l }) ≡ spot_of l s i) × (l * i + l ≤ e)
  unfolding spot_of part
  spot_fixed m w h =
      let r : length (records_of l s) ≡ e / l = count_fixed l s some ∙ ap (λ (x : ℕ). x / l) long in
      let h2 : i < length s / l = rw long h in
      let n : l * i + l ≤ e = inside h in
      let c : length (get_or (records_of l s) i []) ≡ l = ap length (record_fixed l s i some h2) ∙ length-take-le l (drop (l * i) s) (omega (arith, length-drop (l * i) s)) in
      let z : l * i + head_of l ≡ l * i = omega (arith, head_fixed l some) in
      (rw (lt-ltb i (length (records_of l s)) (omega arith), c, place_fixed l s i some m w (omega arith), z), n)

  pub past_fixed : e / l ≤ i → None ≡ spot_of l s i
  unfolding spot_of
  past_fixed h =
      let r : length (records_of l s) ≡ e / l = count_fixed l s some ∙ ap (λ (x : ℕ). x / l) long in
      rw (le-ltb i (length (records_of l s)) (omega arith))
