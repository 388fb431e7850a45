-- The verdict on one file, from what its stream is found to hold; by the rule of before there were record counts too.
use Rattle.std.specs.Prelude.{if◌then◌else◌}
use Rattle.std.specs.Option.{option_eq}
use Rattle.std.proofs.lemmas.Bool.Decides.{nat_tests}
use native.Mathlib.Omega.{arith}
use mathlib.Core.Path.{◌≡◌, refl, ap, ◌∙◌}
use mathlib.Core.Bool.{Bool, true, false}
use mathlib.Core.List.{List}
use mathlib.Core.Logic.{◌≢◌}
use Prim.Native.Nat.{ℕ}
use lib.Dec.{eqb}
use lib.ListN.{drop, length}
use borrow.Author.Tests.{eq-eqb, ne_eqb}
use Rattle.lists.specs.Lists.{◌and◌, ◌or◌}
use Rattle.lists.specs.Parts.{sector, zeros}
use Rattle.lists.proofs.Bools.{and-true, and-false}
use Rattle.lists.proofs.Tests.{not_both}
use Rattle.volume.specs.Directory.{unused, contiguous, start, record_length, record_count}
use Rattle.records.specs.Code.Spots.{counted_of}
use Rattle.records.specs.Records.{whole_records, records_of}
use Rattle.std.specs.Prelude.{Some, None}
use Rattle.ownership.specs.Blocks.{stream_length}
use Rattle.files.specs.Code.Opens.{stored_at, stream_at}
use Rattle.files.specs.Code.Verdict.{content_of, stream_count, file_sound, file_before, records_before, count_before}
use Rattle.files.specs.Files.{records, tail_sound, records_sound, count_is, records_in, no_count}
use Rattle.files.proofs.map.OpenBlock.{stream_at_lem, content_at}

-- an entry that has no stream
module _ (img e : List ℕ) where
  pub sound_none : unused e ≡ true → true ≡ file_sound img e
  unfolding file_sound tail_sound records_sound count_is ◌and◌ ◌or◌
  sound_none u = rw u

  pub sound_run : unused e ≡ false → contiguous e ≡ true → true ≡ file_sound img e
  unfolding file_sound tail_sound records_sound count_is ◌and◌ ◌or◌
  sound_run u c = rw (u, c)

  pub before_none : unused e ≡ true → Some 0 ≡ count_before img e
  unfolding count_before records_before file_before tail_sound records_sound count_is ◌and◌ ◌or◌
  before_none u = rw u

  pub before_run : unused e ≡ false → contiguous e ≡ true → Some 0 ≡ count_before img e
  unfolding count_before records_before file_before tail_sound records_sound count_is ◌and◌ ◌or◌
  before_run u c = rw (u, c)

either_way : (a b : ℕ) → eqb a b ≡ eqb b a
either_way a b = grind (arith, nat_tests)

-- one that has
module _ (img e : List ℕ) (u : unused e ≡ false) (c : contiguous e ≡ false) where
  z : Bool
  z = zeros (drop (stream_length (sector (start e) img)) (stored_at img (start e)))

  w : Bool
  w = whole_records (record_length e) (stream_at img (start e))

  abbrev n : ℕ
  n = records_in img e

  n_is : n ≡ length (records_of (record_length e) (stream_at img (start e)))
  unfolding records_in records
  n_is = rw (stream_at_lem img e u c)

  -- what is found
  found : stream_count img (start e) (record_length e) ≡ (if z then (if w then Some n else None) else None)
  unfolding stream_count content_of counted_of z w
  found = rw n_is

  count_is_lem : (f : List ℕ → ℕ) → count_is f e ≡ eqb (record_count e) (f e)
  unfolding count_is ◌or◌
  count_is_lem f = rw (u, c)

  content : (tail_sound img e and records_sound img e) ≡ (z and w)
  unfolding z w
  content = content_at img e u c

  counts : (a b : Bool) (m : ℕ) → option_eq eqb (if a then (if b then Some n else None) else None) (Some m) ≡ a and b and eqb m n
  unfolding ◌and◌
  counts true true m = either_way n m
  counts true false m = refl
  counts false b m = refl

  pub sound_records : option_eq eqb (stream_count img (start e) (record_length e)) (Some (record_count e)) ≡ file_sound img e
  unfolding file_sound
  sound_records = ap (λ c. option_eq eqb c (Some (record_count e))) found ∙ counts z w (record_count e) ∙ rw (content, count_is_lem (records_in img))

  -- by the rule of before
  pub before_bad : record_count e ≢ 0 → None ≡ count_before img e
  unfolding count_before file_before no_count
  before_bad h = rw (content, count_is_lem no_count, ne_eqb (record_count e) 0 h, and-false (z and w))

  picked : (a b : Bool) → (if a then (if b then Some n else None) else None) ≡ (if a and b then Some n else None)
  unfolding ◌and◌
  picked true b = refl
  picked false b = refl

  pub before_records : record_count e ≡ 0 → stream_count img (start e) (record_length e) ≡ count_before img e
  unfolding count_before file_before records_before no_count
  before_records h =
      found ∙ picked z w ∙ rw (content, count_is_lem no_count, eq-eqb (record_count e) 0 h, and-true (z and w), not_both _ _ u c)
