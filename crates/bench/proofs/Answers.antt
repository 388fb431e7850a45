-- What each return of a timed function answers: of what is no table, of a run that needs no search, of too few sectors; and what was found.
use mathlib.Core.Path.{◌≡◌, refl, sym}
use mathlib.Core.Bool.{true, false}
use mathlib.Core.List.{List}
use Prim.Native.Nat.{ℕ, zero, suc, ◌+◌, ◌≤◌, ◌<◌}
use native.Mathlib.Omega.{arith}
use lib.ListN.{length, take}
use lib.Seq.{length-take-le, take_all}
use lib.Dec.{leb}
use borrow.Author.Tests.{leb-true, le-leb, lt-leb, eq-eqb, ne_eqb}
use Rattle.numbers.specs.Numbers.{most_sectors}
use Rattle.lists.specs.Lists.{◌and◌, range, kept, first, all}
use Rattle.lists.specs.Parts.{over, part, sector}
use Rattle.lists.proofs.Tests.{and_right}
use Rattle.lists.proofs.Bools.{and-false}
use Rattle.volume.specs.Sat.{is_free, run_at}
use Rattle.volume.proofs.Searches.RunHunt.{lowest_None}
use Rattle.bench.specs.Asked.{is_table, asked, taken, Took}

-- a table is its only sector
pub only_sector : (b : List ℕ) → length b ≡ 256 → sector 0 b ≡ b
unfolding sector part
only_sector b h = take_all 256 b (omega arith)

none : (b : List ℕ) (t : ℕ) → first (run_at b t 0) 0 t ≡ 0
unfolding first run_at all range ◌and◌
none b zero = refl
none b (suc t) = rw (first, le-leb (0 + 0) (suc t) (omega arith))

module _ (b : List ℕ) (t : ℕ) where
  -- a run of none starts at 0, and one longer than the volume nowhere
  pub run_none : (n : ℕ) → n ≡ 0 → first (run_at b t n) 0 t ≡ 0
  run_none n h = rw h (none b t)

  pub run_long : (n : ℕ) → t < n → first (run_at b t n) 0 t ≡ t
  run_long n h = sym (lowest_None b t n 0 (omega arith) (λ k l. absurd (omega arith)))

  pub table_fits : is_table b t ≡ true → t ≤ most_sectors
  unfolding is_table
  table_fits h = leb-true _ _ (and_right _ _ h)

  pub asked_of : is_table b t ≡ true → (r : ℕ) → asked b t r ≡ r
  unfolding asked
  asked_of h r = rw h

  pub asked-not : is_table b t ≡ false → (r : ℕ) → asked b t r ≡ 0
  unfolding asked
  asked-not h r = rw h

  -- the tests of a table
  pub table_yes : length b ≡ 256 → t ≤ most_sectors → is_table b t ≡ true
  unfolding is_table ◌and◌
  table_yes l h = rw (eq-eqb _ _ l, le-leb t most_sectors h)

  pub not_long : (length b ≡ 256 → ⊥) → is_table b t ≡ false
  unfolding is_table ◌and◌
  not_long f = rw (ne_eqb _ _ f)

  pub too_many : most_sectors < t → is_table b t ≡ false
  unfolding is_table
  too_many h = rw (lt-leb t most_sectors h, and-false)

  module _ (n : ℕ) (d : List ℕ) where
    Took-none : is_table b t and leb n (length d) and leb n (length (kept (is_free b) (range 0 t))) ≡ false → Took b t n d 0 d
    unfolding taken over
    Took-none h = record { count = rw h; stored = rw h }

    pub Took-not : is_table b t ≡ false → Took b t n d 0 d
    unfolding ◌and◌
    Took-not h = Took-none (rw h)

    pub no_room : length d < n → Took b t n d 0 d
    unfolding ◌and◌
    no_room h = Took-none (rw (lt-leb n (length d) h, and-false))

    pub too_few : length (kept (is_free b) (range 0 t)) < n → Took b t n d 0 d
    too_few h = Took-none (rw (lt-leb n _ h) (and-false _))

    pub Took-all : is_table b t ≡ true → n ≤ length d → n ≤ length (kept (is_free b) (range 0 t)) → (m : List ℕ)
        → m ≡ over (take n (kept (is_free b) (range 0 t))) d → Took b t n d n m
    unfolding taken ◌and◌
    Took-all is l g m s =
        record {
          count = rw (is, le-leb n (length d) l, le-leb n _ g) (sym (length-take-le n _ g));
          stored = rw (is, le-leb n (length d) l, le-leb n _ g) s;
        }
