-- How the hunt for a run goes from quad to quad: what the first and the last mark of a quad say of the runs that start before them, and its
-- free bits of those within it.
use mathlib.Core.Path.{◌≡◌, sym, ap, ◌∙◌}
use mathlib.Core.List.{List}
use mathlib.Core.Bool.{true, false, not, false≢true}
use Prim.Native.Nat.{ℕ, ◌+◌, ◌-◌, ◌*◌, ◌/◌, ◌%◌, ◌^◌, ◌<◌, ◌≤◌}
use native.Mathlib.Omega.{arith}
use native.Mathlib.Decide.{dec_lt}
use Rattle.lists.specs.Lists.{first}
use Rattle.lists.proofs.AreBytes.{Bytes}
use Rattle.lists.proofs.IndexFound.{first_holds, first_before}
use Rattle.lists.proofs.Ranges.{first_to}
use Rattle.lists.proofs.Tests.{is_false}
use Rattle.volume.specs.Sat.{is_free, run_at}
use Rattle.volume.specs.Code.Searches.{bit_at, quad, row_at, EndsAt}
use Rattle.volume.proofs.Searches.SearchStops.{found_none}
use Rattle.volume.proofs.Searches.TableQuads.{quad_bit, quad_gap}
use Rattle.volume.proofs.Searches.BitRows.{row_yes, row_fits, row_bits}
use Rattle.volume.proofs.Searches.RunHunt.{None, run_not, run_each, None-over, lowest_at, lowest_None}

-- before the quad from sector i on: every sector from `start` up to i is free, and no run starts below `start`
pub record Hunt (b : List ℕ) (t n start i : ℕ) : Type 0 where
  pub from : start ≤ i
  pub short : i < start + n
  pub to : i ≤ t + 64
  pub whole : i % 64 ≡ 0
  pub free : (k : ℕ) → start ≤ k → k < i → is_free b k ≡ true
  pub none : None b t n start

pub begun : (b : List ℕ) (t n : ℕ) → 1 ≤ n → Hunt b t n 0 0
begun b t n h = record {
  from = omega arith;
  short = omega arith;
  to = omega arith;
  whole = omega arith;
  free = λ k l g. absurd (omega arith);
  none = λ k l. absurd (omega arith);
}

module _ (b : List ℕ) (t n start i : ℕ) (bytes : Bytes b) (low : 1 ≤ n) (hunt : Hunt b t n start i) (room : start + n ≤ t) where
  -- the quad's marks, and its gaps: the complement
  abbrev marks : ℕ
  marks = quad b (i / 64)

  abbrev gaps : ℕ
  gaps = (2 ^ 64 - 1) - marks

  at_place : (j : ℕ) → 64 * (i / 64) + j ≡ i + j
  at_place j = omega (arith, hunt.whole)

  by_mark : (j : ℕ) → j < 64 → is_free b (i + j) ≡ not (bit_at 64 marks j)
  unfolding is_free
  by_mark j h = ap not (sym (rw (at_place j) at (quad_bit b bytes (i / 64) j h)))

  by_gap : (j : ℕ) → j < 64 → bit_at 64 gaps j ≡ is_free b (i + j)
  by_gap j h = rw (at_place j) at (quad_gap b bytes (i / 64) j h)

  -- h sectors of the quad are free before its first mark
  module _ (h : ℕ) (e : h ≡ first (bit_at 64 marks) 0 64) where
    head_free : (j : ℕ) → j < h → is_free b (i + j) ≡ true
    head_free j l =
        by_mark j (omega (arith, e, first_to (bit_at 64 marks) 0 64)) ∙ ap not (first_before (bit_at 64 marks) 0 64 j (omega arith) (omega (arith, e)))

    head_marked : h < 64 → is_free b (i + h) ≡ false
    head_marked l = by_mark h l ∙ ap not (rw (← e) at (first_holds (bit_at 64 marks) 0 64 (omega (arith, e))))

    up_to_head : (k : ℕ) → start ≤ k → k < i + h → is_free b k ≡ true
    up_to_head k l g = elim (dec_lt k i) [
      | yes p ↦ hunt.free k l p
      | no p ↦ let z : i + (k - i) ≡ k = omega arith in rw z at (head_free (k - i) (omega arith))
    ]

    -- they make up the run
    pub found_head : start + n ≤ i + h → start ≡ first (run_at b t n) 0 t
    found_head g = lowest_at b t n start (omega arith) room hunt.none (λ k l m. up_to_head k l (omega arith))

    -- or it would go over the first mark; then the lowest run within the quad starts at its bit k, unless k is 64
    module _ (over : i + h < start + n) (k : ℕ) (r : k ≡ first (row_at gaps n) 0 64) where
      none_at_head : h < 64 → (s : ℕ) → s ≤ i + h → run_at b t n s ≡ false
      none_at_head l s g = None-over b t n start (i + h) hunt.none over (head_marked l) s (omega arith)

      none_in_row : (j : ℕ) → j + n ≤ 64 → j < k → run_at b t n (i + j) ≡ false
      none_in_row j l g =
          is_false _ (λ y. false≢true (sym (first_before (row_at gaps n) 0 64 j (omega arith) (omega (arith, r)))
          ∙ row_yes gaps n j l (λ q p m. by_gap q (omega arith) ∙ run_each b t n (i + j) y (i + q) (omega arith) (omega arith))))

      module _ (inside : k < 64) where
        row : row_at gaps n k ≡ true
        row = rw (← r) at (first_holds (row_at gaps n) 0 64 (omega (arith, r)))

        fits : k + n ≤ 64
        fits = row_fits gaps n k row

        None-before_row : None b t n (i + k)
        None-before_row s l = elim (dec_lt (i + h) s) [
          | yes p ↦ let z : i + (s - i) ≡ s = omega arith in rw z at (none_in_row (s - i) (omega (arith, fits)) (omega arith))
          | no p ↦ none_at_head (omega (arith, fits, hunt.from)) s (omega arith)
        ]

        row_free : (s : ℕ) → i + k ≤ s → s < i + k + n → is_free b s ≡ true
        row_free s l g =
            let z : i + (s - i) ≡ s = omega arith in
            rw z at (sym (by_gap (s - i) (omega (arith, fits))) ∙ row_bits gaps n k row (s - i) (omega arith) (omega arith))

        pub found_row : i + k + n ≤ t → i + k ≡ first (run_at b t n) 0 t
        found_row g = lowest_at b t n (i + k) (omega arith) g None-before_row row_free

        pub found_late : t < i + k + n → t ≡ first (run_at b t n) 0 t
        found_late g = lowest_None b t n (i + k) g None-before_row

      -- no run within the quad, whose marks end before its bit `last`: the next may start there, or, where it has no mark, where it might before
      module _ (outside : 64 ≤ k) (last : ℕ) (ends : EndsAt marks last) where
        tail_free : (s : ℕ) → i + last ≤ s → s < i + 64 → is_free b s ≡ true
        tail_free s l g =
            let z : i + (s - i) ≡ s = omega arith in
            rw z at (by_mark (s - i) (omega arith) ∙ ap not (ends.clear (s - i) (omega arith) (omega arith)))

        tail_short : 64 < last + n
        tail_short = elim (dec_lt 64 (last + n)) [
          | yes l ↦ l
          | no l ↦
              absurd (false≢true (sym (first_before (row_at gaps n) 0 64 last (omega arith) (omega (arith, r)))
              ∙ row_yes gaps n last (omega arith) (λ j p g. by_gap j (omega arith) ∙ tail_free (i + j) (omega arith) (omega arith))))
        ]

        module _ (some : 0 < last) where
          last_marked : is_free b (i + (last - 1)) ≡ false
          last_marked = by_mark (last - 1) (omega (arith, ends.within)) ∙ ap not (ends.last (last - 1) (omega arith))

          head_in : h < last
          head_in = elim (dec_lt h last) [
            | yes l ↦ l
            | no l ↦ absurd (false≢true (sym last_marked ∙ head_free (last - 1) (omega arith)))
          ]

          None-to_last : None b t n (i + last)
          None-to_last s l = elim (dec_lt (i + h) s) [
            | no p ↦ none_at_head (omega (arith, head_in, ends.within)) s (omega arith)
            | yes p ↦ elim (dec_lt (i + 64) (s + n)) [
              | yes q ↦ run_not b t n s (i + (last - 1)) (omega arith) (omega (arith, ends.within)) last_marked
              | no q ↦ let z : i + (s - i) ≡ s = omega arith in rw z at (none_in_row (s - i) (omega arith) (omega (arith, ends.within)))
            ]
          ]

          pub goes_after : Hunt b t n (i + last) (i + 64)
          goes_after = record {
            from = omega (arith, ends.within);
            short = omega (arith, tail_short);
            to = omega (arith, hunt.short);
            whole = omega (arith, hunt.whole);
            free = tail_free;
            none = None-to_last;
          }

        pub goes_on : last ≡ 0 → Hunt b t n start (i + 64)
        goes_on empty = record {
          from = omega (arith, hunt.from);
          short = omega (arith, head-whole);
          to = omega (arith, hunt.short);
          whole = omega (arith, hunt.whole);
          free = λ s l g. up_to_head s l (omega (arith, head-whole));
          none = hunt.none;
        }
          where
            head-whole : h ≡ 64
            head-whole = e ∙ found_none (bit_at 64 marks) 0 64 (omega arith) (λ j p g. ends.clear j (omega arith) g)
