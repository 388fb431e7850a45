-- What closing up gains: where every free sector lies above the data of every sequential file, the free sectors are cut only by the system's
-- and by where files begin, so the longest free run is a fair share of them.
use mathlib.Core.Path.{◌≡◌, refl, ap, sym, ◌∙◌}
use mathlib.Core.Bool.{Bool, true, false, not, true≢false}
use mathlib.Core.List.{List, [], ◌∷◌, ◌++◌, map}
use mathlib.Core.Logic.{inl, inr}
use Prim.Native.Nat.{ℕ, suc, ◌+◌, ◌-◌, ◌*◌, ◌≤◌, ◌<◌}
use native.Mathlib.Omega.{arith}
use native.Mathlib.Decide.{dec_lt}
use lib.ListN.{length, get_or, length-map}
use lib.Dec.{eqb, ltb}
use borrow.Author.Tests.{ltb-true, eqb-true, not-true, not-false, le-leb, eq-eqb, ne_eqb}
use Rattle.lists.specs.Lists.{range, first, some, kept, flat, index, among}
use Rattle.lists.specs.Parts.{sectors}
use Rattle.lists.proofs.Tests.{or_right, or_first, or_second, or_cases, is_false, both_true}
use Rattle.lists.proofs.Lists.{among-append, all-among}
use Rattle.lists.proofs.Keeps.{among-append_left, among-append_right, range_out}
use Rattle.lists.proofs.Members.{few_members, among-flat, member_below, member_at, among_made}
use Rattle.lists.proofs.Pieces.{length-flat}
use Rattle.lists.proofs.RangeParts.{among-range, distinct-range}
use Rattle.lists.proofs.Ranges.{length-range, range_below, all_each, first_from}
use Rattle.lists.proofs.IndexFound.{some_at, first_holds, first_before}
use Rattle.volume.specs.Volume.{sat_at, dir_at, dirs, sat, system_of, system, layout_of}
use Rattle.volume.specs.Directory.{entries, entry_at, files_in, unused, contiguous, start}
use Rattle.volume.specs.Sat.{marked, is_free, free_sectors, free, run_at, lowest_run}
use Rattle.volume.proofs.Slots.{length-entries}
use Rattle.volume.proofs.RunFound.{run_lowest}
use Rattle.ownership.specs.Owners.{logical, owned, all_owned}
use Rattle.ownership.proofs.OwnedRuns.{owned-unused, owned_run}
use Rattle.files.proofs.SoundFacts.{Facts}
use Rattle.files.proofs.SequentialFile.{owned_is}
use Rattle.files.proofs.OwnersApart.{owned_member}
use Rattle.files.proofs.Kept.FreeAndOwned.{free_is}
use Rattle.files.proofs.taking.LowestFree.{kept_pass, all-kept, distinct-kept}
use Rattle.keeping.proofs.SlotFound.{slot_in, slot_holds}

-- where a free run can end: at the SAT, at the directory, at the trailer, and where a file has its first sector or its access block
stops : List ℕ → List ℕ
stops v = sat_at v ∷ dir_at v ∷ (sectors v - 1) ∷ map start (kept (λ e. not (unused e)) (entries v))

length-stops : (v : List ℕ) → length (stops v) ≡ files_in v + 3
unfolding stops files_in
length-stops v = omega (arith, length-map (kept (λ e. not (unused e)) (entries v)) start)

-- a range whose member has no member before it starts there
range_start : (s i n : ℕ) → among (suc s) (range i n) ≡ true → among s (range i n) ≡ false → suc s ≡ i
range_start s i n m o = elim (dec_lt (suc s) i) [
  | yes l ↦ absurd (true≢false (sym m ∙ among-range (suc s) i n (inl l)))
  | no g ↦ elim (dec_lt (suc s) (i + n)) [
    | yes h ↦ elim (dec_lt s i) [
      | yes l ↦ omega arith
      | no k ↦ absurd (true≢false (sym (range_out s i n (omega arith) (omega arith)) ∙ o))
    ]
    | no h ↦ absurd (true≢false (sym m ∙ among-range (suc s) i n (inr (omega arith))))
  ]
]

-- the n - 1 sectors before a stop
before : ℕ → ℕ → List ℕ
before n s = range (s - (n - 1)) (n - 1)

-- a system sector whose neighbour below is none is the SAT, the trailer or the directory's first
system_stop : (v : List ℕ) (s : ℕ) → among s (system v) ≡ false → among (suc s) (system v) ≡ true → among (suc s) (stops v) ≡ true
unfolding system layout_of system_of stops among
system_stop v s o m = by (eqb (suc s) (sat_at v)) refl (eqb (suc s) (sectors v - 1)) refl
  where
    by : (a : Bool) → eqb (suc s) (sat_at v) ≡ a → (b : Bool) → eqb (suc s) (sectors v - 1) ≡ b → among (suc s) (stops v) ≡ true
    by true p b q = or_first _ _ p
    by false p true q = or_second _ _ (or_second _ _ (or_first _ _ q))
    by false p false q =
        let inner : among (suc s) (range (dir_at v) (dirs v)) ≡ true = or_cases _ _ (or_cases _ _ (or_cases _ _ m (ne_eqb (suc s) 0 (λ z. omega arith))) p) q in
        let outer : among s (range (dir_at v) (dirs v)) ≡ false = or_right _ _ (or_right _ _ (or_right _ _ o)) in
        or_second _ _ (or_first _ _ (eq-eqb _ _ (range_start s (dir_at v) (dirs v) inner outer)))

-- where the run of a free sector ends: at the first marked sector above it
end_of : List ℕ → ℕ → ℕ
end_of v x = first (marked (sat v)) x (sectors v - x)

last_marked : (v : List ℕ) → Facts v → marked (sat v) (sectors v - 1) ≡ true
unfolding is_free all_owned system layout_of system_of among
last_marked v F =
    let t : sectors v - 1 < sectors v = omega (arith, F.low) in
    let m : among (sectors v - 1) (all_owned v) ≡ true = or_second _ _ (or_second _ _ (or_first _ _ (eq-eqb (sectors v - 1) _ refl))) in
    not-false _ (free_is v F (sectors v - 1) t ∙ ap not m)

module _ (v : List ℕ) (F : Facts v) (x : ℕ) (l : x < sectors v) (f : is_free (sat v) x ≡ true) where
  -- there is one, for the trailer is marked
  end_in : end_of v x < sectors v
  unfolding end_of
  end_in = elim (dec_lt (end_of v x) (sectors v)) [
    | yes h ↦ h
    | no h ↦
        absurd (true≢false (sym (last_marked v F) ∙ first_before (marked (sat v)) x (sectors v - x) (sectors v - 1) (omega arith) (omega arith)))
  ]

  end_marked : marked (sat v) (end_of v x) ≡ true
  unfolding end_of
  end_marked = first_holds (marked (sat v)) x (sectors v - x) (omega (arith, end_in))

  end_after : x < end_of v x
  unfolding is_free end_of
  end_after = elim (dec_lt x (end_of v x)) [
    | yes h ↦ h
    | no h ↦
        let q : x ≡ end_of v x = omega (arith, first_from (marked (sat v)) x (sectors v - x)) in
        absurd (true≢false (sym end_marked ∙ ap (marked (sat v)) (sym q) ∙ not-true _ f))
  ]

  free_below : (y : ℕ) → x ≤ y → y < end_of v x → is_free (sat v) y ≡ true
  unfolding is_free end_of
  free_below y a b = ap not (first_before (marked (sat v)) x (sectors v - x) y a b)

  -- where no run of n sectors starts, it ends before the n-th
  end_near : (n : ℕ) → run_at (sat v) (sectors v) n x ≡ false → end_of v x < x + n
  unfolding run_at
  end_near n r = elim (dec_lt (end_of v x) (x + n)) [
    | yes h ↦ h
    | no h ↦
        let fits = le-leb (x + n) (sectors v) (omega (arith, end_in)) in
        absurd (true≢false (sym (both_true _ _ fits (all_each (is_free (sat v)) x n (λ y a b. free_below y a (omega arith)))) ∙ r))
  ]

module _ (v : List ℕ) (F : Facts v)
    (above : (k a x : ℕ) → k < 8 * dirs v → unused (entry_at v k) ≡ false → contiguous (entry_at v k) ≡ false → a < length (logical v (entry_at v k)) → x < sectors v
    → is_free (sat v) x ≡ true → get_or (logical v (entry_at v k)) a 0 < x) where
  -- a file's sector after a free one is its first, or its access block
  file_stop : (k : ℕ) → k < 8 * dirs v → (s : ℕ) → suc s < sectors v → is_free (sat v) s ≡ true → among s (owned v (entry_at v k)) ≡ false
      → among (suc s) (owned v (entry_at v k)) ≡ true → (unused (entry_at v k) ≡ false) × (suc s ≡ start (entry_at v k))
  unfolding among
  file_stop k hk s l f o m = by (unused e) refl (contiguous e) refl
    where
      e : List ℕ
      e = entry_at v k

      by : (a : Bool) → unused e ≡ a → (b : Bool) → contiguous e ≡ b → (unused e ≡ false) × (suc s ≡ start e)
      by true u b c = absurd (true≢false (sym m ∙ ap (among (suc s)) (owned-unused v e u)))
      by false u true c =
          let own : owned v e ≡ range _ _ = owned_run v e _ _ u c refl refl in
          (u, range_start s _ _ (rw own at m) (rw own at o))
      by false u false c = seq (eqb (suc s) (start e)) refl
        where
          seq : (q : Bool) → eqb (suc s) (start e) ≡ q → (unused e ≡ false) × (suc s ≡ start e)
          seq true q = (u, eqb-true _ _ q)
          seq false q =
              let ds : List ℕ = logical v e in
              let n : among (suc s) ds ≡ true = or_cases _ _ (rw (owned_is e u c v) at m) q in
              let low = above k (index (eqb (suc s)) ds) s hk u c (member_below (suc s) ds n) (omega arith) f in
              absurd (omega (arith, member_at (suc s) ds n, low))

  -- so every marked sector after a free one is a stop
  run_stop : (s : ℕ) → suc s < sectors v → is_free (sat v) s ≡ true → marked (sat v) (suc s) ≡ true → among (suc s) (stops v) ≡ true
  unfolding is_free all_owned stops among entry_at
  run_stop s l f m = by (among (suc s) (system v)) refl
    where
      files : List ℕ
      files = flat (owned v) (entries v)

      out : among s (system v ++ files) ≡ false
      out = not-true _ (sym (free_is v F s (omega arith)) ∙ f)

      inside : among (suc s) (system v ++ files) ≡ true
      inside = not-false _ (sym (free_is v F (suc s) l) ∙ ap not m)

      by : (b : Bool) → among (suc s) (system v) ≡ b → among (suc s) (stops v) ≡ true
      by true q = system_stop v s (among-append_left s (system v) files out) q
      by false q =
          let has : List ℕ → Bool = λ e. among (suc s) (owned v e) in
          let in-files : among (suc s) files ≡ true = or_cases _ _ (sym (among-append (suc s) (system v) files) ∙ inside) q in
          let h : some has (entries v) ≡ true = sym (among-flat (owned v) (suc s) (entries v)) ∙ in-files in
          let k : ℕ = index has (entries v) in
          let hk : k < 8 * dirs v = slot_in v has h in
          let o : among s (owned v (entry_at v k)) ≡ false =
          is_false _ (λ n. true≢false (sym (owned_member v F k s hk n) ∙ among-append_right s (system v) files out)) in
          let t = file_stop k hk s l f o (slot_holds v has h) in
          let made = among_made start (λ e. not (unused e)) (entries v) k [] (omega (arith, length-entries v)) (ap not t.0) in
          or_second _ _ (or_second _ _ (or_second _ _ (ap (λ (i : ℕ). among i (map start (kept (λ e. not (unused e)) (entries v)))) t.1 ∙ made)))

  end_stop : (x : ℕ) → x < sectors v → is_free (sat v) x ≡ true → among (end_of v x) (stops v) ≡ true
  end_stop x l f =
      let s : ℕ = end_of v x - 1 in
      let a : x < end_of v x = end_after v F x l f in
      let q : suc s ≡ end_of v x = omega arith in
      ap (λ (i : ℕ). among i (stops v)) (sym q)
      ∙ run_stop s (omega (arith, end_in v F x l f)) (free_below v F x l f s (omega arith) (omega arith)) (ap (marked (sat v)) q ∙ end_marked v F x l f)

  -- if there were no run of n sectors, every free sector would be one of the n - 1 before a stop
  near_stop : (n : ℕ) → sectors v ≤ lowest_run n v → (x : ℕ) → x < sectors v → is_free (sat v) x ≡ true → among x (flat (before n) (stops v)) ≡ true
  unfolding before
  near_stop n none x l f =
      let s : ℕ = end_of v x in
      let m : among s (stops v) ≡ true = end_stop x l f in
      let near : s < x + n = end_near v F x l f n (run_lowest n v x (omega arith)) in
      let here : among x (before n s) ≡ true = range_out x (s - (n - 1)) (n - 1) (omega arith) (omega (arith, end_after v F x l f)) in
      among-flat (before n) x (stops v)
      ∙ some_at (λ i. among x (before n i)) (stops v) 0 (index (eqb s) (stops v)) (member_below s (stops v) m)
      (ap (λ (i : ℕ). among x (before n i)) (member_at s (stops v) m) ∙ here)

  -- more free sectors than n - 1 for each stop: there is a run of n
  pub long_run : (n : ℕ) → 1 ≤ n → (n - 1) * (files_in v + 3) < free v → lowest_run n v < sectors v
  unfolding free free_sectors before
  long_run n one many = elim (dec_lt (lowest_run n v) (sectors v)) [
    | yes h ↦ h
    | no h ↦ absurd (omega (arith, few (omega arith), room))
  ]
    where
      all-sectors : List ℕ
      all-sectors = range 0 (sectors v)

      room : length (flat (before n) (stops v)) ≡ (n - 1) * (files_in v + 3)
      room = length-flat (n - 1) (before n) 0 (stops v) (λ i l. length-range _ (n - 1)) ∙ ap (λ (k : ℕ). (n - 1) * k) (length-stops v)

      few : sectors v ≤ lowest_run n v → length (free_sectors v) ≤ length (flat (before n) (stops v))
      few none =
          few_members (free_sectors v) (flat (before n) (stops v)) (distinct-kept (is_free (sat v)) all-sectors (distinct-range 0 (sectors v))) (λ x m.
          let below = all-kept (is_free (sat v)) (λ u. ltb u (sectors v)) all-sectors (range_below (sectors v) 0 (sectors v) (omega arith)) in
          near_stop n none x (ltb-true _ _ (all-among (λ u. ltb u (sectors v)) (free_sectors v) x below m))
          (all-among (is_free (sat v)) (free_sectors v) x (kept_pass (is_free (sat v)) all-sectors) m))
