-- A volume whose sequential files' sectors moved: the same directory, files with the bytes they had, as many free sectors. It holds of one move,
-- and of any number of them.
use mathlib.Core.Path.{◌≡◌, refl, ap, sym, ◌∙◌}
use mathlib.Core.Bool.{Bool, true, false, true≢false}
use mathlib.Core.List.{List, [], ◌∷◌, ◌++◌}
use Prim.Native.Nat.{ℕ, ◌*◌, ◌<◌, ◌≤◌}
use native.Mathlib.Decide.{ℕ_discrete}
use lib.Dec.{eqb}
use lib.ListN.{length}
use Rattle.numbers.specs.Numbers.{most_segments}
use Rattle.lists.specs.Lists.{among, range}
use Rattle.lists.specs.Parts.{sector, sectors}
use Rattle.lists.proofs.AreBytes.{Bytes}
use Rattle.volume.specs.Volume.{dirs, sat_at, sat, system, layout_of}
use Rattle.volume.specs.Directory.{entries, entry_at, unused, contiguous, start}
use Rattle.volume.specs.Sat.{is_free, free}
use Rattle.ownership.specs.Blocks.{block, stream_length}
use Rattle.ownership.specs.Owners.{logical, owned}
use Rattle.files.specs.Files.{stored, stream, records, record_at, extent, sound}
use Rattle.files.proofs.SoundFacts.{Facts, counts_true}
use Rattle.files.proofs.OwnersApart.{clear_at}
use Rattle.files.proofs.OneFileChanged.{Changed, file_other}
use Rattle.moves.specs.Moves.{rerouted_pairs, relocated}
use Rattle.moves.proofs.Relocated.{relocated-Changed, relocated_layout, relocated-entries, relocated-stored, relocated_long, relocated-system}
use Rattle.moves.proofs.RelocatedSound.{relocated-sound, relocated-Bytes, relocated_count}

pub record Rearranged (v v' : List ℕ) : Type 0 where
  pub as_long : length v' ≡ length v
  pub layout_same : layout_of v' ≡ layout_of v
  pub entries_same : entries v' ≡ entries v
  pub sound_after : sound v ≡ true → sound v' ≡ true
  pub bytes_after : Bytes v → Bytes v'
  -- a file's bytes, and how many of them are its stream
  pub stored_same : (k : ℕ) → k < 8 * dirs v → unused (entry_at v k) ≡ false → stored v' (entry_at v k) ≡ stored v (entry_at v k)
  pub long_same : (k : ℕ) → k < 8 * dirs v → unused (entry_at v k) ≡ false → contiguous (entry_at v k) ≡ false
      → stream_length (block v' (entry_at v k)) ≡ stream_length (block v (entry_at v k))
  -- what stays in its place: the system's sectors but the SAT, and those of contiguous files
  pub system_same : (u : ℕ) → among u (system v) ≡ true → eqb u (sat_at v) ≡ false → sector u v' ≡ sector u v
  pub run_same : (k : ℕ) → k < 8 * dirs v → unused (entry_at v k) ≡ false → contiguous (entry_at v k) ≡ true → (u : ℕ) → among u (logical v (entry_at v k)) ≡ true
      → sector u v' ≡ sector u v
  pub as_many_free : free v' ≡ free v

-- a contiguous file's sectors are told by its entry alone
pub run_logical : (v v' e : List ℕ) → contiguous e ≡ true → logical v' e ≡ logical v e
unfolding logical
run_logical v v' e c = rw c

-- what follows of the directory and the layout, and of a used file
module _ (v v' : List ℕ) (R : Rearranged v v') where
  pub entry_same : (k : ℕ) → entry_at v' k ≡ entry_at v k
  unfolding entry_at
  entry_same k = rw R.entries_same

  pub dirs_same : dirs v' ≡ dirs v
  unfolding layout_of
  dirs_same = ap (λ p. p.dirs) R.layout_same

  pub sectors_same : sectors v' ≡ sectors v
  unfolding layout_of
  sectors_same = ap (λ p. p.t) R.layout_same

  pub sat_at_same : sat_at v' ≡ sat_at v
  unfolding layout_of
  sat_at_same = ap (λ p. p.sat) R.layout_same

  pub system_as_was : system v' ≡ system v
  unfolding system
  system_as_was = rw R.layout_same

  module _ (k : ℕ) (hk : k < 8 * dirs v) (used : unused (entry_at v k) ≡ false) where
    pub stream_rearranged : contiguous (entry_at v k) ≡ false → stream v' (entry_at v k) ≡ stream v (entry_at v k)
    unfolding stream
    stream_rearranged s = rw (R.long_same k hk used s, R.stored_same k hk used)

    pub records_rearranged : contiguous (entry_at v k) ≡ false → records v' (entry_at v k) ≡ records v (entry_at v k)
    unfolding records
    records_rearranged s = rw (stream_rearranged s)

    pub record_at_rearranged : contiguous (entry_at v k) ≡ false → (i : ℕ) → record_at v' (entry_at v k) i ≡ record_at v (entry_at v k) i
    unfolding record_at
    record_at_rearranged s i = rw (records_rearranged s)

    pub extent_rearranged : extent v' (entry_at v k) ≡ extent v (entry_at v k)
    unfolding extent
    extent_rearranged = go (contiguous (entry_at v k)) refl
      where
        go : (b : Bool) → contiguous (entry_at v k) ≡ b → extent v' (entry_at v k) ≡ extent v (entry_at v k)
        go true s = rw s
        go false s = rw (records_rearranged s)

pub Rearranged-refl : (v : List ℕ) → Rearranged v v
Rearranged-refl v = record {
  as_long = refl;
  layout_same = refl;
  entries_same = refl;
  sound_after = λ s. s;
  bytes_after = λ b. b;
  stored_same = λ k h u. refl;
  long_same = λ k h u s. refl;
  system_same = λ u m n. refl;
  run_same = λ k h u c s m. refl;
  as_many_free = refl;
}

-- first from v to w, then from w to v'
pub Rearranged-trans : (v w v' : List ℕ) → Rearranged v w → Rearranged w v' → Rearranged v v'
Rearranged-trans v w v' R S = record {
  as_long = S.as_long ∙ R.as_long;
  layout_same = S.layout_same ∙ R.layout_same;
  entries_same = S.entries_same ∙ R.entries_same;
  sound_after = λ s. S.sound_after (R.sound_after s);
  bytes_after = λ b. S.bytes_after (R.bytes_after b);
  stored_same = λ k h u. (rw (entry_same v w R k) at (S.stored_same k (slot k h) (rw (entry_same v w R k) u))) ∙ R.stored_same k h u;
  long_same = λ k h u s.
      (rw (entry_same v w R k) at (S.long_same k (slot k h) (rw (entry_same v w R k) u) (rw (entry_same v w R k) s))) ∙ R.long_same k h u s;
  system_same = λ u m n. S.system_same u (rw (system_as_was v w R) m) (rw (sat_at_same v w R) n) ∙ R.system_same u m n;
  run_same = λ k h u c s m.
      S.run_same k (slot k h) (rw (entry_same v w R k) u) (rw (entry_same v w R k) c) s (rw (entry_same v w R k, run_logical v w (entry_at v k) c) m)
      ∙ R.run_same k h u c s m;
  as_many_free = S.as_many_free ∙ R.as_many_free;
}
  where
    slot : (k : ℕ) → k < 8 * dirs v → k < 8 * dirs w
    slot k h = rw (dirs_same v w R) h

-- one move
module _ (v : List ℕ) (F : Facts v) (k : ℕ) (hk : k < 8 * dirs v) (used : unused (entry_at v k) ≡ false) (seq : contiguous (entry_at v k) ≡ false) (i q : ℕ)
    (hi : i < length (logical v (entry_at v k))) (hq : q < sectors v) (fr : is_free (sat v) q ≡ true)
    (few : length (rerouted_pairs v (entry_at v k) i q) ≤ most_segments) where
  abbrev e : List ℕ
  e = entry_at v k

  abbrev v' : List ℕ
  v' = relocated e i q v

  abbrev ws : List ℕ
  ws = (start e ∷ q ∷ []) ++ range (sat_at v) 1

  C : Changed v v' k e ws
  C = relocated-Changed v F k hk used seq i q hi hq fr few

  stored_at : (j : ℕ) → j < 8 * dirs v → unused (entry_at v j) ≡ false → stored v' (entry_at v j) ≡ stored v (entry_at v j)
  stored_at j h u = elim (ℕ_discrete j k) [
    | yes z ↦ rw z (relocated-stored v F k hk used seq i q hi hq fr few)
    | no n ↦ (file_other v v' k e ws C j h n u).stored_same
  ]

  long_at : (j : ℕ) → j < 8 * dirs v → unused (entry_at v j) ≡ false → contiguous (entry_at v j) ≡ false
      → stream_length (block v' (entry_at v j)) ≡ stream_length (block v (entry_at v j))
  long_at j h u s = elim (ℕ_discrete j k) [
    | yes z ↦ rw z (relocated_long v F k hk used seq i q hi hq fr few)
    | no n ↦ ap (λ (b : List ℕ). stream_length b) ((file_other v v' k e ws C j h n u).block_same u s)
  ]

  run_at : (j : ℕ) → j < 8 * dirs v → unused (entry_at v j) ≡ false → contiguous (entry_at v j) ≡ true → (u : ℕ) → among u (logical v (entry_at v j)) ≡ true
      → sector u v' ≡ sector u v
  unfolding owned
  run_at j h us c u m =
      C.keeps.at u
      (clear_at ws (owned v (entry_at v j)) u (C.others_out j h (λ z. true≢false (sym c ∙ ap (λ (n : ℕ). contiguous (entry_at v n)) z ∙ seq))) (rw (us, c) m))

  pub relocated-Rearranged : Rearranged v (relocated (entry_at v k) i q v)
  relocated-Rearranged = record {
    as_long = C.keeps.long;
    layout_same = relocated_layout v F k hk used seq i q hi hq fr few;
    entries_same = relocated-entries v F k hk used seq i q hi hq fr few;
    sound_after = λ s. relocated-sound v F k hk used seq i q hi hq fr few (counts_true v s);
    bytes_after = relocated-Bytes v F k hk used seq i q hi hq fr few;
    stored_same = stored_at;
    long_same = long_at;
    system_same = relocated-system v F k hk used seq i q hi hq fr few;
    run_same = run_at;
    as_many_free = relocated_count v F k hk used seq i q hi hq fr few;
  }
