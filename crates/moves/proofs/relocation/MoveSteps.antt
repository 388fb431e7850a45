-- The steps of a move as the code goes them are the move.
use mathlib.Core.Path.{◌≡◌, ap, sym, ◌∙◌}
use mathlib.Core.Bool.{Bool, true, true≢false}
use mathlib.Core.List.{List, []}
use mathlib.Core.Logic.{◌≢◌}
use Prim.Native.Nat.{ℕ, ◌+◌, ◌*◌, ◌<◌, ◌≤◌}
use native.Mathlib.Omega.{arith}
use lib.ListN.{length, set}
use lib.Dec.{ltb, leb}
use borrow.Author.Tests.{ltb-true}
use Rattle.numbers.specs.Numbers.{most_sectors, most_segments}
use Rattle.lists.specs.Lists.{among}
use Rattle.lists.specs.Parts.{sector, put_sector, sectors}
use Rattle.lists.proofs.LentParts.{length-sector}
use Rattle.lists.proofs.Lists.{all_at}
use Rattle.lists.proofs.Keeps.{among-append_left}
use Rattle.lists.proofs.Puts.{sector_other}
use Rattle.volume.specs.Volume.{sat_at, sat, system, dirs}
use Rattle.volume.specs.Directory.{entry_at, start}
use Rattle.volume.specs.Sat.{with_bit, put_sat}
use Rattle.volume.specs.declared.locate.Layout.{Layout}
use Rattle.ownership.specs.Blocks.{block, total, stream_length, sectors_of, block_sound, extended_by, block_of}
use Rattle.ownership.specs.Owners.{logical, all_owned}
use Rattle.files.proofs.SoundFacts.{Facts}
use Rattle.files.proofs.SoundSat.{free_unowned}
use Rattle.files.proofs.EntryAndSatWritten.{in_sat}
use Rattle.files.proofs.SequentialFile.{fab_inside, logical-inside, logical_is}
use Rattle.files.proofs.slot.SlotInUse.{slot_in, used_Facts, used_Opens}
use Rattle.moves.specs.Moves.{sector_of, rerouted, rerouted_pairs, relocated}
use Rattle.moves.specs.Code.Shapes.{Movable, Writes, moved_with}

-- the data are written first, and the table is still as it was
pub wrote_move : (img b : List ℕ) (sat s from to : ℕ) → Writes img sat s from to → (x y z : List ℕ) → x ≡ put_sector to (sector from img) img
    → y ≡ put_sector sat (with_bit 0 (with_bit 1 (sector sat x) to) from) x → z ≡ put_sector s b y → z ≡ moved_with sat s from to b img
unfolding moved_with
wrote_move img b sat s from to w x y z ex ey ez =
    let l : length (sector from img) ≡ 256 = length-sector from img (omega (arith, w.whole, w.old)) in
    let k : sector sat (put_sector to (sector from img) img) ≡ sector sat img = sector_other to (sector from img) img l (omega (arith, w.whole, w.new)) sat w.two in
    ez ∙ rw (ey, ex, k)

module _ (v : List ℕ) (p : Layout) (k i from to : ℕ) (M : Movable v p k i from to) where
  abbrev e : List ℕ
  e = entry_at v k

  F : Facts v
  F = used_Facts v p k M.file

  hk : k < 8 * dirs v
  hk = slot_in v p k M.file

  -- the access block
  pub block_in : 256 * start (entry_at v k) + 256 ≤ length v
  block_in = (used_Opens v p k M.file M.sequential).inside

  -- as the code reads it
  module _ (s : ℕ) (es : s ≡ start (entry_at v k)) (f : List ℕ) (ef : f ≡ sector s v) where
    is : f ≡ block v e
    unfolding block
    is = ef ∙ ap (λ (x : ℕ). sector x v) es

    pub block_asks : (block_sound most_sectors f ≡ true) × (to < most_sectors)
    unfolding block
    block_asks =
        rw is ((used_Opens v p k M.file M.sequential).block_sound, omega (arith, M.inside, F.high))

    pairs_are : extended_by [] (set (sectors_of f) i to) ≡ rerouted_pairs v (entry_at v k) i to
    unfolding rerouted_pairs rerouted
    pairs_are = rw (logical_is e M.file.used M.sequential v, is)

    -- whether there are few enough segments, and what is written then
    pub is_answer : (r a : Bool) → a ≡ r → a ≡ leb (length (extended_by [] (set (sectors_of f) i to))) most_segments
        → r ≡ leb (length (rerouted_pairs v (entry_at v k) i to)) most_segments
    is_answer r a t h = sym t ∙ h ∙ ap (λ (ps : List (List ℕ)). leb (length ps) most_segments) pairs_are

    pub is_relocated : (b x : List ℕ) → b ≡ block_of (extended_by [] (set (sectors_of f) i to)) (total f) (stream_length f) → x ≡ moved_with p.sat s from to b v
        → x ≡ relocated (entry_at v k) i to v
    unfolding relocated moved_with put_sat sat
    is_relocated b x eb ex = ex ∙ rw (eb, pairs_are, is, es, M.file.located.is_sat, M.is_from)

  -- the sectors that are written
  from_in : from < sectors v
  unfolding sector_of
  from_in =
      let l : sector_of v e i < sectors v = ltb-true _ _ (all_at (λ u. ltb u (sectors v)) (logical v e) i 0 (logical-inside v F k hk M.file.used M.sequential) M.number) in
      omega (arith, M.is_from)

  not_sat : to ≢ sat_at v
  unfolding all_owned
  not_sat h = true≢false (sym (in_sat v) ∙ ap (λ (u : ℕ). among u (system v)) (sym h) ∙ among-append_left to (system v) _ (free_unowned v F to M.inside M.is_free))

  pub moves_sectors : (s : ℕ) → s ≡ start (entry_at v k) → Writes v p.sat s from to
  moves_sectors s h = record {
    whole = F.long;
    high = F.high;
    table = omega (arith, M.file.located.is_sat, F.sat_in);
    block = omega (arith, fab_inside v F k hk M.file.used M.sequential);
    old = from_in;
    new = M.inside;
    two = λ q. not_sat (q ∙ M.file.located.is_sat);
  }
