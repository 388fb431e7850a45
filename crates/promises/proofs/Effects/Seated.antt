-- What accepted assign, close and rewind do.
use mathlib.Core.Path.{◌≡◌, refl, sym}
use mathlib.Core.Bool.{true, false, Bool}
use mathlib.Core.List.{List}
use mathlib.Core.Logic.{◌⊎◌, inl, inr}
use Prim.Native.Nat.{ℕ, ◌-◌, ◌≤◌, ◌<◌}
use native.Mathlib.Omega.{arith}
use lib.Dec.{leb}
use borrow.Author.Tests.{le-leb, ltb-true, lt-leb}
use Rattle.numbers.specs.Numbers.{lun_count}
use Rattle.lists.specs.Lists.{◌and◌}
use Rattle.lists.proofs.Tests.{and_left, and_right}
use Rattle.lists.proofs.Lists.{same-true}
use Rattle.volume.specs.Directory.{entry_at, named, described}
use Rattle.files.specs.Files.{extent}
use Rattle.luns.specs.declared.Mode.{Mode}
use Rattle.luns.specs.declared.Place.TheVariants.{Fresh, At}
use Rattle.luns.specs.Luns.{free_lun, moved_to}
use Rattle.luns.specs.Modes.{mode_of, writes}
use Rattle.luns.proofs.Fitting.{may_read_lem}
use Rattle.work.specs.Volumes.{slot_of}
use Rattle.desk.specs.Desk.{State, lun_at, mine, spare}
use Rattle.desk.specs.Calls.{assign, close, rewind, done, quietly, start_of, seat_of, new_lun}
use Rattle.promises.specs.Seating.{Seats, AcceptedAssign, Frees, AcceptedClose, Rewinds, AcceptedRewind}
use Rattle.promises.proofs.Passing.{accepted, carried}
use Rattle.promises.proofs.Told.{BeginTold, AssignTold, assign_told, close_told, rewind_told}
use Rattle.promises.proofs.Held.{ready_Fitting, Held, Held-by}
use Rattle.promises.proofs.OneLun.{only_put}
use Rattle.promises.proofs.NamedFile.{file_named}

-- the place at which a LUN starts
start_last : (v e : List ℕ) (m : Mode) (end : Bool) → end ≡ true → writes m ≡ true → 1 ≤ extent v e → start_of v e m end ≡ At (extent v e - 1) 1
unfolding start_of ◌and◌
start_last v e m end a b c = rw (a, b, le-leb 1 (extent v e) c)

start_fresh : (v e : List ℕ) (m : Mode) (end : Bool) → (end ≡ false) ⊎ ((writes m ≡ false) ⊎ (extent v e ≡ 0)) → start_of v e m end ≡ Fresh
unfolding start_of ◌and◌
start_fresh v e m end h = rw (stops h)
  where
    none : (a b c : Bool) → (a ≡ false) ⊎ ((b ≡ false) ⊎ (c ≡ false)) → (a and b and c) ≡ false
    none false b c h = refl
    none true false c h = refl
    none true true false h = refl
    none true true true (inl h) = h
    none true true true (inr (inl h)) = h
    none true true true (inr (inr h)) = h

    stops : (end ≡ false) ⊎ ((writes m ≡ false) ⊎ (extent v e ≡ 0)) → (end and writes m and leb 1 (extent v e)) ≡ false
    stops (inl h) = none end (writes m) _ (inl h)
    stops (inr (inl h)) = none end (writes m) _ (inr (inl h))
    stops (inr (inr h)) = none end (writes m) _ (inr (inr (lt-leb 1 (extent v e) (omega arith))))

-- Assign
module _ (caller lun : ℕ) (desc : List ℕ) (mode : ℕ) (end : Bool) (offered : ℕ) (s : State) (T : AssignTold s caller lun desc mode end offered) where
  lun_in : lun < lun_count
  unfolding spare
  lun_in = ltb-true _ _ (and_right _ _ (and_left _ _ T.is_spare))

  its_file : described (entry_at s.image (slot_of s.image desc)) ≡ desc
  unfolding named
  its_file = sym (same-true _ _ (file_named T.named_file))

  seats : Seats s (carried (assign caller lun desc mode end offered) s) caller lun desc mode end offered (new_lun s.image caller desc mode end offered)
  unfolding done quietly new_lun seat_of
  seats = record {
    answered = refl;
    image_kept = refl;
    only_lun = only_put s lun _ lun_in (ready_Fitting s T.is_ready);
    is_held = refl;
    its_user = refl;
    its_slot = refl;
    its_file = its_file;
    its_mode = refl;
    its_code = refl;
    may_read = may_read_lem s.image (new_lun s.image caller desc mode end offered) T.read_right;
    at_last = start_last s.image _ (mode_of mode) end;
    fresh_else = start_fresh s.image _ (mode_of mode) end;
  }

pub accepted_assign : AcceptedAssign
accepted_assign s caller lun desc mode end offered h =
    let a = accepted (assign caller lun desc mode end offered) s h in
    (new_lun s.image caller desc mode end offered, rw a.is (seats caller lun desc mode end offered s (assign_told caller lun desc mode end offered s a)))

-- Close and rewind
frees : (caller lun : ℕ) (s : State) → BeginTold s (mine s.desk caller lun) → Frees s (carried (close caller lun) s) lun
unfolding done quietly
frees caller lun s T =
    let H : Held s lun = Held-by s caller lun T.is_ready T.is_fine in
    record { answered = refl; image_kept = refl; only_lun = only_put s lun free_lun H.lun_in H.fits_of }

pub accepted_close : AcceptedClose
accepted_close s caller lun h = let a = accepted (close caller lun) s h in rw a.is (frees caller lun s (close_told caller lun s a))

rewinds : (caller lun : ℕ) (s : State) → BeginTold s (mine s.desk caller lun) → Rewinds s (carried (rewind caller lun) s) lun
unfolding done quietly
rewinds caller lun s T =
    let H : Held s lun = Held-by s caller lun T.is_ready T.is_fine in
    record { answered = refl; image_kept = refl; only_lun = only_put s lun (moved_to Fresh (lun_at s.desk lun)) H.lun_in H.fits_of }

pub accepted_rewind : AcceptedRewind
accepted_rewind s caller lun h = let a = accepted (rewind caller lun) s h in rw a.is (rewinds caller lun s (rewind_told caller lun s a))
