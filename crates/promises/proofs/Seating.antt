-- Assign, close and rewind: the image stays, and the LUN that each puts fits.
use Rattle.std.specs.Prelude.{if◌then◌else◌}
use mathlib.Core.Path.{◌≡◌, refl, ap, ◌∙◌, sym}
use mathlib.Core.Bool.{true, false, Bool, not, true≢false}
use mathlib.Core.List.{List, ◌∷◌}
use Prim.Native.Nat.{ℕ, ◌-◌, ◌≤◌}
use native.Mathlib.Omega.{arith}
use lib.Dec.{leb}
use borrow.Author.Tests.{leb-true}
use Rattle.lists.specs.Lists.{◌and◌, ◌or◌}
use Rattle.lists.proofs.Tests.{and_right, and_left}
use Rattle.lists.proofs.Lists.{same-true}
use Rattle.volume.specs.Names.{user_of}
use Rattle.volume.specs.Directory.{entry_at, contiguous, named, owner}
use Rattle.volume.proofs.EntryFields.{described-owner}
use Rattle.files.specs.Files.{extent}
use Rattle.files.specs.Rights.{has_right}
use Rattle.luns.specs.declared.Place.TheVariants.{Fresh, At}
use Rattle.luns.specs.Luns.{place_exists, free_lun, moved_to}
use Rattle.luns.specs.declared.Mode.{Mode}
use Rattle.luns.specs.Modes.{writes, mode_of}
use Rattle.luns.proofs.Fitting.{fitting, free_fits, all-agree_free, Fitted, Fitted-Lun}
use Rattle.work.specs.Volumes.{slot_of}
use Rattle.desk.specs.Desk.{State, state, put_lun, lun_at, mine, spare}
use Rattle.desk.specs.declared.Desk.{Desk}
use Rattle.desk.specs.Calls.{nothing, start_of, seat_of, new_lun}
use Rattle.desk.proofs.DeskFitting.{put_Fitting, moved_Fitting}
use Rattle.promises.proofs.Preserving.{Preserves, Preserves-Desk, Good-Desk}
use Rattle.promises.proofs.Told.{BeginTold, AssignTold}
use Rattle.promises.proofs.Held.{Held, Held-by}
use Rattle.promises.proofs.NamedFile.{file_named, file_used}
use Rattle.promises.proofs.Units.{extent_run}
use Rattle.promises.proofs.PlacesExist.{place_run, place_one}

fresh_exists : (v e : List ℕ) → place_exists v e Fresh ≡ true
unfolding place_exists
fresh_exists v e = refl

-- Close and rewind
free_is : free_lun.held ≡ false
unfolding free_lun
free_is = refl

-- the desk after each
abbrev pub closed_at : State → ℕ → Desk
closed_at s lun = put_lun s.desk lun free_lun

abbrev pub rewound_at : State → ℕ → Desk
rewound_at s lun = put_lun s.desk lun (moved_to Fresh (lun_at s.desk lun))

pub Preserves-close : (bs : List ℕ) (lun : ℕ) (s : State) → Preserves bs nothing s (state s.image (closed_at s lun))
Preserves-close bs lun s =
    Preserves-Desk bs nothing s (closed_at s lun) (λ g.
    Good-Desk s (closed_at s lun) g
    (put_Fitting s.image s.desk lun free_lun (free_fits s.image) (all-agree_free free_lun s.desk.luns free_is)
    (fitting s.image s.desk.luns g.is_fitting)))

pub Preserves-rewind : (bs : List ℕ) (caller lun : ℕ) (s : State) → BeginTold s (mine s.desk caller lun)
    → Preserves bs nothing s (state s.image (rewound_at s lun))
Preserves-rewind bs caller lun s T =
    let H : Held s lun = Held-by s caller lun T.is_ready T.is_fine in
    Preserves-Desk bs nothing s (rewound_at s lun) (λ g.
    Good-Desk s (rewound_at s lun) g
    (moved_Fitting s.image s.desk lun Fresh H.lun_in H.is_held (fresh_exists s.image (entry_at s.image (lun_at s.desk lun).slot)) H.fits_of))

-- Assign: the place that a LUN starts at exists
last_exists : (v e : List ℕ) → 1 ≤ extent v e → place_exists v e (At (extent v e - 1) 1) ≡ true
last_exists v e h = go (contiguous e) refl
  where
    go : (b : Bool) → contiguous e ≡ b → place_exists v e (At (extent v e - 1) 1) ≡ true
    go true q = place_run v e (extent v e - 1) 1 q (omega arith) (omega arith) (omega (arith, extent_run v e q))
    go false q = place_one v e (extent v e - 1) q (omega arith)

start_exists : (v e : List ℕ) (m : Mode) (end : Bool) → place_exists v e (start_of v e m end) ≡ true
unfolding start_of
start_exists v e m end = go (end and writes m and leb 1 (extent v e)) refl
  where
    go : (b : Bool) → (end and writes m and leb 1 (extent v e)) ≡ b
        → place_exists v e (if end and writes m and leb 1 (extent v e) then At (extent v e - 1) 1 else Fresh) ≡ true
    go true q = let h : 1 ≤ extent v e = leb-true _ _ (and_right _ _ q) in rw q (last_exists v e h)
    go false q = rw q (fresh_exists v e)

-- the user of a descriptor is the owner of the file that it names
desc_owner : (desc e : List ℕ) → named desc e ≡ true → user_of desc ≡ owner e
unfolding named
desc_owner desc e h = ap user_of (same-true _ _ h) ∙ described-owner e

right_of : (w h : Bool) → (w and not h) ≡ false → not w or h ≡ true
unfolding ◌and◌ ◌or◌
right_of true true e = refl
right_of true false e = absurd (true≢false e)
right_of false h e = refl

-- the new LUN fits, and agrees with all
module _ (caller lun : ℕ) (desc : List ℕ) (mode : ℕ) (end : Bool) (offered : ℕ) (s : State) (T : AssignTold s caller lun desc mode end offered) where
  pub new_Fitted : Fitted s.image (new_lun s.image caller desc mode end offered)
  unfolding new_lun seat_of spare
  new_Fitted =
      let e : List ℕ = entry_at s.image (slot_of s.image desc) in
      record {
        used = file_used T.named_file;
        user_in = leb-true _ _ (and_left _ _ (and_left _ _ T.is_spare));
        right = rw (sym (desc_owner desc e (file_named T.named_file))) (right_of (writes (mode_of mode)) (has_right caller (user_of desc)) T.right);
        read_right = unfold new_lun seat_of in T.read_right;
        place = start_exists s.image e (mode_of mode) end;
      }

  abbrev seated : Desk
  seated = put_lun s.desk lun (new_lun s.image caller desc mode end offered)

  pub Preserves-assign : Preserves (offered ∷ desc) nothing s (state s.image (put_lun s.desk lun (new_lun s.image caller desc mode end offered)))
  Preserves-assign =
      Preserves-Desk (offered ∷ desc) nothing s seated (λ g.
      Good-Desk s seated g
      (put_Fitting s.image s.desk lun _ (Fitted-Lun s.image _ (λ h. new_Fitted)) T.agreed (fitting s.image s.desk.luns g.is_fitting)))
