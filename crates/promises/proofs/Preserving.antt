-- What every call keeps, in one record; and that a call keeps it which changes the desk alone, one file, or units of one file.
use mathlib.Core.Path.{◌≡◌, refl, sym, subst, ◌∙◌}
use mathlib.Core.Bool.{Bool, false, true, true≢false}
use mathlib.Core.List.{List}
use mathlib.Core.Logic.{◌≢◌, ◌⊎◌, inl, inr}
use Prim.Native.Nat.{ℕ, ◌<◌, ◌+◌, ◌≤◌}
use native.Mathlib.Decide.{ℕ_discrete, dec_lt}
use native.Mathlib.Omega.{arith}
use borrow.Author.Tests.{eq-eqb, le-leb, lt-ltb}
use Rattle.lists.proofs.Tests.{both_true}
use Rattle.volume.specs.Directory.{entry_at, SameButCount}
use Rattle.volume.proofs.LayoutKept.{keeps_trailer}
use Rattle.files.specs.Files.{extent, sound}
use Rattle.files.proofs.OneFileChanged.{Changed, entry_here}
use Rattle.luns.specs.declared.Place.TheVariants.{At}
use Rattle.luns.specs.Luns.{place_exists, moved_to}
use Rattle.luns.proofs.Fitting.{Fitting, fits_is, Place-alike}
use Rattle.work.specs.Transfers.{Moving}
use Rattle.desk.specs.Desk.{State, state, lun_at, put_lun}
use Rattle.desk.specs.Calls.{Touch, after, nothing, one_file, Touch-units, record_counts, where_files_lie, everything}
use Rattle.desk.specs.declared.Desk.{Desk}
use Rattle.desk.proofs.DeskFitting.{moved_Fitting}
use Rattle.promises.specs.Touches.{changes, ends}
use Rattle.promises.specs.Sectors.{Bytes, Sound, Good, File}
use Rattle.promises.specs.Lasting.{Lasting}
use Rattle.promises.specs.Contents.{unit_of, slot_held, SameFile, SameFrame}
use Rattle.promises.proofs.Units.{same_file, same_other, same_frame, Lasting-image, Lasting-same, Lasting-by}
use Rattle.promises.proofs.Held.{entry_of, Held, grown_Fitting}

-- a touch of everything
unfoldable pub remakes : Touch → Bool
remakes nothing = false
remakes (one_file k) = false
remakes (Touch-units k i n) = false
remakes record_counts = false
remakes where_files_lie = false
remakes everything = true

-- From s to t, by a call that was sent bs and touches w: a sound volume stays sound, a good state good, files outside w are the same, units
-- outside w hold what they held, and unless w is everything the frame stays
pub record Preserves (bs : List ℕ) (w : Touch) (s t : State) : Type 0 where
  pub sound_after : Bytes bs → Sound s.image → Sound t.image
  pub good_after : Bytes bs → Good s → Good t
  pub others : (k : ℕ) → File s.image k → changes w k ≡ false → SameFile s.image t.image k
  pub units : (k i : ℕ) → File s.image k → i < extent s.image (entry_at s.image k) → ends w k i ≡ false → Lasting s.image t.image k i
  pub frame : remakes w ≡ false → SameFrame s.image t.image

-- what was sent is bytes, and so is what is stored of it
pub Preserves-sent : (bs ss : List ℕ) (w : Touch) (s t : State) → (Bytes bs → Bytes ss) → Preserves ss w s t → Preserves bs w s t
Preserves-sent bs ss w s t f P = record {
  sound_after = λ b. P.sound_after (f b);
  good_after = λ b. P.good_after (f b);
  others = P.others;
  units = P.units;
  frame = P.frame;
}

-- the image stays
pub Preserves-Desk : (bs : List ℕ) (w : Touch) (s : State) (d : Desk) → (Good s → Good (state s.image d)) → Preserves bs w s (state s.image d)
Preserves-Desk bs w s d g = record {
  sound_after = λ b h. h;
  good_after = λ b. g;
  others = λ k file h. same_file s.image k;
  units = λ k i file l h. Lasting-image s.image k i l;
  frame = λ n. same_frame s.image;
}

-- .. and the LUNs still fit
pub Good-Desk : (s : State) (d : Desk) → Good s → Fitting s.image d.luns → Good (state s.image d)
Good-Desk s d g f = record { volume = g.volume; is_fitting = fits_is s.image d.luns f }

-- one slot's file changes
module _ (s t : State) (j : ℕ) (e ws : List ℕ) (C : Changed s.image t.image j e ws) where
  abbrev v : List ℕ
  v = s.image

  abbrev v' : List ℕ
  v' = t.image

  same_around : SameFrame v v'
  same_around = record {
    as_long = C.keeps.long;
    vid_same = C.keeps.at 0 C.vid_out;
    trailer_same = keeps_trailer ws v v' C.keeps C.last_out;
  }

  pub Preserves-change : (bs : List ℕ) (w : Touch) → (Bytes bs → Good t) → ((k : ℕ) → File s.image k → changes w k ≡ false → k ≢ j)
      → ((i : ℕ) → File s.image j → i < extent s.image (entry_at s.image j) → ends w j i ≡ false → Lasting s.image t.image j i)
      → Preserves bs w s t
  Preserves-change bs w g apart here = record {
    sound_after = λ b h. (g b).volume;
    good_after = λ b h. g b;
    others = λ k f h. same_other v v' j e ws C k f (apart k f h);
    units = λ k i. elim (ℕ_discrete k j) [
      | yes p ↦ subst (λ (m : ℕ). File v m → i < extent v (entry_at v m) → ends w m i ≡ false → Lasting v v' m i) (sym p) (here i)
      | no n ↦ λ f l h. Lasting-same v v' k i (same_other v v' j e ws C k f n) l
    ];
    frame = λ n. same_around;
  }

-- A transfer to the file behind a LUN: what it makes of the volume, where it touches n units from i on
pub record Rewrites (s : State) (lun : ℕ) (bs v' : List ℕ) (i n : ℕ) : Type 0 where
  pub ws : List ℕ
  pub entry : List ℕ
  pub changed : Changed s.image v' (slot_held s lun) entry ws
  pub same : SameButCount (entry_of s lun) entry
  pub is_sound : sound v' ≡ true
  pub are_bytes : Bytes s.image → Bytes bs → Bytes v'
  pub as_long : extent s.image (entry_of s lun) ≤ extent v' (entry_of s lun)
  pub place : place_exists v' (entry_of s lun) (At i n) ≡ true
  pub elsewhere : (u : ℕ) → u < extent s.image (entry_of s lun) → (u + 1 ≤ i) ⊎ (i + n ≤ u)
      → unit_of v' (entry_of s lun) u ≡ unit_of s.image (entry_of s lun) u

-- the state after it: the LUN has moved; and the state after a transfer that moves m
abbrev pub moved_on : State → ℕ → List ℕ → ℕ → ℕ → State
moved_on s lun v' i n = state v' (put_lun s.desk lun (moved_to (At i n) (lun_at s.desk lun)))

abbrev pub transferred_to : State → ℕ → Moving → State
transferred_to s lun m = state m.image (after s.desk lun m)

-- what it says that a touch does not end a unit
off_slot : (j i n k : ℕ) → changes (Touch-units j i n) k ≡ false → k ≢ j
unfolding changes
off_slot j i n k h p = true≢false (sym (eq-eqb j k (sym p)) ∙ h)

off_units : (j i n u : ℕ) → ends (Touch-units j i n) j u ≡ false → (u + 1 ≤ i) ⊎ (i + n ≤ u)
unfolding ends
off_units j i n u h = elim (dec_lt u i) [
  | yes l ↦ inl (omega arith)
  | no g ↦ elim (dec_lt u (i + n)) [
    | yes l ↦
        absurd (true≢false (sym (both_true _ _ (both_true _ _ (eq-eqb j j refl) (le-leb i u (omega arith))) (lt-ltb u (i + n) l)) ∙ h))
    | no f ↦ inr (omega arith)
  ]
]

module _ (s : State) (bi : Bytes s.image) (lun : ℕ) (bs v' : List ℕ) (i n : ℕ) (H : Held s lun) (R : Rewrites s lun bs v' i n) where
  its_entry : entry_at v' (slot_held s lun) ≡ R.entry
  its_entry = entry_here s.image v' (slot_held s lun) R.entry R.ws R.changed

  there : place_exists v' (entry_at v' (slot_held s lun)) (At i n) ≡ true
  there = rw its_entry (Place-alike v' (entry_of s lun) R.entry R.same (At i n) ∙ R.place)

  Good-moved : Bytes bs → Good (moved_on s lun v' i n)
  Good-moved b =
      let f = grown_Fitting s.image v' (slot_held s lun) R.entry R.ws R.changed R.same R.as_long s.desk.luns H.fits_of in
      record {
        volume = record { is_sound = R.is_sound; is_bytes = R.are_bytes bi b };
        is_fitting = fits_is v' _ (moved_Fitting v' s.desk lun (At i n) H.lun_in H.is_held there f);
      }

  pub Preserves-rewrite : Preserves bs (Touch-units (slot_held s lun) i n) s (moved_on s lun v' i n)
  Preserves-rewrite =
      Preserves-change s (moved_on s lun v' i n) (slot_held s lun) R.entry R.ws R.changed bs (Touch-units (slot_held s lun) i n) Good-moved
      (λ k f h. off_slot (slot_held s lun) i n k h)
      (λ u f l h.
      Lasting-by s.image v' (slot_held s lun) u (rw its_entry R.same) (omega (arith, R.as_long))
      (R.elsewhere u l (off_units (slot_held s lun) i n u h)))
