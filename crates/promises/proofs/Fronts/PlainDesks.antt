-- Every desk that the calls make is plain. A LUN that a call puts is free, or is held and fits the volume; and of a sound volume slots and
-- places are small, whatever bytes its image is made of.
use mathlib.Core.Path.{◌≡◌, refl, sym, subst, ◌∙◌}
use mathlib.Core.Bool.{Bool, true, false, true≢false}
use mathlib.Core.List.{List, [], ◌∷◌}
use mathlib.Core.Logic.{⊎_elim}
use Prim.Native.Nat.{ℕ, zero, suc, ◌+◌, ◌≤◌, ◌<◌}
use native.Mathlib.Omega.{arith}
use lib.ListN.{length, length-replicate, length-set, get_or, set}
use borrow.Author.Tests.{eqb-true, leb-true, ltb-true}
use Rattle.numbers.specs.Numbers.{lun_count, most_moved}
use Rattle.lists.proofs.Tests.{and_left, and_right}
use Rattle.volume.specs.Volume.{layout_of}
use Rattle.volume.specs.Directory.{entry_at, unused, contiguous, SameButCount}
use Rattle.volume.proofs.EntryCounted.{owner_is, alike_refl}
use Rattle.volume.proofs.Located.{Located-sound}
use Rattle.files.specs.Files.{extent, sound}
use Rattle.files.proofs.SoundFacts.{facts}
use Rattle.files.proofs.slot.UsedSlots.{used_slot}
use Rattle.files.proofs.OneFileChanged.{entry_here}
use Rattle.luns.specs.declared.Lun.{Lun}
use Rattle.luns.specs.declared.Place.{Place}
use Rattle.luns.specs.declared.Place.TheVariants.{Fresh, At}
use Rattle.luns.specs.Luns.{free_lun, moved_to, place_exists, reads_by_right}
use Rattle.luns.proofs.Fitting.{Fitted, may_alike, Place-alike}
use Rattle.deskbytes.specs.DeskBytes.{PlainPlace, PlainLun}
use Rattle.deskbytes.proofs.UnpackedLun.{free_plain}
use Rattle.work.specs.Transfers.{stored_as, moving, reading, writing, updating, units}
use Rattle.work.proofs.TextRules.{stored_units}
use Rattle.desk.specs.declared.Desk.{Desk}
use Rattle.desk.specs.Desk.{State, state, empty_desk, lun_at, put_lun, ready, mine, file_of, aimed}
use Rattle.desk.specs.Calls.{Call, format, check, bring_up, compact, allocate, assign, close, rewind, delete, read, write, update, quietly, checked, closed_up_to, after}
use Rattle.desk.specs.Calls.{transferred, done, seat_of, new_lun}
use Rattle.desk.specs.Calls.{sent}
use Rattle.desk.specs.Calls.{step}
use Rattle.desk.proofs.Bounds.{extent_small}
use Rattle.promises.specs.Contents.{slot_held}
use Rattle.promises.specs.DeskBytes.{PlainDesk, CallsMakePlain}
use Rattle.promises.specs.Runs.{next, run}
use Rattle.promises.specs.Sectors.{Bytes, AllBytes}
use Rattle.promises.proofs.Passing.{Accepted, refused_or_Accepted}
use Rattle.promises.proofs.Told.{AssignTold, assign_told, rewind_told, ReadTold, read_told, WriteTold, write_told, UpdateTold, update_told}
use Rattle.promises.proofs.PlacesExist.{place_one, units_run, units-one}
use Rattle.promises.proofs.Held.{entry_of, ready_sound, Held, Held-by}
use Rattle.promises.proofs.OneLun.{empty_lun}
use Rattle.promises.proofs.Preserving.{Rewrites}
use Rattle.promises.proofs.Seating.{new_Fitted}
use Rattle.promises.proofs.Reading.{place_after}
use Rattle.promises.proofs.Appending.{appending, append_Rewrites}
use Rattle.promises.proofs.Overwriting.{overwriting, overwrite_Rewrites}

-- all LUNs free
plain_empty : PlainDesk empty_desk
unfolding empty_desk lun_at
plain_empty = record { sixteen = length-replicate lun_count free_lun; each_plain = λ k. subst PlainLun (sym (empty_lun k)) free_plain }

-- one LUN put; past the end that changes nothing
plain_set : (us : List Lun) (lun : ℕ) (u : Lun) → ((k : ℕ) → PlainLun (get_or us k free_lun)) → PlainLun u
    → (k : ℕ) → PlainLun (get_or (set us lun u) k free_lun)
plain_set [] lun u h p k = h k
plain_set (x ∷ us) zero u h p zero = p
plain_set (x ∷ us) zero u h p (suc k) = h (suc k)
plain_set (x ∷ us) (suc lun) u h p zero = h 0
plain_set (x ∷ us) (suc lun) u h p (suc k) = plain_set us lun u (λ j. h (suc j)) p k

plain_put : (d : Desk) (lun : ℕ) (u : Lun) → PlainDesk d → PlainLun u → PlainDesk (put_lun d lun u)
unfolding put_lun
plain_put d lun u h p = record {
  sixteen = length-set d.luns lun u ∙ h.sixteen;
  each_plain = plain_set d.luns lun u h.each_plain p;
}

-- a place that exists in a file of a sound volume
module _ (v : List ℕ) (is-sound : sound v ≡ true) (k : ℕ) (used : unused (entry_at v k) ≡ false) where
  extent_fits : extent v (entry_at v k) < 4294967296
  unfolding layout_of
  extent_fits =
      extent_small v (layout_of v) k
      (record { located = Located-sound v (facts v is-sound).one; is_sound = is-sound; slot = used_slot v k used; used = used })

  Place-plain : (p : Place) → place_exists v (entry_at v k) p ≡ true → (i n : ℕ) → p ≡ At i n → PlainPlace i n
  unfolding place_exists
  Place-plain p h i n is_at = go (contiguous (entry_at v k)) refl
    where
      go : (b : Bool) → contiguous (entry_at v k) ≡ b → PlainPlace i n
      go true q =
          let g = rw (is_at, q) at h in
          let few : n ≤ most_moved = leb-true _ _ (and_right _ _ (and_left _ _ g)) in
          let inside : i + n ≤ extent v (entry_at v k) = leb-true _ _ (and_right _ _ g) in
          record { some_moved = leb-true _ _ (and_left _ _ (and_left _ _ g)); n_fits = omega arith; i_fits = omega (arith, extent_fits) }
      go false q =
          let g = rw (is_at, q) at h in
          let one : n ≡ 1 = eqb-true _ _ (and_left _ _ g) in
          let inside : i < extent v (entry_at v k) = ltb-true _ _ (and_right _ _ g) in
          record { some_moved = omega arith; n_fits = omega arith; i_fits = omega (arith, extent_fits) }

-- a held LUN that fits a sound volume
plain_held : (v : List ℕ) (u : Lun) → sound v ≡ true → u.held ≡ true → u.offered < 256 → Fitted v u → PlainLun u
plain_held v u s h c f =
    record {
      free_is_empty = λ e. absurd (true≢false (sym h ∙ e));
      user_fits = omega (arith, f.user_in);
      slot_fits = omega (arith, used_slot v u.slot f.used, (facts v s).few_dirs);
      code_fits = c;
      place_plain = Place-plain v s u.slot f.used u.place f.place;
    }

-- Assign
plain_assigned : (caller lun : ℕ) (desc : List ℕ) (mode : ℕ) (end : Bool) (offered : ℕ) (s : State) → AssignTold s caller lun desc mode end offered → offered < 256
    → PlainDesk s.desk
    → PlainDesk (put_lun s.desk lun (new_lun s.image caller desc mode end offered))
unfolding new_lun seat_of
plain_assigned caller lun desc mode end offered s T c h =
    plain_put s.desk lun _ h (plain_held s.image _ (ready_sound s T.is_ready) refl c (new_Fitted caller lun desc mode end offered s T))

-- the desk with a LUN at another place
abbrev moved_at : State → ℕ → Place → Desk
moved_at s lun p = put_lun s.desk lun (moved_to p (lun_at s.desk lun))

-- The caller's LUN moves to a place of its file, on the image before the call or on the one after it. It is held: a free LUN that moved would
-- not be empty any more
module _ (s : State) (caller lun : ℕ) (r : ready s ≡ true) (m : mine s.desk caller lun ≡ true) (h : PlainDesk s.desk) where
  H : Held s lun
  H = Held-by s caller lun r m

  kept_code : (lun_at s.desk lun).offered < 256
  unfolding lun_at
  kept_code = (h.each_plain lun).code_fits

  read_alike : (v : List ℕ) (p : Place) → SameButCount (entry_of s lun) (entry_at v (slot_held s lun)) → reads_by_right v (moved_to p (lun_at s.desk lun)) ≡ true
  unfolding moved_to reads_by_right
  read_alike v p same =
      rw (may_alike (entry_of s lun) (entry_at v (slot_held s lun)) same (lun_at s.desk lun).user (lun_at s.desk lun).offered) H.lun_ok.read_right

  plain_moved : (v : List ℕ) (p : Place) → sound v ≡ true → SameButCount (entry_of s lun) (entry_at v (slot_held s lun)) → place_exists v (entry_of s lun) p ≡ true
      → PlainDesk (moved_at s lun p)
  unfolding moved_to
  plain_moved v p is-sound same there =
      let fits : Fitted v (moved_to p (lun_at s.desk lun)) = record {
        used = same.use_same ∙ H.lun_ok.used;
        user_in = H.lun_ok.user_in;
        right = rw (owner_is (entry_of s lun) (entry_at v (slot_held s lun)) same) H.lun_ok.right;
        read_right = read_alike v p same;
        place = Place-alike v (entry_of s lun) (entry_at v (slot_held s lun)) same p ∙ there;
      } in
      plain_put s.desk lun _ h (plain_held v _ is-sound H.is_held kept_code fits)

  plain_kept : (p : Place) → place_exists s.image (entry_of s lun) p ≡ true → PlainDesk (moved_at s lun p)
  plain_kept p there = plain_moved s.image p (ready_sound s r) (alike_refl (entry_of s lun)) there

  plain_rewritten : (ss v : List ℕ) (i n : ℕ) → Rewrites s lun ss v i n → PlainDesk (moved_at s lun (At i n))
  plain_rewritten ss v i n R =
      plain_moved v (At i n) R.is_sound (rw (entry_here s.image v (slot_held s lun) R.entry R.ws R.changed) R.same) R.place

  plain_rewound : PlainDesk (moved_at s lun Fresh)
  unfolding place_exists
  plain_rewound = plain_kept Fresh refl

-- Read, write and update
plain_read : (caller lun sel num : ℕ) (fmt : Bool) (buf : List ℕ) (s : State) → ReadTold s caller lun sel num fmt (length buf) → PlainDesk s.desk
    → PlainDesk (after s.desk lun (reading s.image (file_of s lun) (aimed s lun sel num) fmt buf))
unfolding after reading moving file_of
plain_read caller lun sel num fmt buf s T h =
    plain_kept s caller lun T.opened.is_ready T.opened.is_mine h _ (place_after caller lun sel num fmt buf s T)

module _
    (caller lun sel num : ℕ) (fmt : Bool) (bs : List ℕ) (s : State) (T : WriteTold s caller lun sel num (stored_as fmt (file_of s lun) bs))
    (h : PlainDesk s.desk) where
  abbrev e : List ℕ
  e = entry_of s lun

  abbrev i : ℕ
  i = aimed s lun sel num

  abbrev ss : List ℕ
  ss = stored_as fmt e bs

  rewritten : (v : List ℕ) (n : ℕ) → Rewrites s lun ss v i n → PlainDesk (moved_at s lun (At i n))
  rewritten v n R = plain_rewritten s caller lun T.opened.is_ready T.opened.is_mine h ss v i n R

  plain_written : PlainDesk (after s.desk lun (writing s.image (slot_held s lun) (aimed s lun sel num) fmt bs))
  unfolding after writing moving file_of
  plain_written = rw (sym (stored_units fmt e bs)) (go (contiguous e) refl)
    where
      go : (b : Bool) → contiguous e ≡ b → PlainDesk (moved_at s lun (At i (units e (length ss))))
      go true q = rw (units_run e (length ss) q) (rewritten _ _ (overwrite_Rewrites s lun i ss (overwriting caller lun sel num ss s T q)))
      go false q = rw (units-one e (length ss) q) (rewritten _ _ (append_Rewrites s lun i ss (appending caller lun sel num ss s T q)))

plain_updated : (caller lun sel num : ℕ) (fmt : Bool) (bs ss : List ℕ) (s : State) → UpdateTold s caller lun sel num ss → PlainDesk s.desk
    → PlainDesk (after s.desk lun (updating s.image (file_of s lun) (aimed s lun sel num) fmt bs))
unfolding after updating moving file_of
plain_updated caller lun sel num fmt bs ss s T h =
    rw (units-one (entry_of s lun) (length bs) T.sequential)
    (plain_kept s caller lun T.opened.is_ready T.opened.is_mine h _ (place_one s.image (entry_of s lun) _ T.sequential T.there))

-- any accepted call; any call; any calls
plain_done : (c : Call) (s : State) → Accepted c s → Bytes (sent c) → PlainDesk s.desk → PlainDesk (done c s).desk
unfolding done sent quietly checked closed_up_to transferred
plain_done (format id n) s a b h = plain_empty
plain_done check s a b h = h
plain_done bring_up s a b h = h
plain_done (compact n) s a b h = h
plain_done (allocate caller desc k n l rc) s a b h = h
plain_done (assign caller lun desc mode end offered) s a b h = plain_assigned caller lun desc mode end offered s (assign_told caller lun desc mode end offered s a) (b 0) h
plain_done (close caller lun) s a b h = plain_put s.desk lun free_lun h free_plain
plain_done (rewind caller lun) s a b h = let T = rewind_told caller lun s a in plain_rewound s caller lun T.is_ready T.is_fine h
plain_done (delete caller desc) s a b h = h
plain_done (read caller lun sel num fmt buf) s a b h = plain_read caller lun sel num fmt buf s (read_told caller lun sel num fmt buf s a) h
plain_done (write caller lun sel num fmt bs) s a b h = plain_written caller lun sel num fmt bs s (write_told caller lun sel num fmt bs s a) h
plain_done (update caller lun sel num fmt bs) s a b h = plain_updated caller lun sel num fmt bs _ s (update_told caller lun sel num fmt bs s a) h

plain_step : (c : Call) (s : State) → Bytes (sent c) → PlainDesk s.desk → PlainDesk (step c s).desk
plain_step c s b h = ⊎_elim (λ t. rw t.is h) (λ a. rw a.is (plain_done c s a b h)) (refused_or_Accepted c s)

plain_run : (cs : List Call) (s : State) → AllBytes cs → PlainDesk s.desk → PlainDesk (run cs s).desk
unfolding run next
plain_run [] s b h = h
plain_run (c ∷ cs) s b h = plain_run cs (next c s) b.1 (plain_step c s b.0 h)

pub calls_make_plain : CallsMakePlain
calls_make_plain = record {
  empty_is_plain = plain_empty;
  each_call = plain_step;
  any_calls = λ img cs b. plain_run cs (state img empty_desk) b plain_empty;
}
