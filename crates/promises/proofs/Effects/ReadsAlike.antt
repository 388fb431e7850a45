-- No read sees that a volume was rearranged: the same rules refuse it, and it hands over the same bytes; and so of any run of reads.
use Rattle.std.specs.Prelude.{if◌then◌else◌}
use mathlib.Core.Path.{◌≡◌, refl, ap, sym, ◌∙◌}
use mathlib.Core.Bool.{Bool, true, false, not, true≢false}
use mathlib.Core.List.{List, [], ◌∷◌, map}
use mathlib.Core.Logic.{⊎_elim}
use Prim.Native.Nat.{ℕ, ◌+◌, ◌-◌, ◌*◌, ◌/◌, ◌≤◌, ◌<◌}
use native.Mathlib.Omega.{arith}
use lib.Dec.{leb}
use lib.ListN.{length}
use borrow.Author.Tests.{leb-true}
use Rattle.lists.specs.Lists.{◌and◌, ◌or◌, all}
use Rattle.lists.specs.Parts.{part}
use Rattle.lists.proofs.Tests.{and_left, and_right, is_false}
use Rattle.lists.proofs.Alike.{all_alike}
use Rattle.numbers.specs.Numbers.{last_user}
use Rattle.volume.specs.Directory.{entry_at, unused, contiguous, size, owner}
use Rattle.files.specs.Files.{extent, sound}
use Rattle.files.specs.Rights.{has_right, may_read}
use Rattle.files.proofs.slot.UsedSlots.{used_slot}
use Rattle.luns.specs.declared.Lun.{Lun}
use Rattle.luns.specs.declared.Place.{Place}
use Rattle.luns.specs.declared.Place.TheVariants.{Fresh, At}
use Rattle.luns.specs.Luns.{place_exists, reads_by_right, lun_fits, fits, free_lun}
use Rattle.luns.specs.Modes.{reads, writes}
use Rattle.work.specs.Transfers.{ended, read_rules, readable, data_at, reading, moving}
use Rattle.desk.specs.Desk.{State, state, ready, file_of, aimed, lun_at}
use Rattle.desk.specs.declared.Desk.{Desk}
use Rattle.desk.specs.Answers.{Outcome}
use Rattle.desk.specs.Calls.{Call, begin_rules, open_rules, rules, done, transferred, after, step}
use Rattle.promises.specs.Compacting.{Reading, read_by, Seen, seen_of}
use Rattle.promises.specs.Runs.{next, trace}
use Rattle.promises.specs.Sectors.{File}
use Rattle.promises.proofs.Held.{Held-by}
use Rattle.promises.proofs.Passing.{refusal, carried, step-First, step-Passes, Accepted, WasRefused, refused_or_Accepted}
use Rattle.moves.proofs.Rearranged.{Rearranged, entry_same, records_rearranged, record_at_rearranged, extent_rearranged}
use Rattle.promises.proofs.Told.{read_told}
use Rattle.promises.proofs.Units.{extent_run, sectors_stored}

-- an unused entry is zeros, and so would be one of a contiguous file
unused_run : (e : List ℕ) → unused e ≡ true → contiguous e ≡ true
unfolding contiguous all
unused_run [] u = refl
unused_run (x ∷ []) u = refl
unused_run (x ∷ y ∷ e) u = and_left _ _ (and_right _ _ u)

-- a contiguous read ends at the file's end
readable_inside : (e : List ℕ) (i n : ℕ) → i ≤ size e → i + readable e i n ≤ size e
unfolding readable
readable_inside e i n l = go (leb (i + n / 256) (size e)) refl
  where
    go : (b : Bool) → leb (i + n / 256) (size e) ≡ b → i + (if leb (i + n / 256) (size e) then n / 256 else size e - i) ≤ size e
    go true q = let h = leb-true _ _ q in rw q h
    go false q = rw q (omega arith)

module _ (v v' : List ℕ) (R : Rearranged v v') (h : sound v ≡ true) where
  File-in : (k : ℕ) → unused (entry_at v k) ≡ false → File v k
  File-in k u = record { slot = used_slot v k u; used = u }

  extent_stays : (k : ℕ) → unused (entry_at v k) ≡ false → extent v' (entry_at v k) ≡ extent v (entry_at v k)
  extent_stays k u = extent_rearranged v v' R k (used_slot v k u) u

  -- the desk fits the one exactly if it fits the other
  Place-same : (k : ℕ) (p : Place) → unused (entry_at v k) ≡ false → place_exists v' (entry_at v k) p ≡ place_exists v (entry_at v k) p
  unfolding place_exists
  Place-same k Fresh u = refl
  Place-same k (At i n) u = rw (extent_stays k u)

  Lun-same : (u : Lun) → lun_fits v' u ≡ lun_fits v u
  unfolding lun_fits reads_by_right ◌and◌
  Lun-same u = rw (entry_same v v' R u.slot) (go (unused (entry_at v u.slot)) refl)
    where
      go : (b : Bool) → unused (entry_at v u.slot) ≡ b
          → (not u.held or not (unused (entry_at v u.slot)) and leb u.user last_user and (not (writes u.mode) or has_right u.user (owner (entry_at v u.slot)))
          and (not (reads u.mode) or may_read u.user u.offered (entry_at v u.slot)) and place_exists v' (entry_at v u.slot) u.place)
          ≡ (not u.held or not (unused (entry_at v u.slot)) and leb u.user last_user and (not (writes u.mode) or has_right u.user (owner (entry_at v u.slot)))
          and (not (reads u.mode) or may_read u.user u.offered (entry_at v u.slot)) and place_exists v (entry_at v u.slot) u.place)
      go true q = rw q
      go false q = rw (Place-same u.slot u.place q)

  ready_same : (d : Desk) → ready (state v' d) ≡ ready (state v d)
  unfolding ready fits
  ready_same d = rw (h, R.sound_after h, all_alike free_lun (lun_fits v) (lun_fits v') d.luns d.luns refl (λ i l. Lun-same _))

  -- a read of the file in slot k is refused by the same rules, and hands over the same bytes
  sequential_used : (k : ℕ) → contiguous (entry_at v k) ≡ false → unused (entry_at v k) ≡ false
  sequential_used k c = is_false _ (λ u. true≢false (sym (unused_run (entry_at v k) u) ∙ c))

  rules_same : (k i : ℕ) (fmt : Bool) (n : ℕ) → read_rules v' (entry_at v' k) i fmt n ≡ read_rules v (entry_at v k) i fmt n
  unfolding read_rules ended extent ◌and◌
  rules_same k i fmt n = rw (entry_same v v' R k) (go (contiguous (entry_at v k)) refl)
    where
      go : (b : Bool) → contiguous (entry_at v k) ≡ b → read_rules v' (entry_at v k) i fmt n ≡ read_rules v (entry_at v k) i fmt n
      go true c = rw c
      go false c =
          let f = File-in k (sequential_used k c) in
          rw (c, records_rearranged v v' R k f.slot f.used c, record_at_rearranged v v' R k f.slot f.used c i)

  data_same : (k i : ℕ) (fmt : Bool) (n : ℕ) → unused (entry_at v k) ≡ false → i < extent v (entry_at v k)
      → data_at v' (entry_at v' k) i fmt n ≡ data_at v (entry_at v k) i fmt n
  unfolding data_at
  data_same k i fmt n u l = rw (entry_same v v' R k) (go (contiguous (entry_at v k)) refl)
    where
      go : (b : Bool) → contiguous (entry_at v k) ≡ b → data_at v' (entry_at v k) i fmt n ≡ data_at v (entry_at v k) i fmt n
      go true c =
          let inside : i + readable (entry_at v k) i n ≤ size (entry_at v k) = readable_inside (entry_at v k) i n (omega (arith, l, extent_run v (entry_at v k) c)) in
          let m : ℕ = readable (entry_at v k) i n in
          rw c
          (sectors_stored v' (entry_at v k) i m c inside
          ∙ ap (part (256 * i) (256 * m)) (R.stored_same k (used_slot v k u) u)
          ∙ sym (sectors_stored v (entry_at v k) i m c inside))
      go false c = rw (c, record_at_rearranged v v' R k (used_slot v k u) u c i)

  -- one read, beside whichever desk
  module _ (d : Desk) (r : Reading) where
    abbrev c : Call
    c = read_by r

    abbrev s : State
    s = state v d

    abbrev t : State
    t = state v' d

    calls_same : rules c t ≡ rules c s
    unfolding rules open_rules begin_rules file_of aimed
    calls_same = rw (ready_same d, rules_same (lun_at d r.lun).slot (aimed s r.lun r.sel r.num) r.fmt (length r.buffer))

    pub record Alike (o o' : Outcome) : Type 0 where
      pub seen_same : seen_of o' ≡ seen_of o
      pub desk_same : o'.desk ≡ o.desk
      pub image_was : o.image ≡ v
      pub image_is : o'.image ≡ v'

    refused_Alike : WasRefused c s → Alike (step c s) (step c t)
    refused_Alike w =
        let q : step c t ≡ refusal c t w.why = step-First c t w.place w.why (rw calls_same w.first) in
        rw (w.is, q) (record { seen_same = refl; desk_same = refl; image_was = refl; image_is = refl })

    Accepted-Alike : Accepted c s → Alike (step c s) (step c t)
    unfolding done transferred reading moving after file_of aimed
    Accepted-Alike a =
        let T = read_told r.caller r.lun r.sel r.num r.fmt r.buffer s a in
        let H = Held-by s r.caller r.lun T.opened.is_ready T.opened.is_mine in
        let same = data_same (lun_at d r.lun).slot (aimed s r.lun r.sel r.num) r.fmt (length r.buffer) H.lun_ok.used T.there in
        let q : step c t ≡ carried c t = step-Passes c t (rw calls_same a.passes) in
        rw (a.is, q, same, entry_same v v' R (lun_at d r.lun).slot) (record { seen_same = refl; desk_same = refl; image_was = refl; image_is = refl })

    pub read_Alike : Alike (step c s) (step c t)
    read_Alike = ⊎_elim refused_Alike Accepted-Alike (refused_or_Accepted c s)

  -- one after the other
  pub reads_alike : (rs : List Reading) (d : Desk) → map seen_of (trace (map read_by rs) (state v' d)) ≡ map seen_of (trace (map read_by rs) (state v d))
  unfolding trace next
  reads_alike [] d = refl
  reads_alike (r ∷ rs) d =
      let A = read_Alike d r in
      rw (A.seen_same, A.desk_same, A.image_was, A.image_is)
      (ap (λ (l : List Seen). seen_of (step (read_by r) (state v d)) ∷ l) (reads_alike rs (step (read_by r) (state v d)).desk))
