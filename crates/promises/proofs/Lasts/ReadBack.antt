-- What was written is read back: the accepted write or update, the visits between, and the accepted read together.
use mathlib.Core.Path.{◌≡◌, ap, ◌∙◌}
use mathlib.Core.Bool.{Bool, true, false}
use mathlib.Core.List.{List, [], ◌++◌}
use Prim.Native.Nat.{ℕ, ◌+◌, ◌*◌, ◌/◌, ◌<◌, ◌≤◌}
use native.Mathlib.Omega.{arith}
use lib.ListN.{length, length-append, length-set, length-drop, get_or, take, drop}
use lib.Seq.{get_or-set_same, drop-append-le, take-append-le}
use Rattle.lists.specs.Parts.{part, over}
use Rattle.volume.specs.Directory.{entry_at, unused, contiguous, SameButCount}
use Rattle.volume.proofs.EntryCounted.{contiguous_is, alike_entry, alike_trans}
use Rattle.files.specs.Files.{extent, records, record_at}
use Rattle.files.proofs.Kept.EntryAlike.{extent_alike}
use Rattle.work.specs.Transfers.{as_text, stored_as, handed_as}
use Rattle.work.proofs.TextRules.{stored_run}
use Rattle.desk.specs.Desk.{State, aimed, file_of}
use Rattle.desk.specs.Answers.{moved}
use Rattle.desk.specs.Calls.{Call, write, update, step, sent}
use Rattle.desk.specs.declared.Report.TheVariants.{Moved}
use Rattle.std.specs.Prelude.{Ok}
use Rattle.promises.specs.Runs.{Visit}
use Rattle.promises.specs.Sectors.{Bytes, Sound, Accepts}
use Rattle.promises.specs.Contents.{unit_of, unit_at, slot_held, Wrote, Updated}
use Rattle.promises.specs.Lasting.{Lasting, Between, HandsBack, WrittenIsRead, UpdatedIsRead, WrittenSectorIsRead}
use Rattle.promises.proofs.Passing.{accepted}
use Rattle.promises.proofs.Told.{WriteTold, write_told, update_told}
use Rattle.promises.proofs.Units.{extent_run, extent-records, unit_record, unit_alike, record_last, File-after}
use Rattle.promises.proofs.Held.{entry_of, ready_sound, Held-by, Held}
use Rattle.promises.proofs.Overwriting.{Overwriting, overwriting}
use Rattle.promises.proofs.Appending.{Appending, appending}
use Rattle.promises.proofs.Writing.{accepted_write}
use Rattle.promises.proofs.Updating.{accepted_update}
use Rattle.promises.proofs.Preserved.{Sound-next}
use Rattle.promises.proofs.Lasts.Lasting.{Lasts-through}
use Rattle.promises.proofs.Reading.{accepted_read}

-- a unit after a call, still there after the visits between
still : (v v' : List ℕ) (k i : ℕ) → unused (entry_at v k) ≡ false → SameButCount (entry_at v k) (entry_at v' k) → Sound v' → i < extent v' (entry_at v k)
    → (vs : List Visit) (w : List ℕ) → Between v' k i vs w → SameButCount (entry_at v k) (entry_at w k) × (unit_at w k i ≡ unit_at v' k i)
still v v' k i u S h x vs w B =
    let there : i < extent v' (entry_at v' k) = rw (extent_alike (entry_at v k) (entry_at v' k) S v') x in
    let L : Lasting v' w k i =
    rw B.reached (Lasts-through v' h k i (File-after v v' k u S) there vs B.are_bytes B.nothing_ends_it) in
    (alike_trans (entry_at v k) (entry_at v' k) (entry_at w k) S L.same_but_count, L.same_unit)

-- entries that are the same but for the count hand over alike
handed_alike : (e d : List ℕ) → SameButCount e d → (fmt : Bool) (ss : List ℕ) → handed_as fmt d ss ≡ handed_as fmt e ss
unfolding handed_as as_text
handed_alike e d S fmt ss = rw (contiguous_is e d S, S.length_same)

-- a read of a record that is there
record_read : (t : State) (k i : ℕ) (e ss : List ℕ) → SameButCount e (entry_at t.image k) → contiguous e ≡ false → unit_at t.image k i ≡ ss
    → HandsBack t e k i ss
unfolding file_of
record_read t k i e ss same q u fmt caller lun sel num buf r ek ei =
    let R = accepted_read t caller lun sel num fmt buf r in
    let its : SameButCount e (entry_of t lun) = rw ek same in
    let is : R.0 ≡ handed_as fmt e ss =
    (R.1.one_record (contiguous_is e (entry_of t lun) its ∙ q)).0
    ∙ handed_alike e (entry_of t lun) its fmt (unit_at t.image (slot_held t lun) (aimed t lun sel num))
    ∙ ap (λ (m : ℕ). handed_as fmt e (unit_at t.image m (aimed t lun sel num))) ek
    ∙ ap (λ (m : ℕ). handed_as fmt e (unit_at t.image k m)) ei
    ∙ ap (handed_as fmt e) u in
    (R.1.buffer_has ∙ ap (λ (x : List ℕ). over x buf) is, R.1.answered ∙ ap (λ (x : List ℕ). Ok (Moved (length x))) is)

module _
    (s : State) (bi : Bytes s.image) (caller lun sel num : ℕ) (fmt : Bool) (bs : List ℕ) (b : Bytes bs)
    (h : Accepts (write caller lun sel num fmt bs) s) where
  abbrev c : Call
  c = write caller lun sel num fmt bs

  abbrev v' : List ℕ
  v' = (step c s).image

  abbrev k : ℕ
  k = slot_held s lun

  abbrev e : List ℕ
  e = entry_of s lun

  abbrev i : ℕ
  i = aimed s lun sel num

  abbrev ss : List ℕ
  ss = stored_as fmt e bs

  wrote : Wrote s (step c s) lun i bs ss
  unfolding file_of
  wrote = accepted_write s caller lun sel num fmt bs h

  told : WriteTold s caller lun sel num ss
  unfolding file_of
  told = write_told caller lun sel num fmt bs s (accepted c s h)

  Sound-after : Sound v'
  unfolding sent
  Sound-after = Sound-next c s (record { is_sound = ready_sound s told.opened.is_ready; is_bytes = bi }) b

  -- the record appended
  module _ (q : contiguous (entry_of s lun) ≡ false) where
    A : Appending s lun i ss
    A = appending caller lun sel num ss s told q

    unit_appended : unit_at v' k i ≡ ss
    unfolding file_of
    unit_appended =
        unit_alike e (entry_at v' k) wrote.same_but_count v' i
        ∙ unit_record v' e i q
        ∙ record_last s.image v' e i ss (wrote.appended_record q).0 (wrote.appended_record q).1

    record_there : i < extent v' e
    unfolding file_of
    record_there = omega (arith, A.at_end, extent-records v' e q, simp length-append at (ap length (wrote.appended_record q).1))

    pub record_still : (vs : List Visit) (w : List ℕ) → Between (step (write caller lun sel num fmt bs) s).image (slot_held s lun) (aimed s lun sel num) vs w
        → SameButCount (entry_of s lun) (entry_at w (slot_held s lun)) × (unit_at w (slot_held s lun) (aimed s lun sel num) ≡ stored_as fmt (entry_of s lun) bs)
    unfolding file_of
    record_still vs w B =
        let S = still s.image v' k i A.held_file.lun_ok.used wrote.same_but_count Sound-after record_there vs w B in
        (S.0, S.1 ∙ unit_appended)

  -- a sector written
  pub sector_still : contiguous (entry_of s lun) ≡ true → (j : ℕ) → j < length bs / 256 → (vs : List Visit) (w : List ℕ)
      → Between (step (write caller lun sel num fmt bs) s).image (slot_held s lun) (aimed s lun sel num + j) vs w
      → SameButCount (entry_of s lun) (entry_at w (slot_held s lun)) × (unit_at w (slot_held s lun) (aimed s lun sel num + j) ≡ part (256 * j) 256 bs)
  unfolding file_of
  sector_still q j l vs w B =
      let same : ss ≡ bs = stored_run fmt e bs q in
      let l' : j < length ss / 256 = rw same l in
      let O : Overwriting s lun i ss = overwriting caller lun sel num ss s told q in
      let x : i + j < extent v' e = omega (arith, l', O.inside, extent_run v' e q) in
      let S = still s.image v' k (i + j) O.held_file.lun_ok.used wrote.same_but_count Sound-after x vs w B in (
        S.0,
        S.1
            ∙ unit_alike e (entry_at v' k) wrote.same_but_count v' (i + j)
            ∙ wrote.sectors_written q j l'
            ∙ ap (part (256 * j) 256) same,
      )

pub written_is_read : WrittenIsRead
unfolding file_of
written_is_read s bi caller lun sel num fmt bs b h q vs t B =
    let S = record_still s bi caller lun sel num fmt bs b h q vs t.image B in
    record_read t (slot_held s lun) (aimed s lun sel num) (entry_of s lun) (stored_as fmt (entry_of s lun) bs) S.0 q S.1

-- the record updated
pub updated_is_read : UpdatedIsRead
unfolding sent record_at file_of
updated_is_read s bi caller lun sel num fmt bs b h vs t B =
    let c : Call = update caller lun sel num fmt bs in
    let k : ℕ = slot_held s lun in
    let i : ℕ = aimed s lun sel num in
    let e : List ℕ = entry_of s lun in
    let ss : List ℕ = stored_as fmt e bs in
    let v' : List ℕ = (step c s).image in
    let T = update_told caller lun sel num fmt bs s (accepted c s h) in
    let H : Held s lun = Held-by s caller lun T.opened.is_ready T.opened.is_mine in
    let U : Updated s (step c s) lun i bs ss = accepted_update s bi caller lun sel num fmt bs h in
    let q : contiguous e ≡ false = U.sequential in
    let there : i < extent v' e =
    omega (arith, U.there, extent-records v' e q, ap length U.replaced, length-set (records s.image e) i ss) in
    let Sound-after : Sound v' = Sound-next c s (record { is_sound = ready_sound s T.opened.is_ready; is_bytes = bi }) b in
    let S = still s.image v' k i H.lun_ok.used (alike_entry e (entry_at v' k) U.entry_same) Sound-after there vs t.image B in
    let new : unit_at v' k i ≡ ss =
    ap (λ (x : List ℕ). unit_of v' x i) U.entry_same
    ∙ unit_record v' e i q
    ∙ ap (λ (rs : List (List ℕ)). get_or rs i []) U.replaced
    ∙ get_or-set_same (records s.image e) i ss [] U.there in
    record_read t k i e ss S.0 q (S.1 ∙ new)

-- a sector of a buffer that begins with what was handed over
sector_over : (a : ℕ) (bs buf : List ℕ) → 256 * a + 256 ≤ length bs → part (256 * a) 256 (over bs buf) ≡ part (256 * a) 256 bs
unfolding over part
sector_over a bs buf h =
    let d : drop (256 * a) (bs ++ drop (length bs) buf) ≡ drop (256 * a) bs ++ drop (length bs) buf =
    drop-append-le (256 * a) bs (drop (length bs) buf) (omega arith) in
    ap (take 256) d ∙ take-append-le 256 (drop (256 * a) bs) (drop (length bs) buf) (simp length-drop (omega arith))

pub written_sector_is_read : WrittenSectorIsRead
unfolding file_of
written_sector_is_read s bi caller lun sel num fmt bs b h q j l vs t B caller' lun' sel' num' fmt' buf r ek a ei m =
    let k : ℕ = slot_held s lun in
    let S = sector_still s bi caller lun sel num fmt bs b h q j l vs t.image B in
    let R = accepted_read t caller' lun' sel' num' fmt' buf r in
    let q' : contiguous (entry_of t lun') ≡ true = ap (λ (x : ℕ). contiguous (entry_at t.image x)) ek ∙ contiguous_is (entry_of s lun) (entry_at t.image k) S.0 ∙ q in
    let inside : 256 * a < length R.0 = rw (ap moved R.1.answered) at m in
    let whole : 256 * a + 256 ≤ length R.0 = omega (arith, inside, R.1.how_many q') in
    ap (part (256 * a) 256) R.1.buffer_has
    ∙ sector_over a R.0 buf whole
    ∙ R.1.each_sector q' a inside
    ∙ ap (λ (x : ℕ). unit_at t.image x (aimed t lun' sel' num' + a)) ek
    ∙ ap (unit_at t.image k) ei
    ∙ S.1
