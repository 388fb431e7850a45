-- The one table over the calls: an accepted call keeps a good state good and touches no more than it says. What follows of any call, and
-- over runs.
use mathlib.Core.List.{List, [], ◌∷◌}
use mathlib.Core.Bool.{false}
use mathlib.Core.Logic.{⊎_elim}
use mathlib.Core.Path.{◌≡◌, refl, sym}
use Prim.Native.Nat.{ℕ}
use borrow.Author.Tests.{ne_eqb}
use Rattle.lists.specs.Parts.{sectors}
use Rattle.desk.specs.Desk.{State}
use Rattle.desk.specs.Calls.{Touch, Call, format, check, bring_up, compact, allocate, assign, close, rewind, delete, read, write, update, quietly, transferred, checked}
use Rattle.desk.specs.Calls.{closed_up_to, done, sent, touch}
use Rattle.desk.specs.Calls.{step}
use Rattle.promises.specs.Sectors.{Good, Sound, Accepts, Bytes, AllBytes, VisitBytes, StaysGood, StaysSound}
use Rattle.promises.specs.Runs.{next, run, Visit, found, through, visits, RunsAreVisits}
use Rattle.promises.specs.Contents.{OtherFilesKept, OthersKept, FrameKept, slot_held}
use Rattle.promises.specs.Answers.{NoFormat}
use Rattle.promises.specs.Touches.{changes}
use Rattle.promises.proofs.Preserving.{remakes, Preserves, Preserves-Desk}
use Rattle.promises.proofs.Passing.{Accepted, accepted, carried_to, refused_or_Accepted, next_refused, next-Accepted}
use Rattle.promises.proofs.Told.{format_told, compact_told, allocate_told, assign_told, rewind_told, delete_told, read_told, write_told, update_told}
use Rattle.promises.proofs.Filing.{Preserves-format, Preserves-allocate, Preserves-delete, Good-formatted}
use Rattle.promises.proofs.Effects.BroughtUp.{bring_up_told, Preserves-bring_up}
use Rattle.promises.proofs.Effects.ClosedVolumes.{Preserves-Rearranged}
use Rattle.promises.proofs.Held.{ready_sound}
use Rattle.compaction.proofs.StepsRearrange.{compacted-Rearranged}
use Rattle.promises.proofs.Seating.{Preserves-assign, Preserves-close, Preserves-rewind}
use Rattle.promises.proofs.Reading.{Preserves-read}
use Rattle.promises.proofs.Writing.{Preserves-write}
use Rattle.promises.proofs.Updating.{Preserves-update}
use Rattle.promises.proofs.Names.{id_Bytes}
use Rattle.promises.proofs.Sectors.{in_order}

-- a call that leaves the state as it was
Preserves-all : (bs : List ℕ) (w : Touch) (s : State) → Preserves bs w s s
Preserves-all bs w s = Preserves-Desk bs w s s.desk (λ g. g)

preserved : (c : Call) (s : State) → Bytes s.image → Accepted c s → Preserves (sent c) (touch c s) s (carried_to c s)
unfolding sent touch done quietly checked closed_up_to transferred
preserved (format id n) s b a = Preserves-format id n s (format_told id n s a)
preserved check s b a = Preserves-all _ _ s
preserved bring_up s b a = Preserves-bring_up s (bring_up_told s a) []
preserved (compact n) s b a =
    let h = ready_sound s (compact_told n s a).is_ready in
    Preserves-Rearranged [] s _ (compacted-Rearranged n s.image h) h
preserved (allocate caller desc k n l rc) s b a = Preserves-allocate caller desc k n l rc s (allocate_told caller desc k n l rc s a) b
preserved (assign caller lun desc mode end offered) s b a = Preserves-assign caller lun desc mode end offered s (assign_told caller lun desc mode end offered s a)
preserved (close caller lun) s b a = Preserves-close [] lun s
preserved (rewind caller lun) s b a = Preserves-rewind [] caller lun s (rewind_told caller lun s a)
preserved (delete caller desc) s b a = Preserves-delete caller desc s (delete_told caller desc s a) b
preserved (read caller lun sel num fmt buf) s b a = Preserves-read caller lun sel num fmt buf s (read_told caller lun sel num fmt buf s a) []
preserved (write caller lun sel num fmt bs) s b a = Preserves-write caller lun sel num fmt bs s (write_told caller lun sel num fmt bs s a) b
preserved (update caller lun sel num fmt bs) s b a = Preserves-update caller lun sel num fmt bs s b (update_told caller lun sel num fmt bs s a)

-- any call, refused or accepted
pub Preserves-next : (c : Call) (s : State) → Bytes s.image → Preserves (sent c) (touch c s) s (next c s)
Preserves-next c s b =
    ⊎_elim
    (λ t. rw (next_refused c s t) (Preserves-all (sent c) (touch c s) s))
    (λ a. rw (next-Accepted c s a) (preserved c s b a))
    (refused_or_Accepted c s)

pub other_files_kept : OtherFilesKept
unfolding next
other_files_kept s b c k f h = (Preserves-next c s b).others k f h

pub others_kept : OthersKept
unfolding touch changes
others_kept s b caller lun sel num fmt bs k f n =
    let h = ne_eqb (slot_held s lun) k (λ p. n (sym p)) in
    (other_files_kept s b (write caller lun sel num fmt bs) k f h, other_files_kept s b (update caller lun sel num fmt bs) k f h)

-- only format touches everything
touches_less : (c : Call) (s : State) → NoFormat c → remakes (touch c s) ≡ false
unfolding touch remakes
touches_less (format id n) s h = absurd (h id n refl)
touches_less check s h = refl
touches_less bring_up s h = refl
touches_less (compact n) s h = refl
touches_less (allocate caller desc k n l rc) s h = refl
touches_less (assign caller lun desc mode end offered) s h = refl
touches_less (close caller lun) s h = refl
touches_less (rewind caller lun) s h = refl
touches_less (delete caller desc) s h = refl
touches_less (read caller lun sel num fmt buf) s h = refl
touches_less (write caller lun sel num fmt bs) s h = refl
touches_less (update caller lun sel num fmt bs) s h = refl

pub frame_kept : FrameKept
unfolding next
frame_kept s b c n = (Preserves-next c s b).frame (touches_less c s n)

-- a sound volume with any desk, and a good state
pub Sound-next : (c : Call) (s : State) → Sound s.image → Bytes (sent c) → Sound (step c s).image
unfolding next
Sound-next c s h b = (Preserves-next c s h.is_bytes).sound_after b h

pub Good-next : (c : Call) (s : State) → Good s → Bytes (sent c) → Good (next c s)
Good-next c s g b = (Preserves-next c s g.volume.is_bytes).good_after b g

-- over visits, and over runs
pub Sound-through : (vs : List Visit) (img : List ℕ) → Sound img → VisitBytes vs → Sound (through vs img)
unfolding through
Sound-through [] img h b = h
Sound-through (v ∷ vs) img h b = Sound-through vs _ (Sound-next v.call (found v img) h b.0) b.1

pub Good-run : (cs : List Call) (s : State) → Good s → AllBytes cs → Good (run cs s)
unfolding run
Good-run [] s g b = g
Good-run (c ∷ cs) s g b = Good-run cs (next c s) (Good-next c s g b.0) b.1

-- an accepted format leaves a good state, whatever was there
pub Good-format : (s : State) (id : List ℕ) (n : ℕ) → Accepts (format id n) s → Good (next (format id n) s)
unfolding done quietly
Good-format s id n h =
    let a = accepted (format id n) s h in
    let T = format_told id n s a in
    rw (next-Accepted (format id n) s a) (Good-formatted id n (sectors s.image) T.good_id T.in_range (id_Bytes id T.good_id))

pub stays_good : StaysGood
stays_good s id n h cs b =
    let g : Good (run cs (next (format id n) s)) = Good-run cs (next (format id n) s) (Good-format s id n h) b in
    (g, in_order _ g.volume.is_sound)

pub stays_sound : StaysSound
unfolding next
stays_sound s id n h vs b =
    let g : Sound (through vs (step (format id n) s).image) = Sound-through vs _ (Good-format s id n h).volume b in
    (g, in_order _ g.is_sound)

pub runs_are_visits : RunsAreVisits
unfolding run visits through next
runs_are_visits [] s = refl
runs_are_visits (c ∷ cs) s = runs_are_visits cs (next c s)
