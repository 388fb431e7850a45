-- What a call does not rewrite holds what it held, wherever it lies then: the two calls that may change more than a file's bytes, and then
-- every call.
use mathlib.Core.Path.{◌≡◌, ap}
use mathlib.Core.List.{List}
use mathlib.Core.Logic.{⊎_elim}
use Prim.Native.Nat.{ℕ}
use Rattle.volume.proofs.EntryCounted.{alike_entry}
use Rattle.moves.proofs.Rearranged.{entry_same}
use Rattle.compaction.proofs.StepsRearrange.{compacted-Rearranged}
use Rattle.desk.specs.Desk.{State}
use Rattle.desk.specs.Answers.{Outcome}
use Rattle.desk.specs.Calls.{Call, format, check, bring_up, compact, allocate, assign, close, rewind, delete, read, write, update, done, closed_up_to, touch, step}
use Rattle.promises.specs.Contents.{SameFile, ContentsStay, ContentsKept}
use Rattle.promises.specs.Sectors.{File}
use Rattle.promises.specs.Touches.{changes, rewrites}
use Rattle.promises.proofs.Effects.ClosedVolumes.{contents_stay}
use Rattle.promises.proofs.Effects.BroughtUp.{accepted_bring_up}
use Rattle.promises.proofs.Held.{ready_sound}
use Rattle.promises.proofs.Passing.{accepts_it, refused_or_Accepted}
use Rattle.promises.proofs.Preserved.{other_files_kept}
use Rattle.promises.proofs.Told.{compact_told}
use Rattle.promises.proofs.Units.{same_file}

-- the same file holds what it held
stays_same : (v v' : List ℕ) (k : ℕ) → SameFile v v' k → ContentsStay v v' k
stays_same v v' k S = record { same_but_count = alike_entry _ _ S.entry_same; contents_same = rw S.entry_same S.contents_same }

refused_stays : (c : Call) (s : State) (k : ℕ) → (step c s).image ≡ s.image → ContentsStay s.image (step c s).image k
refused_stays c s k e = rw e (stays_same s.image s.image k (same_file s.image k))

bring_up_stays : (s : State) (k : ℕ) → File s.image k → ContentsStay s.image (step bring_up s).image k
bring_up_stays s k f =
    ⊎_elim
    (λ t. refused_stays bring_up s k (ap (λ (o : Outcome). o.image) t.is))
    (λ a. let U = accepted_bring_up s (accepts_it bring_up s a) in record { same_but_count = U.entries_same k; contents_same = (U.files_same k f).0 })
    (refused_or_Accepted bring_up s)

compact_stays : (n : ℕ) (s : State) (k : ℕ) → File s.image k → ContentsStay s.image (step (compact n) s).image k
unfolding done closed_up_to
compact_stays n s k f =
    ⊎_elim
    (λ t. refused_stays (compact n) s k (ap (λ (o : Outcome). o.image) t.is))
    (λ a.
    let R = compacted-Rearranged n s.image (ready_sound s (compact_told n s a).is_ready) in
    let e = entry_same s.image _ R k in
    rw a.is (record { same_but_count = alike_entry _ _ e; contents_same = rw e (contents_stay s.image _ R k f) }))
    (refused_or_Accepted (compact n) s)

-- every other call rewrites what it may change
pub contents_kept : ContentsKept
unfolding touch rewrites changes
contents_kept s b bring_up k f h = bring_up_stays s k f
contents_kept s b (compact n) k f h = compact_stays n s k f
contents_kept s b (format id n) k f h = stays_same _ _ k (other_files_kept s b (format id n) k f h)
contents_kept s b check k f h = stays_same _ _ k (other_files_kept s b check k f h)
contents_kept s b (allocate caller desc i n l rc) k f h = stays_same _ _ k (other_files_kept s b (allocate caller desc i n l rc) k f h)
contents_kept s b (assign caller lun desc mode end offered) k f h = stays_same _ _ k (other_files_kept s b (assign caller lun desc mode end offered) k f h)
contents_kept s b (close caller lun) k f h = stays_same _ _ k (other_files_kept s b (close caller lun) k f h)
contents_kept s b (rewind caller lun) k f h = stays_same _ _ k (other_files_kept s b (rewind caller lun) k f h)
contents_kept s b (delete caller desc) k f h = stays_same _ _ k (other_files_kept s b (delete caller desc) k f h)
contents_kept s b (read caller lun sel num fmt buf) k f h = stays_same _ _ k (other_files_kept s b (read caller lun sel num fmt buf) k f h)
contents_kept s b (write caller lun sel num fmt bs) k f h = stays_same _ _ k (other_files_kept s b (write caller lun sel num fmt bs) k f h)
contents_kept s b (update caller lun sel num fmt bs) k f h = stays_same _ _ k (other_files_kept s b (update caller lun sel num fmt bs) k f h)
