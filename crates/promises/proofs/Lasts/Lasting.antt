-- What was written under a number stays under it, over runs.
use mathlib.Core.Path.{◌≡◌, ap, sym}
use mathlib.Core.Bool.{Bool, true, false, not}
use mathlib.Core.Logic.{⊎_elim}
use mathlib.Core.List.{List, [], ◌∷◌}
use Prim.Native.Nat.{ℕ, ◌<◌, ◌≤◌}
use native.Mathlib.Omega.{arith}
use borrow.Author.Tests.{not-true, eqb-true, leb-true}
use Rattle.lists.specs.Lists.{◌and◌}
use Rattle.lists.proofs.Tests.{and_left, and_right, is_false}
use Rattle.volume.specs.Directory.{entry_at}
use Rattle.files.specs.Files.{extent}
use Rattle.files.proofs.Kept.EntryAlike.{extent_alike}
use Rattle.desk.specs.Desk.{State, file_of, aimed}
use Rattle.desk.specs.Answers.{Outcome, accepts}
use Rattle.desk.specs.Calls.{Call, step, touch, write}
use Rattle.promises.specs.Runs.{next, found, through}
use Rattle.promises.specs.Touches.{ends}
use Rattle.promises.specs.Sectors.{Bytes, File}
use Rattle.promises.specs.Lasting.{Lasting, lasts, Lasts, AppendEndsNone}
use Rattle.promises.specs.Contents.{slot_held}
use Rattle.promises.proofs.Passing.{accepts_it, refused_or_Accepted, accepted}
use Rattle.promises.proofs.Units.{Lasting-image, Lasting-trans, File-after, extent-records}
use Rattle.promises.proofs.Preserved.{Preserves-next, Sound-next}
use Rattle.promises.proofs.Told.{write_told}
use Rattle.promises.proofs.Appending.{Appending, appending}

not_ended : (a b : Bool) → not (a and b) ≡ true → a ≡ true → b ≡ false
unfolding ◌and◌
not_ended a b h p = not-true b (rw p at h)

step_lasts : (c : Call) (s : State) → Bytes s.image → (k i : ℕ) → File s.image k → i < extent s.image (entry_at s.image k)
    → not (accepts (step c s).answer and ends (touch c s) k i) ≡ true → Lasting s.image (step c s).image k i
unfolding next
step_lasts c s b k i f h n =
    ⊎_elim
    (λ t. rw (ap (λ (o : Outcome). o.image) t.is) (Lasting-image s.image k i h))
    (λ a.
    let yes-done : accepts (step c s).answer ≡ true = accepts_it c s a in
    (Preserves-next c s b).units k i f h (not_ended _ _ n yes-done))
    (refused_or_Accepted c s)

pub Lasts-through : Lasts
unfolding lasts through
Lasts-through img h k i f l [] b n = Lasting-image img k i l
Lasts-through img h k i f l (v ∷ vs) b n =
    let s : State = found v img in
    let img' : List ℕ = (step v.call s).image in
    let t = step_lasts v.call s h.is_bytes k i f l (and_left _ _ n) in
    Lasting-trans img img' (through vs img') k i t
    (Lasts-through img' (Sound-next v.call s h b.0) k i
    (File-after img img' k f.used t.same_but_count) (rw (extent_alike (entry_at img k) (entry_at img' k) t.same_but_count img') t.still_there) vs b.1
    (and_right _ _ n))

-- the record that an append touches is the new one, whose number is the record count
pub append_ends_none : AppendEndsNone
unfolding file_of touch ends
append_ends_none s caller lun sel num fmt bs h q k i l =
    let T = write_told caller lun sel num fmt bs s (accepted (write caller lun sel num fmt bs) s h) in
    let A : Appending s lun (aimed s lun sel num) _ = appending caller lun sel num _ s T q in
    is_false _ (λ e.
    let p : slot_held s lun ≡ k = eqb-true _ _ (and_left _ _ (and_left _ _ e)) in
    let m : aimed s lun sel num ≤ i = leb-true _ _ (and_right _ _ (and_left _ _ e)) in
    let x : i < extent s.image (entry_at s.image (slot_held s lun)) = rw (sym p) at l in
    omega (arith, A.at_end, extent-records s.image (entry_at s.image (slot_held s lun)) q))
