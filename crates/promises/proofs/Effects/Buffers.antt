-- What a call leaves of its buffer: a read fills it, and it stays as long; every other call leaves it as it was.
use mathlib.Core.Bool.{Bool}
use mathlib.Core.List.{List}
use mathlib.Core.Logic.{⊎_elim}
use mathlib.Core.Path.{◌≡◌, refl, ap, subst, sym, ◌∙◌}
use native.Mathlib.Omega.{arith}
use Prim.Native.Nat.{ℕ, ◌≤◌}
use lib.ListN.{length, length-append, length-drop}
use Rattle.lists.specs.Parts.{over}
use Rattle.work.specs.Transfers.{moving, writing, updating}
use Rattle.desk.specs.Desk.{State}
use Rattle.desk.specs.Answers.{Outcome}
use Rattle.desk.specs.Calls.{Call, format, check, bring_up, compact, allocate, assign, close, rewind, delete, read, write, update, given, done, quietly, checked, closed_up_to}
use Rattle.desk.specs.Calls.{transferred, step}
use Rattle.promises.specs.Private.{OnlyReadsHandOver}
use Rattle.promises.proofs.Passing.{refused_or_Accepted, accepts_it}
use Rattle.promises.proofs.Reading.{accepted_read}

-- each call leaves it, or is a read
data Buffered (c : Call) (s : State) : Type 0 where
  stays : (done c s).buffer ≡ given c → Buffered c s
  is_read : (caller lun sel num : ℕ) (fmt : Bool) (buf : List ℕ) → c ≡ read caller lun sel num fmt buf → Buffered c s

buffered : (c : Call) (s : State) → Buffered c s
unfolding done given quietly checked closed_up_to transferred writing updating moving
buffered (format id n) s = stays refl
buffered check s = stays refl
buffered bring_up s = stays refl
buffered (compact n) s = stays refl
buffered (allocate caller desc k n l rc) s = stays refl
buffered (assign caller lun desc mode end offered) s = stays refl
buffered (close caller lun) s = stays refl
buffered (rewind caller lun) s = stays refl
buffered (delete caller desc) s = stays refl
buffered (read caller lun sel num fmt buf) s = is_read caller lun sel num fmt buf refl
buffered (write caller lun sel num fmt bs) s = stays refl
buffered (update caller lun sel num fmt bs) s = stays refl

pub buffer_stays : (c : Call) (s : State) → (done c s).buffer ≡ given c → (step c s).buffer ≡ given c
buffer_stays c s h =
    ⊎_elim (λ t. ap (λ (o : Outcome). o.buffer) t.is) (λ a. ap (λ (o : Outcome). o.buffer) a.is ∙ h) (refused_or_Accepted c s)

pub only_reads_hand_over : OnlyReadsHandOver
only_reads_hand_over c s no_read = go (buffered c s)
  where
    go : Buffered c s → (step c s).buffer ≡ given c
    go (stays e) = buffer_stays c s e
    go (is_read caller lun sel num fmt buf e) = absurd (no_read caller lun sel num fmt buf e)

-- its length
over_long : (bs buf : List ℕ) → length bs ≤ length buf → length (over bs buf) ≡ length buf
unfolding over
over_long bs buf h = simp (length-append, length-drop) (omega arith)

read_long : (s : State) (caller lun sel num : ℕ) (fmt : Bool) (buf : List ℕ)
    → length (step (read caller lun sel num fmt buf) s).buffer ≡ length (given (read caller lun sel num fmt buf))
unfolding given
read_long s caller lun sel num fmt buf =
    ⊎_elim
    (λ t. ap (λ (o : Outcome). length o.buffer) t.is)
    (λ a.
    let t = accepted_read s caller lun sel num fmt buf (accepts_it _ s a) in
    ap length t.1.buffer_has ∙ over_long t.0 buf t.1.room)
    (refused_or_Accepted (read caller lun sel num fmt buf) s)

pub buffer_long : (c : Call) (s : State) → length (step c s).buffer ≡ length (given c)
buffer_long c s = go (buffered c s)
  where
    go : Buffered c s → length (step c s).buffer ≡ length (given c)
    go (stays e) = ap length (buffer_stays c s e)
    go (is_read caller lun sel num fmt buf e) =
        subst (λ (x : Call). length (step x s).buffer ≡ length (given x)) (sym e) (read_long s caller lun sel num fmt buf)
